use Rattle.std.proofs.Common.{◌≡◌, ◌++◌, ◌∷◌, ◌∙◌, [], List, ℕ, ap, decimal, rules}
use Rattle.std.proofs.lemmas.Result.{on_ok_weaker}
use Rattle.iss_schedule.specs.Words.{word_of}
use Rattle.iss_answers.specs.Lines.{id_word, reply_name}
use Rattle.iss_answers.proofs.LineLemmas.{reply-put}
use Rattle.iss_answers.proofs.writing.put_reply.Goals as goal

pub returns : goal.returns
returns c =
    let r = c.args.reply.now in
    let name : c.put.new.out.items ≡ c.args.out.now.items ++ reply_name = search rules in
    let by : c.put_number.new.out.items ≡ c.put.new.out.items ++ 32 ∷ decimal r.by.0 = search rules in
    let epoch : c.put_number-2.new.out.items ≡ c.put_number.new.out.items ++ 32 ∷ decimal r.epoch.0 = search rules in
    let q : c.put_number-3.new.out.items ≡ c.put_number-2.new.out.items ++ 32 ∷ decimal r.q = search rules in
    let space : c.put-2.new.out.items ≡ c.put_number-3.new.out.items ++ 32 ∷ [] = search rules in
    let id : c.put_id.new.out.items ≡ c.put-2.new.out.items ++ id_word r.id = search rules in
    let answer : c.put_bytes.new.out.items ≡ c.put_id.new.out.items ++ 32 ∷ word_of r.answer =
    c.in_ok-put_bytes.ensures ∙ ap (λ (l : List ℕ). c.put_id.new.out.items ++ 32 ∷ word_of l) c.as_slice.ensures in
    let sig : c.put_bytes-2.new.out.items ≡ c.put_bytes.new.out.items ++ 32 ∷ word_of r.sig =
    c.in_ok-put_bytes-2.ensures ∙ ap (λ (l : List ℕ). c.put_bytes.new.out.items ++ 32 ∷ word_of l) c.as_slice-2.ensures in
    on_ok_weaker c.put-3.result
    (λ e. e ∙ ap (λ (l : List ℕ). l ++ 10 ∷ []) (reply-put r c.args.out.now.items _ _ _ _ _ _ _ _ name by epoch q space id answer sig))
    c.put-3.ensures
