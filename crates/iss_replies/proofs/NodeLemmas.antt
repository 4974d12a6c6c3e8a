-- The lines of the replies of the first nodes.
use Rattle.std.proofs.Common.{◌≡◌, ℕ, suc, ◌<◌, ◌+◌, Bool, true, false, cond, List, [], ◌∷◌, ◌++◌, map, append-nil, append_assoc, Result, Ok, Err, sym, ap, ◌∙◌, arith}
use Rattle.std.specs.Prelude.{OnOk, reverse}
use Rattle.std.proofs.lemmas.List.{map-append, reverse-reverse}
use Rattle.iss_request.specs.declared.errors.NoMemory.{NoMemory}
use Rattle.iss_request.specs.declared.requests.Value.{Value}
use Rattle.iss_request.specs.declared.setups.Setup.{Setup}
use Rattle.iss_schedule.specs.Schedules.{header_lines}
use Rattle.iss_schedule.specs.Words.{ended}
use Rattle.iss_schedule.proofs.BadLines.PrefixesAreRead.{ended-append}
use Rattle.iss_sb.specs.Evidence.{Module, is_correct}
use Rattle.iss_model.specs.Run.{Held, node_of}
use Rattle.iss_model.proofs.Twins.{node-is}
use Rattle.iss_rules.specs.Concrete.{rules_of}
use Rattle.iss_rules.specs.Past.{log_of}
use Rattle.iss_theorems.specs.Headline.{shown}
use Rattle.iss_reply.specs.Replies.{replies_to, replying}
use Rattle.iss_reply.specs.declared.replies.Reply.{Reply}
use Rattle.iss_texts.specs.Bodies.{last_line}
use Rattle.iss_answers.specs.Lines.{reply_line}
use Rattle.iss_answers.specs.Texts.{replies_text}
use Rattle.iss_believed.specs.Believed.{made_by, replies_of_nodes}

abbrev pub lines_of_nodes : Setup → (ℕ → List Value) → ℕ → List ℕ
lines_of_nodes s logs n = ended (map reply_line (replies_of_nodes s logs n))

pub nodes-next : (s : Setup) (logs : ℕ → List Value) (start old new : List ℕ) (n : ℕ) → old ≡ start ++ lines_of_nodes s logs n → new ≡ old ++ ended (map reply_line (made_by s logs n)) → new ≡ start ++ lines_of_nodes s logs (n + 1)
nodes-next s logs start old new n is more =
    let rs = replies_of_nodes s logs n in
    let lines : lines_of_nodes s logs (suc n) ≡ lines_of_nodes s logs n ++ ended (map reply_line (made_by s logs n)) =
    ap ended (map-append reply_line rs (made_by s logs n)) ∙ ended-append (map reply_line rs) (map reply_line (made_by s logs n)) in
    let one : suc n ≡ n + 1 = omega arith in
    more ∙ ap (λ (o : List ℕ). o ++ ended (map reply_line (made_by s logs n))) is
    ∙ append_assoc start (lines_of_nodes s logs n) (ended (map reply_line (made_by s logs n)))
    ∙ ap (λ (l : List ℕ). start ++ l) (sym lines) ∙ ap (λ (k : ℕ). start ++ lines_of_nodes s logs k) one

pub none-made : (s : Setup) (logs : ℕ → List Value) (i : ℕ) (out : List ℕ) → is_correct s i ≡ false → out ≡ out ++ ended (map reply_line (made_by s logs i))
none-made s logs i out isnt =
    sym (ap (λ (b : Bool). out ++ ended (map reply_line (cond b (replies_to (replying s i) (logs i)) []))) isnt ∙ append-nil out)

pub all-made : (s : Setup) (logs : ℕ → List Value) (i : ℕ) (log : List Value) (out new : List ℕ) → is_correct s i ≡ true → log ≡ logs i → new ≡ out ++ ended (map reply_line (replies_to (replying s i) log)) → new ≡ out ++ ended (map reply_line (made_by s logs i))
all-made s logs i log out new right same is =
    is ∙ ap (λ (l : List Value). out ++ ended (map reply_line (replies_to (replying s i) l))) same
    ∙ sym (ap (λ (b : Bool). out ++ ended (map reply_line (cond b (replies_to (replying s i) (logs i)) []))) right)

-- the log of a node's first core, as it is shown
pub same-log : {Msg : Type 0} (s : Setup) (m : Module Msg) (h : Held Msg) (i : ℕ) (entries : List Value) → i < s.n → log_of (rules_of s) m (node_of s i) (h.net.cores i).past ≡ reverse entries → entries ≡ shown s m h i
same-log s m h i entries lt is =
    sym (reverse-reverse entries) ∙ ap (λ (l : List Value). reverse l) (sym is)
    ∙ ap (λ (k : ℕ). reverse (log_of (rules_of s) m k (h.net.cores i).past)) (node-is s i lt)

-- the header, the replies and the last line are the whole text
pub text-whole : (s : Setup) (rs : List Reply) (head body all : List ℕ) → head ≡ ended (header_lines s) → body ≡ head ++ ended (map reply_line rs) → all ≡ body ++ last_line ++ 10 ∷ [] → all ≡ replies_text s rs
text-whole s rs head body all h b a =
    a ∙ append_assoc body last_line (10 ∷ [])
    ∙ ap (λ (l : List ℕ). l ++ ended (last_line ∷ [])) (b ∙ ap (λ (l : List ℕ). l ++ ended (map reply_line rs)) h)
    ∙ append_assoc (ended (header_lines s)) (ended (map reply_line rs)) (ended (last_line ∷ []))
    ∙ ap (λ (l : List ℕ). ended (header_lines s) ++ l) (sym (ended-append (map reply_line rs) (last_line ∷ [])))

-- what holds where a call succeeds, from what its contract says there
pub where-written : (r : Result (Unit {0}) NoMemory) (P Q : Type 0) → OnOk r P → (P → Q) → OnOk r Q
where-written (Ok u) P Q h f = f h
where-written (Err e) P Q h f = h
