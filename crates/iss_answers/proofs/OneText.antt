-- A text is that of at most one list of replies.
use Rattle.std.proofs.Common.{◌≡◌, ℕ, List, [], ◌∷◌, map, append-nil, refl, sym, ap₂, ◌∙◌}
use Rattle.std.proofs.lemmas.List.{append_cancel_right}
use Rattle.std.specs.List.{AllByRecursion}
use Rattle.iss_request.specs.declared.setups.Setup.{Setup}
use Rattle.iss_reply.specs.declared.replies.Reply.{Reply}
use Rattle.iss_schedule.specs.Words.{ended}
use Rattle.iss_schedule.proofs.BadLines.LinesHaveTheirForm.{AreWhole, meets, whole_append}
use Rattle.iss_schedule.proofs.Encoding.NoSeparatorInWords.{lacks_by_test}
use Rattle.iss_schedule.proofs.OneScheduleAText.{same_lines}
use Rattle.iss_texts.specs.Bodies.{last_line}
use Rattle.iss_texts.proofs.BodyLemmas.{NoneLast}
use Rattle.iss_texts.proofs.HeaderLemmas.{same-header}
use Rattle.iss_answers.specs.Lines.{IsInRange, reply_line}
use Rattle.iss_answers.specs.Texts.{IsTold, body_lines}
use Rattle.iss_answers.specs.declared.told.Told.{Told}
use Rattle.iss_answers.proofs.LineLemmas.{not-last, same-reply, whole-line}

pub whole-replies : (rs : List Reply) → AllByRecursion IsInRange rs → AreWhole (map reply_line rs)
whole-replies [] all = tt
whole-replies (r ∷ rs) all = (whole-line r all.0, whole-replies rs all.1)

pub whole-body : (rs : List Reply) → AllByRecursion IsInRange rs → AreWhole (body_lines rs)
whole-body rs all = whole_append (map reply_line rs) (last_line ∷ []) (whole-replies rs all) (lacks_by_test 10 last_line refl, tt)

pub none-last : (rs : List Reply) → NoneLast (map reply_line rs)
none-last [] = tt
none-last (r ∷ rs) = (not-last r, none-last rs)

same-replies : (rs us : List Reply) → AllByRecursion IsInRange rs → AllByRecursion IsInRange us → map reply_line rs ≡ map reply_line us → rs ≡ us
same-replies [] [] h k e = refl
same-replies [] (u ∷ us) h k e = let two : [] ≡ reply_line u ∷ map reply_line us = e in cc
same-replies (r ∷ rs) [] h k e = let two : reply_line r ∷ map reply_line rs ≡ [] = e in cc
same-replies (r ∷ rs) (u ∷ us) h k e =
    let both : reply_line r ∷ map reply_line rs ≡ reply_line u ∷ map reply_line us = e in
    let heads : reply_line r ≡ reply_line u = cc in
    let tails : map reply_line rs ≡ map reply_line us = cc in
    ap₂ (λ (z : Reply) (zs : List Reply). z ∷ zs) (same-reply r u h.0 k.0 heads) (same-replies rs us h.1 k.1 tails)

pub one-text : (bytes : List ℕ) (t u : Told) → IsTold bytes t → IsTold bytes u → t ≡ u
one-text bytes t u h k =
    let both = same-header t.setup u.setup (ended (body_lines t.replies)) (ended (body_lines u.replies)) h.setup k.setup (sym h.text ∙ k.text) in
    let lines : body_lines t.replies ≡ body_lines u.replies =
    same_lines (body_lines t.replies) (body_lines u.replies)
    (meets (body_lines t.replies) (body_lines u.replies) [] [] (whole-body t.replies h.range) (whole-body u.replies k.range)
    (append-nil (ended (body_lines t.replies)) ∙ both.1 ∙ sym (append-nil (ended (body_lines u.replies))))) in
    let replies = same-replies t.replies u.replies h.range k.range (append_cancel_right (map reply_line t.replies) (map reply_line u.replies) (last_line ∷ []) lines) in
    made t u both.0 replies
  where
    made : (t u : Told) → t.setup ≡ u.setup → t.replies ≡ u.replies → t ≡ u
    made t u p q = ap₂ (λ (s : Setup) (rs : List Reply). (let z : Told = record { setup = s; replies = rs } in z)) p q
