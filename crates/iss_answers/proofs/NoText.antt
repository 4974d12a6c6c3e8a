-- A text with a bad line is the text of no replies.
use Rattle.std.proofs.Common.{◌≡◌, ◌⊎◌, inl, inr, ℕ, ◌+◌, ◌≤◌, List, [], ◌∷◌, ◌++◌, length, length-append, map, append_assoc, append-nil, sym, ap, ◌∙◌, subst, arith}
use Rattle.std.proofs.lemmas.List.{length-map}
use Rattle.std.specs.List.{AllByRecursion}
use Rattle.iss_reply.specs.declared.replies.Reply.{Reply}
use Rattle.iss_schedule.specs.Words.{ended}
use Rattle.iss_schedule.specs.Schedules.{most_events}
use Rattle.iss_schedule.specs.declared.errors.LineFault.{LineFault}
use Rattle.iss_schedule.specs.declared.errors.LineFault.TheVariants.{Cut, Form, Faulty, Injected, Range, Size}
use Rattle.iss_schedule.proofs.BadLines.LinesHaveTheirForm.{AreWhole, Left, Meets, Right, Same, meets}
use Rattle.iss_texts.specs.Bodies.{last_line}
use Rattle.iss_texts.proofs.BodyLemmas.{NoneLast, first-is, good-behind, good-next, has-last, not-inner, rest-is}
use Rattle.iss_texts.proofs.HeaderLemmas.{first-whole, good-header, same-header}
use Rattle.iss_answers.specs.Lines.{IsFormed, IsInRange, reply_line}
use Rattle.iss_answers.specs.Refusals.{IsBadAfter, IsBadAfterHeader, IsBadInside, IsBadText, IsFault}
use Rattle.iss_answers.specs.Texts.{IsTold, body_lines}
use Rattle.iss_answers.specs.declared.told.Told.{Told}
use Rattle.iss_answers.proofs.LineLemmas.{line-formed}
use Rattle.iss_answers.proofs.OneText.{none-last, whole-body, whole-replies}

-- the line is the last one, or a reply's
abbrev MayStand : List ℕ → Type 0
MayStand line = (line ≡ last_line) ⊎ ((r : Reply) × (IsInRange r × (line ≡ reply_line r)))

stands : (rs : List Reply) (xs : List (List ℕ)) (m : List ℕ) (ms : List (List ℕ)) → AllByRecursion IsInRange rs → body_lines rs ≡ xs ++ m ∷ ms → MayStand m
stands [] [] m ms all e = inl (sym (first-is _ _ _ _ e))
stands [] (x ∷ xs) m ms all e =
    let none : [] ≡ xs ++ m ∷ ms = rest-is _ _ _ _ e in absurd (omega (arith, ap length none, length-append xs (m ∷ ms)))
stands (r ∷ rs) [] m ms all e = inr (r, (all.0, sym (first-is _ _ _ _ e)))
stands (r ∷ rs) (x ∷ xs) m ms all e = stands rs xs m ms all.1 (rest-is _ _ _ _ e)

no-fault : (m : List ℕ) (why : LineFault) → MayStand m → IsFault m why → ⊥
no-fault m Form (inl is) h = h.0 is
no-fault m Form (inr h) bad = bad.1 (subst IsFormed (sym h.1.1) (line-formed h.0 h.1.0))
no-fault m Range (inl is) h = h.0 is
no-fault m Range (inr h) bad = bad.2 h.0 h.1.0 h.1.1
no-fault m Cut may h = h
no-fault m Faulty may h = h
no-fault m Injected may h = h
no-fault m Size may h = h

bad-inside : (rs : List Reply) (line : ℕ) (why : LineFault) → AllByRecursion IsInRange rs → length (body_lines rs) ≤ most_events → IsBadInside (ended (body_lines rs)) line why → ⊥
bad-inside rs line why all few bad =
    go (meets (map reply_line bad.before) (body_lines rs) bad.rest [] (whole-replies bad.before bad.range) (whole-body rs all) (sym bad.text ∙ sym (append-nil (ended (body_lines rs)))))
  where
    go : Meets (map reply_line bad.before) (body_lines rs) bad.rest [] → ⊥
    go (Same e f) = has-last (map reply_line rs) [] (subst NoneLast e (none-last bad.before))
    go (Right m ms e f) =
        has-last (map reply_line rs) (m ∷ ms) (subst NoneLast (e ∙ append_assoc (map reply_line rs) (last_line ∷ []) (m ∷ ms)) (none-last bad.before))
    go (Left m ms e f) =
        let long : length (map reply_line bad.before) ≡ length bad.before = length-map bad.before reply_line in
        good-next (length bad.before) (length (body_lines rs)) IsFault m (ended ms ++ []) bad.rest why few
        (omega (arith, ap length e, length-append (map reply_line bad.before) (m ∷ ms), long))
        (first-whole (map reply_line bad.before) m ms (subst AreWhole e (whole-body rs all)))
        (λ w. no-fault m w (stands rs (map reply_line bad.before) m ms all e))
        (f ∙ append_assoc m (10 ∷ ended ms) []) bad.bad

bad-after : (rs : List Reply) (line : ℕ) (why : LineFault) → AllByRecursion IsInRange rs → IsBadAfter (ended (body_lines rs)) line why → ⊥
bad-after rs line why all bad =
    go (meets (body_lines bad.replies) (body_lines rs) bad.rest [] (whole-body bad.replies bad.range) (whole-body rs all) (sym bad.text ∙ sym (append-nil (ended (body_lines rs)))))
  where
    go : Meets (body_lines bad.replies) (body_lines rs) bad.rest [] → ⊥
    go (Same e f) = good-behind bad.rest why f bad.bad
    go (Left m ms e f) = not-inner (map reply_line rs) (map reply_line bad.replies) m ms (none-last rs) e
    go (Right m ms e f) = not-inner (map reply_line bad.replies) (map reply_line rs) m ms (none-last bad.replies) e

bad-body : (bytes : List ℕ) (t : Told) (line : ℕ) (why : LineFault) → IsTold bytes t → IsBadAfterHeader bytes line why → ⊥
bad-body bytes t line why is bad = go bad.bad
  where
    same : (bad.setup ≡ t.setup) × (bad.body ≡ ended (body_lines t.replies))
    same = same-header bad.setup t.setup bad.body (ended (body_lines t.replies)) bad.known is.setup (sym bad.text ∙ is.text)

    go : IsBadInside bad.body line why ⊎ IsBadAfter bad.body line why → ⊥
    go (inl h) = bad-inside t.replies line why is.range is.few (subst (λ (b : List ℕ). IsBadInside b line why) same.1 h)
    go (inr h) = bad-after t.replies line why is.range (subst (λ (b : List ℕ). IsBadAfter b line why) same.1 h)

pub no-text : (bytes : List ℕ) (line : ℕ) (why : LineFault) (t : Told) → IsBadText bytes line why → IsTold bytes t → ⊥
no-text bytes line why t (inl h) is = good-header bytes t.setup (ended (body_lines t.replies)) line why is.setup is.text is.short h.0 h.1
no-text bytes line why t (inr h) is = bad-body bytes t line why is h
