-- A trace with one more event.
use Rattle.std.proofs.Common.{inl, inr, ◌≡◌, ◌⊎◌, ◌∙◌, List, [], ◌∷◌, ◌++◌, drop, get_or, refl, sym, ap, subst}
use Rattle.iss_loops.specs.Behavior.{Behavior}
use Rattle.iss_loops.specs.Traces.{IsNext, IsTrace}
use Rattle.iss_request.specs.declared.setups.Setup.{Setup}
use Rattle.iss_schedule.specs.Events.{AreInRange, IsInRange}
use Rattle.iss_schedule.specs.declared.schedules.Event.{Event}

head-is : (x y : Event) (xs ys : List Event) → x ∷ xs ≡ y ∷ ys → x ≡ y
head-is x y xs ys q = ap (λ (zs : List Event). get_or zs 0 x) q

tail-is : (x y : Event) (xs ys : List Event) → x ∷ xs ≡ y ∷ ys → xs ≡ ys
tail-is x y xs ys q = ap (λ (zs : List Event). drop 1 zs) q

no-more : (xs ys : List Event) (y : Event) → [] ≡ xs ++ y ∷ ys → ⊥
no-more [] ys y q = absurd (cc)
no-more (x ∷ xs) ys y q = absurd (cc)

-- an event of a list with one more is that one, or one of the list
abbrev IsLastOr : List Event → Event → List Event → Event → Type 0
IsLastOr events e before x = ((before ≡ events) × (x ≡ e)) ⊎ ((later : List Event) × (events ≡ before ++ x ∷ later))

last-or : (events : List Event) (e : Event) (before later : List Event) (x : Event) → events ++ e ∷ [] ≡ before ++ x ∷ later → IsLastOr events e before x
last-or [] e [] later x q = inl (refl, sym (head-is e x [] later q))
last-or [] e (b ∷ before) later x q = absurd (no-more before later x (tail-is e b [] (before ++ x ∷ later) q))
last-or (y ∷ events) e [] later x q = inr (events, ap (λ z. z ∷ events) (head-is y x (events ++ e ∷ []) later q))
last-or (y ∷ events) e (b ∷ before) later x q =
    further (head-is y b (events ++ e ∷ []) (before ++ x ∷ later) q) (last-or events e before later x (tail-is y b (events ++ e ∷ []) (before ++ x ∷ later) q))
  where
    further : y ≡ b → IsLastOr events e before x → IsLastOr (y ∷ events) e (b ∷ before) x
    further r (inl last) = inl (ap (λ z. z ∷ before) (sym r) ∙ ap (λ zs. y ∷ zs) last.0, last.1)
    further r (inr (rest, k)) = inr (rest, ap (λ zs. y ∷ zs) k ∙ ap (λ z. z ∷ (before ++ x ∷ rest)) r)

pub trace-begins : (B : Behavior) → IsTrace B []
trace-begins B before later e q = absurd (no-more before later e q)

pub trace-more : (B : Behavior) (events : List Event) (e : Event) → IsTrace B events → IsNext B events e → IsTrace B (events ++ e ∷ [])
trace-more B events e trace next before later x q = go (last-or events e before later x q)
  where
    go : IsLastOr events e before x → IsNext B before x
    go (inl last) =
        subst (λ (es : List Event). IsNext B es x) (sym last.0) (subst (λ (y : Event). IsNext B events y) (sym last.1) next)
    go (inr (rest, k)) = trace before rest x k

each-in-range : (s : Setup) (events : List Event) → ((before later : List Event) (e : Event) → events ≡ before ++ e ∷ later → IsInRange s e) → AreInRange s events
each-in-range s [] h = tt
each-in-range s (e ∷ events) h = (h [] events e refl, each-in-range s events (λ before later x q. h (e ∷ before) later x (ap (λ zs. e ∷ zs) q)))

pub trace-in-range : (B : Behavior) (events : List Event) → IsTrace B events → AreInRange B.setup events
trace-in-range B events trace = each-in-range B.setup events (λ before later e q. (trace before later e q).range)
