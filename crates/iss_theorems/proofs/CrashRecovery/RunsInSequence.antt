-- Failure-free runs in sequence, and runs with disks that have stopped.
use Rattle.std.proofs.Common.{◌≡◌, ◌⊎◌, inl, inr, ℕ, List, [], ◌∷◌, ◌++◌, Option, Some, None, refl, sym, ap, ◌∙◌, subst}
use Rattle.iss_base.specs.Lists.{In}
use Rattle.iss_request.specs.declared.ids.ReqId.{ReqId}
use Rattle.iss_request.specs.declared.setups.Setup.{Setup}
use Rattle.iss_schedule.specs.declared.schedules.Event.{Event}
use Rattle.iss_sb.specs.Evidence.{Module}
use Rattle.iss_theorems.specs.Conserved.{WasAsked, asked_in}
use Rattle.iss_rules.specs.declared.events.Why.{Why}
use Rattle.iss_rules.specs.Parcels.{Formats}
use Rattle.iss_rules.specs.Rules.{Rules}
use Rattle.iss_rules.specs.Ends.{End}
use Rattle.iss_model.specs.Run.{Held, failure_free}
use Rattle.iss_model.specs.Runs.{AreAtCores, IsAtCore}
use Rattle.iss_theorems.proofs.Refinement.RunKeepsInvariant.{run-append}
use Rattle.iss_model.specs.Courses.{Course, Machines, with_crashes}
use Rattle.iss_model.specs.Driver.{Progress, Upshot, apply_event, ended_at, run, run_event_if_open}
use Rattle.iss_theorems.specs.Recovery.{AreUndisturbed, IsUndisturbed, why_ended}

module _ {Msg : Type 0} (s : Setup) (F : Formats Msg) (R : Rules) (M : Module Msg) where
  -- ---- lists of events

  at-append : (es fs : List Event) → AreAtCores s es → AreAtCores s fs → AreAtCores s (es ++ fs)
  at-append [] fs a b = b
  at-append (e ∷ es) fs a b = (a.0, at-append es fs a.1 b)

  undisturbed-append : (es fs : List Event) → AreUndisturbed es → AreUndisturbed fs → AreUndisturbed (es ++ fs)
  undisturbed-append [] fs a b = b
  undisturbed-append (e ∷ es) fs a b = (a.0, undisturbed-append es fs a.1 b)

  asked-append : (es fs : List Event) (q : Progress (Held Msg)) (i : ℕ) (x : ReqId) → WasAsked (failure_free s F R M) q es i x ⊎ WasAsked (failure_free s F R M) (run (failure_free s F R M) q es) fs i x →
      WasAsked (failure_free s F R M) q (es ++ fs) i x
  asked-append [] fs q i x (inl a) = absurd a
  asked-append [] fs q i x (inr b) = b
  asked-append (e ∷ es) fs q i x (inl (inl a)) = inl a
  asked-append (e ∷ es) fs q i x (inl (inr a)) = inr (asked-append es fs (run_event_if_open q.ended (failure_free s F R M) q e) i x (inl a))
  asked-append (e ∷ es) fs q i x (inr b) = inr (asked-append es fs (run_event_if_open q.ended (failure_free s F R M) q e) i x (inr b))

  -- ---- a failure-free run that has not stopped

  abbrev pub standing : Held Msg → ℕ → List (ℕ × Why) → Progress (Held Msg)
  standing h n drops = record { state = h; event = n; drops = drops; ended = None }

  -- These events lead a failure-free run from there to this state, with this evidence, and these requests were
  -- accepted.
  pub record Leads (asks : ℕ → ReqId → Type 0) (q : Progress (Held Msg)) (g : Held Msg) (o : Option End) : Type 0 where
    pub events : List Event
    pub at_cores : AreAtCores s events
    pub undisturbed : AreUndisturbed events
    pub held : (run (failure_free s F R M) q events).state ≡ g
    pub ended : why_ended (run (failure_free s F R M) q events).ended ≡ o
    pub asked : (i : ℕ) (x : ReqId) → asks i x → WasAsked (failure_free s F R M) q events i x

  -- no request was accepted
  abbrev pub nobody : ℕ → ReqId → Type 0
  nobody i x = ⊥

  pub leads-none : (h : Held Msg) (n : ℕ) (drops : List (ℕ × Why)) → Leads nobody (standing h n drops) h None
  leads-none h n drops = record { events = []; at_cores = tt; undisturbed = tt; held = refl; ended = refl; asked = λ i x a. absurd a }

  pub leads-same : (h g : Held Msg) (n : ℕ) (drops : List (ℕ × Why)) → h ≡ g → Leads nobody (standing h n drops) g None
  leads-same h g n drops q = record { events = []; at_cores = tt; undisturbed = tt; held = q; ended = refl; asked = λ i x a. absurd a }

  why-at : (n : ℕ) (o : Option End) → why_ended (ended_at n o) ≡ o
  why-at n None = refl
  why-at n (Some end) = refl

  pub leads-one : (e : Event) → IsAtCore s e → IsUndisturbed e → (h : Held Msg) (n : ℕ) (drops : List (ℕ × Why)) (d : Upshot (Held Msg)) →
      apply_event (failure_free s F R M) h e ≡ d → Leads (λ i x. In x (asked_in i e d)) (standing h n drops) d.state d.ended
  leads-one e low calm h n drops d q = record {
    events = e ∷ [];
    at_cores = (low, tt);
    undisturbed = (calm, tt);
    held = ap (λ (z : Upshot (Held Msg)). z.state) q;
    ended = why-at n (apply_event (failure_free s F R M) h e).ended ∙ ap (λ (z : Upshot (Held Msg)). z.ended) q;
    asked = λ i x a. inl (subst (λ (z : Upshot (Held Msg)). In x (asked_in i e z)) (sym q) a);
  }

  pub leads-less : (asks fewer : ℕ → ReqId → Type 0) (q : Progress (Held Msg)) (g : Held Msg) (o : Option End) → ((i : ℕ) (x : ReqId) → fewer i x → asks i x) →
      Leads asks q g o → Leads fewer q g o
  leads-less asks fewer q g o sub a = record {
    events = a.events;
    at_cores = a.at_cores;
    undisturbed = a.undisturbed;
    held = a.held;
    ended = a.ended;
    asked = λ i x f. a.asked i x (sub i x f);
  }

  -- ---- runs in sequence

  no-end : (o : Option (ℕ × End)) → why_ended o ≡ None → o ≡ None
  no-end None q = refl
  no-end (Some at) q = absurd (cc)

  standing-is : (r : Progress (Held Msg)) (g : Held Msg) → r.state ≡ g → r.ended ≡ None → r ≡ standing g r.event r.drops
  standing-is r g a b =
      let by_held : Held Msg → Progress (Held Msg) = λ z. record { state = z; event = r.event; drops = r.drops; ended = r.ended } in
      let by_end : Option (ℕ × End) → Progress (Held Msg) = λ z. record { state = g; event = r.event; drops = r.drops; ended = z } in
      ap by_held a ∙ ap by_end b

  pub leads-behind : (asks others : ℕ → ReqId → Type 0) (q : Progress (Held Msg)) (g k : Held Msg) (o : Option End) (a : Leads asks q g None) →
      ((n : ℕ) (drops : List (ℕ × Why)) → Leads others (standing g n drops) k o) → Leads others (run (failure_free s F R M) q a.events) k o
  leads-behind asks others q g k o a more =
      let r = run (failure_free s F R M) q a.events in
      subst (λ (z : Progress (Held Msg)). Leads others z k o) (sym (standing-is r g a.held (no-end r.ended a.ended))) (more r.event r.drops)

  pub leads-on : (asks others : ℕ → ReqId → Type 0) (q : Progress (Held Msg)) (g k : Held Msg) (o : Option End) → Leads asks q g None →
      ((n : ℕ) (drops : List (ℕ × Why)) → Leads others (standing g n drops) k o) → Leads (λ i x. asks i x ⊎ others i x) q k o
  leads-on asks others q g k o a more =
      let b = leads-behind asks others q g k o a more in
      record {
        events = a.events ++ b.events;
        at_cores = at-append a.events b.events a.at_cores b.at_cores;
        undisturbed = undisturbed-append a.events b.events a.undisturbed b.undisturbed;
        held = ap (λ (z : Progress (Held Msg)). z.state) (run-append s F R M a.events b.events q) ∙ b.held;
        ended = ap (λ (z : Progress (Held Msg)). why_ended z.ended) (run-append s F R M a.events b.events q) ∙ b.ended;
        asked = λ i x z. elim z [
          | inl w ↦ asked-append a.events b.events q i x (inl (a.asked i x w))
          | inr w ↦ asked-append a.events b.events q i x (inr (b.asked i x w))
        ];
      }

  -- ---- runs with disk failures

  abbrev pub going : Machines Msg → ℕ → List (ℕ × Why) → Course Msg
  going w n drops = record { state = w; event = n; drops = drops; ended = None }

  abbrev pub over : Machines Msg → ℕ → List (ℕ × Why) → ℕ × End → Course Msg
  over w n drops at = record { state = w; event = n; drops = drops; ended = Some at }

  pub course-append : (es fs : List Event) (p : Course Msg) → run (with_crashes s F R M) p (es ++ fs) ≡ run (with_crashes s F R M) (run (with_crashes s F R M) p es) fs
  course-append [] fs p = refl
  course-append (e ∷ es) fs p = course-append es fs (run_event_if_open p.ended (with_crashes s F R M) p e)

  pub course-over : (es : List Event) (w : Machines Msg) (n : ℕ) (drops : List (ℕ × Why)) (at : ℕ × End) → run (with_crashes s F R M) (over w n drops at) es ≡ over w n drops at
  course-over [] w n drops at = refl
  course-over (e ∷ es) w n drops at = course-over es w n drops at

  pub nobody-asked : (es : List Event) (w : Machines Msg) (n : ℕ) (drops : List (ℕ × Why)) (at : ℕ × End) (i : ℕ) (x : ReqId) →
      WasAsked (with_crashes s F R M) (over w n drops at) es i x → ⊥
  nobody-asked [] w n drops at i x a = a
  nobody-asked (e ∷ es) w n drops at i x (inl a) = a
  nobody-asked (e ∷ es) w n drops at i x (inr a) = nobody-asked es w n drops at i x a

  -- a run with disks has stopped or not
  pub going-is : (p : Course Msg) → p.ended ≡ None → p ≡ going p.state p.event p.drops
  going-is p q =
      let by_end : Option (ℕ × End) → Course Msg = λ z. record { state = p.state; event = p.event; drops = p.drops; ended = z } in
      ap by_end q

  pub over-is : (p : Course Msg) (at : ℕ × End) → p.ended ≡ Some at → p ≡ over p.state p.event p.drops at
  over-is p at q =
      let by_end : Option (ℕ × End) → Course Msg = λ z. record { state = p.state; event = p.event; drops = p.drops; ended = z } in
      ap by_end q
