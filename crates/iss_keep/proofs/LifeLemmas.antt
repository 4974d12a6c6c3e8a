-- The deeds that events give are a life of the node, which ends in the core that stored them. Later events do not change
-- earlier deeds.
use Rattle.std.proofs.Common.{◌≡◌, ◌∙◌, ◌++◌, ◌∷◌, ℕ, ◌≤◌, List, [], refl, ap, arith}
use Rattle.iss_base.specs.Lists.{Extends}
use Rattle.iss_base.proofs.Lists.{extends-refl}
use Rattle.iss_rules.specs.declared.events.NodeEvent.{NodeEvent}
use Rattle.iss_rules.specs.Concrete.{rules_of}
use Rattle.iss_rules.specs.Formats.{formats_of}
use Rattle.iss_model.specs.Courses.{after_step, core_of as core_after}
use Rattle.iss_model.specs.Frames.{frame_of}
use Rattle.iss_model.specs.Node.{Core, Dropped, Stepped, Taken, Turn}
use Rattle.iss_rebuilt.specs.Stored.{Stored, stored_by}
use Rattle.iss_request.specs.declared.setups.Setup.{Setup}
use Rattle.iss_sb.specs.Evidence.{Module}
use Rattle.iss_theorems.specs.Leaves.{Deed, IsLife, and_deed, core_behind, life_of}
use Rattle.iss_keep.specs.Cores.{step_of, stored_of}
use Rattle.iss_keep.specs.Entries.{spell_event}
use Rattle.iss_keep.proofs.TakenLemmas.{taken-rises}

module _ {Msg : Type 0} (s : Setup) (m : Module Msg) (me : ℕ) where
  -- what is stored is the core of the events
  same-core : (o : Stepped Msg) (event : NodeEvent) (st : Stored Msg) →
      (stored_by (frame_of s m) spell_event me st event o).core ≡ after_step st.core o
  same-core (Dropped why) event st = refl
  same-core (Taken t) event st = refl

  pub stored-core : (events : List NodeEvent) → (stored_of s m me events).core ≡ core_after (formats_of s m) (rules_of s) m me events
  stored-core [] = refl
  stored-core (x ∷ xs) =
      let st : Stored Msg = stored_of s m me xs in
      same-core (step_of s m me st.core x) x st ∙ ap (λ (c : Core Msg). after_step c (step_of s m me c x)) (stored-core xs)

  lived : (o : Stepped Msg) (event : NodeEvent) (done : List (Deed Msg)) → step_of s m me (core_behind done) event ≡ o →
      IsLife (frame_of s m) me done → IsLife (frame_of s m) me (and_deed o event done)
  lived (Dropped why) event done q life = life
  lived (Taken turn) event done q life = (q, life)

  pub life-lives : (events : List NodeEvent) → IsLife (frame_of s m) me (life_of (frame_of s m) me events)
  life-lives [] = tt
  life-lives (x ∷ xs) =
      let done : List (Deed Msg) = life_of (frame_of s m) me xs in
      lived (step_of s m me (core_behind done) x) x done refl (life-lives xs)

  ended : (o : Stepped Msg) (event : NodeEvent) (done : List (Deed Msg)) (st : Stored Msg) → core_behind done ≡ st.core →
      core_behind (and_deed o event done) ≡ (stored_by (frame_of s m) spell_event me st event o).core
  ended (Dropped why) event done st q = q
  ended (Taken t) event done st q = refl

  pub life-core : (events : List NodeEvent) → core_behind (life_of (frame_of s m) me events) ≡ (stored_of s m me events).core
  life-core [] = refl
  life-core (x ∷ xs) =
      let done : List (Deed Msg) = life_of (frame_of s m) me xs in
      let st : Stored Msg = stored_of s m me xs in
      ap (λ (c : Core Msg). core_behind (and_deed (step_of s m me c x) x done)) (life-core xs)
      ∙ ended (step_of s m me st.core x) x done st (life-core xs)

  -- an accepted event is the next deed
  pub next-deed : (events : List NodeEvent) (event : NodeEvent) (t : Turn Msg) → step_of s m me (stored_of s m me events).core event ≡ Taken t →
      life_of (frame_of s m) me (event ∷ events) ≡ record { event = event; turn = t } ∷ life_of (frame_of s m) me events
  next-deed events event t q =
      let done : List (Deed Msg) = life_of (frame_of s m) me events in
      ap (λ (c : Core Msg). and_deed (step_of s m me c event) event done) (life-core events) ∙ ap (λ (o : Stepped Msg). and_deed o event done) q

  longer : (a : List (Deed Msg)) (o : Stepped Msg) (event : NodeEvent) (done : List (Deed Msg)) → Extends a done → Extends a (and_deed o event done)
  longer a (Dropped why) event done e = e
  longer a (Taken turn) event done e =
      let d : Deed Msg = record { event = event; turn = turn } in (d ∷ e.0, ap (λ (xs : List (Deed Msg)). d ∷ xs) e.1)

  pub life-stays : (events more : List NodeEvent) → Extends (life_of (frame_of s m) me events) (life_of (frame_of s m) me (more ++ events))
  life-stays events [] = extends-refl (life_of (frame_of s m) me events)
  life-stays events (x ∷ more) =
      let done : List (Deed Msg) = life_of (frame_of s m) me (more ++ events) in
      longer (life_of (frame_of s m) me events) (step_of s m me (core_behind done) x) x done (life-stays events more)

  -- epochs never fall
  rises : (o : Stepped Msg) (event : NodeEvent) (st : Stored Msg) → step_of s m me st.core event ≡ o →
      st.core.past.epoch ≤ (stored_by (frame_of s m) spell_event me st event o).core.past.epoch
  rises (Dropped why) event st q = omega arith
  rises (Taken t) event st q = taken-rises (formats_of s m) (rules_of s) m me st.core event t q

  pub stored-rises : (event : NodeEvent) (events : List NodeEvent) →
      (stored_of s m me events).core.past.epoch ≤ (stored_of s m me (event ∷ events)).core.past.epoch
  stored-rises event events = let st : Stored Msg = stored_of s m me events in rises (step_of s m me st.core event) event st refl
