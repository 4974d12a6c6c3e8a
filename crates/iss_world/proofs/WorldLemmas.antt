-- A world that refines a run, as events are applied to it.
use Rattle.std.proofs.Common.{inl, inr, ◌≡◌, ◌∙◌, ℕ, suc, Bool, true, false, List, Option, Some, None, refl, sym, ap, subst}
use Rattle.std.specs.Prelude.{◌||◌, eqb, option_map, slice_get}
use Rattle.std.proofs.lemmas.Bool.Decides.{eqb_tells}
use Rattle.iss_disk.specs.declared.memory.MemoryDisk.{MemoryDisk}
use Rattle.iss_keep.specs.State.{KeptState}
use Rattle.iss_base.proofs.Lists.{none-some}
use Rattle.iss_rules.specs.Ends.{End}
use Rattle.iss_rules.specs.declared.events.Why.{Why}
use Rattle.iss_model.specs.Run.{node_of}
use Rattle.iss_request.specs.declared.setups.Setup.{Setup}
use Rattle.iss_model.specs.Courses.{Course, Machines, with_crashes}
use Rattle.iss_model.specs.Driver.{Driver, Upshot, apply_event, ended_at, noted, run_event_if_open}
use Rattle.iss_rules.specs.Parcels.{Formats}
use Rattle.iss_rules.specs.Rules.{Rules}
use Rattle.iss_schedule.specs.declared.schedules.Event.{Event}
use Rattle.iss_sb.specs.Calls.{Relation}
use Rattle.iss_sb.specs.Evidence.{Module}
use Rattle.iss_theorems.specs.Readers.{reader_at, reader_of}
use Rattle.iss_world.proofs.OverLemmas.{over-stale}
use Rattle.iss_world.specs.Refines.{AreStale, HasChanged, HasHappened, IsLeftBy, RefinesMachines, RefinesOrRetreated, RefinesOrShows, RefinesRun, RefinesRunUntil, awake, end_of, result_of}
use Rattle.iss_world.specs.State.{SimulationState, WorldState}
use Rattle.iss_world.specs.declared.ends.EventOutcome.{EventOutcome}
use Rattle.iss_world.specs.declared.ends.EventOutcome.TheVariants.{Done, Lost, Ended}
use Rattle.iss_world.specs.declared.ends.Evidence.{Evidence}
use Rattle.iss_world.specs.declared.ends.Evidence.TheVariants.{Forged as Evidence_forged, Collision as Evidence_collision}
use Rattle.iss_world.specs.declared.world.EventResult.{EventResult}

module _ {M Msg : Type 0} (m : Module Msg) (refines : Relation M Msg) where
  -- If the world refines the machines, its simulation refines or reports them.
  shown-then : (v : WorldState M Msg) (w : Machines Msg) (o : Option (ℕ × End)) → RefinesRunUntil m refines v w o → RefinesOrShows m refines v.simulation w
  shown-then v w None k = inl k.simulation
  shown-then v w (Some at) k = inr k.left

  pub shown-at : (v : WorldState M Msg) (p : Course Msg) → RefinesRun m refines v p → RefinesOrShows m refines v.simulation p.state
  shown-at v p k = shown-then v p.state p.ended k

  -- A kept node of the world refines its core, or has retreated to it.
  left-then : (v : WorldState M Msg) (w : Machines Msg) (o : Option (ℕ × End)) → RefinesRunUntil m refines v w o → (i : ℕ) (g : KeptState M Msg MemoryDisk) →
      slice_get v.simulation.nodes i ≡ Some g →
      RefinesOrRetreated m refines v.simulation.setup (node_of v.simulation.setup i) g (w.held.net.cores i) (w.disks i)
  left-then v w None k i g at = inl (k.simulation.cores i g at)
  left-then v w (Some end) k i g at = elim (eqb_tells i k.left.core) [
    | inr t ↦ inl (k.left.others i g at t.1)
    | inl t ↦
        let P : ℕ → Type 0 = λ n. RefinesOrRetreated m refines v.simulation.setup (node_of v.simulation.setup n) g (w.held.net.cores n) (w.disks n) in
        subst P (sym t.1) (inr (k.left.there g (subst (λ (n : ℕ). slice_get v.simulation.nodes n ≡ Some g) t.1 at)))
  ]

  pub node-left : (v : WorldState M Msg) (p : Course Msg) → RefinesRun m refines v p → (i : ℕ) (g : KeptState M Msg MemoryDisk) →
      slice_get v.simulation.nodes i ≡ Some g →
      RefinesOrRetreated m refines v.simulation.setup (node_of v.simulation.setup i) g (p.state.held.net.cores i) (p.state.disks i)
  node-left v p k = left-then v p.state p.ended k

  -- A world that was not stale.
  pub awake-at : (v : SimulationState M Msg) (end : Option Evidence) (b : Bool) (p : Course Msg) → b ≡ false → RefinesRun m refines (record { simulation = v; ended = end; stale = b }) p → RefinesRun m refines (awake v end) p
  awake-at v end b p e st = subst (λ (z : Bool). RefinesRun m refines (record { simulation = v; ended = end; stale = z }) p) e st

  -- ---- which kept nodes are stale

  or-false : (b : Bool) → b ≡ (b || false)
  or-false true = refl
  or-false false = refl

  or-true : (b c : Bool) → c ≡ true → true ≡ (b || c)
  or-true true c e = refl
  or-true false c e = sym e

  pub stale-goes : (v : SimulationState M Msg) (end : Option Evidence) (w : Machines Msg) → RefinesMachines m refines v w → AreStale (awake v end) w None
  stale-goes v end w st i g at = over-stale m refines g (w.held.net.cores i) (w.disks i) (st.cores i g at) ∙ or-false (w.disks i).failed

  stale-left : (v : SimulationState M Msg) (end : Option Evidence) (w : Machines Msg) (reader : Option ℕ) → IsLeftBy m refines reader v w → AreStale (awake v end) w reader
  stale-left v end w reader k =
      let left = k.0 in
      subst (λ (o : Option ℕ). AreStale (awake v end) w o) (sym k.1) (λ i g at. elim (eqb_tells i left.core) [
        | inl t ↦ (left.there g (subst (λ (n : ℕ). slice_get v.nodes n ≡ Some g) t.1 at)).stale ∙ or-true (w.disks i).failed (eqb i left.core) t.0
        | inr t ↦ over-stale m refines g (w.held.net.cores i) (w.disks i) (left.others i g at t.1) ∙ or-false (w.disks i).failed
            ∙ ap (λ (b : Bool). (w.disks i).failed || b) (sym t.0)
      ])

  stale-changed : (v : SimulationState M Msg) (end : Option Evidence) (d : Upshot (Machines Msg)) (reader : Option ℕ) (r : EventOutcome) → HasChanged m refines reader v d r →
      AreStale (awake v end) d.state (reader_at d.ended reader None)
  stale-changed v end d reader Done h = subst (λ (o : Option End). AreStale (awake v end) d.state (reader_at o reader None)) (sym h.2) (stale-goes v end d.state h.0)
  stale-changed v end d reader (Lost why) h = subst (λ (o : Option End). AreStale (awake v end) d.state (reader_at o reader None)) (sym h.2) (stale-goes v end d.state h.0)
  stale-changed v end d reader (Ended x) h = subst (λ (o : Option End). AreStale (awake v end) d.state (reader_at o reader None)) (sym h.2) (stale-left v end d.state reader h.0)

  -- A run that had not ended, and one more event.
  pub stale-then : (W : Driver (Machines Msg)) (v later : SimulationState M Msg) (before after : Option Evidence) (p : Course Msg) (e : Event) (r : EventOutcome) →
      ((w : Machines Msg) → RefinesMachines m refines v w →
      HasChanged m refines (reader_of W w e) later (apply_event W w e) r) →
      RefinesRun m refines (awake v before) p → p.ended ≡ None → AreStale (awake later after) (apply_event W p.state e).state (reader_at (apply_event W p.state e).ended (reader_of W p.state e) None)
  stale-then W v later before after p e r happened st going =
      let k = subst (λ (o : Option (ℕ × End)). RefinesRunUntil m refines (awake v before) p.state o) going st in
      stale-changed later after (apply_event W p.state e) (reader_of W p.state e) r (happened p.state k.simulation)

  -- Evidence ends a run.
  pub not-ended : (v : SimulationState M Msg) (before : Option Evidence) (end : Evidence) (p : Course Msg) → before ≡ Some end → RefinesRun m refines (awake v before) p → p.ended ≡ None → ⊥
  not-ended v before end p is st going =
      let k = subst (λ (o : Option (ℕ × End)). RefinesRunUntil m refines (awake v before) p.state o) going st in
      none-some end (sym k.goes_on ∙ is)

  -- ---- an event that stops the run

  abbrev pub then_ended : ℕ → List (ℕ × Why) → Machines Msg → Option End → Course Msg
  then_ended k drops w o = record { state = w; event = suc k; drops = drops; ended = ended_at k o }

  told-ended : (reader : Option ℕ) (v : SimulationState M Msg) (old : Course Msg) (d : Upshot (Machines Msg)) (k : ℕ) (drops : List (ℕ × Why)) (end : Evidence) → HasChanged m refines reader v d (Ended end) →
      HasHappened m refines (awake v (Some end)) old (then_ended k drops d.state d.ended) (result_of end)
  told-ended reader v old d k drops (Evidence_forged claim) h =
      subst (λ (o : Option End). HasHappened m refines (awake v (Some (Evidence_forged claim))) old (then_ended k drops d.state o) (result_of (Evidence_forged claim))) (sym h.2)
      (record { fresh = refl; ended = refl; left = h.0.0 }, refl)
  told-ended reader v old d k drops (Evidence_collision first second) h =
      subst (λ (o : Option End). HasHappened m refines (awake v (Some (Evidence_collision first second))) old (then_ended k drops d.state o) (result_of (Evidence_collision first second))) (sym h.2)
      (record { fresh = refl; ended = refl; left = h.0.0 }, refl)

  module _ (s : Setup) (F : Formats Msg) (R : Rules) (v later : SimulationState M Msg) (before : Option Evidence) (p : Course Msg) (e : Event) (r : EventOutcome) (end : Evidence)
      (none : before ≡ None) (was : r ≡ Ended end) (happened : (w : Machines Msg) → RefinesMachines m refines v w →
      HasChanged m refines (reader_of (with_crashes s F R m) w e) later (apply_event (with_crashes s F R m) w e) r) where
    goes-then : (o : Option (ℕ × End)) → RefinesRunUntil m refines (awake v before) p.state o → HasHappened m refines (awake later (Some end)) p (run_event_if_open o (with_crashes s F R m) p e) (result_of end)
    goes-then None k =
        let d : Upshot (Machines Msg) = apply_event (with_crashes s F R m) p.state e in
        let reader = reader_of (with_crashes s F R m) p.state e in
        told-ended reader later p d p.event (noted p.event d.lost p.drops) end (subst (λ (x : EventOutcome). HasChanged m refines reader later d x) was (happened p.state k.simulation))
    goes-then (Some at) k = absurd (none-some at.1 (subst (λ (o : Option Evidence). option_map end_of o ≡ Some at.1) none k.ended))

    pub goes-ended : (x : EventResult) → x ≡ result_of end → RefinesRun m refines (awake v before) p →
        HasHappened m refines (awake later (Some end)) p (run_event_if_open p.ended (with_crashes s F R m) p e) x
    goes-ended x told st = subst (λ (y : EventResult). HasHappened m refines (awake later (Some end)) p (run_event_if_open p.ended (with_crashes s F R m) p e) y) (sym told) (goes-then p.ended st)
