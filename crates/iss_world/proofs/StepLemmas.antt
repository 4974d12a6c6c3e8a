-- One step of a kept node refines the step of its core.
use Rattle.std.proofs.Common.{inl, inr, ◌≡◌, ℕ, ◌<◌, ◌≤◌, Bool, true, false, cond, List, ◌∷◌, ◌++◌, length, take, set, slice_get, Some, None, reverse, refl, sym, ap, ◌∙◌, subst, arith}
use Rattle.std.specs.Prelude.{eqb, Result, Ok, Err}
use Rattle.std.proofs.lemmas.Bool.Decides.{eqb_tells}
use Rattle.std.proofs.lemmas.List.{take_all}
use Rattle.iss_node.specs.declared.answers.Answer.TheVariants.{Dropped as Node_dropped, Taken as Node_taken}
use Rattle.iss_node.specs.declared.answers.Answer.{Answer as NodeAnswer}
use Rattle.iss_disk.specs.declared.errors.Failed.{Failed}
use Rattle.iss_base.specs.Lists.{push_all, set_at}
use Rattle.iss_base.proofs.Lists.{set_at-same, some-injective}
use Rattle.iss_keep.proofs.TakenLemmas.{log-cut, log-long}
use Rattle.iss_rules.specs.Concrete.{rules_of}
use Rattle.iss_rules.specs.Formats.{formats_of}
use Rattle.iss_rules.specs.Setups.{IsSetupOf}
use Rattle.iss_log.specs.LogState.{GoesOn}
use Rattle.iss_model.specs.Node.{Core, Dropped, Stepped, Taken, Turn, step}
use Rattle.iss_rules.specs.Past.{log_of}
use Rattle.iss_model.specs.Run.{Held, booked, claims_at, node_of, posted_all}
use Rattle.iss_rules.specs.declared.events.NodeEvent.{NodeEvent}
use Rattle.iss_rules.specs.declared.events.Why.{Why}
use Rattle.iss_rules.specs.declared.events.Why.TheVariants.{Stopped}
use Rattle.iss_disk.specs.declared.memory.MemoryDisk.{MemoryDisk}
use Rattle.iss_keep.specs.State.{KeptRefinesCore, KeptState}
use Rattle.iss_keep.specs.Steps.{IsSame}
use Rattle.iss_network.specs.Network.{Network}
use Rattle.iss_node.specs.Steps.{IsMade, IsOfNodes}
use Rattle.iss_node.specs.declared.answers.Outcome.{Outcome}
use Rattle.iss_request.specs.declared.ids.NodeId.{NodeId}
use Rattle.iss_request.specs.declared.requests.Value.{Value}
use Rattle.iss_request.specs.declared.setups.Setup.{Setup}
use Rattle.iss_model.specs.Courses.{Machines, core_of as core_of_kept, recover, with_disk, with_disks}
use Rattle.iss_model.specs.Disks.{Disk, fails, fused, keeps, works_again}
use Rattle.iss_model.specs.Driver.{Upshot, done, lost_by}
use Rattle.iss_sb.specs.declared.effects.Claim.{Claim}
use Rattle.iss_sb.specs.declared.effects.To.{To}
use Rattle.iss_sb.specs.Calls.{Relation}
use Rattle.iss_sb.specs.Evidence.{Module}
use Rattle.iss_world.proofs.OverLemmas.{at-working, epoch-grown, log-grown, over-shows, over-stale}
use Rattle.iss_world.specs.Books.{AreHashed, AreSigned}
use Rattle.iss_world.specs.Internal.Shape.{IsNetworkOf, IsSimulation}
use Rattle.iss_world.specs.Refines.{HasChanged, HasRetreated, IsLeft, IsLeftBy, RefinesMachine, RefinesMachines, RefinesOrShows, ShowsCore, end_of, shown_by}
use Rattle.iss_world.specs.State.{SimulationState}
use Rattle.iss_world.specs.Internal.Steps.{HasAnswered, IsBehind, IsKeptTurn, ends_by, kept_at, kept_to, stepped_to}
use Rattle.iss_world.specs.declared.ends.EventOutcome.{EventOutcome}
use Rattle.iss_world.specs.declared.ends.EventOutcome.TheVariants.{Done, Lost, Ended}
use Rattle.iss_world.specs.declared.ends.Evidence.{Evidence}
use Rattle.iss_world.proofs.CoreLemmas.{get-set_same, length-set_at, written}
use Rattle.iss_world.proofs.MachineLemmas.{made-ends, turn-done, turn-ends}

module _ {M Msg : Type 0} (m : Module Msg) (refines : Relation M Msg) where
  -- the same node shows the same of the events that it keeps
  shown-still : (g later : KeptState M Msg MemoryDisk) → IsSame g later → (events : List NodeEvent) →
      shown_by m g.setup g.me.0 events ≡ shown_by m later.setup later.me.0 events
  shown-still g later same events =
      ap (λ (s : Setup). shown_by m s g.me.0 events) (sym same.setup) ∙ ap (λ (i : NodeId). shown_by m later.setup i.0 events) (sym same.me)

  -- ---- what the cores report

  core-shown : (v : SimulationState M Msg) (i : ℕ) (g : KeptState M Msg MemoryDisk) (c : Core Msg) → IsSimulation m v → slice_get v.nodes i ≡ Some g →
      ShowsCore m g.setup g.me.0 g c → ShowsCore m v.setup (node_of v.setup i) g c
  core-shown v i g c r at shown = record {
    log = subst (λ (k : ℕ). log_of (rules_of v.setup) m k c.past ≡ reverse g.node.state.log.entries) (r.places i g at)
        (subst (λ (s : Setup). log_of (rules_of s) m g.me.0 c.past ≡ reverse g.node.state.log.entries) (r.setups i g at) shown.log);
    epoch = shown.epoch;
  }

  -- each kept node reports the log and epoch of its core
  abbrev pub ShowsHeld : SimulationState M Msg → Held Msg → Type 0
  ShowsHeld v h = (i : ℕ) (g : KeptState M Msg MemoryDisk) → slice_get v.nodes i ≡ Some g → ShowsCore m v.setup (node_of v.setup i) g (h.net.cores i)

  pub runs-show : (v : SimulationState M Msg) (w : Machines Msg) → IsSimulation m v → RefinesMachines m refines v w → ShowsHeld v w.held
  runs-show v w r st i g at = core-shown v i g (w.held.net.cores i) r at (over-shows m refines g (w.held.net.cores i) (w.disks i) (st.cores i g at))

  left-shows : (v : SimulationState M Msg) (w : Machines Msg) → IsSimulation m v → IsLeft m refines v w → ShowsHeld v w.held
  left-shows v w r left i g at = elim (eqb_tells i left.core) [
    | inl t ↦ subst (λ (n : ℕ). ShowsCore m v.setup (node_of v.setup n) g (w.held.net.cores n)) (sym t.1)
        (left.there g (subst (λ (n : ℕ). slice_get v.nodes n ≡ Some g) t.1 at)).shows
    | inr t ↦ core-shown v i g (w.held.net.cores i) r at
        (over-shows m refines g (w.held.net.cores i) (w.disks i) (left.others i g at t.1))
  ]

  pub shown-shows : (v : SimulationState M Msg) (w : Machines Msg) → IsSimulation m v → RefinesOrShows m refines v w → ShowsHeld v w.held
  shown-shows v w r k = elim k [ inl st ↦ runs-show v w r st | inr left ↦ left-shows v w r left ]

  -- What is left when a core read a forged claim, and retreated to where it was.
  pub forged-left : (v : SimulationState M Msg) (w : Machines Msg) (i : ℕ) (g later : KeptState M Msg MemoryDisk) → IsSimulation m v → i < length v.nodes →
      RefinesMachines m refines v w → slice_get v.nodes i ≡ Some g →
      later.node.state.log.entries ≡ take (length g.node.state.log.entries) g.node.state.log.entries → later.node.state.epoch ≡ g.node.state.epoch →
      later.stale ≡ true → later.entries ≡ g.entries → IsSame g later →
      IsLeftBy m refines (Some i) (record { setup = v.setup; nodes = set v.nodes i later; network = v.network; signed = v.signed; hashed = v.hashed }) w
  forged-left v w i g later r lt st at cut back gone kept same =
      let shown = runs-show v w r st i g at in
      let whole = take_all (length g.node.state.log.entries) g.node.state.log.entries (omega arith) in
      let retreated : HasRetreated m v.setup (node_of v.setup i) later (w.held.net.cores i) (w.disks i) =
      record {
        stale = gone;
        shows = record {
          log = shown.log ∙ ap (λ (xs : List Value). reverse xs) (sym (cut ∙ whole));
          epoch = back ∙ shown.epoch;
        };
        entries = inl (kept ∙ (st.cores i g at).entries ∙ shown-still g later same (w.disks i).kept);
      } in
      let left : IsLeft m refines (record { setup = v.setup; nodes = set v.nodes i later; network = v.network; signed = v.signed; hashed = v.hashed }) w =
      record {
        core = i;
        others = λ j k e ne. elim (written v.nodes i j later k lt e) [ inl z ↦ absurd (ne z.1) | inr z ↦ st.cores j k z.1 ];
        there = λ k e.
            let is : k ≡ later = some-injective k later (sym e ∙ get-set_same v.nodes i later lt) in
            subst (λ (x : KeptState M Msg MemoryDisk). HasRetreated m v.setup (node_of v.setup i) x (w.held.net.cores i) (w.disks i)) (sym is) retreated;
        network = st.network;
        signed = st.signed;
      } in
      (left, refl)

  -- ---- a node is replaced by a later state of it

  pub still-running : (v : SimulationState M Msg) (i : ℕ) (g later : KeptState M Msg MemoryDisk) (net : Network) (signed : List (List ℕ)) (hashed : List (List ℕ × List ℕ)) →
      IsSimulation m v → i < length v.nodes → slice_get v.nodes i ≡ Some g → IsSame g later → IsNetworkOf (length v.nodes) net →
      IsSimulation m (record { setup = v.setup; nodes = set v.nodes i later; network = net; signed = signed; hashed = hashed })
  still-running v i g later net signed hashed h lt at same hn = record {
    good = h.good;
    count = length-set_at v.nodes i later ∙ h.count;
    network = subst (λ (k : ℕ). IsNetworkOf k net) h.count hn;
    setups = λ j k e. elim (written v.nodes i j later k lt e) [
      | inl t ↦ ap (λ (z : KeptState M Msg MemoryDisk). z.setup) t.2 ∙ same.setup ∙ h.setups i g at
      | inr t ↦ h.setups j k t.1
    ];
    places = λ j k e. elim (written v.nodes i j later k lt e) [
      | inl t ↦ ap (λ (z : KeptState M Msg MemoryDisk). z.me.0) t.2 ∙ ap (λ (z : NodeId). z.0) same.me ∙ h.places i g at ∙ ap (λ (k : ℕ). node_of v.setup k) (sym t.1)
      | inr t ↦ h.places j k t.1
    ];
  }

  pub network-shown : (v : SimulationState M Msg) (w : Machines Msg) → RefinesOrShows m refines v w → v.network ≡ w.held.net.network
  network-shown v w k = elim k [ inl h ↦ h.network | inr h ↦ h.network ]

  pub same-network : (v : SimulationState M Msg) → IsSimulation m v → IsNetworkOf (length v.nodes) v.network
  same-network v h = subst (λ (k : ℕ). IsNetworkOf k v.network) (sym h.count) h.network

  -- The same cores with another network and other records.
  pub with-network : (v : SimulationState M Msg) (net : Network) (signed : List (List ℕ)) (hashed : List (List ℕ × List ℕ)) → IsSimulation m v → IsNetworkOf (length v.nodes) net →
      IsSimulation m (record { setup = v.setup; nodes = v.nodes; network = net; signed = signed; hashed = hashed })
  with-network v net signed hashed h hn = record {
    good = h.good;
    count = h.count;
    network = subst (λ (k : ℕ). IsNetworkOf k net) h.count hn;
    setups = h.setups;
    places = h.places;
  }

  module _ (v : SimulationState M Msg) (i : ℕ) (g later : KeptState M Msg MemoryDisk) (r : IsSimulation m v) (lt : i < length v.nodes) (at : slice_get v.nodes i ≡ Some g) where
    abbrev v_later : SimulationState M Msg
    v_later = record { setup = v.setup; nodes = set v.nodes i later; network = v.network; signed = v.signed; hashed = v.hashed }

    -- One core changes with its disk, and all others stay.
    pub runs-later : (w next : Machines Msg) → RefinesMachines m refines v w → RefinesMachine m refines later (next.held.net.cores i) (next.disks i) →
        ((j : ℕ) → eqb j i ≡ false → (next.held.net.cores j ≡ w.held.net.cores j) × (next.disks j ≡ w.disks j)) →
        v.network ≡ next.held.net.network → AreSigned v.signed next.held.signed → AreHashed v.hashed next.held.hashed → RefinesMachines m refines v_later next
    runs-later w next st here there net signed hashed = record {
      cores = λ j k e. elim (written v.nodes i j later k lt e) [
        | inl t ↦ subst (λ (x : ℕ). RefinesMachine m refines k (next.held.net.cores x) (next.disks x)) (sym t.1)
            (subst (λ (z : KeptState M Msg MemoryDisk). RefinesMachine m refines z (next.held.net.cores i) (next.disks i)) (sym t.2) here)
        | inr t ↦ subst (λ (c : Core Msg). RefinesMachine m refines k c (next.disks j)) (sym (there j t.0).0)
            (subst (λ (d : Disk). RefinesMachine m refines k (w.held.net.cores j) d) (sym (there j t.0).1) (st.cores j k t.1))
      ];
      network = net;
      signed = signed;
      hashed = hashed;
    }

    pub runs-disk : (w : Machines Msg) (d : Disk) → RefinesMachines m refines v w → RefinesMachine m refines later (w.held.net.cores i) d → RefinesMachines m refines v_later (with_disk w i d)
    runs-disk w d st here =
        runs-later w (with_disk w i d) st (subst (λ (x : Disk). RefinesMachine m refines later (w.held.net.cores i) x) (sym (set_at-same w.disks i d)) here)
        (λ j e. (refl, ap (λ (b : Bool). cond b d (w.disks j)) e)) st.network st.signed st.hashed

    -- A disk that is going to fail.
    pub crashed : (w : Machines Msg) (calls : ℕ) → RefinesMachines m refines v w → RefinesMachine m refines later (w.held.net.cores i) (fused (w.disks i) calls) →
        HasChanged m refines None v_later (done (with_disk w i (fused (w.disks i) calls))) Done
    crashed w calls st here = (runs-disk w (fused (w.disks i) calls) st here, refl, refl)

    -- A core that is recovered.
    pub remade-runs : (w : Machines Msg) → RefinesMachines m refines v w → RefinesMachine m refines later (w.held.net.cores i) (works_again (w.disks i)) →
        HasChanged m refines None v_later (done (recover v.setup (formats_of v.setup m) (rules_of v.setup) m w i)) Done
    remade-runs w st here =
        let kept : List NodeEvent = (w.disks i).kept in
        let c : Core Msg = core_of_kept (formats_of v.setup m) (rules_of v.setup) m (node_of v.setup i) kept in
        let mine : core_of_kept (formats_of g.setup m) (rules_of g.setup) m g.me.0 kept ≡ w.held.net.cores i = (st.cores i g at).made in
        let is : c ≡ w.held.net.cores i =
        subst (λ (k : ℕ). core_of_kept (formats_of v.setup m) (rules_of v.setup) m k kept ≡ w.held.net.cores i) (r.places i g at)
        (subst (λ (s : Setup). core_of_kept (formats_of s m) (rules_of s) m g.me.0 kept ≡ w.held.net.cores i) (r.setups i g at) mine) in (
          runs-later w (recover v.setup (formats_of v.setup m) (rules_of v.setup) m w i) st
              (subst (λ (x : Core Msg). RefinesMachine m refines later x (set_at w.disks i (works_again (w.disks i)) i)) (sym (set_at-same w.held.net.cores i c ∙ is))
              (subst (λ (x : Disk). RefinesMachine m refines later (w.held.net.cores i) x) (sym (set_at-same w.disks i (works_again (w.disks i)))) here))
              (λ j e. (ap (λ (b : Bool). cond b c (w.held.net.cores j)) e, ap (λ (b : Bool). cond b (works_again (w.disks i)) (w.disks j)) e))
              st.network st.signed st.hashed,
          refl,
          refl,
        )

  module _ (v : SimulationState M Msg) (i : ℕ) (g : KeptState M Msg MemoryDisk) (event : NodeEvent) (r : IsSimulation m v) (at : slice_get v.nodes i ≡ Some g) where
    -- The node is stale if and only if its disk has failed.
    pub stale-here : (w : Machines Msg) → RefinesMachines m refines v w → g.stale ≡ (w.disks i).failed
    stale-here w st = over-stale m refines g (w.held.net.cores i) (w.disks i) (st.cores i g at)

    -- The claims of the event, as the model's core reads them.
    pub claims-here : (claims : List Claim) → ((c : Core Msg) → KeptRefinesCore m refines g c →
        claims ≡ claims_at (formats_of g.setup m) (rules_of g.setup) m g.me.0 c event) → (w : Machines Msg) → RefinesMachines m refines v w → (w.disks i).failed ≡ false →
        claims ≡ claims_at (formats_of v.setup m) (rules_of v.setup) m (node_of v.setup i) (w.held.net.cores i) event
    claims-here claims f w st working =
        let there : KeptRefinesCore m refines g (w.held.net.cores i) = at-working m refines g (w.held.net.cores i) (w.disks i) (st.cores i g at) working in
        subst (λ (k : ℕ). claims ≡ claims_at (formats_of v.setup m) (rules_of v.setup) m k (w.held.net.cores i) event) (r.places i g at)
        (subst (λ (s : Setup). claims ≡ claims_at (formats_of s m) (rules_of s) m g.me.0 (w.held.net.cores i) event) (r.setups i g at) (f (w.held.net.cores i) there))

    module _ (later : KeptState M Msg MemoryDisk) (lt : i < length v.nodes) (same : IsSame g later) (nodes : IsOfNodes v.setup.n event) (answer : Result NodeAnswer Failed)
        (f : (c : Core Msg) (d : Disk) → RefinesMachine m refines g c d → d.failed ≡ false → IsOfNodes g.setup.n event →
        HasAnswered m refines c d event (step (formats_of g.setup m) (rules_of g.setup) m g.me.0 c event) later answer) where
      abbrev step_there : Machines Msg → Stepped Msg
      step_there w = step (formats_of g.setup m) (rules_of g.setup) m g.me.0 (w.held.net.cores i) event

      abbrev step_here : Machines Msg → Stepped Msg
      step_here w = step (formats_of v.setup m) (rules_of v.setup) m (node_of v.setup i) (w.held.net.cores i) event

      same-step : (w : Machines Msg) → step_here w ≡ step_there w
      same-step w =
          ap (λ (k : ℕ). step (formats_of v.setup m) (rules_of v.setup) m k (w.held.net.cores i) event) (sym (r.places i g at))
          ∙ ap (λ (s : Setup). step (formats_of s m) (rules_of s) m g.me.0 (w.held.net.cores i) event) (sym (r.setups i g at))

      -- The answer, case by case.
      answer-is : (w : Machines Msg) → RefinesMachines m refines v w → (w.disks i).failed ≡ false → (a : Result NodeAnswer Failed) → answer ≡ a →
          HasAnswered m refines (w.held.net.cores i) (w.disks i) event (step_there w) later a
      answer-is w st working a is =
          let named : IsOfNodes g.setup.n event = subst (λ (s : Setup). IsOfNodes s.n event) (sym (r.setups i g at)) nodes in
          subst (λ (z : Result NodeAnswer Failed). HasAnswered m refines (w.held.net.cores i) (w.disks i) event (step_there w) later z) is
          (f (w.held.net.cores i) (w.disks i) (st.cores i g at) working named)

      -- The event was dropped, and nothing has changed.
      pub step-dropped : (why : Why) → answer ≡ Ok (Node_dropped why) → (w : Machines Msg) → RefinesMachines m refines v w → (w.disks i).failed ≡ false →
          HasChanged m refines (Some i) (v_later v i g later r lt at) (kept_to v.setup w i event (step_here w)) (Lost why)
      step-dropped why is w st working =
          let t = answer-is w st working (Ok (Node_dropped why)) is in
          let dropped : step_here w ≡ Dropped why = same-step w ∙ t.0 in
          subst (λ (s : Stepped Msg). HasChanged m refines (Some i) (v_later v i g later r lt at) (kept_to v.setup w i event s) (Lost why)) (sym dropped)
          (runs-later v i g later r lt at w w st t.1 (λ j e. (refl, refl)) st.network st.signed st.hashed, refl, refl)

      -- The disk failed before the event was journaled.
      pub step-stopped : (failed : Failed) → answer ≡ Err failed → (w : Machines Msg) → RefinesMachines m refines v w → (w.disks i).failed ≡ false →
          HasChanged m refines (Some i) (v_later v i g later r lt at) (kept_to v.setup w i event (step_here w)) (Lost Stopped)
      step-stopped failed is w st working =
          let t = answer-is w st working (Err failed) is in
          let taken : step_here w ≡ Taken t.turn = same-step w ∙ t.step_is in
          let stopped : kept_to v.setup w i event (Taken t.turn) ≡ lost_by (with_disk w i (fails (w.disks i))) Stopped =
          ap (λ (b : Bool). cond b (with_disks w (kept_at w i event) (stepped_to v.setup w.held i (Taken t.turn))) (lost_by (with_disk w i (fails (w.disks i))) Stopped)) t.no_room in
          subst (λ (u : Upshot (Machines Msg)). HasChanged m refines (Some i) (v_later v i g later r lt at) u (Lost Stopped)) (sym (ap (λ (s : Stepped Msg). kept_to v.setup w i event s) taken ∙ stopped))
          (runs-disk v i g later r lt at w (fails (w.disks i)) st t.over, refl, refl)

      -- The event was accepted and journaled.
      module _ (outcome : Outcome) (is : answer ≡ Ok (Node_taken outcome)) (w : Machines Msg) (st : RefinesMachines m refines v w) (working : (w.disks i).failed ≡ false) where
        pub turn-kept : IsKeptTurn m refines (w.disks i) event (step_there w) later outcome
        turn-kept = answer-is w st working (Ok (Node_taken outcome)) is

        good-there : IsSetupOf m g.setup
        good-there = subst (λ (s : Setup). IsSetupOf m s) (sym (r.setups i g at)) r.good

        -- The log was extended, and the epoch did not fall.
        grown : GoesOn g.node.state.log.entries later.node.state.log.entries
        grown = log-grown m refines g later same (w.held.net.cores i) (w.disks i) (st.cores i g at) working event good-there outcome turn-kept

        pub slots-kept : (slots : ℕ) → slots ≡ length g.node.state.log.entries → (k : KeptState M Msg MemoryDisk) → slice_get (set v.nodes i later) i ≡ Some k →
            slots ≤ length k.node.state.log.entries
        slots-kept slots are k e =
            let far = log-long g.node.state.log.entries later.node.state.log.entries grown in
            let there : k ≡ later = some-injective k later (sym e ∙ get-set_same v.nodes i later lt) in
            subst (λ (z : KeptState M Msg MemoryDisk). slots ≤ length z.node.state.log.entries) (sym there) (omega (arith, are, far))

        pub epoch-kept : (epoch : ℕ) → epoch ≡ g.node.state.epoch → (k : KeptState M Msg MemoryDisk) → slice_get (set v.nodes i later) i ≡ Some k → epoch ≤ k.node.state.epoch
        epoch-kept epoch was k e =
            let far = epoch-grown m refines g later same (w.held.net.cores i) (w.disks i) (st.cores i g at) working event good-there outcome turn-kept in
            let there : k ≡ later = some-injective k later (sym e ∙ get-set_same v.nodes i later lt) in
            subst (λ (z : KeptState M Msg MemoryDisk). epoch ≤ z.node.state.epoch) (sym there) (omega (arith, was, far))

        -- The core took its turn, and everything else is unchanged.
        pub behind : (slots epoch : ℕ) → slots ≡ length g.node.state.log.entries → epoch ≡ g.node.state.epoch →
            IsBehind m refines (v_later v i g later r lt at) w event i turn-kept.turn slots epoch
        behind slots epoch are was =
            let shown = runs-show v w r st i g at in
            record {
              cores = λ j k e. elim (written v.nodes i j later k lt e) [
                | inl t ↦ rw t.0 (subst (λ (z : KeptState M Msg MemoryDisk). RefinesMachine m refines z turn-kept.turn.core (keeps (w.disks i) event)) (sym t.2) turn-kept.over)
                | inr t ↦ rw t.0 (st.cores j k t.1)
              ];
              network = st.network;
              signed = st.signed;
              hashed = st.hashed;
              log = λ k e.
                  let there : k ≡ later = some-injective k later (sym e ∙ get-set_same v.nodes i later lt) in
                  let back : take slots k.node.state.log.entries ≡ g.node.state.log.entries =
                  ap (λ (z : KeptState M Msg MemoryDisk). take slots z.node.state.log.entries) there ∙ ap (λ (n : ℕ). take n later.node.state.log.entries) are
                  ∙ log-cut g.node.state.log.entries later.node.state.log.entries grown in
                  shown.log ∙ ap (λ (xs : List Value). reverse xs) (sym back);
              epoch = was ∙ shown.epoch;
            }

        pub made-there : IsMade turn-kept.turn outcome
        made-there = turn-kept.made

        pub step-taken : (new : SimulationState M Msg) (x : EventOutcome) →
            HasChanged m refines (Some i) new (with_disks w (kept_at w i event) (stepped_to v.setup w.held i (Taken turn-kept.turn))) x → HasChanged m refines (Some i) new (kept_to v.setup w i event (step_here w)) x
        step-taken new x k =
            let t = turn-kept in
            let taken : step_here w ≡ Taken t.turn = same-step w ∙ t.step_is in
            let kept : kept_to v.setup w i event (Taken t.turn) ≡ with_disks w (kept_at w i event) (stepped_to v.setup w.held i (Taken t.turn)) =
            ap (λ (b : Bool). cond b (with_disks w (kept_at w i event) (stepped_to v.setup w.held i (Taken t.turn))) (lost_by (with_disk w i (fails (w.disks i))) Stopped)) t.room in
            subst (λ (u : Upshot (Machines Msg)). HasChanged m refines (Some i) new u x) (sym (ap (λ (s : Stepped Msg). kept_to v.setup w i event s) taken ∙ kept)) k

  -- ---- the effect of a turn

  module _ (v : SimulationState M Msg) (i : ℕ) (r : IsSimulation m v) (lt : i < length v.nodes) (w : Machines Msg) (event : NodeEvent) (t : Turn Msg) (slots epoch : ℕ)
      (b : IsBehind m refines v w event i t slots epoch) where
    abbrev behind-it : ℕ → Disk
    behind-it = kept_at w i event

    -- another core is as it was
    other-there : (j : ℕ) (k : KeptState M Msg MemoryDisk) → eqb j i ≡ false → slice_get v.nodes j ≡ Some k → RefinesMachine m refines k (w.held.net.cores j) (w.disks j)
    other-there j k ne e =
        subst (λ (d : Disk). RefinesMachine m refines k (w.held.net.cores j) d) (ap (λ (q : Bool). cond q (keeps (w.disks i) event) (w.disks j)) ne)
        (subst (λ (c : Core Msg). RefinesMachine m refines k c (behind-it j)) (ap (λ (q : Bool). cond q t.core (w.held.net.cores j)) ne) (b.cores j k e))

    -- The core retreats.
    module _ (g later : KeptState M Msg MemoryDisk) (at : slice_get v.nodes i ≡ Some g) (cut : later.node.state.log.entries ≡ take slots g.node.state.log.entries)
        (back : later.node.state.epoch ≡ epoch) (gone : later.stale ≡ true) (kept : later.entries ≡ g.entries) (same : IsSame g later)
        (net : Network) (signed : List (List ℕ)) (hashed : List (List ℕ × List ℕ)) (same_net : net ≡ v.network) (same_signed : signed ≡ v.signed) where
      -- the node that retreats has one entry more than its core's disk
      retreated : HasRetreated m v.setup (node_of v.setup i) later (w.held.net.cores i) (w.disks i)
      retreated = record {
        stale = gone;
        shows = record {
          log = b.log g at ∙ ap (λ (xs : List Value). reverse xs) (sym cut);
          epoch = back ∙ b.epoch;
        };
        entries = inr (
          event,
          kept ∙ (b.cores i g at).entries ∙ ap (λ (d : Disk). shown_by m g.setup g.me.0 d.kept) (set_at-same w.disks i (keeps (w.disks i) event))
              ∙ shown-still g later same (event ∷ (w.disks i).kept),
        );
      }

      left-so : IsLeftBy m refines (Some i) (record { setup = v.setup; nodes = set v.nodes i later; network = net; signed = signed; hashed = hashed }) w
      left-so =
          let left : IsLeft m refines (record { setup = v.setup; nodes = set v.nodes i later; network = net; signed = signed; hashed = hashed }) w =
          record {
            core = i;
            others = λ j k e ne. elim (written v.nodes i j later k lt e) [
              | inl z ↦ absurd (ne z.1)
              | inr z ↦ other-there j k z.0 z.1
            ];
            there = λ k e.
                let is : k ≡ later = some-injective k later (sym e ∙ get-set_same v.nodes i later lt) in
                subst (λ (x : KeptState M Msg MemoryDisk). HasRetreated m v.setup (node_of v.setup i) x (w.held.net.cores i) (w.disks i)) (sym is) retreated;
            network = same_net ∙ b.network;
            signed = subst (λ (xs : List (List ℕ)). AreSigned xs w.held.signed) (sym same_signed) b.signed;
          } in
          (left, refl)

      pub turn-ended : (outcome : Outcome) (end : Evidence) → IsMade t outcome → Some (end_of end) ≡ ends_by v.setup w.held.signed w.held.hashed outcome.early outcome.hashed →
          HasChanged m refines (Some i) (record { setup = v.setup; nodes = set v.nodes i later; network = net; signed = signed; hashed = hashed })
          (with_disks w behind-it (stepped_to v.setup w.held i (Taken t))) (Ended end)
      turn-ended outcome end made is =
          subst (λ (d : Upshot (Held Msg)). HasChanged m refines (Some i) (record { setup = v.setup; nodes = set v.nodes i later; network = net; signed = signed; hashed = hashed })
          (with_disks w behind-it d) (Ended end))
          (sym (turn-ends v.setup w.held i t (end_of end) (sym (is ∙ made-ends v.setup w.held t outcome made))))
          (left-so, refl, refl)

    pub turn-refines : (outcome : Outcome) (net : Network) (signed : List (List ℕ)) (hashed : List (List ℕ × List ℕ)) → IsMade t outcome →
        ends_by v.setup w.held.signed w.held.hashed outcome.early outcome.hashed ≡ None →
        net ≡ posted_all v.setup v.network i outcome.sends → AreSigned signed (booked v.setup i outcome.own ++ w.held.signed) → AreHashed hashed (push_all outcome.hashed w.held.hashed) →
        HasChanged m refines (Some i) (record { setup = v.setup; nodes = v.nodes; network = net; signed = signed; hashed = hashed })
        (with_disks w behind-it (stepped_to v.setup w.held i (Taken t))) Done
    turn-refines outcome net signed hashed made none en es eh =
        subst (λ (d : Upshot (Held Msg)). HasChanged m refines (Some i) (record { setup = v.setup; nodes = v.nodes; network = net; signed = signed; hashed = hashed }) (with_disks w behind-it d) Done)
        (sym (turn-done v.setup w.held i t (sym (made-ends v.setup w.held t outcome made) ∙ none))) (
          record {
            cores = b.cores;
            network = en ∙ ap (λ (u : Network). posted_all v.setup u i outcome.sends) b.network
                ∙ ap (λ (xs : List (To × List ℕ)). posted_all v.setup w.held.net.network i xs) made.sends;
            signed = subst (λ (cs : List Claim). AreSigned signed (booked v.setup i cs ++ w.held.signed)) made.own es;
            hashed = subst (λ (xs : List (List ℕ)). AreHashed hashed (push_all xs w.held.hashed)) made.hashed eh;
          },
          refl,
          refl,
        )
