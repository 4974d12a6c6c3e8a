-- The next epoch starts.
use Rattle.std.proofs.Common.{arith, ◌≡◌, ℕ, ◌+◌, ◌^◌, ◌<◌, Bool, true, false, List, [], ◌∷◌, Option, length, reverse, sym, ap, ◌∙◌, subst, nat_le}
use Rattle.std.specs.List.{filter}
use Rattle.iss_layout.specs.Layout.{Conduct, Ended, IsStanding, Plan, plan_by, slots_from}
use Rattle.iss_rules.specs.Concrete.{rules_of}
use Rattle.iss_rules.specs.Formats.{formats_of}
use Rattle.iss_model.specs.Node.{Turn, claims_in, ended, in_next_epoch, is_nil_at, or_unchanged, takes_early, try_step}
use Rattle.iss_rules.specs.Past.{Past, is_complete}
use Rattle.iss_node.proofs.EpochEnd.EpochEndRefines.{IsOver, complete-is, parts-opened}
use Rattle.iss_node.specs.Internal.Epochs.{AreStarted, HasOpened, appended, notes}
use Rattle.iss_node.specs.Internal.Shape.{IsNodeState}
use Rattle.iss_node.specs.State.{RefinesBareCore, RefinesPast, StateView, core_of, seen_one}
use Rattle.iss_node.proofs.Steps.OutcomesCompose.{early-made}
use Rattle.iss_node.proofs.EpochEnd.StepCompletes.{early-not, early-on, ended-by}
use Rattle.iss_node.specs.Internal.Casts.{IsCut}
use Rattle.iss_node.specs.Entered.{IsEntered}
use Rattle.iss_node.specs.Steps.{IsEnded, IsLater, IsNextEpoch, IsTurnOf, IsTurned}
use Rattle.iss_node.specs.declared.answers.Outcome.{Outcome}
use Rattle.iss_sb.specs.declared.effects.Input.TheVariants.{Receive}
use Rattle.iss_node.specs.declared.answers.Accepted.{Accepted}
use Rattle.iss_node.specs.declared.answers.Early.{Early}
use Rattle.iss_request.specs.declared.ids.ReqId.{ReqId}
use Rattle.iss_request.specs.declared.requests.Batch.{Batch}
use Rattle.iss_request.specs.declared.ids.Slot.{Slot}
use Rattle.iss_request.specs.declared.requests.Value.{Value}
use Rattle.iss_sb.specs.Calls.{AreToNodes}
use Rattle.iss_sb.specs.Evidence.{Item, Module}
use Rattle.iss_sb.specs.declared.effects.Claim.{Claim}
use Rattle.iss_sb.specs.declared.effects.Params.{Params}
use Rattle.iss_segment.specs.Instance.{SegmentState}
use Rattle.iss_window.specs.Kept.{Kept, RefinesNoted}
use Rattle.iss_window.specs.Window.{Noted, and_closed}

-- A state with fresh instances keeps the invariant.
pub opened-shape : {M Msg : Type 0} (m : Module Msg) (refines : M → Params → ℕ → List (Item Msg) → Type 0) (v : StateView M Msg) → IsNodeState m v →
    (e start : ℕ) (c : ℕ → Conduct) (plan : Plan) (gs : List (Option (SegmentState M))) → start + v.setup.epoch < 2 ^ 64 → plan ≡ plan_by v.setup e start c →
    AreStarted refines v.setup v.me e plan gs → length gs ≡ v.setup.n → (accepted : List Accepted) (logged : List ReqId) →
    IsNodeState m (record v { epoch = e; plan = plan; segments = gs; accepted = accepted; logged = logged })
opened-shape m refines v shape e start c plan gs fits is started count accepted logged =
    let at : plan.start ≡ start = ap (λ (p : Plan). p.start) is in
    record {
      good = shape.good;
      me = shape.me;
      directory = shape.directory;
      count = count;
      slots = ap (λ (p : Plan). p.slots) is;
      nodes = ap (λ (p : Plan). p.nodes) is;
      fits = omega (arith, at, fits);
      segments = λ l g h. record {
        setup = ap (λ (p : Params). p.setup) (started.params l g h);
        leader = ap (λ (p : Params). p.leader.0) (started.params l g h);
        node = started.node l g h;
      };
      early = shape.early;
      version = shape.version;
      voters = shape.voters;
    }

-- The invariant holds without early messages.
pub emptied-shape : {M Msg : Type 0} (m : Module Msg) (v : StateView M Msg) → IsNodeState m v → IsNodeState m (record v { early = [] })
emptied-shape m v h = record {
  good = h.good;
  me = h.me;
  directory = h.directory;
  count = h.count;
  slots = h.slots;
  nodes = h.nodes;
  fits = h.fits;
  segments = h.segments;
  early = tt;
  version = h.version;
  voters = h.voters;
}

-- If the epoch is complete, the state with the next epoch started refines the core in that epoch.
module _ {M Msg : Type 0} (m : Module Msg) (refines : M → Params → ℕ → List (Item Msg) → Type 0)
    (v : StateView M Msg) (slots : v.plan.slots ≡ v.setup.epoch) (before : List Value) (past : Past Msg) (over : IsOver m v before past) where
  inner : v.plan.start + v.setup.epoch + v.setup.epoch < 2 ^ 64 → (standing : List Conduct) (windows : Kept) (w : StateView M Msg) →
      ((p : List Ended) → IsStanding v.setup p v.standing → IsStanding v.setup (record { plan = v.plan; nils = filter (λ (s : Slot). is_nil_at (reverse v.log.entries) s.0) (slots_from v.plan.start v.setup.epoch) } ∷ p) standing) →
      ((n : Noted) → RefinesNoted v.windows n → RefinesNoted windows (and_closed (notes n v.logged))) → windows.width ≡ v.windows.width →
      HasOpened refines (record v { standing = standing; windows = windows }) w (v.epoch + 1) (v.plan.start + v.setup.epoch) → RefinesBareCore m refines (record w { early = [] }) (in_next_epoch (core_of v past))
  inner fits standing windows w learned closed width o =
      subst (λ (z : StateView M Msg). RefinesBareCore m refines (record z { early = [] }) (in_next_epoch (core_of v past))) (sym o.rest)
      (parts-opened m refines v slots before past over windows standing w.plan w.segments fits learned closed width o.plan o.started)

  pub next-parts : (w : StateView M Msg) (early : List (Early Msg)) → IsNextEpoch refines v w early → RefinesBareCore m refines w (in_next_epoch (core_of v past))
  next-parts w early h =
      subst (λ (z : StateView M Msg). RefinesBareCore m refines z (in_next_epoch (core_of v past))) (sym h.new_is)
      (inner h.fits h.over.standing h.over.windows h.begun h.closed.standing h.closed.windows h.closed.width
      (subst (λ (z : StateView M Msg). HasOpened refines z h.begun (v.epoch + 1) (v.plan.start + v.setup.epoch)) h.rest h.opened))

-- The length of the log decides whether the epoch is complete.
pub is-over : {M Msg : Type 0} (m : Module Msg) (refines : M → Params → ℕ → List (Item Msg) → Type 0) (v : StateView M Msg) (b c : Bool) → b ≡ nat_le (v.plan.start + v.setup.epoch) (length v.log.entries) → b ≡ c →
    (past : Past Msg) → RefinesPast m refines v past → is_complete (rules_of v.setup) m v.me.0 past ≡ c
is-over m refines v b c h k past tied = sym (complete-is m refines v past tied) ∙ sym h ∙ k

-- The state right after the start: no batch was accepted in the epoch.
pub begun-so : {M Msg : Type 0} (v : StateView M Msg) (e : ℕ) (plan : Plan) (gs : List (Option (SegmentState M))) (accepted : List Accepted) (logged : List ReqId) → accepted ≡ [] → logged ≡ [] →
    record v { epoch = e; plan = plan; segments = gs; accepted = accepted; logged = logged } ≡ record v { epoch = e; plan = plan; segments = gs; accepted = []; logged = [] }
begun-so v e plan gs accepted logged a l = λ i. record v { epoch = e; plan = plan; segments = gs; accepted = a i; logged = l i }

-- A cut keeps the invariant.
uncut-so : {M Msg : Type 0} (m : Module Msg) (v w : StateView M Msg) → IsNodeState m (record v { waiting = w.waiting; flight = w.flight }) → IsNodeState m v
uncut-so m v w h = record { good = h.good; me = h.me; directory = h.directory; count = h.count; slots = h.slots; nodes = h.nodes; fits = h.fits; segments = h.segments; early = h.early; version = h.version; voters = h.voters }

pub uncut-shape : {M Msg : Type 0} (m : Module Msg) (v u : StateView M Msg) (slot : Slot) (batch : Batch) → IsCut v u slot batch → IsNodeState m u → IsNodeState m v
uncut-shape m v u slot batch h shape = uncut-so m v u (subst (λ (z : StateView _ _). IsNodeState m z) h.rest shape)

-- ---- an early message, and the end of the epoch if it fills it

module _ {M Msg : Type 0} (m : Module Msg) (refines : M → Params → ℕ → List (Item Msg) → Type 0) (v u : StateView M Msg) (later : IsLater v u) (x : Early Msg) (o : Outcome)
    (b : Bool) (asked : b ≡ nat_le (u.plan.start + u.setup.epoch) (length u.log.entries))
    (went : IsTurnOf m refines v (λ F R me c. or_unchanged c (try_step F R m me c x.leader.0 (Receive x.from x.msg))) u o) where
  -- The turn of an early message whose claims were read.
  with-claims : (past : Past Msg) (w : StateView M Msg) (all p : Outcome) (claims : List Claim) → claims ≡ claims_in (rules_of v.setup) m v.me.0 past x.from.0 x.leader.0 x.msg → p ≡ record all { early = claims } →
      IsTurned m refines (ended (formats_of v.setup m) (rules_of v.setup) m v.me.0 (or_unchanged (core_of v past) (try_step (formats_of v.setup m) (rules_of v.setup) m v.me.0 (core_of v past) x.leader.0 (Receive x.from x.msg)))) w all →
      IsTurned m refines (takes_early (formats_of v.setup m) (rules_of v.setup) m v.me.0 (core_of v past) (seen_one x)) w p
  with-claims past w all p claims read is h = record {
    refined = h.refined;
    made = early-made _ all p claims _ read is h.made;
    entered = subst (λ (z : Outcome). IsEntered m w (ended (formats_of v.setup m) (rules_of v.setup) m v.me.0 (or_unchanged (core_of v past) (try_step (formats_of v.setup m) (rules_of v.setup) m v.me.0 (core_of v past) x.leader.0 (Receive x.from x.msg)))).entered z.entered) (sym is) h.entered;
    addressed = subst (λ (z : Outcome). AreToNodes w.setup.n z.sends) (sym is) h.addressed;
  }

  module _ (claims : List Claim) (read : (past : Past Msg) → RefinesPast m refines v past → claims ≡ claims_in (rules_of v.setup) m v.me.0 past x.from.0 x.leader.0 x.msg) (p : Outcome) where
    pub early-stays : (w : StateView M Msg) → w ≡ u → b ≡ false → p ≡ record o { early = claims } → IsTurnOf m refines v (λ F R me c. takes_early F R m me c (seen_one x)) w p
    early-stays w is q with_early = λ past tied.
        let t : Turn Msg = or_unchanged (core_of v past) (try_step (formats_of v.setup m) (rules_of v.setup) m v.me.0 (core_of v past) x.leader.0 (Receive x.from x.msg)) in
        with-claims past w o p claims (read past tied) with_early
        (subst (λ (z : StateView M Msg). IsTurned m refines (ended (formats_of v.setup m) (rules_of v.setup) m v.me.0 t) z o) (sym is)
        (ended-by m refines v u u t o later (early-not m refines u t o (is-over m refines u b false asked q) (went past tied))))

    pub early-goes : (n w : StateView M Msg) → w ≡ n → b ≡ true → (vote : Outcome) (early : List (Early Msg)) → IsEnded m refines u n vote early → IsLater u n → p ≡ record (appended o vote) { early = claims } →
        IsTurnOf m refines v (λ F R me c. takes_early F R m me c (seen_one x)) w p
    early-goes n w is q vote early next after with_early = λ past tied.
        let t : Turn Msg = or_unchanged (core_of v past) (try_step (formats_of v.setup m) (rules_of v.setup) m v.me.0 (core_of v past) x.leader.0 (Receive x.from x.msg)) in
        with-claims past w (appended o vote) p claims (read past tied) with_early
        (subst (λ (z : StateView M Msg). IsTurned m refines (ended (formats_of v.setup m) (rules_of v.setup) m v.me.0 t) z (appended o vote)) (sym is)
        (ended-by m refines v u n t (appended o vote) later (early-on m refines u n t o vote early (is-over m refines u b true asked q) next after (went past tied))))
