-- A node that adopts the epochs of a snapshot, and holds nothing else, refines the core that adopts them.
use Rattle.std.proofs.Common.{arith, ◌≡◌, ℕ, suc, ◌+◌, ◌*◌, ◌<◌, ◌≤◌, false, ◌||◌, Some, List, [], ◌∷◌, ◌++◌, length, reverse, refl, sym, ap, ◌∙◌, subst}
use Rattle.std.specs.Prelude.{fold}
use Rattle.iss_ballots.specs.Ballots.{AreKept, BallotsState}
use Rattle.iss_buckets.specs.Waiting.{AreNew, absent}
use Rattle.iss_checkpoint.specs.declared.votes.Cert.{Cert}
use Rattle.iss_keys.specs.KeyStates.{KeyState}
use Rattle.iss_keys.specs.Directories.{AreKeysOf}
use Rattle.iss_model.specs.Node.{Core, after_growth, returned}
use Rattle.iss_model.specs.Sound.{IsSoundCore}
use Rattle.iss_node.proofs.EpochEnd.EpochEndRefines.{complete-is}
use Rattle.iss_node.proofs.EpochEnd.LeafIsKept.{lasts-at}
use Rattle.iss_node.proofs.EpochEnd.NextEpochStarts.{next-parts}
use Rattle.iss_node.proofs.Log.LogIsDelivered.{has-slots, start-is}
use Rattle.iss_node.proofs.StateTransfer.EpochIsFilled.{core-is, grown_core, is-over, long, new-log, settled, size}
use Rattle.iss_node.specs.Internal.Growth.{AreJoined, waits_on}
use Rattle.iss_node.specs.Internal.Inputs.{HasAppliedDeliveries, IsChained}
use Rattle.iss_node.specs.Internal.Rebuilding.{HasBegun, IsEmptied, emptied}
use Rattle.iss_node.specs.Internal.Shape.{IsNodeState}
use Rattle.iss_node.specs.Internal.Transfers.{at_slots}
use Rattle.iss_node.specs.State.{RefinesBareCore, RefinesPast, StateRefinesCore, StateView, bare, core_of}
use Rattle.iss_node.specs.Steps.{IsLater, IsNextEpoch}
use Rattle.iss_node.specs.declared.answers.Early.{Early}
use Rattle.iss_rebuilt.specs.Reading.{adopts_epochs}
use Rattle.iss_request.specs.Log.{has_id, log_ids}
use Rattle.iss_request.specs.declared.ids.NodeId.{NodeId}
use Rattle.iss_request.specs.declared.ids.ReqId.{ReqId}
use Rattle.iss_request.specs.declared.ids.Slot.{Slot}
use Rattle.iss_request.specs.declared.requests.Batch.{Batch}
use Rattle.iss_request.specs.declared.requests.Value.{Value}
use Rattle.iss_request.specs.declared.setups.Setup.{Setup}
use Rattle.iss_rules.proofs.Pieces.{adopts-settled}
use Rattle.iss_rules.specs.Concrete.{rules_of}
use Rattle.iss_rules.specs.Past.{Past, Piece, adopted_at, adopts, is_complete, log_of, start_of}
use Rattle.iss_rules.specs.Rules.{Rules}
use Rattle.iss_sb.specs.Evidence.{Item, Module}
use Rattle.iss_sb.specs.declared.effects.Params.{Params}
use Rattle.iss_segment.specs.Ground.{noted_before}
use Rattle.iss_window.specs.Kept.{RefinesNoted}

-- A core that holds no request is sound if its past is.
pub spare-sound : {Msg : Type 0} (R : Rules) (m : Module Msg) (me : ℕ) (past : Past Msg) (leaf : ℕ) → start_of R (log_of R m me past) past.epoch ≤ length (log_of R m me past) →
    ((e k : ℕ) (v : Value) → adopted_at past.adopted e k ≡ Some v → e < past.epoch) → ((e l : ℕ) → past.epoch < e → past.evidence e l ≡ []) →
    IsSoundCore R m me (emptied past [] leaf)
spare-sound R m me past leaf reached settled unborn = record {
  different = tt;
  signed = λ q i. absurd i;
  inside = λ x i k. absurd i;
  unordered = λ x i k. absurd i;
  reached = reached;
  settled = settled;
  unborn = unborn;
}

-- ---- one epoch

module _ {M Msg : Type 0} (m : Module Msg) (refines : M → Params → ℕ → List (Item Msg) → Type 0)
    (v u w : StateView M Msg) (shape : IsNodeState m v) (values : List Value) (whole : length values ≡ v.setup.epoch) (hashed strings : List (List ℕ)) (early : List (Early Msg))
    (grown : HasAppliedDeliveries v u (at_slots v.plan.start values)) (chained : IsChained v u hashed strings)
    (begun : IsNextEpoch refines u w early) (later : IsLater u w)
    (past : Past Msg) (certs : List Cert) (leaf : ℕ) (h : IsEmptied m refines v past certs leaf) where
  tied : RefinesPast m refines v past
  tied = h.core.state.tied

  abbrev piece : Piece
  piece = record { epoch = past.epoch; values = values }

  abbrev next : Past Msg
  next = adopts past piece

  -- The core that adopted the epoch holds nothing.
  nothing-held : grown_core m refines v shape past tied values whole u.log grown.held grown.grown ≡ bare (emptied next certs leaf)
  nothing-held =
      ap (λ (c : Core Msg). let d : Core Msg = record (after_growth (rules_of v.setup) m v.me.0 c next c.leaf) { early = [] } in d) (sym h.core.state.core)

  reached : start_of (rules_of v.setup) (log_of (rules_of v.setup) m v.me.0 next) (suc past.epoch) ≤ length (log_of (rules_of v.setup) m v.me.0 next)
  reached =
      let start = start-is v.setup (log_of (rules_of v.setup) m v.me.0 next) (suc past.epoch) in
      let log = ap (λ (ys : List Value). length ys) (new-log m refines v shape past tied values whole u.log grown.held grown.grown) in
      let size = long m refines v shape past tied values whole u.log grown.held grown.grown in
      omega (arith, start, log, size)

  spare : IsSoundCore (rules_of v.setup) m v.me.0 (emptied next [] leaf)
  spare = spare-sound (rules_of v.setup) m v.me.0 next leaf reached
      (adopts-settled (rules_of v.setup) past piece refl (settled m refines v shape past tied values whole u.log grown.held grown.grown)).all
      (λ e l lt. tied.sound.unborn e l (omega (arith, lt)))

  sound : IsSoundCore (rules_of v.setup) m v.me.0 (grown_core m refines v shape past tied values whole u.log grown.held grown.grown)
  sound = subst (λ (c : Core Msg). IsSoundCore (rules_of v.setup) m v.me.0 c) (sym nothing-held) spare

  chain : AreJoined v.chains v.log.entries grown.grown.joined u.chains hashed strings
  chain = chained.joined grown.grown.joined grown.grown.entries tied.chained

  refined : RefinesBareCore m refines w (bare (emptied next certs leaf))
  refined =
      let returns : (all : List ReqId) (bf : List Value) → RefinesNoted v.windows (noted_before bf) → ((x : ReqId) → has_id x all ≡ (has_id x u.logged || has_id x (log_ids bf))) →
      AreNew (fold waits_on v.waiting grown.grown.joined) (absent all (returned (reverse u.log.entries) v.flight.casts)) →
      u.waiting ≡ fold waits_on v.waiting grown.grown.joined ++ absent all (returned (reverse u.log.entries) v.flight.casts) =
      λ all bf noted members fresh. grown.landed.waiting all (record { before = bf; noted = noted; members = members }) fresh in
      let over = is-over m refines v shape past tied values whole u.log grown.held grown.grown sound u.chains chain.chained u.waiting u.flight u.logged v.ballots grown.logged grown.landed.landed returns in
      let is = core-is m refines v shape past tied values whole u.log grown.held grown.grown sound u.chains chain.chained u.waiting u.flight u.logged v.ballots grown.logged grown.landed.landed returns in
      let from : IsNextEpoch refines (record v { log = u.log; chains = u.chains; logged = u.logged; flight = u.flight; waiting = u.waiting; ballots = v.ballots }) w early =
      subst (λ (z : StateView M Msg). IsNextEpoch refines z w early) grown.rest begun in
      subst (λ (c : Core Msg). RefinesBareCore m refines w c) (sym is ∙ nothing-held) (next-parts m refines _ shape.slots _ _ over w early from)

  setup-same : w.setup ≡ v.setup
  setup-same = later.setup ∙ ap (λ (z : StateView M Msg). z.setup) grown.rest

  -- The log ends where the next epoch starts.
  unfinished : is_complete (rules_of w.setup) m w.me.0 next ≡ false
  unfinished =
      let log : length w.log.entries ≡ length u.log.entries =
      ap (λ (z : StateView M Msg). length z.log.entries) begun.new_is
      ∙ ap (λ (z : StateView M Msg). length z.log.entries) begun.opened.rest
      ∙ ap (λ (z : StateView M Msg). length z.log.entries) begun.rest in
      let all = size m refines v shape past tied values whole u.log grown.held grown.grown in
      let start : w.plan.start ≡ suc past.epoch * v.setup.epoch = refined.tied.start ∙ ap (λ (s : Setup). suc past.epoch * s.epoch) setup-same in
      let first_slot = tied.start in
      let some : 0 < v.setup.epoch = (has-slots v.setup shape.good.good).some [] 0 in
      let more : 0 < w.setup.epoch = subst (λ (s : Setup). 0 < s.epoch) (sym setup-same) some in
      sym (complete-is m refines w next refined.tied) ∙ lasts-at w (omega (arith, log, all, start, first_slot)) more

  pub adopted-epoch : IsEmptied m refines w next certs leaf
  adopted-epoch = record {
    core = record {
      state = refined;
      kept = subst (λ (b : BallotsState). AreKept b [] certs) (sym (later.ballots ∙ ap (λ (z : StateView M Msg). z.ballots) grown.rest)) h.core.kept;
    };
    unfinished = unfinished;
  }

-- ---- several epochs

pub adopts-next : {Msg : Type 0} (past : Past Msg) (done : List (List Value)) (values : List Value) →
    adopts_epochs past (done ++ values ∷ []) ≡ adopts (adopts_epochs past done) (record { epoch = (adopts_epochs past done).epoch; values = values })
adopts-next past [] values = refl
adopts-next past (x ∷ done) values = adopts-next (adopts past (record { epoch = past.epoch; values = x })) done values

pub adopts-count : {Msg : Type 0} (past : Past Msg) (epochs : List (List Value)) → (adopts_epochs past epochs).epoch ≡ past.epoch + length epochs
adopts-count past [] = omega arith
adopts-count past (x ∷ more) = let n = adopts-count (adopts past (record { epoch = past.epoch; values = x })) more in omega (arith, n)

-- ---- before the first epoch

-- Certificates are added, and requests and votes are forgotten.
module _ {M Msg : Type 0} (m : Module Msg) (refines : M → Params → ℕ → List (Item Msg) → Type 0) (v w : StateView M Msg) (c : Core Msg) (h : StateRefinesCore m refines v c)
    (early : c.early ≡ []) (flight : c.flight ≡ []) (lasts : is_complete (rules_of v.setup) m v.me.0 c.past ≡ false) (leaf : ℕ) (certs : List Cert) (begun : HasBegun leaf certs v w) where
  was-tied : RefinesPast m refines v c.past
  was-tied = h.state.tied

  landed : v.flight.casts ≡ []
  landed = sym (ap (λ (d : Core Msg). d.flight) h.state.core) ∙ flight

  abbrev after : KeyState → BallotsState → StateView M Msg
  after keys ballots = record v { waiting = []; ballots = ballots; keys = keys }

  new-sound : (keys : KeyState) (ballots : BallotsState) → IsSoundCore (rules_of v.setup) m v.me.0 (core_of (after keys ballots) c.past)
  new-sound keys ballots =
      let spare = spare-sound (rules_of v.setup) m v.me.0 c.past keys.used was-tied.sound.reached was-tied.sound.settled was-tied.sound.unborn in
      subst (λ (fs : List (Slot × Batch)). IsSoundCore (rules_of v.setup) m v.me.0 (record (core_of (after keys ballots) c.past) { flight = fs })) (sym landed)
      (record {
        different = spare.different;
        signed = spare.signed;
        inside = spare.inside;
        unordered = spare.unordered;
        reached = spare.reached;
        settled = spare.settled;
        unborn = spare.unborn;
      })

  tied-after : (keys : KeyState) (ballots : BallotsState) → AreKeysOf v.me.0 v.setup.keys keys → RefinesPast m refines (after keys ballots) c.past
  tied-after keys ballots own = record {
    epoch = was-tied.epoch;
    log = was-tied.log;
    chained = was-tied.chained;
    rests = was-tied.rests;
    standing = was-tied.standing;
    start = was-tied.start;
    begun = was-tied.begun;
    cells = was-tied.cells;
    outside = was-tied.outside;
    hole = was-tied.hole;
    leading = was-tied.leading;
    instances = was-tied.instances;
    accepted = was-tied.accepted;
    logged = was-tied.logged;
    flown = was-tied.flown;
    sound = new-sound keys ballots;
    keys = own;
  }

  new-keys : AreKeysOf v.me.0 v.setup.keys w.keys
  new-keys = record { own = ap (λ (k : KeyState). k.secret) begun.keys; tall = ap (λ (k : KeyState). k.height) begun.keys }

  new-refined : RefinesBareCore m refines (after w.keys w.ballots) (bare (emptied c.past (reverse certs ++ c.certs) leaf))
  new-refined = record {
    core = λ i. record {
      past = c.past;
      waiting = [];
      flight = sym landed i;
      early = (sym early ∙ ap (λ (d : Core Msg). d.early) h.state.core) i;
      votes = [];
      certs = [];
      leaf = sym (ap (λ (k : KeyState). k.used) begun.keys) i;
    };
    tied = tied-after w.keys w.ballots new-keys;
  }

  pub begun-empty : IsEmptied m refines w c.past (reverse certs ++ c.certs) leaf
  begun-empty = record {
    core = record {
      state = subst (λ (z : StateView M Msg). RefinesBareCore m refines z (bare (emptied c.past (reverse certs ++ c.certs) leaf))) (sym begun.rest) new-refined;
      kept = begun.kept c.votes c.certs h.kept;
    };
    unfinished =
        ap (λ (s : Setup). is_complete (rules_of s) m w.me.0 c.past) (ap (λ (z : StateView M Msg). z.setup) begun.rest)
        ∙ (ap (λ (i : NodeId). is_complete (rules_of v.setup) m i.0 c.past) (ap (λ (z : StateView M Msg). z.me) begun.rest) ∙ lasts);
  }
