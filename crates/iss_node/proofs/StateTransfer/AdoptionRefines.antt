-- Adopting a piece refines the model's step.
use Rattle.std.proofs.Common.{arith, ◌≡◌, ℕ, suc, ◌+◌, ◌-◌, ◌*◌, ◌^◌, ◌<◌, Bool, true, false, ◌&&◌, ◌==◌, ◌||◌, List, [], ◌++◌, Some, length, reverse, refl, sym, ap, ◌∙◌, subst}
use Rattle.std.specs.Prelude.{fold}
use Rattle.std.proofs.lemmas.List.{reverse-reverse}
use Rattle.iss_ballots.specs.Ballots.{AreKept, BallotsState}
use Rattle.iss_base.proofs.Lists.{and-true, is-eq}
use Rattle.iss_buckets.specs.Waiting.{AreNew, absent}
use Rattle.iss_checkpoint.specs.Votes.{Voters, is_cert, voters_of}
use Rattle.iss_checkpoint.specs.declared.votes.Cert.{Cert}
use Rattle.iss_checkpoint.specs.declared.votes.Vote.{Vote}
use Rattle.iss_keys.specs.Directories.{DirectoryView}
use Rattle.iss_log.specs.Chains.{chain_of, end_of, strings_from}
use Rattle.iss_log.specs.LogState.{LogState}
use Rattle.iss_model.proofs.Casts.{adopts-sound, kept-sound}
use Rattle.iss_rules.proofs.Checked.{cert-same, end-same, strings-same}
use Rattle.iss_model.proofs.Steps.{IsAdopted}
use Rattle.iss_rules.proofs.Windows.{are-windows}
use Rattle.iss_rules.specs.Concrete.{rules_of}
use Rattle.iss_rules.specs.Formats.{formats_of}
use Rattle.iss_rules.specs.Parcels.{Formats}
use Rattle.iss_rules.specs.Votes.{cert_on, keeping}
use Rattle.iss_model.specs.Node.{Core, Early as Kept_early, Turn, adopts_piece, grown_strings, joined, returned, takes_each, then_turn}
use Rattle.iss_rules.specs.Past.{Past, Piece, adopts, before_own, log_of}
use Rattle.iss_rules.specs.Rules.{Rules}
use Rattle.iss_model.specs.Sound.{IsSoundCore}
use Rattle.iss_node.proofs.Steps.EntriesCompose.{entry-of}
use Rattle.iss_node.proofs.Steps.VotesDoNotMatter.{each-held, held-entered, onward-held, with_turn}
use Rattle.iss_node.proofs.Instances.ChecksRefine.{goes-trans}
use Rattle.iss_node.proofs.EpochEnd.LeafIsKept.{lasts-at}
use Rattle.iss_node.proofs.EpochEnd.NextEpochStarts.{next-parts}
use Rattle.iss_node.proofs.Log.LogIsDelivered.{has-slots}
use Rattle.iss_node.proofs.StateTransfer.EpochIsFilled.{core-is, grown_core, is-over, new-log, size}
use Rattle.iss_node.proofs.Log.LogIsExtended.{grown-is}
use Rattle.iss_node.specs.Internal.Growth.{AreJoined, IsGrown, waits_on}
use Rattle.iss_node.specs.Internal.Inputs.{HasAppliedDeliveries, IsChained}
use Rattle.iss_node.specs.Internal.Ready.{IsOpen, MayAdopt}
use Rattle.iss_node.specs.Internal.Shape.{IsNodeState}
use Rattle.iss_node.specs.State.{RefinesBareCore, RefinesPast, StateView, bare, core_of, seen_early}
use Rattle.iss_node.specs.Entered.{IsEntryOf}
use Rattle.iss_node.specs.Steps.{IsHeldTurn, IsLater, IsNextEpoch, IsSameNode, IsTurnBehind, IsTurned}
use Rattle.iss_node.specs.Internal.Transfers.{IsAdoptedBy, at_slots}
use Rattle.iss_node.specs.declared.answers.Early.{Early}
use Rattle.iss_node.specs.declared.answers.Outcome.{Outcome}
use Rattle.iss_request.specs.Log.{has_id, log_ids}
use Rattle.iss_request.specs.declared.ids.NodeId.{NodeId}
use Rattle.iss_request.specs.declared.ids.ReqId.{ReqId}
use Rattle.iss_request.specs.declared.requests.Value.{Value}
use Rattle.iss_request.specs.declared.setups.Setup.{Setup}
use Rattle.iss_sb.specs.Calls.{AreToNodes}
use Rattle.iss_sb.specs.Evidence.{Item, Module}
use Rattle.iss_sb.specs.declared.effects.Params.{Params}
use Rattle.iss_sb.specs.declared.effects.To.{To}
use Rattle.iss_segment.specs.Ground.{noted_before}
use Rattle.iss_transfer.specs.Adoption.{adopted_log, adoption, has_shape, log_before, said_in, same_end}
use Rattle.iss_transfer.specs.declared.adopting.Adoption.TheVariants.{Adopt, BadCert, WrongChain, WrongEpoch}
use Rattle.iss_transfer.specs.declared.pieces.Piece.{Piece as Sent_piece}
use Rattle.iss_window.specs.Kept.{RefinesNoted}

-- ---- the result of the check

pub record IsAdoptable (s : Setup) (w : Voters) (log : List Value) (e : ℕ) (p : Sent_piece) (hashed : List (List ℕ)) : Type 0 where
  pub epoch : p.epoch.0 ≡ e
  pub of_epoch : p.cert.epoch.0 ≡ e
  pub whole : length p.values ≡ s.epoch
  pub cert : is_cert w p.cert ≡ true
  pub leads : same_end (end_of s.version (adopted_log s log e p)) (said_in p.cert) ≡ true
  pub strings : hashed ≡ strings_from s.version (chain_of s.version (log_before s log e)) p.values

pub adoption-tells : (s : Setup) (w : Voters) (log : List Value) (e : ℕ) (p : Sent_piece) (hashed : List (List ℕ)) → adoption s w log e p ≡ Adopt hashed → IsAdoptable s w log e p hashed
adoption-tells s w log e p hashed h = go (has_shape s e p) refl (is_cert w p.cert) refl (same_end (end_of s.version (adopted_log s log e p)) (said_in p.cert)) refl h
  where
    wrong : WrongEpoch ≡ Adopt hashed → ⊥
    wrong q = cc

    bad : BadCert ≡ Adopt hashed → ⊥
    bad q = cc

    apart : {a b : _} → WrongChain a b ≡ Adopt hashed → ⊥
    apart q = cc

    same : (x : List (List ℕ)) → Adopt x ≡ Adopt hashed → hashed ≡ x
    same x q = cc

    go : (a : Bool) → has_shape s e p ≡ a → (b : Bool) → is_cert w p.cert ≡ b → (d : Bool) → same_end (end_of s.version (adopted_log s log e p)) (said_in p.cert) ≡ d →
        adoption s w log e p ≡ Adopt hashed → IsAdoptable s w log e p hashed
    go true qa true qb true qd r =
        let parts = and-true (p.epoch.0 == e) ((p.cert.epoch.0 == e) && (length p.values == s.epoch)) qa in
        let more = and-true (p.cert.epoch.0 == e) (length p.values == s.epoch) parts.1 in
        record {
          epoch = is-eq p.epoch.0 e parts.0;
          of_epoch = is-eq p.cert.epoch.0 e more.0;
          whole = is-eq (length p.values) s.epoch more.1;
          cert = qb;
          leads = qd;
          strings = same (strings_from s.version (chain_of s.version (log_before s log e)) p.values) (rw (qa, qb, qd) at r);
        }
    go true qa true qb false qd r = absurd (apart (rw (qa, qb, qd) at r))
    go true qa false qb d qd r = absurd (bad (rw (qa, qb) at r))
    go false qa b qb d qd r = absurd (wrong (rw qa at r))

-- ---- the log with the values of a piece

module _ {M Msg : Type 0} (m : Module Msg) (refines : M → Params → ℕ → List (Item Msg) → Type 0)
    (v : StateView M Msg) (shape : IsNodeState m v) (past : Past Msg) (tied : RefinesPast m refines v past) (p : Sent_piece) (hashed : List (List ℕ))
    (told : IsAdoptable v.setup (voters_of v.setup v.directory) v.log.entries v.epoch p hashed)
    (log : LogState) (count : ℕ) (grown : IsGrown v.log (at_slots v.plan.start p.values) log count) where
  abbrev pub piece : Piece
  piece = record { epoch = past.epoch; values = p.values }

  abbrev pub next : Past Msg
  next = adopts past piece

  abbrev pub before : List Value
  before = before_own (rules_of v.setup) m v.me.0 past

  -- ---- the model adopts it too

  turned-log : v.log.entries ≡ reverse (log_of (rules_of v.setup) m v.me.0 past)
  turned-log = sym (ap (λ (ys : List Value). reverse ys) tied.log ∙ reverse-reverse v.log.entries)

  is-adopted : (F : Formats Msg) → IsAdopted F (rules_of v.setup) m v.me.0 (core_of v past) p
      (then_turn (adopts_piece (rules_of v.setup) m v.me.0 (core_of v past) p) (takes_each F (rules_of v.setup) m v.me.0 (suc past.epoch) (core_of v past).early))
  is-adopted F = record {
    epoch = told.epoch ∙ tied.epoch;
    of_epoch = told.of_epoch ∙ tied.epoch;
    whole = told.whole;
    certified = sym (cert-same v.setup p.cert) ∙ ap (λ (d : DirectoryView). is_cert (voters_of v.setup d) p.cert) (sym shape.directory) ∙ told.cert;
    leads =
        ap (λ (x : _). same_end x (said_in p.cert)) (sym (end-same v.setup (log_of (rules_of v.setup) m v.me.0 past) past.epoch p tied.sound.reached))
        ∙ ap (λ (ys : List Value). same_end (end_of v.setup.version (adopted_log v.setup ys past.epoch p)) (said_in p.cert)) (sym turned-log)
        ∙ ap (λ (e : ℕ). same_end (end_of v.setup.version (adopted_log v.setup v.log.entries e p)) (said_in p.cert)) (sym tied.epoch)
        ∙ told.leads;
    is = refl;
  }

  turn-sound : IsSoundCore (rules_of v.setup) m v.me.0 (adopts_piece (rules_of v.setup) m v.me.0 (core_of v past) p).core
  turn-sound =
      adopts-sound (formats_of v.setup m) (rules_of v.setup) m v.me.0 (has-slots v.setup shape.good.good) (are-windows v.setup) (core_of v past) p _ tied.sound (is-adopted (formats_of v.setup m))

  pub strings-are : (chain : List (List ℕ)) → chain ≡ hashed ++ strings_from v.chains.version (chain_of v.chains.version v.log.entries) grown.joined →
      chain ≡ (rules_of v.setup).hashes before p.values ++ grown_strings (rules_of v.setup) (log_of (rules_of v.setup) m v.me.0 past) (log_of (rules_of v.setup) m v.me.0 next)
  strings-are chain is =
      let own : hashed ≡ (rules_of v.setup).hashes before p.values =
      told.strings
      ∙ ap (λ (e : ℕ). strings_from v.setup.version (chain_of v.setup.version (log_before v.setup v.log.entries e)) p.values) tied.epoch
      ∙ ap (λ (ys : List Value). strings_from v.setup.version (chain_of v.setup.version (log_before v.setup ys past.epoch)) p.values) turned-log
      ∙ strings-same v.setup (log_of (rules_of v.setup) m v.me.0 past) past.epoch p tied.sound.reached in
      is
      ∙ ap (λ (xs : List (List ℕ)). xs ++ strings_from v.chains.version (chain_of v.chains.version v.log.entries) grown.joined) own
      ∙ ap (λ (k : ℕ). (rules_of v.setup).hashes before p.values ++ strings_from k (chain_of k v.log.entries) grown.joined) shape.version
      ∙ ap (λ (xs : List (List ℕ)). (rules_of v.setup).hashes before p.values ++ xs) (sym (grown-is v.setup v.log.entries grown.joined _ _ tied.log (new-log m refines v shape past tied p.values told.whole log count grown ∙ ap (λ (ys : List Value). reverse ys) grown.entries)))

  -- ---- the state before the next epoch starts

  pub grown-sound : IsSoundCore (rules_of v.setup) m v.me.0 (grown_core m refines v shape past tied p.values told.whole log count grown)
  grown-sound = kept-sound (formats_of v.setup m) (rules_of v.setup) m v.me.0 (adopts_piece (rules_of v.setup) m v.me.0 (core_of v past) p).core [] [] [] v.keys.used turn-sound

-- ---- set-up and identity are the same

-- Votes and certificates do not matter for this.
pub kept-same : {M Msg : Type 0} (v u w : StateView M Msg) (ballots : BallotsState) → IsLater v u → IsLater (record u { ballots = ballots }) w → IsSameNode v w
kept-same v u w ballots h g = record { setup = g.setup ∙ h.setup; me = g.me ∙ h.me; saved = g.saved ∙ h.saved; log = goes-trans v.log.entries u.log.entries w.log.entries h.log g.log }

-- ---- the whole adoption

-- The turn of a core without votes and certificates.
abbrev bare_turn : {Msg : Type 0} → Rules → Module Msg → ℕ → Core Msg → Sent_piece → Turn Msg
bare_turn R m me c p =
    let t = adopts_piece R m me c p in
    record t { core = bare t.core; entered = Some (bare (record t.core { early = c.early })) }

-- The next epoch starts behind the adopted one.
module _ {M Msg : Type 0} (m : Module Msg) (refines : M → Params → ℕ → List (Item Msg) → Type 0)
    (v u w : StateView M Msg) (shape : IsNodeState m v) (p : Sent_piece) (hashed strings : List (List ℕ)) (ballots : BallotsState) (early : List (Early Msg))
    (grown : HasAppliedDeliveries v u (at_slots v.plan.start p.values)) (chained : IsChained v u hashed strings)
    (begun : IsNextEpoch refines (record u { ballots = ballots }) w early) (later : IsLater (record u { ballots = ballots }) w) where
  module _ (past : Past Msg) (tied : RefinesPast m refines v past) (told : IsAdoptable v.setup (voters_of v.setup v.directory) v.log.entries v.epoch p hashed) where
    -- The adopted core, without votes and certificates.
    abbrev adopted : Core Msg
    adopted = bare (adopts_piece (rules_of v.setup) m v.me.0 (core_of v past) p).core

    chain : AreJoined v.chains v.log.entries grown.grown.joined u.chains hashed strings
    chain = chained.joined grown.grown.joined grown.grown.entries tied.chained

    adopted-refined : RefinesBareCore m refines w adopted
    adopted-refined =
        let g = grown in
        let returns : (all : List ReqId) (bf : List Value) → RefinesNoted v.windows (noted_before bf) → ((x : ReqId) → has_id x all ≡ (has_id x u.logged || has_id x (log_ids bf))) →
        AreNew (fold waits_on v.waiting g.grown.joined) (absent all (returned (reverse u.log.entries) v.flight.casts)) →
        u.waiting ≡ fold waits_on v.waiting g.grown.joined ++ absent all (returned (reverse u.log.entries) v.flight.casts) =
        λ all bf noted members fresh. g.landed.waiting all (record { before = bf; noted = noted; members = members }) fresh in
        let over = is-over m refines v shape past tied p.values told.whole u.log g.held g.grown (grown-sound m refines v shape past tied p hashed told u.log g.held g.grown) u.chains chain.chained u.waiting u.flight u.logged ballots g.logged g.landed.landed returns in
        let is = core-is m refines v shape past tied p.values told.whole u.log g.held g.grown (grown-sound m refines v shape past tied p hashed told u.log g.held g.grown) u.chains chain.chained u.waiting u.flight u.logged ballots g.logged g.landed.landed returns in
        let with_ballots : StateView M Msg → StateView M Msg = λ z. record z { ballots = ballots } in
        let from : IsNextEpoch refines (record v { log = u.log; chains = u.chains; logged = u.logged; flight = u.flight; waiting = u.waiting; ballots = ballots }) w early =
        subst (λ (z : StateView M Msg). IsNextEpoch refines z w early) (ap with_ballots g.rest) begun in
        subst (λ (c : Core Msg). RefinesBareCore m refines w c) (sym is) (next-parts m refines _ shape.slots _ _ over w early from)

    pub first-turn : (first : Outcome) (bytes : List ℕ) → IsEntryOf m refines w early bytes → first ≡ record { sends = []; own = []; early = []; hashed = strings; entered = Some bytes } →
        IsTurned m refines (bare_turn (rules_of v.setup) m v.me.0 (core_of v past) p) w first
    first-turn first bytes entry is_first = record {
      refined = adopted-refined;
      made = record {
        sends = ap (λ (z : Outcome). z.sends) is_first;
        own = ap (λ (z : Outcome). z.own) is_first;
        early = ap (λ (z : Outcome). z.early) is_first;
        hashed = ap (λ (z : Outcome). z.hashed) is_first ∙ strings-are m refines v shape past tied p hashed told u.log grown.held grown.grown strings chain.strings;
      };
      entered = λ votes certs kept.
          ap (λ (z : Outcome). z.entered) is_first
          ∙ ap (λ (x : List ℕ). Some x)
          (entry-of m refines w early bytes entry adopted adopted-refined (seen_early v.early)
          (ap (λ (xs : List (Early Msg)). seen_early xs) (begun.kept ∙ ap (λ (z : StateView M Msg). z.early) grown.rest)) votes certs kept);
      addressed = subst (λ (xs : List (To × List ℕ)). AreToNodes w.setup.n xs) (sym (ap (λ (z : Outcome). z.sends) is_first)) tt;
    }

  -- It begins open.
  pub adopted-open : MayAdopt m refines v p hashed → IsOpen m refines w
  adopted-open may =
      let past = may.refined.0 in
      let tied = may.refined.1 in
      let told = adoption-tells v.setup (voters_of v.setup v.directory) v.log.entries v.epoch p hashed may.found in
      let there = (adopted-refined past tied told).tied in
      let setup : w.setup ≡ v.setup = later.setup ∙ ap (λ (z : StateView M Msg). z.setup) grown.rest in
      let log : length w.log.entries ≡ length u.log.entries =
      ap (λ (z : StateView M Msg). length z.log.entries) begun.new_is
      ∙ ap (λ (z : StateView M Msg). length z.log.entries) begun.opened.rest
      ∙ ap (λ (z : StateView M Msg). length z.log.entries) begun.rest in
      let all = size m refines v shape past tied p.values told.whole u.log grown.held grown.grown in
      let start : w.plan.start ≡ suc past.epoch * v.setup.epoch = there.start ∙ ap (λ (s : Setup). suc past.epoch * s.epoch) setup in
      let first_slot = tied.start in
      let some : 0 < v.setup.epoch = (has-slots v.setup shape.good.good).some [] 0 in
      let more : 0 < w.setup.epoch = subst (λ (s : Setup). 0 < s.epoch) (sym setup) some in
      record { refined = (_, there); lasts = lasts-at w (omega (arith, log, all, start, first_slot)) more }

-- The values of a piece to be adopted fit behind the first slot.
pub adopted-fits : {M Msg : Type 0} (m : Module Msg) (refines : M → Params → ℕ → List (Item Msg) → Type 0) (v : StateView M Msg) → IsNodeState m v → (p : Sent_piece) (hashed : List (List ℕ)) → MayAdopt m refines v p hashed →
    v.plan.start + length p.values < 2 ^ 64
adopted-fits m refines v shape p hashed may =
    let told = adoption-tells v.setup (voters_of v.setup v.directory) v.log.entries v.epoch p hashed may.found in
    let whole = told.whole in
    let fits = shape.fits in
    omega (arith, whole, fits)

module _ {M Msg : Type 0} (m : Module Msg) (refines : M → Params → ℕ → List (Item Msg) → Type 0)
    (v u w new : StateView M Msg) (shape : IsNodeState m v) (p : Sent_piece) (hashed strings : List (List ℕ)) (ballots : BallotsState) (early : List (Early Msg)) (first o : Outcome)
    (grown : HasAppliedDeliveries v u (at_slots v.plan.start p.values)) (chained : IsChained v u hashed strings)
    (keeps : (votes : List Vote) (certs : List Cert) → AreKept u.ballots votes certs → AreKept ballots votes (keeping certs p.cert (cert_on certs p.cert.epoch.0)))
    (begun : IsNextEpoch refines (record u { ballots = ballots }) w early) (later : IsLater (record u { ballots = ballots }) w)
    (bytes : List ℕ) (entry : IsEntryOf m refines w early bytes) (is_first : first ≡ record { sends = []; own = []; early = []; hashed = strings; entered = Some bytes })
    (each : IsTurnBehind m refines w (λ F R me t. then_turn t (takes_each F R m me w.epoch (seen_early early))) first new o) (last : IsLater w new) where
  pub adopted-all : IsAdoptedBy m refines v p hashed new o
  adopted-all c h found =
      let F = formats_of v.setup m in
      let R = rules_of v.setup in
      let me = v.me.0 in
      let tied = h.state.tied in
      let told = adoption-tells v.setup (voters_of v.setup v.directory) v.log.entries v.epoch p hashed found in
      let e = suc c.past.epoch in
      let certs = keeping c.certs p.cert (cert_on c.certs c.past.epoch) in
      let start : Turn Msg = bare_turn R m me (bare c) p in
      let turned : IsTurned m refines start w first = subst (λ (d : Core Msg). IsTurned m refines (bare_turn R m me d p) w first) (sym h.state.core) (first-turn m refines v u w shape p hashed strings ballots early grown chained begun later c.past tied told first bytes entry is_first) in
      let setup : w.setup ≡ v.setup = later.setup ∙ ap (λ (z : StateView M Msg). z.setup) grown.rest in
      let node : w.me ≡ v.me = later.me ∙ ap (λ (z : StateView M Msg). z.me) grown.rest in
      let epoch : w.epoch ≡ e = turned.refined.tied.epoch in
      let kept : seen_early early ≡ c.early =
      ap (λ (xs : List (Early Msg)). seen_early xs) (begun.kept ∙ ap (λ (z : StateView M Msg). z.early) grown.rest) ∙ sym (ap (λ (d : Core Msg). d.early) h.state.core) in
      let there : IsTurned m refines (then_turn start (takes_each F R m me e c.early)) new o =
      subst (λ (xs : List (Kept_early Msg)). IsTurned m refines (then_turn start (takes_each F R m me e xs)) new o) kept
      (subst (λ (k : ℕ). IsTurned m refines (then_turn start (takes_each F R m me k (seen_early early))) new o) epoch
      (subst (λ (i : NodeId). IsTurned m refines (then_turn start (takes_each F R m i.0 w.epoch (seen_early early))) new o) node
      (subst (λ (s : Setup). IsTurned m refines (then_turn start (takes_each (formats_of s m) (rules_of s) m w.me.0 w.epoch (seen_early early))) new o) setup (each start turned)))) in
      let framed : then_turn (adopts_piece R m me c p) (takes_each F R m me e c.early) ≡ with_turn F R m me c.votes certs (then_turn start (takes_each F R m me e c.early)) =
      onward-held F R m me c.votes certs start (takes_each F R m me e c.early) (each-held F R m me c.votes certs e c.early) in
      let own : AreKept ballots c.votes certs =
      subst (λ (k : ℕ). AreKept ballots c.votes (keeping c.certs p.cert (cert_on c.certs k))) (told.of_epoch ∙ tied.epoch)
      (keeps c.votes c.certs (subst (λ (b : BallotsState). AreKept b c.votes c.certs) (sym (ap (λ (z : StateView M Msg). z.ballots) grown.rest)) h.kept)) in
      subst (λ (z : Turn Msg). IsHeldTurn m refines (Unit {0}) z new o) (sym framed) (record {
        refined = record {
          state = record { core = ap (λ (z : Core Msg). bare z) there.refined.core; tied = there.refined.tied };
          kept = subst (λ (b : BallotsState). AreKept b c.votes certs) (sym (last.ballots ∙ later.ballots)) own;
        };
        made = record { sends = there.made.sends; own = there.made.own; early = there.made.early; hashed = there.made.hashed };
        entered = held-entered m new c.votes certs (subst (λ (b : BallotsState). AreKept b c.votes certs) (sym (last.ballots ∙ later.ballots)) own) (then_turn start (takes_each F R m me e c.early)).entered o.entered there.entered;
        addressed = λ a. there.addressed;
      })
