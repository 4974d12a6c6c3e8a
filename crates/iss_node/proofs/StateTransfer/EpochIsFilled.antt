-- The values of an epoch fill the slots that have none, and then the log ends with the epoch. This needs no certificate:
-- a piece has one, and an epoch of a snapshot was ended by the node itself.
use Rattle.std.proofs.Common.{arith, inl, inr, ◌≡◌, ℕ, suc, ◌+◌, ◌-◌, ◌*◌, ◌<◌, ◌≤◌, Bool, ◌||◌, cond, List, [], ◌∷◌, ◌++◌, Option, Some, None, length, length-append, reverse, refl, sym, ap, ◌∙◌, subst, le_antisymm}
use Rattle.std.specs.Prelude.{fold}
use Rattle.std.proofs.lemmas.Bool.Decides.{leb_tells}
use Rattle.std.proofs.lemmas.List.{append-nil, length-reverse}
use Rattle.iss_ballots.specs.Ballots.{BallotsState}
use Rattle.iss_base.specs.Lists.{Extends, first_of, nth, oldest}
use Rattle.iss_base.proofs.Lists.{eqb-same, extends-length, extends-refl, first-some, none-some, nth-beyond, nth-some, oldest-all}
use Rattle.iss_buckets.specs.Waiting.{AreNew, absent}
use Rattle.iss_log.specs.Chains.{ChainsState, IsChainOf}
use Rattle.iss_log.specs.LogState.{LogState, value_at}
use Rattle.iss_rules.proofs.Logs.{Settled, log-chain, log-kept, IsLog}
use Rattle.iss_rules.proofs.Longest.{Bounded}
use Rattle.iss_rules.proofs.Pieces.{adopts-later, adopts-settled}
use Rattle.iss_rules.specs.Concrete.{rules_of}
use Rattle.iss_model.specs.Node.{Core, after_growth, in_next_epoch, joined, returned}
use Rattle.iss_rules.specs.Past.{Past, Piece, adopted_at, adopts, before_own, cell, log_of}
use Rattle.iss_model.specs.Sound.{IsSoundCore}
use Rattle.iss_node.proofs.EpochEnd.EpochEndRefines.{IsOver}
use Rattle.iss_node.proofs.Log.LogIsDelivered.{epoch-cell, goes-on, log-is, nothing-adopted, start-is}
use Rattle.iss_node.proofs.Log.EpochSlots.{given-at, not-empty}
use Rattle.iss_node.proofs.Log.LogIsExtended.{AreRefiled, are-refiled, bf-long, bf-part, bounded}
use Rattle.iss_node.specs.Flights.{FlightState, IsCompleted}
use Rattle.iss_node.specs.Internal.Growth.{IsGrown, and_values, waits_on}
use Rattle.iss_node.specs.Internal.Shape.{IsNodeState}
use Rattle.iss_node.specs.State.{RefinesPast, StateView, core_of, slot_value}
use Rattle.iss_node.specs.Internal.Transfers.{at_slots}
use Rattle.iss_request.specs.Log.{has_id, log_ids}
use Rattle.iss_request.specs.declared.ids.ReqId.{ReqId}
use Rattle.iss_request.specs.declared.requests.Request.{Request}
use Rattle.iss_request.specs.declared.requests.Value.{Value}
use Rattle.iss_sb.specs.Evidence.{Item, Module, delivered}
use Rattle.iss_sb.specs.declared.effects.Params.{Params}
use Rattle.iss_segment.specs.Ground.{noted_before}
use Rattle.iss_window.specs.Kept.{RefinesNoted}

module _ {M Msg : Type 0} (m : Module Msg) (refines : M → Params → ℕ → List (Item Msg) → Type 0)
    (v : StateView M Msg) (shape : IsNodeState m v) (past : Past Msg) (tied : RefinesPast m refines v past) (values : List Value) (whole : length values ≡ v.setup.epoch)
    (log : LogState) (count : ℕ) (grown : IsGrown v.log (at_slots v.plan.start values) log count) where
  abbrev pub piece : Piece
  piece = record { epoch = past.epoch; values = values }

  abbrev pub next : Past Msg
  next = adopts past piece

  abbrev pub before : List Value
  before = before_own (rules_of v.setup) m v.me.0 past

  pub settled : Settled (rules_of v.setup) past
  settled = record { all = tied.sound.settled }

  next-bounded : Bounded next
  next-bounded = record { evidence = λ e l lt. tied.sound.unborn e l (omega (arith, lt)); adopted = (adopts-settled (rules_of v.setup) past piece refl settled).all }

  value-is : (k : ℕ) → v.plan.start ≤ k → value_at log k ≡ first_of (value_at v.log k) (nth values (k - v.plan.start))
  value-is k le = grown.values k ∙ ap (λ (o : Option Value). first_of (value_at v.log k) o) (given-at v.plan.start values k le)

  pub outside : (k : ℕ) → v.plan.start + v.setup.epoch ≤ k → value_at log k ≡ None
  outside k le =
      value-is k (omega (arith, le)) ∙ ap (λ (o : Option Value). first_of o (nth values (k - v.plan.start))) (tied.outside k le)
      ∙ nth-beyond values (k - v.plan.start) (omega (arith, le, whole))

  filled : (k : ℕ) → v.plan.start ≤ k → k < v.plan.start + v.setup.epoch → value_at log k ≡ None → ⊥
  filled k lo hi none =
      let n = nth-some values (k - v.plan.start) (omega (arith, lo, hi, whole)) in
      first-some (value_at v.log k) None (nth values (k - v.plan.start)) n.0 n.1 (sym (value-is k lo) ∙ none)

  -- The log ends with the epoch.
  pub size : length log.entries ≡ v.plan.start + v.setup.epoch
  size =
      let more = ap (λ (ys : List Value). length ys) grown.entries in
      let long = length-append v.log.entries grown.joined in
      let low : v.plan.start ≤ length log.entries = let b = tied.begun in omega (arith, b, more, long) in
      let few : length log.entries ≤ v.plan.start + v.setup.epoch = elim (leb_tells (suc (v.plan.start + v.setup.epoch)) (length log.entries)) [
        | inl t ↦ absurd (not-empty log (v.plan.start + v.setup.epoch) t.1 (outside (v.plan.start + v.setup.epoch) (let q : v.plan.start + v.setup.epoch ≤ v.plan.start + v.setup.epoch = omega arith in q)))
        | inr t ↦ omega (arith, t.1)
      ] in
      let far : v.plan.start + v.setup.epoch ≤ length log.entries = elim (leb_tells (v.plan.start + v.setup.epoch) (length log.entries)) [
        | inl t ↦ t.1
        | inr t ↦ absurd (filled (length log.entries) low t.1 grown.hole)
      ] in
      le_antisymm few far

  pub long : length (reverse log.entries) ≡ suc past.epoch * v.setup.epoch
  long = let n = length-reverse log.entries in let k = size in let q = tied.start in omega (arith, n, k, q)

  adopted-is : (i : ℕ) → adopted_at (piece ∷ past.adopted) past.epoch i ≡ nth values i
  adopted-is i =
      ap (λ (b : Bool). first_of (adopted_at past.adopted past.epoch i) (cond b (nth values i) None)) (eqb-same past.epoch)
      ∙ ap (λ (o : Option Value). first_of o (nth values i)) (nothing-adopted v.setup shape.good.good m v.me.0 past (bounded m refines v shape past tied) before (bf-long m refines v shape past tied) i)

  cell-is : (older : List Value) → Extends before older → length older < v.plan.start + v.setup.epoch →
      cell (rules_of v.setup) m v.me.0 next older ≡ first_of (slot_value (rules_of v.setup) m v.me.0 before past (length older)) (nth values (length older - v.plan.start))
  cell-is older x lt =
      let q = tied.start in
      let n = bf-long m refines v shape past tied in
      epoch-cell v.setup shape.good.good m v.me.0 next past.epoch before n older x (omega (arith, lt, q))
      ∙ ap (λ (o : Option Value). first_of (slot_value (rules_of v.setup) m v.me.0 before past (length older)) o) (adopted-is (length older - length before))
      ∙ ap (λ (k : ℕ). first_of (slot_value (rules_of v.setup) m v.me.0 before past (length older)) (nth values (length older - k))) (n ∙ sym q)

  holds : (front : List Value) → Extends before (reverse front) → (x : Value) → value_at log (length front) ≡ Some x → cell (rules_of v.setup) m v.me.0 next (reverse front) ≡ Some x
  holds front over x is =
      let n = length-reverse front in
      let low = extends-length before (reverse front) over in
      let len = bf-long m refines v shape past tied in
      let q = tied.start in
      elim (leb_tells (v.plan.start + v.setup.epoch) (length front)) [
        | inl t ↦ absurd (none-some x (sym (outside (length front) t.1) ∙ is))
        | inr t ↦
            let lt : length (reverse front) < v.plan.start + v.setup.epoch = omega (arith, n, t.1) in
            let lo : v.plan.start ≤ length front = omega (arith, n, low, len, q) in
            cell-is (reverse front) over lt
            ∙ ap (λ (k : ℕ). first_of (slot_value (rules_of v.setup) m v.me.0 before past k) (nth values (k - v.plan.start))) n
            ∙ ap (λ (o : Option Value). first_of o (nth values (length front - v.plan.start))) (sym (tied.cells (length front) lo t.1))
            ∙ sym (value-is (length front) lo) ∙ is
      ]

  pub whole-log : Extends before (reverse log.entries) × IsLog (rules_of v.setup) m v.me.0 next (reverse log.entries)
  whole-log =
      let was : IsLog (rules_of v.setup) m v.me.0 past (reverse v.log.entries) = subst (λ (ys : List Value). IsLog (rules_of v.setup) m v.me.0 past ys) tied.log (log-chain (rules_of v.setup) m v.me.0 past) in
      goes-on v.setup m v.me.0 next before log holds grown.joined v.log.entries grown.entries (bf-part m refines v shape past tied)
      (log-kept (rules_of v.setup) m v.me.0 past next (adopts-later (rules_of v.setup) past piece settled) (reverse v.log.entries) was)

  pub new-log : log_of (rules_of v.setup) m v.me.0 next ≡ reverse log.entries
  new-log =
      let q = tied.start in
      let over : (k : ℕ) → suc past.epoch * v.setup.epoch ≤ k → value_at log k ≡ None = λ k le. outside k (omega (arith, q, le)) in
      let none : (k : ℕ) → slot_value (rules_of v.setup) m v.me.0 (reverse log.entries) next k ≡ None = λ k.
      let l = (rules_of v.setup).leader (reverse log.entries) (suc past.epoch) k in
      ap (λ (ys : List (Item Msg)). delivered m ((rules_of v.setup).params (reverse log.entries) (suc past.epoch) l) v.me.0 ys k) (tied.sound.unborn (suc past.epoch) l (omega arith)) in
      log-is v.setup shape.good.good m v.me.0 next next-bounded (reverse log.entries) long log
      (λ k lo hi. over k lo ∙ sym (none k)) (λ k le. over k (omega (arith, le))) grown.hole
      log.entries [] (sym (append-nil log.entries)) (extends-refl (reverse log.entries)) whole-log.1

  pub next-own : before_own (rules_of v.setup) m v.me.0 next ≡ reverse log.entries
  next-own =
      ap (λ (k : ℕ). oldest k (log_of (rules_of v.setup) m v.me.0 next)) (start-is v.setup (log_of (rules_of v.setup) m v.me.0 next) (suc past.epoch))
      ∙ ap (λ (ys : List Value). oldest (suc past.epoch * v.setup.epoch) ys) new-log
      ∙ oldest-all (suc past.epoch * v.setup.epoch) (reverse log.entries) (let n = long in omega (arith, n))

  -- ---- the state before the next epoch starts

  -- The core whose log has them, without votes and certificates.
  abbrev pub grown_core : Core Msg
  grown_core = record (after_growth (rules_of v.setup) m v.me.0 (core_of v past) next v.keys.used) { early = [] }

  module _ (sound : IsSoundCore (rules_of v.setup) m v.me.0 grown_core) (chains : ChainsState) (chained : IsChainOf chains (v.log.entries ++ grown.joined)) (waiting : List Request) (flight : FlightState) (logged : List ReqId) (ballots : BallotsState)
      (joins : logged ≡ fold and_values v.logged grown.joined)
      (lands : IsCompleted v.flight flight (length log.entries))
      (returns : (all : List ReqId) (bf : List Value) → RefinesNoted v.windows (noted_before bf) → ((x : ReqId) → has_id x all ≡ (has_id x logged || has_id x (log_ids bf))) →
      AreNew (fold waits_on v.waiting grown.joined) (absent all (returned (reverse log.entries) v.flight.casts)) →
      waiting ≡ fold waits_on v.waiting grown.joined ++ absent all (returned (reverse log.entries) v.flight.casts)) where
    abbrev pub after : StateView M Msg
    after = record v { log = log; chains = chains; logged = logged; flight = flight; waiting = waiting; ballots = ballots }

    -- The history with the adopted epoch.
    abbrev pub with_it : Past Msg
    with_it = record past { adopted = piece ∷ past.adopted }

    filed : AreRefiled m v past next v.keys.used waiting flight logged
    filed = are-refiled m refines v shape past tied next v.keys.used log grown.joined grown.entries new-log sound.different waiting flight logged joins lands returns

    pub core-is : grown_core ≡ in_next_epoch (core_of after with_it)
    core-is = λ t. record { past = next; waiting = sym filed.waits t; flight = sym filed.flies t; early = []; votes = []; certs = []; leaf = v.keys.used }

    pub is-over : IsOver m after before with_it
    is-over = record {
      epoch = tied.epoch;
      log = new-log;
      own = next-own;
      long = long;
      chained = subst (λ (ys : List Value). IsChainOf chains ys) (sym grown.entries) chained;
      rests = tied.rests;
      standing = tied.standing;
      start = tied.start;
      size = bf-long m refines v shape past tied;
      part = whole-log.0;
      outside = outside;
      hole = grown.hole;
      logged = λ x. filed.noted x ∙ ap (λ (ys : List Value). has_id x (log_ids (joined v.plan.start ys))) new-log;
      flown = filed.same;
      unborn = λ l. tied.sound.unborn (suc past.epoch) l (omega arith);
      sound = subst (λ (c : Core Msg). IsSoundCore (rules_of v.setup) m v.me.0 c) core-is sound;
      keys = tied.keys;
    }
