-- At the end of an epoch the node refines the core in the next one.
use Rattle.std.proofs.Common.{arith, ◌≡◌, ℕ, suc, ◌+◌, ◌-◌, ◌*◌, ◌^◌, ◌<◌, ◌≤◌, Bool, true, false, get_or, add-one, List, [], ◌∷◌, ◌++◌, ◌||◌, Option, None, length, take, reverse, refl, sym, ap, ◌∙◌, subst, nat_le}
use Rattle.std.specs.List.{filter}
use Rattle.std.proofs.Math.Seq.{take-suc}
use Rattle.std.proofs.lemmas.List.{length-reverse}
use Rattle.iss_base.specs.Lists.{Extends}
use Rattle.iss_window.proofs.Members.{has_id-append}
use Rattle.iss_layout.proofs.PastLemmas.{epochs-kept, slots-in}
use Rattle.iss_layout.specs.Layout.{Conduct, Ended, IsStanding, Plan, conduct_of, epochs, next_ended, nils_in, plan_by, slots_from, slots_in}
use Rattle.iss_keys.specs.Directories.{AreKeysOf}
use Rattle.iss_log.specs.Chains.{IsChainOf}
use Rattle.iss_log.specs.LogState.{value_at}
use Rattle.iss_model.proofs.Casts.{ends-sound}
use Rattle.iss_rules.proofs.Ending.{advanced-log, before-advanced, ended-start}
use Rattle.iss_rules.proofs.Windows.{are-windows}
use Rattle.iss_rules.specs.Concrete.{plan_at, rules_of, start_at}
use Rattle.iss_rules.specs.Formats.{formats_of}
use Rattle.iss_model.specs.Node.{flown, in_next_epoch, is_nil_at, joined}
use Rattle.iss_rules.specs.Past.{Past, advanced, before_own, is_complete, log_of, start_of}
use Rattle.iss_model.specs.Sound.{IsSoundCore}
use Rattle.iss_rules.proofs.Layouts.{start-times}
use Rattle.iss_node.proofs.WaitingRequests.OrderedLeaveWaiting.{log_ids-append}
use Rattle.iss_node.proofs.Log.LogIsExtended.{bf-long, bf-part, bounded, split-log}
use Rattle.iss_node.proofs.Log.LogIsDelivered.{has-slots, start-is}
use Rattle.iss_node.specs.Internal.Epochs.{AreStarted, notes, params_by}
use Rattle.iss_node.specs.Internal.Shape.{IsNodeState}
use Rattle.iss_node.specs.State.{RefinesBareCore, RefinesPast, RefinesPastOver, StateView, core_of, slot_value}
use Rattle.iss_request.specs.Log.{has_id, log_ids, same_id}
use Rattle.iss_request.specs.declared.ids.ReqId.{ReqId}
use Rattle.iss_request.specs.declared.ids.Slot.{Slot}
use Rattle.iss_request.specs.declared.requests.Value.{Value}
use Rattle.iss_sb.specs.Evidence.{Item, Module, accepts, delivered}
use Rattle.iss_sb.specs.declared.effects.Params.{Params}
use Rattle.iss_segment.specs.Ground.{RestsOn, noted_before}
use Rattle.iss_segment.specs.Instance.{RefinesItems, SameIds, SegmentState}
use Rattle.iss_window.proofs.KeptLemmas.{refines-same}
use Rattle.iss_window.specs.Kept.{Kept, RefinesNoted}
use Rattle.iss_window.specs.Window.{Noted, and_closed, and_noted}

-- ---- identities noted by the windows

or-move : (a b c : Bool) → (a || (b || c)) ≡ ((b || a) || c)
or-move true true c = refl
or-move true false c = refl
or-move false true c = refl
or-move false false c = refl

pub noted-all : (id : ReqId) (xs : List ReqId) (n : Noted) → has_id id (notes n xs).all ≡ (has_id id xs || has_id id n.all)
noted-all id [] n = refl
noted-all id (x ∷ xs) n = noted-all id xs (and_noted n x) ∙ or-move (has_id id xs) (same_id id x) (has_id id n.all)

notes-more : (n : Noted) (xs : List ReqId) (x : ReqId) → notes n (xs ++ x ∷ []) ≡ and_noted (notes n xs) x
notes-more n [] x = refl
notes-more n (y ∷ xs) x = notes-more (and_noted n y) xs x

pub notes-next : (n : Noted) (xs : List ReqId) (i : ℕ) (d : ReqId) → i < length xs → notes n (take (i + 1) xs) ≡ and_noted (notes n (take i xs)) (get_or xs i d)
notes-next n xs i d lt =
    let e : take (i + 1) xs ≡ take i xs ++ get_or xs i d ∷ [] = rw add-one (take-suc xs i d lt) in
    ap (λ (ys : List ReqId). notes n ys) e ∙ notes-more n (take i xs) (get_or xs i d)

-- ---- a state whose epoch is complete

-- A history in the next epoch has the same log, all of it before that epoch. `before` is the log before the epoch that
-- ends.
pub record IsOver {M Msg : Type 0} (m : Module Msg) (v : StateView M Msg) (before : List Value) (past : Past Msg) : Type 0 where
  pub epoch : v.epoch ≡ past.epoch
  pub log : log_of (rules_of v.setup) m v.me.0 (advanced past) ≡ reverse v.log.entries
  pub own : before_own (rules_of v.setup) m v.me.0 (advanced past) ≡ reverse v.log.entries
  pub long : length (reverse v.log.entries) ≡ suc past.epoch * v.setup.epoch
  pub chained : IsChainOf v.chains v.log.entries
  pub rests : RestsOn v.setup before past.epoch v.plan v.windows
  pub standing : IsStanding v.setup (epochs v.setup past.epoch before) v.standing
  pub start : v.plan.start ≡ past.epoch * v.setup.epoch
  pub size : length before ≡ past.epoch * v.setup.epoch
  pub part : Extends before (reverse v.log.entries)
  pub outside : (s : ℕ) → v.plan.start + v.setup.epoch ≤ s → value_at v.log s ≡ None
  pub hole : value_at v.log (length v.log.entries) ≡ None
  pub logged : SameIds v.logged (log_ids (joined v.plan.start (reverse v.log.entries)))
  pub flown : SameIds v.flight.ids (flown v.flight.casts)
  pub unborn : (l : ℕ) → past.evidence (suc past.epoch) l ≡ []
  pub sound : IsSoundCore (rules_of v.setup) m v.me.0 (in_next_epoch (core_of v past))
  pub keys : AreKeysOf v.me.0 v.setup.keys v.keys

-- This holds for a state that refines a history with a complete epoch.
pub over-tied : {M Msg : Type 0} (m : Module Msg) (refines : M → Params → ℕ → List (Item Msg) → Type 0) (v : StateView M Msg) (shape : IsNodeState m v) (past : Past Msg) (tied : RefinesPast m refines v past) →
    is_complete (rules_of v.setup) m v.me.0 past ≡ true → IsOver m v (before_own (rules_of v.setup) m v.me.0 past) past
over-tied m refines v shape past tied complete =
    let slots = has-slots v.setup shape.good.good in
    let low = bounded m refines v shape past tied in
    record {
      epoch = tied.epoch;
      log = advanced-log (rules_of v.setup) slots m v.me.0 past low ∙ tied.log;
      own = before-advanced (rules_of v.setup) slots m v.me.0 past low complete ∙ tied.log;
      long =
          sym (sym (start-is v.setup (log_of (rules_of v.setup) m v.me.0 past) (suc past.epoch))
          ∙ ended-start (rules_of v.setup) slots m v.me.0 past low complete
          ∙ ap (λ (ys : List Value). length ys) tied.log);
      chained = tied.chained;
      rests = tied.rests;
      standing = tied.standing;
      start = tied.start;
      size = bf-long m refines v shape past tied;
      part = bf-part m refines v shape past tied;
      outside = tied.outside;
      hole = tied.hole;
      logged = λ x. tied.logged x ∙ ap (λ (ys : List Value). has_id x (log_ids (joined v.plan.start ys))) tied.log;
      flown = tied.flown;
      unborn = λ l. tied.sound.unborn (suc past.epoch) l (omega arith);
      sound = ends-sound (formats_of v.setup m) (rules_of v.setup) m v.me.0 slots (are-windows v.setup) (core_of v past) tied.sound complete;
      keys = tied.keys;
    }

module _ {M Msg : Type 0} (m : Module Msg) (refines : M → Params → ℕ → List (Item Msg) → Type 0)
    (v : StateView M Msg) (slots : v.plan.slots ≡ v.setup.epoch) (before : List Value) (past : Past Msg) (over : IsOver m v before past)
    (windows : Kept) (standing : List Conduct) (plan : Plan) (segments : List (Option (SegmentState M)))
    (fits : v.plan.start + v.setup.epoch + v.setup.epoch < 2 ^ 64)
    (learned : (p : List Ended) → IsStanding v.setup p v.standing →
    IsStanding v.setup (record { plan = v.plan; nils = filter (λ (s : Slot). is_nil_at (reverse v.log.entries) s.0) (slots_from v.plan.start v.setup.epoch) } ∷ p) standing)
    (closed : (n : Noted) → RefinesNoted v.windows n → RefinesNoted windows (and_closed (notes n v.logged)))
    (width : windows.width ≡ v.windows.width)
    (divided : (p : List Ended) → IsStanding v.setup p standing → plan ≡ plan_by v.setup (v.epoch + 1) (v.plan.start + v.setup.epoch) (conduct_of p))
    (started : AreStarted refines v.setup v.me (v.epoch + 1) plan segments) where
  abbrev pub opened : StateView M Msg
  opened = record {
    setup = v.setup;
    me = v.me;
    directory = v.directory;
    epoch = v.epoch + 1;
    plan = plan;
    windows = windows;
    standing = standing;
    segments = segments;
    accepted = [];
    log = v.log;
    chains = v.chains;
    waiting = v.waiting;
    flight = v.flight;
    early = [];
    logged = [];
    ballots = v.ballots;
    saved = v.saved;
    keys = v.keys;
  }

  at : v.epoch + 1 ≡ suc past.epoch
  at = let e = over.epoch in omega (arith, e)

  begins : v.plan.start + v.setup.epoch ≡ suc past.epoch * v.setup.epoch
  begins = let q = over.start in omega (arith, q)

  room : start_at v.setup (reverse v.log.entries) (suc past.epoch) ≡ suc past.epoch * v.setup.epoch
  room = let b = begins in start-times v.setup (reverse v.log.entries) (suc past.epoch) (omega (arith, fits, b))

  -- The epochs of the log are the earlier ones, and the one that ends.
  same-epochs : epochs v.setup past.epoch (reverse v.log.entries) ≡ epochs v.setup past.epoch before
  same-epochs =
      let n = over.size in
      ap (λ (ys : List Value). epochs v.setup past.epoch ys) over.part.1
      ∙ epochs-kept v.setup past.epoch before over.part.0 (omega (arith, n))

  old-plan : v.plan ≡ plan_by v.setup past.epoch (slots_in (epochs v.setup past.epoch (reverse v.log.entries))) (conduct_of (epochs v.setup past.epoch (reverse v.log.entries)))
  old-plan =
      let q = over.start in
      let first : start_at v.setup before past.epoch ≡ past.epoch * v.setup.epoch = start-times v.setup before past.epoch (omega (arith, fits, q)) in
      over.rests.divided
      ∙ ap (λ (k : ℕ). plan_by v.setup past.epoch k (conduct_of (epochs v.setup past.epoch before))) (first ∙ sym (slots-in v.setup past.epoch (reverse v.log.entries)))
      ∙ ap (λ (p : List Ended). plan_by v.setup past.epoch (slots_in (epochs v.setup past.epoch (reverse v.log.entries))) (conduct_of p)) (sym same-epochs)

  ended-is : record { plan = v.plan; nils = filter (λ (s : Slot). is_nil_at (reverse v.log.entries) s.0) (slots_from v.plan.start v.setup.epoch) } ≡ next_ended v.setup past.epoch (reverse v.log.entries) (epochs v.setup past.epoch (reverse v.log.entries))
  ended-is =
      let made : Plan → Ended = λ p. record { plan = p; nils = nils_in p (reverse v.log.entries) } in
      let nils : filter (λ (s : Slot). is_nil_at (reverse v.log.entries) s.0) (slots_from v.plan.start v.setup.epoch) ≡ nils_in v.plan (reverse v.log.entries) =
      ap (λ (k : ℕ). filter (λ (s : Slot). is_nil_at (reverse v.log.entries) s.0) (slots_from v.plan.start k)) (sym slots) in
      ap (λ (ns : List Slot). let x : Ended = record { plan = v.plan; nils = ns } in x) nils ∙ ap made old-plan

  standing-is : IsStanding v.setup (epochs v.setup (suc past.epoch) (reverse v.log.entries)) standing
  standing-is =
      subst (λ (x : Ended). IsStanding v.setup (x ∷ epochs v.setup past.epoch (reverse v.log.entries)) standing) ended-is
      (learned (epochs v.setup past.epoch (reverse v.log.entries)) (subst (λ (p : List Ended). IsStanding v.setup p v.standing) (sym same-epochs) over.standing))

  plan-is : plan ≡ plan_at v.setup (reverse v.log.entries) (suc past.epoch)
  plan-is =
      divided (epochs v.setup (suc past.epoch) (reverse v.log.entries)) standing-is
      ∙ ap (λ (k : ℕ). plan_by v.setup k (v.plan.start + v.setup.epoch) (conduct_of (epochs v.setup (suc past.epoch) (reverse v.log.entries)))) at
      ∙ ap (λ (k : ℕ). plan_by v.setup (suc past.epoch) k (conduct_of (epochs v.setup (suc past.epoch) (reverse v.log.entries)))) (begins ∙ sym room)

  plan-start : plan.start ≡ suc past.epoch * v.setup.epoch
  plan-start = ap (λ (p : Plan). p.start) plan-is ∙ room

  -- The identities of the log are those of the epoch, and those before it.
  members : (x : ReqId) → (has_id x v.logged || has_id x (log_ids before)) ≡ has_id x (log_ids (reverse v.log.entries))
  members x =
      let q = over.start in
      let n = over.size in
      let whole : reverse v.log.entries ≡ joined v.plan.start (reverse v.log.entries) ++ before = split-log (reverse v.log.entries) before v.plan.start (q ∙ sym n) over.part in
      ap (λ b. b || has_id x (log_ids before)) (over.logged x)
      ∙ sym (has_id-append x (log_ids (joined v.plan.start (reverse v.log.entries))) (log_ids before))
      ∙ sym (ap (λ (ys : List ReqId). has_id x ys) (log_ids-append (joined v.plan.start (reverse v.log.entries)) before))
      ∙ sym (ap (λ (ys : List Value). has_id x (log_ids ys)) whole)

  noted-is : RefinesNoted windows (noted_before (reverse v.log.entries))
  noted-is =
      let all : (x : ReqId) → has_id x (notes (noted_before before) v.logged).all ≡ has_id x (log_ids (reverse v.log.entries)) =
      λ x. noted-all x v.logged (noted_before before) ∙ members x in
      refines-same windows (and_closed (notes (noted_before before) v.logged)) (noted_before (reverse v.log.entries))
      (closed (noted_before before) over.rests.noted) all all

  empty : (k : ℕ) → suc past.epoch * v.setup.epoch ≤ k → value_at v.log k ≡ None
  empty k le = let q = over.start in over.outside k (omega (arith, q, le))

  cells : (k : ℕ) → suc past.epoch * v.setup.epoch ≤ k → value_at v.log k ≡ slot_value (rules_of v.setup) m v.me.0 (reverse v.log.entries) (advanced past) k
  cells k le =
      let l = (rules_of v.setup).leader (reverse v.log.entries) (suc past.epoch) k in
      empty k le ∙ sym (ap (λ (ys : List (Item Msg)). delivered m ((rules_of v.setup).params (reverse v.log.entries) (suc past.epoch) l) v.me.0 ys k) (over.unborn l))

  params-is : (l : ℕ) → params_by v.setup (v.epoch + 1) plan l ≡ (rules_of v.setup).params (reverse v.log.entries) (suc past.epoch) l
  params-is l = ap (λ (k : ℕ). params_by v.setup k plan l) at ∙ ap (λ (p : Plan). params_by v.setup (suc past.epoch) p l) plan-is

  tied-over : RefinesPastOver m refines opened (advanced past) (reverse v.log.entries)
  tied-over = record {
    epoch = at;
    log = over.log;
    chained = over.chained;
    rests = record { divided = plan-is; width = width ∙ over.rests.width; noted = noted-is };
    standing = standing-is;
    start = plan-start;
    begun = let n = over.long in let k = length-reverse v.log.entries in let p = plan-start in omega (arith, n, k, p);
    cells = λ k lo hi. let p = plan-start in cells k (omega (arith, p, lo));
    outside = λ k le. let p = plan-start in empty k (omega (arith, p, le));
    hole = over.hole;
    leading = started.leading;
    instances = λ l g h. record {
      params = started.params l g h ∙ params-is l;
      node = started.node l g h;
      instance = subst (λ (ys : List (Item Msg)). RefinesItems refines g ys) (sym (over.unborn l)) (started.instances l g h);
    };
    accepted = λ l. sym (ap (λ (ys : List (Item Msg)). accepts ys) (over.unborn l));
    logged = λ x.
        let p = plan-start in let n = over.long in
        let none : length (reverse v.log.entries) - plan.start ≡ 0 = omega (arith, p, n) in
        sym (ap (λ (ys : List Value). has_id x (log_ids (joined plan.start ys))) over.log ∙ ap (λ (k : ℕ). has_id x (log_ids (take k (reverse v.log.entries)))) none);
    flown = over.flown;
    sound = over.sound;
    keys = over.keys;
  }

  pub parts-opened : RefinesBareCore m refines opened (in_next_epoch (core_of v past))
  parts-opened = record { core = refl; tied = subst (λ (ys : List Value). RefinesPastOver m refines opened (advanced past) ys) (sym over.own) tied-over }

-- ---- whether the epoch is complete

pub complete-is : {M Msg : Type 0} (m : Module Msg) (refines : M → Params → ℕ → List (Item Msg) → Type 0) (v : StateView M Msg) (past : Past Msg) → RefinesPast m refines v past →
    nat_le (v.plan.start + v.setup.epoch) (length v.log.entries) ≡ is_complete (rules_of v.setup) m v.me.0 past
complete-is m refines v past tied =
    let q = tied.start in
    let e : v.plan.start + v.setup.epoch ≡ start_of (rules_of v.setup) (log_of (rules_of v.setup) m v.me.0 past) (suc past.epoch) = let h = start-is v.setup (log_of (rules_of v.setup) m v.me.0 past) (suc past.epoch) in omega (arith, q, h) in
    let n : length v.log.entries ≡ length (log_of (rules_of v.setup) m v.me.0 past) = sym (ap (λ (ys : List Value). length ys) tied.log ∙ length-reverse v.log.entries) in
    ap (λ (k : ℕ). nat_le k (length v.log.entries)) e ∙ ap (λ (k : ℕ). nat_le (start_of (rules_of v.setup) (log_of (rules_of v.setup) m v.me.0 past) (suc past.epoch)) k) n
