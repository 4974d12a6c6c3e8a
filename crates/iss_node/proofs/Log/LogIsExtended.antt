-- What a state that refines a history says about its log, and the effect of a longer log on requests.
use Rattle.std.proofs.Common.{arith, inl, ◌≡◌, ℕ, suc, ◌+◌, ◌-◌, ◌*◌, ◌≤◌, false, List, [], ◌∷◌, ◌++◌, ◌||◌, ◌&&◌, not, length, length-append, take, reverse, refl, sym, ap, ◌∙◌, subst, append_assoc}
use Rattle.std.specs.Prelude.{fold}
use Rattle.std.proofs.lemmas.List.{length-reverse, reverse-append, reverse-reverse}
use Rattle.iss_base.specs.Lists.{Different, Extends}
use Rattle.iss_base.proofs.Lists.{oldest-part, or-flip}
use Rattle.iss_buckets.specs.Waiting.{AreNew, absent, waits}
use Rattle.iss_window.proofs.Members.{has_id-append}
use Rattle.iss_log.specs.Chains.{chain_of, strings_from}
use Rattle.iss_log.specs.LogState.{LogState}
use Rattle.iss_model.proofs.Casts.{joined-newer}
use Rattle.iss_rules.proofs.Epochs.{length-cut}
use Rattle.iss_model.proofs.Flights.{parts-of}
use Rattle.iss_rules.proofs.Ids.{has-not}
use Rattle.iss_rules.proofs.Longest.{Bounded}
use Rattle.iss_rules.specs.Concrete.{rules_of}
use Rattle.iss_model.specs.Node.{Core, after_growth, flown, flying, grown_strings, joined, returned}
use Rattle.iss_rules.specs.Past.{Past, before_own, log_of, start_of}
use Rattle.iss_model.specs.Sound.{carried, held}
use Rattle.iss_node.proofs.WaitingRequests.ProposalsComplete.{still-flown}
use Rattle.iss_node.proofs.WaitingRequests.OrderedLeaveWaiting.{log_ids-append, note-all, waiting-is}
use Rattle.iss_node.proofs.Log.LogIsDelivered.{start-is}
use Rattle.iss_node.specs.Flights.{FlightState, IsCompleted, completed}
use Rattle.iss_node.specs.Internal.Growth.{and_values, waits_on}
use Rattle.iss_node.specs.Internal.Shape.{IsNodeState}
use Rattle.iss_node.specs.State.{RefinesPast, StateView, core_of}
use Rattle.iss_request.specs.Log.{has_id, ids, log_ids}
use Rattle.iss_request.specs.declared.ids.ReqId.{ReqId}
use Rattle.iss_request.specs.declared.ids.Slot.{Slot}
use Rattle.iss_request.specs.declared.requests.Batch.{Batch}
use Rattle.iss_request.specs.declared.requests.Request.{Request}
use Rattle.iss_request.specs.declared.requests.Value.{Value}
use Rattle.iss_request.specs.declared.setups.Setup.{Setup}
use Rattle.iss_sb.specs.Evidence.{Item, Module}
use Rattle.iss_sb.specs.declared.effects.Params.{Params}
use Rattle.iss_segment.specs.Ground.{noted_before}
use Rattle.iss_segment.specs.Instance.{SameIds}
use Rattle.iss_window.specs.Kept.{RefinesNoted}

-- ---- requests that are all different

-- If all identities are different, those after a list are new to it.
pub new-of : (qs w : List Request) → Different (ids (w ++ qs)) → AreNew w qs
new-of [] w d = tt
new-of (q ∷ qs) w d =
    let p = parts-of w (q ∷ qs) d in
    let none : waits q.id w ≡ false = has-not q.id (ids w) (λ i. p.apart q.id i (inl refl)) in
    let rest : Different (ids ((w ++ q ∷ []) ++ qs)) = subst (λ (xs : List Request). Different (ids xs)) (sym (append_assoc w (q ∷ []) qs)) d in
    (none, new-of qs (w ++ q ∷ []) rest)

-- ---- the newest part of a log that is extended

take-over : {A : Type 0} (newer old : List A) (n : ℕ) → take (length newer + n) (newer ++ old) ≡ newer ++ take n old
take-over [] old n = ap (λ (k : ℕ). take k old) (let q : 0 + n ≡ n = omega arith in q)
take-over (x ∷ newer) old n =
    let q : suc (length newer) + n ≡ suc (length newer + n) = omega arith in
    ap (λ (k : ℕ). take k (x ∷ (newer ++ old))) q ∙ ap (λ (xs : List _). x ∷ xs) (take-over newer old n)

pub joined-more : (newer old : List Value) (n : ℕ) → n ≤ length old → joined n (newer ++ old) ≡ newer ++ joined n old
joined-more newer old n le =
    let long = length-append newer old in
    let q : length (newer ++ old) - n ≡ length newer + (length old - n) = omega (arith, long, le) in
    ap (λ (k : ℕ). take k (newer ++ old)) q ∙ take-over newer old (length old - n)

-- A log is its newest part and the rest.
pub split-log : (all low : List Value) (n : ℕ) → n ≡ length low → Extends low all → all ≡ joined n all ++ low
split-log all low n is x =
    let q : joined n all ≡ x.0 = ap (λ (k : ℕ). joined k all) is ∙ ap (λ (ys : List Value). joined (length low) ys) x.1 ∙ joined-newer x.0 low in
    x.1 ∙ ap (λ (ys : List Value). ys ++ low) (sym q)

-- The strings hashed for new values; the model has its log newest first.
pub grown-is : (s : Setup) (entries more old new : List Value) → old ≡ reverse entries → new ≡ reverse (entries ++ more) →
    grown_strings (rules_of s) old new ≡ strings_from s.version (chain_of s.version entries) more
grown-is s entries more old new p q =
    ap (λ (z : List Value). grown_strings (rules_of s) z new) p
    ∙ ap (λ (z : List Value). grown_strings (rules_of s) (reverse entries) z) q
    ∙ ap (λ (z : List Value). strings_from s.version (chain_of s.version z) (reverse (joined (length (reverse entries)) (reverse (entries ++ more))))) (reverse-reverse entries)
    ∙ ap (λ (z : List Value). strings_from s.version (chain_of s.version entries) (reverse z)) (ap (λ (z : List Value). joined (length (reverse entries)) z) (reverse-append entries more) ∙ joined-newer (reverse more) (reverse entries))
    ∙ ap (λ (z : List Value). strings_from s.version (chain_of s.version entries) z) (reverse-reverse more)

-- The requests of a node after a later history: those that wait, those in flight, and the identities of the epoch.
pub record AreRefiled {M Msg : Type 0} (m : Module Msg) (v : StateView M Msg) (past next : Past Msg) (leaf : ℕ) (waiting : List Request) (flight : FlightState) (logged : List ReqId) : Type 0 where
  pub waits : waiting ≡ (after_growth (rules_of v.setup) m v.me.0 (core_of v past) next leaf).waiting
  pub flies : flight.casts ≡ (after_growth (rules_of v.setup) m v.me.0 (core_of v past) next leaf).flight
  pub same : SameIds flight.ids (flown flight.casts)
  pub noted : SameIds logged (log_ids (joined v.plan.start (log_of (rules_of v.setup) m v.me.0 next)))

module _ {M Msg : Type 0} (m : Module Msg) (refines : M → Params → ℕ → List (Item Msg) → Type 0)
    (v : StateView M Msg) (shape : IsNodeState m v) (past : Past Msg) (tied : RefinesPast m refines v past) where
  pub bounded : Bounded past
  bounded = record { evidence = tied.sound.unborn; adopted = tied.sound.settled }

  pub reached : start_of (rules_of v.setup) (log_of (rules_of v.setup) m v.me.0 past) past.epoch ≤ length (log_of (rules_of v.setup) m v.me.0 past)
  reached = tied.sound.reached

  pub bf-long : length (before_own (rules_of v.setup) m v.me.0 past) ≡ past.epoch * v.setup.epoch
  bf-long = length-cut (rules_of v.setup) (log_of (rules_of v.setup) m v.me.0 past) past.epoch reached ∙ start-is v.setup (log_of (rules_of v.setup) m v.me.0 past) past.epoch

  -- The log before the epoch is a prefix of the log.
  pub bf-part : Extends (before_own (rules_of v.setup) m v.me.0 past) (reverse v.log.entries)
  bf-part = subst (λ (xs : List Value). Extends (before_own (rules_of v.setup) m v.me.0 past) xs) tied.log (oldest-part (start_of (rules_of v.setup) (log_of (rules_of v.setup) m v.me.0 past) past.epoch) (log_of (rules_of v.setup) m v.me.0 past))

  -- ---- the log is extended, and a later history has it

  module _ (next : Past Msg) (leaf : ℕ) (log : LogState) (more : List Value) (entries : log.entries ≡ v.log.entries ++ more)
      (new-log : log_of (rules_of v.setup) m v.me.0 next ≡ reverse log.entries)
      (different : Different (ids (held (after_growth (rules_of v.setup) m v.me.0 (core_of v past) next leaf))))
      (waiting : List Request) (flight : FlightState) (logged : List ReqId)
      (joins : logged ≡ fold and_values v.logged more)
      (lands : IsCompleted v.flight flight (length log.entries))
      (returns : (all : List ReqId) (before : List Value) → RefinesNoted v.windows (noted_before before) → ((x : ReqId) → has_id x all ≡ (has_id x logged || has_id x (log_ids before))) →
      AreNew (fold waits_on v.waiting more) (absent all (returned (reverse log.entries) v.flight.casts)) →
      waiting ≡ fold waits_on v.waiting more ++ absent all (returned (reverse log.entries) v.flight.casts)) where
    log-more : reverse log.entries ≡ reverse more ++ reverse v.log.entries
    log-more = ap (λ (ys : List Value). reverse ys) entries ∙ reverse-append v.log.entries more

    low : v.plan.start ≤ length (reverse v.log.entries)
    low = let n = length-reverse v.log.entries in omega (arith, n, tied.begun)

    noted : SameIds logged (log_ids (joined v.plan.start (log_of (rules_of v.setup) m v.me.0 next)))
    noted = λ x.
        ap (λ (ys : List ReqId). has_id x ys) joins
        ∙ note-all x more v.logged
        ∙ ap (λ b. b || has_id x (log_ids (reverse more))) (tied.logged x ∙ ap (λ (ys : List Value). has_id x (log_ids (joined v.plan.start ys))) tied.log)
        ∙ or-flip (has_id x (log_ids (joined v.plan.start (reverse v.log.entries)))) (has_id x (log_ids (reverse more)))
        ∙ sym (has_id-append x (log_ids (reverse more)) (log_ids (joined v.plan.start (reverse v.log.entries))))
        ∙ ap (λ (ys : List ReqId). has_id x ys) (sym (log_ids-append (reverse more) (joined v.plan.start (reverse v.log.entries))))
        ∙ ap (λ (ys : List Value). has_id x (log_ids ys)) (sym (joined-more (reverse more) (reverse v.log.entries) v.plan.start low) ∙ ap (λ (ys : List Value). joined v.plan.start ys) (sym log-more ∙ sym new-log))

    -- The whole log is that of the epoch after the log before it.
    whole : log_of (rules_of v.setup) m v.me.0 next ≡ joined v.plan.start (log_of (rules_of v.setup) m v.me.0 next) ++ before_own (rules_of v.setup) m v.me.0 past
    whole = let q = tied.start in split-log (log_of (rules_of v.setup) m v.me.0 next) (before_own (rules_of v.setup) m v.me.0 past) v.plan.start (q ∙ sym bf-long)
        (subst (λ (ys : List Value). Extends (before_own (rules_of v.setup) m v.me.0 past) ys) (sym (new-log ∙ log-more)) (longer (before_own (rules_of v.setup) m v.me.0 past) (reverse v.log.entries) (reverse more) bf-part))
      where
        longer : (a b c : List Value) → Extends a b → Extends a (c ++ b)
        longer a b c x = (c ++ x.0, ap (λ (ys : List Value). c ++ ys) x.1 ∙ sym (append_assoc c x.0 a))

    members : (x : ReqId) → has_id x (log_ids (log_of (rules_of v.setup) m v.me.0 next)) ≡ (has_id x logged || has_id x (log_ids (before_own (rules_of v.setup) m v.me.0 past)))
    members x =
        ap (λ (ys : List Value). has_id x (log_ids ys)) whole
        ∙ ap (λ (ys : List ReqId). has_id x ys) (log_ids-append (joined v.plan.start (log_of (rules_of v.setup) m v.me.0 next)) (before_own (rules_of v.setup) m v.me.0 past))
        ∙ has_id-append x (log_ids (joined v.plan.start (log_of (rules_of v.setup) m v.me.0 next))) (log_ids (before_own (rules_of v.setup) m v.me.0 past))
        ∙ ap (λ b. b || has_id x (log_ids (before_own (rules_of v.setup) m v.me.0 past))) (sym (noted x))

    still-waits : fold waits_on v.waiting more ≡ absent (log_ids (joined (length (log_of (rules_of v.setup) m v.me.0 past)) (log_of (rules_of v.setup) m v.me.0 next))) v.waiting
    still-waits =
        waiting-is v.log.entries more v.waiting
        ∙ ap (λ (ys : List Value). absent (log_ids (joined (length ys) (reverse (v.log.entries ++ more)))) v.waiting) (sym tied.log)
        ∙ ap (λ (ys : List Value). absent (log_ids (joined (length (log_of (rules_of v.setup) m v.me.0 past)) ys)) v.waiting) (ap (λ (ys : List Value). reverse ys) (sym entries) ∙ sym new-log)

    back-is : absent (log_ids (log_of (rules_of v.setup) m v.me.0 next)) (returned (reverse log.entries) v.flight.casts) ≡ absent (log_ids (log_of (rules_of v.setup) m v.me.0 next)) (returned (log_of (rules_of v.setup) m v.me.0 next) v.flight.casts)
    back-is = ap (λ (ys : List Value). absent (log_ids (log_of (rules_of v.setup) m v.me.0 next)) (returned ys v.flight.casts)) (sym new-log)

    fresh : AreNew (fold waits_on v.waiting more) (absent (log_ids (log_of (rules_of v.setup) m v.me.0 next)) (returned (reverse log.entries) v.flight.casts))
    fresh =
        let core : Core Msg = after_growth (rules_of v.setup) m v.me.0 (core_of v past) next leaf in
        let p = parts-of core.waiting (carried core.flight) different in
        let d = new-of (absent (log_ids (log_of (rules_of v.setup) m v.me.0 next)) (returned (log_of (rules_of v.setup) m v.me.0 next) v.flight.casts))
        (absent (log_ids (joined (length (log_of (rules_of v.setup) m v.me.0 past)) (log_of (rules_of v.setup) m v.me.0 next))) v.waiting) p.left in
        subst (λ (ys : List Request). AreNew ys (absent (log_ids (log_of (rules_of v.setup) m v.me.0 next)) (returned (reverse log.entries) v.flight.casts))) (sym still-waits)
        (subst (λ (zs : List Request). AreNew (absent (log_ids (joined (length (log_of (rules_of v.setup) m v.me.0 past)) (log_of (rules_of v.setup) m v.me.0 next))) v.waiting) zs) (sym back-is) d)

    waiting-core : waiting ≡ (after_growth (rules_of v.setup) m v.me.0 (core_of v past) next leaf).waiting
    waiting-core =
        returns (log_ids (log_of (rules_of v.setup) m v.me.0 next)) (before_own (rules_of v.setup) m v.me.0 past) tied.rests.noted members fresh
        ∙ ap (λ (ys : List Request). ys ++ absent (log_ids (log_of (rules_of v.setup) m v.me.0 next)) (returned (reverse log.entries) v.flight.casts)) still-waits
        ∙ ap (λ (zs : List Request). absent (log_ids (joined (length (log_of (rules_of v.setup) m v.me.0 past)) (log_of (rules_of v.setup) m v.me.0 next))) v.waiting ++ zs) back-is

    long-log : length log.entries ≡ length (log_of (rules_of v.setup) m v.me.0 next)
    long-log = sym (ap (λ (ys : List Value). length ys) new-log ∙ length-reverse log.entries)

    flight-core : flight.casts ≡ flying (length (log_of (rules_of v.setup) m v.me.0 next)) v.flight.casts
    flight-core = lands.casts ∙ ap (λ (n : ℕ). flying n v.flight.casts) long-log

    flown-is : SameIds flight.ids (flown flight.casts)
    flown-is x =
        let p = parts-of v.waiting (carried v.flight.casts) tied.sound.different in
        lands.ids x
        ∙ ap (λ b. b && not (has_id x (flown (completed (length log.entries) v.flight.casts)))) (tied.flown x)
        ∙ sym (still-flown (length log.entries) v.flight.casts x p.right)
        ∙ ap (λ (fs : List (Slot × Batch)). has_id x (flown fs)) (sym lands.casts)

    pub are-refiled : AreRefiled m v past next leaf waiting flight logged
    are-refiled = record { waits = waiting-core; flies = flight-core; same = flown-is; noted = noted }
