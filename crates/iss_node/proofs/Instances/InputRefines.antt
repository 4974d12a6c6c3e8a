-- If an instance takes an input, the node refines the core after it.
use Rattle.std.proofs.Common.{arith, inl, inr, ◌≡◌, ◌≢◌, ◌⊎◌, ℕ, ◌+◌, ◌*◌, ◌^◌, ◌<◌, ◌≤◌, true, false, List, [], ◌∷◌, ◌++◌, ◌==◌, ◌||◌, cond, Option, Some, None, length, length-append, reverse, refl, sym, ap, ◌∙◌, subst}
use Rattle.std.specs.Prelude.{fold, is_some}
use Rattle.std.proofs.lemmas.Bool.Decides.{nat_tests}
use Rattle.std.proofs.lemmas.List.{append-nil, reverse-append}
use Rattle.iss_base.specs.Lists.{In, first_of}
use Rattle.iss_base.proofs.Lists.{same_or_not, set_at2-other, set_at2-same}
use Rattle.iss_buckets.specs.Waiting.{AreNew, absent}
use Rattle.iss_keys.specs.Directories.{AreKeysOf}
use Rattle.iss_keys.specs.KeyStates.{KeyState}
use Rattle.iss_layout.proofs.FairLemmas.{fair, good_plan}
use Rattle.iss_layout.specs.Layout.{IsFair, leads, segment}
use Rattle.iss_log.specs.Chains.{ChainsState, IsChainOf, chain_of, strings_from}
use Rattle.iss_log.specs.LogState.{LogState, value_at}
use Rattle.iss_model.proofs.Casts.{inputs-sound}
use Rattle.iss_rules.proofs.Logs.{Later, before-later, log-chain, log-kept, takes-later, IsLog}
use Rattle.iss_rules.proofs.Longest.{Bounded}
use Rattle.iss_rules.specs.Concrete.{number_of, plan_at, rules_of, start_at}
use Rattle.iss_rules.specs.Formats.{formats_of}
use Rattle.iss_rules.specs.Parcels.{Formats}
use Rattle.iss_model.specs.Node.{Core, own_claims, packed, returned, step_unjudged}
use Rattle.iss_rules.specs.Past.{Past, before_own, log_of, params_of, taken_in, takes}
use Rattle.iss_model.specs.Sound.{IsSoundCore}
use Rattle.iss_rules.proofs.Layouts.{start-times}
use Rattle.iss_node.proofs.Instances.DeliveredValues.{slot-in, slot-next}
use Rattle.iss_node.proofs.Log.LogIsDelivered.{log-is}
use Rattle.iss_node.proofs.Log.LogIsExtended.{AreRefiled, are-refiled, bf-long, bf-part, grown-is}
use Rattle.iss_node.specs.Internal.Cells.{given}
use Rattle.iss_node.specs.Flights.{FlightState, IsCompleted}
use Rattle.iss_node.specs.Internal.Growth.{IsGrown, and_values, waits_on}
use Rattle.iss_node.specs.Internal.Inputs.{and_accepted}
use Rattle.iss_node.specs.Internal.Shape.{IsNodeState}
use Rattle.iss_node.specs.State.{RefinesBareCore, RefinesPast, RefinesPastOver, RefinesTaken, StateView, accepted_of, core_of, led, slot_value}
use Rattle.iss_node.specs.Steps.{IsMade}
use Rattle.iss_node.specs.declared.answers.Accepted.{Accepted}
use Rattle.iss_node.specs.declared.answers.Outcome.{Outcome}
use Rattle.iss_request.specs.Log.{has_id, log_ids}
use Rattle.iss_request.specs.declared.ids.NodeId.{NodeId}
use Rattle.iss_request.specs.declared.ids.ReqId.{ReqId}
use Rattle.iss_request.specs.declared.ids.Slot.{Slot}
use Rattle.iss_request.specs.declared.requests.Batch.{Batch}
use Rattle.iss_request.specs.declared.requests.Request.{Request}
use Rattle.iss_request.specs.declared.requests.Value.{Value}
use Rattle.iss_sb.specs.Calls.{AllIn, AreToNodes, IsTaken, slots_of}
use Rattle.iss_sb.specs.Evidence.{Item, Made, Module, accepts, and_then, delivered, one_or_none}
use Rattle.iss_sb.specs.Laws.{IsLawful}
use Rattle.iss_sb.specs.declared.effects.Effects.{Effects}
use Rattle.iss_sb.specs.declared.effects.Input.{Input}
use Rattle.iss_sb.specs.declared.effects.Params.{Params}
use Rattle.iss_sb.specs.declared.effects.To.{To}
use Rattle.iss_segment.specs.Answers.{IsInstanceTaken}
use Rattle.iss_segment.specs.Ground.{noted_before}
use Rattle.iss_segment.specs.Instance.{RefinesItems, SegmentState}
use Rattle.iss_window.specs.Kept.{RefinesNoted}

abbrev pub slot_at : ℕ → Slot
slot_at k = record { 0 = k }

-- ---- lists by leader

accepted-other : (l : ℕ) (k : NodeId) (xs : List Accepted) (a : Option (Slot × Batch)) → k.0 ≢ l → accepted_of l (and_accepted k xs a) ≡ accepted_of l xs
accepted-other l k xs None ne = refl
accepted-other l k [] (Some a) ne = let no : (k.0 == l) ≡ false = grind (arith, nat_tests) in rw no refl
accepted-other l k (x ∷ xs) (Some a) ne = elim (x.leader.0 == l) as (λ b. cond b ((x.slot, x.batch) ∷ accepted_of l (xs ++ record { leader = k; slot = a.0; batch = a.1 } ∷ [])) (accepted_of l (xs ++ record { leader = k; slot = a.0; batch = a.1 } ∷ [])) ≡ cond b ((x.slot, x.batch) ∷ accepted_of l xs) (accepted_of l xs)) [
  | true ↦ ap (λ (ys : List (Slot × Batch)). (x.slot, x.batch) ∷ ys) (accepted-other l k xs (Some a) ne)
  | false ↦ accepted-other l k xs (Some a) ne
]

accepted-own : (k : NodeId) (xs : List Accepted) (a : Option (Slot × Batch)) → accepted_of k.0 (and_accepted k xs a) ≡ accepted_of k.0 xs ++ one_or_none a
accepted-own k xs None = sym (append-nil (accepted_of k.0 xs))
accepted-own k [] (Some a) = let same : (k.0 == k.0) ≡ true = grind (arith, nat_tests) in rw same refl
accepted-own k (x ∷ xs) (Some a) = elim (x.leader.0 == k.0) as (λ b. cond b ((x.slot, x.batch) ∷ accepted_of k.0 (xs ++ record { leader = k; slot = a.0; batch = a.1 } ∷ [])) (accepted_of k.0 (xs ++ record { leader = k; slot = a.0; batch = a.1 } ∷ [])) ≡ cond b ((x.slot, x.batch) ∷ accepted_of k.0 xs) (accepted_of k.0 xs) ++ a ∷ []) [
  | true ↦ ap (λ (ys : List (Slot × Batch)). (x.slot, x.batch) ∷ ys) (accepted-own k xs (Some a))
  | false ↦ accepted-own k xs (Some a)
]

reverse-one : (xs : List (Slot × Batch)) (a : Option (Slot × Batch)) → reverse (xs ++ one_or_none a) ≡ one_or_none a ++ reverse xs
reverse-one xs None = ap (λ (ys : List (Slot × Batch)). reverse ys) (append-nil xs)
reverse-one xs (Some a) = reverse-append xs (a ∷ [])

-- ---- a node in its epoch

module _ {M Msg : Type 0} (m : Module Msg) (refines : M → Params → ℕ → List (Item Msg) → Type 0)
    (v : StateView M Msg) (shape : IsNodeState m v) (past : Past Msg) (tied : RefinesPast m refines v past) where
  abbrev pub bf : List Value
  bf = before_own (rules_of v.setup) m v.me.0 past

  pub begins : start_at v.setup (before_own (rules_of v.setup) m v.me.0 past) past.epoch ≡ past.epoch * v.setup.epoch
  begins = let f = shape.fits in let q = tied.start in start-times v.setup (before_own (rules_of v.setup) m v.me.0 past) past.epoch (omega (arith, f, q))

  pub own-fair : IsFair (plan_at v.setup (before_own (rules_of v.setup) m v.me.0 past) past.epoch)
  own-fair =
      let f = shape.fits in let q = tied.start in let b = begins in
      let fits : start_at v.setup (before_own (rules_of v.setup) m v.me.0 past) past.epoch + v.setup.epoch ≤ 2 ^ 64 = omega (arith, f, q, b) in
      fair (plan_at v.setup (before_own (rules_of v.setup) m v.me.0 past) past.epoch) (good_plan v.setup past.epoch (start_at v.setup (before_own (rules_of v.setup) m v.me.0 past) past.epoch) (before_own (rules_of v.setup) m v.me.0 past) shape.good.good fits)

  -- A slot of a leader's segment.
  pub own-slot : (k l : ℕ) → In (slot_at k) (segment (plan_at v.setup (before_own (rules_of v.setup) m v.me.0 past) past.epoch) l) →
      (past.epoch * v.setup.epoch ≤ k) × (k < past.epoch * v.setup.epoch + v.setup.epoch) × ((rules_of v.setup).leader (before_own (rules_of v.setup) m v.me.0 past) past.epoch k ≡ l)
  own-slot k l h =
      let both = ((own-fair.segments l).slots (record { 0 = k })).0 h in
      let b = begins in
      let low : past.epoch * v.setup.epoch ≤ k = omega (arith, both.0.0, b) in
      let high : k < past.epoch * v.setup.epoch + v.setup.epoch = omega (arith, both.0.1, b) in
      (low, high, ap (λ (o : Option NodeId). number_of o) both.1)

  -- ---- the input of the instance of a leader

  module _ (laws : IsLawful m) (leader : NodeId) (input : Input Msg) (ef : Effects Msg) (was is : SegmentState M) (keys : KeyState)
      (at : led v.segments leader.0 ≡ Some was) (taken : IsInstanceTaken m refines was is input v.keys keys ef)
      (log : LogState) (held : ℕ) (grown : IsGrown v.log ef.delivers log held) where
    abbrev P : Params
    P = (rules_of v.setup).params (before_own (rules_of v.setup) m v.me.0 past) past.epoch leader.0

    abbrev xs : List (Item Msg)
    xs = taken_in past leader.0

    abbrev item : Item Msg
    item = record { input = input; leaf = v.keys.used; made = m.makes P v.me.0 xs input v.keys.used }

    abbrev pub next : Past Msg
    next = takes (rules_of v.setup) m v.me.0 past leader.0 input v.keys.used

    here : RefinesTaken refines P v.me xs was
    here = tied.instances leader.0 was at

    own : AreKeysOf was.me.0 was.params.setup.keys v.keys
    own =
        subst (λ (p : Params). AreKeysOf was.me.0 p.setup.keys v.keys) (sym here.params)
        (subst (λ (i : NodeId). AreKeysOf i.0 v.setup.keys v.keys) (sym here.node) tied.keys)

    took : IsTaken m P v.me.0 xs input v.keys.used ef
    took =
        subst (λ (p : Params). IsTaken m p v.me.0 xs input v.keys.used ef) here.params
        (subst (λ (i : NodeId). IsTaken m was.params i.0 xs input v.keys.used ef) here.node (taken.effects xs here.instance own))

    inside : AllIn (slots_of ef.delivers) (segment (plan_at v.setup (before_own (rules_of v.setup) m v.me.0 past) past.epoch) leader.0)
    inside = subst (λ (p : Params). AllIn (slots_of ef.delivers) p.slots) here.params taken.within.delivered

    given-own : (k : ℕ) (x : Value) → given ef.delivers k ≡ Some x →
        (past.epoch * v.setup.epoch ≤ k) × (k < past.epoch * v.setup.epoch + v.setup.epoch) × ((rules_of v.setup).leader (before_own (rules_of v.setup) m v.me.0 past) past.epoch k ≡ leader.0)
    given-own k x h = own-slot k leader.0 (slot-in ef.delivers (segment (plan_at v.setup (before_own (rules_of v.setup) m v.me.0 past) past.epoch) leader.0) k x inside h)

    none-given : (k : ℕ) → ((x : Value) → given ef.delivers k ≡ Some x → ⊥) → given ef.delivers k ≡ None
    none-given k never = go (given ef.delivers k) refl
      where
        go : (o : Option Value) → given ef.delivers k ≡ o → given ef.delivers k ≡ None
        go None h = h
        go (Some x) h = absurd (never x h)

    kept : (k : ℕ) (o : Option Value) → value_at v.log k ≡ o → given ef.delivers k ≡ None → value_at log k ≡ o
    kept k o h none = grown.values k ∙ ap (λ (z : Option Value). first_of (value_at v.log k) z) none ∙ stays (value_at v.log k) ∙ h
      where
        stays : (a : Option Value) → first_of a None ≡ a
        stays None = refl
        stays (Some x) = refl

    cells : (k : ℕ) → past.epoch * v.setup.epoch ≤ k → k < past.epoch * v.setup.epoch + v.setup.epoch →
        value_at log k ≡ slot_value (rules_of v.setup) m v.me.0 (before_own (rules_of v.setup) m v.me.0 past) next k
    cells k lo hi = go (same_or_not ((rules_of v.setup).leader (before_own (rules_of v.setup) m v.me.0 past) past.epoch k) leader.0)
      where
        old : value_at v.log k ≡ slot_value (rules_of v.setup) m v.me.0 (before_own (rules_of v.setup) m v.me.0 past) past k
        old = let q = tied.start in tied.cells k (omega (arith, q, lo)) (omega (arith, q, hi))

        go : ((rules_of v.setup).leader (before_own (rules_of v.setup) m v.me.0 past) past.epoch k ≡ leader.0) ⊎ ((rules_of v.setup).leader (before_own (rules_of v.setup) m v.me.0 past) past.epoch k ≢ leader.0) →
            value_at log k ≡ slot_value (rules_of v.setup) m v.me.0 (before_own (rules_of v.setup) m v.me.0 past) next k
        go (inl e) =
            grown.values k
            ∙ ap (λ (o : Option Value). first_of o (given ef.delivers k)) (old ∙ ap (λ (i : ℕ). delivered m ((rules_of v.setup).params (before_own (rules_of v.setup) m v.me.0 past) past.epoch i) v.me.0 (taken_in past i) k) e)
            ∙ slot-next m P v.me.0 xs item ef.delivers k
            (λ x i. (took.delivers.exactly (record { 0 = k }) x).0 i)
            (λ x d n. (took.delivers.exactly (record { 0 = k }) x).1 (d, n))
            ∙ sym (ap (λ (ys : List (Item Msg)). delivered m P v.me.0 ys k) (set_at2-same past.evidence past.epoch leader.0 (item ∷ xs)))
            ∙ sym (ap (λ (i : ℕ). delivered m ((rules_of v.setup).params (before_own (rules_of v.setup) m v.me.0 past) past.epoch i) v.me.0 (next.evidence past.epoch i) k) e)
        go (inr ne) =
            kept k (slot_value (rules_of v.setup) m v.me.0 (before_own (rules_of v.setup) m v.me.0 past) past k) old (none-given k (λ x h. ne (given-own k x h).2))
            ∙ sym (ap (λ (ys : List (Item Msg)). delivered m ((rules_of v.setup).params (before_own (rules_of v.setup) m v.me.0 past) past.epoch ((rules_of v.setup).leader (before_own (rules_of v.setup) m v.me.0 past) past.epoch k)) v.me.0 ys k)
            (set_at2-other past.evidence past.epoch leader.0 (item ∷ xs) past.epoch ((rules_of v.setup).leader (before_own (rules_of v.setup) m v.me.0 past) past.epoch k) (inr ne)))

    outside : (k : ℕ) → past.epoch * v.setup.epoch + v.setup.epoch ≤ k → value_at log k ≡ None
    outside k le = let q = tied.start in kept k None (tied.outside k (omega (arith, q, le))) (none-given k (λ x h. let lt = (given-own k x h).1 in absurd (omega (arith, lt, le))))

    turn-sound : (F : Formats Msg) → IsSoundCore (rules_of v.setup) m v.me.0 (step_unjudged F (rules_of v.setup) m v.me.0 (core_of v past) leader.0 input).core
    turn-sound F = inputs-sound F (rules_of v.setup) m v.me.0 (core_of v past) leader.0 input tied.sound

    later : Later (rules_of v.setup) past next
    later = takes-later (rules_of v.setup) m v.me.0 past leader.0 input v.keys.used (record { all = tied.sound.settled })

    next-bounded : Bounded next
    next-bounded = record {
      evidence = λ e l lt. set_at2-other past.evidence past.epoch leader.0 (item ∷ xs) e l (inl (let ne : e ≢ past.epoch = omega (arith, lt) in ne)) ∙ tied.sound.unborn e l lt;
      adopted = tied.sound.settled;
    }

    pub new-log : log_of (rules_of v.setup) m v.me.0 next ≡ reverse log.entries
    new-log =
        let was_log : IsLog (rules_of v.setup) m v.me.0 past (reverse v.log.entries) = subst (λ (ys : List Value). IsLog (rules_of v.setup) m v.me.0 past ys) tied.log (log-chain (rules_of v.setup) m v.me.0 past) in
        log-is v.setup shape.good.good m v.me.0 next next-bounded (before_own (rules_of v.setup) m v.me.0 past) (bf-long m refines v shape past tied) log cells outside grown.hole v.log.entries grown.joined grown.entries (bf-part m refines v shape past tied)
        (log-kept (rules_of v.setup) m v.me.0 past next later (reverse v.log.entries) was_log)

    pub before-next : before_own (rules_of v.setup) m v.me.0 next ≡ before_own (rules_of v.setup) m v.me.0 past
    before-next = before-later (rules_of v.setup) m v.me.0 past next past.epoch later tied.sound.reached

    -- ---- the rest of the node after the input

    module _ (chains : ChainsState) (chained : IsChainOf chains (v.log.entries ++ grown.joined)) (segments : List (Option (SegmentState M))) (accepted : List Accepted) (waiting : List Request) (flight : FlightState) (logged : List ReqId)
        (there : led segments leader.0 ≡ Some is) (others : (k : ℕ) → k ≢ leader.0 → led segments k ≡ led v.segments k)
        (notes : accepted ≡ and_accepted leader v.accepted ef.accepted)
        (joins : logged ≡ fold and_values v.logged grown.joined)
        (lands : IsCompleted v.flight flight (length log.entries))
        (returns : (all : List ReqId) (before : List Value) → RefinesNoted v.windows (noted_before before) → ((x : ReqId) → has_id x all ≡ (has_id x logged || has_id x (log_ids before))) →
        AreNew (fold waits_on v.waiting grown.joined) (absent all (returned (reverse log.entries) v.flight.casts)) →
        waiting ≡ fold waits_on v.waiting grown.joined ++ absent all (returned (reverse log.entries) v.flight.casts)) where
      abbrev pub after : StateView M Msg
      after = record {
        setup = v.setup;
        me = v.me;
        directory = v.directory;
        epoch = v.epoch;
        plan = v.plan;
        windows = v.windows;
        standing = v.standing;
        segments = segments;
        accepted = accepted;
        log = log;
        chains = chains;
        waiting = waiting;
        flight = flight;
        early = v.early;
        logged = logged;
        ballots = v.ballots;
        saved = v.saved;
        keys = keys;
      }

      filed : (F : Formats Msg) → AreRefiled m v past next keys.used waiting flight logged
      filed F = are-refiled m refines v shape past tied next keys.used log grown.joined grown.entries new-log (turn-sound F).different waiting flight logged joins lands returns

      leaf-core : keys.used ≡ v.keys.used + (m.makes P v.me.0 xs input v.keys.used).used
      leaf-core =
          subst (λ (p : Params). keys.used ≡ v.keys.used + (m.makes p v.me.0 xs input v.keys.used).used) here.params
          (subst (λ (i : NodeId). keys.used ≡ v.keys.used + (m.makes was.params i.0 xs input v.keys.used).used) here.node (taken.used xs here.instance own))

      pub core-is : (F : Formats Msg) → (step_unjudged F (rules_of v.setup) m v.me.0 (core_of v past) leader.0 input).core ≡ core_of after next
      core-is F = λ t. record {
        past = next;
        waiting = sym (filed F).waits t;
        flight = sym (filed F).flies t;
        early = (core_of v past).early;
        votes = [];
        certs = [];
        leaf = sym leaf-core t;
      }

      instances : (k : ℕ) (g : SegmentState M) → led segments k ≡ Some g → RefinesTaken refines ((rules_of v.setup).params (before_own (rules_of v.setup) m v.me.0 past) past.epoch k) v.me (taken_in next k) g
      instances k g at_k = go (same_or_not k leader.0)
        where
          stood : RefinesItems refines is (item ∷ xs)
          stood =
              subst (λ (p : Params). RefinesItems refines is (and_then m p v.me.0 xs input v.keys.used)) here.params
              (subst (λ (i : NodeId). RefinesItems refines is (and_then m was.params i.0 xs input v.keys.used)) here.node (taken.refined xs here.instance own))

          mine : RefinesTaken refines P v.me (taken_in next leader.0) is
          mine = record {
            params = taken.same_params ∙ here.params;
            node = taken.same_node ∙ here.node;
            instance = subst (λ (ys : List (Item Msg)). RefinesItems refines is ys) (sym (set_at2-same past.evidence past.epoch leader.0 (item ∷ xs))) stood;
          }

          go : (k ≡ leader.0) ⊎ (k ≢ leader.0) → RefinesTaken refines ((rules_of v.setup).params (before_own (rules_of v.setup) m v.me.0 past) past.epoch k) v.me (taken_in next k) g
          go (inl q) =
              let same : led segments leader.0 ≡ Some g = subst (λ (i : ℕ). led segments i ≡ Some g) q at_k in
              let two : Some is ≡ Some g = sym there ∙ same in
              let is_g : is ≡ g = cc in
              subst (λ (z : SegmentState M). RefinesTaken refines ((rules_of v.setup).params (before_own (rules_of v.setup) m v.me.0 past) past.epoch k) v.me (taken_in next k) z) is_g
              (subst (λ (i : ℕ). RefinesTaken refines ((rules_of v.setup).params (before_own (rules_of v.setup) m v.me.0 past) past.epoch i) v.me (taken_in next i) is) (sym q) mine)
          go (inr ne) =
              let old : led v.segments k ≡ Some g = sym (others k ne) ∙ at_k in
              subst (λ (ys : List (Item Msg)). RefinesTaken refines ((rules_of v.setup).params (before_own (rules_of v.setup) m v.me.0 past) past.epoch k) v.me ys g)
              (sym (set_at2-other past.evidence past.epoch leader.0 (item ∷ xs) past.epoch k (inr ne))) (tied.instances k g old)

      leading : (k : ℕ) → is_some (led segments k) ≡ leads v.plan k
      leading k = go (same_or_not k leader.0)
        where
          go : (k ≡ leader.0) ⊎ (k ≢ leader.0) → is_some (led segments k) ≡ leads v.plan k
          go (inl q) =
              ap (λ (i : ℕ). is_some (led segments i)) q ∙ ap (λ (o : Option (SegmentState M)). is_some o) there ∙ sym (ap (λ (o : Option (SegmentState M)). is_some o) at)
              ∙ sym (ap (λ (i : ℕ). is_some (led v.segments i)) q) ∙ tied.leading k
          go (inr ne) = ap (λ (o : Option (SegmentState M)). is_some o) (others k ne) ∙ tied.leading k

      accepted-is : (k : ℕ) → reverse (accepted_of k accepted) ≡ accepts (taken_in next k)
      accepted-is k = go (same_or_not leader.0 k)
        where
          go : (leader.0 ≡ k) ⊎ (leader.0 ≢ k) → reverse (accepted_of k accepted) ≡ accepts (taken_in next k)
          go (inl q) = subst (λ (i : ℕ). reverse (accepted_of i accepted) ≡ accepts (taken_in next i)) q
              (ap (λ (ys : List Accepted). reverse (accepted_of leader.0 ys)) notes
              ∙ ap (λ (ys : List (Slot × Batch)). reverse ys) (accepted-own leader v.accepted ef.accepted)
              ∙ reverse-one (accepted_of leader.0 v.accepted) ef.accepted
              ∙ ap (λ (ys : List (Slot × Batch)). one_or_none ef.accepted ++ ys) (tied.accepted leader.0)
              ∙ ap (λ (o : Option (Slot × Batch)). one_or_none o ++ accepts xs) (took.accepted ∙ sym (laws.accepted P v.me.0 xs input v.keys.used))
              ∙ sym (ap (λ (ys : List (Item Msg)). accepts ys) (set_at2-same past.evidence past.epoch leader.0 (item ∷ xs))))
          go (inr ne) =
              ap (λ (ys : List Accepted). reverse (accepted_of k ys)) notes
              ∙ ap (λ (ys : List (Slot × Batch)). reverse ys) (accepted-other k leader v.accepted ef.accepted ne)
              ∙ tied.accepted k
              ∙ sym (ap (λ (ys : List (Item Msg)). accepts ys) (set_at2-other past.evidence past.epoch leader.0 (item ∷ xs) past.epoch k (inr (λ e. ne (sym e)))))

      tied-over : (F : Formats Msg) → RefinesPastOver m refines after next (before_own (rules_of v.setup) m v.me.0 past)
      tied-over F = record {
        epoch = tied.epoch;
        log = new-log;
        chained = subst (λ (ys : List Value). IsChainOf chains ys) (sym grown.entries) chained;
        rests = tied.rests;
        standing = tied.standing;
        start = tied.start;
        begun = let b = tied.begun in let n = ap (λ (ys : List Value). length ys) grown.entries in let k = length-append v.log.entries grown.joined in omega (arith, b, n, k);
        cells = λ k lo hi. let q = tied.start in cells k (omega (arith, q, lo)) (omega (arith, q, hi));
        outside = λ k le. let q = tied.start in outside k (omega (arith, q, le));
        hole = grown.hole;
        leading = leading;
        instances = instances;
        accepted = accepted-is;
        logged = (filed F).noted;
        flown = (filed F).same;
        sound = subst (λ (c : Core Msg). IsSoundCore (rules_of v.setup) m v.me.0 c) (core-is F) (turn-sound F);
        keys = record { own = taken.within.same_secret ∙ tied.keys.own; tall = taken.within.same_height ∙ tied.keys.tall };
      }

      pub parts-next : (F : Formats Msg) → RefinesBareCore m refines after (step_unjudged F (rules_of v.setup) m v.me.0 (core_of v past) leader.0 input).core
      parts-next F = record { core = core-is F; tied = subst (λ (ys : List Value). RefinesPastOver m refines after next ys) (sym before-next) (tied-over F) }

    sends-next : (F : Formats Msg) (sends : List (To × List ℕ)) → sends ≡ packed F v.me.0 v.epoch leader.0 ef.sends → sends ≡ (step_unjudged F (rules_of v.setup) m v.me.0 (core_of v past) leader.0 input).sends
    sends-next F sends e =
        e ∙ ap (λ (k : ℕ). packed F v.me.0 k leader.0 ef.sends) tied.epoch ∙ ap (λ (ys : List (To × Msg)). packed F v.me.0 past.epoch leader.0 ys) took.sends

    abbrev made : Made Msg
    made = m.makes P v.me.0 xs input v.keys.used

    -- The outcome is that of the model's step.
    pub made-next : (o : Outcome) → o.sends ≡ packed (formats_of v.setup m) v.me.0 v.epoch leader.0 ef.sends → o.own ≡ own_claims m is.params v.me.0 ef.sends → o.early ≡ [] →
        o.hashed ≡ ef.hashed ++ strings_from v.chains.version (chain_of v.chains.version v.log.entries) grown.joined →
        IsMade (step_unjudged (formats_of v.setup m) (rules_of v.setup) m v.me.0 (core_of v past) leader.0 input) o
    made-next o sent own early hashed = record {
      sends = sends-next (formats_of v.setup m) o.sends sent;
      own = own
          ∙ ap (λ (p : Params). own_claims m p v.me.0 ef.sends) (taken.same_params ∙ here.params)
          ∙ ap (λ (ys : List (To × Msg)). own_claims m (params_of (rules_of v.setup) m v.me.0 past leader.0) v.me.0 ys) took.sends;
      early = early;
      hashed = hashed
          ∙ ap (λ (xs : List (List ℕ)). xs ++ strings_from v.chains.version (chain_of v.chains.version v.log.entries) grown.joined) took.hashed
          ∙ ap (λ (k : ℕ). made.strings ++ strings_from k (chain_of k v.log.entries) grown.joined) shape.version
          ∙ ap (λ (xs : List (List ℕ)). made.strings ++ xs) (sym (grown-is v.setup v.log.entries grown.joined _ _ tied.log (new-log ∙ ap (λ (ys : List Value). reverse ys) grown.entries)));
    }

    pub addressed-next : (F : Formats Msg) (sends : List (To × List ℕ)) → sends ≡ packed F v.me.0 v.epoch leader.0 ef.sends → AreToNodes v.setup.n sends
    addressed-next F sends e =
        let all : AreToNodes v.setup.n ef.sends = subst (λ (p : Params). AreToNodes p.setup.n ef.sends) here.params taken.within.addressed in
        subst (λ (ys : List (To × List ℕ)). AreToNodes v.setup.n ys) (sym e) (to-nodes ef.sends all)
      where
        to-nodes : (ys : List (To × Msg)) → AreToNodes v.setup.n ys → AreToNodes v.setup.n (packed F v.me.0 v.epoch leader.0 ys)
        to-nodes [] h = tt
        to-nodes (y ∷ ys) h = (h.0, to-nodes ys h.1)
