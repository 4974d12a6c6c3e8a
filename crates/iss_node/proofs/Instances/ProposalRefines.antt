-- A proposal refines the model's step.
use Rattle.std.proofs.Common.{arith, inl, inr, ◌≡◌, ℕ, zero, nat_lt, slice_get, suc, ◌+◌, ◌<◌, Bool, true, false, List, [], ◌∷◌, ◌++◌, cond, ◌==◌, ◌||◌, ◌&&◌, not, Option, Some, None, length, drop, get_or, refl, sym, ap, ◌∙◌, subst, add-one, drop-cons}
use Rattle.std.proofs.lemmas.Bool.Decides.{nat_tests}
use Rattle.std.proofs.lemmas.List.{length-reverse}
use Rattle.std.specs.Prelude.{is_some}
use Rattle.std.specs.List.{list_any}
use Rattle.iss_base.specs.Lists.{In, first_of}
use Rattle.iss_base.proofs.Lists.{or-alone, or-assoc}
use Rattle.iss_buckets.specs.Waiting.{cut, may_cast, uncut}
use Rattle.iss_window.proofs.Members.{has_id-and_ids, has_id-append}
use Rattle.iss_layout.specs.Layout.{Plan, bucket_of, bucket_owner, is_node}
use Rattle.iss_log.specs.LogState.{ahead_at, value_at}
use Rattle.iss_model.proofs.Casts.{casting-sound}
use Rattle.iss_rules.specs.Concrete.{number_of, plan_at, rules_of}
use Rattle.iss_rules.specs.Formats.{formats_of}
use Rattle.iss_rules.specs.Parcels.{Formats}
use Rattle.iss_model.specs.Node.{Core, Dropped, Stepped, Taken, advance_epochs, casts_at, first_slot, flown, has_leaves, has_slot, is_castable, is_mine, next_slot, step, step_unjudged}
use Rattle.iss_rules.specs.Past.{Past, before_own, leads_in, log_of, params_of, taken_in}
use Rattle.iss_model.specs.Sound.{IsSoundCore}
use Rattle.iss_rules.specs.declared.events.NodeEvent.TheVariants.{Propose as On_propose}
use Rattle.iss_rules.specs.declared.events.Why.TheVariants.{NotLeader, NothingToCast, NoKeys}
use Rattle.iss_node.proofs.Instances.InputRefines.{own-fair, own-slot}
use Rattle.iss_node.specs.Internal.Casts.{IsCut, casting, is_open}
use Rattle.iss_node.specs.Flights.{FlightState}
use Rattle.iss_node.specs.Internal.Shape.{IsNodeState}
use Rattle.iss_node.specs.State.{RefinesPast, StateView, core_of, led}
use Rattle.iss_node.specs.Steps.{IsTurnOf, IsTurned}
use Rattle.iss_node.specs.declared.answers.Outcome.{Outcome}
use Rattle.iss_request.specs.Log.{has_id, ids}
use Rattle.iss_request.specs.declared.ids.NodeId.{NodeId}
use Rattle.iss_request.specs.declared.ids.ReqId.{ReqId}
use Rattle.iss_request.specs.declared.ids.Slot.{Slot}
use Rattle.iss_request.specs.declared.requests.Batch.{Batch}
use Rattle.iss_request.specs.declared.requests.Request.{Request}
use Rattle.iss_request.specs.declared.requests.Value.{Value}
use Rattle.iss_sb.specs.Evidence.{Item, Module, delivered}
use Rattle.iss_sb.specs.declared.effects.Input.TheVariants.{Cast}
use Rattle.iss_sb.specs.declared.effects.Params.{Params}
use Rattle.iss_segment.specs.Instance.{RefinesItems, SegmentState}

-- ---- the batch that is cut

-- Predicates that agree everywhere cut the same batch.
cut-is : (p r : Request → Bool) → ((q : Request) → p q ≡ r q) → (n : ℕ) (qs : List Request) → cut n p qs ≡ cut n r qs
cut-is p r same n qs = let tests : p ≡ r = λ i q. same q i in ap (λ (f : Request → Bool). cut n f qs) tests

left-is : (p r : Request → Bool) → ((q : Request) → p q ≡ r q) → (n : ℕ) (qs : List Request) → uncut n p qs ≡ uncut n r qs
left-is p r same n qs = let tests : p ≡ r = λ i q. same q i in ap (λ (f : Request → Bool). uncut n f qs) tests

owner-is : (i : ℕ) (o : Option NodeId) (k : NodeId) → o ≡ Some k → is_node i o ≡ (number_of o == i)
owner-is i o k e = ap (λ z. is_node i z) e ∙ sym (ap (λ z. number_of z == i) e)

flown-more : (x : ReqId) (fs : List (Slot × Batch)) (slot : Slot) (batch : Batch) → has_id x (flown (fs ++ (slot, batch) ∷ [])) ≡ (has_id x (flown fs) || has_id x (ids batch))
flown-more x [] slot batch = has_id-append x (ids batch) [] ∙ or-alone (has_id x (ids batch))
flown-more x (f ∷ fs) slot batch =
    has_id-append x (ids f.1) (flown (fs ++ (slot, batch) ∷ [])) ∙ ap (λ b. has_id x (ids f.1) || b) (flown-more x fs slot batch)
    ∙ or-assoc (has_id x (ids f.1)) (has_id x (flown fs)) (has_id x (ids batch)) ∙ ap (λ b. b || has_id x (ids batch)) (sym (has_id-append x (ids f.1) (flown fs)))

-- An index below a list's length has an element.
held : {A : Type 0} (xs : List A) (s : ℕ) → s < length xs → (x : A) × (slice_get xs s ≡ Some x)
held [] s lt = absurd (omega (arith, lt))
held (x ∷ xs) zero lt = (x, refl)
held (x ∷ xs) (suc s) lt = held xs s (omega (arith, lt))

module _ {M Msg : Type 0} (m : Module Msg) (refines : M → Params → ℕ → List (Item Msg) → Type 0)
    (v : StateView M Msg) (shape : IsNodeState m v) (past : Past Msg) (tied : RefinesPast m refines v past) where
  pub mine-is : (g : SegmentState M) → led v.segments v.me.0 ≡ Some g → (q : Request) → may_cast v.plan v.me.0 g.marked q ≡ is_mine (rules_of v.setup) m v.me.0 (core_of v past) q
  mine-is g at q =
      let plan = plan_at v.setup (before_own (rules_of v.setup) m v.me.0 past) past.epoch in
      let owned = (own-fair m refines v shape past tied).owned (bucket_of plan q.id) in
      let marked = (tied.instances v.me.0 g at).instance.marked in
      ap (λ (p : Plan). may_cast p v.me.0 g.marked q) tied.rests.divided
      ∙ ap (λ (b : Bool). b && not (has_id q.id g.marked)) (owner-is v.me.0 (bucket_owner plan (bucket_of plan q.id)) owned.owner owned.is)
      ∙ ap (λ (b : Bool). (number_of (bucket_owner plan (bucket_of plan q.id)) == v.me.0) && not b) (marked q.id)

  -- After a cut the state still refines its history.
  module _ (F : Formats Msg) (u : StateView M Msg) (slot : Slot) (batch : Batch) (h : IsCut v u slot batch) where
    mine : Request → Bool
    mine = is_mine (rules_of v.setup) m v.me.0 (core_of v past)

    taken : batch ≡ cut v.setup.batch (is_mine (rules_of v.setup) m v.me.0 (core_of v past)) v.waiting
    taken = h.taken ∙ cut-is (may_cast v.plan v.me.0 h.own.marked) (is_mine (rules_of v.setup) m v.me.0 (core_of v past)) (mine-is h.own h.at) v.setup.batch v.waiting

    left : u.waiting ≡ uncut v.setup.batch (is_mine (rules_of v.setup) m v.me.0 (core_of v past)) v.waiting
    left = h.left ∙ left-is (may_cast v.plan v.me.0 h.own.marked) (is_mine (rules_of v.setup) m v.me.0 (core_of v past)) (mine-is h.own h.at) v.setup.batch v.waiting

    casts : u.flight.casts ≡ v.flight.casts ++ (slot, cut v.setup.batch (is_mine (rules_of v.setup) m v.me.0 (core_of v past)) v.waiting) ∷ []
    casts = ap (λ (f : FlightState). f.casts) h.flies ∙ ap (λ (b : Batch). v.flight.casts ++ (slot, b) ∷ []) taken

    pub cut-core : record (core_of v past) { waiting = uncut v.setup.batch (is_mine (rules_of v.setup) m v.me.0 (core_of v past)) v.waiting; flight = v.flight.casts ++ (slot, cut v.setup.batch (is_mine (rules_of v.setup) m v.me.0 (core_of v past)) v.waiting) ∷ [] }
        ≡ core_of (record v { waiting = u.waiting; flight = u.flight }) past
    cut-core = λ t. record { past = past; waiting = sym left t; flight = sym casts t; early = (core_of v past).early; votes = []; certs = []; leaf = v.keys.used }

    pub cut-tied : RefinesPast m refines (record v { waiting = u.waiting; flight = u.flight }) past
    cut-tied = record {
      epoch = tied.epoch;
      log = tied.log;
      chained = tied.chained;
      rests = tied.rests;
      standing = tied.standing;
      start = tied.start;
      begun = tied.begun;
      cells = tied.cells;
      outside = tied.outside;
      hole = tied.hole;
      leading = tied.leading;
      instances = tied.instances;
      accepted = tied.accepted;
      logged = tied.logged;
      flown = λ x.
          ap (λ (f : FlightState). has_id x f.ids) h.flies ∙ has_id-and_ids x v.flight.ids batch ∙ ap (λ b. b || has_id x (ids batch)) (tied.flown x)
          ∙ sym (flown-more x v.flight.casts slot batch) ∙ sym (ap (λ (f : FlightState). has_id x (flown f.casts)) h.flies);
      sound = subst (λ (c : Core Msg). IsSoundCore (rules_of v.setup) m v.me.0 c) cut-core (casting-sound F (rules_of v.setup) m v.me.0 (core_of v past) slot tied.sound);
      keys = tied.keys;
    }

    -- The turn of a proposal.
    pub cast-turned : (w : StateView M Msg) (o : Outcome) (i : ℕ) → i ≡ u.me.0 → IsTurnOf m refines u (λ F R me c. step_unjudged F R m me c i (Cast slot batch)) w o → IsTurned m refines (casting (formats_of v.setup m) (rules_of v.setup) m v.me.0 (core_of v past) slot) w o
    cast-turned w o i own all =
        let u0 : StateView M Msg = record v { waiting = u.waiting; flight = u.flight } in
        let mine_is : i ≡ v.me.0 = own ∙ ap (λ (z : StateView M Msg). z.me.0) h.rest in
        let there : IsTurnOf m refines u0 (λ F R me c. step_unjudged F R m me c i (Cast slot batch)) w o = subst (λ (z : StateView M Msg). IsTurnOf m refines z (λ F R me c. step_unjudged F R m me c i (Cast slot batch)) w o) h.rest all in
        let turn = there past cut-tied in
        let at_me : IsTurned m refines (step_unjudged (formats_of v.setup m) (rules_of v.setup) m v.me.0 (core_of u0 past) v.me.0 (Cast slot batch)) w o =
        subst (λ (k : ℕ). IsTurned m refines (step_unjudged (formats_of v.setup m) (rules_of v.setup) m v.me.0 (core_of u0 past) k (Cast slot batch)) w o) mine_is turn in
        subst (λ (c : Core Msg). IsTurned m refines (step_unjudged (formats_of v.setup m) (rules_of v.setup) m v.me.0 c v.me.0 (Cast slot (cut v.setup.batch (is_mine (rules_of v.setup) m v.me.0 (core_of v past)) v.waiting))) w o) (sym cut-core)
        (subst (λ (b : Batch). IsTurned m refines (step_unjudged (formats_of v.setup m) (rules_of v.setup) m v.me.0 (core_of u0 past) v.me.0 (Cast slot b)) w o) taken at_me)

  -- ---- the next slot

  slot-cast : (s : ℕ) (fs : List (Slot × Batch)) → list_any (λ (x : Slot × Batch). x.0.0 == s) fs ≡ has_slot s fs
  slot-cast s [] = refl
  slot-cast s (f ∷ fs) = ap (λ b. (f.0.0 == s) || b) (slot-cast s fs)

  first-same : (p q : Slot → Bool) (slots : List Slot) → ((s : Slot) → In s slots → p s ≡ q s) → first_slot p slots ≡ first_slot q slots
  first-same p q [] same = refl
  first-same p q (s ∷ ss) same =
      ap (λ b. cond b (Some s) (first_slot p ss)) (same s (inl refl))
      ∙ ap (λ (o : Option Slot). cond (q s) (Some s) o) (first-same p q ss (λ t i. same t (inr i)))

  -- The value of a slot in the node's own segment.
  pub value-is : (l : ℕ) (s : Slot) → In s (params_of (rules_of v.setup) m v.me.0 past l).slots → value_at v.log s.0 ≡ delivered m (params_of (rules_of v.setup) m v.me.0 past l) v.me.0 (taken_in past l) s.0
  value-is l s i =
      let own = own-slot m refines v shape past tied s.0 l i in
      let q = tied.start in
      tied.cells s.0 (omega (arith, q, own.0)) (omega (arith, q, own.1))
      ∙ ap (λ (k : ℕ). delivered m ((rules_of v.setup).params (before_own (rules_of v.setup) m v.me.0 past) past.epoch k) v.me.0 (taken_in past k) s.0) own.2

  -- A slot of the log has a value.
  behind-log : (s : ℕ) (a b : Bool) → (a && (not (is_some (value_at v.log s)) && b)) ≡ (not (nat_lt s (length (log_of (rules_of v.setup) m v.me.0 past))) && (a && (not (is_some (value_at v.log s)) && b)))
  behind-log s a b = go (nat_lt s (length (log_of (rules_of v.setup) m v.me.0 past))) refl
    where
      filled : s < length v.log.entries → is_some (value_at v.log s) ≡ true
      filled lt = let at = held v.log.entries s lt in ap (λ (o : Option Value). is_some (first_of o (ahead_at v.log.ahead s))) at.1

      nothing : (x : Bool) → (x && false) ≡ false
      nothing true = refl
      nothing false = refl

      go : (t : Bool) → nat_lt s (length (log_of (rules_of v.setup) m v.me.0 past)) ≡ t → (a && (not (is_some (value_at v.log s)) && b)) ≡ (not t && (a && (not (is_some (value_at v.log s)) && b)))
      go true q =
          let long : length (log_of (rules_of v.setup) m v.me.0 past) ≡ length v.log.entries = ap (λ (ys : List Value). length ys) tied.log ∙ length-reverse v.log.entries in
          let lt : s < length v.log.entries = grind (arith, nat_tests, long) in
          ap (λ (c : Bool). a && (not c && b)) (filled lt) ∙ nothing a
      go false q = refl

  pub next-is : (g : SegmentState M) → led v.segments v.me.0 ≡ Some g → (o : Option Slot) (slots : List Slot) → slots ≡ g.params.slots →
      ((xs : List (Item Msg)) → RefinesItems refines g xs → o ≡ first_slot (is_open m g.params g.me.0 xs v.log v.flight.casts) slots) → o ≡ next_slot (rules_of v.setup) m v.me.0 (core_of v past)
  next-is g at o slots slots_is h =
      let here = tied.instances v.me.0 g at in
      let p = params_of (rules_of v.setup) m v.me.0 past v.me.0 in
      let xs = taken_in past v.me.0 in
      let found : o ≡ first_slot (is_open m p v.me.0 xs v.log v.flight.casts) p.slots =
      subst (λ (z : Params). o ≡ first_slot (is_open m z v.me.0 xs v.log v.flight.casts) z.slots) here.params
      (subst (λ (i : NodeId). o ≡ first_slot (is_open m g.params i.0 xs v.log v.flight.casts) g.params.slots) here.node
      (subst (λ (ss : List Slot). o ≡ first_slot (is_open m g.params g.me.0 xs v.log v.flight.casts) ss) slots_is (h xs here.instance))) in
      let size = length (log_of (rules_of v.setup) m v.me.0 past) in
      found ∙ first-same (is_open m p v.me.0 xs v.log v.flight.casts) (λ (s : Slot). not (nat_lt s.0 size) && is_castable m p v.me.0 xs v.flight.casts s) p.slots (λ s i.
      ap (λ b. not b && (not (is_some (value_at v.log s.0)) && is_some (m.asks p v.me.0 xs (Cast s [])))) (slot-cast s.0 v.flight.casts)
      ∙ behind-log s.0 (not (has_slot s.0 v.flight.casts)) (is_some (m.asks p v.me.0 xs (Cast s [])))
      ∙ ap (λ (z : Option Value). not (nat_lt s.0 size) && (not (has_slot s.0 v.flight.casts) && (not (is_some z) && is_some (m.asks p v.me.0 xs (Cast s []))))) (value-is v.me.0 s i))

  -- ---- a proposal

  abbrev pub proposed : Formats Msg → Bool → Option Slot → Stepped Msg
  proposed F b None = Dropped NothingToCast
  proposed F b (Some s) = cond (not b) (Dropped NoKeys) (Taken (advance_epochs F (rules_of v.setup) m v.me.0 (casting F (rules_of v.setup) m v.me.0 (core_of v past) s)))

  pub proposal-is : (F : Formats Msg) (a b : Bool) (o : Option Slot) →
      leads_in (rules_of v.setup) m v.me.0 past v.me.0 ≡ a → next_slot (rules_of v.setup) m v.me.0 (core_of v past) ≡ o → has_leaves m (params_of (rules_of v.setup) m v.me.0 past v.me.0) v.keys.used ≡ b →
      step F (rules_of v.setup) m v.me.0 (core_of v past) On_propose ≡ cond (not a) (Dropped NotLeader) (proposed F b o)
  proposal-is F a b o ha ho hb =
      let no_leader : Stepped Msg = Dropped NotLeader in
      ap (λ (x : Bool). cond (not x) no_leader (casts_at F (rules_of v.setup) m v.me.0 (core_of v past) (next_slot (rules_of v.setup) m v.me.0 (core_of v past)))) ha
      ∙ ap (λ (z : Option Slot). cond (not a) no_leader (casts_at F (rules_of v.setup) m v.me.0 (core_of v past) z)) ho
      ∙ ap (λ (z : Stepped Msg). cond (not a) no_leader z) (last o)
    where
      last : (z : Option Slot) → casts_at F (rules_of v.setup) m v.me.0 (core_of v past) z ≡ proposed F b z
      last None = refl
      last (Some s) = let no_keys : Stepped Msg = Dropped NoKeys in ap (λ (x : Bool). cond (not x) no_keys (Taken (advance_epochs F (rules_of v.setup) m v.me.0 (casting F (rules_of v.setup) m v.me.0 (core_of v past) s)))) hb

-- ---- the slots that are open

pub open-next : (p : Slot → Bool) (slots : List Slot) (i : ℕ) (s : Slot) → i < length slots → s ≡ get_or slots i s → first_slot p (drop i slots) ≡ cond (p s) (Some s) (first_slot p (drop (i + 1) slots))
open-next p slots i s lt is =
    let e : drop i slots ≡ s ∷ drop (i + 1) slots = rw (add-one, drop-cons slots i s) (ap (λ (z : Slot). z ∷ drop (suc i) slots) (sym is)) in
    ap (λ (xs : List Slot). first_slot p xs) e
