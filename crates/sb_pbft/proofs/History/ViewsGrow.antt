-- Facts about one replica's history: its view only grows, and a proposal never changes.
use Rattle.std.proofs.Common.{◌≡◌, ◌⊎◌, ◌<◌, ◌≤◌, ◌+◌, ◌&&◌, ◌∷◌, ◌∙◌, ℕ, Bool, true, false, not, cond, List, [], length, Option, Some, None, refl, sym, ap, subst, inl, inr, arith, true≢false}
use Rattle.std.proofs.lemmas.Bool.{eqb-true, ltb-true, or_cases}
use Rattle.std.specs.Prelude.{nat_lt, ◌==◌}
use Rattle.iss_base.specs.Lists.{first_of}
use Rattle.iss_base.proofs.Lists.{and-true, first-cases, not-true}
use Rattle.iss_request.specs.declared.ids.NodeId.{NodeId}
use Rattle.iss_request.specs.declared.ids.Slot.{Slot}
use Rattle.iss_request.specs.declared.requests.Batch.{Batch}
use Rattle.iss_request.specs.declared.requests.Value.{Value}
use Rattle.iss_request.specs.declared.requests.Value.TheVariants.{Batch as Value_batch, Nil as Value_nil}
use Rattle.iss_sb.specs.Calls.{has_slot}
use Rattle.iss_sb.specs.declared.effects.Input.{Input}
use Rattle.iss_sb.specs.declared.effects.Input.TheVariants.{Cast, Receive, Timeout}
use Rattle.iss_sb.specs.declared.effects.Params.{Params}
use Rattle.iss_sb.proofs.Slots.{node-is}
use Rattle.pbft_wire.specs.declared.messages.Change.{Change}
use Rattle.pbft_wire.specs.declared.messages.Message.{Message}
use Rattle.pbft_wire.specs.declared.messages.Body.{Body}
use Rattle.pbft_wire.specs.declared.messages.Body.TheVariants.{PrePrepare as Pre_prepare_body, Prepare as Prepare_body, Commit as Commit_body, ViewChange as View_change_body, NewView as New_view_body}
use Rattle.pbft_wire.specs.Signed.{PrePrepare, NewView, signed}
use Rattle.pbft_views.specs.Choice.{choice}
use Rattle.pbft_views.specs.Good.{are_enough, primary}
use Rattle.sb_pbft.specs.Rules.{Mode, asked, chosen, enters, is_newer, is_open, mode, mode_after, offer, offered, passes, proposal}
use Rattle.sb_pbft.proofs.History.AcceptedAndDecided.{asked-is}
use Rattle.sb_pbft.proofs.Basics.{first-keeps, first-none, is-same, none-from, when-is}

abbrev pub Said : Type 0
Said = Input Message

abbrev pub SameInput : Said → Said → Type 0
SameInput x y = x ≡ y

-- ---- the view only grows

pub record Grows (m u : Mode) : Type 0 where
  pub view : m.view ≤ u.view
  pub active : m.view ≡ u.view → m.active ≡ true → u.active ≡ true

stays : (m : Mode) → Grows m m
stays m = record { view = omega arith; active = λ e a. a }

-- the view before a view is entered
abbrev pub IsNewer : Mode → ℕ → Type 0
IsNewer m v = (m.view < v) ⊎ ((m.view ≡ v) × (m.active ≡ false))

pub record IsEntered (p : Params) (m : Mode) (from v : ℕ) (xs : List Change) (sigs : List (List ℕ)) : Type 0 where
  pub newer : IsNewer m v
  pub enough : are_enough p v xs ≡ true
  pub by : from ≡ primary p v
  pub above : 0 < v
  pub signed : length sigs ≡ length p.slots

pub entered : (p : Params) (m : Mode) (from v : ℕ) (xs : List Change) (sigs : List (List ℕ)) →
    enters p m from v xs sigs ≡ true → IsEntered p m from v xs sigs
entered p m from v xs sigs h =
    let a = and-true (is_newer m v) _ h in
    let b = and-true (are_enough p v xs) _ a.1 in
    let d = and-true (from == primary p v) _ b.1 in
    let e = and-true (nat_lt 0 v) (length sigs == length p.slots) d.1 in
    record {
      newer = first (or_cases (nat_lt m.view v) ((m.view == v) && not m.active) a.0);
      enough = b.0;
      by = eqb-true from (primary p v) d.0;
      above = ltb-true 0 v e.0;
      signed = eqb-true (length sigs) (length p.slots) e.1;
    }
  where
    first : (nat_lt m.view v ≡ true) ⊎ (((m.view == v) && not m.active) ≡ true) → IsNewer m v
    first (inl e) = inl (ltb-true m.view v e)
    first (inr e) = let q = and-true (m.view == v) (not m.active) e in inr (eqb-true m.view v q.0, not-true m.active q.1)

grows-if : (m u : Mode) (b : Bool) → (b ≡ true → Grows m u) → Grows m (cond b u m)
grows-if m u true h = h refl
grows-if m u false h = stays m

grows-heard : (p : Params) (m : Mode) (from : NodeId) (body : Body) (sig : List ℕ) → Grows m (mode_after p m (Receive from (signed body sig)))
grows-heard p m from (Pre_prepare_body v s x) sig = stays m
grows-heard p m from (Prepare_body v s d) sig = stays m
grows-heard p m from (Commit_body v s d) sig = stays m
grows-heard p m from (View_change_body v cs) sig = stays m
grows-heard p m from (New_view_body v xs sigs) sig = grows-if m (record { view = v; active = true }) (enters p m from.0 v xs sigs) (λ h. up v (entered p m from.0 v xs sigs h).newer)
  where
    up : (v : ℕ) → IsNewer m v → Grows m (record { view = v; active = true })
    up v (inl l) = record { view = omega arith; active = λ e a. refl }
    up v (inr e) = let q = e.0 in record { view = omega arith; active = λ e a. refl }

pub grows : (p : Params) (m : Mode) (i : Said) → Grows m (mode_after p m i)
grows p m (Cast s b) = stays m
grows p m (Receive from msg) = grows-heard p m from msg.body msg.sig
grows p m Timeout = grows-if m (record { view = m.view + 1; active = false }) (passes m) (λ h. record { view = omega arith; active = λ e a. absurd (omega arith) })

-- ---- the origin of a proposal

pub record IsChosen (p : Params) (m : Mode) (i : Said) (v s : ℕ) (x : Value) : Type 0 where
  pub from : NodeId
  pub changes : List Change
  pub sigs : List (List ℕ)
  pub sig : List ℕ
  pub input : SameInput i (Receive from (NewView v changes sigs sig))
  pub enters : enters p m from.0 v changes sigs ≡ true
  pub within : has_slot s p.slots ≡ true
  pub value : choice changes s ≡ x

chosen-is-heard : (p : Params) (m : Mode) (from : NodeId) (body : Body) (sig : List ℕ) (v s : ℕ) (x : Value) → chosen p m (Receive from (signed body sig)) v s ≡ Some x →
    IsChosen p m (Receive from (signed body sig)) v s x
chosen-is-heard p m from (Pre_prepare_body w t y) sig v s x h = absurd (cc)
chosen-is-heard p m from (Prepare_body w t d) sig v s x h = absurd (cc)
chosen-is-heard p m from (Commit_body w t d) sig v s x h = absurd (cc)
chosen-is-heard p m from (View_change_body w cs) sig v s x h = absurd (cc)
chosen-is-heard p m from (New_view_body w xs sigs) sig v s x h =
    let a = when-is ((v == w) && (has_slot s p.slots && enters p m from.0 w xs sigs)) (choice xs s) x h in
    let b = and-true (v == w) (has_slot s p.slots && enters p m from.0 w xs sigs) a.test in
    let c = and-true (has_slot s p.slots) (enters p m from.0 w xs sigs) b.1 in
    let e : w ≡ v = sym (eqb-true v w b.0) in
    record {
      from = from;
      changes = xs;
      sigs = sigs;
      sig = sig;
      input = ap (λ (z : ℕ). Receive from (NewView z xs sigs sig)) e;
      enters = subst (λ (z : ℕ). enters p m from.0 z xs sigs ≡ true) e c.1;
      within = c.0;
      value = a.is;
    }

pub chosen-is : (p : Params) (m : Mode) (i : Said) (v s : ℕ) (x : Value) → chosen p m i v s ≡ Some x →
    IsChosen p m i v s x
chosen-is p m (Cast t b) v s x h = absurd (cc)
chosen-is p m (Receive from msg) v s x h = chosen-is-heard p m from msg.body msg.sig v s x h
chosen-is p m Timeout v s x h = absurd (cc)

pub record IsOffered (v s : ℕ) (x : Value) (o : Option (Slot × Batch)) : Type 0 where
  pub offer : Slot × Batch
  pub is : ◌≡◌ {A = Option (Slot × Batch)} o (Some offer)
  pub start : v ≡ 0
  pub at_slot : s ≡ offer.0.0
  pub value : Value_batch offer.1 ≡ x

pub offered-is : (o : Option (Slot × Batch)) (v s : ℕ) (x : Value) → offered o v s ≡ Some x → IsOffered v s x o
offered-is None v s x h = absurd (cc)
offered-is (Some a) v s x h =
    let w = when-is ((v == 0) && (s == a.0.0)) (Value_batch a.1) x h in
    let b = and-true (v == 0) (s == a.0.0) w.test in
    record { offer = a; is = refl; start = eqb-true v 0 b.0; at_slot = eqb-true s a.0.0 b.1; value = w.is }

pub record IsOwn (p : Params) (me : ℕ) (i : Said) (a : Slot × Batch) : Type 0 where
  pub leads : me ≡ p.leader.0
  pub input : SameInput i (Cast a.0 a.1)

pub record IsTold (p : Params) (me : ℕ) (i : Said) (a : Slot × Batch) : Type 0 where
  pub follows : (me == p.leader.0) ≡ false
  pub sig : List ℕ
  pub input : SameInput i (Receive p.leader (PrePrepare 0 a.0 (Value_batch a.1) sig))

pub record Offers (p : Params) (me : ℕ) (m : Mode) (i : Said) (a : Slot × Batch) : Type 0 where
  pub view : m.view ≡ 0
  pub active : m.active ≡ true
  pub within : has_slot a.0.0 p.slots ≡ true
  pub cause : IsOwn p me i a ⊎ IsTold p me i a

open-is : (p : Params) (m : Mode) (s : ℕ) → is_open p m s ≡ true →
    (m.view ≡ 0) × (m.active ≡ true) × (has_slot s p.slots ≡ true)
open-is p m s h =
    let a = and-true (m.view == 0) (m.active && has_slot s p.slots) h in
    let b = and-true m.active (has_slot s p.slots) a.1 in
    (eqb-true m.view 0 a.0, b.0, b.1)

offer-is-heard : (p : Params) (me : ℕ) (m : Mode) (from : NodeId) (body : Body) (sig : List ℕ) (a : Slot × Batch) →
    ◌≡◌ {A = Option (Slot × Batch)} (offer p me m (Receive from (signed body sig))) (Some a) → Offers p me m (Receive from (signed body sig)) a
offer-is-heard p me m from (Pre_prepare_body v s Value_nil) sig a h = absurd (cc)
offer-is-heard p me m from (Pre_prepare_body v s (Value_batch b)) sig a h =
    let w = when-is {A = Slot × Batch} ((not (me == p.leader.0) && (from.0 == p.leader.0)) && ((v == 0) && is_open p m s.0)) (s, b) a h in
    let t = and-true (not (me == p.leader.0) && (from.0 == p.leader.0)) ((v == 0) && is_open p m s.0) w.test in
    let u = and-true (not (me == p.leader.0)) (from.0 == p.leader.0) t.0 in
    let k = and-true (v == 0) (is_open p m s.0) t.1 in
    let o = open-is p m s.0 k.1 in
    let leader : from ≡ p.leader = node-is from p.leader (eqb-true from.0 p.leader.0 u.1) in
    let start : v ≡ 0 = eqb-true v 0 k.0 in
    let input : SameInput (Receive from (PrePrepare v s (Value_batch b) sig)) (Receive p.leader (PrePrepare 0 s (Value_batch b) sig)) = ap (λ (z : NodeId). Receive z (PrePrepare v s (Value_batch b) sig)) leader ∙ ap (λ (z : ℕ). Receive p.leader (PrePrepare z s (Value_batch b) sig)) start in
    subst (λ (z : Slot × Batch). Offers p me m (Receive from (PrePrepare v s (Value_batch b) sig)) z) w.is (record { view = o.0; active = o.1; within = o.2; cause = inr (record { follows = not-true (me == p.leader.0) u.0; sig = sig; input = input }) })
offer-is-heard p me m from (Prepare_body v s d) sig a h = absurd (cc)
offer-is-heard p me m from (Commit_body v s d) sig a h = absurd (cc)
offer-is-heard p me m from (View_change_body v cs) sig a h = absurd (cc)
offer-is-heard p me m from (New_view_body v xs sigs) sig a h = absurd (cc)

pub offer-is : (p : Params) (me : ℕ) (m : Mode) (i : Said) (a : Slot × Batch) →
    ◌≡◌ {A = Option (Slot × Batch)} (offer p me m i) (Some a) → Offers p me m i a
offer-is p me m (Cast s b) a h =
    let w = when-is {A = Slot × Batch} ((me == p.leader.0) && is_open p m s.0) (s, b) a h in
    let t = and-true (me == p.leader.0) (is_open p m s.0) w.test in
    let o = open-is p m s.0 t.1 in
    subst (λ (z : Slot × Batch). Offers p me m (Cast s b) z) w.is (record { view = o.0; active = o.1; within = o.2; cause = inl (record { leads = eqb-true me p.leader.0 t.0; input = refl }) })
offer-is p me m (Receive from msg) a h = offer-is-heard p me m from msg.body msg.sig a h
offer-is p me m Timeout a h = absurd (cc)

-- ---- proposals never change

pub record Seen (m : Mode) (v : ℕ) : Type 0 where
  pub view : v ≤ m.view
  pub active : v ≡ m.view → m.active ≡ true

seen-on : (m u : Mode) (v : ℕ) → Grows m u → Seen m v → Seen u v
seen-on m u v g s = let a = g.view in let b = s.view in record { view = omega arith; active = λ e. g.active (omega arith) (s.active (omega arith)) }

pub not-newer : (m : Mode) (v : ℕ) → Seen m v → IsNewer m v → ⊥
not-newer m v h (inl l) = let a = h.view in absurd (omega arith)
not-newer m v h (inr e) = true≢false (sym (h.active (sym e.0)) ∙ e.1)

pub no-chosen : (p : Params) (m : Mode) (i : Said) (v s : ℕ) → Seen m v → chosen p m i v s ≡ None
no-chosen p m i v s h = none-from (chosen p m i v s) (λ x e. let c = chosen-is p m i v s x e in not-newer m v h (entered p m c.from.0 v c.changes c.sigs c.enters).newer)

enters-mode : (p : Params) (m : Mode) (from : NodeId) (v : ℕ) (xs : List Change) (sigs : List (List ℕ)) (sig : List ℕ) →
    enters p m from.0 v xs sigs ≡ true → Seen (mode_after p m (Receive from (NewView v xs sigs sig))) v
enters-mode p m from v xs sigs sig h = subst (λ (z : Bool). Seen (cond z (record { view = v; active = true }) m) v) (sym h) (record { view = omega arith; active = λ e. refl })

pub seen : (p : Params) (me : ℕ) (l : List Said) (v s : ℕ) (x : Value) → proposal p me l v s ≡ Some x →
    Seen (mode p l) v
seen p me [] v s x h = absurd (cc)
seen p me (i ∷ l) v s x h = elim (first-cases (chosen p (mode p l) i v s) (first_of (proposal p me l v s) (offered (offer p me (mode p l) i) v s)) x h) [
  | inl a ↦ let c = chosen-is p (mode p l) i v s x a in subst (λ (z : Said). Seen (mode_after p (mode p l) z) v) (sym c.input) (enters-mode p (mode p l) c.from v c.changes c.sigs c.sig c.enters)
  | inr a ↦ elim (first-cases (proposal p me l v s) (offered (offer p me (mode p l) i) v s) x a.1) [
    | inl b ↦ seen-on (mode p l) (mode p (i ∷ l)) v (grows p (mode p l) i) (seen p me l v s x b)
    | inr b ↦
        let o = offered-is (offer p me (mode p l) i) v s x b.1 in
        let q = offer-is p me (mode p l) i o.offer o.is in
        let z = o.start in
        let y = q.view in
        seen-on (mode p l) (mode p (i ∷ l)) v (grows p (mode p l) i) (record { view = omega arith; active = λ e. q.active })
  ]
]

pub persists : (p : Params) (me : ℕ) (l : List Said) (i : Said) (v s : ℕ) (x : Value) → proposal p me l v s ≡ Some x →
    proposal p me (i ∷ l) v s ≡ Some x
persists p me l i v s x h =
    first-none (chosen p (mode p l) i v s) (first_of (proposal p me l v s) (offered (offer p me (mode p l) i) v s)) (no-chosen p (mode p l) i v s (seen p me l v s x h))
    ∙ first-keeps (proposal p me l v s) (offered (offer p me (mode p l) i) v s) x h

-- an accepted batch, and the choice of a NewView, is the proposal

pub proposed-offer : (p : Params) (me : ℕ) (l : List Said) (i : Said) (a : Slot × Batch) →
    ◌≡◌ {A = Option (Slot × Batch)} (asked p me l i) (Some a) → proposal p me (i ∷ l) 0 a.0.0 ≡ Some (Value_batch a.1)
proposed-offer p me l i a h =
    let k = asked-is p me l i a h in
    let o = offer-is p me (mode p l) i a k.offered in
    let ov = o.view in
    let none : chosen p (mode p l) i 0 a.0.0 ≡ None = no-chosen p (mode p l) i 0 a.0.0 (record { view = omega arith; active = λ e. o.active }) in
    let fresh : proposal p me l 0 a.0.0 ≡ None = k.fresh in
    let is : ◌≡◌ {A = Option (Slot × Batch)} (offer p me (mode p l) i) (Some a) = k.offered in
    rw (none, fresh, is, is-same a.0.0 a.0.0 refl) refl

pub proposed-choice : (p : Params) (me : ℕ) (l : List Said) (from : NodeId) (v s : ℕ) (xs : List Change) (sigs : List (List ℕ)) (sig : List ℕ) → enters p (mode p l) from.0 v xs sigs ≡ true → has_slot s p.slots ≡ true → proposal p me (Receive from (NewView v xs sigs sig) ∷ l) v s ≡ Some (choice xs s)
proposed-choice p me l from v s xs sigs sig h g = rw (is-same v v refl, g, h) refl
