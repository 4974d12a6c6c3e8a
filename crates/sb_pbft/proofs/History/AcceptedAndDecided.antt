-- Which batch a replica accepts, and which values are decided.
use Rattle.std.proofs.Common.{◌≡◌, ◌+◌, ◌*◌, ◌&&◌, ◌∷◌, ℕ, zero, suc, Bool, true, not, List, [], length, Option, Some, None, refl, sym, subst, inl, inr}
use Rattle.std.specs.Prelude.{nat_le, ◌==◌}
use Rattle.iss_base.specs.Lists.{first_of}
use Rattle.iss_base.proofs.Lists.{and-true, first-cases, is-eq}
use Rattle.iss_request.specs.declared.ids.NodeId.{NodeId}
use Rattle.iss_request.specs.declared.ids.Slot.{Slot}
use Rattle.iss_request.specs.declared.requests.Batch.{Batch}
use Rattle.iss_request.specs.declared.requests.Value.{Value}
use Rattle.iss_request.specs.declared.requests.Value.TheVariants.{Batch as Value_batch, Nil as Value_nil}
use Rattle.iss_sb.specs.Calls.{has_slot}
use Rattle.iss_sb.specs.declared.effects.Input.{Input}
use Rattle.iss_sb.specs.declared.effects.Input.TheVariants.{Cast, Receive, Timeout}
use Rattle.iss_sb.specs.declared.effects.Params.{Params}
use Rattle.pbft_wire.specs.Statements.{digest_of}
use Rattle.pbft_wire.specs.declared.messages.Message.{Message}
use Rattle.pbft_wire.specs.declared.messages.Body.{Body}
use Rattle.pbft_wire.specs.declared.messages.Body.TheVariants.{PrePrepare as Pre_prepare_body, Prepare as Prepare_body, Commit as Commit_body, ViewChange as View_change_body, NewView as New_view_body}
use Rattle.pbft_wire.specs.Signed.{signed}
use Rattle.pbft_views.specs.Choice.{choice}
use Rattle.sb_pbft.specs.Rules.{Mode, asked, asked_of, chosen, commits, committed, committed_with, enters, is_open, lowest, mode, offer, offered, prepared, prepared_with, prepares, proposal, unless}
use Rattle.sb_pbft.proofs.Basics.{IsWhen, when-is}

-- ---- accepted batches

pub record IsAsked (p : Params) (me : ℕ) (l : List (Input Message)) (i : Input Message) (a : Slot × Batch) : Type 0 where
  pub offered : ◌≡◌ {A = Option (Slot × Batch)} (offer p me (mode p l) i) (Some a)
  pub fresh : proposal p me l 0 a.0.0 ≡ None

pub asked-is : (p : Params) (me : ℕ) (l : List (Input Message)) (i : Input Message) (a : Slot × Batch) →
    ◌≡◌ {A = Option (Slot × Batch)} (asked p me l i) (Some a) → IsAsked p me l i a
asked-is p me l i a h = go (offer p me (mode p l) i) refl h
  where
    go : (o : Option (Slot × Batch)) → offer p me (mode p l) i ≡ o →
        ◌≡◌ {A = Option (Slot × Batch)} (asked_of p me l o) (Some a) → IsAsked p me l i a
    go None q r = absurd (cc)
    go (Some b) q r = there (proposal p me l 0 b.0.0) refl r
      where
        there : (x : Option Value) → proposal p me l 0 b.0.0 ≡ x →
            ◌≡◌ {A = Option (Slot × Batch)} (unless x b) (Some a) → IsAsked p me l i a
        there (Some x) u z = absurd (cc)
        there None u z =
            let same : b ≡ a = cc in
            subst (λ (c : Slot × Batch). IsAsked p me l i c) same (record { offered = q; fresh = u })

open-slot : (p : Params) (m : Mode) (s : ℕ) → is_open p m s ≡ true → has_slot s p.slots ≡ true
open-slot p m s h = (and-true m.active (has_slot s p.slots) (and-true (m.view == 0) (m.active && has_slot s p.slots) h).1).1

abbrev pub cast_test : Params → ℕ → Mode → Slot → Bool
cast_test p me m s = (me == p.leader.0) && is_open p m s.0

pub cast-when : (p : Params) (me : ℕ) (m : Mode) (s : Slot) (b : Batch) (a : Slot × Batch) →
    ◌≡◌ {A = Option (Slot × Batch)} (offer p me m (Cast s b)) (Some a) →
    IsWhen {A = Slot × Batch} (cast_test p me m s) (s, b) a
cast-when p me m s b a h = when-is {A = Slot × Batch} (cast_test p me m s) (s, b) a h

abbrev word_test : Params → ℕ → Mode → NodeId → ℕ → Slot → Bool
word_test p me m from v s = (not (me == p.leader.0) && (from.0 == p.leader.0)) && ((v == 0) && is_open p m s.0)

offer-within-heard : (p : Params) (me : ℕ) (m : Mode) (from : NodeId) (body : Body) (sig : List ℕ) (a : Slot × Batch) →
    ◌≡◌ {A = Option (Slot × Batch)} (offer p me m (Receive from (signed body sig))) (Some a) → has_slot a.0.0 p.slots ≡ true
offer-within-heard p me m from (Pre_prepare_body v s Value_nil) sig a h = absurd (cc)
offer-within-heard p me m from (Pre_prepare_body v s (Value_batch b)) sig a h =
    let w = when-is {A = Slot × Batch} (word_test p me m from v s) (s, b) a h in
    let t = and-true (not (me == p.leader.0) && (from.0 == p.leader.0)) ((v == 0) && is_open p m s.0) w.test in
    subst (λ (z : Slot × Batch). has_slot z.0.0 p.slots ≡ true) w.is (open-slot p m s.0 (and-true (v == 0) (is_open p m s.0) t.1).1)
offer-within-heard p me m from (Prepare_body v s d) sig a h = absurd (cc)
offer-within-heard p me m from (Commit_body v s d) sig a h = absurd (cc)
offer-within-heard p me m from (View_change_body v cs) sig a h = absurd (cc)
offer-within-heard p me m from (New_view_body v xs sigs) sig a h = absurd (cc)

pub offer-within : (p : Params) (me : ℕ) (m : Mode) (i : Input Message) (a : Slot × Batch) →
    ◌≡◌ {A = Option (Slot × Batch)} (offer p me m i) (Some a) → has_slot a.0.0 p.slots ≡ true
offer-within p me m (Cast s b) a h =
    let w = cast-when p me m s b a h in
    subst (λ (z : Slot × Batch). has_slot z.0.0 p.slots ≡ true) w.is (open-slot p m s.0 (and-true (me == p.leader.0) (is_open p m s.0) w.test).1)
offer-within p me m (Receive from msg) a h = offer-within-heard p me m from msg.body msg.sig a h
offer-within p me m Timeout a h = absurd (cc)

-- ---- decided values

offered-slot : (o : Option (Slot × Batch)) (v s : ℕ) (x : Value) → offered o v s ≡ Some x →
    (a : Slot × Batch) × (◌≡◌ {A = Option (Slot × Batch)} o (Some a)) × (s ≡ a.0.0)
offered-slot None v s x h = absurd (cc)
offered-slot (Some a) v s x h =
    let w = when-is ((v == 0) && (s == a.0.0)) (Value_batch a.1) x h in
    (a, refl, is-eq s a.0.0 (and-true (v == 0) (s == a.0.0) w.test).1)

chosen-within-heard : (p : Params) (m : Mode) (from : NodeId) (body : Body) (sig : List ℕ) (v s : ℕ) (x : Value) → chosen p m (Receive from (signed body sig)) v s ≡ Some x →
    has_slot s p.slots ≡ true
chosen-within-heard p m from (Pre_prepare_body w slot y) sig v s x h = absurd (cc)
chosen-within-heard p m from (Prepare_body w slot d) sig v s x h = absurd (cc)
chosen-within-heard p m from (Commit_body w slot d) sig v s x h = absurd (cc)
chosen-within-heard p m from (View_change_body w cs) sig v s x h = absurd (cc)
chosen-within-heard p m from (New_view_body w xs sigs) sig v s x h =
    let t = when-is ((v == w) && (has_slot s p.slots && enters p m from.0 w xs sigs)) (choice xs s) x h in
    (and-true (has_slot s p.slots) (enters p m from.0 w xs sigs) (and-true (v == w) (has_slot s p.slots && enters p m from.0 w xs sigs) t.test).1).0

chosen-within : (p : Params) (m : Mode) (i : Input Message) (v s : ℕ) (x : Value) → chosen p m i v s ≡ Some x →
    has_slot s p.slots ≡ true
chosen-within p m (Cast slot b) v s x h = absurd (cc)
chosen-within p m (Receive from msg) v s x h = chosen-within-heard p m from msg.body msg.sig v s x h
chosen-within p m Timeout v s x h = absurd (cc)

pub proposal-within : (p : Params) (me : ℕ) (l : List (Input Message)) (v s : ℕ) (x : Value) →
    proposal p me l v s ≡ Some x → has_slot s p.slots ≡ true
proposal-within p me [] v s x h = absurd (cc)
proposal-within p me (i ∷ l) v s x h = elim (first-cases (chosen p (mode p l) i v s) (first_of (proposal p me l v s) (offered (offer p me (mode p l) i) v s)) x h) [
  | inl k ↦ chosen-within p (mode p l) i v s x k
  | inr k ↦ elim (first-cases (proposal p me l v s) (offered (offer p me (mode p l) i) v s) x k.1) [
    | inl r ↦ proposal-within p me l v s x r
    | inr r ↦
        let o = offered-slot (offer p me (mode p l) i) v s x r.1 in
        subst (λ (z : ℕ). has_slot z p.slots ≡ true) (sym o.2) (offer-within p me (mode p l) i o.0 o.1)
  ]
]

pub record IsPrepared (p : Params) (me : ℕ) (l : List (Input Message)) (v s : ℕ) (x : Value) : Type 0 where
  pub proposed : proposal p me l v s ≡ Some x
  pub voted : nat_le (2 * p.setup.f) (length (prepares p l v s (digest_of p x))) ≡ true

pub prepared-is : (p : Params) (me : ℕ) (l : List (Input Message)) (v s : ℕ) (x : Value) →
    prepared p me l v s ≡ Some x → IsPrepared p me l v s x
prepared-is p me l v s x h = go (proposal p me l v s) refl h
  where
    go : (o : Option Value) → proposal p me l v s ≡ o → prepared_with p l v s o ≡ Some x → IsPrepared p me l v s x
    go None q r = absurd (cc)
    go (Some y) q r =
        let w = when-is (nat_le (2 * p.setup.f) (length (prepares p l v s (digest_of p y)))) y x r in
        subst (λ (z : Value). IsPrepared p me l v s z) w.is (record { proposed = q; voted = w.test })

pub record IsCommitted (p : Params) (me : ℕ) (l : List (Input Message)) (v s : ℕ) (x : Value) : Type 0 where
  pub prepared : IsPrepared p me l v s x
  pub voted : nat_le (2 * p.setup.f + 1) (length (commits p l v s (digest_of p x))) ≡ true

pub committed-is : (p : Params) (me : ℕ) (l : List (Input Message)) (v s : ℕ) (x : Value) →
    committed p me l v s ≡ Some x → IsCommitted p me l v s x
committed-is p me l v s x h = go (prepared p me l v s) refl h
  where
    go : (o : Option Value) → prepared p me l v s ≡ o → committed_with p l v s o ≡ Some x → IsCommitted p me l v s x
    go None q r = absurd (cc)
    go (Some y) q r =
        let w = when-is (nat_le (2 * p.setup.f + 1) (length (commits p l v s (digest_of p y)))) y x r in
        subst (λ (z : Value). IsCommitted p me l v s z) w.is (record { prepared = prepared-is p me l v s y q; voted = w.test })

pub lowest-is : (f : ℕ → Option Value) (v : ℕ) (x : Value) → lowest f v ≡ Some x → (w : ℕ) × (f w ≡ Some x)
lowest-is f zero x h = (0, h)
lowest-is f (suc v) x h = elim (first-cases (lowest f v) (f (suc v)) x h) [ inl k ↦ lowest-is f v x k | inr k ↦ (suc v, k.1) ]

pub decided-is : (p : Params) (me : ℕ) (l : List (Input Message)) (s : ℕ) (x : Value) →
    lowest (λ v. committed p me l v s) (mode p l).view ≡ Some x → (v : ℕ) × IsCommitted p me l v s x
decided-is p me l s x h = let r = lowest-is (λ v. committed p me l v s) (mode p l).view x h in (r.0, committed-is p me l r.0 s x r.1)
