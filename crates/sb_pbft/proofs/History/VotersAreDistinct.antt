-- The stored votes: each was received, and voters are distinct.
use Rattle.std.proofs.Common.{◌≡◌, ◌<◌, ◌≤◌, ◌+◌, ◌&&◌, ◌∷◌, ◌∙◌, ℕ, zero, suc, Bool, true, false, not, cond, List, [], take, Option, Some, None, refl, sym, ap, subst, inl, inr, arith}
use Rattle.std.proofs.lemmas.Bool.{eqb-true, false≢true}
use Rattle.std.specs.Prelude.{◌==◌}
use Rattle.iss_base.specs.Lists.{In, same_bytes}
use Rattle.iss_base.specs.Quorum.{distinct, mem}
use Rattle.iss_base.proofs.Lists.{and-true, first-cases, not-true, same_bytes-is}
use Rattle.iss_request.specs.declared.ids.NodeId.{NodeId}
use Rattle.iss_request.specs.declared.ids.Slot.{Slot}
use Rattle.iss_sb.specs.Calls.{has_slot}
use Rattle.iss_sb.specs.declared.effects.Input.TheVariants.{Cast, Receive, Timeout}
use Rattle.iss_sb.specs.declared.effects.Params.{Params}
use Rattle.pbft_wire.specs.declared.messages.Body.{Body}
use Rattle.pbft_wire.specs.declared.messages.Body.TheVariants.{PrePrepare as Pre_prepare_body, Prepare as Prepare_body, Commit as Commit_body, ViewChange as View_change_body, NewView as New_view_body}
use Rattle.pbft_wire.specs.Signed.{Prepare, Commit, signed}
use Rattle.iss_sb.specs.declared.signers.Signed.{Signed}
use Rattle.pbft_views.specs.Good.{primary}
use Rattle.pbft_views.specs.Laws.{nodes_of}
use Rattle.pbft_views.proofs.Numbers.{apart-cons, mem-cases}
use Rattle.sb_pbft.specs.Rules.{Ballot, commit_in, commit_of, cons_vote, is_at, prepare_in, prepare_of, voters}
use Rattle.sb_pbft.proofs.Basics.{when-is}
use Rattle.sb_pbft.proofs.History.ViewsGrow.{Said, SameInput}

-- ---- each was received

pub record IsPrepare (p : Params) (v s k : ℕ) (b : Ballot) (i : Said) : Type 0 where
  pub from : NodeId
  pub slot : Slot
  pub input : SameInput i (Receive from (Prepare v slot b.digest b.sig))
  pub by : from.0 ≡ k
  pub at_slot : slot.0 ≡ s
  pub other : (k == primary p v) ≡ false

prepare-in-is-heard : (p : Params) (from : NodeId) (body : Body) (sig : List ℕ) (v s k : ℕ) (b : Ballot) → prepare_in p (Receive from (signed body sig)) v s k ≡ Some b →
    IsPrepare p v s k b (Receive from (signed body sig))
prepare-in-is-heard p from (Pre_prepare_body w t x) sig v s k b h = absurd (cc)
prepare-in-is-heard p from (Prepare_body w t d) sig v s k b h =
    let ballot : Ballot = record { digest = d; sig = sig } in
    let a = when-is (is_at from.0 w t.0 v s k && (has_slot t.0 p.slots && not (from.0 == primary p w))) ballot b h in
    let c = and-true (is_at from.0 w t.0 v s k) (has_slot t.0 p.slots && not (from.0 == primary p w)) a.test in
    let e = and-true (from.0 == k) ((v == w) && (s == t.0)) c.0 in
    let f = and-true (v == w) (s == t.0) e.1 in
    let g = and-true (has_slot t.0 p.slots) (not (from.0 == primary p w)) c.1 in
    let who : from.0 ≡ k = eqb-true from.0 k e.0 in
    let view : w ≡ v = sym (eqb-true v w f.0) in
    let other : (from.0 == primary p w) ≡ false = not-true (from.0 == primary p w) g.1 in
    subst (λ (z : Ballot). IsPrepare p v s k z (Receive from (Prepare w t d sig))) a.is (record {
      from = from;
      slot = t;
      input = ap (λ (z : ℕ). Receive from (Prepare z t d sig)) view;
      by = who;
      at_slot = sym (eqb-true s t.0 f.1);
      other = subst (λ (z : ℕ). (z == primary p v) ≡ false) who (subst (λ (z : ℕ). (from.0 == primary p z) ≡ false) view other);
    })
prepare-in-is-heard p from (Commit_body w t d) sig v s k b h = absurd (cc)
prepare-in-is-heard p from (View_change_body w cs) sig v s k b h = absurd (cc)
prepare-in-is-heard p from (New_view_body w xs sigs) sig v s k b h = absurd (cc)

pub prepare-in-is : (p : Params) (i : Said) (v s k : ℕ) (b : Ballot) → prepare_in p i v s k ≡ Some b →
    IsPrepare p v s k b i
prepare-in-is p (Cast t c) v s k b h = absurd (cc)
prepare-in-is p (Receive from msg) v s k b h = prepare-in-is-heard p from msg.body msg.sig v s k b h
prepare-in-is p Timeout v s k b h = absurd (cc)

pub prepare-of-is : (p : Params) (l : List Said) (v s k : ℕ) (b : Ballot) → prepare_of p l v s k ≡ Some b →
    (i : Said) × In i l × IsPrepare p v s k b i
prepare-of-is p [] v s k b h = absurd (cc)
prepare-of-is p (i ∷ l) v s k b h = elim (first-cases (prepare_of p l v s k) (prepare_in p i v s k) b h) [
  | inl a ↦ let r = prepare-of-is p l v s k b a in (r.0, inr r.1, r.2)
  | inr a ↦ (i, inl refl, prepare-in-is p i v s k b a.1)
]

pub record IsCommit (v s k : ℕ) (b : Ballot) (i : Said) : Type 0 where
  pub from : NodeId
  pub slot : Slot
  pub input : SameInput i (Receive from (Commit v slot b.digest b.sig))
  pub by : from.0 ≡ k
  pub at_slot : slot.0 ≡ s

commit-in-is-heard : (p : Params) (from : NodeId) (body : Body) (sig : List ℕ) (v s k : ℕ) (b : Ballot) → commit_in p (Receive from (signed body sig)) v s k ≡ Some b → IsCommit v s k b (Receive from (signed body sig))
commit-in-is-heard p from (Pre_prepare_body w t x) sig v s k b h = absurd (cc)
commit-in-is-heard p from (Prepare_body w t d) sig v s k b h = absurd (cc)
commit-in-is-heard p from (Commit_body w t d) sig v s k b h =
    let ballot : Ballot = record { digest = d; sig = sig } in
    let a = when-is (is_at from.0 w t.0 v s k && has_slot t.0 p.slots) ballot b h in
    let c = and-true (is_at from.0 w t.0 v s k) (has_slot t.0 p.slots) a.test in
    let e = and-true (from.0 == k) ((v == w) && (s == t.0)) c.0 in
    let f = and-true (v == w) (s == t.0) e.1 in
    subst (λ (z : Ballot). IsCommit v s k z (Receive from (Commit w t d sig))) a.is (record {
      from = from;
      slot = t;
      input = ap (λ (z : ℕ). Receive from (Commit z t d sig)) (sym (eqb-true v w f.0));
      by = eqb-true from.0 k e.0;
      at_slot = sym (eqb-true s t.0 f.1);
    })
commit-in-is-heard p from (View_change_body w cs) sig v s k b h = absurd (cc)
commit-in-is-heard p from (New_view_body w xs sigs) sig v s k b h = absurd (cc)

pub commit-in-is : (p : Params) (i : Said) (v s k : ℕ) (b : Ballot) → commit_in p i v s k ≡ Some b → IsCommit v s k b i
commit-in-is p (Cast t c) v s k b h = absurd (cc)
commit-in-is p (Receive from msg) v s k b h = commit-in-is-heard p from msg.body msg.sig v s k b h
commit-in-is p Timeout v s k b h = absurd (cc)

pub commit-of-is : (p : Params) (l : List Said) (v s k : ℕ) (b : Ballot) → commit_of p l v s k ≡ Some b →
    (i : Said) × In i l × IsCommit v s k b i
commit-of-is p [] v s k b h = absurd (cc)
commit-of-is p (i ∷ l) v s k b h = elim (first-cases (commit_of p l v s k) (commit_in p i v s k) b h) [
  | inl a ↦ let r = commit-of-is p l v s k b a in (r.0, inr r.1, r.2)
  | inr a ↦ (i, inl refl, commit-in-is p i v s k b a.1)
]

-- ---- the voters for a digest

pub record IsVoted (g : ℕ → Option Ballot) (d : List ℕ) (k m : ℕ) (x : Signed) : Type 0 where
  pub ballot : Ballot
  pub kept : g x.by.0 ≡ Some ballot
  pub digest : ballot.digest ≡ d
  pub sig : ballot.sig ≡ x.sig
  pub low : k ≤ x.by.0
  pub high : x.by.0 < k + m

voted-more : (g : ℕ → Option Ballot) (d : List ℕ) (k m : ℕ) (x : Signed) → IsVoted g d (suc k) m x →
    IsVoted g d k (suc m) x
voted-more g d k m x a =
    let l = a.low in
    let h = a.high in
    record { ballot = a.ballot; kept = a.kept; digest = a.digest; sig = a.sig; low = omega (arith, l); high = omega (arith, h) }

pub in-voters : (g : ℕ → Option Ballot) (d : List ℕ) (k m : ℕ) (x : Signed) → In x (voters g d k m) → IsVoted g d k m x
in-voters g d k zero x h = absurd h
in-voters g d k (suc m) x h = go (in-voters g d (suc k) m x) (g k) refl h
  where
    vote : List ℕ → Signed
    vote sig = record { by = record { 0 = k }; sig = sig }

    with_it : (In x (voters g d (suc k) m) → IsVoted g d (suc k) m x) → (b : Ballot) → g k ≡ Some b → (t : Bool) →
        same_bytes d b.digest ≡ t → In x (cond t (vote b.sig ∷ voters g d (suc k) m) (voters g d (suc k) m)) →
        IsVoted g d k (suc m) x
    with_it r b e false q i = voted-more g d k m x (r i)
    with_it r b e true q (inl i) =
        let n : x.by.0 ≡ k = ap (λ (z : Signed). z.by.0) i in
        record { ballot = b; kept = ap g n ∙ e; digest = sym (same_bytes-is d b.digest q); sig = sym (ap (λ (z : Signed). z.sig) i); low = omega (arith, n); high = omega (arith, n) }
    with_it r b e true q (inr i) = voted-more g d k m x (r i)

    go : (In x (voters g d (suc k) m) → IsVoted g d (suc k) m x) → (o : Option Ballot) → g k ≡ o →
        In x (cons_vote d k o (voters g d (suc k) m)) → IsVoted g d k (suc m) x
    go r None e i = voted-more g d k m x (r i)
    go r (Some b) e i = with_it r b e (same_bytes d b.digest) refl i

-- each replica that is listed voted
pub node-vote : (j : ℕ) (xs : List Signed) → mem j (nodes_of xs) ≡ true → (x : Signed) × In x xs × (x.by.0 ≡ j)
node-vote j [] h = absurd (false≢true h)
node-vote j (x ∷ xs) h = elim (mem-cases j x.by.0 (nodes_of xs) h) [
  | inl e ↦ (x, inl refl, sym e)
  | inr m ↦ let r = node-vote j xs m in (r.0, inr r.1, r.2)
]

pub voters-apart : (g : ℕ → Option Ballot) (d : List ℕ) (k m : ℕ) → distinct (nodes_of (voters g d k m)) ≡ true
voters-apart g d k zero = refl
voters-apart g d k (suc m) = go (voters-apart g d (suc k) m) (g k)
  where
    fresh : mem k (nodes_of (voters g d (suc k) m)) ≡ true → ⊥
    fresh h =
        let r = node-vote k (voters g d (suc k) m) h in
        let l = (in-voters g d (suc k) m r.0 r.1).low in
        let e = r.2 in
        absurd (omega (arith, l, e))

    with_it : distinct (nodes_of (voters g d (suc k) m)) ≡ true → (sig : List ℕ) (t : Bool) → distinct (nodes_of (cond t (record { by = record { 0 = k }; sig = sig } ∷ voters g d (suc k) m) (voters g d (suc k) m))) ≡ true
    with_it r sig false = r
    with_it r sig true = apart-cons k (nodes_of (voters g d (suc k) m)) fresh r

    go : distinct (nodes_of (voters g d (suc k) m)) ≡ true → (o : Option Ballot) →
        distinct (nodes_of (cons_vote d k o (voters g d (suc k) m))) ≡ true
    go r None = r
    go r (Some b) = with_it r b.sig (same_bytes d b.digest)

-- ---- the first of them

pub in-take : {A : Type 0} (n : ℕ) (x : A) (xs : List A) → In x (take n xs) → In x xs
in-take zero x xs h = absurd h
in-take (suc n) x [] h = h
in-take (suc n) x (y ∷ ys) (inl e) = inl e
in-take (suc n) x (y ∷ ys) (inr h) = inr (in-take n x ys h)
