-- What snapshots hold after a further one.
use Rattle.std.proofs.Common.{arith, inl, inr, ◌≡◌, ℕ, suc, ◌+◌, ◌<◌, ◌==◌, nat_le, subst, ◌||◌, Bool, true, false, cond, is_some, List, [], ◌∷◌, ◌++◌, Option, Some, None, length, reverse, take, get_or, refl, sym, ap, ◌∙◌, add-one}
use Rattle.std.proofs.Math.Path.{fun_ext}
use Rattle.std.proofs.Math.Seq.{take-suc}
use Rattle.std.proofs.lemmas.Bool.{le-leb, lt-leb}
use Rattle.std.proofs.lemmas.Bool.Decides.{eqb_tells, leb_tells}
use Rattle.std.proofs.lemmas.List.{reverse-append}
use Rattle.std.specs.Ordering.{is_eq, nat_cmp}
use Rattle.iss_base.proofs.Lists.{same_number}
use Rattle.iss_checkpoint.specs.declared.votes.Cert.{Cert}
use Rattle.iss_node.specs.Saved.{HasSaved, SavedState, holds, saved_of}
use Rattle.iss_rebuilt.specs.Stored.{nothing_saved, saved_after}
use Rattle.iss_rules.specs.Votes.{cert_on}
use Rattle.iss_snapshot.specs.declared.snapshots.Snapshot.{Snapshot}

-- A list has a certificate of an epoch whatever its order.
held-both : (xs ys : List Cert) (e : ℕ) → is_some (cert_on (xs ++ ys) e) ≡ (is_some (cert_on xs e) || is_some (cert_on ys e))
held-both [] ys e = refl
held-both (c ∷ xs) ys e = go (c.epoch.0 == e) (held-both xs ys e)
  where
    go : (b : Bool) → is_some (cert_on (xs ++ ys) e) ≡ (is_some (cert_on xs e) || is_some (cert_on ys e)) →
        is_some (cond b (Some c) (cert_on (xs ++ ys) e)) ≡ (is_some (cond b (Some c) (cert_on xs e)) || is_some (cert_on ys e))
    go true ih = refl
    go false ih = ih

held-last : (c : Cert) (b : Bool) (x y : Option Cert) → is_some x ≡ is_some y → is_some (cond b (Some c) x) ≡ (is_some y || is_some (cond b (Some c) None))
held-last c true x None h = refl
held-last c true x (Some d) h = refl
held-last c false x None h = h
held-last c false x (Some d) h = h

held-turned : (cs : List Cert) (e : ℕ) → is_some (cert_on cs e) ≡ is_some (cert_on (reverse cs) e)
held-turned [] e = refl
held-turned (c ∷ cs) e =
    held-last c (c.epoch.0 == e) (cert_on cs e) (cert_on (reverse cs) e) (held-turned cs e)
    ∙ (sym (held-both (reverse cs) (c ∷ []) e) ∙ ap (λ (xs : List Cert). is_some (cert_on xs e)) (sym (reverse-append (c ∷ []) cs)))

-- What is noted of a snapshot is what the model notes.
pub saved-after : (old new : SavedState) (s : Snapshot) → HasSaved old s.to.0 s.certs new → saved_of new ≡ saved_after (saved_of old) s
saved-after old new s h = λ i. record {
  from = h.from i;
  held = fun_ext (λ e. h.held e ∙ ap (λ (b : Bool). holds old e || b) (held-turned s.certs e)) i;
}

-- ---- one certificate more

one-more : (c : Cert) (b h t : Bool) → cond b true (h || t) ≡ (h || (t || is_some (cond b (Some c) None)))
one-more c true true t = refl
one-more c true false true = refl
one-more c true false false = refl
one-more c false true t = refl
one-more c false false true = refl
one-more c false false false = refl

pub held-next : (before : Bool) (was : Bool) (certs : List Cert) (i : ℕ) (c : Cert) (e : ℕ) (now : Bool) → i < length certs → c ≡ get_or certs i c → was ≡ (before || is_some (cert_on (take i certs) e)) →
    now ≡ cond (c.epoch.0 == e) true was → now ≡ (before || is_some (cert_on (take (i + 1) certs) e))
held-next before was certs i c e now lt is h k =
    let next : take (i + 1) certs ≡ take i certs ++ c ∷ [] = rw add-one (take-suc certs i c lt ∙ ap (λ (y : Cert). take i certs ++ y ∷ []) (sym is)) in
    k
    ∙ (ap (λ (b : Bool). cond (c.epoch.0 == e) true b) h
    ∙ (one-more c (c.epoch.0 == e) before (is_some (cert_on (take i certs) e))
    ∙ ap (λ (b : Bool). before || b) (sym (ap (λ (xs : List Cert). is_some (cert_on xs e)) next ∙ held-both (take i certs) (c ∷ []) e))))

-- ---- the mark below which all are held

or-put : (l t w : Bool) → (l || cond t true w) ≡ cond t true (l || w)
or-put true true w = refl
or-put true false w = refl
or-put false t w = refl

pub put-below : (below : Bool) (epoch e : ℕ) (was now : Bool) → now ≡ cond (is_eq (nat_cmp epoch e)) true was → (below || now) ≡ cond (epoch == e) true (below || was)
put-below below epoch e was now h = ap (λ (b : Bool). below || b) (h ∙ ap (λ (t : Bool). cond t true was) (same_number epoch e)) ∙ or-put below (epoch == e) was

-- The mark moves past an epoch that is held, which is then no stray.
pub moved-up : (low e : ℕ) (was : ℕ → Bool) (now : Bool) → was low ≡ true → now ≡ cond (is_eq (nat_cmp low e)) false (was e) → (nat_le (suc e) (low + 1) || now) ≡ (nat_le (suc e) low || was e)
moved-up low e was now held h = elim (eqb_tells low e) [
  | inl t ↦
      let there : was e ≡ true = subst (λ (n : ℕ). was n ≡ true) t.1 held in
      let under : nat_le (suc e) (low + 1) ≡ true = le-leb (suc e) (low + 1) (omega (arith, t.1)) in
      ap (λ (b : Bool). b || now) under ∙ sym (ap (λ (b : Bool). nat_le (suc e) low || b) there ∙ or-true (nat_le (suc e) low))
  | inr t ↦
      let stays : now ≡ was e = h ∙ (ap (λ (b : Bool). cond b false (was e)) (same_number low e ∙ t.0)) in
      ap (λ (b : Bool). nat_le (suc e) (low + 1) || b) stays ∙ ap (λ (b : Bool). b || was e) (same-side t.1)
]
  where
    or-true : (b : Bool) → (b || true) ≡ true
    or-true true = refl
    or-true false = refl

    same-side : (low ≡ e → ⊥) → nat_le (suc e) (low + 1) ≡ nat_le (suc e) low
    same-side ne = elim (leb_tells (suc e) low) [
      | inl t ↦ le-leb (suc e) (low + 1) (omega (arith, t.1)) ∙ sym t.0
      | inr t ↦ lt-leb (suc e) (low + 1) (omega (arith, t.1, ne)) ∙ sym t.0
    ]

-- A node that took no event saved nothing.
pub nothing-held : saved_of (record { from = 0; low = 0; strays = [] }) ≡ nothing_saved
nothing-held = λ i. record { from = 0; held = fun_ext (λ e. ap (λ (b : Bool). b || false) (lt-leb (suc e) 0 (omega arith))) i }
