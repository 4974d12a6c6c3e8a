-- The votes of a quorum certificate are by different replicas.
use Rattle.std.proofs.Common.{◌≡◌, ◌≤◌, ◌<◌, ℕ, suc, ◌==◌, ◌&&◌, ◌||◌, not, Bool, true, false, List, [], ◌∷◌, length, refl, sym, ap, ◌∙◌, arith, true≢false}
use Rattle.std.specs.Prelude.{nat_le}
use Rattle.std.proofs.lemmas.Bool.{leb-true}
use Rattle.std.proofs.lemmas.Bool.Decides.{Decides-eqb}
use Rattle.iss_base.specs.Quorum.{distinct, mem}
use Rattle.iss_base.proofs.Lists.{and-true, both}
use Rattle.hs_tree.specs.declared.certificates.Certificate.{Certificate}
use Rattle.hs_tree.specs.declared.certificates.Certificate.TheVariants.{Root, Votes}
use Rattle.iss_sb.specs.declared.signers.Signed.{Signed}
use Rattle.hs_tree.specs.Certificates.{is_quorum, is_ascending, signers, votes_in}

same-length : (votes : List Signed) → length (signers votes) ≡ length votes
same-length [] = refl
same-length (v ∷ vs) = ap suc (same-length vs)

-- no signer is below the bound from which they ascend
not-below : (from k : ℕ) (votes : List Signed) → k < from → is_ascending from votes ≡ true → mem k (signers votes) ≡ false
not-below from k [] low h = refl
not-below from k (v ∷ vs) low h =
    let a = and-true (nat_le from v.by.0) (is_ascending (suc v.by.0) vs) h in
    let at_least = leb-true from v.by.0 a.0 in
    let others = not-below (suc v.by.0) k vs (omega (arith, low, at_least)) a.1 in
    go (k == v.by.0) refl others
  where
    clash : (k by : ℕ) → k < from → from ≤ by → k ≡ by → ⊥
    clash k by l m e = omega (arith, l, m, e)

    go : (b : Bool) → (k == v.by.0) ≡ b → mem k (signers vs) ≡ false → (b || mem k (signers vs)) ≡ false
    go true q r = absurd (clash k v.by.0 low (leb-true from v.by.0 (and-true (nat_le from v.by.0) (is_ascending (suc v.by.0) vs) h).0) ((Decides-eqb k v.by.0).0 q))
    go false q r = r

pub different : (from : ℕ) (votes : List Signed) → is_ascending from votes ≡ true → distinct (signers votes) ≡ true
different from [] h = refl
different from (v ∷ vs) h =
    let a = and-true (nat_le from v.by.0) (is_ascending (suc v.by.0) vs) h in
    let none = not-below (suc v.by.0) v.by.0 vs (omega arith) a.1 in
    both (not (mem v.by.0 (signers vs))) (distinct (signers vs)) (ap not none) (different (suc v.by.0) vs a.1)

pub quorum-nodes : (quorum phase view : ℕ) (c : Certificate) → is_quorum quorum phase view c ≡ true → (length (signers (votes_in c)) ≡ quorum) × (distinct (signers (votes_in c)) ≡ true)
quorum-nodes quorum phase view Root h = absurd (true≢false (sym h))
quorum-nodes quorum phase view (Votes w q d votes) h =
    let a = and-true ((w == view) && (q == phase)) ((length votes == quorum) && is_ascending 0 votes) h in
    let b = and-true (length votes == quorum) (is_ascending 0 votes) a.1 in
    (same-length votes ∙ (Decides-eqb (length votes) quorum).0 b.0, different 0 votes b.1)
