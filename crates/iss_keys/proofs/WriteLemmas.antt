-- What is appended for a signature is its parts.
use Rattle.std.proofs.Common.{◌≡◌, ℕ, ◌/◌, ◌%◌, ◌^◌, ◌<◌, ◌≤◌, List, ◌++◌, ap, ◌∙◌, arith, inl, inr}
use Rattle.std.proofs.lemmas.Bool.{cases_lt}
use Rattle.iss_keys.specs.Chains.{statement_digest}
use Rattle.iss_keys.specs.Trees.{KeyTree}
use Rattle.iss_keys.specs.Levels.{bottom_secret, by_top, top_tree}
use Rattle.iss_keys.specs.Signatures.{part_by, part_of, parts_of}
use Rattle.iss_keys.specs.Internal.Bottoms.{BottomView}
use Rattle.iss_keys.proofs.VerifyLemmas.{one_appended, parts_appended, top_height, top_leaf, top_of_one}

-- ---- the leaf of the tree is one of its leaves

pub one_leaf : (secret : List ℕ) (h q : ℕ) (t : KeyTree) → h ≤ 12 → q < 2 ^ h → t ≡ top_tree secret h → q < 2 ^ t.height
one_leaf secret h q t one lt e =
    let height : t.height ≡ h = ap (λ (x : KeyTree). x.height) (e ∙ top_of_one secret h one) in
    rw height lt

pub top_leaf_within : (secret : List ℕ) (h q : ℕ) → q < 2 ^ h → q / 1024 < 2 ^ (top_tree secret h).height
top_leaf_within secret h q lt = elim (cases_lt 12 h) [
  | inl two ↦ rw (top_height secret h two) (top_leaf h q two lt)
  | inr one ↦
      let height : (top_tree secret h).height ≡ h = ap (λ (x : KeyTree). x.height) (top_of_one secret h one) in
      rw height (omega (arith, lt))
]

-- ---- what was appended

pub one_written : (secret s m old new : List ℕ) (h q : ℕ) (t : KeyTree) → h ≤ 12 → t ≡ top_tree secret h →
    m ≡ statement_digest s → new ≡ old ++ part_of t.secret t.height q m → new ≡ old ++ parts_of secret h q s
one_written secret s m old new h q t one e digest is =
    is ∙ ap (λ (x : List ℕ). old ++ part_of t.secret t.height q x) digest
    ∙ ap (λ (x : KeyTree). old ++ part_of x.secret x.height q (statement_digest s)) e
    ∙ one_appended secret s old h q one

pub two_written : (secret s m old new : List ℕ) (h q : ℕ) (b : BottomView) → 12 < h →
    b ≡ record { secret = secret; height = h; number = q / 1024 } → m ≡ statement_digest s →
    new ≡ old ++ part_of (bottom_secret b.secret b.number) 10 (q % 1024) m
    ++ part_by b.secret b.height (by_top b.secret b.number)
    → new ≡ old ++ parts_of secret h q s
two_written secret s m old new h q b two e digest is =
    is
    ∙ ap (λ (x : List ℕ). old ++ part_of (bottom_secret b.secret b.number) 10 (q % 1024) x
    ++ part_by b.secret b.height (by_top b.secret b.number)) digest
    ∙ ap (λ (x : BottomView). old ++ part_of (bottom_secret x.secret x.number) 10 (q % 1024) (statement_digest s)
    ++ part_by x.secret x.height (by_top x.secret x.number)) e
    ∙ parts_appended secret s old h q two
