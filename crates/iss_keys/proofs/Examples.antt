-- The definitions, evaluated on a small key: 32 zero bytes. The numbers were computed by another program.
use Rattle.std.specs.Prelude.{◌≡◌, ℕ, List, [], ◌∷◌, replicate}
use Rattle.std.proofs.Common.{refl}
use Rattle.sha2.specs.Sha256.{sha256, digest_bytes, hash_after, compress, rounds, schedule, first_words}
use Rattle.iss_keys.specs.Pieces.{sum_below, listed}
use Rattle.iss_keys.specs.Chains.{chain_start, chain_end, steps, digit, statement_digest, leaf_value}
use Rattle.iss_keys.specs.Trees.{inner, node, tree_root, path_node}
use Rattle.iss_keys.specs.Signatures.{signature_of, parts_of}

-- the start of the first chain of the first leaf
first_start : chain_start (replicate 32 0) 0 0
    ≡ 227 ∷ 41 ∷ 245 ∷ 111 ∷ 219 ∷ 161 ∷ 33 ∷ 70 ∷ 162 ∷ 82 ∷ 204 ∷ 221 ∷ 142 ∷ 21 ∷ 122 ∷ 102 ∷ 4 ∷ 232 ∷ 161 ∷ 238 ∷
    124 ∷ 240 ∷ 175 ∷ 253 ∷ 163 ∷ 231 ∷ 222 ∷ 247 ∷ 1 ∷ 95 ∷ 47 ∷ 138 ∷ []
unfolding sha256 digest_bytes hash_after compress rounds schedule first_words
first_start = refl

-- the end of the first chain of the first leaf
first_end : chain_end (replicate 32 0) 0 0
    ≡ 16 ∷ 248 ∷ 174 ∷ 249 ∷ 118 ∷ 13 ∷ 246 ∷ 242 ∷ 219 ∷ 166 ∷ 177 ∷ 128 ∷ 221 ∷ 219 ∷ 175 ∷ 31 ∷ 193 ∷ 102 ∷ 0 ∷ 243 ∷
    119 ∷ 113 ∷ 75 ∷ 99 ∷ 6 ∷ 153 ∷ 250 ∷ 207 ∷ 51 ∷ 159 ∷ 44 ∷ 201 ∷ []
unfolding steps sha256 digest_bytes hash_after compress rounds schedule first_words
first_end = refl

-- the digits of the statement of one zero byte
digits : listed (digit (statement_digest (0 ∷ []))) 67
    ≡ 5 ∷ 10 ∷ 14 ∷ 12 ∷ 10 ∷ 3 ∷ 8 ∷ 5 ∷ 13 ∷ 8 ∷ 11 ∷ 7 ∷ 8 ∷ 1 ∷ 8 ∷ 2 ∷ 5 ∷ 11 ∷ 0 ∷ 7 ∷ 11 ∷ 11 ∷ 14 ∷ 12 ∷ 7 ∷ 12
    ∷ 8 ∷ 5 ∷ 8 ∷ 11 ∷ 7 ∷ 1 ∷ 7 ∷ 0 ∷ 4 ∷ 2 ∷ 6 ∷ 12 ∷ 8 ∷ 8 ∷ 0 ∷ 8 ∷ 8 ∷ 9 ∷ 3 ∷ 5 ∷ 8 ∷ 5 ∷ 0 ∷ 11 ∷ 12 ∷ 1 ∷ 3 ∷ 13
    ∷ 13 ∷ 6 ∷ 4 ∷ 0 ∷ 2 ∷ 3 ∷ 6 ∷ 8 ∷ 10 ∷ 5 ∷ 2 ∷ 0 ∷ 3 ∷ []
unfolding listed digit sum_below sha256 digest_bytes hash_after compress rounds schedule first_words
digits = refl

-- a tree of height 2 has four leaves
tree_of_four : (secret : List ℕ)
    → tree_root secret 2 ≡ inner (inner (leaf_value secret 0) (leaf_value secret 1))
    (inner (leaf_value secret 2) (leaf_value secret 3))
unfolding node
tree_of_four secret = refl

-- the authentication path of leaf 2 has leaf 3, then the parent of leaves 0 and 1
way_up : (secret : List ℕ)
    → path_node secret 2 0 ∷ path_node secret 2 1 ∷ [] ≡ leaf_value secret 3 ∷ inner (leaf_value secret 0)
    (leaf_value secret 1) ∷ []
unfolding node
way_up secret = refl

-- the head of the signature of s with leaf 258
head : (secret s : List ℕ) → signature_of secret 12 258 s ≡ 12 ∷ 0 ∷ 0 ∷ 1 ∷ 2 ∷ parts_of secret 12 258 s
head secret s = refl
