-- Prefixes of logs, and a node's terms and logs over time.
use Rattle.std.proofs.Common.{◌≡◌, ℕ, List, [], ◌∷◌, ◌⊎◌}
use Rattle.raft_wire.specs.declared.entries.Entry.{Entry}

-- a is a prefix of b
abbrev pub Prefix : {A : Type 0} → List A → List A → Type 0
Prefix [] b = Unit {0}
Prefix (x ∷ a) [] = ⊥
Prefix (x ∷ a) (y ∷ b) = (x ≡ y) × Prefix a b

-- a node's term and log at one time; a history has the newest first
pub record Moment : Type 0 where
  pub term : ℕ
  pub log : List Entry

-- xs is ys without some of its newest elements
abbrev pub Tail : {A : Type 0} → List A → List A → Type 0
Tail xs [] = xs ≡ []
Tail xs (y ∷ ys) = (xs ≡ y ∷ ys) ⊎ Tail xs ys
