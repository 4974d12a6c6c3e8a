-- What the parts of Raft's code hold: a log as its entries, with counts of the slots that they fill, and its committed
-- index.
use Rattle.std.specs.Prelude.{◌≡◌, ◌≤◌, ℕ, suc, ◌+◌, ◌==◌, ◌&&◌, Bool, false, cond, nat_le, List, [], ◌∷◌, drop, length, take}
use Rattle.raft_wire.specs.declared.entries.Entry.{Entry}
use Rattle.sb_raft.specs.Logs.{filled, merged, stay}
use Rattle.sb_raft.specs.Rules.{log_limit}

-- a log and its commit index
pub record LogState : Type 0 where
  pub entries : List Entry
  pub commit : ℕ

-- The invariant of the code's log: the number of filled slots, the bound of the commit index, and the number of slots
-- filled up to it.
abbrev pub AreCounted : List Entry → ℕ → ℕ → ℕ → Type 0
AreCounted es slots commit passed = (slots ≡ filled es) × (commit ≤ length es) × (passed ≡ filled (take commit es))

abbrev pub no_log : LogState
no_log = record { entries = []; commit = 0 }

-- ---- Entries and slots

-- whether the first entry has this term
abbrev pub starts_with : List Entry → ℕ → Bool
starts_with [] term = false
starts_with (x ∷ xs) term = x.term == term

-- how many of the sent entries agree in term with the log's entries there, from the first on
abbrev pub same : List Entry → List Entry → ℕ
same [] es = 0
same (x ∷ xs) [] = 0
same (x ∷ xs) (e ∷ es) = cond (x.term == e.term) (suc (same xs es)) 0

-- whether entries may be merged after this index: no committed entry is removed, and the log stays within its limit
abbrev pub is_mergeable : LogState → ℕ → List Entry → Bool
is_mergeable l index es = nat_le l.commit (index + stay (drop index l.entries) es) &&
    nat_le (length (merged l.entries index es)) log_limit

abbrev pub with_merged : LogState → ℕ → List Entry → LogState
with_merged l index es = record l { entries = merged l.entries index es }
