-- Taking a file out of others, by its name.
use Rattle.std.specs.Prelude.{◌≡◌, ◌≢◌, ℕ, ◌≤◌, List, Vec, vec_len, vec_capacity}
use Rattle.iss_disk.specs.MemoryViews.{history_among}
use Rattle.iss_disk.specs.StoredViews.{history_of}
use Rattle.iss_disk.specs.declared.stored.StoredFile.{StoredFile}

-- the file of this name is no longer among the others, which stay
pub record IsTaken {Z : Type 0} (wanted : List ℕ) (old new : Vec StoredFile Z) (taken : StoredFile) : Type 0 where
  pub name : taken.name.items ≡ wanted
  pub history : history_of taken ≡ history_among old.items wanted
  pub others : (name : List ℕ) → name ≢ wanted → history_among new.items name ≡ history_among old.items name
  pub len : vec_len new ≤ vec_len old
  pub capacity : vec_capacity new ≡ vec_capacity old
