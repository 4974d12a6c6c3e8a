-- What the scan of a file finds: the entries up to the first gate that is not open, or where the file is damaged.
use Rattle.std.specs.Prelude.{◌≡◌, ℕ, List}
use Rattle.iss_journal.specs.Frames.{ClosesAfter, BreaksAt}
use Rattle.iss_journal.specs.EntryViews.{entries_in}
use Rattle.iss_journal.specs.declared.scan.Found.{Found}
use Rattle.iss_journal.specs.declared.scan.Found.TheVariants.{Whole, Damaged}

abbrev pub Finds : List ℕ → Found → Type 0
Finds file (Whole entries) = (entries.bytes.items ≡ file) × ClosesAfter (entries_in entries) file
Finds file (Damaged at) = BreaksAt at file
