-- What all calls of links have in common. Of links that do not record their frames, as those over sockets, nothing is
-- said.
use Rattle.std.specs.Prelude.{◌≡◌, ℕ, ◌≤◌, Option, None, Some, List}
pub use Rattle.iss_base.specs.Counts.{Rose}
use Rattle.iss_links.specs.Ends.{End}

-- A failure was counted. The count never falls, and it changes only if something failed.
-- rule: Links: A call of links fails only where their count of faults rises
pub record HasCause (before now : ℕ) (failed : Type 0) : Type 0 where
  pub never_falls : before ≤ now
  pub rose : failed → Rose before now
  pub still : ¬ failed → now ≡ before

-- P holds of the ends, if frames are recorded
abbrev pub IfTold : Option (List End) → (List End → Type 0) → Type 0
IfTold None P = Unit {0}
IfTold (Some ends) P = P ends

-- how a call changes the ends
abbrev pub Becomes : (List End → List End) → Option (List End) → Option (List End) → Type 0
Becomes change None now = now ≡ None
Becomes change (Some ends) now = now ≡ Some (change ends)
