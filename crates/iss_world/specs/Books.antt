-- How the code keeps the two books. The book of claims answers as the model's list does. Each string stands under its
-- digest, so different strings of one digest are found.
use Rattle.std.specs.Prelude.{◌≡◌, ℕ, Bool, cond, List, ◌∷◌, ◌++◌, Option, Some, None}
use Rattle.std.specs.Cmp.Lexicographic.{slice_cmp}
use Rattle.std.specs.List.{list_any}
use Rattle.std.specs.Map.{lookup}
use Rattle.std.specs.Ordering.{is_eq, nat_cmp}
use Rattle.iss_base.specs.Lists.{In, push_all, same_bytes}
use Rattle.iss_rules.specs.Books.{Signed}
use Rattle.iss_rules.specs.Ends.{End, Collision}
use Rattle.iss_model.specs.Run.{has_signed}
use Rattle.iss_request.specs.Digest.{digest}
use Rattle.iss_world.specs.declared.ends.Evidence.{Evidence}

-- Whether the node's statement is recorded. An entry is the node's identity, then the statement.
abbrev pub is_booked : List (List ℕ) → ℕ → List ℕ → Bool
is_booked v i statement = list_any (λ k. is_eq (slice_cmp nat_cmp (i ∷ statement) k)) v

-- The recorded claims refine the model's.
abbrev pub AreSigned : List (List ℕ) → List Signed → Type 0
AreSigned v book = (i : ℕ) (statement : List ℕ) → is_booked v i statement ≡ has_signed i statement book

-- These claims were recorded, whatever was before.
abbrev pub AddsClaims : (old new : List (List ℕ)) → List Signed → Type 0
AddsClaims old new more = (book : List Signed) → AreSigned old book → AreSigned new (more ++ book)

-- The hashed string with this digest, if any.
abbrev pub string_at : List (List ℕ × List ℕ) → List ℕ → Option (List ℕ)
string_at v d = lookup (λ k. is_eq (slice_cmp nat_cmp d k)) v

-- The recorded strings refine the model's: each is found under its digest, and no other string is.
pub record AreHashed (v : List (List ℕ × List ℕ)) (book : List (List ℕ)) : Type 0 where
  pub found : (x : List ℕ) → In x book → string_at v (digest x) ≡ Some x
  pub only : (d x : List ℕ) → string_at v d ≡ Some x → In x book × (digest x ≡ d)

-- These strings were recorded, oldest first, unless there is a collision.
abbrev pub AddsStrings : (old new : List (List ℕ × List ℕ)) → List (List ℕ) → Option Evidence → Type 0
AddsStrings old new more end = (book : List (List ℕ)) → AreHashed old book → end ≡ None →
    AreHashed new (push_all more book)

-- The same strings are recorded.
abbrev pub KeepsStrings : (old new : List (List ℕ × List ℕ)) → Type 0
KeepsStrings old new = (book : List (List ℕ)) → AreHashed old book → AreHashed new book

-- The collision of two strings with one digest, if they differ.
abbrev pub difference : List ℕ → List ℕ → Option End
difference first second = cond (same_bytes first second) None (Some (Collision first second))
