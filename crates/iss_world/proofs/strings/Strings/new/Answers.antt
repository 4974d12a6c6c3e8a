use Rattle.std.proofs.Common.{◌∙◌, List, ℕ, Option, Some, cond, ap, replicate}
use Rattle.std.specs.Cmp.Lexicographic.{slice_cmp}
use Rattle.std.specs.Ordering.{is_eq, nat_cmp}
use Rattle.iss_world.specs.Books.{string_at}
use Rattle.iss_world.proofs.BookLemmas.{hashed-first}
use Rattle.iss_world.proofs.strings.Strings.new.Goals as goal

pub returns : goal.returns
returns c =
    hashed-first c.insert.new.self.entries c.of_bytes.result (c.of_bytes.ensures ∙ c.new.ensures)
    (λ q. c.in_ok-insert.ensures.updates.0 q
    ∙ ap (λ (v : List (List ℕ × List ℕ)). let o : Option (List ℕ) = cond (is_eq (slice_cmp nat_cmp (replicate 32 0) q)) (Some c.of_bytes.result) (string_at v q) in o) c.new-all.ensures.empty)
