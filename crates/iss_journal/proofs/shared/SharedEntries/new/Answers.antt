use Rattle.std.proofs.Common.{arith, ℕ, ◌≡◌, [], List, length, ap}
use Rattle.iss_journal.specs.EntryViews.{entries_in}
use Rattle.iss_journal.specs.Tails.{with_tails}
use Rattle.iss_journal.proofs.shared.SharedEntries.new.Goals as goal

none : (es ts : List (List ℕ)) → es ≡ [] → with_tails es ts ≡ []
none es ts is = ap (λ (l : List (List ℕ)). with_tails l ts) is

pub invariant_of-result : goal.invariant_of-result
invariant_of-result c =
    record { each = omega (arith, ap length c.new.ensures.entries, ap length c.new-2.ensures.items) }

pub returns : goal.returns
returns c = none (entries_in c.new.result) c.new-2.result.items c.new.ensures.entries
