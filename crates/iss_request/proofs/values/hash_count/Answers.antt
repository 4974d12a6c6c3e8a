use Rattle.std.proofs.Common.{ℕ, List, ◌++◌, subst, sym, ◌∙◌}
use Rattle.sha2.specs.Hashers.{Holds256}
use Rattle.iss_request.proofs.FormatLemmas.{first_count, second_count}
use Rattle.iss_request.proofs.values.hash_count.Goals as goal

pub returns-then-is_second : goal.returns-then-is_second
returns-then-is_second c m h =
    subst (λ (x : List ℕ). Holds256 c.update.new.self (m ++ x)) (c.to_be_bytes.ensures
    ∙ sym (second_count c.args.version c.args.count c.if-is_second.ensures)) (c.update.ensures m h)

pub returns-else-is_second : goal.returns-else-is_second
returns-else-is_second c m h =
    rw (first_count c.args.version c.args.count c.if-is_second.ensures) (c.update-else-is_second.ensures m h)
