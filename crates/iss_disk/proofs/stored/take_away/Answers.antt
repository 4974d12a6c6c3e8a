use Rattle.std.proofs.Common.{rules, ◌≡◌, ◌∙◌, ap, ◌+◌, ℕ, ◌≤◌, List, ◌∷◌, ◌++◌, length, take, drop}
use Rattle.iss_disk.specs.File.{overwritten}
use Rattle.iss_disk.specs.States.{states}
use Rattle.iss_disk.specs.declared.call.Call.TheVariants.{Within}
use Rattle.iss_disk.proofs.StoredLemmas.{undone_within}
use Rattle.iss_disk.proofs.stored.take_away.Goals as goal

pub returns-then-len-content-clause-undoes : goal.returns-then-len-content-clause-undoes
returns-then-len-content-clause-undoes c = λ calls bytes long.
    let taken : c.extend_from_slice.new.self.items ≡ c.args.lost.now.items
    ++ take c.args.len (drop c.args.at c.args.content.now) = search rules in
    let within : c.args.at + c.args.len ≤ length c.args.content.now = search rules in
    ap (λ (l : List ℕ). states (Within c.args.at c.args.len ∷ calls) l
    (overwritten c.args.at bytes c.args.content.now)) taken
    ∙ undone_within calls c.args.at c.args.len bytes c.args.content.now c.args.lost.now.items long within
