use Rattle.std.proofs.Common.{◌∙◌, ap, length, ◌++◌}
use Rattle.iss_node.proofs.growth.extend_log.Goals as goal

pub returns-clause-grown : goal.returns-clause-grown
returns-clause-grown c =
    let filled = c.in_ok-fill_all.ensures.filled in
    let advanced = c.in_ok-_joined.ensures.ok in
    record {
      count = ap (λ xs. length xs) c.entries-held.ensures;
      joined = advanced.joined;
      entries = advanced.entries ∙ ap (λ xs. xs ++ advanced.joined) filled.entries;
      values = λ s. advanced.values s ∙ filled.values s;
      hole = advanced.hole;
    }
