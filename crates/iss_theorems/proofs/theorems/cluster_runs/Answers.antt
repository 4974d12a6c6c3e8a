use Rattle.iss_theorems.proofs.Refinement.LogsArePrefixes.{cluster-run, composed, logs-grow, one-log}
use Rattle.iss_rules.proofs.Written.{faithful}
use Rattle.iss_theorems.specs.OneLog.{free_after}
use Rattle.iss_theorems.proofs.theorems.cluster_runs.Goals as goal

pub returns-clause-reached : goal.returns-clause-reached
returns-clause-reached g c =
    let M = g.M.Sequenced.spec in
    let laws = c.laws.ensures in
    λ s h. cluster-run s M h (faithful s M laws.grammar) laws.lawful laws.safe

pub returns-clause-ordered : goal.returns-clause-ordered
returns-clause-ordered g c =
    let M = g.M.Sequenced.spec in
    let laws = c.laws.ensures in
    λ s h events low. composed s M (free_after s M events) (c.composition.ensures.whole s)
    (cluster-run s M h (faithful s M laws.grammar) laws.lawful laws.safe events low)

pub returns-clause-one_log : goal.returns-clause-one_log
returns-clause-one_log g c =
    let M = g.M.Sequenced.spec in
    let laws = c.laws.ensures in
    λ s h events low. one-log s M (free_after s M events) (composed s M (free_after s M events) (c.composition.ensures.whole s)
    (cluster-run s M h (faithful s M laws.grammar) laws.lawful laws.safe events low))

pub returns-clause-grows : goal.returns-clause-grows
returns-clause-grows g c =
    let M = g.M.Sequenced.spec in
    let laws = c.laws.ensures in
    λ s h. logs-grow s M h (faithful s M laws.grammar) laws.lawful laws.safe
