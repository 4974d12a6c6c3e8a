use Rattle.iss_base.specs.Lists.{In}
use Rattle.hs_tree.proofs.Nodes.{branch-is, branch-one}
use Rattle.hs_tree.proofs.laws.one_digest_one_branch.Goals as goal

pub returns-clause-leads : goal.returns-clause-leads
returns-clause-leads c = λ version hashed. branch-is version (λ s. In s hashed)

pub returns-clause-one : goal.returns-clause-one
returns-clause-one c = λ version hashed d xs ys sep empty. branch-one version (λ s. In s hashed) sep empty d xs ys
