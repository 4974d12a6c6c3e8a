use Rattle.iss_keep.proofs.LifeLemmas.{life-core, life-lives, life-stays, next-deed}
use Rattle.iss_keep.proofs.laws.leaves_are_of_one_statement.Goals as goal

pub returns-clause-signs : goal.returns-clause-signs
returns-clause-signs g c =
    λ s h me events. c.leaves_sign_once.ensures.node s h me _ (life-lives s g.M.Sequenced.spec me events)

pub returns-clause-core : goal.returns-clause-core
returns-clause-core g c = λ s me events. life-core s g.M.Sequenced.spec me events

pub returns-clause-taken : goal.returns-clause-taken
returns-clause-taken g c = λ s me events event t taken. next-deed s g.M.Sequenced.spec me events event t taken

pub returns-clause-again : goal.returns-clause-again
returns-clause-again g c = λ s me events more. life-stays s g.M.Sequenced.spec me events more
