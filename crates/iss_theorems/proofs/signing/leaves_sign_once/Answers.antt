use Rattle.iss_theorems.proofs.OneTimeKeys.LeafSignsOnce.{signs-once-each}
use Rattle.iss_theorems.proofs.OneTimeKeys.LivesAreOfJournals.{are-of-journals}
use Rattle.iss_theorems.proofs.signing.leaves_sign_once.Goals as goal

pub returns-clause-node : goal.returns-clause-node
returns-clause-node g c = λ s h me deeds life. signs-once-each s g.M.Sequenced.spec h c.laws.ensures.signs_once me deeds life

pub returns-clause-runs : goal.returns-clause-runs
returns-clause-runs g c = λ s h events. are-of-journals s g.M.Sequenced.spec h c.laws.ensures.signs_once events
