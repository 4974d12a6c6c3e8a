use Rattle.iss_keep.proofs.RecoveryLemmas.{one-of-two}
use Rattle.iss_keep.proofs.laws.a_crash_leaves_one_of_two.Goals as goal

pub returns : goal.returns
returns g c = λ s good me low events named last.
    one-of-two s g.M.Sequenced.spec (c.journals_recover.ensures s good) me low events named last
