use Rattle.iss_keep.proofs.RecoveryLemmas.{stored-recovers}
use Rattle.iss_keep.proofs.laws.a_journal_recovers.Goals as goal

pub returns : goal.returns
returns g c = λ s good me low events named last.
    stored-recovers s g.M.Sequenced.spec (c.journals_recover.ensures s good) me low events named last
