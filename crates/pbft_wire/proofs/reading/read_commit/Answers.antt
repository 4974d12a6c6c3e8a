use Rattle.pbft_wire.specs.Messages.{commit}
use Rattle.pbft_wire.proofs.reading.read_commit.Goals as goal

pub returns-clause-ok : goal.returns-clause-ok
returns-clause-ok c = c.in_ok-at.ensures.ok commit
