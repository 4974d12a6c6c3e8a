use Rattle.std.proofs.Common.{arith}
use Rattle.iss_checkpoint.proofs.TallyLemmas.{own-one}
use Rattle.iss_checkpoint.proofs.tallies.Tally.put_signed.Goals as goal

pub returns-then-vote-node : goal.returns-then-vote-node
returns-then-vote-node c = let one = own-one c.args.self.now.votes c.args.vote.now c.args.node (omega arith) in rw one c.push_signed.ensures
