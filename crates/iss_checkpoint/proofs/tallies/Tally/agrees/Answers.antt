use Rattle.std.proofs.Common.{ap, sym, length, arith}
use Rattle.iss_checkpoint.proofs.TallyLemmas.{own-one}
use Rattle.iss_checkpoint.proofs.tallies.Tally.agrees.Goals as goal

pub returns-then-vote-node : goal.returns-then-vote-node
returns-then-vote-node c = ap length (sym (own-one c.args.self.now.votes c.args.vote.now c.args.node (omega arith)))
