use Rattle.iss_sb.specs.Evidence.{accepts}
use Rattle.sb_chained.specs.Chained.{state}
use Rattle.sb_chained.proofs.chained.ChainedSequenced.asks.Goals as goal

pub returns-in-Receive : goal.returns-in-Receive
returns-in-Receive c me xs st = rw c.in-Receive.is (c.asked.ensures (state c.args.p.now me xs) (accepts xs) st.keeps st.batches)
