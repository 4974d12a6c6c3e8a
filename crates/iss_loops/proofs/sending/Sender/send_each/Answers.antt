use Rattle.std.proofs.Common.{rules}
use Rattle.iss_loops.proofs.NodeLemmas.{sends-more}
use Rattle.iss_loops.proofs.sending.Sender.send_each.Goals as goal

pub loop-send-preserved : goal.loop-send-preserved
loop-send-preserved g c = record {
  still = search rules;
  idle_turns = search rules;
  goes = λ B is is2 events w at. sends-more B c.args.self.now.nodes c.args.self.now.me c.args.sends.now c.loop-send.send-index c.send-item.result events (g.L.Links.ends c.loop-send.links) (g.L.Links.ends c.send_one.new.links) c.loop-send.progress c.send_one.new.progress _
      is is2 c.loop-send-test.true c.send-item.is (c.loop-send.invariant.goes B is is2 events w at) c.in_ok-send_one.ensures.ends c.in_ok-send_one.ensures.progress;
}
