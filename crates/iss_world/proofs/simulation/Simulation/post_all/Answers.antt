use Rattle.std.proofs.Common.{◌<◌, length, arith}
use Rattle.iss_world.proofs.PostLemmas.{send-next}
use Rattle.iss_world.proofs.simulation.Simulation.post_all.Goals as goal

pub loop-send-preserved : goal.loop-send-preserved
loop-send-preserved g c =
    let lt : c.loop-send.send-index < length c.args.sends.now = omega (arith, c.loop-send-test.true) in
    record { posted = send-next c.args.self.now c.loop-send.self c.post_send.new.self c.args.from c.args.sends.now c.loop-send.send-index _ lt c.send-item.is c.loop-send.invariant.posted c.in_ok-post_send.ensures.posted }
