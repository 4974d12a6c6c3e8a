use Rattle.std.proofs.Common.{◌<◌, length, arith}
use Rattle.iss_replay.proofs.RunLemmas.{one-line-more}
use Rattle.iss_replay.proofs.texts.put_drops.Goals as goal

pub loop-drop-preserved : goal.loop-drop-preserved
loop-drop-preserved c =
    let lt : c.loop-drop.drop-index < length c.args.drops.now = omega (arith, c.loop-drop-test.true) in
    one-line-more c.args.out.now.items c.loop-drop.out.items c.put_drop.new.out.items c.args.drops.now c.loop-drop.drop-index _ lt c.loop-drop.invariant c.in_ok-put_drop.ensures
