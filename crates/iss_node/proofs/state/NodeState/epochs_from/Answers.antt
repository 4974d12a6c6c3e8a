use Rattle.std.proofs.Common.{arith, ◌≤◌, ◌∙◌, sym}
use Rattle.iss_node.proofs.EpochEnd.SnapshotIsMade.{epochs-next}
use Rattle.iss_node.proofs.state.NodeState.epochs_from.Goals as goal

pub loop-epoch-preserved : goal.loop-epoch-preserved
loop-epoch-preserved g c =
    let low : c.args.from.0 ≤ c.loop-epoch.epoch = omega (arith, c.loop-epoch.auto.epoch) in
    record {
      so_far = epochs-next c.args.self.now c.args.from.0 c.loop-epoch.epoch c.loop-epoch.epochs c.push.new.self c.in-Some.values low c.loop-epoch.invariant.so_far (sym c.in-Some.is ∙ c.in_ok-values.ensures) c.in_ok-push.ensures.ok;
      none = λ h. omega (arith, h);
    }
