use Rattle.std.proofs.Common.{◌<◌, length, arith}
use Rattle.iss_window.proofs.Members.{has_id-dropped}
use Rattle.iss_window.proofs.ids.Ids.drop_all.Goals as goal

pub loop-request-preserved : goal.loop-request-preserved
loop-request-preserved c = λ x.
    let lt : c.loop-request.request-index < length c.args.requests.now = omega (arith, c.loop-request-test.true) in
    has_id-dropped x c.args.self.now c.loop-request.self c.remove.new.self c.args.requests.now c.loop-request.request-index c.request-item.result lt c.request-item.is (c.loop-request.invariant x) (c.remove.ensures x)
