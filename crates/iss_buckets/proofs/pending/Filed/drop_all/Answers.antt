use Rattle.std.proofs.Common.{sym}
use Rattle.std.specs.Map.{values_of}
use Rattle.iss_buckets.proofs.WaitingLemmas.{absent_none, dropped_more}
use Rattle.iss_buckets.proofs.pending.Filed.drop_all.Goals as goal

pub loop-request-init : goal.loop-request-init
loop-request-init c = sym (absent_none (values_of c.args.self.now.shelf))

pub loop-request-preserved : goal.loop-request-preserved
loop-request-preserved c =
    dropped_more (values_of c.args.self.now.shelf) (values_of c.loop-request.self.shelf) (values_of c.drop_one.new.self.shelf)
    c.args.batch.now c.loop-request.request-index c.request-item.result c.loop-request-test.true c.request-item.is c.loop-request.invariant c.drop_one.ensures
