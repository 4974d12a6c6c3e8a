use Rattle.iss_buckets.proofs.WaitingLemmas.{marked_more}
use Rattle.iss_buckets.proofs.pending.marks_of.Goals as goal

pub loop-id-preserved : goal.loop-id-preserved
loop-id-preserved c = λ id.
    marked_more c.loop-id.marks.keys c.insert.new.self.keys c.args.marked.now c.loop-id.id-index (record { client = 0; number = 0 }) id c.loop-id-test.true
    (c.in_ok-insert.ensures.updates.0 id) (c.loop-id.invariant id)
