use Rattle.std.proofs.Common.{suc, ◌+◌, ◌-◌, arith}
use Rattle.iss_request.proofs.Readings.{continues_bad, continues_end, continues_next, continues_start, exit}
use Rattle.iss_snapshot.specs.Snapshots.{parse_vote_entry}
use Rattle.iss_snapshot.proofs.reading.read_each_vote.Goals as goal

pub returns-in_err-vote-clause-bad : goal.returns-in_err-vote-clause-bad
returns-in_err-vote-clause-bad c =
    exit c.from_residual.result _ _ c.from_residual.ensures.1 (λ at e.
    continues_bad parse_vote_entry c.args.count _ (c.args.count - suc c.loop.counter) _ _ _ at (omega arith) c.loop.invariant (c.in_err-vote.ensures.bad at e))

pub loop-init : goal.loop-init
loop-init c = continues_start parse_vote_entry c.args.count _ (c.args.count - 0) _ (omega arith) c.new-votes.ensures

pub loop-preserved : goal.loop-preserved
loop-preserved c =
    rw c.in_ok-push.ensures.ok
    (continues_next parse_vote_entry c.args.count _ (c.args.count - (c.loop.counter + 1)) (c.args.count - c.loop.counter) _ _ _ _ (omega arith) c.loop.invariant c.in_ok-vote.ensures.ok)

pub returns-clause-ok : goal.returns-clause-ok
returns-clause-ok c = continues_end parse_vote_entry c.args.count _ (c.args.count - c.loop.counter) _ _ (omega arith) c.loop.invariant
