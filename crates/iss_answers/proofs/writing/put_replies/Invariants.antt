use Rattle.std.proofs.Common.{◌≡◌, ◌++◌, ◌-◌, ◌^◌, ◌≤◌}
use Rattle.iss_reply.specs.Replies.{replying}
use Rattle.iss_reply.specs.Repliers.{Answered}
use Rattle.iss_answers.proofs.WrittenLemmas.{lines_below}
use Rattle.iss_answers.proofs.writing.put_replies.Given as goal

abbrev pub invariant-requests : goal.invariant-requests
invariant-requests l = record {
  text : l.out.items ≡ l.initial.out.items ++ lines_below (replying l.setup l.fn.me.0) l.log.entries l.replier.number;
  answered : Answered l.replier l.log.entries;
  who : l.replier.who ≡ replying l.setup l.fn.me.0;
  few : l.replier.number ≤ 2 ^ l.setup.keys;
}

abbrev pub decreases-requests : goal.decreases-requests
decreases-requests l = 2 ^ l.setup.keys - l.replier.number
