use Rattle.std.proofs.Common.{◌≡◌, ◌++◌, take}
use Rattle.iss_replay.specs.Text.{request_words}
use Rattle.iss_replay.proofs.lines.put_requests.Given as goal

abbrev pub invariant-loop-request : goal.invariant-loop-request
invariant-loop-request l = l.out.items ≡ l.fn.out.items ++ request_words (take l.request-index l.batch)
