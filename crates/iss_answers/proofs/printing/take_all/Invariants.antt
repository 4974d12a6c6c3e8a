use Rattle.std.proofs.Common.{◌≡◌, ◌++◌, reverse, take}
use Rattle.iss_reply.specs.Clients.{HasTaken}
use Rattle.iss_answers.specs.Printed.{taken_lines}
use Rattle.iss_answers.proofs.printing.take_all.Given as goal

abbrev pub invariant-loop-place : goal.invariant-loop-place
invariant-loop-place l = record {
  text : l.out.items ≡ l.initial.out.items ++ taken_lines l.initial.client.cluster (reverse (take l.place l.replies));
  taken : HasTaken l.client (reverse (take l.place l.replies));
  cluster : l.client.cluster ≡ l.initial.client.cluster;
}
