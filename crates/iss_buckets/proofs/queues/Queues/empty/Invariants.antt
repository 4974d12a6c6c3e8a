use Rattle.std.proofs.Common.{◌≡◌, [], map, replicate}
use Rattle.iss_buckets.proofs.queues.Queues.empty.Given as goal

abbrev pub invariant-loop-i : goal.invariant-loop-i
invariant-loop-i l = map (λ s. s.keys) l.all.items ≡ replicate l._i []
