use Rattle.std.proofs.Common.{◌≡◌, ◌++◌, drop}
use Rattle.iss_sb.specs.Paired.{paired}
use Rattle.hs_views.proofs.delivering.pair.Given as goal

abbrev pub invariant-loop-value : goal.invariant-loop-value
invariant-loop-value l = paired (drop l.fn.from l.slots) l.fn.values.items ≡ l.fresh ++ paired (drop l.place l.slots) l.value-iterator.rest.items
