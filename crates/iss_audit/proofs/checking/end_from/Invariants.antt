use Rattle.std.proofs.Common.{◌≡◌, take}
use Rattle.iss_log.specs.Chains.{end_from}
use Rattle.iss_audit.proofs.checking.end_from.Given as goal

abbrev pub invariant-loop-value : goal.invariant-loop-value
invariant-loop-value l = l.end ≡ end_from l.version l.fn.start (take l.value-index l.values)
