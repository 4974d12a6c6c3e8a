use Rattle.std.proofs.Common.{◌≡◌, ◌++◌, map, take}
use Rattle.iss_schedule.specs.Words.{ended}
use Rattle.iss_audit.specs.Exports.{AreBytes, value_line}
use Rattle.iss_audit.proofs.writing.put_values.Given as goal

abbrev pub invariant-loop-value : goal.invariant-loop-value
invariant-loop-value l = record {
  lines : l.out.items ≡ l.initial.out.items ++ ended (map (value_line l.version) (take l.value-index l.values));
  bytes : AreBytes l.version (take l.value-index l.values);
}
