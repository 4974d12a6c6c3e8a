use Rattle.std.proofs.Common.{◌≡◌, take}
use Rattle.std.specs.List.{flat_map}
use Rattle.iss_request.specs.Fields.{and_bytes}
use Rattle.iss_request.specs.Formats.{spell_value}
use Rattle.iss_snapshot.proofs.writing.put_values.Given as goal

abbrev pub invariant-loop-value : goal.invariant-loop-value
invariant-loop-value l = l.out ≡ and_bytes l.fn.out (flat_map (spell_value l.fn.out.version) (take l.value-index l.values))
