use Rattle.std.proofs.Common.{◌≡◌, take}
use Rattle.std.specs.List.{flat_map}
use Rattle.iss_request.specs.Fields.{and_bytes}
use Rattle.iss_snapshot.specs.Snapshots.{spell_values}
use Rattle.iss_snapshot.proofs.writing.put_epochs.Given as goal

abbrev pub invariant-loop-values : goal.invariant-loop-values
invariant-loop-values l = l.out ≡ and_bytes l.fn.out (flat_map (spell_values l.fn.out.version) (take l.values-index l.epochs))
