use Rattle.std.proofs.Common.{◌≡◌, take}
use Rattle.std.specs.List.{flat_map}
use Rattle.iss_request.specs.Fields.{and_bytes}
use Rattle.pbft_wire.specs.Messages.{node_change_bytes}
use Rattle.pbft_wire.proofs.writing.put_changes.Given as goal

abbrev pub invariant-loop-change : goal.invariant-loop-change
invariant-loop-change l = l.out ≡ and_bytes l.fn.out (flat_map (node_change_bytes l.fn.out.version) (take l.change-index l.changes))
