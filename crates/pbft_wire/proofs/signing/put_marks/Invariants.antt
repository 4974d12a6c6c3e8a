use Rattle.std.proofs.Common.{◌≡◌, take}
use Rattle.std.specs.List.{flat_map}
use Rattle.iss_request.specs.Fields.{and_bytes}
use Rattle.pbft_wire.specs.Marks.{mark_bytes}
use Rattle.pbft_wire.proofs.signing.put_marks.Given as goal

abbrev pub invariant-loop-mark : goal.invariant-loop-mark
invariant-loop-mark l = l.out ≡ and_bytes l.fn.out (flat_map mark_bytes (take l.mark-index l.marks))
