use Rattle.std.proofs.Common.{◌≡◌, take}
use Rattle.std.specs.List.{flat_map}
use Rattle.iss_request.specs.Fields.{and_bytes}
use Rattle.iss_request.specs.Formats.{spell_request}
use Rattle.iss_snapshot.proofs.writing.put_each_request.Given as goal

abbrev pub invariant-loop-request : goal.invariant-loop-request
invariant-loop-request l = l.out ≡ and_bytes l.fn.out (flat_map spell_request (take l.request-index l.requests))
