use Rattle.std.proofs.Common.{◌≡◌, ◌++◌, map}
use Rattle.std.specs.List.{concat}
use Rattle.iss_links.specs.Reassembly.{payload}
use Rattle.iss_links.proofs.reassembly.PartialPacket.payload.Given as goal

abbrev pub invariant-loop-bytes : goal.invariant-loop-bytes
invariant-loop-bytes l = l.packet.items ++ concat (map (λ v. v.items) l.bytes-iterator) ≡ payload l.self
