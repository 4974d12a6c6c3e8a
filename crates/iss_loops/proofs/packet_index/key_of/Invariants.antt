use Rattle.std.proofs.Common.{◌≡◌, drop}
use Rattle.iss_loops.specs.Internal.PacketIndex.{key_from}
use Rattle.iss_loops.proofs.packet_index.key_of.Given as goal

abbrev pub invariant-loop-byte : goal.invariant-loop-byte
invariant-loop-byte l = key_from l.key (drop l.byte-index l.bytes) ≡ key_from l.core l.bytes
