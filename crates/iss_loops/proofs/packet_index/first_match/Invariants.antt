use Rattle.std.proofs.Common.{◌≡◌, drop}
use Rattle.iss_loops.specs.Internal.PacketIndex.{first_match}
use Rattle.iss_loops.proofs.packet_index.first_match.Given as goal

abbrev pub invariant-loop-number : goal.invariant-loop-number
invariant-loop-number l =
    first_match l.packets l.core l.bytes (drop l.number-index l.numbers) ≡ first_match l.packets l.core l.bytes l.numbers
