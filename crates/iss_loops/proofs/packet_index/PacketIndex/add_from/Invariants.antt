use Rattle.std.proofs.Common.{take}
use Rattle.iss_loops.specs.Internal.PacketIndex.{IsIndexOf}
use Rattle.iss_loops.proofs.packet_index.PacketIndex.add_from.Given as goal

abbrev pub invariant-loop-k : goal.invariant-loop-k
invariant-loop-k l = IsIndexOf l.fn.self (take l.first l.packets) → IsIndexOf l.self (take l.k l.packets)
