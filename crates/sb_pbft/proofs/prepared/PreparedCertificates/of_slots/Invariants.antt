use Rattle.std.proofs.Common.{◌≡◌, ◌++◌, drop}
use Rattle.sb_pbft.specs.Places.{top_at}
use Rattle.sb_pbft.specs.Internal.Turns.{tops_of}
use Rattle.sb_pbft.proofs.prepared.PreparedCertificates.of_slots.Given as goal

abbrev pub invariant-loop-slot : goal.invariant-loop-slot
invariant-loop-slot l = tops_of (top_at l.self) l.slots ≡ l.all ++ tops_of (top_at l.self) (drop l.slot-index l.slots)
