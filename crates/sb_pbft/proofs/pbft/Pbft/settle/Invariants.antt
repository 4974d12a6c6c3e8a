use Rattle.std.proofs.Common.{◌*◌, ◌-◌, ◌≤◌, drop, length}
use Rattle.iss_keys.specs.KeyStates.{left_of}
use Rattle.sb_pbft.proofs.Refinement.SettleRefines.{Owes}
use Rattle.sb_pbft.proofs.pbft.Pbft.settle.Given as goal

abbrev pub invariant-loop-slot : goal.invariant-loop-slot
invariant-loop-slot l =
    (2 * (length l.slots - l.slot-index) ≤ left_of l.keys) ×
    Owes l.context.p.now l.touched.answers l.touched.view l.slots (drop l.slot-index l.slots) l.initial.self l.initial.keys l.initial.effects l.self l.keys l.effects
