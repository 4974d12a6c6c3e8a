use Rattle.std.proofs.Common.{◌≡◌, length, take}
use Rattle.iss_layout.specs.Layout.{nodes_below}
use Rattle.iss_layout.proofs.candidates.Candidates.all.Given as goal

abbrev pub invariant-loop-i : goal.invariant-loop-i
invariant-loop-i l = record { size : length l.all ≡ 10; front : take l.i l.all ≡ nodes_below l.i }
