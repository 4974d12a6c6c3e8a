use Rattle.std.proofs.Common.{◌≡◌, ◌+◌, drop}
use Rattle.iss_links.specs.Reassembly.{index_of}
use Rattle.iss_links.proofs.reassembly.Reassembly.index_of.Given as goal

abbrev pub invariant-loop-i : goal.invariant-loop-i
invariant-loop-i l = index_of l.frame l.self ≡ l.i + index_of l.frame (drop l.i l.self)
