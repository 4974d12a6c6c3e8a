use Rattle.std.proofs.Common.{◌≡◌, ◌++◌, map}
use Rattle.iss_base.specs.Lists.{below}
use Rattle.iss_links.specs.Frames.{part_of}
use Rattle.iss_links.proofs.memory.MemoryEnd.send.Given as goal

abbrev pub invariant-loop-part : goal.invariant-loop-part
invariant-loop-part l =
    (l.self-inside.waiting.items ≡ l.fn.self.waiting ++ map (part_of l.from l.number l.packet) (below l.part))
    × (l.self-inside.partials ≡ l.fn.self.partials)
