use Rattle.std.proofs.Common.{subst, sym, List, ◌+◌}
use Rattle.iss_disk.specs.declared.memory.MemoryDisk.{MemoryDisk}
use Rattle.iss_keep.specs.State.{KeptState}
use Rattle.iss_world.specs.Refines.{AreFresh}
use Rattle.iss_world.proofs.CoreLemmas.{fresh-more}
use Rattle.iss_world.proofs.cores.start_cores.Goals as goal

pub loop-core-preserved : goal.loop-core-preserved
loop-core-preserved g c =
    subst (λ (xs : List (KeptState g.row.M.Denot g.row.M-Msg.Denot MemoryDisk)). AreFresh g.M.Sequenced.spec g.M.Sequenced.refines c.args.members.now (c.loop-core.core + 1) xs) (sym c.in_ok-push.ensures.items)
    (fresh-more g.M.Sequenced.spec g.M.Sequenced.refines c.args.members.now c.loop-core.core c.loop-core.nodes.items c.in_ok-start_core.field-0 c.loop-core.invariant c.in_ok-start_core.ensures)
