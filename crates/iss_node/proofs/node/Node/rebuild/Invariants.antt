use Rattle.std.proofs.Common.{◌≡◌, Some, reverse, take}
use Rattle.iss_model.specs.Frames.{frame_of}
use Rattle.iss_node.specs.Rebuilding.{RefinesRebuilt}
use Rattle.iss_rebuilt.specs.Reading.{Rebuilt, rebuilt}
use Rattle.iss_node.proofs.node.Node.rebuild.Given as goal

abbrev pub invariant-loop-index : goal.invariant-loop-index
invariant-loop-index g l = record {
  read : (r : Rebuilt g.row.M-Msg.Denot) × ((rebuilt (frame_of l.setup g.M.Sequenced.spec) l.fn.me.0 (reverse (take l.index l.entries)) ≡ Some r)
      × RefinesRebuilt g.M.Sequenced.spec g.M.Sequenced.refines l.rebuilding r);
  setup : l.rebuilding.state.setup ≡ l.setup;
  me : l.rebuilding.state.me ≡ l.fn.me;
}
