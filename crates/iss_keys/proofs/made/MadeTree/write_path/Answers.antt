use Rattle.std.proofs.Common.{◌≡◌, ◌-◌, ◌<◌, arith, length, ◌∙◌}
use Rattle.iss_keys.specs.Trees.{path_node}
use Rattle.iss_keys.proofs.ChainLemmas.{pieces_none, pieces_more}
use Rattle.iss_keys.proofs.TreeLemmas.{beside_within, node_at, path_is, place_up}
use Rattle.iss_keys.proofs.made.MadeTree.write_path.Goals as goal

pub levels-init : goal.levels-init
levels-init c =
    let top : c.self.inside.height.levels - 0 ≡ c.self.inside.height.levels = omega arith in
    record {
      written = pieces_none c.args.out.now.items (path_node c.self.inside.secret c.args.leaf);
      place = rw (top, c.leaves_under.ensures.value) (omega arith);
    }

pub index-requires : goal.index-requires
index-requires c =
    rw (c.self.inside.nodes.ok.0, c.place_beside.ensures, c.self.invariant.size)
    (beside_within c.self.inside.height.levels c.levels.k c.args.leaf c.levels.place c.levels-test.true
    (rw (← c.self.view_is) at c.requires) c.levels.invariant.place)

pub levels-preserved : goal.levels-preserved
levels-preserved c =
    let leaf = rw (← c.self.view_is) at c.requires in
    let within : c.place_beside.result < length c.self.inside.nodes.items =
    rw (c.place_beside.ensures, c.self.invariant.size)
    (beside_within c.self.inside.height.levels c.levels.k c.args.leaf c.levels.place c.levels-test.true leaf
    c.levels.invariant.place) in
    record {
      written = c.in_ok-write_node.ensures
          ∙ pieces_more c.args.out.now.items _ _ (path_node c.self.inside.secret c.args.leaf) c.levels.k
          c.levels.invariant.written
          (node_at c.self.inside.nodes.items c.place_beside.result c.index.result.now within c.index.ensures
          ∙ path_is c.self.inside.secret c.self.inside.height.levels c.self.inside.nodes.items c.args.leaf c.levels.k
          c.levels.place c.place_beside.result c.self.invariant.tree c.levels-test.true leaf c.levels.invariant.place
          c.place_beside.ensures);
      place = place_up c.self.inside.height.levels c.levels.k c.args.leaf c.levels.place c.levels-test.true
          c.levels.invariant.place;
    }
