use Rattle.std.proofs.Common.{◌≡◌, ◌∙◌, ap}
use Rattle.iss_keys.specs.KeyStates.{KeyState}
use Rattle.iss_model.specs.Node.{initial_core}
use Rattle.iss_node.proofs.Snapshots.KeysAreOwn.{own-number}
use Rattle.iss_node.proofs.Snapshots.NodeIsWoken.{started-so}
use Rattle.iss_rebuilt.specs.Stored.{nothing_saved}
use Rattle.iss_node.proofs.rebuilding.Rebuilding.start.Goals as goal

pub keys_of_node-keys-requires : goal.keys_of_node-keys-requires
keys_of_node-keys-requires g c = own-number c.args.setup.now c.args.me.0 c.directory.result.now (c.directory.ensures ∙ c.requires.directory) c.requires.me

pub invariant_of-result : goal.invariant_of-result
invariant_of-result g c =
    let s = c.args.setup.now in
    let unused : c.keys_of_node-keys.result.used ≡ 0 = ap (λ (k : KeyState). k.used) (c.keys_of_node-keys.ensures.made s.n s.clients s.keys (c.directory.ensures ∙ c.requires.directory)) in (
      record { core = initial_core; saved = nothing_saved },
      started-so g.M.Sequenced.spec g.M.Sequenced.refines s c.requires.good c.in_ok-node.node c.in_ok-node.ensures.same.0 c.keys_of_node-keys.result.used unused c.in_ok-node.ensures.refines
          c.in_ok-node.ensures.saved c.into_state.result c.into_state.ensures c.new.result.items c.new.ensures.items,
    )

pub returns-clause-refines : goal.returns-clause-refines
returns-clause-refines g c =
    let s = c.args.setup.now in
    let unused : c.keys_of_node-keys.result.used ≡ 0 = ap (λ (k : KeyState). k.used) (c.keys_of_node-keys.ensures.made s.n s.clients s.keys (c.directory.ensures ∙ c.requires.directory)) in
    started-so g.M.Sequenced.spec g.M.Sequenced.refines s c.requires.good c.in_ok-node.node c.in_ok-node.ensures.same.0 c.keys_of_node-keys.result.used unused c.in_ok-node.ensures.refines
    c.in_ok-node.ensures.saved c.into_state.result c.into_state.ensures c.new.result.items c.new.ensures.items
