use Rattle.std.proofs.Common.{◌∙◌}
use Rattle.iss_node.proofs.Snapshots.KeysAreOwn.{own-number}
use Rattle.iss_keep.proofs.reopening.start_fresh.Goals as goal

pub keys_of_node-keys-requires : goal.keys_of_node-keys-requires
keys_of_node-keys-requires g c = own-number c.args.setup.now c.args.me.0 c.directory.result.now (c.directory.ensures ∙ c.requires.directory) c.requires.me
