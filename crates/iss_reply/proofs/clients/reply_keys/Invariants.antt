use Rattle.std.proofs.Common.{◌≡◌, map}
use Rattle.iss_keys.specs.Directories.{public_keys_of}
use Rattle.iss_keys.specs.KeyStates.{public_of}
use Rattle.iss_reply.specs.Replies.{reply_secret}
use Rattle.iss_reply.proofs.clients.reply_keys.Given as goal

abbrev pub invariant-nodes : goal.invariant-nodes
invariant-nodes l = map public_of l.keys.items ≡ public_keys_of reply_secret l.height l.node
