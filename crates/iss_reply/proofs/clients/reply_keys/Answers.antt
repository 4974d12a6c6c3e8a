use Rattle.std.proofs.Common.{ap}
use Rattle.std.proofs.lemmas.List.{map-append}
use Rattle.iss_keys.specs.KeyStates.{public_key, public_of}
use Rattle.iss_keys.proofs.ListedLemmas.{listed_more, listed_none}
use Rattle.iss_reply.specs.Replies.{reply_secret}
use Rattle.iss_reply.proofs.clients.reply_keys.Goals as goal

pub nodes-init : goal.nodes-init
nodes-init c = rw c.new-keys.ensures.items (listed_none (λ i. public_key (reply_secret i) c.args.height))

pub nodes-preserved : goal.nodes-preserved
nodes-preserved c = rw (c.in_ok-push.ensures.items, map-append) (listed_more _ (public_of c.in-Ok.key) (λ i. public_key (reply_secret i) c.args.height) c.nodes.node c.nodes.invariant (ap public_of c.in-Ok.ensures))
