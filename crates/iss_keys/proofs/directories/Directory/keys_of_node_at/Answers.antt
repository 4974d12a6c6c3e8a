use Rattle.std.proofs.Common.{ap, ◌∙◌}
use Rattle.iss_keys.specs.Directories.{node_secret}
use Rattle.iss_keys.proofs.RingLemmas.{keys_made}
use Rattle.iss_keys.proofs.directories.Directory.keys_of_node_at.Goals as goal

pub returns-clause-made : goal.returns-clause-made
returns-clause-made c = λ n clients height e.
    keys_made node_secret height n c.args.node c.args.next (node_secret c.args.node) c.keys.result c.self.inside.nodes
    (rw (← c.self.view_is) at c.requires.node) (ap (λ d. d.nodes) (c.self.view_is ∙ e)) c.keys.ensures
