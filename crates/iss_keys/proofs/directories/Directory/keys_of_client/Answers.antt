use Rattle.std.proofs.Common.{ap, ◌∙◌}
use Rattle.iss_keys.specs.Directories.{client_secret}
use Rattle.iss_keys.proofs.RingLemmas.{keys_made}
use Rattle.iss_keys.proofs.directories.Directory.keys_of_client.Goals as goal

pub returns-clause-made : goal.returns-clause-made
returns-clause-made c = λ n clients height e.
    keys_made client_secret height clients c.args.client 0
    (client_secret c.args.client) c.keys.result c.self.inside.clients
    (rw (← c.self.view_is) at c.requires) (ap (λ d. d.clients) (c.self.view_is ∙ e)) c.keys.ensures
