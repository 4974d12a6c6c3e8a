use Rattle.std.proofs.Common.{◌∙◌, ap₂}
use Rattle.iss_keys.specs.Directories.{node_secret, client_secret}
use Rattle.iss_keys.proofs.ListedLemmas.{publics_listed}
use Rattle.iss_keys.proofs.directories.Directory.of.Goals as goal

pub returns-clause-made : goal.returns-clause-made
returns-clause-made c = λ height nodes clients. ap₂ (λ a b. record { nodes = a; clients = b })
    (c.in_ok-nodes.ensures ∙ publics_listed node_secret height c.args.nodes.now nodes)
    (c.in_ok-clients.ensures ∙ publics_listed client_secret height c.args.clients.now clients)
