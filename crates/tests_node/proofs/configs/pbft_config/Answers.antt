use Rattle.iss_config.specs.Configs.{setup_of}
use Rattle.tests_node.proofs.ConfigLemmas.{has-nodes, is-pbft}
use Rattle.tests_node.proofs.configs.pbft_config.Goals as goal

pub returns-then-config-eq3-clause-good : goal.returns-then-config-eq3-clause-good
returns-then-config-eq3-clause-good c = is-pbft c.in_ok-config.config c.in_ok-config.ensures.ok.range c.if-config-eq3.true

pub returns-then-config-eq3-clause-nodes : goal.returns-then-config-eq3-clause-nodes
returns-then-config-eq3-clause-nodes c = has-nodes (setup_of c.in_ok-config.config) (is-pbft c.in_ok-config.config c.in_ok-config.ensures.ok.range c.if-config-eq3.true)
