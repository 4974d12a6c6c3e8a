use Rattle.tests_node.proofs.ConfigLemmas.{is-relay}
use Rattle.tests_node.proofs.configs.relay_config.Goals as goal

pub returns-then-config-eq1-clause-good : goal.returns-then-config-eq1-clause-good
returns-then-config-eq1-clause-good c = is-relay c.in_ok-config.config c.in_ok-config.ensures.ok.range c.if-config-eq1.true

pub returns-then-config-eq1-clause-nodes : goal.returns-then-config-eq1-clause-nodes
returns-then-config-eq1-clause-nodes c = (is-relay c.in_ok-config.config c.in_ok-config.ensures.ok.range c.if-config-eq1.true).nodes
