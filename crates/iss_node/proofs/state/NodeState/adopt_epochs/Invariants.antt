use Rattle.std.proofs.Common.{◌≡◌, ℕ, ◌++◌, List}
use Rattle.iss_checkpoint.specs.declared.votes.Cert.{Cert}
use Rattle.iss_node.specs.Internal.Rebuilding.{AreWhole, IsEmptied}
use Rattle.iss_node.specs.Steps.{IsLater}
use Rattle.iss_rebuilt.specs.Reading.{adopts_epochs}
use Rattle.iss_rules.specs.Past.{Past}
use Rattle.iss_node.proofs.state.NodeState.adopt_epochs.Given as goal

abbrev pub invariant-loop-values : goal.invariant-loop-values
invariant-loop-values g l = record {
  adopted : (past : Past g.row.M-Msg.Denot) (certs : List Cert) (leaf : ℕ) → IsEmptied g.M.Sequenced.spec g.M.Sequenced.refines l.fn.self past certs leaf →
      IsEmptied g.M.Sequenced.spec g.M.Sequenced.refines l.self (adopts_epochs past l.yielded) certs leaf;
  later : IsLater l.fn.self l.self;
  left : AreWhole l.fn.self.setup.epoch l.values-iterator.rest.items;
  whole : l.fn.epochs ≡ l.yielded ++ l.values-iterator.rest.items;
}
