use Rattle.std.proofs.Common.{◌≡◌, map}
use Rattle.iss_model.specs.Node.{Core}
use Rattle.iss_rules.specs.Concrete.{rules_of}
use Rattle.iss_model.specs.Views.{unfilled}
use Rattle.iss_node.specs.State.{RefinesCore}
use Rattle.iss_node.proofs.node.Node.unfilled.Given as goal

abbrev pub invariant-loop-node : goal.invariant-loop-node
invariant-loop-node g l = (c : Core g.row.M-Msg.Denot) → RefinesCore g.M.Sequenced.spec g.M.Sequenced.refines l.self c →
    map (λ x. x.0) l.leaders ≡ unfilled (rules_of l.self.state.setup) g.M.Sequenced.spec l.node l.self.state.me.0 c.past
