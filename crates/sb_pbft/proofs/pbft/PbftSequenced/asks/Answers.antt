use Rattle.std.proofs.Common.{◌∙◌}
use Rattle.sb_pbft.proofs.Refinement.CallsRefine.{asks-of-cast}
use Rattle.sb_pbft.proofs.pbft.PbftSequenced.asks.Goals as goal

pub returns-in-Cast : goal.returns-in-Cast
returns-in-Cast c = λ me xs st.
    c.asks_if.ensures ∙ asks-of-cast c.args.p.now c.requires.good c.args.self.now me xs st c.args.i.now _ _ _ c.in-Cast.is c.may_cast.ensures
