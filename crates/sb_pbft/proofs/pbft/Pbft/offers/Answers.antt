use Rattle.std.proofs.Common.{true, false, refl}
use Rattle.sb_pbft.proofs.Refinement.CallsRefine.{asks-of-told}
use Rattle.sb_pbft.proofs.pbft.Pbft.offers.Goals as goal

pub returns-then-may_take : goal.returns-then-may_take
returns-then-may_take c = λ me xs st.
    asks-of-told c.args.p.now c.requires.good c.args.self.now me xs st _ c.args.from c.args.msg.now _ _ _ _ true
    refl c.in-PrePrepare.is c.in-Batch.is c.if-may_take.ensures

pub returns-else-may_take : goal.returns-else-may_take
returns-else-may_take c = λ me xs st.
    asks-of-told c.args.p.now c.requires.good c.args.self.now me xs st _ c.args.from c.args.msg.now _ _ _ _ false
    refl c.in-PrePrepare.is c.in-Batch.is c.if-may_take.ensures
