use Rattle.std.proofs.Common.{sym}
use Rattle.std.proofs.lemmas.Result.{IfOk-weaker}
use Rattle.sb_chained.proofs.Refinement.TurnRefines.{cast-some}
use Rattle.sb_chained.proofs.state.Node.propose_cast.Goals as goal

pub returns : goal.returns
returns c =
    IfOk-weaker c.propose.result _ _ (λ o d k room few low h.
    cast-some c.args.context.now.p.now c.args.self.now c.propose.new.self k o c.args.view c.args.slots c.args.just h c.in-Some.batch.now c.in_ok-copy.field-0 (sym c.in-Some.ensures) c.in_ok-copy.ensures room few low (d k)) c.propose.ensures
