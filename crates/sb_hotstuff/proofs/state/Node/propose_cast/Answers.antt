use Rattle.std.proofs.Common.{sym}
use Rattle.std.proofs.lemmas.Result.{IfOk-weaker}
use Rattle.sb_hotstuff.proofs.Refinement.TurnRefines.{cast-none, cast-some}
use Rattle.sb_hotstuff.proofs.state.Node.propose_cast.Goals as goal

pub returns-in_default : goal.returns-in_default
returns-in_default c k small low first h =
    cast-none c.args.context.now.p.now c.args.self.now c.args.self.now k c.nothing.result c.args.view c.args.slots c.args.place c.args.just h (sym c.in_default.ensures) c.nothing.ensures

pub returns : goal.returns
returns c =
    IfOk-weaker c.propose.result _ _ (λ o d k small low first h.
    cast-some c.args.context.now.p.now c.args.self.now c.propose.new.self k o c.args.view c.args.slots c.args.place c.args.just h c.in-Some.batch.now c.in_ok-copy.field-0 (sym c.in-Some.ensures) c.in_ok-copy.ensures small low first (d k))
    c.propose.ensures
