use Rattle.std.proofs.lemmas.Result.{IfOk-weaker}
use Rattle.sb_hotstuff.proofs.Refinement.StepEffectsAgree.{true-step}
use Rattle.sb_hotstuff.proofs.hotstuff.HotStuffSequenced.apply.Goals as goal

pub returns : goal.returns
returns c =
    IfOk-weaker c.sign.result _ _
    (λ e signed. true-step c.args.p.now c.requires.good c.args.self.now c.take.new.self c.args.i c.in_ok-taken.taken c.args.keys.now c.sign.new.keys e c.requires.enough (rw c.of-context.ensures at c.in_ok-taken.ensures) signed) (rw c.of-context.ensures at c.sign.ensures)
