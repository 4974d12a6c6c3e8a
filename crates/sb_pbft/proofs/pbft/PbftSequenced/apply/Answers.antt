use Rattle.std.proofs.lemmas.Result.{IfOk-weaker}
use Rattle.iss_sb.specs.declared.effects.Input.TheVariants.{Cast, Receive, Timeout}
use Rattle.sb_pbft.proofs.Refinement.CallsRefine.{true-step}
use Rattle.sb_pbft.proofs.pbft.PbftSequenced.apply.Goals as goal

pub returns-in-Cast : goal.returns-in-Cast
returns-in-Cast c = rw c.in-Cast.is (IfOk-weaker c.cast.result _ _
    (λ e d. true-step c.args.p.now c.requires.good c.args.self.now c.cast.new.self (Cast c.in-Cast.slot c.in-Cast.batch) c.args.keys.now c.cast.new.keys e d c.requires.enough) (rw c.of-context.ensures at c.cast.ensures))

pub returns-in-Receive : goal.returns-in-Receive
returns-in-Receive c = rw c.in-Receive.is (IfOk-weaker c.receive.result _ _
    (λ e d. true-step c.args.p.now c.requires.good c.args.self.now c.receive.new.self (Receive c.in-Receive.from c.in-Receive.msg) c.args.keys.now c.receive.new.keys e d c.requires.enough) (rw c.of-context.ensures at c.receive.ensures))

pub returns-in-Timeout : goal.returns-in-Timeout
returns-in-Timeout c = rw c.in-Timeout.is (IfOk-weaker c.time_out.result _ _
    (λ e d. true-step c.args.p.now c.requires.good c.args.self.now c.time_out.new.self Timeout c.args.keys.now c.time_out.new.keys e d c.requires.enough) (rw c.of-context.ensures at c.time_out.ensures))
