use Rattle.std.proofs.Common.{None, refl, arith}
use Rattle.std.proofs.lemmas.Result.{IfOk-weaker}
use Rattle.iss_sb.specs.declared.effects.Input.TheVariants.{Cast, Receive, Timeout}
use Rattle.sb_raft.specs.Refines.{cast_of, held}
use Rattle.sb_raft.proofs.Refinement.StepEffectsAgree.{cast-asked, cast-inside, true-step}
use Rattle.sb_raft.proofs.raft.RaftSequenced.apply.Goals as goal

pub returns-in-Cast : goal.returns-in-Cast
returns-in-Cast c =
    let m = c.args.self.now in
    let p = c.args.p.now in
    let term = c.term-term.ensures in
    let fits = c.term-term.type_inv in
    rw c.in-Cast.is (IfOk-weaker c.cast.result _ _
    (λ e d. true-step p c.requires.good m c.cast.new.self (Cast c.in-Cast.slot c.in-Cast.batch) (cast_of p (held m) c.in-Cast.slot c.in-Cast.batch) e (omega (arith, term, fits)) d
    (λ me xs st. cast-asked p m me xs c.in-Cast.slot c.in-Cast.batch st) (cast-inside p (held m) c.in-Cast.slot c.in-Cast.batch) c.args._keys.now) (rw c.of-context.ensures at c.cast.ensures))

pub returns-in-Receive : goal.returns-in-Receive
returns-in-Receive c =
    let m = c.args.self.now in
    let term = c.term-term.ensures in
    let fits = c.term-term.type_inv in
    rw c.in-Receive.is (IfOk-weaker c.receive.result _ _
    (λ e d. true-step c.args.p.now c.requires.good m c.receive.new.self (Receive c.in-Receive.from c.in-Receive.msg) None e (omega (arith, term, fits)) d (λ me xs st. refl) tt c.args._keys.now) (rw c.of-context.ensures at c.receive.ensures))

pub returns-in-Timeout : goal.returns-in-Timeout
returns-in-Timeout c =
    let m = c.args.self.now in
    let term = c.term-term.ensures in
    let fits = c.term-term.type_inv in
    rw c.in-Timeout.is (IfOk-weaker c.time_out.result _ _
    (λ e d. true-step c.args.p.now c.requires.good m c.time_out.new.self Timeout None e (omega (arith, term, fits)) d (λ me xs st. refl) tt c.args._keys.now) (rw c.of-context.ensures at c.time_out.ensures))
