use Rattle.std.proofs.Common.{arith}
use Rattle.std.proofs.lemmas.Result.{IfOk-weaker}
use Rattle.sb_echo.proofs.Steps.{idle_timeout-refines, idle_timeout-taken}
use Rattle.sb_echo.proofs.Within.{nothing-within}
use Rattle.sb_echo.proofs.echo.EchoSequenced.apply.Goals as goal

pub returns-in-Cast : goal.returns-in-Cast
returns-in-Cast c = rw c.in-Cast.is (rw c.of-context.ensures at c.cast.ensures)

pub returns-in-Say : goal.returns-in-Say
returns-in-Say c = rw (c.in-Receive.is, c.in-Say.is) (IfOk-weaker c.take_say.result _ _ (λ e h. h c.in-Say.sig) (rw c.of-context.ensures at c.take_say.ensures))

pub returns-in-Receive : goal.returns-in-Receive
returns-in-Receive c = rw (c.in-Receive.is, c.in-Echo.is) (IfOk-weaker c.take_echo.result _ _ (λ e h. h c.in-Echo.sig c.args.keys.now c.requires.enough) (rw c.of-context.ensures at c.take_echo.ensures))

pub returns : goal.returns
returns c =
    let nothing = c.nothing.ensures in
    let enough = c.requires.enough in
    rw c.in-Timeout.is (record {
      refined = λ me xs st own. idle_timeout-refines c.args.self.now c.args.p.now me xs st c.args.keys.now.used;
      effects = λ me xs st own. idle_timeout-taken c.args.self.now c.args.p.now me xs st c.args.keys.now.used _ nothing;
      used = λ me xs st own. omega arith;
      within = nothing-within c.args.p.now c.args.keys.now _ nothing;
      enough = enough;
    })
