use Rattle.std.proofs.Common.{refl, sym, arith}
use Rattle.sb_echo.proofs.Steps.{echo-refines, echo-taken, idle_echo-refines, idle_echo-taken}
use Rattle.sb_echo.proofs.Within.{echo-within, nothing-within}
use Rattle.sb_echo.proofs.echo.Echo.take_echo.Goals as goal

pub returns-then-not-is_inside : goal.returns-then-not-is_inside
returns-then-not-is_inside c sig keys enough =
    let out = sym c.if-not-is_inside.ensures in
    record {
      refined = λ me xs st own. idle_echo-refines c.args.self.now c.args.context.now.p.now me xs st c.args.from c.args.slot c.args.digest sig keys.used out;
      effects = λ me xs st own. idle_echo-taken c.args.self.now c.args.context.now.p.now me xs st c.args.from c.args.slot c.args.digest sig keys.used _ out c.nothing.ensures;
      used = λ me xs st own. omega arith;
      within = nothing-within c.args.context.now.p.now keys _ c.nothing.ensures;
      enough = enough;
    }

pub returns : goal.returns
returns c sig keys enough =
    let inside = sym c.if-not-is_inside.ensures in
    let nothing = c.nothing-effects.ensures in
    record {
      refined = λ me xs st own. echo-refines c.args.self.now c.args.context.now.p.now me xs st c.args.from c.args.slot c.args.digest sig keys.used inside _ _ _ refl refl c.in_ok-hear.ensures c.in_ok-value.ensures;
      effects = λ me xs st own. echo-taken c.args.self.now c.args.context.now.p.now me xs st c.args.from c.args.slot c.args.digest sig keys.used inside _ _ _ refl refl c.in_ok-hear.ensures c.in_ok-value.ensures _ nothing.sends nothing.accepted nothing.hashed c.in_ok-effects.ensures;
      used = λ me xs st own. omega arith;
      within = echo-within c.args.context.now.p.now keys _ c.args.slot _ inside nothing.sends nothing.accepted c.in_ok-effects.ensures;
      enough = enough;
    }
