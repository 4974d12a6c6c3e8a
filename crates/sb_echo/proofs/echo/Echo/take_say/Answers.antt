use Rattle.std.proofs.Common.{◌==◌, ◌∙◌, refl, sym, arith}
use Rattle.iss_base.proofs.Lists.{and-true}
use Rattle.sb_echo.specs.Internal.Refines.{is_free}
use Rattle.sb_echo.proofs.Steps.{echoed-words, idle_say-refines, idle_say-taken, say-refines, say-taken, say-used}
use Rattle.sb_echo.proofs.Within.{none-used, nothing-within, some-used, taken-within}
use Rattle.sb_echo.proofs.echo.Echo.take_say.Goals as goal

pub returns-then-not-may_take : goal.returns-then-not-may_take
returns-then-not-may_take c sig =
    let no = sym c.if-not-may_take.ensures in
    let used = c.args.keys.now.used in
    record {
      refined = λ me xs st own. idle_say-refines c.args.self.now c.args.context.now.p.now me xs st c.args.from c.args.slot c.args.batch sig used no;
      effects = λ me xs st own. idle_say-taken c.args.self.now c.args.context.now.p.now me xs st c.args.from c.args.slot c.args.batch sig used _ no c.nothing.ensures;
      used = λ me xs st own. none-used used _ (say-used c.args.self.now c.args.context.now.p.now me xs st c.args.from c.args.slot c.args.batch sig used _ no);
      within = nothing-within c.args.context.now.p.now c.args.keys.now _ c.nothing.ensures;
      enough = c.requires;
    }

pub returns : goal.returns
returns c sig =
    let may = sym c.if-not-may_take.ensures in
    let used = c.args.keys.now.used in
    let taken = c.in_ok-digest.ensures in
    let sends = rw taken.sends at c.in_ok-push.ensures.ok in
    let free = (and-true (c.args.from.0 == c.args.context.now.p.now.leader.0) (is_free c.args.self.now c.args.context.now.p.now c.args.slot.0) may).1 in
    record {
      refined = λ me xs st own. say-refines c.args.self.now c.args.context.now.p.now me xs st c.args.from c.args.slot c.args.batch sig used _ _ _ may taken;
      effects = λ me xs st own. say-taken c.args.self.now c.args.context.now.p.now me xs st c.args.from c.args.slot c.args.batch sig used _ _ _ _ may taken
          (sends ∙ echoed-words c.args.context.now.p.now me used c.args.slot c.args.batch _ _ taken.digest (c.in_ok-sig.ensures.sig me own)) refl refl refl;
      used = λ me xs st own. some-used c.args.keys.now _ 1 _ c.in_ok-sig.ensures.used (say-used c.args.self.now c.args.context.now.p.now me xs st c.args.from c.args.slot c.args.batch sig used _ may);
      within = taken-within c.args.context.now.p.now c.args.self.now _ c.args.slot c.args.batch _ _ _ c.args.keys.now _ 1 free taken refl refl (rw sends (tt, tt)) c.in_ok-sig.ensures.used (omega arith);
      enough = c.requires;
    }
