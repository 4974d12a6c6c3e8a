use Rattle.std.proofs.Common.{◌==◌, ◌∙◌, refl, sym, arith}
use Rattle.iss_base.proofs.Lists.{and-true}
use Rattle.sb_echo.specs.Internal.Refines.{is_free}
use Rattle.sb_echo.proofs.Steps.{cast-refines, cast-taken, cast-used, idle_cast-refines, idle_cast-taken, said-words}
use Rattle.sb_echo.proofs.Within.{none-used, nothing-within, same-owner, some-used, taken-within, twice-used}
use Rattle.sb_echo.proofs.echo.Echo.cast.Goals as goal

pub returns-then-not-may_cast : goal.returns-then-not-may_cast
returns-then-not-may_cast c =
    let no = sym c.if-not-may_cast.ensures in
    let used = c.args.keys.now.used in
    record {
      refined = λ me xs st own. idle_cast-refines c.args.self.now c.args.context.now.p.now me xs st c.args.slot c.args.batch used no;
      effects = λ me xs st own. idle_cast-taken c.args.self.now c.args.context.now.p.now me xs st c.args.slot c.args.batch used _ no c.nothing.ensures;
      used = λ me xs st own. none-used used _ (cast-used c.args.self.now c.args.context.now.p.now me xs st c.args.slot c.args.batch used _ no);
      within = nothing-within c.args.context.now.p.now c.args.keys.now _ c.nothing.ensures;
      enough = c.requires;
    }

pub returns : goal.returns
returns c =
    let may = sym c.if-not-may_cast.ensures in
    let used = c.args.keys.now.used in
    let taken = c.in_ok-digest.ensures in
    let first = rw taken.sends at c.in_ok-push.ensures.ok in
    let sends = rw first at c.in_ok-push-2.ensures.ok in
    let free = (and-true (c.args.self.now.me.0 == c.args.context.now.p.now.leader.0) (is_free c.args.self.now c.args.context.now.p.now c.args.slot.0) may).1 in
    let once = c.in_ok-sig.ensures.used in
    let twice = twice-used c.args.keys.now _ _ once c.in_ok-own.ensures.used in
    record {
      refined = λ me xs st own. cast-refines c.args.self.now c.args.context.now.p.now me xs st c.args.slot c.args.batch used _ _ _ may taken;
      effects = λ me xs st own. let signed = c.in_ok-own.ensures.sig me (same-owner me _ c.args.keys.now _ 1 once own) in cast-taken c.args.self.now c.args.context.now.p.now me xs st c.args.slot c.args.batch used _ _ _ _ may taken
          (sends ∙ said-words c.args.context.now.p.now me used c.args.slot c.args.batch _ _ _ _ c.in_ok-said.ensures taken.digest (c.in_ok-sig.ensures.sig me own) (rw once at signed)) refl refl refl;
      used = λ me xs st own. some-used c.args.keys.now _ 2 _ twice (cast-used c.args.self.now c.args.context.now.p.now me xs st c.args.slot c.args.batch used _ may);
      within = taken-within c.args.context.now.p.now c.args.self.now _ c.args.slot c.args.batch _ _ _ c.args.keys.now _ 2 free taken refl refl (rw sends (tt, (tt, tt))) twice (omega arith);
      enough = c.requires;
    }
