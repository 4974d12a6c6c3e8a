use Rattle.std.proofs.Common.{refl, sym}
use Rattle.sb_relay.proofs.Marks.{cast-refines, cast-taken, cast-within, idle_cast-refines, idle_cast-taken}
use Rattle.sb_relay.proofs.relay.Relay.cast.Goals as goal

pub returns-then-not-may_cast-clause-refines : goal.returns-then-not-may_cast-clause-refines
returns-then-not-may_cast-clause-refines c me xs leaf st =
    idle_cast-refines c.args.self.now c.args.p.now me xs st c.args.slot c.args.batch leaf (sym c.if-not-may_cast.ensures)

pub returns-then-not-may_cast-clause-effects : goal.returns-then-not-may_cast-clause-effects
returns-then-not-may_cast-clause-effects c me xs leaf st =
    idle_cast-taken c.args.self.now c.args.p.now me xs st c.args.slot c.args.batch leaf _ (sym c.if-not-may_cast.ensures) c.nothing.ensures

pub returns-clause-refines : goal.returns-clause-refines
returns-clause-refines c me xs leaf st =
    cast-refines c.args.self.now c.args.p.now me xs st c.args.slot c.args.batch leaf _ (sym c.if-not-may_cast.ensures) refl c.in_ok-push.ensures.ok refl

pub returns-clause-effects : goal.returns-clause-effects
returns-clause-effects c me xs leaf st =
    cast-taken c.args.self.now c.args.p.now me xs st c.args.slot c.args.batch leaf _ (sym c.if-not-may_cast.ensures) (rw (c.nothing-effects.ensures.sends, c.in_ok-copy.ensures) at c.in_ok-push-2.ensures.ok) refl c.nothing-effects.ensures.delivers c.nothing-effects.ensures.hashed

pub returns-clause-within : goal.returns-clause-within
returns-clause-within c = let no = c.nothing-effects.ensures.delivers in record {
  delivered = rw no tt;
  accepted = cast-within c.args.self.now c.args.p.now c.args.slot (sym c.if-not-may_cast.ensures);
  addressed = let is = rw c.nothing-effects.ensures.sends at c.in_ok-push-2.ensures.ok in rw is (tt, tt);
}
