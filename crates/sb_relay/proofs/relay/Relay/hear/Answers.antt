use Rattle.std.proofs.Common.{refl, sym}
use Rattle.sb_relay.proofs.Marks.{deliver-within, idle_say-refines, idle_say-taken, say-refines, say-taken}
use Rattle.sb_relay.proofs.relay.Relay.hear.Goals as goal

pub returns-then-not-may_deliver-clause-refines : goal.returns-then-not-may_deliver-clause-refines
returns-then-not-may_deliver-clause-refines c me xs leaf st =
    idle_say-refines c.args.self.now c.args.p.now me xs st c.args.from c.args.said leaf (sym c.if-not-may_deliver.ensures)

pub returns-then-not-may_deliver-clause-effects : goal.returns-then-not-may_deliver-clause-effects
returns-then-not-may_deliver-clause-effects c me xs leaf st =
    idle_say-taken c.args.self.now c.args.p.now me xs st c.args.from c.args.said leaf _ (sym c.if-not-may_deliver.ensures) c.nothing.ensures

pub returns-clause-refines : goal.returns-clause-refines
returns-clause-refines c me xs leaf st =
    say-refines c.args.self.now c.args.p.now me xs st c.args.from c.args.said leaf _ (sym c.if-not-may_deliver.ensures) refl refl c.in_ok-push.ensures.ok

pub returns-clause-effects : goal.returns-clause-effects
returns-clause-effects c me xs leaf st =
    say-taken c.args.self.now c.args.p.now me xs st c.args.from c.args.said leaf _ (sym c.if-not-may_deliver.ensures) c.nothing-effects.ensures.sends c.nothing-effects.ensures.accepted (rw c.nothing-effects.ensures.delivers at c.in_ok-push-2.ensures.ok) c.nothing-effects.ensures.hashed

pub returns-clause-within : goal.returns-clause-within
returns-clause-within c = let no = c.nothing-effects.ensures.accepted in let is = rw c.nothing-effects.ensures.delivers at c.in_ok-push-2.ensures.ok in record {
  delivered = rw is (deliver-within c.args.self.now c.args.p.now c.args.from c.args.said.slot (sym c.if-not-may_deliver.ensures), tt);
  accepted = rw no tt;
  addressed = let none = c.nothing-effects.ensures.sends in rw none tt;
}
