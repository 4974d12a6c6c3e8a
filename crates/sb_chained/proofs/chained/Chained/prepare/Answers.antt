use Rattle.std.proofs.Common.{refl}
use Rattle.sb_chained.specs.declared.chained.Chained.{Chained}
use Rattle.sb_chained.proofs.Refinement.MessagesRefine.{prepared-takes, shown-takes, unused-takes}
use Rattle.sb_chained.proofs.chained.Chained.prepare.Goals as goal

pub returns-then-not-is_usable : goal.returns-then-not-is_usable
returns-then-not-is_usable c sig =
    unused-takes c.args.context.now.p.now c.args.from c.args.proposal.view c.args.proposal.what c.args.proposal.just sig c.args.self.now c.of.result c.nothing.result c.is_usable.result c.of.ensures c.nothing.ensures c.if-not-is_usable.true (λ s h. c.is_usable.ensures s h)

pub returns-then-not-may_prepare : goal.returns-then-not-may_prepare
returns-then-not-may_prepare c sig =
    shown-takes c.args.context.now.p.now c.args.from c.args.proposal.view c.args.proposal.what c.args.proposal.just sig c.args.self.now c.show.new.self c.nothing-then-not-may_prepare.result c.in_ok-delivers.delivers c.may_prepare.result c.is_usable.result c.nothing-then-not-may_prepare.ensures
    c.if-not-is_usable.false (λ s h. c.is_usable.ensures s h) c.if-not-may_prepare.true (λ s h. c.may_prepare.ensures s h) c.in_ok-delivers.ensures.accepted c.in_ok-delivers.ensures.inside (λ k h. c.in_ok-delivers.ensures.shown k h)

pub returns : goal.returns
returns c sig =
    let m = c.args.self.now in
    let mid : Chained = record m { node = c.take_node.new.self; accepted = c.keep_what.new.accepted } in
    prepared-takes c.args.context.now.p.now c.args.from c.args.proposal.view c.args.proposal.what c.args.proposal.just sig m mid c.show-2.new.self c.in_ok-outcome.outcome c.in_ok-delivers-2.delivers c.offered_slot-slot.result c.in_ok-accepted.accepted c.may_prepare.result c.is_usable.result
    c.if-not-is_usable.false (λ s h. c.is_usable.ensures s h) c.if-not-may_prepare.false (λ s h. c.may_prepare.ensures s h) (λ s h. c.in_ok-outcome.ensures s h) refl c.in_ok-delivers-2.ensures.accepted c.in_ok-accepted.ensures.is c.in_ok-accepted.ensures.kept
    c.offered_slot-slot.ensures.inside (λ s old h k. c.offered_slot-slot.ensures.offered s old h k) c.in_ok-delivers-2.ensures.inside (λ k h. c.in_ok-delivers-2.ensures.shown k h)
