use Rattle.std.proofs.Common.{sym, ◌∙◌}
use Rattle.sb_hotstuff.proofs.Refinement.StepEffectsAgree.{proposal-takes, unprepared-takes}
use Rattle.sb_hotstuff.proofs.hotstuff.HotStuff.accept_proposal.Goals as goal

pub returns-then-not-may_prepare : goal.returns-then-not-may_prepare
returns-then-not-may_prepare c sig =
    unprepared-takes c.args.context.now.p.now c.args.self.now c.nothing.result c.of.result c.nothing.ensures c.of.ensures c.args.from c.args.proposal.view c.args.proposal.what c.args.proposal.just sig
    (λ s h. sym (c.may_prepare.ensures s h) ∙ c.if-not-may_prepare.true)

pub returns : goal.returns
returns c sig =
    proposal-takes c.args.context.now.p.now c.args.self.now c.vote_prepare.new.self c.keep_what.new.accepted c.offered_slot-slot.result _ c.offered_slot-slot.ensures.inside c.new-delivers.ensures
    c.args.from c.args.proposal.view c.args.proposal.what c.args.proposal.just sig (λ s h. sym (c.may_prepare.ensures s h) ∙ c.if-not-may_prepare.false)
    (λ s h. c.in_ok-outcome.ensures s c.args.from sig h (sym (c.may_prepare.ensures s h) ∙ c.if-not-may_prepare.false)) c.in_ok-accepted.ensures.is c.in_ok-accepted.ensures.kept
    (λ s old h k. c.offered_slot-slot.ensures.offered s old h k)
