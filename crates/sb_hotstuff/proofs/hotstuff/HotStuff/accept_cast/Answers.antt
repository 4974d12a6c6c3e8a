use Rattle.sb_hotstuff.proofs.Refinement.StepEffectsAgree.{cast-takes}
use Rattle.sb_hotstuff.proofs.hotstuff.HotStuff.accept_cast.Goals as goal

pub returns : goal.returns
returns c =
    cast-takes c.args.context.now.p.now c.args.self.now c.queue_cast.new.self c.keep_at.new.accepted c.cast_slot-free.result _ c.cast_slot-free.ensures.inside c.new-delivers.ensures c.args.slot c.args.batch
    (λ s h. c.in_ok-outcome.ensures s h) c.in_ok-accepted.ensures.is c.in_ok-accepted.ensures.kept (λ s b h. c.cast_slot-free.ensures.cast s b h)
