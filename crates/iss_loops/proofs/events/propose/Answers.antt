use Rattle.std.proofs.Common.{◌∙◌, sym, refl, false}
use Rattle.iss_loops.proofs.LoopLemmas.{does-as, does-then, idles, proposed}
use Rattle.iss_loops.specs.Loop.{proposes, step}
use Rattle.iss_schedule.specs.declared.schedules.Event.TheVariants.{Propose}
use Rattle.iss_loops.proofs.events.propose.Goals as goal

pub returns : goal.returns
returns g c =
    does-as 0 (λ B l. step B (Propose c.args.core) (record l { idle = false })) (λ B. proposes B c.args.core) _ _ c.step.result
    (proposed c.args.core _ (sym c.has_ended.ensures ∙ c.if-has_ended.false) (sym c.castable.ensures ∙ c.if-not-castable.false))
    (does-then 0 0 (λ B l. record l { idle = false }) (λ B. step B (Propose c.args.core)) _ _ _ c.step.result (idles false _) refl c.step.ensures)
