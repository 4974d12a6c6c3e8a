use Rattle.std.proofs.Common.{◌≡◌, ◌∙◌, ◌∷◌, ◌++◌, [], ap, ap₂, List, subst, sym}
use Rattle.iss_request.specs.declared.setups.Setup.{Setup}
use Rattle.iss_schedule.specs.Events.{AreInRange}
use Rattle.iss_schedule.specs.Schedules.{IsKnown}
use Rattle.iss_schedule.specs.declared.schedules.Event.{Event}
use Rattle.iss_schedule.specs.declared.schedules.Event.TheVariants.{Calm}
use Rattle.iss_schedule.specs.declared.schedules.Schedule.{Schedule}
use Rattle.iss_lab.specs.Generated.{generated}
use Rattle.iss_lab.proofs.GeneratedLemmas.{generated_in_range, lab_is_known}
use Rattle.iss_lab.proofs.generating.generate.Goals as goal

abbrev of : Setup → List Event → Schedule
of s es = record { setup = s; events = es }

pub returns : goal.returns
returns c =
    let events = c.in_ok-push.ensures.ok ∙ ap (λ (es : List Event). es ++ Calm 50 ∷ []) c.in_ok-drawn.ensures in
    let is : of c.lab_setup.result c.push.new.self ≡ generated c.args.number c.args.events = ap₂ of c.lab_setup.ensures events in
    record {
      value = is;
      known = subst (λ (s : Schedule). IsKnown s.setup) (sym is) lab_is_known;
      range = subst (λ (s : Schedule). AreInRange s.setup s.events) (sym is) (generated_in_range c.args.number c.args.events);
    }
