use Rattle.std.proofs.Common.{◌∙◌, ap, sym, refl, false, ℕ, List, None, Some}
use Rattle.iss_loops.proofs.LoopLemmas.{arrived, does-as, does-then, idles, injected}
use Rattle.iss_loops.specs.Loop.{arrives, number_from, step}
use Rattle.iss_request.specs.declared.setups.Setup.{Setup}
use Rattle.iss_schedule.specs.declared.schedules.Event.TheVariants.{Bytes, Deliver}
use Rattle.iss_loops.proofs.events.deliver.Goals as goal

pub returns-in-Some : goal.returns-in-Some
returns-in-Some g c =
    does-as 0 (λ B l. step B (Deliver c.in-Some.packet) (record l { idle = false })) (λ B. arrives B c.args.core (Some c.args.packet.items)) _ _ c.step.result
    (arrived c.args.core c.args.packet.items (Some c.in-Some.packet) _
    (λ fresh. sym c.in-Some.is ∙ c.number_of.ensures fresh ∙ ap (λ (bytes : List ℕ). number_from 0 c.args.core bytes ((g.C.TracedCluster.behavior c.args.cluster.now).packets (g.C.TracedCluster.events c.args.cluster.now))) c.deref.ensures.value))
    (does-then 0 0 (λ B l. record l { idle = false }) (λ B. step B (Deliver c.in-Some.packet)) _ _ _ c.step.result (idles false _) refl c.step.ensures)

pub returns-in-Byzantine : goal.returns-in-Byzantine
returns-in-Byzantine g c =
    let B = g.C.TracedCluster.behavior c.args.cluster.now in
    does-as 0 (λ B l. step B (Bytes c.args.core c.of-bytes.result) (record l { idle = false })) (λ B. arrives B c.args.core (Some c.args.packet.items)) _ _ c.step-in-Byzantine.result
    (λ l fresh at. ap (λ (bytes : List ℕ). step B (Bytes c.args.core bytes) (record l { idle = false })) c.of-bytes.ensures
    ∙ injected c.args.core c.args.packet.items B (record l { idle = false }) (ap (λ (s : Setup). s.kind) (sym c.setup.ensures.same) ∙ c.in-Byzantine.is)
    ∙ arrived c.args.core c.args.packet.items None _
    (λ still. sym c.in_default.is ∙ c.number_of.ensures still ∙ ap (λ (bytes : List ℕ). number_from 0 c.args.core bytes (B.packets (g.C.TracedCluster.events c.args.cluster.now))) c.deref.ensures.value) l fresh at)
    (does-then 0 0 (λ B l. record l { idle = false }) (λ B. step B (Bytes c.args.core c.of-bytes.result)) _ _ _ c.step-in-Byzantine.result (idles false _) refl c.step-in-Byzantine.ensures)
