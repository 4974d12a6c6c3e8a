use Rattle.std.proofs.Common.{ap, sym, subst, ◌∙◌, length, refl}
use Rattle.std.proofs.lemmas.Result.{on_ok_weaker}
use Rattle.iss_cluster.proofs.RunningLemmas.{runs-on, same-setup}
use Rattle.iss_request.specs.declared.setups.Setup.{Setup}
use Rattle.iss_schedule.specs.Events.{IsInRange}
use Rattle.iss_schedule.specs.declared.schedules.Schedule.{Schedule}
use Rattle.iss_cluster.proofs.running.follow.Goals as goal

pub run_event-requires : goal.run_event-requires
run_event-requires g c = subst (λ (s : Setup). IsInRange s c.args.event) (sym c.requires.cluster) c.requires.next.range

pub returns-clause-run : goal.returns-clause-run
returns-clause-run g c =
    on_ok_weaker c.push.result (λ pushed h.
    runs-on g.M.Sequenced.spec g.M.Sequenced.refines c.args.report.now.world c.args.report.now.drops c.args.report.now.ended c.args.trace.now c.args.index.now
    c.args.event c.run_event.new.world c.run_event.new.drops c.in_ok-end.end c.add_from.new.self c.packets-sent.result.now c.packets.result.now c.len-number.result _
    c.requires.cluster c.in_ok-end.ensures.went (c.len-number.ensures ∙ ap (λ (t : Schedule). length t.events) c.schedule.ensures) c.packets-sent.ensures.refines refl c.packets.ensures.refines c.in_ok-add_from.ensures c.requires.next h
    _ c.push.new.self c.numbered.ensures pushed) c.push.ensures.pushed

pub returns-clause-happened : goal.returns-clause-happened
returns-clause-happened g c = on_ok_weaker c.push.result (λ pushed. ap (λ (t : Schedule). t.events) pushed) c.push.ensures.pushed

pub returns-clause-same : goal.returns-clause-same
returns-clause-same g c =
    (same-setup c.push.result c.args.trace.now c.push.new.self _ c.push.ensures.pushed c.push.ensures.same, c.in_ok-end.ensures.same ∙ c.requires.cluster)
