use Rattle.iss_theorems.specs.Headline.{course_after}
use Rattle.iss_model.proofs.Ranges.{at-cores}
use Rattle.iss_node.proofs.EpochEnd.StepCompletes.{if-ok}
use Rattle.iss_replay.proofs.texts.text.Goals as goal

pub returns-clause-reports : goal.returns-clause-reports
returns-clause-reports g c =
    let s = c.args.report.now.world.simulation.setup in
    let m = g.M.Sequenced.spec in
    if-ok c.write.result _ _ c.write.ensures (λ bytes told good events range refines. record {
      tells = told (course_after s m events) refines;
      whole = c.restarts_change_nothing.ensures s good events (at-cores s events range);
    })
