use Rattle.std.proofs.lemmas.Result.{IfOk-weaker}
use Rattle.iss_model.proofs.Ranges.{at-cores}
use Rattle.iss_theorems.specs.Headline.{course_after}
use Rattle.iss_theorems.specs.Readers.{reader_after}
use Rattle.iss_export.proofs.ExportLemmas.{exported}
use Rattle.iss_export.proofs.exporting.export.Goals as goal

pub returns : goal.returns
returns g c =
    let m = g.M.Sequenced.spec in
    let s = c.args.schedule.now.setup in
    let events = c.args.schedule.now.events in
    let i = c.args.core in
    IfOk-weaker c.write.result _ _ (λ bytes h r stale.
    exported s m events i bytes
    (λ silent right epochs are ranged. c.exports_are_certified.ensures s c.requires.good c.requires.known events (at-cores s events c.requires.range) i silent right epochs are ranged)
    (h (course_after s m events) (reader_after s m events) r stale))
    c.write.ensures
