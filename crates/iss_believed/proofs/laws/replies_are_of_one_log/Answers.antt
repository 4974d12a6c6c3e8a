use Rattle.std.proofs.Common.{ℕ}
use Rattle.iss_model.proofs.Ranges.{at-cores}
use Rattle.iss_theorems.specs.Headline.{course_after, held_after, shown}
use Rattle.iss_rules.proofs.Nodes.{correct-below}
use Rattle.iss_believed.specs.Believed.{one_log, replies_of_run}
use Rattle.iss_believed.proofs.OneLogLemmas.{own-unforged, prefix-longest, told-believed}
use Rattle.iss_believed.proofs.laws.replies_are_of_one_log.Goals as goal

pub returns : goal.returns
returns g c = λ s good events range.
    let m = g.M.Sequenced.spec in
    let h = held_after s m events in
    let whole = c.restarts_change_nothing.ensures s good events (at-cores s events range) in
    let logs = shown s m h in
    let fronts = λ (i : ℕ) (right : _). prefix-longest s logs whole.one_log.prefix s.n i (correct-below s i right) right in
    let own = replies_of_run s m (course_after s m events) in
    record {
      prefix = fronts;
      believed = λ told unforged. told-believed s logs (one_log s m h) told good.good fronts unforged;
      exact = told-believed s logs (one_log s m h) own good.good fronts (own-unforged s own);
    }
