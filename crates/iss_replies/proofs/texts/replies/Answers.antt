use Rattle.std.proofs.Common.{◌≡◌, ◌∙◌, ◌++◌, ℕ, List, ap}
use Rattle.iss_request.specs.declared.setups.Setup.{Setup}
use Rattle.iss_schedule.specs.Schedules.{header_lines}
use Rattle.iss_schedule.specs.Words.{ended}
use Rattle.iss_believed.specs.Believed.{replies_of_run}
use Rattle.iss_replies.proofs.NodeLemmas.{text-whole}
use Rattle.iss_replies.proofs.texts.replies.Goals as goal

pub returns : goal.returns
returns g c = λ p r.
    let s = c.args.report.now.world.simulation.setup in
    let head : c.put_header.new.out.items ≡ ended (header_lines s) =
    c.in_ok-put_header.ensures ∙ ap (λ (l : List ℕ). l ++ ended (header_lines c.setup.result.now)) c.new-out.ensures.items
    ∙ ap (λ (t : Setup). ended (header_lines t)) c.setup.ensures.same in
    c.of.ensures
    ∙ text-whole s (replies_of_run s g.M.Sequenced.spec p) c.put_header.new.out.items c.put_nodes.new.out.items c.put_last.new.out.items head (c.in_ok-put_nodes.ensures p r.refined) c.in_ok-put_last.ensures
