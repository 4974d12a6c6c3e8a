use Rattle.std.proofs.Common.{◌≡◌, ◌∙◌, ◌++◌, ℕ, List, ap, subst}
use Rattle.iss_request.specs.declared.setups.Setup.{Setup}
use Rattle.iss_schedule.specs.Schedules.{header_lines}
use Rattle.iss_schedule.specs.Words.{ended}
use Rattle.iss_export.specs.Exporting.{HasExported}
use Rattle.iss_export.proofs.ExportLemmas.{written}
use Rattle.iss_export.proofs.exporting.write.Goals as goal

pub returns : goal.returns
returns g c = λ p reader r stale.
    let m = g.M.Sequenced.spec in
    let s = c.args.setup.now in
    let i = c.args.core in
    let begun = c.put_header.new.out.items in
    let done = c.put_epochs.new.out.items in
    let head : begun ≡ ended (header_lines s) =
    c.in_ok-put_header.ensures ∙ ap (λ (l : List ℕ). l ++ ended (header_lines s)) c.new-out.ensures.items in
    let put = subst (λ (t : Setup). HasExported t m p.state reader i begun done) c.requires.same (c.in_ok-put_epochs.ensures p reader r stale) in
    written s m p.state reader i begun done _ head put (c.of.ensures ∙ c.in_ok-put_last.ensures)
