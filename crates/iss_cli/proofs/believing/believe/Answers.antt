use Rattle.std.proofs.Common.{subst}
use Rattle.iss_schedule.specs.declared.errors.ReadError.{ReadError}
use Rattle.iss_answers.specs.Refusals.{IsRefused}
use Rattle.iss_cli.proofs.BelievingLemmas.{of_bad_text, of_told}
use Rattle.iss_cli.proofs.believing.believe.Goals as goal

pub returns-in-Ok : goal.returns-in-Ok
returns-in-Ok c = of_told c.args.input.now c.in-Ok.told c.believe_told.result c.in-Ok.ensures.ok c.believe_told.ensures

pub returns-in-Err-BadLine : goal.returns-in-Err-BadLine
returns-in-Err-BadLine c =
    let input = c.args.input.now in
    let bad = subst (λ (e : ReadError). IsRefused input e) c.in-Err-BadLine.field-0-is c.in-Err-BadLine.ensures.bad in
    of_bad_text input c.in-Err-BadLine.line c.in-Err-BadLine.why c.refuse_line.result bad c.refuse_line.ensures
