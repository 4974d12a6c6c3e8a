use Rattle.std.proofs.Common.{subst}
use Rattle.iss_audit.specs.Refusals.{IsRefused}
use Rattle.iss_audit.specs.declared.errors.AuditError.{AuditError}
use Rattle.iss_cli.proofs.AuditLemmas.{of_bad_epoch, of_bad_export, of_certified}
use Rattle.iss_cli.proofs.audits.audit.Goals as goal

pub returns-in-Ok : goal.returns-in-Ok
returns-in-Ok c =
    let input = c.args.input.now in
    let x = c.in-Ok.export in
    of_certified input x c.certify.result c.in-Ok.ensures.ok (c.quorums_signed_each_epoch.ensures input x c.in-Ok.ensures.ok) (c.certified_logs_are_of_runs.ensures input x c.in-Ok.ensures.ok) c.certify.ensures

pub returns-in-Err-BadLine : goal.returns-in-Err-BadLine
returns-in-Err-BadLine c =
    let input = c.args.input.now in
    let bad = subst (λ (e : AuditError). IsRefused input e) c.in-Err-BadLine.field-0-is c.in-Err-BadLine.ensures.bad in
    of_bad_export input c.in-Err-BadLine.line c.in-Err-BadLine.why c.refuse_line.result bad c.refuse_line.ensures

pub returns-in-Err-BadEpoch : goal.returns-in-Err-BadEpoch
returns-in-Err-BadEpoch c =
    let input = c.args.input.now in
    let bad = subst (λ (e : AuditError). IsRefused input e) c.in-Err-BadEpoch.field-0-is c.in-Err-BadEpoch.ensures.bad in
    of_bad_epoch input c.in-Err-BadEpoch.epoch.0 c.in-Err-BadEpoch.why c.refuse_epoch.result bad c.refuse_epoch.ensures
