use Rattle.std.proofs.Common.{◌≡◌, ◌∙◌, length, ℕ, subst, arith}
use Rattle.std.proofs.lemmas.List.{nil_from_length}
use Rattle.std.proofs.lemmas.Result.{err_from_is_err_and}
use Rattle.iss_audit.specs.Exports.{IsCertOf, IsValue, cert_line, value_line}
use Rattle.iss_audit.proofs.LineLemmas.{read-some}
use Rattle.iss_audit.proofs.ReadLemmas.{at-cert, at-end, at-value, no-next}
use Rattle.iss_audit.proofs.reading.read_epochs.Goals as goal

pub returns-in_err-line-clause-bad : goal.returns-in_err-line-clause-bad
returns-in_err-line-clause-bad c =
    let p = err_from_is_err_and c.from_residual.result c.from_residual.ensures.1 in
    rw (p.1, p.2)
    (no-next c.args.setup.now c.args.lines.now.rest c.lines.epochs c.lines.values c.lines.lines c.in_err-line.field-0.0 c.lines.invariant c.in_err-line.ensures.bad)

pub returns-then-is_last-clause-text : goal.returns-then-is_last-clause-text
returns-then-is_last-clause-text c =
    let empty : length c.lines.values ≡ 0 = omega (arith, c.len.ensures, c.if-len-eq0.true) in
    (at-end c.args.setup.now c.args.lines.now.rest c.lines.epochs c.lines.values c.in_ok-line.line.now c.lines.lines c.next_line.new.lines c.lines.invariant (nil_from_length c.lines.values empty) (c.is_last.ensures.0 c.if-is_last.true) c.in_ok-line.ensures.ok c.in_ok-line.ensures.count c.in_ok-line.ensures.room).text

pub lines-preserved-in-Continue-branch-4 : goal.lines-preserved-in-Continue-branch-4
lines-preserved-in-Continue-branch-4 c =
    let s = c.args.setup.now in
    let found = read-some (value_line s.version) (IsValue s.version) c.in_ok-line.line.now c.in_ok-value.field-0 c.in-Some.value c.in-Some.is c.in_ok-value.ensures in
    at-value s c.args.lines.now.rest c.lines.epochs c.lines.values c.push.new.self c.in-Some.value c.in_ok-line.line.now c.lines.lines c.next_line.new.lines c.lines.invariant c.in_ok-push.ensures.ok
    (omega (arith, c.if-len-slots_after.true, c.slots_after.ensures, c.len-in-lines.ensures)) found.0 found.1 c.in_ok-line.ensures.ok c.in_ok-line.ensures.count c.in_ok-line.ensures.room

pub lines-preserved : goal.lines-preserved
lines-preserved c =
    let s = c.args.setup.now in
    let e = c.len-else-len-slots_after.result in
    let found = read-some cert_line (IsCertOf e) c.in_ok-line.line.now c.in_ok-cert.field-0 c.in-Some-2.cert c.in-Some-2.is c.in_ok-cert.ensures in
    at-cert s c.args.lines.now.rest c.lines.epochs c.push-else-len-slots_after.new.self c.lines.values c.replace-values.new.dest (record { values = c.replace-values.result; cert = c.in-Some-2.cert }) c.in_ok-line.line.now c.lines.lines c.next_line.new.lines c.lines.invariant
    c.replace-values.ensures.value c.in_ok-push-2.ensures.ok (c.replace-values.ensures.after ∙ c.new.ensures)
    (λ room. omega (arith, room, c.if-len-slots_after.false, c.slots_after.ensures, c.len-in-lines.ensures)) found.0
    (subst (λ (k : ℕ). IsCertOf k c.in-Some-2.cert) c.len-else-len-slots_after.ensures found.1) c.in_ok-line.ensures.ok c.in_ok-line.ensures.count c.in_ok-line.ensures.room
