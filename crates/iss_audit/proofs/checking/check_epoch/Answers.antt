use Rattle.std.proofs.Common.{◌≡◌, ◌∙◌, false, true, sym}
use Rattle.iss_audit.proofs.EpochLemmas.{epoch-end}
use Rattle.iss_audit.proofs.checking.check_epoch.Goals as goal

pub returns-then-not-is_same-clause-bad : goal.returns-then-not-is_same-clause-bad
returns-then-not-is_same-clause-bad c = λ before start number.
    let end = epoch-end c.args.setup.now.version before c.args.start c.in_ok-end.end c.as_slice.result.now c.args.epoch.now.values c.in_ok-end.ensures c.as_slice.ensures start in
    (number, (sym c.if-not-check.ensures, λ e. let no : false ≡ true = c.if-not-is_same.ensures.1 (c.stated_in.ensures ∙ e ∙ sym end) in cc))

pub returns-clause-end : goal.returns-clause-end
returns-clause-end c = λ before start.
    epoch-end c.args.setup.now.version before c.args.start c.in_ok-end.end c.as_slice.result.now c.args.epoch.now.values c.in_ok-end.ensures c.as_slice.ensures start
