use Rattle.std.proofs.Common.{◌∙◌, ◌++◌, List, ap, length, subst}
use Rattle.iss_audit.specs.Exports.{log_of}
use Rattle.iss_audit.specs.declared.exports.CertifiedEpoch.{CertifiedEpoch}
use Rattle.iss_export.specs.Certified.{HasPrinted, certified_line}
use Rattle.iss_export.proofs.CertifiedLemmas.{text-is}
use Rattle.iss_export.proofs.printing.certified.Goals as goal

pub returns : goal.returns
returns c =
    let xs = c.args.export.now.epochs in
    let lines = c.put_epochs.new.out.items in
    let end = c.in_ok-end.end in
    let read = subst (λ (es : List CertifiedEpoch). HasPrinted (log_of es) c.new-out.result.items lines end) c.as_slice-epochs.ensures c.in_ok-end.ensures in
    let here = subst (λ (o : List _). HasPrinted (log_of xs) o lines end) c.new-out.ensures.items read in
    c.of.ensures
    ∙ text-is xs lines c.put_size.new.out.items end here
    (c.in_ok-put_size.ensures ∙ ap (λ (es : List CertifiedEpoch). lines ++ certified_line (length es) end.slot end.first) c.as_slice-epochs.ensures)
