use Rattle.iss_audit.proofs.ReadLemmas.{numbered}
use Rattle.iss_audit.proofs.auditing.check_text.Goals as goal

pub check_epochs-requires : goal.check_epochs-requires
check_epochs-requires c =
    numbered c.in_ok-export.export.setup c.in_ok-export.export.epochs c.as_slice.result.now c.in_ok-export.ensures.ok.epochs c.as_slice.ensures
