use Rattle.iss_audit.proofs.NoExport.{no-export}
use Rattle.iss_audit.proofs.OneExport.{one-export}
use Rattle.iss_audit.proofs.SignedEpochs.{never-both}
use Rattle.iss_audit.proofs.laws.texts_and_exports.Goals as goal

pub returns-clause-one_export : goal.returns-clause-one_export
returns-clause-one_export c = λ bytes x y h k. one-export bytes x y h k

pub returns-clause-no_export : goal.returns-clause-no_export
returns-clause-no_export c = λ bytes line why x bad is. no-export bytes line why x bad is

pub returns-clause-no_log : goal.returns-clause-no_log
returns-clause-no_log c = λ bytes x e why is bad. never-both bytes x e why is bad
