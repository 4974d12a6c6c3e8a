use Rattle.iss_audit.proofs.SignedEpochs.{each-signed}
use Rattle.iss_audit.proofs.laws.quorums_signed_each_epoch.Goals as goal

pub returns : goal.returns
returns c = λ bytes x is. each-signed bytes x is
