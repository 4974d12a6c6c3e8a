use Rattle.iss_checkpoint.proofs.SignedLemmas.{cert-means, correct-signer}
use Rattle.iss_checkpoint.proofs.laws.certificates_have_a_correct_signer.Goals as goal

pub returns-clause-quorum : goal.returns-clause-quorum
returns-clause-quorum c = λ w x. cert-means w x

pub returns-clause-correct : goal.returns-clause-correct
returns-clause-correct c = λ s d x good h. correct-signer s d x good h
