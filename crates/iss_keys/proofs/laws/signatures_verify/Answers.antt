use Rattle.iss_keys.proofs.VerifyLemmas.{signature_verifies, leaf_of_signature, bytes_of_signature}
use Rattle.iss_keys.proofs.laws.signatures_verify.Goals as goal

pub returns-clause-verifies : goal.returns-clause-verifies
returns-clause-verifies c = λ secret s h q high lt. signature_verifies secret s h q high lt

pub returns-clause-leaf : goal.returns-clause-leaf
returns-clause-leaf c = λ secret s h q high lt. leaf_of_signature secret s h q high lt

pub returns-clause-bytes : goal.returns-clause-bytes
returns-clause-bytes c = λ secret s h q high lt. bytes_of_signature secret s h q high
