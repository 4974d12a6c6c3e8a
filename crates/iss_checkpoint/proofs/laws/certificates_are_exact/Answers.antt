use Rattle.iss_checkpoint.proofs.CertGrammar.{cert-only, cert-table, cert-whole}
use Rattle.iss_checkpoint.proofs.laws.certificates_are_exact.Goals as goal

pub returns-clause-only : goal.returns-clause-only
returns-clause-only c = λ e bytes rest x h. cert-only e bytes rest x h

pub returns-clause-whole : goal.returns-clause-whole
returns-clause-whole c = λ x. cert-whole x

pub returns-clause-table : goal.returns-clause-table
returns-clause-table c = λ e x bytes. cert-table e x bytes
