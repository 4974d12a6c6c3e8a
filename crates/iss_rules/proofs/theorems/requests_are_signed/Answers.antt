use Rattle.iss_rules.proofs.Layouts.{request-signed}
use Rattle.iss_rules.proofs.theorems.requests_are_signed.Goals as goal

pub returns : goal.returns
returns c = λ s client number payload good below leaf few. request-signed s client number payload good.keys_height below leaf few
