use Rattle.iss_reply.proofs.LawLemmas.{chains-apart, secrets-apart, trees-apart}
use Rattle.iss_reply.proofs.laws.reply_keys_are_apart.Goals as goal

pub returns-clause-secrets : goal.returns-clause-secrets
returns-clause-secrets c = λ kind i j other h e. secrets-apart kind i j other h e

pub returns-clause-trees : goal.returns-clause-trees
returns-clause-trees c = λ kind i j h t u other g f e. trees-apart kind i j h t u other g f e

pub returns-clause-chains : goal.returns-clause-chains
returns-clause-chains c = λ kind i j h t u q r k l other g f d e. chains-apart kind i j h t u q r k l other g f d e
