use Rattle.iss_certified.proofs.RunLemmas.{certified-export}
use Rattle.iss_certified.proofs.laws.exports_are_certified.Goals as goal

pub returns : goal.returns
returns g c = λ s setup known events low i silent ok epochs exported ranged.
    certified-export s g.M.Sequenced.spec c.laws.ensures.safe c.laws.ensures.lawful events known (c.restarts_change_nothing.ensures s setup events low) i silent ok epochs exported ranged
