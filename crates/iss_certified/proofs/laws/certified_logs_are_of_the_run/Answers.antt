use Rattle.iss_certified.proofs.RunLemmas.{certified-log}
use Rattle.iss_certified.proofs.laws.certified_logs_are_of_the_run.Goals as goal

pub returns : goal.returns
returns g c = λ s setup events low.
    certified-log s g.M.Sequenced.spec c.laws.ensures.safe c.laws.ensures.lawful events (c.restarts_change_nothing.ensures s setup events low)
