use Rattle.iss_composition.proofs.Instances.{claim-head, claim-vote, claims-same, votes-same}
use Rattle.iss_composition.proofs.one_instance.claims_are_of_one_instance.Goals as goal

pub returns : goal.returns
returns g c =
    let M = g.M.Sequenced.spec in
    record {
      one = claims-same M c.laws.ensures.lawful;
      head = claim-head M c.laws.ensures.lawful;
      vote = claim-vote M c.laws.ensures.lawful;
      votes = votes-same;
    }
