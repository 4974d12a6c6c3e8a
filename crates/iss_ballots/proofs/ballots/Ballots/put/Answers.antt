use Rattle.iss_ballots.proofs.BallotLemmas.{on-ok, puts-kept}
use Rattle.iss_ballots.proofs.ballots.Ballots.put.Goals as goal

pub returns-clause-kept : goal.returns-clause-kept
returns-clause-kept c =
    on-ok c.certify.result _ _ c.certify.ensures.certified
    (λ put. puts-kept c.args.self.now c.take_tally-tally.new.self c.certify.new.self c.args.cert c.take_tally-tally.ensures.rest put)
