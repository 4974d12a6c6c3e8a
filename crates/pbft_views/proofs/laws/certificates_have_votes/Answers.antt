use Rattle.pbft_views.proofs.Good.{good-votes}
use Rattle.pbft_views.proofs.laws.certificates_have_votes.Goals as goal

pub returns : goal.returns
returns c = good-votes
