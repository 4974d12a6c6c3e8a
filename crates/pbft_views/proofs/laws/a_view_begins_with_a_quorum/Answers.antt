use Rattle.pbft_views.proofs.Good.{enough-changes}
use Rattle.pbft_views.proofs.laws.a_view_begins_with_a_quorum.Goals as goal

pub returns : goal.returns
returns c = enough-changes
