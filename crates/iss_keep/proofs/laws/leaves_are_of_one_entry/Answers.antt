use Rattle.iss_keep.proofs.LeafLemmas.{makings-apart, makings-go-on}
use Rattle.iss_keep.proofs.laws.leaves_are_of_one_entry.Goals as goal

pub returns : goal.returns
returns g c =
    let m = g.M.Sequenced.spec in
    record { again = λ s me events more. makings-go-on s m me events more; apart = λ s me events. makings-apart s m me events }
