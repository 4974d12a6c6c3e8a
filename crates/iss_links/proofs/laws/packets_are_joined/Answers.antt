use Rattle.iss_links.proofs.JoinedLemmas.{all-complete, are-joined}
use Rattle.iss_links.proofs.RunLemmas.{takes-joined}
use Rattle.iss_links.proofs.SentLemmas.{as-sent}
use Rattle.iss_links.proofs.laws.packets_are_joined.Goals as goal

pub returns : goal.returns
returns c = record { takes = takes-joined; joined = are-joined; complete = all-complete; sent = as-sent }
