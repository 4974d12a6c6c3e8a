-- Each accepted answer is the log's.
use Rattle.std.proofs.Common.{ℕ, inr, Bool, List, [], ◌∷◌}
use Rattle.iss_request.specs.declared.requests.Value.{Value}
use Rattle.iss_request.specs.declared.setups.Setup.{Setup}
use Rattle.iss_reply.specs.Clients.{AreHonest, cluster_of}
use Rattle.iss_reply.specs.declared.replies.Reply.{Reply}
use Rattle.iss_reply.proofs.ClientLemmas.{believed}
use Rattle.iss_answers.specs.Printed.{AreBelieved}

pub all-believed : (s : Setup) (correct : ℕ → Bool) (log : List Value) (replies : List Reply) →
    AreHonest s correct log replies → AreBelieved log (cluster_of s) replies
all-believed s correct log [] h = tt
all-believed s correct log (r ∷ earlier) h = (
  believed s correct log earlier r h,
  all-believed s correct log earlier (record { few = h.few; own = λ x there. h.own x (inr there) }),
)
