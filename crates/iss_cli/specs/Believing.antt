-- What a client makes of replies, as an answer of the program, and what holds of the replies of a run.
use Rattle.std.specs.Prelude.{◌≡◌, ℕ, Bool, List, Option, Some, None, reverse}
use Rattle.iss_request.specs.declared.ids.ReqId.{ReqId}
use Rattle.iss_request.specs.declared.requests.Value.{Value}
use Rattle.iss_reply.specs.Clients.{AreHonest, cluster_of}
use Rattle.iss_answers.specs.Printed.{AreBelieved, IsPrinted}
use Rattle.iss_believed.specs.Believed.{AreOfOneLog}
use Rattle.iss_schedule.specs.declared.schedules.Schedule.{Schedule}
use Rattle.iss_cli.specs.Views.{Under}
use Rattle.iss_answers.specs.declared.printing.Printed.{Printed}
use Rattle.iss_answers.specs.declared.told.Told.{Told}
use Rattle.iss_cli.specs.declared.answers.Answer.{Answer}
use Rattle.iss_cli.specs.declared.status.Outcome.{Outcome}
use Rattle.iss_cli.specs.declared.status.Outcome.TheVariants.{Done, Unconfirmed}

-- rule: Program: A reply without an accepted answer exits with 12
abbrev pub outcome_of_short : Option ReqId → Outcome
outcome_of_short None = Done
outcome_of_short (Some id) = Unconfirmed

-- What a new client makes of the replies is printed. Each accepted answer is that of a log, under two conditions. At
-- most f nodes are faulty, and each reply that verifies for a correct node is that node's reply to a request of it.
pub record IsBelieved (t : Told) (a : Answer) : Type 0 where
  pub made : Printed
  pub printed : IsPrinted t.setup t.replies made
  pub text : a.printed ≡ made.text
  pub outcome : a.outcome ≡ outcome_of_short made.short
  pub believed : (correct : ℕ → Bool) (log : List Value) → AreHonest t.setup correct log (reverse t.replies) →
      AreBelieved log (cluster_of t.setup) (reverse t.replies)

-- The replies of a schedule's run are of one log: what a client accepts of them is that log's answer, whatever else it
-- is told.
abbrev pub AreReplied : Schedule → Type 0
AreReplied s = Under s.setup.module (λ Msg M. AreOfOneLog s.setup M s.events)
