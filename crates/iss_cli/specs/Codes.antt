-- The exit status of the program: one number for each way in which a call ends.
use Rattle.std.specs.Prelude.{ℕ}
use Rattle.iss_cli.specs.declared.status.Outcome.{Outcome}
use Rattle.iss_cli.specs.declared.status.Outcome.TheVariants.{Done, RefusedWords, RefusedInput, Forged as Outcome_forged, Collision as Outcome_collision, Unconfirmed, RefusedConfiguration, Uncertified, DamagedJournal}
use Rattle.iss_cli.specs.declared.status.Status.{Status}
use Rattle.iss_cli.specs.declared.status.Status.TheVariants.{Answered, NoMemory, SourceFailed, SinkFailed, LinksFailed, DiskFailed}

abbrev pub outcome_code : Outcome → ℕ
outcome_code Done = 0
outcome_code RefusedWords = 2
outcome_code RefusedInput = 3
outcome_code Outcome_forged = 6
outcome_code Outcome_collision = 7
outcome_code Unconfirmed = 12
outcome_code RefusedConfiguration = 11
outcome_code Uncertified = 12
outcome_code DamagedJournal = 10

abbrev pub code_of : Status → ℕ
code_of (Answered outcome) = outcome_code outcome
code_of NoMemory = 1
code_of SourceFailed = 4
code_of SinkFailed = 5
code_of LinksFailed = 8
code_of DiskFailed = 9
