-- How a call ends. The whole answer is printed, or a prefix of it where the sink failed or memory ran out. The exit
-- status says which of these happened, so a failed sink is never passed over.
use Rattle.std.specs.Prelude.{◌≡◌, ◌⊎◌, ℕ, Option, List, take}
use Rattle.iss_words.specs.Commands.{Asks}
use Rattle.iss_words.specs.declared.orders.Order.{Order}
use Rattle.iss_cli.specs.Answers.{IsAnswer, Reads, refused_words}
use Rattle.iss_cli.specs.Ends.{IfTold, IsDrained, and_more}
use Rattle.iss_cli.specs.Running.{Devices, IsStarted, UsesDisk, UsesLinks}
use Rattle.iss_cli.specs.declared.answers.Answer.{Answer}
use Rattle.iss_cli.specs.declared.errors.AnswerError.{AnswerError}
use Rattle.iss_cli.specs.declared.errors.AnswerError.TheVariants.{SourceFailed as Source_failed, LinksFailed as Links_failed, DiskFailed as Disk_failed, NoMemory as No_memory}
use Rattle.iss_cli.specs.declared.status.Outcome.{Outcome}
use Rattle.iss_cli.specs.declared.status.Status.{Status}
use Rattle.iss_cli.specs.declared.status.Status.TheVariants.{Answered, NoMemory, SourceFailed, SinkFailed, LinksFailed, DiskFailed}

-- the words ask for an order of which P holds
abbrev pub AskFor : (Order → Type 0) → List (List ℕ) → Type 0
AskFor P words = (order : Order) × (Asks words order × P order)

-- the words ask for an order that reads the input, that runs nodes over links, or that keeps a journal
abbrev pub ReadsInput : List (List ℕ) → Type 0
ReadsInput words = AskFor Reads words

abbrev pub RunsNodes : List (List ℕ) → Type 0
RunsNodes words = AskFor UsesLinks words

abbrev pub KeepsJournal : List (List ℕ) → Type 0
KeepsJournal words = AskFor UsesDisk words

-- The order's nodes run, with all that the source had left as their configuration.
pub record IsStartedOn (order : Order) (left left_now : Option (List ℕ)) : Type 0 where
  pub input : List ℕ
  pub whole : IfTold left (λ bytes. input ≡ bytes)
  pub started : IsStarted order input
  pub drained : IsDrained 16777217 left left_now

-- The answer is that of this order to all that the source had left. If the order reads it, it was read to its end, or
-- to one byte past the limit.
pub record IsAnswerTo (order : Order) (left left_now : Option (List ℕ)) (before now : Devices) (answer : Answer)
    : Type 0 where
  pub input : List ℕ
  pub whole : IfTold left (λ bytes. input ≡ bytes)
  pub right : IsAnswer order before now input answer
  pub drained : Reads order → IsDrained 16777217 left left_now

-- The answer to words and all that the source had left.
-- rule: Program: Each exit status comes exactly where its cause does
abbrev pub IsAnswered : List (List ℕ) → Option (List ℕ) → Option (List ℕ) → Devices → Devices → Answer → Type 0
IsAnswered words left left_now before now answer =
    ((order : Order) × (Asks words order × IsAnswerTo order left left_now before now answer))
    ⊎ (((order : Order) → ¬ Asks words order) × (answer ≡ refused_words))

-- The whole answer was printed, and the call ends with its outcome.
abbrev pub Printed : Answer → Option (List ℕ) → Option (List ℕ) → Outcome → Type 0
Printed answer held held_now outcome = (outcome ≡ answer.outcome) × (held_now ≡ and_more held answer.printed)

abbrev pub PrintedPart : Answer → Option (List ℕ) → Option (List ℕ) → Type 0
PrintedPart answer held held_now = (n : ℕ) × (held_now ≡ and_more held (take n answer.printed))

-- How a call ends that had to print this answer. After a failure a prefix was printed.
abbrev pub Prints : Answer → Option (List ℕ) → Option (List ℕ) → Status → Type 0
Prints answer held held_now (Answered outcome) = Printed answer held held_now outcome
Prints answer held held_now SinkFailed = PrintedPart answer held held_now
Prints answer held held_now NoMemory = PrintedPart answer held held_now
Prints answer held held_now status = ⊥

-- Why there is no answer to an order. Links fail only where nodes run, and a disk only where one keeps a journal.
abbrev pub HasNone : Order → Option (List ℕ) → Option (List ℕ) → AnswerError → Type 0
HasNone order left left_now Source_failed = Reads order
HasNone order left left_now Links_failed = UsesLinks order × IsStartedOn order left left_now
HasNone order left left_now Disk_failed = UsesDisk order × IsStartedOn order left left_now
HasNone order left left_now No_memory = Unit {0}

-- Why there is no answer to words. Memory may run out before the words are known.
abbrev pub IsUnanswered : List (List ℕ) → Option (List ℕ) → Option (List ℕ) → AnswerError → Type 0
IsUnanswered words left left_now No_memory = Unit {0}
IsUnanswered words left left_now error = AskFor (λ order. HasNone order left left_now error) words

-- The whole effect of a call. If the source, the links or the disk fail, nothing is printed. If memory runs out,
-- nothing or a prefix of the answer is printed. Otherwise the answer is printed, or a prefix of it if the sink fails.
abbrev pub Ends : List (List ℕ) → Option (List ℕ) → Option (List ℕ) → Devices → Devices → Option (List ℕ) →
    Option (List ℕ) → Status → Type 0
Ends words left left_now before now held held_now (Answered outcome) = (answer : Answer)
    × (IsAnswered words left left_now before now answer × Prints answer held held_now (Answered outcome))
Ends words left left_now before now held held_now SinkFailed = (answer : Answer)
    × (IsAnswered words left left_now before now answer × Prints answer held held_now SinkFailed)
Ends words left left_now before now held held_now NoMemory = (held_now ≡ held)
    ⊎ ((answer : Answer)
    × (IsAnswered words left left_now before now answer × Prints answer held held_now NoMemory))
Ends words left left_now before now held held_now SourceFailed =
    IsUnanswered words left left_now Source_failed × (held_now ≡ held)
Ends words left left_now before now held held_now LinksFailed =
    IsUnanswered words left left_now Links_failed × (held_now ≡ held)
Ends words left left_now before now held held_now DiskFailed =
    IsUnanswered words left left_now Disk_failed × (held_now ≡ held)
