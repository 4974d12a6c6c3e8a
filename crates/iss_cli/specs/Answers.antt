-- What the program answers to an order and its input. There is one line for each order.
use Rattle.std.specs.Prelude.{◌≡◌, ◌⊎◌, ℕ, List, [], ◌∷◌, ◌++◌, codes, decimal}
use Rattle.iss_lab.specs.Generated.{generated}
use Rattle.iss_schedule.specs.BadLines.{IsBadLine}
use Rattle.iss_schedule.specs.Schedules.{IsSchedule}
use Rattle.iss_schedule.specs.declared.errors.LineFault.{LineFault}
use Rattle.iss_schedule.specs.declared.errors.LineFault.TheVariants.{Cut, Form, Faulty, Injected, Range, Size}
use Rattle.iss_schedule.specs.declared.schedules.Schedule.{Schedule}
use Rattle.iss_words.specs.declared.orders.Order.{Order}
use Rattle.iss_words.specs.declared.orders.Order.TheVariants.{Replay, Lab, Replies, Answers, Export, Audit, Cluster, Node}
use Rattle.iss_answers.specs.Refusals.{IsBadText}
use Rattle.iss_audit.specs.Refusals.{IsBadEpoch, IsBadText as IsBadExport}
use Rattle.iss_audit.specs.declared.errors.EpochFault.{EpochFault}
use Rattle.iss_answers.specs.Texts.{IsTold}
use Rattle.iss_answers.specs.declared.told.Told.{Told}
use Rattle.iss_cli.specs.Auditing.{IsCertifiedAnswer, IsOfCore, refused_epoch}
use Rattle.iss_cli.specs.Believing.{AreReplied, IsBelieved}
use Rattle.iss_cli.specs.Running.{IsOfCluster, IsOfConfig, IsOfNodeOrder, Devices}
use Rattle.iss_cli.specs.Views.{IsShown, Under}
use Rattle.iss_cli.specs.declared.answers.Answer.{Answer}
use Rattle.iss_cli.specs.declared.status.Outcome.TheVariants.{RefusedWords, RefusedInput}
use Rattle.iss_cli.specs.declared.views.View.TheVariants.{Full, Replied, Summary}

-- ---- refusals

abbrev pub refused_words : Answer
refused_words = record { printed = codes "refused words" ++ 10 ∷ []; outcome = RefusedWords }

abbrev pub why_word : LineFault → List ℕ
why_word Cut = codes "Cut"
why_word Form = codes "Form"
why_word Faulty = codes "Faulty"
why_word Injected = codes "Injected"
why_word Range = codes "Range"
why_word Size = codes "Size"

abbrev pub refused_line : ℕ → LineFault → Answer
refused_line line why = record {
  printed = codes "refused line " ++ decimal line ++ codes " " ++ why_word why ++ 10 ∷ [];
  outcome = RefusedInput;
}

-- The answer to an input that must be a schedule: what P says of it, or the first bad line.
abbrev pub IsOfSchedule : (Schedule → Answer → Type 0) → List ℕ → Answer → Type 0
IsOfSchedule P input a =
    ((s : Schedule) × (IsSchedule input s × P s a))
    ⊎ ((line : ℕ) × ((why : LineFault) × (IsBadLine input line why × (a ≡ refused_line line why))))

-- The answer to an input that must be a text of replies: what a client makes of them, or the first bad line.
abbrev pub IsOfReplies : List ℕ → Answer → Type 0
IsOfReplies input a =
    ((t : Told) × (IsTold input t × IsBelieved t a))
    ⊎ ((line : ℕ) × ((why : LineFault) × (IsBadText input line why × (a ≡ refused_line line why))))

-- The answer to an input that must be an exported log: the log, if it is certified; otherwise the first bad line, or
-- the first bad epoch.
abbrev pub IsAudited : List ℕ → Answer → Type 0
IsAudited input a =
    IsCertifiedAnswer input a
    ⊎ ((line : ℕ) × ((why : LineFault) × (IsBadExport input line why × (a ≡ refused_line line why))))
    ⊎ ((epoch : ℕ) × ((why : EpochFault) × (IsBadEpoch input epoch why × (a ≡ refused_epoch epoch why))))

-- ---- orders

-- The answer to an order and its input, given what links and disk held before and hold now.
-- rule: Program: Each exit status comes exactly where its cause does
abbrev pub IsAnswer : Order → Devices → Devices → List ℕ → Answer → Type 0
IsAnswer Replay before now input a = IsOfSchedule (IsShown Full) input a
IsAnswer (Lab number events) before now input a = IsShown Summary (generated number events) a
IsAnswer Replies before now input a = IsOfSchedule (λ s answer. IsShown Replied s answer × AreReplied s) input a
IsAnswer Answers before now input a = IsOfReplies input a
IsAnswer (Export core) before now input a = IsOfSchedule (IsOfCore core) input a
IsAnswer Audit before now input a = IsAudited input a
IsAnswer (Cluster port) before now input a =
    IsOfConfig (λ c answer. Under c.module (IsOfCluster c before.ends now.ends answer)) input a
IsAnswer (Node order) before now input a = IsOfConfig (IsOfNodeOrder order before now) input a

-- the order reads the input
abbrev pub Reads : Order → Type 0
Reads Replay = Unit {0}
Reads (Lab number events) = ⊥
Reads Replies = Unit {0}
Reads Answers = Unit {0}
Reads (Export core) = Unit {0}
Reads Audit = Unit {0}
Reads (Cluster port) = Unit {0}
Reads (Node order) = Unit {0}
