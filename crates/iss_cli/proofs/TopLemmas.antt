-- The answer to an order and its input, of which a bounded front was read.
use Rattle.std.proofs.Common.{◌≡◌, ◌∙◌, ◌⊎◌, inl, inr, ℕ, ◌<◌, ◌≤◌, Bool, true, false, Option, None, Some, Result, Err, IsErrOf, List, [], length, take, refl, sym, ap, subst, arith}
use Rattle.std.specs.Bool.{IsTrue}
use Rattle.std.proofs.lemmas.Bool.Decides.{leb_tells}
use Rattle.std.proofs.lemmas.List.{take_all, length-take}
use Rattle.iss_schedule.specs.Schedules.{most_bytes}
use Rattle.iss_schedule.specs.declared.schedules.Schedule.{Schedule}
use Rattle.iss_words.specs.Commands.{Asks}
use Rattle.iss_words.specs.declared.orders.Order.{Order}
use Rattle.iss_words.specs.declared.orders.Order.TheVariants.{Replay, Lab, Replies, Answers, Export, Audit, Cluster, Node}
use Rattle.iss_cli.specs.declared.answers.Answer.{Answer}
use Rattle.iss_schedule.specs.BadLines.{IsBadLine}
use Rattle.iss_schedule.specs.declared.errors.LineFault.{LineFault}
use Rattle.iss_cli.specs.Answers.{IsAnswer, IsAudited, IsOfReplies, IsOfSchedule, Reads, refused_words}
use Rattle.iss_cli.specs.Calls.{Ends, HasNone, IsAnswerTo, IsAnswered, IsStartedOn, Prints}
use Rattle.iss_cli.specs.Ends.{Drains, HasCause, IfTold, IsDrained}
use Rattle.iss_cli.specs.Errors.{of_node, status_without}
use Rattle.iss_cli.specs.Running.{Devices, IsConfigOf, IsOfCluster, IsOfConfig, IsOfNodeOrder, IsStarted, UsesDisk, UsesLinks}
use Rattle.iss_cli.specs.Views.{IsShown, Under}
use Rattle.iss_cli.specs.declared.errors.AnswerError.{AnswerError}
use Rattle.iss_cli.specs.declared.errors.AnswerError.TheVariants.{SourceFailed as Source_failed, LinksFailed as Links_failed, DiskFailed as Disk_failed, NoMemory as No_memory}
use Rattle.iss_config.specs.declared.configs.Config.{Config}
use Rattle.iss_loops.specs.declared.errors.NodeError.{NodeError}
use Rattle.iss_loops.specs.declared.errors.NodeError.TheVariants.{LinksFault, DiskFault, NoMemory as Node_no_memory}
use Rattle.iss_cli.specs.declared.status.Status.{Status}
use Rattle.iss_cli.specs.declared.status.Status.TheVariants.{Answered, NoMemory, SourceFailed, SinkFailed, LinksFailed, DiskFailed}
use Rattle.iss_cli.specs.declared.views.View.TheVariants.{Full, Replied}
use Rattle.iss_cli.specs.Auditing.{IsOfCore}
use Rattle.iss_cli.specs.Believing.{AreReplied}
use Rattle.iss_words.specs.declared.orders.WordsError.{WordsError}
use Rattle.iss_words.specs.declared.orders.WordsError.TheVariants.{Refused}

-- ---- an order that reads nothing

some_input : (left : Option (List ℕ)) → (input : List ℕ) × IfTold left (λ bytes. input ≡ bytes)
some_input None = ([], tt)
some_input (Some bytes) = (bytes, refl)

same_answer : (order : Order) (before now : Devices) (input other : List ℕ) (a : Answer) → (Reads order → ⊥) → IsAnswer order before now input a → IsAnswer order before now other a
same_answer Replay before now input other a unread is = absurd (unread tt)
same_answer (Lab number events) before now input other a unread is = is
same_answer Replies before now input other a unread is = absurd (unread tt)
same_answer Answers before now input other a unread is = absurd (unread tt)
same_answer (Export core) before now input other a unread is = absurd (unread tt)
same_answer Audit before now input other a unread is = absurd (unread tt)
same_answer (Cluster port) before now input other a unread is = absurd (unread tt)
same_answer (Node node) before now input other a unread is = absurd (unread tt)

pub answer_unread : (order : Order) (left : Option (List ℕ)) (before now : Devices) (input : List ℕ) (a : Answer) → (Reads order → ⊥) → IsAnswer order before now input a → IsAnswerTo order left left before now a
answer_unread order left before now input a unread is =
    let any = some_input left in
    record {
      input = any.0;
      whole = any.1;
      right = same_answer order before now input any.0 a unread is;
      drained = λ reads. absurd (unread reads);
    }

pub drains_nothing : (left : Option (List ℕ)) → Drains 16777217 left left
drains_nothing None = refl
drains_nothing (Some bytes) = (0, omega arith, refl)

-- ---- an order that reads the input

at_most_or_more : (a b : ℕ) → (a ≤ b) ⊎ (b < a)
at_most_or_more a b = elim (leb_tells a b) [ inl h ↦ inl h.1 | inr h ↦ inr h.1 ]

long_front : (limit most : ℕ) (all : List ℕ) → limit < most → limit < length all → limit < length (take most all)
long_front limit most all h l = omega (arith, length-take most all)

-- An input that is too long is refused for its size, and so is its prefix that was read.
schedule_of_front : (P : Schedule → Answer → Type 0) (most : ℕ) (all : List ℕ) (a : Answer) → most_bytes < most →
    IsOfSchedule P (take most all) a → IsOfSchedule P all a
schedule_of_front P most all a h answer = go (at_most_or_more (length all) most_bytes) answer
  where
    go : (length all ≤ most_bytes) ⊎ (most_bytes < length all) → IsOfSchedule P (take most all) a → IsOfSchedule P all a
    go (inl short) answer =
        let whole : take most all ≡ all = take_all most all (omega (arith, short, h)) in
        let Q : List ℕ → Type 0 = λ bytes. IsOfSchedule P bytes a in
        subst Q whole answer
    go (inr long) (inl (s, is)) = absurd (omega (arith, is.0.short, long_front most_bytes most all h long))
    go (inr long) (inr (line, (why, (inl bad, e)))) = inr (line, (why, (inl (long, bad.1, bad.2), e)))
    go (inr long) (inr (line, (why, (inr bad, e)))) = absurd (omega (arith, bad.0, long_front most_bytes most all h long))

-- The header of a long input is that of its prefix.
header_of_front : (most : ℕ) (all : List ℕ) (line : ℕ) (why : LineFault) → most_bytes < most → most_bytes < length all → (line ≤ 11) × IsBadLine (take most all) line why →
    (line ≤ 11) × IsBadLine all line why
header_of_front most all line why h long (low, inl bad) = (low, inl (long, bad.1, bad.2))
header_of_front most all line why h long (low, inr bad) = absurd (omega (arith, bad.0, long_front most_bytes most all h long))

-- So is a text of replies.
replies_of_front : (most : ℕ) (all : List ℕ) (a : Answer) → most_bytes < most → IsOfReplies (take most all) a →
    IsOfReplies all a
replies_of_front most all a h answer = go (at_most_or_more (length all) most_bytes) answer
  where
    go : (length all ≤ most_bytes) ⊎ (most_bytes < length all) → IsOfReplies (take most all) a → IsOfReplies all a
    go (inl short) answer =
        let whole : take most all ≡ all = take_all most all (omega (arith, short, h)) in
        subst (λ (bytes : List ℕ). IsOfReplies bytes a) whole answer
    go (inr long) (inl (t, is)) = absurd (omega (arith, is.0.short, long_front most_bytes most all h long))
    go (inr long) (inr (line, (why, (inl bad, e)))) = inr (line, (why, (inl (header_of_front most all line why h long bad), e)))
    go (inr long) (inr (line, (why, (inr bad, e)))) = absurd (omega (arith, bad.short, long_front most_bytes most all h long))

-- So is an exported log.
audited_of_front : (most : ℕ) (all : List ℕ) (a : Answer) → most_bytes < most → IsAudited (take most all) a →
    IsAudited all a
audited_of_front most all a h answer = go (at_most_or_more (length all) most_bytes) answer
  where
    go : (length all ≤ most_bytes) ⊎ (most_bytes < length all) → IsAudited (take most all) a → IsAudited all a
    go (inl short) answer =
        let whole : take most all ≡ all = take_all most all (omega (arith, short, h)) in
        subst (λ (bytes : List ℕ). IsAudited bytes a) whole answer
    go (inr long) (inl is) = absurd (omega (arith, is.certified.export.short, long_front most_bytes most all h long))
    go (inr long) (inr (inl (line, (why, (inl bad, e))))) = inr (inl (line, (why, (inl (header_of_front most all line why h long bad), e))))
    go (inr long) (inr (inl (line, (why, (inr bad, e))))) = absurd (omega (arith, bad.short, long_front most_bytes most all h long))
    go (inr long) (inr (inr (epoch, (why, (bad, e))))) = absurd (omega (arith, bad.export.short, long_front most_bytes most all h long))

-- A configuration that is too long is refused, and so is its prefix.
config_of_front : (most : ℕ) (all : List ℕ) (c : Config) → most_bytes < most → IsConfigOf (take most all) c → IsConfigOf all c
config_of_front most all c h is = go (at_most_or_more (length all) most_bytes)
  where
    go : (length all ≤ most_bytes) ⊎ (most_bytes < length all) → IsConfigOf all c
    go (inl short) =
        let whole : take most all ≡ all = take_all most all (omega (arith, short, h)) in
        subst (λ (bytes : List ℕ). IsConfigOf bytes c) whole is
    go (inr long) = absurd (omega (arith, is.short, long_front most_bytes most all h long))

no_config_of_front : (most : ℕ) (all : List ℕ) (c : Config) → most_bytes < most → (IsConfigOf (take most all) c → ⊥) → IsConfigOf all c → ⊥
no_config_of_front most all c h none is =
    let short = is.short in
    let whole : take most all ≡ all = take_all most all (omega (arith, short, h)) in
    none (subst (λ (bytes : List ℕ). IsConfigOf bytes c) (sym whole) is)

of_config_of_front : (P : Config → Answer → Type 0) (most : ℕ) (all : List ℕ) (a : Answer) → most_bytes < most → IsOfConfig P (take most all) a → IsOfConfig P all a
of_config_of_front P most all a h (inl (c, (is, p))) = inl (c, (config_of_front most all c h is, p))
of_config_of_front P most all a h (inr (none, e)) = inr (λ c. no_config_of_front most all c h (none c), e)

-- The answer to the bytes that are read is that to all bytes.
answer_of_front : (order : Order) (before now : Devices) (most : ℕ) (all : List ℕ) (a : Answer) → most_bytes < most → IsAnswer order before now (take most all) a → IsAnswer order before now all a
answer_of_front Replay before now most all a h is = schedule_of_front (IsShown Full) most all a h is
answer_of_front (Lab number events) before now most all a h is = is
answer_of_front Replies before now most all a h is = schedule_of_front (λ s answer. IsShown Replied s answer × AreReplied s) most all a h is
answer_of_front Answers before now most all a h is = replies_of_front most all a h is
answer_of_front (Export core) before now most all a h is = schedule_of_front (IsOfCore core) most all a h is
answer_of_front Audit before now most all a h is = audited_of_front most all a h is
answer_of_front (Cluster port) before now most all a h is = of_config_of_front (λ c answer. Under c.module (IsOfCluster c before.ends now.ends answer)) most all a h is
answer_of_front (Node order) before now most all a h is = of_config_of_front (IsOfNodeOrder order before now) most all a h is

pub answer_read : (order : Order) (left left_now : Option (List ℕ)) (before now : Devices) (bytes : List ℕ) (a : Answer) → IfTold left (λ all. bytes ≡ take 16777217 all) →
    IsDrained 16777217 left left_now → IsAnswer order before now bytes a → IsAnswerTo order left left_now before now a
answer_read order None left_now before now bytes a is drained answer = record { input = bytes; whole = tt; right = answer; drained = λ reads. drained }
answer_read order (Some all) left_now before now bytes a is drained answer =
    let P : List ℕ → Type 0 = λ b. IsAnswer order before now b a in
    record { input = all; whole = refl; right = answer_of_front order before now 16777217 all a (omega arith) (subst P is answer); drained = λ reads. drained }

-- ---- nodes that fail

pub started_read : (order : Order) (left left_now : Option (List ℕ)) (bytes : List ℕ) → IfTold left (λ all. bytes ≡ take 16777217 all) →
    IsDrained 16777217 left left_now → IsStarted order bytes → IsStartedOn order left left_now
started_read order None left_now bytes is drained started = record { input = bytes; whole = tt; started = started; drained = drained }
started_read order (Some all) left_now bytes is drained started =
    let read = subst (λ (b : List ℕ). IsConfigOf b started.0) is started.1.0 in
    record { input = all; whole = refl; started = (started.0, (config_of_front 16777217 all started.0 (omega arith) read, started.1.1)); drained = drained }

-- what the failure of running nodes is to an answer
pub failed_read : (order : Order) (left left_now : Option (List ℕ)) (bytes : List ℕ) (e : NodeError) → IfTold left (λ all. bytes ≡ take 16777217 all) → IsDrained 16777217 left left_now →
    (e ≡ LinksFault → UsesLinks order × IsStarted order bytes) → (e ≡ DiskFault → UsesDisk order × IsStarted order bytes) → HasNone order left left_now (of_node e)
failed_read order left left_now bytes LinksFault is drained links disk = let h = links refl in (h.0, started_read order left left_now bytes is drained h.1)
failed_read order left left_now bytes DiskFault is drained links disk = let h = disk refl in (h.0, started_read order left left_now bytes is drained h.1)
failed_read order left left_now bytes Node_no_memory is drained links disk = tt

-- ---- words

pub not_true : (b : Bool) → b ≡ false → IsTrue b → ⊥
not_true b e t = let wrong : false ≡ true = sym e ∙ t in absurd (cc)

pub answer_refused : (words : List (List ℕ)) (left left_now : Option (List ℕ)) (before now : Devices) (a : Answer) (r : Result Order WordsError) (e : WordsError) → r ≡ Err e → e ≡ Refused →
    (r ≡ Err Refused → (order : Order) → Asks words order → ⊥) → a ≡ refused_words → IsAnswered words left left_now before now a
answer_refused words left left_now before now a r e is refused none same = inr (none (is ∙ ap (λ (x : WordsError). Err x) refused), same)

-- ---- the end of a call

pub ends : (words : List (List ℕ)) (left left_now : Option (List ℕ)) (before now : Devices) (held held_now : Option (List ℕ)) (a : Answer) (status : Status) → IsAnswered words left left_now before now a →
    Prints a held held_now status → Ends words left left_now before now held held_now status
ends words left left_now before now held held_now a (Answered outcome) is prints = (a, (is, prints))
ends words left left_now before now held held_now a SinkFailed is prints = (a, (is, prints))
ends words left left_now before now held held_now a NoMemory is prints = inr (a, (is, prints))
ends words left left_now before now held held_now a SourceFailed is prints = absurd prints
ends words left left_now before now held held_now a LinksFailed is prints = absurd prints
ends words left left_now before now held held_now a DiskFailed is prints = absurd prints

-- ---- whose fault it is

pub source_said : (old new : ℕ) (e : AnswerError) → HasCause old new (IsErrOf {T = Answer} (Err e) Source_failed) → HasCause old new (status_without e ≡ SourceFailed)
source_said old new Source_failed h = record { never_falls = h.never_falls; rose = λ q. h.rose refl; still = λ none. absurd (none refl) }
source_said old new Links_failed h = record { never_falls = h.never_falls; rose = λ q. absurd (cc); still = λ none. h.still (λ q. absurd (cc)) }
source_said old new Disk_failed h = record { never_falls = h.never_falls; rose = λ q. absurd (cc); still = λ none. h.still (λ q. absurd (cc)) }
source_said old new No_memory h = record { never_falls = h.never_falls; rose = λ q. absurd (cc); still = λ none. h.still (λ q. absurd (cc)) }

pub links_said : (old new : ℕ) (e : AnswerError) → HasCause old new (IsErrOf {T = Answer} (Err e) Links_failed) → HasCause old new (status_without e ≡ LinksFailed)
links_said old new Links_failed h = record { never_falls = h.never_falls; rose = λ q. h.rose refl; still = λ none. absurd (none refl) }
links_said old new Source_failed h = record { never_falls = h.never_falls; rose = λ q. absurd (cc); still = λ none. h.still (λ q. absurd (cc)) }
links_said old new Disk_failed h = record { never_falls = h.never_falls; rose = λ q. absurd (cc); still = λ none. h.still (λ q. absurd (cc)) }
links_said old new No_memory h = record { never_falls = h.never_falls; rose = λ q. absurd (cc); still = λ none. h.still (λ q. absurd (cc)) }
