-- Computed runs of four nodes, the last of them faulty, whose disks fail: what is read, booked and tested of an event
-- that is not journaled.
use Rattle.std.proofs.Common.{◌≡◌, ℕ, List, [], ◌∷◌, ◌++◌, Some, None, refl}
use Rattle.iss_base.specs.Heights.{digests_of_height}
use Rattle.iss_request.specs.Formats.{spell_batch, spell_count, spell_request, spell_value}
use Rattle.iss_request.specs.declared.requests.Batch.{Batch}
use Rattle.iss_schedule.specs.declared.schedules.Event.{Event}
use Rattle.iss_schedule.specs.declared.schedules.Event.TheVariants.{Request as Event_request, Propose, Deliver, Calm, Restart, Crash, Bytes}
use Rattle.iss_sb.specs.Evidence.{Module}
use Rattle.iss_sb.specs.Statements.{wide_bytes}
use Rattle.iss_rules.specs.Concrete.{rules_of}
use Rattle.iss_rules.specs.Rules.{Rules}
use Rattle.iss_rules.specs.Ends.{End, Forged}
use Rattle.iss_rules.specs.declared.events.Why.TheVariants.{Stopped}
use Rattle.iss_model.proofs.Example.{first_told, light, plain_request, short}
use Rattle.iss_composition.proofs.Signing.{Word, claim_of, signing}
use Rattle.iss_theorems.proofs.Examples.ForgedClaims.{four}
use Rattle.iss_model.specs.Courses.{Course, begin_course, with_crashes}
use Rattle.iss_model.specs.Driver.{run}

abbrev easy : Rules
easy = light (rules_of four) 4

abbrev batch : Batch
batch = plain_request 0 0 (170 ∷ []) ∷ []

abbrev course_of : List Event → Course Word
course_of events = run (with_crashes four short easy signing) (begin_course four) events

-- a message in the instance of node 0, from node 0, with a claim
abbrev told : List ℕ
told = 0 ∷ 0 ∷ 0 ∷ 0 ∷ 0 ∷ 0 ∷ 0 ∷ 170 ∷ []

abbrev forged : End
forged = Forged (claim_of ((rules_of four).params [] 0 0) 0 (record { 0 = 0 }, batch))

-- received bytes are read before the step, also in the event in which the disk fails
read_before : (course_of (Crash 1 0 ∷ Bytes 1 told ∷ [])).ended ≡ Some (1, forged)
unfolding wide_bytes spell_value spell_batch spell_count spell_request digests_of_height
read_before = refl

-- after that nothing is read
not_read : (course_of (Crash 1 0 ∷ Event_request 1 0 1 (170 ∷ []) ∷ Bytes 1 told ∷ [])).ended ≡ None
unfolding wide_bytes spell_value spell_batch spell_count spell_request digests_of_height
not_read = refl

lost_both : (course_of (Crash 1 0 ∷ Event_request 1 0 1 (170 ∷ []) ∷ Bytes 1 told ∷ [])).drops ≡ (2, Stopped) ∷ (1, Stopped) ∷ []
unfolding wide_bytes spell_value spell_batch spell_count spell_request digests_of_height
lost_both = refl

-- node 0 proposes, but that is not journaled: it has sent nothing, and a message that claims so is forged
abbrev unkept : List Event
unkept = Event_request 0 0 0 (170 ∷ []) ∷ Crash 0 3 ∷ Propose 0 ∷ []

not_booked : (course_of unkept).state.held.signed ≡ []
unfolding wide_bytes spell_value spell_batch spell_count spell_request digests_of_height
not_booked = refl

never_sent : (course_of (unkept ++ Bytes 1 told ∷ [])).ended ≡ Some (3, forged)
unfolding wide_bytes spell_value spell_batch spell_count spell_request digests_of_height
never_sent = refl

-- once it has proposed after its restart, the same message is not forged
sent_now : (course_of (unkept ++ Restart 0 ∷ Propose 0 ∷ Bytes 1 told ∷ [])).ended ≡ None
unfolding wide_bytes spell_value spell_batch spell_count spell_request digests_of_height
sent_now = refl

-- Early messages are read when they are taken, and only if that step is journaled. Node 1 keeps three of the four
-- messages of epoch 0; its disk fails at the last, which would end the epoch.
abbrev hearing : Module Word
hearing = record signing { decided = λ p me xs s. first_told p.leader.0 s xs }

abbrev heard : List Event → Course Word
heard events = run (with_crashes four short easy hearing) (begin_course four) events

abbrev early : List ℕ
early = 0 ∷ 0 ∷ 1 ∷ 0 ∷ 4 ∷ 0 ∷ 0 ∷ 170 ∷ []

abbrev all_but_one : List Event
all_but_one = Bytes 1 early ∷ Propose 0 ∷ Propose 1 ∷ Propose 2 ∷ Propose 3 ∷ Crash 1 12 ∷ Calm 1 ∷ []

not_tried : (heard all_but_one).ended ≡ None
unfolding wide_bytes spell_value spell_batch spell_count spell_request digests_of_height
not_tried = refl

-- once the step that ends the epoch is journaled, the early message is read, and stops the run
tried : (heard (all_but_one ++ Restart 1 ∷ Deliver 16 ∷ [])).ended ≡ Some (8, Forged (claim_of ((rules_of four).params [] 1 0) 0 (record { 0 = 4 }, batch)))
unfolding wide_bytes spell_value spell_batch spell_count spell_request digests_of_height
tried = refl
