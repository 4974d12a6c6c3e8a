-- Computed runs with crashes and restarts: the three nodes of the failure-free examples, whose leaders send all what
-- they propose.
use Rattle.std.proofs.Common.{◌≡◌, ℕ, List, [], ◌∷◌, length, reverse, refl}
use Rattle.iss_network.specs.Network.{due}
use Rattle.iss_request.specs.declared.requests.Request.{Request}
use Rattle.iss_request.specs.declared.requests.Value.{Value}
use Rattle.iss_request.specs.declared.requests.Value.TheVariants.{Batch as Value_batch}
use Rattle.iss_schedule.specs.declared.schedules.Event.{Event}
use Rattle.iss_schedule.specs.declared.schedules.Event.TheVariants.{Request as Event_request, Propose, Timeout as Event_timeout, Deliver, Pump, Calm, Hold, Restart, Crash}
use Rattle.iss_rules.specs.declared.events.Why.TheVariants.{NoPacket, NothingToCast, Stopped}
use Rattle.iss_rules.specs.Past.{log_of}
use Rattle.iss_model.proofs.Example.{Word, easy, plain, plain_request, short, telling}
use Rattle.iss_model.specs.Courses.{Course, begin_course, with_crashes}
use Rattle.iss_model.specs.Driver.{run}

abbrev course_of : List Event → Course Word
course_of events = run (with_crashes plain short easy telling) (begin_course plain) events

after : List Event → ℕ → List Value
after events i = reverse (log_of easy telling i ((course_of events).state.held.net.cores i).past)

abbrev q : Request
q = plain_request 0 0 (170 ∷ [])

-- the disk fails during the first proposal, which is lost; after the restart the node proposes at the same slot
abbrev stops_once : List Event
stops_once = Crash 0 2 ∷ Propose 0 ∷ Restart 0 ∷ Deliver 0 ∷ Propose 0 ∷ Calm 10 ∷ []

lost_two : (course_of stops_once).drops ≡ (3, NoPacket) ∷ (1, Stopped) ∷ []
lost_two = refl

one_slot : after stops_once 0 ≡ Value_batch [] ∷ []
unfolding after
one_slot = refl

-- a disk that fails after n calls, a request and its proposal, and all waiting packets delivered after the restart
abbrev failing_after : ℕ → List Event
failing_after calls = Crash 0 calls ∷ Event_request 0 0 0 (170 ∷ []) ∷ Propose 0 ∷ Restart 0 ∷ Calm 10 ∷ []

-- the first or the last call of the request's entry fails: neither event is journaled
first_call : (course_of (failing_after 0)).drops ≡ (2, Stopped) ∷ (1, Stopped) ∷ []
first_call = refl

fourth_call : (course_of (failing_after 3)).drops ≡ (2, Stopped) ∷ (1, Stopped) ∷ []
fourth_call = refl

nothing_kept : after (failing_after 3) 1 ≡ []
unfolding after
nothing_kept = refl

-- the request is journaled and its proposal is not: the request waits
fifth_call : (course_of (failing_after 4)).drops ≡ (2, Stopped) ∷ []
fifth_call = refl

eighth_call : (course_of (failing_after 7)).drops ≡ (2, Stopped) ∷ []
eighth_call = refl

waits : ((course_of (failing_after 7)).state.held.net.cores 0).waiting ≡ q ∷ []
waits = refl

-- both are journaled
ninth_call : (course_of (failing_after 8)).drops ≡ []
ninth_call = refl

ordered : after (failing_after 8) 2 ≡ Value_batch (q ∷ []) ∷ []
unfolding after
ordered = refl

-- a restart recovers all that was taken, and sends no packet again
abbrev twice_told : List Event
twice_told = Event_request 0 0 0 (170 ∷ []) ∷ Propose 0 ∷ Deliver 2 ∷ Restart 2 ∷ Deliver 2 ∷ Restart 0 ∷ []

same_log : after twice_told 2 ≡ Value_batch (q ∷ []) ∷ []
unfolding after
same_log = refl

no_more : length (course_of twice_told).state.held.net.network.packets ≡ 3
no_more = refl

events_kept : length ((course_of twice_told).state.disks 2).kept ≡ 2
events_kept = refl

still_flies : length ((course_of twice_told).state.held.net.cores 0).flight ≡ 1
still_flies = refl

-- packets for a node still wait after its restart, and a hold on it stays
waits_on : due (course_of (Propose 0 ∷ Restart 1 ∷ [])).state.held.net.network ≡ 0 ∷ 1 ∷ 2 ∷ []
waits_on = refl

passed_over : due (course_of (Hold 1 ∷ Propose 0 ∷ Restart 1 ∷ [])).state.held.net.network ≡ 0 ∷ 2 ∷ []
passed_over = refl

-- a packet that is delivered to a node whose disk has failed stops waiting
gone : due (course_of (Propose 0 ∷ Crash 1 0 ∷ Pump ∷ Restart 1 ∷ [])).state.held.net.network ≡ []
gone = refl

missed : after (Propose 0 ∷ Crash 1 0 ∷ Pump ∷ Restart 1 ∷ []) 1 ≡ []
unfolding after
missed = refl

-- A reason of the node itself comes before a failed disk, and makes no call. A packet that does not exist comes before
-- both.
own_cause : (course_of (Propose 0 ∷ Crash 0 0 ∷ Propose 0 ∷ Event_timeout 0 (record { 0 = 1 }) ∷ Propose 0 ∷ Deliver 9 ∷ [])).drops ≡
    (5, NoPacket) ∷ (4, Stopped) ∷ (3, Stopped) ∷ (2, NothingToCast) ∷ []
own_cause = refl

-- a further crash event counts its calls from the start if the disk has not failed, and has no effect if it has
counts_anew : (course_of (Crash 0 0 ∷ Crash 0 4 ∷ Propose 0 ∷ [])).drops ≡ []
counts_anew = refl

too_late : (course_of (Crash 0 0 ∷ Event_request 0 0 0 (170 ∷ []) ∷ Crash 0 8 ∷ Propose 0 ∷ [])).drops ≡ (3, Stopped) ∷ (1, Stopped) ∷ []
too_late = refl

-- a restart cancels a planned crash
ends_crash : (course_of (Crash 0 4 ∷ Propose 0 ∷ Restart 0 ∷ Event_request 0 0 0 (170 ∷ []) ∷ [])).drops ≡ []
ends_crash = refl
