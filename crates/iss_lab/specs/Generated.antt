-- The schedule that a number gives: a cluster of four nodes under PBFT, random events, and pumps at the end. A draw
-- moves the generator's state on. An event draws its kind first, and then its arguments from left to right.
use Rattle.std.specs.Prelude.{ℕ, zero, suc, ◌==◌, nat_lt, if◌then◌else◌, List, [], ◌∷◌, ◌++◌}
use Rattle.std.specs.Int.{to_be_bytes, w64}
use Rattle.iss_request.specs.declared.ids.NodeId.{NodeId}
use Rattle.iss_request.specs.declared.setups.Kind.TheVariants.{Byzantine}
use Rattle.iss_request.specs.declared.setups.Policy.TheVariants.{Blacklist}
use Rattle.iss_request.specs.declared.setups.Setup.{Setup}
use Rattle.iss_schedule.specs.Schedules.{cluster_tag}
use Rattle.iss_schedule.specs.declared.schedules.Event.{Event}
use Rattle.iss_schedule.specs.declared.schedules.Event.TheVariants.{Request as Event_request, Propose, Timeout as Event_timeout, Deliver, Lose, Pump, Calm, Restart}
use Rattle.iss_schedule.specs.declared.schedules.Schedule.{Schedule}
use Rattle.iss_lab.specs.Draws.{drawn, next}

-- The set-up, without its tag.
abbrev pub untagged : Setup
untagged = record {
  version = 1;
  «module» = 3;
  f = 1;
  epoch = 8;
  buckets = 16;
  batch = 8;
  window = 64;
  policy = Blacklist;
  clients = 16;
  keys = 10;
  faulty = [];
  n = 4;
  quorum = 3;
  kind = Byzantine;
  tag = [];
}

-- Module 3 is PBFT.
abbrev pub lab_setup : Setup
lab_setup = record untagged { tag = cluster_tag untagged }

-- A request, whose payload is the number of the event, and the generator's state after it.
abbrev pub drawn_request : ℕ → ℕ → Event × ℕ
drawn_request i x =
    let a = next x in let b = next a in let c = next b in
    (Event_request (drawn 4 a) (drawn 16 b) (drawn 64 c) (to_be_bytes w64 i), c)

abbrev pub drawn_timeout : ℕ → Event × ℕ
drawn_timeout x =
    let a = next x in let b = next a in
    let leader : NodeId = record { 0 = drawn 4 b } in
    (Event_timeout (drawn 4 a) leader, b)

-- The event of the kind d, with the generator's state after it.
abbrev pub of_kind : ℕ → ℕ → ℕ → Event × ℕ
of_kind d i x =
    let a = next x in
    if nat_lt d 5 then drawn_request i x
    else if nat_lt d 9 then (Propose (drawn 4 a), a)
    else if d == 9 then drawn_timeout x
    else if d == 10 then (Deliver (drawn 64 a), a)
    else if d == 11 then (Lose (drawn 1024 a), a)
    else if d == 12 then (Restart (drawn 4 a), a)
    else (Pump, x)

-- Event i, drawn after the state x, and the state after it.
-- rule: Lab: An event's kind is one of sixteen numbers, and its arguments are drawn from left to right
abbrev pub drawn_event : ℕ → ℕ → Event × ℕ
drawn_event i x = let a = next x in of_kind (drawn 16 a) i a

-- `count` events, the first of which has the number i
abbrev pub drawn_events : ℕ → ℕ → ℕ → List Event
drawn_events i zero x = []
drawn_events i (suc count) x = let e = drawn_event i x in e.0 ∷ drawn_events (suc i) count e.1

abbrev pub generated : ℕ → ℕ → Schedule
generated number count = record { setup = lab_setup; events = drawn_events 0 count number ++ Calm 50 ∷ [] }
