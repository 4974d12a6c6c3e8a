-- A run in which disks fail and cores recover. A core journals each event before anything of it is handed out. A core
-- whose disk has failed takes nothing; an event that is dropped makes no device call. If the disk fails at an event,
-- nothing of the step comes out, and the core is as before. A restarted core is the one that its journaled events lead
-- to; it sends nothing, and network and books stay.
use Rattle.std.specs.Prelude.{ℕ, cond, List, [], ◌∷◌, Option, Some, None}
use Rattle.iss_base.specs.Lists.{set_at}
use Rattle.iss_network.specs.Network.{Network}
use Rattle.iss_request.specs.declared.setups.Setup.{Setup}
use Rattle.iss_sb.specs.declared.effects.Claim.{Claim}
use Rattle.iss_sb.specs.Evidence.{Module}
use Rattle.iss_rules.specs.declared.events.NodeEvent.{NodeEvent}
use Rattle.iss_rules.specs.declared.events.Why.TheVariants.{Stopped}
use Rattle.iss_model.specs.Node.{Core, Dropped, Stepped, Taken, initial_core, step}
use Rattle.iss_rules.specs.Parcels.{Formats}
use Rattle.iss_rules.specs.Rules.{Rules}
use Rattle.iss_rules.specs.Ends.{End, Forged}
use Rattle.iss_model.specs.Run.{Held, arrival_of, at_core, begin_held, claims_at, first_forged, node_of, with_network}
use Rattle.iss_rules.specs.Concrete.{rules_of}
use Rattle.iss_rules.specs.Formats.{formats_of}
use Rattle.iss_model.specs.Driver.{Driver, Progress, Upshot, begin_at, done, ended_by, lost_by}
use Rattle.iss_model.specs.Disks.{Disk, fails, fused, keeps, may_keep, new_disk, works_again}

-- the state of a run (cores, network, books), and the disk of each core
pub record Machines (Msg : Type 0) : Type 0 where
  pub held : Held Msg
  pub disks : ℕ → Disk

-- only one disk changes
abbrev pub with_disk : {Msg : Type 0} → Machines Msg → ℕ → Disk → Machines Msg
with_disk w c d = record { held = w.held; disks = set_at w.disks c d }

-- only the network changes
abbrev pub with_packets : {Msg : Type 0} → Machines Msg → Network → Machines Msg
with_packets w network = record { held = with_network w.held network; disks = w.disks }

-- ---- one core

-- the disks after a step: unchanged where the step stopped the run
abbrev pub disks_behind : Option End → (before behind : ℕ → Disk) → ℕ → Disk
disks_behind None before behind = behind
disks_behind (Some end) before behind = before

-- the outcome of an event that was journaled or dropped, with the disks after it
abbrev pub with_disks : {Msg : Type 0} → Machines Msg → (ℕ → Disk) → Upshot (Held Msg) → Upshot (Machines Msg)
with_disks w behind d = record {
  state = record { held = d.state; disks = disks_behind d.ended w.disks behind };
  lost = d.lost;
  ended = d.ended;
}

-- The disk fails before the event is journaled. A forged claim in what was received still stops the run. Otherwise
-- nothing of the step takes effect: the core is unchanged and sends nothing.
-- rule: Recovery: An event that is not kept is lost (`Stopped`), and the core is as it was before
abbrev pub stops : {Msg : Type 0} → Option Claim → Machines Msg → ℕ → Upshot (Machines Msg)
stops None w c = lost_by (with_disk w c (fails (w.disks c))) Stopped
stops (Some claim) w c = ended_by w (Forged claim)

-- A dropped event makes no disk call. An accepted event is journaled before it takes effect, or the disk fails.
abbrev pub by_step : {Msg : Type 0} → Setup → Formats Msg → Rules → Module Msg → Machines Msg → ℕ → NodeEvent →
    Stepped Msg → Upshot (Machines Msg)
by_step s F R M w c event (Dropped why) = with_disks w w.disks (at_core s F R M w.held c event)
by_step s F R M w c event (Taken turn) =
    cond (may_keep (w.disks c).passes)
    (with_disks w (set_at w.disks c (keeps (w.disks c) event)) (at_core s F R M w.held c event))
    (stops (first_forged s R w.held.signed (claims_at F R M (node_of s c) (w.held.net.cores c) event)) w c)

-- Core c takes an event. If its disk has failed, it reads nothing and the event is lost.
-- rule: Recovery: A core whose disk has failed takes and reads nothing until it recovers
abbrev pub at_machine : {Msg : Type 0} → Setup → Formats Msg → Rules → Module Msg → Machines Msg → ℕ →
    NodeEvent → Upshot (Machines Msg)
at_machine s F R M w c event =
    cond (w.disks c).failed
    (lost_by w Stopped)
    (by_step s F R M w c event (step F R M (node_of s c) (w.held.net.cores c) event))

-- the core after a step
abbrev pub after_step : {Msg : Type 0} → Core Msg → Stepped Msg → Core Msg
after_step c (Dropped why) = c
after_step c (Taken turn) = turn.core

-- the core of a node that took exactly these events, newest first
abbrev pub core_of : {Msg : Type 0} → Formats Msg → Rules → Module Msg → ℕ → List NodeEvent → Core Msg
core_of F R M me [] = initial_core
core_of F R M me (event ∷ older) =
    let c = core_of F R M me older in
    after_step c (step F R M me c event)

-- Core c is recovered from its journal. It sends nothing again. Packets that wait for it still wait, and a hold on it
-- stays.
-- rule: Recovery: A recovered core is that of its kept events; it sends nothing and its packets still wait
abbrev pub recover : {Msg : Type 0} → Setup → Formats Msg → Rules → Module Msg → Machines Msg → ℕ → Machines Msg
recover s F R M w c =
    record {
      held = record {
        net = record {
          cores = set_at w.held.net.cores c (core_of F R M (node_of s c) (w.disks c).kept);
          network = w.held.net.network;
        };
        signed = w.held.signed;
        hashed = w.held.hashed;
      };
      disks = set_at w.disks c (works_again (w.disks c));
    }

-- ---- the run

-- a run in which disks fail and cores recover
abbrev pub with_crashes : {Msg : Type 0} → Setup → Formats Msg → Rules → Module Msg → Driver (Machines Msg)
with_crashes s F R M = record {
  takes = at_machine s F R M;
  network = λ w. w.held.net.network;
  rewired = with_packets;
  restart = λ w c. done (recover s F R M w c);
  crash = λ w c calls. with_disk w c (fused (w.disks c) calls);
  arrival = arrival_of s F;
  stopping = M.stopping;
}

-- the same, of a set-up and a module
abbrev pub driver_of : {Msg : Type 0} → Setup → Module Msg → Driver (Machines Msg)
driver_of s M = with_crashes s (formats_of s M) (rules_of s) M

-- the start: no core took an event, and every disk works
abbrev pub begin_machines : {Msg : Type 0} → Setup → Machines Msg
begin_machines s = record { held = begin_held s; disks = λ c. new_disk }

-- a run with disks so far
abbrev pub Course : Type 0 → Type 0
Course Msg = Progress (Machines Msg)

-- a run of no events
abbrev pub begin_course : {Msg : Type 0} → Setup → Course Msg
begin_course s = begin_at (begin_machines s)
