-- What one node does, as functions of the events that it has accepted, by the model of a node. And what its journal and
-- its links hold behind its loop, and what it prints.
use Rattle.std.specs.Prelude.{◌≡◌, ◌⊎◌, ℕ, ◌<◌, ◌^◌, Bool, true, false, List, [], ◌∷◌, Result, Ok, Err, get_or, map, reverse, Option, Some, ◌++◌}
use Rattle.iss_node.specs.declared.answers.Answer.TheVariants.{Dropped as Node_dropped, NoMemory as Node_no_memory, Stale as Node_stale, Taken as Node_taken}
use Rattle.iss_node.specs.declared.answers.Answer.{Answer as NodeAnswer}
use Rattle.iss_disk.specs.declared.errors.Failed.{Failed}
use Rattle.iss_config.specs.Configs.{setup_of}
use Rattle.iss_config.specs.declared.configs.Config.{Config}
use Rattle.iss_disk.specs.Calls.{Device, IfTold}
use Rattle.iss_disk.specs.File.{File}
use Rattle.iss_journal.specs.Frames.{version_1}
use Rattle.iss_journal.specs.Promises.{LosesNothing, OnlyLeaves, Shows, ShowsWithOrWithout}
use Rattle.iss_keep.specs.Cores.{core_of, shown_of, step_of, stored_after, stored_of}
use Rattle.iss_keep.specs.Entries.{spell_event}
use Rattle.iss_keep.specs.Recovery.{AreNamed}
use Rattle.iss_keep.specs.State.{KeptState, RefinesStored, stored_as}
use Rattle.iss_keep.specs.Steps.{IsDamaged, IsLeft}
use Rattle.iss_links.specs.Ends.{End}
use Rattle.iss_loops.specs.NodeBehavior.{NodeBehavior}
use Rattle.iss_loops.specs.NodeLoop.{HasRun, HasSent, begins, node_loop_of}
use Rattle.iss_loops.specs.declared.node.NodeStep.{NodeStep}
use Rattle.iss_loops.specs.declared.node.NodeStep.TheVariants.{Dropped as Step_dropped, Taken as Step_taken}
use Rattle.iss_loops.specs.declared.node.StepError.{StepError}
use Rattle.iss_loops.specs.declared.node.StepError.TheVariants.{DiskFault, NoMemory}
use Rattle.iss_model.specs.Frames.{frame_of}
use Rattle.iss_model.specs.Node.{Core, Stepped, Dropped, Taken}
use Rattle.iss_model.specs.Views.{is_castable_now, unfilled}
use Rattle.iss_rebuilt.specs.Reading.{Rebuilt}
use Rattle.iss_rebuilt.specs.Stored.{Stored, stored_on}
use Rattle.iss_replay.specs.Text.{node_block}
use Rattle.iss_request.specs.declared.ids.NodeId.{NodeId}
use Rattle.iss_request.specs.declared.setups.Setup.{Setup}
use Rattle.iss_rules.specs.Concrete.{rules_of}
use Rattle.iss_rules.specs.Past.{log_of}
use Rattle.iss_rules.specs.Setups.{IsSetupOf}
use Rattle.iss_rules.specs.declared.events.NodeEvent.{NodeEvent}
use Rattle.iss_sb.specs.Calls.{Relation}
use Rattle.iss_sb.specs.Evidence.{Module}
use Rattle.iss_sb.specs.declared.effects.To.{To}

-- ---- what a node does

-- What a node has stored that had stored this, and has accepted these events since, oldest first.
abbrev pub stored_since : {Msg : Type 0} → Setup → Module Msg → ℕ → Stored Msg → List NodeEvent → Stored Msg
stored_since s M me base events = stored_on (frame_of s M) spell_event me base (reverse events)

-- whether a step accepts its event, and what it sends
abbrev pub is_taken : {Msg : Type 0} → Stepped Msg → Bool
is_taken (Dropped why) = false
is_taken (Taken turn) = true

abbrev pub sends_of : {Msg : Type 0} → Stepped Msg → List (To × List ℕ)
sends_of (Dropped why) = []
sends_of (Taken turn) = turn.sends

-- the block of node `me` in a report, by its core
abbrev pub block_of : {Msg : Type 0} → Setup → Module Msg → ℕ → Core Msg → List ℕ
block_of s M me c = node_block me c.past.epoch (log_of (rules_of s) M me c.past)

-- the entry that what was stored last ends with
abbrev pub newest_entry : {Msg : Type 0} → Stored Msg → List ℕ
newest_entry st = get_or st.entries 0 []

-- What node `me` does that had stored this, by the steps of its core. A new node had stored nothing.
abbrev pub node_behavior_of : {Msg : Type 0} → Setup → Module Msg → ℕ → Stored Msg → NodeBehavior
node_behavior_of s M me base = record {
  setup = s;
  me = me;
  accepts = λ events event. is_taken (step_of s M me (stored_since s M me base events).core event);
  sends = λ events event. sends_of (step_of s M me (stored_since s M me base events).core event);
  castable = λ events. is_castable_now (rules_of s) M me (stored_since s M me base events).core;
  unfilled = λ events. map (λ l. record { 0 = l })
      (unfilled (rules_of s) M s.n me (stored_since s M me base events).core.past);
  shows = λ events. shown_of (stored_since s M me base events);
  keeps = λ events event. newest_entry (stored_after s M me (stored_since s M me base events) event);
  epoch = λ events. (stored_since s M me base events).core.past.epoch;
  prints = λ events. block_of s M me (stored_since s M me base events).core;
}

-- each of these events, behind those before them, was accepted
abbrev pub AreAccepted : NodeBehavior → (before events : List NodeEvent) → Type 0
AreAccepted B before [] = Unit {0}
AreAccepted B before (event ∷ events) =
    (B.accepts before event ≡ true) × AreAccepted B (before ++ event ∷ []) events

-- ---- its journal

-- What a node had stored that reads these entries, which lead to this: the entries themselves; or what a replica stored
-- of the events that it kept from the start, if a journal shows these entries of it.
abbrev pub BeginsWith : {Msg : Type 0} → Setup → Module Msg → ℕ → List (List ℕ) → Rebuilt Msg → Stored Msg → Type 0
BeginsWith s M me entries found base = (base ≡ stored_as entries found)
    ⊎ ((events : List NodeEvent) × (base ≡ stored_of s M me events) × (entries ≡ shown_of base)
    × AreNamed s.n events × (base.core.past.epoch < 2 ^ 64))

-- The node does this, and has accepted these events since it was opened. Each of them names existing nodes.
pub record HasTaken {M Msg D : Type 0} (m : Module Msg) (refines : Relation M Msg) (v : KeptState M Msg D)
    (B : NodeBehavior) (events : List NodeEvent) : Type 0 where
  pub base : Stored Msg
  pub does : B ≡ node_behavior_of v.setup m v.me.0 base
  pub stored : RefinesStored m refines v (stored_since v.setup m v.me.0 base events)
  pub accepted : AreAccepted B [] events
  pub named : AreNamed v.setup.n events

-- ---- a run

-- What became of a node that had stored this: it took these events, each of which it accepted. Its journal shows what
-- stays of what it had stored and of them, in every crash image. Over links that record their frames all this is what
-- the node's loop comes to. The node prints the log that all this led to.
pub record HasGoneOn {Msg : Type 0} (M : Module Msg) (c : Config) (me : ℕ) (ends ends_now : Option (List End))
    (now : List File) (printed : List ℕ) (base : Stored Msg) : Type 0 where
  pub taken : List NodeEvent
  pub accepted : AreAccepted (node_behavior_of (setup_of c) M me base) [] taken
  pub named : AreNamed (setup_of c).n taken
  pub kept : IfTold now (OnlyLeaves (Shows version_1 (shown_of (stored_since (setup_of c) M me base taken))))
  pub loops : (there : List End) → ends ≡ Some there →
      HasRun (node_loop_of (node_behavior_of (setup_of c) M me base) 200000 64 c.turns [] there) taken ends_now
  pub block : printed ≡ block_of (setup_of c) M me (stored_since (setup_of c) M me base taken).core
  pub low : (stored_since (setup_of c) M me base taken).core.past.epoch < 2 ^ 64

-- A node ran. Its journal held these entries, which lead to a core. It goes on from what it had stored by them: from
-- what they lead to, and from what a replica stored if they are what stays of it.
-- rule: Loopback: A node's journal grows by the events that it takes, in their order
-- rule: Loopback: A node prints its block of a report, which its journal's events give
pub record IsNodeRun {Msg : Type 0} (M : Module Msg) (c : Config) (me : ℕ) (ends ends_now : Option (List End))
    (before now : List File) (printed : List ℕ) : Type 0 where
  pub held : List (List ℕ)
  pub found : Rebuilt Msg
  pub read : IfTold before (λ file. Shows version_1 held file.content)
  pub leads : core_of (setup_of c) M me held ≡ Some found
  pub went : (base : Stored Msg) → BeginsWith (setup_of c) M me held found base →
      HasGoneOn M c me ends ends_now now printed base

-- A disk failed at an event, behind these events, which were all accepted. Every crash image of the journal shows what
-- stays of them, or of them and this one.
pub record Leaves (nodes : ℕ) (file : List File) (B : NodeBehavior) (events : List NodeEvent) (event : NodeEvent)
    : Type 0 where
  pub accepted : AreAccepted B [] events
  pub named : AreNamed nodes events
  pub left : IfTold file (OnlyLeaves (ShowsWithOrWithout version_1 (B.shows events) (B.keeps events event)))

-- What became of a node that had stored this, until its disk failed at an event that it accepts. It took these events,
-- and perhaps that one is in its journal. Over links that record their frames the node took frames, and sent what these
-- events made: nothing of the one at which the disk failed.
pub record WasCutShort {Msg : Type 0} (M : Module Msg) (c : Config) (me : ℕ) (ends ends_now : Option (List End))
    (now : List File) (base : Stored Msg) : Type 0 where
  pub taken : List NodeEvent
  pub failed : NodeEvent
  pub fails : (node_behavior_of (setup_of c) M me base).accepts taken failed ≡ true
  pub kept : Leaves (setup_of c).n now (node_behavior_of (setup_of c) M me base) taken failed
  pub sent : (there : List End) → ends ≡ Some there →
      HasSent (node_behavior_of (setup_of c) M me base) (begins [] there) taken ends_now

-- A node ran until its disk failed at an event. Its journal held these entries, which lead to a core.
-- rule: Loopback: A node sends only what events in its journal made
pub record IsCutShort {Msg : Type 0} (M : Module Msg) (c : Config) (me : ℕ) (ends ends_now : Option (List End))
    (before now : List File) : Type 0 where
  pub held : List (List ℕ)
  pub found : Rebuilt Msg
  pub read : IfTold before (λ file. Shows version_1 held file.content)
  pub leads : core_of (setup_of c) M me held ≡ Some found
  pub went : (base : Stored Msg) → BeginsWith (setup_of c) M me held found base →
      WasCutShort M c me ends ends_now now base

-- A disk failed. Either the node had not read its journal: then it sent nothing, and no crash lost an entry. Or it ran.
abbrev pub IsStopped : {Msg : Type 0} → Module Msg → Config → ℕ → (ends ends_now : Option (List End)) →
    (before now : List File) → Type 0
IsStopped M c me ends ends_now before now =
    ((ends_now ≡ ends) × LosesNothing version_1 before now) ⊎ IsCutShort M c me ends ends_now before now

-- The journal is damaged at this offset: the file itself, or an entry that is no event or that the node would drop.
-- What it held stays.
pub record IsRefused {Msg : Type 0} (M : Module Msg) (s : Setup) (me : ℕ) (before now : List File) (at : ℕ)
    : Type 0 where
  pub entries : List (List ℕ)
  pub damaged : IsDamaged s M me entries before at
  pub left : IsLeft entries before now at

-- ---- the code

-- What a kept node's answer is to a loop. A node that has to be reopened is not asked.
abbrev pub as_step : Result NodeAnswer Failed → Result NodeStep StepError
as_step (Ok (Node_taken outcome)) = Ok (Step_taken outcome.sends)
as_step (Ok (Node_dropped why)) = Ok Step_dropped
as_step (Err failed) = Err DiskFault
as_step (Ok Node_stale) = Err NoMemory
as_step (Ok Node_no_memory) = Err NoMemory

-- The file held these entries, which lead to a core. The node that has read them stands for what it had stored by them.
pub record HasRead {M Msg D : Type 0} (m : Module Msg) (refines : Relation M Msg) (before : List File)
    (v : KeptState M Msg D) : Type 0 where
  pub read : IfTold before (λ file. Shows version_1 v.entries file.content)
  pub found : Rebuilt Msg
  pub leads : core_of v.setup m v.me.0 v.entries ≡ Some found
  pub stored : (base : Stored Msg) → BeginsWith v.setup m v.me.0 v.entries found base → RefinesStored m refines v base

-- every crash image of its file shows its entries
abbrev pub IsDurable : {M Msg D : Type 0} → (state : D → Device) → KeptState M Msg D → Type 0
IsDurable state v = IfTold (state v.disk).history (OnlyLeaves (Shows version_1 v.entries))

-- A running node knows its identity and how many nodes there are. Unless it has to be reopened, its journal is durable.
pub record IsRunning {M Msg D : Type 0} (m : Module Msg) (state : D → Device)
    (nodes : ℕ) (me : NodeId) (v : KeptState M Msg D) : Type 0 where
  pub good : IsSetupOf m v.setup
  pub member : v.me.0 < v.setup.n
  pub count : nodes ≡ v.setup.n
  pub number : me ≡ v.me
  pub durable : v.stale ≡ false → IsDurable state v
