-- What the program answers to the orders that run nodes over links: all nodes of a cluster, or one node with its
-- journal. The input is the cluster's configuration.
use Rattle.std.specs.Prelude.{◌≡◌, ◌⊎◌, ℕ, ◌<◌, ◌≤◌, List, [], ◌∷◌, ◌++◌, codes, decimal, length, None, Option, Some, Result, Ok, Err}
use Rattle.iss_cluster.specs.Clusters.{behavior_of, loop_plan_of}
use Rattle.iss_cluster.specs.Nodes.{IsNodeRun, IsRefused}
use Rattle.iss_cluster.specs.declared.errors.NodeFailure.{NodeFailure}
use Rattle.iss_cluster.specs.declared.errors.NodeFailure.TheVariants.{Damaged, LinksFault as Node_links_fault, DiskFault as Node_disk_fault}
use Rattle.iss_config.specs.Configs.{IsConfig, setup_of}
use Rattle.iss_config.specs.declared.configs.Config.{Config}
use Rattle.iss_disk.specs.Calls.{Device}
use Rattle.iss_disk.specs.File.{File}
use Rattle.iss_links.specs.Ends.{End}
use Rattle.iss_loops.specs.Loop.{loop_of}
use Rattle.iss_loops.specs.Plans.{HasRun}
use Rattle.iss_loops.specs.Traces.{IsTrace}
use Rattle.iss_loops.specs.declared.errors.NodeError.{NodeError}
use Rattle.iss_loops.specs.declared.errors.NodeError.TheVariants.{LinksFault, DiskFault, NoMemory}
use Rattle.iss_replay.specs.Text.{end_line}
use Rattle.iss_sb.specs.Evidence.{Module}
use Rattle.iss_schedule.specs.Schedules.{IsSchedule, most_bytes, text_of}
use Rattle.iss_schedule.specs.declared.schedules.Schedule.{Schedule}
use Rattle.iss_words.specs.declared.orders.NodeOrder.{NodeOrder}
use Rattle.iss_words.specs.declared.orders.Order.{Order}
use Rattle.iss_words.specs.declared.orders.Order.TheVariants.{Cluster, Node}
use Rattle.iss_cli.specs.Views.{IsShownUnder, Under}
use Rattle.iss_cli.specs.declared.answers.Answer.{Answer}
use Rattle.iss_cli.specs.declared.status.Outcome.TheVariants.{DamagedJournal, Done, RefusedConfiguration}
use Rattle.iss_cli.specs.declared.views.View.TheVariants.{Full}

-- The links and the disk, as far as contracts can see them: what the links hold, and the states of each file of the
-- disk, and of its current file.
pub record Devices : Type 0 where
  pub ends : Option (List End)
  pub files : List ℕ → List File
  pub current : List File

abbrev pub devices : Option (List End) → Device → Devices
devices ends disk = record { ends = ends; files = disk.files; current = disk.history }

-- ---- configurations

-- rule: Program: What is no configuration, or has no such node, exits with 11
abbrev pub refused_configuration : Answer
refused_configuration = record { printed = codes "refused configuration" ++ 10 ∷ []; outcome = RefusedConfiguration }

-- the input is a text of this configuration, and not too long
pub record IsConfigOf (input : List ℕ) (c : Config) : Type 0 where
  pub config : IsConfig input c
  pub short : length input ≤ most_bytes

-- The answer to an input that must be a configuration: what P says of it, or a refusal.
abbrev pub IsOfConfig : (Config → Answer → Type 0) → List ℕ → Answer → Type 0
IsOfConfig P input a =
    ((c : Config) × (IsConfigOf input c × P c a))
    ⊎ (((c : Config) → ¬ IsConfigOf input c) × (a ≡ refused_configuration))

-- ---- orders

-- the order runs nodes over links
-- rule: Program: Links and disk stay as they are unless nodes run
abbrev pub UsesLinks : Order → Type 0
UsesLinks (Cluster port) = Unit {0}
UsesLinks (Node order) = Unit {0}
UsesLinks order = ⊥

-- it keeps a journal
abbrev pub UsesDisk : Order → Type 0
UsesDisk (Node order) = Unit {0}
UsesDisk order = ⊥

-- the node that it names is one of the cluster's
abbrev pub NamesNode : Config → Order → Type 0
NamesNode c (Node order) = order.node < (setup_of c).n
NamesNode c order = Unit {0}

-- Its nodes run: the input is a configuration, and the node that it names, if it names one, is one of the cluster's.
abbrev pub IsStarted : Order → List ℕ → Type 0
IsStarted order input = (c : Config) × (IsConfigOf input c × NamesNode c order)

-- the ports of its links exist
abbrev pub HasPorts : Order → Type 0
HasPorts (Cluster port) = port ≤ 65000
HasPorts (Node order) = order.port ≤ 65000
HasPorts order = Unit {0}

-- ---- all nodes of a cluster

-- The answer shows a trace of the cluster's nodes, and behind the line `report` what a replay of that trace shows, for
-- which the headline holds. The trace is a schedule. Over links that record their frames it is the loop's.
-- rule: Program: A cluster prints the trace of its nodes, a line, and the report of that trace
pub record IsOfCluster (c : Config) (ends ends_now : Option (List End)) (a : Answer) (Msg : Type 0) (M : Module Msg)
    : Type 0 where
  pub trace : Schedule
  pub setup : trace.setup ≡ setup_of c
  pub schedule : IsSchedule (text_of trace) trace
  pub trace_is : IsTrace (behavior_of (setup_of c) M) trace.events
  pub loops : (there : List End) → ends ≡ Some there →
      HasRun (loop_of (behavior_of (setup_of c) M) (loop_plan_of c) there) trace.events ends_now
  pub report : Answer
  pub replayed : IsShownUnder Full trace report Msg M
  pub printed : a.printed ≡ text_of trace ++ codes "report" ++ 10 ∷ report.printed
  pub outcome : a.outcome ≡ report.outcome

-- ---- one node

-- a node's block of a report, and the last line of a report without evidence
-- rule: Program: A node prints its log as a block of a report
abbrev pub log_answer : List ℕ → Answer
log_answer block = record { printed = block ++ end_line None; outcome = Done }

-- rule: Program: A damaged journal exits with 10, and its offset is printed
abbrev pub damaged_answer : ℕ → Answer
damaged_answer at = record { printed = codes "damaged " ++ decimal at ++ 10 ∷ []; outcome = DamagedJournal }

-- The answer shows the log of the events in the node's journal, or where the journal is damaged.
abbrev pub IsOfNode : Config → ℕ → Option (List End) → Option (List End) → List File → List File → Answer →
    (Msg : Type 0) → Module Msg → Type 0
IsOfNode c me ends ends_now before now a Msg M =
    ((block : List ℕ) × (IsNodeRun M c me ends ends_now before now block × (a ≡ log_answer block)))
    ⊎ ((at : ℕ) × (IsRefused M (setup_of c) me before now at × (a ≡ damaged_answer at)))

-- what is printed of a node's run, or why nothing is
abbrev pub IsPrintedRun : Result (List ℕ) NodeFailure → Result Answer NodeError → Type 0
IsPrintedRun ran (Ok a) =
    ((block : List ℕ) × ((ran ≡ Ok block) × (a ≡ log_answer block)))
    ⊎ ((at : ℕ) × ((ran ≡ Err (Damaged at)) × (a ≡ damaged_answer at)))
IsPrintedRun ran (Err LinksFault) = ran ≡ Err Node_links_fault
IsPrintedRun ran (Err DiskFault) = ran ≡ Err Node_disk_fault
IsPrintedRun ran (Err NoMemory) = Unit {0}

-- The same for the node that an order names, whose journal is the file that it names, or the cluster has no such node.
abbrev pub IsOfNodeOrder : NodeOrder → Devices → Devices → Config → Answer → Type 0
IsOfNodeOrder order before now c a =
    (((setup_of c).n ≤ order.node) × (a ≡ refused_configuration))
    ⊎ ((order.node < (setup_of c).n) × Under c.module
    (IsOfNode c order.node before.ends now.ends (before.files order.file.now) now.current a))
