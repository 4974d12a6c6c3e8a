-- The commands, as `clap` is told them, and what words ask for. A command is a word with its positionals, each of which
-- must be there. One line for each command.
use Rattle.std.specs.Prelude.{◌≡◌, ◌^◌, ◌-◌, ℕ, true, List, [], Some, codes}
use Rattle.clap.specs.Words.{App, Row, Rule, Text, fault_of, first_of, new_app, new_rule, subcommand_of, with_rule, with_subcommand}
use Rattle.iss_words.specs.Numbers.{IsNumberAt}
use Rattle.iss_words.specs.declared.orders.Order.{Order}
use Rattle.iss_words.specs.declared.orders.Order.TheVariants.{Replay, Lab, Replies, Answers, Export, Audit, Cluster, Node}

-- a positional that must be there
abbrev pub word_rule : Text → Rule
word_rule id = record (new_rule id) { required = true }

abbrev pub top : App
top = let a = new_app (codes "iss") in record a { top = record a.top { subcommand_required = true } }

abbrev pub replay : App
replay = new_app (codes "replay")

abbrev pub lab : App
lab = with_rule (with_rule (new_app (codes "lab")) (word_rule (codes "number"))) (word_rule (codes "events"))

abbrev pub replies : App
replies = new_app (codes "replies")

abbrev pub answers : App
answers = new_app (codes "answers")

abbrev pub export : App
export = with_rule (new_app (codes "export")) (word_rule (codes "core"))

abbrev pub audit : App
audit = new_app (codes "audit")

abbrev pub cluster : App
cluster = with_rule (new_app (codes "cluster")) (word_rule (codes "port"))

abbrev pub node : App
node =
    with_rule
    (with_rule (with_rule (new_app (codes "node")) (word_rule (codes "node"))) (word_rule (codes "port")))
    (word_rule (codes "file"))

-- the commands that print the runs of schedules, those on replies, those on certified logs, and those that run nodes
-- rule: Program: The words are one command with its positionals
abbrev pub with_runs : App
with_runs = with_subcommand (with_subcommand top replay.top) lab.top

abbrev pub with_replies : App
with_replies = with_subcommand (with_subcommand with_runs replies.top) answers.top

abbrev pub with_audits : App
with_audits = with_subcommand (with_subcommand with_replies export.top) audit.top

abbrev pub commands : App
commands = with_subcommand (with_subcommand with_audits cluster.top) node.top

-- the port of end 0, from which on the ends have theirs
abbrev pub IsPort : List Row → ℕ → Type 0
IsPort rows port = IsNumberAt rows (codes "port") 1024 65000 port

-- what is asked for by the name of a command and its positionals
-- rule: Program: A file's name may be any word, the empty one too
abbrev pub IsOrder : Text → List Row → Order → Type 0
IsOrder name rows Replay = name ≡ codes "replay"
IsOrder name rows (Lab number events) = (name ≡ codes "lab")
    × IsNumberAt rows (codes "number") 0 (2 ^ 64 - 1) number × IsNumberAt rows (codes "events") 1 100000 events
IsOrder name rows Replies = name ≡ codes "replies"
IsOrder name rows Answers = name ≡ codes "answers"
IsOrder name rows (Export core) = (name ≡ codes "export") × IsNumberAt rows (codes "core") 0 9 core
IsOrder name rows Audit = name ≡ codes "audit"
IsOrder name rows (Cluster port) = (name ≡ codes "cluster") × IsPort rows port
IsOrder name rows (Node order) = (name ≡ codes "node") × IsNumberAt rows (codes "node") 0 9 order.node
    × IsPort rows order.port × (first_of (codes "file") rows ≡ Some order.file.now)

-- The words ask for this: `clap` finds no fault in them, and they are this command, with numbers in their ranges.
-- rule: Program: The words are one command with its positionals
pub record Asks (words : List Text) (order : Order) : Type 0 where
  pub taken : fault_of commands words ≡ []
  pub name : Text
  pub rows : List Row
  pub found : subcommand_of commands words ≡ Some (name, rows)
  pub is : IsOrder name rows order
