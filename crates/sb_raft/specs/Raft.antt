-- Raft as a module (Ongaro and Ousterhout, 2014): 2f+1 replicas of which f may stop. Its state is the fold of the step
-- over what a replica took; the committed part of the log decides the slots.
use Rattle.std.specs.Prelude.{ℕ, true, List, [], ◌∷◌, take, Option, Some, None, if◌then◌else◌}
use Rattle.iss_request.specs.declared.ids.Slot.{Slot}
use Rattle.iss_request.specs.declared.requests.Batch.{Batch}
use Rattle.iss_request.specs.declared.requests.Value.{Value}
use Rattle.iss_request.specs.Setup.{nodes_of_kind, quorum_of_kind}
use Rattle.iss_request.specs.declared.setups.Kind.TheVariants.{Stopping}
use Rattle.iss_sb.specs.declared.effects.Input.{Input}
use Rattle.iss_sb.specs.declared.effects.Input.TheVariants.{Cast, Receive, Timeout}
use Rattle.iss_sb.specs.declared.effects.Params.{Params}
use Rattle.iss_sb.specs.Paired.{value_with}
use Rattle.iss_sb.specs.Evidence.{Item, Made, Module}
use Rattle.raft_wire.specs.declared.entries.Entry.{Entry}
use Rattle.raft_wire.specs.declared.messages.Message.{Message}
use Rattle.raft_wire.specs.Messages.{parse, spell}
use Rattle.sb_raft.specs.Logs.{contents}
use Rattle.sb_raft.specs.Rules.{State, may_cast, start, step}

-- the state of a node with this history
abbrev pub state : Params → ℕ → List (Item Message) → State
state p me [] = start p me
state p me (x ∷ xs) = (step p me (state p me xs) x.input).state

-- only a cast offers a batch
abbrev pub asks : Params → ℕ → List (Item Message) → Input Message → Option (Slot × Batch)
asks p me xs (Cast slot batch) = if may_cast p (state p me xs) slot.0 then Some (slot, batch) else None
asks p me xs (Receive from msg) = None
asks p me xs Timeout = None

-- nothing is hashed and nothing is signed
abbrev pub makes : Params → ℕ → List (Item Message) → Input Message → ℕ → Made Message
makes p me xs input leaf =
    record { sends = (step p me (state p me xs) input).sends; accepted = asks p me xs input; strings = []; used = 0 }

-- the log, and its commit index
abbrev pub raft_log : Params → ℕ → List (Item Message) → List Entry
raft_log p me xs = (state p me xs).log

abbrev pub commit : Params → ℕ → List (Item Message) → ℕ
commit p me xs = (state p me xs).commit

-- the value that the committed part of the log has for slot s
abbrev pub decided : Params → ℕ → List (Item Message) → ℕ → Option Value
decided p me xs s = value_with s p.slots (contents (take (commit p me xs) (raft_log p me xs)))

-- for f crash-stop nodes of 2f+1
abbrev pub raft : Module Message
raft = record {
  nodes = nodes_of_kind Stopping;
  quorum = quorum_of_kind Stopping;
  stopping = true;
  tag = 2;
  signs = λ p. 0;
  spell = spell;
  parse = parse;
  claims = λ p from msg. [];
  asks = asks;
  makes = makes;
  decided = decided;
}
