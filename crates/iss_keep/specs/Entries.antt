-- The events of a node as the entries of its journal. An event has one entry, and an entry is at most one event. A
-- leader or a peer is a node; nothing else is an event.
--
--   01 and a packet's bytes      the packet came
--   02                           the node was to propose
--   03, leader (1 byte)          the timer of the leader's segment fired
--   04, peer (1 byte)            the node asked a peer for its epoch
use Rattle.std.specs.Prelude.{◌≡◌, ℕ, ◌<◌, ◌==◌, nat_lt, cond, List, [], ◌∷◌, Option, Some, None, refl}
use Rattle.iss_rules.specs.declared.events.NodeEvent.{NodeEvent}
use Rattle.iss_rules.specs.declared.events.NodeEvent.TheVariants.{AskFrom as On_ask, Packet as On_packet, Propose as On_propose, Timeout as On_timeout}
use Rattle.iss_request.specs.declared.ids.NodeId.{NodeId}

-- ---- encoding

abbrev pub packet_entry : List ℕ → List ℕ
packet_entry bytes = 1 ∷ bytes

abbrev pub spell_event : NodeEvent → List ℕ
spell_event (On_packet bytes) = packet_entry bytes
spell_event On_propose = 2 ∷ []
spell_event (On_timeout leader) = 3 ∷ leader.0 ∷ []
spell_event (On_ask peer) = 4 ∷ peer.0 ∷ []

-- ---- the table: which entry encodes which event, in a cluster of n nodes

abbrev pub NamesNode : ℕ → NodeEvent → Type 0
NamesNode n (On_packet bytes) = Unit {0}
NamesNode n On_propose = Unit {0}
NamesNode n (On_timeout leader) = leader.0 < n
NamesNode n (On_ask peer) = peer.0 < n

-- rule: Persistence: An event has one entry, and an entry encodes at most one event
abbrev pub IsEntryOf : ℕ → List ℕ → NodeEvent → Type 0
IsEntryOf n entry event = (entry ≡ spell_event event) × NamesNode n event

-- ---- decoding

abbrev pub propose_in : List ℕ → Option NodeEvent
propose_in [] = Some On_propose
propose_in (b ∷ rest) = None

abbrev pub node_in : ℕ → List ℕ → Option NodeId
node_in n [] = None
node_in n (node ∷ []) = cond (nat_lt node n) (Some (record { 0 = node })) None
node_in n (node ∷ b ∷ rest) = None

abbrev pub timeout_in : Option NodeId → Option NodeEvent
timeout_in None = None
timeout_in (Some leader) = Some (On_timeout leader)

abbrev pub ask_in : Option NodeId → Option NodeEvent
ask_in None = None
ask_in (Some peer) = Some (On_ask peer)

abbrev pub event_of_kind : ℕ → ℕ → List ℕ → Option NodeEvent
event_of_kind n kind rest =
    cond (kind == 1) (Some (On_packet rest))
    (cond (kind == 2) (propose_in rest)
    (cond (kind == 3) (timeout_in (node_in n rest))
    (cond (kind == 4) (ask_in (node_in n rest)) None)))

abbrev pub event_in : ℕ → List ℕ → Option NodeEvent
event_in n [] = None
event_in n (kind ∷ rest) = event_of_kind n kind rest

-- In a cluster of four, node 3 may lead or be asked. Node 4 does not exist.
timeout : event_in 4 (3 ∷ 3 ∷ []) ≡ Some (On_timeout (record { 0 = 3 }))
timeout = refl

no_node : event_in 4 (3 ∷ 4 ∷ []) ≡ None
no_node = refl

ask : event_in 4 (4 ∷ 3 ∷ []) ≡ Some (On_ask (record { 0 = 3 }))
ask = refl

no_peer : event_in 4 (4 ∷ 4 ∷ []) ≡ None
no_peer = refl

too_long : event_in 4 (2 ∷ 0 ∷ []) ≡ None
too_long = refl
