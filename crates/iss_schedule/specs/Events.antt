-- Events as lines, and their ranges: cores, leaders, peers, clients and numbers that exist, payloads of at most 256
-- bytes, 1 to 1,000 pumps, and 0 to 1,000 calls before a crash. Bytes for a core need a Byzantine module.
use Rattle.std.specs.Prelude.{◌≡◌, ◌<◌, ◌≤◌, ◌^◌, ℕ, List, [], ◌∷◌, length, decimal}
use Rattle.hex.specs.Hex.{IsBytes}
use Rattle.iss_request.specs.declared.setups.Kind.TheVariants.{Byzantine}
use Rattle.iss_request.specs.declared.setups.Setup.{Setup}
use Rattle.iss_schedule.specs.declared.names.Name.TheVariants as name
use Rattle.iss_schedule.specs.declared.schedules.Event.{Event}
use Rattle.iss_schedule.specs.declared.schedules.Event.TheVariants.{Request as Event_request, Propose, Timeout as Event_timeout, Ask, Deliver, Lose, Pump, Calm, Hold, Free, Drop as Event_drop, Restart, Crash, Bytes}
use Rattle.iss_schedule.specs.Cores.{cores_of}
use Rattle.iss_schedule.specs.Names.{text_of_name}
use Rattle.iss_schedule.specs.Words.{line_of, word_of}

-- the words of an event's line
abbrev pub event_words : Event → List (List ℕ)
event_words (Event_request core client number payload) =
    text_of_name name.Request ∷ decimal core ∷ decimal client ∷ decimal number ∷ word_of payload ∷ []
event_words (Propose core) = text_of_name name.Propose ∷ decimal core ∷ []
event_words (Event_timeout core leader) = text_of_name name.Timeout ∷ decimal core ∷ decimal leader.0 ∷ []
event_words (Ask core peer) = text_of_name name.Ask ∷ decimal core ∷ decimal peer.0 ∷ []
event_words (Deliver packet) = text_of_name name.Deliver ∷ decimal packet ∷ []
event_words (Lose packet) = text_of_name name.Lose ∷ decimal packet ∷ []
event_words Pump = text_of_name name.Pump ∷ []
event_words (Calm pumps) = text_of_name name.Calm ∷ decimal pumps ∷ []
event_words (Hold core) = text_of_name name.Hold ∷ decimal core ∷ []
event_words (Free core) = text_of_name name.Free ∷ decimal core ∷ []
event_words (Event_drop core) = text_of_name name.Drop ∷ decimal core ∷ []
event_words (Restart core) = text_of_name name.Restart ∷ decimal core ∷ []
event_words (Crash core calls) = text_of_name name.Crash ∷ decimal core ∷ decimal calls ∷ []
event_words (Bytes core bytes) = text_of_name name.Bytes ∷ decimal core ∷ word_of bytes ∷ []

abbrev pub spell_event : Event → List ℕ
spell_event e = line_of (event_words e)

-- the bytes of a payload: at most 256
abbrev pub IsPayload : List ℕ → Type 0
IsPayload payload = IsBytes payload × (length payload ≤ 256)

-- The events that may happen in a cluster with this set-up. A core is one of its cores, a leader or a peer is a node,
-- and a client signs with a leaf of its tree. Only a Byzantine module gets injected bytes.
-- rule: Schedules: An ask names one of the cores and one of the nodes
-- rule: Schedules: A crash lets 0 to 1,000 disk calls of a core pass
abbrev pub IsInRange : Setup → Event → Type 0
IsInRange s (Event_request core client number payload) = (core < cores_of s) × (client < s.clients)
    × (number < 2 ^ s.keys) × IsPayload payload
IsInRange s (Propose core) = core < cores_of s
IsInRange s (Event_timeout core leader) = (core < cores_of s) × (leader.0 < s.n)
IsInRange s (Ask core peer) = (core < cores_of s) × (peer.0 < s.n)
IsInRange s (Deliver packet) = packet < 2 ^ 64
IsInRange s (Lose packet) = packet < 2 ^ 64
IsInRange s Pump = Unit {0}
IsInRange s (Calm pumps) = (1 ≤ pumps) × (pumps ≤ 1000)
IsInRange s (Hold core) = core < cores_of s
IsInRange s (Free core) = core < cores_of s
IsInRange s (Event_drop core) = core < cores_of s
IsInRange s (Restart core) = core < cores_of s
IsInRange s (Crash core calls) = (core < cores_of s) × (calls ≤ 1000)
IsInRange s (Bytes core bytes) = (s.kind ≡ Byzantine) × (core < cores_of s) × IsBytes bytes

abbrev pub AreInRange : Setup → List Event → Type 0
AreInRange s [] = Unit {0}
AreInRange s (e ∷ es) = IsInRange s e × AreInRange s es
