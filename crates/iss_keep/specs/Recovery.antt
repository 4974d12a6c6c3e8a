-- What a journal leads back to: to the core that stored its entries, as far as that one's slim part goes. So each step
-- is the same from there on.
use Rattle.std.specs.Prelude.{◌≡◌, ◌⊎◌, ℕ, ◌<◌, ◌^◌, List, [], ◌∷◌, reverse}
use Rattle.iss_base.specs.Lists.{In}
use Rattle.iss_journal.specs.Frames.{version_1}
use Rattle.iss_journal.specs.Promises.{Shows, ShowsWithOrWithout}
use Rattle.iss_model.specs.Frames.{frame_of}
use Rattle.iss_model.specs.Node.{Taken, Turn}
use Rattle.iss_rebuilt.specs.Laws.{IsRecovered}
use Rattle.iss_rebuilt.specs.Stored.{Stored}
use Rattle.iss_request.specs.declared.setups.Setup.{Setup}
use Rattle.iss_rules.specs.Setups.{IsSetupOf}
use Rattle.iss_rules.specs.declared.events.NodeEvent.{NodeEvent}
use Rattle.iss_sb.specs.Evidence.{Module}
use Rattle.iss_theorems.specs.Leaves.{Deed, life_of}
use Rattle.iss_keep.specs.Cores.{shown_of, step_of, stored_of}
use Rattle.iss_keep.specs.Entries.{NamesNode, event_in}

-- Each event names existing nodes: a leader or a peer.
abbrev pub AreNamed : ℕ → List NodeEvent → Type 0
AreNamed n events = (event : NodeEvent) → In event events → NamesNode n event

-- Entries, oldest first, lead to a core with the slim part of the one that stored this, and to what snapshots saved.
abbrev pub Recovers : {Msg : Type 0} → Setup → Module Msg → ℕ → List (List ℕ) → Stored Msg → Type 0
Recovers s m me entries st = IsRecovered (frame_of s m) (event_in s.n) me (reverse entries) st

-- P holds for each history of a replica of a good set-up: its events, newest first, name nodes, and they end in an
-- epoch of 64 bits.
abbrev pub OfEachHistory : {Msg : Type 0} → Module Msg → (Setup → ℕ → List NodeEvent → Type 0) → Type 0
OfEachHistory m P = (s : Setup) → IsSetupOf m s → (me : ℕ) → me < s.n → (events : List NodeEvent) →
    AreNamed s.n events → (stored_of s m me events).core.past.epoch < 2 ^ 64 → P s me events

-- What was stored of the events leads back to it, though a journal shows only what stays.
abbrev pub RecoversAll : {Msg : Type 0} → Module Msg → Setup → ℕ → List NodeEvent → Type 0
RecoversAll m s me events = Recovers s m me (shown_of (stored_of s m me events)) (stored_of s m me events)

-- What a crash leaves of a journal while its last event is kept leads back to the core before the event, or after it.
abbrev pub RecoversOneOfTwo : {Msg : Type 0} → Module Msg → Setup → ℕ → List NodeEvent → Type 0
RecoversOneOfTwo m s me [] = Unit {0}
RecoversOneOfTwo m s me (event ∷ events) = (entry bytes : List ℕ) (found : List (List ℕ)) →
    (stored_of s m me (event ∷ events)).entries ≡ entry ∷ (stored_of s m me events).entries →
    ShowsWithOrWithout version_1 (shown_of (stored_of s m me events)) entry bytes → Shows version_1 found bytes →
    Recovers s m me found (stored_of s m me events) ⊎ Recovers s m me found (stored_of s m me (event ∷ events))

-- ---- its deeds

-- What the replica made of these events, newest first.
abbrev pub deeds_of : {Msg : Type 0} → Setup → Module Msg → ℕ → List NodeEvent → List (Deed Msg)
deeds_of s m me events = life_of (frame_of s m) me events

-- An accepted event is the next deed.
abbrev pub AddsDeed : {Msg : Type 0} → Setup → Module Msg → ℕ → List NodeEvent → Type 0
AddsDeed {Msg = Msg} s m me events = (event : NodeEvent) (t : Turn Msg) →
    step_of s m me (stored_of s m me events).core event ≡ Taken t →
    deeds_of s m me (event ∷ events) ≡ record { event = event; turn = t } ∷ deeds_of s m me events
