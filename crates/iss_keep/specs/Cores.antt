-- The core of a list of entries. Its snapshots lead to a core, each of them continuing the one before. That core takes
-- what came early for the epoch of the last one, and then the model's step over the events that follow, one by one.
-- There is none where a snapshot does not continue those before it, where an entry is neither snapshot nor event, or
-- where the core before an event drops it. The first such entry is named by the offset of its gate.
use Rattle.std.specs.Prelude.{◌≡◌, ℕ, List, [], ◌∷◌, ◌++◌, length, get_or, reverse, Option, Some, None}
use Rattle.iss_journal.specs.Retained.{retained}
use Rattle.iss_rules.specs.Concrete.{rules_of}
use Rattle.iss_rules.specs.Formats.{formats_of}
use Rattle.iss_model.specs.Frames.{frame_of}
use Rattle.iss_model.specs.Node.{Core, Stepped, step}
use Rattle.iss_rules.specs.declared.events.NodeEvent.{NodeEvent}
use Rattle.iss_request.specs.declared.setups.Setup.{Setup}
use Rattle.iss_sb.specs.Evidence.{Module}
use Rattle.iss_rebuilt.specs.Reading.{Rebuilt, recovered}
use Rattle.iss_rebuilt.specs.Stored.{Stored, stored, stored_by}
use Rattle.iss_keep.specs.Entries.{event_in, spell_event}

-- The step of replica `me` in a cluster with this set-up.
abbrev pub step_of : {Msg : Type 0} → Setup → Module Msg → ℕ → Core Msg → NodeEvent → Stepped Msg
step_of s m me c event = step (formats_of s m) (rules_of s) m me c event

-- ---- reading

-- the core of entries, oldest first, and what the snapshots among them saved
-- rule: Persistence: A reopened node is that of its entries, with its next leaf
abbrev pub core_of : {Msg : Type 0} → Setup → Module Msg → ℕ → List (List ℕ) → Option (Rebuilt Msg)
core_of s m me entries = recovered (frame_of s m) (event_in s.n) me (reverse entries)

-- The first entry that leads nowhere: it does not continue the snapshots before it, is no event, or is dropped at that
-- point. `at` is the offset of its gate.
-- rule: Persistence: An entry that is no event of its node is damage, at the offset of its gate
pub record StopsAt {Msg : Type 0} (s : Setup) (m : Module Msg) (me : ℕ) (at : ℕ)
    (entries : List (List ℕ)) (gates : List ℕ) : Type 0 where
  pub front : List (List ℕ)
  pub entry : List ℕ
  pub behind : List (List ℕ)
  pub is : entries ≡ front ++ entry ∷ behind
  pub offset : at ≡ get_or gates (length front) 0
  pub found : Rebuilt Msg
  pub before : core_of s m me front ≡ Some found
  pub none : core_of s m me (front ++ entry ∷ []) ≡ None

-- ---- writing

-- What a replica has stored of these events, newest first, from the start.
abbrev pub stored_of : {Msg : Type 0} → Setup → Module Msg → ℕ → List NodeEvent → Stored Msg
stored_of s m me events = stored (frame_of s m) spell_event me events

-- What it has stored after an event more.
abbrev pub stored_after : {Msg : Type 0} → Setup → Module Msg → ℕ → Stored Msg → NodeEvent → Stored Msg
stored_after s m me st event = stored_by (frame_of s m) spell_event me st event (step_of s m me st.core event)

-- What a journal shows of what was stored, oldest first.
abbrev pub shown_of : {Msg : Type 0} → Stored Msg → List (List ℕ)
shown_of st = retained (reverse st.entries)
