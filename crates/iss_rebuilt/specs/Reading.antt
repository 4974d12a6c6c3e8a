-- The core that a journal's entries lead to. Each snapshot continues the one before it: the core adopts its epochs,
-- keeps its certificates, and takes its requests and votes by the tests that they passed once. The early packets of the
-- last snapshot are taken next, and then the events.
use Rattle.std.specs.Prelude.{ℕ, suc, ◌^◌, ◌==◌, ◌&&◌, nat_le, not, cond, Bool, true, List, [], ◌∷◌, ◌++◌, length, reverse, Option, Some, None}
use Rattle.std.specs.List.{filter}
use Rattle.iss_checkpoint.specs.declared.votes.Cert.{Cert}
use Rattle.iss_checkpoint.specs.declared.votes.Vote.{Vote}
use Rattle.iss_journal.specs.Retained.{is_snapshot}
use Rattle.iss_request.specs.declared.requests.Request.{Request}
use Rattle.iss_request.specs.declared.requests.Value.{Value}
use Rattle.iss_rules.specs.declared.events.NodeEvent.{NodeEvent}
use Rattle.iss_rules.specs.Formats.{whole}
use Rattle.iss_rules.specs.Parcels.{Body, OfAsk, OfModule, OfPiece, OfRequest, OfVote, Parcel}
use Rattle.iss_rules.specs.Past.{Past, adopts, log_of}
use Rattle.iss_rules.specs.Votes.{is_true_cert}
use Rattle.iss_model.specs.Frames.{Frame, step_in}
use Rattle.iss_model.specs.Node.{Core, Dropped, Early, Stepped, Taken, Turn, early_most, initial_core, takes_each, takes_request, takes_vote}
use Rattle.iss_snapshot.specs.Snapshots.{parse_snapshot}
use Rattle.iss_snapshot.specs.declared.snapshots.Snapshot.{Snapshot}
use Rattle.iss_rebuilt.specs.Stored.{Saved, nothing_saved, saved_after}

-- a core, and what the snapshots that led to it saved
pub record Rebuilt (Msg : Type 0) : Type 0 where
  pub core : Core Msg
  pub saved : Saved

-- ---- a snapshot, part by part

-- the past that adopted these epochs, one after the other
abbrev pub adopts_epochs : {Msg : Type 0} → Past Msg → List (List Value) → Past Msg
adopts_epochs past [] = past
adopts_epochs past (values ∷ more) = adopts_epochs (adopts past (record { epoch = past.epoch; values = values })) more

-- certificates are true, rise by epoch, and none is held already
abbrev pub are_new : {Msg : Type 0} → Frame Msg → (ℕ → Bool) → ℕ → List Cert → Bool
are_new W held from [] = true
are_new W held from (c ∷ cs) =
    nat_le from c.epoch.0
    && (not (held c.epoch.0) && (is_true_cert W.rules c && are_new W held (suc c.epoch.0) cs))

-- the core after a step, if the event was not dropped
abbrev pub core_of_step : {Msg : Type 0} → Stepped Msg → Option (Core Msg)
core_of_step (Dropped why) = None
core_of_step (Taken turn) = Some turn.core

abbrev pub takes_requests : {Msg : Type 0} → Frame Msg → ℕ → List Request → Option (Core Msg) → Option (Core Msg)
takes_requests W me qs None = None
takes_requests W me [] (Some c) = Some c
takes_requests W me (q ∷ qs) (Some c) = takes_requests W me qs (core_of_step (takes_request W.rules W.spec me c q))

abbrev pub takes_votes : {Msg : Type 0} → Frame Msg → List Vote → Option (Core Msg) → Option (Core Msg)
takes_votes W vs None = None
takes_votes W [] (Some c) = Some c
takes_votes W (v ∷ vs) (Some c) = takes_votes W vs (core_of_step (takes_vote W.rules c v))

-- a packet that holds a module's message of epoch e
abbrev pub early_of : {Msg : Type 0} → ℕ → ℕ → ℕ → Body Msg → Option (Early Msg)
early_of e from epoch (OfModule l msg) = cond (epoch == e) (Some (record { from = from; leader = l; msg = msg })) None
early_of e from epoch (OfVote v) = None
early_of e from epoch OfAsk = None
early_of e from epoch (OfPiece p) = None
early_of e from epoch (OfRequest q) = None

abbrev pub early_in : {Msg : Type 0} → ℕ → Option (Parcel Msg) → Option (Early Msg)
early_in e None = None
early_in e (Some k) = early_of e k.from k.epoch k.body

-- the first, and then the others, if all are there
abbrev pub with_early : {Msg : Type 0} → Option (Early Msg) → Option (List (Early Msg)) → Option (List (Early Msg))
with_early None others = None
with_early (Some x) None = None
with_early (Some x) (Some xs) = Some (x ∷ xs)

abbrev pub early_each : {Msg : Type 0} → Frame Msg → ℕ → List (List ℕ) → Option (List (Early Msg))
early_each W e [] = Some []
early_each W e (b ∷ bs) = with_early (early_in e (W.formats.unwrap b)) (early_each W e bs)

abbrev pub keeps_packets : {Msg : Type 0} → Saved → Option (List (Early Msg)) → Option (Core Msg) → Option (Rebuilt Msg)
keeps_packets saved None c = None
keeps_packets saved (Some xs) None = None
keeps_packets saved (Some xs) (Some c) =
    cond (nat_le (length xs) early_most) (Some (record { core = record c { early = xs }; saved = saved })) None

-- The log and the certificates are those of all snapshots; requests, votes and early packets are of the newest alone.
abbrev pub continued : {Msg : Type 0} → Rebuilt Msg → Snapshot → Core Msg
continued r s = record {
  past = adopts_epochs r.core.past s.epochs;
  waiting = [];
  flight = [];
  early = [];
  votes = [];
  certs = reverse s.certs ++ r.core.certs;
  leaf = s.leaf;
}

-- ---- a whole snapshot

-- A snapshot goes on where the one before it ended, and its next leaf is within the key.
abbrev pub reads_snapshot : {Msg : Type 0} → Frame Msg → ℕ → Rebuilt Msg → Snapshot → Option (Rebuilt Msg)
reads_snapshot W me r s =
    cond ((s.from.0 == r.saved.from) && (nat_le s.leaf (2 ^ W.setup.keys) && are_new W r.saved.held 0 s.certs))
    (keeps_packets (saved_after r.saved s) (early_each W s.to.0 s.early)
    (takes_votes W s.votes (takes_requests W me s.waiting (Some (continued r s)))))
    None

abbrev pub reads_parsed : {Msg : Type 0} → Frame Msg → ℕ → Rebuilt Msg → Option Snapshot → Option (Rebuilt Msg)
reads_parsed W me r None = None
reads_parsed W me r (Some s) = reads_snapshot W me r s

abbrev pub reads_entry : {Msg : Type 0} → Frame Msg → ℕ → Option (Rebuilt Msg) → List ℕ → Option (Rebuilt Msg)
reads_entry W me None bytes = None
reads_entry W me (Some r) bytes =
    let log = log_of W.rules W.spec me r.core.past in
    reads_parsed W me r (whole (parse_snapshot W.setup.version W.rules.slots log bytes))

-- snapshot entries, newest first
abbrev pub rebuilt : {Msg : Type 0} → Frame Msg → ℕ → List (List ℕ) → Option (Rebuilt Msg)
rebuilt W me [] = Some (record { core = initial_core; saved = nothing_saved })
rebuilt W me (x ∷ xs) = reads_entry W me (rebuilt W me xs) x

-- ---- a journal

-- the core takes what came early for the epoch that it entered
abbrev pub woken : {Msg : Type 0} → Frame Msg → ℕ → Core Msg → Turn Msg
woken W me c = takes_each W.formats W.rules W.spec me c.past.epoch c.early (record c { early = [] })

abbrev pub woken_of : {Msg : Type 0} → Frame Msg → ℕ → Option (Rebuilt Msg) → Option (Rebuilt Msg)
woken_of W me None = None
woken_of W me (Some r) = Some (record r { core = (woken W me r.core).core })

-- an event of a journal notes nothing for the next snapshot
abbrev pub replayed : {Msg : Type 0} → Saved → Option (Core Msg) → Option (Rebuilt Msg)
replayed saved None = None
replayed saved (Some c) = Some (record { core = c; saved = saved })

abbrev pub replays : {Msg : Type 0} → Frame Msg → ℕ → Option NodeEvent → Option (Rebuilt Msg) → Option (Rebuilt Msg)
replays W me None r = None
replays W me (Some event) None = None
replays W me (Some event) (Some r) = replayed r.saved (core_of_step (step_in W me r.core event))

-- The entries of a journal, newest first: the snapshots, and the events after the last of them. What stands between
-- two snapshots is never read. `event_in` decodes an entry as an event.
abbrev pub recovered : {Msg : Type 0} → Frame Msg → (List ℕ → Option NodeEvent) → ℕ → List (List ℕ) →
    Option (Rebuilt Msg)
recovered W event_in me [] = Some (record { core = initial_core; saved = nothing_saved })
recovered W event_in me (x ∷ xs) =
    cond (is_snapshot x)
    (woken_of W me (reads_entry W me (rebuilt W me (filter is_snapshot xs)) x))
    (replays W me (event_in x) (recovered W event_in me xs))
