-- What a replica's journal holds: its events, and instead of each event that ended an epoch the replica as it entered
-- its newest epoch, before it took the messages that came early. An event whose snapshot would be too long is kept
-- itself.
use Rattle.std.specs.Prelude.{ℕ, zero, suc, ◌-◌, ◌||◌, ◌&&◌, nat_le, cond, Bool, false, is_some, List, [], ◌∷◌, ◌++◌, length, reverse, Option, Some, None}
use Rattle.std.specs.List.{filter}
use Rattle.iss_base.specs.Lists.{below}
use Rattle.iss_checkpoint.specs.declared.votes.Cert.{Cert}
use Rattle.iss_journal.specs.Frames.{max_entry}
use Rattle.iss_request.specs.declared.requests.Value.{Value}
use Rattle.iss_rules.specs.declared.events.NodeEvent.{NodeEvent}
use Rattle.iss_rules.specs.Parcels.{OfModule, Parcel}
use Rattle.iss_rules.specs.Past.{log_of}
use Rattle.iss_rules.specs.Votes.{cert_on, is_open}
use Rattle.iss_model.specs.Frames.{Frame, step_in}
use Rattle.iss_model.specs.Node.{Core, Dropped, Early, Stepped, Taken, Turn, initial_core, values_of}
use Rattle.iss_snapshot.specs.Snapshots.{fits, snapshot_row, spell_snapshot}
use Rattle.iss_snapshot.specs.declared.snapshots.Snapshot.{Snapshot}

-- Where the last snapshot ended, and of which epochs snapshots hold the certificates. It is no part of a core.
pub record Saved : Type 0 where
  pub from : ℕ
  pub held : ℕ → Bool

abbrev pub nothing_saved : Saved
nothing_saved = record { from = 0; held = λ e. false }

-- ---- a core that has entered an epoch, as a snapshot

-- the values of n epochs of a log, from epoch e on
abbrev pub epochs_of : {Msg : Type 0} → Frame Msg → List Value → ℕ → ℕ → List (List Value)
epochs_of W log e zero = []
epochs_of W log e (suc n) = values_of W.rules log e ∷ epochs_of W log (suc e) n

-- the certificates of these epochs that no snapshot holds
abbrev pub new_cert : (ℕ → Bool) → ℕ → Option Cert → List Cert
new_cert held e None = []
new_cert held e (Some c) = cond (held e) [] (c ∷ [])

abbrev pub new_certs : (ℕ → Bool) → List Cert → List ℕ → List Cert
new_certs held certs [] = []
new_certs held certs (e ∷ es) = new_cert held e (cert_on certs e) ++ new_certs held certs es

-- an early message as the packet that it came in
abbrev pub early_parcel : {Msg : Type 0} → ℕ → Early Msg → Parcel Msg
early_parcel e x = record { from = x.from; epoch = e; body = OfModule x.leader x.msg }

abbrev pub packets_of : {Msg : Type 0} → Frame Msg → ℕ → List (Early Msg) → List (List ℕ)
packets_of W e [] = []
packets_of W e (x ∷ xs) = W.formats.wrap (early_parcel e x) ∷ packets_of W e xs

-- Votes, and so certificates, are of epochs at most one ahead. Nothing is in flight.
abbrev pub snapshot_of : {Msg : Type 0} → Frame Msg → ℕ → Saved → Core Msg → Snapshot
snapshot_of W me saved d =
    let to = d.past.epoch in
    record {
      from = record { 0 = saved.from };
      to = record { 0 = to };
      epochs = epochs_of W (log_of W.rules W.spec me d.past) saved.from (to - saved.from);
      leaf = d.leaf;
      waiting = d.waiting;
      certs = new_certs saved.held d.certs (below (suc (suc to)));
      votes = reverse (filter (is_open d.certs) d.votes);
      early = packets_of W to d.early;
    }

-- By what the snapshot holds, and not by what the core does: of votes that are read again may come a certificate that
-- no snapshot holds.
abbrev pub saved_after : Saved → Snapshot → Saved
saved_after saved s = record { from = s.to.0; held = λ e. saved.held e || is_some (cert_on (reverse s.certs) e) }

-- ---- what is kept of an event

-- an entry, and what is saved with it
pub record Kept : Type 0 where
  pub entry : List ℕ
  pub saved : Saved

-- whether a snapshot has an encoding that is not too long for an entry
abbrev pub is_storable : ℕ → Snapshot → Bool
is_storable version s = fits s && nat_le (length (snapshot_row version s)) max_entry

-- the snapshot of the core that entered an epoch, unless it is too long
abbrev pub snapshot_kept : {Msg : Type 0} → Frame Msg → ℕ → Saved → Option (Core Msg) → Option Kept
snapshot_kept W me saved None = None
snapshot_kept W me saved (Some d) =
    let s = snapshot_of W me saved d in
    cond (is_storable W.setup.version s)
    (Some (record { entry = spell_snapshot W.setup.version s; saved = saved_after saved s })) None

-- else the event
abbrev pub or_event : Option Kept → List ℕ → Saved → Kept
or_event None event saved = record { entry = event; saved = saved }
or_event (Some k) event saved = k

-- What is kept of an event, whose own entry this is, after it had this turn.
abbrev pub kept_of : {Msg : Type 0} → Frame Msg → ℕ → Saved → List ℕ → Turn Msg → Kept
kept_of W me saved own t = or_event (snapshot_kept W me saved t.entered) own saved

-- entries, newest first, with what snapshots saved and the core that wrote them
pub record Stored (Msg : Type 0) : Type 0 where
  pub entries : List (List ℕ)
  pub saved : Saved
  pub core : Core Msg

abbrev pub nothing_stored : {Msg : Type 0} → Stored Msg
nothing_stored = record { entries = []; saved = nothing_saved; core = initial_core }

abbrev pub stored_by : {Msg : Type 0} → Frame Msg → (NodeEvent → List ℕ) → ℕ → Stored Msg → NodeEvent → Stepped Msg →
    Stored Msg
stored_by W spell me s event (Dropped why) = s
stored_by W spell me s event (Taken t) =
    let k = kept_of W me s.saved (spell event) t in
    record { entries = k.entry ∷ s.entries; saved = k.saved; core = t.core }

-- What is stored after some events more, newest first, with the core that they lead to. `spell` encodes an event as an
-- entry.
abbrev pub stored_on : {Msg : Type 0} → Frame Msg → (NodeEvent → List ℕ) → ℕ → Stored Msg → List NodeEvent → Stored Msg
stored_on W spell me base [] = base
stored_on W spell me base (x ∷ xs) =
    let s = stored_on W spell me base xs in
    stored_by W spell me s x (step_in W me s.core x)

-- What is stored of events from the start.
abbrev pub stored : {Msg : Type 0} → Frame Msg → (NodeEvent → List ℕ) → ℕ → List NodeEvent → Stored Msg
stored W spell me events = stored_on W spell me nothing_stored events
