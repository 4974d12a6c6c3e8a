-- The evidence with which a run ends early. A forgery: a core read a claim that verifies under the key of a correct
-- node, which never sent it. A collision: a core hashed the second of two different strings of one digest. The core
-- took what the schedule's event gave it. The book misses no claim that a correct node sent, nor its votes, so the
-- evidence convinces anyone who has the schedule.
use Rattle.std.specs.Prelude.{◌≡◌, ◌⊎◌, ℕ, suc, ◌<◌, true, false, List, ◌∷◌, ◌++◌, Some}
use Rattle.iss_base.specs.Lists.{In, nth, push_all}
use Rattle.iss_keys.specs.Directories.{VerifiesBy, directory_of}
use Rattle.iss_request.specs.Digest.{digest}
use Rattle.iss_request.specs.declared.setups.Setup.{Setup}
use Rattle.iss_network.specs.declared.packets.Sent.{Sent}
use Rattle.iss_schedule.specs.declared.schedules.Event.{Event}
use Rattle.iss_schedule.specs.declared.schedules.Event.TheVariants.{Request as Event_request, Propose, Timeout as Event_timeout, Ask, Deliver, Lose, Pump, Calm, Hold, Free, Drop as Event_drop, Restart, Crash, Bytes}
use Rattle.iss_sb.specs.declared.effects.Claim.{Claim}
use Rattle.iss_sb.specs.Evidence.{Item, Module, is_correct}
use Rattle.iss_rules.specs.declared.events.NodeEvent.{NodeEvent}
use Rattle.iss_rules.specs.declared.events.NodeEvent.TheVariants.{Packet as On_packet, Propose as On_propose, Timeout as On_timeout, AskFrom as On_ask}
use Rattle.iss_rules.specs.Books.{Signed}
use Rattle.iss_composition.specs.Cluster.{IsOwn}
use Rattle.iss_rules.specs.Concrete.{request_of, rules_of}
use Rattle.iss_rules.specs.Formats.{formats_of}
use Rattle.iss_rules.specs.Parcels.{Formats, OfRequest}
use Rattle.iss_model.specs.Node.{Taken, Turn, step}
use Rattle.iss_model.specs.Courses.{Machines}
use Rattle.iss_model.specs.Disks.{may_keep}
use Rattle.iss_theorems.specs.Recovery.{course_after}
use Rattle.iss_model.specs.Runs.{pasts_of}
use Rattle.iss_rules.specs.Past.{Past, Piece, before}
use Rattle.iss_rules.specs.Rules.{Rules}
use Rattle.iss_rules.specs.Ends.{Collision, End, Forged}
use Rattle.iss_model.specs.Run.{Held, claims_at, early_of, node_of}

-- packet k was sent to core c, which takes its bytes
pub record IsPacketFor (packets : List Sent) (c : ℕ) (event : NodeEvent) (k : ℕ) : Type 0 where
  pub packet : Sent
  pub sent : nth packets k ≡ Some packet
  pub core : c ≡ packet.to
  pub bytes : event ≡ On_packet packet.bytes

-- What an event of a schedule gives to core c, if these packets were sent. A pump gives some of the packets.
abbrev pub Gives : {Msg : Type 0} → Setup → Formats Msg → List Sent → Event → ℕ → NodeEvent → Type 0
Gives s F packets (Event_request core client number payload) c event =
    (c ≡ core) × (event ≡ On_packet
    (F.wrap (record { from = 255; epoch = 0; body = OfRequest (request_of s client number payload) })))
Gives s F packets (Propose core) c event = (c ≡ core) × (event ≡ On_propose)
Gives s F packets (Event_timeout core l) c event = (c ≡ core) × (event ≡ On_timeout l)
Gives s F packets (Ask core peer) c event = (c ≡ core) × (event ≡ On_ask peer)
Gives s F packets (Deliver k) c event = IsPacketFor packets c event k
Gives s F packets (Lose k) c event = ⊥
Gives s F packets Pump c event = (k : ℕ) × IsPacketFor packets c event k
Gives s F packets (Calm m) c event = (k : ℕ) × IsPacketFor packets c event k
Gives s F packets (Hold core) c event = ⊥
Gives s F packets (Free core) c event = ⊥
Gives s F packets (Event_drop core) c event = ⊥
Gives s F packets (Restart core) c event = ⊥
Gives s F packets (Crash core calls) c event = ⊥
Gives s F packets (Bytes core bytes) c event = (c ≡ core) × (event ≡ On_packet bytes)

-- A core took what the schedule's event e gave it. Its disk had not failed.
pub record Took {Msg : Type 0} (s : Setup) (F : Formats Msg) (w : Machines Msg) (e : Event) : Type 0 where
  pub core : ℕ
  pub event : NodeEvent
  pub given : Gives s F w.held.net.network.packets e core event
  pub works : (w.disks core).failed ≡ false

-- Evidence of forgery. A core read a claim whose signature is valid under the key of the node that it names. That node
-- is correct, and never signed the statement.
pub record IsForgery {Msg : Type 0} (s : Setup) (F : Formats Msg) (R : Rules) (M : Module Msg) (w : Machines Msg)
    (e : Event) (c : Claim) : Type 0 where
  pub at : Took s F w e
  pub read : In c (claims_at F R M (node_of s at.core) (w.held.net.cores at.core) at.event
      ++ early_of (step F R M (node_of s at.core) (w.held.net.cores at.core) at.event))
  pub verifies : R.verifies c.by.0 c.statement c.sig ≡ true
  pub by_key : VerifiesBy (directory_of s.n s.clients s.keys).nodes c.by.0 c.statement c.sig
  pub correct : is_correct s c.by.0 ≡ true
  pub unsent : In (record { by = c.by.0; statement = c.statement }) w.held.signed → ⊥

-- Two different strings with one digest. The second is one of `strings`. The first is in the book, or precedes it in
-- `strings`.
-- rule: Evidence: Two strings of one digest end the run, and the earlier one is named first
pub record AreColliding (strings book : List (List ℕ)) (first second : List ℕ) : Type 0 where
  pub earlier : List (List ℕ)
  pub later : List (List ℕ)
  pub is : strings ≡ earlier ++ second ∷ later
  pub booked : In first (push_all earlier book)
  pub same : digest first ≡ digest second
  pub different : first ≡ second → ⊥

-- Evidence of a SHA-256 collision. A core accepted and journaled what the schedule's event gave it, and hashed the
-- second string in this step.
pub record HasCollided {Msg : Type 0} (s : Setup) (F : Formats Msg) (R : Rules) (M : Module Msg) (w : Machines Msg)
    (e : Event) (first second : List ℕ) : Type 0 where
  pub at : Took s F w e
  pub turn : Turn Msg
  pub taken : step F R M (node_of s at.core) (w.held.net.cores at.core) at.event ≡ Taken turn
  pub kept : may_keep (w.disks at.core).passes ≡ true
  pub strings : AreColliding turn.strings w.held.hashed first second

-- what each kind of evidence shows, in the state before the delivery that revealed it
abbrev pub IsEvidenced : {Msg : Type 0} → Setup → Formats Msg → Rules → Module Msg → Machines Msg → Event → End → Type 0
IsEvidenced s F R M w e (Forged claim) = IsForgery s F R M w e claim
IsEvidenced s F R M w e (Collision first second) = HasCollided s F R M w e first second

-- event k of the schedule revealed the evidence
pub record IsShown {Msg : Type 0} (s : Setup) (M : Module Msg) (events : List Event) (w : Machines Msg) (k : ℕ)
    (end : End) : Type 0 where
  pub event : Event
  pub is : nth events k ≡ Some event
  pub evidence : IsEvidenced s (formats_of s M) (rules_of s) M w event end

-- A run that stopped shows its evidence (`shown`), and later events change nothing (`stays`).
pub record HasEvidence {Msg : Type 0} (s : Setup) (M : Module Msg) (events : List Event) : Type 0 where
  pub shown : (k : ℕ) (end : End) → (course_after s M events).ended ≡ Some (k, end) →
      IsShown s M events (course_after s M events).state k end
  pub stays : (k : ℕ) (end : End) → (course_after s M events).ended ≡ Some (k, end) → (more : List Event) →
      course_after s M (events ++ more) ≡ course_after s M events

-- the book holds each statement that node i signed and sent, in any instance
abbrev pub AreBooked : {Msg : Type 0} → Rules → Module Msg → ℕ → Past Msg → List Signed → Type 0
AreBooked {Msg} R M i c book =
    (e l : ℕ) (item : Item Msg) → In item (c.evidence e l) → (x : Signed) →
    IsOwn M (R.params (before R M i c e) e l) i item.made.sends x → In x book

-- the epoch was adopted by state transfer
abbrev pub WasAdopted : {Msg : Type 0} → Past Msg → ℕ → Type 0
WasAdopted c e = (piece : Piece) × In piece c.adopted × (piece.epoch ≡ e)

-- the book holds node i's checkpoint vote for each epoch that it ended without state transfer
abbrev pub AreVoted : {Msg : Type 0} → Rules → Module Msg → ℕ → Past Msg → List Signed → Type 0
AreVoted R M i c book =
    (e : ℕ) → e < c.epoch → WasAdopted c e ⊎
    In (record {
      by = i;
      statement = R.voted e (R.end (before R M i c (suc e))).chain (R.end (before R M i c (suc e))).requests;
    }) book

-- the book holds every claim and every checkpoint vote that a correct node signed and sent
pub record AreWritten {Msg : Type 0} (s : Setup) (M : Module Msg) (h : Held Msg) : Type 0 where
  pub claims : (i : ℕ) → is_correct s i ≡ true → AreBooked (rules_of s) M i (pasts_of h.net i) h.signed
  pub votes : (i : ℕ) → is_correct s i ≡ true → AreVoted (rules_of s) M i (pasts_of h.net i) h.signed
