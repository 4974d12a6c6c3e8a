-- One-time keys stay one-time, and all that a core signs and sends is of the events in its journal. A deed is an event
-- that a node took and its turn; a life is a row of deeds, each a step from the core before. A core's journal gives its
-- life, over all restarts. In each life there is one statement per used leaf, and each own claim is signed by a
-- leaf over its statement, or was received with a valid signature.
use Rattle.std.specs.Prelude.{◌≡◌, ◌⊎◌, ◌==◌, ℕ, true, List, [], ◌∷◌, ◌++◌, Some, length, slice_get}
use Rattle.std.specs.List.{filter}
use Rattle.iss_base.specs.Lists.{In}
use Rattle.iss_keys.specs.Directories.{node_secret}
use Rattle.iss_keys.specs.Levels.{EachSignsOnce}
use Rattle.iss_network.specs.declared.packets.Sent.{Sent}
use Rattle.iss_request.specs.declared.setups.Setup.{Setup}
use Rattle.iss_rules.specs.declared.events.NodeEvent.{NodeEvent}
use Rattle.iss_sb.specs.declared.effects.Claim.{Claim}
use Rattle.iss_sb.specs.declared.effects.To.{To}
use Rattle.iss_sb.specs.Evidence.{Module, is_correct}
use Rattle.iss_rules.specs.Books.{Signed}
use Rattle.iss_rules.specs.Rules.{Rules}
use Rattle.iss_model.specs.Frames.{Frame, claims_at_in, frame_of, step_in}
use Rattle.iss_model.specs.Node.{Core, Dropped, Stepped, Taken, Turn, initial_core}
use Rattle.iss_model.specs.Run.{addressees, as_signed, node_of}
use Rattle.iss_model.specs.Courses.{Machines}

-- ---- what a node did

-- an event that a node accepted, and the outcome
pub record Deed (Msg : Type 0) : Type 0 where
  pub event : NodeEvent
  pub turn : Turn Msg

-- the core after these steps, newest first
abbrev pub core_behind : {Msg : Type 0} → List (Deed Msg) → Core Msg
core_behind [] = initial_core
core_behind (x ∷ xs) = x.turn.core

-- The history of node me, newest first: each entry is a step of the node from the core after the older ones.
abbrev pub IsLife : {Msg : Type 0} → Frame Msg → ℕ → List (Deed Msg) → Type 0
IsLife W me [] = Unit {0}
IsLife W me (x ∷ xs) = (step_in W me (core_behind xs) x.event ≡ Taken x.turn) × IsLife W me xs

-- the life of a node whose journal holds these events, newest first
abbrev pub and_deed : {Msg : Type 0} → Stepped Msg → NodeEvent → List (Deed Msg) → List (Deed Msg)
and_deed (Dropped why) event deeds = deeds
and_deed (Taken turn) event deeds = record { event = event; turn = turn } ∷ deeds

abbrev pub life_of : {Msg : Type 0} → Frame Msg → ℕ → List NodeEvent → List (Deed Msg)
life_of W me [] = []
life_of W me (event ∷ older) =
    let deeds = life_of W me older in
    and_deed (step_in W me (core_behind deeds) event) event deeds

-- ---- what it signed

-- the claims whose signatures are valid
abbrev pub verified : Rules → List Claim → List Claim
verified R claims = filter (λ (c : Claim). R.verifies c.by.0 c.statement c.sig) claims

-- the claims that the node received with valid signatures
abbrev pub told : {Msg : Type 0} → Frame Msg → ℕ → List (Deed Msg) → List Claim
told W me [] = []
told W me (x ∷ xs) = verified W.rules (claims_at_in W me (core_behind xs) x.event ++ x.turn.early) ++ told W me xs

-- the claim's statement is that of some leaf in the row, and its signature is by this leaf
pub record IsOfRow (R : Rules) (me : ℕ) (row : List (List ℕ)) (c : Claim) : Type 0 where
  pub leaf : ℕ
  pub statement : slice_get row leaf ≡ Some c.statement
  pub signature : c.sig ≡ R.signature me leaf c.statement

-- each own claim that the node sent is of the row, or the node had received it
abbrev pub AreOfRow : {Msg : Type 0} → Frame Msg → ℕ → List (List ℕ) → List (Deed Msg) → Type 0
AreOfRow W me row [] = Unit {0}
AreOfRow W me row (x ∷ xs) =
    ((c : Claim) → In c x.turn.own → IsOfRow W.rules me row c ⊎ In c (told W me (x ∷ xs))) × AreOfRow W me row xs

-- No leaf signs two statements: `row` gives each used leaf its one statement. So no leaf of any of the key's trees
-- does: a leaf of a top tree signs the root of its bottom tree alone (`trees`). Every signature of its own that the
-- node sends is by a leaf over that leaf's statement, or the node had received it.
-- rule: Signatures: A node signs at most one statement with each leaf
pub record SignsOnceEach {Msg : Type 0} (W : Frame Msg) (me : ℕ) (deeds : List (Deed Msg)) : Type 0 where
  pub row : List (List ℕ)
  pub each : length row ≡ (core_behind deeds).leaf
  pub trees : EachSignsOnce (node_secret me) W.setup.keys row
  pub own : AreOfRow W me row deeds

-- the own claims that a node sent
abbrev pub sent : {Msg : Type 0} → List (Deed Msg) → List Claim
sent [] = []
sent (x ∷ xs) = x.turn.own ++ sent xs

-- ---- what it sent

-- The packets of one send, of all sends of a step, and of a life, in the order in which they are posted.
abbrev pub packets_to : ℕ → List ℕ → List ℕ → List Sent
packets_to from bytes [] = []
packets_to from bytes (c ∷ cs) = record { from = from; to = c; bytes = bytes } ∷ packets_to from bytes cs

abbrev pub packets_in : Setup → ℕ → List (To × List ℕ) → List Sent
packets_in s from [] = []
packets_in s from (x ∷ xs) = packets_to from x.1 (addressees s x.0) ++ packets_in s from xs

abbrev pub packets_of : {Msg : Type 0} → Setup → ℕ → List (Deed Msg) → List Sent
packets_of s from [] = []
packets_of s from (x ∷ older) = packets_of s from older ++ packets_in s from x.turn.sends

-- ---- all cores

-- the packets of core c, and the statements of node i in the book
abbrev pub sent_by : ℕ → List Sent → List Sent
sent_by c packets = filter (λ (p : Sent). p.from == c) packets

abbrev pub signed_by : ℕ → List Signed → List Signed
signed_by i book = filter (λ (x : Signed). x.by == i) book

-- the life of core c, by the events in its journal
abbrev pub life_at : {Msg : Type 0} → Setup → Module Msg → Machines Msg → ℕ → List (Deed Msg)
life_at s M w c = life_of (frame_of s M) (node_of s c) (w.disks c).kept

-- No leaf of node i signs two statements, and each statement of the node in the book is that of one of its leaves. So
-- no leaf stands under two statements there.
pub record UsesLeavesOnce {Msg : Type 0} (W : Frame Msg) (i : ℕ) (deeds : List (Deed Msg))
    (book : List Signed) : Type 0 where
  pub signs : SignsOnceEach W i deeds
  pub booked : (x : Signed) → In x book → x.by ≡ i → (leaf : ℕ) × (slice_get signs.row leaf ≡ Some x.statement)

-- Cores, packets and book are those of the journals: an event that was not journaled left no trace, and a restart sends
-- and signs nothing again.
-- rule: Recovery: All that a core has signed and sent is of the events in its journal
pub record AreOfJournals {Msg : Type 0} (s : Setup) (M : Module Msg) (w : Machines Msg) : Type 0 where
  -- each core is the one that its journaled events lead to
  pub cores : (c : ℕ) → w.held.net.cores c ≡ core_behind (life_at s M w c)
  -- the packets of a core are those that its life made, in order
  pub packets : (c : ℕ) → sent_by c w.held.net.network.packets ≡ packets_of s c (life_at s M w c)
  -- The book has the statements that the life of each correct node signed and sent, newest first, and none of others.
  pub book : (i : ℕ) → is_correct s i ≡ true → signed_by i w.held.signed ≡ as_signed (sent (life_at s M w i))
  pub correct : (x : Signed) → In x w.held.signed → is_correct s x.by ≡ true
  -- no leaf of a correct node stands under two statements
  pub leaves : (i : ℕ) → is_correct s i ≡ true →
      UsesLeavesOnce (frame_of s M) i (life_at s M w i) w.held.signed
