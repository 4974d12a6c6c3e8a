-- What an ordering module is, over the list of all inputs that a replica took, newest first. An item is an input, the
-- least unused leaf, and what was made at it. A module says what an input asks to accept, what it makes, and what the
-- list decides at a slot. A world of one instance has such a list for each node. One move: a correct node takes an
-- input that may come. Stopping nodes get messages that were sent; else any message may come that decodes, whose
-- claims verify, and whose claims of correct nodes are true.
use Rattle.std.specs.Prelude.{◌≡◌, ◌≢◌, ℕ, ◌<◌, Bool, true, false, ◌&&◌, not, nat_lt, ◌==◌, ◌||◌, List, [], ◌∷◌, ◌++◌, Option, Some, None, ◌⊎◌}
use Rattle.iss_base.specs.Lists.{In, first_of}
use Rattle.iss_request.specs.Digest.{digest}
use Rattle.iss_keys.specs.Directories.{VerifiesBy}
use Rattle.iss_request.specs.Fields.{IsReadAgain, Parsed}
use Rattle.iss_request.specs.Formats.{parse_value, spell_value}
use Rattle.iss_request.specs.declared.ids.NodeId.{NodeId}
use Rattle.iss_request.specs.declared.ids.Slot.{Slot}
use Rattle.iss_request.specs.declared.requests.Batch.{Batch}
use Rattle.iss_request.specs.declared.requests.Value.{Value}
use Rattle.iss_request.specs.declared.requests.Value.TheVariants.{Batch as Value_batch}
use Rattle.iss_request.specs.declared.setups.Setup.{Setup}
use Rattle.iss_sb.specs.declared.effects.Claim.{Claim}
use Rattle.iss_sb.specs.declared.effects.Input.{Input}
use Rattle.iss_sb.specs.declared.effects.Input.TheVariants.{Cast, Receive, Timeout}
use Rattle.iss_sb.specs.declared.effects.Params.{Params}
use Rattle.iss_sb.specs.declared.effects.To.{To}
use Rattle.iss_sb.specs.declared.effects.To.TheVariants.{All as To_all, One as To_one}

-- What a node makes of one input: messages, the batch that it accepts, strings that it hashes, and the number of leaves
-- used.
pub record Made (M : Type 0) : Type 0 where
  pub sends : List (To × M)
  pub accepted : Option (Slot × Batch)
  pub strings : List (List ℕ)
  pub used : ℕ

-- An entry of a history: an input that a node took, the node's next unused leaf at that time, and what it made of the
-- input.
pub record Item (M : Type 0) : Type 0 where
  pub input : Input M
  pub leaf : ℕ
  pub made : Made M

-- The world of one instance: the history of each correct node. What was accepted, sent, signed and hashed is computed
-- from these.
abbrev pub World : Type 0 → Type 0
World M = ℕ → List (Item M)

-- no node took anything
abbrev pub empty_world : {M : Type 0} → World M
empty_world i = []

-- The model of a module: functions of a node's history, which is the list of all inputs that it took. Nodes are
-- numbers.
pub record Module (M : Type 0) : Type 1 where
  -- The number of nodes and the quorum for f faults, whether faulty nodes only stop, the module's tag, and the most
  -- signatures of a step.
  pub nodes : ℕ → ℕ
  pub quorum : ℕ → ℕ
  pub stopping : Bool
  pub tag : ℕ
  pub signs : Params → ℕ
  -- By format version: the encoding of a message, and the message at the start of bytes. Then the claims in a message
  -- from a sender.
  pub spell : ℕ → M → List ℕ
  pub parse : ℕ → List ℕ → Parsed M
  pub claims : Params → ℕ → M → List Claim
  -- The batch that a node would accept with an input; what it makes of the input, with its next leaf; the value that it
  -- has decided at a slot.
  pub asks : Params → ℕ → List (Item M) → Input M → Option (Slot × Batch)
  pub makes : Params → ℕ → List (Item M) → Input M → ℕ → Made M
  pub decided : Params → ℕ → List (Item M) → ℕ → Option Value

-- The value decided at slot s by the shortest prefix of the history (in time) that decides s. Hence a delivery never
-- changes.
abbrev pub delivered : {M : Type 0} → Module M → Params → ℕ → List (Item M) → ℕ → Option Value
delivered m p me [] s = None
delivered m p me (x ∷ xs) s = first_of (delivered m p me xs s) (m.decided p me (x ∷ xs) s)

-- the history with one more input
abbrev pub and_then : {M : Type 0} → Module M → Params → ℕ → List (Item M) → Input M → ℕ → List (Item M)
and_then m p me xs input leaf = record { input = input; leaf = leaf; made = m.makes p me xs input leaf } ∷ xs

-- an option as a list
abbrev pub one_or_none : {A : Type 0} → Option A → List A
one_or_none None = []
one_or_none (Some x) = x ∷ []

-- the accepted batches with their slots, newest first
abbrev pub accepts : {M : Type 0} → List (Item M) → List (Slot × Batch)
accepts [] = []
accepts (x ∷ xs) = one_or_none x.made.accepted ++ accepts xs

-- whether node i is in the list
abbrev pub has_node : ℕ → List NodeId → Bool
has_node i [] = false
has_node i (k ∷ ks) = (i == k.0) || has_node i ks

-- a node is correct if it exists and the set-up does not name it as faulty
abbrev pub is_correct : Setup → ℕ → Bool
is_correct s i = nat_lt i s.n && not (has_node i s.faulty)

-- node i is a recipient
abbrev pub Reaches : To → ℕ → Type 0
Reaches To_all i = Unit {0}
Reaches (To_one k) i = k.0 ≡ i

-- node `from` sent the message, and node i is a recipient
pub record IsSent {M : Type 0} (w : World M) (from i : ℕ) (msg : M) : Type 0 where
  pub item : Item M
  pub taken : In item (w from)
  pub to : To
  pub reaches : Reaches to i
  pub sent : In {A = To × M} (to, msg) item.made.sends

-- node i sent a message in which it claims its own signature of the statement
pub record IsSigned {M : Type 0} (m : Module M) (p : Params) (w : World M) (i : ℕ) (statement : List ℕ) : Type 0 where
  pub item : Item M
  pub taken : In item (w i)
  pub to : To
  pub msg : M
  pub sent : In {A = To × M} (to, msg) item.made.sends
  pub claim : Claim
  pub made : In claim (m.claims p i msg)
  pub by : claim.by.0 ≡ i
  pub is : claim.statement ≡ statement

-- some node of the world hashed the string
pub record IsHashed {M : Type 0} (w : World M) (string : List ℕ) : Type 0 where
  pub node : ℕ
  pub item : Item M
  pub taken : In item (w node)
  pub hashed : In string item.made.strings

-- a string hashed in the world, or the empty string
abbrev pub IsString : {M : Type 0} → World M → List ℕ → Type 0
IsString w string = (string ≡ []) ⊎ IsHashed w string

-- SHA-256 does not collide on these strings
abbrev pub Separate : (List ℕ → Type 0) → Type 0
Separate Is = (a b : List ℕ) → Is a → Is b → digest a ≡ digest b → a ≡ b

-- the claim's signature is valid under the key of the node that it names
abbrev pub Verifies : Params → Claim → Type 0
Verifies p c = VerifiesBy p.directory.nodes c.by.0 c.statement c.sig

-- The batch, or the message, has an encoding: decoding its bytes gives it back. So it is with all that was received as
-- bytes.
abbrev pub IsReadBatch : Params → Batch → Type 0
IsReadBatch p batch = IsReadAgain (spell_value p.setup.version) (parse_value p.setup.version) (Value_batch batch)

abbrev pub IsReadMessage : {M : Type 0} → Module M → Params → M → Type 0
IsReadMessage m p msg = IsReadAgain (m.spell p.setup.version) (m.parse p.setup.version) msg

-- Byzantine delivery. The adversary may deliver any message that decodes, names an existing sender, carries only valid
-- signatures, and attributes to correct nodes only statements that they signed.
pub record IsCredible {M : Type 0} (m : Module M) (p : Params) (Verified : Claim → Type 0)
    (Signed : ℕ → List ℕ → Type 0) (from : ℕ) (msg : M) : Type 0 where
  pub named : from < p.setup.n
  pub read : IsReadMessage m p msg
  pub verified : (c : Claim) → In c (m.claims p from msg) → Verified c
  pub signed : (c : Claim) → In c (m.claims p from msg) → is_correct p.setup c.by.0 ≡ true → Signed c.by.0 c.statement

-- Which messages node i may receive. Crash-stop: those sent to it. Byzantine: any credible message.
-- rule: Modules: A message that arrives was sent, or verifies and its correct signers signed it
abbrev pub MayArrive : {M : Type 0} → Bool → Module M → Params → World M → ℕ → ℕ → M → Type 0
MayArrive true m p w i from msg = IsSent w from i msg
MayArrive false m p w i from msg = IsCredible m p (Verifies p) (IsSigned m p w) from msg

-- Which inputs node i may take: proposals only as the leader, with a batch that has an encoding; messages as above;
-- timeouts at any time.
abbrev pub MayCome : {M : Type 0} → Module M → Params → World M → ℕ → Input M → Type 0
MayCome m p w i (Cast slot batch) = (i ≡ p.leader.0) × IsReadBatch p batch
MayCome m p w i (Receive from msg) = MayArrive m.stopping m p w i from.0 msg
MayCome m p w i Timeout = Unit {0}

-- One correct node takes one input, with verdict true. (With verdict false nothing changes, so that is no move.)
pub record Move {M : Type 0} (m : Module M) (p : Params) (w later : World M) : Type 0 where
  pub node : ℕ
  pub correct : is_correct p.setup node ≡ true
  pub input : Input M
  pub may : MayCome m p w node input
  pub leaf : ℕ
  pub takes : later node ≡ and_then m p node (w node) input leaf
  pub others : (i : ℕ) → i ≢ node → later i ≡ w i

-- the worlds that moves can reach
pub data IsReached {M : Type 0} (m : Module M) (p : Params) : World M → Type 0 where
  at_start : IsReached m p empty_world
  after : {w later : World M} → IsReached m p w → Move m p w later → IsReached m p later
