-- Echo, a small Byzantine broadcast (3f+1 nodes, module 6). The leader sends a batch to all. Each node echoes the
-- digest of the first batch that it took at a slot. Echoes of a quorum decide what the node itself took there. Batches
-- are known by the digest of their string; what is taken is echoed once, with the next leaf, or two at the leader.
use Rattle.std.specs.Prelude.{◌≡◌, ℕ, ◌+◌, ◌^◌, ◌<◌, ◌==◌, ◌&&◌, ◌||◌, Bool, true, false, not, cond, nat_lt, nat_le, List, [], ◌∷◌, ◌++◌, length, Option, Some, None, is_some, if◌then◌else◌}
use Rattle.std.specs.Int.{to_be_bytes, w64}
use Rattle.iss_base.specs.Lists.{first_of, same_bytes}
use Rattle.iss_base.specs.Quorum.{count_below}
use Rattle.iss_request.specs.Digest.{digest}
use Rattle.iss_request.specs.Formats.{IsSpelledValue, batch_of, is_batch, is_signature, parse_signature, parse_value, spell_value, value_string}
use Rattle.iss_request.specs.Parsing.{Parser, ◌>>=◌, block, byte, done, number, such_that}
use Rattle.iss_request.specs.declared.ids.Slot.{Slot}
use Rattle.iss_request.specs.declared.requests.Batch.{Batch}
use Rattle.iss_request.specs.declared.requests.Value.{Value}
use Rattle.iss_request.specs.declared.requests.Value.TheVariants.{Batch as Value_batch}
use Rattle.iss_request.specs.Setup.{nodes_of_kind, quorum_of_kind}
use Rattle.iss_request.specs.declared.setups.Kind.TheVariants.{Byzantine}
use Rattle.iss_sb.specs.declared.effects.Claim.{Claim}
use Rattle.iss_sb.specs.declared.effects.Input.{Input}
use Rattle.iss_sb.specs.declared.effects.Input.TheVariants.{Cast, Receive, Timeout}
use Rattle.iss_sb.specs.declared.effects.Params.{Params}
use Rattle.iss_sb.specs.declared.effects.To.{To}
use Rattle.iss_sb.specs.declared.effects.To.TheVariants.{All as To_all}
use Rattle.iss_sb.specs.Calls.{has_slot}
use Rattle.iss_sb.specs.Evidence.{Item, Made, Module}
use Rattle.iss_sb.specs.Statements.{claim, eight_bytes, signature, statement_head}
use Rattle.sb_echo.specs.declared.word.Word.{Word}
use Rattle.sb_echo.specs.declared.word.Word.TheVariants.{Say, Echo as Echo_word}

-- ---- digests and statements

-- the string of a batch: that of the value that holds it
abbrev pub string_of : Params → Batch → List ℕ
string_of p b = value_string p.setup.version (Value_batch b)

abbrev pub digest_of : Params → Batch → List ℕ
digest_of p b = digest (string_of p b)

abbrev pub tag : ℕ
tag = 6

-- the signed statement: the instance, the kind of the message, the slot, the digest
abbrev pub statement : Params → ℕ → ℕ → List ℕ → List ℕ
statement p kind s d = statement_head p tag ++ (kind ∷ (eight_bytes s ++ d))

-- a message claims its own signature
-- rule: Echo: A message claims its sender's signature
abbrev pub claims : Params → ℕ → Word → List Claim
claims p from (Say slot batch sig) = claim from (statement p 1 slot.0 (digest_of p batch)) sig ∷ []
claims p from (Echo_word slot d sig) = claim from (statement p 2 slot.0 d) sig ∷ []

-- the messages that a node signs with a leaf
abbrev pub say : Params → ℕ → ℕ → Slot × Batch → Word
say p me leaf a = Say a.0 a.1 (signature p me leaf (statement p 1 a.0.0 (digest_of p a.1)))

abbrev pub echo_of : Params → ℕ → ℕ → Slot × Batch → Word
echo_of p me leaf a = Echo_word a.0 (digest_of p a.1) (signature p me leaf (statement p 2 a.0.0 (digest_of p a.1)))

-- ---- accepted batches

abbrev pub batch_for : ℕ → Option (Slot × Batch) → Option Batch
batch_for s None = None
batch_for s (Some a) = if a.0.0 == s then Some a.1 else None

-- the first batch that was accepted here at the slot
abbrev pub taken : ℕ → List (Item Word) → Option Batch
taken s [] = None
taken s (x ∷ xs) = first_of (taken s xs) (batch_for s x.made.accepted)

-- a slot of the segment at which no batch was accepted
abbrev pub is_open : Params → ℕ → List (Item Word) → Bool
is_open p s xs = has_slot s p.slots && not (is_some (taken s xs))

-- ---- rules

-- at an open slot the leader accepts a cast, and a node the leader's batch
-- rule: Echo: A node takes the leader's first batch for a slot and echoes its digest once
abbrev pub asks : Params → ℕ → List (Item Word) → Input Word → Option (Slot × Batch)
asks p me xs (Cast slot batch) = if (me == p.leader.0) && is_open p slot.0 xs then Some (slot, batch) else None
asks p me xs (Receive from (Say slot batch sig)) =
    if (from.0 == p.leader.0) && is_open p slot.0 xs then Some (slot, batch) else None
asks p me xs (Receive from (Echo_word slot d sig)) = None
asks p me xs Timeout = None

abbrev pub is_cast : Input Word → Bool
is_cast (Cast slot batch) = true
is_cast (Receive from msg) = false
is_cast Timeout = false

-- an accepted batch is echoed to all; the leader first sends it
abbrev pub words : Params → ℕ → ℕ → Bool → Slot × Batch → List (To × Word)
words p me leaf true a = (To_all, say p me leaf a) ∷ (To_all, echo_of p me (leaf + 1) a) ∷ []
words p me leaf false a = (To_all, echo_of p me leaf a) ∷ []

abbrev pub made_of : Params → ℕ → ℕ → Bool → Option (Slot × Batch) → Made Word
made_of p me leaf cast None = record { sends = []; accepted = None; strings = []; used = 0 }
made_of p me leaf cast (Some a) =
    record { sends = words p me leaf cast a; accepted = Some a; strings = string_of p a.1 ∷ []; used = cond cast 2 1 }

abbrev pub makes : Params → ℕ → List (Item Word) → Input Word → ℕ → Made Word
makes p me xs input leaf = made_of p me leaf (is_cast input) (asks p me xs input)

-- ---- what is decided

-- whether an input is node k's echo of the digest at the slot
abbrev pub is_echo : ℕ → List ℕ → ℕ → Input Word → Bool
is_echo s d k (Cast slot batch) = false
is_echo s d k (Receive from (Say slot batch sig)) = false
is_echo s d k (Receive from (Echo_word slot e sig)) = (from.0 == k) && ((slot.0 == s) && same_bytes e d)
is_echo s d k Timeout = false

abbrev pub has_echo : ℕ → List ℕ → ℕ → List (Item Word) → Bool
has_echo s d k [] = false
has_echo s d k (x ∷ xs) = is_echo s d k x.input || has_echo s d k xs

-- whether a quorum echoed the digest at the slot
abbrev pub is_echoed : Params → ℕ → List ℕ → List (Item Word) → Bool
is_echoed p s d xs = nat_le p.setup.quorum (count_below (λ k. has_echo s d k xs) p.setup.n)

abbrev pub decide : Params → ℕ → List (Item Word) → Option Batch → Option Value
decide p s xs None = None
decide p s xs (Some b) = if has_slot s p.slots && is_echoed p s (digest_of p b) xs then Some (Value_batch b) else None

-- rule: Echo: A quorum of echoes decides the batch that was taken
abbrev pub decided : Params → ℕ → List (Item Word) → ℕ → Option Value
decided p me xs s = decide p s xs (taken s xs)

-- ---- encoding

-- the table: a message's number, the slot, a value that is a batch, or the digest, and the signature
abbrev pub IsSpelledWord : ℕ → Word → List ℕ → Type 0
IsSpelledWord version (Say slot batch sig) bytes =
    (slot.0 < 2 ^ 64) × (is_signature sig ≡ true)
    × ((value : List ℕ) × IsSpelledValue version (Value_batch batch) value ×
    (bytes ≡ 1 ∷ to_be_bytes w64 slot.0 ++ value ++ sig))
IsSpelledWord version (Echo_word slot d sig) bytes =
    (slot.0 < 2 ^ 64) × (length d ≡ 32) × (is_signature sig ≡ true) × (bytes ≡ 2 ∷ to_be_bytes w64 slot.0 ++ d ++ sig)

-- a message without an encoding is written as the number of no message
abbrev pub spell : ℕ → Word → List ℕ
spell version (Say slot batch sig) =
    if nat_lt slot.0 (2 ^ 64) && is_signature sig then
    1 ∷ to_be_bytes w64 slot.0 ++ spell_value version (Value_batch batch) ++ sig else 0 ∷ []
spell version (Echo_word slot d sig) =
    if nat_lt slot.0 (2 ^ 64) && ((length d == 32) && is_signature sig) then 2 ∷ to_be_bytes w64 slot.0 ++ d ++ sig else
    0 ∷ []

unfoldable pub parse_say : ℕ → Parser Word
parse_say version = do
  slot ← number w64
  value ← such_that is_batch (parse_value version)
  sig ← parse_signature
  done (Say (record { 0 = slot }) (batch_of value) sig)

unfoldable pub parse_echo : Parser Word
parse_echo = do
  slot ← number w64
  d ← block 32
  sig ← parse_signature
  done (Echo_word (record { 0 = slot }) d sig)

unfoldable pub parse : ℕ → Parser Word
parse version = do
  message ← such_that (λ n. (n == 1) || (n == 2)) byte
  if message == 1 then parse_say version else parse_echo

-- ---- the module

-- f Byzantine nodes of 3f+1
abbrev pub echo : Module Word
echo = record {
  nodes = nodes_of_kind Byzantine;
  quorum = quorum_of_kind Byzantine;
  stopping = false;
  tag = tag;
  signs = λ p. 2;
  spell = spell;
  parse = parse;
  claims = claims;
  asks = asks;
  makes = makes;
  decided = decided;
}
