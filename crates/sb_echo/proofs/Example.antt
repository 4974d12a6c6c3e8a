-- Echo on a worked example: four nodes, of which node 0 leads the slots 0 and 4.
use Rattle.std.proofs.Common.{◌≡◌, ◌+◌, ◌*◌, ℕ, List, [], ◌∷◌, ◌++◌, Some, None, refl}
use Rattle.std.specs.Prelude.{replicate}
use Rattle.sha2.specs.Sha256.{sha256, digest_bytes, hash_after, compress, rounds, schedule, first_words}
use Rattle.iss_base.specs.Heights.{digests_of_height}
use Rattle.iss_keys.specs.Directories.{directory_of}
use Rattle.iss_request.specs.Formats.{spell_batch, spell_count, spell_value}
use Rattle.iss_request.specs.declared.ids.NodeId.{NodeId}
use Rattle.iss_request.specs.declared.ids.Slot.{Slot}
use Rattle.iss_request.specs.declared.requests.Batch.{Batch}
use Rattle.iss_request.specs.declared.requests.Value.TheVariants.{Batch as Value_batch}
use Rattle.iss_request.specs.declared.setups.Kind.TheVariants.{Byzantine}
use Rattle.iss_request.specs.declared.setups.Policy.TheVariants.{Simple}
use Rattle.iss_request.specs.declared.setups.Setup.{Setup}
use Rattle.iss_sb.specs.declared.effects.Input.TheVariants.{Cast, Receive}
use Rattle.iss_sb.specs.declared.effects.Params.{Params}
use Rattle.iss_sb.specs.declared.effects.To.TheVariants.{All as To_all}
use Rattle.iss_sb.specs.Evidence.{Item, and_then, delivered}
use Rattle.iss_sb.specs.Statements.{signature, wide_bytes}
use Rattle.sb_echo.specs.declared.word.Word.{Word}
use Rattle.sb_echo.specs.declared.word.Word.TheVariants.{Say, Echo as Echo_word}
use Rattle.sb_echo.specs.Echo.{asks, claims, digest_of, echo, spell, statement, string_of}

abbrev pub slot : ℕ → Slot
slot n = record { 0 = n }

abbrev pub node : ℕ → NodeId
node n = record { 0 = n }

-- node 3 is Byzantine
abbrev pub setup : Setup
setup = record {
  version = 1;
  «module» = 6;
  f = 1;
  epoch = 8;
  buckets = 4;
  batch = 4;
  window = 4;
  policy = Simple;
  clients = 1;
  keys = 4;
  faulty = node 3 ∷ [];
  n = 4;
  quorum = 3;
  kind = Byzantine;
  tag = replicate 32 7;
}

abbrev pub p : Params
p = record { setup = setup; epoch = record { 0 = 2 }; leader = node 0; slots = slot 0 ∷ slot 4 ∷ []; directory = directory_of 4 1 4 }

-- the empty batch
abbrev pub b : Batch
b = []

abbrev pub d : List ℕ
d = digest_of p b

-- a node's signature, with a leaf, of its message of this kind for slot 0
abbrev pub sig : ℕ → ℕ → ℕ → List ℕ
sig k kind leaf = signature p k leaf (statement p kind 0 d)

-- the leader casts it at slot 0, with leaf 5 as its next
abbrev pub cast : List (Item Word)
cast = and_then echo p 0 [] (Cast (slot 0) b) 5

casts : cast ≡ record { input = Cast (slot 0) b; leaf = 5; made = record { sends = (To_all, Say (slot 0) b (sig 0 1 5)) ∷ (To_all, Echo_word (slot 0) d (sig 0 2 6)) ∷ []; accepted = Some (slot 0, b); strings = string_of p b ∷ []; used = 2 } } ∷ []
casts = refl

casts_once : asks p 0 cast (Cast (slot 0) b) ≡ None
casts_once = refl

casts_another : asks p 0 cast (Cast (slot 4) b) ≡ Some (slot 4, b)
casts_another = refl

-- its own message has no effect, since the cast accepted the batch
no_word_to_itself : asks p 0 cast (Receive (node 0) (Say (slot 0) b (sig 0 1 5))) ≡ None
no_word_to_itself = refl

-- node 1 accepts the batch, and echoes it
abbrev pub word : List (Item Word)
word = and_then echo p 1 [] (Receive (node 0) (Say (slot 0) b (sig 0 1 5))) 9

echoes : word ≡ record { input = Receive (node 0) (Say (slot 0) b (sig 0 1 5)); leaf = 9; made = record { sends = (To_all, Echo_word (slot 0) d (sig 1 2 9)) ∷ []; accepted = Some (slot 0, b); strings = string_of p b ∷ []; used = 1 } } ∷ []
echoes = refl

no_word_outside : asks p 1 [] (Receive (node 0) (Say (slot 1) b [])) ≡ None
no_word_outside = refl

no_word_of_another : asks p 1 [] (Receive (node 2) (Say (slot 0) b [])) ≡ None
no_word_of_another = refl

-- what is signed: the head, the kind, the slot, the digest
states : claims p 1 (Echo_word (slot 4) (9 ∷ []) []) ≡ record { by = node 1; statement = statement p 2 4 (9 ∷ []); sig = [] } ∷ []
states = refl

abbrev pub echo_from : ℕ → List (Item Word) → List (Item Word)
echo_from k xs = and_then echo p 1 xs (Receive (node k) (Echo_word (slot 0) d (sig k 2 0))) 0

-- two echoes, one of them received twice, decide nothing; the third one decides, and the fourth changes nothing
two : delivered echo p 1 (echo_from 1 (echo_from 0 (echo_from 0 word))) 0 ≡ None
unfolding sha256 digest_bytes hash_after compress rounds schedule first_words spell_batch spell_count spell_value
two = refl

three : delivered echo p 1 (echo_from 2 (echo_from 1 (echo_from 0 word))) 0 ≡ Some (Value_batch b)
unfolding sha256 digest_bytes hash_after compress rounds schedule first_words spell_batch spell_count spell_value
three = refl

four : delivered echo p 1 (echo_from 3 (echo_from 2 (echo_from 1 (echo_from 0 word)))) 0 ≡ Some (Value_batch b)
unfolding sha256 digest_bytes hash_after compress rounds schedule first_words spell_batch spell_count spell_value
four = refl

-- echoes alone deliver nothing, nor does a batch alone
no_word : delivered echo p 1 (echo_from 2 (echo_from 1 (echo_from 0 []))) 0 ≡ None
no_word = refl

no_echo : delivered echo p 1 word 0 ≡ None
no_echo = refl

-- why a message must have an encoding: different batches without one may have the same string, and so the same digest
abbrev many : ℕ → Batch
many n = replicate n (record { id = record { client = 0; number = 0 }; payload = []; sig = [] })

one-string : string_of p (many 33) ≡ string_of p (many 34)
unfolding spell_batch spell_count spell_value
one-string = refl

-- encodings: zeros of the right length are the signatures
abbrev blank : List ℕ
blank = 2 ∷ replicate (4 + 32 * 69) 0

say-bytes : spell 1 (Say (slot 259) [] blank) ≡ 1 ∷ 0 ∷ 0 ∷ 0 ∷ 0 ∷ 0 ∷ 0 ∷ 1 ∷ 3 ∷ 1 ∷ 0 ∷ blank
unfolding spell_batch spell_count spell_value digests_of_height
say-bytes = refl

say-bytes-second : spell 2 (Say (slot 259) [] blank) ≡ 1 ∷ 0 ∷ 0 ∷ 0 ∷ 0 ∷ 0 ∷ 0 ∷ 1 ∷ 3 ∷ 2 ∷ 0 ∷ 0 ∷ blank
unfolding spell_batch spell_count spell_value digests_of_height
say-bytes-second = refl

echo-bytes : spell 1 (Echo_word (slot 4) (replicate 32 9) blank) ≡ 2 ∷ 0 ∷ 0 ∷ 0 ∷ 0 ∷ 0 ∷ 0 ∷ 0 ∷ 4 ∷ replicate 32 9 ++ blank
unfolding digests_of_height
echo-bytes = refl

-- a message with a short digest has no encoding
no-bytes : spell 1 (Echo_word (slot 4) (replicate 31 9) blank) ≡ 0 ∷ []
unfolding digests_of_height
no-bytes = refl

-- the statement of an echo: the cluster, epoch 2, leader 0, the module, an echo, slot 4, the digest
statement-bytes : statement p 2 4 (9 ∷ []) ≡ replicate 32 7 ++ (0 ∷ 0 ∷ 0 ∷ 0 ∷ 0 ∷ 0 ∷ 0 ∷ 2 ∷ 0 ∷ 6 ∷ 2 ∷ 0 ∷ 0 ∷ 0 ∷ 0 ∷ 0 ∷ 0 ∷ 0 ∷ 4 ∷ 9 ∷ [])
unfolding wide_bytes
statement-bytes = refl
