-- Reply keys, and what a reply signs. A node has a key of its own for replies, whose secret follows from its number
-- alone. It signs the reply to request q with leaf q, so it signs one reply with each leaf.
--
--   statement   cluster tag (32 bytes), epoch (8), 254, 0, 0, client (1), number (4), q (8), length (2), answer
use Rattle.std.specs.Prelude.{◌≡◌, ℕ, zero, suc, ◌-◌, ◌/◌, ◌%◌, ◌^◌, min, nat_lt, if◌then◌else◌, List, [], ◌∷◌, ◌++◌, length, take, Option, Some, None, slice_get}
use Rattle.std.specs.Int.{w16, w32, w64, to_be_bytes}
use Rattle.sha2.specs.Sha256.{sha256}
use Rattle.iss_base.specs.Heights.{has_two_levels}
use Rattle.iss_keys.specs.KeyStates.{KeyState}
use Rattle.iss_keys.specs.Signatures.{signature_of}
use Rattle.iss_request.specs.Log.{requests, size_of}
use Rattle.iss_request.specs.declared.ids.ReqId.{ReqId}
use Rattle.iss_request.specs.declared.requests.Request.{Request}
use Rattle.iss_request.specs.declared.requests.Value.{Value}
use Rattle.iss_request.specs.declared.setups.Setup.{Setup}
use Rattle.iss_reply.specs.declared.replies.Reply.{Reply}
use Rattle.iss_reply.specs.Answers.{answer_to, held_after, requests_of}

-- ---- keys

-- the secret of node i's reply key
-- rule: Replies: A node's reply key has a secret of its own, made behind a byte that no other key uses
abbrev pub reply_secret : ℕ → List ℕ
reply_secret i = sha256 (0x22 ∷ i ∷ [])

-- the reply key of node i, with a tree of height h; no leaf is counted as used
abbrev pub reply_key : ℕ → ℕ → KeyState
reply_key i h = record { secret = reply_secret i; height = h; used = 0 }

-- ---- statements

-- what a reply signs
-- rule: Replies: A reply signs the cluster, the epoch, the request's identity and number, and the answer
abbrev pub reply_statement : List ℕ → ℕ → ReqId → ℕ → List ℕ → List ℕ
reply_statement tag epoch id q answer =
    tag ++ to_be_bytes w64 epoch ++ 254 ∷ 0 ∷ 0 ∷ [] ++ id.client ∷ [] ++ to_be_bytes w32 id.number
    ++ to_be_bytes w64 q ++ to_be_bytes w16 (length answer % 65536) ++ answer

-- ---- the replies of a node

-- whose replies: the cluster by its tag, its number of slots in an epoch, its trees' height, and the node
pub record Replying : Type 0 where
  pub tag : List ℕ
  pub slots : ℕ
  pub height : ℕ
  pub me : ℕ

abbrev pub replying : Setup → ℕ → Replying
replying s me = record { tag = s.tag; slots = s.epoch; height = s.keys; me = me }

-- the slot of request q of a log
abbrev pub slot_of : List Value → ℕ → ℕ
slot_of [] q = 0
slot_of (v ∷ later) q = if nat_lt q (size_of v) then 0 else suc (slot_of later (q - size_of v))

-- the reply with this answer to a request with number q in an epoch, before it is signed
abbrev pub unsigned_reply : Replying → ℕ → ReqId → ℕ → List ℕ → Reply
unsigned_reply w epoch id q answer = record {
  by = record { 0 = w.me };
  epoch = record { 0 = epoch };
  q = q;
  id = id;
  answer = answer;
  sig = [];
}

-- the same reply, signed
abbrev pub signed_reply : Replying → ℕ → ReqId → ℕ → List ℕ → Reply
signed_reply w epoch id q answer = record (unsigned_reply w epoch id q answer) {
  sig = signature_of (reply_secret w.me) w.height q (reply_statement w.tag epoch id q answer);
}

-- the node's reply to request q of a log
-- rule: Replies: A node signs its reply to request q with leaf q of its reply key
abbrev pub reply_to : Replying → List Value → ℕ → Option Request → Option Reply
reply_to w log q None = None
reply_to w log q (Some r) =
    Some (signed_reply w (slot_of log q / w.slots) r.id q (answer_to (held_after (take q (requests_of log))) r.payload))

abbrev pub reply_at : Replying → List Value → ℕ → Option Reply
reply_at w log q = reply_to w log q (slice_get (requests_of log) q)

abbrev pub and_reply : List Reply → Option Reply → List Reply
and_reply replies None = replies
and_reply replies (Some r) = replies ++ r ∷ []

-- the node's replies to the requests of a log with numbers below q
abbrev pub replies_below : Replying → List Value → ℕ → List Reply
replies_below w log zero = []
replies_below w log (suc q) = and_reply (replies_below w log q) (reply_at w log q)

-- all of the node's replies to the requests of a log: one for each, as far as the reply key has leaves
-- rule: Replies: A node writes one reply to each request of its log, as far as its key has leaves
abbrev pub replies_to : Replying → List Value → List Reply
replies_to w log = replies_below w log (min (requests log) (2 ^ w.height))

-- ---- reply keys are apart from all others

-- SHA-256 does not collide on these two strings
abbrev pub Separates : List ℕ → List ℕ → Type 0
Separates a b = sha256 a ≡ sha256 b → a ≡ b

-- the strings hashed for the start of a chain, and for a secret
abbrev pub chain_string : List ℕ → ℕ → ℕ → List ℕ
chain_string secret q i = 0x10 ∷ secret ++ to_be_bytes w32 q ++ to_be_bytes w16 i

-- The string whose hash is the secret of a tree of a key, where the hash of `own` is the key's secret. Tree 0 is the
-- only one or the top tree, tree b + 1 is bottom tree b.
abbrev pub tree_string : List ℕ → ℕ → ℕ → List ℕ
tree_string own h zero = if has_two_levels h then 0x16 ∷ sha256 own else own
tree_string own h (suc b) = 0x15 ∷ sha256 own ++ to_be_bytes w32 b
