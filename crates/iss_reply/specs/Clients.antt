-- What a client believes. It counts one reply of each node to each request's identity. It believes an answer as soon
-- as f + 1 of them state the same epoch, number and answer (PBFT). One of these nodes is correct.
use Rattle.std.specs.Prelude.{◌≡◌, ℕ, ◌+◌, ◌≤◌, nat_lt, ◌==◌, ◌&&◌, ◌||◌, not, Bool, true, false, if◌then◌else◌, List, [], ◌∷◌, ◌++◌, Some, slice_get, unwrap_or}
use Rattle.std.specs.Map.{lookup}
use Rattle.std.specs.Str.{bytes_eq}
use Rattle.iss_base.specs.Lists.{In}
use Rattle.iss_base.specs.Quorum.{count_below}
use Rattle.iss_keys.specs.Directories.{public_keys_of}
use Rattle.iss_keys.specs.KeyStates.{PublicKeyView}
use Rattle.iss_keys.specs.VerifiedBy.{is_verified_by}
use Rattle.iss_request.specs.Log.{same_id}
use Rattle.iss_request.specs.declared.ids.ReqId.{ReqId}
use Rattle.iss_request.specs.declared.requests.Request.{Request}
use Rattle.iss_request.specs.declared.requests.Value.{Value}
use Rattle.iss_request.specs.declared.setups.Setup.{Setup}
use Rattle.iss_reply.specs.declared.clients.Refusal.TheVariants.{BadReply, Twice}
use Rattle.iss_reply.specs.declared.clients.Stated.{Stated}
use Rattle.iss_reply.specs.declared.clients.Taken.{Taken}
use Rattle.iss_reply.specs.declared.clients.Taken.TheVariants.{Counted, Accepted, Late, Refused}
use Rattle.iss_reply.specs.declared.replies.Reply.{Reply}
use Rattle.iss_reply.specs.Answers.{answer_at, requests_of}
use Rattle.iss_reply.specs.Replies.{reply_at, reply_secret, reply_statement, replying}

-- whose replies count: the cluster by its tag, the number of nodes that may be faulty, and the nodes' public reply keys
pub record Cluster : Type 0 where
  pub tag : List ℕ
  pub f : ℕ
  pub keys : List PublicKeyView

abbrev pub cluster_of : Setup → Cluster
cluster_of s = record { tag = s.tag; f = s.f; keys = public_keys_of reply_secret s.keys s.n }

-- whether the reply's node exists and signed it, with any leaf
-- rule: Replies: A reply counts only if its node's reply key signed it
abbrev pub is_signed : Cluster → Reply → Bool
is_signed c r = is_verified_by c.keys r.by.0 (reply_statement c.tag r.epoch.0 r.id r.q r.answer) r.sig

-- ---- the replies to one identity

-- what a reply states
abbrev pub stated_by : Reply → Stated
stated_by r = record { by = r.by; epoch = r.epoch; q = r.q; answer = r.answer }

-- whether both state the same epoch, number and answer
-- rule: Replies: Two replies agree if their epochs, numbers and answers are equal
abbrev pub agree : Stated → Stated → Bool
agree a b = (a.epoch.0 == b.epoch.0) && ((a.q == b.q) && bytes_eq a.answer b.answer)

-- how many of these agree with a reply
abbrev pub agreeing : Stated → List Stated → ℕ
agreeing a [] = 0
agreeing a (b ∷ bs) = (if agree a b then 1 else 0) + agreeing a bs

-- whether one of these is of this node
abbrev pub has_reply_of : ℕ → List Stated → Bool
has_reply_of by [] = false
has_reply_of by (b ∷ bs) = (b.by.0 == by) || has_reply_of by bs

-- whether more than f of all agree with one of these
abbrev pub some_agree : ℕ → List Stated → List Stated → Bool
some_agree f all [] = false
some_agree f all (b ∷ bs) = nat_lt f (agreeing b all) || some_agree f all bs

-- whether the identity has its answer
abbrev pub is_answered : ℕ → List Stated → Bool
is_answered f all = some_agree f all all

-- whether replies to the identity were counted, and it has no answer
abbrev pub is_open : ℕ → List Stated → Bool
is_open f [] = false
is_open f (b ∷ bs) = not (is_answered f (b ∷ bs))

-- ---- what becomes of a reply, given the counted ones to its identity

-- the reply counts; with f that agree it makes f + 1
-- rule: Replies: An answer is accepted as soon as f + 1 nodes gave it, and no earlier
abbrev pub accepted_with : ℕ → Reply → ℕ → Taken
accepted_with f r n = if n == f then Accepted r.q r.answer else Counted

-- rule: Replies: A client refuses a bad signature first, ignores what is late, and then refuses a second reply
abbrev pub judged : Cluster → List Stated → Reply → Taken
judged c all r =
    if not (is_signed c r) then Refused BadReply
    else if is_answered c.f all then Late
    else if has_reply_of r.by.0 all then Refused Twice
    else accepted_with c.f r (agreeing (stated_by r) all)

-- whether the reply was counted
abbrev pub counts : Taken → Bool
counts Counted = true
counts (Accepted q answer) = true
counts Late = false
counts (Refused why) = false

-- ---- lists of replies, newest first

-- what the counted replies to an identity state, oldest first
abbrev pub stated_to : ReqId → List Reply → List Stated
stated_to id [] = []
stated_to id (r ∷ earlier) = if same_id r.id id then stated_to id earlier ++ stated_by r ∷ [] else stated_to id earlier

abbrev pub outcome_after : Cluster → List Reply → Reply → Taken
outcome_after c counted r = judged c (stated_to r.id counted) r

-- the counted ones of the replies that a client took
abbrev pub counted : Cluster → List Reply → List Reply
counted c [] = []
counted c (r ∷ earlier) =
    if counts (outcome_after c (counted c earlier) r) then r ∷ counted c earlier else counted c earlier

-- what becomes of a reply, given all that the client took before
abbrev pub outcome : Cluster → List Reply → Reply → Taken
outcome c earlier r = outcome_after c (counted c earlier) r

-- the results of taking these replies, newest first
abbrev pub replied : Cluster → List Reply → List Taken
replied c [] = []
replied c (r ∷ earlier) = outcome c earlier r ∷ replied c earlier

-- whether a reply to the identity was counted and no answer accepted
abbrev pub is_open_after : Cluster → List Reply → ReqId → Bool
is_open_after c replies id = is_open c.f (stated_to id (counted c replies))

-- ---- what is seen of a client

pub record ClientState : Type 0 where
  pub cluster : Cluster
  -- what the counted replies state, by identity
  pub stated : List (ReqId × List Stated)

-- the counted replies to an identity
abbrev pub stated_in : List (ReqId × List Stated) → ReqId → List Stated
stated_in stated id = unwrap_or (lookup (same_id id) stated) []

-- the client took these replies
abbrev pub HasTaken : ClientState → List Reply → Type 0
HasTaken s replies = (id : ReqId) → stated_in s.stated id ≡ stated_to id (counted s.cluster replies)

-- ---- what a client may believe

-- the reply states what its node's reply to this request of the log states
pub record IsReplyOf (s : Setup) (log : List Value) (r : Reply) : Type 0 where
  pub own : Reply
  pub made : reply_at (replying s r.by.0) log r.q ≡ Some own
  pub epoch : r.epoch ≡ own.epoch
  pub id : r.id ≡ own.id
  pub answer : r.answer ≡ own.answer

-- At most f nodes are faulty. Each reply that verifies under a correct node's key is that node's reply to a request of
-- the log: no reply of a correct node was forged.
pub record AreHonest (s : Setup) (correct : ℕ → Bool) (log : List Value) (replies : List Reply) : Type 0 where
  pub few : count_below (λ i. not (correct i)) s.n ≤ s.f
  pub own : (r : Reply) → In r replies → is_signed (cluster_of s) r ≡ true → correct r.by.0 ≡ true → IsReplyOf s log r

-- request q of the log has this identity and this answer
pub record IsAnswer (log : List Value) (id : ReqId) (q : ℕ) (answer : List ℕ) : Type 0 where
  pub request : Request
  pub there : slice_get (requests_of log) q ≡ Some request
  pub own : request.id ≡ id
  pub given : answer_at log q ≡ Some answer

-- an accepted answer is the log's answer to request q, whose identity is the reply's
-- rule: Replies: An accepted answer is the log's answer to the request with this number and identity
abbrev pub IsBelieved : List Value → Reply → Taken → Type 0
IsBelieved log r (Accepted q answer) = IsAnswer log r.id q answer
IsBelieved log r Counted = Unit {0}
IsBelieved log r Late = Unit {0}
IsBelieved log r (Refused why) = Unit {0}
