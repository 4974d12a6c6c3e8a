-- Facts about every reached world of chained HotStuff, in the order in which agreement follows from them. A replica
-- votes once a view, in ascending views. A vote's node stands on a certified one. A vote respects the lock, so
-- certified nodes of later views extend what was committed. What is delivered was accepted by each correct voter.
use Rattle.std.specs.Prelude.{◌≡◌, ◌<◌, ◌≤◌, ◌⊎◌, ℕ, suc, Bool, true, false, List, ◌∷◌, Some}
use Rattle.iss_base.specs.Lists.{In}
use Rattle.iss_base.specs.Quorum.{count_below}
use Rattle.iss_request.specs.declared.ids.NodeId.{NodeId}
use Rattle.iss_request.specs.declared.ids.Slot.{Slot}
use Rattle.iss_request.specs.declared.requests.Batch.{Batch}
use Rattle.iss_request.specs.declared.requests.Value.{Value}
use Rattle.iss_request.specs.declared.requests.Value.TheVariants.{Batch as Value_batch}
use Rattle.iss_sb.specs.declared.effects.Input.TheVariants.{Receive}
use Rattle.iss_sb.specs.declared.effects.Params.{Params}
use Rattle.iss_sb.specs.declared.effects.To.{To}
use Rattle.iss_sb.specs.Evidence.{Item, IsString, World, accepts, delivered, is_correct}
use Rattle.iss_sb.specs.Laws.{SharedAcceptor}
use Rattle.iss_sb.specs.Legal.{Front}
use Rattle.iss_sb.specs.declared.content.Content.{Content}
use Rattle.iss_sb.specs.declared.content.Content.TheVariants.{Holds}
use Rattle.hs_tree.specs.declared.messages.Message.{Message}
use Rattle.hs_tree.specs.declared.messages.Body.TheVariants.{Vote}
use Rattle.hs_tree.specs.Messages.{signed}
use Rattle.hs_tree.specs.Certificates.{digest_of}
use Rattle.hs_tree.specs.Statements.{inside}
use Rattle.hs_tree.specs.Tree.{root, value_at_slot}
use Rattle.sb_chained.specs.Chained.{chained}
use Rattle.sb_chained.specs.Rules.{is_good}
use Rattle.sb_chained.specs.Paths.{IsNode, Path}
use Rattle.hs_views.specs.Views.{leader_of, round_of}

-- ---- Votes

-- the replica sent the vote with this entry of its history
pub record VotedIn (x : Item Message) (view : ℕ) (d : List ℕ) : Type 0 where
  pub to : To
  pub sig : List ℕ
  pub sent : In {A = To × Message} (to, signed (Vote 1 view d) sig) x.made.sends

-- replica i sent the vote
pub record IsVoted (w : World Message) (i view : ℕ) (d : List ℕ) : Type 0 where
  pub item : Item Message
  pub taken : In item (w i)
  pub vote : VotedIn item view d

-- One step casts at most one vote, and later votes are in higher views.
-- rule: Chained HotStuff: A replica votes once a view, in ascending views
pub record VoteOnce (w : World Message) : Type 0 where
  pub one : (i : ℕ) (x : Item Message) (view v : ℕ) (d e : List ℕ) → In x (w i) → VotedIn x view d →
      VotedIn x v e → (view ≡ v) × (d ≡ e)
  pub ascending : (i : ℕ) (x y : Item Message) (before : List (Item Message)) (view v : ℕ) (d e : List ℕ) →
      Front (x ∷ before) (w i) → In y before →
      VotedIn x view d → VotedIn y v e → v < view

-- What a valid certificate implies: each correct replica of some quorum sent the vote.
pub record IsCertified (p : Params) (w : World Message) (view : ℕ) (d : List ℕ) : Type 0 where
  pub test : ℕ → Bool
  pub many : p.setup.quorum ≤ count_below test p.setup.n
  pub each : (k : ℕ) → test k ≡ true → is_correct p.setup k ≡ true → IsVoted w k view d

-- The certificate in each message that a replica received, if it is valid, is votes of a quorum.
abbrev pub AreCertified : Params → World Message → Type 0
AreCertified p w = (i view : ℕ) (x : Item Message) (from : NodeId) (msg : Message) → In x (w i) →
    x.input ≡ Receive from msg → is_good p view (inside msg.body) ≡ true →
    IsCertified p w view (digest_of (inside msg.body))

-- ---- Nodes and branches whose strings were hashed

-- the branch from node d down to its ancestor e has these contents, newest first
abbrev pub Leads : Params → World Message → List ℕ → List ℕ → List Content → Type 0
Leads p w d e cs = Path p.setup.version (IsString w) d e cs

-- node d has this view, parent and content
abbrev pub IsAt : Params → World Message → List ℕ → ℕ → List ℕ → Content → Type 0
IsAt p w d view parent what = IsNode p.setup.version (IsString w) d view parent what

-- The node of a vote has the vote's view. Its parent is the root, or has a certificate of a lower view.
pub record IsStanding (p : Params) (w : World Message) (view : ℕ) (d : List ℕ) : Type 0 where
  pub some : 1 ≤ view
  pub parent : List ℕ
  pub what : Content
  pub node : IsAt p w d view parent what
  pub just : (parent ≡ root) ⊎ ((x : ℕ) × (x < view) × IsCertified p w x parent)

-- this holds of each vote
abbrev pub AreStanding : Params → World Message → Type 0
AreStanding p w = (i view : ℕ) (d : List ℕ) → IsVoted w i view d → IsStanding p w view d

-- ---- Locks

-- node d has the grandparent z, of view t
pub record IsOver (p : Params) (w : World Message) (d : List ℕ) (t : ℕ) (z : List ℕ) : Type 0 where
  pub upper : ℕ
  pub middle : ℕ
  pub between : List ℕ
  pub first : Content
  pub second : Content
  pub top : IsAt p w d upper between first
  pub mid : IsAt p w between middle z second
  pub parent : List ℕ
  pub third : Content
  pub low : IsAt p w z t parent third

-- node e has view `high`, and its parent a certificate in a view strictly between these
pub record StandsAbove (p : Params) (w : World Message) (low high : ℕ) (e : List ℕ) : Type 0 where
  pub view : ℕ
  pub parent : List ℕ
  pub what : Content
  pub above : low < view
  pub below : view < high
  pub node : IsAt p w e high parent what
  pub certified : IsCertified p w view parent

-- A vote for node e in view v. Some node is locked (has a certificate) in a view from t to v - 1. Node e extends the
-- locked node, or its parent has a certificate above the lock (HotStuff: safeNode).
pub record IsSafeVote (p : Params) (w : World Message) (t v : ℕ) (e : List ℕ) : Type 0 where
  pub view : ℕ
  pub node : List ℕ
  pub high : t ≤ view
  pub low : view < v
  pub lock : IsCertified p w view node
  pub safe : ((cs : List Content) × Leads p w e node cs) ⊎ StandsAbove p w view v e

-- The leader of view v may see its own node certified, and lock on its parent, before it votes for the node itself.
-- Then a quorum without the leader voted for the node.
pub record IsLate (p : Params) (w : World Message) (i v : ℕ) (e : List ℕ) : Type 0 where
  pub leads : leader_of p (round_of v) ≡ i
  pub certified : IsCertified p w v e
  pub without : certified.test i ≡ false

-- A vote for d locks the grandparent of d. Each later vote of the same replica is safe against that lock, or late.
abbrev pub AreSafeVotes : Params → World Message → Type 0
AreSafeVotes p w = (i u v t : ℕ) (d e z : List ℕ) → IsVoted w i u d → IsVoted w i v e → u < v → IsOver p w d t z →
    IsSafeVote p w t v e ⊎ IsLate p w i v e

-- ---- What certificates imply

-- two certificates of one view are for one node
abbrev pub HaveOneNode : Params → World Message → Type 0
HaveOneNode p w = (view : ℕ) (d e : List ℕ) → IsCertified p w view d → IsCertified p w view e → d ≡ e

-- Node z of view t is committed: it is the lowest of three nodes of consecutive views, each the parent of the next, and
-- the highest is certified (HotStuff: three-chain).
pub record IsCommitted (p : Params) (w : World Message) (t : ℕ) (z : List ℕ) : Type 0 where
  pub top : List ℕ
  pub middle : List ℕ
  pub parent : List ℕ
  pub first : Content
  pub second : Content
  pub third : Content
  pub top_is : IsAt p w top (suc (suc t)) middle first
  pub middle_is : IsAt p w middle (suc t) z second
  pub node_is : IsAt p w z t parent third
  pub certified : IsCertified p w (suc (suc t)) top

-- a certified node of view v extends each committed node of a view t ≤ v
-- rule: Chained HotStuff: Certified nodes extend committed ones
abbrev pub AreExtending : Params → World Message → Type 0
AreExtending p w = (t v : ℕ) (z e : List ℕ) → t ≤ v → IsCommitted p w t z → IsCertified p w v e →
    (cs : List Content) × Leads p w e z cs

-- A delivered batch has a certified node, and each correct replica of its quorum accepted the batch at the slot.
pub record IsBacked (p : Params) (w : World Message) (s : Slot) (b : Batch) : Type 0 where
  pub view : ℕ
  pub node : List ℕ
  pub parent : List ℕ
  pub is : IsAt p w node view parent (Holds b)
  pub certified : IsCertified p w view node
  pub accepted : (k : ℕ) → certified.test k ≡ true → is_correct p.setup k ≡ true →
      In {A = Slot × Batch} (s, b) (accepts (w k))

-- this holds of each delivered batch
-- this holds of each delivered batch
abbrev pub AreBacked : Params → World Message → Type 0
AreBacked p w = (i : ℕ) (s : Slot) (b : Batch) → delivered chained p i (w i) s.0 ≡ Some (Value_batch b) →
    IsBacked p w s b

-- ---- What is delivered

-- A delivered value stands at its slot on the branch of a committed node.
pub record IsDecided (p : Params) (w : World Message) (n : ℕ) (x : Value) : Type 0 where
  pub view : ℕ
  pub node : List ℕ
  pub whats : List Content
  pub committed : IsCommitted p w view node
  pub is_branch : Leads p w node root whats
  pub value : value_at_slot whats 0 p.slots n ≡ Some x

-- this holds of each delivered value
abbrev pub AreDecided : Params → World Message → Type 0
AreDecided p w = (i n : ℕ) (x : Value) → delivered chained p i (w i) n ≡ Some x → IsDecided p w n x

-- agreement: two replicas that deliver a slot deliver the same value
abbrev pub AreAgreed : Params → World Message → Type 0
AreAgreed p w = (i j s : ℕ) (x y : Value) → delivered chained p i (w i) s ≡ Some x →
    delivered chained p j (w j) s ≡ Some y → x ≡ y

-- for any two delivered batches, some correct replica accepted both at their slots
abbrev pub HaveSharedAcceptor : Params → World Message → Type 0
HaveSharedAcceptor p w = (i j : ℕ) (s t : Slot) (b c : Batch) →
    delivered chained p i (w i) s.0 ≡ Some (Value_batch b) → delivered chained p j (w j) t.0 ≡ Some (Value_batch c) →
    SharedAcceptor p w s b t c

-- if the segment's leader is correct, it accepted each delivered batch at its slot
abbrev pub AreFromLeader : Params → World Message → Type 0
AreFromLeader p w = (i : ℕ) (s : Slot) (b : Batch) → is_correct p.setup p.leader.0 ≡ true →
    delivered chained p i (w i) s.0 ≡ Some (Value_batch b) → In {A = Slot × Batch} (s, b) (accepts (w p.leader.0))

-- if the segment's leader is correct, it accepts at most one batch at a slot
-- rule: Chained HotStuff: A correct leader accepts one batch a slot
abbrev pub AreOnce : Params → World Message → Type 0
AreOnce p w = is_correct p.setup p.leader.0 ≡ true → (slot : Slot) (b c : Batch) →
    In {A = Slot × Batch} (slot, b) (accepts (w p.leader.0)) →
    In {A = Slot × Batch} (slot, c) (accepts (w p.leader.0)) → b ≡ c
