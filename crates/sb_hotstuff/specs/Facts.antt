-- Facts about every reached world of HotStuff, in the order in which agreement follows from them. A node votes once
-- per view and phase. Votes of a later phase need a certificate of the one before. A vote respects the lock, so
-- certificates of later views extend what was decided. What is delivered was accepted by each correct voter.
use Rattle.std.specs.Prelude.{◌≡◌, ◌≢◌, ◌<◌, ◌≤◌, ◌⊎◌, ℕ, Bool, true, List, ◌∷◌, Some}
use Rattle.iss_base.specs.Lists.{In}
use Rattle.iss_base.specs.Quorum.{count_below}
use Rattle.iss_request.specs.declared.ids.NodeId.{NodeId}
use Rattle.iss_request.specs.declared.ids.Slot.{Slot}
use Rattle.iss_request.specs.declared.requests.Batch.{Batch}
use Rattle.iss_request.specs.declared.requests.Value.{Value}
use Rattle.iss_request.specs.declared.requests.Value.TheVariants.{Batch as Value_batch}
use Rattle.iss_sb.specs.declared.effects.Input.TheVariants.{Receive}
use Rattle.iss_sb.specs.declared.effects.Params.{Params}
use Rattle.iss_sb.specs.declared.effects.To.{To}
use Rattle.iss_sb.specs.Evidence.{Item, IsString, World, accepts, delivered, is_correct}
use Rattle.iss_sb.specs.Laws.{SharedAcceptor}
use Rattle.iss_sb.specs.Legal.{Front}
use Rattle.iss_sb.specs.declared.content.Content.{Content}
use Rattle.iss_sb.specs.declared.content.Content.TheVariants.{Holds}
use Rattle.hs_tree.specs.declared.messages.Message.{Message}
use Rattle.hs_tree.specs.declared.messages.Body.TheVariants.{Vote}
use Rattle.hs_tree.specs.Messages.{signed}
use Rattle.hs_tree.specs.Certificates.{digest_of, is_phase}
use Rattle.hs_tree.specs.Paths.{Has, Path, hash}
use Rattle.hs_tree.specs.Statements.{inside}
use Rattle.sb_hotstuff.specs.HotStuff.{hotstuff}
use Rattle.sb_hotstuff.specs.Rules.{is_good}

-- ---- Votes

-- the replica sent the vote with this entry of its history
pub record VotedIn (x : Item Message) (phase view : ℕ) (d : List ℕ) : Type 0 where
  pub to : To
  pub sig : List ℕ
  pub sent : In {A = To × Message} (to, signed (Vote phase view d) sig) x.made.sends

-- replica i sent the vote
pub record IsVoted (w : World Message) (i phase view : ℕ) (d : List ℕ) : Type 0 where
  pub item : Item Message
  pub taken : In item (w i)
  pub vote : VotedIn item phase view d

-- One step casts at most one vote. Later votes are in no lower view, and within one view each is for another phase.
-- rule: HotStuff: A replica votes once for a phase of a view, in views that never decrease
pub record VoteOnce (w : World Message) : Type 0 where
  pub one : (i : ℕ) (x : Item Message) (phase view q v : ℕ) (d e : List ℕ) → In x (w i) → VotedIn x phase view d →
      VotedIn x q v e →
      (phase ≡ q) × (view ≡ v) × (d ≡ e)
  pub ascending : (i : ℕ) (x y : Item Message) (before : List (Item Message)) (phase view q v : ℕ) (d e : List ℕ) →
      Front (x ∷ before) (w i) → In y before →
      VotedIn x phase view d → VotedIn y q v e → (v < view) ⊎ ((v ≡ view) × (q ≢ phase))

-- What a valid certificate implies: each correct replica of some quorum sent the vote.
pub record IsCertified (p : Params) (w : World Message) (phase view : ℕ) (d : List ℕ) : Type 0 where
  pub test : ℕ → Bool
  pub many : p.setup.quorum ≤ count_below test p.setup.n
  pub each : (k : ℕ) → test k ≡ true → is_correct p.setup k ≡ true → IsVoted w k phase view d

-- The certificate in each message that a replica received, if it is valid, is votes of a quorum.
abbrev pub AreCertified : Params → World Message → Type 0
AreCertified p w = (i phase view : ℕ) (x : Item Message) (from : NodeId) (msg : Message) → In x (w i) →
    x.input ≡ Receive from msg → is_good p phase view (inside msg.body) ≡ true →
    IsCertified p w phase view (digest_of (inside msg.body))

-- A pre-commit vote implies a prepareQC for its node in its view, and a commit vote implies a precommitQC.
pub record AreRested (p : Params) (w : World Message) : Type 0 where
  pub second : (i view : ℕ) (d : List ℕ) → IsVoted w i 2 view d → IsCertified p w 1 view d
  pub third : (i view : ℕ) (d : List ℕ) → IsVoted w i 3 view d → IsCertified p w 2 view d

-- ---- Branches whose strings were hashed

-- the branch from node d down to its ancestor e has these contents, newest first
abbrev pub Leads : Params → World Message → List ℕ → List ℕ → List Content → Type 0
Leads p w d e cs = Path p.setup.version (IsString w) d e cs

-- node e has a parent with a prepareQC in a view strictly between these
pub record StandsAbove (p : Params) (w : World Message) (low high : ℕ) (e : List ℕ) : Type 0 where
  pub view : ℕ
  pub parent : List ℕ
  pub what : Content
  pub above : low < view
  pub below : view < high
  pub has : Has p.setup.version (IsString w) parent what
  pub is : hash p.setup.version parent what ≡ e
  pub certified : IsCertified p w 1 view parent

-- A prepare vote for node e in view v, by a replica that cast a commit vote in an earlier view u. Some node is locked
-- (has a precommitQC) in a view from u to v - 1. Node e extends the locked node, or its parent has a prepareQC above
-- the lock (HotStuff: safeNode).
pub record IsSafeVote (p : Params) (w : World Message) (u v : ℕ) (e : List ℕ) : Type 0 where
  pub view : ℕ
  pub node : List ℕ
  pub high : u ≤ view
  pub low : view < v
  pub lock : IsCertified p w 2 view node
  pub safe : ((cs : List Content) × Leads p w e node cs) ⊎ StandsAbove p w view v e

-- each prepare vote after a commit vote of the same replica is safe
abbrev pub AreSafeVotes : Params → World Message → Type 0
AreSafeVotes p w = (i u v : ℕ) (d e : List ℕ) → IsVoted w i 3 u d → IsVoted w i 1 v e → u < v → IsSafeVote p w u v e

-- ---- What certificates imply

-- two certificates of one view, each of any of the three phases, are for one node
abbrev pub HaveOneNode : Params → World Message → Type 0
HaveOneNode p w = (q r view : ℕ) (d e : List ℕ) → is_phase 3 q ≡ true → is_phase 3 r ≡ true →
    IsCertified p w q view d → IsCertified p w r view e → d ≡ e

-- a node with a prepareQC in view v extends each node with a commitQC in a view u ≤ v
abbrev pub AreExtending : Params → World Message → Type 0
AreExtending p w = (u v : ℕ) (d e : List ℕ) → u ≤ v → IsCertified p w 3 u d → IsCertified p w 1 v e →
    (cs : List Content) × Leads p w e d cs

-- A delivered batch has a node with a prepareQC, and each correct replica of its quorum accepted the batch at the slot.
pub record IsBacked (p : Params) (w : World Message) (s : Slot) (b : Batch) : Type 0 where
  pub view : ℕ
  pub parent : List ℕ
  pub has : Has p.setup.version (IsString w) parent (Holds b)
  pub certified : IsCertified p w 1 view (hash p.setup.version parent (Holds b))
  pub accepted : (k : ℕ) → certified.test k ≡ true → is_correct p.setup k ≡ true →
      In {A = Slot × Batch} (s, b) (accepts (w k))

-- this holds of each delivered batch
abbrev pub AreBacked : Params → World Message → Type 0
AreBacked p w = (i : ℕ) (s : Slot) (b : Batch) → delivered hotstuff p i (w i) s.0 ≡ Some (Value_batch b) →
    IsBacked p w s b

-- ---- What is delivered

-- agreement: two replicas that deliver a slot deliver the same value
abbrev pub AreAgreed : Params → World Message → Type 0
AreAgreed p w = (i j s : ℕ) (x y : Value) → delivered hotstuff p i (w i) s ≡ Some x →
    delivered hotstuff p j (w j) s ≡ Some y → x ≡ y

-- for any two delivered batches, some correct replica accepted both at their slots
abbrev pub HaveSharedAcceptor : Params → World Message → Type 0
HaveSharedAcceptor p w = (i j : ℕ) (s t : Slot) (b c : Batch) →
    delivered hotstuff p i (w i) s.0 ≡ Some (Value_batch b) → delivered hotstuff p j (w j) t.0 ≡ Some (Value_batch c) →
    SharedAcceptor p w s b t c

-- if the segment's leader is correct, it accepted each delivered batch at its slot
abbrev pub AreFromLeader : Params → World Message → Type 0
AreFromLeader p w = (i : ℕ) (s : Slot) (b : Batch) → is_correct p.setup p.leader.0 ≡ true →
    delivered hotstuff p i (w i) s.0 ≡ Some (Value_batch b) → In {A = Slot × Batch} (s, b) (accepts (w p.leader.0))

-- if the segment's leader is correct, it accepts at most one batch at a slot
-- rule: HotStuff: A correct leader accepts one batch a slot
abbrev pub AreOnce : Params → World Message → Type 0
AreOnce p w = is_correct p.setup p.leader.0 ≡ true → (slot : Slot) (b c : Batch) →
    In {A = Slot × Batch} (slot, b) (accepts (w p.leader.0)) →
    In {A = Slot × Batch} (slot, c) (accepts (w p.leader.0)) → b ≡ c
