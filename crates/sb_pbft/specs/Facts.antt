-- Facts about every reached world of PBFT, from which agreement follows. A correct replica signs one PrePrepare,
-- Prepare and Commit per view and slot. Its ViewChange shows a certificate for each slot that it committed. A new view
-- proposes the choice of 2f+1 ViewChanges. So from a decided view on, good certificates have its digest. Nothing is
-- known about Byzantine replicas.
use Rattle.std.specs.Prelude.{◌≡◌, ◌<◌, ◌≤◌, ℕ, ◌+◌, ◌*◌, true, List, ◌∷◌, length, Some}
use Rattle.iss_base.specs.Lists.{In}
use Rattle.iss_base.specs.Quorum.{all_below, distinct, mem}
use Rattle.iss_request.specs.declared.ids.Slot.{Slot}
use Rattle.iss_request.specs.declared.requests.Batch.{Batch}
use Rattle.iss_request.specs.declared.requests.Value.{Value}
use Rattle.iss_request.specs.declared.requests.Value.TheVariants.{Batch as Value_batch}
use Rattle.iss_sb.specs.declared.effects.Claim.{Claim}
use Rattle.iss_sb.specs.declared.effects.Params.{Params}
use Rattle.iss_sb.specs.declared.effects.To.{To}
use Rattle.iss_sb.specs.Evidence.{IsSigned, IsString, Item, World, accepts, delivered, is_correct}
use Rattle.iss_sb.specs.Legal.{Front}
use Rattle.pbft_wire.specs.declared.messages.Certificate.{Certificate}
use Rattle.pbft_wire.specs.declared.messages.Change.{Change}
use Rattle.pbft_wire.specs.declared.messages.Message.{Message}
use Rattle.pbft_wire.specs.Signed.{Commit, ViewChange}
use Rattle.pbft_wire.specs.Certificates.{fits_value}
use Rattle.pbft_wire.specs.Statements.{digest_of, state_at, state_change, string_of}
use Rattle.pbft_views.specs.Choice.{choice}
use Rattle.pbft_views.specs.Claims.{certificate_claims, changes_claims}
use Rattle.pbft_views.specs.Good.{are_enough, is_good}
use Rattle.sb_pbft.specs.Pbft.{pbft}

-- ---- votes

-- replica i is correct and signed a PrePrepare (1), a Prepare (2) or a Commit (3) of this view, slot and digest
pub record HasVoted (p : Params) (w : World Message) (i kind v s : ℕ) (d : List ℕ) : Type 0 where
  pub correct : is_correct p.setup i ≡ true
  pub signed : IsSigned pbft p w i (state_at p kind v s d)

-- a correct replica signs one PrePrepare, one Prepare and one Commit for each view and slot
pub record HaveOneVote (p : Params) (w : World Message) : Type 0 where
  pub pre_prepare : (i v s : ℕ) (d e : List ℕ) → HasVoted p w i 1 v s d → HasVoted p w i 1 v s e → d ≡ e
  pub prepare : (i v s : ℕ) (d e : List ℕ) → HasVoted p w i 2 v s d → HasVoted p w i 2 v s e → d ≡ e
  pub commit : (i v s : ℕ) (d e : List ℕ) → HasVoted p w i 3 v s d → HasVoted p w i 3 v s e → d ≡ e

-- after its ViewChange for view v a replica sends no Commit of a view below v
abbrev pub AreQuiet : Params → World Message → Type 0
AreQuiet p w =
    (i v c : ℕ) (x y : Item Message) (before : List (Item Message)) (cs : List Certificate) (slot : Slot)
    (to other : To) (d sig tag : List ℕ) →
    Front (y ∷ before) (w i) → In x before → In {A = To × Message} (to, ViewChange v cs sig) x.made.sends →
    In {A = To × Message} (other, Commit c slot d tag) y.made.sends → v ≤ c

-- there is a certificate of the slot, of view v or a higher one
pub record Shows (cs : List Certificate) (s v : ℕ) : Type 0 where
  pub certificate : Certificate
  pub stands : In certificate cs
  pub slot : certificate.slot.0 ≡ s
  pub high : v ≤ certificate.view

-- its ViewChange for a higher view has such a certificate for each slot that it committed
abbrev pub AreShown : Params → World Message → Type 0
AreShown p w =
    (i v s u : ℕ) (d : List ℕ) (cs : List Certificate) → HasVoted p w i 3 v s d →
    IsSigned pbft p w i (state_change p u cs) → v < u → Shows cs s v

-- ---- certificates

-- each of these claims that names a correct replica is a statement that it signed
abbrev pub AreTrue : Params → World Message → List Claim → Type 0
AreTrue p w cs = (c : Claim) → In c cs → is_correct p.setup c.by.0 ≡ true → IsSigned pbft p w c.by.0 c.statement

-- a valid certificate: it is good, and its claims are true
pub record IsCertificate (p : Params) (w : World Message) (c : Certificate) : Type 0 where
  pub good : is_good p c ≡ true
  pub signed : AreTrue p w (certificate_claims p c)

-- the digest is that of the value that 2f+1 good ViewChanges with true claims choose
pub record IsChosen (p : Params) (w : World Message) (v s : ℕ) (d : List ℕ) : Type 0 where
  pub changes : List Change
  pub enough : are_enough p v changes ≡ true
  pub signed : AreTrue p w (changes_claims p changes)
  pub digest : digest_of p (choice changes s) ≡ d

-- above view 0 each PrePrepare and Prepare of a correct replica is for such a choice
pub record AreChosen (p : Params) (w : World Message) : Type 0 where
  pub pre_prepare : (i v s : ℕ) (d : List ℕ) → 0 < v → HasVoted p w i 1 v s d → IsChosen p w v s d
  pub prepare : (i v s : ℕ) (d : List ℕ) → 0 < v → HasVoted p w i 2 v s d → IsChosen p w v s d

-- valid certificates of one view and slot have one digest
abbrev pub HaveOneDigest : Params → World Message → Type 0
HaveOneDigest p w =
    (c e : Certificate) → IsCertificate p w c → IsCertificate p w e → c.view ≡ e.view → c.slot.0 ≡ e.slot.0 →
    digest_of p c.value ≡ digest_of p e.value

-- ---- decided views

-- 2f+1 distinct replicas, of which each correct one satisfies Each
pub record IsQuorum (p : Params) (Each : ℕ → Type 0) : Type 0 where
  pub nodes : List ℕ
  pub count : 2 * p.setup.f + 1 ≤ length nodes
  pub apart : distinct nodes ≡ true
  pub below : all_below p.setup.n nodes ≡ true
  pub each : (j : ℕ) → mem j nodes ≡ true → is_correct p.setup j ≡ true → Each j

-- the view decided the digest at the slot: of 2f+1 distinct replicas each correct one signed a Commit for it
abbrev pub IsDecidedView : Params → World Message → ℕ → ℕ → List ℕ → Type 0
IsDecidedView p w v s d = IsQuorum p (λ j. IsSigned pbft p w j (state_at p 3 v s d))

-- once view u decided a slot, each valid certificate of the slot in u or a higher view has the decided digest
abbrev pub AreFixed : Params → World Message → Type 0
AreFixed p w =
    (u s : ℕ) (d : List ℕ) (c : Certificate) → IsDecidedView p w u s d → IsCertificate p w c → c.slot.0 ≡ s →
    u ≤ c.view → digest_of p c.value ≡ d

-- each value that a correct replica delivers was decided in some view
abbrev pub AreDecided : Params → World Message → Type 0
AreDecided p w =
    (i s : ℕ) (x : Value) → is_correct p.setup i ≡ true → delivered pbft p i (w i) s ≡ Some x →
    (v : ℕ) × IsDecidedView p w v s (digest_of p x)

-- ---- where batches come from

-- of 2f+1 distinct replicas, the segment's leader among them, each correct one accepted the batch at the slot
pub record IsRooted (p : Params) (w : World Message) (s : ℕ) (b : Batch) : Type 0 where
  pub quorum : IsQuorum p (λ j. In {A = Slot × Batch} (record { 0 = s }, b) (accepts (w j)))
  pub led : mem p.leader.0 quorum.nodes ≡ true

-- a replica accepts one batch for a slot
abbrev pub AreOnce : Params → World Message → Type 0
AreOnce p w =
    (i : ℕ) (s : Slot) (b c : Batch) → In {A = Slot × Batch} (s, b) (accepts (w i)) →
    In {A = Slot × Batch} (s, c) (accepts (w i)) → b ≡ c

-- the value has an encoding, and a correct replica hashed its string
pub record IsKnown (p : Params) (w : World Message) (x : Value) : Type 0 where
  pub hashed : IsString w (string_of p x)
  pub spelled : fits_value p.setup.version x ≡ true

-- If a valid certificate holds a batch, such a quorum accepted it in view 0. The batch must be known: otherwise another
-- value of its digest may have been accepted.
abbrev pub AreRooted : Params → World Message → Type 0
AreRooted p w = (c : Certificate) (b : Batch) → IsCertificate p w c → IsKnown p w c.value →
    c.value ≡ Value_batch b → IsRooted p w c.slot.0 b
