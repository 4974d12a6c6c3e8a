-- The invariant of agreement: legal histories, a cause for each message, and valid ballots.
use Rattle.std.proofs.Common.{◌≡◌, ℕ, ◌+◌, ◌*◌, ◌≤◌, Bool, true, false, List, [], ◌∷◌, ◌++◌, length, subst}
use Rattle.iss_request.specs.declared.ids.NodeId.{NodeId}
use Rattle.iss_sb.specs.declared.effects.Input.{Input}
use Rattle.iss_sb.specs.declared.effects.Input.TheVariants.{Receive}
use Rattle.iss_sb.specs.declared.effects.Params.{Params}
use Rattle.iss_sb.specs.Evidence.{Item, World, IsSent}
use Rattle.raft_wire.specs.declared.entries.Entry.{Entry}
use Rattle.raft_wire.specs.declared.messages.Message.{Message}
use Rattle.raft_wire.specs.declared.messages.Message.TheVariants.{Append, Reply, AskVote, Vote}
use Rattle.sb_raft.specs.Raft.{raft, state}
use Rattle.sb_raft.specs.Rules.{Candidate, Leader, State, grants, may_merge, raised}
use Rattle.iss_base.specs.Quorum.{count_below}
use Rattle.sb_raft.specs.Logs.{fits_behind, last_term}
use Rattle.sb_raft.proofs.Safety.VotesPrecedeAppends.{Ballots}
use Rattle.iss_sb.specs.Legal.{Front, HaveCome}
use Rattle.sb_raft.proofs.Safety.MatchingAndCompleteness.{Majority}

abbrev pub node : ℕ → NodeId
node k = record { 0 = k }

-- what a node in state s may send to k with an input that leads to v, which is more than it sends
abbrev pub May : State → Input Message → State → ℕ → Message → Type 0
May s i v k (Append t prev pt c es) = (v.role ≡ Leader) × (t ≡ v.term) × (c ≤ v.commit) × ((front : List Entry) × (v.log ≡ front ++ es) × (length front ≡ prev) × (last_term front ≡ pt))
May s i v k (Reply t false x) = (u pt c : ℕ) × (es : List Entry) × (i ≡ Receive (node k) (Append u x pt c es)) × (t ≡ v.term)
May s i v k (Reply t true x) = (prev pt c : ℕ) × (es : List Entry) × (i ≡ Receive (node k) (Append t prev pt c es)) × (t ≡ (raised s t).term) × (fits_behind (raised s t).log prev pt ≡ true) × (may_merge (raised s t) prev es ≡ true) × (x ≡ prev + length es)
May s i v k (AskVote t last lt) = (v.role ≡ Candidate) × (t ≡ v.term) × (last ≡ length v.log) × (lt ≡ last_term v.log)
May s i v k (Vote t false) = t ≡ v.term
May s i v k (Vote t true) = (last lt : ℕ) × (i ≡ Receive (node k) (AskVote t last lt)) × (grants (raised s t) k t last lt ≡ true)

abbrev pub MaySend : Params → ℕ → List (Item Message) → ℕ → Message → Type 0
MaySend p me [] k m = ⊥
MaySend p me (i ∷ l) k m = May (state p me l) i.input (state p me (i ∷ l)) k m

pub record Inv (p : Params) (w : World Message) : Type 0 where
  pub nodes : p.setup.n ≡ 2 * p.setup.f + 1
  pub quorum : p.setup.quorum ≡ p.setup.f + 1
  pub legal : (k : ℕ) → HaveCome raft p w k (w k)
  pub justified : (j k : ℕ) (m : Message) → IsSent w j k m → (l : List (Item Message)) × Front l (w j) × MaySend p j l k m
  pub ballots : Ballots p w

pub majority-is : (p : Params) (w : World Message) → Inv p w → (test : ℕ → Bool) → p.setup.quorum ≤ count_below test p.setup.n → Majority p.setup.f test
majority-is p w inv test h = subst (λ (n : ℕ). p.setup.f + 1 ≤ count_below test n) inv.nodes (subst (λ (q : ℕ). q ≤ count_below test p.setup.n) inv.quorum h)
