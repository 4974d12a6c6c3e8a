-- The run's invariant: its state is reached by moves of a cluster, with the run's books.
use Rattle.std.proofs.Common.{◌≡◌, ℕ, ◌<◌, suc, true, List, [], ◌++◌, Some}
use Rattle.iss_base.specs.Lists.{In}
use Rattle.iss_base.proofs.Lists.{in_right}
use Rattle.iss_network.specs.declared.packets.Sent.{Sent}
use Rattle.iss_request.specs.Setup.{IsGoodSetup}
use Rattle.iss_request.specs.declared.setups.Setup.{Setup}
use Rattle.iss_sb.specs.Laws.{IsLawful, IsSafe}
use Rattle.iss_sb.specs.Evidence.{Module, Separate, is_correct}
use Rattle.iss_composition.specs.Checkpoints.{scheme_of}
use Rattle.iss_composition.specs.Cluster.{Cluster, IsHashedLog, Message, Reach}
use Rattle.iss_theorems.specs.Ends.{AreBooked, AreVoted}
use Rattle.iss_rules.specs.Parcels.{Formats, OfModule, Parcel}
use Rattle.iss_model.specs.Node.{Core, Early}
use Rattle.iss_rules.specs.SoundRules.{IsSoundRules}
use Rattle.iss_composition.specs.Ordered.{Among}
use Rattle.iss_rules.specs.Past.{log_of}
use Rattle.iss_rules.specs.Rules.{Rules}
use Rattle.iss_model.specs.Run.{Held, node_of}
use Rattle.iss_rules.proofs.Faithful.{IsFaithful}
use Rattle.iss_model.specs.Runs.{pasts_of}
use Rattle.iss_rules.proofs.Windows.{AreWindows}
use Rattle.iss_model.proofs.Ready.{IsReadyCore}
use Rattle.iss_theorems.proofs.Checkpoints.KeptVotesAreValid.{AreCertified}
use Rattle.iss_theorems.proofs.Refinement.LoggedValuesAreEncodable.{AreReadPieces}
use Rattle.iss_theorems.proofs.Checkpoints.VotesDescribeLogs.{AreStanding}
use Rattle.iss_model.proofs.Told.{AreTold}
use Rattle.iss_theorems.proofs.Checkpoints.VotesAreForChains.{IsVoting}

-- the premises of the invariant: sound rules that vote, faithful formats, a module that keeps its laws, windows, and a
-- good set-up
pub record Premises {Msg : Type 0} (s : Setup) (F : Formats Msg) (R : Rules) (M : Module Msg) : Type 0 where
  pub sound : IsSoundRules s M R
  pub faithful : IsFaithful s F M
  pub law : IsLawful M
  pub safe : IsSafe M
  pub good : IsGoodSetup s
  pub voting : IsVoting s R
  pub windows : AreWindows R

module _ {Msg : Type 0} (s : Setup) (F : Formats Msg) (R : Rules) (M : Module Msg) where
  abbrev pub view : Held Msg → List (Message Msg) → Cluster Msg
  view h messages = record { pasts = pasts_of h.net; messages = messages; book = h.signed; strings = h.hashed }

  -- a packet for a node: the module's message that it holds was sent
  pub record IsPosted (messages : List (Message Msg)) (p : Sent) : Type 0 where
    pub low_to : p.to < s.n
    pub carried : (k : Parcel Msg) (l : ℕ) (msg : Msg) → F.unwrap p.bytes ≡ Some k → k.body ≡ OfModule l msg →
        In (record { from = k.from; to = p.to; epoch = k.epoch; leader = l; msg = msg }) messages

  pub more-posted : (a b : List (Message Msg)) (p : Sent) → IsPosted b p → IsPosted (a ++ b) p
  more-posted a b p h = record { low_to = h.low_to; carried = λ k l msg u q. in_right _ a b (h.carried k l msg u q) }

  -- the early messages of core j, in the crash-stop model: each was sent to it, in the epoch after its own
  abbrev pub AreSent : List (Message Msg) → ℕ → Core Msg → Type 0
  AreSent messages j d = (x : Early Msg) → In x d.early →
      In (record { from = x.from; to = j; epoch = suc d.past.epoch; leader = x.leader; msg = x.msg }) messages

  -- The state is reached by moves of a cluster, the book has all strings hashed for logs, and kept votes and
  -- certificates are valid: each describes the log of its signer.
  pub record Fits (h : Held Msg) : Type 0 where
    pub messages : List (Message Msg)
    pub reach : Reach s (scheme_of s) R M (view h messages)
    pub posted : M.stopping ≡ true → (p : Sent) → In p h.net.network.packets → IsPosted messages p
    pub root : In {A = List ℕ} [] h.hashed
    pub cores : (j : ℕ) → IsReadyCore R M (node_of s j) (h.net.cores j)
    pub told : (j : ℕ) → AreTold s M (h.net.cores j)
    pub sent : M.stopping ≡ true → (j : ℕ) → AreSent messages j (h.net.cores j)
    pub booked : (j : ℕ) → is_correct s j ≡ true → AreBooked R M j (h.net.cores j).past h.signed
    pub hashed : (j : ℕ) → is_correct s j ≡ true → IsHashedLog (scheme_of s) h.hashed (log_of R M j (h.net.cores j).past)
    pub pieces : (j : ℕ) → is_correct s j ≡ true → AreReadPieces s (h.net.cores j).past.adopted
    pub certified : (j : ℕ) → is_correct s j ≡ true → AreCertified s R h.signed (h.net.cores j)
    pub standing : (j : ℕ) → is_correct s j ≡ true → AreStanding s R M j (h.net.cores j).past h.signed
    pub voted : (j : ℕ) → is_correct s j ≡ true → AreVoted R M j (h.net.cores j).past h.signed
    pub separate : Separate (Among h.hashed)
