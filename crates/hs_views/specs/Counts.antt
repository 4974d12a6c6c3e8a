-- How the code counts votes and NewView messages, compared with the definitions by look-ups.
use Rattle.std.specs.Prelude.{◌≡◌, ℕ, zero, suc, List, [], ◌++◌, nat_lt, is_some, Option, Some, None, if◌then◌else◌}
use Rattle.std.specs.BTreeMap.{get}
use Rattle.std.specs.declared.cmp.Ordering.{Ordering}
use Rattle.iss_base.specs.Quorum.{count_below}
use Rattle.iss_sb.specs.Evidence.{one_or_none}
use Rattle.iss_sb.specs.declared.signers.Signed.{Signed}
use Rattle.hs_tree.specs.declared.certificates.Certificate.{Certificate}
use Rattle.hs_tree.specs.declared.certificates.Certificate.TheVariants.{Root}
use Rattle.hs_tree.specs.Certificates.{view_of}
use Rattle.hs_views.specs.declared.ballots.Ballot.{Ballot}
use Rattle.hs_views.specs.declared.ballots.Ballots.{Ballots}
use Rattle.hs_views.specs.declared.news.Sender.{Sender}
use Rattle.hs_views.specs.declared.news.Words.{Words}
use Rattle.hs_views.specs.contracts.ballots.BallotOrd.TheImpl as ballot_ord
use Rattle.hs_views.specs.contracts.news.SenderOrd.TheImpl as sender_ord
use Rattle.hs_views.specs.Views.{Kept, News, news_of, vote_of}

-- ---- Votes

abbrev pub ballot_order : Ballot → Ballot → Ordering
ballot_order = (ballot_ord.ghosts).cmp

-- the signature kept for a vote
abbrev pub vote_at : Ballots → ℕ → ℕ → ℕ → List ℕ → Option (List ℕ)
vote_at m by phase view d = get ballot_order m.all (record { by = by; phase = phase; view = view; digest = d })

-- a replica's vote with this signature
abbrev pub signed : ℕ → Option (List ℕ) → Option Signed
signed by None = None
signed by (Some sig) = Some (record { by = record { 0 = by }; sig = sig })

-- the map represents the list of votes
abbrev pub AreVotes : Ballots → List Kept → Type 0
AreVotes m vs = (by phase view : ℕ) (d : List ℕ) → vote_of vs phase view d by ≡ signed by (vote_at m by phase view d)

-- how many of the replicas below n cast this vote, and their votes
abbrev pub count_at : Ballots → ℕ → ℕ → ℕ → List ℕ → ℕ
count_at m n phase view d = count_below (λ k. is_some (vote_at m k phase view d)) n

abbrev pub votes_at : Ballots → ℕ → ℕ → ℕ → List ℕ → List Signed
votes_at m zero phase view d = []
votes_at m (suc k) phase view d = votes_at m k phase view d ++ one_or_none (signed k (vote_at m k phase view d))

-- ---- NewView messages

abbrev pub sender_order : Sender → Sender → Ordering
sender_order = (sender_ord.ghosts).cmp

-- the certificate kept for a replica and a round
abbrev pub word_at : Words → ℕ → ℕ → Option Certificate
word_at m by round = get sender_order m.all (record { by = by; round = round })

-- the map represents the list of NewView messages
abbrev pub AreNews : Words → List News → Type 0
AreNews m ws = (by round : ℕ) → news_of ws round by ≡ word_at m by round

-- the certificate with the higher view, the first if they are equal
abbrev pub better : Certificate → Option Certificate → Certificate
better c None = c
better c (Some d) = if nat_lt (view_of c) (view_of d) then d else c

-- how many of the replicas below n sent one for the round
abbrev pub words_at : Words → ℕ → ℕ → ℕ
words_at m n round = count_below (λ k. is_some (word_at m k round)) n

-- the highest certificate of the replicas below n
abbrev pub best_at : Words → ℕ → ℕ → Certificate
best_at m zero round = Root
best_at m (suc k) round = better (best_at m k round) (word_at m k round)
