-- Views, and what a leader remembers of its turns and messages: common to HotStuff and its chained form. A view is a
-- round and a turn in it. Leaders rotate with the rounds. A leader counts votes for its turns, and NewView messages for
-- its rounds; all are listed newest first.
use Rattle.std.specs.Prelude.{ℕ, zero, suc, ◌+◌, ◌/◌, ◌%◌, ◌==◌, ◌&&◌, ◌||◌, Bool, false, nat_lt, List, [], ◌∷◌, ◌++◌, Option, Some, None, if◌then◌else◌}
use Rattle.iss_base.specs.Lists.{same_bytes}
use Rattle.iss_sb.specs.declared.content.Content.{Content}
use Rattle.iss_sb.specs.declared.effects.Params.{Params}
use Rattle.iss_sb.specs.declared.signers.Signed.{Signed}
use Rattle.iss_sb.specs.Evidence.{one_or_none}
use Rattle.hs_tree.specs.declared.certificates.Certificate.{Certificate}
use Rattle.hs_tree.specs.Certificates.{view_of}

-- ---- Views: view = round * 65536 + turn. Proposals have turns from 1 on

abbrev pub round_of : ℕ → ℕ
round_of view = view / 65536

abbrev pub turn_of : ℕ → ℕ
turn_of view = view % 65536

-- the leaders of the rounds rotate, beginning with the segment's leader
abbrev pub leader_of : Params → ℕ → ℕ
leader_of p round = (p.leader.0 + round) % p.setup.n

-- ---- The turns of a leader

-- A proposal that the leader made. `slots` counts the slots of its branch, its own included.
pub record Turn : Type 0 where
  pub view : ℕ
  pub digest : List ℕ
  pub just : Certificate
  pub what : Content
  pub slots : ℕ

-- whether the leader proposed this digest in this view
abbrev pub is_own_turn : List Turn → ℕ → List ℕ → Bool
is_own_turn [] view d = false
is_own_turn (t ∷ ts) view d = ((t.view == view) && same_bytes t.digest d) || is_own_turn ts view d

-- ---- Votes for a turn

-- a vote that the leader received for one of its turns
pub record Kept : Type 0 where
  pub by : ℕ
  pub phase : ℕ
  pub view : ℕ
  pub digest : List ℕ
  pub sig : List ℕ

-- whether it is replica k's vote for this phase, view and digest
abbrev pub is_for : ℕ → ℕ → List ℕ → ℕ → Kept → Bool
is_for phase view d k v = ((v.by == k) && (v.phase == phase)) && ((v.view == view) && same_bytes v.digest d)

-- replica k's vote, as part of a certificate
abbrev pub vote_of : List Kept → ℕ → ℕ → List ℕ → ℕ → Option Signed
vote_of [] phase view d k = None
vote_of (v ∷ vs) phase view d k =
    if is_for phase view d k v then Some (record { by = record { 0 = k }; sig = v.sig }) else vote_of vs phase view d k

-- the votes of the replicas below n, by ascending replica
abbrev pub votes_of : ℕ → List Kept → ℕ → ℕ → List ℕ → List Signed
votes_of zero vs phase view d = []
votes_of (suc k) vs phase view d = votes_of k vs phase view d ++ one_or_none (vote_of vs phase view d k)

-- ---- NewView messages for a round

-- a NewView message that the leader of the round received
pub record News : Type 0 where
  pub by : ℕ
  pub round : ℕ
  pub high : Certificate

-- replica k's certificate for the round
abbrev pub news_of : List News → ℕ → ℕ → Option Certificate
news_of [] round k = None
news_of (w ∷ ws) round k = if (w.by == k) && (w.round == round) then Some w.high else news_of ws round k

-- the certificates of the replicas below n, by ascending replica
abbrev pub all_news : ℕ → List News → ℕ → List Certificate
all_news zero ws round = []
all_news (suc k) ws round = all_news k ws round ++ one_or_none (news_of ws round k)

-- the first certificate with the highest view (HotStuff: highQC)
abbrev pub best : Certificate → List Certificate → Certificate
best c [] = c
best c (d ∷ ds) = if nat_lt (view_of c) (view_of d) then best d ds else best c ds
