-- The votes on one epoch that were counted, one for each node, and what becomes of a further one. A vote is refused
-- for the first test that fails. Votes are compared by what they say, and a certificate is made of all those that
-- agree, as soon as they are a quorum.
use Rattle.std.specs.Prelude.{◌≡◌, ◌≢◌, ℕ, zero, suc, ◌==◌, ◌&&◌, not, Bool, true, if◌then◌else◌, List, [], ◌∷◌, ◌++◌, length, Option, Some, None, is_some, Result, Ok, Err}
use Rattle.std.specs.Map.{lookup}
use Rattle.std.specs.Ordering.{is_eq, nat_cmp}
use Rattle.iss_base.specs.Lists.{same_bytes}
use Rattle.iss_request.specs.declared.errors.NoMemory.{NoMemory}
use Rattle.iss_checkpoint.specs.declared.tallies.Added.{Added}
use Rattle.iss_checkpoint.specs.declared.tallies.Added.TheVariants.{Counted, Stable, Refused}
use Rattle.iss_checkpoint.specs.declared.tallies.Refusal.{Refusal}
use Rattle.iss_checkpoint.specs.declared.tallies.Refusal.TheVariants.{OtherEpoch, BadSignature as Refusal_bad_signature, Twice}
use Rattle.iss_checkpoint.specs.declared.votes.Cert.{Cert}
use Rattle.iss_sb.specs.declared.signers.Signed.{Signed}
use Rattle.iss_checkpoint.specs.declared.votes.Vote.{Vote}
use Rattle.iss_checkpoint.specs.Votes.{Voters, is_cert, is_signed, statement_of}

-- the votes for one epoch
pub record TallyState : Type 0 where
  pub voters : Voters
  pub epoch : ℕ
  -- the votes by signer
  pub votes : List (ℕ × Vote)

-- the vote of a node, if it was counted
abbrev pub vote_at : List (ℕ × Vote) → ℕ → Option Vote
vote_at votes k = lookup (λ j. is_eq (nat_cmp k j)) votes

-- the votes with one more
abbrev pub with_vote : List (ℕ × Vote) → Vote → ℕ → Option Vote
with_vote votes v k = if v.by.0 == k then Some v else vote_at votes k

-- ---- why a vote is not counted: the first reason that holds

-- rule: Checkpoints: A tally refuses a vote for its first fault: other epoch, bad signature, repeated
abbrev pub refusal : TallyState → Vote → Option Refusal
refusal t v =
    if not (v.epoch.0 == t.epoch) then Some OtherEpoch
    else if not (is_signed t.voters (statement_of t.voters v) v.by.0 v.sig) then Some Refusal_bad_signature
    else if is_some (vote_at t.votes v.by.0) then Some Twice
    else None

-- ---- a certificate of equal votes

-- rule: Checkpoints: Two votes agree if their chains and counts are equal
abbrev pub say_same : Vote → Vote → Bool
say_same v w = (w.requests == v.requests) && same_bytes w.chain v.chain

-- a node's signature, if its vote equals v
abbrev pub signed_if : Vote → Option Vote → List Signed
signed_if v None = []
signed_if v (Some w) = if say_same v w then record { by = w.by; sig = w.sig } ∷ [] else []

-- the signatures of nodes below a number whose votes equal v, ascending
abbrev pub signed_below : (ℕ → Option Vote) → Vote → ℕ → List Signed
signed_below vote_of v zero = []
signed_below vote_of v (suc k) = signed_below vote_of v k ++ signed_if v (vote_of k)

abbrev pub certificate_by : (ℕ → Option Vote) → Vote → ℕ → Cert
certificate_by vote_of v n = record {
  epoch = v.epoch;
  chain = v.chain;
  requests = v.requests;
  signers = signed_below vote_of v n;
}

-- the certificate of all votes equal to v
abbrev pub certificate : TallyState → Vote → Cert
certificate t v = certificate_by (vote_at t.votes) v t.voters.n

-- ---- the result of adding a vote

-- the vote was counted, and nothing else changed
pub record IsCounted (old : TallyState) (v : Vote) (new : TallyState) : Type 0 where
  pub sound : refusal old v ≡ None
  pub votes : (k : ℕ) → vote_at new.votes k ≡ with_vote old.votes v k
  pub others : new ≡ record old { votes = new.votes }

-- The vote that completes a quorum of equal votes gives their certificate. A later vote gives none.
-- rule: Checkpoints: The vote that completes a quorum gives the epoch's certificate; no later one does
abbrev pub IsAdded : TallyState → Vote → TallyState → Result Added NoMemory → Type 0
IsAdded old v new (Ok Counted) = IsCounted old v new × (length (certificate new v).signers ≢ old.voters.quorum)
IsAdded old v new (Ok (Stable c)) = IsCounted old v new × (length (certificate new v).signers ≡ old.voters.quorum)
    × (c ≡ certificate new v)
IsAdded old v new (Ok (Refused cause)) = (refusal old v ≡ Some cause) × (new ≡ old)
IsAdded old v new (Err e) = new ≡ old

-- a certificate that a tally gives is valid
abbrev pub IsChecked : Voters → Result Added NoMemory → Type 0
IsChecked w (Ok Counted) = Unit {0}
IsChecked w (Ok (Stable c)) = is_cert w c ≡ true
IsChecked w (Ok (Refused cause)) = Unit {0}
IsChecked w (Err e) = Unit {0}

-- ---- a tally holds valid votes: each is its node's, for this epoch

-- the vote is node k's for epoch e, and its signature is valid
pub record IsVoteOf (w : Voters) (e k : ℕ) (v : Vote) : Type 0 where
  pub own : v.by.0 ≡ k
  pub epoch : v.epoch.0 ≡ e
  pub signed : is_signed w (statement_of w v) v.by.0 v.sig ≡ true

abbrev pub AreVotes : Voters → ℕ → List (ℕ × Vote) → Type 0
AreVotes w e votes = (k : ℕ) (v : Vote) → vote_at votes k ≡ Some v → IsVoteOf w e k v
