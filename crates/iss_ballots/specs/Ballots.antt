-- What a node holds of the votes on each epoch: a tally, or a certificate once there is one. It is compared with the
-- model's lists by look-ups: the certificate of each epoch, and without one each node's vote. The votes of all epochs
-- without a certificate are held in the order in which they were counted too. A vote is refused for the first test that
-- fails. If it completes a quorum, the certificate is made of all votes that say the same.
use Rattle.std.specs.Prelude.{◌≡◌, ℕ, ◌||◌, ◌==◌, cond, Bool, false, true, not, List, [], ◌∷◌, ◌++◌, length, Option, Some, None, is_some, reverse}
use Rattle.std.specs.List.{filter}
use Rattle.std.specs.Map.{lookup}
use Rattle.std.specs.Ordering.{is_eq, nat_cmp}
use Rattle.iss_ballots.specs.declared.ballots.Taking.{Taking}
use Rattle.iss_ballots.specs.declared.ballots.Taking.TheVariants.{BadSignature, Counted, Known}
use Rattle.iss_checkpoint.specs.Tallies.{TallyState, certificate_by, vote_at}
use Rattle.iss_checkpoint.specs.Votes.{Voters, is_signed, statement_of}
use Rattle.iss_checkpoint.specs.declared.tallies.Refusal.{Refusal}
use Rattle.iss_checkpoint.specs.declared.tallies.Refusal.TheVariants.{BadSignature as Refusal_bad_signature, OtherEpoch, Twice}
use Rattle.iss_checkpoint.specs.declared.votes.Cert.{Cert}
use Rattle.iss_checkpoint.specs.declared.votes.Vote.{Vote}
use Rattle.iss_rules.specs.Votes.{cert_on, is_open, vote_by}

pub record BallotsState : Type 0 where
  pub voters : Voters
  -- By epoch: the votes of those without a certificate, and the certificates.
  pub tallies : List (ℕ × TallyState)
  pub certs : List (ℕ × Cert)
  -- The votes of all epochs without a certificate, in the order in which they were counted.
  pub counted : List Vote

-- ---- look-ups

abbrev pub tally_at : List (ℕ × TallyState) → ℕ → Option TallyState
tally_at tallies e = lookup (λ j. is_eq (nat_cmp e j)) tallies

abbrev pub cert_at : List (ℕ × Cert) → ℕ → Option Cert
cert_at certs e = lookup (λ j. is_eq (nat_cmp e j)) certs

abbrev pub vote_in : Option TallyState → ℕ → Option Vote
vote_in None k = None
vote_in (Some t) k = vote_at t.votes k

-- A tally has the right epoch, and the same voters as all others.
abbrev pub AreTallies : Voters → List (ℕ × TallyState) → Type 0
AreTallies w tallies = (e : ℕ) (t : TallyState) → tally_at tallies e ≡ Some t → (t.voters ≡ w) × (t.epoch ≡ e)

-- ---- the votes and certificates that the state refines

-- The state refines these votes and certificates. The votes of an epoch with a certificate do not matter.
pub record AreKept (b : BallotsState) (votes : List Vote) (certs : List Cert) : Type 0 where
  pub certs_are : (e : ℕ) → cert_at b.certs e ≡ cert_on certs e
  pub votes_are : (e k : ℕ) → cert_on certs e ≡ None → vote_in (tally_at b.tallies e) k ≡ vote_by votes e k
  pub counted_are : b.counted ≡ reverse (filter (is_open certs) votes)

-- The certificate of all votes that agree with v, once they are a quorum.
abbrev pub stable_by : Voters → List Vote → Vote → List Cert
stable_by w votes v =
    let c = certificate_by (vote_by votes v.epoch.0) v w.n in
    cond (length c.signers == w.quorum) (c ∷ []) []

abbrev pub is_true : Voters → Vote → Bool
is_true w v = is_signed w (statement_of w v) v.by.0 v.sig

-- The epoch has a certificate, or the signer's vote was counted before.
abbrev pub is_held : List Vote → List Cert → Vote → Bool
is_held votes certs v = is_some (cert_on certs v.epoch.0) || is_some (vote_by votes v.epoch.0 v.by.0)

-- The result of a vote: the first test that fails, or the lists with the vote added.
abbrev pub IsTaken : List Vote → List Cert → Vote → BallotsState → Taking → Type 0
IsTaken votes certs v new BadSignature = (is_true new.voters v ≡ false) × AreKept new votes certs
IsTaken votes certs v new Known = (is_true new.voters v ≡ true) × (is_held votes certs v ≡ true)
    × AreKept new votes certs
IsTaken votes certs v new Counted =
    (is_true new.voters v ≡ true) × (is_held votes certs v ≡ false)
    × AreKept new (v ∷ votes) (stable_by new.voters (v ∷ votes) v ++ certs)

-- ---- the parts of a change

-- the tally of an epoch, or one without votes
abbrev pub tally_or : Voters → ℕ → Option TallyState → TallyState
tally_or w e None = record { voters = w; epoch = e; votes = [] }
tally_or w e (Some t) = t

-- the result of a vote that a tally refuses
abbrev pub refused : Refusal → Taking
refused Twice = Known
refused Refusal_bad_signature = BadSignature
refused OtherEpoch = BadSignature

-- An epoch has no tally.
pub record IsUntallied (e : ℕ) (old new : BallotsState) : Type 0 where
  pub tallies : (d : ℕ) → tally_at new.tallies d ≡ cond (e == d) None (tally_at old.tallies d)
  pub rest : new ≡ record old { tallies = new.tallies }

-- An epoch has this tally.
pub record HasTally (t : TallyState) (old new : BallotsState) : Type 0 where
  pub tallies : (d : ℕ) → tally_at new.tallies d ≡ cond (t.epoch == d) (Some t) (tally_at old.tallies d)
  pub rest : new ≡ record old { tallies = new.tallies }

-- An epoch has this certificate, and its votes are forgotten.
pub record IsCertified (c : Cert) (old new : BallotsState) : Type 0 where
  pub certs : (d : ℕ) → cert_at new.certs d ≡ cond (c.epoch.0 == d) (Some c) (cert_at old.certs d)
  pub counted : new.counted ≡ filter (λ (v : Vote). not (v.epoch.0 == c.epoch.0)) old.counted
  pub rest : new ≡ record old { certs = new.certs; counted = new.counted }
