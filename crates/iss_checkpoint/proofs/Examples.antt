-- What the definitions give for four votes, three of them equal.
use Rattle.std.proofs.Common.{◌≡◌, ℕ, [], ◌∷◌, length, refl, Some, replicate}
use Rattle.iss_keys.specs.VerifiedBy.{is_true_under, is_verified_by}
use Rattle.iss_sb.specs.Statements.{wide_bytes}
use Rattle.iss_sb.specs.declared.signers.Signed.{Signed}
use Rattle.iss_checkpoint.specs.declared.votes.Vote.{Vote}
use Rattle.iss_checkpoint.specs.declared.tallies.Refusal.TheVariants.{OtherEpoch, BadSignature as Refusal_bad_signature}
use Rattle.iss_checkpoint.specs.Tallies.{TallyState, certificate, refusal, signed_below, vote_at, with_vote}
use Rattle.iss_checkpoint.specs.Votes.{vote_statement}

abbrev vote : ℕ → ℕ → Vote
vote by chain = record { epoch = record { 0 = 5 }; chain = replicate 32 chain; requests = 7; by = record { 0 = by }; sig = by ∷ [] }

abbrev signed : ℕ → Signed
signed by = record { by = record { 0 = by }; sig = by ∷ [] }

-- node 1 votes for another chain
abbrev tally : TallyState
tally = record {
  voters = record { tag = []; n = 4; quorum = 3; keys = [] };
  epoch = 5;
  votes = (0, vote 0 9) ∷ (1, vote 1 8) ∷ (2, vote 2 9) ∷ [];
}

two_agree : signed_below (vote_at tally.votes) (vote 0 9) 4 ≡ signed 0 ∷ signed 2 ∷ []
two_agree = refl

a_third_completes : signed_below (with_vote tally.votes (vote 3 9)) (vote 3 9) 4 ≡ signed 0 ∷ signed 2 ∷ signed 3 ∷ []
a_third_completes = refl

none_for_others : length (certificate tally (vote 3 6)).signers ≡ 0
none_for_others = refl

other_epoch : refusal (record tally { epoch = 4 }) (vote 3 9) ≡ Some OtherEpoch
other_epoch = refl

-- a directory without keys
no_key : refusal tally (vote 3 9) ≡ Some Refusal_bad_signature
unfolding is_verified_by is_true_under
no_key = refl

-- the tag, the epoch, no leader and no module, the chain and the count
statement : length (vote_statement (replicate 32 1) 5 (replicate 32 9) 7) ≡ 83
unfolding wide_bytes
statement = refl
