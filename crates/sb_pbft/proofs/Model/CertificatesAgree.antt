-- Prepared, committed and due Commits, computed from the state, are those of the history.
use Rattle.std.proofs.Common.{◌≡◌, ◌+◌, ◌*◌, ◌&&◌, ◌∷◌, ◌∙◌, ℕ, zero, suc, Bool, true, false, not, cond, List, length, Option, Some, None, refl, sym, ap}
use Rattle.std.specs.Prelude.{nat_le}
use Rattle.iss_base.specs.Lists.{same_bytes}
use Rattle.iss_request.specs.declared.requests.Value.{Value}
use Rattle.iss_sb.specs.Evidence.{Item}
use Rattle.iss_sb.specs.declared.effects.Params.{Params}
use Rattle.pbft_wire.specs.Statements.{digest_of}
use Rattle.pbft_wire.specs.declared.messages.Certificate.{Certificate}
use Rattle.pbft_wire.specs.declared.messages.Message.{Message}
use Rattle.pbft_views.specs.Choice.{best}
use Rattle.sb_pbft.specs.Makes.{has, inputs, or_empty, proposal_sig, ready}
use Rattle.sb_pbft.specs.Rules.{Ballot, commit_of, committed, committed_with, cons_vote, mode, prepare_of, prepared, prepared_with, proposal, voters, when}
use Rattle.sb_pbft.specs.Internal.Turns.{bare, committed_at, is_of, model, only_if, placed, prepared_at, voted}
use Rattle.sb_pbft.specs.declared.proposals.Proposal.{Proposal}
use Rattle.sb_pbft.proofs.ViewChange.HighestCertificates.{AreLow, has-top}

-- ---- the number of votes does not depend on their signatures

abbrev bare-vote : (d : List ℕ) (k : ℕ) (o : Option Ballot) (n : ℕ) → ℕ
bare-vote d k None n = n
bare-vote d k (Some b) n = cond (same_bytes d b.digest) (suc n) n

count-vote : (d : List ℕ) (k : ℕ) (o : Option Ballot) (m : ℕ) (g : ℕ → Option Ballot) →
    length (cons_vote d k o (voters g d (suc k) m)) ≡ bare-vote d k o (length (voters g d (suc k) m))
count-vote d k None m g = refl
count-vote d k (Some b) m g = go (same_bytes d b.digest)
  where
    go : (t : Bool) → length (cond t (record { by = record { 0 = k }; sig = b.sig } ∷ voters g d (suc k) m) (voters g d (suc k) m)) ≡ cond t (suc (length (voters g d (suc k) m))) (length (voters g d (suc k) m))
    go true = refl
    go false = refl

bare-same : (d : List ℕ) (k : ℕ) (o : Option Ballot) (n : ℕ) → bare-vote d k (bare o) n ≡ bare-vote d k o n
bare-same d k None n = refl
bare-same d k (Some b) n = refl

pub bare-voters : (g : ℕ → Option Ballot) (d : List ℕ) (k m : ℕ) →
    length (voters (λ j. bare (g j)) d k m) ≡ length (voters g d k m)
bare-voters g d k zero = refl
bare-voters g d k (suc m) =
    count-vote d k (bare (g k)) m (λ j. bare (g j)) ∙ (bare-same d k (g k) _ ∙ (ap (bare-vote d k (g k)) (bare-voters g d (suc k) m) ∙ sym (count-vote d k (g k) m g)))

-- ---- what is prepared and committed

module _ (p : Params) (me : ℕ) (xs : List (Item Message)) where
  -- the same test for a value and for its proposal
  passing : (q : Option (List ℕ)) (x : Value) (a b : Bool) → a ≡ b → ◌≡◌ {A = Option Proposal} (when a (record { value = x; digest = digest_of p x; sig = or_empty q })) (placed p (when b x) q)
  passing q x true b h = ap (λ (t : Bool). placed p (when t x) q) h
  passing q x false b h = ap (λ (t : Bool). placed p (when t x) q) h

  pub prepared-model : (v s : ℕ) →
      prepared_at p (model p me xs) v s ≡ placed p (prepared p me (inputs xs) v s) (proposal_sig p me xs v s)
  prepared-model v s = go (proposal p me (inputs xs) v s) refl
    where
      go : (o : Option Value) → proposal p me (inputs xs) v s ≡ o →
          only_if (voted p (prepare_of p (inputs xs) v s) (2 * p.setup.f)) (placed p o (proposal_sig p me xs v s)) ≡
          placed p (prepared_with p (inputs xs) v s o) (proposal_sig p me xs v s)
      go None h = refl
      go (Some x) h = passing (proposal_sig p me xs v s) x _ _ refl

  pub committed-model : (v s : ℕ) →
      committed_at p (model p me xs) v s ≡ placed p (committed p me (inputs xs) v s) (proposal_sig p me xs v s)
  committed-model v s = ap (only_if (voted p (λ k. bare (commit_of p (inputs xs) v s k)) (2 * p.setup.f + 1))) (prepared-model v s) ∙ go (prepared p me (inputs xs) v s)
    where
      go : (o : Option Value) → only_if (voted p (λ k. bare (commit_of p (inputs xs) v s k)) (2 * p.setup.f + 1)) (placed p o (proposal_sig p me xs v s)) ≡
          placed p (committed_with p (inputs xs) v s o) (proposal_sig p me xs v s)
      go None = refl
      go (Some x) = passing (proposal_sig p me xs v s) x _ _ (ap (nat_le (2 * p.setup.f + 1)) (bare-voters (commit_of p (inputs xs) v s) (digest_of p x) 0 p.setup.n))

  -- ---- due Commits, given these stored certificates

  pub ready-model : (ks : List Certificate) (s : ℕ) → AreLow (mode p (inputs xs)).view ks →
      cond ((mode p (inputs xs)).active && not (is_of (mode p (inputs xs)).view (best s ks))) (prepared_at p (model p me xs) (mode p (inputs xs)).view s) None ≡
      placed p (ready p me (inputs xs) ks s) (proposal_sig p me xs (mode p (inputs xs)).view s)
  ready-model ks s low =
      ap (λ (b : Bool). cond ((mode p (inputs xs)).active && not b) (prepared_at p (model p me xs) (mode p (inputs xs)).view s) None) (sym (has-top (mode p (inputs xs)).view s ks low)) ∙
      go ((mode p (inputs xs)).active && not (has (mode p (inputs xs)).view s ks))
    where
      go : (t : Bool) → cond t (prepared_at p (model p me xs) (mode p (inputs xs)).view s) None ≡
          placed p (cond t (prepared p me (inputs xs) (mode p (inputs xs)).view s) None) (proposal_sig p me xs (mode p (inputs xs)).view s)
      go true = prepared-model (mode p (inputs xs)).view s
      go false = refl
