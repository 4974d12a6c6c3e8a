-- The votes and certificates that a core holds: each can be encoded, certificates are true and at most one epoch ahead,
-- and the open votes could be counted once more.
use Rattle.std.proofs.Common.{◌≡◌, inl, inr, ℕ, zero, suc, ◌≤◌, ◌<◌, Bool, true, false, cond, eqb, not, is_some, ◌||◌, List, [], ◌∷◌, ◌++◌, length, Option, Some, None, refl, sym, ap, ◌∙◌, subst, arith, append-nil}
use Rattle.std.specs.List.{filter}
use Rattle.iss_base.specs.Lists.{In}
use Rattle.iss_base.proofs.Lists.{both, eqb-same, in_append, is-eq, none-some, or-false}
use Rattle.iss_checkpoint.specs.Bodies.{IsSpelledVote, spell_vote}
use Rattle.iss_checkpoint.specs.Certificates.{cert_row}
use Rattle.iss_checkpoint.specs.Tallies.{certificate_by, say_same, signed_below, signed_if}
use Rattle.iss_checkpoint.specs.declared.votes.Cert.{Cert}
use Rattle.iss_checkpoint.specs.declared.votes.Vote.{Vote}
use Rattle.iss_checkpoint.proofs.VoteGrammar.{vote-table}
use Rattle.iss_request.specs.Formats.{is_signature}
use Rattle.iss_request.specs.declared.setups.Setup.{Setup}
use Rattle.iss_sb.specs.Signers.{AreSigners}
use Rattle.iss_sb.specs.declared.signers.Signed.{Signed as Signature}
use Rattle.iss_rules.specs.Rules.{Rules}
use Rattle.iss_rules.specs.Votes.{all_verify, cert_on, claim_of_vote, is_open, is_true_cert, keeping, stable, vote_by}
use Rattle.iss_model.proofs.AlikeVotes.{SameVotes, more-certs, stable-same, vote-same}
use Rattle.iss_theorems.proofs.Checkpoints.KeptVotesAreValid.{IsVoteOf, below-true, cert-there, in-below, vote-there}
use Rattle.iss_theorems.proofs.Refinement.DeliveryChecks.{each-verifies}
use Rattle.iss_snapshot.specs.Snapshots.{IsCertEntry, IsVoteEntry}
use Rattle.iss_rebuilt.specs.Storable.{AreCounted}
use Rattle.iss_rebuilt.proofs.Packets.{cert-entry-of}
use Rattle.iss_rebuilt.proofs.Rebuilding.{kept-all, none-there, none-open, open-in}

-- what an entry of a vote says of its parts
entry-parts : (v : Vote) → IsVoteEntry v → IsSpelledVote v.by.0 v.epoch.0 v (spell_vote v ++ [])
entry-parts v h = (vote-table v.by.0 v.epoch.0 v (spell_vote v ++ [])).0 (h.1 [])

-- a signer more
signers-more : (from k : ℕ) (xs : List Signature) (x : Signature) → AreSigners from xs → ((y : Signature) → In y xs → y.by.0 < k) → from ≤ x.by.0 → k ≤ x.by.0 →
    is_signature x.sig ≡ true → AreSigners from (xs ++ x ∷ [])
signers-more from k [] x h low le lk shape = (le, shape, tt)
signers-more from k (y ∷ ys) x h low le lk shape =
    let first = low y (inl refl) in
    (h.0, h.1, signers-more (suc y.by.0) k ys x h.2 (λ z i. low z (inr i)) (omega (arith, first, lk)) lk shape)

module _ (s : Setup) (R : Rules) (few : R.quorum < 256) where
  pub record IsGoodVote (v : Vote) : Type 0 where
    pub signed : R.verifies v.by.0 (R.voted v.epoch.0 v.chain v.requests) v.sig ≡ true
    pub entry : IsVoteEntry v

  pub record IsGoodCert (e : ℕ) (x : Cert) : Type 0 where
    pub certified : is_true_cert R x ≡ true
    pub entry : IsCertEntry x
    pub near : x.epoch.0 ≤ suc e

  -- of a core in epoch e
  pub record AreBallots (e : ℕ) (votes : List Vote) (certs : List Cert) : Type 0 where
    pub votes_are : (v : Vote) → In v votes → IsGoodVote v
    pub certs_are : (x : Cert) → In x certs → IsGoodCert e x
    pub counted : AreCounted R e (filter (is_open certs) votes)

  pub no-ballots : AreBallots 0 [] []
  no-ballots = record { votes_are = λ v i. absurd i; certs_are = λ x i. absurd i; counted = tt }

  -- ---- open votes

  -- without the votes that have a certificate nothing is told apart
  alone : (certs : List Cert) (vs : List Vote) → SameVotes certs certs vs (filter (is_open certs) vs)
  alone certs vs = record {
    certs_are = λ e. refl;
    votes_are = sym (kept-all (is_open certs) (filter (is_open certs) vs) (λ v i. open-in (is_open certs) vs v i));
  }

  counted-open : (e : ℕ) (certs : List Cert) (vs : List Vote) → AreCounted R e vs → AreCounted R e (filter (is_open certs) vs)
  counted-open e certs [] h = tt
  counted-open e certs (v ∷ vs) h = go (is_open certs v) refl (counted-open e certs vs h.4)
    where
      go : (b : Bool) → is_open certs v ≡ b → AreCounted R e (filter (is_open certs) vs) →
          AreCounted R e (cond b (v ∷ filter (is_open certs) vs) (filter (is_open certs) vs))
      go false q ih = ih
      go true q ih =
          let none = none-open (cert_on certs v.epoch.0) q in
          let fs : List Vote = filter (is_open certs) vs in (
            h.0,
            h.1,
            sym (vote-same certs certs vs fs (alone certs vs) v.epoch.0 none v.by.0) ∙ h.2,
            sym (stable-same R certs certs vs fs (alone certs vs) v none) ∙ h.3,
            ih,
          )

  -- with certificates more
  more-counted : (e : ℕ) (new certs : List Cert) (votes : List Vote) → AreCounted R e (filter (is_open certs) votes) →
      AreCounted R e (filter (is_open (new ++ certs)) votes)
  more-counted e new certs votes h =
      let fs : List Vote = filter (is_open certs) votes in
      let same = more-certs certs certs votes fs (alone certs votes) new in
      subst (λ (vs : List Vote). AreCounted R e vs) (sym same.votes_are) (counted-open e (new ++ certs) fs h)

  -- in a later epoch
  counted-later : (e d : ℕ) → e ≤ d → (vs : List Vote) → AreCounted R e vs → AreCounted R d vs
  counted-later e d le [] h = tt
  counted-later e d le (v ∷ vs) h = let n = h.0 in (omega (arith, n, le), h.1, h.2, h.3, counted-later e d le vs h.4)

  pub ballots-later : (e d : ℕ) (votes : List Vote) (certs : List Cert) → e ≤ d → AreBallots e votes certs → AreBallots d votes certs
  ballots-later e d votes certs le h = record {
    votes_are = h.votes_are;
    certs_are = λ x i. let c = h.certs_are x i in let n = c.near in record { certified = c.certified; entry = c.entry; near = omega (arith, n, le) };
    counted = counted-later e d le (filter (is_open certs) votes) h.counted;
  }

  -- ---- the certificate that a vote completes

  module _ (votes : List Vote) (v : Vote) (good : IsGoodVote v) (all : (w : Vote) → In w votes → IsGoodVote w) where
    abbrev vote_of : ℕ → Option Vote
    vote_of k = vote_by votes v.epoch.0 k

    abbrev made : Cert
    made = certificate_by vote_of v R.nodes

    there : (k : ℕ) (w : Vote) → vote_of k ≡ Some w → In w votes × (w.epoch.0 ≡ v.epoch.0) × (w.by.0 ≡ k)
    there k w h = vote-there s R votes v.epoch.0 k w h

    found : (k : ℕ) (w : Vote) → vote_of k ≡ Some w → IsVoteOf R v.epoch.0 k w
    found k w h = let t = there k w h in record { own = t.2; epoch = t.1; signed = (all w t.0).signed }

    low : (n : ℕ) (x : Signature) → In x (signed_below vote_of v n) → x.by.0 < n
    low n x h =
        let r = in-below R v vote_of found n x h in
        let own = (there r.node r.vote r.given).2 in
        let same : x.by.0 ≡ r.vote.by.0 = ap (λ (z : Signature). z.by.0) r.is in
        let lt = r.low in
        omega (arith, own, same, lt)

    below-signers : (n : ℕ) → AreSigners 0 (signed_below vote_of v n)
    below-signers zero = tt
    below-signers (suc n) = last (below-signers n) (vote_of n) refl
      where
        older : List Signature
        older = signed_below vote_of v n

        last : AreSigners 0 older → (o : Option Vote) → vote_of n ≡ o → AreSigners 0 (older ++ signed_if v o)
        last h None q = subst (λ (xs : List Signature). AreSigners 0 xs) (sym (append-nil older)) h
        last h (Some w) q = go (say_same v w)
          where
            go : (b : Bool) → AreSigners 0 (older ++ cond b (record { by = w.by; sig = w.sig } ∷ []) [])
            go false = subst (λ (xs : List Signature). AreSigners 0 xs) (sym (append-nil older)) h
            go true =
                let t = there n w q in
                let own = t.2 in
                signers-more 0 n older (record { by = w.by; sig = w.sig }) h (low n) (omega arith) (omega (arith, own)) (entry-parts w (all w t.0).entry).signed

    made-entry : length made.signers ≡ R.quorum → IsCertEntry made
    made-entry size =
        let p = entry-parts v good.entry in
        cert-entry-of v.epoch.0 made (cert_row made) good.entry.0 (record {
          epoch = refl;
          chain_fits = p.chain_fits;
          count_fits = p.count_fits;
          signers_fit = omega (arith, size, few);
          signers = below-signers R.nodes;
          row = refl;
        })

    made-good : (e : ℕ) → v.epoch.0 ≤ suc e → eqb (length made.signers) R.quorum ≡ true → IsGoodCert e made
    made-good e near q = record {
      certified = both (eqb (length made.signers) R.quorum) _ q (below-true R v vote_of found R.nodes);
      entry = made-entry (is-eq (length made.signers) R.quorum q);
      near = near;
    }

    stable-good : (e : ℕ) → v.epoch.0 ≤ suc e → (x : Cert) → In x (stable R votes v) → IsGoodCert e x
    stable-good e near x h = go (eqb (length made.signers) R.quorum) refl h
      where
        go : (b : Bool) → eqb (length made.signers) R.quorum ≡ b → In x (cond b (made ∷ []) []) → IsGoodCert e x
        go true q (inl i) = subst (λ (z : Cert). IsGoodCert e z) (sym i) (made-good e near q)
        go true q (inr i) = absurd i
        go false q i = absurd i

  -- ---- a vote more

  module _ (e : ℕ) (votes : List Vote) (certs : List Cert) (v : Vote) (near : v.epoch.0 ≤ suc e) (signed : all_verify R (claim_of_vote R v ∷ []) ≡ true)
      (new : (is_some (cert_on certs v.epoch.0) || is_some (vote_by votes v.epoch.0 v.by.0)) ≡ false) where
    abbrev cert_made : Cert
    cert_made = certificate_by (λ k. vote_by (v ∷ votes) v.epoch.0 k) v R.nodes

    none : cert_on certs v.epoch.0 ≡ None
    none = none-there (cert_on certs v.epoch.0) (or-false (is_some (cert_on certs v.epoch.0)) _ new).0

    none-by : (o : Option Vote) → is_some o ≡ false → o ≡ None
    none-by None h = refl
    none-by (Some w) h = absurd (cc)

    fresh : vote_by votes v.epoch.0 v.by.0 ≡ None
    fresh = none-by (vote_by votes v.epoch.0 v.by.0) (or-false (is_some (cert_on certs v.epoch.0)) (is_some (vote_by votes v.epoch.0 v.by.0)) new).1

    counted-more : AreCounted R e (filter (is_open certs) votes) → (b : Bool) → eqb (length cert_made.signers) R.quorum ≡ b →
        AreCounted R e (filter (is_open (cond b (cert_made ∷ []) [] ++ certs)) (v ∷ votes))
    counted-more h false q =
        let fs : List Vote = filter (is_open certs) votes in
        let open_v : is_open certs v ≡ true = ap (λ (o : Option Cert). not (is_some o)) none in
        let none_stable : stable R (v ∷ votes) v ≡ [] = ap (λ (b : Bool). cond b (cert_made ∷ []) []) q in
        subst (λ (b : Bool). AreCounted R e (cond b (v ∷ fs) fs)) (sym open_v) (
          near,
          signed,
          sym (vote-same certs certs votes fs (alone certs votes) v.epoch.0 none v.by.0) ∙ fresh,
          sym (stable-same R certs certs votes fs (alone certs votes) v none) ∙ none_stable,
          h,
        )
    counted-more h true q =
        let fs : List Vote = filter (is_open (cert_made ∷ certs)) votes in
        let closed : is_open (cert_made ∷ certs) v ≡ false =
        ap (λ (b : Bool). not (is_some (cond b (Some cert_made) (cert_on certs v.epoch.0)))) (eqb-same v.epoch.0) in
        subst (λ (b : Bool). AreCounted R e (cond b (v ∷ fs) fs)) (sym closed) (more-counted e (cert_made ∷ []) certs votes h)

    pub ballots-counted : AreBallots e votes certs → IsVoteEntry v → AreBallots e (v ∷ votes) (stable R (v ∷ votes) v ++ certs)
    ballots-counted h entry =
        let good : IsGoodVote v = record { signed = each-verifies R (claim_of_vote R v ∷ []) signed (claim_of_vote R v) (inl refl); entry = entry } in
        let all : (w : Vote) → In w (v ∷ votes) → IsGoodVote w =
        λ w i. elim i [ inl q ↦ subst (λ (z : Vote). IsGoodVote z) (sym q) good | inr m ↦ h.votes_are w m ] in
        record {
          votes_are = all;
          certs_are = λ x i. elim (in_append x (stable R (v ∷ votes) v) certs i) [
            | inl a ↦ stable-good (v ∷ votes) v good all e near x a
            | inr b ↦ h.certs_are x b
          ];
          counted = counted-more h.counted (eqb (length cert_made.signers) R.quorum) refl;
        }

    -- certificates stay
    pub counted-keeps : (d : ℕ) (x : Cert) → cert_on certs d ≡ Some x → cert_on (stable R (v ∷ votes) v ++ certs) d ≡ Some x
    counted-keeps d x h = go (eqb (length cert_made.signers) R.quorum)
      where
        go : (b : Bool) → cert_on (cond b (cert_made ∷ []) [] ++ certs) d ≡ Some x
        go false = h
        go true = at (eqb v.epoch.0 d) refl
          where
            at : (b : Bool) → eqb v.epoch.0 d ≡ b → cond b (Some cert_made) (cert_on certs d) ≡ Some x
            at false q = h
            at true q = absurd (none-some x (sym none ∙ (ap (λ (n : ℕ). cert_on certs n) (is-eq v.epoch.0 d q) ∙ h)))

  -- ---- a certificate that is kept

  pub ballots-keeping : (e : ℕ) (votes : List Vote) (certs : List Cert) (x : Cert) (o : Option Cert) → AreBallots e votes certs → IsGoodCert e x →
      AreBallots e votes (keeping certs x o)
  ballots-keeping e votes certs x None h good = record {
    votes_are = h.votes_are;
    certs_are = λ y i. elim i [ inl q ↦ subst (λ (z : Cert). IsGoodCert e z) (sym q) good | inr m ↦ h.certs_are y m ];
    counted = more-counted e (x ∷ []) certs votes h.counted;
  }
  ballots-keeping e votes certs x (Some y) h good = h

  pub keeping-keeps : (certs : List Cert) (x : Cert) (o : Option Cert) → cert_on certs x.epoch.0 ≡ o → (d : ℕ) (y : Cert) → cert_on certs d ≡ Some y →
      cert_on (keeping certs x o) d ≡ Some y
  keeping-keeps certs x (Some z) q d y h = h
  keeping-keeps certs x None q d y h = at (eqb x.epoch.0 d) refl
    where
      at : (b : Bool) → eqb x.epoch.0 d ≡ b → cond b (Some x) (cert_on certs d) ≡ Some y
      at false e = h
      at true e = absurd (none-some y (sym q ∙ (ap (λ (n : ℕ). cert_on certs n) (is-eq x.epoch.0 d e) ∙ h)))

  -- ---- look-ups

  module _ (e : ℕ) (votes : List Vote) (certs : List Cert) (h : AreBallots e votes certs) where
    pub ballots-true : (d : ℕ) (x : Cert) → cert_on certs d ≡ Some x → is_true_cert R x ≡ true
    ballots-true d x q = (h.certs_are x (cert-there s R certs d x q).0).certified

    pub ballots-near : (d : ℕ) → suc e < d → cert_on certs d ≡ None
    ballots-near d lt = go (cert_on certs d) refl
      where
        go : (o : Option Cert) → cert_on certs d ≡ o → o ≡ None
        go None q = refl
        go (Some x) q =
            let t = cert-there s R certs d x q in
            let near = (h.certs_are x t.0).near in
            let same = t.1 in
            absurd (omega (arith, near, same, lt))
