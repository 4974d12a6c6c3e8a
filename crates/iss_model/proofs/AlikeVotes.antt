-- Votes and certificates that are alike: the same certificate of each epoch, and the same votes of those that have none.
use Rattle.std.proofs.Common.{◌≡◌, ℕ, Bool, true, false, cond, eqb, not, ◌&&◌, ◌||◌, List, [], ◌∷◌, ◌++◌, Option, Some, None, refl, sym, ap, ap₂, ◌∙◌, subst, is_some, length, true≢false}
use Rattle.std.specs.List.{filter}
use mathlib.Core.Path.{fun_ext}
use Rattle.iss_base.proofs.Lists.{is-eq}
use Rattle.iss_checkpoint.specs.Tallies.{certificate_by}
use Rattle.iss_checkpoint.specs.declared.votes.Cert.{Cert}
use Rattle.iss_checkpoint.specs.declared.votes.Vote.{Vote}
use Rattle.iss_rules.specs.Rules.{Rules}
use Rattle.iss_rules.specs.Votes.{cert_on, is_open, keeping, stable, vote_by}
use Rattle.iss_rules.proofs.OpenVotes.{cert-behind, filter-both, open-behind}

-- two such pairs
pub record SameVotes (certs others : List Cert) (votes more : List Vote) : Type 0 where
  pub certs_are : (e : ℕ) → cert_on certs e ≡ cert_on others e
  pub votes_are : filter (is_open certs) votes ≡ filter (is_open others) more

module _ (kc kd : List Cert) (vc vd : List Vote) (h : SameVotes kc kd vc vd) where
  open-same : (v : Vote) → is_open kc v ≡ is_open kd v
  open-same v = ap (λ (o : Option Cert). not (is_some o)) (h.certs_are v.epoch.0)

  -- with certificates more
  pub more-certs : (s : List Cert) → SameVotes (s ++ kc) (s ++ kd) vc vd
  more-certs s = record {
    certs_are = λ e. cert-behind s kc kd e (h.certs_are e);
    votes_are =
        filter-both (is_open (s ++ kc)) (is_open s) (is_open kc) (open-behind s kc) vc
        ∙ (ap (λ (vs : List Vote). filter (is_open s) vs) h.votes_are
        ∙ sym (filter-both (is_open (s ++ kd)) (is_open s) (is_open kd) (open-behind s kd) vd));
  }

  -- with a vote more
  pub more-votes : (v : Vote) → SameVotes kc kd (v ∷ vc) (v ∷ vd)
  more-votes v = record {
    certs_are = h.certs_are;
    votes_are = ap₂ (λ (b : Bool) (vs : List Vote). cond b (v ∷ vs) vs) (open-same v) h.votes_are;
  }

  -- a certificate that is kept where none is
  pub kept-same : (cert : Cert) (o : Option Cert) → SameVotes (keeping kc cert o) (keeping kd cert o) vc vd
  kept-same cert None = more-certs (cert ∷ [])
  kept-same cert (Some x) = h

-- a vote of an epoch without certificate is found among the open ones
vote-open : (certs : List Cert) (e k : ℕ) → cert_on certs e ≡ None → (vs : List Vote) → vote_by (filter (is_open certs) vs) e k ≡ vote_by vs e k
vote-open certs e k none [] = refl
vote-open certs e k none (v ∷ vs) = go (is_open certs v) refl (vote-open certs e k none vs)
  where
    away : (b : Bool) → eqb v.epoch.0 e ≡ b → is_open certs v ≡ false → vote_by vs e k ≡ cond (b && eqb v.by.0 k) (Some v) (vote_by vs e k)
    away true q h =
        let at : cert_on certs v.epoch.0 ≡ None = ap (λ (n : ℕ). cert_on certs n) (is-eq v.epoch.0 e q) ∙ none in
        absurd (true≢false (sym (ap (λ (o : Option Cert). not (is_some o)) at) ∙ h))
    away false q h = refl

    go : (b : Bool) → is_open certs v ≡ b → vote_by (filter (is_open certs) vs) e k ≡ vote_by vs e k →
        vote_by (cond b (v ∷ filter (is_open certs) vs) (filter (is_open certs) vs)) e k ≡ cond (eqb v.epoch.0 e && eqb v.by.0 k) (Some v) (vote_by vs e k)
    go true q ih = ap (λ (o : Option Vote). cond (eqb v.epoch.0 e && eqb v.by.0 k) (Some v) o) ih
    go false q ih = ih ∙ away (eqb v.epoch.0 e) refl q

module _ (kc kd : List Cert) (vc vd : List Vote) (h : SameVotes kc kd vc vd) (e : ℕ) where
  pub vote-same : cert_on kc e ≡ None → (k : ℕ) → vote_by vc e k ≡ vote_by vd e k
  vote-same none k =
      sym (vote-open kc e k none vc)
      ∙ (ap (λ (vs : List Vote). vote_by vs e k) h.votes_are
      ∙ vote-open kd e k (sym (h.certs_are e) ∙ none) vd)

  -- whether a vote was counted, or its epoch has a certificate
  pub counted-same : (k : ℕ) → (is_some (cert_on kc e) || is_some (vote_by vc e k)) ≡ (is_some (cert_on kd e) || is_some (vote_by vd e k))
  counted-same k = go (cert_on kc e) refl ∙ ap (λ (o : Option Cert). is_some o || is_some (vote_by vd e k)) (h.certs_are e)
    where
      go : (o : Option Cert) → cert_on kc e ≡ o → (is_some (cert_on kc e) || is_some (vote_by vc e k)) ≡ (is_some (cert_on kc e) || is_some (vote_by vd e k))
      go None q = ap (λ (x : Option Vote). is_some (cert_on kc e) || is_some x) (vote-same q k)
      go (Some x) q =
          ap (λ (o : Option Cert). is_some o || is_some (vote_by vc e k)) q
          ∙ sym (ap (λ (o : Option Cert). is_some o || is_some (vote_by vd e k)) q)

-- the certificate that a vote more leads to is the same
pub stable-same : (R : Rules) (kc kd : List Cert) (vc vd : List Vote) → SameVotes kc kd vc vd → (v : Vote) → cert_on kc v.epoch.0 ≡ None →
    stable R (v ∷ vc) v ≡ stable R (v ∷ vd) v
stable-same R kc kd vc vd h v none =
    ap (λ (f : ℕ → Option Vote). let c = certificate_by f v R.nodes in cond (eqb (length c.signers) R.quorum) (c ∷ []) [])
    (fun_ext (λ k. vote-same kc kd (v ∷ vc) (v ∷ vd) (more-votes kc kd vc vd h v) v.epoch.0 none k))

-- so the vote leads to votes and certificates that are alike
pub counting-same : (R : Rules) (kc kd : List Cert) (vc vd : List Vote) → SameVotes kc kd vc vd → (v : Vote) → cert_on kc v.epoch.0 ≡ None →
    SameVotes (stable R (v ∷ vc) v ++ kc) (stable R (v ∷ vd) v ++ kd) (v ∷ vc) (v ∷ vd)
counting-same R kc kd vc vd h v none =
    let s : List Cert = stable R (v ∷ vc) v in
    subst (λ (t : List Cert). SameVotes (s ++ kc) (t ++ kd) (v ∷ vc) (v ∷ vd)) (stable-same R kc kd vc vd h v none)
    (more-certs kc kd (v ∷ vc) (v ∷ vd) (more-votes kc kd vc vd h v) s)
