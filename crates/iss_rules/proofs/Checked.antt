-- The model's checks of votes, certificates and pieces are those of iss_checkpoint and iss_transfer.
use Rattle.std.proofs.Common.{◌≡◌, ℕ, suc, ◌≤◌, Bool, true, false, ◌&&◌, eqb, nat_le, List, [], ◌∷◌, ◌++◌, length, reverse, take, refl, sym, ap, ap₂, ◌∙◌, subst}
use Rattle.std.specs.Prelude.{nat_lt}
use Rattle.std.proofs.lemmas.Bool.{le-leb}
use Rattle.std.proofs.Math.Seq.{take-append_seam}
use Rattle.std.proofs.lemmas.List.{length-reverse, reverse-append, reverse-reverse}
use Rattle.iss_base.specs.Lists.{oldest, push_all}
use Rattle.iss_base.proofs.Lists.{both, length-oldest, oldest-part}
use Rattle.iss_checkpoint.specs.Votes.{are_signed, is_cert, is_signed, statement_of, voters_of}
use Rattle.iss_checkpoint.specs.declared.votes.Cert.{Cert}
use Rattle.iss_sb.specs.declared.signers.Signed.{Signed}
use Rattle.iss_checkpoint.specs.declared.votes.Vote.{Vote}
use Rattle.iss_keys.specs.VerifiedBy.{is_verified_by}
use Rattle.iss_keys.proofs.DirectoryLemmas.{node-below, verified-by}
use Rattle.iss_log.specs.Chains.{chain_of, end_of, strings_from}
use Rattle.iss_request.specs.declared.requests.Value.{Value}
use Rattle.iss_request.specs.declared.setups.Setup.{Setup}
use Rattle.iss_transfer.specs.Adoption.{adopted_log, log_before}
use Rattle.iss_transfer.specs.declared.pieces.Piece.{Piece}
use Rattle.iss_rules.specs.Concrete.{keys_of, rules_of}
use Rattle.iss_rules.specs.Votes.{all_verify, are_true, claim_of_vote, is_true_cert}
use Rattle.iss_rules.specs.Past.{cut_at, start_of}
use Rattle.iss_rules.proofs.Layouts.{sums}
use Rattle.iss_rules.proofs.Reversed.{over-is}

module _ (s : Setup) where
  -- a signer is a node
  sign-same : (by : ℕ) (statement sig : List ℕ) → is_signed (voters_of s (keys_of s)) statement by sig ≡ (rules_of s).verifies by statement sig
  sign-same by statement sig = go (is_verified_by (keys_of s).nodes by statement sig) refl
    where
      none : (b : Bool) → (b && false) ≡ false
      none true = refl
      none false = refl

      go : (b : Bool) → is_verified_by (keys_of s).nodes by statement sig ≡ b → (nat_lt by s.n && b) ≡ b
      go true q =
          let lt = node-below s.n s.clients s.keys by statement sig ((verified-by (keys_of s).nodes by statement sig).0 q) in
          both (nat_lt by s.n) true (le-leb (suc by) s.n lt) refl
      go false q = none (nat_lt by s.n)

  -- a vote's signature is valid
  pub vote-same : (v : Vote) → is_signed (voters_of s (keys_of s)) (statement_of (voters_of s (keys_of s)) v) v.by.0 v.sig ≡
      all_verify (rules_of s) (claim_of_vote (rules_of s) v ∷ [])
  vote-same v = sign-same v.by.0 ((rules_of s).voted v.epoch.0 v.chain v.requests) v.sig ∙ sym (alone ((rules_of s).verifies v.by.0 _ v.sig))
    where
      alone : (b : Bool) → (b && true) ≡ b
      alone true = refl
      alone false = refl

  signs-same : (statement : List ℕ) (from : ℕ) (xs : List Signed) → are_signed (voters_of s (keys_of s)) statement from xs ≡ are_true (rules_of s) statement from xs
  signs-same statement from [] = refl
  signs-same statement from (x ∷ xs) = ap₂ (λ (a b : Bool). nat_le from x.by.0 && (a && b)) (sign-same x.by.0 statement x.sig) (signs-same statement (suc x.by.0) xs)

  -- a certificate is valid
  pub cert-same : (c : Cert) → is_cert (voters_of s (keys_of s)) c ≡ is_true_cert (rules_of s) c
  cert-same c = ap (λ (b : Bool). eqb (length c.signers) s.quorum && b) (signs-same ((rules_of s).voted c.epoch.0 c.chain c.requests) 0 c.signers)

  -- the log before an epoch, which iss_transfer has oldest first
  pub before-same : (log : List Value) (e : ℕ) → start_of (rules_of s) log e ≤ length log → log_before s (reverse log) e ≡ reverse (cut_at (rules_of s) log e)
  before-same log e far =
      let n = start_of (rules_of s) log e in
      let part = oldest-part n log in
      let front = reverse (oldest n log) in
      let long : length front ≡ n = length-reverse (oldest n log) ∙ length-oldest n log far in
      let turned : reverse log ≡ front ++ reverse part.0 = ap (λ (t : List Value). reverse t) part.1 ∙ reverse-append part.0 (oldest n log) in
      ap (λ (k : ℕ). take k (reverse log)) (sym (sums s log e)) ∙
      (ap (λ (t : List Value). take n t) turned ∙ subst (λ (k : ℕ). take k (front ++ reverse part.0) ≡ front) long (take-append_seam front (reverse part.0)))

  -- and the same followed by the values of a piece
  pub adopted-same : (log : List Value) (e : ℕ) (p : Piece) → start_of (rules_of s) log e ≤ length log →
      adopted_log s (reverse log) e p ≡ reverse (push_all p.values (cut_at (rules_of s) log e))
  adopted-same log e p far =
      let bf = cut_at (rules_of s) log e in
      ap (λ (t : List Value). t ++ p.values) (before-same log e far) ∙
      sym (ap (λ (t : List Value). reverse t) (over-is p.values bf) ∙
      (reverse-append (reverse p.values) bf ∙ ap (λ (t : List Value). reverse bf ++ t) (reverse-reverse p.values)))

  -- so a piece leads to the same end, with the same strings hashed
  pub end-same : (log : List Value) (e : ℕ) (p : Piece) → start_of (rules_of s) log e ≤ length log →
      end_of s.version (adopted_log s (reverse log) e p) ≡ (rules_of s).end (push_all p.values (cut_at (rules_of s) log e))
  end-same log e p far = ap (λ (t : List Value). end_of s.version t) (adopted-same log e p far)

  pub strings-same : (log : List Value) (e : ℕ) (p : Piece) → start_of (rules_of s) log e ≤ length log →
      strings_from s.version (chain_of s.version (log_before s (reverse log) e)) p.values ≡ (rules_of s).hashes (cut_at (rules_of s) log e) p.values
  strings-same log e p far = ap (λ (t : List Value). strings_from s.version (chain_of s.version t) p.values) (before-same log e far)
