-- Votes and certificates that a node holds. A certificate is true if it has exactly a quorum of true signatures of
-- strictly ascending nodes. It is made from votes that say the same as soon as they are exactly a quorum.
use Rattle.std.specs.Prelude.{ℕ, suc, ◌==◌, nat_le, cond, Bool, true, not, is_some, ◌&&◌, List, [], ◌∷◌, Option, Some, None, length}
use Rattle.std.specs.List.{list_all}
use Rattle.iss_checkpoint.specs.Tallies.{certificate_by}
use Rattle.iss_checkpoint.specs.declared.votes.Cert.{Cert}
use Rattle.iss_sb.specs.declared.signers.Signed.{Signed}
use Rattle.iss_checkpoint.specs.declared.votes.Vote.{Vote}
use Rattle.iss_sb.specs.declared.effects.Claim.{Claim}
use Rattle.iss_rules.specs.Rules.{Rules}

-- whether each claimed signature is valid
-- rule: Acceptance: A message with a claim that does not verify under its signer's key is dropped
abbrev pub all_verify : Rules → List Claim → Bool
all_verify R cs = list_all (λ (c : Claim). R.verifies c.by.0 c.statement c.sig) cs

-- a vote claims that its signer signed the vote's statement
abbrev pub claim_of_vote : Rules → Vote → Claim
claim_of_vote R v = record { by = v.by; statement = R.voted v.epoch.0 v.chain v.requests; sig = v.sig }

-- the counted vote of node k for epoch e, and the certificate of an epoch, if any
abbrev pub vote_by : List Vote → ℕ → ℕ → Option Vote
vote_by [] e k = None
vote_by (v ∷ vs) e k = cond ((v.epoch.0 == e) && (v.by.0 == k)) (Some v) (vote_by vs e k)

abbrev pub cert_on : List Cert → ℕ → Option Cert
cert_on [] e = None
cert_on (c ∷ cs) e = cond (c.epoch.0 == e) (Some c) (cert_on cs e)

-- whether the vote's epoch has no certificate
abbrev pub is_open : List Cert → Vote → Bool
is_open certs v = not (is_some (cert_on certs v.epoch.0))

-- the certificate of all votes equal to v, once they form a quorum
-- rule: Checkpoints: The vote that completes a quorum gives the epoch's certificate; no later one does
abbrev pub stable : Rules → List Vote → Vote → List Cert
stable R votes v =
    let c = certificate_by (vote_by votes v.epoch.0) v R.nodes in
    cond (length c.signers == R.quorum) (c ∷ []) []

-- the claims of a certificate: the vote of each signer
abbrev pub claims_by : List ℕ → List Signed → List Claim
claims_by statement [] = []
claims_by statement (x ∷ xs) = record { by = x.by; statement = statement; sig = x.sig } ∷ claims_by statement xs

-- the claims of a whole certificate
abbrev pub claims_of_cert : Rules → Cert → List Claim
claims_of_cert R c = claims_by (R.voted c.epoch.0 c.chain c.requests) c.signers

-- Signers strictly ascending, every signature valid.
abbrev pub are_true : Rules → List ℕ → ℕ → List Signed → Bool
are_true R statement from [] = true
are_true R statement from (x ∷ xs) =
    nat_le from x.by.0 && (R.verifies x.by.0 statement x.sig && are_true R statement (suc x.by.0) xs)

-- the same of a certificate, with exactly a quorum of signers
abbrev pub is_true_cert : Rules → Cert → Bool
is_true_cert R c = (length c.signers == R.quorum) && are_true R (R.voted c.epoch.0 c.chain c.requests) 0 c.signers

-- a certificate is kept unless its epoch already has one
-- rule: Checkpoints: Of each epoch the first certificate is kept, counted or adopted
abbrev pub keeping : List Cert → Cert → Option Cert → List Cert
keeping certs c None = c ∷ certs
keeping certs c (Some other) = certs
