-- Signatures of nodes: their shape, that they are valid, and who made a valid one.
use Rattle.std.proofs.Common.{◌≡◌, ◌<◌, ◌^◌, ℕ, true, List, refl, subst, sym}
use Rattle.iss_keys.specs.Directories.{DirectoryView, VerifiesBy, node_secret}
use Rattle.iss_keys.proofs.DirectoryLemmas.{node-below, node-verifies}
use Rattle.iss_keys.proofs.VerifyLemmas.{length-signature_of}
use Rattle.iss_request.specs.Formats.{is_signature}
use Rattle.iss_request.proofs.OneSpelling.{signature_shaped}
use Rattle.iss_sb.specs.declared.effects.Claim.{Claim}
use Rattle.iss_sb.specs.declared.effects.Params.{Params}
use Rattle.iss_sb.specs.Calls.{IsGoodParams}
use Rattle.iss_sb.specs.Evidence.{Module, Verifies}
use Rattle.iss_sb.specs.Statements.{signature}

module _ {M : Type 0} (m : Module M) (p : Params) (good : IsGoodParams m p) where
  -- by any leaf it has the shape of a signature
  pub signature-shape : (me leaf : ℕ) (statement : List ℕ) → is_signature (signature p me leaf statement) ≡ true
  signature-shape me leaf statement =
      signature_shaped p.setup.keys (signature p me leaf statement) good.setup.keys_height
      (length-signature_of (node_secret me) p.setup.keys leaf statement) refl

  -- by a leaf of the tree it is valid
  pub signature-verifies : (me leaf : ℕ) (statement : List ℕ) → me < p.setup.n → leaf < 2 ^ p.setup.keys →
      Verifies p (record { by = record { 0 = me }; statement = statement; sig = signature p me leaf statement })
  signature-verifies me leaf statement below few =
      subst (λ (d : DirectoryView). VerifiesBy d.nodes me statement (signature p me leaf statement)) (sym good.directory)
      (node-verifies p.setup.n p.setup.clients p.setup.keys me leaf statement good.setup.keys_height few below)

  -- the signer of a valid signature is a node
  pub verifies-below : (c : Claim) → Verifies p c → c.by.0 < p.setup.n
  verifies-below c h = node-below p.setup.n p.setup.clients p.setup.keys c.by.0 c.statement c.sig (subst (λ (d : DirectoryView). VerifiesBy d.nodes c.by.0 c.statement c.sig) good.directory h)
