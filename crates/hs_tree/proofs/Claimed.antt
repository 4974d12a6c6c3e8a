-- What holds of messages of both protocols: claims name their instance, and a node's digest has 32 bytes.
use Rattle.std.proofs.Common.{◌≡◌, ℕ, List, [], ◌∷◌, ◌++◌, length, refl, ap, ◌∙◌, inl, inr}
use Rattle.sha2.proofs.Facts256.{length-sha256}
use Rattle.iss_base.specs.Lists.{In}
use Rattle.iss_base.proofs.Lists.{in_append}
use Rattle.iss_request.specs.Digest.{digest}
use Rattle.iss_sb.specs.declared.content.Content.{Content}
use Rattle.iss_sb.specs.declared.effects.Claim.{Claim}
use Rattle.iss_sb.specs.declared.effects.Params.{Params}
use Rattle.iss_sb.specs.declared.signers.Signed.{Signed}
use Rattle.iss_sb.specs.Statements.{claim, four_bytes, statement_head}
use Rattle.hs_tree.specs.declared.certificates.Certificate.{Certificate}
use Rattle.hs_tree.specs.declared.certificates.Certificate.TheVariants.{Root, Votes}
use Rattle.hs_tree.specs.declared.messages.Message.{Message}
use Rattle.hs_tree.specs.declared.messages.Body.{Body}
use Rattle.hs_tree.specs.declared.messages.Body.TheVariants.{NewView, Prepare, PreCommit, Commit, Decide, Vote}
use Rattle.hs_tree.specs.Certificates.{digest_of}
use Rattle.hs_tree.specs.Statements.{certificate_claims, claims, inside, node_digest, stated, vote_claims}
use Rattle.hs_tree.specs.Tree.{Form}

pub digest-long : (form : Form) (p : Params) (view : ℕ) (what : Content) (just : Certificate) → length (node_digest form p view what just) ≡ 32
digest-long form p view what just = long (form.string p.setup.version view (digest_of just) what)
  where
    long : (s : List ℕ) → length (digest s) ≡ 32
    long [] = refl
    long (x ∷ xs) = length-sha256 _

-- ---- Each claim names its instance

abbrev pub Names : Form → Params → List ℕ → Type 0
Names form p s = (rest : List ℕ) × (s ≡ statement_head p form.tag ++ rest)

own-names : (form : Form) (p : Params) (body : Body) → Names form p (stated form p body)
own-names form p (NewView round high) = (_, refl)
own-names form p (Prepare view what just) = (_, refl)
own-names form p (PreCommit view shown) = (_, refl)
own-names form p (Commit view shown) = (_, refl)
own-names form p (Decide view shown) = (_, refl)
own-names form p (Vote phase view d) = (_, refl)

vote-is : (s : List ℕ) (vs : List Signed) (c : Claim) → In c (vote_claims s vs) → c.statement ≡ s
vote-is s [] c h = absurd h
vote-is s (v ∷ vs) c (inl e) = ap (λ (z : Claim). z.statement) e
vote-is s (v ∷ vs) c (inr h) = vote-is s vs c h

certificate-names : (form : Form) (p : Params) (x : Certificate) (c : Claim) → In c (certificate_claims form p x) → Names form p c.statement
certificate-names form p Root c h = absurd h
certificate-names form p (Votes view phase d votes) c h = (6 ∷ (phase ∷ four_bytes view ++ d), vote-is _ votes c h)

pub named : (form : Form) (p : Params) (from : ℕ) (msg : Message) (c : Claim) → In c (claims form p from msg) → Names form p c.statement
named form p from msg c h = elim (in_append c (certificate_claims form p (inside msg.body)) _ h) [
  | inl k ↦ certificate-names form p (inside msg.body) c k
  | inr k ↦ own k
]
  where
    own : In c (claim from (stated form p msg.body) msg.sig ∷ []) → Names form p c.statement
    own (inl e) = let n = own-names form p msg.body in (n.0, ap (λ (z : Claim). z.statement) e ∙ n.1)
    own (inr k) = absurd k
