-- What the sender of a message signs, and the claims of a message: the votes of its certificate, and then its own
-- signature. A claim says that a node signed a statement.
use Rattle.std.specs.Prelude.{ℕ, List, [], ◌∷◌, ◌++◌}
use Rattle.iss_request.specs.Digest.{digest}
use Rattle.iss_sb.specs.declared.effects.Claim.{Claim}
use Rattle.iss_sb.specs.declared.effects.Params.{Params}
use Rattle.iss_sb.specs.Statements.{claim, four_bytes, statement_head, two_bytes}
use Rattle.iss_sb.specs.declared.content.Content.{Content}
use Rattle.hs_tree.specs.declared.certificates.Certificate.{Certificate}
use Rattle.hs_tree.specs.declared.certificates.Certificate.TheVariants.{Root, Votes}
use Rattle.iss_sb.specs.declared.signers.Signed.{Signed}
use Rattle.hs_tree.specs.declared.messages.Message.{Message}
use Rattle.hs_tree.specs.declared.messages.Body.{Body}
use Rattle.hs_tree.specs.declared.messages.Body.TheVariants.{NewView, Prepare, PreCommit, Commit, Decide, Vote}
use Rattle.hs_tree.specs.Certificates.{digest_of, view_of}
use Rattle.hs_tree.specs.Tree.{Form}

-- the hashed string and the digest of the node that a proposal is for
abbrev pub node_string : Form → Params → ℕ → Content → Certificate → List ℕ
node_string form p view what just = form.string p.setup.version view (digest_of just) what

abbrev pub node_digest : Form → Params → ℕ → Content → Certificate → List ℕ
node_digest form p view what just = digest (node_string form p view what just)

-- ---- Statements: the instance's head, the message's number, its fields

abbrev pub statement : Form → Params → ℕ → List ℕ → List ℕ
statement form p kind fields = statement_head p form.tag ++ kind ∷ fields

abbrev pub vote_statement : Form → Params → ℕ → ℕ → List ℕ → List ℕ
vote_statement form p phase view d = statement form p 6 (phase ∷ four_bytes view ++ d)

-- the statement of a body, which its sender signs
abbrev pub stated : Form → Params → Body → List ℕ
stated form p (NewView round high) = statement form p 1 (two_bytes round ++ four_bytes (view_of high))
stated form p (Prepare view what just) = statement form p 2 (four_bytes view ++ node_digest form p view what just)
stated form p (PreCommit view shown) = statement form p 3 (four_bytes view ++ digest_of shown)
stated form p (Commit view shown) = statement form p 4 (four_bytes view ++ digest_of shown)
stated form p (Decide view shown) = statement form p 5 (four_bytes view ++ digest_of shown)
stated form p (Vote phase view d) = vote_statement form p phase view d

-- the certificate in a body, the root's if there is none
abbrev pub inside : Body → Certificate
inside (NewView round high) = high
inside (Prepare view what just) = just
inside (PreCommit view shown) = shown
inside (Commit view shown) = shown
inside (Decide view shown) = shown
inside (Vote phase view d) = Root

-- ---- Claims, in the order of the bytes

-- each signer signed the statement
abbrev pub vote_claims : List ℕ → List Signed → List Claim
vote_claims statement [] = []
vote_claims statement (v ∷ vs) = claim v.by.0 statement v.sig ∷ vote_claims statement vs

-- each vote of the certificate was signed
abbrev pub certificate_claims : Form → Params → Certificate → List Claim
certificate_claims form p Root = []
certificate_claims form p (Votes view phase d votes) = vote_claims (vote_statement form p phase view d) votes

-- the votes of the certificate in the body, then the sender's own signature
-- rule: HotStuff: A message claims the votes of its certificate, then its sender's signature
abbrev pub claims : Form → Params → ℕ → Message → List Claim
claims form p from msg =
    certificate_claims form p (inside msg.body) ++ claim from (stated form p msg.body) msg.sig ∷ []
