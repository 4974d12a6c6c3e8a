-- An event at a node may be many moves: the node takes an input, ends its epoch and votes, adopts an epoch, and takes
-- early messages of the next. Claims are tested against the book before the event.
use Rattle.std.specs.Prelude.{◌≡◌, ℕ, true, List, [], ◌∷◌, ◌++◌, length, None}
use Rattle.iss_request.specs.declared.setups.Setup.{Setup}
use Rattle.iss_sb.specs.declared.effects.Input.{Input}
use Rattle.iss_sb.specs.declared.effects.Input.TheVariants.{Cast, Receive, Timeout}
use Rattle.iss_sb.specs.Evidence.{IsCredible, IsReadBatch, Module}
use Rattle.iss_rules.specs.Books.{Signed}
use Rattle.iss_rules.specs.Past.{adopted_log, adopts, advanced, is_complete, Past, Piece, before, leads_in, log_of, made_in, params_of, takes}
use Rattle.iss_rules.specs.Verdicts.{verdict_in}
use Rattle.iss_rules.specs.Rules.{Rules}
use Rattle.iss_model.specs.Node.{own_claims}
use Rattle.iss_model.specs.Run.{as_signed}
use Rattle.iss_composition.specs.Cluster.{AllSpelled, AreVotes, Cert, IsBooked, IsVerified, Scheme, chain, chain_strings, signers, vote_of}

pub data Small (Msg : Type 0) : Type 0 where
  Takes : (leader : ℕ) → (input : Input Msg) → (leaf : ℕ) → Small Msg
  Ends : Small Msg
  Adopts : (piece : Piece) → (cert : Cert) → Small Msg

abbrev pub past_after : {Msg : Type 0} → Rules → Module Msg → ℕ → Past Msg → Small Msg → Past Msg
past_after R M i c (Takes l input leaf) = takes R M i c l input leaf
past_after R M i c Ends = advanced c
past_after R M i c (Adopts piece cert) = adopts c piece

-- the own statements that it signs, and the strings that it hashes
abbrev pub signs_at : {Msg : Type 0} → Setup → Scheme → Rules → Module Msg → ℕ → Past Msg → Small Msg → List Signed
signs_at s S R M i c (Takes l input leaf) = as_signed (own_claims M (params_of R M i c l) i (made_in R M i c l input leaf).sends)
signs_at s S R M i c Ends = record { by = i; statement = vote_of s S R M i c } ∷ []
signs_at s S R M i c (Adopts piece cert) = []

abbrev pub hashes_at : {Msg : Type 0} → Scheme → Rules → Module Msg → ℕ → Past Msg → Small Msg → List (List ℕ)
hashes_at S R M i c (Takes l input leaf) = (made_in R M i c l input leaf).strings ++ chain_strings S (log_of R M i (takes R M i c l input leaf))
hashes_at S R M i c Ends = chain_strings S (log_of R M i (advanced c))
hashes_at S R M i c (Adopts piece cert) = chain_strings S (adopted_log R M i c piece) ++ chain_strings S (log_of R M i (adopts c piece))

-- what may be received, by this book
abbrev pub MayHear : {Msg : Type 0} → Rules → Module Msg → List Signed → ℕ → Past Msg → ℕ → Input Msg → Type 0
MayHear R M book i c l (Cast slot batch) = (i ≡ l) × IsReadBatch (params_of R M i c l) batch
MayHear R M book i c l (Receive from msg) = IsCredible M (params_of R M i c l) (IsVerified R) (IsBooked book) from.0 msg
MayHear R M book i c l Timeout = Unit {0}

pub record IsRightInput {Msg : Type 0} (s : Setup) (R : Rules) (M : Module Msg) (book : List Signed) (i : ℕ) (c : Past Msg)
    (l : ℕ) (input : Input Msg) : Type 0 where
  pub leads : leads_in R M i c l ≡ true
  pub comes : MayHear R M book i c l input
  pub judged : verdict_in R M i c l input ≡ None

pub record IsRightPiece {Msg : Type 0} (s : Setup) (S : Scheme) (R : Rules) (M : Module Msg) (book : List Signed) (i : ℕ) (c : Past Msg)
    (piece : Piece) (cert : Cert) : Type 0 where
  pub epoch : piece.epoch ≡ c.epoch
  pub whole : length piece.values ≡ R.slots (before R M i c piece.epoch) piece.epoch
  pub quorum : S.is_quorum (signers cert.signed) ≡ true
  pub votes : AreVotes s book piece.epoch cert
  pub chained : cert.chain ≡ chain S (adopted_log R M i c piece)
  pub spelled : AllSpelled S (adopted_log R M i c piece)

abbrev pub IsRight : {Msg : Type 0} → Setup → Scheme → Rules → Module Msg → List Signed → ℕ → Past Msg → Small Msg → Type 0
IsRight s S R M book i c (Takes l input leaf) = IsRightInput s R M book i c l input
IsRight s S R M book i c Ends = is_complete R M i c ≡ true
IsRight s S R M book i c (Adopts piece cert) = IsRightPiece s S R M book i c piece cert

-- a sequence of moves
abbrev pub past_of : {Msg : Type 0} → Rules → Module Msg → ℕ → Past Msg → List (Small Msg) → Past Msg
past_of R M i c [] = c
past_of R M i c (x ∷ xs) = past_of R M i (past_after R M i c x) xs

abbrev pub signs_of : {Msg : Type 0} → Setup → Scheme → Rules → Module Msg → ℕ → Past Msg → List (Small Msg) → List Signed
signs_of s S R M i c [] = []
signs_of s S R M i c (x ∷ xs) = signs_of s S R M i (past_after R M i c x) xs ++ signs_at s S R M i c x

abbrev pub hashes_of : {Msg : Type 0} → Scheme → Rules → Module Msg → ℕ → Past Msg → List (Small Msg) → List (List ℕ)
hashes_of S R M i c [] = []
hashes_of S R M i c (x ∷ xs) = hashes_of S R M i (past_after R M i c x) xs ++ hashes_at S R M i c x

abbrev pub AreRight : {Msg : Type 0} → Setup → Scheme → Rules → Module Msg → List Signed → ℕ → Past Msg → List (Small Msg) → Type 0
AreRight s S R M book i c [] = Unit {0}
AreRight s S R M book i c (x ∷ xs) =
    let later = past_after R M i c x in
    IsRight s S R M book i c x × AllSpelled S (log_of R M i later) × AreRight s S R M book i later xs
