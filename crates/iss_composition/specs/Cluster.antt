-- The cluster of the composition theorem: all nodes over all epochs, as far as their logs depend on them. It is what
-- each node took, the modules' messages that were sent, the statements that nodes signed, and the strings they hashed.
-- Its moves: a node takes an input that its judge accepts; a node whose log holds its epoch enters the next one and
-- may vote; a node adopts an epoch under a certificate; anything that no instance sees. In Byzantine worlds any
-- message may come that decodes, whose claims verify, and whose claims of correct nodes were made. Nothing here runs:
-- runs are shown to be chains of these moves.
use Rattle.std.specs.Prelude.{◌≡◌, ◌≢◌, ◌⊎◌, ℕ, ◌≤◌, Bool, true, false, cond, List, [], ◌∷◌, ◌++◌, length, Some, None}
use Rattle.iss_base.specs.Lists.{Chain, In}
use Rattle.iss_request.specs.Digest.{digest}
use Rattle.iss_request.specs.Log.{requests}
use Rattle.iss_request.specs.declared.requests.Value.{Value}
use Rattle.iss_request.specs.declared.setups.Setup.{Setup}
use Rattle.iss_sb.specs.declared.effects.Claim.{Claim}
use Rattle.iss_sb.specs.declared.effects.Input.{Input}
use Rattle.iss_sb.specs.declared.effects.Input.TheVariants.{Cast, Receive, Timeout}
use Rattle.iss_sb.specs.declared.effects.Params.{Params}
use Rattle.iss_sb.specs.declared.effects.To.{To}
use Rattle.iss_sb.specs.Evidence.{IsCredible, IsReadBatch, Module, Reaches, World, delivered, is_correct}
use Rattle.iss_sb.specs.Statements.{eight_bytes, head_of}
use Rattle.iss_rules.specs.Verdicts.{verdict_in}
use Rattle.iss_rules.specs.Past.{Past, Piece, adopted_log, adopts, advanced, before, before_at, ended_log, epoch_at, initial_history, is_complete, leader_at, leads_in, log_of, made_in, params_at, params_of, takes}
use Rattle.iss_rules.specs.Rules.{Rules}
use Rattle.iss_rules.specs.Books.{Signed}

-- a module's message in the network
pub record Message (Msg : Type 0) : Type 0 where
  pub from : ℕ
  pub to : ℕ
  pub epoch : ℕ
  pub leader : ℕ
  pub msg : Msg

-- The state of a cluster: what each node took, the messages sent, the statements signed, and the strings hashed.
pub record Cluster (Msg : Type 0) : Type 0 where
  pub pasts : ℕ → Past Msg
  pub messages : List (Message Msg)
  pub book : List Signed
  pub strings : List (List ℕ)

-- how logs are chained, and which votes make a certificate
pub record Scheme : Type 0 where
  -- whether a value has an encoding, the encoding, and the bytes of a chain link of two digests
  pub spells : Value → Bool
  pub spelled : Value → List ℕ
  pub link : List ℕ → List ℕ → List ℕ
  pub is_quorum : List ℕ → Bool

-- the chain digest of a log, and the strings that it hashes
abbrev pub chain : Scheme → List Value → List ℕ
chain S [] = digest []
chain S (v ∷ older) = digest (S.link (chain S older) (digest (S.spelled v)))

abbrev pub chain_strings : Scheme → List Value → List (List ℕ)
chain_strings S [] = []
chain_strings S (v ∷ older) = S.spelled v ∷ S.link (chain S older) (digest (S.spelled v)) ∷ chain_strings S older

-- each value of the log has an encoding
abbrev pub AllSpelled : Scheme → List Value → Type 0
AllSpelled S log = (v : Value) → In v log → S.spells v ≡ true

-- all strings of the log's chain were hashed
abbrev pub IsHashedLog : Scheme → List (List ℕ) → List Value → Type 0
IsHashedLog S strings log = (x : List ℕ) → In x (chain_strings S log) → In x strings

-- What a checkpoint vote signs: the epoch, the chain digest of the log at its end, and the number of requests in that
-- log. It names leader 255 and module 0, which do not exist, so it equals no statement of an instance.
abbrev pub vote_statement : Setup → ℕ → List ℕ → ℕ → List ℕ
vote_statement s e chain number = head_of s.tag e 255 0 ++ (0 ∷ (chain ++ eight_bytes number))

-- the world of the instance of leader l in epoch e: the histories of correct nodes, and nothing for faulty ones
abbrev pub world_of : {Msg : Type 0} → Setup → (ℕ → Past Msg) → ℕ → ℕ → World Msg
world_of s pasts e l i = cond (is_correct s i) ((pasts i).evidence e l) []

-- A correct node delivered v at the slot after these values, and its own log before that epoch is the same.
pub record Backed {Msg : Type 0} (s : Setup) (R : Rules) (M : Module Msg) (pasts : ℕ → Past Msg) (older : List Value)
    (v : Value) : Type 0 where
  pub node : ℕ
  pub correct : is_correct s node ≡ true
  pub begun : epoch_at R older ≤ (pasts node).epoch
  pub start : before R M node (pasts node) (epoch_at R older) ≡ before_at R older
  pub is : delivered M (params_at R older) node ((pasts node).evidence (epoch_at R older) (leader_at R older))
      (length older) ≡ Some v

-- each value of the log was delivered by a correct node
abbrev pub IsTrueLog : {Msg : Type 0} → Setup → Rules → Module Msg → (ℕ → Past Msg) → List Value → Type 0
IsTrueLog s R M pasts = Chain (Backed s R M pasts)

-- the signature is valid by the rules
abbrev pub IsVerified : Rules → Claim → Type 0
IsVerified R c = R.verifies c.by.0 c.statement c.sig ≡ true

-- node k signed the statement
abbrev pub IsBooked : List Signed → ℕ → List ℕ → Type 0
IsBooked book k statement = In (record { by = k; statement = statement }) book

-- Which messages node i may receive in the instance of l. Crash-stop: those sent to it. Byzantine: any that is
-- credible, given the book of signed statements.
abbrev pub MayGet : {Msg : Type 0} → Bool → Setup → Rules → Module Msg → Cluster Msg → ℕ → ℕ → ℕ → Msg → Type 0
MayGet true s R M w i l from msg =
    In (record { from = from; to = i; epoch = (w.pasts i).epoch; leader = l; msg = msg }) w.messages
MayGet false s R M w i l from msg =
    IsCredible M (params_of R M i (w.pasts i) l) (IsVerified R) (IsBooked w.book) from msg

-- Which inputs node i may take: proposals only as the leader, the messages above, and timeouts at any time.
abbrev pub MayTake : {Msg : Type 0} → Setup → Rules → Module Msg → Cluster Msg → ℕ → ℕ → Input Msg → Type 0
MayTake s R M w i l (Cast slot batch) = (i ≡ l) × IsReadBatch (params_of R M i (w.pasts i) l) batch
MayTake s R M w i l (Receive from msg) = MayGet M.stopping s R M w i l from.0 msg
MayTake s R M w i l Timeout = Unit {0}

-- the message is one of these sends of node i in the instance of l
pub record IsOneOf {Msg : Type 0} (i e l : ℕ) (sends : List (To × Msg)) (k : Message Msg) : Type 0 where
  pub from : k.from ≡ i
  pub epoch : k.epoch ≡ e
  pub leader : k.leader ≡ l
  pub to : To
  pub reaches : Reaches to k.to
  pub sent : In {A = To × Msg} (to, k.msg) sends

-- a statement that node i itself claims in what it sends
pub record IsOwn {Msg : Type 0} (M : Module Msg) (p : Params) (i : ℕ) (sends : List (To × Msg))
    (x : Signed) : Type 0 where
  pub to : To
  pub msg : Msg
  pub sent : In {A = To × Msg} (to, msg) sends
  pub claim : Claim
  pub made : In claim (M.claims p i msg)
  pub by : claim.by.0 ≡ i
  pub is : x ≡ record { by = i; statement = claim.statement }

-- A move: node i takes an input in the instance of l in its epoch, and the judge accepts it. Nothing else changes but
-- messages, book and hashed strings.
pub record Moved {Msg : Type 0} (s : Setup) (S : Scheme) (R : Rules) (M : Module Msg) (v w : Cluster Msg)
    (i l : ℕ) (input : Input Msg) (leaf : ℕ) : Type 0 where
  pub correct : is_correct s i ≡ true
  pub leads : leads_in R M i (v.pasts i) l ≡ true
  pub comes : MayTake s R M v i l input
  pub judged : verdict_in R M i (v.pasts i) l input ≡ None
  pub here : w.pasts i ≡ takes R M i (v.pasts i) l input leaf
  pub other : (j : ℕ) → j ≢ i → w.pasts j ≡ v.pasts j
  pub messages : M.stopping ≡ true → (k : Message Msg) → In k w.messages →
      IsOneOf i (v.pasts i).epoch l (made_in R M i (v.pasts i) l input leaf).sends k ⊎ In k v.messages
  pub book : (x : Signed) → In x w.book →
      IsOwn M (params_of R M i (v.pasts i) l) i (made_in R M i (v.pasts i) l input leaf).sends x ⊎ In x v.book
  pub old_book : (x : Signed) → In x v.book → In x w.book
  pub fresh_strings : (x : List ℕ) → In x (made_in R M i (v.pasts i) l input leaf).strings → In x w.strings
  pub strings : (x : List ℕ) → In x v.strings → In x w.strings
  pub hashed : IsHashedLog S w.strings (log_of R M i (w.pasts i))
  pub spelled : AllSpelled S (log_of R M i (w.pasts i))

-- no instance is affected: no new messages, and books only grow
pub record Quiet {Msg : Type 0} (M : Module Msg) (v w : Cluster Msg) : Type 0 where
  pub messages : M.stopping ≡ true → (k : Message Msg) → In k w.messages → In k v.messages
  pub old_book : (x : Signed) → In x v.book → In x w.book
  pub strings : (x : List ℕ) → In x v.strings → In x w.strings

-- A move: no correct node's log changes.
pub record Rested {Msg : Type 0} (s : Setup) (M : Module Msg) (v w : Cluster Msg) : Type 0 where
  pub same : (j : ℕ) → is_correct s j ≡ true → w.pasts j ≡ v.pasts j
  pub quiet : Quiet M v w
  pub book : (x : Signed) → In x w.book → In x v.book

-- what node i votes for when it ends its epoch
abbrev pub vote_of : {Msg : Type 0} → Setup → Scheme → Rules → Module Msg → ℕ → Past Msg → List ℕ
vote_of s S R M i c = vote_statement s c.epoch (chain S (ended_log R M i c)) (requests (ended_log R M i c))

-- A move: node i ends its epoch, which its log fills, and may vote for it.
pub record Ended {Msg : Type 0} (s : Setup) (S : Scheme) (R : Rules) (M : Module Msg) (v w : Cluster Msg)
    (i : ℕ) : Type 0 where
  pub correct : is_correct s i ≡ true
  pub complete : is_complete R M i (v.pasts i) ≡ true
  pub here : w.pasts i ≡ advanced (v.pasts i)
  pub other : (j : ℕ) → j ≢ i → w.pasts j ≡ v.pasts j
  pub quiet : Quiet M v w
  pub book : (x : Signed) → In x w.book → In x v.book ⊎ ((x.by ≡ i) × (x.statement ≡ vote_of s S R M i (v.pasts i)))
  pub hashed : IsHashedLog S w.strings (log_of R M i (w.pasts i))
  pub spelled : AllSpelled S (log_of R M i (w.pasts i))

-- a signer and its signature
pub record Signature : Type 0 where
  pub by : ℕ
  pub sig : List ℕ

-- a certificate: a chain digest and a number of requests, with signatures
pub record Cert : Type 0 where
  pub chain : List ℕ
  pub number : ℕ
  pub signed : List Signature

-- the nodes that signed
abbrev pub signers : List Signature → List ℕ
signers [] = []
signers (x ∷ xs) = x.by ∷ signers xs

-- the votes of correct nodes in a certificate are in the book
abbrev pub AreVotes : Setup → List Signed → ℕ → Cert → Type 0
AreVotes s book e cert =
    (k : ℕ) → In k (signers cert.signed) → is_correct s k ≡ true →
    IsBooked book k (vote_statement s e cert.chain cert.number)

-- A move, state transfer: node i adopts the values of its epoch under a certificate, and ends the epoch without a vote.
pub record Adopted {Msg : Type 0} (s : Setup) (S : Scheme) (R : Rules) (M : Module Msg) (v w : Cluster Msg)
    (i : ℕ) (piece : Piece) (cert : Cert) : Type 0 where
  pub correct : is_correct s i ≡ true
  pub epoch : piece.epoch ≡ (v.pasts i).epoch
  pub whole : length piece.values ≡ R.slots (before R M i (v.pasts i) piece.epoch) piece.epoch
  pub quorum : S.is_quorum (signers cert.signed) ≡ true
  pub votes : AreVotes s v.book piece.epoch cert
  pub chained : cert.chain ≡ chain S (adopted_log R M i (v.pasts i) piece)
  pub piece_hashed : IsHashedLog S w.strings (adopted_log R M i (v.pasts i) piece)
  pub piece_spelled : AllSpelled S (adopted_log R M i (v.pasts i) piece)
  pub here : w.pasts i ≡ adopts (v.pasts i) piece
  pub other : (j : ℕ) → j ≢ i → w.pasts j ≡ v.pasts j
  pub quiet : Quiet M v w
  pub book : (x : Signed) → In x w.book → In x v.book
  pub hashed : IsHashedLog S w.strings (log_of R M i (w.pasts i))
  pub spelled : AllSpelled S (log_of R M i (w.pasts i))

-- The start: correct nodes took nothing, and nothing was sent or signed. The empty string, at which chains begin,
-- counts as hashed.
pub record Begun {Msg : Type 0} (s : Setup) (w : Cluster Msg) : Type 0 where
  pub pasts : (j : ℕ) → is_correct s j ≡ true → w.pasts j ≡ initial_history
  pub messages : (k : Message Msg) → In k w.messages → ⊥
  pub book : (x : Signed) → In x w.book → ⊥
  pub root : In {A = List ℕ} [] w.strings

-- the clusters that can be reached by these moves
pub data Reach {Msg : Type 0} (s : Setup) (S : Scheme) (R : Rules) (M : Module Msg) : Cluster Msg → Type 0 where
  begin : {w : Cluster Msg} → Begun s w → Reach s S R M w
  move : {v w : Cluster Msg} (i l : ℕ) (input : Input Msg) (leaf : ℕ) → Reach s S R M v →
      Moved s S R M v w i l input leaf → Reach s S R M w
  ends : {v w : Cluster Msg} (i : ℕ) → Reach s S R M v → Ended s S R M v w i → Reach s S R M w
  adopt : {v w : Cluster Msg} (i : ℕ) (piece : Piece) (cert : Cert) → Reach s S R M v →
      Adopted s S R M v w i piece cert → Reach s S R M w
  rest : {v w : Cluster Msg} → Reach s S R M v → Rested s M v w → Reach s S R M w
