-- The result of the composition, and its premises. Of two correct nodes' logs one is a prefix of the other, and no
-- request stands twice. Each batch was accepted by a correct node that judged it over the log before its epoch, so its
-- requests are valid there. Each instance is a reached world of its module, and a broadcast. Nodes that have begun an
-- epoch have the same log before it. The premises: encodings have one reading, and each quorum has a correct node.
use Rattle.std.specs.Prelude.{◌≡◌, ◌⊎◌, ℕ, ◌≤◌, true, List, [], ◌∷◌, ◌++◌, length, None}
use Rattle.iss_base.specs.Lists.{Extends, In}
use Rattle.iss_request.specs.Digest.{digest}
use Rattle.iss_request.specs.Log.{Once}
use Rattle.iss_request.specs.declared.ids.Slot.{Slot}
use Rattle.iss_request.specs.declared.requests.Batch.{Batch}
use Rattle.iss_request.specs.declared.requests.Request.{Request}
use Rattle.iss_request.specs.declared.requests.Value.{Value}
use Rattle.iss_request.specs.declared.requests.Value.TheVariants.{Batch as Value_batch}
use Rattle.iss_request.specs.declared.setups.Setup.{Setup}
use Rattle.iss_sb.specs.Evidence.{IsReached, Module, accepts, is_correct}
use Rattle.iss_sb.specs.Laws.{IsBroadcast}
use Rattle.iss_rules.specs.Books.{Signed}
use Rattle.iss_composition.specs.Cluster.{Cluster, IsTrueLog, Scheme, vote_statement, world_of}
use Rattle.iss_rules.specs.Judge.{IsValid, judge, marks}
use Rattle.iss_rules.specs.Past.{Past, before, before_at, epoch_at, leader_at, log_of}
use Rattle.iss_rules.specs.Rules.{Rules}

-- values and links are encoded injectively, and no link is empty
pub record AreChained (S : Scheme) : Type 0 where
  pub values : (v u : Value) → S.spells v ≡ true → S.spells u ≡ true → S.spelled v ≡ S.spelled u → v ≡ u
  pub links : (a b c d : List ℕ) → S.link (digest a) (digest b) ≡ S.link (digest c) (digest d) →
      (digest a ≡ digest c) × (digest b ≡ digest d)
  pub some_link : (a b : List ℕ) → [] ≡ S.link a b → ⊥

-- What the scheme must provide: injective encodings as soon as there is a vote, and a correct node in each quorum.
pub record IsExact {Msg : Type 0} (s : Setup) (S : Scheme) (w : Cluster Msg) : Type 0 where
  pub chained : (x : Signed) (e : ℕ) (a : List ℕ) (q : ℕ) → In x w.book → x.statement ≡ vote_statement s e a q →
      AreChained S
  pub quorums : (nodes : List ℕ) → S.is_quorum nodes ≡ true → (k : ℕ) × In k nodes × (is_correct s k ≡ true)

-- the string is in the list
abbrev pub Among : List (List ℕ) → List ℕ → Type 0
Among strings x = In x strings

-- A correct node accepted the batch at the slot after these values. Its judge passed the batch against the log before
-- the epoch and the requests that it had accepted in that instance. So each request of the batch is valid there.
pub record WasAccepted {Msg : Type 0} (s : Setup) (R : Rules) (M : Module Msg) (pasts : ℕ → Past Msg)
    (older : List Value) (b : Batch) : Type 0 where
  pub node : ℕ
  pub correct : is_correct s node ≡ true
  pub newer : List (Slot × Batch)
  pub earlier : List (Slot × Batch)
  pub held : accepts ((pasts node).evidence (epoch_at R older) (leader_at R older)) ≡
      newer ++ ((record { 0 = length older }, b) ∷ earlier)
  pub start : before R M node (pasts node) (epoch_at R older) ≡ before_at R older
  pub judged : judge R (before_at R older) (epoch_at R older) (leader_at R older) (marks earlier) b ≡ None
  pub valid : (q : Request) → In q b → IsValid R (before_at R older) (epoch_at R older) q

-- The composition theorem's conclusion, about the logs of correct nodes.
pub record Ordered {Msg : Type 0} (s : Setup) (R : Rules) (M : Module Msg) (pasts : ℕ → Past Msg) : Type 0 where
  -- agreement: of two correct logs, one is a prefix of the other
  pub one : (i j : ℕ) → is_correct s i ≡ true → is_correct s j ≡ true →
      Extends (log_of R M i (pasts i)) (log_of R M j (pasts j))
      ⊎ Extends (log_of R M j (pasts j)) (log_of R M i (pasts i))
  -- integrity: no request occurs twice in a log
  pub once : (i : ℕ) → is_correct s i ≡ true → Once (log_of R M i (pasts i))
  -- validity: each batch was accepted by a correct node
  pub valid : (i : ℕ) → is_correct s i ≡ true → (older : List Value) (b : Batch) →
      Extends (Value_batch b ∷ older) (log_of R M i (pasts i)) → WasAccepted s R M pasts older b
  -- each instance is a world of its own, reached by its own moves, and so a broadcast
  pub instances : (i e l : ℕ) → is_correct s i ≡ true → e ≤ (pasts i).epoch →
      R.leads (before R M i (pasts i) e) e l ≡ true → IsReached M (R.params (before R M i (pasts i) e) e l)
      (world_of s pasts e l)
  pub broadcasts : (i e l : ℕ) → is_correct s i ≡ true → e ≤ (pasts i).epoch →
      R.leads (before R M i (pasts i) e) e l ≡ true → IsBroadcast M (R.params (before R M i (pasts i) e) e l)
      (world_of s pasts e l)
  -- each value, delivered or adopted, was delivered by a correct node in the slot's instance
  pub backed : (i : ℕ) → is_correct s i ≡ true → IsTrueLog s R M pasts (log_of R M i (pasts i))
  -- nodes that have begun an epoch have the same log before it, and so the same leaders, segments and owners in it
  pub epochs : (i j e : ℕ) → is_correct s i ≡ true → is_correct s j ≡ true → e ≤ (pasts i).epoch →
      e ≤ (pasts j).epoch → before R M i (pasts i) e ≡ before R M j (pasts j) e
