-- What the theory asks of rules. Epochs have slots, a slot's leader leads its epoch, instances start with good
-- parameters, batches have encodings, and what verifies was signed by a node's key.
use Rattle.std.specs.Prelude.{◌≡◌, ℕ, ◌<◌, ◌≤◌, true, List}
use Rattle.iss_keys.specs.Directories.{VerifiesBy, directory_of}
use Rattle.iss_request.specs.Formats.{requests_most}
use Rattle.iss_request.specs.declared.requests.Value.{Value}
use Rattle.iss_request.specs.declared.setups.Setup.{Setup}
use Rattle.iss_sb.specs.Calls.{IsGoodParams}
use Rattle.iss_sb.specs.Evidence.{Module}
use Rattle.iss_rules.specs.Past.{before_at, epoch_at, leader_at}
use Rattle.iss_rules.specs.Rules.{Rules}

-- What rules must satisfy. Epochs have slots, and each slot's leader leads its epoch. A leader's instance has good
-- parameters that name it. A batch within the limit has an encoding, and a valid signature is by a node's key.
pub record IsSoundRules {Msg : Type 0} (s : Setup) (M : Module Msg) (R : Rules) : Type 0 where
  pub some_slots : (log : List Value) (e : ℕ) → 0 < R.slots log e
  pub most : (log : List Value) (e : ℕ) → R.slots log e ≤ R.most
  pub leads : (log : List Value) → R.leads (before_at R log) (epoch_at R log) (leader_at R log) ≡ true
  pub good : (log : List Value) (e l : ℕ) → R.leads log e l ≡ true → IsGoodParams M (R.params log e l)
  pub setup : (log : List Value) (e l : ℕ) → (R.params log e l).setup ≡ s
  pub epoch : (log : List Value) (e l : ℕ) → (R.params log e l).epoch.0 ≡ e
  pub leader : (log : List Value) (e l : ℕ) → (R.params log e l).leader.0 ≡ l
  pub batch : R.batch ≤ requests_most s.version
  pub signers : (k : ℕ) (statement sig : List ℕ) → R.verifies k statement sig ≡ true →
      VerifiesBy (directory_of s.n s.clients s.keys).nodes k statement sig
