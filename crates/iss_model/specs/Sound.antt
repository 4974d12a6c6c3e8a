-- What holds of every core of every run. What waits and what is in flight is distinct, signed, and inside the windows
-- unless the log has it. The log holds all before the epoch. So the judge accepts what such a core casts.
use Rattle.std.specs.Prelude.{◌≡◌, ℕ, ◌≤◌, ◌<◌, List, [], ◌∷◌, ◌++◌, length, true, Some}
use Rattle.iss_base.specs.Lists.{Different, In}
use Rattle.iss_request.specs.Log.{ids, log_ids}
use Rattle.iss_request.specs.declared.ids.ReqId.{ReqId}
use Rattle.iss_request.specs.declared.ids.Slot.{Slot}
use Rattle.iss_request.specs.declared.requests.Batch.{Batch}
use Rattle.iss_request.specs.declared.requests.Request.{Request}
use Rattle.iss_request.specs.declared.requests.Value.{Value}
use Rattle.iss_sb.specs.Evidence.{Module}
use Rattle.iss_model.specs.Node.{Core}
use Rattle.iss_rules.specs.Past.{adopted_at, before_own, log_of, start_of}
use Rattle.iss_rules.specs.Rules.{Rules}

-- the requests of these batches
abbrev pub carried : List (Slot × Batch) → List Request
carried [] = []
carried (x ∷ xs) = x.1 ++ carried xs

-- all requests that a core still holds: waiting or in flight
abbrev pub held : {Msg : Type 0} → Core Msg → List Request
held c = c.waiting ++ carried c.flight

-- The invariant of a core. Its requests are distinct, signed, and inside the windows of its epoch unless ordered;
-- waiting ones are not in its log. Its log holds all earlier epochs, adopted values are of earlier epochs, and later
-- epochs are untouched.
pub record IsSoundCore {Msg : Type 0} (R : Rules) (M : Module Msg) (me : ℕ) (c : Core Msg) : Type 0 where
  pub different : Different (ids (held c))
  pub signed : (q : Request) → In q (held c) → R.signed q ≡ true
  pub inside : (x : ReqId) → In x (ids (held c)) → (In x (log_ids (log_of R M me c.past)) → ⊥) →
      R.inside (before_own R M me c.past) c.past.epoch x ≡ true
  pub unordered : (x : ReqId) → In x (ids c.waiting) → In x (log_ids (log_of R M me c.past)) → ⊥
  pub reached : start_of R (log_of R M me c.past) c.past.epoch ≤ length (log_of R M me c.past)
  pub settled : (e k : ℕ) (v : Value) → adopted_at c.past.adopted e k ≡ Some v → e < c.past.epoch
  pub unborn : (e l : ℕ) → c.past.epoch < e → c.past.evidence e l ≡ []
