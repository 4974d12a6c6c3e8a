-- Agreement, in any state of a run and with no premise on claims or digests. Moves of a cluster with the same books
-- reach the state, so the composition theorem holds of it. In words of the printed logs: of two correct nodes' logs one
-- is a prefix of the other, no request stands twice, and a correct node accepted each batch as valid.
use Rattle.std.specs.Prelude.{◌≡◌, ◌⊎◌, ℕ, true, List, ◌∷◌, ◌++◌, Some, reverse}
use Rattle.iss_base.specs.Lists.{In}
use Rattle.iss_log.specs.LogState.{first_number_of}
use Rattle.iss_request.specs.Log.{Once}
use Rattle.iss_request.specs.declared.requests.Batch.{Batch}
use Rattle.iss_request.specs.declared.requests.Value.{Value}
use Rattle.iss_request.specs.declared.requests.Value.TheVariants.{Batch as Value_batch}
use Rattle.iss_request.specs.declared.setups.Setup.{Setup}
use Rattle.iss_schedule.specs.declared.schedules.Event.{Event}
use Rattle.iss_sb.specs.declared.effects.Claim.{Claim}
use Rattle.iss_sb.specs.Evidence.{Module, Separate, is_correct}
use Rattle.iss_composition.specs.Checkpoints.{scheme_of}
use Rattle.iss_composition.specs.Cluster.{Cluster, Reach}
use Rattle.iss_composition.specs.Ordered.{Among, IsExact, WasAccepted}
use Rattle.iss_rules.specs.Concrete.{rules_of}
use Rattle.iss_rules.specs.Formats.{formats_of}
use Rattle.iss_rules.specs.SoundRules.{IsSoundRules}
use Rattle.iss_rules.specs.Past.{log_of}
use Rattle.iss_model.specs.Run.{Held, begin_run, failure_free}
use Rattle.iss_model.specs.Runs.{IsPrefix, pasts_of}
use Rattle.iss_model.specs.Driver.{Progress, run}

-- the failure-free run of these events, and its state
abbrev pub run_after : {Msg : Type 0} → Setup → Module Msg → List Event → Progress (Held Msg)
run_after s M events = run (failure_free s (formats_of s M) (rules_of s) M) (begin_run s) events

abbrev pub free_after : {Msg : Type 0} → Setup → Module Msg → List Event → Held Msg
free_after s M events = (run_after s M events).state

-- the log of node i, oldest value first
abbrev pub shown : {Msg : Type 0} → Setup → Module Msg → Held Msg → ℕ → List Value
shown s M h i = reverse (log_of (rules_of s) M i (pasts_of h.net i))

-- The state is one that moves of a cluster with the same books reach, under the set-up's chaining and vote quorum. No
-- two hashed strings collide, since a collision would have stopped the run.
pub record AreOfCluster {Msg : Type 0} (s : Setup) (M : Module Msg) (h : Held Msg) : Type 0 where
  pub cluster : Cluster Msg
  pub pasts : cluster.pasts ≡ pasts_of h.net
  pub book : cluster.book ≡ h.signed
  pub strings : cluster.strings ≡ h.hashed
  pub reached : Reach s (scheme_of s) (rules_of s) M cluster
  pub sound : IsSoundRules s M (rules_of s)
  pub exact : IsExact s (scheme_of s) cluster
  pub separate : Separate (Among cluster.strings)

-- A statement of one instance is none of another, and no checkpoint vote: a signature is worthless in other instances.
pub record ClaimsAreApart {Msg : Type 0} (s : Setup) (M : Module Msg) : Type 0 where
  pub one : (log more : List Value) (e l d k i j : ℕ) (a b : Msg) (x y : Claim) →
      In x (M.claims ((rules_of s).params log e l) i a) → In y (M.claims ((rules_of s).params more d k) j b) →
      x.statement ≡ y.statement → (e ≡ d) × (l ≡ k)
  pub vote : (log : List Value) (e l i : ℕ) (a : Msg) (x : Claim) → (rules_of s).leads log e l ≡ true →
      In x (M.claims ((rules_of s).params log e l) i a) → (d number : ℕ) (chain : List ℕ) →
      x.statement ≡ (rules_of s).voted d chain number → ⊥

-- Prefix, integrity and validity of the logs.
-- rule: Log: Of two correct nodes' logs one is a prefix of the other, and no request is in one twice
pub record AreOneLog {Msg : Type 0} (s : Setup) (M : Module Msg) (h : Held Msg) : Type 0 where
  -- of two correct logs, one is a prefix of the other
  pub prefix : (i j : ℕ) → is_correct s i ≡ true → is_correct s j ≡ true →
      IsPrefix (shown s M h i) (shown s M h j) ⊎ IsPrefix (shown s M h j) (shown s M h i)
  -- no request occurs twice in a log
  pub once : (i : ℕ) → is_correct s i ≡ true → Once (shown s M h i)
  -- a correct node accepted each batch as valid, at the slot where the log holds it
  pub valid : (i : ℕ) → is_correct s i ≡ true → (front back : List Value) (b : Batch) →
      shown s M h i ≡ front ++ Value_batch b ∷ back → WasAccepted s (rules_of s) M (pasts_of h.net) (reverse front) b
  -- If two correct logs hold a slot, they give its first request the same number: the count of requests in earlier
  -- slots.
  pub numbers : (i j slot k l : ℕ) → is_correct s i ≡ true → is_correct s j ≡ true →
      first_number_of (shown s M h i) slot ≡ Some k →
      first_number_of (shown s M h j) slot ≡ Some l → k ≡ l
