-- Old instances may be retired. The slim part of a core has the core's log in place of all that its log was made of in
-- earlier epochs: the instances of these epochs, and the pieces that were adopted. It has no votes of epochs with a
-- certificate. Cores with equal slim parts take each event alike, so a replica may forget the rest.
use Rattle.std.specs.Prelude.{◌≡◌, ℕ, ◌+◌, ◌≤◌, ◌<◌, List, [], Option, Some, None, length}
use Rattle.std.specs.List.{filter}
use Rattle.iss_checkpoint.specs.declared.votes.Cert.{Cert}
use Rattle.iss_checkpoint.specs.declared.votes.Vote.{Vote}
use Rattle.iss_request.specs.declared.ids.Slot.{Slot}
use Rattle.iss_request.specs.declared.requests.Batch.{Batch}
use Rattle.iss_request.specs.declared.requests.Request.{Request}
use Rattle.iss_request.specs.declared.requests.Value.{Value}
use Rattle.iss_request.specs.declared.setups.Setup.{Setup}
use Rattle.iss_sb.specs.Evidence.{Item, Module}
use Rattle.iss_rules.specs.declared.events.NodeEvent.{NodeEvent}
use Rattle.iss_rules.specs.Concrete.{rules_of}
use Rattle.iss_rules.specs.Formats.{formats_of}
use Rattle.iss_rules.specs.Past.{adopted_at, log_of, start_of}
use Rattle.iss_rules.specs.Rules.{Rules}
use Rattle.iss_rules.specs.Votes.{cert_on, is_open}
use Rattle.iss_model.specs.Node.{Core, Dropped, Early, Stepped, Taken, Turn, initial_core, step}
use Rattle.iss_model.specs.Run.{claims_at}

-- The slim part of a core.
pub record SlimCore (Msg : Type 0) : Type 0 where
  pub epoch : ℕ
  pub log : List Value
  -- the histories of the instances, by epoch and leader; epochs are counted from the core's own
  pub taken : ℕ → ℕ → List (Item Msg)
  pub waiting : List Request
  pub flight : List (Slot × Batch)
  pub early : List (Early Msg)
  -- the votes of epochs without a certificate, newest first
  pub votes : List Vote
  -- by epoch: steps look certificates up, and their order is of no account
  pub certs : ℕ → Option Cert
  pub leaf : ℕ

-- rule: Epochs: Of earlier epochs a node keeps the log, the certificates and what follows from these alone
abbrev pub slim : {Msg : Type 0} → Rules → Module Msg → ℕ → Core Msg → SlimCore Msg
slim R M me c =
    record {
      epoch = c.past.epoch;
      log = log_of R M me c.past;
      taken = λ k l. c.past.evidence (c.past.epoch + k) l;
      waiting = c.waiting;
      flight = c.flight;
      early = c.early;
      votes = filter (is_open c.certs) c.votes;
      certs = λ e. cert_on c.certs e;
      leaf = c.leaf;
    }

-- A core is placed if its log holds all epochs before its own, adopted values are of these epochs alone, and nothing
-- was taken in later epochs. Each core that events lead to is placed.
pub record IsPlaced {Msg : Type 0} (R : Rules) (M : Module Msg) (me : ℕ) (c : Core Msg) : Type 0 where
  pub reached : start_of R (log_of R M me c.past) c.past.epoch ≤ length (log_of R M me c.past)
  pub settled : (e k : ℕ) (v : Value) → adopted_at c.past.adopted e k ≡ Some v → e < c.past.epoch
  pub unborn : (e l : ℕ) → c.past.epoch < e → c.past.evidence e l ≡ []

-- The same epoch was entered with equal slim parts, or none was.
abbrev pub IsSameEntered : {Msg : Type 0} → Rules → Module Msg → ℕ → Option (Core Msg) → Option (Core Msg) → Type 0
IsSameEntered R M me None None = Unit {0}
IsSameEntered R M me None (Some d) = ⊥
IsSameEntered R M me (Some c) None = ⊥
IsSameEntered R M me (Some c) (Some d) = slim R M me c ≡ slim R M me d

-- Two turns send, claim and hash the same, and leave and enter with equal slim parts.
pub record IsSameTurn {Msg : Type 0} (R : Rules) (M : Module Msg) (me : ℕ) (t u : Turn Msg) : Type 0 where
  pub core : slim R M me t.core ≡ slim R M me u.core
  pub entered : IsSameEntered R M me t.entered u.entered
  pub sends : t.sends ≡ u.sends
  pub own : t.own ≡ u.own
  pub early : t.early ≡ u.early
  pub strings : t.strings ≡ u.strings

-- Two cores answer the same: they drop the event for the same reason, or take it with the same outcome.
abbrev pub IsSameStep : {Msg : Type 0} → Rules → Module Msg → ℕ → Stepped Msg → Stepped Msg → Type 0
IsSameStep R M me (Dropped why) (Dropped other) = why ≡ other
IsSameStep R M me (Dropped why) (Taken u) = ⊥
IsSameStep R M me (Taken t) (Dropped why) = ⊥
IsSameStep R M me (Taken t) (Taken u) = IsSameTurn R M me t u

-- Placed cores with equal slim parts answer each event alike, and read the same claims in it.
abbrev pub StepsRespectSlims : {Msg : Type 0} → Setup → Module Msg → Type 0
StepsRespectSlims {Msg} s M =
    let F = formats_of s M in
    let R = rules_of s in
    (me : ℕ) (c d : Core Msg) → IsPlaced R M me c → IsPlaced R M me d → slim R M me c ≡ slim R M me d →
    (event : NodeEvent) → IsSameStep R M me (step F R M me c event) (step F R M me d event)
    × (claims_at F R M me c event ≡ claims_at F R M me d event)

-- The core of a replica that took nothing is placed, and each step keeps a core placed.
abbrev pub StepsKeepPlaced : {Msg : Type 0} → Setup → Module Msg → Type 0
StepsKeepPlaced {Msg} s M =
    let F = formats_of s M in
    let R = rules_of s in
    (me : ℕ) → IsPlaced R M me initial_core × ((c : Core Msg) (event : NodeEvent) (t : Turn Msg) →
    IsPlaced R M me c → step F R M me c event ≡ Taken t → IsPlaced R M me t.core)
