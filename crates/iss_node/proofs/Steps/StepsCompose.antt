-- A node's step, composed of the steps of its parts.
use Rattle.std.proofs.Common.{◌≡◌, ℕ, List, Result, IfOk, subst}
use Rattle.std.proofs.lemmas.Result.{IfOk-weaker}
use Rattle.iss_rules.specs.Concrete.{rules_of}
use Rattle.iss_rules.specs.Formats.{formats_of}
use Rattle.iss_rules.specs.Parcels.{Formats}
use Rattle.iss_model.specs.Node.{Core, Stepped, finish_step}
use Rattle.iss_rules.specs.Rules.{Rules}
use Rattle.iss_checkpoint.specs.declared.votes.Cert.{Cert}
use Rattle.iss_checkpoint.specs.declared.votes.Vote.{Vote}
use Rattle.iss_rules.specs.declared.events.Why.{Why}
use Rattle.iss_node.proofs.Steps.VotesDoNotMatter.{held-step, with_step}
use Rattle.iss_node.specs.State.{StateView, core_of, holding}
use Rattle.iss_node.specs.Steps.{IsHeldStepOf, IsLater, IsSameNode, IsSettled, IsStep, IsStepOf}
use Rattle.iss_node.specs.declared.answers.Outcome.{Outcome}
use Rattle.iss_request.specs.declared.ids.NodeId.{NodeId}
use Rattle.iss_request.specs.declared.setups.Setup.{Setup}
use Rattle.iss_sb.specs.Evidence.{Item, Module}
use Rattle.iss_sb.specs.declared.effects.Params.{Params}

-- Set-up and identity of a later node are the same.
pub same-later : {M Msg : Type 0} (v w : StateView M Msg) → IsLater v w → IsSameNode v w
same-later v w later = record { setup = later.setup; me = later.me; saved = later.saved; log = later.log }

module _ {M Msg : Type 0} (m : Module Msg) (refines : M → Params → ℕ → List (Item Msg) → Type 0) where
  -- A step that reads no votes, for every result.
  pub held-ok : {E : Type 0} (v w : StateView M Msg) (later : IsLater v w) (step : Formats Msg → Rules → ℕ → Core Msg → Stepped Msg) (asked : Type 0) (r : Result (Result Outcome Why) E) →
      ((F : Formats Msg) (R : Rules) (me : ℕ) (votes : List Vote) (certs : List Cert) (c : Core Msg) → step F R me (holding votes certs c) ≡ with_step F R m me votes certs (step F R me c)) →
      IfOk r (λ a. IsStepOf m refines v step w a) → IfOk r (λ a. IsHeldStepOf m refines asked v step w a)
  held-ok v w later step asked r frame h =
      IfOk-weaker r (λ a. IsStepOf m refines v step w a) (λ a. IsHeldStepOf m refines asked v step w a) (λ a k. held-step m refines v w later step asked a frame k) h

  -- The completion of a step.
  settled-of : (v mid w : StateView M Msg) (first : Formats Msg → Rules → ℕ → Core Msg → Stepped Msg) (step a : Result Outcome Why) → IsLater v mid → IsStepOf m refines v first mid step →
      IsSettled m refines mid w step a → IsStepOf m refines v (λ F R me c. finish_step F R m me (first F R me c)) w a
  settled-of v mid w first step a later h follows = λ past tied.
      let s = first (formats_of v.setup m) (rules_of v.setup) v.me.0 (core_of v past) in
      subst (λ (x : Setup). IsStep m refines (core_of v past) (finish_step (formats_of x m) (rules_of x) m v.me.0 s) w a) later.setup
      (subst (λ (i : NodeId). IsStep m refines (core_of v past) (finish_step (formats_of mid.setup m) (rules_of mid.setup) m i.0 s) w a) later.me
      (follows (core_of v past) s (h past tied)))

  pub settled-ok : {E : Type 0} (v mid w : StateView M Msg) (first : Formats Msg → Rules → ℕ → Core Msg → Stepped Msg) (step : Result Outcome Why) (r : Result (Result Outcome Why) E) → IsLater v mid →
      IsStepOf m refines v first mid step → IfOk r (λ a. IsSettled m refines mid w step a) → IfOk r (λ a. IsStepOf m refines v (λ F R me c. finish_step F R m me (first F R me c)) w a)
  settled-ok v mid w first step r later h follows =
      IfOk-weaker r (λ a. IsSettled m refines mid w step a) (λ a. IsStepOf m refines v (λ F R me c. finish_step F R m me (first F R me c)) w a) (λ a k. settled-of v mid w first step a later h k) follows
