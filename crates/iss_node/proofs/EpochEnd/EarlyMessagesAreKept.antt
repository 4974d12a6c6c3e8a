-- A message of the current epoch is taken, and one of the next epoch is kept.
use Rattle.std.proofs.Common.{arith, ◌≡◌, ℕ, suc, true, false, List, eqb, refl, sym, ap, ◌∙◌, subst, Err}
use Rattle.std.proofs.lemmas.Bool.Decides.{nat_tests}
use Rattle.iss_rules.specs.Concrete.{rules_of}
use Rattle.iss_rules.specs.Formats.{formats_of}
use Rattle.iss_model.specs.Node.{Dropped, Stepped, finish_step, keeps_early, takes_message, try_step}
use Rattle.iss_rules.specs.Parcels.{Formats}
use Rattle.iss_rules.specs.Past.{Past}
use Rattle.iss_rules.specs.declared.events.Why.TheVariants.{OtherEpoch}
use Rattle.iss_node.specs.Internal.Shape.{IsNodeState}
use Rattle.iss_node.specs.State.{RefinesPast, StateView, core_of}
use Rattle.iss_node.specs.Steps.{IsStep}
use Rattle.iss_request.specs.declared.ids.NodeId.{NodeId}
use Rattle.iss_sb.specs.Evidence.{Item, Module}
use Rattle.iss_sb.specs.declared.effects.Input.TheVariants.{Receive}
use Rattle.iss_sb.specs.declared.effects.Params.{Params}

module _ {M Msg : Type 0} (m : Module Msg) (refines : M → Params → ℕ → List (Item Msg) → Type 0)
    (v : StateView M Msg) (shape : IsNodeState m v) (past : Past Msg) (tied : RefinesPast m refines v past) where
  message-now : (F : Formats Msg) (from e l : ℕ) (msg : Msg) → e ≡ v.epoch →
      takes_message F (rules_of v.setup) m v.me.0 (core_of v past) from e l msg ≡ finish_step F (rules_of v.setup) m v.me.0 (try_step F (rules_of v.setup) m v.me.0 (core_of v past) l (Receive (record { 0 = from }) msg))
  message-now F from e l msg is = let q = tied.epoch in let same : eqb e past.epoch ≡ true = grind (arith, nat_tests, q, is) in rw same refl

  message-next : (F : Formats Msg) (from e l : ℕ) (msg : Msg) → e ≡ suc v.epoch →
      takes_message F (rules_of v.setup) m v.me.0 (core_of v past) from e l msg ≡ keeps_early (core_of v past) (record { from = from; leader = l; msg = msg })
  message-next F from e l msg is =
      let q = tied.epoch in
      let other : eqb e past.epoch ≡ false = grind (arith, nat_tests, q, is) in
      let same : eqb e (suc past.epoch) ≡ true = grind (arith, nat_tests, q, is) in
      rw other (rw same refl)

  message-other : (F : Formats Msg) (from e l : ℕ) (msg : Msg) → eqb e v.epoch ≡ false → eqb e (suc v.epoch) ≡ false →
      takes_message F (rules_of v.setup) m v.me.0 (core_of v past) from e l msg ≡ Dropped OtherEpoch
  message-other F from e l msg a b =
      let q = tied.epoch in
      let first : eqb e past.epoch ≡ false = ap (λ (k : ℕ). eqb e k) (sym q) ∙ a in
      let second : eqb e (suc past.epoch) ≡ false = ap (λ (k : ℕ). eqb e (suc k)) (sym q) ∙ b in
      rw first (rw second refl)

  pub now-is : (w : StateView M Msg) (from e : ℕ) (l : NodeId) (msg : Msg) (a : _) → e ≡ v.epoch →
      IsStep m refines (core_of v past) (finish_step (formats_of v.setup m) (rules_of v.setup) m v.me.0 (try_step (formats_of v.setup m) (rules_of v.setup) m v.me.0 (core_of v past) l.0 (Receive (record { 0 = from }) msg))) w a →
      IsStep m refines (core_of v past) (takes_message (formats_of v.setup m) (rules_of v.setup) m v.me.0 (core_of v past) from e l.0 msg) w a
  now-is w from e l msg a is h = subst (λ (z : Stepped Msg). IsStep m refines (core_of v past) z w a) (sym (message-now (formats_of v.setup m) from e l.0 msg is)) h

  pub next-step : (w : StateView M Msg) (from e : ℕ) (l : NodeId) (msg : Msg) (a : _) → e ≡ suc v.epoch →
      IsStep m refines (core_of v past) (keeps_early (core_of v past) (record { from = from; leader = l.0; msg = msg })) w a →
      IsStep m refines (core_of v past) (takes_message (formats_of v.setup m) (rules_of v.setup) m v.me.0 (core_of v past) from e l.0 msg) w a
  next-step w from e l msg a is h = subst (λ (z : Stepped Msg). IsStep m refines (core_of v past) z w a) (sym (message-next (formats_of v.setup m) from e l.0 msg is)) h

  pub other-is : (from e : ℕ) (l : NodeId) (msg : Msg) → eqb e v.epoch ≡ false → eqb e (suc v.epoch) ≡ false →
      IsStep m refines (core_of v past) (takes_message (formats_of v.setup m) (rules_of v.setup) m v.me.0 (core_of v past) from e l.0 msg) v (Err OtherEpoch)
  other-is from e l msg a b = record { step_is = message-other (formats_of v.setup m) from e l.0 msg a b; refined = record { core = refl; tied = tied } }
