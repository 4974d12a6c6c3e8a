-- A node's answers follow from the steps of its parts.
use Rattle.std.proofs.Common.{arith, inl, inr, ◌≡◌, ℕ, ◌≤◌, Bool, false, List, [], ◌∷◌, ◌++◌, length, length-append, take, None, refl, sym, ap, ◌∙◌, subst, true≢false, Result, Ok, Err}
use Rattle.iss_log.specs.LogState.{GoesOn}
use Rattle.iss_rules.specs.Concrete.{rules_of}
use Rattle.iss_rules.specs.Formats.{formats_of}
use Rattle.iss_model.specs.Node.{Core, Stepped, step}
use Rattle.iss_rules.specs.declared.events.NodeEvent.{NodeEvent}
use Rattle.iss_rules.specs.declared.events.Why.{Why}
use Rattle.iss_node.specs.Internal.Shape.{IsNode}
use Rattle.iss_node.specs.State.{NodeView, RefinesCore, StateView}
use Rattle.iss_node.specs.Steps.{IsAnswer, IsEnteredAnswer, IsHeldStepOf, IsKeptStepOf, IsOfNodes, IsTurn}
use Rattle.iss_node.specs.declared.answers.Answer.TheVariants.{Dropped as Node_dropped, Taken as Node_taken}
use Rattle.iss_node.specs.declared.answers.Outcome.{Outcome}
use Rattle.iss_request.specs.declared.requests.Value.{Value}
use Rattle.iss_sb.specs.Evidence.{Item, Module}
use Rattle.iss_sb.specs.declared.effects.Params.{Params}

module _ {M Msg : Type 0} (m : Module Msg) (refines : M → Params → ℕ → List (Item Msg) → Type 0) (v w : StateView M Msg) (s : Bool) (event : NodeEvent) where
  abbrev pub asked : Type 0
  asked = IsOfNodes v.setup.n event

  pub answer-taken : (o : Outcome) → IsHeldStepOf m refines asked v (λ F R me c. step F R m me c event) w (Ok o) → (c : Core Msg) → RefinesCore m refines (record { state = v; stale = s }) c →
      IsAnswer m refines asked c (step (formats_of v.setup m) (rules_of v.setup) m v.me.0 c event) (record { state = w; stale = s }) (Node_taken o)
  answer-taken o h c st =
      let all = h c st.held in
      record {
        turn = all.turn;
        step_is = all.step_is;
        turned = record { refined = record { fresh = st.fresh; held = all.turned.refined }; made = all.turned.made; entered = tt; addressed = all.turned.addressed };
      }

  pub answer-dropped : (why : Why) → IsHeldStepOf m refines asked v (λ F R me c. step F R m me c event) w (Err why) → (c : Core Msg) → RefinesCore m refines (record { state = v; stale = s }) c →
      IsAnswer m refines asked c (step (formats_of v.setup m) (rules_of v.setup) m v.me.0 c event) (record { state = w; stale = s }) (Node_dropped why)
  answer-dropped why h c st =
      let all = h c st.held in
      record { step_is = all.step_is; refined = record { fresh = st.fresh; held = all.refined } }

  fresh-core : s ≡ false → IsNode m refines (record { state = v; stale = s }) → (c : Core Msg) × RefinesCore m refines (record { state = v; stale = s }) c
  fresh-core q (inl t) = absurd (true≢false (sym t ∙ q))
  fresh-core q (inr h) = h

  pub node-taken : (o : Outcome) → IsHeldStepOf m refines asked v (λ F R me c. step F R m me c event) w (Ok o) → s ≡ false → IsNode m refines (record { state = v; stale = s }) → IsNode m refines (record { state = w; stale = s })
  node-taken o h q n = let c = fresh-core q n in let a = answer-taken o h c.0 c.1 in inr (a.turn.core, a.turned.refined)

  pub node-dropped : (why : Why) → IsHeldStepOf m refines asked v (λ F R me c. step F R m me c event) w (Err why) → s ≡ false → IsNode m refines (record { state = v; stale = s }) → IsNode m refines (record { state = w; stale = s })
  node-dropped why h q n = let c = fresh-core q n in let a = answer-dropped why h c.0 c.1 in inr (c.0, a.refined)

-- ---- an event that is replayed

pub answer-replayed : {M Msg : Type 0} (m : Module Msg) (refines : M → Params → ℕ → List (Item Msg) → Type 0) (asked : Type 0) (c : Core Msg) (stepped : Stepped Msg) (new : NodeView M Msg) (o p : Outcome) → p ≡ record o { entered = None } →
    IsTurn m refines asked stepped new o → IsTurn m refines asked stepped new p
answer-replayed m refines asked c stepped new o p is a =
    subst (λ (z : Outcome). IsTurn m refines asked stepped new z) (sym is)
    (record {
      turn = a.turn;
      step_is = a.step_is;
      turned = record {
        refined = a.turned.refined;
        made = record { sends = a.turned.made.sends; own = a.turned.made.own; early = a.turned.made.early; hashed = a.turned.made.hashed };
        entered = tt;
        addressed = a.turned.addressed;
      };
    })

-- ---- an event that was taken as one of its own

module _ {M Msg : Type 0} (m : Module Msg) (refines : M → Params → ℕ → List (Item Msg) → Type 0) (v w : StateView M Msg) (s : Bool) (event : NodeEvent) where
  abbrev IsKept : Result Outcome Why → Type 0
  IsKept a = IsKeptStepOf m refines (IsOfNodes v.setup.n event) v (λ F R me c. step F R m me c event) w a

  abbrev stepped : Core Msg → Stepped Msg
  stepped c = step (formats_of v.setup m) (rules_of v.setup) m v.me.0 c event

  pub kept-answer : (o : Outcome) → IsKept (Ok o) → (c : Core Msg) → RefinesCore m refines (record { state = v; stale = s }) c →
      IsAnswer m refines (IsOfNodes v.setup.n event) c (stepped c) (record { state = w; stale = s }) (Node_taken o)
  kept-answer o h c st =
      let all = h c st.held in
      record {
        turn = all.turn;
        step_is = all.step_is;
        turned = record { refined = record { fresh = st.fresh; held = all.turned.refined }; made = all.turned.made; entered = tt; addressed = all.turned.addressed };
      }

  pub kept-drop : (why : Why) → IsKept (Err why) → (c : Core Msg) → RefinesCore m refines (record { state = v; stale = s }) c →
      IsAnswer m refines (IsOfNodes v.setup.n event) c (stepped c) (record { state = w; stale = s }) (Node_dropped why)
  kept-drop why h c st =
      let all = h c st.held in
      record { step_is = all.step_is; refined = record { fresh = st.fresh; held = all.refined.0 } }

  -- what takes its place
  pub kept-entry : (o : Outcome) → IsKept (Ok o) → (c : Core Msg) → RefinesCore m refines (record { state = v; stale = s }) c → IsEnteredAnswer m v (stepped c) w (Node_taken o)
  kept-entry o h c st =
      let all = h c st.held in
      subst (λ (x : Stepped Msg). IsEnteredAnswer m v x w (Node_taken o)) (sym all.step_is) all.turned.entered

  pub kept-nothing : (why : Why) → IsKept (Err why) → (c : Core Msg) → RefinesCore m refines (record { state = v; stale = s }) c → IsEnteredAnswer m v (stepped c) w (Node_dropped why)
  kept-nothing why h c st =
      let all = h c st.held in
      subst (λ (x : Stepped Msg). IsEnteredAnswer m v x w (Node_dropped why)) (sym all.step_is) all.refined.1

  pub node-kept : (o : Outcome) → IsKept (Ok o) → s ≡ false → IsNode m refines (record { state = v; stale = s }) → IsNode m refines (record { state = w; stale = s })
  node-kept o h q n = let c = fresh-core m refines v v s event q n in let a = kept-answer o h c.0 c.1 in inr (a.turn.core, a.turned.refined)

  pub node-kept-dropped : (why : Why) → IsKept (Err why) → s ≡ false → IsNode m refines (record { state = v; stale = s }) → IsNode m refines (record { state = w; stale = s })
  node-kept-dropped why h q n = let c = fresh-core m refines v v s event q n in let a = kept-drop why h c.0 c.1 in inr (c.0, a.refined)

-- ---- the log that a stale node reports

front-of : (a b : List Value) → take (length a) (a ++ b) ≡ a
front-of [] b = refl
front-of (x ∷ a) b = ap (λ (ys : List Value). x ∷ ys) (front-of a b)

pub shown-again : (a b : List Value) (n : ℕ) → GoesOn a b → n ≡ length a → take n b ≡ a
shown-again a b n h is = ap (λ (k : ℕ). take k b) is ∙ ap (λ (ys : List Value). take (length a) ys) h.1 ∙ front-of a h.0

pub long-enough : (a b : List Value) (n : ℕ) → GoesOn a b → n ≡ length a → n ≤ length b
long-enough a b n h is = let l = ap (λ (ys : List Value). length ys) h.1 in let k = length-append a h.0 in omega (arith, is, l, k)
