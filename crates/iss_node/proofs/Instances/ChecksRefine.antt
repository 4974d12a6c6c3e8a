-- The checks before an input agree with the model's step.
use Rattle.std.proofs.Common.{◌≡◌, ◌≢◌, ℕ, Bool, true, false, List, [], ◌∷◌, ◌++◌, cond, not, Option, Some, None, Result, Ok, Err, IfOk, refl, sym, ap, ◌∙◌, subst, true≢false}
use Rattle.std.specs.Prelude.{OnOk, is_some, Err, Ok}
use Rattle.iss_layout.specs.Layout.{Plan, leads}
use Rattle.iss_log.specs.LogState.{GoesOn}
use Rattle.iss_rules.specs.Concrete.{rules_of}
use Rattle.iss_rules.specs.Formats.{formats_of}
use Rattle.iss_rules.specs.Parcels.{Formats}
use Rattle.iss_rules.specs.Verdicts.{verdict, verdict_in}
use Rattle.iss_rules.specs.Votes.{all_verify}
use Rattle.iss_model.specs.Node.{Dropped, Turn, by_verdict, claims_of_input, has_leaves, step_unjudged, try_step}
use Rattle.iss_rules.specs.Past.{Past, before_own, leads_in, params_of, taken_in}
use Rattle.iss_rules.specs.declared.events.Refusal.{Refusal}
use Rattle.iss_rules.specs.declared.events.Why.TheVariants.{BadClaim, NotLeader, NoKeys, Refused}
use Rattle.iss_node.specs.Internal.Inputs.{HasAppliedEffects, IsChained, IsHandedOut, IsInputTaken, IsVerdictAt}
use Rattle.iss_node.specs.Internal.Ready.{IsReadInput}
use Rattle.iss_node.specs.Internal.Shape.{IsNodeState}
use Rattle.iss_node.specs.State.{RefinesBareCore, RefinesPast, StateView, core_of, led}
use Rattle.iss_node.specs.Steps.{IsLater, IsSameNode, IsStep, IsTurnOf, IsTurned}
use Rattle.iss_node.specs.declared.answers.Outcome.{Outcome}
use Rattle.iss_node.proofs.Instances.InputRefines.{addressed-next, made-next, parts-next}
use Rattle.iss_request.specs.declared.ids.NodeId.{NodeId}
use Rattle.iss_request.specs.declared.requests.Value.{Value}
use Rattle.iss_keys.specs.Directories.{AreKeysOf}
use Rattle.iss_keys.specs.KeyStates.{KeyState}
use Rattle.iss_request.specs.declared.errors.NoMemory.{NoMemory}
use Rattle.iss_sb.specs.Calls.{AreToNodes}
use Rattle.iss_sb.specs.Evidence.{Item, Module, accepts}
use Rattle.iss_sb.specs.Laws.{IsLawful}
use Rattle.iss_sb.specs.declared.effects.Claim.{Claim}
use Rattle.iss_sb.specs.declared.effects.Effects.{Effects}
use Rattle.iss_sb.specs.declared.effects.Input.{Input}
use Rattle.iss_sb.specs.declared.effects.Params.{Params}
use Rattle.iss_segment.specs.Answers.{IsInstanceTaken}
use Rattle.iss_segment.specs.Ground.{RestsOn}
use Rattle.iss_segment.specs.Instance.{SegmentState}

pub goes-trans : (a b c : List Value) → GoesOn a b → GoesOn b c → GoesOn a c
goes-trans a b c g h = (g.0 ++ h.0, h.1 ∙ ap (λ (xs : List Value). xs ++ h.0) g.1 ∙ append_assoc a g.0 h.0)
  where
    append_assoc : {A : Type 0} (x y z : List A) → (x ++ y) ++ z ≡ x ++ (y ++ z)
    append_assoc [] y z = refl
    append_assoc (w ∷ x) y z = ap (λ ws. w ∷ ws) (append_assoc x y z)

append-none : (a : List Value) → a ≡ a ++ []
append-none [] = refl
append-none (x ∷ a) = ap (λ ys. x ∷ ys) (append-none a)

pub goes-same : (a b : List Value) → b ≡ a → GoesOn a b
goes-same a b e = ([], e ∙ append-none a)

pub later-trans : {M Msg : Type 0} (u v w : StateView M Msg) → IsLater u v → IsLater v w → IsLater u w
later-trans u v w g h = record { setup = h.setup ∙ g.setup; me = h.me ∙ g.me; saved = h.saved ∙ g.saved; log = goes-trans u.log.entries v.log.entries w.log.entries g.log h.log; ballots = h.ballots ∙ g.ballots }

pub later-same : {M Msg : Type 0} (u v : StateView M Msg) → v.setup ≡ u.setup → v.me ≡ u.me → v.log.entries ≡ u.log.entries → v.ballots ≡ u.ballots → v.saved ≡ u.saved → IsLater u v
later-same u v s i l b k = record { setup = s; me = i; saved = k; log = goes-same u.log.entries v.log.entries l; ballots = b }

pub later-refl : {M Msg : Type 0} (u : StateView M Msg) → IsLater u u
later-refl u = later-same u u refl refl refl refl refl

pub same-on : {M Msg : Type 0} (u v w : StateView M Msg) → IsSameNode u v → IsLater v w → IsSameNode u w
same-on u v w g h = record { setup = h.setup ∙ g.setup; me = h.me ∙ g.me; saved = h.saved ∙ g.saved; log = goes-trans u.log.entries v.log.entries w.log.entries g.log h.log }

four : {Msg : Type 0} (a a' d d' b b' : Bool) (w w' : Option Refusal) (turn : Turn Msg) → a ≡ a' → d ≡ d' → b ≡ b' → w ≡ w' →
    cond (not a) (Dropped NotLeader) (cond (not d) (Dropped BadClaim) (cond (not b) (Dropped NoKeys) (by_verdict w turn)))
    ≡ cond (not a') (Dropped NotLeader) (cond (not d') (Dropped BadClaim) (cond (not b') (Dropped NoKeys) (by_verdict w' turn)))
four a a' d d' b b' w w' turn ha hd hb hw = rw (ha, hd, hb, hw) refl

module _ {M Msg : Type 0} (m : Module Msg) (refines : M → Params → ℕ → List (Item Msg) → Type 0)
    (v : StateView M Msg) (past : Past Msg) (tied : RefinesPast m refines v past) (l : ℕ) where
  pub leads-is : (b : Bool) → b ≡ is_some (led v.segments l) → leads_in (rules_of v.setup) m v.me.0 past l ≡ b
  leads-is b e = sym (e ∙ tied.leading l ∙ ap (λ (p : Plan). leads p l) tied.rests.divided)

  pub leaves-is : (g : SegmentState M) → led v.segments l ≡ Some g → (b : Bool) → b ≡ has_leaves m g.params v.keys.used → has_leaves m (params_of (rules_of v.setup) m v.me.0 past l) v.keys.used ≡ b
  leaves-is g at b e = sym (e ∙ ap (λ (p : Params). has_leaves m p v.keys.used) (tied.instances l g at).params)

  pub verdict-is : (input : Input Msg) (g : SegmentState M) → led v.segments l ≡ Some g → (o : Option Refusal) → IsVerdictAt m refines v l input o → verdict_in (rules_of v.setup) m v.me.0 past l input ≡ o
  verdict-is input g at o h =
      let here = tied.instances l g at in
      let bf = before_own (rules_of v.setup) m v.me.0 past in
      let xs = taken_in past l in
      subst (λ (p : Params). verdict (rules_of p.setup) bf p.epoch.0 p.leader.0 (accepts xs) (m.asks p v.me.0 xs input) ≡ o) here.params
      (subst (λ (i : NodeId). verdict (rules_of g.params.setup) bf g.params.epoch.0 g.params.leader.0 (accepts xs) (m.asks g.params i.0 xs input) ≡ o) here.node
      (h g at bf xs (subst (λ (p : Params). RestsOn p.setup bf p.epoch.0 v.plan v.windows) (sym here.params) tied.rests) here.instance))

  module _ (F : Formats Msg) (input : Input Msg) where
    pub instance-is : (a d b : Bool) (w : Option Refusal) → leads_in (rules_of v.setup) m v.me.0 past l ≡ a →
        all_verify (rules_of v.setup) (claims_of_input m (params_of (rules_of v.setup) m v.me.0 past l) input) ≡ d →
        has_leaves m (params_of (rules_of v.setup) m v.me.0 past l) v.keys.used ≡ b → verdict_in (rules_of v.setup) m v.me.0 past l input ≡ w →
        try_step F (rules_of v.setup) m v.me.0 (core_of v past) l input ≡
        cond (not a) (Dropped NotLeader) (cond (not d) (Dropped BadClaim) (cond (not b) (Dropped NoKeys) (by_verdict w (step_unjudged F (rules_of v.setup) m v.me.0 (core_of v past) l input))))
    instance-is a d b w ha hd hb hw = four _ a _ d _ b _ w (step_unjudged F (rules_of v.setup) m v.me.0 (core_of v past) l input) ha hd hb hw

-- The verdict on the claims that were read is that on the input's.
pub credible-is : {M Msg : Type 0} (m : Module Msg) (refines : M → Params → ℕ → List (Item Msg) → Type 0) (v : StateView M Msg) (l : ℕ) (input : Input Msg) (claims : List Claim) → true ≡ is_some (led v.segments l) →
    IsReadInput m refines v l input claims → (b : Bool) → b ≡ all_verify (rules_of v.setup) claims → (past : Past Msg) → RefinesPast m refines v past →
    b ≡ all_verify (rules_of v.setup) (claims_of_input m (params_of (rules_of v.setup) m v.me.0 past l) input)
credible-is m refines v l input claims leading h b is past tied =
    is ∙ ap (λ (cs : List Claim). all_verify (rules_of v.setup) cs) (h.read past tied (leads-is m refines v past tied l true leading))

-- Nothing has changed.
pub same-parts : {M Msg : Type 0} (m : Module Msg) (refines : M → Params → ℕ → List (Item Msg) → Type 0) (v : StateView M Msg) (past : Past Msg) → RefinesPast m refines v past → RefinesBareCore m refines v (core_of v past)
same-parts m refines v past tied = record { core = refl; tied = tied }

-- An input that was taken, with its effects, is the model's turn.
module _ {M Msg : Type 0} (m : Module Msg) (laws : IsLawful m) (refines : M → Params → ℕ → List (Item Msg) → Type 0)
    (v : StateView M Msg) (shape : IsNodeState m v) (leader : NodeId) (input : Input Msg) (ef : Effects Msg) (w : StateView M Msg) (outcome : Outcome)
    (past : Past Msg) (tied : RefinesPast m refines v past) where
  inner : (segments : List (Option (SegmentState M))) (keys : KeyState) (was is : SegmentState M) → led v.segments leader.0 ≡ Some was → led segments leader.0 ≡ Some is → ((k : ℕ) → k ≢ leader.0 → led segments k ≡ led v.segments k) →
      IsInstanceTaken m refines was is input v.keys keys ef → HasAppliedEffects (record v { segments = segments; keys = keys }) w leader ef → IsHandedOut m (record v { segments = segments; keys = keys }) leader.0 ef.sends outcome.hashed outcome →
      IsChained (record v { segments = segments; keys = keys }) w ef.hashed outcome.hashed →
      IsTurned m refines (step_unjudged (formats_of v.setup m) (rules_of v.setup) m v.me.0 (core_of v past) leader.0 input) w outcome
  inner segments keys was is at there others taken a made chained =
      let F = formats_of v.setup m in
      let g = a.grown in
      let chain = chained.joined g.grown.joined g.grown.entries tied.chained in
      let parts = parts-next m refines v shape past tied laws leader input ef was is keys at taken w.log g.held g.grown w.chains chain.chained segments w.accepted w.waiting w.flight w.logged
      there others a.accepted g.logged g.landed.landed
      (λ all before noted members new. g.landed.waiting all (record { before = before; noted = noted; members = members }) new) F in
      let addressed = addressed-next m refines v shape past tied laws leader input ef was is keys at taken w.log g.held g.grown F outcome.sends made.sent in
      record {
        refined = subst (λ (z : StateView M Msg). RefinesBareCore m refines z (step_unjudged F (rules_of v.setup) m v.me.0 (core_of v past) leader.0 input).core) (sym g.rest) parts;
        made = made-next m refines v shape past tied laws leader input ef was is keys at taken w.log g.held g.grown outcome made.sent (made.own is there) made.early chain.strings;
        entered = made.entered;
        addressed = subst (λ (z : StateView M Msg). AreToNodes z.setup.n outcome.sends) (sym g.rest) addressed;
      }

  pub turned : (u : StateView M Msg) → IsInputTaken m refines v u leader.0 input ef → HasAppliedEffects u w leader ef → IsHandedOut m u leader.0 ef.sends outcome.hashed outcome → IsChained u w ef.hashed outcome.hashed →
      IsTurned m refines (step_unjudged (formats_of v.setup m) (rules_of v.setup) m v.me.0 (core_of v past) leader.0 input) w outcome
  turned u i a made chained =
      inner u.segments u.keys i.was i.is i.at i.there i.others i.taken
      (subst (λ (z : StateView M Msg). HasAppliedEffects z w leader ef) i.rest a)
      (subst (λ (z : StateView M Msg). IsHandedOut m z leader.0 ef.sends outcome.hashed outcome) i.rest made)
      (subst (λ (z : StateView M Msg). IsChained z w ef.hashed outcome.hashed) i.rest chained)

-- ---- the results of an instance, and of each check

some-there : {A : Type 0} (o : Option A) → true ≡ is_some o → (x : A) × (o ≡ Some x)
some-there None h = absurd (true≢false h)
some-there (Some x) h = (x, refl)

module _ {M Msg : Type 0} (m : Module Msg) (refines : M → Params → ℕ → List (Item Msg) → Type 0) (F : Formats Msg)
    (v : StateView M Msg) (l : ℕ) (input : Input Msg) (leading : true ≡ is_some (led v.segments l)) (past : Past Msg) (tied : RefinesPast m refines v past) where
  pub drops-claims : false ≡ all_verify (rules_of v.setup) (claims_of_input m (params_of (rules_of v.setup) m v.me.0 past l) input) →
      IsStep m refines (core_of v past) (try_step F (rules_of v.setup) m v.me.0 (core_of v past) l input) v (Err BadClaim)
  drops-claims claims = record {
    step_is = instance-is m refines v past tied l F input true false _ _ (leads-is m refines v past tied l true leading) (sym claims) refl refl;
    refined = same-parts m refines v past tied;
  }

  module _ (claims : true ≡ all_verify (rules_of v.setup) (claims_of_input m (params_of (rules_of v.setup) m v.me.0 past l) input)) where
    pub drops-keys : ((g : SegmentState M) → led v.segments l ≡ Some g → AreKeysOf v.me.0 v.setup.keys v.keys → false ≡ has_leaves m g.params v.keys.used) →
        IsStep m refines (core_of v past) (try_step F (rules_of v.setup) m v.me.0 (core_of v past) l input) v (Err NoKeys)
    drops-keys leaves =
        let g = some-there (led v.segments l) leading in
        record {
          step_is = instance-is m refines v past tied l F input true true false _ (leads-is m refines v past tied l true leading) (sym claims) (leaves-is m refines v past tied l g.0 g.1 false (leaves g.0 g.1 tied.keys)) refl;
          refined = same-parts m refines v past tied;
        }

    module _ (leaves : (g : SegmentState M) → led v.segments l ≡ Some g → AreKeysOf v.me.0 v.setup.keys v.keys → true ≡ has_leaves m g.params v.keys.used) where
      pub drops-refused : (w : StateView M Msg) (why : Refusal) → (w ≡ v) × IsVerdictAt m refines v l input (Some why) →
          IsStep m refines (core_of v past) (try_step F (rules_of v.setup) m v.me.0 (core_of v past) l input) w (Err (Refused why))
      drops-refused w why h =
          let g = some-there (led v.segments l) leading in
          record {
            step_is = instance-is m refines v past tied l F input true true true (Some why) (leads-is m refines v past tied l true leading) (sym claims) (leaves-is m refines v past tied l g.0 g.1 true (leaves g.0 g.1 tied.keys)) (verdict-is m refines v past tied l input g.0 g.1 (Some why) h.1);
            refined = subst (λ (z : StateView M Msg). RefinesBareCore m refines z (core_of v past)) (sym h.0) (same-parts m refines v past tied);
          }

      pub takes-input : (w : StateView M Msg) (o : Outcome) → IsVerdictAt m refines v l input None → IsTurned m refines (step_unjudged F (rules_of v.setup) m v.me.0 (core_of v past) l input) w o →
          IsStep m refines (core_of v past) (try_step F (rules_of v.setup) m v.me.0 (core_of v past) l input) w (Ok o)
      takes-input w o h turn =
          let g = some-there (led v.segments l) leading in
          record {
            turn = step_unjudged F (rules_of v.setup) m v.me.0 (core_of v past) l input;
            step_is = instance-is m refines v past tied l F input true true true None (leads-is m refines v past tied l true leading) (sym claims) (leaves-is m refines v past tied l g.0 g.1 true (leaves g.0 g.1 tied.keys)) (verdict-is m refines v past tied l input g.0 g.1 None h);
            turned = turn;
          }

pub input-turn : {M Msg : Type 0} (m : Module Msg) (laws : IsLawful m) (refines : M → Params → ℕ → List (Item Msg) → Type 0) (v u w : StateView M Msg) (shape : IsNodeState m v) (leader : NodeId) (input : Input Msg) (ef : Effects Msg) (r : Result Outcome NoMemory) →
    IsInputTaken m refines v u leader.0 input ef → OnOk r (HasAppliedEffects u w leader ef) → IfOk r (λ o. IsHandedOut m u leader.0 ef.sends o.hashed o) → IfOk r (λ o. IsChained u w ef.hashed o.hashed) →
    IfOk r (λ o. IsTurnOf m refines v (λ F R me c. step_unjudged F R m me c leader.0 input) w o)
input-turn m laws refines v u w shape leader input ef (Err e) i a s t = tt
input-turn m laws refines v u w shape leader input ef (Ok o) i a s t = λ past tied. turned m laws refines v shape leader input ef w o past tied u i a s t
