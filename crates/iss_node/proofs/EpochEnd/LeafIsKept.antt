-- A leaf is kept for the vote at the end of an epoch, and the next epoch begins open.
use Rattle.std.proofs.Common.{arith, inl, inr, [], ◌≡◌, ℕ, suc, ◌+◌, ◌*◌, ◌^◌, ◌<◌, ◌≤◌, true, false, List, length, None, Result, Ok, Err, refl, sym, ap, ◌∙◌, subst, true≢false}
use Rattle.std.specs.Prelude.{OnOk, slice_get, Err, Ok, Result}
use Rattle.std.proofs.lemmas.Bool.Decides.{leb_tells}
use Rattle.iss_base.proofs.Lists.{none-some}
use Rattle.iss_checkpoint.specs.declared.votes.Vote.{Vote}
use Rattle.iss_keys.specs.KeyStates.{KeyState, left_of}
use Rattle.iss_model.specs.Node.{Stepped}
use Rattle.iss_rules.specs.declared.events.Why.{Why}
use Rattle.iss_node.proofs.EpochEnd.NextEpochStarts.{is-over}
use Rattle.iss_node.proofs.EpochEnd.VoteRefines.{next-refined, whole}
use Rattle.iss_node.proofs.Log.LogIsDelivered.{has-slots}
use Rattle.iss_node.specs.Internal.Casts.{IsCut}
use Rattle.iss_node.specs.Internal.Inputs.{HasAppliedEffects, IsInputTaken}
use Rattle.iss_node.specs.Internal.Ready.{HasLeaves, IsOpen, IsReady, IsToComplete, IsTried, MayVote, RefinesSome, is_full}
use Rattle.iss_node.specs.Internal.Shape.{IsNode, IsNodeState}
use Rattle.iss_node.specs.Internal.Votes.{IsVoted}
use Rattle.iss_node.specs.State.{NodeView, RefinesPast, StateView, core_of}
use Rattle.iss_node.specs.Steps.{IsLater, IsNextEpoch, IsStep}
use Rattle.iss_node.specs.declared.answers.Early.{Early}
use Rattle.iss_node.specs.declared.answers.Outcome.{Outcome}
use Rattle.iss_request.specs.declared.errors.NoMemory.{NoMemory}
use Rattle.iss_request.specs.declared.ids.NodeId.{NodeId}
use Rattle.iss_request.specs.declared.ids.Slot.{Slot}
use Rattle.iss_request.specs.declared.requests.Batch.{Batch}
use Rattle.iss_request.specs.declared.setups.Setup.{Setup}
use Rattle.iss_rules.specs.Past.{Past, advanced}
use Rattle.iss_sb.specs.Evidence.{Item, Module}
use Rattle.iss_sb.specs.declared.effects.Effects.{Effects}
use Rattle.iss_sb.specs.declared.effects.Input.{Input}
use Rattle.iss_sb.specs.declared.effects.Params.{Params}

-- ---- whether the log has all of the epoch

pub full-long : {M Msg : Type 0} (v : StateView M Msg) → is_full v ≡ true → v.plan.start + v.setup.epoch ≤ length v.log.entries
full-long v full = elim (leb_tells (v.plan.start + v.setup.epoch) (length v.log.entries)) [
  | inl t ↦ t.1
  | inr t ↦ absurd (true≢false (sym full ∙ t.0))
]

-- The log ends where the epoch starts: it lasts.
pub lasts-at : {M Msg : Type 0} (v : StateView M Msg) → length v.log.entries ≡ v.plan.start → 0 < v.setup.epoch → is_full v ≡ false
lasts-at v at some = elim (leb_tells (v.plan.start + v.setup.epoch) (length v.log.entries)) [
  | inl t ↦ let le = t.1 in absurd (omega (arith, le, at, some))
  | inr t ↦ t.0
]

module _ {M Msg : Type 0} (m : Module Msg) (refines : M → Params → ℕ → List (Item Msg) → Type 0) where
  -- A log that has all of the epoch has a digest at its end.
  pub end-there : (v : StateView M Msg) → MayVote m refines v → slice_get v.chains.ends (v.plan.start + v.setup.epoch) ≡ None → ⊥
  end-there v may none =
      let tied = may.refined.1 in
      none-some _ (sym none ∙ tied.chained.ends (v.plan.start + v.setup.epoch) (full-long v may.full))

  -- The chain has the log before the epoch.
  pub before-there : (v : StateView M Msg) → RefinesSome m refines v → v.epoch * v.setup.epoch < length v.chains.ends
  before-there v some =
      let tied = some.1 in
      let start = tied.start in
      let begun = tied.begun in
      let size = tied.chained.size in
      let epoch = ap (λ (e : ℕ). e * v.setup.epoch) tied.epoch in
      omega (arith, start, begun, size, epoch)

  -- ---- steps of an instance

  -- A leaf is left behind a step.
  pub took-leaf : (v u w : StateView M Msg) (leader : NodeId) (input : Input Msg) (ef : Effects Msg) → HasLeaves m v leader.0 → IsInputTaken m refines v u leader.0 input ef → HasAppliedEffects u w leader ef →
      1 ≤ left_of w.keys
  took-leaf v u w leader input ef has i a =
      let more = has.enough i.was i.at in
      let few = i.taken.within.few in
      let tall = ap (λ (h : ℕ). 2 ^ h) i.taken.within.same_height in
      let left : 1 ≤ left_of u.keys = omega (arith, more, few, tall) in
      subst (λ (k : KeyState). 1 ≤ left_of k) (sym (ap (λ (z : StateView M Msg). z.keys) a.grown.rest)) left

  pub took-leaf-ok : (v u w : StateView M Msg) (leader : NodeId) (input : Input Msg) (ef : Effects Msg) (r : Result Outcome NoMemory) → HasLeaves m v leader.0 → IsInputTaken m refines v u leader.0 input ef →
      OnOk r (HasAppliedEffects u w leader ef) → OnOk r (1 ≤ left_of w.keys)
  took-leaf-ok v u w leader input ef (Err e) has i a = tt
  took-leaf-ok v u w leader input ef (Ok o) has i a = took-leaf v u w leader input ef has i a

  -- A cut uses no leaf.
  pub leaves-cut : (v u : StateView M Msg) (l : ℕ) (slot : Slot) (batch : Batch) → IsCut v u slot batch → HasLeaves m v l → HasLeaves m u l
  leaves-cut v u l slot batch cut has =
      subst (λ (z : StateView M Msg). HasLeaves m z l) (sym cut.rest) (record { leads = has.leads; enough = has.enough })

  -- ---- after a step

  pub to-complete : (v w : StateView M Msg) (stepped : Past Msg → Stepped Msg) (a : Result Outcome Why) → RefinesSome m refines v →
      ((past : Past Msg) → RefinesPast m refines v past → IsStep m refines (core_of v past) (stepped past) w a) → IsTried v w a → IsToComplete m refines w a
  to-complete v w stepped (Ok o) some answer tried =
      let s = answer some.0 some.1 in
      record { refined = (s.turn.core.past, s.turned.refined.tied); leaf = λ full. tried }
  to-complete v w stepped (Err why) some answer tried = tt

  -- In an open epoch, also a dropped message leaves a state to go on from.
  pub ready-after : (v w : StateView M Msg) (stepped : Past Msg → Stepped Msg) (a : Result Outcome Why) → IsOpen m refines v →
      ((past : Past Msg) → RefinesPast m refines v past → IsStep m refines (core_of v past) (stepped past) w a) → IsTried v w a → IsReady m refines w
  ready-after v w stepped (Ok o) open_now answer tried =
      let s = answer open_now.refined.0 open_now.refined.1 in
      record { refined = (s.turn.core.past, s.turned.refined.tied); leaf = λ full. tried }
  ready-after v w stepped (Err why) open_now answer tried =
      subst (λ (z : StateView M Msg). IsReady m refines z) (sym tried)
      (record { refined = open_now.refined; leaf = λ full. absurd (true≢false (sym full ∙ open_now.lasts)) })

  pub may-vote : (v : StateView M Msg) → IsReady m refines v → is_full v ≡ true → MayVote m refines v
  may-vote v ready full = record { refined = ready.refined; full = full; leaf = ready.leaf full }

  -- ---- the next epoch

  -- It starts where the log ends.
  pub begins-open : (v u w : StateView M Msg) (shape : IsNodeState m v) (vote : Vote) (early : List (Early Msg)) → IsVoted v u vote → IsNextEpoch refines u w early → IsLater u w →
      MayVote m refines v → IsOpen m refines w
  begins-open v u w shape vote early voted next later may =
      let past = may.refined.0 in
      let tied = may.refined.1 in
      let complete = is-over m refines v true true (sym may.full) refl past tied in
      let there : RefinesPast m refines w (advanced past) = (next-refined m refines v shape past tied complete u vote voted w early next).tied in
      let setup : w.setup ≡ v.setup = later.setup ∙ ap (λ (z : StateView M Msg). z.setup) voted.rest in
      let log : length w.log.entries ≡ length v.log.entries =
      ap (λ (z : StateView M Msg). length z.log.entries) next.new_is
      ∙ ap (λ (z : StateView M Msg). length z.log.entries) next.opened.rest
      ∙ ap (λ (z : StateView M Msg). length z.log.entries) next.rest
      ∙ ap (λ (z : StateView M Msg). length z.log.entries) voted.rest in
      let size = whole m refines v shape past tied complete u vote voted in
      let start : w.plan.start ≡ suc past.epoch * v.setup.epoch = there.start ∙ ap (λ (s : Setup). suc past.epoch * s.epoch) setup in
      let first = tied.start in
      let some : 0 < v.setup.epoch = (has-slots v.setup shape.good.good).some [] 0 in
      let more : 0 < w.setup.epoch = subst (λ (s : Setup). 0 < s.epoch) (sym setup) some in
      record { refined = (advanced past, there); lasts = lasts-at w (omega (arith, log, size, start, first)) more }

-- ---- a node that is not stale

pub refines-some : {M Msg : Type 0} (m : Module Msg) (refines : M → Params → ℕ → List (Item Msg) → Type 0) (v : NodeView M Msg) → IsNode m refines v → v.stale ≡ false → RefinesSome m refines v.state
refines-some m refines v (inl stale) fresh = absurd (true≢false (sym stale ∙ fresh))
refines-some m refines v (inr at) fresh = (at.0.past, at.1.held.state.tied)
