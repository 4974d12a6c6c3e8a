use Rattle.std.proofs.Common.{◌≡◌, ℕ, Bool, List, ◌++◌, cond, ◌||◌, Option, Some, None, length, refl, sym, ap, ◌∙◌}
use Rattle.std.specs.Prelude.{not, nat_lt, ◌==◌}
use Rattle.iss_base.proofs.Lists.{or-flip}
use Rattle.iss_window.proofs.Members.{has_id-and_ids, has_id-append}
use Rattle.iss_rules.specs.Judge.{any, judge, marks}
use Rattle.iss_rules.specs.Verdicts.{verdict}
use Rattle.iss_rules.specs.Rules.{Rules}
use Rattle.iss_rules.specs.declared.events.Refusal.{Refusal}
use Rattle.iss_rules.specs.declared.events.Refusal.TheVariants.{TooLarge, ForeignBucket, BadSignature, OutOfWindow, Ordered, Marked}
use Rattle.iss_segment.proofs.MarksLemmas.{any_marked-same}
use Rattle.iss_segment.specs.Answers.{IsInstanceTaken}
use Rattle.iss_segment.specs.Internal.Marks.{and_marks}
use Rattle.iss_segment.specs.Instance.{SameIds, SegmentState}
use Rattle.iss_request.specs.Log.{has_id, ids, log_ids}
use Rattle.iss_request.specs.declared.ids.ReqId.{ReqId}
use Rattle.iss_request.specs.declared.ids.Slot.{Slot}
use Rattle.iss_request.specs.declared.requests.Batch.{Batch}
use Rattle.iss_request.specs.declared.requests.Request.{Request}
use Rattle.iss_request.specs.declared.requests.Value.{Value}
use Rattle.iss_sb.specs.declared.effects.Effects.{Effects}
use Rattle.iss_sb.specs.declared.effects.Input.{Input}
use Rattle.iss_sb.specs.declared.effects.Params.{Params}
use Rattle.iss_sb.specs.Calls.{IsTrueStep}
use Rattle.iss_sb.specs.Evidence.{Item, Module, accepts, one_or_none}
use Rattle.iss_keys.specs.KeyStates.{KeyState}
use Rattle.iss_sb.specs.Laws.{IsLawful}

-- The check depends only on the set of marks.
judge-same : (R : Rules) (before : List Value) (e l : ℕ) (a b : List ReqId) (batch : Batch) → SameIds a b → judge R before e l a batch ≡ judge R before e l b batch
judge-same R before e l a b batch same =
    ap (λ (t : Bool).
    cond (nat_lt R.batch (length batch)) (Some TooLarge)
    (cond (any (λ (q : Request). not (R.owner before e q.id == l)) batch) (Some ForeignBucket)
    (cond (any (λ (q : Request). not (R.signed q)) batch) (Some BadSignature)
    (cond (any (λ (q : Request). not (R.inside before e q.id)) batch) (Some OutOfWindow)
    (cond (any (λ (q : Request). has_id q.id (log_ids before)) batch) (Some Ordered)
    (cond t (Some Marked) None))))))
    (any_marked-same a b same (ids batch))

pub verdict-at : (R : Rules) (before : List Value) (e l : ℕ) (marked : List ReqId) (xs : List (Slot × Batch)) (slot : Slot) (b lent : Batch) (asked : Option (Slot × Batch)) (r : Option Refusal) →
    SameIds marked (marks xs) → Some (slot, b) ≡ asked → lent ≡ b → r ≡ judge R before e l marked lent → verdict R before e l xs asked ≡ r
verdict-at R before e l marked xs slot b lent asked r same is lent_is h =
    sym (h ∙ ap (λ (z : Batch). judge R before e l marked z) lent_is ∙ judge-same R before e l marked (marks xs) b same ∙ ap (λ (o : Option (Slot × Batch)). verdict R before e l xs o) is)

-- The input asks for no batch.
pub verdict-none : (R : Rules) (before : List Value) (e l : ℕ) (xs : List (Slot × Batch)) (asked : Option (Slot × Batch)) → None ≡ asked → verdict R before e l xs asked ≡ None
verdict-none R before e l xs asked is = sym (ap (λ (o : Option (Slot × Batch)). verdict R before e l xs o) is)

-- Accepting a batch adds its identities to the marks.
marks-grow : (marked : List ReqId) (xs : List (Slot × Batch)) (accepted : Option (Slot × Batch)) → SameIds marked (marks xs) → SameIds (and_marks marked accepted) (marks (one_or_none accepted ++ xs))
marks-grow marked xs None same = same
marks-grow marked xs (Some a) same = λ x.
    has_id-and_ids x marked a.1
    ∙ ap (λ t. t || has_id x (ids a.1)) (same x)
    ∙ or-flip (has_id x (marks xs)) (has_id x (ids a.1))
    ∙ sym (has_id-append x (ids a.1) (marks xs))

pub instance-taken : {M Msg : Type 0} (m : Module Msg) (refines : M → Params → ℕ → List (Item Msg) → Type 0) (old : SegmentState M) (ordering : M) (marked : List ReqId) (i : Input Msg) (before later : KeyState) (e : Effects Msg) →
    IsLawful m → IsTrueStep m refines old.params old.ordering ordering i before later e → marked ≡ and_marks old.marked e.accepted →
    IsInstanceTaken m refines old (record { params = old.params; me = old.me; ordering = ordering; marked = marked }) i before later e
instance-taken m refines old ordering marked i before later e laws step marked_is = record {
  same_params = refl;
  same_node = refl;
  refined = λ xs h own. record {
    ordering = step.refined old.me.0 xs h.ordering own;
    marked =
        let is : e.accepted ≡ (m.makes old.params old.me.0 xs i before.used).accepted = (step.effects old.me.0 xs h.ordering own).accepted ∙ sym (laws.accepted old.params old.me.0 xs i before.used) in
        λ x. ap (λ (ys : List ReqId). has_id x ys) (marked_is ∙ ap (λ (o : Option (Slot × Batch)). and_marks old.marked o) is) ∙ marks-grow old.marked (accepts xs) (m.makes old.params old.me.0 xs i before.used).accepted h.marked x;
  };
  effects = λ xs h own. step.effects old.me.0 xs h.ordering own;
  used = λ xs h own. step.used old.me.0 xs h.ordering own;
  within = step.within;
  enough = step.enough;
}
