-- What a node reports, and how it keeps early messages.
use Rattle.std.proofs.Common.{arith, inl, inr, ◌≡◌, ℕ, suc, ◌<◌, ◌≤◌, Bool, true, false, List, [], ◌∷◌, ◌++◌, ◌||◌, ◌&&◌, cond, not, Option, Some, length, refl, sym, ap, ◌∙◌, subst}
use Rattle.std.specs.Prelude.{is_some, nat_lt}
use Rattle.std.specs.List.{list_any}
use Rattle.std.proofs.lemmas.Bool.Decides.{nat_tests}
use Rattle.iss_base.specs.Lists.{In}
use Rattle.iss_log.specs.LogState.{LogState, value_at}
use Rattle.iss_model.proofs.Casts.{early-sound}
use Rattle.iss_rules.specs.Concrete.{rules_of}
use Rattle.iss_rules.specs.Formats.{formats_of}
use Rattle.iss_model.specs.Node.{Dropped, Early as Kept_early, Stepped, Taken, keeps_early, unchanged}
use Rattle.iss_rules.specs.Past.{Past, leads_in, params_of, taken_in}
use Rattle.iss_model.specs.Views.{are_filled, is_unfilled}
use Rattle.iss_rules.specs.declared.events.Why.TheVariants.{EarlyFull}
use Rattle.iss_node.proofs.Instances.ProposalRefines.{value-is}
use Rattle.iss_node.proofs.Instances.ChecksRefine.{leads-is}
use Rattle.iss_node.proofs.WaitingRequests.RequestRefines.{moved}
use Rattle.iss_node.specs.Internal.Shape.{AreFrom, IsNodeState}
use Rattle.iss_node.specs.State.{RefinesBareCore, RefinesPast, StateView, core_of, led, seen_early, seen_one}
use Rattle.iss_node.specs.declared.answers.Early.{Early}
use Rattle.iss_request.specs.declared.ids.Slot.{Slot}
use Rattle.iss_request.specs.declared.requests.Value.{Value}
use Rattle.iss_sb.specs.Evidence.{Item, Module, delivered}
use Rattle.iss_sb.specs.declared.effects.Params.{Params}
use Rattle.iss_segment.specs.Instance.{SegmentState}

-- ---- early messages

length-seen : {Msg : Type 0} (xs : List (Early Msg)) → length (seen_early xs) ≡ length xs
length-seen [] = refl
length-seen (x ∷ xs) = ap suc (length-seen xs)

pub seen-more : {Msg : Type 0} (xs : List (Early Msg)) (x : Early Msg) → seen_early (xs ++ x ∷ []) ≡ seen_early xs ++ seen_one x ∷ []
seen-more [] x = refl
seen-more (y ∷ xs) x = ap (λ (ys : List (Kept_early _)). seen_one y ∷ ys) (seen-more xs x)

pub from-more : {Msg : Type 0} (n : ℕ) (xs : List (Early Msg)) (x : Early Msg) → AreFrom n xs → x.from.0 < n → AreFrom n (xs ++ x ∷ [])
from-more n [] x h lt = (lt, tt)
from-more n (y ∷ xs) x h lt = (h.0, from-more n xs x h.1 lt)

pub with-early : {M Msg : Type 0} (m : Module Msg) (v : StateView M Msg) (x : Early Msg) (early : List (Early Msg)) → IsNodeState m v → x.from.0 < v.setup.n → early ≡ v.early ++ x ∷ [] → IsNodeState m (record v { early = early })
with-early m v x early h lt is = record {
  good = h.good;
  me = h.me;
  directory = h.directory;
  count = h.count;
  slots = h.slots;
  nodes = h.nodes;
  fits = h.fits;
  segments = h.segments;
  early = subst (λ (xs : List (Early _)). AreFrom v.setup.n xs) (sym is) (from-more v.setup.n v.early x h.early lt);
  version = h.version;
  voters = h.voters;
}

full-at : (n : ℕ) → 256 ≤ n → nat_lt n 256 ≡ false
full-at n le = grind (arith, nat_tests)

room-at : (n : ℕ) → n < 256 → nat_lt n 256 ≡ true
room-at n lt = grind (arith, nat_tests)

pub early-full : {M Msg : Type 0} (v : StateView M Msg) (past : Past Msg) (x : Early Msg) → 256 ≤ length v.early → keeps_early (core_of v past) (seen_one x) ≡ Dropped EarlyFull
early-full {Msg = Msg} v past x le =
    let none : Stepped Msg = Dropped EarlyFull in
    ap (λ (b : Bool). cond b (Taken (unchanged (record (core_of v past) { early = seen_early v.early ++ seen_one x ∷ [] }))) none) (ap (λ (n : ℕ). nat_lt n 256) (length-seen v.early) ∙ full-at (length v.early) le)

pub early-kept : {M Msg : Type 0} (v : StateView M Msg) (past : Past Msg) (x : Early Msg) → length v.early < 256 → keeps_early (core_of v past) (seen_one x) ≡ Taken (unchanged (record (core_of v past) { early = seen_early v.early ++ seen_one x ∷ [] }))
early-kept {Msg = Msg} v past x lt =
    let none : Stepped Msg = Dropped EarlyFull in
    ap (λ (b : Bool). cond b (Taken (unchanged (record (core_of v past) { early = seen_early v.early ++ seen_one x ∷ [] }))) none) (ap (λ (n : ℕ). nat_lt n 256) (length-seen v.early) ∙ room-at (length v.early) lt)

pub early-parts : {M Msg : Type 0} (m : Module Msg) (refines : M → Params → ℕ → List (Item Msg) → Type 0) (v : StateView M Msg) (shape : IsNodeState m v) (past : Past Msg) (tied : RefinesPast m refines v past) (x : Early Msg) (early : List (Early Msg)) → early ≡ v.early ++ x ∷ [] →
    RefinesBareCore m refines (record v { early = early }) (record (core_of v past) { early = seen_early v.early ++ seen_one x ∷ [] })
early-parts m refines v shape past tied x early is =
    let seen : seen_early early ≡ seen_early v.early ++ seen_one x ∷ [] = ap (λ (xs : List (Early _)). seen_early xs) is ∙ seen-more v.early x in
    let w : StateView _ _ = record v { early = early } in
    let core : record (core_of v past) { early = seen_early v.early ++ seen_one x ∷ [] } ≡ core_of w past = λ t. record (core_of v past) { early = sym seen t } in
    record { core = core; tied = moved m refines v shape past tied w refl (early-sound (formats_of v.setup m) (rules_of v.setup) m v.me.0 (core_of v past) (seen_early early) tied.sound) }

-- ---- leaders whose segment is not filled

or-not : (a b : Bool) → (not a || not b) ≡ not (a && b)
or-not true b = refl
or-not false b = refl

any-empty : {Msg : Type 0} (log : LogState) (m : Module Msg) (p : Params) (me : ℕ) (xs : List (Item Msg)) (slots : List Slot) → ((s : Slot) → In s slots → value_at log s.0 ≡ delivered m p me xs s.0) →
    list_any (λ (s : Slot). not (is_some (value_at log s.0))) slots ≡ not (are_filled m p me xs slots)
any-empty log m p me xs [] h = refl
any-empty log m p me xs (s ∷ ss) h =
    ap (λ (o : Option Value). not (is_some o) || list_any (λ (s : Slot). not (is_some (value_at log s.0))) ss) (h s (inl refl))
    ∙ ap (λ b. not (is_some (delivered m p me xs s.0)) || b) (any-empty log m p me xs ss (λ t i. h t (inr i)))
    ∙ or-not (is_some (delivered m p me xs s.0)) (are_filled m p me xs ss)

module _ {M Msg : Type 0} (m : Module Msg) (refines : M → Params → ℕ → List (Item Msg) → Type 0) (v : StateView M Msg) (shape : IsNodeState m v) (past : Past Msg) (tied : RefinesPast m refines v past) (l : ℕ) where
  pub unfilled-led : (g : SegmentState M) → led v.segments l ≡ Some g → (slots : List Slot) → slots ≡ g.params.slots → (b : Bool) → b ≡ list_any (λ (s : Slot). not (is_some (value_at v.log s.0))) slots → b ≡ is_unfilled (rules_of v.setup) m v.me.0 past l
  unfilled-led g at slots slots_is b h =
      let p = params_of (rules_of v.setup) m v.me.0 past l in
      let leading : leads_in (rules_of v.setup) m v.me.0 past l ≡ true = leads-is m refines v past tied l true (sym (ap (λ (o : Option (SegmentState M)). is_some o) at)) in
      h ∙ ap (λ (ss : List Slot). list_any (λ (s : Slot). not (is_some (value_at v.log s.0))) ss) (slots_is ∙ ap (λ (z : Params). z.slots) (tied.instances l g at).params)
      ∙ any-empty v.log m p v.me.0 (taken_in past l) p.slots (value-is m refines v shape past tied l)
      ∙ sym (ap (λ c. c && not (are_filled m p v.me.0 (taken_in past l) p.slots)) leading)

  pub unfilled-of : (g : SegmentState M) → led v.segments l ≡ Some g → (slots : List Slot) → slots ≡ g.params.slots → (b : Bool) (log : LogState) → log ≡ v.log → b ≡ list_any (λ (s : Slot). not (is_some (value_at log s.0))) slots → b ≡ is_unfilled (rules_of v.setup) m v.me.0 past l
  unfilled-of g at slots slots_is b log is h = unfilled-led g at slots slots_is b (subst (λ (z : LogState). b ≡ list_any (λ (s : Slot). not (is_some (value_at z s.0))) slots) is h)
