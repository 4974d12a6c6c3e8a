-- A node keeps its invariant when one of its instances takes an input.
use Rattle.std.proofs.Common.{arith, inl, inr, ◌≡◌, ◌≢◌, ◌⊎◌, ℕ, zero, suc, ◌<◌, List, [], ◌∷◌, Option, Some, None, Result, Ok, Err, length, get_or, slice_set, refl, sym, ap, ◌∙◌, subst, true, true≢false}
use Rattle.std.specs.Prelude.{is_some}
use Rattle.iss_base.proofs.Lists.{same_or_not}
use Rattle.iss_keys.specs.KeyStates.{KeyState}
use Rattle.iss_node.specs.Internal.Inputs.{IsInputTaken, IsJudgedInput}
use Rattle.iss_node.specs.Internal.Ready.{HasLeaves}
use Rattle.iss_node.specs.Internal.Shape.{IsAt, IsNodeState}
use Rattle.iss_node.specs.State.{StateView, led}
use Rattle.iss_node.specs.Steps.{IsNodeInput}
use Rattle.iss_request.specs.declared.setups.Setup.{Setup}
use Rattle.iss_sb.specs.Calls.{IsGoodInput}
use Rattle.iss_sb.specs.Evidence.{Item, Module}
use Rattle.iss_sb.specs.declared.effects.Effects.{Effects}
use Rattle.iss_sb.specs.declared.effects.Input.{Input}
use Rattle.iss_sb.specs.declared.effects.Input.TheVariants.{Cast, Receive, Timeout}
use Rattle.iss_sb.specs.declared.effects.Params.{Params}
use Rattle.iss_segment.specs.Answers.{IsInstanceSpent, IsInstanceTaken, IsJudgedStep, IsVerdict}
use Rattle.iss_segment.specs.Instance.{SegmentState}
use Rattle.iss_segment.specs.declared.segment.StepRefusal.{StepRefusal}
use Rattle.iss_segment.specs.declared.segment.StepRefusal.TheVariants.{Spent as Refusal_spent, Refused, NoMemory as Refusal_no_memory}

module _ {M : Type 0} where
  pub led-of : (gs : List (Option (SegmentState M))) (l : ℕ) (o : Option (SegmentState M)) → l < length gs → o ≡ get_or gs l o → led gs l ≡ o
  led-of [] l o lt is = absurd (omega (arith, lt))
  led-of (g ∷ gs) zero o lt is = sym is
  led-of (g ∷ gs) (suc l) o lt is = led-of gs l o (omega (arith, lt)) is

  pub led-set : (gs : List (Option (SegmentState M))) (l : ℕ) (o : Option (SegmentState M)) → l < length gs → led (slice_set gs l o) l ≡ o
  led-set [] l o lt = absurd (omega (arith, lt))
  led-set (g ∷ gs) zero o lt = refl
  led-set (g ∷ gs) (suc l) o lt = led-set gs l o (omega (arith, lt))

  pub led-other : (gs : List (Option (SegmentState M))) (l k : ℕ) (o : Option (SegmentState M)) → k ≢ l → led (slice_set gs l o) k ≡ led gs k
  led-other [] l k o ne = refl
  led-other (g ∷ gs) zero zero o ne = absurd (ne refl)
  led-other (g ∷ gs) zero (suc k) o ne = refl
  led-other (g ∷ gs) (suc l) zero o ne = refl
  led-other (g ∷ gs) (suc l) (suc k) o ne = led-other gs l k o (λ e. ne (ap suc e))

  pub set-length : (gs : List (Option (SegmentState M))) (l : ℕ) (o : Option (SegmentState M)) → length (slice_set gs l o) ≡ length gs
  set-length [] l o = refl
  set-length (g ∷ gs) zero o = refl
  set-length (g ∷ gs) (suc l) o = ap suc (set-length gs l o)

  -- Writing an element where it already is changes nothing.
  set-same : (gs : List (Option (SegmentState M))) (l : ℕ) (o : Option (SegmentState M)) → l < length gs → led gs l ≡ o → slice_set gs l o ≡ gs
  set-same [] l o lt is = refl
  set-same (g ∷ gs) zero o lt is = ap (λ (p : Option (SegmentState M)). p ∷ gs) (sym is)
  set-same (g ∷ gs) (suc l) o lt is = ap (λ (ps : List (Option (SegmentState M))). g ∷ ps) (set-same gs l o (omega (arith, lt)) is)

-- An instance that leads is there.
pub leads-there : {M Msg : Type 0} (m : Module Msg) (v : StateView M Msg) → IsNodeState m v → (l : ℕ) (o : Option (SegmentState M)) → l < v.setup.n → o ≡ get_or v.segments l o → o ≡ None →
    is_some (led v.segments l) ≡ true → ⊥
leads-there m v shape l o low is none leads =
    let within : l < length v.segments = let n = shape.count in omega (arith, n, low) in
    true≢false (sym leads ∙ ap (λ (x : Option (SegmentState _)). is_some x) (led-of v.segments l o within is ∙ none))

-- The sender of a message is a node of the instance's set-up.
pub good-input : {Msg : Type 0} (s : Setup) (p : Params) (input : Input Msg) → p.setup ≡ s → IsNodeInput s.n input → IsGoodInput p input
good-input s p (Cast slot batch) is h = tt
good-input s p (Receive from msg) is h = subst (λ (z : Setup). from.0 < z.n) (sym is) h
good-input s p Timeout is h = tt

module _ {M Msg : Type 0} (m : Module Msg) (refines : M → Params → ℕ → List (Item Msg) → Type 0) (v : StateView M Msg) (shape : IsNodeState m v) (l : ℕ) (low : l < v.setup.n) (g : SegmentState M)
    (o : Option (SegmentState M)) (is : o ≡ get_or v.segments l o) (some : o ≡ Some g) where
  within : l < length v.segments
  within = let n = shape.count in omega (arith, n, low)

  pub place : led v.segments l ≡ Some g
  place = led-of v.segments l o within is ∙ some

  pub placed : IsAt v.setup v.me l g
  placed = shape.segments l g place

  module _ (h : SegmentState M) (keys : KeyState) where
    abbrev pub written : StateView M Msg
    written = record v { segments = slice_set v.segments l (Some h); keys = keys }

    pub there : led (slice_set v.segments l (Some h)) l ≡ Some h
    there = led-set v.segments l (Some h) within

    pub same-shape : (h.params ≡ g.params) × (h.me ≡ g.me) → IsNodeState m written
    same-shape same = record {
      good = shape.good;
      me = shape.me;
      directory = shape.directory;
      count = set-length v.segments l (Some h) ∙ shape.count;
      slots = shape.slots;
      nodes = shape.nodes;
      fits = shape.fits;
      segments = λ k x at. go k x at (same_or_not k l);
      early = shape.early;
      version = shape.version;
      voters = shape.voters;
    }
      where
        mine : IsAt v.setup v.me l h
        mine = record {
          setup = ap (λ (p : Params). p.setup) same.0 ∙ placed.setup;
          leader = ap (λ (p : Params). p.leader.0) same.0 ∙ placed.leader;
          node = same.1 ∙ placed.node;
        }

        go : (k : ℕ) (x : SegmentState M) → led (slice_set v.segments l (Some h)) k ≡ Some x → (k ≡ l) ⊎ (k ≢ l) → IsAt v.setup v.me k x
        go k x at (inl q) =
            let two : Some h ≡ Some x = sym there ∙ subst (λ (i : ℕ). led (slice_set v.segments l (Some h)) i ≡ Some x) q at in
            let same_one : h ≡ x = cc in
            subst (λ (z : SegmentState M). IsAt v.setup v.me k z) same_one (subst (λ (i : ℕ). IsAt v.setup v.me i h) (sym q) mine)
        go k x at (inr ne) = shape.segments k x (sym (led-other v.segments l k (Some h) ne) ∙ at)

    pub input-taken : (input : Input Msg) (e : Effects Msg) → IsInstanceTaken m refines g h input v.keys keys e → IsInputTaken m refines v written l input e
    input-taken input e taken = record {
      was = g;
      is = h;
      at = place;
      there = there;
      others = λ k ne. led-other v.segments l k (Some h) ne;
      taken = taken;
      rest = refl;
    }

    -- There are as many leaves as the step may use.
    pub no-leaves : HasLeaves m v l → IsInstanceSpent m g h v.keys keys → ⊥
    no-leaves has spent = let few = spent.too_few in let more = has.enough g place in omega (arith, few, more)

    -- If the instance and the keys do not change, nothing changes.
    untouched : h ≡ g → keys ≡ v.keys → written ≡ v
    untouched same same_keys =
        let gs : slice_set v.segments l (Some h) ≡ v.segments = set-same v.segments l (Some h) within (place ∙ ap (λ (z : SegmentState M). Some z) (sym same)) in
        λ i. record v { segments = gs i; keys = same_keys i }

    pub judged-input : HasLeaves m v l → (input : Input Msg) (r : Result (Effects Msg) StepRefusal) → IsJudgedStep m refines v.plan v.windows g h input v.keys keys r → IsJudgedInput m refines v written l input r
    judged-input has input (Ok e) j = (input-taken input e j.taken, (λ x at. one x at (λ z. IsVerdict m refines v.plan v.windows z input None) j.accepted))
      where
        one : (x : SegmentState M) → led v.segments l ≡ Some x → (Q : SegmentState M → Type 0) → Q g → Q x
        one x at Q here = let two : Some g ≡ Some x = sym place ∙ at in let same : g ≡ x = cc in subst (λ (z : SegmentState M). Q z) same here
    judged-input has input (Err Refusal_spent) j = let few = j.too_few in let more = has.enough g place in omega (arith, few, more)
    judged-input has input (Err (Refused why)) j = (untouched j.same j.same_keys, (λ x at. one x at (λ z. IsVerdict m refines v.plan v.windows z input (Some why)) j.refused))
      where
        one : (x : SegmentState M) → led v.segments l ≡ Some x → (Q : SegmentState M → Type 0) → Q g → Q x
        one x at Q here = let two : Some g ≡ Some x = sym place ∙ at in let same : g ≡ x = cc in subst (λ (z : SegmentState M). Q z) same here
    judged-input has input (Err Refusal_no_memory) j = tt
