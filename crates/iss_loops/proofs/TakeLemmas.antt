-- Frames taken one after the other, until one makes a packet whole.
use Rattle.std.proofs.Common.{◌≡◌, ◌∙◌, ℕ, suc, ◌-◌, ◌+◌, ◌<◌, List, [], ◌∷◌, Option, Some, None, Vec, Global, refl, ap, sym, subst, arith}
use Rattle.iss_links.specs.Reassembly.{IsOutcome}
use Rattle.iss_links.specs.Calls.{Becomes, IfTold}
use Rattle.iss_links.specs.Ends.{End, IsArrival, IsFirst, after_take, end_at}
use Rattle.iss_links.specs.Frames.{Fragment}
use Rattle.iss_links.specs.Reassembly.{Partial, completed_by}
use Rattle.iss_links.specs.declared.links.Arrival.{Arrival}
use Rattle.iss_links.specs.declared.links.Arrival.TheVariants.{Got, Part, Nothing}
use Rattle.iss_loops.specs.Loop.{packet_at, packet_of, packet_or}

abbrev Found : Type 0
Found = Option (List ℕ) × List End

or-got : (o : Option (List ℕ)) (v : Vec ℕ Global) (ends : List End) (later : Found) → IsOutcome o (Got v) → packet_or o ends later ≡ (Some v.items, ends)
or-got (Some p) v ends later is = rw is refl
or-got None v ends later is = absurd is

of-got : (ws : List Fragment) (partials : List Partial) (v : Vec ℕ Global) (ends : List End) (later : Found) → IsFirst ws partials (Got v) → packet_of ws partials ends later ≡ (Some v.items, ends)
of-got [] partials v ends later is = absurd (cc)
of-got (f ∷ fs) partials v ends later is = or-got (completed_by f partials) v ends later is

or-part : (o : Option (List ℕ)) (ends : List End) (later : Found) → IsOutcome o Part → packet_or o ends later ≡ later
or-part (Some p) ends later is = absurd is
or-part None ends later is = refl

of-part : (ws : List Fragment) (partials : List Partial) (ends : List End) (later : Found) → IsFirst ws partials Part → packet_of ws partials ends later ≡ later
of-part [] partials ends later is = absurd (cc)
of-part (f ∷ fs) partials ends later is = or-part (completed_by f partials) ends later is

or-nothing : (o : Option (List ℕ)) → IsOutcome o Nothing → ⊥
or-nothing (Some p) is = is
or-nothing None is = is

of-nothing : (ws : List Fragment) (partials : List Partial) (ends : List End) (later : Found) → IsFirst ws partials Nothing → packet_of ws partials ends later ≡ (None, ends)
of-nothing [] partials ends later is = refl
of-nothing (f ∷ fs) partials ends later is = absurd (or-nothing (completed_by f partials) is)

-- one frame more was taken
pub next-got : (at most k : ℕ) (now : List End) (v : Vec ℕ Global) → k < most → IsArrival at now (Got v) → packet_at at (most - k) now ≡ (Some v.items, after_take at now)
next-got at most k now v low is = let more : most - k ≡ suc (most - (k + 1)) = omega (arith, low) in rw more (of-got (end_at now at).waiting (end_at now at).partials v (after_take at now) (packet_at at (most - (k + 1)) (after_take at now)) is)

pub next-part : (at most k : ℕ) (now : List End) → k < most → IsArrival at now Part → packet_at at (most - k) now ≡ packet_at at (most - (k + 1)) (after_take at now)
next-part at most k now low is = let more : most - k ≡ suc (most - (k + 1)) = omega (arith, low) in rw more (of-part (end_at now at).waiting (end_at now at).partials (after_take at now) (packet_at at (most - (k + 1)) (after_take at now)) is)

pub next-nothing : (at most k : ℕ) (now : List End) → k < most → IsArrival at now Nothing → packet_at at (most - k) now ≡ (None, after_take at now)
next-nothing at most k now low is = let more : most - k ≡ suc (most - (k + 1)) = omega (arith, low) in rw more (of-nothing (end_at now at).waiting (end_at now at).partials (after_take at now) (packet_at at (most - (k + 1)) (after_take at now)) is)

-- what a call says of ends that are told
told-arrival : (at : ℕ) (ends : Option (List End)) (now : List End) (a : Arrival) → ends ≡ Some now → IfTold ends (λ (es : List End). IsArrival at es a) → IsArrival at now a
told-arrival at ends now a is h = (let Q : Option (List End) → Type 0 = λ e. IfTold e (λ (es : List End). IsArrival at es a) in subst Q is h)

pub told-becomes : (change : List End → List End) (ends after : Option (List End)) (now : List End) → ends ≡ Some now → Becomes change ends after → after ≡ Some (change now)
told-becomes change ends after now is h = (let Q : Option (List End) → Type 0 = λ e. Becomes change e after in subst Q is h)

-- of a run of takes, by what is known before one of them
pub record Takes (at most k : ℕ) (e0 : Option (List End)) (whole : Found) : Type 0 where
  pub now : List End
  pub told : e0 ≡ Some now
  pub same : packet_at at (most - k) now ≡ whole

pub ends-got : (at most k : ℕ) (e0 e1 : Option (List End)) (whole : Found) (v : Vec ℕ Global) (a : Arrival) → k < most → Takes at most k e0 whole → a ≡ Got v
    → IfTold e0 (λ (es : List End). IsArrival at es a) → Becomes (after_take at) e0 e1 → (Some v.items ≡ whole.0) × (e1 ≡ Some whole.1)
ends-got at most k e0 e1 whole v a low t is came after =
    let here : IsArrival at t.now (Got v) = (let Q : Arrival → Type 0 = λ x. IsArrival at t.now x in subst Q is (told-arrival at e0 t.now a t.told came)) in
    let e = sym (next-got at most k t.now v low here) ∙ t.same in
    (ap (λ (x : Found). x.0) e, told-becomes (after_take at) e0 e1 t.now t.told after ∙ ap (λ (x : Found). Some x.1) e)

pub ends-nothing : (at most k : ℕ) (e0 e1 : Option (List End)) (whole : Found) (a : Arrival) → k < most → Takes at most k e0 whole → a ≡ Nothing
    → IfTold e0 (λ (es : List End). IsArrival at es a) → Becomes (after_take at) e0 e1 → (None ≡ whole.0) × (e1 ≡ Some whole.1)
ends-nothing at most k e0 e1 whole a low t is came after =
    let here : IsArrival at t.now Nothing = (let Q : Arrival → Type 0 = λ x. IsArrival at t.now x in subst Q is (told-arrival at e0 t.now a t.told came)) in
    let e = sym (next-nothing at most k t.now low here) ∙ t.same in
    (ap (λ (x : Found). x.0) e, told-becomes (after_take at) e0 e1 t.now t.told after ∙ ap (λ (x : Found). Some x.1) e)

pub goes-on : (at most k : ℕ) (e0 e1 : Option (List End)) (whole : Found) (a : Arrival) → k < most → Takes at most k e0 whole → a ≡ Part
    → IfTold e0 (λ (es : List End). IsArrival at es a) → Becomes (after_take at) e0 e1 → Takes at most (k + 1) e1 whole
goes-on at most k e0 e1 whole a low t is came after =
    let here : IsArrival at t.now Part = (let Q : Arrival → Type 0 = λ x. IsArrival at t.now x in subst Q is (told-arrival at e0 t.now a t.told came)) in
    record { now = after_take at t.now; told = told-becomes (after_take at) e0 e1 t.now t.told after; same = sym (next-part at most k t.now low here) ∙ t.same }
