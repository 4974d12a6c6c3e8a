use Rattle.std.proofs.Common.{arith, zero, suc, slice_get, ◌≡◌, ◌≢◌, ℕ, ◌<◌, Bool, true, false, List, [], ◌∷◌, ◌++◌, Option, Some, None, length, refl, sym, ap, ◌∙◌, subst, if◌then◌else◌, ◌==◌, Ok}
use Rattle.std.specs.Prelude.{IsSome}
use Rattle.std.proofs.lemmas.Bool.Decides.{nat_tests}
use Rattle.iss_base.specs.Lists.{first_of}
use Rattle.iss_model.proofs.Rows.{first-assoc}
use Rattle.iss_log.specs.LogState.{LogState, IsFill, ahead_at, value_at}
use Rattle.iss_log.specs.declared.log.Fill.{Fill}
use Rattle.iss_log.specs.declared.log.Fill.TheVariants.{Filled, Already, Past}
use Rattle.iss_node.specs.Internal.Cells.{AreFilled, given}
use Rattle.iss_request.specs.declared.ids.Slot.{Slot}
use Rattle.iss_request.specs.declared.requests.Value.{Value}

given-append : (ds : List (Slot × Value)) (d : Slot × Value) (s : ℕ) → given (ds ++ d ∷ []) s ≡ first_of (given ds s) (if d.0.0 == s then Some d.1 else None)
given-append [] d s = refl
given-append (e ∷ ds) d s = elim (e.0.0 == s) as (λ b. (if b then Some e.1 else given (ds ++ d ∷ []) s) ≡ first_of (if b then Some e.1 else given ds s) (if d.0.0 == s then Some d.1 else None)) [
  | true ↦ refl
  | false ↦ given-append ds d s
]

not-none : (o : Option Value) → IsSome o → o ≢ None
not-none None h e = cc
not-none (Some x) h e = cc

some-within : (xs : List Value) (k : ℕ) → k < length xs → slice_get xs k ≢ None
some-within [] k lt e = absurd (omega arith)
some-within (x ∷ xs) zero lt e = cc
some-within (x ∷ xs) (suc k) lt e = let less : k < length xs = omega arith in some-within xs k less e

first-some : (a b : Option Value) → a ≢ None → first_of a b ≢ None
first-some None b h e = h refl
first-some (Some x) b h e = cc

and-none : (o : Option Value) → o ≡ first_of o None
and-none None = refl
and-none (Some y) = refl

-- A slot with a value keeps it. An empty slot takes what is delivered.
keeps : (o : Option Value) (b : Bool) (x : Value) → o ≢ None → o ≡ first_of o (if b then Some x else None)
keeps None b x h = absurd (h refl)
keeps (Some y) b x h = refl

takes : (o : Option Value) (x : Value) → o ≡ None → Some x ≡ first_of o (Some x)
takes None x h = refl
takes (Some y) x h = cc

module _ (old new : LogState) (slot : Slot) (value : Value) where
  full : value_at old slot.0 ≢ None → (s : ℕ) (b : Bool) → (slot.0 == s) ≡ b → value_at old s ≡ first_of (value_at old s) (if b then Some value else None)
  full h s true e = let k : slot.0 ≡ s = grind (arith, nat_tests) in keeps (value_at old s) true value (subst (λ (n : ℕ). value_at old n ≢ None) k h)
  full h s false e = and-none (value_at old s)

  empty : value_at old slot.0 ≡ None → (s : ℕ) (b : Bool) → (slot.0 == s) ≡ b → (if b then Some value else value_at old s) ≡ first_of (value_at old s) (if b then Some value else None)
  empty h s true e = let k : slot.0 ≡ s = grind (arith, nat_tests) in takes (value_at old s) value (subst (λ (n : ℕ). value_at old n ≡ None) k h)
  empty h s false e = and-none (value_at old s)

  values : (s : ℕ) (f : Fill) → IsFill old slot.0 value new (Ok f) → value_at new s ≡ first_of (value_at old s) (if slot.0 == s then Some value else None)
  values s Filled h = h.values s ∙ empty h.was_empty s (slot.0 == s) refl
  values s Already h = ap (λ (l : LogState). value_at l s) h.same ∙ full (not-none (value_at old slot.0) h.holds) s (slot.0 == s) refl
  values s Past h = ap (λ (l : LogState). value_at l s) h.same ∙ full (first-some (slice_get old.entries slot.0) (ahead_at old.ahead slot.0) (some-within old.entries slot.0 h.below)) s (slot.0 == s) refl

  entries : (f : Fill) → IsFill old slot.0 value new (Ok f) → new.entries ≡ old.entries
  entries Filled h = h.entries
  entries Already h = ap (λ (l : LogState). l.entries) h.same
  entries Past h = ap (λ (l : LogState). l.entries) h.same

  -- One more value.
  pub filled-next : (start : LogState) (ds : List (Slot × Value)) (fill : Fill) → AreFilled start ds old → IsFill old slot.0 value new (Ok fill) → AreFilled start (ds ++ (slot, value) ∷ []) new
  filled-next start ds fill so_far h = record {
    values = λ s.
        values s fill h
        ∙ ap (λ t. first_of t (if slot.0 == s then Some value else None)) (so_far.values s)
        ∙ first-assoc (value_at start s) (given ds s) (if slot.0 == s then Some value else None)
        ∙ ap (λ t. first_of (value_at start s) t) (sym (given-append ds (slot, value) s));
    entries = entries fill h ∙ so_far.entries;
  }
