-- A step delivers, of the slots that were not delivered, those that are committed in the view that it touched.
use Rattle.std.proofs.Common.{◌≡◌, ◌≢◌, ◌⊎◌, ◌<◌, ◌≤◌, ◌∷◌, ◌∙◌, ℕ, zero, suc, List, [], Option, Some, None, refl, sym, ap, inl, inr, arith}
use Rattle.iss_base.specs.Lists.{first_of}
use Rattle.iss_base.proofs.Lists.{first_of-none, same_or_not}
use Rattle.iss_request.specs.declared.requests.Value.{Value}
use Rattle.iss_sb.specs.Evidence.{Item, delivered}
use Rattle.iss_sb.specs.declared.effects.Params.{Params}
use Rattle.pbft_wire.specs.declared.messages.Message.{Message}
use Rattle.sb_pbft.specs.Makes.{inputs}
use Rattle.sb_pbft.specs.Pbft.{decided, pbft}
use Rattle.sb_pbft.specs.Rules.{committed, lowest, mode}
use Rattle.sb_pbft.proofs.History.AcceptedAndDecided.{committed-is}
use Rattle.sb_pbft.proofs.Basics.{first-none, none-from}
use Rattle.sb_pbft.proofs.History.ViewsGrow.{Said, seen}

-- ---- the lowest view with a value

both-none : (a b : Option Value) → first_of a b ≡ None → (a ≡ None) × (b ≡ None)
both-none None b h = (refl, h)
both-none (Some x) b h = absurd (cc)

lowest-none : (f : ℕ → Option Value) (n v : ℕ) → lowest f n ≡ None → v ≤ n → f v ≡ None
lowest-none f zero v h l = let e : v ≡ 0 = omega (arith, l) in ap f e ∙ h
lowest-none f (suc n) v h l =
    let k = both-none (lowest f n) (f (suc n)) h in
    elim (same_or_not v (suc n)) [
      | inl e ↦ ap f e ∙ k.1
      | inr off ↦ lowest-none f n v k.0 (below v n l off)
    ]
  where
    below : (v n : ℕ) → v ≤ suc n → v ≢ suc n → v ≤ n
    below v n l off = grind (arith, l, off)

all-none : (f : ℕ → Option Value) (n : ℕ) → ((w : ℕ) → w ≤ n → f w ≡ None) → lowest f n ≡ None
all-none f zero h = h 0 (omega arith)
all-none f (suc n) h = first-none (lowest f n) (f (suc n)) (all-none f n (λ w l. h w (omega (arith, l)))) ∙ h (suc n) (omega arith)

-- if only one view may have a value
lowest-one : (f : ℕ → Option Value) (n v : ℕ) → ((w : ℕ) → w ≢ v → f w ≡ None) → (n < v → f v ≡ None) → lowest f n ≡ f v
lowest-one f zero v others high = elim (same_or_not 0 v) [
  | inl e ↦ ap f e
  | inr off ↦ others 0 off ∙ sym (high (some v off))
]
  where
    some : (v : ℕ) → 0 ≢ v → 0 < v
    some v off = grind (arith, off)
lowest-one f (suc n) v others high = elim (same_or_not (suc n) v) [
  | inl e ↦ first-none (lowest f n) (f (suc n)) (all-none f n (λ w l. others w (λ q. absurd (omega (arith, e, l, q))))) ∙ ap f e
  | inr off ↦ ap (λ (o : Option Value). first_of (lowest f n) o) (others (suc n) off) ∙ (first_of-none (lowest f n) ∙ lowest-one f n v others (λ l. high (higher n v l off)))
]
  where
    higher : (n v : ℕ) → n < v → suc n ≢ v → suc n < v
    higher n v l off = grind (arith, l, off)

-- ---- a slot that is not delivered is committed in no view

module _ (p : Params) (me : ℕ) where
  pub none-above : (l : List Said) (v s : ℕ) → (mode p l).view < v → committed p me l v s ≡ None
  none-above l v s lt = none-from (committed p me l v s) (λ x h. let q = (seen p me l v s x (committed-is p me l v s x h).prepared.proposed).view in absurd (omega (arith, lt, q)))

  pub none-committed : (xs : List (Item Message)) (v s : ℕ) → delivered pbft p me xs s ≡ None →
      committed p me (inputs xs) v s ≡ None
  none-committed [] v s h = refl
  none-committed (x ∷ xs) v s h =
      let k = both-none (delivered pbft p me xs s) (decided p me (x ∷ xs) s) h in
      elim (low-or-high v (mode p (inputs (x ∷ xs))).view) [
        | inl l ↦ lowest-none (λ w. committed p me (inputs (x ∷ xs)) w s) (mode p (inputs (x ∷ xs))).view v k.1 l
        | inr l ↦ none-above (inputs (x ∷ xs)) v s l
      ]
    where
      low-or-high : (a b : ℕ) → (a ≤ b) ⊎ (b < a)
      low-or-high a b = grind (arith)

  -- a step that changes what is committed at the slot in one view only
  pub newly-delivered : (x : Item Message) (xs : List (Item Message)) (v s : ℕ) →
      ((w : ℕ) → w ≢ v → committed p me (inputs (x ∷ xs)) w s ≡ committed p me (inputs xs) w s) →
      delivered pbft p me (x ∷ xs) s ≡ first_of (delivered pbft p me xs s) (committed p me (inputs (x ∷ xs)) v s)
  newly-delivered x xs v s same = go (delivered pbft p me xs s) refl
    where
      go : (o : Option Value) → delivered pbft p me xs s ≡ o →
          first_of o (decided p me (x ∷ xs) s) ≡ first_of o (committed p me (inputs (x ∷ xs)) v s)
      go (Some y) h = refl
      go None h =
          lowest-one (λ w. committed p me (inputs (x ∷ xs)) w s) (mode p (inputs (x ∷ xs))).view v (λ w off. same w off ∙ none-committed xs w s h) (none-above (inputs (x ∷ xs)) v s)

  -- a step that does not change what is committed at the slot
  pub nothing-delivered : (x : Item Message) (xs : List (Item Message)) (s : ℕ) →
      ((w : ℕ) → committed p me (inputs (x ∷ xs)) w s ≡ committed p me (inputs xs) w s) →
      delivered pbft p me (x ∷ xs) s ≡ delivered pbft p me xs s
  nothing-delivered x xs s same = newly-delivered x xs 0 s (λ w off. same w) ∙ go (delivered pbft p me xs s) refl
    where
      go : (o : Option Value) → delivered pbft p me xs s ≡ o → first_of o (committed p me (inputs (x ∷ xs)) 0 s) ≡ o
      go (Some y) h = refl
      go None h = same 0 ∙ none-committed xs 0 s h
