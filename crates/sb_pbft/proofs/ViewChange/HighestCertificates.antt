-- The stored certificates: none is above the current view; the highest of a slot says whether a Commit was sent in
-- this view; after a step no Commit is due.
use mathlib.Core.Bool.{and-false, and-true}
use Rattle.std.proofs.Common.{◌≡◌, ◌⊎◌, ◌≤◌, ◌&&◌, ◌||◌, ◌∷◌, ◌++◌, ◌∙◌, ℕ, suc, Bool, true, false, not, cond, List, [], Option, Some, None, refl, sym, ap, subst, inl, inr, arith, true≢false}
use Rattle.std.proofs.lemmas.Bool.{cases_Bool, eq-eqb, eqb-false, eqb-true, le-ltb, ltb-false, ltb-true, ne_eqb, or_right}
use Rattle.std.specs.Prelude.{◌==◌, nat_lt}
use Rattle.iss_base.specs.Lists.{In, first_of}
use Rattle.iss_base.proofs.Lists.{in_append, in_left, or-alone}
use Rattle.iss_request.specs.declared.ids.Slot.{Slot}
use Rattle.iss_request.specs.Slots.{AreAscending}
use Rattle.iss_request.specs.declared.requests.Value.{Value}
use Rattle.iss_sb.specs.Evidence.{Item}
use Rattle.iss_sb.specs.declared.effects.Params.{Params}
use Rattle.pbft_wire.specs.declared.messages.Certificate.{Certificate}
use Rattle.pbft_wire.specs.declared.messages.Message.{Message}
use Rattle.pbft_views.specs.Choice.{best, higher}
use Rattle.pbft_views.proofs.Choices.{best-in}
use Rattle.sb_pbft.specs.Makes.{certificate, certified, certify, has, inputs, kept, ready}
use Rattle.sb_pbft.specs.Rules.{mode, prepared}
use Rattle.sb_pbft.specs.Internal.Turns.{is_of}
use Rattle.sb_pbft.proofs.ViewChange.CommitsAreShown.{certified-in}
use Rattle.sb_pbft.proofs.History.ViewsGrow.{Said, grows}

-- ---- the views of stored certificates

module _ (p : Params) (me : ℕ) where
  certify-view : (xs : List (Item Message)) (s : Slot) (o : Option Value) (cs : List Certificate) (c : Certificate) →
      In c (certify p me xs s o cs) → (c.view ≡ (mode p (inputs xs)).view) ⊎ In c cs
  certify-view xs s None cs c h = inr h
  certify-view xs s (Some x) cs c (inl e) = inl (ap (λ (z : Certificate). z.view) e)
  certify-view xs s (Some x) cs c (inr h) = inr h

  certified-view : (xs : List (Item Message)) (old : List Certificate) (ss : List Slot) (c : Certificate) →
      In c (certified p me xs old ss) → c.view ≡ (mode p (inputs xs)).view
  certified-view xs old [] c h = absurd h
  certified-view xs old (s ∷ ss) c h = elim (certify-view xs s (ready p me (inputs xs) old s.0) (certified p me xs old ss) c h) [
    | inl e ↦ e
    | inr k ↦ certified-view xs old ss c k
  ]

  pub kept-low : (xs : List (Item Message)) (c : Certificate) → In c (kept p me xs) → c.view ≤ (mode p (inputs xs)).view
  kept-low [] c h = absurd h
  kept-low (x ∷ xs) c h = elim (in_append c (certified p me (x ∷ xs) (kept p me xs) p.slots) (kept p me xs) h) [
    | inl k ↦ let e = certified-view (x ∷ xs) (kept p me xs) p.slots c k in omega (arith, e)
    | inr k ↦ let l = kept-low xs c k in let m = (grows p (mode p (inputs xs)) x.input).view in omega (arith, l, m)
  ]

-- ---- whether there is one of the highest view

abbrev pub AreLow : ℕ → List Certificate → Type 0
AreLow v cs = (c : Certificate) → In c cs → c.view ≤ v

-- c is compared with the best of the rest
front-of : (v : ℕ) (c : Certificate) (o : Option Certificate) → c.view ≤ v →
    ((e : Certificate) → o ≡ Some e → e.view ≤ v) → ((v == c.view) || is_of v o) ≡ is_of v (higher c o)
front-of v c None l h = or-alone (v == c.view)
front-of v c (Some e) l h = elim (cases_Bool (nat_lt c.view e.view)) [
  | inl t ↦
      let k = ltb-true c.view e.view t in
      let m = h e refl in
      let off : (v == c.view) ≡ false = ne_eqb v c.view (λ q. absurd (omega (arith, k, m, q))) in
      ap (λ (b : Bool). b || (v == e.view)) off ∙ sym (ap (λ (b : Bool). is_of v (cond b (Some e) (Some c))) t)
  | inr t ↦
      let k = ltb-false c.view e.view t in
      absorbed (v == c.view) (v == e.view) (λ q. let r = eqb-true v e.view q in eq-eqb v c.view (omega (arith, k, l, r))) ∙ sym (ap (λ (b : Bool). is_of v (cond b (Some e) (Some c))) t)
]
  where
    absorbed : (a b : Bool) → (b ≡ true → a ≡ true) → (a || b) ≡ a
    absorbed true b h = refl
    absorbed false true h = absurd (true≢false (sym (h refl)))
    absorbed false false h = refl

pub has-top : (v s : ℕ) (cs : List Certificate) → AreLow v cs → has v s cs ≡ is_of v (best s cs)
has-top v s [] low = refl
has-top v s (c ∷ cs) low = let rest = has-top v s cs (λ e i. low e (inr i)) in elim (cases_Bool (c.slot.0 == s)) [
  | inl t ↦
      let at : (s == c.slot.0) ≡ true = eq-eqb s c.slot.0 (sym (eqb-true c.slot.0 s t)) in
      ap (λ (b : Bool). ((v == c.view) && b) || has v s cs) at ∙ (ap (λ (b : Bool). b || has v s cs) (and-true (v == c.view)) ∙
      (ap (λ (b : Bool). (v == c.view) || b) rest ∙
      (front-of v c (best s cs) (low c (inl refl)) (λ e q. low e (inr (best-in s cs e q).0)) ∙ sym (ap (λ (b : Bool). is_of v (cond b (higher c (best s cs)) (best s cs))) t))))
  | inr t ↦
      let off : (s == c.slot.0) ≡ false = ne_eqb s c.slot.0 (λ q. eqb-false c.slot.0 s t (sym q)) in
      ap (λ (b : Bool). ((v == c.view) && b) || has v s cs) off ∙ (ap (λ (b : Bool). b || has v s cs) (and-false (v == c.view)) ∙
      (rest ∙ sym (ap (λ (b : Bool). is_of v (cond b (higher c (best s cs)) (best s cs))) t)))
]

-- ---- slots that ascend

-- the slot is not one of these
abbrev pub NotAt : ℕ → List Slot → Type 0
NotAt s ss = (t : Slot) → In t ss → t.0 ≡ s → ⊥

pub above : (from : ℕ) (ss : List Slot) (t : Slot) → AreAscending from ss → In t ss → from ≤ t.0
above from [] t a h = absurd h
above from (s ∷ ss) t a (inl e) = let q = ap (λ (z : Slot). z.0) e in let l = a.0 in omega (arith, q, l)
above from (s ∷ ss) t a (inr h) = let l = a.0 in let m = above (suc s.0) ss t a.1 h in omega (arith, l, m)

-- ---- after a step no Commit is due

has-here : (v s : ℕ) (c : Certificate) (cs : List Certificate) → In c cs → c.view ≡ v → c.slot.0 ≡ s → has v s cs ≡ true
has-here v s c [] h e f = absurd h
has-here v s c (d ∷ ds) (inl q) e f =
    let views : (v == d.view) ≡ true = eq-eqb v d.view (sym e ∙ ap (λ (z : Certificate). z.view) q) in
    let slots : (s == d.slot.0) ≡ true = eq-eqb s d.slot.0 (sym f ∙ ap (λ (z : Certificate). z.slot.0) q) in
    rw (views, slots) refl
has-here v s c (d ∷ ds) (inr h) e f = or_right ((v == d.view) && (s == d.slot.0)) (has v s ds) (has-here v s c ds h e f)

has-behind : (v s : ℕ) (cs ds : List Certificate) → has v s ds ≡ true → has v s (cs ++ ds) ≡ true
has-behind v s [] ds h = h
has-behind v s (c ∷ cs) ds h = or_right ((v == c.view) && (s == c.slot.0)) (has v s (cs ++ ds)) (has-behind v s cs ds h)

module _ (p : Params) (me : ℕ) where
  abbrev ready-of : (l : List Said) (s : ℕ) → Bool → Option Value
  ready-of l s b = cond ((mode p l).active && not b) (prepared p me l (mode p l).view s) None

  -- a Commit was sent for it
  pub ready-not : (l : List Said) (ks : List Certificate) (s : ℕ) → has (mode p l).view s ks ≡ true →
      ready p me l ks s ≡ None
  ready-not l ks s h = ap (ready-of l s) h ∙ go (mode p l).active (prepared p me l (mode p l).view s)
    where
      go : (a : Bool) (o : Option Value) → cond (a && false) o None ≡ None
      go true o = refl
      go false o = refl

  nothing-more : (l : List Said) (old new : List Certificate) (s : ℕ) → ready p me l old s ≡ None →
      (has (mode p l).view s old ≡ true → has (mode p l).view s new ≡ true) → ready p me l new s ≡ None
  nothing-more l old new s h more = elim (cases_Bool (has (mode p l).view s old)) [
    | inl t ↦ ready-not l new s (more t)
    | inr t ↦ elim (cases_Bool (has (mode p l).view s new)) [
      | inl u ↦ ready-not l new s u
      | inr u ↦ ap (ready-of l s) u ∙ (sym (ap (ready-of l s) t) ∙ h)
    ]
  ]

  pub nothing-left : (x : Item Message) (xs : List (Item Message)) (slot : Slot) → In slot p.slots →
      ready p me (inputs (x ∷ xs)) (kept p me (x ∷ xs)) slot.0 ≡ None
  nothing-left x xs slot h = go (ready p me l (kept p me xs) slot.0) refl
    where
      l : List Said
      l = inputs (x ∷ xs)

      new : List Certificate
      new = certified p me (x ∷ xs) (kept p me xs) p.slots

      go : (o : Option Value) → ready p me l (kept p me xs) slot.0 ≡ o →
          ready p me l (new ++ kept p me xs) slot.0 ≡ None
      go None e = nothing-more l (kept p me xs) (new ++ kept p me xs) slot.0 e (has-behind (mode p l).view slot.0 new (kept p me xs))
      go (Some y) e =
          let c : Certificate = certificate p me (x ∷ xs) (mode p l).view slot y in
          ready-not l (new ++ kept p me xs) slot.0
          (has-here (mode p l).view slot.0 c (new ++ kept p me xs) (in_left c new (kept p me xs) (certified-in p me (x ∷ xs) (kept p me xs) p.slots slot y h e)) refl refl)

  -- ---- a slot after a step

  -- the certificate of a value whose Commit is due
  abbrev pub made : List (Item Message) → Slot → Option Value → Option Certificate
  made xs slot None = None
  made xs slot (Some x) = Some (certificate p me xs (mode p (inputs xs)).view slot x)

  best-past : (s : ℕ) (c : Certificate) (cs : List Certificate) → (c.slot.0 ≡ s → ⊥) → best s (c ∷ cs) ≡ best s cs
  best-past s c cs off = ap (λ (b : Bool). cond b (higher c (best s cs)) (best s cs)) (ne_eqb c.slot.0 s off)

  certify-other : (xs : List (Item Message)) (t : Slot) (o : Option Value) (s : ℕ) (cs ks : List Certificate) →
      (t.0 ≡ s → ⊥) → best s (certify p me xs t o cs ++ ks) ≡ best s (cs ++ ks)
  certify-other xs t None s cs ks off = refl
  certify-other xs t (Some x) s cs ks off = best-past s (certificate p me xs (mode p (inputs xs)).view t x) (cs ++ ks) off

  pub certified-other : (xs : List (Item Message)) (old : List Certificate) (ss : List Slot) (s : ℕ) (ks : List Certificate) → NotAt s ss → best s (certified p me xs old ss ++ ks) ≡ best s ks
  certified-other xs old [] s ks off = refl
  certified-other xs old (t ∷ ts) s ks off =
      certify-other xs t (ready p me (inputs xs) old t.0) s (certified p me xs old ts) ks (off t (inl refl)) ∙ certified-other xs old ts s ks (λ u h e. off u (inr h) e)

  certify-here : (xs : List (Item Message)) (t : Slot) (o : Option Value) (cs ks : List Certificate) →
      AreLow (mode p (inputs xs)).view ks → best t.0 (cs ++ ks) ≡ best t.0 ks →
      best t.0 (certify p me xs t o cs ++ ks) ≡ first_of (made xs t o) (best t.0 ks)
  certify-here xs t None cs ks low h = h
  certify-here xs t (Some x) cs ks low h =
      ap (λ (b : Bool). cond b (higher c (best t.0 (cs ++ ks))) (best t.0 (cs ++ ks))) (eq-eqb t.0 t.0 refl) ∙ (ap (higher c) h ∙ top (best t.0 ks) (λ e q. low e (best-in t.0 ks e q).0))
    where
      c : Certificate
      c = certificate p me xs (mode p (inputs xs)).view t x

      top : (o : Option Certificate) → ((e : Certificate) → o ≡ Some e → e.view ≤ c.view) → higher c o ≡ Some c
      top None l = refl
      top (Some e) l = ap (λ (b : Bool). cond b (Some e) (Some c)) (le-ltb c.view e.view (l e refl))

  pub certified-at : (xs : List (Item Message)) (old : List Certificate) (from : ℕ) (ss : List Slot) (slot : Slot) (ks : List Certificate) → AreAscending from ss → In slot ss → AreLow (mode p (inputs xs)).view ks →
      best slot.0 (certified p me xs old ss ++ ks) ≡ first_of (made xs slot (ready p me (inputs xs) old slot.0)) (best slot.0 ks)
  certified-at xs old from [] slot ks a h low = absurd h
  certified-at xs old from (t ∷ ts) slot ks a (inl e) low =
      subst (λ (z : Slot). best z.0 (certified p me xs old (t ∷ ts) ++ ks) ≡ first_of (made xs z (ready p me (inputs xs) old z.0)) (best z.0 ks)) (sym e)
      (certify-here xs t (ready p me (inputs xs) old t.0) (certified p me xs old ts) ks low
      (certified-other xs old ts t.0 ks (λ u i q. let l = above (suc t.0) ts u a.1 i in absurd (omega (arith, l, q)))))
  certified-at xs old from (t ∷ ts) slot ks a (inr h) low =
      certify-other xs t (ready p me (inputs xs) old t.0) slot.0 (certified p me xs old ts) ks (λ q. let l = above (suc t.0) ts slot a.1 h in absurd (omega (arith, l, q))) ∙
      certified-at xs old (suc t.0) ts slot ks a.1 h low
