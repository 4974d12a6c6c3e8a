-- Partial packets represent the fragments that were taken.
use Rattle.std.proofs.Common.{◌≡◌, ℕ, suc, ◌+◌, ◌<◌, ◌≤◌, ◌==◌, ◌⊎◌, Bool, true, false, cond, List, [], ◌∷◌, ◌++◌, length, get_or, take, drop, map, Option, Some, None, is_some, unwrap_or, refl, ap, sym, ◌∙◌, arith, inl, inr, nat_lt}
use Rattle.std.proofs.lemmas.Bool.{cases_Bool, false≢true, eq-eqb, eqb-true}
use Rattle.std.specs.List.{concat}
use Rattle.iss_base.specs.Lists.{In, first_of}
use Rattle.iss_links.specs.Frames.{Fragment}
use Rattle.iss_links.specs.Reassembly.{Partial, empty_partial, has_part, belongs, is_complete, payload, updated, partials_after, latest_64, index_of, completed_by, add_fragment, add_part}
use Rattle.iss_links.specs.Joined.{AreWithin, IsJoined, first_part, is_kept, partials_of}
use Rattle.iss_links.proofs.PartLemmas.{Ascending, all-counted, below-range, part_at, there, ascending-insert, looked, full-parts, full-there}

-- P holds of each element
abbrev pub Each : {A : Type 0} → (A → Type 0) → List A → Type 0
Each P [] = Unit {0}
Each P (x ∷ xs) = P x × Each P xs

pub each : {A : Type 0} (P : A → Type 0) (xs : List A) → ((x : A) → In x xs → P x) → Each P xs
each {A} P [] h = tt
each {A} P (x ∷ xs) h = (h x (inl refl), each P xs (λ y is. h y (inr is)))

-- its parts are the first that were taken since a moment at which the end had none of them
pub record Represents (taken : List Fragment) (g : Partial) : Type 0 where
  pub since : List Fragment
  pub older : List Fragment
  pub are_taken : since ++ older ≡ taken
  pub fresh : (e : Fragment) → belongs e g ≡ true → is_kept e (partials_of older) ≡ false
  pub looks : (k : ℕ) → first_part k g since ≡ part_at k g.received
  pub ascending : Ascending 0 g.parts g.received

-- fragments of one packet belong to the same packets
belongs-same : (e f : Fragment) (p : Partial) → belongs e (empty_partial f) ≡ true → belongs e p ≡ belongs f p
belongs-same e f p is = grind (arith, is)

kept-same : (e f : Fragment) (ps : List Partial) → belongs e (empty_partial f) ≡ true → is_kept e ps ≡ is_kept f ps
kept-same e f [] is = refl
kept-same e f (p ∷ ps) is = rw (belongs-same e f p is, kept-same e f ps is) refl

-- a packet that the end does not have yet
pub represents-new : (taken : List Fragment) (f : Fragment) → is_kept f (partials_of taken) ≡ false
    → Represents taken (empty_partial f)
represents-new taken f none = record {
  since = [];
  older = taken;
  are_taken = refl;
  fresh = λ e is. kept-same e f (partials_of taken) is ∙ none;
  looks = λ k. refl;
  ascending = tt;
}

first-none : (o : Option (List ℕ)) → first_of o None ≡ o
first-none None = refl
first-none (Some x) = refl

-- a fragment of another packet is taken
pub represents-other : (taken : List Fragment) (g : Partial) (f : Fragment) → belongs f g ≡ false → Represents taken g → Represents (f ∷ taken) g
represents-other taken g f other h = record {
  since = f ∷ h.since;
  older = h.older;
  are_taken = ap (λ (xs : List Fragment). f ∷ xs) h.are_taken;
  fresh = h.fresh;
  looks = λ k. rw other (first-none (first_part k g h.since)) ∙ h.looks k;
  ascending = h.ascending;
}

-- what a look-up finds of a part that was received before, and of one that was not
first-there : (o : Option (List ℕ)) (b : Bool) (bytes : List ℕ) → (b ≡ true → is_some o ≡ true) → first_of o (cond b (Some bytes) None) ≡ o
first-there None true bytes h = absurd (false≢true (h refl))
first-there None false bytes h = refl
first-there (Some x) b bytes h = refl

first-new : (o : Option (List ℕ)) (b : Bool) (bytes : List ℕ) → (b ≡ true → is_some o ≡ false) → first_of o (cond b (Some bytes) None) ≡ cond b (Some bytes) o
first-new None true bytes h = refl
first-new None false bytes h = refl
first-new (Some x) true bytes h = absurd (false≢true (sym (h refl)))
first-new (Some x) false bytes h = refl

looks-fragment : (k : ℕ) (taken : List Fragment) (g : Partial) (f : Fragment) → belongs f g ≡ true → (h : Represents taken g) → (has_part f.part g.received ≡ true) ⊎ (has_part f.part g.received ≡ false)
    → first_part k g (f ∷ h.since) ≡ part_at k (add_part f.part f.bytes g.received)
looks-fragment k taken g f same h (inl came) =
    rw (same, came, h.looks k) (first-there (part_at k g.received) (k == f.part) f.bytes (λ is. sym (there k g.received) ∙ rw (eqb-true k f.part is) came))
looks-fragment k taken g f same h (inr fresh) =
    rw (same, fresh, h.looks k) (first-new (part_at k g.received) (k == f.part) f.bytes (λ is. sym (there k g.received) ∙ rw (eqb-true k f.part is) fresh) ∙ sym (looked 0 0 f.part k f.bytes g.received fresh))

ascending-fragment : (g : Partial) (f : Fragment) → f.part < g.parts → Ascending 0 g.parts g.received → (has_part f.part g.received ≡ true) ⊎ (has_part f.part g.received ≡ false) → Ascending 0 g.parts (add_part f.part f.bytes g.received)
ascending-fragment g f within h (inl came) = rw came h
ascending-fragment g f within h (inr fresh) = rw fresh (ascending-insert 0 g.parts f.part f.bytes g.received h (omega arith) within fresh)

-- a fragment of this packet is taken
pub represents-fragment : (taken : List Fragment) (g : Partial) (f : Fragment) → belongs f g ≡ true → f.part < g.parts → Represents taken g → Represents (f ∷ taken) (add_fragment f g)
represents-fragment taken g f same within h = record {
  since = f ∷ h.since;
  older = h.older;
  are_taken = ap (λ (xs : List Fragment). f ∷ xs) h.are_taken;
  fresh = h.fresh;
  looks = λ k. looks-fragment k taken g f same h (cases_Bool (has_part f.part g.received));
  ascending = ascending-fragment g f within h.ascending (cases_Bool (has_part f.part g.received));
}

-- ---- all partial packets

abbrev pub Apart : Partial → Partial → Type 0
Apart g h = (f : Fragment) → belongs f g ≡ true → belongs f h ≡ false

abbrev pub AllApart : List Partial → Type 0
AllApart [] = Unit {0}
AllApart (g ∷ gs) = Each (Apart g) gs × AllApart gs

abbrev pub replaced : Fragment → List Partial → List Partial
replaced f gs = take (index_of f gs) gs ++ updated f gs ∷ drop (suc (index_of f gs)) gs

abbrev pub without : Fragment → List Partial → List Partial
without f gs = take (index_of f gs) gs ++ drop (suc (index_of f gs)) gs

-- a fragment belongs to its own packet, and to no other
pub own : (f : Fragment) → belongs f (empty_partial f) ≡ true
own f = grind arith

same-key : (e f : Fragment) (g : Partial) → belongs f g ≡ true → belongs e g ≡ belongs e (empty_partial f)
same-key e f g is = grind (arith, is)

same-parts : (f : Fragment) (g : Partial) → belongs f g ≡ true → f.parts ≡ g.parts
same-parts f g is = grind (arith, is)

foreign : (e f : Fragment) (g : Partial) → belongs f g ≡ false → belongs e g ≡ true → (belongs e (empty_partial f) ≡ true) ⊎ (belongs e (empty_partial f) ≡ false) → belongs e (empty_partial f) ≡ false
foreign e f g other is (inl same) = absurd (false≢true (sym other ∙ grind (arith, is, same)))
foreign e f g other is (inr apart) = apart

first-same : (k : ℕ) (f : Fragment) (g : Partial) → belongs f g ≡ true → (xs : List Fragment) → first_part k g xs ≡ first_part k (empty_partial f) xs
first-same k f g is [] = refl
first-same k f g is (e ∷ xs) = rw (same-key e f g is, first-same k f g is xs) refl

-- the packet of a fragment is new among all, if it is new among gs
abbrev pub IsNew : List Fragment → Fragment → List Partial → Type 0
IsNew taken f gs = is_kept f gs ≡ false → is_kept f (partials_of taken) ≡ false

later-new : (taken : List Fragment) (f : Fragment) (g : Partial) (gs : List Partial) → IsNew taken f (g ∷ gs) → belongs f g ≡ false → IsNew taken f gs
later-new taken f g gs new other none = new (rw other none)

-- the partial packet of a fragment, or its new one
abbrev pub own_partial : Fragment → List Partial → Partial
own_partial f gs = get_or gs (index_of f gs) (empty_partial f)

at-step : (taken : List Fragment) (f : Fragment) (g : Partial) (gs : List Partial) → Each (Represents taken) (g ∷ gs) → (belongs f g ≡ false → Represents taken (own_partial f gs) × (belongs f (own_partial f gs) ≡ true))
    → (belongs f g ≡ true) ⊎ (belongs f g ≡ false) → Represents taken (own_partial f (g ∷ gs)) × (belongs f (own_partial f (g ∷ gs)) ≡ true)
at-step taken f g gs h more (inl is) = rw is (h.0, is)
at-step taken f g gs h more (inr other) = rw other (more other)

-- the partial packet of a fragment represents what was taken, or is new
pub at-index : (taken : List Fragment) (f : Fragment) (gs : List Partial) → IsNew taken f gs → Each (Represents taken) gs → Represents taken (own_partial f gs) × (belongs f (own_partial f gs) ≡ true)
at-index taken f [] new h = (represents-new taken f (new refl), own f)
at-index taken f (g ∷ gs) new h =
    at-step taken f g gs h (λ other. at-index taken f gs (later-new taken f g gs new other) h.1) (cases_Bool (belongs f g))

-- all others represent the list with one fragment more
others : (taken : List Fragment) (f : Fragment) (g : Partial) (gs : List Partial) → belongs f g ≡ true → Each (Apart g) gs → Each (Represents taken) gs → Each (Represents (f ∷ taken)) gs
others taken f g [] is apart h = tt
others taken f g (x ∷ gs) is apart h = (represents-other taken x f (apart.0 f is) h.0, others taken f g gs is apart.1 h.1)

replaced-step : (taken : List Fragment) (f : Fragment) (g : Partial) (gs : List Partial) → f.part < f.parts → Each (Represents taken) (g ∷ gs) → AllApart (g ∷ gs) → (belongs f g ≡ false → Each (Represents (f ∷ taken)) (replaced f gs))
    → (belongs f g ≡ true) ⊎ (belongs f g ≡ false) → Each (Represents (f ∷ taken)) (replaced f (g ∷ gs))
replaced-step taken f g gs within h apart more (inl is) =
    rw is (represents-fragment taken g f is (let e = same-parts f g is in omega (arith, within, e)) h.0, others taken f g gs is apart.0 h.1)
replaced-step taken f g gs within h apart more (inr other) = rw other (represents-other taken g f other h.0, more other)

pub represents-replaced : (taken : List Fragment) (f : Fragment) (gs : List Partial) → f.part < f.parts → IsNew taken f gs → Each (Represents taken) gs → AllApart gs → Each (Represents (f ∷ taken)) (replaced f gs)
represents-replaced taken f [] within new h apart = (represents-fragment taken (empty_partial f) f (own f) within (represents-new taken f (new refl)), tt)
represents-replaced taken f (g ∷ gs) within new h apart =
    replaced-step taken f g gs within h apart (λ other. represents-replaced taken f gs within (later-new taken f g gs new other) h.1 apart.1) (cases_Bool (belongs f g))

without-step : (taken : List Fragment) (f : Fragment) (g : Partial) (gs : List Partial) → Each (Represents taken) (g ∷ gs) → AllApart (g ∷ gs) → Each (Represents (f ∷ taken)) (without f gs)
    → (belongs f g ≡ true) ⊎ (belongs f g ≡ false) → Each (Represents (f ∷ taken)) (without f (g ∷ gs))
without-step taken f g gs h apart more (inl is) = rw is (others taken f g gs is apart.0 h.1)
without-step taken f g gs h apart more (inr other) = rw other (represents-other taken g f other h.0, more)

pub represents-without : (taken : List Fragment) (f : Fragment) (gs : List Partial) → Each (Represents taken) gs → AllApart gs → Each (Represents (f ∷ taken)) (without f gs)
represents-without taken f [] h apart = tt
represents-without taken f (g ∷ gs) h apart = without-step taken f g gs h apart (represents-without taken f gs h.1 apart.1) (cases_Bool (belongs f g))

-- no two are of one packet
apart-one-step : (x : Partial) (f : Fragment) (g : Partial) (gs : List Partial) → Each (Apart x) (g ∷ gs) → Each (Apart x) (replaced f gs) → (belongs f g ≡ true) ⊎ (belongs f g ≡ false) → Each (Apart x) (replaced f (g ∷ gs))
apart-one-step x f g gs h more (inl is) = rw is (h.0, h.1)
apart-one-step x f g gs h more (inr other) = rw other (h.0, more)

apart-replaced-one : (x : Partial) (f : Fragment) (gs : List Partial) → belongs f x ≡ false → Each (Apart x) gs → Each (Apart x) (replaced f gs)
apart-replaced-one x f [] other h = (λ e is. foreign e f x other is (cases_Bool (belongs e (empty_partial f))), tt)
apart-replaced-one x f (g ∷ gs) other h = apart-one-step x f g gs h (apart-replaced-one x f gs other h.1) (cases_Bool (belongs f g))

apart-replaced-step : (f : Fragment) (g : Partial) (gs : List Partial) → AllApart (g ∷ gs) → AllApart (replaced f gs) → (belongs f g ≡ true) ⊎ (belongs f g ≡ false) → AllApart (replaced f (g ∷ gs))
apart-replaced-step f g gs h more (inl is) = rw is (h.0, h.1)
apart-replaced-step f g gs h more (inr other) = rw other (apart-replaced-one g f gs other h.0, more)

pub apart-replaced : (f : Fragment) (gs : List Partial) → AllApart gs → AllApart (replaced f gs)
apart-replaced f [] h = (tt, tt)
apart-replaced f (g ∷ gs) h = apart-replaced-step f g gs h (apart-replaced f gs h.1) (cases_Bool (belongs f g))

apart-without-one-step : (x : Partial) (f : Fragment) (g : Partial) (gs : List Partial) → Each (Apart x) (g ∷ gs) → Each (Apart x) (without f gs) → (belongs f g ≡ true) ⊎ (belongs f g ≡ false) → Each (Apart x) (without f (g ∷ gs))
apart-without-one-step x f g gs h more (inl is) = rw is h.1
apart-without-one-step x f g gs h more (inr other) = rw other (h.0, more)

apart-without-one : (x : Partial) (f : Fragment) (gs : List Partial) → Each (Apart x) gs → Each (Apart x) (without f gs)
apart-without-one x f [] h = tt
apart-without-one x f (g ∷ gs) h = apart-without-one-step x f g gs h (apart-without-one x f gs h.1) (cases_Bool (belongs f g))

apart-without-step : (f : Fragment) (g : Partial) (gs : List Partial) → AllApart (g ∷ gs) → AllApart (without f gs) → (belongs f g ≡ true) ⊎ (belongs f g ≡ false) → AllApart (without f (g ∷ gs))
apart-without-step f g gs h more (inl is) = rw is h.1
apart-without-step f g gs h more (inr other) = rw other (apart-without-one g f gs h.0, more)

pub apart-without : (f : Fragment) (gs : List Partial) → AllApart gs → AllApart (without f gs)
apart-without f [] h = tt
apart-without f (g ∷ gs) h = apart-without-step f g gs h (apart-without f gs h.1) (cases_Bool (belongs f g))

each-rest : (P : Partial → Type 0) (gs : List Partial) → Each P gs → Each P (drop 1 gs)
each-rest P [] h = tt
each-rest P (g ∷ gs) h = h.1

apart-rest : (gs : List Partial) → AllApart gs → AllApart (drop 1 gs)
apart-rest [] h = tt
apart-rest (g ∷ gs) h = h.1

latest-step : (P : Partial → Type 0) (gs : List Partial) → Each P gs → (nat_lt 64 (length gs) ≡ true) ⊎ (nat_lt 64 (length gs) ≡ false) → Each P (latest_64 gs)
latest-step P gs h (inl many) = rw many (each-rest P gs h)
latest-step P gs h (inr few) = rw few h

pub each-latest : (P : Partial → Type 0) (gs : List Partial) → Each P gs → Each P (latest_64 gs)
each-latest P gs h = latest-step P gs h (cases_Bool (nat_lt 64 (length gs)))

apart-latest-step : (gs : List Partial) → AllApart gs → (nat_lt 64 (length gs) ≡ true) ⊎ (nat_lt 64 (length gs) ≡ false) → AllApart (latest_64 gs)
apart-latest-step gs h (inl many) = rw many (apart-rest gs h)
apart-latest-step gs h (inr few) = rw few h

pub apart-latest : (gs : List Partial) → AllApart gs → AllApart (latest_64 gs)
apart-latest gs h = apart-latest-step gs h (cases_Bool (nat_lt 64 (length gs)))

-- the partial packets of an end
pub record Sound (taken : List Fragment) (gs : List Partial) : Type 0 where
  pub represent : Each (Represents taken) gs
  pub apart : AllApart gs

sound-step : (before : List Fragment) (f : Fragment) (gs : List Partial) → f.part < f.parts → IsNew before f gs → Sound before gs → (is_complete (updated f gs) ≡ true) ⊎ (is_complete (updated f gs) ≡ false) → Sound (f ∷ before) (partials_after f gs)
sound-step before f gs within new h (inl whole) = rw whole (record { represent = represents-without before f gs h.represent h.apart; apart = apart-without f gs h.apart })
sound-step before f gs within new h (inr part) = rw part (record {
  represent = each-latest (Represents (f ∷ before)) (replaced f gs) (represents-replaced before f gs within new h.represent h.apart);
  apart = apart-latest (replaced f gs) (apart-replaced f gs h.apart);
})

pub sound : (taken : List Fragment) → Each (λ (g : Fragment). g.part < g.parts) taken → Sound taken (partials_of taken)
sound [] h = record { represent = tt; apart = tt }
sound (f ∷ before) h = sound-step before f (partials_of before) h.0 (λ none. none) (sound before h.1) (cases_Bool (is_complete (updated f (partials_of before))))

no-some : (x : List ℕ) → Some x ≡ None → ⊥
no-some x e = cc

some-same : (x y : List ℕ) → Some x ≡ Some y → x ≡ y
some-same x y e = ap (λ (o : Option (List ℕ)). unwrap_or o []) e

joined-step : (before : List Fragment) (f : Fragment) (packet : List ℕ) (gs : List Partial) → f.part < f.parts → Represents before (own_partial f gs) × (belongs f (own_partial f gs) ≡ true)
    → (is_complete (updated f gs) ≡ true) ⊎ (is_complete (updated f gs) ≡ false) → completed_by f gs ≡ Some packet → IsJoined (f ∷ before) f packet
joined-step before f packet gs within at (inr part) is = absurd (no-some packet (sym (rw part at is)))
joined-step before f packet gs within at (inl whole) is =
    let g = own_partial f gs in
    let parts : f.parts ≡ g.parts = same-parts f g at.1 in
    let all = represents-fragment before g f at.1 (omega (arith, within, parts)) at.0 in
    let size : length (updated f gs).received ≡ f.parts = eqb-true _ _ whole ∙ sym parts in
    let e : payload (updated f gs) ≡ packet = some-same _ _ (rw whole at is) in
    let looks : (k : ℕ) → 0 ≤ k → first_part k (empty_partial f) all.since ≡ part_at k (updated f gs).received = λ k _. sym (first-same k f g at.1 all.since) ∙ all.looks k in
    record {
      since = all.since;
      older = all.older;
      are_taken = all.are_taken;
      fresh = all.fresh f at.1;
      all_there = λ k high. full-there (λ k. first_part k (empty_partial f) all.since) 0 f.parts g.parts (updated f gs).received (omega (arith, parts)) size all.ascending looks k (omega arith) (omega (arith, high, parts));
      whole = sym e ∙ ap concat (full-parts (λ k. first_part k (empty_partial f) all.since) 0 f.parts g.parts (updated f gs).received (omega (arith, parts)) size all.ascending looks)
          ∙ ap (λ (ks : List ℕ). concat (map (λ k. unwrap_or (first_part k (empty_partial f) all.since) []) ks)) (sym (below-range f.parts));
    }

complete-step : (before : List Fragment) (f : Fragment) (gs : List Partial) → f.part < f.parts → Represents before (own_partial f gs) × (belongs f (own_partial f gs) ≡ true)
    → ((k : ℕ) → k < f.parts → has_part k (updated f gs).received ≡ true) → is_some (completed_by f gs) ≡ true
complete-step before f gs within at there =
    let g = own_partial f gs in
    let parts : f.parts ≡ g.parts = same-parts f g at.1 in
    let all = represents-fragment before g f at.1 (omega (arith, within, parts)) at.0 in
    let counted : length (updated f gs).received + 0 ≡ g.parts = all-counted 0 g.parts (updated f gs).received (omega arith) all.ascending (λ k low high. there k (omega (arith, high, parts))) in
    let whole : is_complete (updated f gs) ≡ true = eq-eqb _ _ (omega (arith, counted)) in
    rw whole refl

pub all-complete : (before : List Fragment) (f : Fragment) → AreWithin (f ∷ before) → ((k : ℕ) → k < f.parts → has_part k (updated f (partials_of before)).received ≡ true)
    → is_some (completed_by f (partials_of before)) ≡ true
all-complete before f within there =
    let h : Each (λ (g : Fragment). g.part < g.parts) (f ∷ before) = each (λ (g : Fragment). g.part < g.parts) (f ∷ before) within in
    complete-step before f (partials_of before) h.0 (at-index before f (partials_of before) (λ none. none) (sound before h.1).represent) there

pub are-joined : (before : List Fragment) (f : Fragment) (packet : List ℕ) → AreWithin (f ∷ before) → completed_by f (partials_of before) ≡ Some packet → IsJoined (f ∷ before) f packet
are-joined before f packet within is =
    let h : Each (λ (g : Fragment). g.part < g.parts) (f ∷ before) = each (λ (g : Fragment). g.part < g.parts) (f ∷ before) within in
    joined-step before f packet (partials_of before) h.0 (at-index before f (partials_of before) (λ none. none) (sound before h.1).represent) (cases_Bool (is_complete (updated f (partials_of before)))) is
