-- A packet that arrives is the packet that was sent.
use Rattle.std.proofs.Common.{◌≡◌, ℕ, zero, suc, ◌+◌, ◌*◌, ◌/◌, ◌<◌, ◌≤◌, ◌==◌, ◌&&◌, ◌⊎◌, true, false, cond, List, [], ◌∷◌, ◌++◌, length, take, drop, map, Option, Some, None, is_some, unwrap_or, refl, ap, sym, ◌∙◌, arith, inl, inr, drop-drop}
use Rattle.std.proofs.lemmas.Bool.{cases_Bool, false≢true, eqb-true}
use Rattle.std.proofs.lemmas.List.{take-append-drop, drop_all}
use Rattle.std.specs.List.{concat}
use Rattle.iss_base.specs.Lists.{first_of}
use Rattle.iss_links.specs.Frames.{Fragment, part_of, parts_of}
use Rattle.iss_links.specs.Reassembly.{empty_partial, belongs, completed_by}
use Rattle.iss_links.specs.Joined.{AreFragmentsOf, AreWithin, first_part, partials_of}
use Rattle.iss_links.proofs.JoinedLemmas.{Each, are-joined, each, own}
use Rattle.iss_links.proofs.PartLemmas.{below-range, range}

-- part k of a packet
abbrev pub sent_part : List ℕ → ℕ → List ℕ
sent_part sent k = take 1024 (drop (1024 * k) sent)

-- the parts of a packet, joined
pub parts-joined : (sent : List ℕ) (lo c : ℕ) → length sent ≤ 1024 * lo + 1024 * c → concat (map (sent_part sent) (range lo c)) ≡ drop (1024 * lo) sent
parts-joined sent lo zero all = sym (drop_all (1024 * lo) sent (omega (arith, all)))
parts-joined sent lo (suc c) all =
    let next : 1024 * suc lo ≡ 1024 * lo + 1024 = omega arith in
    let rest : concat (map (sent_part sent) (range (suc lo) c)) ≡ drop 1024 (drop (1024 * lo) sent) =
    parts-joined sent (suc lo) c (omega (arith, all)) ∙ rw next (sym (drop-drop 1024 (1024 * lo) sent)) in
    ap (λ (xs : List ℕ). sent_part sent lo ++ xs) rest ∙ take-append-drop 1024 (drop (1024 * lo) sent)

-- functions that agree below n give the same list
pub numbers-same : (F G : ℕ → List ℕ) (lo c n : ℕ) → lo + c ≡ n → ((k : ℕ) → k < n → F k ≡ G k) → map F (range lo c) ≡ map G (range lo c)
numbers-same F G lo zero n end same = refl
numbers-same F G lo (suc c) n end same = rw (same lo (omega (arith, end)), numbers-same F G (suc lo) c n (omega (arith, end)) same) refl

front : {A : Type 0} (P : A → Type 0) (xs ys : List A) → Each P (xs ++ ys) → Each P xs
front {A} P [] ys h = tt
front {A} P (x ∷ xs) ys h = (h.0, front P xs ys h.1)

each-front : {A : Type 0} (P : A → Type 0) (xs ys all : List A) → xs ++ ys ≡ all → Each P all → Each P xs
each-front {A} P xs ys all e h = front P xs ys (rw e h)

-- each of these fragments that belongs to the packet of f is a part of the packet sent
abbrev pub EachOf : Fragment → List ℕ → List Fragment → Type 0
EachOf f sent = Each (λ (g : Fragment). belongs g (empty_partial f) ≡ true → g ≡ part_of g.from g.number sent g.part)

-- a part that was found is the sent packet's
found-step : (k : ℕ) (f e : Fragment) (sent : List ℕ) (o : Option (List ℕ)) → (is_some o ≡ true → o ≡ Some (sent_part sent k)) → (belongs e (empty_partial f) ≡ true → e ≡ part_of e.from e.number sent e.part)
    → (belongs e (empty_partial f) ≡ true) ⊎ (belongs e (empty_partial f) ≡ false) → ((k == e.part) ≡ true) ⊎ ((k == e.part) ≡ false)
    → is_some (first_of o (cond (belongs e (empty_partial f) && (k == e.part)) (Some e.bytes) None)) ≡ true → first_of o (cond (belongs e (empty_partial f) && (k == e.part)) (Some e.bytes) None) ≡ Some (sent_part sent k)
found-step k f e sent (Some x) more of is at there = more refl
found-step k f e sent None more of (inr other) at there = absurd (false≢true (rw other at there))
found-step k f e sent None more of (inl is) (inr other) there = absurd (false≢true (rw (is, other) at there))
found-step k f e sent None more of (inl is) (inl at) there =
    rw (is, at) (ap Some (ap (λ (g : Fragment). g.bytes) (of is) ∙ ap (sent_part sent) (sym (eqb-true k e.part at))))

found : (k : ℕ) (f : Fragment) (sent : List ℕ) (xs : List Fragment) → EachOf f sent xs → is_some (first_part k (empty_partial f) xs) ≡ true → first_part k (empty_partial f) xs ≡ Some (sent_part sent k)
found k f sent [] h there = absurd (false≢true there)
found k f sent (e ∷ xs) h there =
    found-step k f e sent (first_part k (empty_partial f) xs) (found k f sent xs h.1) h.0 (cases_Bool (belongs e (empty_partial f))) (cases_Bool (k == e.part)) there

enough : (n : ℕ) → n ≤ 1024 * 0 + 1024 * ((n + 1023) / 1024)
enough n = omega arith

pub as-sent : (before : List Fragment) (f : Fragment) (sent packet : List ℕ) → AreWithin (f ∷ before) → AreFragmentsOf f sent (f ∷ before) → completed_by f (partials_of before) ≡ Some packet → packet ≡ sent
as-sent before f sent packet within of is =
    let j = are-joined before f packet within is in
    let these : EachOf f sent j.since = each-front _ j.since j.older (f ∷ before) j.are_taken (each (λ (g : Fragment). belongs g (empty_partial f) ≡ true → g ≡ part_of g.from g.number sent g.part) (f ∷ before) of) in
    let parts : f.parts ≡ parts_of (length sent) = ap (λ (g : Fragment). g.parts) (of f (inl refl) (own f)) in
    let same : (k : ℕ) → k < f.parts → unwrap_or (first_part k (empty_partial f) j.since) [] ≡ sent_part sent k = λ k low. ap (λ (o : Option (List ℕ)). unwrap_or o []) (found k f sent j.since these (j.all_there k low)) in
    j.whole ∙ ap (λ (ks : List ℕ). concat (map (λ k. unwrap_or (first_part k (empty_partial f) j.since) []) ks)) (below-range f.parts) ∙ ap concat (numbers-same (λ k. unwrap_or (first_part k (empty_partial f) j.since) []) (sent_part sent) 0 f.parts f.parts (omega arith) same)
    ∙ parts-joined sent 0 f.parts (rw parts (enough (length sent)))
