-- What the calls do to a network's flags and queues.
use Rattle.std.proofs.Common.{◌∙◌, ◌≡◌, ◌≢◌, ◌⊎◌, inl, inr, ℕ, zero, suc, ◌+◌, ◌<◌, ◌≤◌, Bool, true, false, not, cond, ◌==◌, ◌&&◌, List, [], ◌∷◌, ◌++◌, length, filter, Option, Some, None, refl, sym, ap, subst, arith, get_or, set, replicate, ltb, length-append, append-nil}
use Rattle.std.specs.List.{list_all}
use Rattle.std.specs.List.Sorted.{IsPermutation, IsSorted}
use Rattle.std.specs.Ordering.{nat_cmp}
use Rattle.std.proofs.lemmas.Bool.{cases_Bool}
use Rattle.std.proofs.lemmas.Bool.Decides.{nat_tests}
use Rattle.std.proofs.lemmas.List.{get_or-set_same, get_or-set_other, length-set, length-replicate}
use Rattle.std.proofs.lemmas.List.Elements.{filter-append}
use Rattle.std.proofs.lemmas.List.Folds.{list_all-append}
use Rattle.iss_base.specs.Lists.{nth, below}
use Rattle.iss_base.proofs.Lists.{nth-beyond}
use Rattle.iss_network.specs.declared.packets.Sent.{Sent}
use Rattle.iss_network.specs.Network.{Network, flag_at, is_for, is_held, without, not_for, not_held, due}
use Rattle.iss_network.specs.Kept.{is_set, flagged, cleared_flags, for_core, IsKept, gathered}
use Rattle.iss_network.proofs.Filters.{same_or_not, same_number, other_number, and_not, filter_yes, filter_no, filter_cong, filter_cong_all, filter_filter, filter_swap, filter_twice, filter_never, filter_rest, list_all_filter, list_all_mono, filter_below, times, times-append, times-filter, times-permutation, up_filter, up_below, up_sorted, same_ascending}

-- the words of the network as filters

pub without_is : (k : ℕ) (xs : List ℕ) → without k xs ≡ filter (λ x. not (k == x)) xs
without_is k [] = refl
without_is k (x ∷ xs) =
    let ih = without_is k xs in
    elim (k == x) as (λ b. cond b (without k xs) (x ∷ without k xs) ≡ cond (not b) (x ∷ filter (λ y. not (k == y)) xs) (filter (λ y. not (k == y)) xs)) [ true ↦ ih | false ↦ ap (λ l. x ∷ l) ih ]

pub not_for_is : (packets : List Sent) (c : ℕ) (xs : List ℕ) → not_for packets c xs ≡ filter (λ k. not (for_core packets c k)) xs
not_for_is packets c [] = refl
not_for_is packets c (x ∷ xs) =
    let ih = not_for_is packets c xs in
    elim (for_core packets c x) as (λ b. cond b (not_for packets c xs) (x ∷ not_for packets c xs) ≡ cond (not b) (x ∷ filter (λ k. not (for_core packets c k)) xs) (filter (λ k. not (for_core packets c k)) xs)) [ true ↦ ih | false ↦ ap (λ l. x ∷ l) ih ]

pub not_held_is : (packets : List Sent) (held : List Bool) (xs : List ℕ) → not_held packets held xs ≡ filter (λ k. not (is_held held (nth packets k))) xs
not_held_is packets held [] = refl
not_held_is packets held (x ∷ xs) =
    let ih = not_held_is packets held xs in
    elim (is_held held (nth packets x)) as (λ b. cond b (not_held packets held xs) (x ∷ not_held packets held xs) ≡ cond (not b) (x ∷ filter (λ k. not (is_held held (nth packets k))) xs) (filter (λ k. not (is_held held (nth packets k))) xs)) [ true ↦ ih | false ↦ ap (λ l. x ∷ l) ih ]

-- elements by their number

nth_old : {A : Type 0} (xs : List A) (y : A) (k : ℕ) → k < length xs → nth (xs ++ y ∷ []) k ≡ nth xs k
nth_old [] y k h = absurd (omega arith)
nth_old (x ∷ xs) y zero h = refl
nth_old (x ∷ xs) y (suc k) h = nth_old xs y k (omega arith)

nth_new : {A : Type 0} (xs : List A) (y : A) → nth (xs ++ y ∷ []) (length xs) ≡ Some y
nth_new [] y = refl
nth_new (x ∷ xs) y = nth_new xs y

nth_either : {A : Type 0} (xs : List A) (y : A) (k : ℕ) (z : A) → nth (xs ++ y ∷ []) k ≡ Some z → (nth xs k ≡ Some z) ⊎ (z ≡ y)
nth_either [] y zero z h = inr (cc)
nth_either [] y (suc k) z h = absurd (cc)
nth_either (x ∷ xs) y zero z h = inl h
nth_either (x ∷ xs) y (suc k) z h = nth_either xs y k z h

nth_set_other : {A : Type 0} (xs : List A) (k : ℕ) (v : A) (x : ℕ) → k ≢ x → nth (set xs k v) x ≡ nth xs x
nth_set_other [] k v x h = refl
nth_set_other (y ∷ ys) zero v zero h = absurd (h refl)
nth_set_other (y ∷ ys) zero v (suc x) h = refl
nth_set_other (y ∷ ys) (suc k) v zero h = refl
nth_set_other (y ∷ ys) (suc k) v (suc x) h = nth_set_other ys k v x (λ e. h (ap suc e))

pub set_beyond : {A : Type 0} (xs : List A) (k : ℕ) (v : A) → length xs ≤ k → set xs k v ≡ xs
set_beyond [] k v h = refl
set_beyond (x ∷ xs) zero v h = absurd (omega arith)
set_beyond (x ∷ xs) (suc k) v h = ap (λ l. x ∷ l) (set_beyond xs k v (omega arith))

-- flags

unset_same : (flags : List Bool) (k : ℕ) → is_set (set flags k false) k ≡ false
unset_same [] k = refl
unset_same (b ∷ bs) zero = refl
unset_same (b ∷ bs) (suc k) = unset_same bs k

unset_other : (flags : List Bool) (k x : ℕ) → k ≢ x → is_set (set flags k false) x ≡ is_set flags x
unset_other flags k x h = ap flag_at (nth_set_other flags k false x h)

unset : (flags : List Bool) (k x : ℕ) → is_set (set flags k false) x ≡ (not (k == x) && is_set flags x)
unset flags k x = go (same_or_not k x)
  where
    go : ((k == x) ≡ true) × (k ≡ x) ⊎ ((k == x) ≡ false) × (k ≢ x) → is_set (set flags k false) x ≡ (not (k == x) && is_set flags x)
    go (inl s) = ap (is_set (set flags k false)) (sym s.1) ∙ unset_same flags k ∙ rw s.0 refl
    go (inr s) = unset_other flags k x s.1 ∙ rw s.0 refl

filter_unset : (flags : List Bool) (k : ℕ) (xs : List ℕ) → filter (is_set (set flags k false)) xs ≡ filter (λ x. not (k == x)) (filter (is_set flags) xs)
filter_unset flags k xs =
    filter_cong (is_set (set flags k false)) (λ x. not (k == x) && is_set flags x) (unset flags k) xs ∙ sym (filter_filter (λ x. not (k == x)) (is_set flags) xs)

flagged_unset : (flags : List Bool) (k : ℕ) → flagged (set flags k false) ≡ filter (λ x. not (k == x)) (flagged flags)
flagged_unset flags k =
    ap (λ n. filter (is_set (set flags k false)) (below n)) (length-set flags k false) ∙ filter_unset flags k (below (length flags))

-- a packet stops waiting
pub settled_waits : (flags : List Bool) (k : ℕ) → flagged (set flags k false) ≡ without k (flagged flags)
settled_waits flags k = flagged_unset flags k ∙ sym (without_is k (flagged flags))

pub settled_kept : (packets : List Sent) (flags : List Bool) (queues : List (List ℕ)) (held : List Bool) (k : ℕ) → IsKept packets flags queues held → IsKept packets (set flags k false) queues held
settled_kept packets flags queues held k h = (
  length-set flags k false ∙ h.0,
  h.1,
  h.2,
  h.3,
  λ c l.
      filter_unset flags k (get_or queues c [])
      ∙ ap (filter (λ x. not (k == x))) (h.4 c l)
      ∙ filter_swap (λ x. not (k == x)) (for_core packets c) (flagged flags)
      ∙ sym (ap (filter (for_core packets c)) (flagged_unset flags k)),
)

-- a packet is sent

for_core_more : (packets : List Sent) (p : Sent) (c x : ℕ) → for_core packets c x ≡ true → for_core (packets ++ p ∷ []) c x ≡ true
for_core_more [] p c x h = let wrong : false ≡ true = h in absurd (cc)
for_core_more (q ∷ qs) p c zero h = h
for_core_more (q ∷ qs) p c (suc x) h = for_core_more qs p c x h

for_core_there : (packets : List Sent) (c x : ℕ) → for_core packets c x ≡ true → x < length packets
for_core_there [] c x h = let wrong : false ≡ true = h in absurd (cc)
for_core_there (q ∷ qs) c zero h = omega arith
for_core_there (q ∷ qs) c (suc x) h = omega (arith, for_core_there qs c x h)

set_old : (flags : List Bool) (x : ℕ) → x < length flags → is_set (flags ++ true ∷ []) x ≡ is_set flags x
set_old flags x l = ap flag_at (nth_old flags true x l)

pub posted_waits : (flags : List Bool) → flagged (flags ++ true ∷ []) ≡ flagged flags ++ length flags ∷ []
posted_waits flags =
    let n : length (flags ++ true ∷ []) ≡ suc (length flags) = omega (arith, length-append flags (true ∷ [])) in
    let end : is_set (flags ++ true ∷ []) (length flags) ≡ true = ap flag_at (nth_new flags true) in
    ap (λ m. filter (is_set (flags ++ true ∷ [])) (below m)) n
    ∙ filter-append (is_set (flags ++ true ∷ [])) (below (length flags)) (length flags ∷ [])
    ∙ (let front = filter_below (is_set (flags ++ true ∷ [])) (is_set flags) (length flags) (set_old flags) in rw (front, end) refl)

for_flagged : (packets : List Sent) (p : Sent) (flags : List Bool) (c : ℕ) → length flags ≡ length packets → filter (for_core (packets ++ p ∷ []) c) (flagged flags) ≡ filter (for_core packets c) (flagged flags)
for_flagged packets p flags c e =
    filter_filter (for_core (packets ++ p ∷ []) c) (is_set flags) (below (length flags))
    ∙ filter_below (λ x. for_core (packets ++ p ∷ []) c x && is_set flags x) (λ x. for_core packets c x && is_set flags x) (length flags)
    (λ x l. ap (λ o. is_for o c && is_set flags x) (nth_old packets p x (omega arith)))
    ∙ sym (filter_filter (for_core packets c) (is_set flags) (below (length flags)))

pub posted_kept :
    (packets : List Sent) (flags : List Bool) (queues : List (List ℕ)) (held : List Bool) (p : Sent) (queue : List ℕ)
    → IsKept packets flags queues held → p.to < length held → queue ≡ get_or queues p.to [] ++ length packets ∷ []
    → IsKept (packets ++ p ∷ []) (flags ++ true ∷ []) (set queues p.to queue) held
posted_kept packets flags queues held p queue h small is =
    (omega (arith, length-append flags (true ∷ []), length-append packets (p ∷ [])), length-set queues p.to queue ∙ h.1, bounded, own, whole)
  where
    same_len : length flags ≡ length packets
    same_len = h.0

    bounded : (k : ℕ) (q : Sent) → nth (packets ++ p ∷ []) k ≡ Some q → q.to < length held
    bounded k q e = elim (nth_either packets p k q e) [ inl f ↦ h.2 k q f | inr f ↦ (let P : Sent → Type 0 = λ s. s.to < length held in subst P (sym f) small) ]

    old_own : (c : ℕ) → c < length queues → list_all (for_core (packets ++ p ∷ []) c) (get_or queues c []) ≡ true
    old_own c l = list_all_mono (for_core packets c) (for_core (packets ++ p ∷ []) c) (for_core_more packets p c) (get_or queues c []) (h.3 c l)

    old_whole : (c : ℕ) → c < length queues → filter (is_set (flags ++ true ∷ [])) (get_or queues c []) ≡ filter (for_core (packets ++ p ∷ []) c) (flagged flags)
    old_whole c l =
        filter_cong_all (for_core packets c) (is_set (flags ++ true ∷ [])) (is_set flags) (λ x e. set_old flags x (omega (arith, for_core_there packets c x e, same_len))) (get_or queues c []) (h.3 c l)
        ∙ h.4 c l
        ∙ sym (for_flagged packets p flags c h.0)

    is_to : for_core (packets ++ p ∷ []) p.to (length packets) ≡ true
    is_to = ap (λ o. is_for o p.to) (nth_new packets p) ∙ same_number p.to

    not_to : (c : ℕ) → c ≢ p.to → for_core (packets ++ p ∷ []) c (length packets) ≡ false
    not_to c ne = ap (λ o. is_for o c) (nth_new packets p) ∙ other_number p.to c (λ e. ne (sym e))

    new_set : is_set (flags ++ true ∷ []) (length packets) ≡ true
    new_set = ap (is_set (flags ++ true ∷ [])) (sym same_len) ∙ ap flag_at (nth_new flags true)

    own_at : (c : ℕ) → c < length queues → (c ≡ p.to) ⊎ (c ≢ p.to) → list_all (for_core (packets ++ p ∷ []) c) (get_or (set queues p.to queue) c []) ≡ true
    own_at c l (inr ne) = ap (list_all (for_core (packets ++ p ∷ []) c)) (get_or-set_other queues p.to c queue [] ne) ∙ old_own c l
    own_at c l (inl e) =
        let P : ℕ → Type 0 = λ d. d < length queues → list_all (for_core (packets ++ p ∷ []) d) (get_or (set queues p.to queue) d []) ≡ true in
        subst P (sym e) (λ m.
        ap (list_all (for_core (packets ++ p ∷ []) p.to)) (get_or-set_same queues p.to queue [] m ∙ is)
        ∙ list_all-append (for_core (packets ++ p ∷ []) p.to) (get_or queues p.to []) (length packets ∷ [])
        ∙ rw (old_own p.to m, is_to) refl) l

    whole_at : (c : ℕ) → c < length queues → (c ≡ p.to) ⊎ (c ≢ p.to) → filter (is_set (flags ++ true ∷ [])) (get_or (set queues p.to queue) c []) ≡ filter (for_core (packets ++ p ∷ []) c) (flagged flags ++ length packets ∷ [])
    whole_at c l (inr ne) =
        ap (filter (is_set (flags ++ true ∷ []))) (get_or-set_other queues p.to c queue [] ne)
        ∙ old_whole c l
        ∙ sym (filter-append (for_core (packets ++ p ∷ []) c) (flagged flags) (length packets ∷ [])
        ∙ ap (λ t. filter (for_core (packets ++ p ∷ []) c) (flagged flags) ++ t) (filter_no (for_core (packets ++ p ∷ []) c) (length packets) [] (not_to c ne))
        ∙ append-nil (filter (for_core (packets ++ p ∷ []) c) (flagged flags)))
    whole_at c l (inl e) =
        let P : ℕ → Type 0 = λ d. d < length queues → filter (is_set (flags ++ true ∷ [])) (get_or (set queues p.to queue) d []) ≡ filter (for_core (packets ++ p ∷ []) d) (flagged flags ++ length packets ∷ []) in
        subst P (sym e) (λ m.
        ap (filter (is_set (flags ++ true ∷ []))) (get_or-set_same queues p.to queue [] m ∙ is)
        ∙ filter-append (is_set (flags ++ true ∷ [])) (get_or queues p.to []) (length packets ∷ [])
        ∙ ap (λ t. t ++ filter (is_set (flags ++ true ∷ [])) (length packets ∷ [])) (old_whole p.to m)
        ∙ ap (λ t. filter (for_core (packets ++ p ∷ []) p.to) (flagged flags) ++ t) (filter_yes (is_set (flags ++ true ∷ [])) (length packets) [] new_set)
        ∙ sym (filter-append (for_core (packets ++ p ∷ []) p.to) (flagged flags) (length packets ∷ [])
        ∙ ap (λ t. filter (for_core (packets ++ p ∷ []) p.to) (flagged flags) ++ t) (filter_yes (for_core (packets ++ p ∷ []) p.to) (length packets) [] is_to))) l

    either : (c : ℕ) → (c ≡ p.to) ⊎ (c ≢ p.to)
    either c = elim (same_or_not c p.to) [ inl s ↦ inl s.1 | inr s ↦ inr s.1 ]

    own : (c : ℕ) → c < length (set queues p.to queue) → list_all (for_core (packets ++ p ∷ []) c) (get_or (set queues p.to queue) c []) ≡ true
    own c l = own_at c (omega (arith, length-set queues p.to queue)) (either c)

    whole : (c : ℕ) → c < length (set queues p.to queue) → filter (is_set (flags ++ true ∷ [])) (get_or (set queues p.to queue) c []) ≡ filter (for_core (packets ++ p ∷ []) c) (flagged (flags ++ true ∷ []))
    whole c l =
        whole_at c (omega (arith, length-set queues p.to queue)) (either c)
        ∙ ap (λ k. filter (for_core (packets ++ p ∷ []) c) (flagged flags ++ k ∷ [])) (sym same_len)
        ∙ sym (ap (filter (for_core (packets ++ p ∷ []) c)) (posted_waits flags))

pub posted_kept_at :
    (packets : List Sent) (flags : List Bool) (queues : List (List ℕ)) (held : List Bool) (p : Sent) (queue : List ℕ) (more : List Sent) (raised : List Bool)
    → IsKept packets flags queues held → p.to < length held → queue ≡ get_or queues p.to [] ++ length packets ∷ []
    → more ≡ packets ++ p ∷ [] → raised ≡ flags ++ true ∷ []
    → IsKept more raised (set queues p.to queue) held
posted_kept_at packets flags queues held p queue more raised h small is e f =
    let P : List Sent → Type 0 = λ ps. IsKept ps raised (set queues p.to queue) held in
    let Q : List Bool → Type 0 = λ bs. IsKept (packets ++ p ∷ []) bs (set queues p.to queue) held in
    subst P (sym e) (subst Q (sym f) (posted_kept packets flags queues held p queue h small is))

-- nothing was sent yet

all_alike : {A : Type 0} (d : A) (n c : ℕ) → get_or (replicate n d) c d ≡ d
all_alike d zero c = refl
all_alike d (suc n) zero = refl
all_alike d (suc n) (suc c) = all_alike d n c

pub empty_kept :
    (n : ℕ) (packets : List Sent) (flags : List Bool) (queues : List (List ℕ)) (held : List Bool)
    → packets ≡ [] → flags ≡ [] → queues ≡ replicate n [] → length held ≡ n
    → IsKept packets flags queues held
empty_kept n packets flags queues held no_packets no_flags e f =
    let none : List ℕ = [] in
    let empty : (c : ℕ) → get_or queues c [] ≡ [] = λ c. ap (λ q. get_or q c []) e ∙ all_alike none n c in
    let P : List Sent → Type 0 = λ ps. IsKept ps flags queues held in
    let Q : List Bool → Type 0 = λ bs. IsKept [] bs queues held in
    subst P (sym no_packets) (subst Q (sym no_flags) (
      refl,
      ap length e ∙ length-replicate n none ∙ sym f,
      λ k p g. absurd (cc),
      λ c l. ap (list_all (for_core [] c)) (empty c),
      λ c l. ap (filter (is_set [])) (empty c),
    ))

-- packets for a core are dropped

one_core : (o : Option Sent) (c d : ℕ) → d ≢ c → is_for o d ≡ true → is_for o c ≡ false
one_core None c d ne h = refl
one_core (Some p) c d ne h = elim (same_or_not p.to d) [ inl s ↦ other_number p.to c (λ e. ne (sym s.1 ∙ e)) | inr s ↦ (let wrong : false ≡ true = sym s.0 ∙ h in absurd (cc)) ]

other_core : (o : Option Sent) (c d : ℕ) → d ≢ c → (is_for o d && not (is_for o c)) ≡ is_for o d
other_core o c d ne = go (cases_Bool (is_for o d))
  where
    go : (is_for o d ≡ true) ⊎ (is_for o d ≡ false) → (is_for o d && not (is_for o c)) ≡ is_for o d
    go (inl e) = let f : is_for o c ≡ false = one_core o c d ne e in rw (e, f) refl
    go (inr e) = rw e refl

length_cleared : (queue : List ℕ) (flags : List Bool) → length (cleared_flags queue flags) ≡ length flags
length_cleared [] flags = refl
length_cleared (k ∷ ks) flags = length_cleared ks (set flags k false) ∙ length-set flags k false

own_head : (packets : List Sent) (c k : ℕ) (ks : List ℕ) → list_all (for_core packets c) (k ∷ ks) ≡ true → (for_core packets c k ≡ true) × (list_all (for_core packets c) ks ≡ true)
own_head packets c k ks h = go (cases_Bool (for_core packets c k))
  where
    go : (for_core packets c k ≡ true) ⊎ (for_core packets c k ≡ false) → (for_core packets c k ≡ true) × (list_all (for_core packets c) ks ≡ true)
    go (inl e) = (e, rw e at h)
    go (inr e) = let wrong : false ≡ true = rw e at h in absurd (cc)

flagged_cleared : (packets : List Sent) (c : ℕ) (queue : List ℕ) (flags : List Bool) → list_all (for_core packets c) queue ≡ true → filter (is_set flags) queue ≡ filter (for_core packets c) (flagged flags) → flagged (cleared_flags queue flags) ≡ filter (λ k. not (for_core packets c k)) (flagged flags)
flagged_cleared packets c [] flags own whole = sym (filter_rest (for_core packets c) (flagged flags) (sym whole))
flagged_cleared packets c (k ∷ ks) flags own whole =
    flagged_cleared packets c ks (set flags k false) (own_head packets c k ks own).1 rest
    ∙ ap (filter others) (flagged_unset flags k)
    ∙ filter_swap others unlike (flagged flags)
    ∙ filter_filter unlike others (flagged flags)
    ∙ filter_cong (λ x. unlike x && others x) others drops (flagged flags)
  where
    unlike : ℕ → Bool
    unlike x = not (k == x)

    others : ℕ → Bool
    others x = not (for_core packets c x)

    drops : (x : ℕ) → (unlike x && others x) ≡ others x
    drops x = elim (same_or_not k x) [ inl s ↦ (let e : for_core packets c x ≡ true = ap (for_core packets c) (sym s.1) ∙ (own_head packets c k ks own).0 in rw (s.0, e) refl) | inr s ↦ rw s.0 refl ]

    rest : filter (is_set (set flags k false)) ks ≡ filter (for_core packets c) (flagged (set flags k false))
    rest =
        sym (filter_no (is_set (set flags k false)) k ks (unset_same flags k))
        ∙ filter_unset flags k (k ∷ ks)
        ∙ ap (filter unlike) whole
        ∙ filter_swap unlike (for_core packets c) (flagged flags)
        ∙ sym (ap (filter (for_core packets c)) (flagged_unset flags k))

pub cleared_end : (queue : List ℕ) (k : ℕ) (flags : List Bool) → cleared_flags (queue ++ k ∷ []) flags ≡ set (cleared_flags queue flags) k false
cleared_end [] k flags = refl
cleared_end (j ∷ js) k flags = cleared_end js k (set flags j false)

pub cleared_waits : (packets : List Sent) (flags : List Bool) (queues : List (List ℕ)) (held : List Bool) (c : ℕ) → IsKept packets flags queues held → c < length queues → flagged (cleared_flags (get_or queues c []) flags) ≡ not_for packets c (flagged flags)
cleared_waits packets flags queues held c h l =
    flagged_cleared packets c (get_or queues c []) flags (h.3 c l) (h.4 c l) ∙ sym (not_for_is packets c (flagged flags))

set_cleared : (packets : List Sent) (c x : ℕ) (queue : List ℕ) (flags : List Bool) → list_all (for_core packets c) queue ≡ true → for_core packets c x ≡ false → is_set (cleared_flags queue flags) x ≡ is_set flags x
set_cleared packets c x [] flags own other = refl
set_cleared packets c x (k ∷ ks) flags own other =
    let head = own_head packets c k ks own in
    set_cleared packets c x ks (set flags k false) head.1 other
    ∙ unset_other flags k x (λ e. (let wrong : false ≡ true = sym other ∙ ap (for_core packets c) (sym e) ∙ head.0 in absurd (cc)))

pub cleared_kept : (packets : List Sent) (flags : List Bool) (queues : List (List ℕ)) (held : List Bool) (c : ℕ) → IsKept packets flags queues held → c < length queues → IsKept packets (cleared_flags (get_or queues c []) flags) (set queues c []) held
cleared_kept packets flags queues held c h l =
    (length_cleared (get_or queues c []) flags ∙ h.0, length-set queues c [] ∙ h.1, h.2, own, whole)
  where
    after : List Bool
    after = cleared_flags (get_or queues c []) flags

    waits : flagged after ≡ filter (λ k. not (for_core packets c k)) (flagged flags)
    waits = flagged_cleared packets c (get_or queues c []) flags (h.3 c l) (h.4 c l)

    either : (d : ℕ) → (d ≡ c) ⊎ (d ≢ c)
    either d = elim (same_or_not d c) [ inl s ↦ inl s.1 | inr s ↦ inr s.1 ]

    empty : (d : ℕ) → d ≡ c → get_or (set queues c []) d [] ≡ []
    empty d e = ap (λ i. get_or (set queues c []) i []) e ∙ get_or-set_same queues c [] [] l

    own_at : (d : ℕ) → d < length queues → (d ≡ c) ⊎ (d ≢ c) → list_all (for_core packets d) (get_or (set queues c []) d []) ≡ true
    own_at d m (inl e) = ap (list_all (for_core packets d)) (empty d e)
    own_at d m (inr ne) = ap (list_all (for_core packets d)) (get_or-set_other queues c d [] [] ne) ∙ h.3 d m

    own : (d : ℕ) → d < length (set queues c []) → list_all (for_core packets d) (get_or (set queues c []) d []) ≡ true
    own d m = own_at d (omega (arith, length-set queues c [])) (either d)

    whole_at : (d : ℕ) → d < length queues → (d ≡ c) ⊎ (d ≢ c) → filter (is_set after) (get_or (set queues c []) d []) ≡ filter (for_core packets d) (flagged after)
    whole_at d m (inl e) =
        ap (filter (is_set after)) (empty d e)
        ∙ sym (filter_never (λ k. for_core packets c k && not (for_core packets c k)) (λ k. and_not (for_core packets c k)) (flagged flags))
        ∙ sym (filter_filter (for_core packets c) (λ k. not (for_core packets c k)) (flagged flags))
        ∙ sym (ap (filter (for_core packets c)) waits)
        ∙ ap (λ i. filter (for_core packets i) (flagged after)) (sym e)
    whole_at d m (inr ne) =
        ap (filter (is_set after)) (get_or-set_other queues c d [] [] ne)
        ∙ filter_cong_all (for_core packets d) (is_set after) (is_set flags) (λ x e. set_cleared packets c x (get_or queues c []) flags (h.3 c l) (one_core (nth packets x) c d ne e)) (get_or queues d []) (h.3 d m)
        ∙ h.4 d m
        ∙ sym (filter_cong (λ k. for_core packets d k && not (for_core packets c k)) (for_core packets d) (λ k. other_core (nth packets k) c d ne) (flagged flags))
        ∙ sym (filter_filter (for_core packets d) (λ k. not (for_core packets c k)) (flagged flags))
        ∙ sym (ap (filter (for_core packets d)) waits)

    whole : (d : ℕ) → d < length (set queues c []) → filter (is_set after) (get_or (set queues c []) d []) ≡ filter (for_core packets d) (flagged after)
    whole d m = whole_at d (omega (arith, length-set queues c [])) (either d)

pub cleared_kept_at :
    (packets : List Sent) (flags : List Bool) (queues : List (List ℕ)) (held : List Bool) (c : ℕ) (after : List Bool) (queue : List ℕ)
    → IsKept packets flags queues held → c < length queues → after ≡ cleared_flags (get_or queues c []) flags → queue ≡ []
    → IsKept packets after (set queues c queue) held
cleared_kept_at packets flags queues held c after queue h l is none =
    let P : List Bool → Type 0 = λ f. IsKept packets f (set queues c queue) held in
    let Q : List ℕ → Type 0 = λ q. IsKept packets (cleared_flags (get_or queues c []) flags) (set queues c q) held in
    subst P (sym is) (subst Q (sym none) (cleared_kept packets flags queues held c h l))

-- numbers of packets that stopped waiting are removed

pub pruned_kept : (packets : List Sent) (flags : List Bool) (queues : List (List ℕ)) (held : List Bool) (c : ℕ) → IsKept packets flags queues held → c < length queues → IsKept packets flags (set queues c (filter (is_set flags) (get_or queues c []))) held
pruned_kept packets flags queues held c h l =
    (h.0, length-set queues c pruned ∙ h.1, h.2, λ d m. own_at d (omega (arith, length-set queues c pruned)) (either d), λ d m. whole_at d (omega (arith, length-set queues c pruned)) (either d))
  where
    pruned : List ℕ
    pruned = filter (is_set flags) (get_or queues c [])

    either : (d : ℕ) → (d ≡ c) ⊎ (d ≢ c)
    either d = elim (same_or_not d c) [ inl s ↦ inl s.1 | inr s ↦ inr s.1 ]

    there : (d : ℕ) → d ≡ c → get_or (set queues c pruned) d [] ≡ pruned
    there d e = ap (λ i. get_or (set queues c pruned) i []) e ∙ get_or-set_same queues c pruned [] l

    own_at : (d : ℕ) → d < length queues → (d ≡ c) ⊎ (d ≢ c) → list_all (for_core packets d) (get_or (set queues c pruned) d []) ≡ true
    own_at d m (inl e) =
        ap (list_all (for_core packets d)) (there d e)
        ∙ ap (λ i. list_all (for_core packets i) pruned) e
        ∙ list_all_filter (for_core packets c) (is_set flags) (get_or queues c []) (h.3 c l)
    own_at d m (inr ne) = ap (list_all (for_core packets d)) (get_or-set_other queues c d pruned [] ne) ∙ h.3 d m

    whole_at : (d : ℕ) → d < length queues → (d ≡ c) ⊎ (d ≢ c) → filter (is_set flags) (get_or (set queues c pruned) d []) ≡ filter (for_core packets d) (flagged flags)
    whole_at d m (inl e) =
        ap (filter (is_set flags)) (there d e)
        ∙ filter_twice (is_set flags) (get_or queues c [])
        ∙ h.4 c l
        ∙ ap (λ i. filter (for_core packets i) (flagged flags)) (sym e)
    whole_at d m (inr ne) = ap (filter (is_set flags)) (get_or-set_other queues c d pruned [] ne) ∙ h.4 d m

pub pruned_kept_at :
    (packets : List Sent) (flags : List Bool) (queues : List (List ℕ)) (held : List Bool) (c : ℕ) (queue : List ℕ)
    → IsKept packets flags queues held → c < length queues → queue ≡ filter (is_set flags) (get_or queues c [])
    → IsKept packets flags (set queues c queue) held
pruned_kept_at packets flags queues held c queue h l is =
    let Q : List ℕ → Type 0 = λ q. IsKept packets flags (set queues c q) held in
    subst Q (sym is) (pruned_kept packets flags queues held c h l)

pub any_default : {A : Type 0} (xs : List A) (i : ℕ) (d e : A) → i < length xs → get_or xs i d ≡ get_or xs i e
any_default [] i d e h = absurd (omega arith)
any_default (x ∷ xs) zero d e h = refl
any_default (x ∷ xs) (suc i) d e h = any_default xs i d e (omega arith)

-- what a pump delivers

-- the queues of the cores below n, one after another
abbrev pub gathered_below : Network → ℕ → List ℕ
gathered_below w zero = []
gathered_below w (suc n) = gathered_below w n ++ gathered w n

-- whether a packet is for a core below n that is not held
abbrev for_below : List Bool → ℕ → Option Sent → Bool
for_below held n None = false
for_below held n (Some p) = ltb p.to n && not (flag_at (nth held p.to))

for_below_next : (held : List Bool) (n : ℕ) (o : Option Sent) (t : ℕ) → cond (for_below held n o) t 0 + cond (flag_at (nth held n)) 0 (cond (is_for o n) t 0) ≡ cond (for_below held (suc n) o) t 0
for_below_next held n None t = elim (flag_at (nth held n)) as (λ b. 0 + cond b 0 0 ≡ 0) [ true ↦ refl | false ↦ refl ]
for_below_next held n (Some p) t = go (same_or_not p.to n)
  where
    go : ((p.to == n) ≡ true) × (p.to ≡ n) ⊎ ((p.to == n) ≡ false) × (p.to ≢ n) → cond (for_below held n (Some p)) t 0 + cond (flag_at (nth held n)) 0 (cond (p.to == n) t 0) ≡ cond (for_below held (suc n) (Some p)) t 0
    go (inl s) =
        let not_yet : ltb p.to n ≡ false = grind (arith, nat_tests) in
        let now : ltb p.to (suc n) ≡ true = grind (arith, nat_tests) in
        let flag : flag_at (nth held n) ≡ flag_at (nth held p.to) = ap (λ i. flag_at (nth held i)) (sym s.1) in
        rw (not_yet, now, s.0, flag) (elim (flag_at (nth held p.to)) as (λ b. 0 + cond b 0 t ≡ cond (not b) t 0) [ true ↦ refl | false ↦ omega arith ])
    go (inr s) =
        let same : ltb p.to (suc n) ≡ ltb p.to n = grind (arith, nat_tests) in
        rw (s.0, same) (elim (flag_at (nth held n)) as (λ b. cond (for_below held n (Some p)) t 0 + cond b 0 0 ≡ cond (for_below held n (Some p)) t 0) [ true ↦ omega arith | false ↦ omega arith ])

times_gathered : (w : Network) (k n : ℕ) → times k (gathered_below w n) ≡ cond (for_below w.held n (nth w.packets k)) (times k w.waits) 0
times_gathered w k zero = nothing (nth w.packets k)
  where
    nothing : (o : Option Sent) → 0 ≡ cond (for_below w.held 0 o) (times k w.waits) 0
    nothing None = refl
    nothing (Some p) = let none : ltb p.to 0 ≡ false = grind (arith, nat_tests) in rw none refl
times_gathered w k (suc n) =
    times-append k (gathered_below w n) (gathered w n)
    ∙ rw (times_gathered w k n, here) (for_below_next w.held n (nth w.packets k) (times k w.waits))
  where
    here : times k (gathered w n) ≡ cond (flag_at (nth w.held n)) 0 (cond (for_core w.packets n k) (times k w.waits) 0)
    here = elim (flag_at (nth w.held n)) as (λ b. times k (cond b [] (filter (for_core w.packets n) w.waits)) ≡ cond b 0 (cond (for_core w.packets n k) (times k w.waits) 0)) [ true ↦ refl | false ↦ times-filter k (for_core w.packets n) w.waits ]

pub sorted_is_due : (packets : List Sent) (flags : List Bool) (queues : List (List ℕ)) (held : List Bool) (all found : List ℕ) → IsKept packets flags queues held → all ≡ gathered_below (record { packets = packets; waits = flagged flags; held = held }) (length held) → IsPermutation all found → IsSorted nat_cmp found → found ≡ due (record { packets = packets; waits = flagged flags; held = held })
sorted_is_due packets flags queues held all found h is moved sorted =
    same_ascending found (filter free (flagged flags)) (up_sorted found sorted) (up_filter free (flagged flags) (up_filter (is_set flags) (below (length flags)) (up_below (length flags)))) counts
    ∙ sym (not_held_is packets held (flagged flags))
  where
    free : ℕ → Bool
    free k = not (is_held held (nth packets k))

    w : Network
    w = record { packets = packets; waits = flagged flags; held = held }

    none_waits : (k : ℕ) → nth packets k ≡ None → times k (flagged flags) ≡ 0
    none_waits k e = times-filter k (is_set flags) (below (length flags)) ∙ rw (unflagged k e) refl
      where
        beyond : (ps : List Sent) (j : ℕ) → nth ps j ≡ None → length ps ≤ j
        beyond [] j f = omega arith
        beyond (p ∷ ps) zero f = absurd (cc)
        beyond (p ∷ ps) (suc j) f = omega (arith, beyond ps j f)

        unflagged : (j : ℕ) → nth packets j ≡ None → is_set flags j ≡ false
        unflagged j f = ap flag_at (nth-beyond flags j (omega (arith, beyond packets j f, h.0)))

    same_at : (k : ℕ) (o : Option Sent) → nth packets k ≡ o → cond (for_below held (length held) o) (times k (flagged flags)) 0 ≡ cond (not (is_held held o)) (times k (flagged flags)) 0
    same_at k None e = sym (none_waits k e)
    same_at k (Some p) e = let small : ltb p.to (length held) ≡ true = grind (arith, nat_tests, h.2 k p e) in rw small refl

    counts : (k : ℕ) → times k found ≡ times k (filter free (flagged flags))
    counts k =
        times-permutation k all found moved
        ∙ ap (times k) is
        ∙ times_gathered w k (length held)
        ∙ same_at k (nth packets k) refl
        ∙ sym (times-filter k free (flagged flags))

-- what an index reads
pub flag_is : (flags : List Bool) (i : ℕ) (b : Bool) → i < length flags → b ≡ get_or flags i b → flag_at (nth flags i) ≡ b
flag_is [] i b h e = absurd (omega arith)
flag_is (x ∷ xs) zero b h e = sym e
flag_is (x ∷ xs) (suc i) b h e = flag_is xs i b (omega arith) e
