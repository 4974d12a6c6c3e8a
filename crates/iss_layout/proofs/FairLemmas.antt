use Rattle.std.proofs.Common.{◌≡◌, ◌⊎◌, inl, inr, ⊎_elim, ℕ, zero, suc, ◌+◌, ◌-◌, ◌%◌, ◌^◌, ◌<◌, ◌≤◌, ◌↔◌, Bool, true, false, cond, List, [], ◌∷◌, ◌++◌, length, refl, sym, ap, ◌∙◌, subst, arith, Option, Some, None, slice_get, eqb, ◌==◌, ◌||◌, length-append}
use Rattle.std.proofs.Math.Nat.{mod-eq_of_lt}
use Rattle.std.proofs.lemmas.Nat.{mod_below}
use Rattle.std.proofs.lemmas.Bool.{cases_lt}
use Rattle.std.specs.List.{filter, list_any}
use Rattle.iss_base.specs.Lists.{In}
use Rattle.iss_request.specs.Setup.{IsGoodSetup, AreAscendingBelow, nodes_of_kind}
use Rattle.iss_request.specs.Slots.{AreAscending}
use Rattle.iss_request.specs.declared.ids.NodeId.{NodeId}
use Rattle.iss_request.specs.declared.ids.Slot.{Slot}
use Rattle.iss_request.specs.declared.requests.Value.{Value}
use Rattle.iss_request.specs.declared.setups.Kind.{Kind}
use Rattle.iss_request.specs.declared.setups.Kind.TheVariants.{Byzantine, Stopping}
use Rattle.iss_request.specs.declared.setups.Setup.{Setup}
use Rattle.iss_layout.specs.Layout.{Conduct, Plan, conduct_of, epochs, leaders_by, may_lead, node, nodes_below, or_else, plan_by, plan_of, leads, home, at_turn, slot_leader, is_node, is_slot_of_leader, slots_from, first_slot, segment, IsSlotOf, IsGoodPlan, HasOneLeader, HasOwner, IsFair}

pub eqb_means : (a b : ℕ) → eqb a b ≡ true → a ≡ b
eqb_means a b h = grind arith

pub eqb_of : (a b : ℕ) → a ≡ b → eqb a b ≡ true
eqb_of a b h = grind arith

-- ---- good set-ups give good plans

filter_shorter : {X : Type 0} (p : X → Bool) (xs : List X) → length (filter p xs) ≤ length xs
filter_shorter p [] = omega arith
filter_shorter {X} p (y ∷ xs) = go (p y) (filter_shorter p xs)
  where
    go : (b : Bool) → length (filter p xs) ≤ length xs → length (cond b (y ∷ filter p xs) (filter p xs)) ≤ suc (length xs)
    go true le = omega arith
    go false le = omega arith

few_of_kind : (k : Kind) (f : ℕ) → f ≤ 3 → (1 ≤ nodes_of_kind k f) × (nodes_of_kind k f ≤ 10)
few_of_kind Byzantine f h = (omega arith, omega arith)
few_of_kind Stopping f h = (omega arith, omega arith)

few_of : (b : Bool) (k : Kind) (f n : ℕ) → f ≤ 3 → n ≡ cond b 3 (nodes_of_kind k f) → (1 ≤ n) × (n ≤ 10)
few_of true k f n h e = (omega arith, omega arith)
few_of false k f n h e = let few = few_of_kind k f h in (omega arith, omega arith)

pub few_nodes : (s : Setup) → IsGoodSetup s → (1 ≤ s.n) × (s.n ≤ 10)
few_nodes s good = few_of (eqb s.module 1) s.kind s.f s.n good.faults good.nodes

pub length_below : (n : ℕ) → length (nodes_below n) ≡ n
length_below zero = refl
length_below (suc n) = let here = length_below n in let more = length-append (nodes_below n) (node n ∷ []) in omega arith

rising_more : (from n : ℕ) (xs : List NodeId) → AreAscendingBelow from n xs → from ≤ n → AreAscendingBelow from (suc n) (xs ++ node n ∷ [])
rising_more from n [] h le = (le, omega arith, tt)
rising_more from n (x ∷ xs) h le = let lt = h.1 in (h.0, omega arith, rising_more (suc x.0) n xs h.2 lt)

pub rising_below : (n : ℕ) → AreAscendingBelow 0 n (nodes_below n)
rising_below zero = tt
rising_below (suc n) = rising_more 0 n (nodes_below n) (rising_below n) (omega arith)

rising_lower : (from low n : ℕ) (xs : List NodeId) → low ≤ from → AreAscendingBelow from n xs → AreAscendingBelow low n xs
rising_lower from low n [] le h = tt
rising_lower from low n (x ∷ xs) le h = let first = h.0 in (omega arith, h.1, h.2)

rising_filter : (p : NodeId → Bool) (from n : ℕ) (xs : List NodeId) → AreAscendingBelow from n xs → AreAscendingBelow from n (filter p xs)
rising_filter p from n [] h = tt
rising_filter p from n (x ∷ xs) h = go (p x) (rising_filter p (suc x.0) n xs h.2)
  where
    go : (b : Bool) → AreAscendingBelow (suc x.0) n (filter p xs) → AreAscendingBelow from n (cond b (x ∷ filter p xs) (filter p xs))
    go true rest = (h.0, h.1, rest)
    go false rest = let first = h.0 in let le : from ≤ suc x.0 = omega arith in rising_lower (suc x.0) from n (filter p xs) le rest

-- some nodes lead, and no more than exist
pub record AreLeaders (n : ℕ) (xs : List NodeId) : Type 0 where
  pub ascending : AreAscendingBelow 0 n xs
  pub some : 1 ≤ length xs
  pub no_more : length xs ≤ n

leaders_or : (n : ℕ) (xs all : List NodeId) → AreAscendingBelow 0 n xs → length xs ≤ n → AreLeaders n all → AreLeaders n (or_else xs all)
leaders_or n [] all ascending few h = h
leaders_or n (x ∷ xs) all ascending few h = record { ascending = ascending; some = omega arith; no_more = few }

pub good_leaders : (s : Setup) (c : ℕ → Conduct) → IsGoodSetup s → AreLeaders s.n (leaders_by s c)
good_leaders s c good =
    let long = length_below s.n in
    let nodes = few_nodes s good in
    let shorter = filter_shorter (may_lead s.policy s c) (nodes_below s.n) in
    leaders_or s.n (filter (may_lead s.policy s c) (nodes_below s.n)) (nodes_below s.n)
    (rising_filter (may_lead s.policy s c) 0 s.n (nodes_below s.n) (rising_below s.n))
    (omega (arith, long, shorter))
    (record { ascending = rising_below s.n; some = omega (arith, nodes.0, long); no_more = omega (arith, long) })

pub good_plan_by : (s : Setup) (e start : ℕ) (c : ℕ → Conduct) → IsGoodSetup s → start + s.epoch ≤ 2 ^ 64 → IsGoodPlan (plan_by s e start c)
good_plan_by s e start c good fits =
    let lead = good_leaders s c good in
    record {
      ascending = lead.ascending;
      some = lead.some;
      no_more = lead.no_more;
      few_nodes = (few_nodes s good).1;
      enough = good.epoch_low;
      few_slots = good.epoch_high;
      some_buckets = good.buckets_low;
      few_buckets = good.buckets_high;
      fits = fits;
    }

pub good_plan : (s : Setup) (e start : ℕ) (log : List Value) → IsGoodSetup s → start + s.epoch ≤ 2 ^ 64 → IsGoodPlan (plan_of s e start log)
good_plan s e start log good fits = good_plan_by s e start (conduct_of (epochs s e log)) good fits

-- ---- lists

pub get_in : {X : Type 0} (xs : List X) (k : ℕ) → k < length xs → (x : X) × (In x xs × (slice_get xs k ≡ Some x))
get_in [] k h = absurd (omega arith)
get_in (x ∷ xs) zero h = (x, (inl refl, refl))
get_in (x ∷ xs) (suc k) h =
    let lt : k < length xs = omega arith in
    let (y, (here, is)) = get_in xs k lt in
    (y, (inr here, is))

pub in_get : {X : Type 0} (xs : List X) (x : X) → In x xs → (k : ℕ) × ((k < length xs) × (slice_get xs k ≡ Some x))
in_get [] x h = absurd h
in_get (y ∷ xs) x h = ⊎_elim
    (λ (e : x ≡ y). (0, (omega arith, ap (λ z. Some z) (sym e))))
    (λ (later : In x xs). let (k, (lt, is)) = in_get xs x later in (suc k, (omega arith, is)))
    h

pub in_some : {X : Type 0} (xs : List X) (x : X) → In x xs → 1 ≤ length xs
in_some [] x h = absurd h
in_some (y ∷ xs) x h = omega arith

pub in_front : {X : Type 0} (xs ys : List X) (x : X) → In x xs → In x (xs ++ ys)
in_front [] ys x h = absurd h
in_front (y ∷ xs) ys x h = ⊎_elim (λ (e : x ≡ y). inl e) (λ (later : In x xs). inr (in_front xs ys x later)) h

pub in_back : {X : Type 0} (xs ys : List X) (x : X) → In x ys → In x (xs ++ ys)
in_back [] ys x h = h
in_back (y ∷ xs) ys x h = inr (in_back xs ys x h)

pub in_either : {X : Type 0} (xs ys : List X) (x : X) → In x (xs ++ ys) → In x xs ⊎ In x ys
in_either [] ys x h = inr h
in_either (y ∷ xs) ys x h = ⊎_elim
    (λ (e : x ≡ y). inl (inl e))
    (λ (later : In x (xs ++ ys)). ⊎_elim (λ (a : In x xs). inl (inr a)) (λ (b : In x ys). inr b) (in_either xs ys x later))
    h

pub in_filter : {X : Type 0} (p : X → Bool) (xs : List X) (x : X) → In x xs → p x ≡ true → In x (filter p xs)
in_filter p [] x h yea = absurd h
in_filter {X} p (y ∷ xs) x h yea = go (p y) refl (λ later. in_filter p xs x later yea)
  where
    go : (b : Bool) → p y ≡ b → (In x xs → In x (filter p xs)) → In x (cond b (y ∷ filter p xs) (filter p xs))
    go true is rest = ⊎_elim (λ (e : x ≡ y). inl e) (λ (later : In x xs). inr (rest later)) h
    go false is rest = ⊎_elim (λ (e : x ≡ y). absurd (let bad : true ≡ false = sym yea ∙ ap p e ∙ is in cc)) (λ (later : In x xs). rest later) h

pub of_filter : {X : Type 0} (p : X → Bool) (xs : List X) (x : X) → In x (filter p xs) → In x xs × (p x ≡ true)
of_filter p [] x h = absurd h
of_filter {X} p (y ∷ xs) x h = go (p y) refl h (λ later. of_filter p xs x later)
  where
    go : (b : Bool) → p y ≡ b → In x (cond b (y ∷ filter p xs) (filter p xs)) → (In x (filter p xs) → In x xs × (p x ≡ true)) → In x (y ∷ xs) × (p x ≡ true)
    go true is k rest = ⊎_elim (λ (e : x ≡ y). (inl e, ap p e ∙ is)) (λ (later : In x (filter p xs)). (inr (rest later).0, (rest later).1)) k
    go false is k rest = (inr (rest k).0, (rest k).1)

-- ---- the slots of an epoch

pub length_slots : (first k : ℕ) → length (slots_from first k) ≡ k
length_slots first zero = refl
length_slots first (suc k) = let here = length_slots first k in let more = length-append (slots_from first k) (record { 0 = first + k } ∷ []) in omega arith

pub in_slots : (first k : ℕ) (s : Slot) → first ≤ s.0 → s.0 < first + k → In s (slots_from first k)
in_slots first zero s low high = absurd (omega arith)
in_slots first (suc k) s low high = ⊎_elim
    (λ (front : s.0 < first + k). in_front (slots_from first k) (record { 0 = first + k } ∷ []) s (in_slots first k s low front))
    (λ (back : first + k ≤ s.0).
    let at : s.0 ≡ first + k = omega arith in
    let is : s ≡ record { 0 = first + k } = ap (λ (i : ℕ). record { 0 = i }) at in
    in_back (slots_from first k) (record { 0 = first + k } ∷ []) s (inl is))
    (cases_lt s.0 (first + k))

pub of_slots : (first k : ℕ) (s : Slot) → In s (slots_from first k) → (first ≤ s.0) × (s.0 < first + k)
of_slots first zero s h = absurd h
of_slots first (suc k) s h = ⊎_elim
    (λ (front : In s (slots_from first k)). let (low, high) = of_slots first k s front in (low, omega arith))
    (λ (back : In s (record { 0 = first + k } ∷ [])). ⊎_elim (λ (e : s ≡ record { 0 = first + k }). let at = ap (λ (x : Slot). x.0) e in (omega arith, omega arith)) (λ (no : ⊥). absurd no) back)
    (in_either (slots_from first k) (record { 0 = first + k } ∷ []) s h)

-- strictly ascending slots from the first number to below the second
unfoldable Rises : ℕ → ℕ → List Slot → Type 0
Rises from to [] = from ≤ to
Rises from to (s ∷ ss) = (from ≤ s.0) × Rises (suc s.0) to ss

rises_more : (from to : ℕ) (xs : List Slot) → Rises from to xs → Rises from (suc to) (xs ++ record { 0 = to } ∷ [])
unfolding Rises
rises_more from to [] h = (h, omega arith)
rises_more from to (x ∷ xs) h = (h.0, rises_more (suc x.0) to xs h.1)

rises_from : (first k : ℕ) → Rises first (first + k) (slots_from first k)
unfolding Rises
rises_from first zero = omega arith
rises_from first (suc k) =
    let e : suc (first + k) ≡ first + suc k = omega arith in
    subst (λ (t : ℕ). Rises first t (slots_from first k ++ record { 0 = first + k } ∷ [])) e (rises_more first (first + k) (slots_from first k) (rises_from first k))

ascending_lower : (a b : ℕ) (xs : List Slot) → a ≤ b → AreAscending b xs → AreAscending a xs
ascending_lower a b [] le h = tt
ascending_lower a b (x ∷ xs) le h = let low = h.0 in (omega arith, h.1)

ascending_filter : (p : Slot → Bool) (from to : ℕ) (xs : List Slot) → Rises from to xs → AreAscending from (filter p xs)
unfolding Rises
ascending_filter p from to [] h = tt
ascending_filter p from to (x ∷ xs) h = go (p x) (ascending_filter p (suc x.0) to xs h.1)
  where
    go : (b : Bool) → AreAscending (suc x.0) (filter p xs) → AreAscending from (cond b (x ∷ filter p xs) (filter p xs))
    go true rest = (h.0, rest)
    go false rest = let low = h.0 in let le : from ≤ suc x.0 = omega arith in ascending_lower from (suc x.0) (filter p xs) le rest

-- ---- leaders

pub is_node_means : (i : ℕ) (o : Option NodeId) → is_node i o ≡ true → o ≡ Some (node i)
is_node_means i None h = cc
is_node_means i (Some l) h = let e = eqb_means l.0 i h in ap (λ (j : ℕ). Some (node j)) e

pub is_node_of : (i : ℕ) (o : Option NodeId) → o ≡ Some (node i) → is_node i o ≡ true
is_node_of i o h = subst (λ (x : Option NodeId). is_node i x ≡ true) (sym h) (eqb_of i i refl)

pub leads_means : (i : ℕ) (ls : List NodeId) → list_any (λ l. l.0 == i) ls ≡ true → In (node i) ls
leads_means i [] h = cc
leads_means i (l ∷ ls) h = go (eqb l.0 i) refl h (λ later. leads_means i ls later)
  where
    go : (b : Bool) → eqb l.0 i ≡ b → (b || list_any (λ l. l.0 == i) ls) ≡ true → (list_any (λ l. l.0 == i) ls ≡ true → In (node i) ls) → In (node i) (l ∷ ls)
    go true is k rest = let e = eqb_means l.0 i is in inl (ap (λ (j : ℕ). node j) (sym e))
    go false is k rest = inr (rest k)

pub turn_in : (ls : List NodeId) (k : ℕ) → 1 ≤ length ls → (l : NodeId) × (In l ls × (at_turn ls k ≡ Some l))
turn_in ls k some = let lt : k % length ls < length ls = mod_below k (length ls) some in get_in ls (k % length ls) lt

-- ---- the laws

pub segment_slots : (p : Plan) (i : ℕ) (s : Slot) → In s (segment p i) ↔ (IsSlotOf p s.0 × (slot_leader p s.0 ≡ Some (node i)))
segment_slots p i s = (
  (λ h.
      let (within, is) = of_filter (is_slot_of_leader p i) (slots_from (first_slot p) p.slots) s h in
      (of_slots (first_slot p) p.slots s within, is_node_means i (slot_leader p s.0) is)),
  (λ h.
      in_filter (is_slot_of_leader p i) (slots_from (first_slot p) p.slots) s (in_slots (first_slot p) p.slots s h.0.0 h.0.1)
      (is_node_of i (slot_leader p s.0) h.1)),
)

one_leader : (p : Plan) → IsGoodPlan p → (s : Slot) → IsSlotOf p s.0 → HasOneLeader p s
one_leader p good s at =
    let (l, (leads, is)) = turn_in p.leaders (s.0 - first_slot p) good.some in
    record {
      leader = l;
      leads = leads;
      is = is;
      within = (segment_slots p l.0 s).1 (at, is);
      only = λ i h. let other = ((segment_slots p i s).0 h).1 in
          let same : Some (node i) ≡ Some l = sym other ∙ is in
          let e : node i ≡ l = cc in
          ap (λ (x : NodeId). x.0) e;
    }

has_owner : (p : Plan) → IsGoodPlan p → (b : ℕ) → HasOwner p b
has_owner p good b = go (leads p (home p b)) refl
  where
    go : (t : Bool) → leads p (home p b) ≡ t → HasOwner p b
    go true is = record {
      owner = node (home p b);
      leads = leads_means (home p b) p.leaders is;
      is = rw is refl;
    }
    go false is = let (l, (here, turn)) = turn_in p.leaders (b + p.epoch) good.some in record {
      owner = l;
      leads = here;
      is = rw is turn;
    }

pub segment_ascending : (p : Plan) (i : ℕ) → AreAscending 0 (segment p i)
segment_ascending p i =
    ascending_lower 0 (first_slot p) (segment p i) (omega arith)
    (ascending_filter (is_slot_of_leader p i) (first_slot p) (first_slot p + p.slots) (slots_from (first_slot p) p.slots) (rises_from (first_slot p) p.slots))

pub segment_few : (p : Plan) (i : ℕ) → length (segment p i) ≤ p.slots
segment_few p i =
    let shorter = filter_shorter (is_slot_of_leader p i) (slots_from (first_slot p) p.slots) in
    let long = length_slots (first_slot p) p.slots in
    omega arith

-- a leader has a slot, where an epoch has as many slots as it has leaders
pub some_slot : (p : Plan) → length p.leaders ≤ p.slots → (i : ℕ) → In (node i) p.leaders → 1 ≤ length (segment p i)
some_slot p enough i h =
    let (k, (lt, is)) = in_get p.leaders (node i) h in
    let s : Slot = record { 0 = first_slot p + k } in
    let back : first_slot p + k - first_slot p ≡ k = omega arith in
    let round : k % length p.leaders ≡ k = mod-eq_of_lt lt in
    let here : slot_leader p (first_slot p + k) ≡ Some (node i) =
    subst (λ (j : ℕ). at_turn p.leaders j ≡ Some (node i)) (sym back) (subst (λ (j : ℕ). slice_get p.leaders j ≡ Some (node i)) (sym round) is)
    in
    let high : first_slot p + k < first_slot p + p.slots = omega arith in
    let low : first_slot p ≤ first_slot p + k = omega arith in
    in_some (segment p i) s ((segment_slots p i s).1 ((low, high), here))

pub fair : (p : Plan) → IsGoodPlan p → IsFair p
fair p good = record {
  some = good.some;
  nodes = good.ascending;
  led = λ s at. one_leader p good s at;
  owned = λ b. has_owner p good b;
  segments = λ i. record {
    slots = λ s. segment_slots p i s;
    ascending = segment_ascending p i;
    few = let few = segment_few p i in let few_slots = good.few_slots in omega arith;
    some = λ h. some_slot p (let no_more = good.no_more in let enough = good.enough in omega arith) i h;
  };
}
