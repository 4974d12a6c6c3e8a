-- How a node's conduct changes with an epoch, and that equal conducts give equal leaders.
use Rattle.std.proofs.Common.{◌≡◌, ℕ, zero, suc, ◌+◌, ◌<◌, max, Bool, true, false, cond, not, ◌&&◌, ◌||◌, nat_lt, nat_le, List, [], ◌∷◌, ◌++◌, length, take, map, get_or, slice_set, ◌≢◌, eqb, refl, sym, ap, ◌∙◌, subst, arith, add-one, Option, Some, None}
use Rattle.std.proofs.Math.ListN.{get_or-map}
use Rattle.std.proofs.lemmas.List.Elements.{filter-append}
use Rattle.std.proofs.lemmas.List.{append-nil, get_or-set_same, get_or-set_other, take_more}
use Rattle.std.proofs.lemmas.List.Sums.{length-filter}
use Rattle.std.specs.List.{count_by, filter, list_any}
use Rattle.iss_request.specs.declared.ids.NodeId.{NodeId}
use Rattle.iss_request.specs.declared.ids.Slot.{Slot}
use Rattle.iss_request.specs.declared.setups.Policy.{Policy}
use Rattle.iss_request.specs.declared.setups.Policy.TheVariants.{Simple, Backoff, Blacklist}
use Rattle.iss_request.specs.declared.setups.Setup.{Setup}
use Rattle.iss_layout.specs.Layout.{Conduct, Ended, IsStanding, Plan, carried, conduct_of, is_listed, is_node, is_slot_of_leader, leaders_by, leads, may_lead, nils_under, node, nodes_below, or_else, past_all, plan_by, slot_leader}
use Rattle.iss_layout.specs.Internal.Standings.{changed, shown}
use Rattle.iss_layout.specs.declared.standing.Record.{Record}

-- ---- the greatest of slots

max_split : (a b c : ℕ) → max a (max b c) ≡ max (max a b) c
max_split a b c = omega arith

pub past_both : (xs ys : List Slot) → past_all (xs ++ ys) ≡ max (past_all xs) (past_all ys)
past_both [] ys = omega arith
past_both (x ∷ xs) ys = ap (λ (n : ℕ). max (suc x.0) n) (past_both xs ys) ∙ max_split (suc x.0) (past_all xs) (past_all ys)

none_past : (xs : List Slot) → past_all xs ≡ 0 → xs ≡ []
none_past [] h = refl
none_past (x ∷ xs) h = absurd (omega arith)

pub past_some : (t : Slot → Bool) (xs : List Slot) → nat_lt 0 (past_all (filter t xs)) ≡ list_any t xs
past_some t [] = refl
past_some t (x ∷ xs) = go (t x) (past_some t xs)
  where
    positive : (a b : ℕ) → nat_lt 0 (max (suc a) b) ≡ true
    positive a b = grind arith

    go : (b : Bool) → nat_lt 0 (past_all (filter t xs)) ≡ list_any t xs → nat_lt 0 (past_all (cond b (x ∷ filter t xs) (filter t xs))) ≡ (b || list_any t xs)
    go true rest = positive x.0 (past_all (filter t xs))
    go false rest = rest

-- ---- one more epoch

pub changed_is : (x : Ended) (past : List Ended) (i : ℕ) (c : Conduct) → c ≡ conduct_of past i
    → changed c (leads x.plan i) (past_all (filter (is_slot_of_leader x.plan i) x.nils)) ≡ conduct_of (x ∷ past) i
changed_is x past i c is =
    let test = past_some (is_slot_of_leader x.plan i) x.nils in
    let worst = past_both (filter (is_slot_of_leader x.plan i) x.nils) (nils_under past i) in
    subst (λ (d : Conduct). changed d (leads x.plan i) (past_all (filter (is_slot_of_leader x.plan i) x.nils)) ≡ conduct_of (x ∷ past) i) (sym is) (rw (test, worst) refl)

-- ---- equal conducts give equal leaders

abbrev pub Same : ℕ → (ℕ → Conduct) → (ℕ → Conduct) → Type 0
Same n a b = (i : ℕ) → i < n → a i ≡ b i

filter_on : (f g : NodeId → Bool) (n : ℕ) → ((i : ℕ) → i < n → f (node i) ≡ g (node i)) → filter f (nodes_below n) ≡ filter g (nodes_below n)
filter_on f g zero same = refl
filter_on f g (suc n) same =
    let here = same n (omega arith) in
    let last : filter f (node n ∷ []) ≡ filter g (node n ∷ []) = rw here refl in
    filter-append f (nodes_below n) (node n ∷ [])
    ∙ ap (λ xs. xs ++ filter f (node n ∷ [])) (filter_on f g n (λ i lt. same i (omega (arith, lt))))
    ∙ ap (λ xs. filter g (nodes_below n) ++ xs) last
    ∙ sym (filter-append g (nodes_below n) (node n ∷ []))

count_on : (f g : NodeId → Bool) (n : ℕ) → ((i : ℕ) → i < n → f (node i) ≡ g (node i)) → count_by f (nodes_below n) ≡ count_by g (nodes_below n)
count_on f g n same = sym (length-filter f (nodes_below n)) ∙ ap length (filter_on f g n same) ∙ length-filter g (nodes_below n)

listed_same : (s : Setup) (a b : ℕ → Conduct) → Same s.n a b → (i : ℕ) → i < s.n → is_listed s a (node i) ≡ is_listed s b (node i)
listed_same s a b same i lt =
    ap (λ (k : ℕ). nat_lt 0 (a i).worst && nat_le k s.f)
    (count_on (λ j. nat_le (a i).worst (a j.0).worst) (λ j. nat_le (a i).worst (b j.0).worst) s.n (λ j below. ap (λ (c : Conduct). nat_le (a i).worst c.worst) (same j below)))
    ∙ ap (λ (c : Conduct). nat_lt 0 c.worst && nat_le (count_by (λ j. nat_le c.worst (b j.0).worst) (nodes_below s.n)) s.f) (same i lt)

may_same : (p : Policy) (s : Setup) (a b : ℕ → Conduct) → Same s.n a b → (i : ℕ) → i < s.n → may_lead p s a (node i) ≡ may_lead p s b (node i)
may_same Simple s a b same i lt = refl
may_same Backoff s a b same i lt = ap (λ (c : Conduct). eqb c.ban 0) (same i lt)
may_same Blacklist s a b same i lt = ap (λ (t : Bool). not t) (listed_same s a b same i lt)

pub leaders_same : (s : Setup) (a b : ℕ → Conduct) → Same s.n a b → leaders_by s a ≡ leaders_by s b
leaders_same s a b same =
    ap (λ xs. or_else xs (nodes_below s.n)) (filter_on (may_lead s.policy s a) (may_lead s.policy s b) s.n (λ i lt. may_same s.policy s a b same i lt))

pub plan_same : (s : Setup) (e start : ℕ) (past : List Ended) (cs : List Conduct) → IsStanding s past cs → plan_by s e start (carried cs) ≡ plan_by s e start (conduct_of past)
plan_same s e start past cs same =
    ap (λ (ls : List NodeId). record { epoch = e; start = start; nodes = s.n; slots = s.epoch; buckets = s.buckets; leaders = ls })
    (leaders_same s (carried cs) (conduct_of past) same)

-- ---- one more node

pub filter_more_node : (f : NodeId → Bool) (i : ℕ) → f (node i) ≡ true → filter f (nodes_below (i + 1)) ≡ filter f (nodes_below i) ++ node i ∷ []
filter_more_node f i h = ap (λ k. filter f (nodes_below k)) (add-one i) ∙ filter-append f (nodes_below i) (node i ∷ []) ∙ rw h refl

pub filter_less_node : (f : NodeId → Bool) (i : ℕ) → f (node i) ≡ false → filter f (nodes_below (i + 1)) ≡ filter f (nodes_below i)
filter_less_node f i h = ap (λ k. filter f (nodes_below k)) (add-one i) ∙ filter-append f (nodes_below i) (node i ∷ []) ∙ rw h (append-nil (filter f (nodes_below i)))

-- ---- one more slot

pub past_more : (t : Slot → Bool) (xs : List Slot) (x : Slot) → past_all (filter t (xs ++ x ∷ [])) ≡ max (past_all (filter t xs)) (past_all (filter t (x ∷ [])))
past_more t xs x = ap past_all (filter-append t xs (x ∷ [])) ∙ past_both (filter t xs) (filter t (x ∷ []))

pub past_hit : (t : Slot → Bool) (xs : List Slot) (x : Slot) (k : ℕ) → k ≡ past_all (filter t xs) → t x ≡ true → max (suc x.0) k ≡ past_all (filter t (xs ++ x ∷ []))
past_hit t xs x k is h =
    let last : past_all (filter t (x ∷ [])) ≡ suc x.0 = rw h (omega arith) in
    let more = past_more t xs x in
    omega (arith, last, more, is)

pub past_miss : (t : Slot → Bool) (xs : List Slot) (x : Slot) (k : ℕ) → k ≡ past_all (filter t xs) → t x ≡ false → k ≡ past_all (filter t (xs ++ x ∷ []))
past_miss t xs x k is h =
    let last : past_all (filter t (x ∷ [])) ≡ 0 = rw h refl in
    let more = past_more t xs x in
    omega (arith, last, more, is)

pub worst_hit : (p : Plan) (i : ℕ) (xs : List Slot) (k : ℕ) (d : Slot) (l : NodeId) (worst : ℕ) → k < length xs → slot_leader p (get_or xs k d).0 ≡ Some l → eqb l.0 i ≡ true
    → worst ≡ past_all (filter (is_slot_of_leader p i) (take k xs)) → max (suc (get_or xs k d).0) worst ≡ past_all (filter (is_slot_of_leader p i) (take (k + 1) xs))
worst_hit p i xs k d l worst within leader same so_far =
    let t : Slot → Bool = is_slot_of_leader p i in
    past_hit t (take k xs) (get_or xs k d) worst so_far (ap (λ (o : Option NodeId). is_node i o) leader ∙ same)
    ∙ ap (λ ys. past_all (filter t ys)) (sym (take_more xs k d within))

pub worst_miss : (p : Plan) (i : ℕ) (xs : List Slot) (k : ℕ) (d : Slot) (l : NodeId) (worst : ℕ) → k < length xs → slot_leader p (get_or xs k d).0 ≡ Some l → eqb l.0 i ≡ false
    → worst ≡ past_all (filter (is_slot_of_leader p i) (take k xs)) → worst ≡ past_all (filter (is_slot_of_leader p i) (take (k + 1) xs))
worst_miss p i xs k d l worst within leader same so_far =
    let t : Slot → Bool = is_slot_of_leader p i in
    past_miss t (take k xs) (get_or xs k d) worst so_far (ap (λ (o : Option NodeId). is_node i o) leader ∙ same)
    ∙ ap (λ ys. past_all (filter t ys)) (sym (take_more xs k d within))

-- ---- conduct as it is stored

abbrev pub unknown : Record
unknown = record { weight = 0; ban = 0; worst = None }

pub carried_at : (rs : List Record) (i : ℕ) → carried (map shown rs) i ≡ shown (get_or rs i unknown)
carried_at rs i = get_or-map shown rs i unknown

pub carried_set : (rs : List Record) (i : ℕ) (r : Record) → i < length rs → carried (map shown (slice_set rs i r)) i ≡ shown r
carried_set rs i r lt = carried_at (slice_set rs i r) i ∙ ap shown (get_or-set_same rs i r unknown lt)

pub carried_other : (rs : List Record) (i j : ℕ) (r : Record) → j ≢ i → carried (map shown (slice_set rs i r)) j ≡ carried (map shown rs) j
carried_other rs i j r apart = carried_at (slice_set rs i r) j ∙ ap shown (get_or-set_other rs i j r unknown apart) ∙ sym (carried_at rs j)
