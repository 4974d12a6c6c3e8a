-- Raft's safety argument: log matching, leader completeness and agreement, from facts on single nodes. Lead t j m: node
-- j led term t when its log was m. hist k: the terms and logs of node k over time, newest first.
use Rattle.std.proofs.Common.{◌≡◌, ℕ, zero, suc, ◌+◌, ◌*◌, ◌<◌, ◌≤◌, Bool, true, false, ◌&&◌, cond, List, [], ◌∷◌, ◌++◌, length, arith, refl, inl, inr, ◌⊎◌, sym, ◌∙◌, subst, ap, append_assoc}
use Rattle.std.specs.Prelude.{◌==◌}
use Rattle.std.proofs.lemmas.Bool.{cases_eq, cases_lt, eqb-true, and_parts}
use Rattle.iss_base.specs.Lists.{In}
use Rattle.iss_base.proofs.Lists.{in_left, in_right, in_append}
use Rattle.iss_base.proofs.Quorum.{count-both, count-some}
use Rattle.raft_wire.specs.declared.entries.Entry.{Entry}
use Rattle.iss_base.specs.Quorum.{count_below}
use Rattle.sb_raft.specs.Logs.{merge}
use Rattle.sb_raft.proofs.Safety.LogPrefixes.{Prefix, Moment, Tail}
use Rattle.sb_raft.proofs.Safety.ListPrefixes.{pre_refl, pre_trans, pre_compare, pre_append, pre_rest, pre_short, pre_length, pre_in, same_split, split_cases, last_of, merge_front}

-- f+1 of 2f+1 nodes
abbrev pub Majority : ℕ → (ℕ → Bool) → Type 0
Majority f test = f + 1 ≤ count_below test (2 * f + 1)

pub share : (f : ℕ) (t u : ℕ → Bool) → Majority f t → Majority f u → (k : ℕ) × (k < 2 * f + 1) × (t k ≡ true) × (u k ≡ true)
share f t u a b =
    let n : ℕ = 2 * f + 1 in
    let both = count-both t u n in
    let r = count-some (λ k. t k && u k) n (omega arith) in
    let z = and_parts (t r.0) (u r.0) r.2 in
    (r.0, r.1, z.0, z.1)

-- the log up to entry x is a prefix of a log of a leader of its term
pub record Led (Lead : ℕ → ℕ → List Entry → Type 0) (P : List Entry) (x : Entry) : Type 0 where
  pub leader : ℕ
  pub rest : List Entry
  pub lead : Lead x.term leader (P ++ (x ∷ rest))

abbrev pub Good : (ℕ → ℕ → List Entry → Type 0) → List Entry → Type 0
Good Lead log = (P : List Entry) (x : Entry) (xs : List Entry) → log ≡ P ++ (x ∷ xs) → Led Lead P x

abbrev pub Upto : ℕ → List Entry → Type 0
Upto t log = (x : Entry) → In x log → x.term ≤ t

abbrev pub OfTerm : ℕ → List Entry → Type 0
OfTerm t es = (x : Entry) → In x es → x.term ≡ t

pub record Grow (Lead : ℕ → ℕ → List Entry → Type 0) (k : ℕ) (n o : Moment) : Type 0 where
  pub own : List Entry
  pub is : n.log ≡ o.log ++ own
  pub term : OfTerm n.term own
  pub lead : Lead n.term k n.log

-- an Append is taken after an index at which both logs have an entry of one term, or after index 0
pub record Copy (Lead : ℕ → ℕ → List Entry → Type 0) (n o : Moment) : Type 0 where
  pub leader : ℕ
  pub old_front : List Entry
  pub old_rest : List Entry
  pub front : List Entry
  pub rest : List Entry
  pub old_is : o.log ≡ old_front ++ old_rest
  pub lead : Lead n.term leader (front ++ rest)
  pub place : length old_front ≡ length front
  pub previous : (old_front ≡ []) ⊎ ((P Q : List Entry) × (p q : Entry) × (old_front ≡ P ++ (p ∷ [])) × (front ≡ Q ++ (q ∷ [])) × (p.term ≡ q.term))
  pub is : n.log ≡ old_front ++ merge old_rest rest

abbrev pub Step : (ℕ → ℕ → List Entry → Type 0) → ℕ → Moment → Moment → Type 0
Step Lead k n o = (o.term ≤ n.term) × ((n.log ≡ o.log) ⊎ (Grow Lead k n o ⊎ Copy Lead n o))

abbrev pub Steps : (ℕ → ℕ → List Entry → Type 0) → ℕ → List Moment → Type 0
Steps Lead k [] = Unit {0}
Steps Lead k (o ∷ []) = o.log ≡ []
Steps Lead k (n ∷ (o ∷ r)) = Step Lead k n o × Steps Lead k (o ∷ r)

-- a is at least as up to date as b, by last term and then by length
pub record Newer (a b : List Entry) : Type 0 where
  pub shows : (Q : List Entry) (y : Entry) → b ≡ Q ++ (y ∷ []) → (P : List Entry) × (x : Entry) × (a ≡ P ++ (x ∷ [])) × ((y.term < x.term) ⊎ ((y.term ≡ x.term) × (length b ≤ length a)))

-- a vote in term u: the voter's log when it entered u
pub record Voted (hist : ℕ → List Moment) (k u : ℕ) (base : List Entry) : Type 0 where
  pub moment : Moment
  pub before : List Moment
  pub past : Tail (moment ∷ before) (hist k)
  pub low : moment.term < u
  pub last : (o : Moment) (r : List Moment) → Tail (o ∷ r) (hist k) → o.term < u → Tail (o ∷ r) (moment ∷ before)
  pub newer : Newer base moment.log

pub record Won (f : ℕ) (hist : ℕ → List Moment) (u : ℕ) (base : List Entry) : Type 0 where
  pub makers : ℕ → Bool
  pub majority : Majority f makers
  pub each : (k : ℕ) → makers k ≡ true → Voted hist k u base

-- how a leader came to its log: from its log before the term, with the votes of a majority
pub record Based (f : ℕ) (hist : ℕ → List Moment) (t j : ℕ) (m : List Entry) : Type 0 where
  pub base : List Entry
  pub own : List Entry
  pub is : base ++ own ≡ m
  pub term : OfTerm t own
  pub from : ((base ≡ []) × (t ≡ 1)) ⊎ (((o : Moment) × (r : List Moment) × Tail (o ∷ r) (hist j) × (o.term < t) × (base ≡ o.log)) × Won f hist t base)

pub record Facts (f : ℕ) (Lead : ℕ → ℕ → List Entry → Type 0) (hist : ℕ → List Moment) : Type 0 where
  pub one : (t i j : ℕ) (m n : List Entry) → Lead t i m → Lead t j n → i ≡ j
  pub chain : (t j : ℕ) (m n : List Entry) → Lead t j m → Lead t j n → Prefix m n ⊎ Prefix n m
  pub based : (t j : ℕ) (m : List Entry) → Lead t j m → Based f hist t j m
  pub terms : (t j : ℕ) (m : List Entry) → Lead t j m → 1 ≤ t
  pub steps : (k : ℕ) → Steps Lead k (hist k)

-- histories

pub steps_tail : (Lead : ℕ → ℕ → List Entry → Type 0) (k : ℕ) (o : Moment) (r h : List Moment) → Steps Lead k h → Tail (o ∷ r) h → Steps Lead k (o ∷ r)
steps_tail Lead k o r [] s t = cc
steps_tail Lead k o r (n ∷ []) s (inl e) = subst (λ (z : List Moment). Steps Lead k z) (sym e) s
steps_tail Lead k o r (n ∷ []) s (inr t) = cc
steps_tail Lead k o r (n ∷ (m ∷ h)) s (inl e) = subst (λ (z : List Moment). Steps Lead k z) (sym e) s
steps_tail Lead k o r (n ∷ (m ∷ h)) s (inr t) = steps_tail Lead k o r (m ∷ h) s.1 t

pub tail_down : (o q : Moment) (r h : List Moment) → Tail (o ∷ (q ∷ r)) h → Tail (q ∷ r) h
tail_down o q r [] t = cc
tail_down o q r (n ∷ h) (inl e) = inr (let g : q ∷ r ≡ h = cc in subst (λ (z : List Moment). Tail z h) (sym g) (tail_self h))
  where
    tail_self : (h : List Moment) → Tail h h
    tail_self [] = refl
    tail_self (n ∷ h) = inl refl
tail_down o q r (n ∷ h) (inr t) = inr (tail_down o q r h t)

pub tail_terms : (Lead : ℕ → ℕ → List Entry → Type 0) (k : ℕ) (o : Moment) (r : List Moment) (n : Moment) (h : List Moment) → Steps Lead k (n ∷ h) → Tail (o ∷ r) (n ∷ h) → o.term ≤ n.term
tail_terms Lead k o r n [] s (inl e) = let q : o ≡ n = cc in let g = ap (λ (z : Moment). z.term) q in omega arith
tail_terms Lead k o r n [] s (inr t) = cc
tail_terms Lead k o r n (m ∷ h) s (inl e) = let q : o ≡ n = cc in let g = ap (λ (z : Moment). z.term) q in omega arith
tail_terms Lead k o r n (m ∷ h) s (inr t) = let g = tail_terms Lead k o r m h s.1 t in let l = s.0.0 in omega arith

-- prefixes of valid logs

good_front : (Lead : ℕ → ℕ → List Entry → Type 0) (a b : List Entry) → Good Lead (a ++ b) → Good Lead a
good_front Lead a b g P x xs e = g P x (xs ++ b) (ap (λ (z : List Entry). z ++ b) e ∙ append_assoc P (x ∷ xs) b)

pub record Committed (f : ℕ) (Lead : ℕ → ℕ → List Entry → Type 0) (hist : ℕ → List Moment) (t : ℕ) (C : List Entry) : Type 0 where
  pub front : List Entry
  pub entry : Entry
  pub is : C ≡ front ++ (entry ∷ [])
  pub term : entry.term ≡ t
  pub leader : ℕ
  pub log : List Entry
  pub lead : Lead t leader log
  pub stands : Prefix C log
  pub makers : ℕ → Bool
  pub majority : Majority f makers
  pub each : (k : ℕ) → makers k ≡ true → (o : Moment) × (r : List Moment) × Tail (o ∷ r) (hist k) × (o.term ≡ t) × Prefix C o.log

module _ (f : ℕ) (Lead : ℕ → ℕ → List Entry → Type 0) (hist : ℕ → List Moment) (facts : Facts f Lead hist) where
  -- two logs of the leader of one term
  pub leads : (t i j : ℕ) (m n : List Entry) → Lead t i m → Lead t j n → Prefix m n ⊎ Prefix n m
  leads t i j m n a b = facts.chain t j m n (subst (λ (z : ℕ). Lead t z m) (facts.one t i j m n a b) a) b

  -- log matching: entries of equal terms at equal indices have equal prefixes
  pub matching : (P Q : List Entry) (x y : Entry) → Led Lead P x → Led Lead Q y → length P ≡ length Q → x.term ≡ y.term → (P ≡ Q) × (x ≡ y)
  matching P Q x y a b l e =
      elim (leads x.term a.leader b.leader (P ++ (x ∷ a.rest)) (Q ++ (y ∷ b.rest)) a.lead (subst (λ (z : ℕ). Lead z b.leader (Q ++ (y ∷ b.rest))) (sym e) b.lead)) [
        | inl p ↦ let r = pre_rest _ _ p in same_split P Q x y (a.rest ++ r.0) b.rest (sym (append_assoc P (x ∷ a.rest) r.0) ∙ sym r.1) l
        | inr p ↦ let r = pre_rest _ _ p in same_split P Q x y a.rest (b.rest ++ r.0) (r.1 ∙ append_assoc Q (y ∷ b.rest) r.0) l
      ]

  -- merging gives one log or the other
  merged : (xs es P : List Entry) → Good Lead (P ++ xs) → Good Lead (P ++ es) → (P ++ merge xs es ≡ P ++ xs) ⊎ (P ++ merge xs es ≡ P ++ es)
  merged [] [] P g h = inl refl
  merged [] (e ∷ es) P g h = inr refl
  merged (x ∷ xs) [] P g h = inl refl
  merged (x ∷ xs) (e ∷ es) P g h = go (merged xs es (P ++ (x ∷ []))) (x.term == e.term) refl
    where
      snoc : (y : Entry) (ys : List Entry) → (P ++ (y ∷ [])) ++ ys ≡ P ++ (y ∷ ys)
      snoc y ys = append_assoc P (y ∷ []) ys

      go : (Good Lead ((P ++ (x ∷ [])) ++ xs) → Good Lead ((P ++ (x ∷ [])) ++ es) → ((P ++ (x ∷ [])) ++ merge xs es ≡ (P ++ (x ∷ [])) ++ xs) ⊎ ((P ++ (x ∷ [])) ++ merge xs es ≡ (P ++ (x ∷ [])) ++ es)) → (b : Bool) → (x.term == e.term) ≡ b → (P ++ cond b (x ∷ merge xs es) (e ∷ es) ≡ P ++ (x ∷ xs)) ⊎ (P ++ cond b (x ∷ merge xs es) (e ∷ es) ≡ P ++ (e ∷ es))
      go r false q = inr refl
      go r true q =
          let same = (matching P P x e (g P x xs refl) (h P e es refl) refl (eqb-true x.term e.term q)).1 in
          let g' = subst (λ (z : List Entry). Good Lead z) (sym (snoc x xs)) g in
          let h' = subst (λ (z : List Entry). Good Lead z) (sym (snoc x es)) (subst (λ (z : Entry). Good Lead (P ++ (z ∷ es))) (sym same) h) in
          elim (r g' h') [
            | inl a ↦ inl (sym (snoc x (merge xs es)) ∙ (a ∙ snoc x xs))
            | inr a ↦ inr (sym (snoc x (merge xs es)) ∙ (a ∙ (snoc x es ∙ ap (λ (z : Entry). P ++ (z ∷ es)) same)))
          ]

  -- and what was sent is a prefix of it
  merged_has : (xs es P : List Entry) → Good Lead (P ++ xs) → Good Lead (P ++ es) → Prefix (P ++ es) (P ++ merge xs es)
  merged_has [] [] P g h = pre_refl (P ++ [])
  merged_has [] (e ∷ es) P g h = pre_refl (P ++ (e ∷ es))
  merged_has (x ∷ xs) [] P g h = subst (λ (z : List Entry). Prefix z (P ++ (x ∷ xs))) (sym (nil P)) (pre_append P (x ∷ xs))
    where
      nil : (P : List Entry) → P ++ [] ≡ P
      nil [] = refl
      nil (p ∷ P) = ap (λ (z : List Entry). p ∷ z) (nil P)
  merged_has (x ∷ xs) (e ∷ es) P g h = go (merged_has xs es (P ++ (x ∷ []))) (x.term == e.term) refl
    where
      snoc : (y : Entry) (ys : List Entry) → (P ++ (y ∷ [])) ++ ys ≡ P ++ (y ∷ ys)
      snoc y ys = append_assoc P (y ∷ []) ys

      go : (Good Lead ((P ++ (x ∷ [])) ++ xs) → Good Lead ((P ++ (x ∷ [])) ++ es) → Prefix ((P ++ (x ∷ [])) ++ es) ((P ++ (x ∷ [])) ++ merge xs es)) → (b : Bool) → (x.term == e.term) ≡ b → Prefix (P ++ (e ∷ es)) (P ++ cond b (x ∷ merge xs es) (e ∷ es))
      go r false q = pre_refl (P ++ (e ∷ es))
      go r true q =
          let same = (matching P P x e (g P x xs refl) (h P e es refl) refl (eqb-true x.term e.term q)).1 in
          let g' = subst (λ (z : List Entry). Good Lead z) (sym (snoc x xs)) g in
          let h' = subst (λ (z : List Entry). Good Lead z) (sym (snoc x es)) (subst (λ (z : Entry). Good Lead (P ++ (z ∷ es))) (sym same) h) in
          subst (λ (z : Entry). Prefix (P ++ (z ∷ es)) (P ++ (x ∷ merge xs es))) same (subst (λ (z : List Entry). Prefix z (P ++ (x ∷ merge xs es))) (snoc x es) (subst (λ (z : List Entry). Prefix ((P ++ (x ∷ [])) ++ es) z) (snoc x (merge xs es)) (r g' h')))

  -- an Append leaves the old log or makes it the leader's
  pub record Copied (n o : Moment) : Type 0 where
    pub leader : ℕ
    pub log : List Entry
    pub lead : Lead n.term leader log
    pub is : (n.log ≡ o.log) ⊎ (n.log ≡ log)
    pub stays : Prefix log o.log → n.log ≡ o.log
    pub has : Prefix log n.log

  pub copied : (n o : Moment) → Good Lead o.log → ((j : ℕ) (m : List Entry) → Lead n.term j m → Good Lead m) → Copy Lead n o → Copied n o
  copied n o g h c =
      let same = fronts c.previous in
      let old : o.log ≡ c.front ++ c.old_rest = c.old_is ∙ ap (λ (z : List Entry). z ++ c.old_rest) same in
      let new : n.log ≡ c.front ++ merge c.old_rest c.rest = c.is ∙ ap (λ (z : List Entry). z ++ merge c.old_rest c.rest) same in
      record {
        leader = c.leader;
        log = c.front ++ c.rest;
        has = subst (λ (z : List Entry). Prefix (c.front ++ c.rest) z) (sym new) (merged_has c.old_rest c.rest c.front (subst (λ (z : List Entry). Good Lead z) old g) (h c.leader (c.front ++ c.rest) c.lead));
        lead = c.lead;
        is = elim (merged c.old_rest c.rest c.front (subst (λ (z : List Entry). Good Lead z) old g) (h c.leader (c.front ++ c.rest) c.lead)) [
          | inl a ↦ inl (new ∙ (a ∙ sym old))
          | inr a ↦ inr (new ∙ a)
        ];
        stays = λ p.
            let r = pre_rest (c.front ++ c.rest) o.log p in
            let t : c.front ++ c.old_rest ≡ c.front ++ (c.rest ++ r.0) = sym old ∙ (r.1 ∙ append_assoc c.front c.rest r.0) in
            let u = cancel c.front c.old_rest (c.rest ++ r.0) t in
            new ∙ (ap (λ (z : List Entry). c.front ++ merge z c.rest) u ∙ (ap (λ (z : List Entry). c.front ++ z) (merge_front c.rest r.0) ∙ (ap (λ (z : List Entry). c.front ++ z) (sym u) ∙ sym old)));
      }
    where
      cancel : (P a b : List Entry) → P ++ a ≡ P ++ b → a ≡ b
      cancel [] a b e = e
      cancel (p ∷ P) a b e = cancel P a b (cc)

      empty : (a : List Entry) → length a ≡ 0 → a ≡ []
      empty [] e = refl
      empty (x ∷ a) e = absurd (omega arith)

      fronts : (c.old_front ≡ []) ⊎ ((P Q : List Entry) × (p q : Entry) × (c.old_front ≡ P ++ (p ∷ [])) × (c.front ≡ Q ++ (q ∷ [])) × (p.term ≡ q.term)) → c.old_front ≡ c.front
      fronts (inl e) = let l = c.place in let k = ap length e in e ∙ sym (empty c.front (omega arith))
      fronts (inr w) =
          let P = w.0 in let Q = w.1 in let p = w.2 in let q = w.3 in
          let eo : o.log ≡ w.0 ++ (w.2 ∷ c.old_rest) = c.old_is ∙ (ap (λ (z : List Entry). z ++ c.old_rest) w.4 ∙ append_assoc w.0 (w.2 ∷ []) c.old_rest) in
          let em : c.front ++ c.rest ≡ w.1 ++ (w.3 ∷ c.rest) = ap (λ (z : List Entry). z ++ c.rest) w.5 ∙ append_assoc w.1 (w.3 ∷ []) c.rest in
          let l : length w.0 ≡ length w.1 = same_length w.0 w.1 w.2 w.3 (sym (ap length w.4) ∙ (c.place ∙ ap length w.5)) in
          let r = matching w.0 w.1 w.2 w.3 (g w.0 w.2 c.old_rest eo) (h c.leader (c.front ++ c.rest) c.lead w.1 w.3 c.rest em) l w.6 in
          w.4 ∙ (ap (λ (z : List Entry). z ++ (w.2 ∷ [])) r.0 ∙ (ap (λ (z : Entry). w.1 ++ (z ∷ [])) r.1 ∙ sym w.5))
        where
          same_length : (a b : List Entry) (x y : Entry) → length (a ++ (x ∷ [])) ≡ length (b ++ (y ∷ [])) → length a ≡ length b
          same_length [] [] x y e = refl
          same_length [] (z ∷ b) x y e = let k = long b y in absurd (omega arith)
            where
              long : (b : List Entry) (y : Entry) → 1 ≤ length (b ++ (y ∷ []))
              long [] y = omega arith
              long (z ∷ b) y = omega arith
          same_length (z ∷ a) [] x y e = let k = long a x in absurd (omega arith)
            where
              long : (b : List Entry) (y : Entry) → 1 ≤ length (b ++ (y ∷ []))
              long [] y = omega arith
              long (z ∷ b) y = omega arith
          same_length (z ∷ a) (w ∷ b) x y e = ap suc (same_length a b x y (omega arith))

  pub copied_has : (n o : Moment) → Good Lead o.log → ((j : ℕ) (m : List Entry) → Lead n.term j m → Good Lead m) → (c : Copy Lead n o) → Prefix (c.front ++ c.rest) n.log
  unfolding copied
  copied_has n o g h c = (copied n o g h c).has

  -- all logs are valid

  pub record Fine (o : Moment) : Type 0 where
    pub good : Good Lead o.log
    pub upto : Upto o.term o.log

  abbrev FineBelow : ℕ → Type 0
  FineBelow n = (k : ℕ) (o : Moment) (r : List Moment) → Tail (o ∷ r) (hist k) → o.term < n → Fine o

  empty_good : (log : List Entry) → log ≡ [] → Good Lead log
  empty_good log e [] x xs h = let q = sym e ∙ h in cc
  empty_good log e (p ∷ P) x xs h = let q = sym e ∙ h in cc

  empty_upto : (t : ℕ) (log : List Entry) → log ≡ [] → Upto t log
  empty_upto t log e x i = elim (subst (λ (z : List Entry). In x z) e i) [ ]

  lead_fine : (n t j : ℕ) (m : List Entry) → FineBelow n → t < suc n → Lead t j m → Good Lead m × Upto t m
  lead_fine n t j m fine l a =
      let b = facts.based t j m a in
      let base : Good Lead b.base × ((x : Entry) → In x b.base → x.term ≤ t) = from b.base b.from in (
        λ P x xs e. elim (split_cases P x xs b.base b.own (b.is ∙ e)) [
          | inl ys ↦ base.0 P x ys.0 ys.1
          | inr i ↦ let et = b.term x i in record { leader = j; rest = xs; lead = subst (λ (z : ℕ). Lead z j (P ++ (x ∷ xs))) (sym et) (subst (λ (z : List Entry). Lead t j z) e a) }
        ],
        λ x i. elim (in_append x b.base b.own (subst (λ (z : List Entry). In x z) (sym b.is) i)) [
          | inl u ↦ base.1 x u
          | inr u ↦ let et = b.term x u in omega arith
        ],
      )
    where
      from : (base : List Entry) → ((base ≡ []) × (t ≡ 1)) ⊎ (((o : Moment) × (r : List Moment) × Tail (o ∷ r) (hist j) × (o.term < t) × (base ≡ o.log)) × Won f hist t base) → Good Lead base × ((x : Entry) → In x base → x.term ≤ t)
      from base (inl e) = (empty_good base e.0, empty_upto t base e.0)
      from base (inr w) =
          let q = w.0 in
          let l1 = q.3 in
          let fo = fine j q.0 q.1 q.2 (omega arith) in (
            subst (λ (z : List Entry). Good Lead z) (sym q.4) fo.good,
            λ x i. let u = fo.upto x (subst (λ (z : List Entry). In x z) q.4 i) in omega arith,
          )

  fine_step : (n k : ℕ) (o q : Moment) → FineBelow n → o.term < suc n → Fine q → Step Lead k o q → Fine o
  fine_step n k o q fine l g s = by_kind s.1
    where
      by_kind : (o.log ≡ q.log) ⊎ (Grow Lead k o q ⊎ Copy Lead o q) → Fine o
      by_kind (inl e) = let st = s.0 in record {
        good = subst (λ (z : List Entry). Good Lead z) (sym e) g.good;
        upto = λ x i. let u = g.upto x (subst (λ (z : List Entry). In x z) e i) in omega arith;
      }
      by_kind (inr (inl w)) = let r = lead_fine n o.term k o.log fine l w.lead in record { good = r.0; upto = r.1 }
      by_kind (inr (inr c)) =
          let d = copied o q g.good (λ j m a. (lead_fine n o.term j m fine l a).0) c in
          let r = lead_fine n o.term d.leader d.log fine l d.lead in
          let st = s.0 in
          elim d.is [
            | inl e ↦ record {
              good = subst (λ (z : List Entry). Good Lead z) (sym e) g.good;
              upto = λ x i. let u = g.upto x (subst (λ (z : List Entry). In x z) e i) in omega arith;
            }
            | inr e ↦ record {
              good = subst (λ (z : List Entry). Good Lead z) (sym e) r.0;
              upto = λ x i. r.1 x (subst (λ (z : List Entry). In x z) e i);
            }
          ]

  fine_at : (n : ℕ) → FineBelow n → (k : ℕ) (o : Moment) (r : List Moment) → Tail (o ∷ r) (hist k) → Steps Lead k (o ∷ r) → o.term < suc n → Fine o
  fine_at n fine k o [] t s l = record { good = empty_good o.log s; upto = empty_upto o.term o.log s }
  fine_at n fine k o (q ∷ r) t s l =
      let st = s.0.0 in
      fine_step n k o q fine l (fine_at n fine k q r (tail_down o q r (hist k) t) s.1 (omega arith)) s.0

  fine_below : (n : ℕ) → FineBelow n
  fine_below zero k o r t l = absurd (omega arith)
  fine_below (suc n) k o r t l = fine_at n (fine_below n) k o r t (steps_tail Lead k o r (hist k) (facts.steps k) t) l

  pub all_fine : (k : ℕ) (o : Moment) (r : List Moment) → Tail (o ∷ r) (hist k) → Fine o
  all_fine k o r t = fine_below (suc o.term) k o r t (omega arith)

  pub all_lead : (t j : ℕ) (m : List Entry) → Lead t j m → Good Lead m × Upto t m
  all_lead t j m a = lead_fine t t j m (fine_below t) (omega arith) a

  -- leader completeness

  in_last : (P : List Entry) (x : Entry) → In x (P ++ (x ∷ []))
  in_last P x = in_right x P (x ∷ []) (inl refl)

  -- a committed prefix stays in a holder's log until it enters term u
  kept_front : (t u k : ℕ) (C : List Entry) (c : Committed f Lead hist t C) → ((v j : ℕ) (m : List Entry) → v < u → t < v → Lead v j m → Prefix C m) → (h : Moment) (s : List Moment) → h.term ≡ t → Prefix C h.log → (o : Moment) (r : List Moment) → Tail (o ∷ r) (hist k) → Steps Lead k (o ∷ r) → Tail (h ∷ s) (o ∷ r) → o.term < u → Prefix C o.log
  kept_front t u k C c ih h s et p o r tl st (inl e) l = let q : h ≡ o = cc in subst (λ (z : Moment). Prefix C z.log) q p
  kept_front t u k C c ih h s et p o [] tl st (inr e) l = cc
  kept_front t u k C c ih h s et p o (q ∷ r) tl st (inr e) l =
      let st0 = st.0.0 in
      let tq = tail_down o q r (hist k) tl in
      let older = tail_terms Lead k h s q r st.1 e in
      step (kept_front t u k C c ih h s et p q r tq st.1 e (omega arith)) st.0.1 (omega arith)
    where
      step : Prefix C q.log → (o.log ≡ q.log) ⊎ (Grow Lead k o q ⊎ Copy Lead o q) → t ≤ o.term → Prefix C o.log
      step g (inl a) lt = subst (λ (z : List Entry). Prefix C z) (sym a) g
      step g (inr (inl w)) lt = subst (λ (z : List Entry). Prefix C z) (sym w.is) (pre_trans C q.log (q.log ++ w.own) g (pre_append q.log w.own))
      step g (inr (inr w)) lt =
          let d = copied o q (all_fine k q r (tail_down o q r (hist k) tl)).good (λ j m a. (all_lead o.term j m a).0) w in
          let new : Prefix C d.log → Prefix C o.log = λ a. elim d.is [ inl e ↦ subst (λ (z : List Entry). Prefix C z) (sym e) g | inr e ↦ subst (λ (z : List Entry). Prefix C z) (sym e) a ] in
          elim (cases_eq t o.term) [
            | inl e ↦
                let a = subst (λ (z : ℕ). Lead z d.leader d.log) (sym e) d.lead in
                elim (leads t d.leader c.leader d.log c.log a c.lead) [
                  | inl x ↦ elim (pre_compare C d.log c.log c.stands x) [
                    | inl y ↦ new y
                    | inr y ↦ subst (λ (z : List Entry). Prefix C z) (sym (d.stays (pre_trans d.log C q.log y g))) g
                  ]
                  | inr x ↦ new (pre_trans C c.log d.log c.stands x)
                ]
            | inr ne ↦ new (ih o.term d.leader d.log l (omega arith) d.lead)
          ]

  complete : (n t u j : ℕ) (C m : List Entry) → u < n → t < u → Committed f Lead hist t C → Lead u j m → Prefix C m
  complete zero t u j C m ln lt c a = absurd (omega arith)
  complete (suc n) t u j C m ln lt c a =
      let b = facts.based u j m a in
      let one = facts.terms t c.leader c.log c.lead in
      subst (λ (z : List Entry). Prefix C z) b.is (pre_trans C b.base (b.base ++ b.own) (in_base (λ v i d x y z. complete n t v i C d (omega arith) y c z) b.base one b.from) (pre_append b.base b.own))
    where
      in_base : ((v i : ℕ) (d : List Entry) → v < u → t < v → Lead v i d → Prefix C d) → (base : List Entry) → 1 ≤ t → ((base ≡ []) × (u ≡ 1)) ⊎ (((o : Moment) × (r : List Moment) × Tail (o ∷ r) (hist j) × (o.term < u) × (base ≡ o.log)) × Won f hist u base) → Prefix C base
      in_base ih base one (inl e) = let z = e.1 in absurd (omega arith)
      in_base ih base one (inr w) =
          let won = w.1 in
          let k = share f c.makers won.makers c.majority won.majority in
          let v = won.each k.0 k.3 in
          let h = c.each k.0 k.2 in
          let ht = h.3 in
          let past = v.last h.0 h.1 h.2 (omega arith) in
          let vs = steps_tail Lead k.0 v.moment v.before (hist k.0) (facts.steps k.0) v.past in
          let held = kept_front t u k.0 C c ih h.0 h.1 h.3 h.4 v.moment v.before v.past vs past v.low in
          let fv = all_fine k.0 v.moment v.before v.past in
          let q = w.0 in
          let fb = all_fine j q.0 q.1 q.2 in
          let lb = q.3 in
          let g = subst (λ (z : List Entry). Good Lead z) (sym q.4) fb.good in
          let ub : Upto q.0.term base = λ x i. fb.upto x (subst (λ (z : List Entry). In x z) q.4 i) in
          compare v.moment.log held fv.good q.0.term lb g ub (last C c.is v.moment.log held) v.newer
        where
          last : (D : List Entry) → D ≡ c.front ++ (c.entry ∷ []) → (log : List Entry) → Prefix D log → (Q : List Entry) × (y : Entry) × (log ≡ Q ++ (y ∷ []))
          last [] e [] p = nothing c.front e
            where
              nothing : (P : List Entry) → [] ≡ P ++ (c.entry ∷ []) → (Q : List Entry) × (y : Entry) × ([] ≡ Q ++ (y ∷ []))
              nothing [] e = cc
              nothing (x ∷ P) e = cc
          last [] e (z ∷ zs) p = last_of z zs
          last (d ∷ D) e [] p = elim p [ ]
          last (d ∷ D) e (z ∷ zs) p = last_of z zs

          compare : (log : List Entry) → Prefix C log → Good Lead log → (bt : ℕ) → bt < u → Good Lead base → Upto bt base → ((Q : List Entry) × (y : Entry) × (log ≡ Q ++ (y ∷ []))) → Newer base log → Prefix C base
          compare log held gl bt lb g ub w' newer =
              let Q = w'.0 in let y = w'.1 in
              let ly = gl w'.0 w'.1 [] w'.2 in
              -- the committed entry is in the voter's log, so its last term is at least t
              let c_in : In c.entry C = subst (λ (z : List Entry). In c.entry z) (sym c.is) (in_last c.front c.entry) in
              let in_log = pre_in c.entry C log held c_in in
              let in_lead : In c.entry (w'.0 ++ (w'.1 ∷ ly.rest)) = elim (in_append c.entry w'.0 (w'.1 ∷ []) (subst (λ (z : List Entry). In c.entry z) w'.2 in_log)) [
                | inl i ↦ in_left c.entry w'.0 (w'.1 ∷ ly.rest) i
                | inr i ↦ in_right c.entry w'.0 (w'.1 ∷ ly.rest) (head w'.1 ly.rest i)
              ] in
              let yt = (all_lead y.term ly.leader (w'.0 ++ (w'.1 ∷ ly.rest)) ly.lead).1 c.entry in_lead in
              let ct = c.term in
              let x = newer.shows w'.0 w'.1 w'.2 in
              let lx = g x.0 x.1 [] x.2 in
              let xt = ub x.1 (subst (λ (z : List Entry). In x.1 z) (sym x.2) (in_last x.0 x.1)) in
              let front : Prefix base (x.0 ++ (x.1 ∷ lx.rest)) = subst (λ (z : List Entry). Prefix z (x.0 ++ (x.1 ∷ lx.rest))) (sym x.2) (subst (λ (z : List Entry). Prefix (x.0 ++ (x.1 ∷ [])) z) (append_assoc x.0 (x.1 ∷ []) lx.rest) (pre_append (x.0 ++ (x.1 ∷ [])) lx.rest)) in
              let higher : t < x.1.term → Prefix C base = λ l.
              elim (pre_compare C base (x.0 ++ (x.1 ∷ lx.rest)) (ih x.1.term lx.leader (x.0 ++ (x.1 ∷ lx.rest)) (omega arith) l lx.lead) front) [
                | inl p ↦ p
                | inr p ↦
                    let i = pre_in x.1 base C p (subst (λ (z : List Entry). In x.1 z) (sym x.2) (in_last x.0 x.1)) in
                    let tt' = (all_lead t c.leader c.log c.lead).1 x.1 (pre_in x.1 C c.log c.stands i) in
                    absurd (omega arith)
              ] in
              elim x.3 [
                | inl l ↦ higher (omega arith)
                | inr e ↦
                    let e0 = e.0 in
                    let e1 = e.1 in
                    elim (cases_eq t x.1.term) [
                      | inl s ↦
                          let a = subst (λ (z : ℕ). Lead z lx.leader (x.0 ++ (x.1 ∷ lx.rest))) (sym s) lx.lead in
                          let long = pre_length C log held in
                          let fit : Prefix C base ⊎ Prefix base C → Prefix C base = λ w. elim w [ inl p ↦ p | inr p ↦ pre_short base C p (omega arith) ] in
                          elim (leads t c.leader lx.leader c.log (x.0 ++ (x.1 ∷ lx.rest)) c.lead a) [
                            | inl p ↦ fit (pre_compare C base (x.0 ++ (x.1 ∷ lx.rest)) (pre_trans C c.log (x.0 ++ (x.1 ∷ lx.rest)) c.stands p) front)
                            | inr p ↦ fit (pre_compare C base c.log c.stands (pre_trans base (x.0 ++ (x.1 ∷ lx.rest)) c.log front p))
                          ]
                      | inr ne ↦ higher (omega arith)
                    ]
              ]
            where
              head : (y : Entry) (ys : List Entry) → (c.entry ≡ y) ⊎ ⊥ → (c.entry ≡ y) ⊎ In c.entry ys
              head y ys (inl e) = inl e
              head y ys (inr e) = elim e [ ]

  -- a committed prefix is in the log of each later leader
  pub completeness : (t u j : ℕ) (C m : List Entry) → t < u → Committed f Lead hist t C → Lead u j m → Prefix C m
  completeness t u j C m l c a = complete (suc u) t u j C m (omega arith) l c a

  -- of two committed prefixes, one is a prefix of the other
  pub agreement : (t u : ℕ) (C D : List Entry) → Committed f Lead hist t C → Committed f Lead hist u D → Prefix C D ⊎ Prefix D C
  agreement t u C D c d = elim (cases_lt t u) [
    | inl l ↦ pre_compare C D d.log (completeness t u d.leader C d.log l c d.lead) d.stands
    | inr l ↦ elim (cases_eq t u) [
      | inl e ↦ elim (leads t c.leader d.leader c.log d.log c.lead (subst (λ (z : ℕ). Lead z d.leader d.log) (sym e) d.lead)) [
        | inl p ↦ pre_compare C D d.log (pre_trans C c.log d.log c.stands p) d.stands
        | inr p ↦ pre_compare C D c.log c.stands (pre_trans D d.log c.log d.stands p)
      ]
      | inr ne ↦ pre_compare C D c.log c.stands (completeness u t c.leader D c.log (omega arith) d c.lead)
    ]
  ]
