-- The code's branches are the model's.
use Rattle.std.proofs.Common.{◌≡◌, ◌≤◌, ◌<◌, ℕ, zero, suc, ◌+◌, ◌||◌, cond, Bool, true, false, if◌then◌else◌, List, [], ◌∷◌, ◌++◌, length, drop, reverse, Option, Some, None, is_some, refl, sym, ap, ◌∙◌, subst, arith, append_assoc, append-nil}
use Rattle.std.specs.Prelude.{slice_get, min}
use Rattle.std.proofs.lemmas.List.{drop-append-le, length-append, length-drop, nil_from_length}
use Rattle.std.proofs.lemmas.List.{reverse-append}
use Rattle.std.specs.Cmp.Lexicographic.{slice_cmp}
use Rattle.std.specs.Ordering.{is_eq, nat_cmp}
use Rattle.iss_base.specs.Lists.{same_bytes}
use Rattle.iss_request.specs.declared.requests.Value.{Value}
use Rattle.iss_sb.specs.Evidence.{one_or_none}
use Rattle.iss_sb.specs.declared.content.Content.{Content}
use Rattle.iss_sb.specs.declared.content.Content.TheVariants.{Nil, Holds, Mark}
use Rattle.hs_tree.specs.declared.tree.Known.{Known}
use Rattle.iss_sb.proofs.Cases.{same_list}
use Rattle.hs_tree.specs.declared.tree.Tree.{Tree}
use Rattle.hs_tree.specs.Known.{IsKept, Keeps, Leads, known_at, meets, path, place, values, whats}
use Rattle.hs_tree.specs.Tree.{Node, branch, extends, filled, is_known, root, value_of, weight}

pub branch-path : (ks : List Node) (d : List ℕ) → branch ks d ≡ whats (path ks d)
branch-path [] d = refl
branch-path (k ∷ ks) d = go (same_bytes k.digest d) (branch-path ks k.parent) (branch-path ks d)
  where
    go : (b : Bool) → branch ks k.parent ≡ whats (path ks k.parent) → branch ks d ≡ whats (path ks d) →
        (if b then k.what ∷ branch ks k.parent else branch ks d) ≡ whats (if b then k ∷ path ks k.parent else path ks d)
    go true up on = ap (λ (z : List Content). k.what ∷ z) up
    go false up on = on

or-twice : (a b : Bool) → (a || (a || b)) ≡ (a || b)
or-twice true b = refl
or-twice false b = refl

pub extends-path : (ks : List Node) (d e : List ℕ) → extends ks d e ≡ (same_bytes d e || meets e (path ks d))
extends-path [] d e = sym (none (same_bytes d e))
  where
    none : (a : Bool) → (a || false) ≡ a
    none true = refl
    none false = refl
extends-path (k ∷ ks) d e = go (same_bytes k.digest d) (extends-path ks k.parent e) (extends-path ks d e)
  where
    go : (b : Bool) → extends ks k.parent e ≡ (same_bytes k.parent e || meets e (path ks k.parent)) → extends ks d e ≡ (same_bytes d e || meets e (path ks d)) →
        (same_bytes d e || (if b then extends ks k.parent e else extends ks d e)) ≡ (same_bytes d e || meets e (if b then k ∷ path ks k.parent else path ks d))
    go true up on = ap (λ (z : Bool). same_bytes d e || z) up
    go false up on = ap (λ (z : Bool). same_bytes d e || z) on ∙ or-twice (same_bytes d e) (meets e (path ks d))

pub weight-few : (c : Content) → weight c ≤ 1
weight-few Nil = omega arith
weight-few (Holds b) = omega arith
weight-few Mark = omega arith

pub filled-few : (ks : List Node) → filled (whats ks) ≤ length ks
filled-few [] = omega arith
filled-few (k ∷ ks) = let one = weight-few k.what in let rest = filled-few ks in omega (arith, one, rest)

-- ---- One more node

more-get : (xs : List Known) (x n : Known) (i : ℕ) → slice_get xs i ≡ Some n → slice_get (xs ++ x ∷ []) i ≡ Some n
more-get [] x n i h = absurd cc
more-get (y ∷ ys) x n zero h = h
more-get (y ∷ ys) x n (suc i) h = more-get ys x n i h

last-get : (xs : List Known) (x : Known) → slice_get (xs ++ x ∷ []) (length xs) ≡ Some x
last-get [] x = refl
last-get (y ∷ ys) x = last-get ys x

more-at : (xs : List Known) (x n : Known) (o : Option ℕ) → known_at xs o ≡ Some n → known_at (xs ++ x ∷ []) o ≡ Some n
more-at xs x n None h = absurd cc
more-at xs x n (Some i) h = more-get xs x n i h

leads-more : (nodes : List Known) (x : Known) (o : Option ℕ) (ks : List Node) → Leads nodes o ks → Leads (nodes ++ x ∷ []) o ks
leads-more nodes x o [] h = h
leads-more nodes x o (k ∷ ks) h = (h.0, more-at nodes x h.0 o h.1, h.2, leads-more nodes x h.0.above ks h.3)

-- ---- The node at an index

module _ (nodes : List Known) (o : Option ℕ) where
  -- the node at this index, with its branch
  pub record IsOne (n : Known) (ks : List Node) : Type 0 where
    pub node : Node
    pub rest : List Node
    pub is : ks ≡ node ∷ rest
    pub kept : IsKept n node rest
    pub leads : Leads nodes n.above rest

  pub one : (n : Known) (ks : List Node) → Leads nodes o ks → known_at nodes o ≡ Some n → IsOne n ks
  one n [] h e = let none : None ≡ Some n = sym (ap (λ (z : Option ℕ). known_at nodes z) h) ∙ e in absurd cc
  one n (k ∷ ks) h e =
      let both : Some h.0 ≡ Some n = sym h.1 ∙ e in
      let same : h.0 ≡ n = cc in
      subst (λ (z : Known). IsOne z (k ∷ ks)) same (record { node = k; rest = ks; is = refl; kept = h.2; leads = h.3 })

  pub none : (ks : List Node) → Leads nodes o ks → known_at nodes o ≡ None → ks ≡ []
  none [] h e = refl
  none (k ∷ ks) h e = let both : None ≡ Some h.0 = sym e ∙ h.1 in absurd cc

  pub depth-some : (n : Known) (ks : List Node) → Leads nodes o ks → known_at nodes o ≡ Some n → n.depth ≡ length ks
  depth-some n ks h e = let a = one n ks h e in a.kept.depth ∙ ap (λ (z : List Node). length z) (sym a.is)

  pub slots-some : (n : Known) (ks : List Node) → Leads nodes o ks → known_at nodes o ≡ Some n → n.slots ≡ filled (whats ks)
  slots-some n ks h e = let a = one n ks h e in a.kept.slots ∙ ap (λ (z : List Node). filled (whats z)) (sym a.is)

  pub depth-none : (ks : List Node) → Leads nodes o ks → known_at nodes o ≡ None → 0 ≡ length ks
  depth-none ks h e = ap (λ (z : List Node). length z) (sym (none ks h e))

  pub slots-none : (ks : List Node) → Leads nodes o ks → known_at nodes o ≡ None → 0 ≡ filled (whats ks)
  slots-none ks h e = ap (λ (z : List Node). filled (whats z)) (sym (none ks h e))

-- ---- From an index towards the root

-- the rest of the walk after this many nodes
pub record Looks (nodes : List Known) (here : Option ℕ) (count : ℕ) (e : List ℕ) (ks : List Node) : Type 0 where
  pub rest : List Node
  pub leads : Leads nodes here rest
  pub left : count + length rest ≡ length ks
  pub same : meets e ks ≡ meets e rest

module _ (nodes : List Known) (here : Option ℕ) (e : List ℕ) (ks : List Node) where
  pub looks-start : Leads nodes here ks → Looks nodes here 0 e ks
  looks-start h = record { rest = ks; leads = h; left = omega arith; same = refl }

  module _ (count : ℕ) (h : Looks nodes here count e ks) where
    pub looks-next : (n : Known) → known_at nodes here ≡ Some n → same_bytes n.parent e ≡ false → Looks nodes n.above (count + 1) e ks
    looks-next n at other =
        let a = one nodes here n h.rest h.leads at in
        let long = ap (λ (z : List Node). length z) a.is in
        let left = h.left in
        let parent = a.kept.parent in
        record {
          rest = a.rest;
          leads = a.leads;
          left = omega (arith, long, left);
          same = h.same ∙ ap (λ (z : List Node). meets e z) a.is ∙ ap (λ (z : Bool). z || meets e a.rest) (ap (λ (z : List ℕ). same_bytes z e) (sym parent) ∙ other);
        }

    pub looks-true : (n : Known) → known_at nodes here ≡ Some n → same_bytes n.parent e ≡ true → true ≡ meets e ks
    looks-true n at yep =
        let a = one nodes here n h.rest h.leads at in
        let parent = a.kept.parent in
        sym (h.same ∙ ap (λ (z : List Node). meets e z) a.is ∙ ap (λ (z : Bool). z || meets e a.rest) (ap (λ (z : List ℕ). same_bytes z e) (sym parent) ∙ yep))

    pub looks-none : known_at nodes here ≡ None → false ≡ meets e ks
    looks-none at = sym (h.same ∙ ap (λ (z : List Node). meets e z) (none nodes here h.rest h.leads at))

    pub looks-end : length ks ≤ count → false ≡ meets e ks
    looks-end le =
        let left = h.left in
        let over : length h.rest ≡ 0 = omega (arith, left, le) in
        sym (h.same ∙ ap (λ (z : List Node). meets e z) (nil_from_length h.rest over))

-- ---- Values of a branch

pub length-values : (cs : List Content) → length (values cs) ≡ filled cs
length-values [] = refl
length-values (c ∷ cs) = let both = length-append (values cs) (one_or_none (value_of c)) in let rest = length-values cs in let here = single c in omega (arith, both, rest, here)
  where
    single : (c : Content) → length (one_or_none (value_of c)) ≡ weight c
    single Nil = refl
    single (Holds b) = refl
    single Mark = refl

held-few : (c : Content) → length (one_or_none (value_of c)) ≤ 1
held-few Nil = omega arith
held-few (Holds b) = omega arith
held-few Mark = omega arith

turned : (vs : List Value) → length vs ≤ 1 → vs ≡ reverse vs
turned [] h = refl
turned (v ∷ []) h = refl
turned (v ∷ (u ∷ us)) h = absurd (omega (arith, h))

pub record Gathers (nodes : List Known) (here : Option ℕ) (count from : ℕ) (found : List Value) (ks : List Node) : Type 0 where
  pub rest : List Node
  pub leads : Leads nodes here rest
  pub left : count + length rest ≡ length ks
  pub same : drop from (values (whats ks)) ≡ drop from (values (whats rest)) ++ reverse found

drop-none : {A : Type 0} (n : ℕ) → drop n (let xs : List A = [] in xs) ≡ []
drop-none zero = refl
drop-none (suc n) = refl

dropped : {A : Type 0} (n : ℕ) (xs : List A) → length xs ≤ n → drop n xs ≡ []
dropped n xs le = nil_from_length (drop n xs) (let d = length-drop n xs in omega (arith, d, le))

module _ (nodes : List Known) (here : Option ℕ) (from : ℕ) (ks : List Node) where
  pub gathers-start : Leads nodes here ks → Gathers nodes here 0 from [] ks
  gathers-start h = record { rest = ks; leads = h; left = omega arith; same = sym (append-nil (drop from (values (whats ks)))) }

  module _ (count : ℕ) (found : List Value) (h : Gathers nodes here count from found ks) where
    over : length (values (whats h.rest)) ≤ from → reverse found ≡ drop from (values (whats ks))
    over le = sym (h.same ∙ ap (λ (z : List Value). z ++ reverse found) (dropped from (values (whats h.rest)) le))

    pub gathers-none : known_at nodes here ≡ None → reverse found ≡ drop from (values (whats ks))
    gathers-none at = over (let e = ap (λ (z : List Node). length (values (whats z))) (none nodes here h.rest h.leads at) in omega (arith, e))

    pub gathers-end : length ks ≤ count → reverse found ≡ drop from (values (whats ks))
    gathers-end le =
        let left = h.left in
        let short : length h.rest ≡ 0 = omega (arith, left, le) in
        let e = ap (λ (z : List Node). length (values (whats z))) (nil_from_length h.rest short) in
        over (omega (arith, e))

    module _ (n : Known) (at : known_at nodes here ≡ Some n) where
      pub gathers-low : n.slots ≤ from → reverse found ≡ drop from (values (whats ks))
      gathers-low le = let s = slots-some nodes here n h.rest h.leads at in let v = length-values (whats h.rest) in over (omega (arith, s, v, le))

      abbrev a : IsOne nodes here n h.rest
      a = one nodes here n h.rest h.leads at

      split : (vs : List Value) → one_or_none (value_of n.what) ≡ vs → drop from (values (whats ks)) ≡ drop from (values (whats a.rest) ++ vs) ++ reverse found
      split vs e =
          h.same ∙ ap (λ (z : List Node). drop from (values (whats z)) ++ reverse found) a.is
          ∙ ap (λ (z : Content). drop from (values (whats a.rest) ++ one_or_none (value_of z)) ++ reverse found) (sym a.kept.what)
          ∙ ap (λ (z : List Value). drop from (values (whats a.rest) ++ z) ++ reverse found) e

      left_over : count + 1 + length a.rest ≡ length ks
      left_over = let long = ap (λ (z : List Node). length z) a.is in let left = h.left in omega (arith, long, left)

      pub gathers-next : (vs : List Value) → from < n.slots → vs ≡ found ++ one_or_none (value_of n.what) → Gathers nodes n.above (count + 1) from vs ks
      gathers-next vs lt e = subst (λ (z : List Value). Gathers nodes n.above (count + 1) from z ks) (sym e) (many (one_or_none (value_of n.what)) refl low_enough)
        where
          le : from + 1 ≤ weight n.what + length (values (whats a.rest))
          le =
              let what = ap (λ (z : Content). weight z) a.kept.what in
              let slots = a.kept.slots in
              let long = length-values (whats a.rest) in
              omega (arith, what, slots, long, lt)

          many : (vs : List Value) → one_or_none (value_of n.what) ≡ vs → from ≤ length (values (whats a.rest)) → Gathers nodes n.above (count + 1) from (found ++ vs) ks
          many vs e low = record {
            rest = a.rest;
            leads = a.leads;
            left = left_over;
            same = split vs e ∙ ap (λ (z : List Value). z ++ reverse found) (drop-append-le from (values (whats a.rest)) vs low)
                ∙ append_assoc (drop from (values (whats a.rest))) vs (reverse found)
                ∙ ap (λ (z : List Value). drop from (values (whats a.rest)) ++ (z ++ reverse found)) (turned vs few)
                ∙ ap (λ (z : List Value). drop from (values (whats a.rest)) ++ z) (sym (reverse-append found vs));
          }
            where
              few : length vs ≤ 1
              few = subst (λ (z : List Value). length z ≤ 1) e (held-few n.what)

          low_enough : from ≤ length (values (whats a.rest))
          low_enough = let few = weight-few n.what in let l = le in omega (arith, few, l)

-- ---- One more node

module _ (t u : Tree) (k : Node) (ks : List Node) (n : Known) (h : Keeps t ks) (items : u.nodes.items ≡ t.nodes.items ++ n ∷ [])
    (places : (d : List ℕ) → place u d ≡ cond (same_bytes k.digest d) (Some (length t.nodes.items)) (place t d))
    (above : n.above ≡ place t k.parent) (parent : n.parent ≡ k.parent) (what : n.what ≡ k.what)
    (depth : n.depth ≡ suc (length (path ks k.parent))) (slots : n.slots ≡ weight k.what + filled (whats (path ks k.parent))) where
  abbrev more : List Known
  more = t.nodes.items ++ n ∷ []

  leads-add : (d : List ℕ) → Leads more (cond (same_bytes k.digest d) (Some (length t.nodes.items)) (place t d)) (path (k ∷ ks) d)
  leads-add d = go (same_bytes k.digest d)
    where
      go : (b : Bool) → Leads more (cond b (Some (length t.nodes.items)) (place t d)) (if b then k ∷ path ks k.parent else path ks d)
      go true = (
        n,
        last-get t.nodes.items n,
        record { parent = parent; what = what; depth = depth; slots = slots },
        subst (λ (o : Option ℕ). Leads more o (path ks k.parent)) (sym above) (leads-more t.nodes.items n (place t k.parent) (path ks k.parent) (h.leads k.parent)),
      )
      go false = leads-more t.nodes.items n (place t d) (path ks d) (h.leads d)

  known-add : (d : List ℕ) → is_known (k ∷ ks) d ≡ (is_some (place u d) || same_bytes d root)
  known-add d = go (same_bytes k.digest d) (h.known d) ∙ ap (λ (o : Option ℕ). is_some o || same_bytes d root) (sym (places d))
    where
      go : (b : Bool) → is_known ks d ≡ (is_some (place t d) || same_bytes d root) →
          (b || is_known ks d) ≡ (is_some (cond b (Some (length t.nodes.items)) (place t d)) || same_bytes d root)
      go true e = refl
      go false e = e

  few-add : (d : List ℕ) → length (path (k ∷ ks) d) ≤ length more
  few-add d =
      let long = length-append t.nodes.items (n ∷ []) in
      let up = h.few k.parent in
      let on = h.few d in
      by_test (same_bytes k.digest d) (omega (arith, long, up)) (omega (arith, long, on))
    where
      by_test : (b : Bool) → suc (length (path ks k.parent)) ≤ length more → length (path ks d) ≤ length more → length (if b then k ∷ path ks k.parent else path ks d) ≤ length more
      by_test true a c = a
      by_test false a c = c

  pub keeps-add : Keeps u (k ∷ ks)
  keeps-add = record {
    leads = λ d. subst (λ (z : List Known). Leads z (place u d) (path (k ∷ ks) d)) (sym items) (subst (λ (o : Option ℕ). Leads more o (path (k ∷ ks) d)) (sym (places d)) (leads-add d));
    known = known-add;
    few = λ d. subst (λ (z : List Known). length (path (k ∷ ks) d) ≤ length z) (sym items) (few-add d);
  }

-- ---- Branches by digest

module _ (t : Tree) (ks : List Node) (d : List ℕ) (h : Keeps t ks) (o : Option ℕ) (at : o ≡ place t d) where
  pub from-place : Leads t.nodes.items o (path ks d)
  from-place = subst (λ (z : Option ℕ). Leads t.nodes.items z (path ks d)) (sym at) (h.leads d)

  pub slots-there : (n : ℕ) → n ≡ filled (whats (path ks d)) → n ≡ filled (branch ks d)
  slots-there n e = e ∙ ap (λ (z : List Content). filled z) (sym (branch-path ks d))

  pub extends-same : (e : List ℕ) (b : Bool) → same_bytes d e ≡ true → b ≡ true → b ≡ extends ks d e
  extends-same e b yep is = is ∙ sym (extends-path ks d e ∙ ap (λ (z : Bool). z || meets e (path ks d)) yep)

  pub extends-other : (e : List ℕ) (b : Bool) → same_bytes d e ≡ false → b ≡ meets e (path ks d) → b ≡ extends ks d e
  extends-other e b other is = is ∙ sym (extends-path ks d e ∙ ap (λ (z : Bool). z || meets e (path ks d)) other)

  pub values-there : (from : ℕ) (vs : List Value) → vs ≡ drop from (values (whats (path ks d))) → vs ≡ drop from (values (branch ks d))
  values-there from vs e = e ∙ ap (λ (z : List Content). drop from (values z)) (sym (branch-path ks d))

-- the root's digest as a constant
pub has-there : (t : Tree) (ks : List Node) (d : List ℕ) → Keeps t ks → (b : Bool) → is_some (place t d) ≡ b → (c : Bool) → c ≡ (b || same_bytes d root) → c ≡ is_known ks d
has-there t ks d h b e c is = is ∙ ap (λ (z : Bool). z || same_bytes d root) (sym e) ∙ sym (h.known d)

-- a node appended to the vector
pub added : (t u : Tree) (k : Node) (ks : List Node) (above : Option ℕ) (depth slots weighs at : ℕ) → Keeps t ks → above ≡ place t k.parent →
    (n : Known) → n.parent ≡ k.parent → n.what ≡ k.what → n.above ≡ above → length t.nodes.items < 9223372036854775808 →
    ((rest : List Node) → Leads t.nodes.items above rest → depth ≡ length rest) → ((rest : List Node) → Leads t.nodes.items above rest → slots ≡ filled (whats rest)) →
    weighs ≡ weight k.what → n.depth ≡ min (depth + 1) 18446744073709551615 → n.slots ≡ min (slots + weighs) 18446744073709551615 →
    u.nodes.items ≡ t.nodes.items ++ n ∷ [] → at ≡ length t.nodes.items →
    ((d : List ℕ) → place u d ≡ cond (is_eq (slice_cmp nat_cmp k.digest d)) (Some at) (place t d)) → Keeps u (k ∷ ks)
added t u k ks above depth slots weighs at h is n parent what up small deep full light depth_is slots_is items at_is places =
    let way = from-place t ks k.parent h above is in
    let d = deep (path ks k.parent) way in
    let s = full (path ks k.parent) way in
    let few = h.few k.parent in
    let fill = filled-few (path ks k.parent) in
    let one = weight-few k.what in
    keeps-add t u k ks n h items
    (λ q. places q ∙ ap (λ (z : Bool). let o : Option ℕ = cond z (Some at) (place t q) in o) (same_list k.digest q)
    ∙ ap (λ (z : ℕ). let o : Option ℕ = cond (same_bytes k.digest q) (Some z) (place t q) in o) at_is)
    (up ∙ is) parent what (omega (arith, depth_is, d, few, small)) (omega (arith, slots_is, s, light, fill, few, one, small))
