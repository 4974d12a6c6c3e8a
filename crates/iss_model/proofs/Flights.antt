-- What is in flight: what returns, and what stays.
use Rattle.std.proofs.Common.{◌≡◌, ◌⊎◌, inl, inr, ℕ, suc, ◌<◌, Bool, true, false, cond, eqb, not, List, [], ◌∷◌, ◌++◌, length, refl, sym, ap, ◌∙◌, subst, arith, append_assoc, true≢false}
use Rattle.std.specs.Prelude.{nat_lt}
use Rattle.std.proofs.lemmas.Bool.Decides.{leb_tells}
use Rattle.iss_base.specs.Lists.{Different, In}
use Rattle.iss_base.proofs.Lists.{different-apart, different-left, different-right, in_append, in_left, in_right, is-eq}
use Rattle.iss_request.specs.Formats.{is_batch}
use Rattle.iss_request.specs.Log.{ids}
use Rattle.iss_request.specs.declared.ids.ReqId.{ReqId}
use Rattle.iss_request.specs.declared.ids.Slot.{Slot}
use Rattle.iss_request.specs.declared.requests.Batch.{Batch}
use Rattle.iss_request.specs.declared.requests.Request.{Request}
use Rattle.iss_request.specs.declared.requests.Value.{Value}
use Rattle.iss_buckets.specs.Waiting.{absent, cut, uncut}
use Rattle.iss_model.specs.Node.{flown, flying, is_nil_at, returned}
use Rattle.iss_model.specs.Sound.{carried}
use Rattle.iss_model.proofs.Cuts.{absent-ids, absent-in, absent-once, cut-ids, cut-in, cut-once, cut-uncut-apart, uncut-ids, uncut-in, uncut-once}
use Rattle.iss_rules.proofs.Ids.{ids-append, ids-in, ids-once, in-ids}

-- identities of two lists together

pub ids-join : (qs rs : List Request) → ids (qs ++ rs) ≡ ids qs ++ ids rs
ids-join [] rs = refl
ids-join (q ∷ qs) rs = ap (λ (xs : List ReqId). q.id ∷ xs) (ids-join qs rs)

pub record RefinesBareCore (qs rs : List Request) : Type 0 where
  pub left : Different (ids qs)
  pub right : Different (ids rs)
  pub apart : (x : ReqId) → In x (ids qs) → In x (ids rs) → ⊥

pub parts-of : (qs rs : List Request) → Different (ids (qs ++ rs)) → RefinesBareCore qs rs
parts-of qs rs d =
    let e : Different (ids qs ++ ids rs) = subst (λ (xs : List ReqId). Different xs) (ids-join qs rs) d in
    record { left = different-left (ids qs) (ids rs) e; right = different-right (ids qs) (ids rs) e; apart = different-apart (ids qs) (ids rs) e }

-- what is carried

pub carried-append : (fs gs : List (Slot × Batch)) → carried (fs ++ gs) ≡ carried fs ++ carried gs
carried-append [] gs = refl
carried-append (f ∷ fs) gs = ap (λ (qs : List Request). f.1 ++ qs) (carried-append fs gs) ∙ sym (append_assoc f.1 (carried fs) (carried gs))

pub ids-carried : (fs : List (Slot × Batch)) → ids (carried fs) ≡ flown fs
ids-carried [] = refl
ids-carried (f ∷ fs) = ids-join f.1 (carried fs) ∙ ap (λ (xs : List ReqId). ids f.1 ++ xs) (ids-carried fs)

-- what returns

pub returned-in : (log : List Value) (fs : List (Slot × Batch)) (q : Request) → In q (returned log fs) → In q (carried fs)
returned-in log [] q h = absurd h
returned-in log (f ∷ fs) q h = go (returned-in log fs q) (is_nil_at log f.0.0) h
  where
    go : (In q (returned log fs) → In q (carried fs)) → (b : Bool) → In q (cond b (f.1 ++ returned log fs) (returned log fs)) → In q (f.1 ++ carried fs)
    go ih true k = elim (in_append q f.1 (returned log fs) k) [ inl a ↦ in_left q f.1 (carried fs) a | inr a ↦ in_right q f.1 (carried fs) (ih a) ]
    go ih false k = in_right q f.1 (carried fs) (ih k)

-- what stays

pub flying-in : (n : ℕ) (fs : List (Slot × Batch)) (q : Request) → In q (carried (flying n fs)) → In q (carried fs)
flying-in n [] q h = absurd h
flying-in n (f ∷ fs) q h = go (flying-in n fs q) (nat_lt f.0.0 n) h
  where
    go : (In q (carried (flying n fs)) → In q (carried fs)) → (b : Bool) → In q (carried (cond b (flying n fs) (f ∷ flying n fs))) → In q (f.1 ++ carried fs)
    go ih true k = in_right q f.1 (carried fs) (ih k)
    go ih false k = elim (in_append q f.1 (carried (flying n fs)) k) [ inl a ↦ in_left q f.1 (carried fs) a | inr a ↦ in_right q f.1 (carried fs) (ih a) ]

-- a list of requests that is contained in another
pub ids-within : (qs rs : List Request) → ((q : Request) → In q qs → In q rs) → (x : ReqId) → In x (ids qs) → In x (ids rs)
ids-within qs rs h x i = let r = ids-in x qs i in rw r.2 (in-ids r.0 rs (h r.0 r.1))

pub returned-ids : (log : List Value) (fs : List (Slot × Batch)) (x : ReqId) → In x (ids (returned log fs)) → In x (ids (carried fs))
returned-ids log fs = ids-within (returned log fs) (carried fs) (returned-in log fs)

pub flying-ids : (n : ℕ) (fs : List (Slot × Batch)) (x : ReqId) → In x (ids (carried (flying n fs))) → In x (ids (carried fs))
flying-ids n fs = ids-within (carried (flying n fs)) (carried fs) (flying-in n fs)

pub returned-once : (log : List Value) (fs : List (Slot × Batch)) → Different (ids (carried fs)) → Different (ids (returned log fs))
returned-once log [] d = tt
returned-once log (f ∷ fs) d = let p = parts-of f.1 (carried fs) d in go p (returned-once log fs p.right) (is_nil_at log f.0.0)
  where
    go : RefinesBareCore f.1 (carried fs) → Different (ids (returned log fs)) → (b : Bool) → Different (ids (cond b (f.1 ++ returned log fs) (returned log fs)))
    go p ih true = ids-once f.1 (returned log fs) p.left ih (λ x a b. p.apart x a (returned-ids log fs x b))
    go p ih false = ih

pub flying-once : (n : ℕ) (fs : List (Slot × Batch)) → Different (ids (carried fs)) → Different (ids (carried (flying n fs)))
flying-once n [] d = tt
flying-once n (f ∷ fs) d = let p = parts-of f.1 (carried fs) d in go p (flying-once n fs p.right) (nat_lt f.0.0 n)
  where
    go : RefinesBareCore f.1 (carried fs) → Different (ids (carried (flying n fs))) → (b : Bool) → Different (ids (carried (cond b (flying n fs) (f ∷ flying n fs))))
    go p ih true = ih
    go p ih false = ids-once f.1 (carried (flying n fs)) p.left ih (λ x a b. p.apart x a (flying-ids n fs x b))

-- a slot that became nil is in the log
pub nil-below : (log : List Value) (s : ℕ) → is_nil_at log s ≡ true → s < length log
nil-below [] s h = absurd (true≢false (sym h))
nil-below (v ∷ older) s h = go (nil-below older s) (eqb s (length older)) refl h
  where
    go : (is_nil_at older s ≡ true → s < length older) → (b : Bool) → eqb s (length older) ≡ b → cond b (not (is_batch v)) (is_nil_at older s) ≡ true →
        s < suc (length older)
    go ih true q k = let e = is-eq s (length older) q in omega (arith, e)
    go ih false q k = let lt = ih k in omega (arith, lt)

lt-is : (a b : ℕ) → a < b → nat_lt a b ≡ true
lt-is a b h = elim (leb_tells (suc a) b) [ inl t ↦ t.0 | inr t ↦ absurd (omega (arith, t.1, h)) ]

-- so what returns is not in flight
pub returned-apart : (log : List Value) (fs : List (Slot × Batch)) → Different (ids (carried fs)) → (x : ReqId) → In x (ids (returned log fs)) →
    In x (ids (carried (flying (length log) fs))) → ⊥
returned-apart log [] d x a b = a
returned-apart log (f ∷ fs) d x a b =
    let p = parts-of f.1 (carried fs) d in
    go p (returned-apart log fs p.right x) (is_nil_at log f.0.0) refl (nat_lt f.0.0 (length log)) refl a b
  where
    n : ℕ
    n = length log

    go : RefinesBareCore f.1 (carried fs) → (In x (ids (returned log fs)) → In x (ids (carried (flying (length log) fs))) → ⊥) → (b1 : Bool) →
        is_nil_at log f.0.0 ≡ b1 → (b2 : Bool) → nat_lt f.0.0 (length log) ≡ b2 →
        In x (ids (cond b1 (f.1 ++ returned log fs) (returned log fs))) →
        In x (ids (carried (cond b2 (flying (length log) fs) (f ∷ flying (length log) fs)))) → ⊥
    go p ih true e true r k m = elim (ids-append x f.1 (returned log fs) k) [ inl y ↦ p.apart x y (flying-ids (length log) fs x m) | inr y ↦ ih y m ]
    go p ih true e false r k m = true≢false (sym (lt-is f.0.0 (length log) (nil-below log f.0.0 e)) ∙ r)
    go p ih false e true r k m = ih k m
    go p ih false e false r k m =
        elim (ids-append x f.1 (carried (flying (length log) fs)) m) [ inl y ↦ p.apart x y (returned-ids log fs x k) | inr y ↦ ih k y ]

-- what a core holds after its log has grown: ordered requests are gone, and those at nil slots wait again

module _ (gone all : List ReqId) (log : List Value) (w : List Request) (fs : List (Slot × Batch)) where
  abbrev waits_again : List Request
  waits_again = absent gone w ++ absent all (returned log fs)

  pub refiled-in : (q : Request) → In q (waits_again ++ carried (flying (length log) fs)) → In q (w ++ carried fs)
  refiled-in q h = elim (in_append q waits_again (carried (flying (length log) fs)) h) [
    | inr k ↦ in_right q w (carried fs) (flying-in (length log) fs q k)
    | inl k ↦ elim (in_append q (absent gone w) (absent all (returned log fs)) k) [
      | inl a ↦ in_left q w (carried fs) (absent-in gone w q a).0
      | inr a ↦ in_right q w (carried fs) (returned-in log fs q (absent-in all (returned log fs) q a).0)
    ]
  ]

  pub refiled-once : Different (ids (w ++ carried fs)) → Different (ids (waits_again ++ carried (flying (length log) fs)))
  refiled-once d =
      let p = parts-of w (carried fs) d in
      ids-once waits_again (carried (flying (length log) fs))
      (ids-once (absent gone w) (absent all (returned log fs)) (absent-once gone w p.left) (absent-once all (returned log fs) (returned-once log fs p.right))
      (λ x a b. p.apart x (absent-ids gone w x a).0 (returned-ids log fs x (absent-ids all (returned log fs) x b).0)))
      (flying-once (length log) fs p.right)
      (λ x a b. elim (ids-append x (absent gone w) (absent all (returned log fs)) a) [
        | inl y ↦ p.apart x (absent-ids gone w x y).0 (flying-ids (length log) fs x b)
        | inr y ↦ returned-apart log fs p.right x (absent-ids all (returned log fs) x y).0 b
      ])

-- what a core holds after a proposal

module _ (n : ℕ) (mine : Request → Bool) (s : Slot) (w : List Request) (fs : List (Slot × Batch)) where
  abbrev flies : List (Slot × Batch)
  flies = fs ++ (s, cut n mine w) ∷ []

  in-flies : (q : Request) → In q (carried flies) → In q (carried fs) ⊎ In q (cut n mine w)
  in-flies q h =
      let k : In q (carried fs ++ (cut n mine w ++ [])) = subst (λ (qs : List Request). In q qs) (carried-append fs ((s, cut n mine w) ∷ [])) h in
      elim (in_append q (carried fs) (cut n mine w ++ []) k) [
        | inl a ↦ inl a
        | inr a ↦ elim (in_append q (cut n mine w) [] a) [ inl b ↦ inr b | inr b ↦ absurd b ]
      ]

  pub casting-in : (q : Request) → In q (uncut n mine w ++ carried flies) → In q (w ++ carried fs)
  casting-in q h = elim (in_append q (uncut n mine w) (carried flies) h) [
    | inl a ↦ in_left q w (carried fs) (uncut-in n mine w q a)
    | inr a ↦ elim (in-flies q a) [ inl b ↦ in_right q w (carried fs) b | inr b ↦ in_left q w (carried fs) (cut-in n mine w q b).0 ]
  ]

  pub casting-once : Different (ids (w ++ carried fs)) → Different (ids (uncut n mine w ++ carried flies))
  casting-once d =
      let p = parts-of w (carried fs) d in
      let back = append-nothing (cut n mine w) in
      let tail : Different (ids (cut n mine w ++ [])) = subst (λ (qs : List Request). Different (ids qs)) (sym back) (cut-once n mine w p.left) in
      let split = carried-append fs ((s, cut n mine w) ∷ []) in
      let far : Different (ids (carried fs ++ (cut n mine w ++ []))) =
      ids-once (carried fs) (cut n mine w ++ []) p.right tail
      (λ x a b. p.apart x (cut-ids n mine w x (subst (λ (qs : List Request). In x (ids qs)) back b)) a) in
      ids-once (uncut n mine w) (carried flies) (uncut-once n mine w p.left) (subst (λ (qs : List Request). Different (ids qs)) (sym split) far)
      (λ x a b.
      let c : In x (ids (carried fs ++ (cut n mine w ++ []))) = subst (λ (qs : List Request). In x (ids qs)) split b in
      elim (ids-append x (carried fs) (cut n mine w ++ []) c) [
        | inl y ↦ p.apart x (uncut-ids n mine w x a) y
        | inr y ↦ cut-uncut-apart n mine w p.left x (subst (λ (qs : List Request). In x (ids qs)) back y) a
      ])
    where
      append-nothing : {A : Type 0} (xs : List A) → xs ++ [] ≡ xs
      append-nothing [] = refl
      append-nothing (x ∷ xs) = ap (λ ys. x ∷ ys) (append-nothing xs)
