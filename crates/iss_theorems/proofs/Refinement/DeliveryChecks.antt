-- What the checks of a delivery and of a step find out about claims, strings, and own claims in what a node sends.
use Rattle.std.proofs.Common.{◌≡◌, ◌⊎◌, inl, inr, ℕ, Bool, true, false, cond, eqb, not, ◌&&◌, List, [], ◌∷◌, ◌++◌, Option, Some, None, refl, sym, ap, ap₂, ◌∙◌, subst, true≢false}
use Rattle.iss_base.specs.Lists.{In, first_of, push_all, same_bytes}
use Rattle.iss_base.proofs.Lists.{and-true, in_append, in_left, in_right, is-eq, same_bytes-is, same_bytes-refl}
use Rattle.iss_request.specs.Digest.{digest}
use Rattle.iss_request.specs.declared.setups.Setup.{Setup}
use Rattle.iss_sb.specs.declared.effects.Claim.{Claim}
use Rattle.iss_sb.specs.declared.effects.Params.{Params}
use Rattle.iss_sb.specs.declared.effects.To.{To}
use Rattle.iss_sb.specs.Evidence.{Module, Separate, is_correct}
use Rattle.iss_rules.specs.Books.{Signed}
use Rattle.iss_composition.specs.Cluster.{IsOwn}
use Rattle.iss_rules.specs.Votes.{all_verify}
use Rattle.iss_model.specs.Node.{only_by, own_claims}
use Rattle.iss_composition.specs.Ordered.{Among}
use Rattle.iss_rules.specs.Rules.{Rules}
use Rattle.iss_model.specs.Run.{as_signed, booked, collision_in, collision_with, first_forged, has_signed, is_collision, is_forged}

-- checks of bytes, claims and strings

pub has-booked : (i : ℕ) (statement : List ℕ) (xs : List Signed) → has_signed i statement xs ≡ true → In (record { by = i; statement = statement }) xs
has-booked i statement [] h = absurd (true≢false (sym h))
has-booked i statement (x ∷ xs) h = go (eqb x.by i && same_bytes x.statement statement) refl h (has-booked i statement xs)
  where
    go : (b : Bool) → (eqb x.by i && same_bytes x.statement statement) ≡ b → cond b true (has_signed i statement xs) ≡ true →
        (has_signed i statement xs ≡ true → In (record { by = i; statement = statement }) xs) → In (record { by = i; statement = statement }) (x ∷ xs)
    go true q k ih =
        let y = and-true (eqb x.by i) (same_bytes x.statement statement) q in
        inl (ap₂ (λ (n : ℕ) (t : List ℕ). record { by = n; statement = t }) (sym (is-eq x.by i y.0)) (sym (same_bytes-is x.statement statement y.1)))
    go false q k ih = inr (ih k)

pub none-left : {A : Type 0} (b : Bool) (x : A) (o : Option A) → cond b (Some x) o ≡ None → (b ≡ false) × (o ≡ None)
none-left true x o h = absurd (cc)
none-left false x o h = (refl, h)

first-none : {A : Type 0} (a b : Option A) → first_of a b ≡ None → (a ≡ None) × (b ≡ None)
first-none None b h = (refl, h)
first-none (Some x) b h = absurd (cc)

not-forged : (a b c : Bool) → (a && (b && not c)) ≡ false → a ≡ true → b ≡ true → c ≡ true
not-forged true true true h ha hb = refl
not-forged true true false h ha hb = absurd (true≢false h)
not-forged true false c h ha hb = absurd (true≢false (sym hb))
not-forged false b c h ha hb = absurd (true≢false (sym ha))

pub unforged : (s : Setup) (R : Rules) (book : List Signed) (cs : List Claim) → first_forged s R book cs ≡ None → (c : Claim) → In c cs →
    R.verifies c.by.0 c.statement c.sig ≡ true → is_correct s c.by.0 ≡ true → In (record { by = c.by.0; statement = c.statement }) book
unforged s R book [] h c i v ok = absurd i
unforged s R book (d ∷ cs) h c (inl q) v ok =
    let k = none-left (is_forged s R book d) d (first_forged s R book cs) h in
    let kc : is_forged s R book c ≡ false = subst (λ (z : Claim). is_forged s R book z ≡ false) (sym q) k.0 in
    has-booked c.by.0 c.statement book (not-forged (R.verifies c.by.0 c.statement c.sig) (is_correct s c.by.0) (has_signed c.by.0 c.statement book) kc v ok)
unforged s R book (d ∷ cs) h c (inr i) v ok = unforged s R book cs (none-left (is_forged s R book d) d (first_forged s R book cs) h).1 c i v ok

pub each-verifies : (R : Rules) (cs : List Claim) → all_verify R cs ≡ true → (c : Claim) → In c cs → R.verifies c.by.0 c.statement c.sig ≡ true
each-verifies R [] h c i = absurd i
each-verifies R (d ∷ cs) h c (inl q) = rw q (and-true (R.verifies d.by.0 d.statement d.sig) (all_verify R cs) h).0
each-verifies R (d ∷ cs) h c (inr i) = each-verifies R cs (and-true (R.verifies d.by.0 d.statement d.sig) (all_verify R cs) h).1 c i

no-collision : (a b : List ℕ) → is_collision a b ≡ false → digest a ≡ digest b → a ≡ b
no-collision a b h q =
    same_bytes-is a b (not-apart (same_bytes (digest a) (digest b)) (same_bytes a b) h
    (subst (λ (t : List ℕ). same_bytes (digest a) t ≡ true) q (same_bytes-refl (digest a))))
  where
    not-apart : (x y : Bool) → (x && not y) ≡ false → x ≡ true → y ≡ true
    not-apart true true h q = refl
    not-apart true false h q = absurd (true≢false h)
    not-apart false y h q = absurd (true≢false (sym q))

unlike : (x : List ℕ) (book : List (List ℕ)) → collision_with x book ≡ None → (b : List ℕ) → In b book → digest b ≡ digest x → b ≡ x
unlike x [] h b i q = absurd i
unlike x (c ∷ book) h b (inl e) q =
    let k = none-left (is_collision c x) _ (collision_with x book) h in
    no-collision b x (subst (λ (t : List ℕ). is_collision t x ≡ false) (sym e) k.0) q
unlike x (c ∷ book) h b (inr i) q = unlike x book (none-left (is_collision c x) _ (collision_with x book) h).1 b i q

separate-one : (x : List ℕ) (book : List (List ℕ)) → collision_with x book ≡ None → Separate (Among book) → Separate (Among (x ∷ book))
separate-one x book h sep a b (inl p) (inl q) e = p ∙ sym q
separate-one x book h sep a b (inl p) (inr q) e = p ∙ sym (unlike x book h b q (sym e ∙ ap digest p))
separate-one x book h sep a b (inr p) (inl q) e = unlike x book h a p (e ∙ ap digest q) ∙ sym q
separate-one x book h sep a b (inr p) (inr q) e = sep a b p q e

-- if no new string collides, no strings collide
pub separate-more : (xs book : List (List ℕ)) → collision_in xs book ≡ None → Separate (Among book) → Separate (Among (push_all xs book))
separate-more [] book h sep = sep
separate-more (x ∷ xs) book h sep =
    let k = first-none (collision_with x book) (collision_in xs (x ∷ book)) h in
    separate-more xs (x ∷ book) k.1 (separate-one x book k.0 sep)

-- a list keeps its elements when others are added
pub over-old : {A : Type 0} (x : A) (vs log : List A) → In x log → In x (push_all vs log)
over-old x [] log h = h
over-old x (v ∷ vs) log h = over-old x vs (v ∷ log) (inr h)

pub over-new : {A : Type 0} (x : A) (vs log : List A) → In x vs → In x (push_all vs log)
over-new x [] log h = absurd h
over-new x (v ∷ vs) log (inl e) = over-old x vs (v ∷ log) (inl e)
over-new x (v ∷ vs) log (inr h) = over-new x vs (v ∷ log) h

pub over-append : {A : Type 0} (a b log : List A) → push_all (a ++ b) log ≡ push_all b (push_all a log)
over-append [] b log = refl
over-append (x ∷ a) b log = over-append a b (x ∷ log)

-- own claims in what a node sends

pub as_signed-append : (a b : List Claim) → as_signed (a ++ b) ≡ as_signed a ++ as_signed b
as_signed-append [] b = refl
as_signed-append (c ∷ a) b = ap (λ (xs : List Signed). record { by = c.by.0; statement = c.statement } ∷ xs) (as_signed-append a b)

pub only-by : (i : ℕ) (cs : List Claim) (c : Claim) → In c (only_by i cs) → In c cs × (c.by.0 ≡ i)
only-by i [] c h = absurd h
only-by i (d ∷ cs) c h = go (eqb d.by.0 i) refl h (only-by i cs c)
  where
    go : (b : Bool) → eqb d.by.0 i ≡ b → In c (cond b (d ∷ only_by i cs) (only_by i cs)) → (In c (only_by i cs) → In c cs × (c.by.0 ≡ i)) →
        In c (d ∷ cs) × (c.by.0 ≡ i)
    go true q (inl e) ih = (inl e, ap (λ (z : Claim). z.by.0) e ∙ is-eq d.by.0 i q)
    go true q (inr k) ih = let r = ih k in (inr r.0, r.1)
    go false q k ih = let r = ih k in (inr r.0, r.1)

pub in-signed : (cs : List Claim) (x : Signed) → In x (as_signed cs) → (c : Claim) × In c cs × (x ≡ record { by = c.by.0; statement = c.statement })
in-signed [] x h = absurd h
in-signed (c ∷ cs) x (inl e) = (c, inl refl, e)
in-signed (c ∷ cs) x (inr h) = let r = in-signed cs x h in (r.0, inr r.1, r.2)

module _ {Msg : Type 0} (M : Module Msg) (p : Params) (i : ℕ) where
  pub record OwnClaim (sends : List (To × Msg)) (c : Claim) : Type 0 where
    pub to : To
    pub msg : Msg
    pub sent : In {A = To × Msg} (to, msg) sends
    pub made : In c (M.claims p i msg)
    pub by : c.by.0 ≡ i

  pub own-claim : (sends : List (To × Msg)) (c : Claim) → In c (own_claims M p i sends) → OwnClaim sends c
  own-claim [] c h = absurd h
  own-claim (x ∷ xs) c h = elim (in_append c (only_by i (M.claims p i x.1)) (own_claims M p i xs) h) [
    | inl a ↦ let r = only-by i (M.claims p i x.1) c a in record { to = x.0; msg = x.1; sent = inl refl; made = r.0; by = r.1 }
    | inr b ↦ let r = own-claim xs c b in record { to = r.to; msg = r.msg; sent = inr r.sent; made = r.made; by = r.by }
  ]

  pub own-is : (sends : List (To × Msg)) (x : Signed) → In x (as_signed (own_claims M p i sends)) → IsOwn M p i sends x
  own-is sends x h =
      let r = in-signed (own_claims M p i sends) x h in
      let o = own-claim sends r.0 r.1 in
      record {
        to = o.to;
        msg = o.msg;
        sent = o.sent;
        claim = r.0;
        made = o.made;
        by = o.by;
        is =
            r.2 ∙ ap (λ (n : ℕ). record { by = n; statement = r.0.statement }) o.by;
      }

-- the book after two parts of a step
module _ (s : Setup) (i : ℕ) (a b : List Claim) where
  booked-append : booked s i (a ++ b) ≡ booked s i a ++ booked s i b
  booked-append = go (is_correct s i)
    where
      go : (t : Bool) → cond t (as_signed (a ++ b)) [] ≡ cond t (as_signed a) [] ++ cond t (as_signed b) []
      go true = as_signed-append a b
      go false = refl

  pub booked-split : (x : Signed) → In x (booked s i (a ++ b)) → In x (booked s i a) ⊎ In x (booked s i b)
  booked-split x k = in_append x (booked s i a) (booked s i b) (subst (λ (xs : List Signed). In x xs) booked-append k)

  pub booked-first : (x : Signed) → In x (booked s i a) → In x (booked s i (a ++ b))
  booked-first x k = subst (λ (xs : List Signed). In x xs) (sym booked-append) (in_left x (booked s i a) (booked s i b) k)

  pub booked-last : (x : Signed) → In x (booked s i b) → In x (booked s i (a ++ b))
  booked-last x k = subst (λ (xs : List Signed). In x xs) (sym booked-append) (in_right x (booked s i a) (booked s i b) k)
