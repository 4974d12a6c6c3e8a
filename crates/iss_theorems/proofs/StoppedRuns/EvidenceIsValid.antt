-- What evidence shows: a forged claim is of a correct node and in no book; a collision is of two strings with one
-- digest. The book has each claim that a correct node signed and sent.
use Rattle.std.proofs.Common.{◌≡◌, inl, inr, ℕ, Bool, true, false, cond, eqb, not, ◌&&◌, List, [], ◌∷◌, Some, refl, sym, ap, ◌∙◌, subst, true≢false}
use Rattle.iss_base.specs.Lists.{In, same_bytes}
use Rattle.iss_base.proofs.Lists.{and-true, eqb-same, first-cases, in_left, in_right, not-true, same_bytes-is, same_bytes-refl, some-injective}
use Rattle.iss_request.specs.Digest.{digest}
use Rattle.iss_request.specs.declared.setups.Setup.{Setup}
use Rattle.iss_sb.specs.declared.effects.Claim.{Claim}
use Rattle.iss_sb.specs.declared.effects.Params.{Params}
use Rattle.iss_sb.specs.declared.effects.To.{To}
use Rattle.iss_sb.specs.Evidence.{Module, is_correct}
use Rattle.iss_rules.specs.Books.{Signed}
use Rattle.iss_composition.specs.Cluster.{IsOwn}
use Rattle.iss_theorems.specs.Ends.{AreColliding}
use Rattle.iss_model.specs.Node.{only_by, own_claims}
use Rattle.iss_rules.specs.Rules.{Rules}
use Rattle.iss_rules.specs.Ends.{Collision, End}
use Rattle.iss_model.specs.Run.{as_signed, collision_in, collision_with, first_forged, has_signed, is_collision, is_forged}

in-has : (i : ℕ) (statement : List ℕ) (xs : List Signed) → In (record { by = i; statement = statement }) xs → has_signed i statement xs ≡ true
in-has i statement [] h = absurd h
in-has i statement (x ∷ xs) (inl q) =
    let by : x.by ≡ i = sym (ap (λ (y : Signed). y.by) q) in
    let is : x.statement ≡ statement = sym (ap (λ (y : Signed). y.statement) q) in
    rw (by, is, eqb-same i, same_bytes-refl statement) refl
in-has i statement (x ∷ xs) (inr h) = go (eqb x.by i && same_bytes x.statement statement) (in-has i statement xs h)
  where
    go : (b : Bool) → has_signed i statement xs ≡ true → cond b true (has_signed i statement xs) ≡ true
    go true k = refl
    go false k = k

-- a claim that is found to be forged
pub record IsUnsent (s : Setup) (R : Rules) (book : List Signed) (claims : List Claim) (c : Claim) : Type 0 where
  pub held : In c claims
  pub verifies : R.verifies c.by.0 c.statement c.sig ≡ true
  pub correct : is_correct s c.by.0 ≡ true
  pub absent : In (record { by = c.by.0; statement = c.statement }) book → ⊥

pub forged-shown : (s : Setup) (R : Rules) (book : List Signed) (claims : List Claim) (c : Claim) → first_forged s R book claims ≡ Some c →
    IsUnsent s R book claims c
forged-shown s R book [] c h = absurd (cc)
forged-shown s R book (d ∷ ds) c h = go (is_forged s R book d) refl h (forged-shown s R book ds c)
  where
    here : is_forged s R book d ≡ true → IsUnsent s R book (d ∷ ds) d
    here q =
        let a = and-true (R.verifies d.by.0 d.statement d.sig) (is_correct s d.by.0 && not (has_signed d.by.0 d.statement book)) q in
        let b = and-true (is_correct s d.by.0) (not (has_signed d.by.0 d.statement book)) a.1 in
        record {
          held = inl refl;
          verifies = a.0;
          correct = b.0;
          absent =
              λ k. true≢false (sym (in-has d.by.0 d.statement book k) ∙ not-true (has_signed d.by.0 d.statement book) b.1);
        }

    go : (b : Bool) → is_forged s R book d ≡ b → cond b (Some d) (first_forged s R book ds) ≡ Some c →
        (first_forged s R book ds ≡ Some c → IsUnsent s R book ds c) → IsUnsent s R book (d ∷ ds) c
    go true q k ih = subst (λ (z : Claim). IsUnsent s R book (d ∷ ds) z) (some-injective d c k) (here q)
    go false q k ih = let r = ih k in record { held = inr r.held; verifies = r.verifies; correct = r.correct; absent = r.absent }

ends-same : (a b c d : List ℕ) → Collision a b ≡ Collision c d → (a ≡ c) × (b ≡ d)
ends-same a b c d h = (cc, cc)

-- the string x collides with one in the book
record Collides (book : List (List ℕ)) (x a b : List ℕ) : Type 0 where
  is : x ≡ b
  booked : In a book
  same : digest a ≡ digest b
  different : a ≡ b → ⊥

with-shown : (x : List ℕ) (book : List (List ℕ)) (a b : List ℕ) → collision_with x book ≡ Some (Collision a b) → Collides book x a b
with-shown x [] a b h = absurd (cc)
with-shown x (y ∷ book) a b h = go (is_collision y x) refl h (with-shown x book a b)
  where
    here : is_collision y x ≡ true → Collides (y ∷ book) x y x
    here q =
        let k = and-true (same_bytes (digest y) (digest x)) (not (same_bytes y x)) q in
        record {
          is = refl;
          booked = inl refl;
          same = same_bytes-is (digest y) (digest x) k.0;
          different = λ e. true≢false (sym (subst (λ (t : List ℕ). same_bytes y t ≡ true) e (same_bytes-refl y)) ∙ not-true (same_bytes y x) k.1);
        }

    go : (t : Bool) → is_collision y x ≡ t → cond t (Some (Collision y x)) (collision_with x book) ≡ Some (Collision a b) →
        (collision_with x book ≡ Some (Collision a b) → Collides book x a b) → Collides (y ∷ book) x a b
    go true q k ih = let e = ends-same y x a b (some-injective _ _ k) in rw (← e.0, ← e.1) (here q)
    go false q k ih = let r = ih k in record { is = r.is; booked = inr r.booked; same = r.same; different = r.different }

-- if a step's strings stop the run, they collide
with-collided : (x : List ℕ) (book : List (List ℕ)) (end : End) → collision_with x book ≡ Some end → (a : List ℕ) × (b : List ℕ) × (end ≡ Collision a b)
with-collided x [] end h = absurd (cc)
with-collided x (y ∷ book) end h = go (is_collision y x) h (with-collided x book end)
  where
    go : (t : Bool) → cond t (Some (Collision y x)) (collision_with x book) ≡ Some end →
        (collision_with x book ≡ Some end → (a : List ℕ) × (b : List ℕ) × (end ≡ Collision a b)) → (a : List ℕ) × (b : List ℕ) × (end ≡ Collision a b)
    go true k ih = (y, x, sym (some-injective (Collision y x) end k))
    go false k ih = ih k

pub collided-with : (xs book : List (List ℕ)) (end : End) → collision_in xs book ≡ Some end → (a : List ℕ) × (b : List ℕ) × (end ≡ Collision a b)
collided-with [] book end h = absurd (cc)
collided-with (x ∷ xs) book end h = elim (first-cases (collision_with x book) (collision_in xs (x ∷ book)) end h) [
  | inl k ↦ with-collided x book end k
  | inr k ↦ collided-with xs (x ∷ book) end k.1
]

pub collision-shown : (xs book : List (List ℕ)) (a b : List ℕ) → collision_in xs book ≡ Some (Collision a b) → AreColliding xs book a b
collision-shown [] book a b h = absurd (cc)
collision-shown (x ∷ xs) book a b h = elim (first-cases (collision_with x book) (collision_in xs (x ∷ book)) (Collision a b) h) [
  | inl k ↦
      let r = with-shown x book a b k in
      record { earlier = []; later = xs; is = ap (λ (z : List ℕ). z ∷ xs) r.is; booked = r.booked; same = r.same; different = r.different }
  | inr k ↦
      let r = collision-shown xs (x ∷ book) a b k.1 in
      record {
        earlier = x ∷ r.earlier;
        later = r.later;
        is = ap (λ (zs : List (List ℕ)). x ∷ zs) r.is;
        booked = r.booked;
        same = r.same;
        different =
            r.different;
      }
]

-- the book has all own claims
by-only : (i : ℕ) (cs : List Claim) (c : Claim) → In c cs → c.by.0 ≡ i → In c (only_by i cs)
by-only i [] c h q = absurd h
by-only i (d ∷ cs) c (inl e) q = let t : eqb d.by.0 i ≡ true = subst (λ (z : Claim). eqb z.by.0 i ≡ true) e (ap (λ (n : ℕ). eqb n i) q ∙ eqb-same i) in
    rw t (inl e)
by-only i (d ∷ cs) c (inr h) q = go (eqb d.by.0 i) (by-only i cs c h q)
  where
    go : (b : Bool) → In c (only_by i cs) → In c (cond b (d ∷ only_by i cs) (only_by i cs))
    go true k = inr k
    go false k = k

signed-in : (cs : List Claim) (c : Claim) → In c cs → In (record { by = c.by.0; statement = c.statement }) (as_signed cs)
signed-in [] c h = absurd h
signed-in (d ∷ cs) c (inl e) = inl (ap (λ (z : Claim). record { by = z.by.0; statement = z.statement }) e)
signed-in (d ∷ cs) c (inr h) = inr (signed-in cs c h)

module _ {Msg : Type 0} (M : Module Msg) (p : Params) (i : ℕ) where
  in-own : (sends : List (To × Msg)) (to : To) (msg : Msg) (c : Claim) → In {A = To × Msg} (to, msg) sends → In c (M.claims p i msg) → c.by.0 ≡ i →
      In c (own_claims M p i sends)
  in-own [] to msg c h k q = absurd h
  in-own (x ∷ xs) to msg c (inl e) k q =
      in_left c (only_by i (M.claims p i x.1)) (own_claims M p i xs) (by-only i (M.claims p i x.1) c (subst (λ (z : To × Msg). In c (M.claims p i z.1)) e k) q)
  in-own (x ∷ xs) to msg c (inr h) k q = in_right c (only_by i (M.claims p i x.1)) (own_claims M p i xs) (in-own xs to msg c h k q)

  pub own-all : (sends : List (To × Msg)) (x : Signed) → IsOwn M p i sends x → In x (as_signed (own_claims M p i sends))
  own-all sends x o =
      let k = signed-in (own_claims M p i sends) o.claim (in-own sends o.to o.msg o.claim o.sent o.made o.by) in
      let is : x ≡ record { by = o.claim.by.0; statement = o.claim.statement } =
      o.is ∙ ap (λ (n : ℕ). record { by = n; statement = o.claim.statement }) (sym o.by) in
      rw is k
