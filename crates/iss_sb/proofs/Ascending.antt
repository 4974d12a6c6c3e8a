-- Lists of things with strictly ascending numbers have one encoding, and are read one after another.
use Rattle.std.proofs.Common.{◌≡◌, ℕ, zero, suc, ◌<◌, Bool, true, List, [], ◌∷◌, ◌++◌, length, get_or, append_assoc, append-nil, refl, sym, ap, ◌∙◌, subst, arith}
use Rattle.std.specs.List.{flat_map}
use Rattle.iss_base.proofs.Lists.{and-true, both}
use Rattle.iss_request.specs.Fields.{Good, IsRead, IsUnreadable, Reading}
use Rattle.iss_request.specs.Parsing.{Parser}
use Rattle.iss_request.proofs.OneSpelling.{done_good}
use Rattle.iss_request.proofs.ParserLemmas.{done_parts, then_good, then_parts}
use Rattle.iss_request.proofs.Readings.{read_done, read_then, unread_first, unread_then}
use Rattle.iss_sb.specs.Ascending.{all_ascend, ascending}

-- what was read was encoded so, and has an encoding
pub record IsText (ok : Bool) (text bytes rest : List ℕ) : Type 0 where
  pub parts : bytes ≡ text ++ rest
  pub fits : ok ≡ true

-- and as many were read as were wanted
pub record AreText (ok : Bool) (many wanted : ℕ) (text bytes rest : List ℕ) : Type 0 where
  pub parts : bytes ≡ text ++ rest
  pub fits : ok ≡ true
  pub counted : many ≡ wanted

pub in-front : (a : List ℕ) {x y : List ℕ} → x ≡ y → a ++ x ≡ a ++ y
in-front a h = ap (λ (z : List ℕ). a ++ z) h

-- one thing that fits is read from its encoding, and from nothing else
pub record IsExact {A : Type 0} (one : ℕ → Parser A) (fits : ℕ → A → Bool) (spell : A → List ℕ) : Type 0 where
  pub again : (x : A) (from : ℕ) (rest : List ℕ) → fits from x ≡ true → one from (spell x ++ rest) ≡ Good x rest
  pub parts : (from : ℕ) (bytes rest : List ℕ) (x : A) → one from bytes ≡ Good x rest → IsText (fits from x) (spell x) bytes rest

module _ {A : Type 0} (one : ℕ → Parser A) (number : A → ℕ) where
  module _ (fits : ℕ → A → Bool) (spell : A → List ℕ) (exact : IsExact one fits spell) where
    pub ascending-again : (xs : List A) (from : ℕ) (rest : List ℕ) → all_ascend fits number from xs ≡ true → ascending one number (length xs) from (flat_map spell xs ++ rest) ≡ Good xs rest
    unfolding ascending
    ascending-again [] from rest e = done_good [] rest
    ascending-again (x ∷ xs) from rest e =
        let t = and-true (fits from x) (all_ascend fits number (suc (number x)) xs) e in
        let tail : List ℕ = flat_map spell xs ++ rest in
        ap (ascending one number (length (x ∷ xs)) from) (append_assoc (spell x) (flat_map spell xs) rest) ∙
        then_good _ _ _ tail rest x (x ∷ xs) (exact.again x from tail t.0)
        (then_good _ _ _ rest rest xs (x ∷ xs) (ascending-again xs (suc (number x)) rest t.1) (done_good (x ∷ xs) rest))

    abbrev AreAscending : ℕ → ℕ → List ℕ → List ℕ → List A → Type 0
    AreAscending wanted from bytes rest xs = AreText (all_ascend fits number from xs) (length xs) wanted (flat_map spell xs) bytes rest

    pub ascending-parts : (many from : ℕ) (bytes rest : List ℕ) (xs : List A) → ascending one number many from bytes ≡ Good xs rest → AreAscending many from bytes rest xs
    unfolding ascending
    ascending-parts zero from bytes rest xs e =
        let d = done_parts [] xs bytes rest e in
        subst (λ (z : List A). AreAscending 0 from bytes rest z) d.0 (record { parts = d.1; fits = refl; counted = refl })
    ascending-parts (suc many) from bytes rest xs e =
        let a = then_parts _ _ bytes rest xs e in
        let b = then_parts _ _ a.mid rest xs a.second in
        let d = done_parts (a.thing ∷ b.thing) xs b.mid rest b.second in
        let first = exact.parts from bytes a.mid a.thing a.first in
        let others = ascending-parts many (suc (number a.thing)) a.mid b.mid b.thing b.first in
        subst (λ (z : List A). AreAscending (suc many) from bytes rest z) d.0 (record {
          parts = first.parts ∙ in-front (spell a.thing) (others.parts ∙ in-front (flat_map spell b.thing) d.1) ∙ sym (append_assoc (spell a.thing) (flat_map spell b.thing) rest);
          fits = both _ _ first.fits others.fits;
          counted = ap suc others.counted;
        })

  -- ---- read one after another

  read-more : (more from : ℕ) {a b c : Reading} {x : A} {xs : List A} → IsRead (one from) a b x → IsRead (ascending one number more (suc (number x))) b c xs → IsRead (ascending one number (suc more) from) a c (x ∷ xs)
  unfolding ascending
  read-more more from r s = read_then _ _ r (read_then _ _ s (read_done _ _))

  unread-more : (more from : ℕ) {a b : Reading} {x : A} {at : ℕ} → IsRead (one from) a b x → IsUnreadable (ascending one number more (suc (number x))) b at → IsUnreadable (ascending one number (suc more) from) a at
  unfolding ascending
  unread-more more from r u = unread_then _ _ r (unread_first _ _ u)

  unread-one : (more from : ℕ) {a : Reading} {at : ℕ} → IsUnreadable (one from) a at → IsUnreadable (ascending one number (suc more) from) a at
  unfolding ascending
  unread-one more from u = unread_first _ _ u

  read-none : (from : ℕ) (a : Reading) → IsRead (ascending one number 0 from) a a []
  unfolding ascending
  read-none from a = read_done [] a

  -- of `total` things these were read; `count` are still to come, none below `from`
  pub record Climbs (total : ℕ) (start : Reading) (count from : ℕ) (here : Reading) (got : List A) : Type 0 where
    pub all : (later : Reading) (xs : List A) → IsRead (ascending one number count from) here later xs → IsRead (ascending one number total 0) start later (got ++ xs)
    pub fails : (at : ℕ) → IsUnreadable (ascending one number count from) here at → IsUnreadable (ascending one number total 0) start at

  pub climbs-start : (total : ℕ) (start : Reading) (count from : ℕ) (got : List A) → count ≡ total → from ≡ 0 → got ≡ [] → Climbs total start count from start got
  climbs-start total start count from got e z none = record { all = λ later xs r. rw none (rw (e, z) at r); fails = λ at u. rw (e, z) at u }

  pub climbs-next : (total : ℕ) (start : Reading) (count left from next : ℕ) (here there : Reading) (got : List A) (x : A) → left ≡ suc count → next ≡ suc (number x) → Climbs total start left from here got → IsRead (one from) here there x → Climbs total start count next there (got ++ x ∷ [])
  climbs-next total start count left from next here there got x e n c r = record {
    all = λ later xs s. rw append_assoc (c.all later (x ∷ xs) (rw e (read-more count from r (rw n at s))));
    fails = λ at u. c.fails at (rw e (unread-more count from r (rw n at u)));
  }

  pub climbs-bad : (total : ℕ) (start : Reading) (count left from : ℕ) (here : Reading) (got : List A) (at : ℕ) → left ≡ suc count → Climbs total start left from here got → IsUnreadable (one from) here at → IsUnreadable (ascending one number total 0) start at
  climbs-bad total start count left from here got at e c u = c.fails at (rw e (unread-one count from u))

  pub climbs-end : (total : ℕ) (start : Reading) (count from : ℕ) (here : Reading) (got : List A) → count ≡ 0 → Climbs total start count from here got → IsRead (ascending one number total 0) start here got
  climbs-end total start count from here got e c = rw append-nil at (c.all here [] (rw e (read-none from here)))

-- each of them passes the test from some number on
pub ascending-at : {A : Type 0} (fits : ℕ → A → Bool) (number : A → ℕ) (from : ℕ) (xs : List A) (i : ℕ) (x : A) → all_ascend fits number from xs ≡ true → i < length xs → x ≡ get_or xs i x → (at : ℕ) × (fits at x ≡ true)
ascending-at fits number from [] i x h l e = absurd (omega (arith, l))
ascending-at fits number from (y ∷ ys) zero x h l e = (from, subst (λ (z : _). fits from z ≡ true) (sym e) (and-true (fits from y) (all_ascend fits number (suc (number y)) ys) h).0)
ascending-at fits number from (y ∷ ys) (suc i) x h l e = ascending-at fits number (suc (number y)) ys i x (and-true (fits from y) (all_ascend fits number (suc (number y)) ys) h).1 (omega (arith, l)) e
