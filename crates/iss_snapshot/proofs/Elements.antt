-- Exact formats: the things with an encoding decode from it, whatever follows, and only these are decoded.
use Rattle.std.proofs.Common.{◌≡◌, ℕ, zero, suc, ◌<◌, Bool, true, List, [], ◌∷◌, ◌++◌, length, append_assoc, refl, sym, ap, ◌∙◌, subst}
use Rattle.std.specs.Int.{Width, to_be_bytes}
use Rattle.std.specs.List.{AllByRecursion, flat_map}
use Rattle.iss_request.specs.Fields.{Good, IsGrammar, IsReadAgain}
use Rattle.iss_request.specs.Parsing.{Parser, ◌>>=◌, done, number, such_that, times}
use Rattle.iss_request.proofs.OneSpelling.{done_good}
use Rattle.iss_request.proofs.ParserLemmas.{IsWide, done_parts, number_again, number_parts, test_parts, test_passed, then_good, then_parts}
use Rattle.iss_sb.proofs.Read.{read-again}
use Rattle.iss_snapshot.specs.Snapshots.{counted, parse_counted}

-- a thing decodes from these bytes, whatever follows
abbrev pub Again : {A : Type 0} → List ℕ → Parser A → A → Type 0
Again front p x = (rest : List ℕ) → p (front ++ rest) ≡ Good x rest

pub then-again : {A B : Type 0} (p : Parser A) (q : A → Parser B) (a b : List ℕ) (x : A) (y : B) → Again a p x → Again b (q x) y → Again (a ++ b) (p >>= q) y
then-again p q a b x y h g rest = rw (append_assoc a b rest) (then_good p q (a ++ (b ++ rest)) (b ++ rest) rest x y (h (b ++ rest)) (g rest))

pub last-again : {A B : Type 0} (p : Parser A) (make : A → B) (a : List ℕ) (x : A) → Again a p x → Again a (p >>= λ z. done (make z)) (make x)
last-again p make a x h rest = then_good p (λ z. done (make z)) (a ++ rest) rest rest x (make x) (h rest) (done_good (make x) rest)

-- P says which things have an encoding
pub record IsExact {A : Type 0} (P : A → Type 0) (spell : A → List ℕ) (p : Parser A) : Type 0 where
  pub again : (x : A) → P x → Again (spell x) p x
  pub fit : (bytes rest : List ℕ) (x : A) → p bytes ≡ Good x rest → P x
  pub parts : (bytes rest : List ℕ) (x : A) → p bytes ≡ Good x rest → bytes ≡ spell x ++ rest

pub of-grammar : {A : Type 0} (spell : A → List ℕ) (p : Parser A) → IsGrammar spell p → IsExact (λ x. IsReadAgain spell p x) spell p
of-grammar spell p g = record {
  again = λ x h. h;
  fit = λ bytes rest x h. read-again spell p g bytes rest x h;
  parts = g.only;
}

pub exact-number : (w : Width) (limit : ℕ) → IsWide w limit → IsExact (λ n. n < limit) (to_be_bytes w) (number w)
exact-number w limit wide = record {
  again = λ n lt rest. number_again w limit wide n rest lt;
  fit = λ bytes rest n h. (number_parts w limit wide bytes rest n h).below;
  parts = λ bytes rest n h. (number_parts w limit wide bytes rest n h).parts;
}

module _ {A : Type 0} (P : A → Type 0) (spell : A → List ℕ) (p : Parser A) (e : IsExact P spell p) where
  times-again : (xs : List A) → AllByRecursion P xs → Again (flat_map spell xs) (times (length xs) p) xs
  unfolding times
  times-again [] h = λ rest. done_good [] rest
  times-again (x ∷ xs) h =
      then-again p (λ (first : A). times (length xs) p >>= λ others. done (first ∷ others)) (spell x) (flat_map spell xs) x (x ∷ xs) (e.again x h.0)
      (last-again (times (length xs) p) (λ (others : List A). x ∷ others) (flat_map spell xs) xs (times-again xs h.1))

  pub record AreTimes (n : ℕ) (bytes rest : List ℕ) (xs : List A) : Type 0 where
    pub count : length xs ≡ n
    pub all : AllByRecursion P xs
    pub parts : bytes ≡ flat_map spell xs ++ rest

  pub times-read : (n : ℕ) (bytes rest : List ℕ) (xs : List A) → times n p bytes ≡ Good xs rest → AreTimes n bytes rest xs
  unfolding times
  times-read zero bytes rest xs h =
      let d = done_parts [] xs bytes rest h in
      subst (λ (z : List A). AreTimes 0 bytes rest z) d.0 (record { count = refl; all = tt; parts = d.1 })
  times-read (suc n) bytes rest xs h =
      let a = then_parts p (λ (first : A). times n p >>= λ others. done (first ∷ others)) bytes rest xs h in
      let b = then_parts (times n p) (λ (others : List A). done (a.thing ∷ others)) a.mid rest xs a.second in
      let d = done_parts (a.thing ∷ b.thing) xs b.mid rest b.second in
      let others = times-read n a.mid b.mid b.thing b.first in
      let text = flat_map spell b.thing in
      subst (λ (z : List A). AreTimes (suc n) bytes rest z) d.0 (record {
        count = ap suc others.count;
        all = (e.fit bytes a.mid a.thing a.first, others.all);
        parts =
            e.parts bytes a.mid a.thing a.first
            ∙ (ap (λ (z : List ℕ). spell a.thing ++ z) (others.parts ∙ ap (λ (z : List ℕ). text ++ z) d.1)
            ∙ sym (append_assoc (spell a.thing) text rest));
      })

  -- so many elements as their number says
  pub record AreCounted (limit : ℕ) (xs : List A) : Type 0 where
    pub few : length xs < limit
    pub all : AllByRecursion P xs

  module _ (w : Width) (limit : ℕ) (wide : IsWide w limit) where
    counted-again : (xs : List A) → AreCounted limit xs → Again (counted w spell xs) (parse_counted w p) xs
    unfolding parse_counted
    counted-again xs h =
        then-again (number w) (λ (n : ℕ). times n p) (to_be_bytes w (length xs)) (flat_map spell xs) (length xs) xs
        (λ rest. number_again w limit wide (length xs) rest h.few) (times-again xs h.all)

    pub record WereCounted (bytes rest : List ℕ) (xs : List A) : Type 0 where
      pub counted_are : AreCounted limit xs
      pub parts : bytes ≡ counted w spell xs ++ rest

    counted-read : (bytes rest : List ℕ) (xs : List A) → parse_counted w p bytes ≡ Good xs rest → WereCounted bytes rest xs
    unfolding parse_counted
    counted-read bytes rest xs h =
        let a = then_parts (number w) (λ (n : ℕ). times n p) bytes rest xs h in
        let n = number_parts w limit wide bytes a.mid a.thing a.first in
        let t = times-read a.thing a.mid rest xs a.second in
        let count : to_be_bytes w a.thing ≡ to_be_bytes w (length xs) = ap (to_be_bytes w) (sym t.count) in
        record {
          counted_are = record { few = subst (λ (k : ℕ). k < limit) (sym t.count) n.below; all = t.all };
          parts =
              n.parts
              ∙ (ap (λ (z : List ℕ). to_be_bytes w a.thing ++ z) t.parts
              ∙ (ap (λ (z : List ℕ). z ++ (flat_map spell xs ++ rest)) count
              ∙ sym (append_assoc (to_be_bytes w (length xs)) (flat_map spell xs) rest)));
        }

    pub exact-counted : IsExact (λ xs. AreCounted limit xs) (counted w spell) (parse_counted w p)
    exact-counted = record {
      again = counted-again;
      fit = λ bytes rest xs h. (counted-read bytes rest xs h).counted_are;
      parts = λ bytes rest xs h. (counted-read bytes rest xs h).parts;
    }

  pub exact-times : (n : ℕ) → IsExact (λ xs. (length xs ≡ n) × AllByRecursion P xs) (flat_map spell) (times n p)
  exact-times n = record {
    again = λ xs h. subst (λ (k : ℕ). Again (flat_map spell xs) (times k p) xs) h.0 (times-again xs h.1);
    fit = λ bytes rest xs h. let t = times-read n bytes rest xs h in (t.count, t.all);
    parts = λ bytes rest xs h. (times-read n bytes rest xs h).parts;
  }

pub exact-test : {A : Type 0} (P : A → Type 0) (spell : A → List ℕ) (p : Parser A) (test : A → Bool) → IsExact P spell p →
    IsExact (λ x. P x × (test x ≡ true)) spell (such_that test p)
exact-test P spell p test e = record {
  again = λ x h rest. test_passed test p (spell x ++ rest) rest x (e.again x h.0 rest) h.1;
  fit = λ bytes rest x h. let t = test_parts test p bytes rest x h in (e.fit bytes rest x t.0, t.1);
  parts = λ bytes rest x h. e.parts bytes rest x (test_parts test p bytes rest x h).0;
}
