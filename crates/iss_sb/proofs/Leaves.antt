-- A list of statements, and the leaves that sign them.
use Rattle.std.proofs.Common.{◌≡◌, ◌∙◌, ◌+◌, ◌++◌, ◌∷◌, ℕ, zero, suc, List, [], length, Some, sym, ap, arith, add-zero}
use Rattle.std.specs.Prelude.{slice_get}
use Rattle.iss_sb.specs.declared.effects.Claim.{Claim}
use Rattle.iss_sb.specs.declared.effects.Params.{Params}
use Rattle.iss_sb.specs.Laws.{IsSignedBy}
use Rattle.iss_sb.specs.Statements.{signature}

pub row-left : {A : Type 0} (xs ys : List A) (k : ℕ) (x : A) → slice_get xs k ≡ Some x → slice_get (xs ++ ys) k ≡ Some x
row-left [] ys k x h = absurd (cc)
row-left (y ∷ xs) ys zero x h = h
row-left (y ∷ xs) ys (suc k) x h = row-left xs ys k x h

pub row-right : {A : Type 0} (xs ys : List A) (k : ℕ) → slice_get (xs ++ ys) (length xs + k) ≡ slice_get ys k
row-right [] ys k = let at : 0 + k ≡ k = omega arith in ap (λ (n : ℕ). slice_get ys n) at
row-right (y ∷ xs) ys k =
    let at : suc (length xs) + k ≡ suc (length xs + k) = omega arith in
    ap (λ (n : ℕ). slice_get (y ∷ xs ++ ys) n) at ∙ row-right xs ys k

module _ (p : Params) (me : ℕ) where
  -- the first leaf signs the first statement
  pub by-first : (leaf : ℕ) (st : List ℕ) (rest : List (List ℕ)) (c : Claim) → st ≡ c.statement → c.sig ≡ signature p me leaf st → IsSignedBy p me leaf (st ∷ rest) c
  by-first leaf st rest c same sig = record {
    place = 0;
    statement = ap Some same;
    signature = sig ∙ ap (λ (z : List ℕ). signature p me leaf z) same ∙ ap (λ (q : ℕ). signature p me q c.statement) (sym (add-zero leaf));
  }

  -- and the next leaves sign the others
  pub by-next : (leaf : ℕ) (st : List ℕ) (rest : List (List ℕ)) (c : Claim) → IsSignedBy p me (suc leaf) rest c → IsSignedBy p me leaf (st ∷ rest) c
  by-next leaf st rest c h =
      let further : suc leaf + h.place ≡ leaf + suc h.place = omega arith in
      record { place = suc h.place; statement = h.statement; signature = h.signature ∙ ap (λ (q : ℕ). signature p me q c.statement) further }

  pub by-more : (leaf : ℕ) (xs ys : List (List ℕ)) (c : Claim) → IsSignedBy p me leaf xs c → IsSignedBy p me leaf (xs ++ ys) c
  by-more leaf xs ys c h = record { place = h.place; statement = row-left xs ys h.place c.statement h.statement; signature = h.signature }

  pub by-later : (leaf : ℕ) (xs ys : List (List ℕ)) (c : Claim) → IsSignedBy p me (leaf + length xs) ys c → IsSignedBy p me leaf (xs ++ ys) c
  by-later leaf xs ys c h =
      let further : leaf + length xs + h.place ≡ leaf + (length xs + h.place) = omega arith in
      record {
        place = length xs + h.place;
        statement = row-right xs ys h.place ∙ h.statement;
        signature = h.signature ∙ ap (λ (q : ℕ). signature p me q c.statement) further;
      }
