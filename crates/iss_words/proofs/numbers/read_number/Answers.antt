use Rattle.std.proofs.Common.{rules, ◌≡◌, ◌∙◌, sym, ap, decimal, ℕ, arith, inl, inr, List, [], ◌∷◌, not, true, refl, subst, eqb}
use Rattle.std.proofs.lemmas.Bool.{eq-eqb, false≢true}
use Rattle.std.specs.Cmp.Lexicographic.{pointwise}
use Rattle.iss_words.proofs.NumberLemmas.{not-err, same-number}
use Rattle.iss_words.proofs.numbers.read_number.Goals as goal

itself : (xs : List ℕ) → pointwise eqb xs xs ≡ true
itself [] = refl
itself (x ∷ xs) = rw (eq-eqb x x refl, itself xs) refl

differs : (xs ys : List ℕ) → xs ≡ ys → not (pointwise eqb xs ys) ≡ true → ⊥
differs xs ys e h =
    let equal : pointwise eqb xs ys ≡ true = (let Q : List ℕ → Type 0 = λ zs. pointwise eqb xs zs ≡ true in subst Q e (itself xs)) in
    absurd (false≢true (rw equal at h))

pub returns-in-Err-clause-none : goal.returns-in-Err-clause-none
returns-in-Err-clause-none c = λ _ n is. not-err c.args.low c.args.high n c.args.word.now _ c.parse.result c.ranges.high.fits c.parse.ensures.value.0 c.in-Err.is is

pub returns-then-ne-clause-none : goal.returns-then-ne-clause-none
returns-then-ne-clause-none c = λ _ n is.
    let e : c.in-Ok.number ≡ n = same-number c.args.low c.args.high c.in-Ok.number n c.args.word.now c.parse.result (search rules) c.parse.ensures.value.0 c.in-Ok.is is in
    let text : c.format.result.now ≡ decimal c.in-Ok.number = search rules in
    let same = is.spelled in
    let equal : c.format.result.now ≡ c.args.word.now = text ∙ ap decimal e ∙ sym same in
    differs c.format.result.now c.args.word.now equal (sym c.ne.ensures ∙ c.if-ne.true)

pub returns-then-number-low-clause-none : goal.returns-then-number-low-clause-none
returns-then-number-low-clause-none c = λ _ n is.
    let e : c.in-Ok.number ≡ n = same-number c.args.low c.args.high c.in-Ok.number n c.args.word.now c.parse.result (search rules) c.parse.ensures.value.0 c.in-Ok.is is in
    let least = is.least in let most = is.most in
    elim c.then-number-low.either [
      | inl low ↦ omega (arith, e, least, low)
      | inr high ↦ omega (arith, e, most, high)
    ]
