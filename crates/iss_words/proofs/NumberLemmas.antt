-- A word that spells a number is parsed as it.
use Rattle.std.proofs.Common.{◌≡◌, ℕ, ◌^◌, ◌<◌, List, Result, Ok, Err, arith}
use Rattle.std.specs.Str.Parse.{ParsesUnsigned}
use Rattle.std.proofs.lemmas.Fmt.{parse-decimal}
use Rattle.iss_words.specs.Numbers.{IsNumber}

ok-same : {E : Type 0} (m n : ℕ) (r : Result ℕ E) → r ≡ Ok m → r ≡ Ok n → m ≡ n
ok-same {E} m n r a b = cc

pub parsed : {E : Type 0} (low high n : ℕ) (word : List ℕ) (r : Result ℕ E) → high < 2 ^ 64 → ParsesUnsigned 64 10 word r → IsNumber low high word n → r ≡ Ok n
parsed {E} low high n word r fits p is = parse-decimal 64 n word r (let u = is.most in omega (arith, u, fits)) (let u = is.most in omega (arith, u, fits)) is.spelled p

pub not-err : {E : Type 0} (low high n : ℕ) (word : List ℕ) (e : E) (r : Result ℕ E) → high < 2 ^ 64 → ParsesUnsigned 64 10 word r → r ≡ Err e → IsNumber low high word n → ⊥
not-err {E} low high n word e r fits p was is = let got = parsed low high n word r fits p is in absurd cc

pub same-number : {E : Type 0} (low high m n : ℕ) (word : List ℕ) (r : Result ℕ E) → high < 2 ^ 64 → ParsesUnsigned 64 10 word r → r ≡ Ok m → IsNumber low high word n → m ≡ n
same-number {E} low high m n word r fits p was is = ok-same m n r was (parsed low high n word r fits p is)
