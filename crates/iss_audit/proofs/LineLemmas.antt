-- A line encodes at most one value or certificate, and what was decoded from it.
use Rattle.std.specs.Prelude.{IfOk}
use Rattle.std.proofs.Common.{append-nil, ◌≡◌, ◌≢◌, ℕ, List, [], ◌∷◌, ◌++◌, Option, Some, None, Result, Ok, Err, refl, sym, ap, ◌∙◌, subst}
use Rattle.std.proofs.lemmas.List.{append_cancel_left}
use Rattle.hex.specs.Hex.{IsBytes}
use Rattle.iss_request.specs.Fields.{Parsed, Good, Bad}
use Rattle.iss_request.specs.Parsing.{Parser, all_of, at_end}
use Rattle.iss_request.proofs.ParserLemmas.{then_good}
use Rattle.iss_schedule.specs.Reads.{Reads}
use Rattle.iss_schedule.specs.Words.{word_of}
use Rattle.iss_schedule.proofs.Encoding.HexIsInjective.{word_injective}
use Rattle.iss_audit.specs.Exports.{hex_line}

-- the words of two equal lines with one name are equal
pub same-word : (name x y : List ℕ) → name ++ 32 ∷ x ≡ name ++ 32 ∷ y → x ≡ y
same-word name x y e = let both = append_cancel_left name (32 ∷ x) (32 ∷ y) e in cc

-- bytes in the word behind a name are those of the line
pub reads-behind : {E : Type 0} (name line word : List ℕ) (r : Result (Option (List ℕ)) E) → line ≡ name ++ 32 ∷ word → IfOk r (Reads word_of IsBytes word) → IfOk r (Reads (hex_line name) IsBytes line)
reads-behind name line word (Ok (Some bytes)) is h = (is ∙ ap (λ (w : List ℕ). name ++ 32 ∷ w) h.0, h.1)
reads-behind name line word (Ok None) is h = λ bytes fits e. h bytes fits (same-word name word (word_of bytes) (sym is ∙ e))
reads-behind name line word (Err e) is h = tt

pub same-bytes : (name xs ys : List ℕ) → IsBytes xs → IsBytes ys → hex_line name xs ≡ hex_line name ys → xs ≡ ys
same-bytes name xs ys fits fit e = word_injective xs ys fits fit (same-word name (word_of xs) (word_of ys) e)

pub read-some : {A : Type 0} (spell : A → List ℕ) (Is : A → Type 0) (text : List ℕ) (o : Option A) (a : A) → o ≡ Some a → Reads spell Is text o → (text ≡ spell a) × Is a
read-some {A} spell Is text o a is h = subst (λ (p : Option A). Reads spell Is text p) is h

-- what is read of a line with these bytes
pub found-bytes : (name line bytes : List ℕ) (o : Option (List ℕ)) → o ≡ Some bytes → Reads (hex_line name) IsBytes line o → (line ≡ hex_line name bytes) × IsBytes bytes
found-bytes name line bytes o is reads = go (subst (λ (p : Option (List ℕ)). Reads (hex_line name) IsBytes line p) is reads)
  where
    go : Reads (hex_line name) IsBytes line (Some bytes) → (line ≡ hex_line name bytes) × IsBytes bytes
    go h = h

-- the thing has an encoding
abbrev pub Encodes : {A : Type 0} → (A → List ℕ) → (List ℕ → Parsed A) → A → Type 0
Encodes spell parse a = IsBytes (spell a) × (parse (spell a) ≡ Good a [])

pub line-is : {A : Type 0} (spell : A → List ℕ) (parse : List ℕ → Parsed A) (name line bytes : List ℕ) (a : A) → line ≡ hex_line name bytes → IsBytes bytes → parse bytes ≡ Good a [] → bytes ≡ spell a ++ [] → (line ≡ hex_line name (spell a)) × Encodes spell parse a
line-is spell parse name line bytes a is fits read only =
    let same : bytes ≡ spell a = only ∙ append-nil (spell a) in
    (is ∙ ap (hex_line name) same, (subst IsBytes same fits, ap parse (sym same) ∙ read))

pub line-not : {A : Type 0} (spell : A → List ℕ) (parse : Parser A) (name line bytes : List ℕ) (at : ℕ) → line ≡ hex_line name bytes → IsBytes bytes → all_of parse bytes ≡ Bad at → (a : A) → Encodes spell parse a → line ≢ hex_line name (spell a)
unfolding all_of at_end
line-not spell parse name line bytes at is fits bad a encodes e =
    let same : bytes ≡ spell a = same-bytes name bytes (spell a) fits encodes.0 (sym is ∙ e) in
    let good : all_of parse bytes ≡ Good a [] = then_good parse at_end bytes [] [] a a (ap parse same ∙ encodes.1) refl in
    let both : Bad at ≡ Good a [] = sym bad ∙ good in
    cc
