-- Fields in sequence: what can be decoded, and what no reader accepts.
use Rattle.std.proofs.Common.{◌≡◌, ℕ, ◌<◌, ◌&&◌, Bool, true, false, List, [], ◌∷◌, ◌++◌, length, append_assoc, append-nil, sym, ap, ◌∙◌, subst, ◌⊎◌, inl, inr}
use Rattle.std.specs.Int.{Width, to_be_bytes}
use Rattle.iss_request.specs.Fields.{Good, IsBad}
use Rattle.iss_request.specs.Formats.{is_signature, parse_signature}
use Rattle.iss_request.specs.Parsing.{Parser, ◌>>=◌, block, byte, done, number, such_that}
use Rattle.iss_request.proofs.OneSpelling.{done_good, signature_again}
use Rattle.iss_sb.proofs.Fields.{good-bad}
use Rattle.iss_request.proofs.ParserLemmas.{IsWide, block_again, byte_again, first_bad, number_again, test_failed, test_passed, then_bad, then_good}

-- the value is decoded from these bytes, whatever follows, or no value is
abbrev pub Again : {A : Type 0} → List ℕ → Parser A → A → Type 0
Again front p x = (rest : List ℕ) → p (front ++ rest) ≡ Good x rest

abbrev pub Never : {A : Type 0} → List ℕ → Parser A → Type 0
Never front p = (rest : List ℕ) → IsBad (p (front ++ rest))

abbrev pub Whole : {A : Type 0} → List ℕ → Parser A → A → Type 0
Whole front p x = Again front p x ⊎ Never front p

pub not-both : {A : Type 0} (front : List ℕ) (p : Parser A) (x : A) → Again front p x → Never front p → ⊥
not-both front p x good bad = let b = bad [] in good-bad x [] b.0 (sym (good []) ∙ b.1)

-- two parsers that are equal
pub by-same : {A : Type 0} (front : List ℕ) (p q : Parser A) (x : A) → p ≡ q → Again front q x → Again front p x
by-same front p q x e h rest = rw e (h rest)

pub never-same : {A : Type 0} (front : List ℕ) (p q : Parser A) → p ≡ q → Never front q → Never front p
never-same front p q e h rest = let b = h rest in (b.0, rw e b.1)

-- ---- Two fields

pub then-again : {A B : Type 0} (p : Parser A) (q : A → Parser B) (a b : List ℕ) (x : A) (y : B) → Again a p x → Again b (q x) y → Again (a ++ b) (p >>= q) y
then-again p q a b x y h g rest = rw (append_assoc a b rest) (then_good p q (a ++ (b ++ rest)) (b ++ rest) rest x y (h (b ++ rest)) (g rest))

pub then-never : {A B : Type 0} (p : Parser A) (q : A → Parser B) (a b : List ℕ) (x : A) → Again a p x → Never b (q x) → Never (a ++ b) (p >>= q)
then-never p q a b x h g rest =
    let k = g rest in
    subst (λ (z : List ℕ). IsBad ((p >>= q) z)) (sym (append_assoc a b rest)) (_, then_bad p q (a ++ (b ++ rest)) (b ++ rest) x k.0 (h (b ++ rest)) k.1)

pub first-never : {A B : Type 0} (p : Parser A) (q : A → Parser B) (a b : List ℕ) → Never a p → Never (a ++ b) (p >>= q)
first-never p q a b h rest =
    let k = h (b ++ rest) in
    subst (λ (z : List ℕ). IsBad ((p >>= q) z)) (sym (append_assoc a b rest)) (k.0, first_bad p q (a ++ (b ++ rest)) k.0 k.1)

-- whether the value is decoded or no value is
abbrev pub Fate : {A : Type 0} → Bool → List ℕ → Parser A → A → Type 0
Fate true front p x = Again front p x
Fate false front p x = Never front p

pub record HasFate {A : Type 0} (front : List ℕ) (p : Parser A) (x : A) : Type 0 where
  pub read : Bool
  pub fate : Fate read front p x

pub fate-of : {A : Type 0} (front : List ℕ) (p : Parser A) (x : A) → Whole front p x → HasFate front p x
fate-of front p x (inl h) = record { read = true; fate = h }
fate-of front p x (inr h) = record { read = false; fate = h }

pub whole-of : {A : Type 0} (read : Bool) (front : List ℕ) (p : Parser A) (x : A) → Fate read front p x → Whole front p x
whole-of true front p x h = inl h
whole-of false front p x h = inr h

pub fate-same : {A : Type 0} (read : Bool) (front : List ℕ) (p q : Parser A) (x : A) → p ≡ q → Fate read front q x → Fate read front p x
fate-same true front p q x e h = by-same front p q x e h
fate-same false front p q x e h = never-same front p q e h

pub again-fate : {A B : Type 0} (read : Bool) (p : Parser A) (q : A → Parser B) (a b : List ℕ) (x : A) (y : B) → Again a p x → Fate read b (q x) y → Fate read (a ++ b) (p >>= q) y
again-fate true p q a b x y h g = then-again p q a b x y h g
again-fate false p q a b x y h g = then-never p q a b x h g

pub fate-again : {A B : Type 0} (read : Bool) (p : Parser A) (q : A → Parser B) (a b : List ℕ) (x : A) (y : B) → Fate read a p x → Again b (q x) y → Fate read (a ++ b) (p >>= q) y
fate-again true p q a b x y h g = then-again p q a b x y h g
fate-again false p q a b x y h g = first-never p q a b h

pub fate-fate : {A B : Type 0} (read behind : Bool) (p : Parser A) (q : A → Parser B) (a b : List ℕ) (x : A) (y : B) → Fate read a p x → Fate behind b (q x) y → Fate (read && behind) (a ++ b) (p >>= q) y
fate-fate true behind p q a b x y h g = again-fate behind p q a b x y h g
fate-fate false behind p q a b x y h g = first-never p q a b h

-- the last field, which completes the value
pub last-again : {A B : Type 0} (p : Parser A) (make : A → B) (a : List ℕ) (x : A) → Again a p x → Again a (p >>= λ z. done (make z)) (make x)
last-again p make a x h rest = then_good p (λ z. done (make z)) (a ++ rest) rest rest x (make x) (h rest) (done_good (make x) rest)

pub last-fate : {A B : Type 0} (read : Bool) (p : Parser A) (make : A → B) (a : List ℕ) (x : A) → Fate read a p x → Fate read a (p >>= λ z. done (make z)) (make x)
last-fate true p make a x h = last-again p make a x h
last-fate false p make a x h = λ rest. let k = h rest in (k.0, first_bad p (λ z. done (make z)) (a ++ rest) k.0 k.1)

-- ---- Single fields

pub number-field : (w : Width) (limit : ℕ) → IsWide w limit → (n : ℕ) → n < limit → Again (to_be_bytes w n) (number w) n
number-field w limit wide n lt rest = number_again w limit wide n rest lt

pub byte-field : (test : ℕ → Bool) (n : ℕ) → test n ≡ true → Again (n ∷ []) (such_that test byte) n
byte-field test n h rest = test_passed test byte (n ∷ rest) rest n (byte_again n rest) h

pub byte-never : (test : ℕ → Bool) (n : ℕ) → test n ≡ false → Never (n ∷ []) (such_that test byte)
byte-never test n h rest = (0, test_failed test byte (n ∷ rest) rest n (byte_again n rest) h)

pub block-field : (width : ℕ) (front : List ℕ) → length front ≡ width → Again front (block width) front
block-field width front h rest = block_again front rest width h

pub signature-field : (sig : List ℕ) → is_signature sig ≡ true → Again sig parse_signature sig
signature-field sig h rest = signature_again sig rest h

-- ---- Fields that were decoded

pub glue : (a b bytes mid rest : List ℕ) → bytes ≡ a ++ mid → mid ≡ b ++ rest → bytes ≡ (a ++ b) ++ rest
glue a b bytes mid rest h g = h ∙ ap (λ (x : List ℕ). a ++ x) g ∙ sym (append_assoc a b rest)

pub again-whole : {A : Type 0} (front : List ℕ) (p : Parser A) (x : A) → Again front p x → p front ≡ Good x []
again-whole front p x h = ap p (sym (append-nil front)) ∙ h []
