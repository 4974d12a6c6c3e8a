-- Facts about listed values, and about the public keys of keys listed by number.
use Rattle.std.proofs.Common.{◌≡◌, ℕ, zero, suc, ◌+◌, ◌<◌, List, [], ◌∷◌, ◌++◌, length, get_or, map, refl, sym, ap, ap₂, ◌∙◌, arith, add-one, inl, inr, length-append}
use Rattle.std.specs.Prelude.{◌≤◌, slice_get, Some, None}
use Rattle.std.specs.Option.{option_map}
use Rattle.std.proofs.lemmas.List.{ext_get_or, length-map}
use Rattle.std.proofs.lemmas.Option.{slice_get-map, slice_get-get_or, slice_get_past, get_or_from_slice_get}
use Rattle.std.proofs.Math.ListN.{get_or-append}
use Rattle.std.proofs.Math.Seq.{get_or-append_seam}
use Rattle.std.proofs.lemmas.Bool.{cases_lt}
use Rattle.iss_keys.specs.Pieces.{listed}
use Rattle.iss_keys.specs.KeyStates.{KeyState, public_key, public_of}
use Rattle.iss_keys.specs.Directories.{public_keys_of, HasKeys}

pub listed_none : {X : Type 0} (f : ℕ → X) → [] ≡ listed f 0
unfolding listed
listed_none f = refl

pub listed_more : {X : Type 0} (xs : List X) (x : X) (f : ℕ → X) (n : ℕ) → xs ≡ listed f n → x ≡ f n →
    xs ++ x ∷ [] ≡ listed f (n + 1)
unfolding listed
listed_more xs x f n h e = rw add-one (ap₂ (λ a b. a ++ b ∷ []) h e)

pub length-listed : {X : Type 0} (f : ℕ → X) (n : ℕ) → length (listed f n) ≡ n
unfolding listed
length-listed f zero = refl
length-listed f (suc n) = let below = length-listed f n in simp length-append (omega arith)

-- the value listed at i
pub get_or-listed : {X : Type 0} (f : ℕ → X) (n i : ℕ) (d : X) → i < n → get_or (listed f n) i d ≡ f i
unfolding listed
get_or-listed f zero i d lt = absurd (omega arith)
get_or-listed f (suc n) i d lt =
    let size = length-listed f n in
    elim (cases_lt i n) [
      | inl below ↦
          let inside : i < length (listed f n) = omega arith in
          get_or-append (listed f n) (f n ∷ []) d i inside ∙ get_or-listed f n i d below
      | inr top ↦
          let at : i ≡ length (listed f n) = omega arith in
          let same : i ≡ n = omega arith in
          ap (λ j. get_or (listed f n ++ f n ∷ []) j d) at ∙ get_or-append_seam (listed f n) (f n) [] d
          ∙ ap f (sym same)
    ]

pub slice_get-listed : {X : Type 0} (f : ℕ → X) (n i : ℕ) → i < n → slice_get (listed f n) i ≡ Some (f i)
slice_get-listed f n i lt =
    let inside : i < length (listed f n) = rw (length-listed f n) lt in
    slice_get-get_or (listed f n) i (f i) inside ∙ ap Some (get_or-listed f n i (f i) lt)

-- keys listed by number have the public keys of these numbers
pub publics_listed : (secret_of : ℕ → List ℕ) (h : ℕ) (keys : List KeyState) → HasKeys secret_of h keys
    → map public_of keys ≡ public_keys_of secret_of h (length keys)
publics_listed secret_of h keys has =
    let none = public_key [] 0 in
    let sizes : length (map public_of keys) ≡ length (public_keys_of secret_of h (length keys)) =
    length-map keys public_of ∙ sym (length-listed (λ i. public_key (secret_of i) h) (length keys)) in
    ext_get_or none (map public_of keys) (public_keys_of secret_of h (length keys)) sizes (λ i lt.
    let within : i < length keys = rw (← length-map keys public_of) lt in
    let key = get_or keys i (record { secret = []; height = 0; used = 0 }) in
    let at : slice_get keys i ≡ Some key = slice_get-get_or keys i _ within in
    let own = has i key at in
    get_or_from_slice_get (map public_of keys) i (public_of key) none (slice_get-map public_of keys i
    ∙ ap (option_map public_of) at)
    ∙ ap₂ public_key own.0 own.1
    ∙ sym (get_or-listed (λ j. public_key (secret_of j) h) (length keys) i none within))

-- the value at a number: what is listed, and None from the end on
pub some_listed : {X : Type 0} (f : ℕ → X) (n i : ℕ) (x : X) → i < n → x ≡ f i → Some x ≡ slice_get (listed f n) i
some_listed f n i x lt e = ap Some e ∙ sym (slice_get-listed f n i lt)

pub none_listed : {X : Type 0} (f : ℕ → X) (n i : ℕ) → n ≤ i → None ≡ slice_get (listed f n) i
none_listed f n i le = sym (slice_get_past (listed f n) i (rw (length-listed f n) le))
