-- Facts about the trees of numbers.
use Rattle.std.proofs.Common.{◌≡◌, ℕ, ◌+◌, ◌<◌, ◌≤◌, List, [], ◌∷◌, ◌++◌, length, sym, ap, subst, ◌∙◌, length-append, map, get_or}
use Rattle.std.proofs.lemmas.List.{length-map, get_or-map}
use Rattle.std.specs.Prelude.{Option, Some, IfSome, IsSomeAnd, ◌^◌, slice_get}
use Rattle.iss_keys.specs.Pieces.{listed}
use Rattle.iss_base.specs.Heights.{IsHeight}
use Rattle.iss_keys.specs.Levels.{KeySeed, root_of}
use Rattle.iss_keys.specs.Signatures.{Verifies}
use Rattle.iss_keys.specs.KeyStates.{KeyState, PublicKeyView, public_key}
use Rattle.iss_keys.specs.Directories.{VerifiesBy, public_keys_of}
use Rattle.iss_keys.specs.Internal.Rings.{IsRing, ring_seed}
use Rattle.iss_keys.proofs.ListedLemmas.{listed_none, listed_more, length-listed, get_or-listed, slice_get-listed}

pub ring_none : (kind h : ℕ) → IsHeight h → IsRing kind h []
ring_none kind h high = record { high = high; trees_are = listed_none (ring_seed kind h) }

pub ring_more : (kind h n : ℕ) (trees : List KeySeed) (t : KeySeed) → length trees ≡ n → t ≡ ring_seed kind h n →
    IsRing kind h trees
    → IsRing kind h (trees ++ t ∷ [])
ring_more kind h n trees t size is ring =
    let one : length (trees ++ t ∷ []) ≡ length trees + 1 = length-append trees (t ∷ []) in
    record {
      high = ring.high;
      trees_are = listed_more trees t (ring_seed kind h) (length trees) ring.trees_are (is
          ∙ ap (ring_seed kind h) (sym size))
          ∙ ap (listed (ring_seed kind h)) (sym one);
    }

-- place i has the tree of number i
pub ring_at : {X : Type 0} (f : X → KeySeed) (kind h i : ℕ) (xs : List X) (x : X) → IsRing kind h (map f xs) →
    i < length xs → x ≡ get_or xs i x
    → f x ≡ ring_seed kind h i
ring_at f kind h i xs x ring lt at =
    let size : length (map f xs) ≡ length xs = length-map xs f in
    let within : i < length (map f xs) = rw size lt in
    ap f at ∙ sym (get_or-map f xs i x (f x) lt)
    ∙ ap (λ (ts : List KeySeed). get_or ts i (f x)) ring.trees_are
    ∙ get_or-listed (ring_seed kind h) (length (map f xs)) i (f x) within

-- if each key has its number's secret and all have one height, these are the public keys of the numbers
pub keys_listed : (secret_of : ℕ → List ℕ) (h n i next : ℕ) (secret : List ℕ) (k : KeyState) →
    i < length (public_keys_of secret_of h n)
    → k ≡ record { secret = secret; height = h; used = next }
    → IfSome (slice_get (public_keys_of secret_of h n) i)
    (λ key. k ≡ record { secret = secret; height = key.height; used = next })
keys_listed secret_of h n i next secret k lt e =
    let f = λ (j : ℕ). public_key (secret_of j) h in
    let within : i < n = rw (← length-listed f n) lt in
    subst (λ (o : Option PublicKeyView). IfSome o
    (λ key. k ≡ record { secret = secret; height = key.height; used = next }))
    (sym (slice_get-listed f n i within)) e

-- the key of a number has the height of the public key at its place
pub lone_is : (keys : List PublicKeyView) (i next : ℕ) (secret : List ℕ) (h : ℕ) (x : PublicKeyView) (k : KeyState) →
    slice_get keys i ≡ Some x → h ≡ x.height → k ≡ record { secret = secret; height = h; used = next }
    → IfSome (slice_get keys i) (λ key. k ≡ record { secret = secret; height = key.height; used = next })
lone_is keys i next secret h x k at high e =
    subst (λ (o : Option PublicKeyView). IfSome o
    (λ key. k ≡ record { secret = secret; height = key.height; used = next }))
    (sym at) (e ∙ ap (λ n. record { secret = secret; height = n; used = next }) high)

-- the converse, if the public keys are known
pub keys_made : (secret_of : ℕ → List ℕ) (h n i next : ℕ) (secret : List ℕ) (k : KeyState) (keys : List PublicKeyView) →
    i < length keys
    → keys ≡ public_keys_of secret_of h n
    → IfSome (slice_get keys i) (λ key. k ≡ record { secret = secret; height = key.height; used = next })
    → k ≡ record { secret = secret; height = h; used = next }
keys_made secret_of h n i next secret k keys lt e found =
    let f = λ (j : ℕ). public_key (secret_of j) h in
    let within : i < n = rw (← length-listed f n, ← e) lt in
    subst (λ (o : Option PublicKeyView). IfSome o
    (λ key. k ≡ record { secret = secret; height = key.height; used = next }))
    (ap (λ (ks : List PublicKeyView). slice_get ks i) e ∙ slice_get-listed f n i within) found

-- the height of the key of a number is that of all
pub listed_below : (secret_of : ℕ → List ℕ) (h n i next : ℕ) → i < length (public_keys_of secret_of h n)
    → IfSome (slice_get (public_keys_of secret_of h n) i) (λ key. next ≤ 2 ^ key.height)
    → next ≤ 2 ^ h
listed_below secret_of h n i next lt le =
    let f = λ (j : ℕ). public_key (secret_of j) h in
    let within : i < n = rw (← length-listed f n) lt in
    subst (λ (o : Option PublicKeyView). IfSome o (λ key. next ≤ 2 ^ key.height)) (slice_get-listed f n i within) le

-- a signature under the root of a number's secret is one by the key of this number
pub listed_verifies : (secret_of : ℕ → List ℕ) (h n i : ℕ) (s sig : List ℕ) → i < n
    → Verifies (root_of (secret_of i) h) h s sig
    → VerifiesBy (public_keys_of secret_of h n) i s sig
listed_verifies secret_of h n i s sig lt v =
    subst (λ (o : Option PublicKeyView). IsSomeAnd o (λ key. Verifies key.root key.height s sig))
    (sym (slice_get-listed (λ j. public_key (secret_of j) h) n i lt)) v
