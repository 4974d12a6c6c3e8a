-- Facts about signatures by the keys of a directory, for higher crates.
use Rattle.std.proofs.Common.{◌≡◌, ◌↔◌, ℕ, ◌^◌, ◌<◌, ◌≤◌, true, true≢false, List, length, refl, sym, subst, inl, inr}
use Rattle.std.specs.Prelude.{Option, Some, None, IfSome, IsSomeAnd, slice_get, slice_index}
use Rattle.std.specs.Bool.{Decides}
use Rattle.std.proofs.lemmas.Bool.{cases_lt}
use Rattle.std.proofs.lemmas.Bool.Decides.{Decides-and, Decides-eqb, Decides-ltb}
use Rattle.std.proofs.lemmas.Slice.Eq.{bytes_eq-Decides}
use Rattle.std.proofs.lemmas.Option.{slice_get_past}
use Rattle.iss_base.specs.Heights.{IsHeight, signature_length}
use Rattle.iss_keys.specs.Levels.{root_of}
use Rattle.iss_keys.specs.Signatures.{leaf_number, root_from, signature_of, Verifies}
use Rattle.iss_keys.specs.KeyStates.{PublicKeyView, public_key}
use Rattle.iss_keys.specs.Directories.{VerifiesBy, directory_of, node_secret, client_secret, public_keys_of}
use Rattle.iss_keys.specs.VerifiedBy.{is_true_under, is_verified_by}
use Rattle.iss_keys.proofs.ListedLemmas.{length-listed, slice_get-listed}
use Rattle.iss_keys.proofs.VerifyLemmas.{signature_verifies}

-- ---- the test

tested : (key : Option PublicKeyView) (s sig : List ℕ) →
    Decides (is_true_under key s sig) (IsSomeAnd key (λ k. Verifies k.root k.height s sig))
unfolding is_true_under
tested None s sig = (λ e. absurd (true≢false (sym e)), λ v. absurd v)
tested (Some k) s sig =
    let exact = Decides-eqb (length sig) (signature_length k.height) in
    let height = Decides-eqb (slice_index sig 0) k.height in
    let leaf = Decides-ltb (leaf_number sig) (2 ^ k.height) in
    let root = bytes_eq-Decides (root_from s sig k.height) k.root in
    let all = Decides-and _ _ exact (Decides-and _ _ height (Decides-and _ _ leaf root)) in (
      λ e. let parts = all.0 e in
          record { exact = parts.0; height = parts.1.0; leaf = parts.1.1.0; root_is = parts.1.1.1 },
      λ v. all.1 (v.exact, (v.height, (v.leaf, v.root_is))),
    )

-- `is_verified_by` decides `VerifiesBy`
pub verified-by : (keys : List PublicKeyView) (i : ℕ) (s sig : List ℕ) →
    (is_verified_by keys i s sig ≡ true) ↔ VerifiesBy keys i s sig
unfolding is_verified_by
verified-by keys i s sig = tested (slice_get keys i) s sig

-- ---- what the keys of a directory sign

own_verifies : (secret_of : ℕ → List ℕ) (n h i q : ℕ) (s : List ℕ) → IsHeight h → q < 2 ^ h → i < n
    → VerifiesBy (public_keys_of secret_of h n) i s (signature_of (secret_of i) h q s)
own_verifies secret_of n h i q s high leaf number =
    subst (λ (k : Option PublicKeyView). IsSomeAnd k
    (λ key. Verifies key.root key.height s (signature_of (secret_of i) h q s)))
    (sym (slice_get-listed (λ j. public_key (secret_of j) h) n i number))
    (signature_verifies (secret_of i) s h q high leaf)

own_below : (secret_of : ℕ → List ℕ) (n h i : ℕ) (s sig : List ℕ) → VerifiesBy (public_keys_of secret_of h n) i s sig →
    i < n
own_below secret_of n h i s sig v = elim (cases_lt i n) [
  | inl below ↦ below
  | inr past ↦
      let size = length-listed (λ j. public_key (secret_of j) h) n in
      let gone : slice_get (public_keys_of secret_of h n) i ≡ None =
      slice_get_past (public_keys_of secret_of h n) i (rw size past) in
      absurd (subst (λ (k : Option PublicKeyView). IsSomeAnd k (λ key. Verifies key.root key.height s sig)) gone v)
]

own_is : (secret_of : ℕ → List ℕ) (n h i : ℕ) (s sig : List ℕ) → VerifiesBy (public_keys_of secret_of h n) i s sig
    → Verifies (root_of (secret_of i) h) h s sig
own_is secret_of n h i s sig v =
    subst (λ (k : Option PublicKeyView). IsSomeAnd k (λ key. Verifies key.root key.height s sig))
    (slice_get-listed (λ j. public_key (secret_of j) h) n i (own_below secret_of n h i s sig v)) v

-- what node i signs with a leaf of its key verifies by the directory
pub node-verifies : (n c h i q : ℕ) (s : List ℕ) → IsHeight h → q < 2 ^ h → i < n
    → VerifiesBy (directory_of n c h).nodes i s (signature_of (node_secret i) h q s)
node-verifies n c h i q s = own_verifies node_secret n h i q s

-- what client i signs with a leaf of its key verifies by the directory
pub client-verifies : (n c h i q : ℕ) (s : List ℕ) → IsHeight h → q < 2 ^ h → i < c
    → VerifiesBy (directory_of n c h).clients i s (signature_of (client_secret i) h q s)
client-verifies n c h i q s = own_verifies client_secret c h i q s

-- a node with a valid signature is in the directory
pub node-below : (n c h i : ℕ) (s sig : List ℕ) → VerifiesBy (directory_of n c h).nodes i s sig → i < n
node-below n c h i s sig = own_below node_secret n h i s sig

-- a client with a valid signature is in the directory
pub client-below : (n c h i : ℕ) (s sig : List ℕ) → VerifiesBy (directory_of n c h).clients i s sig → i < c
client-below n c h i s sig = own_below client_secret c h i s sig

-- what verifies by the directory is a signature under that node's root, so its length and height are known
pub node-root : (n c h i : ℕ) (s sig : List ℕ) → VerifiesBy (directory_of n c h).nodes i s sig →
    Verifies (root_of (node_secret i) h) h s sig
node-root n c h i s sig = own_is node_secret n h i s sig

pub client-root : (n c h i : ℕ) (s sig : List ℕ) → VerifiesBy (directory_of n c h).clients i s sig →
    Verifies (root_of (client_secret i) h) h s sig
client-root n c h i s sig = own_is client_secret c h i s sig

-- ---- the shape of a signature

-- the first byte of a signature is the height
pub first-signature_of : (secret : List ℕ) (h q : ℕ) (s : List ℕ) → slice_index (signature_of secret h q s) 0 ≡ h
first-signature_of secret h q s = refl

-- ---- the owners of keys

pub length-nodes : (n c h : ℕ) → length (directory_of n c h).nodes ≡ n
length-nodes n c h = length-listed (λ i. public_key (node_secret i) h) n

pub length-clients : (n c h : ℕ) → length (directory_of n c h).clients ≡ c
length-clients n c h = length-listed (λ i. public_key (client_secret i) h) c

-- the leaves that a key of a node may have used
pub node-leaves : (n c h i next : ℕ) → i < n → next ≤ 2 ^ h
    → IfSome (slice_get (directory_of n c h).nodes i) (λ key. next ≤ 2 ^ key.height)
node-leaves n c h i next lt le =
    subst (λ (k : Option PublicKeyView). IfSome k (λ key. next ≤ 2 ^ key.height))
    (sym (slice_get-listed (λ j. public_key (node_secret j) h) n i lt)) le
