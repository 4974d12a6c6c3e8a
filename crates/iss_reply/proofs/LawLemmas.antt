-- What the laws of replies rest on.
use Rattle.std.proofs.Common.{◌≡◌, ◌≢◌, refl, sym, ap, subst, ◌∙◌, ℕ, zero, suc, ◌+◌, ◌-◌, ◌/◌, ◌^◌, ◌<◌, ◌≤◌, Bool, true, false, cond, List, [], ◌∷◌, ◌++◌, length, length-append, append_assoc, take, Option, Some, None, arith}
use Rattle.std.specs.Prelude.{IsSomeAnd, nat_lt, slice_get}
use Rattle.std.proofs.lemmas.Bool.Decides.{nat_tests}
use Rattle.std.specs.Int.{w16, w32, to_be_bytes}
use Rattle.sha2.specs.Sha256.{sha256}
use Rattle.sha2.proofs.Facts256.{length-sha256}
use Rattle.iss_base.proofs.Lists.{ends-same, some-injective}
use Rattle.iss_keys.specs.Chains.{chain_start}
use Rattle.iss_keys.specs.Directories.{public_keys_of}
use Rattle.iss_keys.specs.KeyStates.{public_key}
use Rattle.iss_keys.specs.Levels.{top_secret, top_tree, tree_of_key}
use Rattle.iss_keys.specs.Trees.{KeyTree}
use Rattle.iss_base.specs.Heights.{IsHeight, has_two_levels}
use Rattle.iss_keys.specs.Signatures.{Verifies, signature_of}
use Rattle.iss_keys.specs.VerifiedBy.{is_verified_by}
use Rattle.iss_keys.proofs.DirectoryLemmas.{verified-by}
use Rattle.iss_keys.proofs.ListedLemmas.{slice_get-listed}
use Rattle.iss_keys.proofs.VerifyLemmas.{signature_verifies}
use Rattle.iss_request.specs.Log.{requests, size_of}
use Rattle.iss_request.specs.declared.requests.Request.{Request}
use Rattle.iss_request.specs.declared.requests.Value.{Value}
use Rattle.iss_request.specs.declared.setups.Setup.{Setup}
use Rattle.iss_reply.specs.declared.replies.Reply.{Reply}
use Rattle.iss_reply.specs.Answers.{answer_to, held_after, requests_in, requests_of}
use Rattle.iss_reply.specs.Clients.{IsReplyOf, cluster_of, is_signed}
use Rattle.iss_reply.specs.Replies.{Replying, Separates, chain_string, replying, reply_at, reply_secret, reply_to, signed_reply, slot_of, tree_string}
use Rattle.iss_reply.specs.Repliers.{Answered, ReplierState}
use Rattle.iss_reply.proofs.RequestLemmas.{get-below, get-front, requests-length}

-- ---- longer logs

take-front : {A : Type 0} (xs ys : List A) (k : ℕ) → k ≤ length xs → take k (xs ++ ys) ≡ take k xs
take-front [] [] zero h = refl
take-front [] (y ∷ ys) zero h = refl
take-front [] ys (suc k) h = absurd (omega arith)
take-front (x ∷ xs) ys zero h = refl
take-front (x ∷ xs) ys (suc k) h = let le : k ≤ length xs = omega arith in ap (λ zs. x ∷ zs) (take-front xs ys k le)

requests-append : (log more : List Value) → requests (log ++ more) ≡ requests log + requests more
requests-append [] more = omega arith
requests-append (v ∷ log) more = let ih = requests-append log more in omega (arith, ih)

all-append : (log more : List Value) → requests_of (log ++ more) ≡ requests_of log ++ requests_of more
all-append [] more = refl
all-append (v ∷ log) more =
    ap (λ (rs : List Request). requests_in v ++ rs) (all-append log more) ∙ sym (append_assoc (requests_in v) (requests_of log) (requests_of more))

pub answered-longer : (r : ReplierState) (log more : List Value) → Answered r log → Answered r (log ++ more)
answered-longer r log more a =
    let long = length-append log more in
    let sum = requests-append log more in
    let number = a.number in
    let slot = a.slot in
    let all = requests-length log in
    let le : r.number ≤ length (requests_of log) = omega (arith, number, all) in
    record {
      position = a.position ∙ ap (λ (es : List Value). requests es + r.place) (sym (take-front log more r.slot slot));
      slot = omega (arith, long, slot);
      number = omega (arith, sum, number);
      held = λ key.
          a.held key
          ∙ ap (λ (rs : List Request). held_after rs key) (sym (ap (λ (rs : List Request). take r.number rs) (all-append log more) ∙ take-front (requests_of log) (requests_of more) r.number le));
    }

slot-longer : (log more : List Value) (q : ℕ) → q < requests log → slot_of (log ++ more) q ≡ slot_of log q
slot-longer [] more q h = absurd (omega (arith, h))
slot-longer (v ∷ log) more q h = go (λ lt. slot-longer log more (q - size_of v) lt) (nat_lt q (size_of v)) refl
  where
    go : (q - size_of v < requests log → slot_of (log ++ more) (q - size_of v) ≡ slot_of log (q - size_of v)) → (b : Bool) → nat_lt q (size_of v) ≡ b
        → cond b 0 (suc (slot_of (log ++ more) (q - size_of v))) ≡ cond b 0 (suc (slot_of log (q - size_of v)))
    go rec true e = refl
    go rec false e = let at : size_of v ≤ q = grind (arith, nat_tests, e) in ap suc (rec (omega (arith, at, h)))

-- a node's reply to a request of a log is its reply in each longer one
pub reply-longer : (w : Replying) (log more : List Value) (q : ℕ) (r : Reply) → reply_at w log q ≡ Some r → reply_at w (log ++ more) q ≡ Some r
reply-longer w log more q r h = go (slice_get (requests_of log) q) refl h
  where
    go : (o : Option Request) → slice_get (requests_of log) q ≡ o → reply_to w log q o ≡ Some r → reply_at w (log ++ more) q ≡ Some r
    go None at e = let clash : None ≡ Some r → ⊥ = λ e. cc in absurd (clash e)
    go (Some x) at e =
        let lt = get-below (requests_of log) q x at in
        let all = requests-length log in
        let le : q ≤ length (requests_of log) = omega (arith, lt) in
        let there : slice_get (requests_of (log ++ more)) q ≡ Some x =
        ap (λ (rs : List Request). slice_get rs q) (all-append log more) ∙ get-front (requests_of log) (requests_of more) q lt ∙ at in
        ap (λ o. reply_to w (log ++ more) q o) there
        ∙ ap (λ k. Some (signed_reply w (k / w.slots) x.id q (answer_to (held_after (take q (requests_of (log ++ more)))) x.payload))) (slot-longer log more q (omega (arith, lt, all)))
        ∙ ap (λ (rs : List Request). Some (signed_reply w (slot_of log q / w.slots) x.id q (answer_to (held_after rs) x.payload)))
        (ap (λ (rs : List Request). take q rs) (all-append log more) ∙ take-front (requests_of log) (requests_of more) q le)
        ∙ e

-- ---- a node's replies

pub own-reply : (s : Setup) (me q : ℕ) (log : List Value) (r : Reply) → reply_at (replying s me) log q ≡ Some r → IsReplyOf s log r
own-reply s me q log r h = go (slice_get (requests_of log) q) h
  where
    go : (o : Option Request) → reply_to (replying s me) log q o ≡ Some r → IsReplyOf s log r
    go None e = let clash : None ≡ Some r → ⊥ = λ e. cc in absurd (clash e)
    go (Some x) e =
        let same = some-injective (signed_reply (replying s me) (slot_of log q / s.epoch) x.id q (answer_to (held_after (take q (requests_of log))) x.payload)) r e in
        let by : me ≡ r.by.0 = ap (λ (y : Reply). y.by.0) same in
        let number : q ≡ r.q = ap (λ (y : Reply). y.q) same in
        record {
          own = r;
          made = subst (λ i. reply_at (replying s i) log r.q ≡ Some r) by (subst (λ i. reply_at (replying s me) log i ≡ Some r) number h);
          epoch = refl;
          id = refl;
          answer = refl;
        }

-- a reply that a node made is signed by it
pub own-signed : (s : Setup) (me q : ℕ) (log : List Value) (r : Reply) → me < s.n → IsHeight s.keys → q < 2 ^ s.keys
    → reply_at (replying s me) log q ≡ Some r → is_signed (cluster_of s) r ≡ true
own-signed s me q log r below high lt h = go (slice_get (requests_of log) q) h
  where
    verifies : (st : List ℕ) → is_verified_by (public_keys_of reply_secret s.keys s.n) me st (signature_of (reply_secret me) s.keys q st) ≡ true
    verifies st =
        (verified-by (public_keys_of reply_secret s.keys s.n) me st (signature_of (reply_secret me) s.keys q st)).1
        (subst (λ o. IsSomeAnd o (λ key. Verifies key.root key.height st (signature_of (reply_secret me) s.keys q st)))
        (sym (slice_get-listed (λ i. public_key (reply_secret i) s.keys) s.n me below))
        (signature_verifies (reply_secret me) st s.keys q high lt))

    go : (o : Option Request) → reply_to (replying s me) log q o ≡ Some r → is_signed (cluster_of s) r ≡ true
    go None e = let clash : None ≡ Some r → ⊥ = λ e. cc in absurd (clash e)
    go (Some x) e =
        let same = some-injective (signed_reply (replying s me) (slot_of log q / s.epoch) x.id q (answer_to (held_after (take q (requests_of log))) x.payload)) r e in
        subst (λ (y : Reply). is_signed (cluster_of s) y ≡ true) same (verifies _)

-- ---- keys of different kinds

first-same : (a b : ℕ) (xs ys : List ℕ) → (a ∷ xs) ≡ (b ∷ ys) → a ≡ b
first-same a b xs ys h = cc

rest-same : (a b : ℕ) (xs ys : List ℕ) → (a ∷ xs) ≡ (b ∷ ys) → xs ≡ ys
rest-same a b xs ys h = cc

pub secrets-apart : (kind i j : ℕ) → kind ≢ 0x22 → Separates (0x22 ∷ i ∷ []) (kind ∷ j ∷ []) → reply_secret i ≢ sha256 (kind ∷ j ∷ [])
secrets-apart kind i j other h e = other (sym (first-same 0x22 kind (i ∷ []) (j ∷ []) (h e)))

-- the secret of each tree is the hash of its string
tree-hashed : (own : List ℕ) (h t : ℕ) → (tree_of_key (sha256 own) h t).secret ≡ sha256 (tree_string own h t)
unfolding top_tree
tree-hashed own h zero = by_levels (has_two_levels h)
  where
    by_levels : (b : Bool) → (cond {A = KeyTree} b (record { secret = top_secret (sha256 own); height = h - 10 })
        (record { secret = sha256 own; height = h })).secret ≡ sha256 (cond b (0x16 ∷ sha256 own) own)
    by_levels true = refl
    by_levels false = refl
tree-hashed own h (suc b) = refl

-- a tree's string is the other tree's only if the keys' secrets are equal
strings-apart : (kind i j h t u : ℕ) → kind ≢ 0x22 → Separates (0x22 ∷ i ∷ []) (kind ∷ j ∷ []) →
    tree_string (0x22 ∷ i ∷ []) h t ≢ tree_string (kind ∷ j ∷ []) h u
strings-apart kind i j h zero zero other g e = by_levels (has_two_levels h) e
  where
    by_levels : (b : Bool) → cond b (0x16 ∷ sha256 (0x22 ∷ i ∷ [])) (0x22 ∷ i ∷ [])
        ≡ cond b (0x16 ∷ sha256 (kind ∷ j ∷ [])) (kind ∷ j ∷ []) → ⊥
    by_levels true e = secrets-apart kind i j other g (rest-same 0x16 0x16 _ _ e)
    by_levels false e = other (sym (first-same 0x22 kind (i ∷ []) (j ∷ []) e))
strings-apart kind i j h zero (suc b) other g e = by_levels (has_two_levels h) e
  where
    by_levels : (c : Bool) → cond c (0x16 ∷ sha256 (0x22 ∷ i ∷ [])) (0x22 ∷ i ∷ [])
        ≡ 0x15 ∷ sha256 (kind ∷ j ∷ []) ++ to_be_bytes w32 b → ⊥
    by_levels true e = let clash : 0x16 ≡ 0x15 = first-same 0x16 0x15 _ _ e in absurd (omega (arith, clash))
    by_levels false e = let clash : 0x22 ≡ 0x15 = first-same 0x22 0x15 _ _ e in absurd (omega (arith, clash))
strings-apart kind i j h (suc a) zero other g e = by_levels (has_two_levels h) e
  where
    by_levels : (c : Bool) → 0x15 ∷ sha256 (0x22 ∷ i ∷ []) ++ to_be_bytes w32 a
        ≡ cond c (0x16 ∷ sha256 (kind ∷ j ∷ [])) (kind ∷ j ∷ []) → ⊥
    by_levels true e = let clash : 0x15 ≡ 0x16 = first-same 0x15 0x16 _ _ e in absurd (omega (arith, clash))
    by_levels false e =
        let same = ap (λ (xs : List ℕ). length xs) (rest-same 0x15 kind _ _ e) in
        let sum = length-append (sha256 (0x22 ∷ i ∷ [])) (to_be_bytes w32 a) in
        let long = length-sha256 (0x22 ∷ i ∷ []) in
        absurd (omega (arith, same, sum, long))
strings-apart kind i j h (suc a) (suc b) other g e =
    let long = length-sha256 (0x22 ∷ i ∷ []) ∙ sym (length-sha256 (kind ∷ j ∷ [])) in
    let same = rest-same 0x15 0x15 _ _ e in
    secrets-apart kind i j other g
    (ends-same (sha256 (0x22 ∷ i ∷ [])) (sha256 (kind ∷ j ∷ [])) (to_be_bytes w32 a) (to_be_bytes w32 b) long same).0

pub trees-apart : (kind i j h t u : ℕ) → kind ≢ 0x22 → Separates (0x22 ∷ i ∷ []) (kind ∷ j ∷ [])
    → Separates (tree_string (0x22 ∷ i ∷ []) h t) (tree_string (kind ∷ j ∷ []) h u)
    → (tree_of_key (reply_secret i) h t).secret ≢ (tree_of_key (sha256 (kind ∷ j ∷ [])) h u).secret
trees-apart kind i j h t u other g f e =
    strings-apart kind i j h t u other g
    (f (sym (tree-hashed (0x22 ∷ i ∷ []) h t) ∙ e ∙ tree-hashed (kind ∷ j ∷ []) h u))

-- a tree's secret is a digest
tree-long : (own : List ℕ) (h t : ℕ) → length (tree_of_key (sha256 own) h t).secret ≡ 32
tree-long own h t = ap (λ (xs : List ℕ). length xs) (tree-hashed own h t) ∙ length-sha256 (tree_string own h t)

pub chains-apart : (kind i j h t u q r k l : ℕ) → kind ≢ 0x22 → Separates (0x22 ∷ i ∷ []) (kind ∷ j ∷ [])
    → Separates (tree_string (0x22 ∷ i ∷ []) h t) (tree_string (kind ∷ j ∷ []) h u)
    → Separates (chain_string (tree_of_key (reply_secret i) h t).secret q k)
    (chain_string (tree_of_key (sha256 (kind ∷ j ∷ [])) h u).secret r l)
    → chain_start (tree_of_key (reply_secret i) h t).secret q k
    ≢ chain_start (tree_of_key (sha256 (kind ∷ j ∷ [])) h u).secret r l
chains-apart kind i j h t u q r k l other g f d e =
    let a = (tree_of_key (reply_secret i) h t).secret in
    let b = (tree_of_key (sha256 (kind ∷ j ∷ [])) h u).secret in
    let same = rest-same 0x10 0x10 _ _ (d e) in
    let turned : a ++ (to_be_bytes w32 q ++ to_be_bytes w16 k) ≡ b ++ (to_be_bytes w32 r ++ to_be_bytes w16 l) =
    sym (append_assoc a (to_be_bytes w32 q) (to_be_bytes w16 k)) ∙ same ∙ append_assoc b (to_be_bytes w32 r) (to_be_bytes w16 l) in
    let long : length a ≡ length b = tree-long (0x22 ∷ i ∷ []) h t ∙ sym (tree-long (kind ∷ j ∷ []) h u) in
    trees-apart kind i j h t u other g f (ends-same a b (to_be_bytes w32 q ++ to_be_bytes w16 k) (to_be_bytes w32 r ++ to_be_bytes w16 l) long turned).0
