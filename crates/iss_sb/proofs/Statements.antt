-- Different numbers have different bytes, whatever precedes and follows them.
use Rattle.std.proofs.Common.{◌≡◌, ℕ, zero, suc, ◌+◌, ◌*◌, ◌/◌, ◌%◌, ◌^◌, ◌<◌, List, [], ◌∷◌, ◌++◌, length, fold, append_assoc, refl, sym, ap, subst, ◌∙◌, arith, pow-suc, mul_comm}
use Rattle.std.proofs.Math.Nat.{pow-le-pow_right}
use Rattle.std.proofs.Math.Arith.{mod-mul}
use Rattle.std.proofs.lemmas.List.{length-append}
use Rattle.std.proofs.lemmas.Nat.{div_below}
use Rattle.std.specs.Int.{byte_at, bytes_high_first, to_be_bytes, w16, w32, w64}
use Rattle.iss_base.proofs.Lists.{ends-same}
use Rattle.iss_request.specs.Fields.{Written, and_bytes}
use Rattle.iss_sb.specs.declared.effects.Params.{Params}
use Rattle.iss_sb.specs.Statements.{eight_bytes, four_bytes, head_of, statement_head, two_bytes, wide_bytes}

-- one more byte before the low k bytes
byte_on : (k n high : ℕ) → (high * 256 + byte_at k n) * 256 ^ k + n % 256 ^ k ≡ high * 256 ^ suc k + n % 256 ^ suc k
byte_on zero n high = omega arith
byte_on (suc k) n high =
    let unit = 256 ^ suc k in
    let wider : 256 ^ suc (suc k) ≡ 256 * unit = pow-suc 256 (suc k) ∙ mul_comm unit 256 in
    let some : 0 < unit = pow-le-pow_right {n = 256} (omega arith) {i = 0} {j = suc k} (omega arith) in
    rw (wider, mod-mul n {m = 256} {c = unit} (omega arith) some) (omega arith)

bytes_read : (k n high : ℕ) → fold (λ h byte. h * 256 + byte) high (bytes_high_first k n) ≡ high * 256 ^ k + n % 256 ^ k
bytes_read zero n high = omega arith
bytes_read (suc k) n high = bytes_read k n (high * 256 + byte_at k n) ∙ byte_on k n high

-- the number that a list of bytes represents
abbrev value_of : List ℕ → ℕ
value_of [] = 0
value_of (b ∷ bs) = fold (λ h byte. h * 256 + byte) b bs

wide-value : (low n : ℕ) → value_of (wide_bytes low n) ≡ n
unfolding wide_bytes
wide-value low n =
    let some : 0 < 256 ^ low = pow-le-pow_right {n = 256} (omega arith) {i = 0} {j = low} (omega arith) in
    bytes_read low n (n / 256 ^ low) ∙ whole n (256 ^ low) some
  where
    whole : (n c : ℕ) → 0 < c → n / c * c + n % c ≡ n
    whole n c h = omega arith

low-length : (low n : ℕ) → length (bytes_high_first low n) ≡ low
low-length zero n = refl
low-length (suc low) n = ap suc (low-length low n)

pub wide-length : (low n : ℕ) → length (wide_bytes low n) ≡ suc low
unfolding wide_bytes
wide-length low n = ap suc (low-length low n)

-- with anything after them
pub wide-same : (low a b : ℕ) (x y : List ℕ) → wide_bytes low a ++ x ≡ wide_bytes low b ++ y → (a ≡ b) × (x ≡ y)
wide-same low a b x y h =
    let k = ends-same (wide_bytes low a) (wide_bytes low b) x y (wide-length low a ∙ sym (wide-length low b)) h in
    (sym (wide-value low a) ∙ ap value_of k.0 ∙ wide-value low b, k.1)

-- with anything before them
pub wide-last : (low : ℕ) (a b : List ℕ) (q r : ℕ) → a ++ wide_bytes low q ≡ b ++ wide_bytes low r → (a ≡ b) × (q ≡ r)
wide-last low a b q r h =
    let total : length a + suc low ≡ length b + suc low =
    sym (length-append a (wide_bytes low q) ∙ ap (λ (n : ℕ). length a + n) (wide-length low q)) ∙ ap (λ (t : List ℕ). length t) h ∙ (length-append b (wide_bytes low r) ∙ ap (λ (n : ℕ). length b + n) (wide-length low r)) in
    let k = ends-same a b (wide_bytes low q) (wide_bytes low r) (omega (arith, total)) h in
    (k.0, sym (wide-value low q) ∙ ap value_of k.1 ∙ wide-value low r)

within : (b : ℕ) → b < 256 → b ≡ b % 256
within b h = omega arith

byte-is : (low n : ℕ) → n / 256 ^ low < 256 → n / 256 ^ low ≡ byte_at low n
byte-is zero n h = omega (arith, h)
byte-is (suc low) n h = within (n / 256 ^ suc low) h

-- a number that fits is encoded by its bytes
pub wide-is : (low n : ℕ) → n < 256 ^ suc low → wide_bytes low n ≡ bytes_high_first (suc low) n
unfolding wide_bytes
wide-is low n lt =
    let some : 0 < 256 ^ low = pow-le-pow_right {n = 256} (omega arith) {i = 0} {j = low} (omega arith) in
    let high : n / 256 ^ low < 256 = div_below n (256 ^ low) 256 some (subst (λ (c : ℕ). n < c) (pow-suc 256 low ∙ mul_comm (256 ^ low) 256) lt) in
    ap (λ (b : ℕ). b ∷ bytes_high_first low n) (byte-is low n high)

pub two-is : (n : ℕ) → n < 2 ^ 16 → two_bytes n ≡ to_be_bytes w16 n
two-is n lt = wide-is 1 n lt

pub four-is : (n : ℕ) → n < 2 ^ 32 → four_bytes n ≡ to_be_bytes w32 n
four-is n lt = wide-is 3 n lt

pub eight-is : (n : ℕ) → n < 2 ^ 64 → eight_bytes n ≡ to_be_bytes w64 n
eight-is n lt = wide-is 7 n lt

head-flat : (cluster : List ℕ) (e l tag : ℕ) (x : List ℕ) → head_of cluster e l tag ++ x ≡ cluster ++ (eight_bytes e ++ (l ∷ tag ∷ x))
head-flat cluster e l tag x = append_assoc (cluster ++ eight_bytes e) (l ∷ tag ∷ []) x ∙ append_assoc cluster (eight_bytes e) (l ∷ tag ∷ x)

-- what equal statements have in common
pub record SameHead (cluster other : List ℕ) (e l tag d k mark : ℕ) (x y : List ℕ) : Type 0 where
  pub one_cluster : cluster ≡ other
  pub epoch : e ≡ d
  pub leader : l ≡ k
  pub module_tag : tag ≡ mark
  pub behind : x ≡ y

-- heads with anything after them; the tags of clusters have the same length
pub head-same : (cluster other : List ℕ) (e l tag d k mark : ℕ) (x y : List ℕ) → length cluster ≡ length other → head_of cluster e l tag ++ x ≡ head_of other d k mark ++ y → SameHead cluster other e l tag d k mark x y
head-same cluster other e l tag d k mark x y long h =
    let flat : cluster ++ (eight_bytes e ++ (l ∷ tag ∷ x)) ≡ other ++ (eight_bytes d ++ (k ∷ mark ∷ y)) = sym (head-flat cluster e l tag x) ∙ h ∙ head-flat other d k mark y in
    let q = ends-same cluster other (eight_bytes e ++ (l ∷ tag ∷ x)) (eight_bytes d ++ (k ∷ mark ∷ y)) long flat in
    let r = wide-same 7 e d (l ∷ tag ∷ x) (k ∷ mark ∷ y) q.1 in
    let rest : ◌≡◌ {A = List ℕ} (l ∷ tag ∷ x) (k ∷ mark ∷ y) = r.1 in
    record { one_cluster = q.0; epoch = r.0; leader = cc; module_tag = cc; behind = cc }

-- what equal statements of one module have in common: their kinds, their numbers, and what follows
pub record SameStatement (k l n m : ℕ) (x y : List ℕ) : Type 0 where
  pub kind : k ≡ l
  pub number : n ≡ m
  pub behind : x ≡ y

pub statement-same : (low : ℕ) (p : Params) (tag k l n m : ℕ) (x y : List ℕ) → statement_head p tag ++ (k ∷ (wide_bytes low n ++ x)) ≡ statement_head p tag ++ (l ∷ (wide_bytes low m ++ y)) → SameStatement k l n m x y
statement-same low p tag k l n m x y h =
    let a = (head-same p.setup.tag p.setup.tag p.epoch.0 p.leader.0 tag p.epoch.0 p.leader.0 tag (k ∷ (wide_bytes low n ++ x)) (l ∷ (wide_bytes low m ++ y)) refl h).behind in
    let kinds : k ≡ l = cc in
    let rest : wide_bytes low n ++ x ≡ wide_bytes low m ++ y = cc in
    let b = wide-same low n m x y rest in
    record { kind = kinds; number = b.0; behind = b.1 }

-- fields that are written one after the other are the head
pub head-written : (p : Params) (tag : ℕ) (a b c d e : Written) → p.epoch.0 < 2 ^ 64 → b ≡ and_bytes a p.setup.tag → c ≡ and_bytes b (to_be_bytes w64 p.epoch.0) → d ≡ and_bytes c (p.leader.0 ∷ []) → e ≡ and_bytes d (tag ∷ []) → e ≡ and_bytes a (statement_head p tag)
head-written p tag a b c d e lt hb hc hd he = let same = eight-is p.epoch.0 lt in rw (he, hd, hc, hb, same) (simp append_assoc)
