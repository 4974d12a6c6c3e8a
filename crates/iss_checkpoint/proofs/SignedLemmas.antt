-- Signatures that are checked one after another, and what follows for a certificate.
use Rattle.std.proofs.Common.{◌≡◌, ◌↔◌, inl, inr, ℕ, suc, ◌+◌, ◌<◌, ◌≤◌, ◌^◌, Bool, true, false, IsTrue, ◌&&◌, ◌||◌, ◌==◌, not, eqb, List, [], ◌∷◌, ◌++◌, length, take, drop, zero, refl, sym, ap, ◌∙◌, arith, append_assoc, true≢false}
use Rattle.std.specs.Prelude.{nat_le, nat_lt}
use Rattle.std.specs.Int.{to_be_bytes, w64}
use Rattle.std.proofs.lemmas.Bool.{le-leb, leb-true, lt-leb, lt-ltb, ltb-true}
use Rattle.std.proofs.lemmas.Bool.Decides.{Decides-eqb}
use Rattle.std.proofs.lemmas.List.{append-nil, length-append}
use borrow.Rule.Slice.PartMut.{put_mid}
use Rattle.iss_base.specs.Lists.{In}
use Rattle.iss_base.specs.Quorum.{all_below, distinct, mem}
use Rattle.iss_base.proofs.Lists.{and-true, both, is-eq, not-true, same-test}
use Rattle.iss_base.proofs.Quorum.{count-both, count-distinct, count-length, count-less, count-some}
use Rattle.iss_keys.specs.Directories.{DirectoryView, VerifiesBy}
use Rattle.iss_keys.specs.KeyStates.{PublicKeyView}
use Rattle.iss_keys.specs.VerifiedBy.{is_verified_by}
use Rattle.iss_keys.proofs.DirectoryLemmas.{verified-by}
use Rattle.iss_request.specs.Setup.{IsFewFaulty, IsGoodSetup, quorum_of_kind}
use Rattle.iss_request.specs.declared.ids.NodeId.{NodeId}
use Rattle.iss_request.specs.declared.setups.Kind.{Kind}
use Rattle.iss_request.specs.declared.setups.Kind.TheVariants.{Byzantine, Stopping}
use Rattle.iss_request.specs.declared.setups.Setup.{Setup}
use Rattle.iss_sb.specs.Evidence.{has_node, is_correct}
use Rattle.iss_sb.proofs.Statements.{eight-is}
use Rattle.iss_checkpoint.specs.declared.votes.Cert.{Cert}
use Rattle.iss_sb.specs.declared.signers.Signed.{Signed}
use Rattle.iss_checkpoint.specs.Votes.{HasCorrectSigner, HasSigned, HaveSigned, IsCert, Voters, are_signed, cert_statement, is_cert, is_signed, vote_statement, voters_of}

-- ---- the statement

three-more : (a r : List ℕ) (x y z : ℕ) → (a ++ x ∷ y ∷ z ∷ []) ++ r ≡ (a ++ x ∷ y ∷ []) ++ (z ∷ r)
three-more a r x y z = append_assoc a (x ∷ y ∷ z ∷ []) r ∙ sym (append_assoc a (x ∷ y ∷ []) (z ∷ r))

pub statement-written : (tag chain : List ℕ) (e number : ℕ) → e < 2 ^ 64 → number < 2 ^ 64
    → (tag ++ to_be_bytes w64 e ++ 255 ∷ 0 ∷ 0 ∷ []) ++ (chain ++ to_be_bytes w64 number) ≡ vote_statement tag e chain number
statement-written tag chain e number le ln =
    let epoch = eight-is e le in
    let count = eight-is number ln in
    rw (epoch, count) (three-more (tag ++ to_be_bytes w64 e) (chain ++ to_be_bytes w64 number) 255 0 0)

front : (a zs : List ℕ) (k : ℕ) → length a ≡ k → take k (a ++ zs) ≡ a
front [] [] zero h = refl
front [] (z ∷ zs) zero h = refl
front [] zs (suc k) h = absurd (omega (arith, h))
front (x ∷ a) zs zero h = absurd (omega (arith, h))
front (x ∷ a) zs (suc k) h = let e : length a ≡ k = omega (arith, h) in ap (λ (xs : List ℕ). x ∷ xs) (front a zs k e)

behind : (a zs : List ℕ) (k : ℕ) → length a ≡ k → drop k (a ++ zs) ≡ zs
behind [] [] zero h = refl
behind [] (z ∷ zs) zero h = refl
behind [] zs (suc k) h = absurd (omega (arith, h))
behind (x ∷ a) zs zero h = absurd (omega (arith, h))
behind (x ∷ a) zs (suc k) h = let e : length a ≡ k = omega (arith, h) in behind a zs k e

gone : (xs : List ℕ) (k : ℕ) → length xs ≤ k → drop k xs ≡ []
gone [] zero h = refl
gone [] (suc k) h = refl
gone (x ∷ xs) zero h = absurd (omega (arith, h))
gone (x ∷ xs) (suc k) h = let le : length xs ≤ k = omega (arith, h) in gone xs k le

-- an array of two parts, each copied into its place
pub two-parts : (k n : ℕ) (a b x y zs : List ℕ) → length x ≡ k → length zs ≡ n → a ≡ x → b ≡ y → put_mid k n (a ++ zs) b ≡ x ++ y
two-parts k n a b x y zs lx lz ea eb =
    let begins = front x zs k lx in
    let le : length zs ≤ n = omega (arith, lz) in
    rw (ea, eb, begins) (ap (λ (r : List ℕ). x ++ (y ++ r)) (ap (λ (t : List ℕ). drop n t) (behind x zs k lx) ∙ gone zs n le) ∙ ap (λ (t : List ℕ). x ++ t) (append-nil y))

head-long : (tag : List ℕ) (e : ℕ) → length tag ≡ 32 → length (tag ++ to_be_bytes w64 e ++ 255 ∷ 0 ∷ 0 ∷ []) ≡ 43
head-long tag e h =
    let one = length-append (tag ++ to_be_bytes w64 e) (255 ∷ 0 ∷ 0 ∷ []) in
    let two = length-append tag (to_be_bytes w64 e) in
    omega (arith, one, two, h)

pub statement-put : (tag chain : List ℕ) (e number : ℕ) (a b zs : List ℕ) → length tag ≡ 32 → e < 2 ^ 64 → number < 2 ^ 64 → length zs ≡ 40
    → a ≡ tag ++ to_be_bytes w64 e ++ 255 ∷ 0 ∷ 0 ∷ [] → b ≡ chain ++ to_be_bytes w64 number → put_mid 43 40 (a ++ zs) b ≡ vote_statement tag e chain number
statement-put tag chain e number a b zs long le ln size ea eb =
    two-parts 43 40 a b (tag ++ to_be_bytes w64 e ++ 255 ∷ 0 ∷ 0 ∷ []) (chain ++ to_be_bytes w64 number) zs (head-long tag e long) size ea eb ∙ statement-written tag chain e number le ln

-- ---- one signature

pub signed-is : (w : Voters) (n : ℕ) (keys : List PublicKeyView) (st : List ℕ) (by : ℕ) (sig : List ℕ) (r : Bool) → w.n ≡ n → w.keys ≡ keys → by < n
    → IsTrue r ↔ VerifiesBy keys by st sig → r ≡ is_signed w st by sig
signed-is w n keys st by sig r en ek lt h =
    let below : nat_lt by w.n ≡ true = rw en (lt-ltb by n lt) in
    let same : r ≡ is_verified_by w.keys by st sig = rw ek (same-test r (is_verified_by keys by st sig) h (verified-by keys by st sig)) in
    same ∙ rw below refl

pub not-signed : (w : Voters) (n : ℕ) (st : List ℕ) (by : ℕ) (sig : List ℕ) → w.n ≡ n → n ≤ by → false ≡ is_signed w st by sig
not-signed w n st by sig en le =
    let past : nat_lt by w.n ≡ false = rw en (lt-leb (suc by) n (omega (arith, le))) in
    rw past refl

pub signed-means : (w : Voters) (st : List ℕ) (by : ℕ) (sig : List ℕ) → (is_signed w st by sig ≡ true) ↔ HasSigned w st by sig
signed-means w st by sig = (
  λ h. let p = and-true (nat_lt by w.n) (is_verified_by w.keys by st sig) h in (ltb-true by w.n p.0, (verified-by w.keys by st sig).0 p.1),
  λ h. both (nat_lt by w.n) (is_verified_by w.keys by st sig) (lt-ltb by w.n h.0) ((verified-by w.keys by st sig).1 h.1),
)

-- ---- a list of them

pub first-low : (w : Voters) (st : List ℕ) (from : ℕ) (x : Signed) (xs : List Signed) → x.by.0 < from → false ≡ are_signed w st from (x ∷ xs)
first-low w st from x xs h = let low : nat_le from x.by.0 ≡ false = lt-leb from x.by.0 h in rw low refl

pub first-false : (w : Voters) (st : List ℕ) (from : ℕ) (x : Signed) (xs : List Signed) → from ≤ x.by.0 → false ≡ is_signed w st x.by.0 x.sig → false ≡ are_signed w st from (x ∷ xs)
first-false w st from x xs h k =
    let high : nat_le from x.by.0 ≡ true = le-leb from x.by.0 h in
    rw high (rw (sym k) refl)

pub first-true : (w : Voters) (st : List ℕ) (from : ℕ) (x : Signed) (xs : List Signed) (r : Bool) → from ≤ x.by.0 → true ≡ is_signed w st x.by.0 x.sig → r ≡ are_signed w st (suc x.by.0) xs
    → r ≡ are_signed w st from (x ∷ xs)
first-true w st from x xs r h k more =
    let high : nat_le from x.by.0 ≡ true = le-leb from x.by.0 h in
    more ∙ rw high (rw (sym k) refl)

all-signed : (w : Voters) (st : List ℕ) (from : ℕ) (xs : List Signed) → are_signed w st from xs ≡ true → HaveSigned w st from xs
all-signed w st from [] h = tt
all-signed w st from (x ∷ xs) h =
    let a = and-true (nat_le from x.by.0) (is_signed w st x.by.0 x.sig && are_signed w st (suc x.by.0) xs) h in
    let b = and-true (is_signed w st x.by.0 x.sig) (are_signed w st (suc x.by.0) xs) a.1 in
    (leb-true from x.by.0 a.0, (signed-means w st x.by.0 x.sig).0 b.0, all-signed w st (suc x.by.0) xs b.1)

signed-all : (w : Voters) (st : List ℕ) (from : ℕ) (xs : List Signed) → HaveSigned w st from xs → are_signed w st from xs ≡ true
signed-all w st from [] h = refl
signed-all w st from (x ∷ xs) h =
    both (nat_le from x.by.0) (is_signed w st x.by.0 x.sig && are_signed w st (suc x.by.0) xs) (le-leb from x.by.0 h.0)
    (both (is_signed w st x.by.0 x.sig) (are_signed w st (suc x.by.0) xs) ((signed-means w st x.by.0 x.sig).1 h.1) (signed-all w st (suc x.by.0) xs h.2))

pub cert-means : (w : Voters) (c : Cert) → (is_cert w c ≡ true) ↔ IsCert w c
cert-means w c = (
  λ h. let p = and-true (length c.signers == w.quorum) (are_signed w (cert_statement w c) 0 c.signers) h in
      record { quorum = is-eq (length c.signers) w.quorum p.0; signed = all-signed w (cert_statement w c) 0 c.signers p.1 },
  λ h. both (length c.signers == w.quorum) (are_signed w (cert_statement w c) 0 c.signers) ((Decides-eqb (length c.signers) w.quorum).1 h.quorum) (signed-all w (cert_statement w c) 0 c.signers h.signed),
)

-- ---- a quorum has a correct signer

numbers : List Signed → List ℕ
numbers [] = []
numbers (x ∷ xs) = x.by.0 ∷ numbers xs

numbers-length : (xs : List Signed) → length (numbers xs) ≡ length xs
unfolding numbers
numbers-length [] = refl
numbers-length (x ∷ xs) = ap suc (numbers-length xs)

below-all : (w : Voters) (st : List ℕ) (from : ℕ) (xs : List Signed) → HaveSigned w st from xs → all_below w.n (numbers xs) ≡ true
unfolding numbers
below-all w st from [] h = refl
below-all w st from (x ∷ xs) h = both (nat_lt x.by.0 w.n) (all_below w.n (numbers xs)) (lt-ltb x.by.0 w.n h.1.0) (below-all w st (suc x.by.0) xs h.2)

-- strictly ascending signers have none below the bound
not-below : (w : Voters) (st : List ℕ) (from k : ℕ) (xs : List Signed) → k < from → HaveSigned w st from xs → mem k (numbers xs) ≡ false
unfolding numbers
not-below w st from k [] low h = refl
not-below w st from k (x ∷ xs) low h = go (k == x.by.0) refl (not-below w st (suc x.by.0) k xs (omega (arith, low, h.0)) h.2)
  where
    go : (b : Bool) → (k == x.by.0) ≡ b → mem k (numbers xs) ≡ false → (b || mem k (numbers xs)) ≡ false
    go true q r = let same = is-eq k x.by.0 q in absurd (omega (arith, low, h.0, same))
    go false q r = r

different : (w : Voters) (st : List ℕ) (from : ℕ) (xs : List Signed) → HaveSigned w st from xs → distinct (numbers xs) ≡ true
unfolding numbers
different w st from [] h = refl
different w st from (x ∷ xs) h =
    let none = not-below w st (suc x.by.0) x.by.0 xs (omega arith) h.2 in
    both (not (mem x.by.0 (numbers xs))) (distinct (numbers xs)) (ap not none) (different w st (suc x.by.0) xs h.2)

-- the signer of a number among them
pub record Signs (w : Voters) (st : List ℕ) (k : ℕ) (xs : List Signed) : Type 0 where
  pub signer : Signed
  pub among : In signer xs
  pub is : signer.by.0 ≡ k
  pub signed : HasSigned w st signer.by.0 signer.sig

signer-of : (w : Voters) (st : List ℕ) (from k : ℕ) (xs : List Signed) → HaveSigned w st from xs → mem k (numbers xs) ≡ true → Signs w st k xs
unfolding numbers
signer-of w st from k [] h m = absurd (true≢false (sym m))
signer-of w st from k (x ∷ xs) h m = go (k == x.by.0) refl m (signer-of w st (suc x.by.0) k xs h.2)
  where
    go : (b : Bool) → (k == x.by.0) ≡ b → (b || mem k (numbers xs)) ≡ true → (mem k (numbers xs) ≡ true → Signs w st k xs) → Signs w st k (x ∷ xs)
    go true q r ih = record { signer = x; among = inl refl; is = sym (is-eq k x.by.0 q); signed = h.1 }
    go false q r ih = let more = ih r in record { signer = more.signer; among = inr more.among; is = more.is; signed = more.signed }

faulty-numbers : List NodeId → List ℕ
faulty-numbers [] = []
faulty-numbers (k ∷ ks) = k.0 ∷ faulty-numbers ks

faulty-length : (ks : List NodeId) → length (faulty-numbers ks) ≡ length ks
unfolding faulty-numbers
faulty-length [] = refl
faulty-length (k ∷ ks) = ap suc (faulty-length ks)

has-mem : (i : ℕ) (ks : List NodeId) → has_node i ks ≡ mem i (faulty-numbers ks)
unfolding faulty-numbers
has-mem i [] = refl
has-mem i (k ∷ ks) = ap (λ (b : Bool). eqb i k.0 || b) (has-mem i ks)

-- there are fewer faulty nodes than a quorum has
few : (kind : Kind) (f : ℕ) (faulty : List NodeId) → IsFewFaulty kind f faulty → length faulty < quorum_of_kind kind f
few Byzantine f faulty h = omega (arith, h)
few Stopping f faulty h = rw h (omega arith)

pub fewer : (s : Setup) → IsGoodSetup s → length s.faulty < s.quorum
fewer s good = go (eqb s.«module» 1) refl
  where
    none : (kind : Kind) → kind ≡ Stopping → IsFewFaulty kind s.f s.faulty → s.faulty ≡ []
    none Byzantine q h = absurd (cc)
    none Stopping q h = h

    go : (b : Bool) → eqb s.«module» 1 ≡ b → length s.faulty < s.quorum
    go true q =
        let is : s.«module» ≡ 1 = is-eq s.«module» 1 q in
        let two : s.quorum ≡ 2 = rw q at good.majority in
        let empty : length s.faulty ≡ 0 = ap (λ (t : List NodeId). length t) (none s.kind (good.relay_kind is) good.few_faulty) in
        omega (arith, two, empty)
    go false q =
        let more : s.quorum ≡ quorum_of_kind s.kind s.f = rw q at good.majority in
        rw more (few s.kind s.f s.faulty good.few_faulty)

pub correct-signer : (s : Setup) (d : DirectoryView) (c : Cert) → IsGoodSetup s → is_cert (voters_of s d) c ≡ true → HasCorrectSigner s d c
correct-signer s d c good h =
    let w = voters_of s d in
    let st = cert_statement w c in
    let is = (cert-means w c).0 h in
    let ks = numbers c.signers in
    let bad = faulty-numbers s.faulty in
    let all = count-distinct s.n ks (below-all w st 0 c.signers is.signed) (different w st 0 c.signers is.signed) in
    let less = count-less (λ k. mem k ks) (λ k. mem k bad) s.n in
    let some = count-length s.n bad in
    let r = count-some (λ k. mem k ks && not (mem k bad)) s.n (omega (arith, is.quorum, numbers-length c.signers, all, less, some, faulty-length s.faulty, fewer s good)) in
    let t = and-true (mem r.0 ks) (not (mem r.0 bad)) r.2 in
    let one = signer-of w st 0 r.0 c.signers is.signed t.0 in
    let low : nat_lt r.0 s.n ≡ true = lt-ltb r.0 s.n r.1 in
    let not_bad : has_node r.0 s.faulty ≡ false = has-mem r.0 s.faulty ∙ not-true (mem r.0 bad) t.1 in
    let correct : is_correct s r.0 ≡ true = both (nat_lt r.0 s.n) (not (has_node r.0 s.faulty)) low (rw not_bad refl) in
    record { signer = one.signer; among = one.among; correct = rw one.is correct; signed = one.signed.1 }

-- ---- any nodes that are more than those outside a quorum

pub signer-among : (s : Setup) (d : DirectoryView) (c : Cert) (ts : List ℕ) → is_cert (voters_of s d) c ≡ true → all_below s.n ts ≡ true → distinct ts ≡ true → s.n < s.quorum + length ts →
    (k : ℕ) × (mem k ts ≡ true) × Signs (voters_of s d) (cert_statement (voters_of s d) c) k c.signers
signer-among s d c ts h below apart many =
    let w = voters_of s d in
    let st = cert_statement w c in
    let is = (cert-means w c).0 h in
    let ks = numbers c.signers in
    let signed = count-distinct s.n ks (below-all w st 0 c.signers is.signed) (different w st 0 c.signers is.signed) in
    let trusted = count-distinct s.n ts below apart in
    let shared = count-both (λ k. mem k ks) (λ k. mem k ts) s.n in
    let r = count-some (λ k. mem k ks && mem k ts) s.n (omega (arith, is.quorum, numbers-length c.signers, signed, trusted, shared, many)) in
    let t = and-true (mem r.0 ks) (mem r.0 ts) r.2 in
    (r.0, t.1, signer-of w st 0 r.0 c.signers is.signed t.0)
