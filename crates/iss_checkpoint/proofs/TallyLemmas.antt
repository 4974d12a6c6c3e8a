-- Counted votes, and the certificate of equal ones.
use Rattle.std.proofs.Common.{◌≡◌, inl, inr, ℕ, zero, suc, ◌+◌, ◌<◌, ◌≤◌, Bool, true, false, cond, ◌&&◌, ◌==◌, List, [], ◌∷◌, ◌++◌, length, append-nil, refl, sym, ap, ◌∙◌, subst, arith, Option, Some, None}
use Rattle.std.specs.Prelude.{nat_le}
use Rattle.std.specs.Ordering.{is_eq, nat_cmp}
use Rattle.std.proofs.lemmas.Bool.{le-leb}
use Rattle.std.proofs.lemmas.List.{length-append}
use Rattle.iss_base.specs.Lists.{In, same_bytes}
use Rattle.iss_base.proofs.Lists.{and-true, both, in_append, is-eq, same_bytes-is, same_bytes-refl, eqb-same}
use Rattle.iss_sb.proofs.Cases.{same_number}
use Rattle.iss_checkpoint.specs.declared.votes.Cert.{Cert}
use Rattle.iss_sb.specs.declared.signers.Signed.{Signed}
use Rattle.iss_checkpoint.specs.declared.votes.Vote.{Vote}
use Rattle.iss_checkpoint.specs.Votes.{Voters, are_signed, cert_statement, is_cert, is_signed, statement_of}
use Rattle.iss_checkpoint.specs.Tallies.{AreVotes, IsVoteOf, TallyState, certificate_by, refusal, say_same, signed_below, signed_if, vote_at, with_vote}

-- ---- the nodes' votes, with one more

pub with-here : (votes : List (ℕ × Vote)) (v : Vote) (k : ℕ) → v.by.0 ≡ k → with_vote votes v k ≡ Some v
with-here votes v k e = let t : (v.by.0 == k) ≡ true = rw e (eqb-same k) in rw t refl

pub with-other : (votes : List (ℕ × Vote)) (v : Vote) (k : ℕ) → (v.by.0 == k) ≡ false → with_vote votes v k ≡ vote_at votes k
with-other votes v k e = rw e refl

pub put-at : (old new : List (ℕ × Vote)) (v : Vote) → ((k : ℕ) → vote_at new k ≡ cond (is_eq (nat_cmp v.by.0 k)) (Some v) (vote_at old k)) → (k : ℕ) → vote_at new k ≡ with_vote old v k
put-at old new v h k = h k ∙ ap (λ (b : Bool). cond b (Some v) (vote_at old k)) (same_number v.by.0 k)

some-same : (v u : Vote) → Some v ≡ Some u → v ≡ u
some-same v u h = cc

-- a vote that is not refused is its node's
record IsSound (t : TallyState) (v : Vote) : Type 0 where
  pub epoch : v.epoch.0 ≡ t.epoch
  pub signed : is_signed t.voters (statement_of t.voters v) v.by.0 v.sig ≡ true

sound : (t : TallyState) (v : Vote) → refusal t v ≡ None → IsSound t v
sound t v h = go (v.epoch.0 == t.epoch) refl (is_signed t.voters (statement_of t.voters v) v.by.0 v.sig) refl h
  where
    clash : {A : Type 0} {x : A} → Some x ≡ None → ⊥
    clash e = cc

    go : (a : Bool) → (v.epoch.0 == t.epoch) ≡ a → (b : Bool) → is_signed t.voters (statement_of t.voters v) v.by.0 v.sig ≡ b → refusal t v ≡ None → IsSound t v
    go true qa true qb r = record { epoch = is-eq v.epoch.0 t.epoch qa; signed = qb }
    go true qa false qb r = absurd (clash (rw (qa, qb) at r))
    go false qa b qb r = absurd (clash (rw qa at r))

pub with-votes : (t : TallyState) (v : Vote) → refusal t v ≡ None → AreVotes t.voters t.epoch t.votes → (k : ℕ) (u : Vote) → with_vote t.votes v k ≡ Some u → IsVoteOf t.voters t.epoch k u
with-votes t v none all k u = go (v.by.0 == k) refl
  where
    go : (b : Bool) → (v.by.0 == k) ≡ b → cond b (Some v) (vote_at t.votes k) ≡ Some u → IsVoteOf t.voters t.epoch k u
    go true q h =
        let s = sound t v none in
        subst (λ (x : Vote). IsVoteOf t.voters t.epoch k x) (some-same v u h) (record { own = is-eq v.by.0 k q; epoch = s.epoch; signed = s.signed })
    go false q h = all k u h

pub put-votes : (t : TallyState) (new : List (ℕ × Vote)) (v : Vote) → refusal t v ≡ None → AreVotes t.voters t.epoch t.votes → ((k : ℕ) → vote_at new k ≡ with_vote t.votes v k) → AreVotes t.voters t.epoch new
put-votes t new v none all at k u h = with-votes t v none all k u (sym (at k) ∙ h)

-- ---- equal votes

pub below-none : (f : ℕ → Option Vote) (v : Vote) → [] ≡ signed_below f v 0
below-none f v = refl

pub below-more : (f : ℕ → Option Vote) (v : Vote) (k : ℕ) → signed_below f v (k + 1) ≡ signed_below f v k ++ signed_if v (f k)
below-more f v k = let e : k + 1 ≡ suc k = omega arith in rw e refl

pub count-more : (f : ℕ → Option Vote) (v : Vote) (k : ℕ) → length (signed_below f v (k + 1)) ≡ length (signed_below f v k) + length (signed_if v (f k))
count-more f v k = ap length (below-more f v k) ∙ length-append (signed_below f v k) (signed_if v (f k))

pub below-same : (f g : ℕ → Option Vote) (v : Vote) → ((k : ℕ) → f k ≡ g k) → (n : ℕ) → signed_below f v n ≡ signed_below g v n
below-same f g v h zero = refl
below-same f g v h (suc n) =
    ap (λ (xs : List Signed). xs ++ signed_if v (f n)) (below-same f g v h n) ∙ ap (λ (o : Option Vote). signed_below g v n ++ signed_if v o) (h n)

pub own-said : (v : Vote) → say_same v v ≡ true
own-said v = both (v.requests == v.requests) (same_bytes v.chain v.chain) (eqb-same v.requests) (same_bytes-refl v.chain)

pub one-if : (v u : Vote) → say_same v u ≡ true → signed_if v (Some u) ≡ record { by = u.by; sig = u.sig } ∷ []
one-if v u h = rw h refl

-- a vote is among those equal to it
pub own-one : (votes : List (ℕ × Vote)) (v : Vote) (k : ℕ) → v.by.0 ≡ k → signed_if v (with_vote votes v k) ≡ record { by = v.by; sig = v.sig } ∷ []
own-one votes v k e = ap (λ (o : Option Vote). signed_if v o) (with-here votes v k e) ∙ one-if v v (own-said v)

pub none-if : (v u : Vote) → say_same v u ≡ false → signed_if v (Some u) ≡ []
none-if v u h = rw h refl

-- the length of what a test adds
pub many-if : (v u : Vote) (r : Bool) → r ≡ say_same v u → cond r 1 0 ≡ length (signed_if v (Some u))
many-if v u true h = ap length (sym (one-if v u (sym h)))
many-if v u false h = ap length (sym (none-if v u (sym h)))

-- ---- such a certificate is valid

in-if : (x : Signed) (v u : Vote) → In x (signed_if v (Some u)) → x.by ≡ u.by
in-if x v u = go (say_same v u)
  where
    go : (b : Bool) → In x (cond b (record { by = u.by; sig = u.sig } ∷ []) []) → x.by ≡ u.by
    go true (inl e) = ap (λ (y : Signed). y.by) e
    go true (inr e) = absurd e
    go false e = absurd e

in-below : (w : Voters) (e : ℕ) (f : ℕ → Option Vote) (v : Vote) → ((k : ℕ) (u : Vote) → f k ≡ Some u → IsVoteOf w e k u) → (n : ℕ) (x : Signed) → In x (signed_below f v n) → x.by.0 < n
in-below w e f v all zero x h = absurd h
in-below w e f v all (suc n) x h = elim (in_append x (signed_below f v n) (signed_if v (f n)) h) [
  | inl before ↦ let lt = in-below w e f v all n x before in omega (arith, lt)
  | inr here ↦ last (f n) refl here
]
  where
    last : (o : Option Vote) → f n ≡ o → In x (signed_if v o) → x.by.0 < suc n
    last None q i = absurd i
    last (Some u) q i =
        let own = (all n u q).own in
        let same : x.by.0 ≡ u.by.0 = ap (λ t. t.0) (in-if x v u i) in
        omega (arith, own, same)

signed-more : (w : Voters) (st : List ℕ) (from k : ℕ) (xs : List Signed) (x : Signed) → are_signed w st from xs ≡ true → ((y : Signed) → In y xs → y.by.0 < k) → from ≤ x.by.0 → k ≤ x.by.0
    → is_signed w st x.by.0 x.sig ≡ true → are_signed w st from (xs ++ x ∷ []) ≡ true
signed-more w st from k [] x h low le lk s = both (nat_le from x.by.0) (is_signed w st x.by.0 x.sig && true) (le-leb from x.by.0 le) (both (is_signed w st x.by.0 x.sig) true s refl)
signed-more w st from k (y ∷ ys) x h low le lk s =
    let a = and-true (nat_le from y.by.0) (is_signed w st y.by.0 y.sig && are_signed w st (suc y.by.0) ys) h in
    let b = and-true (is_signed w st y.by.0 y.sig) (are_signed w st (suc y.by.0) ys) a.1 in
    let first = low y (inl refl) in
    both (nat_le from y.by.0) (is_signed w st y.by.0 y.sig && are_signed w st (suc y.by.0) (ys ++ x ∷ [])) a.0
    (both (is_signed w st y.by.0 y.sig) (are_signed w st (suc y.by.0) (ys ++ x ∷ [])) b.0
    (signed-more w st (suc y.by.0) k ys x b.1 (λ z i. low z (inr i)) (omega (arith, first, lk)) lk s))

-- equal votes for an epoch sign the same statement
one-statement : (w : Voters) (v u : Vote) → u.epoch.0 ≡ v.epoch.0 → say_same v u ≡ true → statement_of w u ≡ statement_of w v
one-statement w v u e h =
    let a = and-true (u.requests == v.requests) (same_bytes u.chain v.chain) h in
    let number = is-eq u.requests v.requests a.0 in
    let chain = same_bytes-is u.chain v.chain a.1 in
    rw (e, number, chain) refl

said-signed : (w : Voters) (e : ℕ) (f : ℕ → Option Vote) (v u : Vote) → v.epoch.0 ≡ e → ((k : ℕ) (u : Vote) → f k ≡ Some u → IsVoteOf w e k u) → (n : ℕ) → are_signed w (statement_of w v) 0 (signed_below f v n) ≡ true
    → f n ≡ Some u → (b : Bool) → say_same v u ≡ b → are_signed w (statement_of w v) 0 (signed_below f v n ++ cond b (record { by = u.by; sig = u.sig } ∷ []) []) ≡ true
said-signed w e f v u ve all n so_far q true r =
    let is = all n u q in
    let own = is.own in
    let st = one-statement w v u (is.epoch ∙ sym ve) r in
    signed-more w (statement_of w v) 0 n (signed_below f v n) (record { by = u.by; sig = u.sig }) so_far (in-below w e f v all n) (omega arith) (omega (arith, own))
    (subst (λ (t : List ℕ). is_signed w t u.by.0 u.sig ≡ true) st is.signed)
said-signed w e f v u ve all n so_far q false r = rw append-nil so_far

last-signed : (w : Voters) (e : ℕ) (f : ℕ → Option Vote) (v : Vote) → v.epoch.0 ≡ e → ((k : ℕ) (u : Vote) → f k ≡ Some u → IsVoteOf w e k u) → (n : ℕ) → are_signed w (statement_of w v) 0 (signed_below f v n) ≡ true
    → (o : Option Vote) → f n ≡ o → are_signed w (statement_of w v) 0 (signed_below f v n ++ signed_if v o) ≡ true
last-signed w e f v ve all n so_far None q = rw append-nil so_far
last-signed w e f v ve all n so_far (Some u) q = said-signed w e f v u ve all n so_far q (say_same v u) refl

below-signed : (w : Voters) (e : ℕ) (f : ℕ → Option Vote) (v : Vote) → v.epoch.0 ≡ e → ((k : ℕ) (u : Vote) → f k ≡ Some u → IsVoteOf w e k u) → (n : ℕ) → are_signed w (statement_of w v) 0 (signed_below f v n) ≡ true
below-signed w e f v ve all zero = refl
below-signed w e f v ve all (suc n) = last-signed w e f v ve all n (below-signed w e f v ve all n) (f n) refl

pub cert-true : (t : TallyState) (v : Vote) (c : Cert) → refusal t v ≡ None → AreVotes t.voters t.epoch t.votes → c ≡ certificate_by (with_vote t.votes v) v t.voters.n → length c.signers ≡ t.voters.quorum → is_cert t.voters c ≡ true
cert-true t v c none all is many =
    let s = sound t v none in
    let made = below-signed t.voters t.epoch (with_vote t.votes v) v s.epoch (with-votes t v none all) t.voters.n in
    both (length c.signers == t.voters.quorum) (are_signed t.voters (cert_statement t.voters c) 0 c.signers) (rw many (eqb-same t.voters.quorum))
    (subst (λ (x : Cert). are_signed t.voters (cert_statement t.voters x) 0 x.signers ≡ true) (sym is) made)
