-- The votes and certificates that a node keeps are valid, and the book has those that correct nodes signed.
use Rattle.std.proofs.Common.{◌≡◌, inl, inr, ℕ, zero, suc, ◌<◌, ◌≤◌, Bool, true, false, ◌&&◌, cond, eqb, nat_le, List, [], ◌∷◌, ◌++◌, length, Option, Some, None, refl, sym, ap, ◌∙◌, subst, arith, true≢false}
use Rattle.std.proofs.lemmas.Bool.{le-leb}
use Rattle.std.proofs.lemmas.Bool.Decides.{leb_tells}
use Rattle.std.proofs.lemmas.List.{append-nil}
use Rattle.iss_base.specs.Lists.{In, same_bytes}
use Rattle.iss_base.specs.Quorum.{all_below, distinct, mem}
use Rattle.iss_base.proofs.Lists.{and-true, both, eqb-other, in_append, is-eq, same_bytes-is, some-injective}
use Rattle.iss_checkpoint.specs.Tallies.{certificate_by, say_same, signed_below, signed_if}
use Rattle.iss_checkpoint.specs.declared.votes.Cert.{Cert}
use Rattle.iss_sb.specs.declared.signers.Signed.{Signed as Signature}
use Rattle.iss_checkpoint.specs.declared.votes.Vote.{Vote}
use Rattle.iss_keys.proofs.DirectoryLemmas.{node-below}
use Rattle.iss_request.specs.declared.setups.Setup.{Setup}
use Rattle.iss_sb.specs.declared.effects.Claim.{Claim}
use Rattle.iss_sb.specs.Evidence.{Module, is_correct}
use Rattle.iss_composition.specs.Checkpoints.{scheme_of}
use Rattle.iss_rules.specs.Books.{Signed}
use Rattle.iss_composition.specs.Cluster.{IsBooked, signers, Signature as Sign}
use Rattle.iss_rules.specs.Votes.{are_true, cert_on, claims_by, is_true_cert, keeping, stable, vote_by}
use Rattle.iss_model.specs.Node.{Core, counted}
use Rattle.iss_rules.specs.SoundRules.{IsSoundRules}
use Rattle.iss_rules.specs.Rules.{Rules}
use Rattle.iss_theorems.proofs.Checkpoints.VotesAreForChains.{IsVoting}

-- the signatures, as a cluster's certificate has them
abbrev pub signs_of : List Signature → List Sign
signs_of [] = []
signs_of (x ∷ xs) = record { by = x.by.0; sig = x.sig } ∷ signs_of xs

pub in-signers : (xs : List Signature) (k : ℕ) → In k (signers (signs_of xs)) → (x : Signature) × In x xs × (x.by.0 ≡ k)
in-signers [] k h = absurd h
in-signers (x ∷ xs) k (inl q) = (x, inl refl, sym q)
in-signers (x ∷ xs) k (inr h) = let r = in-signers xs k h in (r.0, inr r.1, r.2)

pub signers-in : (xs : List Signature) (x : Signature) → In x xs → In x.by.0 (signers (signs_of xs))
signers-in [] x h = absurd h
signers-in (y ∷ ys) x (inl q) = inl (ap (λ (z : Signature). z.by.0) q)
signers-in (y ∷ ys) x (inr h) = inr (signers-in ys x h)

signers-length : (xs : List Signature) → length (signers (signs_of xs)) ≡ length xs
signers-length [] = refl
signers-length (x ∷ xs) = ap (λ (n : ℕ). suc n) (signers-length xs)

-- a claim of a certificate, and its signature
pub in-claims : (statement : List ℕ) (xs : List Signature) (c : Claim) → In c (claims_by statement xs) →
    (x : Signature) × In x xs × (c ≡ record { by = x.by; statement = statement; sig = x.sig })
in-claims statement [] c h = absurd h
in-claims statement (x ∷ xs) c (inl q) = (x, inl refl, q)
in-claims statement (x ∷ xs) c (inr h) = let r = in-claims statement xs c h in (r.0, inr r.1, r.2)

pub claims-in : (statement : List ℕ) (xs : List Signature) (x : Signature) → In x xs → In (record { by = x.by; statement = statement; sig = x.sig }) (claims_by statement xs)
claims-in statement [] x h = absurd h
claims-in statement (y ∷ ys) x (inl q) = inl (ap (λ (z : Signature). record { by = z.by; statement = statement; sig = z.sig }) q)
claims-in statement (y ∷ ys) x (inr h) = inr (claims-in statement ys x h)

module _ (R : Rules) where
  pub true-each : (statement : List ℕ) (from : ℕ) (xs : List Signature) → are_true R statement from xs ≡ true → (x : Signature) → In x xs →
      (from ≤ x.by.0) × (R.verifies x.by.0 statement x.sig ≡ true)
  true-each statement from [] h x i = absurd i
  true-each statement from (y ∷ ys) h x i =
      let a = and-true (nat_le from y.by.0) _ h in
      let b = and-true (R.verifies y.by.0 statement y.sig) _ a.1 in
      let low : from ≤ y.by.0 = elim (leb_tells from y.by.0) [ inl t ↦ t.1 | inr t ↦ absurd (true≢false (sym a.0 ∙ t.0)) ] in
      elim i [
        | inl q ↦ (subst (λ (z : Signature). from ≤ z.by.0) (sym q) low, subst (λ (z : Signature). R.verifies z.by.0 statement z.sig ≡ true) (sym q) b.0)
        | inr m ↦ let r = true-each statement (suc y.by.0) ys b.1 x m in let lt = r.0 in (omega (arith, low, lt), r.1)
      ]

  none-below : (statement : List ℕ) (from : ℕ) (xs : List Signature) → are_true R statement from xs ≡ true → (k : ℕ) → k < from →
      mem k (signers (signs_of xs)) ≡ false
  none-below statement from [] h k lt = refl
  none-below statement from (x ∷ xs) h k lt =
      let a = and-true (nat_le from x.by.0) _ h in
      let b = and-true (R.verifies x.by.0 statement x.sig) _ a.1 in
      let low = (true-each statement from (x ∷ xs) h x (inl refl)).0 in
      let rest : mem k (signers (signs_of xs)) ≡ false = none-below statement (suc x.by.0) xs b.1 k (omega (arith, low, lt)) in
      rw (eqb-other k x.by.0 (λ q. omega (arith, q, low, lt))) rest

  ascending-distinct : (statement : List ℕ) (from : ℕ) (xs : List Signature) → are_true R statement from xs ≡ true → distinct (signers (signs_of xs)) ≡ true
  ascending-distinct statement from [] h = refl
  ascending-distinct statement from (x ∷ xs) h =
      let a = and-true (nat_le from x.by.0) _ h in
      let b = and-true (R.verifies x.by.0 statement x.sig) _ a.1 in
      let fresh : mem x.by.0 (signers (signs_of xs)) ≡ false = none-below statement (suc x.by.0) xs b.1 x.by.0 (omega arith) in
      rw fresh (ascending-distinct statement (suc x.by.0) xs b.1)

  -- one more signature
  true-more : (statement : List ℕ) (from k : ℕ) (xs : List Signature) (x : Signature) → are_true R statement from xs ≡ true →
      ((y : Signature) → In y xs → y.by.0 < k) → from ≤ x.by.0 → k ≤ x.by.0 → R.verifies x.by.0 statement x.sig ≡ true →
      are_true R statement from (xs ++ x ∷ []) ≡ true
  true-more statement from k [] x h low le lk v =
      both (nat_le from x.by.0) _ (le-leb from x.by.0 le) (both (R.verifies x.by.0 statement x.sig) true v refl)
  true-more statement from k (y ∷ ys) x h low le lk v =
      let a = and-true (nat_le from y.by.0) _ h in
      let b = and-true (R.verifies y.by.0 statement y.sig) _ a.1 in
      let first = low y (inl refl) in
      both (nat_le from y.by.0) _ a.0 (both (R.verifies y.by.0 statement y.sig) _ b.0
      (true-more statement (suc y.by.0) k ys x b.1 (λ z i. low z (inr i)) (omega (arith, first, lk)) lk v))

  -- a vote of node k for an epoch with a valid signature
  pub record IsVoteOf (e k : ℕ) (w : Vote) : Type 0 where
    pub own : w.by.0 ≡ k
    pub epoch : w.epoch.0 ≡ e
    pub signed : R.verifies w.by.0 (R.voted w.epoch.0 w.chain w.requests) w.sig ≡ true

  module _ (v : Vote) (f : ℕ → Option Vote) (all : (k : ℕ) (w : Vote) → f k ≡ Some w → IsVoteOf v.epoch.0 k w) where
    abbrev statement : List ℕ
    statement = R.voted v.epoch.0 v.chain v.requests

    -- whose signature it is
    pub record IsOf (n : ℕ) (x : Signature) : Type 0 where
      pub node : ℕ
      pub low : node < n
      pub vote : Vote
      pub given : f node ≡ Some vote
      pub same : say_same v vote ≡ true
      pub is : x ≡ record { by = vote.by; sig = vote.sig }

    later-of : (n : ℕ) (x : Signature) → IsOf n x → IsOf (suc n) x
    later-of n x h = let lt = h.low in record { node = h.node; low = omega (arith, lt); vote = h.vote; given = h.given; same = h.same; is = h.is }

    in-if : (n : ℕ) (x : Signature) (o : Option Vote) → f n ≡ o → In x (signed_if v o) → IsOf (suc n) x
    in-if n x None q h = absurd h
    in-if n x (Some w) q h = go (say_same v w) refl h
      where
        go : (b : Bool) → say_same v w ≡ b → In x (cond b (record { by = w.by; sig = w.sig } ∷ []) []) → IsOf (suc n) x
        go true s (inl e) = record { node = n; low = omega arith; vote = w; given = q; same = s; is = e }
        go true s (inr e) = absurd e
        go false s e = absurd e

    pub in-below : (n : ℕ) (x : Signature) → In x (signed_below f v n) → IsOf n x
    in-below zero x h = absurd h
    in-below (suc n) x h = elim (in_append x (signed_below f v n) (signed_if v (f n)) h) [
      | inl a ↦ later-of n x (in-below n x a)
      | inr b ↦ in-if n x (f n) refl b
    ]

    -- the claim is of this statement
    same-statement : (w : Vote) → w.epoch.0 ≡ v.epoch.0 → say_same v w ≡ true → R.voted w.epoch.0 w.chain w.requests ≡ statement
    same-statement w e h =
        let a = and-true (eqb w.requests v.requests) (same_bytes w.chain v.chain) h in
        let number = is-eq w.requests v.requests a.0 in
        let chain = same_bytes-is w.chain v.chain a.1 in
        rw (e, number, chain) refl

    below-low : (n : ℕ) (x : Signature) → In x (signed_below f v n) → x.by.0 < n
    below-low n x h =
        let r = in-below n x h in
        let own = (all r.node r.vote r.given).own in
        let same : x.by.0 ≡ r.vote.by.0 = ap (λ (z : Signature). z.by.0) r.is in
        let lt = r.low in
        omega (arith, own, same, lt)

    pub below-true : (n : ℕ) → are_true R statement 0 (signed_below f v n) ≡ true
    below-true zero = refl
    below-true (suc n) = last (below-true n) (f n) refl
      where
        last : are_true R statement 0 (signed_below f v n) ≡ true → (o : Option Vote) → f n ≡ o → are_true R statement 0 (signed_below f v n ++ signed_if v o) ≡ true
        last so_far None q = rw append-nil so_far
        last so_far (Some w) q = go (say_same v w) refl
          where
            go : (b : Bool) → say_same v w ≡ b → are_true R statement 0 (signed_below f v n ++ cond b (record { by = w.by; sig = w.sig } ∷ []) []) ≡ true
            go false s = rw append-nil so_far
            go true s =
                let is = all n w q in
                let own = is.own in
                true-more statement 0 n (signed_below f v n) (record { by = w.by; sig = w.sig }) so_far (below-low n) (omega arith) (omega (arith, own))
                (subst (λ (z : List ℕ). R.verifies w.by.0 z w.sig ≡ true) (same-statement w is.epoch s) is.signed)

module _ (s : Setup) (R : Rules) where
  -- a valid signature of the statement, which is in the book if its signer is correct
  pub record IsTrueSign (book : List Signed) (by : ℕ) (statement sig : List ℕ) : Type 0 where
    pub verifies : R.verifies by statement sig ≡ true
    pub booked : is_correct s by ≡ true → IsBooked book by statement

  abbrev pub AreTrueVotes : List Signed → List Vote → Type 0
  AreTrueVotes book votes = (v : Vote) → In v votes → IsTrueSign book v.by.0 (R.voted v.epoch.0 v.chain v.requests) v.sig

  pub record IsKeptCert (book : List Signed) (c : Cert) : Type 0 where
    pub certified : is_true_cert R c ≡ true
    pub signs : (x : Signature) → In x c.signers → IsTrueSign book x.by.0 (R.voted c.epoch.0 c.chain c.requests) x.sig

  -- all votes and certificates that a core keeps are such
  pub record AreCertified {Msg : Type 0} (book : List Signed) (c : Core Msg) : Type 0 where
    pub votes : AreTrueVotes book c.votes
    pub certs : (x : Cert) → In x c.certs → IsKeptCert book x

  more-sign : (a b : List Signed) → ((x : Signed) → In x a → In x b) → (by : ℕ) (statement sig : List ℕ) → IsTrueSign a by statement sig → IsTrueSign b by statement sig
  more-sign a b sub by statement sig h = record { verifies = h.verifies; booked = λ ok. sub (record { by = by; statement = statement }) (h.booked ok) }

  pub more-certified : {Msg : Type 0} (a b : List Signed) → ((x : Signed) → In x a → In x b) → (c : Core Msg) → AreCertified a c → AreCertified b c
  more-certified a b sub c h = record {
    votes = λ v i. more-sign a b sub v.by.0 (R.voted v.epoch.0 v.chain v.requests) v.sig (h.votes v i);
    certs = λ x i. record {
      certified = (h.certs x i).certified;
      signs = λ y m. more-sign a b sub y.by.0 (R.voted x.epoch.0 x.chain x.requests) y.sig ((h.certs x i).signs y m);
    };
  }

  -- the vote that is looked up
  pub vote-there : (votes : List Vote) (e k : ℕ) (w : Vote) → vote_by votes e k ≡ Some w → In w votes × (w.epoch.0 ≡ e) × (w.by.0 ≡ k)
  vote-there [] e k w h = absurd (cc)
  vote-there (v ∷ vs) e k w h = go (λ m. vote-there vs e k w m) (eqb v.epoch.0 e && eqb v.by.0 k) refl h
    where
      go : (vote_by vs e k ≡ Some w → In w vs × (w.epoch.0 ≡ e) × (w.by.0 ≡ k)) → (b : Bool) → (eqb v.epoch.0 e && eqb v.by.0 k) ≡ b → cond b (Some v) (vote_by vs e k) ≡ Some w → In w (v ∷ vs) × (w.epoch.0 ≡ e) × (w.by.0 ≡ k)
      go ih true q m =
          let is : v ≡ w = some-injective v w m in
          let a = and-true (eqb v.epoch.0 e) (eqb v.by.0 k) q in
          (inl (sym is), subst (λ (z : Vote). z.epoch.0 ≡ e) is (is-eq v.epoch.0 e a.0), subst (λ (z : Vote). z.by.0 ≡ k) is (is-eq v.by.0 k a.1))
      go ih false q m = let r = ih m in (inr r.0, r.1, r.2)

  pub cert-there : (certs : List Cert) (e : ℕ) (c : Cert) → cert_on certs e ≡ Some c → In c certs × (c.epoch.0 ≡ e)
  cert-there [] e c h = absurd (cc)
  cert-there (x ∷ xs) e c h = go (λ m. cert-there xs e c m) (eqb x.epoch.0 e) refl h
    where
      go : (cert_on xs e ≡ Some c → In c xs × (c.epoch.0 ≡ e)) → (b : Bool) → eqb x.epoch.0 e ≡ b → cond b (Some x) (cert_on xs e) ≡ Some c → In c (x ∷ xs) × (c.epoch.0 ≡ e)
      go ih true q m = let is : x ≡ c = some-injective x c m in (inl (sym is), subst (λ (z : Cert). z.epoch.0 ≡ e) is (is-eq x.epoch.0 e q))
      go ih false q m = let r = ih m in (inr r.0, r.1)

  module _ (book : List Signed) (votes : List Vote) (v : Vote) (are : AreTrueVotes book votes) where
    found : (k : ℕ) (w : Vote) → vote_by votes v.epoch.0 k ≡ Some w → IsVoteOf R v.epoch.0 k w
    found k w h = let r = vote-there votes v.epoch.0 k w h in record { own = r.2; epoch = r.1; signed = (are w r.0).verifies }

    -- the certificate that a vote completes has valid signatures
    pub stable-kept : (x : Cert) → In x (stable R votes v) → IsKeptCert book x
    stable-kept x h = go (eqb (length made.signers) R.quorum) refl h
      where
        made : Cert
        made = certificate_by (vote_by votes v.epoch.0) v R.nodes

        signed : (y : Signature) → In y made.signers → IsTrueSign book y.by.0 (R.voted v.epoch.0 v.chain v.requests) y.sig
        signed y i =
            let r = in-below R v (vote_by votes v.epoch.0) found R.nodes y i in
            let t = vote-there votes v.epoch.0 r.node r.vote r.given in
            let a = and-true (eqb r.vote.requests v.requests) (same_bytes r.vote.chain v.chain) r.same in
            let number = is-eq r.vote.requests v.requests a.0 in
            let chain = same_bytes-is r.vote.chain v.chain a.1 in
            let same : R.voted r.vote.epoch.0 r.vote.chain r.vote.requests ≡ R.voted v.epoch.0 v.chain v.requests = rw (t.1, number, chain) refl in
            subst (λ (z : Signature). IsTrueSign book z.by.0 (R.voted v.epoch.0 v.chain v.requests) z.sig) (sym r.is)
            (subst (λ (z : List ℕ). IsTrueSign book r.vote.by.0 z r.vote.sig) same (are r.vote t.0))

        go : (b : Bool) → eqb (length made.signers) R.quorum ≡ b → In x (cond b (made ∷ []) []) → IsKeptCert book x
        go true q (inl e) = subst (λ (z : Cert). IsKeptCert book z) (sym e) (record {
          certified = both (eqb (length made.signers) R.quorum) _ q (below-true R v (vote_by votes v.epoch.0) found R.nodes);
          signs = signed;
        })
        go true q (inr e) = absurd e
        go false q e = absurd e

  -- one more vote
  pub counted-certified : {Msg : Type 0} (book : List Signed) (c : Core Msg) (v : Vote) → AreCertified book c →
      IsTrueSign book v.by.0 (R.voted v.epoch.0 v.chain v.requests) v.sig → AreCertified book (counted R c v)
  counted-certified book c v h new =
      let more : AreTrueVotes book (v ∷ c.votes) =
      λ w i. elim i [
        | inl q ↦ subst (λ (z : Vote). IsTrueSign book z.by.0 (R.voted z.epoch.0 z.chain z.requests) z.sig) (sym q) new
        | inr m ↦ h.votes w m
      ] in
      record {
        votes = more;
        certs = λ x i. elim (in_append x (stable R (v ∷ c.votes) v) c.certs i) [
          | inl a ↦ stable-kept book (v ∷ c.votes) v more x a
          | inr b ↦ h.certs x b
        ];
      }

  -- a certificate from a peer is kept if the epoch has none
  pub keeping-certified : (book : List Signed) (certs : List Cert) (x : Cert) (o : Option Cert) → ((y : Cert) → In y certs → IsKeptCert book y) → IsKeptCert book x →
      (y : Cert) → In y (keeping certs x o) → IsKeptCert book y
  keeping-certified book certs x None old new y (inl q) = subst (λ (z : Cert). IsKeptCert book z) (sym q) new
  keeping-certified book certs x None old new y (inr i) = old y i
  keeping-certified book certs x (Some other) old new y i = old y i

-- the signers of a valid certificate form a quorum
pub quorum-is : {Msg : Type 0} (s : Setup) (M : Module Msg) (R : Rules) → IsSoundRules s M R → IsVoting s R → (c : Cert) → is_true_cert R c ≡ true →
    (scheme_of s).is_quorum (signers (signs_of c.signers)) ≡ true
quorum-is s M R sound voting c h =
    let statement : List ℕ = R.voted c.epoch.0 c.chain c.requests in
    let a = and-true (eqb (length c.signers) R.quorum) _ h in
    let size : length (signers (signs_of c.signers)) ≡ s.quorum = signers-length c.signers ∙ (is-eq (length c.signers) R.quorum a.0 ∙ voting.quorum) in
    both (all_below s.n (signers (signs_of c.signers))) _
    (below (signers (signs_of c.signers)) (λ k i.
    let r = in-signers c.signers k i in
    let v = (true-each R statement 0 c.signers a.1 r.0 r.1).1 in
    subst (λ (n : ℕ). n < s.n) r.2 (node-below s.n s.clients s.keys r.0.by.0 statement r.0.sig (sound.signers r.0.by.0 statement r.0.sig v))))
    (both (distinct (signers (signs_of c.signers))) _ (ascending-distinct R statement 0 c.signers a.1)
    (le-leb s.quorum (length (signers (signs_of c.signers))) (omega (arith, size))))
  where
    below : (ks : List ℕ) → ((k : ℕ) → In k ks → k < s.n) → all_below s.n ks ≡ true
    below [] each = refl
    below (k ∷ ks) each = both (nat_le (suc k) s.n) _ (le-leb (suc k) s.n (each k (inl refl))) (below ks (λ j i. each j (inr i)))
