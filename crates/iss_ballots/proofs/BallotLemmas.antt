-- The effect of a vote and of a certificate on the state, and on the lists that it refines.
use Rattle.std.proofs.Common.{inl, inr, ◌≡◌, ◌≢◌, ◌⊎◌, ℕ, Bool, true, false, ◌||◌, ◌&&◌, ◌==◌, cond, not, List, [], ◌∷◌, ◌++◌, Option, Some, None, Result, Ok, Err, is_some, length, reverse, refl, sym, ap, ◌∙◌, subst, true≢false}
use Rattle.std.specs.List.{filter}
use Rattle.std.specs.Prelude.{OnOk}
use Rattle.std.specs.Ordering.{is_eq, nat_cmp}
use Rattle.std.proofs.lemmas.List.{append-nil, reverse-append}
use Rattle.std.proofs.lemmas.List.Elements.{filter-append}
use Rattle.iss_base.proofs.Lists.{eqb-other, eqb-same, none-some, same_number, same_or_not, some-injective}
use Rattle.iss_ballots.specs.Ballots.{AreKept, AreTallies, BallotsState, HasTally, IsCertified, IsTaken, IsUntallied, cert_at, is_held, is_true, refused, tally_at, tally_or, vote_in}
use Rattle.iss_ballots.specs.declared.ballots.Taking.TheVariants.{Counted, Known}
use Rattle.iss_checkpoint.proofs.TallyLemmas.{below-same}
use Rattle.iss_checkpoint.specs.Tallies.{IsCounted, TallyState, certificate, certificate_by, refusal, vote_at, with_vote}
use Rattle.iss_checkpoint.specs.Votes.{Voters, is_signed, statement_of}
use Rattle.iss_checkpoint.specs.declared.tallies.Refusal.{Refusal}
use Rattle.iss_checkpoint.specs.declared.tallies.Refusal.TheVariants.{BadSignature as Refusal_bad_signature, OtherEpoch, Twice}
use Rattle.iss_checkpoint.specs.declared.votes.Cert.{Cert}
use Rattle.iss_sb.specs.declared.signers.Signed.{Signed}
use Rattle.iss_checkpoint.specs.declared.votes.Vote.{Vote}
use Rattle.iss_rules.specs.Votes.{cert_on, is_open, keeping, vote_by}
use Rattle.iss_rules.proofs.OpenVotes.{filter-both, open-behind}

-- ---- a map, with one entry set or taken out

-- what an update says, by the test of the keys
pub at-number : {A : Type 0} (k d : ℕ) (x y : A) → cond (is_eq (nat_cmp k d)) x y ≡ cond (k == d) x y
at-number k d x y = ap (λ (b : Bool). cond b x y) (same_number k d)

at-same : {A : Type 0} (k d : ℕ) (x y : A) → k ≡ d → cond (k == d) x y ≡ x
at-same k d x y q = ap (λ (b : Bool). cond b x y) (ap (λ (n : ℕ). n == d) q ∙ eqb-same d)

at-other : {A : Type 0} (k d : ℕ) (x y : A) → d ≢ k → cond (k == d) x y ≡ y
at-other k d x y ne = ap (λ (b : Bool). cond b x y) (eqb-other k d (λ q. ne (sym q)))

pub is-none : {A : Type 0} (o : Option A) → is_some o ≡ false → o ≡ None
is-none None h = refl
is-none (Some x) h = absurd (true≢false h)

-- ---- one more vote or certificate in the lists

vote-here : (v : Vote) (votes : List Vote) (tally : List (ℕ × Vote)) (k : ℕ) → vote_at tally k ≡ vote_by votes v.epoch.0 k → with_vote tally v k ≡ vote_by (v ∷ votes) v.epoch.0 k
vote-here v votes tally k h = let q = eqb-same v.epoch.0 in rw q (ap (λ (o : Option Vote). cond (v.by.0 == k) (Some v) o) h)

vote-there : (v : Vote) (votes : List Vote) (d k : ℕ) → d ≢ v.epoch.0 → vote_by (v ∷ votes) d k ≡ vote_by votes d k
vote-there v votes d k ne = let q = eqb-other v.epoch.0 d (λ e. ne (sym e)) in rw q refl

-- ---- the checks of a tally

record IsFree (t : TallyState) (v : Vote) : Type 0 where
  signed : is_signed t.voters (statement_of t.voters v) v.by.0 v.sig ≡ true
  free : is_some (vote_at t.votes v.by.0) ≡ false

abbrev by-tests : (e s k : Bool) → Option Refusal
by-tests e s k = cond (not e) (Some OtherEpoch) (cond (not s) (Some Refusal_bad_signature) (cond k (Some Twice) None))

free-of : (t : TallyState) (v : Vote) → refusal t v ≡ None → IsFree t v
free-of t v h = go (v.epoch.0 == t.epoch) (is_signed t.voters (statement_of t.voters v) v.by.0 v.sig) refl (is_some (vote_at t.votes v.by.0)) refl h
  where
    go : (e s : Bool) → is_signed t.voters (statement_of t.voters v) v.by.0 v.sig ≡ s → (k : Bool) → is_some (vote_at t.votes v.by.0) ≡ k → by-tests e s k ≡ None → IsFree t v
    go true true qs false qk r = record { signed = qs; free = qk }
    go true true qs true qk r = absurd (none-some Twice (sym r))
    go true false qs k qk r = absurd (none-some Refusal_bad_signature (sym r))
    go false s qs k qk r = absurd (none-some OtherEpoch (sym r))

record IsTwice (t : TallyState) (v : Vote) : Type 0 where
  signed : is_signed t.voters (statement_of t.voters v) v.by.0 v.sig ≡ true
  there : is_some (vote_at t.votes v.by.0) ≡ true

twice-of : (t : TallyState) (v : Vote) → refusal t v ≡ Some Twice → IsTwice t v
twice-of t v h = go (v.epoch.0 == t.epoch) (is_signed t.voters (statement_of t.voters v) v.by.0 v.sig) refl (is_some (vote_at t.votes v.by.0)) refl h
  where
    clash : (a b : Refusal) → Some a ≡ Some b → a ≡ b
    clash a b q = some-injective a b q

    apart : OtherEpoch ≡ Twice → ⊥
    apart q = absurd (cc)

    unlike : Refusal_bad_signature ≡ Twice → ⊥
    unlike q = absurd (cc)

    go : (e s : Bool) → is_signed t.voters (statement_of t.voters v) v.by.0 v.sig ≡ s → (k : Bool) → is_some (vote_at t.votes v.by.0) ≡ k → by-tests e s k ≡ Some Twice → IsTwice t v
    go true true qs true qk r = record { signed = qs; there = qk }
    go true true qs false qk r = absurd (none-some Twice r)
    go true false qs k qk r = absurd (unlike (clash Refusal_bad_signature Twice r))
    go false s qs k qk r = absurd (apart (clash OtherEpoch Twice r))

-- A vote on the tally's epoch that is refused for its signature is not signed.
unsigned-of : (t : TallyState) (v : Vote) → v.epoch.0 ≡ t.epoch → (refusal t v ≡ Some Refusal_bad_signature) ⊎ (refusal t v ≡ Some OtherEpoch) → is_signed t.voters (statement_of t.voters v) v.by.0 v.sig ≡ false
unsigned-of t v same h = go (v.epoch.0 == t.epoch) own (is_signed t.voters (statement_of t.voters v) v.by.0 v.sig) refl (is_some (vote_at t.votes v.by.0)) h
  where
    own : (v.epoch.0 == t.epoch) ≡ true
    own = ap (λ (k : ℕ). v.epoch.0 == k) (sym same) ∙ eqb-same v.epoch.0

    go : (e : Bool) → e ≡ true → (s : Bool) → is_signed t.voters (statement_of t.voters v) v.by.0 v.sig ≡ s → (k : Bool) → (by-tests e s k ≡ Some Refusal_bad_signature) ⊎ (by-tests e s k ≡ Some OtherEpoch) →
        is_signed t.voters (statement_of t.voters v) v.by.0 v.sig ≡ false
    go false qe s qs k r = absurd (true≢false (sym qe))
    go true qe false qs k r = qs
    go true qe true qs false (inl r) = absurd (none-some Refusal_bad_signature r)
    go true qe true qs false (inr r) = absurd (none-some OtherEpoch r)
    go true qe true qs true (inl r) = let q = some-injective Twice Refusal_bad_signature r in absurd (cc)
    go true qe true qs true (inr r) = let q = some-injective Twice OtherEpoch r in absurd (cc)

pub on-ok : {A E : Type 0} (r : Result A E) (P Q : Type 0) → OnOk r P → (P → Q) → OnOk r Q
on-ok (Ok x) P Q h f = f h
on-ok (Err e) P Q h f = tt

-- ---- tallies stay of their epochs

pub untallied-tallies : (w : Voters) (tallies less : List (ℕ × TallyState)) (e : ℕ) → AreTallies w tallies →
    ((d : ℕ) → tally_at less d ≡ cond (e == d) None (tally_at tallies d)) → AreTallies w less
untallied-tallies w tallies less e all at d t h = elim (same_or_not d e) [
  | inl q ↦ absurd (none-some t (sym (at d ∙ at-same e d None (tally_at tallies d) (sym q)) ∙ h))
  | inr ne ↦ all d t (sym (at d ∙ at-other e d None (tally_at tallies d) ne) ∙ h)
]

pub tallied-tallies : (w : Voters) (tallies more : List (ℕ × TallyState)) (e : ℕ) (t : TallyState) → AreTallies w tallies → t.voters ≡ w → t.epoch ≡ e →
    ((d : ℕ) → tally_at more d ≡ cond (e == d) (Some t) (tally_at tallies d)) → AreTallies w more
tallied-tallies w tallies more e t all voters epoch at d u h = elim (same_or_not d e) [
  | inl q ↦
      let same : t ≡ u = some-injective t u (sym (at d ∙ at-same e d (Some t) (tally_at tallies d) (sym q)) ∙ h) in
      subst (λ (z : TallyState). (z.voters ≡ w) × (z.epoch ≡ d)) same (voters, epoch ∙ sym q)
  | inr ne ↦ all d u (sym (at d ∙ at-other e d (Some t) (tally_at tallies d) ne) ∙ h)
]

-- ---- the open votes

reverse-more : (v : Vote) (vs : List Vote) → reverse (v ∷ vs) ≡ reverse vs ++ v ∷ []
reverse-more v vs = reverse-append (v ∷ []) vs

filter-reverse : (p : Vote → Bool) (vs : List Vote) → filter p (reverse vs) ≡ reverse (filter p vs)
filter-reverse p [] = refl
filter-reverse p (v ∷ vs) =
    ap (λ (xs : List Vote). filter p xs) (reverse-more v vs)
    ∙ (filter-append p (reverse vs) (v ∷ [])
    ∙ (ap (λ (xs : List Vote). xs ++ filter p (v ∷ [])) (filter-reverse p vs) ∙ go (p v)))
  where
    go : (b : Bool) → reverse (filter p vs) ++ cond b (v ∷ []) [] ≡ reverse (cond b (v ∷ filter p vs) (filter p vs))
    go true = sym (reverse-more v (filter p vs))
    go false = append-nil (reverse (filter p vs))

-- Behind one more certificate the votes of other epochs stay open.
pub open-with : (c : Cert) (certs : List Cert) (vs : List Vote) (counted : List Vote) → counted ≡ reverse (filter (is_open certs) vs) →
    filter (λ (v : Vote). not (v.epoch.0 == c.epoch.0)) counted ≡ reverse (filter (is_open (c ∷ certs)) vs)
open-with c certs vs counted is =
    ap (λ (xs : List Vote). filter (λ (v : Vote). not (v.epoch.0 == c.epoch.0)) xs) is
    ∙ (filter-reverse (λ (v : Vote). not (v.epoch.0 == c.epoch.0)) (filter (is_open certs) vs)
    ∙ ap (λ (xs : List Vote). reverse xs)
    (sym (filter-both (is_open (c ∷ certs)) (λ (v : Vote). not (v.epoch.0 == c.epoch.0)) (is_open certs)
    (λ v. open-behind (c ∷ []) certs v ∙ ap (λ (b : Bool). b && is_open certs v) (alone v)) vs)))
  where
    alone : (v : Vote) → is_open (c ∷ []) v ≡ not (v.epoch.0 == c.epoch.0)
    alone v = elim (same_or_not v.epoch.0 c.epoch.0) [
      | inl q ↦
          ap (λ (o : Option Cert). not (is_some o)) (at-same c.epoch.0 v.epoch.0 (Some c) None (sym q))
          ∙ ap (λ (b : Bool). not b) (sym (ap (λ (n : ℕ). n == c.epoch.0) q ∙ eqb-same c.epoch.0))
      | inr ne ↦
          ap (λ (o : Option Cert). not (is_some o)) (at-other c.epoch.0 v.epoch.0 (Some c) None ne)
          ∙ ap (λ (b : Bool). not b) (sym (eqb-other v.epoch.0 c.epoch.0 ne))
    ]

-- a vote of an epoch that has its certificate is not open
shut-here : (c : Cert) (certs : List Cert) (v : Vote) (votes : List Vote) → v.epoch.0 ≡ c.epoch.0 → filter (is_open (c ∷ certs)) (v ∷ votes) ≡ filter (is_open (c ∷ certs)) votes
shut-here c certs v votes q =
    ap (λ (b : Bool). cond b (v ∷ filter (is_open (c ∷ certs)) votes) (filter (is_open (c ∷ certs)) votes))
    (ap (λ (o : Option Cert). not (is_some o)) (at-same c.epoch.0 v.epoch.0 (Some c) (cert_on certs v.epoch.0) (sym q)))

open-here : (certs : List Cert) (v : Vote) (votes : List Vote) → cert_on certs v.epoch.0 ≡ None → filter (is_open certs) (v ∷ votes) ≡ v ∷ filter (is_open certs) votes
open-here certs v votes none =
    ap (λ (o : Option Cert). cond (not (is_some o)) (v ∷ filter (is_open certs) votes) (filter (is_open certs) votes)) none

-- ---- a certificate

-- The epoch has no tally, and a certificate. More votes of this epoch do not matter.
certified-kept : (b mid new : BallotsState) (c : Cert) (votes more : List Vote) (certs : List Cert) → AreKept b votes certs → IsUntallied c.epoch.0 b mid → IsCertified c mid new →
    ((d k : ℕ) → d ≢ c.epoch.0 → vote_by more d k ≡ vote_by votes d k) → filter (is_open (c ∷ certs)) more ≡ filter (is_open (c ∷ certs)) votes → AreKept new more (c ∷ certs)
certified-kept b mid new c votes more certs kept gone put others same = record {
  certs_are = λ d. elim (same_or_not d c.epoch.0) [
    | inl q ↦
        put.certs d ∙ at-same c.epoch.0 d (Some c) (cert_at mid.certs d) (sym q)
        ∙ sym (at-same c.epoch.0 d (Some c) (cert_on certs d) (sym q))
    | inr ne ↦
        put.certs d ∙ at-other c.epoch.0 d (Some c) (cert_at mid.certs d) ne
        ∙ ap (λ (z : BallotsState). cert_at z.certs d) gone.rest ∙ kept.certs_are d
        ∙ sym (at-other c.epoch.0 d (Some c) (cert_on certs d) ne)
  ];
  votes_are = λ d k none. elim (same_or_not d c.epoch.0) [
    | inl q ↦ absurd (none-some c (sym none ∙ at-same c.epoch.0 d (Some c) (cert_on certs d) (sym q)))
    | inr ne ↦
        ap (λ (z : BallotsState). vote_in (tally_at z.tallies d) k) put.rest
        ∙ ap (λ (o : Option TallyState). vote_in o k) (gone.tallies d ∙ at-other c.epoch.0 d None (tally_at b.tallies d) ne)
        ∙ kept.votes_are d k (sym (at-other c.epoch.0 d (Some c) (cert_on certs d) ne) ∙ none)
        ∙ sym (others d k ne)
  ];
  counted_are =
      put.counted ∙ ap (λ (z : BallotsState). filter (λ (v : Vote). not (v.epoch.0 == c.epoch.0)) z.counted) gone.rest
      ∙ open-with c certs votes b.counted kept.counted_are ∙ ap (λ (xs : List Vote). reverse xs) (sym same);
}

pub puts-kept : (b mid new : BallotsState) (c : Cert) → IsUntallied c.epoch.0 b mid → IsCertified c mid new → (votes : List Vote) (certs : List Cert) → AreKept b votes certs → AreKept new votes (c ∷ certs)
puts-kept b mid new c gone put votes certs kept = certified-kept b mid new c votes votes certs kept gone put (λ d k ne. refl) refl

-- a certificate of an epoch that has none
pub keeps-new : (b new : BallotsState) (c : Cert) → is_some (cert_at b.certs c.epoch.0) ≡ false → ((votes : List Vote) (certs : List Cert) → AreKept b votes certs → AreKept new votes (c ∷ certs)) →
    (votes : List Vote) (certs : List Cert) → AreKept b votes certs → AreKept new votes (keeping certs c (cert_on certs c.epoch.0))
keeps-new b new c none put votes certs kept =
    subst (λ (o : Option Cert). AreKept new votes (keeping certs c o))
    (sym (is-none (cert_on certs c.epoch.0) (ap (λ (o : Option Cert). is_some o) (sym (kept.certs_are c.epoch.0)) ∙ none)))
    (put votes certs kept)

-- a certificate of an epoch that has one
pub keeps-old : (b : BallotsState) (c : Cert) → is_some (cert_at b.certs c.epoch.0) ≡ true → (votes : List Vote) (certs : List Cert) →
    AreKept b votes certs → AreKept b votes (keeping certs c (cert_on certs c.epoch.0))
keeps-old b c there votes certs kept = go (cert_on certs c.epoch.0) (ap (λ (o : Option Cert). is_some o) (sym (kept.certs_are c.epoch.0)) ∙ there)
  where
    go : (o : Option Cert) → is_some o ≡ true → AreKept b votes (keeping certs c o)
    go None h = absurd (true≢false (sym h))
    go (Some x) h = kept

-- the votes are forgotten
pub forgets-kept : (b new : BallotsState) (votes : List Vote) (certs : List Cert) → new ≡ record b { tallies = []; counted = [] } → AreKept b votes certs → AreKept new [] certs
forgets-kept b new votes certs is kept = subst (λ (z : BallotsState). AreKept z [] certs) (sym is) (record {
  certs_are = kept.certs_are;
  votes_are = λ d k none. refl;
  counted_are = refl;
})

-- ---- a vote on an epoch without a certificate

or-tally : (b : BallotsState) (e : ℕ) → AreTallies b.voters b.tallies → ((tally_or b.voters e (tally_at b.tallies e)).voters ≡ b.voters) × ((tally_or b.voters e (tally_at b.tallies e)).epoch ≡ e)
or-tally b e all = go (tally_at b.tallies e) refl
  where
    go : (o : Option TallyState) → tally_at b.tallies e ≡ o → ((tally_or b.voters e o).voters ≡ b.voters) × ((tally_or b.voters e o).epoch ≡ e)
    go None q = (refl, refl)
    go (Some t) q = all e t q

-- The tally may be put back.
pub put-fits : (b mid : BallotsState) (e : ℕ) (t u : TallyState) → AreTallies b.voters b.tallies → IsUntallied e b mid → t ≡ tally_or b.voters e (tally_at b.tallies e) → u.voters ≡ t.voters → u.epoch ≡ t.epoch →
    (u.voters ≡ mid.voters) × (u.epoch ≡ e)
put-fits b mid e t u all gone is voters epoch =
    let own = or-tally b e all in (
      voters ∙ (ap (λ (z : TallyState). z.voters) is ∙ (own.0 ∙ sym (ap (λ (z : BallotsState). z.voters) gone.rest))),
      epoch ∙ (ap (λ (z : TallyState). z.epoch) is ∙ own.1),
    )

module _ (b mid new : BallotsState) (v : Vote) (votes : List Vote) (certs : List Cert) (kept : AreKept b votes certs)
    (none : cert_at b.certs v.epoch.0 ≡ None) (all : AreTallies b.voters b.tallies) (gone : IsUntallied v.epoch.0 b mid) where
  abbrev tally : TallyState
  tally = tally_or b.voters v.epoch.0 (tally_at b.tallies v.epoch.0)

  no-cert : cert_on certs v.epoch.0 ≡ None
  no-cert = sym (kept.certs_are v.epoch.0) ∙ none

  tally-of : (tally.voters ≡ b.voters) × (tally.epoch ≡ v.epoch.0)
  tally-of = or-tally b v.epoch.0 all

  votes-at : (k : ℕ) → vote_at tally.votes k ≡ vote_by votes v.epoch.0 k
  votes-at k = go (tally_at b.tallies v.epoch.0) ∙ kept.votes_are v.epoch.0 k no-cert
    where
      go : (o : Option TallyState) → vote_at (tally_or b.voters v.epoch.0 o).votes k ≡ vote_in o k
      go None = refl
      go (Some t) = refl

  by-voters : (s : Bool) → new.voters ≡ b.voters → is_signed tally.voters (statement_of tally.voters v) v.by.0 v.sig ≡ s → is_true new.voters v ≡ s
  by-voters s same h = ap (λ (w : Voters). is_true w v) (same ∙ sym tally-of.0) ∙ h

  held-is : (s : Bool) → is_some (vote_at tally.votes v.by.0) ≡ s → is_held votes certs v ≡ s
  held-is s h = ap (λ (o : Option Cert). is_some o || is_some (vote_by votes v.epoch.0 v.by.0)) no-cert ∙ (ap (λ (o : Option Vote). is_some o) (sym (votes-at v.by.0)) ∙ h)

  -- The tally is put back.
  module _ (put : BallotsState) (u : TallyState) (epoch : u.epoch ≡ v.epoch.0) (has : HasTally u mid put) where
    back-voters : put.voters ≡ b.voters
    back-voters = ap (λ (z : BallotsState). z.voters) has.rest ∙ ap (λ (z : BallotsState). z.voters) gone.rest

    back-kept : (more counted : List Vote) → ((k : ℕ) → vote_at u.votes k ≡ vote_by more v.epoch.0 k) → ((d k : ℕ) → d ≢ v.epoch.0 → vote_by more d k ≡ vote_by votes d k) →
        counted ≡ reverse (filter (is_open certs) more) → AreKept (record put { counted = counted }) more certs
    back-kept more counted here others is = record {
      certs_are = λ d. ap (λ (z : BallotsState). cert_at z.certs d) has.rest ∙ (ap (λ (z : BallotsState). cert_at z.certs d) gone.rest ∙ kept.certs_are d);
      votes_are = λ d k c. elim (same_or_not d v.epoch.0) [
        | inl q ↦
            ap (λ (o : Option TallyState). vote_in o k) (has.tallies d ∙ at-same u.epoch d (Some u) (tally_at mid.tallies d) (epoch ∙ sym q))
            ∙ (here k ∙ ap (λ (n : ℕ). vote_by more n k) (sym q))
        | inr ne ↦
            ap (λ (o : Option TallyState). vote_in o k)
            (has.tallies d ∙ (at-other u.epoch d (Some u) (tally_at mid.tallies d) (λ q. ne (q ∙ epoch))
            ∙ (gone.tallies d ∙ at-other v.epoch.0 d None (tally_at b.tallies d) ne)))
            ∙ (kept.votes_are d k c ∙ sym (others d k ne))
      ];
      counted_are = is;
    }

    back-counted : put.counted ≡ b.counted
    back-counted = ap (λ (z : BallotsState). z.counted) has.rest ∙ ap (λ (z : BallotsState). z.counted) gone.rest

  pub refused-taken : (u : TallyState) (cause : Refusal) → refusal tally v ≡ Some cause → u ≡ tally → HasTally u mid new → IsTaken votes certs v new (refused cause)
  refused-taken u cause why is has = go cause why
    where
      same : AreKept new votes certs
      same = back-kept new u (ap (λ (t : TallyState). t.epoch) is ∙ tally-of.1) has votes new.counted
          (λ k. ap (λ (t : TallyState). vote_at t.votes k) is ∙ votes-at k) (λ d k ne. refl) (back-counted new u (ap (λ (t : TallyState). t.epoch) is ∙ tally-of.1) has ∙ kept.counted_are)

      voters : new.voters ≡ b.voters
      voters = back-voters new u (ap (λ (t : TallyState). t.epoch) is ∙ tally-of.1) has

      go : (x : Refusal) → refusal tally v ≡ Some x → IsTaken votes certs v new (refused x)
      go Twice h = let k = twice-of tally v h in (by-voters true voters k.signed, held-is true k.there, same)
      go Refusal_bad_signature h = (by-voters false voters (unsigned-of tally v (sym tally-of.1) (inl h)), same)
      go OtherEpoch h = (by-voters false voters (unsigned-of tally v (sym tally-of.1) (inr h)), same)

  module _ (u : TallyState) (counted : IsCounted tally v u) where
    with-it : (k : ℕ) → vote_at u.votes k ≡ vote_by (v ∷ votes) v.epoch.0 k
    with-it k = counted.votes k ∙ vote-here v votes tally.votes k (votes-at k)

    voters-are : u.voters ≡ b.voters
    voters-are = ap (λ (z : TallyState). z.voters) counted.others ∙ tally-of.0

    pub epoch-is : u.epoch ≡ v.epoch.0
    epoch-is = ap (λ (z : TallyState). z.epoch) counted.others ∙ tally-of.1

    cert-is : (w : Voters) → w ≡ b.voters → certificate u v ≡ certificate_by (vote_by (v ∷ votes) v.epoch.0) v w.n
    cert-is w q =
        ap (λ (z : Voters). certificate_by (vote_at u.votes) v z.n) (voters-are ∙ sym q)
        ∙ ap (λ (xs : List Signed). let c : Cert = record { epoch = v.epoch; chain = v.chain; requests = v.requests; signers = xs } in c)
        (below-same (vote_at u.votes) (vote_by (v ∷ votes) v.epoch.0) v with-it w.n)

    -- whether they are a quorum
    quorum-is : (w : Voters) (q : Bool) → w ≡ b.voters → (length (certificate u v).signers == tally.voters.quorum) ≡ q →
        (length (certificate_by (vote_by (v ∷ votes) v.epoch.0) v w.n).signers == w.quorum) ≡ q
    quorum-is w q same h =
        ap (λ (c : Cert). length c.signers == w.quorum) (sym (cert-is w same))
        ∙ (ap (λ (z : Voters). length (certificate u v).signers == z.quorum) (same ∙ sym tally-of.0) ∙ h)

    pub counted-taken : (put : BallotsState) → HasTally u mid put → length (certificate u v).signers ≢ tally.voters.quorum → new ≡ record put { counted = put.counted ++ v ∷ [] } →
        IsTaken votes certs v new Counted
    counted-taken put has few is =
        let free = free-of tally v counted.sound in
        let same : new.voters ≡ b.voters = ap (λ (z : BallotsState). z.voters) is ∙ back-voters put u epoch-is has in
        let test = quorum-is new.voters false same (eqb-other _ _ few) in
        let after : AreKept (record put { counted = put.counted ++ v ∷ [] }) (v ∷ votes) certs =
        back-kept put u epoch-is has (v ∷ votes) (put.counted ++ v ∷ []) with-it (λ d k ne. vote-there v votes d k ne)
        (ap (λ (xs : List Vote). xs ++ v ∷ []) (back-counted put u epoch-is has ∙ kept.counted_are)
        ∙ (sym (reverse-more v (filter (is_open certs) votes)) ∙ ap (λ (xs : List Vote). reverse xs) (sym (open-here certs v votes no-cert)))) in (
          by-voters true same free.signed,
          held-is false free.free,
          subst (λ (q : Bool). AreKept new (v ∷ votes) (cond q (certificate_by (vote_by (v ∷ votes) v.epoch.0) v new.voters.n ∷ []) [] ++ certs)) (sym test)
              (subst (λ (z : BallotsState). AreKept z (v ∷ votes) certs) (sym is) after),
        )

    pub stable-taken : (c : Cert) → c ≡ certificate u v → length (certificate u v).signers ≡ tally.voters.quorum → IsCertified c mid new → IsTaken votes certs v new Counted
    stable-taken c is many put =
        let free = free-of tally v counted.sound in
        let same : new.voters ≡ b.voters = ap (λ (z : BallotsState). z.voters) put.rest ∙ ap (λ (z : BallotsState). z.voters) gone.rest in
        let test = quorum-is new.voters true same (ap (λ (k : ℕ). length (certificate u v).signers == k) (sym many) ∙ eqb-same _) in
        let epoch : v.epoch.0 ≡ c.epoch.0 = ap (λ (x : Cert). x.epoch.0) (sym is) in
        let after : AreKept new (v ∷ votes) (c ∷ certs) =
        certified-kept b mid new c votes (v ∷ votes) certs kept (subst (λ (n : ℕ). IsUntallied n b mid) epoch gone) put
        (λ d k ne. vote-there v votes d k (λ q. ne (q ∙ epoch))) (shut-here c certs v votes epoch) in (
          by-voters true same free.signed,
          held-is false free.free,
          subst (λ (q : Bool). AreKept new (v ∷ votes) (cond q (certificate_by (vote_by (v ∷ votes) v.epoch.0) v new.voters.n ∷ []) [] ++ certs)) (sym test)
              (subst (λ (z : Cert). AreKept new (v ∷ votes) (z ∷ certs)) (is ∙ cert-is new.voters same) after),
        )

-- ---- a vote on an epoch with a certificate

pub known-taken : (b : BallotsState) (v : Vote) → is_some (cert_at b.certs v.epoch.0) ≡ true → is_true b.voters v ≡ true → (votes : List Vote) (certs : List Cert) → AreKept b votes certs → IsTaken votes certs v b Known
known-taken b v there signed votes certs kept = (
  signed,
  ap (λ (t : Bool). t || is_some (vote_by votes v.epoch.0 v.by.0)) (ap (λ (o : Option Cert). is_some o) (sym (kept.certs_are v.epoch.0)) ∙ there),
  kept,
)
