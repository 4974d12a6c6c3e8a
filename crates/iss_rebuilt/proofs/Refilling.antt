-- What is read of a snapshot into a core, part by part.
use Rattle.std.proofs.Common.{◌≡◌, ◌≢◌, ◌⊎◌, inl, inr, ℕ, zero, suc, ◌≤◌, ◌<◌, ◌&&◌, ◌||◌, Bool, true, false, cond, eqb, not, nat_le, nat_lt, is_some, List, [], ◌∷◌, ◌++◌, reverse, Option, Some, None, refl, sym, ap, ap₂, ◌∙◌, subst, arith, append_assoc, append-nil}
use Rattle.std.proofs.lemmas.List.{reverse-append}
use Rattle.std.proofs.lemmas.Bool.{le-leb}
use Rattle.std.proofs.lemmas.Bool.Decides.{leb_tells}
use Rattle.iss_base.specs.Lists.{Different, In, below}
use Rattle.iss_base.proofs.Lists.{and-true, both, eqb-other, eqb-same, is-eq, neither, same_or_not, some-injective}
use Rattle.iss_checkpoint.specs.declared.votes.Cert.{Cert}
use Rattle.iss_checkpoint.specs.declared.votes.Vote.{Vote}
use Rattle.iss_request.specs.Log.{has_id, ids, log_ids}
use Rattle.iss_request.specs.declared.ids.ReqId.{ReqId}
use Rattle.iss_request.specs.declared.ids.Slot.{Slot}
use Rattle.iss_request.specs.declared.requests.Batch.{Batch}
use Rattle.iss_request.specs.declared.requests.Request.{Request}
use Rattle.iss_rules.specs.declared.events.Why.TheVariants.{BadClaim, BadRequest, Known, OtherEpoch, OutOfWindow}
use Rattle.iss_rules.specs.Past.{before_own, log_of}
use Rattle.iss_rules.specs.Parcels.{Parcel}
use Rattle.iss_rules.specs.Rules.{Rules}
use Rattle.iss_rules.proofs.Ids.{has-not, ids-right}
use Rattle.iss_rules.specs.Votes.{all_verify, cert_on, claim_of_vote, is_true_cert, vote_by}
use Rattle.iss_model.specs.Frames.{Frame}
use Rattle.iss_model.specs.Node.{Core, Early, Stepped, Taken, Dropped, counted, flown, is_counted, is_known, unchanged, takes_request, takes_vote}
use Rattle.iss_rebuilt.specs.Storable.{AreCounted}
use Rattle.iss_rebuilt.specs.Reading.{are_new, core_of_step, early_each, early_in, takes_requests, takes_votes, with_early}
use Rattle.iss_rebuilt.specs.Stored.{early_parcel, new_cert, new_certs, packets_of}

abbrev pub waiting_in : {Msg : Type 0} → Core Msg → List Request → Core Msg
waiting_in b qs = record b { waiting = qs }

abbrev pub voting_in : {Msg : Type 0} → Core Msg → List Vote → Core Msg
voting_in b vs = record b { votes = vs }

ids-apart : (done : List Request) (q : Request) (qs : List Request) → Different (ids (done ++ q ∷ qs)) → In q.id (ids done) → ⊥
ids-apart [] q qs d h = absurd h
ids-apart (r ∷ rs) q qs d (inl e) = d.0 (subst (λ (x : ReqId). In x (ids (rs ++ q ∷ qs))) e (ids-right q.id rs (q ∷ qs) (inl refl)))
ids-apart (r ∷ rs) q qs d (inr i) = ids-apart rs q qs d.1 i

cert-epoch : (certs : List Cert) (e : ℕ) (c : Cert) → cert_on certs e ≡ Some c → c.epoch.0 ≡ e
cert-epoch [] e c h = absurd (cc)
cert-epoch (x ∷ xs) e c h = go (eqb x.epoch.0 e) refl h (cert-epoch xs e c)
  where
    go : (b : Bool) → eqb x.epoch.0 e ≡ b → cond b (Some x) (cert_on xs e) ≡ Some c → (cert_on xs e ≡ Some c → c.epoch.0 ≡ e) → c.epoch.0 ≡ e
    go true q k ih = ap (λ (z : Cert). z.epoch.0) (sym (some-injective x c k)) ∙ is-eq x.epoch.0 e q
    go false q k ih = ih k

module _ {Msg : Type 0} (W : Frame Msg) (me : ℕ) where
  -- ---- what waits

  module _ (b : Core Msg) (landed : b.flight ≡ []) where
    taken : (done : List Request) (q : Request) → W.rules.signed q ≡ true → (In q.id (ids done) → ⊥) →
        (In q.id (log_ids (log_of W.rules W.spec me b.past)) → ⊥) → W.rules.inside (before_own W.rules W.spec me b.past) b.past.epoch q.id ≡ true →
        takes_request W.rules W.spec me (waiting_in b done) q ≡ Taken (unchanged (waiting_in b (done ++ q ∷ [])))
    taken done q signed apart unordered inside =
        let unknown : is_known W.rules W.spec me (waiting_in b done) q.id ≡ false =
        neither (has_id q.id (ids done)) (has_id q.id (flown b.flight) || has_id q.id (log_ids (log_of W.rules W.spec me b.past))) (has-not q.id (ids done) apart)
        (neither (has_id q.id (flown b.flight)) (has_id q.id (log_ids (log_of W.rules W.spec me b.past)))
        (ap (λ (f : List (Slot × Batch)). has_id q.id (flown f)) landed)
        (has-not q.id (log_ids (log_of W.rules W.spec me b.past)) unordered)) in
        let last : Stepped Msg = Taken (unchanged (waiting_in b (done ++ q ∷ []))) in
        let third : Stepped Msg = cond (not (W.rules.inside (before_own W.rules W.spec me b.past) b.past.epoch q.id)) (Dropped OutOfWindow) last in
        let second : Stepped Msg = cond (is_known W.rules W.spec me (waiting_in b done) q.id) (Dropped Known) third in
        ap (λ (x : Bool). cond (not x) (Dropped BadRequest) second) signed
        ∙ (ap (λ (x : Bool). cond x (Dropped Known) third) unknown
        ∙ ap (λ (x : Bool). cond (not x) (Dropped OutOfWindow) last) inside)

    pub waits : (qs done : List Request) → Different (ids (done ++ qs)) → ((q : Request) → In q qs → W.rules.signed q ≡ true) →
        ((q : Request) → In q qs → In q.id (log_ids (log_of W.rules W.spec me b.past)) → ⊥) →
        ((q : Request) → In q qs → W.rules.inside (before_own W.rules W.spec me b.past) b.past.epoch q.id ≡ true) →
        takes_requests W me qs (Some (waiting_in b done)) ≡ Some (waiting_in b (done ++ qs))
    waits [] done d signed unordered inside = ap (λ (t : List Request). Some (waiting_in b t)) (sym (append-nil done))
    waits (q ∷ qs) done d signed unordered inside =
        let group : (done ++ q ∷ []) ++ qs ≡ done ++ q ∷ qs = append_assoc done (q ∷ []) qs in
        ap (λ (s : Stepped Msg). takes_requests W me qs (core_of_step s))
        (taken done q (signed q (inl refl)) (ids-apart done q qs d) (unordered q (inl refl)) (inside q (inl refl)))
        ∙ (waits qs (done ++ q ∷ []) (subst (λ (t : List Request). Different (ids t)) (sym group) d) (λ r i. signed r (inr i)) (λ r i. unordered r (inr i))
        (λ r i. inside r (inr i))
        ∙ ap (λ (t : List Request). Some (waiting_in b t)) group)

  -- ---- votes

  votes-append : (xs ys : List Vote) (o : Option (Core Msg)) → takes_votes W (xs ++ ys) o ≡ takes_votes W ys (takes_votes W xs o)
  votes-append [] ys None = refl
  votes-append [] ys (Some c) = refl
  votes-append (x ∷ xs) ys None = refl
  votes-append (x ∷ xs) ys (Some c) = votes-append xs ys (core_of_step (takes_vote W.rules c x))

  module _ (b : Core Msg) where
    voted : (vs : List Vote) (v : Vote) → AreCounted W.rules b.past.epoch (v ∷ vs) → cert_on b.certs v.epoch.0 ≡ None →
        takes_vote W.rules (voting_in b vs) v ≡ Taken (unchanged (voting_in b (v ∷ vs)))
    voted vs v h none =
        let R : Rules = W.rules in
        let c : Core Msg = voting_in b vs in
        let near : nat_lt (suc b.past.epoch) v.epoch.0 ≡ false = elim (leb_tells (suc (suc b.past.epoch)) v.epoch.0) [
          | inl t ↦ absurd (omega (arith, t.1, h.0))
          | inr t ↦ t.0
        ] in
        let fresh : is_counted c v ≡ false =
        neither (is_some (cert_on b.certs v.epoch.0)) (is_some (vote_by vs v.epoch.0 v.by.0)) (ap (λ (o : Option Cert). is_some o) none)
        (ap (λ (o : Option Vote). is_some o) h.2) in
        let last : Stepped Msg = Taken (unchanged (counted R c v)) in
        let third : Stepped Msg = cond (is_counted c v) (Dropped Known) last in
        let second : Stepped Msg = cond (not (all_verify R (claim_of_vote R v ∷ []))) (Dropped BadClaim) third in
        ap (λ (x : Bool). cond x (Dropped OtherEpoch) second) near
        ∙ (ap (λ (x : Bool). cond (not x) (Dropped BadClaim) third) h.1
        ∙ (ap (λ (x : Bool). cond x (Dropped Known) last) fresh
        ∙ ap (λ (s : List Cert). Taken (unchanged (record c { votes = v ∷ vs; certs = s ++ b.certs }))) h.3))

    pub votes : (vs : List Vote) → AreCounted W.rules b.past.epoch vs → ((v : Vote) → In v vs → cert_on b.certs v.epoch.0 ≡ None) →
        takes_votes W (reverse vs) (Some (voting_in b [])) ≡ Some (voting_in b vs)
    votes [] h none = refl
    votes (v ∷ vs) h none =
        ap (λ (l : List Vote). takes_votes W l (Some (voting_in b []))) (reverse-append (v ∷ []) vs)
        ∙ (votes-append (reverse vs) (v ∷ []) (Some (voting_in b []))
        ∙ (ap (λ (o : Option (Core Msg)). takes_votes W (v ∷ []) o) (votes vs h.4 (λ w i. none w (inr i)))
        ∙ ap (λ (s : Stepped Msg). takes_votes W [] (core_of_step s)) (voted vs v h (none v (inl refl)))))

  -- ---- early packets

  pub packets : (e : ℕ) (xs : List (Early Msg)) →
      ((x : Early Msg) → In x xs → W.formats.unwrap (W.formats.wrap (early_parcel e x)) ≡ Some (early_parcel e x)) → early_each W e (packets_of W e xs) ≡ Some xs
  packets e [] h = refl
  packets e (x ∷ xs) h =
      let first : early_in e (W.formats.unwrap (W.formats.wrap (early_parcel e x))) ≡ Some x =
      ap (λ (o : Option (Parcel Msg)). early_in e o) (h x (inl refl)) ∙ ap (λ (b : Bool). cond b (Some x) None) (eqb-same e) in
      ap₂ (λ (o : Option (Early Msg)) (p : Option (List (Early Msg))). with_early o p) first (packets e xs (λ y i. h y (inr i)))

-- ---- certificates

module _ (held : ℕ → Bool) (certs : List Cert) where
  new-append : (xs ys : List ℕ) → new_certs held certs (xs ++ ys) ≡ new_certs held certs xs ++ new_certs held certs ys
  new-append [] ys = refl
  new-append (x ∷ xs) ys =
      ap (λ (t : List Cert). new_cert held x (cert_on certs x) ++ t) (new-append xs ys)
      ∙ sym (append_assoc (new_cert held x (cert_on certs x)) (new_certs held certs xs) (new_certs held certs ys))

  new-last : (m : ℕ) → new_certs held certs (below (suc m)) ≡ new_certs held certs (below m) ++ new_cert held m (cert_on certs m)
  new-last m =
      new-append (below m) (m ∷ [])
      ∙ ap (λ (t : List Cert). new_certs held certs (below m) ++ t) (append-nil (new_cert held m (cert_on certs m)))

  new-turned : (m : ℕ) (o : Option Cert) → reverse (new_cert held m o) ≡ new_cert held m o
  new-turned m None = refl
  new-turned m (Some c) = go (held m)
    where
      go : (b : Bool) → reverse (cond b [] (c ∷ [])) ≡ cond b [] (c ∷ [])
      go true = refl
      go false = refl

  module _ (old : List Cert) where
    abbrev all_of : ℕ → List Cert
    all_of m = reverse (new_certs held certs (below m)) ++ old

    all-next : (m : ℕ) → all_of (suc m) ≡ new_cert held m (cert_on certs m) ++ all_of m
    all-next m =
        let a : List Cert = new_certs held certs (below m) in
        let b : List Cert = new_cert held m (cert_on certs m) in
        ap (λ (t : List Cert). reverse t ++ old) (new-last m)
        ∙ (ap (λ (t : List Cert). t ++ old) (reverse-append a b)
        ∙ (append_assoc (reverse b) (reverse a) old
        ∙ ap (λ (t : List Cert). t ++ (reverse a ++ old)) (new-turned m (cert_on certs m))))

    passed : (m e : ℕ) (rest : List Cert) → (m ≡ e → ⊥) → (o : Option Cert) → cert_on certs m ≡ o → cert_on (new_cert held m o ++ rest) e ≡ cert_on rest e
    passed m e rest ne None q = refl
    passed m e rest ne (Some c) q = go (held m)
      where
        go : (b : Bool) → cert_on (cond b [] (c ∷ []) ++ rest) e ≡ cert_on rest e
        go true = refl
        go false =
            ap (λ (b : Bool). cond b (Some c) (cert_on rest e)) (eqb-other c.epoch.0 e (λ z. ne (sym (cert-epoch certs m c q) ∙ z)))

    held-passed : (m e : ℕ) (rest : List Cert) → held m ≡ true → (o : Option Cert) → cert_on (new_cert held m o ++ rest) e ≡ cert_on rest e
    held-passed m e rest h None = refl
    held-passed m e rest h (Some c) = ap (λ (b : Bool). cert_on (cond b [] (c ∷ []) ++ rest) e) h

    put : (e : ℕ) (rest : List Cert) → held e ≡ false → cert_on rest e ≡ None → (o : Option Cert) → cert_on certs e ≡ o → cert_on (new_cert held e o ++ rest) e ≡ o
    put e rest h none None q = none
    put e rest h none (Some c) q =
        ap (λ (b : Bool). cert_on (cond b [] (c ∷ []) ++ rest) e) h
        ∙ ap (λ (b : Bool). cond b (Some c) (cert_on rest e)) (ap (λ (n : ℕ). eqb n e) (cert-epoch certs e c q) ∙ eqb-same e)

    pub certs-far : (m e : ℕ) → m ≤ e → cert_on (all_of m) e ≡ cert_on old e
    certs-far zero e le = refl
    certs-far (suc m) e le =
        ap (λ (t : List Cert). cert_on t e) (all-next m)
        ∙ (passed m e (all_of m) (λ q. absurd (omega (arith, le, q))) (cert_on certs m) refl ∙ certs-far m e (omega (arith, le)))

    pub certs-held : (m e : ℕ) → held e ≡ true → cert_on (all_of m) e ≡ cert_on old e
    certs-held zero e h = refl
    certs-held (suc m) e h = ap (λ (t : List Cert). cert_on t e) (all-next m) ∙ (go (same_or_not m e) ∙ certs-held m e h)
      where
        go : ((m ≡ e) ⊎ (m ≢ e)) → cert_on (new_cert held m (cert_on certs m) ++ all_of m) e ≡ cert_on (all_of m) e
        go (inl q) = held-passed m e (all_of m) (ap (λ (n : ℕ). held n) q ∙ h) (cert_on certs m)
        go (inr ne) = passed m e (all_of m) ne (cert_on certs m) refl

    pub certs-new : (m e : ℕ) → e < m → held e ≡ false → cert_on old e ≡ None → cert_on (all_of m) e ≡ cert_on certs e
    certs-new zero e lt h none = absurd (omega (arith, lt))
    certs-new (suc m) e lt h none = ap (λ (t : List Cert). cert_on t e) (all-next m) ∙ go (λ below. certs-new m e below h none) (same_or_not m e)
      where
        go : (e < m → cert_on (all_of m) e ≡ cert_on certs e) → ((m ≡ e) ⊎ (m ≢ e)) →
            cert_on (new_cert held m (cert_on certs m) ++ all_of m) e ≡ cert_on certs e
        go ih (inl q) =
            subst (λ (n : ℕ). cert_on (new_cert held n (cert_on certs n) ++ all_of m) e ≡ cert_on certs e) (sym q)
            (put e (all_of m) h (certs-far m e (omega (arith, q)) ∙ none) (cert_on certs e) refl)
        go ih (inr ne) = passed m e (all_of m) ne (cert_on certs m) refl ∙ ih (lower ne)
          where
            lower : (m ≢ e) → e < m
            lower ne = elim (leb_tells (suc e) m) [ inl t ↦ t.1 | inr t ↦ absurd (ne (omega (arith, t.1, lt))) ]

module _ {Msg : Type 0} (W : Frame Msg) (held : ℕ → Bool) where
  abbrev AllUnder : ℕ → List Cert → Type 0
  AllUnder k [] = Unit {0}
  AllUnder k (c ∷ cs) = (c.epoch.0 < k) × AllUnder k cs

  under-wider : (k : ℕ) (cs : List Cert) → AllUnder k cs → AllUnder (suc k) cs
  under-wider k [] h = tt
  under-wider k (c ∷ cs) h = let l = h.0 in (omega (arith, l), under-wider k cs h.1)

  under-last : (k : ℕ) (cs : List Cert) (c : Cert) → AllUnder k cs → c.epoch.0 < k → AllUnder k (cs ++ c ∷ [])
  under-last k [] c h lt = (lt, tt)
  under-last k (x ∷ cs) c h lt = (h.0, under-last k cs c h.1 lt)

  new-snoc : (from : ℕ) (xs : List Cert) (c : Cert) → are_new W held from xs ≡ true → AllUnder c.epoch.0 xs → from ≤ c.epoch.0 → held c.epoch.0 ≡ false →
      is_true_cert W.rules c ≡ true → are_new W held from (xs ++ c ∷ []) ≡ true
  new-snoc from [] c h under le unheld is =
      both _ _ (le-leb from c.epoch.0 le) (both _ _ (ap (λ (b : Bool). not b) unheld) (both _ _ is refl))
  new-snoc from (x ∷ xs) c h under le unheld is =
      let a = and-true (nat_le from x.epoch.0) (not (held x.epoch.0) && (is_true_cert W.rules x && are_new W held (suc x.epoch.0) xs)) h in
      let b = and-true (not (held x.epoch.0)) (is_true_cert W.rules x && are_new W held (suc x.epoch.0) xs) a.1 in
      let d = and-true (is_true_cert W.rules x) (are_new W held (suc x.epoch.0) xs) b.1 in
      both _ _ a.0 (both _ _ b.0 (both _ _ d.0 (new-snoc (suc x.epoch.0) xs c d.1 under.1 (let l = under.0 in omega (arith, l)) unheld is)))

  module _ (certs : List Cert) (certified : (e : ℕ) (c : Cert) → cert_on certs e ≡ Some c → is_true_cert W.rules c ≡ true) where
    grown : (m : ℕ) (o : Option Cert) → cert_on certs m ≡ o → (xs : List Cert) → are_new W held 0 xs ≡ true → AllUnder m xs →
        (are_new W held 0 (xs ++ new_cert held m o) ≡ true) × AllUnder (suc m) (xs ++ new_cert held m o)
    grown m None q xs h under = subst (λ (t : List Cert). (are_new W held 0 t ≡ true) × AllUnder (suc m) t) (sym (append-nil xs)) (h, under-wider m xs under)
    grown m (Some c) q xs h under = go (held m) refl
      where
        is : c.epoch.0 ≡ m
        is = cert-epoch certs m c q

        go : (b : Bool) → held m ≡ b → (are_new W held 0 (xs ++ cond b [] (c ∷ [])) ≡ true) × AllUnder (suc m) (xs ++ cond b [] (c ∷ []))
        go true e = subst (λ (t : List Cert). (are_new W held 0 t ≡ true) × AllUnder (suc m) t) (sym (append-nil xs)) (h, under-wider m xs under)
        go false e = (
          new-snoc 0 xs c h (subst (λ (n : ℕ). AllUnder n xs) (sym is) under) (omega arith) (ap (λ (n : ℕ). held n) is ∙ e) (certified m c q),
          under-last (suc m) xs c (under-wider m xs under) (omega (arith, is)),
        )

    pub are-new : (m : ℕ) → (are_new W held 0 (new_certs held certs (below m)) ≡ true) × AllUnder m (new_certs held certs (below m))
    are-new zero = (refl, tt)
    are-new (suc m) =
        let ih = are-new m in
        subst (λ (t : List Cert). (are_new W held 0 t ≡ true) × AllUnder (suc m) t) (sym (new-last held certs m))
        (grown m (cert_on certs m) refl (new_certs held certs (below m)) ih.0 ih.1)
