-- Whatever sequence of moves an event is at a correct node, the cluster is reached, with all that was signed and
-- hashed.
use Rattle.std.proofs.Common.{◌≡◌, ◌≢◌, inl, inr, ℕ, Bool, true, false, List, [], ◌∷◌, ◌++◌, refl, sym, ap, ◌∙◌, subst, append_assoc, true≢false}
use Rattle.iss_base.specs.Lists.{In, set_at}
use Rattle.iss_base.proofs.Lists.{in_append, in_left, in_right, set_at-other, set_at-same}
use Rattle.iss_request.specs.declared.setups.Setup.{Setup}
use Rattle.iss_sb.specs.declared.effects.Input.{Input}
use Rattle.iss_sb.specs.declared.effects.Input.TheVariants.{Cast, Receive, Timeout}
use Rattle.iss_sb.specs.Evidence.{IsCredible, Module, is_correct}
use Rattle.iss_rules.specs.Books.{Signed}
use Rattle.iss_composition.specs.Cluster.{AllSpelled, Cluster, IsBooked, IsVerified, MayGet, MayTake, Reach, Scheme, adopt, chain_strings, ends, move, vote_statement}
use Rattle.iss_rules.specs.Past.{adopted_log, adopts, advanced, Past, log_of, made_in, params_of, takes}
use Rattle.iss_rules.specs.Rules.{Rules}
use Rattle.iss_theorems.proofs.Refinement.EventIsManyMoves.{Adopts, AreRight, Ends, IsRight, MayHear, Small, Takes, hashes_at, hashes_of, past_after, past_of, signs_at, signs_of}
use Rattle.iss_theorems.proofs.Refinement.DeliveryChecks.{own-is}

module _ {Msg : Type 0} (s : Setup) (S : Scheme) (R : Rules) (M : Module Msg) (fails : M.stopping ≡ false) (i : ℕ) (correct : is_correct s i ≡ true) where
  abbrev after : Cluster Msg → Past Msg → List Signed → List (List ℕ) → Cluster Msg
  after w c signed hashed = record { pasts = set_at w.pasts i c; messages = w.messages; book = signed ++ w.book; strings = hashed ++ w.strings }

  -- a reached cluster, with node i there, and these books
  pub record Stands (w : Cluster Msg) (c : Past Msg) (signed : List Signed) (hashed : List (List ℕ)) : Type 0 where
    pub cluster : Cluster Msg
    pub reached : Reach s S R M cluster
    pub here : cluster.pasts i ≡ c
    pub other : (j : ℕ) → j ≢ i → cluster.pasts j ≡ w.pasts j
    pub book : cluster.book ≡ signed ++ w.book
    pub strings : cluster.strings ≡ hashed ++ w.strings

  more-signed : (a b : List Signed) → ((x : Signed) → In x a → In x b) → (from : ℕ) (c : Past Msg) (l : ℕ) (msg : Msg) →
      IsCredible M (params_of R M i c l) (IsVerified R) (IsBooked a) from msg → IsCredible M (params_of R M i c l) (IsVerified R) (IsBooked b) from msg
  more-signed a b sub from c l msg h =
      record {
        named = h.named;
        read = h.read;
        verified = h.verified;
        signed =
            λ d m ok. sub (record { by = d.by.0; statement = d.statement }) (h.signed d m ok);
      }

  may-take : (w : Cluster Msg) (c : Past Msg) (book : List Signed) → w.pasts i ≡ c → ((x : Signed) → In x book → In x w.book) → (l : ℕ) (input : Input Msg) →
      MayHear R M book i c l input → MayTake s R M w i l input
  may-take w c book q sub l (Cast slot batch) h = rw q h
  may-take w c book q sub l (Receive from msg) h =
      subst (λ (b : Bool). MayGet b s R M w i l from.0 msg) (sym fails) (rw q (more-signed book w.book sub from.0 c l msg h))
  may-take w c book q sub l Timeout h = tt

  one : (w : Cluster Msg) → Reach s S R M w → (book : List Signed) → ((x : Signed) → In x book → In x w.book) → (x : Small Msg) →
      IsRight s S R M book i (w.pasts i) x → AllSpelled S (log_of R M i (past_after R M i (w.pasts i) x)) →
      Reach s S R M (after w (past_after R M i (w.pasts i) x) (signs_at s S R M i (w.pasts i) x) (hashes_at S R M i (w.pasts i) x))
  one w r book sub (Takes l input leaf) right spelled =
      let c : Past Msg = w.pasts i in
      let d : Past Msg = takes R M i c l input leaf in
      let own = signs_at s S R M i c (Takes l input leaf) in
      let made = made_in R M i c l input leaf in
      let hashed = hashes_at S R M i c (Takes l input leaf) in
      let v : Cluster Msg = after w d own hashed in
      let here : v.pasts i ≡ d = set_at-same w.pasts i d in
      move i l input leaf r (record {
        correct = correct;
        leads = right.leads;
        comes = may-take w c book refl sub l input right.comes;
        judged = right.judged;
        here = here;
        other = λ j ne. set_at-other w.pasts i d j ne;
        messages = λ st k h. absurd (true≢false (sym st ∙ fails));
        book = λ y h. elim (in_append y own w.book h) [ inl a ↦ inl (own-is M (params_of R M i c l) i made.sends y a) | inr b ↦ inr b ];
        old_book = λ y h. in_right y own w.book h;
        fresh_strings = λ y h. in_left y hashed w.strings (in_left y made.strings (chain_strings S (log_of R M i d)) h);
        strings = λ y h. in_right y hashed w.strings h;
        hashed = λ y h. in_left y hashed w.strings
            (in_right y made.strings (chain_strings S (log_of R M i d)) (subst (λ (p : Past Msg). In y (chain_strings S (log_of R M i p))) here h));
        spelled = subst (λ (p : Past Msg). AllSpelled S (log_of R M i p)) (sym here) spelled;
      })
  one w r book sub Ends right spelled =
      let c : Past Msg = w.pasts i in
      let d : Past Msg = advanced c in
      let own = signs_at s S R M i c Ends in
      let hashed = hashes_at S R M i c Ends in
      let v : Cluster Msg = after w d own hashed in
      let here : v.pasts i ≡ d = set_at-same w.pasts i d in
      ends i r (record {
        correct = correct;
        complete = right;
        here = here;
        other = λ j ne. set_at-other w.pasts i d j ne;
        quiet = record {
          messages = λ st k h. absurd (true≢false (sym st ∙ fails));
          old_book = λ y h. in_right y own w.book h;
          strings =
              λ y h. in_right y hashed w.strings h;
        };
        book = λ y h. elim h [ inl q ↦ inr (ap (λ (z : Signed). z.by) q, ap (λ (z : Signed). z.statement) q) | inr k ↦ inl k ];
        hashed = λ y h. in_left y hashed w.strings (subst (λ (p : Past Msg). In y (chain_strings S (log_of R M i p))) here h);
        spelled = subst (λ (p : Past Msg). AllSpelled S (log_of R M i p)) (sym here) spelled;
      })
  one w r book sub (Adopts piece cert) right spelled =
      let c : Past Msg = w.pasts i in
      let d : Past Msg = adopts c piece in
      let hashed = hashes_at S R M i c (Adopts piece cert) in
      let v : Cluster Msg = after w d [] hashed in
      let here : v.pasts i ≡ d = set_at-same w.pasts i d in
      let whole = adopted_log R M i c piece in
      adopt i piece cert r (record {
        correct = correct;
        epoch = right.epoch;
        whole = right.whole;
        quorum = right.quorum;
        votes = λ k h ok. sub (record { by = k; statement = vote_statement s piece.epoch cert.chain cert.number }) (right.votes k h ok);
        chained = right.chained;
        piece_hashed = λ y h. in_left y hashed w.strings (in_left y (chain_strings S whole) (chain_strings S (log_of R M i d)) h);
        piece_spelled = right.spelled;
        here = here;
        other = λ j ne. set_at-other w.pasts i d j ne;
        quiet = record { messages = λ st k h. absurd (true≢false (sym st ∙ fails)); old_book = λ y h. h; strings = λ y h. in_right y hashed w.strings h };
        book = λ y h. h;
        hashed = λ y h. in_left y hashed w.strings
            (in_right y (chain_strings S whole) (chain_strings S (log_of R M i d)) (subst (λ (p : Past Msg). In y (chain_strings S (log_of R M i p))) here h));
        spelled = subst (λ (p : Past Msg). AllSpelled S (log_of R M i p)) (sym here) spelled;
      })

  -- the moves of an event, whose claims are read against the book before it
  pub row : (xs : List (Small Msg)) (w : Cluster Msg) → Reach s S R M w → (book : List Signed) → ((x : Signed) → In x book → In x w.book) → (c : Past Msg) →
      w.pasts i ≡ c → AreRight s S R M book i c xs →
      Stands w (past_of R M i c xs) (signs_of s S R M i c xs) (hashes_of S R M i c xs)
  row [] w r book sub c q right = record { cluster = w; reached = r; here = q; other = λ j ne. refl; book = refl; strings = refl }
  row (x ∷ xs) w r book sub c q right =
      let d : Past Msg = past_after R M i c x in
      let own = signs_at s S R M i c x in
      let hashed = hashes_at S R M i c x in
      let v : Cluster Msg = after w d own hashed in
      let rv : Reach s S R M v = subst (λ (p : Past Msg). Reach s S R M (after w (past_after R M i p x) (signs_at s S R M i p x) (hashes_at S R M i p x))) q
      (one w r book sub x (subst (λ (p : Past Msg). IsRight s S R M book i p x) (sym q) right.0)
      (subst (λ (p : Past Msg). AllSpelled S (log_of R M i (past_after R M i p x))) (sym q) right.1)) in
      let y = row xs v rv book (λ z h. in_right z own w.book (sub z h)) d (set_at-same w.pasts i d) right.2 in
      record {
        cluster = y.cluster;
        reached = y.reached;
        here = y.here;
        other = λ j ne. y.other j ne ∙ set_at-other w.pasts i d j ne;
        book = y.book ∙ sym (append_assoc (signs_of s S R M i d xs) own w.book);
        strings = y.strings ∙ sym (append_assoc (hashes_of S R M i d xs) hashed w.strings);
      }
