-- Stored ViewChanges hold valid certificates, and a NewView has those of 2f+1 distinct replicas.
use Rattle.std.proofs.Common.{◌≡◌, ◌≤◌, ◌+◌, ◌*◌, ◌&&◌, ◌++◌, ◌∷◌, ◌∙◌, ℕ, zero, suc, true, not, cond, List, [], length, Option, Some, None, refl, sym, ap, subst, inl, inr, arith}
use Rattle.std.proofs.lemmas.Bool.{eq-eqb, le-leb, lt-ltb}
use Rattle.std.specs.Prelude.{is_some, ◌==◌}
use Rattle.iss_base.specs.Lists.{In}
use Rattle.iss_base.proofs.Lists.{and-true, both, first-cases, in_left, in_right}
use Rattle.iss_request.specs.declared.ids.NodeId.{NodeId}
use Rattle.iss_sb.specs.Calls.{IsGoodParams, has_slot}
use Rattle.iss_sb.specs.Evidence.{Item, World}
use Rattle.iss_sb.specs.Legal.{AreMade, IsLegal}
use Rattle.iss_sb.specs.declared.effects.Claim.{Claim}
use Rattle.iss_sb.specs.declared.effects.Input.TheVariants.{Receive}
use Rattle.iss_sb.specs.declared.effects.Params.{Params}
use Rattle.pbft_wire.specs.Statements.{digest_of, state_at, state_change, state_new, string_of}
use Rattle.pbft_wire.specs.declared.messages.Certificate.{Certificate}
use Rattle.pbft_wire.specs.declared.messages.Change.{Change}
use Rattle.pbft_wire.specs.declared.messages.Message.{Message}
use Rattle.pbft_wire.specs.Signed.{NewView, ViewChange}
use Rattle.pbft_views.specs.Choice.{certificates_of, choice}
use Rattle.iss_sb.specs.Statements.{claim}
use Rattle.pbft_views.specs.Claims.{certificates_claims, change_claims, changes_claims, chosen_claims}
use Rattle.pbft_views.specs.Good.{all_good, are_changes, are_enough, primary}
use Rattle.pbft_views.specs.Laws.{nodes_of}
use Rattle.pbft_views.proofs.Choices.{certificate-from}
use Rattle.pbft_views.proofs.Claimed.{certificate-claim, change-claim, claim-change}
use Rattle.pbft_views.proofs.Good.{all_good-at, change-at, good-votes}
use Rattle.sb_pbft.specs.Facts.{AreTrue, IsCertificate, IsKnown}
use Rattle.sb_pbft.specs.Makes.{choice_strings, inputs, makes, strings, value_strings}
use Rattle.sb_pbft.specs.Pbft.{pbft}
use Rattle.sb_pbft.specs.Rules.{change_in, change_of, changes, changes_from, completes, cons_some, mode}
use Rattle.sb_pbft.proofs.Safety.DecidedValuesStay.{Backed, Certified, Granted}
use Rattle.sb_pbft.proofs.Messages.ReceivedIsWellFormed.{FitsInput, certificate-value, change-certificates, choice-fits, fits-certificate-at, fits-change-at}
use Rattle.sb_pbft.proofs.ViewChange.OneNewViewAView.{IsKeptChange, change-in-is, change-of-is, in-changes}
use Rattle.sb_pbft.proofs.Messages.OwnClaimsWereSent.{input-item}
use Rattle.sb_pbft.proofs.Messages.SentDecodes.{change-fits, changes-fit}
use Rattle.sb_pbft.proofs.Safety.SeenClaimsAreTrue.{Entry, Part, all-fit, came-credible, come-fits, entered-known, entry-fits, hashed-here, in-choices, in-if, in-values, part-tail, vote-in}
use Rattle.sb_pbft.proofs.History.ViewsGrow.{Said, SameInput, entered}
use Rattle.sb_pbft.proofs.History.VotersAreDistinct.{node-vote}

-- ---- the stored ViewChanges are good and of distinct replicas

are-kept : (p : Params) (v from : ℕ) (g : ℕ → Option Change) (k m : ℕ) → from ≤ k → k + m ≤ p.setup.n →
    ((j : ℕ) (x : Change) → g j ≡ Some x → (x.node.0 ≡ j) × (x.view ≡ v) × (all_good p v x.certificates ≡ true)) →
    are_changes p v from (changes_from g k m) ≡ true
are-kept p v from g k zero l u h = refl
are-kept p v from g k (suc m) l u h = go (λ n o. are-kept p v n g (suc k) m o (omega (arith, u)) h) (g k) refl
  where
    go : ((n : ℕ) → n ≤ suc k → are_changes p v n (changes_from g (suc k) m) ≡ true) → (o : Option Change) → g k ≡ o →
        are_changes p v from (cons_some o (changes_from g (suc k) m)) ≡ true
    go r None e = r from (omega (arith, l))
    go r (Some x) e =
        let i = h k x e in
        let n = i.0 in
        both _ _ (both _ _ (both _ _ (le-leb from x.node.0 (omega (arith, l, n))) (lt-ltb x.node.0 p.setup.n (omega (arith, u, n)))) (both _ _ (eq-eqb x.view v i.1) i.2)) (r (suc x.node.0) (omega (arith, n)))

pub kept-enough : (p : Params) (l : List Said) (v : ℕ) → length (changes p l v) ≡ 2 * p.setup.f + 1 →
    are_enough p v (changes p l v) ≡ true
kept-enough p l v h = both _ _ (eq-eqb (length (changes p l v)) (2 * p.setup.f + 1) h) (are-kept p v 0 (change_of p l v) 0 p.setup.n (omega arith) (omega arith) (λ j x e. let r = change-of-is p l v j x e in (r.2.by, r.2.view, r.2.good)))

module _ (p : Params) (good : IsGoodParams pbft p) (w : World Message) (legal : IsLegal pbft p w) where
  -- ---- certificates

  pub certificate-shown : (c : Certificate) → IsCertificate p w c → Certified p w c.view c.slot.0 c.value
  certificate-shown c h =
      let v = good-votes p c h.good in
      let d = digest_of p c.value in
      record {
        makers = nodes_of c.prepares;
        count = v.count;
        apart = v.apart;
        below = v.below;
        first = h.signed (claim (primary p c.view) (state_at p 1 c.view c.slot.0 d) c.sig) (inl refl);
        rest = λ j m. let x = node-vote j c.prepares m in subst (λ (z : ℕ). Granted p w z (state_at p 2 c.view c.slot.0 d)) x.2 (h.signed (claim x.0.by.0 (state_at p 2 c.view c.slot.0 d) x.0.sig) (inr (vote-in p c.view c.slot.0 d x.0 c.prepares x.1)));
      }

  -- ---- 2f+1 ViewChanges

  pub backed : (v : ℕ) (xs : List Change) → are_enough p v xs ≡ true → AreTrue p w (changes_claims p xs) →
      ((c : Certificate) → In c (certificates_of xs) → IsKnown p w c.value) → Backed p w v xs
  backed v xs enough signed known =
      let all = (and-true (length xs == 2 * p.setup.f + 1) (are_changes p v 0 xs) enough).1 in
      record {
        enough = enough;
        signed = signed;
        each = λ x i.
            let a = change-at p v 0 xs x all i in
            let t : Claim = claim x.node.0 (state_change p x.view x.certificates) x.sig in
            let g : Granted p w x.node.0 (state_change p x.view x.certificates) = signed t (change-claim p t x xs i (in_right t (certificates_claims p x.certificates) (t ∷ []) (inl refl))) in
            subst (λ (z : ℕ). Granted p w x.node.0 (state_change p z x.certificates)) a.view g;
        certs = λ c i.
            let r = certificate-from c xs i in
            let x = r.0 in
            let a = change-at p v 0 xs x all r.1 in
            let g = all_good-at p v x.certificates c a.good r.2 in (
              g.0,
              record {
                votes = certificate-shown c (record {
                  good = g.1;
                  signed = λ t k. signed t (change-claim p t x xs r.1 (in_left t (certificates_claims p x.certificates) (claim x.node.0 (state_change p x.view x.certificates) x.sig ∷ []) (certificate-claim p t c x.certificates r.2 k)));
                });
                known = known c i;
              },
            );
      }

  module _ (i : ℕ) where
    -- of a NewView that starts its view
    pub entered-backed : (x : Item Message) (before : List (Item Message)) (from : NodeId) (v : ℕ) (ys : List Change) (sigs : List (List ℕ)) (sig : List ℕ) → Entry p good w legal i x before from v ys sigs sig → Backed p w v ys
    entered-backed x before from v ys sigs sig e =
        let n = entered p (mode p (inputs before)) from.0 v ys sigs e.enters_it in
        let fit = entry-fits p good w legal i x before from v ys sigs sig e in
        let credible = came-credible p good w legal i x from (NewView v ys sigs sig) e.taken e.input in
        backed v ys n.enough
        (λ t k. credible.signed t (in_left t (changes_claims p ys) (chosen_claims p from.0 v ys p.slots sigs ++ claim from.0 (state_new p v) sig ∷ []) k))
        (λ c k.
        let r = certificate-from c ys k in
        let f = fits-certificate-at p.setup.version 0 r.0.certificates c (change-certificates p.setup.version r.0.view r.0.certificates r.0.sig (fits-change-at p.setup.version 0 ys r.0 fit.changes r.1)) r.2 in
        entered-known p good w legal i x before from v ys sigs sig c.value e (in_left (string_of p c.value) (value_strings p (certificates_of ys)) (choice_strings p ys p.slots) (in-values p c (certificates_of ys) k)) (certificate-value p.setup.version c f))

    -- ---- stored ViewChanges

    change-here : (x : Item Message) (before : List (Item Message)) (k : ℕ) (v : ℕ) (y : Change) → In x (w i) →
        x.made ≡ makes p i before x.input x.leaf → IsKeptChange p v k y x.input →
        change_of p (inputs before) v k ≡ None → (c : Certificate) → In c y.certificates → IsKnown p w c.value
    change-here x before k v y taken made is fresh c j =
        let cs = y.certificates in
        let m : Message = ViewChange v cs y.sig in
        let none : change_of p (inputs before) v y.node.0 ≡ None = subst (λ (z : ℕ). change_of p (inputs before) v z ≡ None) (sym is.by) fresh in
        let test : (all_good p v cs && not (is_some (change_of p (inputs before) v y.node.0))) ≡ true = both _ _ is.good (ap (λ (z : Option Change). not (is_some z)) none) in
        let there : In (string_of p c.value) (strings p i (inputs before) (Receive y.node m)) =
        in_left (string_of p c.value) (cond (all_good p v cs && not (is_some (change_of p (inputs before) v y.node.0))) (value_strings p cs) []) _
        (in-if (all_good p v cs && not (is_some (change_of p (inputs before) v y.node.0))) (string_of p c.value) (value_strings p cs) test (in-values p c cs j)) in
        let f : FitsInput p (Receive y.node m) = subst (λ (z : Said). FitsInput p z) is.input (come-fits p good w legal i x.input (legal.came i x taken)) in
        hashed-here p good w legal i x before c.value taken made (subst (λ (z : Said). In (string_of p c.value) (strings p i (inputs before) z)) (sym is.input) there)
        (certificate-value p.setup.version c (fits-certificate-at p.setup.version 0 cs c (change-certificates p.setup.version v cs y.sig f) j))

    change-known : (xs : List (Item Message)) (k v : ℕ) (y : Change) → Part p good w legal i xs → AreMade pbft p i xs →
        change_of p (inputs xs) v k ≡ Some y → (c : Certificate) → In c y.certificates → IsKnown p w c.value
    change-known [] k v y sub made h c j = absurd (cc)
    change-known (x ∷ xs) k v y sub made h c j = elim (first-cases (change_of p (inputs xs) v k) (change_in p x.input v k) y h) [
      | inl a ↦ change-known xs k v y (part-tail p good w legal i x xs sub) made.1 a c j
      | inr a ↦ change-here x xs k v y (sub x (inl refl)) made.0 (change-in-is p x.input v k y a.1) a.0 c j
    ]

    change-true : (xs : List (Item Message)) (v k : ℕ) (y : Change) → Part p good w legal i xs →
        change_of p (inputs xs) v k ≡ Some y → AreTrue p w (change_claims p y.node.0 y.view y.certificates y.sig)
    change-true xs v k y sub h t j =
        let r = change-of-is p (inputs xs) v k y h in
        let n = input-item xs r.0 r.1 in
        let credible = came-credible p good w legal i n.item y.node (ViewChange v y.certificates y.sig) (sub n.item n.taken) (n.is ∙ r.2.input) in
        credible.signed t (subst (λ (z : ℕ). In t (change_claims p y.node.0 z y.certificates y.sig)) r.2.view j)

    -- 2f+1 stored ViewChanges
    pub made-backed : (xs : List (Item Message)) (v : ℕ) → Part p good w legal i xs → AreMade pbft p i xs →
        length (changes p (inputs xs) v) ≡ 2 * p.setup.f + 1 → Backed p w v (changes p (inputs xs) v)
    made-backed xs v sub made h =
        let ys = changes p (inputs xs) v in
        backed v ys (kept-enough p (inputs xs) v h)
        (λ t k. let r = claim-change p t ys k in let g = in-changes (change_of p (inputs xs) v) 0 p.setup.n r.0 r.1 in change-true xs v g.node r.0 sub g.kept t r.2)
        (λ c k. let r = certificate-from c ys k in let g = in-changes (change_of p (inputs xs) v) 0 p.setup.n r.0 r.1 in change-known xs g.node v r.0 sub made g.kept c r.2)

    -- and the values that they choose
    pub completed-known : (x : Item Message) (before : List (Item Message)) (from : NodeId) (v s : ℕ) (cs : List Certificate) (sig : List ℕ) → In x (w i) → x.made ≡ makes p i before x.input x.leaf → SameInput x.input (Receive from (ViewChange v cs sig)) → completes p i (inputs before) x.input v ≡ true → Part p good w legal i (x ∷ before) → has_slot s p.slots ≡ true → IsKnown p w (choice (changes p (x.input ∷ inputs before) v) s)
    completed-known x before from v s cs sig taken made q h sub m =
        let l = inputs before in
        let ys : Said → List Change = λ z. changes p (z ∷ l) v in
        let input : Said = Receive from (ViewChange v cs sig) in
        let y = choice (ys input) s in
        let there : In (string_of p y) (strings p i l input) =
        in_right (string_of p y) (cond (all_good p v cs && not (is_some (change_of p l v from.0))) (value_strings p cs) []) _
        (in-if (completes p i l input v) (string_of p y) (choice_strings p (ys input) p.slots) (subst (λ (z : Said). completes p i l z v ≡ true) q h) (in-choices p (ys input) s p.slots m)) in
        let f = all-fit p good w legal i (x ∷ before) sub in
        let all = changes-fit p.setup.version 0 (change_of p (x.input ∷ l) v) 0 p.setup.n (omega arith) (λ j z k. change-fits p (x.input ∷ l) v j z f k) in
        hashed-here p good w legal i x before (choice (ys x.input) s) taken made
        (subst (λ (z : Said). In (string_of p (choice (ys z) s)) (strings p i l z)) (sym q) there)
        (choice-fits p.setup.version s (ys x.input) all)
