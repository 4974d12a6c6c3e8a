-- What is sent decodes, if all that was received did.
use Rattle.std.proofs.Common.{◌≡◌, ◌<◌, ◌≤◌, ◌+◌, ◌*◌, ◌^◌, ◌&&◌, ◌∷◌, ℕ, zero, suc, Bool, true, false, not, cond, List, [], length, take, Option, Some, None, refl, sym, ap, subst, inl, inr, arith}
use Rattle.std.proofs.lemmas.Bool.{eq-eqb, le-leb, leb-true, lt-ltb, ltb-true}
use Rattle.std.specs.List.{list_all}
use Rattle.std.specs.Prelude.{nat_le, ◌==◌}
use Rattle.iss_base.specs.Lists.{In, same_bytes}
use Rattle.iss_base.proofs.Lists.{and-true, both, in_append, not-true}
use Rattle.iss_request.specs.Formats.{is_signature}
use Rattle.iss_request.specs.Slots.{AreAscending}
use Rattle.iss_request.specs.declared.ids.Slot.{Slot}
use Rattle.iss_request.specs.declared.requests.Value.{Value}
use Rattle.iss_request.specs.declared.requests.Value.TheVariants.{Batch as Value_batch}
use Rattle.iss_sb.specs.Calls.{IsGoodParams}
use Rattle.iss_sb.specs.Evidence.{IsReadMessage, Item}
use Rattle.iss_sb.specs.Laws.{AreHeard, IsHeard}
use Rattle.iss_sb.specs.Legal.{Front}
use Rattle.iss_sb.specs.Statements.{signature}
use Rattle.iss_sb.specs.declared.effects.Input.TheVariants.{Receive}
use Rattle.iss_sb.specs.declared.effects.Params.{Params}
use Rattle.iss_sb.specs.declared.effects.To.{To}
use Rattle.iss_sb.proofs.Signatures.{signature-shape}
use Rattle.iss_sb.proofs.Slots.{below-In, has_slot-In}
use Rattle.pbft_wire.specs.Certificates.{fits_certificate, fits_certificates, fits_change, fits_slot, fits_view}
use Rattle.pbft_wire.specs.Messages.{fits, fits_at, fits_changes}
use Rattle.pbft_wire.specs.Statements.{digest_of, state_at, state_change, state_new, statement}
use Rattle.pbft_wire.specs.declared.messages.Certificate.{Certificate}
use Rattle.pbft_wire.specs.declared.messages.Change.{Change}
use Rattle.pbft_wire.specs.declared.messages.Message.{Message}
use Rattle.pbft_wire.specs.Signed.{NewView, Prepare, ViewChange}
use Rattle.iss_sb.specs.declared.signers.Signed.{Signed}
use Rattle.iss_sb.specs.Signers.{are_signers}
use Rattle.pbft_wire.proofs.MessageGrammar.{fits-again}
use Rattle.pbft_views.specs.Choice.{best, choice}
use Rattle.pbft_views.proofs.Choices.{best-in}
use Rattle.pbft_views.proofs.Statements.{digest-length}
use Rattle.sb_pbft.specs.Makes.{Draft, DraftNewView, certificate, certified, certify, choice_sigs, drafts, has, inputs, kept, makes, ready, sign, tops}
use Rattle.sb_pbft.specs.Pbft.{pbft}
use Rattle.sb_pbft.specs.Rules.{Ballot, change_of, changes, changes_from, cons_some, cons_vote, mode, prepare_of, prepared, prepares, proposal, voters}
use Rattle.sb_pbft.proofs.History.AcceptedAndDecided.{IsPrepared, asked-is, prepared-is}
use Rattle.sb_pbft.proofs.Messages.ReceivedIsWellFormed.{AreFit, FitsInput, asked-fits, fit-in, heard-all, heard-fits, mode-low, new-fits, proposal-fits, proposal-shape}
use Rattle.sb_pbft.proofs.ViewChange.OneNewViewAView.{change-of-is, completes-is}
use Rattle.sb_pbft.proofs.History.OnePrepareAView.{Rule, by_cast, by_changes, by_proposal, by_timeout, by_view, by_votes, rule-of, signed-draft}
use Rattle.sb_pbft.proofs.History.ViewsGrow.{Said, offer-is}
use Rattle.sb_pbft.proofs.History.VotersAreDistinct.{prepare-of-is}

-- ---- votes

voters-fit : (g : ℕ → Option Ballot) (d : List ℕ) (from k m : ℕ) → from ≤ k →
    ((j : ℕ) (b : Ballot) → g j ≡ Some b → is_signature b.sig ≡ true) → are_signers from (voters g d k m) ≡ true
voters-fit g d from k zero low h = refl
voters-fit g d from k (suc m) low h = go (λ n l. voters-fit g d n (suc k) m l h) (g k) refl
  where
    with_it : ((n : ℕ) → n ≤ suc k → are_signers n (voters g d (suc k) m) ≡ true) → (b : Ballot) → is_signature b.sig ≡ true → (t : Bool) → are_signers from (cond t (record { by = record { 0 = k }; sig = b.sig } ∷ voters g d (suc k) m) (voters g d (suc k) m)) ≡ true
    with_it r b e false = r from (omega (arith, low))
    with_it r b e true = both _ _ (both _ _ (le-leb from k low) e) (r (suc k) (omega arith))

    go : ((n : ℕ) → n ≤ suc k → are_signers n (voters g d (suc k) m) ≡ true) → (o : Option Ballot) → g k ≡ o →
        are_signers from (cons_vote d k o (voters g d (suc k) m)) ≡ true
    go r None e = r from (omega (arith, low))
    go r (Some b) e = with_it r b (h k b e) (same_bytes d b.digest)

take-fit : (n from : ℕ) (xs : List Signed) → are_signers from xs ≡ true → are_signers from (take n xs) ≡ true
take-fit zero from xs h = refl
take-fit (suc n) from [] h = h
take-fit (suc n) from (x ∷ xs) h = let t = and-true (nat_le from x.by.0 && is_signature x.sig) (are_signers (suc x.by.0) xs) h in both _ _ t.0 (take-fit n (suc x.by.0) xs t.1)

prepare-shape : (p : Params) (l : List Said) (v s k : ℕ) (b : Ballot) → AreFit p l → prepare_of p l v s k ≡ Some b →
    is_signature b.sig ≡ true
prepare-shape p l v s k b f h =
    let r = prepare-of-is p l v s k b h in
    let g : FitsInput p (Receive r.2.from (Prepare v r.2.slot b.digest b.sig)) = subst (λ (z : Said). FitsInput p z) r.2.input (fit-in p l r.0 f r.1) in
    (and-true (length b.digest == 32) (is_signature b.sig) (and-true (fits_slot r.2.slot.0) _ (and-true (fits_view v) _ g).1).1).1

-- ---- certificates

pub record IsReady (p : Params) (me : ℕ) (l : List Said) (old : List Certificate) (s : ℕ) (x : Value) : Type 0 where
  pub active : (mode p l).active ≡ true
  pub fresh : has (mode p l).view s old ≡ false
  pub prepared : IsPrepared p me l (mode p l).view s x

pub ready-is : (p : Params) (me : ℕ) (l : List Said) (old : List Certificate) (s : ℕ) (x : Value) →
    ready p me l old s ≡ Some x → IsReady p me l old s x
ready-is p me l old s x h = go ((mode p l).active && not (has (mode p l).view s old)) refl h
  where
    go : (b : Bool) → ((mode p l).active && not (has (mode p l).view s old)) ≡ b →
        cond b (prepared p me l (mode p l).view s) None ≡ Some x → IsReady p me l old s x
    go false q r = absurd (cc)
    go true q r =
        let a = and-true (mode p l).active (not (has (mode p l).view s old)) q in
        record { active = a.0; fresh = not-true (has (mode p l).view s old) a.1; prepared = prepared-is p me l (mode p l).view s x r }

-- the proposal that a certificate was stored for
pub record IsMadeHere (p : Params) (me : ℕ) (xs : List (Item Message)) (old : List Certificate) (ss : List Slot) (c : Certificate) : Type 0 where
  pub slot : Slot
  pub value : Value
  pub within : In slot ss
  pub ready : IsReady p me (inputs xs) old slot.0 value
  pub is : c ≡ certificate p me xs (mode p (inputs xs)).view slot value

pub certified-here : (p : Params) (me : ℕ) (xs : List (Item Message)) (old : List Certificate) (ss : List Slot) (c : Certificate) → In c (certified p me xs old ss) → IsMadeHere p me xs old ss c
certified-here p me xs old [] c h = absurd h
certified-here p me xs old (t ∷ ts) c h = go (ready p me (inputs xs) old t.0) refl h (certified-here p me xs old ts c)
  where
    wider : IsMadeHere p me xs old ts c → IsMadeHere p me xs old (t ∷ ts) c
    wider m = record { slot = m.slot; value = m.value; within = inr m.within; ready = m.ready; is = m.is }

    go : (o : Option Value) → ready p me (inputs xs) old t.0 ≡ o →
        In c (certify p me xs t o (certified p me xs old ts)) →
        (In c (certified p me xs old ts) → IsMadeHere p me xs old ts c) → IsMadeHere p me xs old (t ∷ ts) c
    go None q i r = wider (r i)
    go (Some x) q (inl e) r = record { slot = t; value = x; within = inl refl; ready = ready-is p me (inputs xs) old t.0 x q; is = e }
    go (Some x) q (inr i) r = wider (r i)

-- each stored certificate was made at some step
pub record IsKeptFrom (p : Params) (me : ℕ) (xs : List (Item Message)) (c : Certificate) : Type 0 where
  pub now : List (Item Message)
  pub moment : Front now xs
  pub old : List Certificate
  pub made : IsMadeHere p me now old p.slots c

pub kept-from : (p : Params) (me : ℕ) (xs : List (Item Message)) (c : Certificate) → In c (kept p me xs) →
    IsKeptFrom p me xs c
kept-from p me [] c h = absurd h
kept-from p me (x ∷ xs) c h = elim (in_append c (certified p me (x ∷ xs) (kept p me xs) p.slots) (kept p me xs) h) [
  | inl a ↦ record { now = x ∷ xs; moment = inl refl; old = kept p me xs; made = certified-here p me (x ∷ xs) (kept p me xs) p.slots c a }
  | inr a ↦ let r = kept-from p me xs c a in record { now = r.now; moment = inr r.moment; old = r.old; made = r.made }
]

fit-front : (p : Params) (a xs : List (Item Message)) → Front a xs → AreFit p (inputs xs) → AreFit p (inputs a)
fit-front p a [] f h = subst (λ (z : List (Item Message)). AreFit p (inputs z)) (sym f) h
fit-front p a (x ∷ xs) (inl q) h = subst (λ (z : List (Item Message)). AreFit p (inputs z)) (sym q) h
fit-front p a (x ∷ xs) (inr f) h = fit-front p a xs f h.1

pub in-tops : (cs : List Certificate) (ss : List Slot) (c : Certificate) → In c (tops cs ss) → In c cs
in-tops cs [] c h = absurd h
in-tops cs (t ∷ ts) c h = go (best t.0 cs) refl h (in-tops cs ts c)
  where
    go : (o : Option Certificate) → best t.0 cs ≡ o → In c (cons_some o (tops cs ts)) → (In c (tops cs ts) → In c cs) →
        In c cs
    go None q i r = r i
    go (Some e) q (inl k) r = subst (λ (z : Certificate). In z cs) (sym k) (best-in t.0 cs e q).0
    go (Some e) q (inr i) r = r i

tops-length : (cs : List Certificate) (ss : List Slot) → length (tops cs ss) ≤ length ss
tops-length cs [] = omega arith
tops-length cs (t ∷ ts) = go (best t.0 cs) (tops-length cs ts)
  where
    go : (o : Option Certificate) → length (tops cs ts) ≤ length ts →
        length (cons_some o (tops cs ts)) ≤ suc (length ts)
    go None h = omega (arith, h)
    go (Some e) h = omega (arith, h)

-- a lower first number is allowed too
lower-from : (version a b : ℕ) (cs : List Certificate) → a ≤ b → fits_certificates version b cs ≡ true →
    fits_certificates version a cs ≡ true
lower-from version a b [] l h = refl
lower-from version a b (c ∷ cs) l h =
    let t = and-true (nat_le b c.slot.0 && fits_certificate version c) (fits_certificates version (suc c.slot.0) cs) h in
    let u = and-true (nat_le b c.slot.0) (fits_certificate version c) t.0 in
    let k = leb-true b c.slot.0 u.0 in
    both _ _ (both _ _ (le-leb a c.slot.0 (omega (arith, l, k))) u.1) t.1

tops-fit : (version from : ℕ) (cs : List Certificate) (ss : List Slot) → AreAscending from ss →
    ((c : Certificate) → In c cs → fits_certificate version c ≡ true) →
    fits_certificates version from (tops cs ss) ≡ true
tops-fit version from cs [] a h = refl
tops-fit version from cs (t ∷ ts) a h = go (best t.0 cs) refl (tops-fit version (suc t.0) cs ts a.1 h)
  where
    go : (o : Option Certificate) → best t.0 cs ≡ o → fits_certificates version (suc t.0) (tops cs ts) ≡ true →
        fits_certificates version from (cons_some o (tops cs ts)) ≡ true
    go None q r = lower-from version from (suc t.0) (tops cs ts) (let l : from ≤ t.0 = a.0 in omega (arith, l)) r
    go (Some e) q r =
        let i = best-in t.0 cs e q in
        let same : t.0 ≡ e.slot.0 = sym i.1 in
        both _ _ (both _ _ (le-leb from e.slot.0 (subst (λ (z : ℕ). from ≤ z) same a.0)) (h e i.0)) (subst (λ (z : ℕ). fits_certificates version (suc z) (tops cs ts) ≡ true) same r)

-- ---- stored ViewChanges

pub changes-fit : (version from : ℕ) (g : ℕ → Option Change) (k m : ℕ) → from ≤ k →
    ((j : ℕ) (x : Change) → g j ≡ Some x → (x.node.0 ≡ j) × (fits_change version x.view x.certificates x.sig ≡ true)) →
    fits_changes version from (changes_from g k m) ≡ true
changes-fit version from g k zero l h = refl
changes-fit version from g k (suc m) l h = go (λ n o. changes-fit version n g (suc k) m o h) (g k) refl
  where
    go : ((n : ℕ) → n ≤ suc k → fits_changes version n (changes_from g (suc k) m) ≡ true) → (o : Option Change) →
        g k ≡ o → fits_changes version from (cons_some o (changes_from g (suc k) m)) ≡ true
    go r None e = r from (omega (arith, l))
    go r (Some x) e =
        let i = h k x e in
        let n = i.0 in
        both _ _ (both _ _ (le-leb from x.node.0 (omega (arith, l, n))) i.1) (r (suc x.node.0) (omega (arith, n)))

pub change-fits : (p : Params) (l : List Said) (v k : ℕ) (x : Change) → AreFit p l → change_of p l v k ≡ Some x →
    (x.node.0 ≡ k) × (fits_change p.setup.version x.view x.certificates x.sig ≡ true)
change-fits p l v k x f h =
    let r = change-of-is p l v k x h in
    let g : FitsInput p (Receive x.node (ViewChange v x.certificates x.sig)) = subst (λ (z : Said). FitsInput p z) r.2.input (fit-in p l r.0 f r.1) in
    (r.2.by, subst (λ (z : ℕ). fits_change p.setup.version z x.certificates x.sig ≡ true) (sym r.2.view) g)

module _ (p : Params) (good : IsGoodParams pbft p) (me : ℕ) where
  shape : (leaf : ℕ) (statement : List ℕ) → is_signature (signature p me leaf statement) ≡ true
  shape leaf statement = signature-shape pbft p good me leaf statement

  slot-fits : (s : Slot) → In s p.slots → fits_slot s.0 ≡ true
  slot-fits s i = lt-ltb s.0 (2 ^ 64) (below-In (2 ^ 64) s p.slots good.slots_low i)

  few-votes : (n : ℕ) → n ≤ 2 * p.setup.f → nat_le n 255 ≡ true
  few-votes n h = let f : p.setup.f ≤ 3 = good.setup.faults in le-leb n 255 (omega (arith, h, f))

  few-slots : (n : ℕ) → n ≤ length p.slots → nat_le n 255 ≡ true
  few-slots n h = let f : length p.slots ≤ 64 = good.few in le-leb n 255 (omega (arith, h, f))

  certificate-fits : (xs : List (Item Message)) (v : ℕ) (s : Slot) (x : Value) → AreFit p (inputs xs) → v < 65536 →
      In s p.slots → proposal p me (inputs xs) v s.0 ≡ Some x →
      fits_certificate p.setup.version (certificate p me xs v s x) ≡ true
  certificate-fits xs v s x f low i h =
      let votes = prepares p (inputs xs) v s.0 (digest_of p x) in
      both _ _ (slot-fits s i)
      (both _ _ (lt-ltb v 65536 low)
      (both _ _ (proposal-fits p me (inputs xs) v s.0 x f h)
      (both _ _ (proposal-shape p good me xs v s.0 x f h)
      (both _ _ (few-votes (length (take (2 * p.setup.f) votes)) (take-few (2 * p.setup.f) votes))
      (take-fit (2 * p.setup.f) 0 votes (voters-fit (prepare_of p (inputs xs) v s.0) (digest_of p x) 0 0 p.setup.n (omega arith) (λ j b e. prepare-shape p (inputs xs) v s.0 j b f e)))))))
    where
      take-few : (n : ℕ) (ys : List Signed) → length (take n ys) ≤ n
      take-few zero ys = omega arith
      take-few (suc n) [] = omega arith
      take-few (suc n) (y ∷ ys) = let r = take-few n ys in omega (arith, r)

  kept-fits : (xs : List (Item Message)) (c : Certificate) → AreFit p (inputs xs) → In c (kept p me xs) →
      fits_certificate p.setup.version c ≡ true
  kept-fits xs c f h =
      let r = kept-from p me xs c h in
      let g = fit-front p r.now xs r.moment f in
      subst (λ (z : Certificate). fits_certificate p.setup.version z ≡ true) (sym r.made.is)
      (certificate-fits r.now (mode p (inputs r.now)).view r.made.slot r.made.value g (mode-low p (inputs r.now) g) r.made.within r.made.ready.prepared.proposed)

  choice-sigs : (leaf v : ℕ) (xs : List Change) (ss : List Slot) →
      list_all is_signature (choice_sigs p me leaf v xs ss) ≡ true
  choice-sigs leaf v xs [] = refl
  choice-sigs leaf v xs (s ∷ ss) = both _ _ (shape leaf (state_at p 1 v s.0 (digest_of p (choice xs s.0)))) (choice-sigs (suc leaf) v xs ss)

  choice-count : (leaf v : ℕ) (xs : List Change) (ss : List Slot) → length (choice_sigs p me leaf v xs ss) ≡ length ss
  choice-count leaf v xs [] = refl
  choice-count leaf v xs (s ∷ ss) = ap suc (choice-count (suc leaf) v xs ss)

  abbrev Fits : ℕ → Draft → Type 0
  Fits leaf d = fits p.setup.version (sign p me leaf d) ≡ true

  at-fits : (v leaf : ℕ) (s : Slot) (x : Value) (statement : List ℕ) → v < 65536 → In s p.slots →
      fits_at v s.0 (digest_of p x) (signature p me leaf statement) ≡ true
  at-fits v leaf s x statement low i = both _ _ (lt-ltb v 65536 low) (both _ _ (slot-fits s i) (both _ _ (eq-eqb (length (digest_of p x)) 32 (digest-length p x)) (shape leaf statement)))

  module _ (xs : List (Item Message)) (i : Said) (f : AreFit p (inputs xs)) (g : FitsInput p i) (leaf : ℕ) where
    now-low : (mode p (i ∷ inputs xs)).view < 65536
    now-low = mode-low p (i ∷ inputs xs) (g, f)

    new-fit : (v : ℕ) (ys : List Change) → fits_view v ≡ true → fits_changes p.setup.version 0 ys ≡ true →
        length ys ≡ 2 * p.setup.f + 1 → Fits leaf (DraftNewView v ys)
    new-fit v ys low h n =
        let faults : p.setup.f ≤ 3 = good.setup.faults in
        let count = choice-count leaf v ys p.slots in
        both _ _ low
        (both _ _ (both _ _ (le-leb (length ys) 255 (omega (arith, n, faults))) h)
        (both _ _ (both _ _ (few-slots (length (choice_sigs p me leaf v ys p.slots)) (omega (arith, count))) (choice-sigs leaf v ys p.slots)) (shape (leaf + length p.slots) (state_new p v))))

    pub rule-fits : (d : Draft) → Rule p me xs i d → Fits leaf d
    rule-fits d (by_cast a q b e) =
        let o = offer-is p me (mode p (inputs xs)) i a (asked-is p me (inputs xs) i a q).offered in
        let s = has_slot-In a.0 p.slots o.within in
        subst (λ (z : Draft). Fits leaf z) (sym e) (both _ _ (slot-fits a.0 s) (both _ _ (asked-fits p me (inputs xs) i a g q) (shape leaf (state_at p 1 0 a.0.0 (digest_of p (Value_batch a.1))))))
    rule-fits d (by_proposal a q b e) =
        let o = offer-is p me (mode p (inputs xs)) i a (asked-is p me (inputs xs) i a q).offered in
        subst (λ (z : Draft). Fits leaf z) (sym e) (at-fits 0 leaf a.0 (Value_batch a.1) (state_at p 2 0 a.0.0 (digest_of p (Value_batch a.1))) (omega arith) (has_slot-In a.0 p.slots o.within))
    rule-fits d (by_votes s x w q e) =
        let v = (mode p (i ∷ inputs xs)).view in
        subst (λ (z : Draft). Fits leaf z) (sym e) (at-fits v leaf s x (state_at p 3 v s.0 (digest_of p x)) now-low w)
    rule-fits d (by_timeout q b e) =
        let m = mode p (inputs xs) in
        let low = ltb-true m.view 65535 b in
        let cs = tops (kept p me xs) p.slots in
        subst (λ (z : Draft). Fits leaf z) (sym e)
        (both _ _ (lt-ltb (m.view + 1) 65536 (omega (arith, low)))
        (both _ _ (both _ _ (few-slots (length cs) (tops-length (kept p me xs) p.slots)) (tops-fit p.setup.version 0 (kept p me xs) p.slots good.ascending (λ c k. kept-fits xs c f k))) (shape leaf (state_change p (m.view + 1) cs))))
    rule-fits d (by_changes from v cs sig q b e) =
        let h : FitsInput p (Receive from (ViewChange v cs sig)) = subst (λ (z : Said). FitsInput p z) q g in
        let all = changes-fit p.setup.version 0 (change_of p (i ∷ inputs xs) v) 0 p.setup.n (omega arith) (λ j x k. change-fits p (i ∷ inputs xs) v j x (g, f) k) in
        subst (λ (z : Draft). Fits leaf z) (sym e) (new-fit v (changes p (i ∷ inputs xs) v) (and-true (fits_view v) _ h).0 all (completes-is p me (inputs xs) i v b).now)
    rule-fits d (by_view from v ys sigs sig s q b c w e) =
        let h : FitsInput p (Receive from (NewView v ys sigs sig)) = subst (λ (z : Said). FitsInput p z) q g in
        let low = ltb-true v 65536 (new-fits p.setup.version v ys sigs sig h).view in
        subst (λ (z : Draft). Fits leaf z) (sym e) (at-fits v leaf s (choice ys s.0) (state_at p 2 v s.0 (digest_of p (choice ys s.0))) low w)

  pub sent-again : (xs : List (Item Message)) (i : Said) (leaf : ℕ) (to : To) (msg : Message) → AreHeard pbft p me xs →
      IsHeard pbft p i → In {A = To × Message} (to, msg) (makes p me xs i leaf).sends → IsReadMessage pbft p msg
  sent-again xs i leaf to msg heard hears h =
      let d = signed-draft p me leaf (drafts p me xs i) to msg h in
      let f = rule-fits xs i (heard-all p me xs heard) (heard-fits p i hears) d.leaf d.draft (rule-of p me xs i d.draft d.stands) in
      fits-again p.setup.version msg (subst (λ (z : Message). fits p.setup.version z ≡ true) (sym d.is) f)
