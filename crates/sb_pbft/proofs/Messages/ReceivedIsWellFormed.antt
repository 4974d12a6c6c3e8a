-- If all received messages are well-formed, so is each proposal of the replica.
use Rattle.std.proofs.Common.{◌≡◌, ◌<◌, ◌+◌, ◌&&◌, ◌++◌, ◌∷◌, ◌∙◌, ℕ, suc, Bool, true, false, cond, List, [], length, Option, Some, None, refl, sym, subst, inl, inr, arith}
use Rattle.std.proofs.lemmas.Bool.{false≢true, ltb-true}
use Rattle.std.specs.List.{list_all}
use Rattle.std.specs.Prelude.{nat_le, ◌==◌}
use Rattle.iss_base.specs.Lists.{In, first_of}
use Rattle.iss_base.proofs.Lists.{and-true, first-cases}
use Rattle.iss_request.specs.Formats.{is_signature, spell_value}
use Rattle.iss_request.specs.declared.ids.NodeId.{NodeId}
use Rattle.iss_request.specs.declared.ids.Slot.{Slot}
use Rattle.iss_request.specs.declared.requests.Batch.{Batch}
use Rattle.iss_request.specs.declared.requests.Value.{Value}
use Rattle.iss_request.specs.declared.requests.Value.TheVariants.{Batch as Value_batch}
use Rattle.iss_sb.specs.Calls.{IsGoodParams, has_slot}
use Rattle.iss_sb.specs.Evidence.{IsReadBatch, Item}
use Rattle.iss_sb.specs.Laws.{AreHeard, IsHeard}
use Rattle.iss_sb.specs.declared.effects.Input.TheVariants.{Cast, Receive, Timeout}
use Rattle.iss_sb.specs.declared.effects.Params.{Params}
use Rattle.iss_sb.proofs.Signatures.{signature-shape}
use Rattle.pbft_wire.specs.Certificates.{fits_certificate, fits_certificates, fits_change, fits_count, fits_slot, fits_value, fits_view}
use Rattle.pbft_wire.specs.Messages.{fits, fits_changes}
use Rattle.pbft_wire.specs.Statements.{digest_of, state_at}
use Rattle.pbft_wire.specs.declared.messages.Certificate.{Certificate}
use Rattle.pbft_wire.specs.declared.messages.Change.{Change}
use Rattle.pbft_wire.specs.declared.messages.Message.{Message}
use Rattle.pbft_wire.specs.declared.messages.Body.{Body}
use Rattle.pbft_wire.specs.declared.messages.Body.TheVariants.{PrePrepare as Pre_prepare_body, Prepare as Prepare_body, Commit as Commit_body, ViewChange as View_change_body, NewView as New_view_body}
use Rattle.pbft_wire.specs.Signed.{PrePrepare, NewView, signed}
use Rattle.pbft_wire.proofs.Fields.{value-parts}
use Rattle.pbft_wire.proofs.MessageGrammar.{fits-read}
use Rattle.pbft_views.specs.Choice.{best, certificates_of, choice, value_or_nil}
use Rattle.pbft_views.proofs.Choices.{best-in, certificate-from}
use Rattle.sb_pbft.specs.Makes.{chosen_sig, first_sig, inputs, offered_sig, or_empty, proposal_sig, sig_for}
use Rattle.sb_pbft.specs.Pbft.{pbft}
use Rattle.sb_pbft.specs.Rules.{Mode, asked, chosen, enters, mode, mode_after, offer, offered, passes, proposal, when}
use Rattle.sb_pbft.proofs.History.AcceptedAndDecided.{asked-is}
use Rattle.sb_pbft.proofs.History.ViewsGrow.{Offers, Said, chosen-is, entered, offer-is, offered-is}

abbrev pub FitsInput : Params → Said → Type 0
FitsInput p (Cast s b) = fits_value p.setup.version (Value_batch b) ≡ true
FitsInput p (Receive from msg) = fits p.setup.version msg ≡ true
FitsInput p Timeout = Unit {0}

abbrev pub AreFit : Params → List Said → Type 0
AreFit p [] = Unit {0}
AreFit p (i ∷ l) = FitsInput p i × AreFit p l

pub batch-fits : (p : Params) (b : Batch) → IsReadBatch p b → fits_value p.setup.version (Value_batch b) ≡ true
batch-fits p b h = (value-parts p.setup.version (spell_value p.setup.version (Value_batch b) ++ []) [] (Value_batch b) (h [])).fits

pub heard-fits : (p : Params) (i : Said) → IsHeard pbft p i → FitsInput p i
heard-fits p (Cast s b) h = batch-fits p b h
heard-fits p (Receive from msg) h = fits-read p.setup.version msg h.1
heard-fits p Timeout h = tt

pub heard-all : (p : Params) (me : ℕ) (xs : List (Item Message)) → AreHeard pbft p me xs → AreFit p (inputs xs)
heard-all p me [] h = tt
heard-all p me (x ∷ xs) h = (heard-fits p x.input h.0, heard-all p me xs h.2)

pub fit-in : (p : Params) (l : List Said) (i : Said) → AreFit p l → In i l → FitsInput p i
fit-in p [] i h k = absurd k
fit-in p (j ∷ l) i h (inl e) = subst (λ (z : Said). FitsInput p z) (sym e) h.0
fit-in p (j ∷ l) i h (inr k) = fit-in p l i h.1 k

-- ---- the view

low-if : (b : Bool) (u m : Mode) → (b ≡ true → u.view < 65536) → m.view < 65536 → (cond b u m).view < 65536
low-if true u m h k = h refl
low-if false u m h k = k

mode-after-low-heard : (p : Params) (m : Mode) (from : NodeId) (body : Body) (sig : List ℕ) → FitsInput p (Receive from (signed body sig)) → m.view < 65536 → (mode_after p m (Receive from (signed body sig))).view < 65536
mode-after-low-heard p m from (Pre_prepare_body v s x) sig f h = h
mode-after-low-heard p m from (Prepare_body v s d) sig f h = h
mode-after-low-heard p m from (Commit_body v s d) sig f h = h
mode-after-low-heard p m from (View_change_body v cs) sig f h = h
mode-after-low-heard p m from (New_view_body v xs sigs) sig f h =
    low-if (enters p m from.0 v xs sigs) (record { view = v; active = true }) m (λ e. ltb-true v 65536 (and-true (fits_view v) _ f).0) h

mode-after-low : (p : Params) (m : Mode) (i : Said) → FitsInput p i → m.view < 65536 → (mode_after p m i).view < 65536
mode-after-low p m (Cast s b) f h = h
mode-after-low p m (Receive from msg) f h = mode-after-low-heard p m from msg.body msg.sig f h
mode-after-low p m Timeout f h = low-if (passes m) (record { view = m.view + 1; active = false }) m (λ e. let l = ltb-true m.view 65535 e in omega (arith, l)) h

pub mode-low : (p : Params) (l : List Said) → AreFit p l → (mode p l).view < 65536
mode-low p [] h = omega arith
mode-low p (i ∷ l) h = mode-after-low p (mode p l) i h.0 (mode-low p l h.1)

-- ---- the contents of messages

pub fits-certificate-at : (version from : ℕ) (cs : List Certificate) (c : Certificate) →
    fits_certificates version from cs ≡ true → In c cs → fits_certificate version c ≡ true
fits-certificate-at version from [] c h i = absurd i
fits-certificate-at version from (d ∷ ds) c h (inl e) =
    subst (λ (z : Certificate). fits_certificate version z ≡ true) (sym e) (and-true (nat_le from d.slot.0) (fits_certificate version d) (and-true (nat_le from d.slot.0 && fits_certificate version d) (fits_certificates version (suc d.slot.0) ds) h).0).1
fits-certificate-at version from (d ∷ ds) c h (inr i) = fits-certificate-at version (suc d.slot.0) ds c (and-true (nat_le from d.slot.0 && fits_certificate version d) (fits_certificates version (suc d.slot.0) ds) h).1 i

pub fits-change-at : (version from : ℕ) (xs : List Change) (x : Change) → fits_changes version from xs ≡ true →
    In x xs → fits_change version x.view x.certificates x.sig ≡ true
fits-change-at version from [] x h i = absurd i
fits-change-at version from (y ∷ ys) x h (inl e) =
    subst (λ (z : Change). fits_change version z.view z.certificates z.sig ≡ true) (sym e) (and-true (nat_le from y.node.0) (fits_change version y.view y.certificates y.sig) (and-true (nat_le from y.node.0 && fits_change version y.view y.certificates y.sig) (fits_changes version (suc y.node.0) ys) h).0).1
fits-change-at version from (y ∷ ys) x h (inr i) = fits-change-at version (suc y.node.0) ys x (and-true (nat_le from y.node.0 && fits_change version y.view y.certificates y.sig) (fits_changes version (suc y.node.0) ys) h).1 i

pub change-certificates : (version v : ℕ) (cs : List Certificate) (sig : List ℕ) → fits_change version v cs sig ≡ true →
    fits_certificates version 0 cs ≡ true
change-certificates version v cs sig h = (and-true (fits_count (length cs)) (fits_certificates version 0 cs) (and-true (fits_count (length cs) && fits_certificates version 0 cs) (is_signature sig) (and-true (fits_view v) _ h).1).0).1

pub certificate-value : (version : ℕ) (c : Certificate) → fits_certificate version c ≡ true →
    fits_value version c.value ≡ true
certificate-value version c h = (and-true (fits_value version c.value) _ (and-true (fits_view c.view) _ (and-true (fits_slot c.slot.0) _ h).1).1).0

pub record FitsNew (version v : ℕ) (xs : List Change) (sigs : List (List ℕ)) : Type 0 where
  pub view : fits_view v ≡ true
  pub changes : fits_changes version 0 xs ≡ true
  pub signed : list_all is_signature sigs ≡ true

pub new-fits : (version v : ℕ) (xs : List Change) (sigs : List (List ℕ)) (sig : List ℕ) →
    fits version (NewView v xs sigs sig) ≡ true → FitsNew version v xs sigs
new-fits version v xs sigs sig h =
    let a = and-true (fits_view v) _ h in
    let b = and-true (fits_count (length xs) && fits_changes version 0 xs) _ a.1 in
    let c = and-true (fits_count (length xs)) (fits_changes version 0 xs) b.0 in
    let d = and-true (fits_count (length sigs) && list_all is_signature sigs) (is_signature sig) b.1 in
    let e = and-true (fits_count (length sigs)) (list_all is_signature sigs) d.0 in
    record { view = a.0; changes = c.1; signed = e.1 }

pub choice-fits : (version s : ℕ) (xs : List Change) → fits_changes version 0 xs ≡ true →
    fits_value version (choice xs s) ≡ true
choice-fits version s xs h = go (best s (certificates_of xs)) refl
  where
    go : (o : Option Certificate) → best s (certificates_of xs) ≡ o → fits_value version (value_or_nil o) ≡ true
    go None e = refl
    go (Some c) e =
        let i = best-in s (certificates_of xs) c e in
        let r = certificate-from c xs i.0 in
        certificate-value version c (fits-certificate-at version 0 r.0.certificates c (change-certificates version r.0.view r.0.certificates r.0.sig (fits-change-at version 0 xs r.0 h r.1)) r.2)

-- ---- proposals

module _ (p : Params) (me : ℕ) where
  offered-fits : (m : Mode) (i : Said) (a : Slot × Batch) → FitsInput p i → Offers p me m i a →
      fits_value p.setup.version (Value_batch a.1) ≡ true
  offered-fits m i a f o = elim o.cause [
    | inl mine ↦ subst (λ (z : Said). FitsInput p z) mine.input f
    | inr told ↦
        let g : FitsInput p (Receive p.leader (PrePrepare 0 a.0 (Value_batch a.1) told.sig)) = subst (λ (z : Said). FitsInput p z) told.input f in
        (and-true (fits_value p.setup.version (Value_batch a.1)) (is_signature told.sig) (and-true (fits_slot a.0.0) _ (and-true (fits_view 0) _ g).1).1).0
  ]

  pub asked-fits : (l : List Said) (i : Said) (a : Slot × Batch) → FitsInput p i →
      ◌≡◌ {A = Option (Slot × Batch)} (asked p me l i) (Some a) → fits_value p.setup.version (Value_batch a.1) ≡ true
  asked-fits l i a f h = offered-fits (mode p l) i a f (offer-is p me (mode p l) i a (asked-is p me l i a h).offered)

  pub proposal-fits : (l : List Said) (v s : ℕ) (x : Value) → AreFit p l → proposal p me l v s ≡ Some x →
      fits_value p.setup.version x ≡ true
  proposal-fits [] v s x f h = absurd (cc)
  proposal-fits (i ∷ l) v s x f h = elim (first-cases (chosen p (mode p l) i v s) (first_of (proposal p me l v s) (offered (offer p me (mode p l) i) v s)) x h) [
    | inl a ↦
        let c = chosen-is p (mode p l) i v s x a in
        let g : FitsInput p (Receive c.from (NewView v c.changes c.sigs c.sig)) = subst (λ (z : Said). FitsInput p z) c.input f.0 in
        subst (λ (z : Value). fits_value p.setup.version z ≡ true) c.value (choice-fits p.setup.version s c.changes (new-fits p.setup.version v c.changes c.sigs c.sig g).changes)
    | inr a ↦ elim (first-cases (proposal p me l v s) (offered (offer p me (mode p l) i) v s) x a.1) [
      | inl b ↦ proposal-fits l v s x f.1 b
      | inr b ↦
          let o = offered-is (offer p me (mode p l) i) v s x b.1 in
          subst (λ (z : Value). fits_value p.setup.version z ≡ true) o.value (offered-fits (mode p l) i o.offer f.0 (offer-is p me (mode p l) i o.offer o.is))
    ]
  ]

-- ---- the signatures of proposals

-- there is a signature exactly if there is a value
pub data Paired (o : Option Value) (q : Option (List ℕ)) : Type 0 where
  neither_one : o ≡ None → q ≡ None → Paired o q
  both_are : (x : Value) (sig : List ℕ) → o ≡ Some x → q ≡ Some sig → is_signature sig ≡ true → Paired o q

paired-first : (o : Option Value) (q : Option (List ℕ)) (u : Option Value) (w : Option (List ℕ)) → Paired o q →
    Paired u w → Paired (first_of o u) (first_of q w)
paired-first o q u w (neither_one e f) r = rw (e, f) r
paired-first o q u w (both_are x sig e f g) r = both_are x sig (rw e refl) (rw f refl) g

record HasSig (s : ℕ) (ss : List Slot) (sigs : List (List ℕ)) : Type 0 where
  pub sig : List ℕ
  pub is : sig_for s ss sigs ≡ Some sig
  pub shape : is_signature sig ≡ true

sig-for : (s : ℕ) (ss : List Slot) (sigs : List (List ℕ)) → has_slot s ss ≡ true → length sigs ≡ length ss →
    list_all is_signature sigs ≡ true → HasSig s ss sigs
sig-for s [] sigs h n a = absurd (false≢true h)
sig-for s (t ∷ ss) [] h n a = absurd (omega (arith, n))
sig-for s (t ∷ ss) (sig ∷ sigs) h n a = go (t.0 == s) refl (λ k. sig-for s ss sigs k (omega (arith, n)) b.1)
  where
    b : (is_signature sig ≡ true) × (list_all is_signature sigs ≡ true)
    b = and-true (is_signature sig) (list_all is_signature sigs) a

    go : (c : Bool) → (t.0 == s) ≡ c → (has_slot s ss ≡ true → HasSig s ss sigs) → HasSig s (t ∷ ss) (sig ∷ sigs)
    go true q r = record { sig = sig; is = rw q refl; shape = b.0 }
    go false q r = let k : has_slot s ss ≡ true = rw q at h in let z = r k in record { sig = z.sig; is = rw q z.is; shape = z.shape }

module _ (p : Params) (good : IsGoodParams pbft p) (me : ℕ) where
  paired-chosen-heard : (m : Mode) (from : NodeId) (body : Body) (sig : List ℕ) (v s : ℕ) → FitsInput p (Receive from (signed body sig)) → Paired (chosen p m (Receive from (signed body sig)) v s) (chosen_sig p m (Receive from (signed body sig)) v s)
  paired-chosen-heard m from (Pre_prepare_body w t x) sig v s f = neither_one refl refl
  paired-chosen-heard m from (Prepare_body w t d) sig v s f = neither_one refl refl
  paired-chosen-heard m from (Commit_body w t d) sig v s f = neither_one refl refl
  paired-chosen-heard m from (View_change_body w cs) sig v s f = neither_one refl refl
  paired-chosen-heard m from (New_view_body w xs sigs) sig v s f = go ((v == w) && (has_slot s p.slots && enters p m from.0 w xs sigs)) refl
    where
      go : (b : Bool) → ((v == w) && (has_slot s p.slots && enters p m from.0 w xs sigs)) ≡ b →
          Paired (when b (choice xs s)) (cond b (sig_for s p.slots sigs) None)
      go false q = neither_one refl refl
      go true q =
          let a = and-true (has_slot s p.slots) (enters p m from.0 w xs sigs) (and-true (v == w) _ q).1 in
          let e = entered p m from.0 w xs sigs a.1 in
          let z = sig-for s p.slots sigs a.0 e.signed (new-fits p.setup.version w xs sigs sig f).signed in
          both_are (choice xs s) z.sig refl z.is z.shape

  paired-chosen : (m : Mode) (i : Said) (v s : ℕ) → FitsInput p i → Paired (chosen p m i v s) (chosen_sig p m i v s)
  paired-chosen m (Cast t b) v s f = neither_one refl refl
  paired-chosen m (Receive from msg) v s f = paired-chosen-heard m from msg.body msg.sig v s f
  paired-chosen m Timeout v s f = neither_one refl refl

  first-shape : (m : Mode) (i : Said) (leaf : ℕ) (a : Slot × Batch) → FitsInput p i → Offers p me m i a →
      is_signature (first_sig p me leaf a i) ≡ true
  first-shape m i leaf a f o = elim o.cause [
    | inl mine ↦
        subst (λ (z : Said). is_signature (first_sig p me leaf a z) ≡ true) (sym mine.input) (signature-shape pbft p good me leaf (state_at p 1 0 a.0.0 (digest_of p (Value_batch a.1))))
    | inr told ↦
        let g : FitsInput p (Receive p.leader (PrePrepare 0 a.0 (Value_batch a.1) told.sig)) = subst (λ (z : Said). FitsInput p z) told.input f in
        let shape = (and-true (fits_value p.setup.version (Value_batch a.1)) (is_signature told.sig) (and-true (fits_slot a.0.0) _ (and-true (fits_view 0) _ g).1).1).1 in
        subst (λ (z : Said). is_signature (first_sig p me leaf a z) ≡ true) (sym told.input) shape
  ]

  paired-offered : (m : Mode) (x : Item Message) (v s : ℕ) → FitsInput p x.input →
      Paired (offered (offer p me m x.input) v s) (offered_sig p me (offer p me m x.input) v s x)
  paired-offered m x v s f = go (offer p me m x.input) refl
    where
      inner : (a : Slot × Batch) → Offers p me m x.input a → (b : Bool) →
          Paired (when b (Value_batch a.1)) (when b (first_sig p me x.leaf a x.input))
      inner a o false = neither_one refl refl
      inner a o true = both_are (Value_batch a.1) (first_sig p me x.leaf a x.input) refl refl (first-shape m x.input x.leaf a f o)

      go : (o : Option (Slot × Batch)) → ◌≡◌ {A = Option (Slot × Batch)} (offer p me m x.input) o →
          Paired (offered o v s) (offered_sig p me o v s x)
      go None q = neither_one refl refl
      go (Some a) q = inner a (offer-is p me m x.input a q) ((v == 0) && (s == a.0.0))

  pub paired : (xs : List (Item Message)) (v s : ℕ) → AreFit p (inputs xs) →
      Paired (proposal p me (inputs xs) v s) (proposal_sig p me xs v s)
  paired [] v s f = neither_one refl refl
  paired (x ∷ xs) v s f =
      let m = mode p (inputs xs) in
      paired-first (chosen p m x.input v s) (chosen_sig p m x.input v s) (first_of (proposal p me (inputs xs) v s) (offered (offer p me m x.input) v s)) (first_of (proposal_sig p me xs v s) (offered_sig p me (offer p me m x.input) v s x))
      (paired-chosen m x.input v s f.0)
      (paired-first (proposal p me (inputs xs) v s) (proposal_sig p me xs v s) (offered (offer p me m x.input) v s) (offered_sig p me (offer p me m x.input) v s x) (paired xs v s f.1) (paired-offered m x v s f.0))

  -- a proposal has the signature of its PrePrepare
  pub proposal-shape : (xs : List (Item Message)) (v s : ℕ) (x : Value) → AreFit p (inputs xs) →
      proposal p me (inputs xs) v s ≡ Some x → is_signature (or_empty (proposal_sig p me xs v s)) ≡ true
  proposal-shape xs v s x f h = go (paired xs v s f)
    where
      go : Paired (proposal p me (inputs xs) v s) (proposal_sig p me xs v s) →
          is_signature (or_empty (proposal_sig p me xs v s)) ≡ true
      go (neither_one e q) = let n : ◌≡◌ {A = Option Value} None (Some x) = sym e ∙ h in absurd (cc)
      go (both_are y sig e q g) = subst (λ (z : Option (List ℕ)). is_signature (or_empty z) ≡ true) (sym q) g
