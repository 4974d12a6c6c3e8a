-- Each leaf signs one statement in a step. Any other claim of the replica in a message that it sends was received
-- before or sent before.
use Rattle.std.proofs.Common.{◌≡◌, ◌⊎◌, ◌<◌, ◌+◌, ◌*◌, ◌&&◌, ◌++◌, ◌∷◌, ◌∙◌, ℕ, suc, Bool, true, false, cond, List, [], length, length-append, take, Option, Some, None, refl, sym, ap, subst, inl, inr, arith}
use Rattle.std.proofs.lemmas.Bool.{eq-eqb, false≢true}
use Rattle.std.specs.Prelude.{is_some, ◌==◌}
use Rattle.iss_base.specs.Lists.{In, first_of}
use Rattle.iss_base.proofs.Lists.{first-cases, in_append, in_left, in_right, is-eq, some-injective}
use Rattle.iss_request.specs.declared.ids.NodeId.{NodeId}
use Rattle.iss_request.specs.declared.ids.Slot.{Slot}
use Rattle.iss_request.specs.declared.requests.Batch.{Batch}
use Rattle.iss_request.specs.declared.requests.Value.{Value}
use Rattle.iss_request.specs.declared.requests.Value.TheVariants.{Batch as Value_batch}
use Rattle.iss_sb.specs.Calls.{IsGoodParams, has_slot}
use Rattle.iss_sb.specs.Evidence.{Item, Made}
use Rattle.iss_sb.specs.Laws.{ComesWith, GoesWith, IsSignedBy, SignsOnce, WasSeen}
use Rattle.iss_sb.specs.Legal.{AreMade, Front}
use Rattle.iss_sb.specs.Statements.{claim, signature}
use Rattle.iss_sb.specs.declared.effects.Claim.{Claim}
use Rattle.iss_sb.specs.declared.effects.Input.TheVariants.{Cast, Receive}
use Rattle.iss_sb.specs.declared.effects.Params.{Params}
use Rattle.iss_sb.specs.declared.effects.To.{To}
use Rattle.iss_sb.specs.declared.effects.To.TheVariants.{All as To_all}
use Rattle.iss_sb.proofs.Leaves.{by-first, by-later, by-more, by-next}
use Rattle.iss_sb.proofs.Legal.{front-in, made-front}
use Rattle.pbft_wire.specs.Statements.{digest_of, state_at, state_change, state_new}
use Rattle.pbft_wire.specs.declared.messages.Certificate.{Certificate}
use Rattle.pbft_wire.specs.declared.messages.Change.{Change}
use Rattle.pbft_wire.specs.declared.messages.Message.{Message}
use Rattle.pbft_wire.specs.Signed.{NewView, PrePrepare, Prepare, ViewChange}
use Rattle.iss_sb.specs.declared.signers.Signed.{Signed}
use Rattle.pbft_views.specs.Choice.{choice}
use Rattle.pbft_views.specs.Claims.{certificate_claims, certificates_claims, change_claims, changes_claims, chosen_claims, claims}
use Rattle.pbft_views.specs.Good.{primary}
use Rattle.pbft_views.proofs.Claimed.{claim-certificate, claim-change, vote-claim}
use Rattle.sb_pbft.specs.Makes.{Draft, DraftCommit, DraftNewView, DraftPrePrepare, DraftPrepare, DraftViewChange, certificate, choice_sigs, chosen_sig, drafts, first_sig, inputs, kept, makes, offered_sig, or_empty, proposal_sig, sig_for, sign, sign_all, tops, uses, uses_all}
use Rattle.sb_pbft.specs.Pbft.{pbft}
use Rattle.sb_pbft.specs.Rules.{Mode, asked, change_of, changes, chosen, enters, mode, offer, offered, prepare_of, prepares, proposal, when}
use Rattle.sb_pbft.proofs.Basics.{when-is}
use Rattle.sb_pbft.proofs.ViewChange.CommitsAreShown.{change-rule}
use Rattle.sb_pbft.proofs.ViewChange.OneNewViewAView.{change-of-is, in-changes, starts-with}
use Rattle.sb_pbft.proofs.Messages.OwnClaimsWereSent.{cast-sends, input-item, offer-asked, primary-zero}
use Rattle.sb_pbft.proofs.Messages.SentDecodes.{in-tops, kept-from}
use Rattle.sb_pbft.proofs.History.OnePrepareAView.{Rule, rule-of}
use Rattle.sb_pbft.proofs.Model.ProposalsAreSigned.{chosen-signed, proposal-signed}
use Rattle.sb_pbft.proofs.History.ViewsGrow.{Offers, Said, SameInput, chosen-is, entered, offer-is, offered-is}
use Rattle.sb_pbft.proofs.History.VotersAreDistinct.{in-take, in-voters, prepare-of-is}

-- ---- options

first-some : {A : Type 0} (o more : Option A) (x : A) → is_some o ≡ true → first_of o more ≡ Some x → o ≡ Some x
first-some None more x some h = absurd (false≢true some)
first-some (Some y) more x some h = h

none-too : {A B : Type 0} (o : Option A) (r : Option B) → is_some o ≡ is_some r → o ≡ None → r ≡ None
none-too None None same h = refl
none-too None (Some y) same h = absurd (false≢true same)
none-too (Some x) r same h = absurd (cc)

some-too : {A B : Type 0} (o : Option A) (r : Option B) (x : A) → is_some o ≡ is_some r → o ≡ Some x → is_some r ≡ true
some-too o r x same h = sym same ∙ ap is_some h

behind-none : {A : Type 0} (o more : Option A) (x : A) → o ≡ None → first_of o more ≡ Some x → more ≡ Some x
behind-none {A = A} o more x none h = subst (λ (z : Option A). first_of z more ≡ Some x) none h

module _ (p : Params) (me : ℕ) where
  -- ---- claims seen before

  abbrev Seen : List (Item Message) → Claim → Type 0
  Seen xs c = WasSeen pbft p me xs c

  seen-more : (x : Item Message) (xs : List (Item Message)) (c : Claim) → Seen xs c → Seen (x ∷ xs) c
  seen-more x xs c h = record { item = h.item; taken = inr h.taken; holds = h.holds }

  seen-front : (a xs : List (Item Message)) (c : Claim) → Front a xs → Seen a c → Seen xs c
  seen-front a xs c f h = record { item = h.item; taken = front-in h.item a xs f h.taken; holds = h.holds }

  came-with : (x : Item Message) (xs : List (Item Message)) (from : NodeId) (msg : Message) (c : Claim) → In x xs →
      x.input ≡ Receive from msg → In c (claims p from.0 msg) → Seen xs c
  came-with x xs from msg c k e h = record { item = x; taken = k; holds = inl (subst (λ (z : Said). ComesWith pbft p c z) (sym e) h) }

  came-among : (xs : List (Item Message)) (from : NodeId) (msg : Message) (c : Claim) →
      In (Receive from msg) (inputs xs) → In c (claims p from.0 msg) → Seen xs c
  came-among xs from msg c k h = let r = input-item xs (Receive from msg) k in came-with r.item xs from msg c r.taken r.is h

  -- ---- the signature of a proposal's PrePrepare

  -- in a NewView: the k-th signature is that of the k-th slot
  chosen-refines : (by v : ℕ) (ys : List Change) (ss : List Slot) (sigs : List (List ℕ)) (s : ℕ) (sig : List ℕ) →
      sig_for s ss sigs ≡ Some sig →
      In (claim by (state_at p 1 v s (digest_of p (choice ys s))) sig) (chosen_claims p by v ys ss sigs)
  chosen-refines by v ys [] sigs s sig h = absurd (cc)
  chosen-refines by v ys (r ∷ rs) [] s sig h = absurd (cc)
  chosen-refines by v ys (r ∷ rs) (g ∷ gs) s sig h = go (r.0 == s) refl h (λ k. chosen-refines by v ys rs gs s sig k)
    where
      wanted : ℕ → List ℕ → Claim
      wanted t z = claim by (state_at p 1 v t (digest_of p (choice ys t))) z

      go : (b : Bool) → (r.0 == s) ≡ b → cond b (Some g) (sig_for s rs gs) ≡ Some sig →
          (sig_for s rs gs ≡ Some sig → In (wanted s sig) (chosen_claims p by v ys rs gs)) →
          In (wanted s sig) (chosen_claims p by v ys (r ∷ rs) (g ∷ gs))
      go true q k rest = inl (ap (λ (z : List ℕ). wanted s z) (sym (some-injective g sig k)) ∙ ap (λ (t : ℕ). wanted t g) (sym (is-eq r.0 s q)))
      go false q k rest = inr (rest k)

  chosen-sig-is : (m : Mode) (i : Said) (from : NodeId) (v s : ℕ) (ys : List Change) (sigs : List (List ℕ)) (sig : List ℕ) → SameInput i (Receive from (NewView v ys sigs sig)) → has_slot s p.slots ≡ true →
      enters p m from.0 v ys sigs ≡ true → chosen_sig p m i v s ≡ sig_for s p.slots sigs
  chosen-sig-is m i from v s ys sigs sig is within enters_it =
      ap (λ (z : Said). chosen_sig p m z v s) is
      ∙ ap (λ (b : Bool). cond (b && (has_slot s p.slots && enters p m from.0 v ys sigs)) (sig_for s p.slots sigs) None) (eq-eqb v v refl)
      ∙ ap (λ (b : Bool). cond (b && enters p m from.0 v ys sigs) (sig_for s p.slots sigs) None) within
      ∙ ap (λ (b : Bool). cond b (sig_for s p.slots sigs) None) enters_it

  -- of an own cast, or in the message of the leader
  module _ (in_range : p.leader.0 < p.setup.n) where
    abbrev first_state : Slot × Batch → List ℕ
    first_state a = state_at p 1 0 a.0.0 (digest_of p (Value_batch a.1))

    cast-seen : (y : Item Message) (ys : List (Item Message)) (a : Slot × Batch) (sig : List ℕ) →
        y.made ≡ makes p me ys y.input y.leaf →
        ◌≡◌ {A = Option (Slot × Batch)} (asked p me (inputs ys) y.input) (Some a) → me ≡ p.leader.0 → SameInput y.input (Cast a.0 a.1) → first_sig p me y.leaf a y.input ≡ sig →
        Seen (y ∷ ys) (claim (primary p 0) (first_state a) sig)
    cast-seen y ys a sig made asks leads is h =
        let d = DraftPrePrepare a.0 (Value_batch a.1) in
        let own_sig = signature p me y.leaf (first_state a) in
        let ask : ◌≡◌ {A = Option (Slot × Batch)} (asked p me (inputs ys) (Cast a.0 a.1)) (Some a) = subst (λ (z : Said). ◌≡◌ {A = Option (Slot × Batch)} (asked p me (inputs ys) z) (Some a)) is asks in
        let here = cast-sends p me ys a.0 a.1 y.leaf leads ask in
        let made_so : y.made ≡ makes p me ys (Cast a.0 a.1) y.leaf = made ∙ ap (λ (z : Said). makes p me ys z y.leaf) is in
        let sends = subst (λ (z : Made Message). In {A = To × Message} (To_all, sign p me y.leaf d) z.sends) (sym made_so) here in
        let goes : GoesWith pbft p me (claim me (first_state a) own_sig) y.made.sends = record { to = To_all; msg = sign p me y.leaf d; sent = sends; holds = inl refl } in
        let seen : Seen (y ∷ ys) (claim me (first_state a) own_sig) = record { item = y; taken = inl refl; holds = inr goes } in
        let sig_is : own_sig ≡ sig = sym (ap (λ (z : Said). first_sig p me y.leaf a z) is) ∙ h in
        let by_is : me ≡ primary p 0 = leads ∙ sym (primary-zero p me in_range) in
        subst (λ (k : ℕ). Seen (y ∷ ys) (claim k (first_state a) sig)) by_is (subst (λ (z : List ℕ). Seen (y ∷ ys) (claim me (first_state a) z)) sig_is seen)

    told-seen : (y : Item Message) (ys : List (Item Message)) (a : Slot × Batch) (told sig : List ℕ) →
        SameInput y.input (Receive p.leader (PrePrepare 0 a.0 (Value_batch a.1) told)) →
        first_sig p me y.leaf a y.input ≡ sig → Seen (y ∷ ys) (claim (primary p 0) (first_state a) sig)
    told-seen y ys a told sig is h =
        let seen = came-with y (y ∷ ys) p.leader (PrePrepare 0 a.0 (Value_batch a.1) told) (claim p.leader.0 (first_state a) told) (inl refl) is (inl refl) in
        let sig_is : told ≡ sig = sym (ap (λ (z : Said). first_sig p me y.leaf a z) is) ∙ h in
        subst (λ (k : ℕ). Seen (y ∷ ys) (claim k (first_state a) sig)) (sym (primary-zero p me in_range))
        (subst (λ (z : List ℕ). Seen (y ∷ ys) (claim p.leader.0 (first_state a) z)) sig_is seen)

    offer-seen : (y : Item Message) (ys : List (Item Message)) (a : Slot × Batch) (sig : List ℕ) →
        y.made ≡ makes p me ys y.input y.leaf →
        ◌≡◌ {A = Option (Slot × Batch)} (asked p me (inputs ys) y.input) (Some a) → Offers p me (mode p (inputs ys)) y.input a → first_sig p me y.leaf a y.input ≡ sig →
        Seen (y ∷ ys) (claim (primary p 0) (first_state a) sig)
    offer-seen y ys a sig made asks o h = elim o.cause [
      | inl mine ↦ cast-seen y ys a sig made asks mine.leads mine.input h
      | inr told ↦ told-seen y ys a told.sig sig told.input h
    ]

    offered-sig-is : (o : Option (Slot × Batch)) (a : Slot × Batch) (v s : ℕ) (y : Item Message) (sig : List ℕ) →
        o ≡ Some a → offered_sig p me o v s y ≡ Some sig → first_sig p me y.leaf a y.input ≡ sig
    offered-sig-is o a v s y sig is h =
        let k : when ((v == 0) && (s == a.0.0)) (first_sig p me y.leaf a y.input) ≡ Some sig = subst (λ (z : Option (Slot × Batch)). offered_sig p me z v s y ≡ Some sig) is h in
        (when-is ((v == 0) && (s == a.0.0)) (first_sig p me y.leaf a y.input) sig k).is

    -- the claim of a proposal's PrePrepare was seen
    proposal-seen : (xs : List (Item Message)) (v s : ℕ) (x : Value) (sig : List ℕ) → AreMade pbft p me xs →
        proposal p me (inputs xs) v s ≡ Some x → proposal_sig p me xs v s ≡ Some sig →
        Seen xs (claim (primary p v) (state_at p 1 v s (digest_of p x)) sig)
    proposal-seen [] v s x sig made h g = absurd (cc)
    proposal-seen (y ∷ ys) v s x sig made h g =
        elim (first-cases (chosen p m y.input v s) (first_of (proposal p me (inputs ys) v s) (offered o v s)) x h) [
          | inl a ↦ from-view a
          | inr a ↦ elim (first-cases (proposal p me (inputs ys) v s) (offered o v s) x a.1) [
            | inl b ↦ seen-more y ys _ (proposal-seen ys v s x sig made.1 b (first-some (proposal_sig p me ys v s) _ sig (some-too _ _ x (proposal-signed p me ys v s) b) (later a.0)))
            | inr b ↦ from-offer b (behind-none (proposal_sig p me ys v s) _ sig (none-too _ _ (proposal-signed p me ys v s) b.0) (later a.0))
          ]
        ]
      where
        m : Mode
        m = mode p (inputs ys)

        o : Option (Slot × Batch)
        o = offer p me m y.input

        later : chosen p m y.input v s ≡ None →
            first_of (proposal_sig p me ys v s) (offered_sig p me o v s y) ≡ Some sig
        later none = behind-none (chosen_sig p m y.input v s) _ sig (none-too _ _ (chosen-signed p me m y.input v s) none) g

        from-view : chosen p m y.input v s ≡ Some x →
            Seen (y ∷ ys) (claim (primary p v) (state_at p 1 v s (digest_of p x)) sig)
        from-view a =
            let c = chosen-is p m y.input v s x a in
            let e = entered p m c.from.0 v c.changes c.sigs c.enters in
            let first = first-some (chosen_sig p m y.input v s) _ sig (some-too _ _ x (chosen-signed p me m y.input v s) a) g in
            let stands = chosen-refines c.from.0 v c.changes p.slots c.sigs s sig (sym (chosen-sig-is m y.input c.from v s c.changes c.sigs c.sig c.input c.within c.enters) ∙ first) in
            let there = in_right _ (changes_claims p c.changes) _ (in_left _ (chosen_claims p c.from.0 v c.changes p.slots c.sigs) _ stands) in
            let seen = came-with y (y ∷ ys) c.from (NewView v c.changes c.sigs c.sig) (claim c.from.0 (state_at p 1 v s (digest_of p (choice c.changes s))) sig) (inl refl) c.input there in
            subst (λ (z : Value). Seen (y ∷ ys) (claim (primary p v) (state_at p 1 v s (digest_of p z)) sig)) c.value
            (subst (λ (k : ℕ). Seen (y ∷ ys) (claim k (state_at p 1 v s (digest_of p (choice c.changes s))) sig)) e.by seen)

        from-offer : (proposal p me (inputs ys) v s ≡ None) × (offered o v s ≡ Some x) →
            offered_sig p me o v s y ≡ Some sig →
            Seen (y ∷ ys) (claim (primary p v) (state_at p 1 v s (digest_of p x)) sig)
        from-offer b k =
            let r = offered-is o v s x b.1 in
            let fresh : proposal p me (inputs ys) 0 r.offer.0.0 ≡ None =
            subst (λ (z : ℕ). proposal p me (inputs ys) 0 z ≡ None) r.at_slot (subst (λ (z : ℕ). proposal p me (inputs ys) z s ≡ None) r.start b.0) in
            let asks = offer-asked p me (inputs ys) y.input r.offer r.is fresh in
            let seen = offer-seen y ys r.offer sig made.0 asks (offer-is p me m y.input r.offer r.is) (offered-sig-is o r.offer v s y sig r.is k) in
            let at_slot = subst (λ (z : ℕ). Seen (y ∷ ys) (claim (primary p 0) (state_at p 1 0 z (digest_of p (Value_batch r.offer.1))) sig)) (sym r.at_slot) seen in
            let at_view = subst (λ (z : ℕ). Seen (y ∷ ys) (claim (primary p z) (state_at p 1 z s (digest_of p (Value_batch r.offer.1))) sig)) (sym r.start) at_slot in
            subst (λ (z : Value). Seen (y ∷ ys) (claim (primary p v) (state_at p 1 v s (digest_of p z)) sig)) r.value at_view

    the-sig : (o : Option (List ℕ)) → is_some o ≡ true → o ≡ Some (or_empty o)
    the-sig None h = absurd (false≢true h)
    the-sig (Some sig) h = refl

    prepare-seen : (xs : List (Item Message)) (v s : ℕ) (d : List ℕ) (x : Signed) →
        In x (prepares p (inputs xs) v s d) → Seen xs (claim x.by.0 (state_at p 2 v s d) x.sig)
    prepare-seen xs v s d x i =
        let k = in-voters (prepare_of p (inputs xs) v s) d 0 p.setup.n x i in
        let r = prepare-of-is p (inputs xs) v s x.by.0 k.ballot k.kept in
        let b = r.2 in
        let msg : Message = Prepare v b.slot k.ballot.digest k.ballot.sig in
        let seen : Seen xs (claim b.from.0 (state_at p 2 v b.slot.0 k.ballot.digest) k.ballot.sig) =
        came-among xs b.from msg _ (subst (λ (z : Said). In z (inputs xs)) b.input r.1) (inl refl) in
        subst (λ (z : List ℕ). Seen xs (claim x.by.0 (state_at p 2 v s d) z)) k.sig
        (subst (λ (z : List ℕ). Seen xs (claim x.by.0 (state_at p 2 v s z) k.ballot.sig)) k.digest
        (subst (λ (z : ℕ). Seen xs (claim x.by.0 (state_at p 2 v z k.ballot.digest) k.ballot.sig)) b.at_slot
        (subst (λ (z : ℕ). Seen xs (claim z (state_at p 2 v b.slot.0 k.ballot.digest) k.ballot.sig)) b.by seen)))

    certificate-seen : (xs : List (Item Message)) (c : Certificate) (t : Claim) → AreMade pbft p me xs →
        In c (kept p me xs) → In t (certificate_claims p c) → Seen xs t
    certificate-seen xs c t made k i =
        let r = kept-from p me xs c k in
        let v = (mode p (inputs r.now)).view in
        let s = r.made.slot in
        let x = r.made.value in
        let d = digest_of p x in
        let proposed = r.made.ready.prepared.proposed in
        let there : In t (certificate_claims p (certificate p me r.now v s x)) = subst (λ (z : Certificate). In t (certificate_claims p z)) r.made.is i in
        seen-front r.now xs t r.moment (elim there [
          | inl q ↦
              subst (λ (z : Claim). Seen r.now z) (sym q)
              (proposal-seen r.now v s.0 x _ (made-front pbft p me r.now xs r.moment made) proposed
              (the-sig (proposal_sig p me r.now v s.0) (some-too _ _ x (proposal-signed p me r.now v s.0) proposed)))
          | inr q ↦
              let u = vote-claim p v s.0 d (take (2 * p.setup.f) (prepares p (inputs r.now) v s.0 d)) t q in
              subst (λ (z : Claim). Seen r.now z) (sym u.is) (prepare-seen r.now v s.0 d u.vote (in-take (2 * p.setup.f) u.vote (prepares p (inputs r.now) v s.0 d) u.stands))
        ])

  -- ---- what the leaves of a step sign

  abbrev choices : ℕ → List Change → List Slot → List (List ℕ)
  choices v ys [] = []
  choices v ys (s ∷ ss) = state_at p 1 v s.0 (digest_of p (choice ys s.0)) ∷ choices v ys ss

  abbrev stated : Draft → List (List ℕ)
  stated (DraftPrePrepare slot x) = state_at p 1 0 slot.0 (digest_of p x) ∷ []
  stated (DraftPrepare v slot d) = state_at p 2 v slot.0 d ∷ []
  stated (DraftCommit v slot d) = state_at p 3 v slot.0 d ∷ []
  stated (DraftViewChange v cs) = state_change p v cs ∷ []
  stated (DraftNewView v ys) = choices v ys p.slots ++ state_new p v ∷ []

  abbrev stated_all : List Draft → List (List ℕ)
  stated_all [] = []
  stated_all (d ∷ ds) = stated d ++ stated_all ds

  choices-length : (v : ℕ) (ys : List Change) (ss : List Slot) → length (choices v ys ss) ≡ length ss
  choices-length v ys [] = refl
  choices-length v ys (s ∷ ss) = ap suc (choices-length v ys ss)

  stated-length : (d : Draft) → length (stated d) ≡ uses p d
  stated-length (DraftPrePrepare slot x) = refl
  stated-length (DraftPrepare v slot d) = refl
  stated-length (DraftCommit v slot d) = refl
  stated-length (DraftViewChange v cs) = refl
  stated-length (DraftNewView v ys) = let a = length-append (choices v ys p.slots) (state_new p v ∷ []) in let b = choices-length v ys p.slots in omega (arith, a, b)

  all-length : (ds : List Draft) → length (stated_all ds) ≡ uses_all p ds
  all-length [] = refl
  all-length (d ∷ ds) = let a = length-append (stated d) (stated_all ds) in let b = stated-length d in let c = all-length ds in omega (arith, a, b, c)

  mine : (leaf : ℕ) (st : List ℕ) (rest : List (List ℕ)) (c : Claim) → c ≡ claim me st (signature p me leaf st) →
      IsSignedBy p me leaf (st ∷ rest) c
  mine leaf st rest c e = by-first p me leaf st rest c (sym (ap (λ (z : Claim). z.statement) e)) (ap (λ (z : Claim). z.sig) e)

  only-one : (leaf : ℕ) (st : List ℕ) (c : Claim) → In c (claim me st (signature p me leaf st) ∷ []) →
      IsSignedBy p me leaf (st ∷ []) c
  only-one leaf st c (inl e) = mine leaf st [] c e
  only-one leaf st c (inr h) = absurd h

  -- the PrePrepares of a NewView
  choices-by : (leaf v : ℕ) (ys : List Change) (ss : List Slot) (c : Claim) →
      In c (chosen_claims p me v ys ss (choice_sigs p me leaf v ys ss)) → IsSignedBy p me leaf (choices v ys ss) c
  choices-by leaf v ys [] c h = absurd h
  choices-by leaf v ys (s ∷ ss) c (inl e) = mine leaf (state_at p 1 v s.0 (digest_of p (choice ys s.0))) (choices v ys ss) c e
  choices-by leaf v ys (s ∷ ss) c (inr h) =
      by-next p me leaf (state_at p 1 v s.0 (digest_of p (choice ys s.0))) (choices v ys ss) c (choices-by (suc leaf) v ys ss c h)

module _ (p : Params) (good : IsGoodParams pbft p) (me : ℕ) (xs : List (Item Message)) (i : Said) (made : AreMade pbft p me xs) where
  -- the origin of each claim in a step
  abbrev IsFrom : ℕ → List (List ℕ) → Claim → Type 0
  IsFrom leaf statements c = IsSignedBy p me leaf statements c ⊎ (ComesWith pbft p c i ⊎ Seen p me xs c)

  came-here : (j : Said) (from : NodeId) (msg : Message) (c : Claim) → In j (i ∷ inputs xs) →
      SameInput j (Receive from msg) → In c (claims p from.0 msg) → ComesWith pbft p c i ⊎ Seen p me xs c
  came-here j from msg c (inl e) q h = inl (subst (λ (z : Said). ComesWith pbft p c z) (sym (sym e ∙ q)) h)
  came-here j from msg c (inr k) q h = let r = input-item xs j k in inr (came-with p me r.item xs from msg c r.taken (r.is ∙ q) h)

  change-from : (leaf v : ℕ) (cs : List Certificate) (c : Claim) → cs ≡ tops (kept p me xs) p.slots →
      In c (change_claims p me v cs (signature p me leaf (state_change p v cs))) →
      IsFrom leaf (state_change p v cs ∷ []) c
  change-from leaf v cs c same h = elim (in_append c (certificates_claims p cs) (claim me (state_change p v cs) (signature p me leaf (state_change p v cs)) ∷ []) h) [
    | inl a ↦
        let r = claim-certificate p c cs a in
        let k = in-tops (kept p me xs) p.slots r.0 (subst (λ (z : List Certificate). In r.0 z) same r.1) in
        inr (inr (certificate-seen p me good.leader xs r.0 c made k r.2))
    | inr a ↦ inl (only-one p me leaf (state_change p v cs) c a)
  ]

  new-from : (leaf v : ℕ) (ys : List Change) (c : Claim) → ys ≡ changes p (i ∷ inputs xs) v →
      In c (claims p me (sign p me leaf (DraftNewView v ys))) → IsFrom leaf (stated p me (DraftNewView v ys)) c
  new-from leaf v ys c same h =
      let sigs = choice_sigs p me leaf v ys p.slots in
      let last = signature p me (leaf + length p.slots) (state_new p v) in
      elim (in_append c (changes_claims p ys) (chosen_claims p me v ys p.slots sigs ++ claim me (state_new p v) last ∷ []) h) [
        | inl a ↦
            let r = claim-change p c ys a in
            let x = r.0 in
            let g = in-changes (change_of p (i ∷ inputs xs) v) 0 p.setup.n x (subst (λ (z : List Change). In x z) same r.1) in
            let k = change-of-is p (i ∷ inputs xs) v g.node x g.kept in
            let stands : In c (claims p x.node.0 (ViewChange v x.certificates x.sig)) = subst (λ (z : ℕ). In c (change_claims p x.node.0 z x.certificates x.sig)) k.2.view r.2 in
            inr (came-here k.0 x.node (ViewChange v x.certificates x.sig) c k.1 k.2.input stands)
        | inr a ↦ elim (in_append c (chosen_claims p me v ys p.slots sigs) (claim me (state_new p v) last ∷ []) a) [
          | inl b ↦ inl (by-more p me leaf (choices p me v ys p.slots) (state_new p v ∷ []) c (choices-by p me leaf v ys p.slots c b))
          | inr b ↦
              let at : leaf + length p.slots ≡ leaf + length (choices p me v ys p.slots) = ap (λ (k : ℕ). leaf + k) (sym (choices-length p me v ys p.slots)) in
              let there = only-one p me (leaf + length (choices p me v ys p.slots)) (state_new p v) c (subst (λ (q : ℕ). In c (claim me (state_new p v) (signature p me q (state_new p v)) ∷ [])) at b) in
              inl (by-later p me leaf (choices p me v ys p.slots) (state_new p v ∷ []) c there)
        ]
      ]

  draft-from : (leaf : ℕ) (d : Draft) (c : Claim) → Rule p me xs i d → In c (claims p me (sign p me leaf d)) →
      IsFrom leaf (stated p me d) c
  draft-from leaf (DraftPrePrepare s x) c r h = inl (only-one p me leaf (state_at p 1 0 s.0 (digest_of p x)) c h)
  draft-from leaf (DraftPrepare v s d) c r h = inl (only-one p me leaf (state_at p 2 v s.0 d) c h)
  draft-from leaf (DraftCommit v s d) c r h = inl (only-one p me leaf (state_at p 3 v s.0 d) c h)
  draft-from leaf (DraftViewChange v cs) c r h = change-from leaf v cs c (change-rule p me xs i v cs r).holds h
  draft-from leaf (DraftNewView v ys) c r h = new-from leaf v ys c (starts-with p me xs i v ys r).changes h

  all-from : (leaf : ℕ) (ds : List Draft) (to : To) (msg : Message) (c : Claim) →
      ((d : Draft) → In d ds → Rule p me xs i d) → In {A = To × Message} (to, msg) (sign_all p me leaf ds) →
      In c (claims p me msg) → IsFrom leaf (stated_all p me ds) c
  all-from leaf [] to msg c rules h k = absurd h
  all-from leaf (d ∷ ds) to msg c rules (inl e) k =
      elim (draft-from leaf d c (rules d (inl refl)) (subst (λ (z : To × Message). In c (claims p me z.1)) e k)) [
        | inl a ↦ inl (by-more p me leaf (stated p me d) (stated_all p me ds) c a)
        | inr a ↦ inr a
      ]
  all-from leaf (d ∷ ds) to msg c rules (inr h) k =
      elim (all-from (leaf + uses p d) ds to msg c (λ e q. rules e (inr q)) h k) [
        | inl a ↦
            inl (by-later p me leaf (stated p me d) (stated_all p me ds) c
            (subst (λ (q : ℕ). IsSignedBy p me (leaf + q) (stated_all p me ds) c) (sym (stated-length p me d)) a))
        | inr a ↦ inr a
      ]

pub pbft-once : SignsOnce pbft
pbft-once p me xs i leaf good made =
    let ds = drafts p me xs i in
    record {
      statements = stated_all p me ds;
      each = all-length p me ds;
      own = λ c by g. all-from p good me xs i made leaf ds g.to g.msg c (λ d k. rule-of p me xs i d k) g.sent g.holds;
    }
