-- What a correct replica received: its claims are true, its values were hashed, and so its certificates are valid.
use Rattle.std.proofs.Common.{◌≡◌, ◌≤◌, ◌+◌, ◌*◌, ◌++◌, ◌∷◌, ◌∙◌, ℕ, zero, suc, Bool, true, false, not, cond, List, [], length, take, Option, Some, None, refl, sym, ap, subst, inl, inr, arith, true≢false}
use Rattle.std.proofs.lemmas.Bool.{eq-eqb, eqb-true, false≢true, leb-true, or_cases, or_left}
use Rattle.std.specs.Prelude.{nat_le, ◌==◌}
use Rattle.iss_base.specs.Lists.{In, first_of}
use Rattle.iss_base.specs.Quorum.{distinct, mem}
use Rattle.iss_base.proofs.Lists.{and-true, first-cases, in_right, not-true}
use Rattle.iss_base.proofs.Quorum.{or_right_true}
use Rattle.iss_request.specs.declared.ids.NodeId.{NodeId}
use Rattle.iss_request.specs.declared.ids.Slot.{Slot}
use Rattle.iss_request.specs.declared.requests.Batch.{Batch}
use Rattle.iss_request.specs.declared.requests.Value.{Value}
use Rattle.iss_request.specs.declared.requests.Value.TheVariants.{Batch as Value_batch}
use Rattle.iss_sb.specs.Calls.{IsGoodParams, has_slot}
use Rattle.iss_sb.specs.Evidence.{IsCredible, IsSigned, Item, Made, MayCome, Verifies, World, delivered, is_correct}
use Rattle.iss_sb.specs.Legal.{AreMade, IsLegal}
use Rattle.iss_sb.specs.declared.effects.Input.TheVariants.{Cast, Receive, Timeout}
use Rattle.iss_sb.specs.declared.effects.Params.{Params}
use Rattle.pbft_wire.specs.Certificates.{fits_value}
use Rattle.pbft_wire.specs.Statements.{digest_of, state_at, string_of}
use Rattle.pbft_wire.specs.declared.messages.Certificate.{Certificate}
use Rattle.pbft_wire.specs.declared.messages.Change.{Change}
use Rattle.pbft_wire.specs.declared.messages.Message.{Message}
use Rattle.pbft_wire.specs.Signed.{NewView, PrePrepare}
use Rattle.iss_sb.specs.declared.signers.Signed.{Signed}
use Rattle.pbft_wire.proofs.MessageGrammar.{fits-read}
use Rattle.pbft_views.specs.Choice.{certificates_of, choice}
use Rattle.iss_sb.specs.Statements.{claim}
use Rattle.pbft_views.specs.Claims.{vote_claims}
use Rattle.pbft_views.specs.Good.{primary}
use Rattle.pbft_views.specs.Laws.{nodes_of}
use Rattle.pbft_views.proofs.Good.{nodes-length}
use Rattle.pbft_views.proofs.Numbers.{apart-cons, below-from, mem-cases}
use Rattle.sb_pbft.specs.Facts.{IsDecidedView, IsKnown}
use Rattle.sb_pbft.specs.Makes.{asked_strings, choice_strings, inputs, makes, strings, value_strings}
use Rattle.sb_pbft.specs.Pbft.{pbft}
use Rattle.sb_pbft.specs.Rules.{asked, chosen, commit_of, commits, enters, mode, offer, offered, prepare_of, prepares, proposal}
use Rattle.sb_pbft.proofs.History.AcceptedAndDecided.{asked-is, decided-is}
use Rattle.sb_pbft.proofs.Safety.DecidedValuesStay.{Certified, Granted, Traced}
use Rattle.sb_pbft.proofs.Messages.ReceivedIsWellFormed.{AreFit, FitsInput, FitsNew, asked-fits, batch-fits, choice-fits, new-fits}
use Rattle.sb_pbft.proofs.Messages.OwnClaimsWereSent.{Source, came, commit-source, offer-asked, prepare-source, proposal-source, sent}
use Rattle.sb_pbft.proofs.History.ViewsGrow.{Offers, Said, SameInput, chosen-is, offer-is, offered-is}
use Rattle.sb_pbft.proofs.History.VotersAreDistinct.{in-voters, node-vote, prepare-of-is, voters-apart}

-- ---- lists of votes

pub vote-in : (p : Params) (v s : ℕ) (d : List ℕ) (x : Signed) (xs : List Signed) → In x xs →
    In (claim x.by.0 (state_at p 2 v s d) x.sig) (vote_claims p v s d xs)
vote-in p v s d x [] h = absurd h
vote-in p v s d x (y ∷ ys) (inl e) = inl (ap (λ (z : Signed). claim z.by.0 (state_at p 2 v s d) z.sig) e)
vote-in p v s d x (y ∷ ys) (inr h) = inr (vote-in p v s d x ys h)

mem-take : (n j : ℕ) (xs : List Signed) → mem j (nodes_of (take n xs)) ≡ true → mem j (nodes_of xs) ≡ true
mem-take zero j xs h = absurd (false≢true h)
mem-take (suc n) j [] h = h
mem-take (suc n) j (x ∷ xs) h = elim (mem-cases j x.by.0 (nodes_of (take n xs)) h) [
  | inl e ↦ or_left (j == x.by.0) (mem j (nodes_of xs)) (eq-eqb j x.by.0 e)
  | inr e ↦ or_right_true (j == x.by.0) (mem j (nodes_of xs)) (mem-take n j xs e)
]

take-apart : (n : ℕ) (xs : List Signed) → distinct (nodes_of xs) ≡ true → distinct (nodes_of (take n xs)) ≡ true
take-apart zero xs h = refl
take-apart (suc n) [] h = refl
take-apart (suc n) (x ∷ xs) h =
    let a = and-true (not (mem x.by.0 (nodes_of xs))) (distinct (nodes_of xs)) h in
    apart-cons x.by.0 (nodes_of (take n xs)) (λ m. true≢false (sym (mem-take n x.by.0 xs m) ∙ not-true (mem x.by.0 (nodes_of xs)) a.0)) (take-apart n xs a.1)

take-count : (n : ℕ) (xs : List Signed) → n ≤ length xs → length (nodes_of (take n xs)) ≡ n
take-count zero xs h = refl
take-count (suc n) [] h = absurd (omega (arith, h))
take-count (suc n) (x ∷ xs) h = ap suc (take-count n xs (omega (arith, h)))

-- ---- strings

pub in-values : (p : Params) (c : Certificate) (cs : List Certificate) → In c cs →
    In (string_of p c.value) (value_strings p cs)
in-values p c [] h = absurd h
in-values p c (d ∷ ds) (inl e) = inl (ap (λ (z : Certificate). string_of p z.value) e)
in-values p c (d ∷ ds) (inr h) = inr (in-values p c ds h)

pub in-choices : (p : Params) (xs : List Change) (s : ℕ) (ss : List Slot) → has_slot s ss ≡ true →
    In (string_of p (choice xs s)) (choice_strings p xs ss)
in-choices p xs s [] h = absurd (false≢true h)
in-choices p xs s (t ∷ ts) h = elim (or_cases (t.0 == s) (has_slot s ts) h) [
  | inl e ↦ inl (ap (λ (z : ℕ). string_of p (choice xs z)) (sym (eqb-true t.0 s e)))
  | inr k ↦ inr (in-choices p xs s ts k)
]

pub in-if : {A : Type 0} (b : Bool) (x : A) (xs : List A) → b ≡ true → In x xs → In x (cond b xs [])
in-if true x xs e h = h
in-if false x xs e h = absurd (false≢true e)

module _ (p : Params) (good : IsGoodParams pbft p) (w : World Message) (legal : IsLegal pbft p w) where
  -- ---- received claims

  pub came-credible : (i : ℕ) (x : Item Message) (from : NodeId) (msg : Message) → In x (w i) →
      x.input ≡ Receive from msg → IsCredible pbft p (Verifies p) (IsSigned pbft p w) from.0 msg
  came-credible i x from msg h q = subst (λ (y : Said). MayCome pbft p w i y) q (legal.came i x h)

  pub source-granted : (i by : ℕ) (t : List ℕ) → Source p i (w i) by t → Granted p w by t
  source-granted i by t (came x k from msg q s) correct =
      let c = came-credible i x from msg k q in
      let signed = c.signed s.claim s.stands (ap (λ (z : ℕ). is_correct p.setup z) s.named ∙ correct) in
      subst (λ (z : ℕ). IsSigned pbft p w z t) s.named (subst (λ (z : List ℕ). IsSigned pbft p w s.claim.by.0 z) s.is signed)
  source-granted i by t (sent x k to msg h s e) correct =
      let signed : IsSigned pbft p w i t = record { item = x; taken = k; to = to; msg = msg; sent = h; claim = s.claim; made = s.stands; by = s.named; is = s.is } in
      subst (λ (z : ℕ). IsSigned pbft p w z t) (sym e) signed

  -- ---- received messages are well-formed

  pub come-fits : (i : ℕ) (input : Said) → MayCome pbft p w i input → FitsInput p input
  come-fits i (Cast s b) h = batch-fits p b h.1
  come-fits i (Receive from msg) h = fits-read p.setup.version msg h.read
  come-fits i Timeout h = tt

  module _ (i : ℕ) where
    abbrev pub Part : List (Item Message) → Type 0
    Part xs = (x : Item Message) → In x xs → In x (w i)

    pub part-tail : (x : Item Message) (xs : List (Item Message)) → Part (x ∷ xs) → Part xs
    part-tail x xs sub y h = sub y (inr h)

    pub all-fit : (xs : List (Item Message)) → Part xs → AreFit p (inputs xs)
    all-fit [] sub = tt
    all-fit (x ∷ xs) sub = (come-fits i x.input (legal.came i x (sub x (inl refl))), all-fit xs (part-tail x xs sub))

    source-part : (xs : List (Item Message)) (by : ℕ) (t : List ℕ) → Part xs → Source p i xs by t →
        Source p i (w i) by t
    source-part xs by t sub (came x k from msg q s) = came x (sub x k) from msg q s
    source-part xs by t sub (sent x k to msg h s e) = sent x (sub x k) to msg h s e

    -- ---- hashed values

    pub hashed-here : (x : Item Message) (before : List (Item Message)) (v : Value) → In x (w i) →
        x.made ≡ makes p i before x.input x.leaf → In (string_of p v) (strings p i (inputs before) x.input) →
        fits_value p.setup.version v ≡ true → IsKnown p w v
    hashed-here x before v k made h f = record {
      hashed = inr (record { node = i; item = x; taken = k; hashed = subst (λ (z : Made Message). In (string_of p v) z.strings) (sym made) h });
      spelled = f;
    }

    pub record Entry (x : Item Message) (before : List (Item Message)) (from : NodeId) (v : ℕ) (ys : List Change) (sigs : List (List ℕ)) (sig : List ℕ) : Type 0 where
      pub taken : In x (w i)
      pub made : x.made ≡ makes p i before x.input x.leaf
      pub input : SameInput x.input (Receive from (NewView v ys sigs sig))
      pub enters_it : enters p (mode p (inputs before)) from.0 v ys sigs ≡ true

    pub entered-known : (x : Item Message) (before : List (Item Message)) (from : NodeId) (v : ℕ) (ys : List Change) (sigs : List (List ℕ)) (sig : List ℕ) (y : Value) → Entry x before from v ys sigs sig →
        In (string_of p y) (value_strings p (certificates_of ys) ++ choice_strings p ys p.slots) → fits_value p.setup.version y ≡ true → IsKnown p w y
    entered-known x before from v ys sigs sig y e h f =
        let there : In (string_of p y) (strings p i (inputs before) (Receive from (NewView v ys sigs sig))) = in-if (enters p (mode p (inputs before)) from.0 v ys sigs) (string_of p y) (value_strings p (certificates_of ys) ++ choice_strings p ys p.slots) e.enters_it h in
        hashed-here x before y e.taken e.made (subst (λ (z : Said). In (string_of p y) (strings p i (inputs before) z)) (sym e.input) there) f

    pub entry-fits : (x : Item Message) (before : List (Item Message)) (from : NodeId) (v : ℕ) (ys : List Change) (sigs : List (List ℕ)) (sig : List ℕ) → Entry x before from v ys sigs sig → FitsNew p.setup.version v ys sigs
    entry-fits x before from v ys sigs sig e =
        let f : FitsInput p (Receive from (NewView v ys sigs sig)) = subst (λ (z : Said). FitsInput p z) e.input (come-fits i x.input (legal.came i x e.taken)) in
        new-fits p.setup.version v ys sigs sig f

    pub entered-choice : (x : Item Message) (before : List (Item Message)) (from : NodeId) (v s : ℕ) (ys : List Change) (sigs : List (List ℕ)) (sig : List ℕ) → Entry x before from v ys sigs sig → has_slot s p.slots ≡ true → IsKnown p w (choice ys s)
    entered-choice x before from v s ys sigs sig e h =
        entered-known x before from v ys sigs sig (choice ys s) e (in_right (string_of p (choice ys s)) (value_strings p (certificates_of ys)) (choice_strings p ys p.slots) (in-choices p ys s p.slots h)) (choice-fits p.setup.version s ys (entry-fits x before from v ys sigs sig e).changes)

    -- the accepted batch
    asked-in : (l : List Said) (input : Said) (a : Slot × Batch) → Offers p i (mode p l) input a →
        ◌≡◌ {A = Option (Slot × Batch)} (asked p i l input) (Some a) →
        In (string_of p (Value_batch a.1)) (strings p i l input)
    asked-in l input a o h = elim o.cause [
      | inl mine ↦
          let ask : ◌≡◌ {A = Option (Slot × Batch)} (asked p i l (Cast a.0 a.1)) (Some a) = subst (λ (z : Said). ◌≡◌ {A = Option (Slot × Batch)} (asked p i l z) (Some a)) mine.input h in
          subst (λ (z : Said). In (string_of p (Value_batch a.1)) (strings p i l z)) (sym mine.input) (subst (λ (z : Option (Slot × Batch)). In (string_of p (Value_batch a.1)) (asked_strings p z)) (sym ask) (inl refl))
      | inr told ↦
          let m : Message = PrePrepare 0 a.0 (Value_batch a.1) told.sig in
          let ask : ◌≡◌ {A = Option (Slot × Batch)} (asked p i l (Receive p.leader m)) (Some a) = subst (λ (z : Said). ◌≡◌ {A = Option (Slot × Batch)} (asked p i l z) (Some a)) told.input h in
          subst (λ (z : Said). In (string_of p (Value_batch a.1)) (strings p i l z)) (sym told.input) (subst (λ (z : Option (Slot × Batch)). In (string_of p (Value_batch a.1)) (asked_strings p z)) (sym ask) (inl refl))
    ]

    pub asked-known : (x : Item Message) (before : List (Item Message)) (a : Slot × Batch) → In x (w i) →
        x.made ≡ makes p i before x.input x.leaf →
        ◌≡◌ {A = Option (Slot × Batch)} (asked p i (inputs before) x.input) (Some a) → IsKnown p w (Value_batch a.1)
    asked-known x before a k made h =
        let o = offer-is p i (mode p (inputs before)) x.input a (asked-is p i (inputs before) x.input a h).offered in
        hashed-here x before (Value_batch a.1) k made (asked-in (inputs before) x.input a o h) (asked-fits p i (inputs before) x.input a (come-fits i x.input (legal.came i x k)) h)

    pub proposal-known : (xs : List (Item Message)) (v s : ℕ) (x : Value) → Part xs → AreMade pbft p i xs →
        proposal p i (inputs xs) v s ≡ Some x → IsKnown p w x
    proposal-known [] v s x sub made h = absurd (cc)
    proposal-known (y ∷ ys) v s x sub made h = elim (first-cases (chosen p (mode p (inputs ys)) y.input v s) (first_of (proposal p i (inputs ys) v s) (offered (offer p i (mode p (inputs ys)) y.input) v s)) x h) [
      | inl a ↦
          let c = chosen-is p (mode p (inputs ys)) y.input v s x a in
          let e : Entry y ys c.from v c.changes c.sigs c.sig = record { taken = sub y (inl refl); made = made.0; input = c.input; enters_it = c.enters } in
          subst (λ (z : Value). IsKnown p w z) c.value (entered-choice y ys c.from v s c.changes c.sigs c.sig e c.within)
      | inr a ↦ elim (first-cases (proposal p i (inputs ys) v s) (offered (offer p i (mode p (inputs ys)) y.input) v s) x a.1) [
        | inl b ↦ proposal-known ys v s x (part-tail y ys sub) made.1 b
        | inr b ↦
            let o = offered-is (offer p i (mode p (inputs ys)) y.input) v s x b.1 in
            let fresh : proposal p i (inputs ys) 0 o.offer.0.0 ≡ None = subst (λ (z : ℕ). proposal p i (inputs ys) 0 z ≡ None) o.at_slot (subst (λ (z : ℕ). proposal p i (inputs ys) z s ≡ None) o.start b.0) in
            subst (λ (z : Value). IsKnown p w z) o.value (asked-known y ys o.offer (sub y (inl refl)) made.0 (offer-asked p i (inputs ys) y.input o.offer o.is fresh))
      ]
    ]

    -- ---- prepared and committed values

    pub certified-from : (xs : List (Item Message)) (v s : ℕ) (x : Value) → Part xs → AreMade pbft p i xs →
        proposal p i (inputs xs) v s ≡ Some x →
        nat_le (2 * p.setup.f) (length (prepares p (inputs xs) v s (digest_of p x))) ≡ true → Traced p w v s x
    certified-from xs v s x sub made h enough =
        let d = digest_of p x in
        let votes = prepares p (inputs xs) v s d in
        let g = prepare_of p (inputs xs) v s in
        let but = primary p v in
        let vote : (j : ℕ) → mem j (nodes_of (take (2 * p.setup.f) votes)) ≡ true → (y : Signed) × In y votes × (y.by.0 ≡ j) = λ j m. node-vote j votes (mem-take (2 * p.setup.f) j votes m) in
        let votes_of : Certified p w v s x = record {
          makers = nodes_of (take (2 * p.setup.f) votes);
          count = take-count (2 * p.setup.f) votes (leb-true (2 * p.setup.f) (length votes) enough);
          apart = apart-cons but (nodes_of (take (2 * p.setup.f) votes))
              (λ m.
              let y = vote but m in
              let k = in-voters g d 0 p.setup.n y.0 y.1 in
              let r = prepare-of-is p (inputs xs) v s y.0.by.0 k.ballot k.kept in
              true≢false (sym (eq-eqb y.0.by.0 but y.2) ∙ r.2.other))
              (take-apart (2 * p.setup.f) votes (voters-apart g d 0 p.setup.n));
          below = below-from p.setup.n (nodes_of (take (2 * p.setup.f) votes)) (λ j m. let y = vote j m in let u = (in-voters g d 0 p.setup.n y.0 y.1).high in let e = y.2 in omega (arith, u, e));
          first = source-granted i but (state_at p 1 v s d) (source-part xs but _ sub (proposal-source p i good.leader xs v s x made h));
          rest = λ j m. let y = vote j m in subst (λ (z : ℕ). Granted p w z (state_at p 2 v s d)) y.2 (source-granted i y.0.by.0 (state_at p 2 v s d) (source-part xs y.0.by.0 _ sub (prepare-source p i xs v s d y.0 y.1)));
        } in
        record { votes = votes_of; known = proposal-known xs v s x sub made h }

    pub decided-view : (xs : List (Item Message)) (v s : ℕ) (d : List ℕ) → Part xs →
        nat_le (2 * p.setup.f + 1) (length (commits p (inputs xs) v s d)) ≡ true → IsDecidedView p w v s d
    decided-view xs v s d sub enough =
        let votes = commits p (inputs xs) v s d in
        let g = commit_of p (inputs xs) v s in
        let long = nodes-length votes in
        let le = leb-true (2 * p.setup.f + 1) (length votes) enough in
        record {
          nodes = nodes_of votes;
          count = omega (arith, long, le);
          apart = voters-apart g d 0 p.setup.n;
          below = below-from p.setup.n (nodes_of votes) (λ j m. let y = node-vote j votes m in let u = (in-voters g d 0 p.setup.n y.0 y.1).high in let e = y.2 in omega (arith, u, e));
          each = λ j m. let y = node-vote j votes m in subst (λ (z : ℕ). Granted p w z (state_at p 3 v s d)) y.2 (source-granted i y.0.by.0 (state_at p 3 v s d) (source-part xs y.0.by.0 _ sub (commit-source p i xs v s d y.0 y.1)));
        }

    -- delivered values
    pub record IsDelivered (s : ℕ) (x : Value) : Type 0 where
      pub view : ℕ
      pub shown : Traced p w view s x
      pub decided : IsDecidedView p w view s (digest_of p x)

    pub delivered-shown : (xs : List (Item Message)) (s : ℕ) (x : Value) → Part xs → AreMade pbft p i xs →
        delivered pbft p i xs s ≡ Some x → IsDelivered s x
    delivered-shown [] s x sub made h = absurd (cc)
    delivered-shown (y ∷ ys) s x sub made h = elim (first-cases (delivered pbft p i ys s) (pbft.decided p i (y ∷ ys) s) x h) [
      | inl a ↦ delivered-shown ys s x (part-tail y ys sub) made.1 a
      | inr a ↦
          let r = decided-is p i (inputs (y ∷ ys)) s x a.1 in
          record { view = r.0; shown = certified-from (y ∷ ys) r.0 s x sub made r.1.prepared.proposed r.1.prepared.voted; decided = decided-view (y ∷ ys) r.0 s (digest_of p x) sub r.1.voted }
    ]
