-- The cluster during a step of a core, and what the core may receive.
use Rattle.std.proofs.Common.{◌≡◌, ◌≢◌, inl, inr, ℕ, ◌<◌, Bool, true, false, cond, List, [], ◌++◌, Some, None, refl, sym, ap, ◌∙◌, subst, true≢false}
use Rattle.iss_base.specs.Lists.{In, push_all}
use Rattle.iss_base.proofs.Lists.{in_append, in_right, none-some, same_or_not, set_at-other, set_at-same}
use Rattle.iss_network.specs.Network.{Network}
use Rattle.iss_network.specs.declared.packets.Sent.{Sent}
use Rattle.iss_request.specs.Fields.{IsReadAgain}
use Rattle.iss_request.specs.declared.requests.Value.{Value}
use Rattle.iss_request.specs.declared.setups.Setup.{Setup}
use Rattle.iss_sb.specs.declared.effects.Claim.{Claim}
use Rattle.iss_sb.specs.declared.effects.Input.{Input}
use Rattle.iss_sb.specs.declared.effects.Input.TheVariants.{Cast, Receive, Timeout}
use Rattle.iss_sb.specs.declared.effects.Params.{Params}
use Rattle.iss_sb.specs.declared.effects.To.{To}
use Rattle.iss_sb.specs.Evidence.{IsCredible, IsReadBatch, Module, Separate, is_correct}
use Rattle.iss_rules.specs.declared.events.NodeEvent.{NodeEvent}
use Rattle.iss_rules.specs.declared.events.NodeEvent.TheVariants.{Packet as On_packet, Propose as On_propose, Timeout as On_timeout, AskFrom as On_ask}
use Rattle.iss_composition.specs.Checkpoints.{scheme_of}
use Rattle.iss_rules.specs.Books.{Signed}
use Rattle.iss_composition.specs.Cluster.{Cluster, IsBooked, IsHashedLog, IsVerified, MayGet, MayTake, Message, Reach, Scheme, rest}
use Rattle.iss_composition.proofs.Heads.{Names}
use Rattle.iss_theorems.specs.Ends.{AreBooked, AreVoted}
use Rattle.iss_rules.specs.Parcels.{Body, Formats, OfModule, Parcel}
use Rattle.iss_rules.specs.Votes.{all_verify}
use Rattle.iss_model.specs.Node.{Core, Turn, then_turn, unchanged}
use Rattle.iss_rules.specs.SoundRules.{IsSoundRules}
use Rattle.iss_composition.specs.Ordered.{Among}
use Rattle.iss_rules.specs.Past.{Past, before, leads_in, log_of, params_of}
use Rattle.iss_rules.specs.Rules.{Rules}
use Rattle.iss_model.specs.Run.{Held, as_signed, booked, node_of, posted_all, turned_to}
use Rattle.iss_rules.proofs.Faithful.{is_message}
use Rattle.iss_model.specs.Runs.{pasts_of}
use Rattle.iss_model.proofs.Ready.{IsReadyCore}
use Rattle.iss_composition.proofs.Agree.{separate-part}
use Rattle.iss_theorems.proofs.Checkpoints.KeptVotesAreValid.{AreCertified, more-certified}
use Rattle.iss_composition.proofs.Checkpoints.{exact-of}
use Rattle.iss_rules.proofs.Ending.{HasSlots}
use Rattle.iss_theorems.proofs.Refinement.Invariant.{AreSent as AreSentBy, Fits as FitsBy, IsPosted as IsPostedBy, Premises, view}
use Rattle.iss_composition.proofs.Good.{Good}
use Rattle.iss_theorems.proofs.Refinement.PacketsHoldSends.{posted-from}
use Rattle.iss_composition.proofs.Reached.{good-reach}
use Rattle.iss_model.proofs.Rows.{IsFit}
use Rattle.iss_theorems.proofs.Refinement.LoggedValuesAreEncodable.{AreReadPieces}
use Rattle.iss_theorems.proofs.Refinement.DeliveryChecks.{each-verifies, over-append, over-new, over-old}
use Rattle.iss_theorems.proofs.Checkpoints.VotesDescribeLogs.{AreStanding}
use Rattle.iss_model.proofs.Told.{AreTold}
use Rattle.iss_rules.proofs.Nodes.{correct-below}
use Rattle.iss_model.proofs.Twins.{addressee-core, core-correct, core-low, correct-is, faultless, leader-below}

module _ {Msg : Type 0} (s : Setup) (F : Formats Msg) (R : Rules) (M : Module Msg) (o : Premises s F R M) where
  abbrev S : Scheme
  S = scheme_of s

  sound : IsSoundRules s M R
  sound = o.sound

  abbrev IsPosted : List (Message Msg) → Sent → Type 0
  IsPosted messages p = IsPostedBy s F R M messages p

  abbrev AreSent : List (Message Msg) → ℕ → Core Msg → Type 0
  AreSent messages j d = AreSentBy s F R M messages j d

  abbrev Fits : Held Msg → Type 0
  Fits h = FitsBy s F R M h

  abbrev seen : Held Msg → List (Message Msg) → Cluster Msg
  seen h messages = view s F R M h messages

  pub claim-names : (bf : List Value) (e l from : ℕ) (msg : Msg) (c : Claim) → In c (M.claims (R.params bf e l) from msg) → Names s M e l c.statement
  claim-names bf e l from msg c h =
      let p = R.params bf e l in
      let n = o.law.names p from msg c h in
      subst (λ (t : Setup). Names t M e l c.statement) (sound.setup bf e l)
      (subst (λ (d : ℕ). Names p.setup M d l c.statement) (sound.epoch bf e l)
      (subst (λ (k : ℕ). Names p.setup M p.epoch.0 k c.statement) (sound.leader bf e l) n))

  pub slots : HasSlots R
  slots = record { some = sound.some_slots; most = sound.most }

  -- a reached cluster is good
  pub good-at : (w : Cluster Msg) → Separate (Among w.strings) → Reach s S R M w → Good s R M w S
  good-at w sep r = good-reach s S R M o.safe o.law sound w (exact-of s o.good w) sep r

  -- sends that hold no module's message
  abbrev pub Silent : List (To × List ℕ) → Type 0
  Silent sends = (x : To × List ℕ) → In x sends → (k : Parcel Msg) × (is_message k.body ≡ false) × (x.1 ≡ F.wrap k)

  pub silent-posted : M.stopping ≡ true → (i : ℕ) (sends : List (To × List ℕ)) → Silent sends → (net : Network) (messages : List (Message Msg)) →
      ((p : Sent) → In p net.packets → IsPosted messages p) → (p : Sent) → In p (posted_all s net i sends).packets → IsPosted messages p
  silent-posted st i sends silent net messages old p m = elim (posted-from s i sends net p m) [
    | inl a ↦ old p a
    | inr r ↦
        let w = silent r.0 r.1 in
        record {
          low_to = core-low s (faultless s R M sound st) p.to (addressee-core s r.0.0 p.to r.3);
          carried = λ k l msg u b.
              let back : F.unwrap (F.wrap w.0) ≡ Some k = sym (ap F.unwrap (r.2 ∙ w.2)) ∙ u in
              absurd (true≢false (sym (ap (λ (x : Body Msg). is_message x) b) ∙ o.faithful.others w.0 k w.1 back));
        }
  ]

  module _ (h : Held Msg) (ok : Fits h) (i : ℕ) where
    abbrev c : Core Msg
    c = h.net.cores i

    pub past-here : (t : Turn Msg) → pasts_of (turned_to s h i t).net i ≡ t.core.past
    past-here t = ap (λ (d : Core Msg). d.past) (set_at-same h.net.cores i t.core)

    pub past-there : (t : Turn Msg) (j : ℕ) → j ≢ i → pasts_of (turned_to s h i t).net j ≡ pasts_of h.net j
    past-there t j ne = ap (λ (d : Core Msg). d.past) (set_at-other h.net.cores i t.core j ne)

    each-core : (P : ℕ → Core Msg → Type 0) (t : Turn Msg) → P i t.core → ((j : ℕ) → P j (h.net.cores j)) → (j : ℕ) → P j ((turned_to s h i t).net.cores j)
    each-core P t here there j = elim (same_or_not j i) [
      | inl q ↦ rw (q, set_at-same h.net.cores i t.core) here
      | inr ne ↦ rw (set_at-other h.net.cores i t.core j ne) (there j)
    ]

    -- the other cores are unchanged
    each-other : (P : ℕ → Core Msg → Type 0) (t : Turn Msg) → P i t.core → ((j : ℕ) → j ≢ i → P j (h.net.cores j)) → (j : ℕ) →
        P j ((turned_to s h i t).net.cores j)
    each-other P t here there j = elim (same_or_not j i) [
      | inl q ↦ rw (q, set_at-same h.net.cores i t.core) here
      | inr ne ↦ rw (set_at-other h.net.cores i t.core j ne) (there j ne)
    ]

    -- in the crash-stop model: the core is a node, and a module's message that it receives was sent to it
    abbrev pub Legit : NodeEvent → Type 0
    Legit (On_packet bytes) = (k : Parcel Msg) (l : ℕ) (msg : Msg) → F.unwrap bytes ≡ Some k → k.body ≡ OfModule l msg →
        In (record { from = k.from; to = i; epoch = k.epoch; leader = l; msg = msg }) ok.messages
    Legit On_propose = Unit {0}
    Legit (On_timeout l) = Unit {0}
    Legit (On_ask peer) = Unit {0}

    pub record Comes-in (event : NodeEvent) : Type 0 where
      pub low : M.stopping ≡ true → i < s.n
      pub legit : M.stopping ≡ true → Legit event

    -- a fact of the core's history, as part of the net
    pub there : (t : Turn Msg) (P : Past Msg → Type 0) → P t.core.past → P (pasts_of (turned_to s h i t).net i)
    there t P k = subst P (sym (past-here t)) k

    root-of : (t : Turn Msg) → In {A = List ℕ} [] (push_all t.strings h.hashed)
    root-of t = over-old [] t.strings h.hashed ok.root

    more-voted : (j : ℕ) (d : Past Msg) (new : List Signed) → AreVoted R M j d h.signed → AreVoted R M j d (new ++ h.signed)
    more-voted j d new are e lt = elim (are e lt) [ inl a ↦ inl a | inr b ↦ inr (in_right _ new h.signed b) ]

    -- a core that runs no correct node may take anything
    pub faulty-fits : (t : Turn Msg) → (M.stopping ≡ true → i < s.n) → is_correct s i ≡ false → IsReadyCore R M (node_of s i) t.core → AreTold s M t.core →
        Separate (Among (push_all t.strings h.hashed)) → Fits (turned_to s h i t)
    faulty-fits t low faulty core told sep =
        let none : M.stopping ≡ true → ⊥ = λ st. true≢false (sym (core-correct s (faultless s R M sound st) i (low st)) ∙ faulty) in
        let unsigned : (x : Signed) → In x (booked s i t.own) → ⊥ = λ x k. subst (λ (b : Bool). In x (cond b (as_signed t.own) [])) faulty k in
        let old : (x : Signed) → In x (booked s i t.own ++ h.signed) → In x h.signed =
        λ x k. elim (in_append x (booked s i t.own) h.signed k) [ inl a ↦ absurd (unsigned x a) | inr b ↦ b ] in
        record {
          messages = ok.messages;
          posted = λ st. absurd (none st);
          reach = rest ok.reach (record {
            same = λ j good. past-there t j (λ q. absurd (true≢false (sym (subst (λ (n : ℕ). is_correct s n ≡ true) q good) ∙ faulty)));
            quiet = record {
              messages = λ st. absurd (none st);
              old_book = λ x k. in_right x (booked s i t.own) h.signed k;
              strings = λ x k. over-old x t.strings h.hashed k;
            };
            book = old;
          });
          root = root-of t;
          cores = each-core (λ j d. IsReadyCore R M (node_of s j) d) t core ok.cores;
          told = each-core (λ j d. AreTold s M d) t told ok.told;
          sent = λ st. absurd (none st);
          booked = each-core (λ j d. is_correct s j ≡ true → AreBooked R M j d.past (booked s i t.own ++ h.signed)) t bad
              (λ j good e l item m x w. in_right x (booked s i t.own) h.signed (ok.booked j good e l item m x w));
          hashed = each-core (λ j d. is_correct s j ≡ true → IsHashedLog S (push_all t.strings h.hashed) (log_of R M j d.past)) t bad
              (λ j good x m. over-old x t.strings h.hashed (ok.hashed j good x m));
          pieces = each-core (λ j d. is_correct s j ≡ true → AreReadPieces s d.past.adopted) t bad ok.pieces;
          certified = each-core (λ j d. is_correct s j ≡ true → AreCertified s R (booked s i t.own ++ h.signed) d) t bad
              (λ j good. more-certified s R h.signed (booked s i t.own ++ h.signed) (λ x m. in_right x (booked s i t.own) h.signed m) (h.net.cores j)
              (ok.certified j good));
          standing = each-core (λ j d. is_correct s j ≡ true → AreStanding s R M j d.past (booked s i t.own ++ h.signed)) t bad
              (λ j good e a q m. ok.standing j good e a q (old _ m));
          voted = each-core (λ j d. is_correct s j ≡ true → AreVoted R M j d.past (booked s i t.own ++ h.signed)) t bad
              (λ j good. more-voted j (h.net.cores j).past (booked s i t.own) (ok.voted j good));
          separate = sep;
        }
      where
        bad : {A : Type 0} → is_correct s i ≡ true → A
        bad good = absurd (true≢false (sym good ∙ faulty))

    no-own : (x : Signed) → In x (booked s i []) → ⊥
    no-own x = go (is_correct s i)
      where
        go : (b : Bool) → In x (cond b (as_signed []) []) → ⊥
        go true k = k
        go false k = k

    module _ (correct : is_correct s i ≡ true) where
      -- the cluster during a step of a correct core: all that was sent before the step is still there
      pub record Turned (t : Turn Msg) : Type 0 where
        pub messages : List (Message Msg)
        pub reach : Reach s S R M (seen (turned_to s h i t) messages)
        pub posted : M.stopping ≡ true → (p : Sent) → In p (turned_to s h i t).net.network.packets → IsPosted messages p
        pub ready : IsReadyCore R M i t.core
        pub mine : (x : Signed) → In x (booked s i t.own) → x.by ≡ i
        pub standing : AreStanding s R M i t.core.past (booked s i t.own ++ h.signed)
        pub voted : AreVoted R M i t.core.past (booked s i t.own ++ h.signed)
        pub booked : AreBooked R M i t.core.past (booked s i t.own ++ h.signed)
        pub early : M.stopping ≡ true → AreSent messages i t.core
        pub old : (k : Message Msg) → In k ok.messages → In k messages
        pub hashed : IsHashedLog S (push_all t.strings h.hashed) (log_of R M i t.core.past)
        pub pieces : AreReadPieces s t.core.past.adopted
        pub certified : AreCertified s R h.signed t.core

      -- as long as no hashed strings collide
      abbrev pub Apart : Turn Msg → Type 0
      Apart t = Separate (Among (push_all t.strings h.hashed))

      abbrev pub Holds : Turn Msg → Type 0
      Holds t = Apart t → Turned t

      pub string-old : (t : Turn Msg) (f : Core Msg → Turn Msg) (x : List ℕ) → In x (push_all t.strings h.hashed) → In x (push_all (then_turn t f).strings h.hashed)
      string-old t f x m = subst (λ (xs : List (List ℕ)). In x xs) (sym (over-append t.strings (f t.core).strings h.hashed))
          (over-old x (f t.core).strings (push_all t.strings h.hashed) m)

      pub string-new : (t : Turn Msg) (f : Core Msg → Turn Msg) (x : List ℕ) → In x (f t.core).strings → In x (push_all (then_turn t f).strings h.hashed)
      string-new t f x m = subst (λ (xs : List (List ℕ)). In x xs) (sym (over-append t.strings (f t.core).strings h.hashed))
          (over-new x (f t.core).strings (push_all t.strings h.hashed) m)

      pub less-apart : (t : Turn Msg) (f : Core Msg → Turn Msg) → Apart (then_turn t f) → Apart t
      less-apart t f sep =
          separate-part (Among (push_all (then_turn t f).strings h.hashed)) (Among (push_all t.strings h.hashed)) (λ x m. string-old t f x m) sep

      pub turned-fits : (t : Turn Msg) → Turned t → AreTold s M t.core → Apart t → Fits (turned_to s h i t)
      turned-fits t k told sep = record {
        messages = k.messages;
        reach = k.reach;
        posted = k.posted;
        root = root-of t;
        cores = each-core (λ j d. IsReadyCore R M (node_of s j) d) t
            (subst (λ (n : ℕ). IsReadyCore R M n t.core) (sym (correct-is s i correct)) k.ready) ok.cores;
        told = each-core (λ j d. AreTold s M d) t told ok.told;
        sent = λ st. each-core (λ j d. AreSent k.messages j d) t (k.early st) (λ j x m. k.old _ (ok.sent st j x m));
        booked = each-core (λ j d. is_correct s j ≡ true → AreBooked R M j d.past (booked s i t.own ++ h.signed)) t (λ good. k.booked)
            (λ j good e l item m x w. in_right x (booked s i t.own) h.signed (ok.booked j good e l item m x w));
        hashed = each-core (λ j d. is_correct s j ≡ true → IsHashedLog S (push_all t.strings h.hashed) (log_of R M j d.past)) t (λ good. k.hashed)
            (λ j good x m. over-old x t.strings h.hashed (ok.hashed j good x m));
        pieces = each-core (λ j d. is_correct s j ≡ true → AreReadPieces s d.past.adopted) t (λ good. k.pieces) ok.pieces;
        certified = each-core (λ j d. is_correct s j ≡ true → AreCertified s R (booked s i t.own ++ h.signed) d) t
            (λ good. more-certified s R h.signed (booked s i t.own ++ h.signed) (λ x m. in_right x (booked s i t.own) h.signed m) t.core k.certified)
            (λ j good. more-certified s R h.signed (booked s i t.own ++ h.signed) (λ x m. in_right x (booked s i t.own) h.signed m) (h.net.cores j)
            (ok.certified j good));
        standing = each-other (λ j d. is_correct s j ≡ true → AreStanding s R M j d.past (booked s i t.own ++ h.signed)) t (λ good. k.standing)
            (λ j ne good e a q m. elim (in_append _ (booked s i t.own) h.signed m) [
              | inl x ↦ absurd (ne (k.mine _ x))
              | inr x ↦ ok.standing j good e a q x
            ]);
        voted = each-core (λ j d. is_correct s j ≡ true → AreVoted R M j d.past (booked s i t.own ++ h.signed)) t (λ good. k.voted)
            (λ j good. more-voted j (h.net.cores j).past (booked s i t.own) (ok.voted j good));
        separate = sep;
      }

      -- no log changes: a request or a vote is stored, a message is kept, a packet is answered, or a batch is about to
      -- be proposed
      pub still-fits : (t : Turn Msg) → t.core.past ≡ c.past → IsReadyCore R M i t.core → (M.stopping ≡ true → AreSent ok.messages i t.core) →
          AreCertified s R h.signed t.core → ((x : Signed) → In x (booked s i t.own) → In x h.signed) →
          ((x : Signed) → In x (booked s i t.own) → x.by ≡ i) → Silent t.sends → Turned t
      still-fits t q core early certified own mine silent = record {
        messages = ok.messages;
        reach = rest ok.reach (record {
          same = λ j good. each-core (λ j y. y.past ≡ pasts_of h.net j) t q (λ j. refl) j;
          quiet = record {
            messages = λ st k m. m;
            old_book = λ x k. in_right x (booked s i t.own) h.signed k;
            strings = λ x k. over-old x t.strings h.hashed k;
          };
          book = λ x k. elim (in_append x (booked s i t.own) h.signed k) [ inl a ↦ own x a | inr b ↦ b ];
        });
        posted = λ st. silent-posted st i t.sends silent h.net.network ok.messages (ok.posted st);
        ready = core;
        booked = subst (λ (y : Past Msg). AreBooked R M i y (booked s i t.own ++ h.signed)) (sym q)
            (λ e l item m x w. in_right x (booked s i t.own) h.signed (ok.booked i correct e l item m x w));
        early = early;
        old = λ k m. m;
        hashed = subst (λ (y : Past Msg). IsHashedLog S (push_all t.strings h.hashed) (log_of R M i y)) (sym q)
            (λ x m. over-old x t.strings h.hashed (ok.hashed i correct x m));
        pieces = subst (λ (y : Past Msg). AreReadPieces s y.adopted) (sym q) (ok.pieces i correct);
        certified = certified;
        mine = mine;
        standing = subst (λ (y : Past Msg). AreStanding s R M i y (booked s i t.own ++ h.signed)) (sym q)
            (λ e a n m. ok.standing i correct e a n (elim (in_append _ (booked s i t.own) h.signed m) [ inl x ↦ own _ x | inr x ↦ x ]));
        voted = subst (λ (y : Past Msg). AreVoted R M i y (booked s i t.own ++ h.signed)) (sym q)
            (more-voted i (pasts_of h.net i) (booked s i t.own) (ok.voted i correct));
      }

      pub rests-fits : (d : Core Msg) → d.past ≡ c.past → IsReadyCore R M i d → (M.stopping ≡ true → AreSent ok.messages i d) →
          AreCertified s R h.signed d → Turned (unchanged d)
      rests-fits d q core early certified = still-fits (unchanged d) q core early certified (λ x m. absurd (no-own x m)) (λ x m. absurd (no-own x m)) (λ x m. absurd m)

      -- what the core may receive
      abbrev pub Credible : Past Msg → ℕ → ℕ → Msg → Type 0
      Credible d l from msg = IsCredible M (params_of R M i d l) (IsVerified R) (IsBooked h.signed) from msg

      abbrev pub Comes : Turn Msg → ℕ → Input Msg → Type 0
      Comes t l (Cast slot batch) = (i ≡ l) × IsReadBatch (params_of R M i t.core.past l) batch
      Comes t l (Receive from msg) =
          (M.stopping ≡ true → In (record { from = from.0; to = i; epoch = t.core.past.epoch; leader = l; msg = msg }) ok.messages) ×
          (leads_in R M i t.core.past l ≡ true → all_verify R (M.claims (params_of R M i t.core.past l) from.0 msg) ≡ true → Credible t.core.past l from.0 msg)
      Comes t l Timeout = Unit {0}

      more-signed : (book : List Signed) → ((x : Signed) → In x h.signed → In x book) → (p : Params) (from : ℕ) (msg : Msg) →
          IsCredible M p (IsVerified R) (IsBooked h.signed) from msg → IsCredible M p (IsVerified R) (IsBooked book) from msg
      more-signed book sub p from msg k = record {
        named = k.named;
        read = k.read;
        verified = k.verified;
        signed = λ d m good. sub (record { by = d.by.0; statement = d.statement }) (k.signed d m good);
      }

      may-get : (stops : Bool) → M.stopping ≡ stops → (t : Turn Msg) (k : Turned t) (from l : ℕ) (msg : Msg) →
          (M.stopping ≡ true → In (record { from = from; to = i; epoch = t.core.past.epoch; leader = l; msg = msg }) ok.messages) →
          Credible t.core.past l from msg → MayGet stops s R M (seen (turned_to s h i t) k.messages) i l from msg
      may-get true st t k from l msg sent cred =
          there t (λ (d : Past Msg). In (record { from = from; to = i; epoch = d.epoch; leader = l; msg = msg }) k.messages) (k.old _ (sent st))
      may-get false st t k from l msg sent cred =
          there t (λ (d : Past Msg). IsCredible M (params_of R M i d l) (IsVerified R) (IsBooked (booked s i t.own ++ h.signed)) from msg)
          (more-signed (booked s i t.own ++ h.signed) (λ x m. in_right x (booked s i t.own) h.signed m) (params_of R M i t.core.past l) from msg cred)

      pub may-take : (t : Turn Msg) (k : Turned t) (l : ℕ) (input : Input Msg) → IsFit F R M i t.core l input → Comes t l input →
          MayTake s R M (seen (turned_to s h i t) k.messages) i l input
      may-take t k l (Cast slot batch) fit m = (m.0, there t (λ (d : Past Msg). IsReadBatch (params_of R M i d l) batch) m.1)
      may-take t k l (Receive from msg) fit m = may-get M.stopping refl t k from.0 l msg m.0 (m.1 fit.leads fit.claims)
      may-take t k l Timeout fit m = tt

      -- a message that was read is credible in an instance where its claims are valid and none is forged
      pub credible : (d : Past Msg) (l from : ℕ) (msg : Msg) → from < s.n → IsReadAgain (M.spell s.version) (M.parse s.version) msg →
          ((y : Claim) → In y (M.claims (params_of R M i d l) from msg) → R.verifies y.by.0 y.statement y.sig ≡ true → is_correct s y.by.0 ≡ true →
          In (record { by = y.by.0; statement = y.statement }) h.signed) →
          all_verify R (M.claims (params_of R M i d l) from msg) ≡ true → Credible d l from msg
      credible d l from msg low read unf ver =
          let p : Params = params_of R M i d l in
          let setup : p.setup ≡ s = sound.setup (before R M i d d.epoch) d.epoch l in
          record {
            named = subst (λ (t : Setup). from < t.n) (sym setup) low;
            read = subst (λ (t : Setup). IsReadAgain (M.spell t.version) (M.parse t.version) msg) (sym setup) read;
            verified = λ y m. each-verifies R (M.claims p from msg) ver y m;
            signed = λ y m good. unf y m (each-verifies R (M.claims p from msg) ver y m) (subst (λ (t : Setup). is_correct t y.by.0 ≡ true) setup good);
          }

      pub node-low : i < s.n
      node-low = correct-below s i correct

      pub leader-low : (d : Past Msg) (l : ℕ) → leads_in R M i d l ≡ true → l < s.n
      leader-low d l leads = leader-below s R M sound (before R M i d d.epoch) d.epoch l leads

    pub unread : (x : Parcel Msg) → None ≡ Some x → ⊥
    unread x q = none-some x q
