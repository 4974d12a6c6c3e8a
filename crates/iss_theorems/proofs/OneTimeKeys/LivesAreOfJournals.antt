-- In each run with disk failures and restarts, cores, packets and book are those of the lives that the journals give. A
-- correct node reads no claim of its own with a valid signature that it did not send before. So each of its statements
-- in the book is that of one of its leaves.
use Rattle.std.proofs.Common.{◌≡◌, ◌∙◌, ◌++◌, ◌∷◌, ℕ, Bool, true, false, cond, eqb, List, [], Some, None, refl, sym, ap, subst, inl, inr, append-nil, append_assoc}
use Rattle.std.specs.Prelude.{slice_get}
use Rattle.std.specs.List.{filter}
use Rattle.std.proofs.Math.Path.{fun_ext}
use Rattle.std.proofs.lemmas.List.Elements.{filter-append}
use Rattle.iss_base.specs.Lists.{In, set_at}
use Rattle.iss_base.proofs.Lists.{eqb-other, eqb-same, in_append, in_right, same_or_not, set_at-other, set_at-same}
use Rattle.iss_layout.proofs.FairLemmas.{in_filter}
use Rattle.iss_network.specs.Network.{Network}
use Rattle.iss_network.specs.declared.packets.Sent.{Sent}
use Rattle.iss_request.specs.declared.setups.Setup.{Setup}
use Rattle.iss_schedule.specs.declared.schedules.Event.{Event}
use Rattle.iss_sb.specs.declared.effects.Claim.{Claim}
use Rattle.iss_sb.specs.declared.effects.To.{To}
use Rattle.iss_sb.specs.Evidence.{Module, is_correct}
use Rattle.iss_sb.specs.Laws.{SignsOnce}
use Rattle.iss_rules.specs.Books.{Signed}
use Rattle.iss_rules.specs.Concrete.{rules_of}
use Rattle.iss_rules.specs.Formats.{formats_of}
use Rattle.iss_rules.specs.Parcels.{Formats}
use Rattle.iss_rules.specs.Rules.{Rules}
use Rattle.iss_rules.specs.Setups.{IsSetupOf}
use Rattle.iss_rules.specs.declared.events.NodeEvent.{NodeEvent}
use Rattle.iss_model.specs.Frames.{Frame, claims_at_in, frame_of, step_in}
use Rattle.iss_model.specs.Node.{Core, Dropped, Stepped, Taken, Turn, step}
use Rattle.iss_model.specs.Run.{Held, addressees, as_signed, booked, first_forged, node_of, posted_all, posted_to}
use Rattle.iss_model.specs.Courses.{Machines, after_step, begin_course, core_of, recover, with_disk, with_packets, with_crashes}
use Rattle.iss_model.specs.Disks.{Disk, keeps, works_again}
use Rattle.iss_model.specs.Driver.{run}
use Rattle.iss_model.proofs.Twins.{correct-is}
use Rattle.iss_theorems.specs.Leaves.{AreOfJournals, AreOfRow, Deed, IsLife, UsesLeavesOnce, and_deed, core_behind, life_at, life_of, packets_in, packets_of, packets_to, sent, sent_by, signed_by, told, verified}
use Rattle.iss_theorems.specs.Recovery.{course_after}
use Rattle.iss_theorems.proofs.CrashRecovery.CourseKeepsWhatStepsKeep.{course-holds, read_at, turned}
use Rattle.iss_theorems.proofs.OneTimeKeys.LeafSignsOnce.{of_verified, signs-once-each}
use Rattle.iss_theorems.proofs.OneTimeKeys.OwnClaims.{step-own}
use Rattle.iss_theorems.proofs.Refinement.DeliveryChecks.{as_signed-append, in-signed, unforged}

-- ---- parts of a list

all-pass : {A : Type 0} (p : A → Bool) (xs : List A) → ((x : A) → In x xs → p x ≡ true) → filter p xs ≡ xs
all-pass p [] each = refl
all-pass p (x ∷ xs) each = rw (each x (inl refl)) (ap (λ ys. x ∷ ys) (all-pass p xs (λ y i. each y (inr i))))

none-pass : {A : Type 0} (p : A → Bool) (xs : List A) → ((x : A) → In x xs → p x ≡ false) → filter p xs ≡ []
none-pass p [] each = refl
none-pass p (x ∷ xs) each = rw (each x (inl refl)) (none-pass p xs (λ y i. each y (inr i)))

-- ---- packets

posted_to-packets : (w : Network) (from : ℕ) (bytes cs : List ℕ) → (posted_to w from bytes cs).packets ≡ w.packets ++ packets_to from bytes cs
posted_to-packets w from bytes [] = sym (append-nil w.packets)
posted_to-packets w from bytes (c ∷ cs) =
    posted_to-packets _ from bytes cs ∙ append_assoc w.packets (record { from = from; to = c; bytes = bytes } ∷ []) (packets_to from bytes cs)

posted-packets : (s : Setup) (w : Network) (from : ℕ) (sends : List (To × List ℕ)) → (posted_all s w from sends).packets ≡ w.packets ++ packets_in s from sends
posted-packets s w from [] = sym (append-nil w.packets)
posted-packets s w from (x ∷ xs) =
    posted-packets s (posted_to w from x.1 (addressees s x.0)) from xs
    ∙ ap (λ (ps : List Sent). ps ++ packets_in s from xs) (posted_to-packets w from x.1 (addressees s x.0))
    ∙ append_assoc w.packets (packets_to from x.1 (addressees s x.0)) (packets_in s from xs)

from-there : (from : ℕ) (bytes cs : List ℕ) (p : Sent) → In p (packets_to from bytes cs) → p.from ≡ from
from-there from bytes [] p i = absurd i
from-there from bytes (c ∷ cs) p (inl e) = ap (λ (q : Sent). q.from) e
from-there from bytes (c ∷ cs) p (inr i) = from-there from bytes cs p i

from-here : (s : Setup) (from : ℕ) (sends : List (To × List ℕ)) (p : Sent) → In p (packets_in s from sends) → p.from ≡ from
from-here s from [] p i = absurd i
from-here s from (x ∷ xs) p i = elim (in_append p (packets_to from x.1 (addressees s x.0)) (packets_in s from xs) i) [
  | inl a ↦ from-there from x.1 (addressees s x.0) p a
  | inr b ↦ from-here s from xs p b
]

equal : (n m : ℕ) → n ≡ m → eqb n m ≡ true
equal n m e = subst (λ (k : ℕ). eqb n k ≡ true) e (eqb-same n)

unequal : (n m j : ℕ) → n ≡ m → (j ≡ m → ⊥) → eqb n j ≡ false
unequal n m j e ne = eqb-other n j (λ q. ne (sym q ∙ e))

-- ---- a life

module _ {Msg : Type 0} (W : Frame Msg) (me : ℕ) where
  -- the life that a journal gives is one
  deed-life : (deeds : List (Deed Msg)) (event : NodeEvent) (o : Stepped Msg) → step_in W me (core_behind deeds) event ≡ o → IsLife W me deeds →
      IsLife W me (and_deed o event deeds)
  deed-life deeds event (Dropped why) q life = life
  deed-life deeds event (Taken t) q life = (q, life)

  life-lives : (kept : List NodeEvent) → IsLife W me (life_of W me kept)
  life-lives [] = tt
  life-lives (event ∷ older) =
      deed-life (life_of W me older) event (step_in W me (core_behind (life_of W me older)) event) refl (life-lives older)

  -- and it leads to the journal's core
  deed-core : (deeds : List (Deed Msg)) (event : NodeEvent) (o : Stepped Msg) → core_behind (and_deed o event deeds) ≡ after_step (core_behind deeds) o
  deed-core deeds event (Dropped why) = refl
  deed-core deeds event (Taken t) = refl

  life-core : (kept : List NodeEvent) → core_behind (life_of W me kept) ≡ core_of W.formats W.rules W.spec me kept
  life-core [] = refl
  life-core (event ∷ older) =
      let deeds = life_of W me older in
      deed-core deeds event (step_in W me (core_behind deeds) event)
      ∙ ap (λ (c : Core Msg). after_step c (step_in W me c event)) (life-core older)

  -- the life with one more event
  one-deed : (kept : List NodeEvent) (event : NodeEvent) (c : Core Msg) (t : Turn Msg) → core_behind (life_of W me kept) ≡ c → step_in W me c event ≡ Taken t →
      life_of W me (event ∷ kept) ≡ record { event = event; turn = t } ∷ life_of W me kept
  one-deed kept event c t at q =
      ap (λ (o : Stepped Msg). and_deed o event (life_of W me kept)) (ap (λ (d : Core Msg). step_in W me d event) at ∙ q)

  -- all that the node reads of its own with a valid signature it sent before
  abbrev pub HearsItself : List (Deed Msg) → Type 0
  HearsItself [] = Unit {0}
  HearsItself (x ∷ xs) =
      ((y : Claim) → In y (verified W.rules (claims_at_in W me (core_behind xs) x.event ++ x.turn.early)) → y.by.0 ≡ me →
      In (record { by = me; statement = y.statement }) (as_signed (sent xs))) × HearsItself xs

  abbrev AreOwnDeeds : List (Deed Msg) → Type 0
  AreOwnDeeds [] = Unit {0}
  AreOwnDeeds (x ∷ xs) = ((y : Claim) → In y x.turn.own → y.by.0 ≡ me) × AreOwnDeeds xs

  own-deeds : (deeds : List (Deed Msg)) → IsLife W me deeds → AreOwnDeeds deeds
  own-deeds [] life = tt
  own-deeds (x ∷ xs) life = (step-own W.formats W.rules W.spec me (core_behind xs) x.event x.turn life.0, own-deeds xs life.1)

  more-sent : (x : Deed Msg) (xs : List (Deed Msg)) (z : Signed) → In z (as_signed (sent xs)) → In z (as_signed (sent (x ∷ xs)))
  more-sent x xs z i =
      subst (λ (ys : List Signed). In z ys) (sym (as_signed-append x.turn.own (sent xs))) (in_right z (as_signed x.turn.own) (as_signed (sent xs)) i)

  told-sent : (x : Deed Msg) (xs : List (Deed Msg)) → HearsItself (x ∷ xs) → (y : Claim) → In y (told W me (x ∷ xs)) → y.by.0 ≡ me →
      In (record { by = me; statement = y.statement }) (as_signed (sent xs))
  told-sent x [] h y i by = elim (in_append y (verified W.rules (claims_at_in W me (core_behind []) x.event ++ x.turn.early)) [] i) [
    | inl a ↦ h.0 y a by
    | inr b ↦ absurd b
  ]
  told-sent x (z ∷ zs) h y i by =
      elim (in_append y (verified W.rules (claims_at_in W me (core_behind (z ∷ zs)) x.event ++ x.turn.early)) (told W me (z ∷ zs)) i) [
        | inl a ↦ h.0 y a by
        | inr b ↦ more-sent z zs _ (told-sent z zs h.1 y b by)
      ]

  -- so each statement of its own is that of a leaf
  abbrev IsOfLeaf : List (List ℕ) → List ℕ → Type 0
  IsOfLeaf row statement = (leaf : ℕ) × (slice_get row leaf ≡ Some statement)

  leaf-of : (row : List (List ℕ)) (deeds : List (Deed Msg)) → AreOfRow W me row deeds → HearsItself deeds → AreOwnDeeds deeds →
      (z : Signed) → In z (as_signed (sent deeds)) → IsOfLeaf row z.statement
  leaf-of row [] own h mine z i = absurd i
  leaf-of row (x ∷ xs) own h mine z i =
      let older = leaf-of row xs own.1 h.1 mine.1 in
      elim (in_append z (as_signed x.turn.own) (as_signed (sent xs)) (subst (λ (ys : List Signed). In z ys) (as_signed-append x.turn.own (sent xs)) i)) [
        | inr b ↦ older z b
        | inl a ↦
            let r = in-signed x.turn.own z a in
            let is : z.statement ≡ r.0.statement = ap (λ (y : Signed). y.statement) r.2 in
            subst (λ (st : List ℕ). IsOfLeaf row st) (sym is) (elim (own.0 r.0 r.1) [
              | inl o ↦ (o.leaf, o.statement)
              | inr t ↦ older _ (told-sent x xs h r.0 t (mine.0 r.0 r.1))
            ])
      ]

-- ---- all cores

module _ {Msg : Type 0} (s : Setup) (F : Formats Msg) (R : Rules) (M : Module Msg) where
  abbrev W : Frame Msg
  W = record { setup = s; formats = F; rules = R; spec = M }

  abbrev life : (ℕ → List NodeEvent) → ℕ → List (Deed Msg)
  life K c = life_of W (node_of s c) (K c)

  -- the state is that of these journals
  record IsOf (h : Held Msg) (K : ℕ → List NodeEvent) : Type 0 where
    cores : (c : ℕ) → core_behind (life K c) ≡ h.net.cores c
    packets : (c : ℕ) → sent_by c h.net.network.packets ≡ packets_of s c (life K c)
    book : (i : ℕ) → is_correct s i ≡ true → signed_by i h.signed ≡ as_signed (sent (life K i))
    correct : (x : Signed) → In x h.signed → is_correct s x.by ≡ true
    heard : (i : ℕ) → is_correct s i ≡ true → HearsItself W (node_of s i) (life K i)

  abbrev journals : Machines Msg → ℕ → List NodeEvent
  journals w c = (w.disks c).kept

  abbrev P : Machines Msg → Type 0
  P w = IsOf w.held (journals w)

  network-of : (w : Machines Msg) (net : Network) → net.packets ≡ w.held.net.network.packets → P w → P (with_packets w net)
  network-of w net q k = record {
    cores = k.cores;
    packets = λ c. ap (λ (ps : List Sent). sent_by c ps) q ∙ k.packets c;
    book = k.book;
    correct = k.correct;
    heard = k.heard;
  }

  -- a disk that keeps the same events
  same-kept : (w : Machines Msg) (c : ℕ) (d : Disk) → d.kept ≡ (w.disks c).kept → (λ j. (set_at w.disks c d j).kept) ≡ journals w
  same-kept w c d q = fun_ext (λ j. elim (same_or_not j c) [
    | inl e ↦ subst (λ (n : ℕ). (set_at w.disks c d n).kept ≡ (w.disks n).kept) (sym e) (ap (λ (z : Disk). z.kept) (set_at-same w.disks c d) ∙ q)
    | inr ne ↦ ap (λ (z : Disk). z.kept) (set_at-other w.disks c d j ne)
  ])

  disk-of : (w : Machines Msg) (c : ℕ) (d : Disk) → d.kept ≡ (w.disks c).kept → P w → P (with_disk w c d)
  disk-of w c d q k = subst (λ (K : ℕ → List NodeEvent). IsOf w.held K) (sym (same-kept w c d q)) k

  -- a recovered core is the one that it was
  recover-of : (w : Machines Msg) (c : ℕ) → P w → P (recover s F R M w c)
  recover-of w c k =
      let made : Core Msg = core_of F R M (node_of s c) (w.disks c).kept in
      let is : made ≡ w.held.net.cores c = sym (life-core W (node_of s c) (w.disks c).kept) ∙ k.cores c in
      let cores : set_at w.held.net.cores c made ≡ w.held.net.cores =
      fun_ext (λ j. elim (same_or_not j c) [
        | inl e ↦ subst (λ (n : ℕ). set_at w.held.net.cores c made n ≡ w.held.net.cores n) (sym e) (set_at-same w.held.net.cores c made ∙ is)
        | inr ne ↦ set_at-other w.held.net.cores c made j ne
      ]) in
      let at : (ℕ → Core Msg) → Held Msg = λ cs. record {
        net = record { cores = cs; network = w.held.net.network };
        signed = w.held.signed;
        hashed = w.held.hashed;
      } in
      subst (λ (K : ℕ → List NodeEvent). IsOf (at (set_at w.held.net.cores c made)) K) (sym (same-kept w c (works_again (w.disks c)) refl))
      (subst (λ (cs : ℕ → Core Msg). IsOf (at cs) (journals w)) (sym cores) k)

  -- ---- a journaled step

  module _ (w : Machines Msg) (c : ℕ) (event : NodeEvent) (t : Turn Msg) (q : step F R M (node_of s c) (w.held.net.cores c) event ≡ Taken t)
      (honest : first_forged s R w.held.signed (read_at s F R M w c event t) ≡ None) (k : P w) where
    abbrev K : ℕ → List NodeEvent
    K = journals w

    abbrev now : ℕ → List NodeEvent
    now j = (set_at w.disks c (keeps (w.disks c) event) j).kept

    abbrev deed : Deed Msg
    deed = record { event = event; turn = t }

    here : life now c ≡ deed ∷ life K c
    here =
        ap (λ (d : Disk). life_of W (node_of s c) d.kept) (set_at-same w.disks c (keeps (w.disks c) event))
        ∙ one-deed W (node_of s c) (K c) event (w.held.net.cores c) t (k.cores c) q

    there : (j : ℕ) → (j ≡ c → ⊥) → life now j ≡ life K j
    there j ne = ap (λ (d : Disk). life_of W (node_of s j) d.kept) (set_at-other w.disks c (keeps (w.disks c) event) j ne)

    mine : (y : Claim) → In y t.own → y.by.0 ≡ node_of s c
    mine = step-own F R M (node_of s c) (w.held.net.cores c) event t q

    cores-now : (j : ℕ) → core_behind (life now j) ≡ set_at w.held.net.cores c t.core j
    cores-now j = elim (same_or_not j c) [
      | inl e ↦ subst (λ (n : ℕ). core_behind (life now n) ≡ set_at w.held.net.cores c t.core n) (sym e)
          (ap (λ (ds : List (Deed Msg)). core_behind ds) here ∙ sym (set_at-same w.held.net.cores c t.core))
      | inr ne ↦ ap (λ (ds : List (Deed Msg)). core_behind ds) (there j ne) ∙ k.cores j ∙ sym (set_at-other w.held.net.cores c t.core j ne)
    ]

    abbrev old_packets : List Sent
    old_packets = w.held.net.network.packets

    abbrev new_packets : List Sent
    new_packets = packets_in s c t.sends

    split : (j : ℕ) → sent_by j (posted_all s w.held.net.network c t.sends).packets ≡ sent_by j old_packets ++ sent_by j new_packets
    split j =
        ap (λ (ps : List Sent). sent_by j ps) (posted-packets s w.held.net.network c t.sends)
        ∙ filter-append (λ (p : Sent). eqb p.from j) old_packets new_packets

    packets-now : (j : ℕ) → sent_by j (posted_all s w.held.net.network c t.sends).packets ≡ packets_of s j (life now j)
    packets-now j = elim (same_or_not j c) [
      | inl e ↦ subst (λ (n : ℕ). sent_by n (posted_all s w.held.net.network c t.sends).packets ≡ packets_of s n (life now n)) (sym e)
          (split c
          ∙ ap (λ (ps : List Sent). sent_by c old_packets ++ ps)
          (all-pass (λ (p : Sent). eqb p.from c) new_packets (λ p i. equal p.from c (from-here s c t.sends p i)))
          ∙ ap (λ (ps : List Sent). ps ++ new_packets) (k.packets c)
          ∙ ap (λ (ds : List (Deed Msg)). packets_of s c ds) (sym here))
      | inr ne ↦
          split j
          ∙ ap (λ (ps : List Sent). sent_by j old_packets ++ ps)
          (none-pass (λ (p : Sent). eqb p.from j) new_packets (λ p i. unequal p.from c j (from-here s c t.sends p i) ne))
          ∙ append-nil (sent_by j old_packets)
          ∙ k.packets j
          ∙ ap (λ (ds : List (Deed Msg)). packets_of s j ds) (sym (there j ne))
    ]

    abbrev new_signed : List Signed
    new_signed = booked s c t.own

    by-here : (x : Signed) → In x new_signed → (is_correct s c ≡ true) × (x.by ≡ c)
    by-here x i = go (is_correct s c) refl i
      where
        go : (b : Bool) → is_correct s c ≡ b → In x (cond b (as_signed t.own) []) → (is_correct s c ≡ true) × (x.by ≡ c)
        go true ok i =
            let r = in-signed t.own x i in
            (ok, ap (λ (y : Signed). y.by) r.2 ∙ mine r.0 r.1 ∙ correct-is s c ok)
        go false ok i = absurd i

    split-book : (j : ℕ) → signed_by j (new_signed ++ w.held.signed) ≡ signed_by j new_signed ++ signed_by j w.held.signed
    split-book j = filter-append (λ (x : Signed). eqb x.by j) new_signed w.held.signed

    book-here : is_correct s c ≡ true → signed_by c (new_signed ++ w.held.signed) ≡ as_signed (sent (life now c))
    book-here ok =
        let all : new_signed ≡ as_signed t.own = ap (λ (b : Bool). cond b (as_signed t.own) []) ok in
        split-book c
        ∙ ap (λ (xs : List Signed). xs ++ signed_by c w.held.signed)
        (all-pass (λ (x : Signed). eqb x.by c) new_signed (λ x i. equal x.by c (by-here x i).1) ∙ all)
        ∙ ap (λ (xs : List Signed). as_signed t.own ++ xs) (k.book c ok)
        ∙ sym (as_signed-append t.own (sent (life K c)))
        ∙ ap (λ (ds : List (Deed Msg)). as_signed (sent ds)) (sym here)

    book-now : (j : ℕ) → is_correct s j ≡ true → signed_by j (new_signed ++ w.held.signed) ≡ as_signed (sent (life now j))
    book-now j ok = elim (same_or_not j c) [
      | inl e ↦ subst (λ (n : ℕ). signed_by n (new_signed ++ w.held.signed) ≡ as_signed (sent (life now n))) (sym e)
          (book-here (subst (λ (n : ℕ). is_correct s n ≡ true) e ok))
      | inr ne ↦
          split-book j
          ∙ ap (λ (xs : List Signed). xs ++ signed_by j w.held.signed)
          (none-pass (λ (x : Signed). eqb x.by j) new_signed (λ x i. unequal x.by c j (by-here x i).1 ne))
          ∙ k.book j ok
          ∙ ap (λ (ds : List (Deed Msg)). as_signed (sent ds)) (sym (there j ne))
    ]

    correct-now : (x : Signed) → In x (new_signed ++ w.held.signed) → is_correct s x.by ≡ true
    correct-now x i = elim (in_append x new_signed w.held.signed i) [
      | inl a ↦ let r = by-here x a in subst (λ (n : ℕ). is_correct s n ≡ true) (sym r.1) r.0
      | inr b ↦ k.correct x b
    ]

    -- what was read is in the book, so the node sent it
    heard-here : is_correct s c ≡ true → (y : Claim) →
        In y (verified R (claims_at_in W (node_of s c) (core_behind (life K c)) event ++ t.early)) → y.by.0 ≡ node_of s c →
        In (record { by = node_of s c; statement = y.statement }) (as_signed (sent (life K c)))
    heard-here ok y i by =
        let read : In y (verified R (read_at s F R M w c event t)) =
        subst (λ (d : Core Msg). In y (verified R (claims_at_in W (node_of s c) d event ++ t.early))) (k.cores c) i in
        let r = of_verified R (read_at s F R M w c event t) y read in
        let is : y.by.0 ≡ c = by ∙ correct-is s c ok in
        let booked_there = unforged s R w.held.signed (read_at s F R M w c event t) honest y r.0 r.1 (subst (λ (n : ℕ). is_correct s n ≡ true) (sym is) ok) in
        let part = in_filter (λ (x : Signed). eqb x.by c) w.held.signed (record { by = y.by.0; statement = y.statement }) booked_there (equal y.by.0 c is) in
        subst (λ (n : ℕ). In (record { by = n; statement = y.statement }) (as_signed (sent (life K c)))) by
        (subst (λ (xs : List Signed). In (record { by = y.by.0; statement = y.statement }) xs) (k.book c ok) part)

    heard-now : (j : ℕ) → is_correct s j ≡ true → HearsItself W (node_of s j) (life now j)
    heard-now j ok = elim (same_or_not j c) [
      | inl e ↦
          let okc = subst (λ (n : ℕ). is_correct s n ≡ true) e ok in
          subst (λ (n : ℕ). HearsItself W (node_of s n) (life now n)) (sym e)
          (subst (λ (ds : List (Deed Msg)). HearsItself W (node_of s c) ds) (sym here) (heard-here okc, k.heard c okc))
      | inr ne ↦ subst (λ (ds : List (Deed Msg)). HearsItself W (node_of s j) ds) (sym (there j ne)) (k.heard j ok)
    ]

    turned-of : P (turned s F R M w c event t)
    turned-of = record { cores = cores-now; packets = packets-now; book = book-now; correct = correct-now; heard = heard-now }

  begin-of : P (begin_course s).state
  begin-of = record {
    cores = λ c. refl;
    packets = λ c. refl;
    book = λ i ok. refl;
    correct = λ x i. absurd i;
    heard = λ i ok. tt;
  }

  course-of : (events : List Event) → P (run (with_crashes s F R M) (begin_course s) events).state
  course-of events = course-holds s F R M P network-of disk-of turned-of recover-of events (begin_course s) begin-of

-- ---- the lives of a run

module _ {Msg : Type 0} (s : Setup) (M : Module Msg) (h : IsSetupOf M s) (once : SignsOnce M) (events : List Event) where
  abbrev w : Machines Msg
  w = (course_after s M events).state

  k : IsOf s (formats_of s M) (rules_of s) M w.held (journals s (formats_of s M) (rules_of s) M w)
  k = course-of s (formats_of s M) (rules_of s) M events

  leaves : (i : ℕ) → is_correct s i ≡ true → UsesLeavesOnce (frame_of s M) i (life_at s M w i) w.held.signed
  leaves i ok =
      let W = frame_of s M in
      let me = node_of s i in
      let deeds = life_at s M w i in
      let is : me ≡ i = correct-is s i ok in
      let life = life-lives W me (w.disks i).kept in
      let signs = signs-once-each s M h once me deeds life in
      let at_me : UsesLeavesOnce W me deeds w.held.signed =
      record {
        signs = signs;
        booked = λ x m by.
            let here : x.by ≡ i = by ∙ is in
            leaf-of W me signs.row deeds signs.own (k.heard i ok) (own-deeds W me deeds life) x
            (subst (λ (xs : List Signed). In x xs) (k.book i ok) (in_filter (λ (y : Signed). eqb y.by i) w.held.signed x m (equal x.by i here)));
      } in
      subst (λ (n : ℕ). UsesLeavesOnce W n deeds w.held.signed) is at_me

  pub are-of-journals : AreOfJournals s M w
  are-of-journals = record {
    cores = λ c. sym (k.cores c);
    packets = k.packets;
    book = k.book;
    correct = k.correct;
    leaves = leaves;
  }
