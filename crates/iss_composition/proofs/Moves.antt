-- Each move keeps the invariant.
use Rattle.std.proofs.Common.{◌≡◌, ◌≢◌, ◌⊎◌, inl, inr, ℕ, ◌≤◌, ◌<◌, Bool, true, false, cond, List, [], ◌∷◌, ◌++◌, length, Option, Some, None, refl, sym, ap, ◌∙◌, subst, arith}
use Rattle.iss_base.specs.Lists.{In}
use Rattle.iss_base.proofs.Lists.{same_or_not, same_pair, set_at2-other, set_at2-same}
use Rattle.iss_request.specs.declared.ids.Slot.{Slot}
use Rattle.iss_request.specs.declared.requests.Batch.{Batch}
use Rattle.iss_request.specs.declared.requests.Value.{Value}
use Rattle.iss_request.specs.declared.setups.Setup.{Setup}
use Rattle.iss_sb.specs.declared.effects.Claim.{Claim}
use Rattle.iss_sb.specs.declared.effects.Input.{Input}
use Rattle.iss_sb.specs.declared.effects.Input.TheVariants.{Cast, Receive, Timeout}
use Rattle.iss_sb.specs.declared.effects.Params.{Params}
use Rattle.iss_sb.specs.Evidence.{IsHashed, IsReached, IsSent, IsSigned, Item, Made, MayArrive, MayCome, Module, Move, Separate, accepts, after, and_then, is_correct, one_or_none}
use Rattle.iss_sb.specs.Laws.{IsLawful, IsSafe}
use Rattle.iss_rules.specs.Books.{Signed}
use Rattle.iss_composition.specs.Cluster.{AllSpelled, Cluster, IsHashedLog, MayGet, MayTake, Message, Moved, Scheme, vote_statement, world_of}
use Rattle.iss_composition.proofs.Heads.{Names}
use Rattle.iss_rules.proofs.Judged.{Judged}
use Rattle.iss_rules.specs.SoundRules.{IsSoundRules}
use Rattle.iss_composition.specs.Ordered.{Among}
use Rattle.iss_rules.specs.Past.{Past, adopted_at, asked_in, before, log_of, made_in, start_of, takes}
use Rattle.iss_rules.specs.Rules.{Rules}
use Rattle.iss_composition.proofs.Agree.{befores-agree, verifies-there, correct-there, separate-part, world-at}
use Rattle.iss_composition.proofs.Good.{Good, IsClaimed, IsTrue, Voted}
use Rattle.iss_composition.proofs.Kept.{adopted-later, befores, claimed-later, reached-later, sent-later, settled-of, voted-later, world-same}
use Rattle.iss_rules.proofs.Logs.{Later, later-refl, takes-later}
use Rattle.iss_composition.proofs.Statements.{apart, heads, leader-far}

module _ {Msg : Type 0} (s : Setup) (S : Scheme) (R : Rules) (M : Module Msg) (safe : IsSafe M) (law : IsLawful M) (sound : IsSoundRules s M R)
    (v w : Cluster Msg) (sep : Separate (Among w.strings)) (g : Good s R M v S) (i l : ℕ) (input : Input Msg) (leaf : ℕ)
    (mv : Moved s S R M v w i l input leaf) where
  abbrev e : ℕ
  e = (v.pasts i).epoch

  abbrev bf : List Value
  bf = before R M i (v.pasts i) e

  abbrev p : Params
  p = R.params bf e l

  abbrev made : Made Msg
  made = made_in R M i (v.pasts i) l input leaf

  abbrev item : Item Msg
  item = record { input = input; leaf = leaf; made = made }

  sep_v : Separate (Among v.strings)
  sep_v = separate-part (Among w.strings) (Among v.strings) mv.strings sep

  -- what holds of each node holds of the mover and of the others
  by_node : (P : ℕ → Past Msg → Type 0) → P i (takes R M i (v.pasts i) l input leaf) → ((j : ℕ) → j ≢ i → P j (v.pasts j)) → (j : ℕ) → P j (w.pasts j)
  by_node P hi ho j = elim (same_or_not j i) [ inl q ↦ rw (q, mv.here) hi | inr ne ↦ rw (mv.other j ne) (ho j ne) ]

  epochs : (j : ℕ) → (w.pasts j).epoch ≡ (v.pasts j).epoch
  epochs = by_node (λ j c. c.epoch ≡ (v.pasts j).epoch) refl (λ j ne. refl)

  later : (j : ℕ) → is_correct s j ≡ true → Later R (v.pasts j) (w.pasts j)
  later = by_node (λ j c. is_correct s j ≡ true → Later R (v.pasts j) c) (λ ok. takes-later R M i (v.pasts i) l input leaf (settled-of s S R M v g i ok))
      (λ j ne ok. later-refl R (v.pasts j) (settled-of s S R M v g j ok))

  befores_are : (j d : ℕ) → is_correct s j ≡ true → d ≤ (v.pasts j).epoch → before R M j (w.pasts j) d ≡ before R M j (v.pasts j) d
  befores_are = befores s S R M v w g later mv.strings

  -- the histories after the move: the mover's and the others'
  evidence_i : (w.pasts i).evidence e l ≡ item ∷ (v.pasts i).evidence e l
  evidence_i = ap (λ (c : Past Msg). c.evidence e l) mv.here ∙ set_at2-same (v.pasts i).evidence e l (item ∷ (v.pasts i).evidence e l)

  evidence_there : (j d k : ℕ) → (d ≢ e) ⊎ (k ≢ l) → (w.pasts j).evidence d k ≡ (v.pasts j).evidence d k
  evidence_there j d k ne =
      by_node (λ j c. c.evidence d k ≡ (v.pasts j).evidence d k) (set_at2-other (v.pasts i).evidence e l (item ∷ (v.pasts i).evidence e l) d k ne)
      (λ j nej. refl) j

  -- the heads of the instance's claims
  claim_names : (from : ℕ) (msg : Msg) (c : Claim) → In c (M.claims p from msg) → Names s M e l c.statement
  claim_names from msg c inside =
      let n = law.names p from msg c inside in
      subst (λ (t : Setup). Names t M e l c.statement) (sound.setup bf e l)
      (subst (λ (d : ℕ). Names p.setup M d l c.statement) (sound.epoch bf e l)
      (subst (λ (k : ℕ). Names p.setup M p.epoch.0 k c.statement) (sound.leader bf e l) n))

  far : l ≢ 255
  far = leader-far s M R sound bf e l mv.leads

  -- a claim of the instance was signed in its world
  claim_old : (x : Signed) → IsClaimed s R M v x e l → IsSigned M p (world_of s v.pasts e l) x.by x.statement
  claim_old x h =
      let q : before R M h.node (v.pasts h.node) e ≡ bf = befores-agree s S R M safe sound v sep_v g h.node i h.correct mv.correct e h.begun (omega arith) in
      rw q at h.signed

  arrives : (stops : Bool) → M.stopping ≡ stops → (from : ℕ) (msg : Msg) → MayGet stops s R M v i l from msg →
      MayArrive stops M p (world_of s v.pasts e l) i from msg
  arrives true st from msg k = g.sent st (record { from = from; to = i; epoch = e; leader = l; msg = msg }) k
  arrives false st from msg k = record {
    named = k.named;
    read = k.read;
    verified = λ c inside. verifies-there s M R sound bf e l mv.leads c (k.verified c inside);
    signed = λ c inside ok. claim_old (record { by = c.by.0; statement = c.statement })
        (g.signed (record { by = c.by.0; statement = c.statement }) e l far (k.signed c inside ok) (claim_names from msg c inside));
  }

  may_come : (x : Input Msg) → MayTake s R M v i l x → MayCome M p (world_of s v.pasts e l) i x
  may_come (Cast slot b) h = (h.0 ∙ sym (sound.leader bf e l), h.1)
  may_come (Receive from msg) h = arrives M.stopping refl from.0 msg h
  may_come Timeout h = tt

  the_move : Move M p (world_of s v.pasts e l) (world_of s w.pasts e l)
  the_move = record {
    node = i;
    correct = correct-there s M R sound bf e l i mv.correct;
    input = input;
    may = may_come input mv.comes;
    leaf = leaf;
    takes = world-at s w e l i mv.correct ∙ evidence_i ∙ sym (ap (λ xs. and_then M p i xs input leaf) (world-at s v e l i mv.correct));
    others = λ j ne. rw (mv.other j ne) refl;
  }

  reached' : (j : ℕ) → is_correct s j ≡ true → start_of R (log_of R M j (w.pasts j)) (w.pasts j).epoch ≤ length (log_of R M j (w.pasts j))
  reached' j ok = subst (λ (n : ℕ). start_of R (log_of R M j (w.pasts j)) n ≤ length (log_of R M j (w.pasts j))) (sym (epochs j))
      (reached-later s S R M v w g later mv.strings j (v.pasts j).epoch ok (omega arith))

  -- an entry of a world is old, or that of the move
  new_or_old : (d k j : ℕ) (x : Item Msg) → In x (world_of s w.pasts d k j) → In x (world_of s v.pasts d k j) ⊎ (x ≡ item)
  new_or_old d k j x = go (is_correct s j)
    where
      old : (b : Bool) → (w.pasts j).evidence d k ≡ (v.pasts j).evidence d k → In x (cond b ((w.pasts j).evidence d k) []) →
          In x (cond b ((v.pasts j).evidence d k) []) ⊎ (x ≡ item)
      old b q h = inl (rw q at h)

      go : (b : Bool) → In x (cond b ((w.pasts j).evidence d k) []) → In x (cond b ((v.pasts j).evidence d k) []) ⊎ (x ≡ item)
      go false h = inl h
      go true h = elim (same_or_not j i) [
        | inr ne ↦ old true (ap (λ (c : Past Msg). c.evidence d k) (mv.other j ne)) h
        | inl q ↦ elim (same_pair d k e l) [
          | inr ne ↦ old true (evidence_there j d k ne) h
          | inl r ↦
              let h2 : In x ((w.pasts i).evidence e l) =
              subst (λ (n : ℕ). In x ((w.pasts i).evidence e n)) r.1
              (subst (λ (n : ℕ). In x ((w.pasts i).evidence n k)) r.0 (subst (λ (n : ℕ). In x ((w.pasts n).evidence d k)) q h)) in
              let h3 : In x (item ∷ (v.pasts i).evidence e l) = rw evidence_i at h2 in
              elim h3 [ inl a ↦ inr a | inr a ↦ inl (rw (q, r.0, r.1) a) ]
        ]
      ]

  strings' : (d k : ℕ) (x : List ℕ) → IsHashed (world_of s w.pasts d k) x → In x w.strings
  strings' d k x h = elim (new_or_old d k h.node h.item h.taken) [
    | inl a ↦ mv.strings x (g.strings d k x (record { node = h.node; item = h.item; taken = a; hashed = h.hashed }))
    | inr q ↦ mv.fresh_strings x (rw q at h.hashed)
  ]

  taken_i : In item (world_of s w.pasts e l i)
  taken_i = rw (world-at s w e l i mv.correct) (rw evidence_i (inl refl))

  sent' : M.stopping ≡ true → (k : Message Msg) → In k w.messages → IsSent (world_of s w.pasts k.epoch k.leader) k.from k.to k.msg
  sent' st k h = elim (mv.messages st k h) [
    | inl a ↦ rw (a.from, a.epoch, a.leader) (record { item = item; taken = taken_i; to = a.to; reaches = a.reaches; sent = a.sent })
    | inr b ↦ sent-later s S R M v w g later mv.strings k.epoch k.leader k.from k.to k.msg (g.sent st k b)
  ]

  signed' : (x : Signed) (d k : ℕ) → k ≢ 255 → In x w.book → Names s M d k x.statement → IsClaimed s R M w x d k
  signed' x d k low h named = elim (mv.book x h) [
    | inl a ↦
        let q : Names s M e l x.statement = subst (λ (y : Signed). Names s M e l y.statement) (sym a.is) (claim_names i a.msg a.claim a.made) in
        let pair = heads s M x.statement e l d k q named in
        let bq : before R M i (w.pasts i) e ≡ bf = befores_are i e mv.correct (omega arith) in
        let made2 : In a.claim (M.claims (R.params (before R M i (w.pasts i) e) e l) i a.msg) = rw bq a.made in
        let here : IsClaimed s R M w (record { by = i; statement = a.claim.statement }) e l = record {
          node = i;
          correct = mv.correct;
          begun = omega (arith, epochs i);
          signed = record { item = item; taken = taken_i; to = a.to; msg = a.msg; sent = a.sent; claim = a.claim; made = made2; by = a.by; is = refl };
        } in
        subst (λ (n : ℕ). IsClaimed s R M w x n k) pair.0
        (subst (λ (n : ℕ). IsClaimed s R M w x e n) pair.1 (subst (λ (y : Signed). IsClaimed s R M w y e l) (sym a.is) here))
    | inr b ↦ claimed-later s S R M v w g later mv.strings x d k (g.signed x d k low b named)
  ]

  inv_here : IsReached M p (world_of s w.pasts e l)
  inv_here = after (g.inv i e l mv.correct (omega arith) mv.leads) the_move

  inv' : (j d k : ℕ) → is_correct s j ≡ true → d ≤ (w.pasts j).epoch → R.leads (before R M j (w.pasts j) d) d k ≡ true →
      IsReached M (R.params (before R M j (w.pasts j) d) d k) (world_of s w.pasts d k)
  inv' j d k ok le lead =
      let le_v : d ≤ (v.pasts j).epoch = subst (λ (n : ℕ). d ≤ n) (epochs j) le in
      let bq : before R M j (w.pasts j) d ≡ before R M j (v.pasts j) d = befores_are j d ok le_v in
      let lead_v : R.leads (before R M j (v.pasts j) d) d k ≡ true = rw bq at lead in
      elim (same_pair d k e l) [
        | inl q ↦
            let same : before R M j (v.pasts j) e ≡ bf =
            befores-agree s S R M safe sound v sep_v g j i ok mv.correct e (subst (λ (n : ℕ). n ≤ (v.pasts j).epoch) q.0 le_v) (omega arith) in
            rw bq (subst (λ (n : ℕ). IsReached M (R.params (before R M j (v.pasts j) d) d n) (world_of s w.pasts d n)) (sym q.1)
            (subst (λ (n : ℕ). IsReached M (R.params (before R M j (v.pasts j) n) n l) (world_of s w.pasts n l)) (sym q.0) (rw same inv_here)))
        | inr ne ↦ rw (bq, world-same s v w d k (λ j ok. evidence_there j d k ne)) (g.inv j d k ok le_v lead_v)
      ]

  unborn' : (j d k : ℕ) → is_correct s j ≡ true → (w.pasts j).epoch < d → (w.pasts j).evidence d k ≡ []
  unborn' j d k = by_node (λ j c. is_correct s j ≡ true → c.epoch < d → c.evidence d k ≡ [])
      (λ ok lt. set_at2-other (v.pasts i).evidence e l _ d k (inl (omega (arith, lt))) ∙ g.unborn i d k ok lt)
      (λ j nej ok lt. g.unborn j d k ok lt) j

  judged_more : (o : Option (Slot × Batch)) → o ≡ made.accepted → Judged R bf e l (one_or_none o ++ accepts ((v.pasts i).evidence e l))
  judged_more None q = g.judged i e l mv.correct (omega arith)
  judged_more (Some x) q =
      let asked : asked_in R M i (v.pasts i) l input ≡ Some x = sym (law.accepted p i ((v.pasts i).evidence e l) input leaf) ∙ sym q in
      (g.judged i e l mv.correct (omega arith), rw asked at mv.judged)

  judged' : (j d k : ℕ) → is_correct s j ≡ true → d ≤ (w.pasts j).epoch → Judged R (before R M j (w.pasts j) d) d k (accepts ((w.pasts j).evidence d k))
  judged' j d k ok le =
      let le_v : d ≤ (v.pasts j).epoch = subst (λ (n : ℕ). d ≤ n) (epochs j) le in
      rw (befores_are j d ok le_v)
      (by_node (λ j c. is_correct s j ≡ true → d ≤ (v.pasts j).epoch → Judged R (before R M j (v.pasts j) d) d k (accepts (c.evidence d k)))
      (λ ok2 le2. elim (same_pair d k e l) [
        | inl q ↦ rw (q.0, q.1, set_at2-same (v.pasts i).evidence e l _) (judged_more made.accepted refl)
        | inr ne ↦ rw (set_at2-other (v.pasts i).evidence e l _ d k ne) (g.judged i d k ok2 le2)
      ])
      (λ j nej ok2 le2. g.judged j d k ok2 le2) j ok le_v)

  adopted' : (j d k : ℕ) (x : Value) → is_correct s j ≡ true → adopted_at (w.pasts j).adopted d k ≡ Some x → (d < (w.pasts j).epoch) × IsTrue s R M w d k x
  adopted' j d k x ok h =
      adopted-later s S R M v w g later mv.strings j d k x ok (rw (by_node (λ j c. c.adopted ≡ (v.pasts j).adopted) refl (λ j ne. refl) j) at h)

  voted' : (x : Signed) (d : ℕ) (a : List ℕ) (q : ℕ) → In x w.book → is_correct s x.by ≡ true → x.statement ≡ vote_statement s d a q → Voted s R M w S d a q
  voted' x d a q h ok is = elim (mv.book x h) [
    | inl own ↦ absurd (apart s M x.statement e l d a q far
        (subst (λ (y : Signed). Names s M e l y.statement) (sym own.is) (claim_names i own.msg own.claim own.made)) is)
    | inr b ↦ voted-later s S R M v w g later mv.strings d a q (g.voted x d a q b ok is)
  ]

  hashed' : (j : ℕ) → is_correct s j ≡ true → IsHashedLog S w.strings (log_of R M j (w.pasts j))
  hashed' j ok x = elim (same_or_not j i) [
    | inl q ↦ rw q (mv.hashed x)
    | inr ne ↦ rw (mv.other j ne) (λ h. mv.strings x (g.hashed j ok x h))
  ]

  spelled' : (j : ℕ) → is_correct s j ≡ true → AllSpelled S (log_of R M j (w.pasts j))
  spelled' j ok = elim (same_or_not j i) [
    | inl q ↦ rw q mv.spelled
    | inr ne ↦ rw (mv.other j ne) (g.spelled j ok)
  ]

  pub good-moved : Good s R M w S
  good-moved = record {
    reached = reached';
    inv = inv';
    unborn = unborn';
    judged = judged';
    sent = sent';
    signed = signed';
    strings = strings';
    adopted =
        adopted';
    voted = voted';
    hashed = hashed';
    spelled = spelled';
    root = mv.strings [] g.root;
  }
