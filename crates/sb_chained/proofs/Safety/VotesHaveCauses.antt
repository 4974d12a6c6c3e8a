-- What a reached world tells of single nodes: certificates that came, the strings of what was taken, and what stands behind a vote.
use Rattle.std.proofs.Common.{◌≡◌, ◌<◌, ◌≤◌, ℕ, ◌%◌, ◌==◌, ◌&&◌, ◌||◌, Bool, true, false, List, [], ◌∷◌, ◌++◌, length, Some, refl, sym, ap, ◌∙◌, subst, inl, inr, ◌⊎◌, true≢false, arith}
use Rattle.std.specs.Prelude.{nat_le, nat_lt}
use Rattle.std.proofs.lemmas.Bool.{leb-true, lt-ltb, ltb-true}
use Rattle.iss_base.specs.Lists.{In, nth}
use Rattle.iss_base.specs.Quorum.{all_below, mem}
use Rattle.iss_base.proofs.Lists.{and-true, both, in_left, in_right}
use Rattle.iss_base.proofs.Quorum.{count-distinct}
use Rattle.iss_request.specs.declared.ids.NodeId.{NodeId}
use Rattle.iss_request.specs.declared.ids.Slot.{Slot}
use Rattle.iss_request.specs.declared.requests.Batch.{Batch}
use Rattle.iss_request.specs.declared.requests.Value.{Value}
use Rattle.iss_request.specs.Fields.{IsReadAgain}
use Rattle.iss_request.specs.Formats.{value_string}
use Rattle.iss_sb.specs.declared.effects.Claim.{Claim}
use Rattle.iss_sb.specs.declared.effects.Input.{Input}
use Rattle.iss_sb.specs.declared.effects.Input.TheVariants.{Receive}
use Rattle.iss_sb.specs.declared.effects.Params.{Params}
use Rattle.iss_sb.specs.Calls.{IsGoodParams}
use Rattle.iss_sb.specs.Evidence.{IsCredible, IsReached, IsSigned, Item, Made, MayCome, Verifies, World, accepts, is_correct}
use Rattle.iss_sb.specs.Laws.{AreHeard, ComesWith}
use Rattle.iss_sb.specs.Legal.{AreMade, Front, IsLegal}
use Rattle.iss_sb.proofs.Heard.{heard-reached}
use Rattle.iss_sb.proofs.Legal.{front-in, front_self, front_trans, legal-reached, made-at, made-front}
use Rattle.iss_sb.proofs.Signatures.{verifies-below}
use Rattle.iss_sb.specs.declared.content.Content.{Content}
use Rattle.iss_sb.specs.Content.{parse_content, spell_content}
use Rattle.hs_tree.specs.declared.certificates.Certificate.{Certificate}
use Rattle.hs_tree.specs.declared.certificates.Certificate.TheVariants.{Root, Votes}
use Rattle.iss_sb.specs.declared.signers.Signed.{Signed}
use Rattle.hs_tree.specs.declared.messages.Message.{Message}
use Rattle.hs_tree.specs.declared.messages.Body.TheVariants.{Prepare}
use Rattle.hs_tree.specs.Messages.{signed}
use Rattle.hs_tree.specs.Certificates.{digest_of, is_quorum, signers, view_of}
use Rattle.iss_sb.specs.Statements.{claim}
use Rattle.hs_tree.specs.Statements.{certificate_claims, inside, vote_claims, vote_statement}
use Rattle.hs_tree.specs.Tree.{chained as form, is_known, root, strings_of, value_of}
use Rattle.iss_sb.proofs.Contents.{content-table}
use Rattle.hs_tree.proofs.MessageGrammar.{read-spelled}
use Rattle.hs_tree.proofs.Signers.{quorum-nodes}
use Rattle.sb_chained.specs.Chained.{chained, state, strings, strings_at}
use Rattle.sb_chained.specs.Facts.{AreStanding, IsAt, IsCertified, IsVoted}
use Rattle.sb_chained.specs.Rules.{State, is_allowed, is_good, is_just, is_safe, is_usable, may_prepare, node_digest, slots_below}
use Rattle.hs_views.specs.Views.{leader_of, round_of, turn_of}
use Rattle.sb_chained.proofs.Basics.{good-is}
use Rattle.sb_chained.proofs.Safety.OneVoteAView.{IsFirst, cause-new, one-first, tests, voted-below}
use Rattle.sb_chained.proofs.ModuleLaws.StepsAreLawful.{chained-is-lawful}
use Rattle.sb_chained.proofs.Safety.OwnVotesWereSent.{AreVoted, OwnVotes, own-before, voted-reached}
use Rattle.sb_chained.proofs.ModuleLaws.SentMessagesDecode.{digest-length}
use Rattle.hs_views.proofs.Tests.{is-same}

-- ---- accepted batches, at their places

abbrev pub acc : Params → World Message → ℕ → ℕ → Batch → Type 0
acc p w j k b = (s : Slot) × (nth p.slots k ≡ Some s) × In {A = Slot × Batch} (s, b) (accepts (w j))

-- a message that came to a node
abbrev pub Came : Params → World Message → ℕ → Message → Type 0
Came p w from msg = IsCredible chained p (Verifies p) (IsSigned chained p w) from msg

-- a certificate in which node me's own vote, if it is there, is of a view up to the bound
pub record OwnCert (p : Params) (w : World Message) (me bound view : ℕ) (d : List ℕ) : Type 0 where
  pub cert : IsCertified p w view d
  pub own : cert.test me ≡ true → view ≤ bound

pub own-raised : (p : Params) (w : World Message) (me low high view : ℕ) (d : List ℕ) → low ≤ high → OwnCert p w me low view d → OwnCert p w me high view d
own-raised p w me low high view d l c = record { cert = c.cert; own = λ t. let k = c.own t in omega (arith, l, k) }

-- what stands in a front of a node's list
module _ (p : Params) where
  pub front-heard : (me : ℕ) (a l : List (Item Message)) → Front a l → AreHeard chained p me l → AreHeard chained p me a
  front-heard me a [] g h = subst (λ (z : List (Item Message)). AreHeard chained p me z) (sym g) h
  front-heard me a (y ∷ l) (inl q) h = subst (λ (z : List (Item Message)). AreHeard chained p me z) (sym q) h
  front-heard me a (y ∷ l) (inr g) h = front-heard me a l g h.2

  pub front-own : (me : ℕ) (a l : List (Item Message)) → Front a l → OwnVotes p me l → OwnVotes p me a
  front-own me a [] g h = subst (λ (z : List (Item Message)). OwnVotes p me z) (sym g) h
  front-own me a (y ∷ l) (inl q) h = subst (λ (z : List (Item Message)). OwnVotes p me z) (sym q) h
  front-own me a (y ∷ l) (inr g) h = front-own me a l g h.1

pub front-older : (x : Item Message) (xs l : List (Item Message)) → Front (x ∷ xs) l → Front xs l
front-older x xs l f = front_trans xs (x ∷ xs) l (inr (front_self xs)) f

module _ (p : Params) (w : World Message) (good : IsGoodParams chained p) (reached : IsReached chained p w) where
  pub legal : IsLegal chained p w
  legal = legal-reached chained p w reached

  pub voted : AreVoted p w
  voted = voted-reached p w reached

  -- these are the first inputs of node me's list
  abbrev pub Part : ℕ → List (Item Message) → Type 0
  Part me xs = Front xs (w me)

  pub part-made : (me : ℕ) (xs : List (Item Message)) → Part me xs → AreMade chained p me xs
  part-made me xs f = made-front chained p me xs (w me) f (legal.made me)

  pub part-heard : (me : ℕ) (xs : List (Item Message)) → Part me xs → AreHeard chained p me xs
  part-heard me xs f = front-heard p me xs (w me) f (heard-reached chained chained-is-lawful p good w reached me)

  pub part-own : (me : ℕ) (xs : List (Item Message)) → Part me xs → OwnVotes p me xs
  part-own me xs f = front-own p me xs (w me) f (own-before p w reached me)

  pub part-here : (me : ℕ) (x : Item Message) (xs : List (Item Message)) → Part me (x ∷ xs) → In x (w me)
  part-here me x xs f = front-in x (x ∷ xs) (w me) f (inl refl)

  -- ---- certificates that came

  nodes-below : (s : List ℕ) (vs : List Signed) → ((c : Claim) → In c (vote_claims s vs) → c.by.0 < p.setup.n) → all_below p.setup.n (signers vs) ≡ true
  nodes-below s [] h = refl
  nodes-below s (v ∷ vs) h = both (nat_lt v.by.0 p.setup.n) (all_below p.setup.n (signers vs)) (lt-ltb v.by.0 p.setup.n (h (claim v.by.0 s v.sig) (inl refl))) (nodes-below s vs (λ c k. h c (inr k)))

  record HasClaim (s : List ℕ) (vs : List Signed) (k : ℕ) : Type 0 where
    claim : Claim
    stands : In claim (vote_claims s vs)
    by : claim.by.0 ≡ k
    is : claim.statement ≡ s

  signer-claim : (s : List ℕ) (vs : List Signed) (k : ℕ) → mem k (signers vs) ≡ true → HasClaim s vs k
  signer-claim s [] k h = absurd (true≢false (sym h))
  signer-claim s (v ∷ vs) k h = go (k == v.by.0) refl h (signer-claim s vs k)
    where
      go : (b : Bool) → (k == v.by.0) ≡ b → (b || mem k (signers vs)) ≡ true → (mem k (signers vs) ≡ true → HasClaim s vs k) → HasClaim s (v ∷ vs) k
      go true q r more = record { claim = claim v.by.0 s v.sig; stands = inl refl; by = sym (is-same k v.by.0 q); is = refl }
      go false q r more = let c = more r in record { claim = c.claim; stands = inr c.stands; by = c.by; is = c.is }

  -- what each claim of a vote tells: of a correct node that it voted, of the own one that this was in a view up to the bound
  record Tells (me bound view : ℕ) (d : List ℕ) (cs : List Claim) : Type 0 where
    verified : (c : Claim) → In c cs → Verifies p c
    signed : (c : Claim) → In c cs → is_correct p.setup c.by.0 ≡ true → IsSigned chained p w c.by.0 c.statement
    own : (c : Claim) → In c cs → c.by.0 ≡ me → c.statement ≡ vote_statement form p 1 view d → view ≤ bound

  by-votes : (me bound view q v : ℕ) (d : List ℕ) (votes : List Signed) → is_quorum p.setup.quorum 1 view (Votes v q d votes) ≡ true → Tells me bound view d (vote_claims (vote_statement form p q v d) votes) → OwnCert p w me bound view d
  by-votes me bound view q v d votes h tells =
      let s = vote_statement form p q v d in
      let t = and-true ((v == view) && (q == 1)) _ h in
      let a = and-true (v == view) (q == 1) t.0 in
      let same : s ≡ vote_statement form p 1 view d = ap (λ (z : ℕ). vote_statement form p z v d) (is-same q 1 a.1) ∙ ap (λ (z : ℕ). vote_statement form p 1 z d) (is-same v view a.0) in
      let nodes = quorum-nodes p.setup.quorum 1 view (Votes v q d votes) h in
      let counted = count-distinct p.setup.n (signers votes) (nodes-below s votes (λ c k. verifies-below chained p good c (tells.verified c k))) nodes.1 in
      let many = nodes.0 in
      record {
        cert = record {
          test = λ k. mem k (signers votes);
          many = omega (arith, many, counted);
          each = λ k has correct.
              let c = signer-claim s votes k has in
              let given = tells.signed c.claim c.stands (ap (λ (z : ℕ). is_correct p.setup z) c.by ∙ correct) in
              voted k view d correct (subst (λ (z : ℕ). IsSigned chained p w z (vote_statement form p 1 view d)) c.by (subst (λ (z : List ℕ). IsSigned chained p w c.claim.by.0 z) (c.is ∙ same) given));
        };
        own = λ has. let c = signer-claim s votes me has in tells.own c.claim c.stands c.by (c.is ∙ same);
      }

  by-certificate : (me bound view : ℕ) (c : Certificate) → is_quorum p.setup.quorum 1 view c ≡ true → Tells me bound view (digest_of c) (certificate_claims form p c) → OwnCert p w me bound view (digest_of c)
  by-certificate me bound view Root h t = absurd (true≢false (sym h))
  by-certificate me bound view (Votes v q d votes) h t = by-votes me bound view q v d votes h t

  pub came : (me : ℕ) (x : Item Message) (from : NodeId) (msg : Message) → In x (w me) → x.input ≡ Receive from msg → Came p w from.0 msg
  came me x from msg k e = subst (λ (z : Input Message). MayCome chained p w me z) e (legal.came me x k)

  -- a vote of the node's own that it receives is of no view above its own
  pub own-low : (me : ℕ) (x : Item Message) (xs : List (Item Message)) (from : NodeId) (msg : Message) (view : ℕ) (d : List ℕ) (c : Claim) → Part me (x ∷ xs) → x.input ≡ Receive from msg → In c (chained.claims p from.0 msg) →
      c.by.0 ≡ me → c.statement ≡ vote_statement form p 1 view d → view ≤ (state p me xs).view
  own-low me x xs from msg view d c f e h by is =
      let b = (part-own me (x ∷ xs) f).0 view d c (subst (λ (z : Input Message). ComesWith chained p c z) (sym e) h) by is in
      voted-below p me xs b.item view d (part-made me (x ∷ xs) f).1 b.taken b.vote

  -- a good certificate in a message that came
  pub came-certified : (me : ℕ) (x : Item Message) (xs : List (Item Message)) (view : ℕ) (from : NodeId) (msg : Message) → Part me (x ∷ xs) → x.input ≡ Receive from msg → is_good p view (inside msg.body) ≡ true →
      OwnCert p w me (state p me xs).view view (digest_of (inside msg.body))
  came-certified me x xs view from msg f e h =
      let m = came me x from msg (part-here me x xs f) e in
      by-certificate me (state p me xs).view view (inside msg.body) (good-is p view (inside msg.body) h).quorum (record {
        verified = λ c k. m.verified c (in_left c (certificate_claims form p (inside msg.body)) _ k);
        signed = λ c k. m.signed c (in_left c (certificate_claims form p (inside msg.body)) _ k);
        own = λ c k by is. own-low me x xs from msg view (digest_of (inside msg.body)) c f e (in_left c (certificate_claims form p (inside msg.body)) _ k) by is;
      })

  -- a justification, or the certificate of a word: the root's, or a good one of a view below
  abbrev pub IsHigh : ℕ → ℕ → Certificate → Type 0
  IsHigh me bound c = (c ≡ Root) ⊎ OwnCert p w me bound (view_of c) (digest_of c)

  pub just-why : (me : ℕ) (x : Item Message) (xs : List (Item Message)) (view : ℕ) (from : NodeId) (msg : Message) → Part me (x ∷ xs) → x.input ≡ Receive from msg → is_just p view (inside msg.body) ≡ true →
      ((inside msg.body ≡ Root) ⊎ (view_of (inside msg.body) < view)) × IsHigh me (state p me xs).view (inside msg.body)
  just-why me x xs view from msg f e h = go (inside msg.body) refl h
    where
      go : (c : Certificate) → inside msg.body ≡ c → is_just p view c ≡ true → ((c ≡ Root) ⊎ (view_of c < view)) × IsHigh me (state p me xs).view c
      go Root q j = (inl refl, inl refl)
      go (Votes v q d votes) i j =
          let t = and-true (is_good p v (Votes v q d votes)) (nat_lt v view) j in
          (inr (ltb-true v view t.1), inr (subst (λ (c : Certificate). OwnCert p w me (state p me xs).view v (digest_of c)) i (came-certified me x xs v from msg f e (ap (λ (c : Certificate). is_good p v c) i ∙ t.0))))

  -- ---- Nodes that were taken or proposed were hashed

  value-in : (what : Content) (v : Value) → value_of what ≡ Some v → In (value_string p.setup.version v) (strings_of p.setup.version (value_of what))
  value-in what v e = rw e (inl refl)

  -- the strings of a node are among those of an item
  pub hashed-at : (me : ℕ) (x : Item Message) (view : ℕ) (what : Content) (just : Certificate) → In x (w me) → length (digest_of just) ≡ 32 → IsReadAgain (spell_content p.setup.version) (parse_content p.setup.version) what →
      ((z : List ℕ) → In z (strings_at p view what just) → In z x.made.strings) → IsAt p w (node_digest p view what just) view (digest_of just) what
  hashed-at me x view what just k long read all = record {
    has = record {
      long = long;
      read = read;
      node = inr (record { node = me; item = x; taken = k; hashed = all (form.string p.setup.version view (digest_of just) what) (in_right _ (strings_of p.setup.version (value_of what)) _ (inl refl)) });
      value = λ v e. inr (record { node = me; item = x; taken = k; hashed = all (value_string p.setup.version v) (in_left _ (strings_of p.setup.version (value_of what)) _ (value-in what v e)) });
    };
    is = refl;
  }

  pub taken-at : (me : ℕ) (x : Item Message) (older : List (Item Message)) (from : NodeId) (view : ℕ) (what : Content) (just : Certificate) (sig : List ℕ) → Part me (x ∷ older) →
      x.input ≡ Receive from (signed (Prepare view what just) sig) → may_prepare p (state p me older) from.0 view what just ≡ true → IsAt p w (node_digest p view what just) view (digest_of just) what
  taken-at me x older from view what just sig f e may =
      let s = state p me older in
      let k = part-here me x older f in
      let m = came me x from (signed (Prepare view what just) sig) k e in
      let row = (read-spelled 1 p.setup.version (signed (Prepare view what just) sig) m.read).body in
      let made-is : x.made.strings ≡ strings p me s x.input = ap (λ (z : Made Message). z.strings) (part-made me (x ∷ older) f).0 in
      let at : strings p me s (Receive from (signed (Prepare view what just) sig)) ≡ strings_at p view what just ++ [] = rw may refl in
      let all : x.made.strings ≡ strings_at p view what just ++ [] = made-is ∙ ap (λ (z : Input Message). strings p me s z) e ∙ at in
      hashed-at me x view what just k (digest-length p good just (row.certificate, row.spelled)) (content-table p.setup.version what row.behind row.what_is).1
      (λ z q. subst (λ (y : List (List ℕ)). In z y) (sym all) (in_left z (strings_at p view what just) [] q))

  -- ---- the parts of the tests on a proposal

  pub record Usable (s : State) (from view : ℕ) (just : Certificate) : Type 0 where
    pub leader : from ≡ leader_of p (round_of view)
    pub turn : 1 ≤ turn_of view
    pub just_is : is_just p view just ≡ true
    pub known : is_known s.tree (digest_of just) ≡ true

  pub usable : (s : State) (from view : ℕ) (just : Certificate) → is_usable p s from view just ≡ true → Usable s from view just
  usable s from view just h =
      let a = and-true ((from == leader_of p (round_of view)) && nat_le 1 (turn_of view)) _ h in
      let b = and-true (from == leader_of p (round_of view)) (nat_le 1 (turn_of view)) a.0 in
      let c = and-true (is_just p view just) (is_known s.tree (digest_of just)) a.1 in
      record { leader = is-same from (leader_of p (round_of view)) b.0; turn = leb-true 1 (turn_of view) b.1; just_is = c.0; known = c.1 }

  pub record Parts (s : State) (from view : ℕ) (what : Content) (just : Certificate) : Type 0 where
    pub usable_is : is_usable p s from view just ≡ true
    pub fine : Usable s from view just
    pub safe : is_safe p s view what just ≡ true
    pub allowed : is_allowed p (round_of view) (slots_below s just) what ≡ true

  pub parts : (s : State) (from view : ℕ) (what : Content) (just : Certificate) → may_prepare p s from view what just ≡ true → Parts s from view what just
  parts s from view what just h =
      let t = tests p s from view what just h in
      record { usable_is = t.usable_is; fine = usable s from view just t.usable_is; safe = t.safe; allowed = t.allowed }

  -- ---- votes

  -- where a vote was given, and why
  pub record Spot (k v : ℕ) (d : List ℕ) : Type 0 where
    pub item : Item Message
    pub older : List (Item Message)
    pub part : Part k (item ∷ older)
    pub why : IsFirst p (state p k older) item.input v d

  pub spot : (k v : ℕ) (d : List ℕ) → IsVoted w k v d → Spot k v d
  spot k v d h =
      let a = made-at chained p k h.item (w k) (legal.made k) h.taken in
      record { item = h.item; older = a.before; part = a.front; why = cause-new p k h.item a.before v d (part-made k (h.item ∷ a.before) a.front) h.vote }

  pub one-why : (k v : ℕ) (d e : List ℕ) → IsVoted w k v d → IsVoted w k v e → d ≡ e
  one-why k v d e h g = one-first p k (w k) h.item g.item v d e (legal.made k) h.taken g.taken h.vote g.vote

  turn-some : (v : ℕ) → 1 ≤ v % 65536 → 1 ≤ v
  turn-some v l = omega (arith, l)

  pub stands-why : AreStanding p w
  stands-why k v d h =
      let s = spot k v d h in
      let f = s.why in
      let st = state p k s.older in
      let ps = parts st f.from.0 v f.what f.just f.may in
      let j = just-why k s.item s.older v f.from (signed (Prepare v f.what f.just) f.sig) s.part f.is ps.fine.just_is in
      record {
        some = turn-some v ps.fine.turn;
        parent = digest_of f.just;
        what = f.what;
        node = subst (λ (z : List ℕ). IsAt p w z v (digest_of f.just) f.what) (sym f.digest_is) (taken-at k s.item s.older f.from v f.what f.just f.sig s.part f.is f.may);
        just = by-high f.just j.0 j.1;
      }
    where
      by-high : (c : Certificate) → (c ≡ Root) ⊎ (view_of c < v) → IsHigh k (state p k (spot k v d h).older).view c → (digest_of c ≡ root) ⊎ ((x : ℕ) × (x < v) × IsCertified p w x (digest_of c))
      by-high c (inl z) q = inl (ap digest_of z)
      by-high c (inr l) (inl z) = inl (ap digest_of z)
      by-high c (inr l) (inr o) = inr (view_of c, l, o.cert)
