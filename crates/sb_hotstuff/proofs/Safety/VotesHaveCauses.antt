-- What a legal world implies for single replicas: the cause of each vote, and the tree of each history.
use Rattle.std.proofs.Common.{◌≡◌, ◌<◌, ℕ, ◌==◌, ◌&&◌, ◌||◌, Bool, true, false, if◌then◌else◌, List, [], ◌∷◌, ◌++◌, length, Option, Some, None, refl, sym, ap, ◌∙◌, subst, inl, inr, ◌⊎◌, true≢false, arith}
use Rattle.std.specs.Prelude.{nat_lt}
use Rattle.std.proofs.lemmas.Bool.{lt-ltb, ltb-true}
use Rattle.iss_base.specs.Lists.{In, nth}
use Rattle.iss_base.specs.Quorum.{all_below, mem}
use Rattle.iss_base.proofs.Lists.{and-true, both, in_left, in_right, nth-some}
use Rattle.iss_base.proofs.Quorum.{count-distinct}
use Rattle.iss_request.specs.declared.ids.NodeId.{NodeId}
use Rattle.iss_request.specs.declared.ids.Slot.{Slot}
use Rattle.iss_request.specs.declared.requests.Batch.{Batch}
use Rattle.iss_request.specs.declared.requests.Value.{Value}
use Rattle.iss_request.specs.Fields.{IsReadAgain}
use Rattle.iss_request.specs.Formats.{value_string}
use Rattle.iss_sb.specs.declared.effects.Claim.{Claim}
use Rattle.iss_sb.specs.declared.effects.Input.{Input}
use Rattle.iss_sb.specs.declared.effects.Input.TheVariants.{Cast, Receive, Timeout}
use Rattle.iss_sb.specs.declared.effects.Params.{Params}
use Rattle.iss_sb.specs.Calls.{IsGoodParams}
use Rattle.iss_sb.specs.Evidence.{IsCredible, IsSigned, IsString, Separate, Item, Made, MayCome, Verifies, World, accepts, is_correct}
use Rattle.iss_sb.specs.Legal.{AreMade, IsLegal}
use Rattle.iss_sb.proofs.Legal.{accepts-front, front-in, made-at, made-front}
use Rattle.iss_sb.proofs.Signatures.{verifies-below}
use Rattle.iss_sb.proofs.Worlds.{accepts-new, accepts-old}
use Rattle.iss_sb.specs.declared.content.Content.{Content}
use Rattle.iss_sb.specs.declared.content.Content.TheVariants.{Holds}
use Rattle.iss_sb.specs.Content.{parse_content, spell_content}
use Rattle.hs_tree.specs.declared.certificates.Certificate.{Certificate}
use Rattle.hs_tree.specs.declared.certificates.Certificate.TheVariants.{Root, Votes}
use Rattle.iss_sb.specs.declared.signers.Signed.{Signed}
use Rattle.hs_tree.specs.declared.messages.Message.{Message}
use Rattle.hs_tree.specs.declared.messages.Body.{Body}
use Rattle.hs_tree.specs.declared.messages.Body.TheVariants.{NewView, Prepare, PreCommit, Commit, Decide, Vote}
use Rattle.hs_tree.specs.Messages.{signed}
use Rattle.hs_tree.specs.Certificates.{digest_of, is_quorum, signers, view_of}
use Rattle.hs_tree.specs.Paths.{Has, IsTree}
use Rattle.iss_sb.specs.Statements.{claim}
use Rattle.hs_tree.specs.Statements.{certificate_claims, inside, vote_claims, vote_statement}
use Rattle.hs_tree.specs.Tree.{basic, branch, filled, is_known, plain_string, root, strings_of, value_of}
use Rattle.iss_sb.proofs.Contents.{content-table}
use Rattle.hs_tree.proofs.MessageGrammar.{read-spelled}
use Rattle.hs_tree.proofs.Nodes.{branch-is, branch-one}
use Rattle.hs_tree.proofs.Signers.{quorum-nodes}
use Rattle.sb_hotstuff.specs.Facts.{IsCertified, IsVoted, Leads}
use Rattle.sb_hotstuff.specs.HotStuff.{asks, hotstuff, offered, state, strings, strings_at}
use Rattle.hs_views.specs.Batches.{unless_accepted, was_accepted}
use Rattle.sb_hotstuff.specs.Rules.{State, is_allowed, is_good, is_just, is_safe, keeps_news, keeps_vote, kept, may_cast, may_end, may_prepare, may_second, may_third, proposed, slots_below, with_cast, with_news, with_node, with_round, with_turn, with_vote}
use Rattle.hs_views.specs.Views.{Turn, round_of}
use Rattle.sb_hotstuff.proofs.Basics.{good-is, second-is, third-is}
use Rattle.sb_hotstuff.proofs.Safety.OneVoteAPhase.{Cause, IsFirst, by_first, by_second, by_third, cause-new, one-first}
use Rattle.sb_hotstuff.proofs.Safety.BranchesAgree.{First}
use Rattle.sb_hotstuff.proofs.ModuleLaws.SentMessagesDecode.{digest-length}
use Rattle.hs_views.proofs.BatchesOnce.{was-In}
use Rattle.hs_views.proofs.Tests.{by-test, is-same}

-- ---- An entry of a history

pub record Spot (p : Params) (me : ℕ) (xs : List (Item Message)) (x : Item Message) : Type 0 where
  pub older : List (Item Message)
  pub made : AreMade hotstuff p me (x ∷ older)
  pub inside_it : (y : Item Message) → In y (x ∷ older) → In y xs
  pub accepts_in : (e : Slot × Batch) → In e (accepts (x ∷ older)) → In e (accepts xs)

pub spot : (p : Params) (me : ℕ) (xs : List (Item Message)) (x : Item Message) → AreMade hotstuff p me xs → In x xs → Spot p me xs x
spot p me xs x made k =
    let a = made-at hotstuff p me x xs made k in
    record {
      older = a.before;
      made = made-front hotstuff p me (x ∷ a.before) xs a.front made;
      inside_it = λ y h. front-in y (x ∷ a.before) xs a.front h;
      accepts_in = λ e h. accepts-front (x ∷ a.before) xs e a.front h;
    }

-- ---- Accepted batches and their places

abbrev pub acc : Params → World Message → ℕ → ℕ → Batch → Type 0
acc p w j k b = (s : Slot) × (nth p.slots k ≡ Some s) × In {A = Slot × Batch} (s, b) (accepts (w j))

-- each vote that a correct replica signed, it also sent
abbrev pub AreVoted : Params → World Message → Type 0
AreVoted p w = (i phase view : ℕ) (d : List ℕ) → is_correct p.setup i ≡ true → IsSigned hotstuff p w i (vote_statement basic p phase view d) → IsVoted w i phase view d

-- a message that may be received
abbrev pub Came : Params → World Message → ℕ → Message → Type 0
Came p w from msg = IsCredible hotstuff p (Verifies p) (IsSigned hotstuff p w) from msg

module _ (p : Params) (w : World Message) (good : IsGoodParams hotstuff p) (legal : IsLegal hotstuff p w) (voted : AreVoted p w) where
  -- ---- Certificates that were received

  nodes-below : (s : List ℕ) (vs : List Signed) → ((c : Claim) → In c (vote_claims s vs) → c.by.0 < p.setup.n) → all_below p.setup.n (signers vs) ≡ true
  nodes-below s [] h = refl
  nodes-below s (v ∷ vs) h = both (nat_lt v.by.0 p.setup.n) (all_below p.setup.n (signers vs)) (lt-ltb v.by.0 p.setup.n (h (claim v.by.0 s v.sig) (inl refl))) (nodes-below s vs (λ c k. h c (inr k)))

  record HasClaim (s : List ℕ) (vs : List Signed) (k : ℕ) : Type 0 where
    claim : Claim
    stands : In claim (vote_claims s vs)
    by : claim.by.0 ≡ k
    is : claim.statement ≡ s

  signer-claim : (s : List ℕ) (vs : List Signed) (k : ℕ) → mem k (signers vs) ≡ true → HasClaim s vs k
  signer-claim s [] k h = absurd (true≢false (sym h))
  signer-claim s (v ∷ vs) k h = go (k == v.by.0) refl h (signer-claim s vs k)
    where
      go : (b : Bool) → (k == v.by.0) ≡ b → (b || mem k (signers vs)) ≡ true → (mem k (signers vs) ≡ true → HasClaim s vs k) → HasClaim s (v ∷ vs) k
      go true q r more = record { claim = claim v.by.0 s v.sig; stands = inl refl; by = sym (is-same k v.by.0 q); is = refl }
      go false q r more = let c = more r in record { claim = c.claim; stands = inr c.stands; by = c.by; is = c.is }

  by-votes : (phase view q v : ℕ) (d : List ℕ) (votes : List Signed) → is_quorum p.setup.quorum phase view (Votes v q d votes) ≡ true →
      ((c : Claim) → In c (vote_claims (vote_statement basic p q v d) votes) → Verifies p c) →
      ((c : Claim) → In c (vote_claims (vote_statement basic p q v d) votes) → is_correct p.setup c.by.0 ≡ true → IsSigned hotstuff p w c.by.0 c.statement) → IsCertified p w phase view d
  by-votes phase view q v d votes h verified signed =
      let s = vote_statement basic p q v d in
      let t = and-true ((v == view) && (q == phase)) _ h in
      let a = and-true (v == view) (q == phase) t.0 in
      let nodes = quorum-nodes p.setup.quorum phase view (Votes v q d votes) h in
      let counted = count-distinct p.setup.n (signers votes) (nodes-below s votes (λ c k. verifies-below hotstuff p good c (verified c k))) nodes.1 in
      let many = nodes.0 in
      record {
        test = λ k. mem k (signers votes);
        many = omega (arith, many, counted);
        each = λ k has correct.
            let c = signer-claim s votes k has in
            let given = signed c.claim c.stands (ap (λ (z : ℕ). is_correct p.setup z) c.by ∙ correct) in
            let own : IsSigned hotstuff p w k s = subst (λ (z : ℕ). IsSigned hotstuff p w z s) c.by (subst (λ (z : List ℕ). IsSigned hotstuff p w c.claim.by.0 z) c.is given) in
            subst (λ (z : ℕ). IsVoted w k z view d) (is-same q phase a.1) (subst (λ (z : ℕ). IsVoted w k q z d) (is-same v view a.0) (voted k q v d correct own));
      }

  by-certificate : (phase view : ℕ) (c : Certificate) → is_quorum p.setup.quorum phase view c ≡ true → ((x : Claim) → In x (certificate_claims basic p c) → Verifies p x) →
      ((x : Claim) → In x (certificate_claims basic p c) → is_correct p.setup x.by.0 ≡ true → IsSigned hotstuff p w x.by.0 x.statement) → IsCertified p w phase view (digest_of c)
  by-certificate phase view Root h g b = absurd (true≢false (sym h))
  by-certificate phase view (Votes v q d votes) h g b = by-votes phase view q v d votes h g b

  -- a valid certificate in a message that was received
  pub came-certified : (phase view from : ℕ) (msg : Message) → Came p w from msg → is_good p phase view (inside msg.body) ≡ true → IsCertified p w phase view (digest_of (inside msg.body))
  came-certified phase view from msg m h = by-certificate phase view (inside msg.body) (good-is p phase view (inside msg.body) h).quorum
      (λ c k. m.verified c (in_left c (certificate_claims basic p (inside msg.body)) _ k)) (λ c k. m.signed c (in_left c (certificate_claims basic p (inside msg.body)) _ k))

  pub came : (me : ℕ) (x : Item Message) (from : NodeId) (msg : Message) → In x (w me) → x.input ≡ Receive from msg → Came p w from.0 msg
  came me x from msg k e = subst (λ (z : Input Message). MayCome hotstuff p w me z) e (legal.came me x k)

  -- ---- Pre-commit and commit votes

  abbrev Here : (k : ℕ) (x : Item Message) → In x (w k) → Spot p k (w k) x
  Here k x h = spot p k (w k) x (legal.made k) h

  pub second-why : (k v : ℕ) (d : List ℕ) → IsVoted w k 2 v d → IsCertified p w 1 v d
  second-why k v d h =
      let s = Here k h.item h.taken in
      go (cause-new p k h.item s.older 2 v d s.made h.vote) refl
    where
      go : {q : ℕ} → Cause p (state p k (Here k h.item h.taken).older) h.item.input v d q → q ≡ 2 → IsCertified p w 1 v d
      go (by_first f) e = absurd cc
      go (by_second f) e =
          let m = came k h.item f.from (signed (PreCommit v f.shown) f.sig) h.taken f.is in
          subst (λ (z : List ℕ). IsCertified p w 1 v z) (sym f.digest_is) (came-certified 1 v f.from.0 (signed (PreCommit v f.shown) f.sig) m (second-is p (state p k (Here k h.item h.taken).older) v f.shown f.may).good)
      go (by_third f) e = absurd cc

  pub third-why : (k v : ℕ) (d : List ℕ) → IsVoted w k 3 v d → IsCertified p w 2 v d
  third-why k v d h =
      let s = Here k h.item h.taken in
      go (cause-new p k h.item s.older 3 v d s.made h.vote) refl
    where
      go : {q : ℕ} → Cause p (state p k (Here k h.item h.taken).older) h.item.input v d q → q ≡ 3 → IsCertified p w 2 v d
      go (by_first f) e = absurd cc
      go (by_second f) e = absurd cc
      go (by_third f) e =
          let m = came k h.item f.from (signed (Commit v f.shown) f.sig) h.taken f.is in
          subst (λ (z : List ℕ). IsCertified p w 2 v z) (sym f.digest_is) (came-certified 2 v f.from.0 (signed (Commit v f.shown) f.sig) m (third-is p (state p k (Here k h.item h.taken).older) v f.shown f.may).good)

  pub one-why : (k v : ℕ) (d e : List ℕ) → IsVoted w k 1 v d → IsVoted w k 1 v e → d ≡ e
  one-why k v d e h g = one-first p k (w k) h.item g.item v d e (legal.made k) h.taken g.taken h.vote g.vote

  -- ---- Nodes that were taken or proposed were hashed

  abbrev pub Holder : List ℕ → Content → Type 0
  Holder a c = Has p.setup.version (IsString w) a c

  value-in : (what : Content) (v : Value) → value_of what ≡ Some v → In (value_string p.setup.version v) (strings_of p.setup.version (value_of what))
  value-in what v e = rw e (inl refl)

  -- the strings of a node are among those of a history's entry
  pub hashed-has : (me : ℕ) (x : Item Message) (view : ℕ) (what : Content) (just : Certificate) → In x (w me) → length (digest_of just) ≡ 32 → IsReadAgain (spell_content p.setup.version) (parse_content p.setup.version) what →
      ((z : List ℕ) → In z (strings_at p view what just) → In z x.made.strings) → Holder (digest_of just) what
  hashed-has me x view what just k long read all = record {
    long = long;
    read = read;
    node = inr (record { node = me; item = x; taken = k; hashed = all (plain_string p.setup.version view (digest_of just) what) (in_right _ (strings_of p.setup.version (value_of what)) _ (inl refl)) });
    value = λ v e. inr (record { node = me; item = x; taken = k; hashed = all (value_string p.setup.version v) (in_left _ (strings_of p.setup.version (value_of what)) _ (value-in what v e)) });
  }

  pub record IsTaken (me : ℕ) (x : Item Message) (view : ℕ) (what : Content) (just : Certificate) : Type 0 where
    pub all : (z : List ℕ) → In z (strings_at p view what just) → In z x.made.strings
    pub long : length (digest_of just) ≡ 32
    pub read : IsReadAgain (spell_content p.setup.version) (parse_content p.setup.version) what

  pub taken-has : (me : ℕ) (x : Item Message) (view : ℕ) (what : Content) (just : Certificate) → In x (w me) → IsTaken me x view what just → Holder (digest_of just) what
  taken-has me x view what just k t = hashed-has me x view what just k t.long t.read t.all

  pub is-taken : (me : ℕ) (x : Item Message) (older : List (Item Message)) (from : NodeId) (view : ℕ) (what : Content) (just : Certificate) (sig : List ℕ) → In x (w me) → AreMade hotstuff p me (x ∷ older) →
      x.input ≡ Receive from (signed (Prepare view what just) sig) → may_prepare p (state p me older) from.0 view what just ≡ true → IsTaken me x view what just
  is-taken me x older from view what just sig k made e may =
      let s = state p me older in
      let m = came me x from (signed (Prepare view what just) sig) k e in
      let row = (read-spelled 3 p.setup.version (signed (Prepare view what just) sig) m.read).body in
      let made-is : x.made.strings ≡ strings p me s x.input = ap (λ (z : Made Message). z.strings) made.0 in
      let at : strings p me s (Receive from (signed (Prepare view what just) sig)) ≡ strings_at p view what just ++ [] = rw may refl in
      let all : x.made.strings ≡ strings_at p view what just ++ [] = made-is ∙ ap (λ (z : Input Message). strings p me s z) e ∙ at in
      record {
        all = λ z q. subst (λ (y : List (List ℕ)). In z y) (sym all) (in_left z (strings_at p view what just) [] q);
        long = digest-length p good just (row.certificate, row.spelled);
        read = (content-table p.setup.version what row.behind row.what_is).1;
      }

  -- ---- The tree of a history

  abbrev pub AllHere : ℕ → List (Item Message) → Type 0
  AllHere me xs = (x : Item Message) → In x xs → In x (w me)

  pub record Parts (s : State) (view : ℕ) (what : Content) (just : Certificate) : Type 0 where
    pub just_is : is_just p view just ≡ true
    pub known : is_known s.tree (digest_of just) ≡ true
    pub safe : is_safe p s view what just ≡ true
    pub allowed : is_allowed p (round_of view) (slots_below s just) what ≡ true

  pub parts : (s : State) (from view : ℕ) (what : Content) (just : Certificate) → may_prepare p s from view what just ≡ true → Parts s view what just
  parts s from view what just h =
      let a = and-true _ _ h in
      let b = and-true _ _ a.0 in
      let c = and-true (is_just p view just) (is_known s.tree (digest_of just)) b.1 in
      let d = and-true (is_safe p s view what just) _ a.1 in
      record { just_is = c.0; known = c.1; safe = d.0; allowed = d.1 }

  abbrev pub Tree : State → Type 0
  Tree s = IsTree p.setup.version (IsString w) s.tree

  tree-turn : (s : State) (o : Option Turn) → Tree s → Tree (with_turn s o)
  tree-turn s None h = h
  tree-turn s (Some t) h = h

  tree-kept-heard : (me : ℕ) (x : Item Message) (older : List (Item Message)) (from : NodeId) (body : Body) (sig : List ℕ) → In x (w me) → AreMade hotstuff p me (x ∷ older) → x.input ≡ (Receive from (signed body sig)) → Tree (state p me older) → Tree (kept p me (state p me older) (Receive from (signed body sig)))
  tree-kept-heard me x older from (NewView round high) sig k made e h = let s = state p me older in by-test Tree (keeps_news p me s from.0 round high) (with_news s from.0 round high) s (λ q. h) h
  tree-kept-heard me x older from (Prepare view what just) sig k made e h =
      let s = state p me older in
      by-test Tree (may_prepare p s from.0 view what just) (with_node p s view what just) s (λ q.
      let t = is-taken me x older from view what just sig k made e q in
      (taken-has me x view what just k t, refl, (parts s from.0 view what just q).known, h)) h
  tree-kept-heard me x older from (PreCommit view shown) sig k made e h = let s = state p me older in by-test Tree (may_second p s view shown) (record s { high = shown; second = true }) s (λ q. h) h
  tree-kept-heard me x older from (Commit view shown) sig k made e h = let s = state p me older in by-test Tree (may_third p s view shown) (record s { lock = shown; third = true }) s (λ q. h) h
  tree-kept-heard me x older from (Decide view shown) sig k made e h = h
  tree-kept-heard me x older from (Vote phase view d) sig k made e h = let s = state p me older in by-test Tree (keeps_vote p s from.0 phase view d) (with_vote s from.0 phase view d sig) s (λ q. h) h

  tree-kept : (me : ℕ) (x : Item Message) (older : List (Item Message)) (i : Input Message) → In x (w me) → AreMade hotstuff p me (x ∷ older) → x.input ≡ i → Tree (state p me older) → Tree (kept p me (state p me older) i)
  tree-kept me x older (Cast slot batch) k made e h = let s = state p me older in by-test Tree (may_cast p me s slot.0) (with_cast s batch) s (λ q. h) h
  tree-kept me x older (Receive from msg) k made e h = tree-kept-heard me x older from msg.body msg.sig k made e h
  tree-kept me x older Timeout k made e h = let s = state p me older in by-test Tree (may_end s) (with_round s) s (λ q. h) h

  pub state-tree : (me : ℕ) (xs : List (Item Message)) → AreMade hotstuff p me xs → AllHere me xs → Tree (state p me xs)
  state-tree me [] made here = tt
  state-tree me (x ∷ xs) made here =
      let s = state p me xs in
      let t = tree-kept me x xs x.input (here x (inl refl)) made refl (state-tree me xs made.1 (λ y k. here y (inr k))) in
      tree-turn (kept p me s x.input) (proposed p me s (kept p me s x.input) x.input) t

  -- ---- Prepare votes

  pub spot-here : (k : ℕ) (x : Item Message) (q : In x (w k)) → AllHere k (Here k x q).older
  spot-here k x q y h = (Here k x q).inside_it y (inr h)

  pub just-why : (view from : ℕ) (what : Content) (just : Certificate) (sig : List ℕ) → Came p w from (signed (Prepare view what just) sig) → is_just p view just ≡ true → (just ≡ Root) ⊎ ((view_of just < view) × IsCertified p w 1 (view_of just) (digest_of just))
  just-why view from what Root sig m h = inl refl
  just-why view from what (Votes v q d votes) sig m h =
      let t = and-true (is_good p 1 v (Votes v q d votes)) (nat_lt v view) h in
      inr (ltb-true v view t.1, came-certified 1 v from (signed (Prepare view what (Votes v q d votes)) sig) m t.0)

  offered-why : (me : ℕ) (x : Item Message) (older : List (Item Message)) (b : Batch) (n : ℕ) → n < length p.slots → x.made.accepted ≡ unless_accepted (accepts older) b (nth p.slots n) →
      (s : Slot) × (nth p.slots n ≡ Some s) × In {A = Slot × Batch} (s, b) (accepts (x ∷ older))
  offered-why me x older b n l e =
      let r = nth-some p.slots n l in
      (r.0, r.1, go r.0 (was_accepted r.0.0 b (accepts older)) refl (e ∙ ap (λ (o : Option Slot). unless_accepted (accepts older) b o) r.1))
    where
      go : (s : Slot) (t : Bool) → was_accepted s.0 b (accepts older) ≡ t → x.made.accepted ≡ (if was_accepted s.0 b (accepts older) then None else Some (s, b)) → In {A = Slot × Batch} (s, b) (accepts (x ∷ older))
      go s true q h = accepts-old x older (s, b) (was-In s b (accepts older) q)
      go s false q h = accepts-new x older (s, b) (h ∙ rw q refl)

  pub allowed-low : (round n : ℕ) (b : Batch) → is_allowed p round n (Holds b) ≡ true → (round ≡ 0) × (n < length p.slots)
  allowed-low round n b h = let a = and-true (round == 0) (nat_lt n (length p.slots)) h in (is-same round 0 a.0, ltb-true n (length p.slots) a.1)

  module _ (sep : Separate (IsString w)) where
    -- the batch that a replica accepts with a prepare vote
    accepted-why : (k v : ℕ) (x : Item Message) (d : List ℕ) (q : In x (w k)) → (f : IsFirst p (state p k (Here k x q).older) x.input v d) → (cs : List Content) (b : Batch) → Leads p w (digest_of f.just) root cs → f.what ≡ Holds b →
        acc p w k (filled cs) b
    accepted-why k v x d q f cs b br full =
        let sp = Here k x q in
        let s = state p k sp.older in
        let ps = parts s f.from.0 v f.what f.just f.may in
        let tree = state-tree k sp.older sp.made.1 (spot-here k x q) in
        let mine = branch-is p.setup.version (IsString w) s.tree (digest_of f.just) tree ps.known in
        let n = slots_below s f.just in
        let same : cs ≡ branch s.tree (digest_of f.just) = branch-one p.setup.version (IsString w) sep (inl refl) (digest_of f.just) cs (branch s.tree (digest_of f.just)) br mine in
        let low = (allowed-low (round_of v) n b (ap (λ (c : Content). is_allowed p (round_of v) n c) (sym full) ∙ ps.allowed)).1 in
        let asked : x.made.accepted ≡ asks p k sp.older x.input = ap (λ (z : Made Message). z.accepted) sp.made.0 in
        let at : asks p k sp.older (Receive f.from (signed (Prepare v f.what f.just) f.sig)) ≡ offered p s (accepts sp.older) f.what f.just = rw (f.may) refl in
        let all : x.made.accepted ≡ unless_accepted (accepts sp.older) b (nth p.slots n) = asked ∙ ap (λ (z : Input Message). asks p k sp.older z) f.is ∙ at ∙ ap (λ (c : Content). offered p s (accepts sp.older) c f.just) full in
        let r = offered-why k x sp.older b n low all in
        subst (λ (z : List Content). acc p w k (filled z) b) (sym same) (r.0, r.1, sp.accepts_in (r.0, b) r.2)

    first-by : (k v : ℕ) (d : List ℕ) (h : IsVoted w k 1 v d) → IsFirst p (state p k (Here k h.item h.taken).older) h.item.input v d → First p w (acc p w) k v d
    first-by k v d h f =
        let sp = Here k h.item h.taken in
        let s = state p k sp.older in
        let m = came k h.item f.from (signed (Prepare v f.what f.just) f.sig) h.taken f.is in
        let t = is-taken k h.item sp.older f.from v f.what f.just f.sig h.taken sp.made f.is f.may in
        let ps = parts s f.from.0 v f.what f.just f.may in
        record {
          parent = digest_of f.just;
          what = f.what;
          has = taken-has k h.item v f.what f.just h.taken t;
          digest_is = sym f.digest_is;
          just = elim (just-why v f.from.0 f.what f.just f.sig m ps.just_is) [
            | inl z ↦ inl (ap (λ (c : Certificate). digest_of c) z)
            | inr z ↦ inr (view_of f.just, z.0, z.1)
          ];
          accepted = λ cs b br full. accepted-why k v h.item d h.taken f cs b br full;
        }

    -- the proposal that a prepare vote answers
    pub first-cause : (k v : ℕ) (d : List ℕ) (h : IsVoted w k 1 v d) → IsFirst p (state p k (Here k h.item h.taken).older) h.item.input v d
    first-cause k v d h = go (cause-new p k h.item (Here k h.item h.taken).older 1 v d (Here k h.item h.taken).made h.vote) refl
      where
        go : {q : ℕ} → Cause p (state p k (Here k h.item h.taken).older) h.item.input v d q → q ≡ 1 → IsFirst p (state p k (Here k h.item h.taken).older) h.item.input v d
        go (by_first f) e = f
        go (by_second f) e = absurd cc
        go (by_third f) e = absurd cc

    pub first-why : (k v : ℕ) (d : List ℕ) → IsVoted w k 1 v d → First p w (acc p w) k v d
    first-why k v d h = first-by k v d h (first-cause k v d h)
