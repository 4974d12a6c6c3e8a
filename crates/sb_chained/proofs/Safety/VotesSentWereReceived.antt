-- What a node shows of others' votes, it heard: each claim in a certificate that it sends stood in a message that it took.
use Rattle.std.proofs.Common.{◌≡◌, ◌⊎◌, ℕ, zero, suc, ◌==◌, ◌&&◌, Bool, true, false, if◌then◌else◌, List, [], ◌∷◌, ◌++◌, length, Option, Some, None, refl, sym, ap, ◌∙◌, subst, inl, inr}
use Rattle.std.specs.Prelude.{nat_lt}
use Rattle.iss_base.specs.Lists.{In, nth}
use Rattle.iss_base.proofs.Lists.{and-true, in_append, in_left, in_right, same_bytes-is}
use Rattle.iss_base.specs.Lists.{same_bytes}
use Rattle.iss_request.specs.declared.requests.Batch.{Batch}
use Rattle.iss_request.specs.declared.ids.NodeId.{NodeId}
use Rattle.iss_sb.specs.declared.effects.Claim.{Claim}
use Rattle.iss_sb.specs.declared.effects.Input.{Input}
use Rattle.iss_sb.specs.declared.effects.Input.TheVariants.{Cast, Receive, Timeout}
use Rattle.iss_sb.specs.declared.effects.Params.{Params}
use Rattle.iss_sb.specs.declared.effects.To.{To}
use Rattle.iss_sb.specs.Evidence.{Item, one_or_none}
use Rattle.iss_sb.specs.Statements.{claim, signature}
use Rattle.iss_sb.proofs.Claims.{IsOld, PassesOn, Says, before, now, own}
use Rattle.iss_sb.proofs.Leaves.{by-first, by-next}
use Rattle.iss_sb.specs.Laws.{ComesWith, IsSignedBy, SignsOnce, WasSeen}
use Rattle.hs_tree.specs.declared.certificates.Certificate.{Certificate}
use Rattle.hs_tree.specs.declared.certificates.Certificate.TheVariants.{Root, Votes}
use Rattle.iss_sb.specs.declared.signers.Signed.{Signed}
use Rattle.hs_tree.specs.declared.messages.Message.{Message}
use Rattle.hs_tree.specs.declared.messages.Body.{Body}
use Rattle.hs_tree.specs.declared.messages.Body.TheVariants.{NewView, Prepare, Vote}
use Rattle.hs_tree.specs.Messages.{signed}
use Rattle.iss_sb.specs.declared.content.Content.TheVariants.{Mark}
use Rattle.hs_tree.specs.Certificates.{digest_of, view_of}
use Rattle.hs_tree.specs.Statements.{certificate_claims, claims, inside, stated, vote_claims, vote_statement}
use Rattle.hs_tree.specs.Tree.{Node, chained as form, is_known}
use Rattle.sb_chained.specs.Chained.{answers, answers_heard, drafts, chained, proposals, sign_all, state, voted}
use Rattle.sb_chained.specs.Rules.{State, cast_turn, certificate, find, first_high, full_turn, heard, higher, is_marked, is_ready, keeps_news, keeps_vote, kept, known_high, may_cast, may_end, may_prepare, next_turn, node_digest, noted, proposed, shows, taken, turn, turn_after, turn_on, with_cast, with_news, with_node, with_round, with_shown, with_turn, with_vote, is_usable, is_reached}
use Rattle.hs_views.specs.Views.{Kept, News, Turn, all_news, best, is_for, news_of, round_of, vote_of, votes_of}
use Rattle.hs_views.proofs.DraftsAgree.{sent-drafted}
use Rattle.hs_views.proofs.Tests.{by-if, by-test, is-same}

-- G c: the claim c was received
module _ (p : Params) (G : Claim → Type 0) where
  abbrev AllSaid : List ℕ → List Signed → Type 0
  AllSaid s [] = Unit {0}
  AllSaid s (v ∷ vs) = G (claim v.by.0 s v.sig) × AllSaid s vs

  abbrev Said : Certificate → Type 0
  Said Root = Unit {0}
  Said (Votes view phase d votes) = AllSaid (vote_statement form p phase view d) votes

  abbrev VotesSaid : List Kept → Type 0
  VotesSaid [] = Unit {0}
  VotesSaid (v ∷ vs) = G (claim v.by (vote_statement form p 1 v.view v.digest) v.sig) × VotesSaid vs

  abbrev NewsSaid : List News → Type 0
  NewsSaid [] = Unit {0}
  NewsSaid (n ∷ ns) = Said n.high × NewsSaid ns

  abbrev TurnSaid : Option Turn → Type 0
  TurnSaid None = Unit {0}
  TurnSaid (Some t) = Said t.just

  record IsSaid (s : State) : Type 0 where
    high : Said s.high
    votes : VotesSaid s.votes
    news : NewsSaid s.news

  -- ---- From votes to claims and back

  abbrev Comes : ℕ → Message → Type 0
  Comes from msg = (c : Claim) → In c (claims form p from msg) → G c

  all-said : (s : List ℕ) (vs : List Signed) → ((c : Claim) → In c (vote_claims s vs) → G c) → AllSaid s vs
  all-said s [] h = tt
  all-said s (v ∷ vs) h = (h (claim v.by.0 s v.sig) (inl refl), all-said s vs (λ c k. h c (inr k)))

  said-by : (x : Certificate) → ((c : Claim) → In c (certificate_claims form p x) → G c) → Said x
  said-by Root h = tt
  said-by (Votes view phase d votes) h = all-said (vote_statement form p phase view d) votes h

  claims-said : (s : List ℕ) (vs : List Signed) → AllSaid s vs → (c : Claim) → In c (vote_claims s vs) → G c
  claims-said s [] h c k = absurd k
  claims-said s (v ∷ vs) h c (inl e) = subst G (sym e) h.0
  claims-said s (v ∷ vs) h c (inr k) = claims-said s vs h.1 c k

  said-claims : (x : Certificate) → Said x → (c : Claim) → In c (certificate_claims form p x) → G c
  said-claims Root h c k = absurd k
  said-claims (Votes view phase d votes) h c k = claims-said (vote_statement form p phase view d) votes h c k

  came-said : (from : ℕ) (msg : Message) → Comes from msg → Said (inside msg.body)
  came-said from msg h = said-by (inside msg.body) (λ c k. h c (in_left c (certificate_claims form p (inside msg.body)) _ k))

  came-own : (from : ℕ) (msg : Message) → Comes from msg → G (claim from (stated form p msg.body) msg.sig)
  came-own from msg h =
      let c = claim from (stated form p msg.body) msg.sig in
      h c (in_right c (certificate_claims form p (inside msg.body)) (c ∷ []) (inl refl))

  -- ---- Certificates of received votes and of received NewView messages

  for-said : (view : ℕ) (d : List ℕ) (k : ℕ) (v : Kept) → is_for 1 view d k v ≡ true → G (claim v.by (vote_statement form p 1 v.view v.digest) v.sig) → G (claim k (vote_statement form p 1 view d) v.sig)
  for-said view d k v h g =
      let a = and-true ((v.by == k) && (v.phase == 1)) ((v.view == view) && same_bytes v.digest d) h in
      let b = and-true (v.by == k) (v.phase == 1) a.0 in
      let c = and-true (v.view == view) (same_bytes v.digest d) a.1 in
      subst (λ (z : ℕ). G (claim z (vote_statement form p 1 view d) v.sig)) (is-same v.by k b.0)
      (subst (λ (z : List ℕ). G (claim v.by (vote_statement form p 1 view z) v.sig)) (same_bytes-is v.digest d c.1)
      (subst (λ (z : ℕ). G (claim v.by (vote_statement form p 1 z v.digest) v.sig)) (is-same v.view view c.0) g))

  one-said : (vs : List Kept) (view : ℕ) (d : List ℕ) (k : ℕ) → VotesSaid vs → AllSaid (vote_statement form p 1 view d) (one_or_none (vote_of vs 1 view d k))
  one-said [] view d k h = tt
  one-said (v ∷ vs) view d k h = go (is_for 1 view d k v) refl (one-said vs view d k h.1)
    where
      go : (b : Bool) → is_for 1 view d k v ≡ b → AllSaid (vote_statement form p 1 view d) (one_or_none (vote_of vs 1 view d k)) →
          AllSaid (vote_statement form p 1 view d) (one_or_none (if b then Some (record { by = record { 0 = k }; sig = v.sig }) else vote_of vs 1 view d k))
      go true q more = (for-said view d k v q h.0, tt)
      go false q more = more

  said-append : (s : List ℕ) (xs ys : List Signed) → AllSaid s xs → AllSaid s ys → AllSaid s (xs ++ ys)
  said-append s [] ys h g = g
  said-append s (x ∷ xs) ys h g = (h.0, said-append s xs ys h.1 g)

  votes-said : (n : ℕ) (vs : List Kept) (view : ℕ) (d : List ℕ) → VotesSaid vs → AllSaid (vote_statement form p 1 view d) (votes_of n vs 1 view d)
  votes-said zero vs view d h = tt
  votes-said (suc k) vs view d h = said-append _ (votes_of k vs 1 view d) _ (votes-said k vs view d h) (one-said vs view d k h)

  certificate-said : (s : State) (view : ℕ) (d : List ℕ) → VotesSaid s.votes → Said (certificate p s view d)
  certificate-said s view d h = votes-said p.setup.n s.votes view d h

  abbrev EachSaid : List Certificate → Type 0
  EachSaid [] = Unit {0}
  EachSaid (c ∷ cs) = Said c × EachSaid cs

  word-said : (ns : List News) (round k : ℕ) → NewsSaid ns → EachSaid (one_or_none (news_of ns round k))
  word-said [] round k h = tt
  word-said (n ∷ ns) round k h = by-if (λ (o : Option Certificate). EachSaid (one_or_none o)) ((n.by == k) && (n.round == round)) (Some n.high) (news_of ns round k) (h.0, tt) (word-said ns round k h.1)

  each-append : (xs ys : List Certificate) → EachSaid xs → EachSaid ys → EachSaid (xs ++ ys)
  each-append [] ys h g = g
  each-append (x ∷ xs) ys h g = (h.0, each-append xs ys h.1 g)

  news-said : (n : ℕ) (ns : List News) (round : ℕ) → NewsSaid ns → EachSaid (all_news n ns round)
  news-said zero ns round h = tt
  news-said (suc k) ns round h = each-append (all_news k ns round) _ (news-said k ns round h) (word-said ns round k h)

  best-said : (c : Certificate) (cs : List Certificate) → Said c → EachSaid cs → Said (best c cs)
  best-said c [] h g = h
  best-said c (d ∷ ds) h g = by-if Said (nat_lt (view_of c) (view_of d)) (best d ds) (best c ds) (best-said d ds g.0 g.1) (best-said c ds h g.1)

  -- ---- Turns

  cast-said : (view : ℕ) (just : Certificate) (slots : ℕ) (o : Option Batch) → Said just → TurnSaid (cast_turn p view just slots o)
  cast-said view just slots None h = tt
  cast-said view just slots (Some b) h = h

  after-said : (s : State) (t : Turn) → IsSaid s → TurnSaid (turn_after p s t)
  after-said s t h =
      let c = certificate-said s t.view t.digest h.votes in
      by-if TurnSaid (nat_lt t.slots (length p.slots)) _ _
      (by-if TurnSaid (round_of t.view == 0) _ _ (cast-said (suc t.view) (certificate p s t.view t.digest) t.slots (nth s.casts t.slots) c) c)
      (by-if TurnSaid (is_marked (suc t.view) (full_turn p s.turns (round_of t.view))) (Some (turn p (suc t.view) (certificate p s t.view t.digest) Mark t.slots)) None c tt)

  next-said : (s : State) (ts : List Turn) → IsSaid s → TurnSaid (next_turn p s ts)
  next-said s [] h = by-if TurnSaid (round_of s.view == 0) (cast_turn p 1 Root 0 (nth s.casts 0)) None (cast-said 1 Root 0 (nth s.casts 0) tt) tt
  next-said s (t ∷ ts) h = by-if TurnSaid (is_ready p s t) (turn_after p s t) None (after-said s t h) tt

  -- the best of a quorum's words
  abbrev MaySaid : Option Certificate → Type 0
  MaySaid None = Unit {0}
  MaySaid (Some c) = Said c

  high-said : (s : State) (round : ℕ) → IsSaid s → MaySaid (first_high p s round)
  high-said s round h =
      let cs = all_news p.setup.n s.news round in
      by-if MaySaid _ (known_high s (best Root cs)) None
      (by-if MaySaid (is_known s.tree (digest_of (best Root cs))) (Some (best Root cs)) None (best-said Root cs tt (news-said p.setup.n s.news round h.news)) tt) tt

  first-said : (s : State) (round : ℕ) → IsSaid s → TurnSaid (turn_on p s round (first_high p s round))
  first-said s round h = go (first_high p s round) (high-said s round h)
    where
      go : (o : Option Certificate) → MaySaid o → TurnSaid (turn_on p s round o)
      go None m = tt
      go (Some c) m = m

  -- ---- The state

  heard-said : (me : ℕ) (s : State) (from : ℕ) (body : Body) (sig : List ℕ) → Comes from (signed body sig) → IsSaid s → IsSaid (heard p me s from body sig)
  heard-said me s from (NewView round high) sig m h = by-if IsSaid (keeps_news p me s from round high) (with_news s from round high) s
      (record { high = h.high; votes = h.votes; news = (came-said from (signed (NewView round high) sig) m, h.news) }) h
  heard-said me s from (Prepare view what just) sig m h = by-if IsSaid (may_prepare p s from view what just) (with_node p s view what just) s (record { high = h.high; votes = h.votes; news = h.news }) h
  heard-said me s from (Vote phase view d) sig m h = by-test IsSaid (keeps_vote p s from phase view d) (with_vote s from view d sig) s (λ q.
      let one = is-same phase 1 (and-true (phase == 1) _ (and-true _ _ q).0).0 in
      record { high = h.high; votes = (subst (λ (z : ℕ). G (claim from (vote_statement form p z view d) sig)) one (came-own from (signed (Vote phase view d) sig) m), h.votes); news = h.news }) h
  heard-said me s from other sig m h = h

  abbrev ComesIn : Input Message → Type 0
  ComesIn (Cast slot batch) = Unit {0}
  ComesIn (Receive from msg) = Comes from.0 msg
  ComesIn Timeout = Unit {0}

  taken-said : (me : ℕ) (s : State) (i : Input Message) → ComesIn i → IsSaid s → IsSaid (taken p me s i)
  taken-said me s (Cast slot batch) m h = by-if IsSaid (may_cast p me s slot.0) (with_cast s batch) s (record { high = h.high; votes = h.votes; news = h.news }) h
  taken-said me s (Receive from msg) m h = heard-said me s from.0 msg.body msg.sig m h
  taken-said me s Timeout m h = by-if IsSaid (may_end s) (with_round s) s (record { high = h.high; votes = h.votes; news = h.news }) h

  -- what is shown came, or was kept
  shows-said-heard : (me : ℕ) (s k : State) (from : NodeId) (body : Body) (sig : List ℕ) → ComesIn (Receive from (signed body sig)) → IsSaid k → MaySaid (shows p me s k (Receive from (signed body sig)))
  shows-said-heard me s k from (NewView round high) sig m h = by-if MaySaid (keeps_news p me s from.0 round high) (first_high p k round) None (high-said k round h) tt
  shows-said-heard me s k from (Prepare view what just) sig m h = by-if MaySaid (is_usable p s from.0 view just) (Some just) None (came-said from.0 (signed (Prepare view what just) sig) m) tt
  shows-said-heard me s k from (Vote phase view d) sig m h = by-if MaySaid (keeps_vote p s from.0 phase view d && is_reached p k view d) (Some (certificate p k view d)) None (certificate-said k view d h.votes) tt
  shows-said-heard me s k from other sig m h = tt

  shows-said : (me : ℕ) (s k : State) (i : Input Message) → ComesIn i → IsSaid k → MaySaid (shows p me s k i)
  shows-said me s k (Cast slot batch) m h = tt
  shows-said me s k (Receive from msg) m h = shows-said-heard me s k from msg.body msg.sig m h
  shows-said me s k Timeout m h = tt

  higher-said : (c d : Certificate) → Said c → Said d → Said (higher c d)
  higher-said c d h g = by-if Said (nat_lt (view_of c) (view_of d)) d c g h

  noted-said : (s : State) (q : Certificate) (o : Option Node) → Said q → IsSaid s → IsSaid (noted s q o)
  noted-said s q None g h = h
  noted-said s q (Some x) g h = record { high = higher-said s.high q h.high g; votes = h.votes; news = h.news }

  with-said : (s : State) (o : Option Certificate) → MaySaid o → IsSaid s → IsSaid (with_shown s o)
  with-said s None g h = h
  with-said s (Some Root) g h = h
  with-said s (Some (Votes view phase d votes)) g h = noted-said s (Votes view phase d votes) (find s.tree d) g h

  kept-said : (me : ℕ) (s : State) (i : Input Message) → ComesIn i → IsSaid s → IsSaid (kept p me s i)
  kept-said me s i m h =
      let t = taken p me s i in
      let g = taken-said me s i m h in
      with-said t (shows p me s t i) (shows-said me s t i m g) g

  turn-said : (s : State) (o : Option Turn) → IsSaid s → IsSaid (with_turn s o)
  turn-said s None h = h
  turn-said s (Some t) h = record { high = h.high; votes = h.votes; news = h.news }

  state-said : (me : ℕ) (xs : List (Item Message)) → ((x : Item Message) → In x xs → ComesIn x.input) → IsSaid (state p me xs)
  state-said me [] m = record { high = tt; votes = tt; news = tt }
  state-said me (x ∷ xs) m =
      let k = kept-said me (state p me xs) x.input (m x (inl refl)) (state-said me xs (λ y q. m y (inr q))) in
      turn-said (kept p me (state p me xs) x.input) (proposed p me (state p me xs) (kept p me (state p me xs) x.input) x.input) k

  -- ---- Sent messages

  abbrev SendsSaid : List (To × Body) → Type 0
  SendsSaid [] = Unit {0}
  SendsSaid (x ∷ xs) = Said (inside x.1) × SendsSaid xs

  sends-append : (xs ys : List (To × Body)) → SendsSaid xs → SendsSaid ys → SendsSaid (xs ++ ys)
  sends-append [] ys h g = g
  sends-append (x ∷ xs) ys h g = (h.0, sends-append xs ys h.1 g)

  proposal-said : (o : Option Turn) → TurnSaid o → SendsSaid (proposals o)
  proposal-said None h = tt
  proposal-said (Some t) h = (h, tt)

  answer-said : (s : State) (from : ℕ) (body : Body) (sig : List ℕ) → SendsSaid (answers_heard p s from body)
  answer-said s from (Prepare view what just) sig = by-if SendsSaid (may_prepare p s from view what just) (voted p view (node_digest p view what just)) [] (tt, tt) tt
  answer-said s from other sig = tt

  answers-said : (s : State) (i : Input Message) → IsSaid s → SendsSaid (answers p s i)
  answers-said s (Cast slot batch) h = tt
  answers-said s (Receive from msg) h = answer-said s from.0 msg.body msg.sig
  answers-said s Timeout h = by-if SendsSaid (may_end s) _ [] (h.high, tt) tt

  proposed-said-heard : (me : ℕ) (s k : State) (from : NodeId) (body : Body) (sig : List ℕ) → IsSaid k → TurnSaid (proposed p me s k (Receive from (signed body sig)))
  proposed-said-heard me s k from (NewView round high) sig h = by-if TurnSaid (keeps_news p me s from.0 round high) (turn_on p k round (first_high p k round)) None (first-said k round h) tt
  proposed-said-heard me s k from (Vote phase view d) sig h = by-if TurnSaid _ (next_turn p k k.turns) None (next-said k k.turns h) tt
  proposed-said-heard me s k from other sig h = tt

  proposed-said : (me : ℕ) (s k : State) (i : Input Message) → IsSaid k → TurnSaid (proposed p me s k i)
  proposed-said me s k (Cast slot batch) h = by-if TurnSaid (may_cast p me s slot.0) (next_turn p k k.turns) None (next-said k k.turns h) tt
  proposed-said me s k (Receive from msg) h = proposed-said-heard me s k from msg.body msg.sig h
  proposed-said me s k Timeout h = tt

  drafts-said : (me : ℕ) (s : State) (i : Input Message) → ComesIn i → IsSaid s → SendsSaid (drafts p me s i)
  drafts-said me s i m h =
      let k = kept p me s i in
      let g = kept-said me s i m h in
      sends-append (answers p s i) (proposals (proposed p me s k i)) (answers-said s i h) (proposal-said (proposed p me s k i) (proposed-said me s k i g))

  draft-said : (ds : List (To × Body)) → SendsSaid ds → (to : To) (body : Body) → In {A = To × Body} (to, body) ds → Said (inside body)
  draft-said [] h to body k = absurd k
  draft-said (x ∷ ds) h to body (inl e) = subst (λ (z : To × Body). Said (inside z.1)) (sym e) h.0
  draft-said (x ∷ ds) h to body (inr k) = draft-said ds h.1 to body k

-- ---- The statement of a message's sender

abbrev pub States : Params → ℕ → Message → List ℕ → Type 0
States p i msg statement = stated form p msg.body ≡ statement

-- ---- What is passed on was received

module _ (p : Params) where
  abbrev Seen : ℕ → List (Item Message) → Input Message → Claim → Type 0
  Seen me xs input c = ComesWith chained p c input ⊎ WasSeen chained p me xs c

  comes-now : (me : ℕ) (xs : List (Item Message)) (i : Input Message) → ComesIn p (Seen me xs i) i
  comes-now me xs (Cast slot batch) = tt
  comes-now me xs (Receive from msg) = λ c h. inl h
  comes-now me xs Timeout = tt

  comes-before : (me : ℕ) (xs : List (Item Message)) (i : Input Message) (x : Item Message) → In x xs → ComesIn p (Seen me xs i) x.input
  comes-before me xs i x q = go x.input refl
    where
      go : (y : Input Message) → x.input ≡ y → ComesIn p (Seen me xs i) y
      go (Cast slot batch) e = tt
      go (Receive from msg) e =
          λ c h. inr (record { item = x; taken = q; holds = inl (subst (λ (z : Input Message). ComesWith chained p c z) (sym e) h) })
      go Timeout e = tt

  -- each claim in a certificate that is sent was received before
  pub inside-seen : (me : ℕ) (xs : List (Item Message)) (input : Input Message) (leaf : ℕ) (to : To) (msg : Message) → In {A = To × Message} (to, msg) (sign_all p me leaf (drafts p me (state p me xs) input)) →
      (c : Claim) → In c (certificate_claims form p (inside msg.body)) → Seen me xs input c
  inside-seen me xs input leaf to msg sent =
      let G : Claim → Type 0 = Seen me xs input in
      let s = state p me xs in
      let ds = drafts-said p G me s input (comes-now me xs input) (state-said p G me xs (λ x q. comes-before me xs input x q)) in
      said-claims p G (inside msg.body) (draft-said p G (drafts p me s input) ds to msg.body (sent-drafted form p me leaf (drafts p me s input) to msg sent))

  says-it : (from : ℕ) (msg : Message) (c : Claim) (k : ℕ) (t : List ℕ) → In c (claims form p from msg) → c.by.0 ≡ k → c.statement ≡ t → Says chained p from msg k t
  says-it from msg c k t h by is = record { claim = c; stands = h; named = by; is = is }

  module _ (me : ℕ) (xs : List (Item Message)) (input : Input Message) (c : Claim) (k : ℕ) (t : List ℕ) (by : c.by.0 ≡ k) (is : c.statement ≡ t) where
    old-now : (y : Input Message) → input ≡ y → ComesWith chained p c y → IsOld chained p me xs input k t
    old-now (Cast slot batch) e h = absurd h
    old-now (Receive from msg) e h = now from msg e (says-it from.0 msg c k t h by is)
    old-now Timeout e h = absurd h

    old-before : (x : Item Message) → In x xs → (y : Input Message) → x.input ≡ y → ComesWith chained p c y → IsOld chained p me xs input k t
    old-before x q (Cast slot batch) e h = absurd h
    old-before x q (Receive from msg) e h = before x q from msg e (says-it from.0 msg c k t h by is)
    old-before x q Timeout e h = absurd h

    seen-old : Seen me xs input c → IsOld chained p me xs input k t
    seen-old (inl h) = old-now input refl h
    seen-old (inr w) = elim w.holds [
      | inl h ↦ old-before w.item w.taken w.item.input refl h
      | inr g ↦ own w.item w.taken g.to g.msg g.sent (says-it me g.msg c k t g.holds by is)
    ]

  pub passes-on : PassesOn chained p (States p)
  passes-on w legal me input leaf correct may to msg statement sent said =
      elim (in_append said.claim (certificate_claims form p (inside msg.body)) (claim me (stated form p msg.body) msg.sig ∷ []) said.stands) [
        | inl a ↦ inr (seen-old me (w me) input said.claim me statement said.named said.is (inside-seen me (w me) input leaf to msg sent said.claim a))
        | inr a ↦ inl (mine a)
      ]
    where
      mine : In said.claim (claim me (stated form p msg.body) msg.sig ∷ []) → stated form p msg.body ≡ statement
      mine (inl e) = sym (ap (λ (z : Claim). z.statement) e) ∙ said.is
      mine (inr none) = absurd none

-- ---- The statements that the leaves of a step sign

module _ (p : Params) (me : ℕ) where
  abbrev statements : List (To × Body) → List (List ℕ)
  statements [] = []
  statements (x ∷ xs) = stated form p x.1 ∷ statements xs

  as-many : (ds : List (To × Body)) → length (statements ds) ≡ length ds
  as-many [] = refl
  as-many (x ∷ ds) = ap suc (as-many ds)

  first-signed : (leaf : ℕ) (x : To × Body) (ds : List (To × Body)) (msg : Message) (c : Claim) →
      msg ≡ signed x.1 (signature p me leaf (stated form p x.1)) → c ≡ claim me (stated form p msg.body) msg.sig → IsSignedBy p me leaf (statements (x ∷ ds)) c
  first-signed leaf x ds msg c is e =
      let same : stated form p x.1 ≡ c.statement = sym (ap (λ (z : Claim). z.statement) e ∙ ap (λ (z : Message). stated form p z.body) is) in
      by-first p me leaf (stated form p x.1) (statements ds) c same (ap (λ (z : Claim). z.sig) e ∙ ap (λ (z : Message). z.sig) is)

  signed-at : (leaf : ℕ) (ds : List (To × Body)) (to : To) (msg : Message) (c : Claim) → In {A = To × Message} (to, msg) (sign_all p me leaf ds) →
      In c (claim me (stated form p msg.body) msg.sig ∷ []) → IsSignedBy p me leaf (statements ds) c
  signed-at leaf ds to msg c h (inr none) = absurd none
  signed-at leaf [] to msg c h (inl e) = absurd h
  signed-at leaf (x ∷ ds) to msg c (inl q) (inl e) = first-signed leaf x ds msg c (ap (λ (z : To × Message). z.1) q) e
  signed-at leaf (x ∷ ds) to msg c (inr k) (inl e) =
      by-next p me leaf (stated form p x.1) (statements ds) c (signed-at (suc leaf) ds to msg c k (inl e))

pub chained-signs-once : SignsOnce chained
chained-signs-once p me xs i leaf good made =
    let ds = drafts p me (state p me xs) i in
    record {
      statements = statements p me ds;
      each = as-many p me ds;
      own = λ c by g. elim (in_append c (certificate_claims form p (inside g.msg.body)) (claim me (stated form p g.msg.body) g.msg.sig ∷ []) g.holds) [
        | inl a ↦ inr (inside-seen p me xs i leaf g.to g.msg g.sent c a)
        | inr a ↦ inl (signed-at p me leaf ds g.to g.msg c g.sent a)
      ];
    }
