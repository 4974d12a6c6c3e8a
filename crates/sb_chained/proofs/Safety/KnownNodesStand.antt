-- What a node keeps: each node of its tree stands over its parent, on a certificate, and is of a view up to its own, or of one that it
-- leads; kept votes and words are such; and the lock is a certificate's.
use Rattle.std.proofs.Common.{◌≡◌, ◌≤◌, ◌<◌, ℕ, zero, suc, ◌+◌, ◌*◌, ◌/◌, ◌%◌, ◌==◌, ◌&&◌, ◌||◌, cond, Bool, true, false, if◌then◌else◌, List, [], ◌∷◌, ◌++◌, length, Option, Some, None, is_some, refl, sym, ap, ◌∙◌, subst, inl, inr, ◌⊎◌, true≢false, arith}
use Rattle.std.specs.Prelude.{nat_lt}
use Rattle.std.proofs.Math.Nat.{mod-eq_of_lt}
use Rattle.std.proofs.lemmas.Bool.{leb-true, ltb-true}
use Rattle.std.proofs.lemmas.List.{length-append}
use Rattle.iss_base.specs.Lists.{In, nth, same_bytes}
use Rattle.iss_base.specs.Quorum.{count_below}
use Rattle.iss_base.proofs.Lists.{and-true, in_right, same_bytes-is, same_bytes-refl}
use Rattle.iss_request.specs.declared.requests.Batch.{Batch}
use Rattle.iss_request.specs.declared.ids.NodeId.{NodeId}
use Rattle.iss_sb.specs.declared.effects.Input.{Input}
use Rattle.iss_sb.specs.declared.effects.Input.TheVariants.{Cast, Receive, Timeout}
use Rattle.iss_sb.specs.declared.effects.Params.{Params}
use Rattle.iss_sb.specs.Calls.{IsGoodParams}
use Rattle.iss_sb.specs.Evidence.{IsReached, IsSigned, IsString, Item, Made, Separate, World, is_correct, one_or_none}
use Rattle.iss_sb.specs.declared.content.Content.{Content}
use Rattle.hs_tree.specs.declared.certificates.Certificate.{Certificate}
use Rattle.hs_tree.specs.declared.certificates.Certificate.TheVariants.{Root, Votes}
use Rattle.iss_sb.specs.declared.signers.Signed.{Signed}
use Rattle.hs_tree.specs.declared.messages.Message.{Message}
use Rattle.hs_tree.specs.declared.messages.Body.{Body}
use Rattle.hs_tree.specs.declared.messages.Body.TheVariants.{NewView, Prepare, Vote}
use Rattle.hs_tree.specs.Messages.{signed}
use Rattle.hs_tree.specs.Certificates.{digest_of, view_of}
use Rattle.iss_sb.specs.Statements.{claim}
use Rattle.hs_tree.specs.Statements.{certificate_claims, inside, stated, vote_statement}
use Rattle.hs_tree.specs.Tree.{Node, chained as form, is_known, root}
use Rattle.iss_sb.proofs.Contents.{content-table}
use Rattle.iss_sb.specs.declared.content.Content.TheVariants.{Nil, Holds, Mark}
use Rattle.sb_chained.specs.Chained.{chained, state, strings_at, taken_of, turn_strings}
use Rattle.sb_chained.specs.Facts.{IsAt, IsCertified, IsVoted}
use Rattle.sb_chained.specs.Paths.{IsNode, IsTree}
use Rattle.sb_chained.specs.declared.links.Lock.{Lock}
use Rattle.sb_chained.specs.Rules.{State, cast_turn, certificate, find, first_high, full_turn, is_marked, is_ready, is_reached, is_usable, keeps_news, keeps_vote, kept, known_high, may_cast, may_end, may_prepare, next_turn, node_digest, node_of, node_on, noted, proposed, raised, shows, taken, turn, turn_after, turn_on, with_cast, with_news, with_node, with_round, with_shown, with_turn, with_vote}
use Rattle.hs_views.specs.Views.{Kept, News, Turn, all_news, best, is_for, leader_of, news_of, round_of, vote_of, votes_of}
use Rattle.sb_chained.proofs.Safety.OneVoteAView.{round-above, taken-view, tests}
use Rattle.sb_chained.proofs.Safety.CertifiedNodes.{certified-at, certified-not-root}
use Rattle.sb_chained.proofs.Safety.NodesHaveOneView.{found-is}
use Rattle.sb_chained.proofs.ModuleLaws.SentMessagesDecode.{Fits, MayTurn, TurnFits, TurnsFit, digest-length, heard-is, kept-fits, proposed-new, state-fits}
use Rattle.sb_chained.proofs.Safety.VotesHaveCauses.{IsHigh, OwnCert, Part, came, front-older, hashed-at, just-why, own-low, own-raised, part-heard, part-here, parts, stands-why, taken-at, usable, voted}
use Rattle.hs_views.proofs.Tests.{by-if, by-test, is-same}

-- ---- nodes that are found

pub known-find : (ks : List Node) (d : List ℕ) → is_known ks d ≡ true → (d ≡ root) ⊎ ((x : Node) × (find ks d ≡ Some x))
known-find [] d h = inl (same_bytes-is d root h)
known-find (k ∷ ks) d h = go (same_bytes k.digest d) h (known-find ks d)
  where
    go : (b : Bool) → (b || is_known ks d) ≡ true → (is_known ks d ≡ true → (d ≡ root) ⊎ ((x : Node) × (find ks d ≡ Some x))) → (d ≡ root) ⊎ ((x : Node) × ((if b then Some k else find ks d) ≡ Some x))
    go true e more = inr (k, refl)
    go false e more = more e

pub known-more : (b : Bool) (ks : List Node) (d : List ℕ) → is_known ks d ≡ true → (b || is_known ks d) ≡ true
known-more true ks d h = refl
known-more false ks d h = h

-- ---- how many votes there are

votes-count : (n : ℕ) (vs : List Kept) (view : ℕ) (d : List ℕ) → length (votes_of n vs 1 view d) ≡ count_below (λ k. is_some (vote_of vs 1 view d k)) n
votes-count zero vs view d = refl
votes-count (suc k) vs view d =
    let both = length-append (votes_of k vs 1 view d) (one_or_none (vote_of vs 1 view d k)) in
    let rest = votes-count k vs view d in
    let here = single (vote_of vs 1 view d k) in
    omega (arith, both, rest, here)
  where
    single : (o : Option Signed) → length (one_or_none o) ≡ cond (is_some o) 1 0
    single None = refl
    single (Some x) = refl

module _ (p : Params) (w : World Message) (good : IsGoodParams chained p) (reached : IsReached chained p w) (me : ℕ) where
  -- a view up to the bound, or one that the node leads
  abbrev pub IsPlaced : ℕ → ℕ → Type 0
  IsPlaced bound view = (view ≤ bound) ⊎ (leader_of p (round_of view) ≡ me)

  pub record NodeOk (bound : ℕ) (k : Node) : Type 0 where
    pub just : ((k.from ≡ 0) × (k.parent ≡ root)) ⊎ ((k.from < k.view) × OwnCert p w me bound k.from k.parent)
    pub placed : IsPlaced bound k.view

  abbrev pub AllNodes : ℕ → List Node → Type 0
  AllNodes bound [] = Unit {0}
  AllNodes bound (k ∷ ks) = NodeOk bound k × AllNodes bound ks

  pub record KeptOk (bound : ℕ) (v : Kept) : Type 0 where
    pub sent : is_correct p.setup v.by ≡ true → IsVoted w v.by v.view v.digest
    pub own : v.by ≡ me → v.view ≤ bound

  abbrev pub AllKept : ℕ → List Kept → Type 0
  AllKept bound [] = Unit {0}
  AllKept bound (v ∷ vs) = KeptOk bound v × AllKept bound vs

  abbrev High : ℕ → Certificate → Type 0
  High bound c = IsHigh p w good reached me bound c

  pub record WordOk (bound : ℕ) (n : News) : Type 0 where
    pub high : IsHigh p w good reached me bound n.high
    pub low : view_of n.high < n.round * 65536

  abbrev pub AllWords : ℕ → List News → Type 0
  AllWords bound [] = Unit {0}
  AllWords bound (n ∷ ns) = WordOk bound n × AllWords bound ns

  pub record TurnKnown (ks : List Node) (t : Turn) : Type 0 where
    pub leads : leader_of p (round_of t.view) ≡ me
    pub known : is_known ks t.digest ≡ true

  abbrev pub AllTurns : List Node → List Turn → Type 0
  AllTurns ks [] = Unit {0}
  AllTurns ks (t ∷ ts) = TurnKnown ks t × AllTurns ks ts

  abbrev pub LockOk : ℕ → Lock → Type 0
  LockOk bound l = ((l.view ≡ 0) × (l.node ≡ root)) ⊎ (OwnCert p w me bound l.view l.node × IsPlaced bound l.view)

  pub record Ok (s : State) : Type 0 where
    pub tree : IsTree p.setup.version (IsString w) s.tree
    pub nodes : AllNodes s.view s.tree
    pub votes : AllKept s.view s.votes
    pub words : AllWords s.view s.news
    pub turns : AllTurns s.tree s.turns
    pub lock : LockOk s.view s.lock
    pub casts : (k : ℕ) (b : Batch) → nth s.casts k ≡ Some b → me ≡ p.leader.0

  -- ---- in a higher view

  module _ (low high : ℕ) (le : low ≤ high) where
    cert-up : (view : ℕ) (d : List ℕ) → OwnCert p w me low view d → OwnCert p w me high view d
    cert-up view d c = own-raised p w me low high view d le c

    placed-up : (view : ℕ) → IsPlaced low view → IsPlaced high view
    placed-up view (inl l) = inl (omega (arith, l, le))
    placed-up view (inr q) = inr q

    node-up : (k : Node) → NodeOk low k → NodeOk high k
    node-up k h = record { just = elim h.just [ inl r ↦ inl r | inr c ↦ inr (c.0, cert-up k.from k.parent c.1) ]; placed = placed-up k.view h.placed }

    nodes-up : (ks : List Node) → AllNodes low ks → AllNodes high ks
    nodes-up [] h = tt
    nodes-up (k ∷ ks) h = (node-up k h.0, nodes-up ks h.1)

    votes-up : (vs : List Kept) → AllKept low vs → AllKept high vs
    votes-up [] h = tt
    votes-up (v ∷ vs) h = (record { sent = h.0.sent; own = λ q. let l = h.0.own q in omega (arith, l, le) }, votes-up vs h.1)

    pub high-up : (c : Certificate) → IsHigh p w good reached me low c → IsHigh p w good reached me high c
    high-up c (inl r) = inl r
    high-up c (inr o) = inr (cert-up (view_of c) (digest_of c) o)

    words-up : (ns : List News) → AllWords low ns → AllWords high ns
    words-up [] h = tt
    words-up (n ∷ ns) h = (record { high = high-up n.high h.0.high; low = h.0.low }, words-up ns h.1)

    lock-up : (l : Lock) → LockOk low l → LockOk high l
    lock-up l (inl r) = inl r
    lock-up l (inr c) = inr (cert-up l.view l.node c.0, placed-up l.view c.1)

  turns-more : (k : Node) (ks : List Node) (ts : List Turn) → AllTurns ks ts → AllTurns (k ∷ ks) ts
  turns-more k ks [] h = tt
  turns-more k ks (t ∷ ts) h = (record { leads = h.0.leads; known = known-more (same_bytes k.digest t.digest) ks t.digest h.0.known }, turns-more k ks ts h.1)

  pub ok-up : (s : State) (view : ℕ) → s.view ≤ view → Ok s → Ok (record s { view = view })
  ok-up s view le h = record {
    tree = h.tree;
    nodes = nodes-up s.view view le s.tree h.nodes;
    votes = votes-up s.view view le s.votes h.votes;
    words = words-up s.view view le s.news h.words;
    turns = h.turns;
    lock = lock-up s.view view le s.lock h.lock;
    casts = h.casts;
  }

  node-more : (s : State) (k : Node) → IsNode p.setup.version (IsString w) k.digest k.view k.parent k.what → is_known s.tree k.parent ≡ true → NodeOk s.view k → Ok s → Ok (record s { tree = k ∷ s.tree })
  node-more s k at known ok h = record {
    tree = (at, known, h.tree);
    nodes = (ok, h.nodes);
    votes = h.votes;
    words = h.words;
    turns = turns-more k s.tree s.turns h.turns;
    lock = h.lock;
    casts = h.casts;
  }

  -- ---- certificates of kept votes

  some-is : (o : Option Signed) → is_some o ≡ true → (x : Signed) × (o ≡ Some x)
  some-is None h = absurd (true≢false (sym h))
  some-is (Some x) h = (x, refl)

  vote-is : (bound : ℕ) (vs : List Kept) (view : ℕ) (d : List ℕ) (k : ℕ) (x : Signed) → AllKept bound vs → vote_of vs 1 view d k ≡ Some x → (is_correct p.setup k ≡ true → IsVoted w k view d) × (k ≡ me → view ≤ bound)
  vote-is bound [] view d k x h e = absurd cc
  vote-is bound (v ∷ vs) view d k x h e = go (is_for 1 view d k v) refl e (vote-is bound vs view d k x h.1)
    where
      mine : is_for 1 view d k v ≡ true → (is_correct p.setup k ≡ true → IsVoted w k view d) × (k ≡ me → view ≤ bound)
      mine q =
          let a = and-true ((v.by == k) && (v.phase == 1)) ((v.view == view) && same_bytes v.digest d) q in
          let b = and-true (v.view == view) (same_bytes v.digest d) a.1 in
          let by = is-same v.by k (and-true (v.by == k) (v.phase == 1) a.0).0 in
          let at = is-same v.view view b.0 in
          let of = same_bytes-is v.digest d b.1 in (
            (λ c. subst (λ (z : ℕ). IsVoted w z view d) by (subst (λ (z : ℕ). IsVoted w v.by z d) at (subst (λ (z : List ℕ). IsVoted w v.by v.view z) of (h.0.sent (ap (λ (z : ℕ). is_correct p.setup z) by ∙ c))))),
            (λ c. let l = h.0.own (by ∙ c) in omega (arith, l, at)),
          )

      go : (b : Bool) → is_for 1 view d k v ≡ b → (if b then Some (record { by = record { 0 = k }; sig = v.sig }) else vote_of vs 1 view d k) ≡ Some x →
          (vote_of vs 1 view d k ≡ Some x → (is_correct p.setup k ≡ true → IsVoted w k view d) × (k ≡ me → view ≤ bound)) → (is_correct p.setup k ≡ true → IsVoted w k view d) × (k ≡ me → view ≤ bound)
      go true q r more = mine q
      go false q r more = more r

  pub reached-cert : (s : State) (view : ℕ) (d : List ℕ) → AllKept s.view s.votes → is_reached p s view d ≡ true → OwnCert p w me s.view view d
  reached-cert s view d h q =
      let many = is-same (length (votes_of p.setup.n s.votes 1 view d)) p.setup.quorum q in
      let count = votes-count p.setup.n s.votes view d in
      record {
        cert = record {
          test = λ k. is_some (vote_of s.votes 1 view d k);
          many = omega (arith, many, count);
          each = λ k t c. let x = some-is (vote_of s.votes 1 view d k) t in (vote-is s.view s.votes view d k x.0 h x.1).0 c;
        };
        own = λ t. let x = some-is (vote_of s.votes 1 view d me) t in (vote-is s.view s.votes view d me x.0 h x.1).1 refl;
      }

  -- ---- the best of kept words

  record BestOk (bound round : ℕ) (c : Certificate) : Type 0 where
    high : High bound c
    low : view_of c < round * 65536

  abbrev EachOk : ℕ → ℕ → List Certificate → Type 0
  EachOk bound round [] = Unit {0}
  EachOk bound round (c ∷ cs) = BestOk bound round c × EachOk bound round cs

  word-ok : (bound round k : ℕ) (ns : List News) → AllWords bound ns → EachOk bound round (one_or_none (news_of ns round k))
  word-ok bound round k [] h = tt
  word-ok bound round k (n ∷ ns) h = by-test (λ (o : Option Certificate). EachOk bound round (one_or_none o)) ((n.by == k) && (n.round == round)) (Some n.high) (news_of ns round k)
      (λ q. let r = is-same n.round round (and-true (n.by == k) (n.round == round) q).1 in (record { high = h.0.high; low = subst (λ (z : ℕ). view_of n.high < z * 65536) r h.0.low }, tt)) (word-ok bound round k ns h.1)

  each-append : (bound round : ℕ) (xs ys : List Certificate) → EachOk bound round xs → EachOk bound round ys → EachOk bound round (xs ++ ys)
  each-append bound round [] ys h g = g
  each-append bound round (x ∷ xs) ys h g = (h.0, each-append bound round xs ys h.1 g)

  news-ok : (bound round n : ℕ) (ns : List News) → AllWords bound ns → EachOk bound round (all_news n ns round)
  news-ok bound round zero ns h = tt
  news-ok bound round (suc k) ns h = each-append bound round (all_news k ns round) _ (news-ok bound round k ns h) (word-ok bound round k ns h)

  best-ok : (bound round : ℕ) (c : Certificate) (cs : List Certificate) → BestOk bound round c → EachOk bound round cs → BestOk bound round (best c cs)
  best-ok bound round c [] h g = h
  best-ok bound round c (d ∷ ds) h g = by-if (BestOk bound round) (nat_lt (view_of c) (view_of d)) (best d ds) (best c ds) (best-ok bound round d ds g.0 g.1) (best-ok bound round c ds h g.1)

  -- the best of a quorum's words, whose node is known
  record HighOk (s : State) (round : ℕ) (c : Certificate) : Type 0 where
    best : BestOk s.view round c
    known : is_known s.tree (digest_of c) ≡ true

  abbrev MayBest : State → ℕ → Option Certificate → Type 0
  MayBest s round None = Unit {0}
  MayBest s round (Some c) = HighOk s round c

  root-low : (r : ℕ) → 1 ≤ r → 0 < r * 65536
  root-low r l = omega (arith, l)

  first-high-ok : (s : State) (round : ℕ) → 1 ≤ round → AllWords s.view s.news → MayBest s round (first_high p s round)
  first-high-ok s round low h =
      let cs = all_news p.setup.n s.news round in
      let b = best-ok s.view round Root cs (record { high = inl refl; low = root-low round low }) (news-ok s.view round p.setup.n s.news h) in
      by-if (MayBest s round) _ (known_high s (best Root cs)) None (by-test (MayBest s round) (is_known s.tree (digest_of (best Root cs))) (Some (best Root cs)) None (λ q. record { best = b; known = q }) tt) tt

  round-some : (s : State) (from round : ℕ) (high : Certificate) → keeps_news p me s from round high ≡ true → (1 ≤ round) × (me ≡ leader_of p round)
  round-some s from round high q =
      let a = and-true _ _ (and-true _ _ (and-true _ _ q).0).0 in
      (leb-true 1 round a.0, is-same me (leader_of p round) a.1)

  -- ---- what is taken

  abbrev P : List (Item Message) → Type 0
  P xs = Part p w good reached me xs

  module _ (x : Item Message) (xs : List (Item Message)) (f : Part p w good reached me (x ∷ xs)) where
    abbrev s : State
    s = state p me xs

    taken-ok-heard : (from : NodeId) (body : Body) (sig : List ℕ) → x.input ≡ (Receive from (signed body sig)) → Ok (state p me xs) → Ok (taken p me (state p me xs) (Receive from (signed body sig)))
    taken-ok-heard from (NewView round high) sig e h = by-test Ok (keeps_news p me s from.0 round high) (with_news s from.0 round high) s (λ q.
        let just = (and-true _ _ (and-true _ _ q).0).1 in
        let j = just-why p w good reached me x xs (round * 65536) from (signed (NewView round high) sig) f e just in
        let some = (round-some s from.0 round high q).0 in
        record { tree = h.tree; nodes = h.nodes; votes = h.votes; words = (record { high = j.1; low = below round high some j.0 }, h.words); turns = h.turns; lock = h.lock; casts = h.casts }) h
      where
        below : (r : ℕ) (c : Certificate) → 1 ≤ r → (c ≡ Root) ⊎ (view_of c < r * 65536) → view_of c < r * 65536
        below r c l (inl q) = subst (λ (z : Certificate). view_of z < r * 65536) (sym q) (root-low r l)
        below r c l (inr q) = q
    taken-ok-heard from (Prepare view what just) sig e h = by-test Ok (may_prepare p s from.0 view what just) (with_node p s view what just) s (λ q.
        let above = (tests p s from.0 view what just q).above in
        let le : s.view ≤ view = omega (arith, above) in
        let ps = parts p w good reached s from.0 view what just q in
        let j = just-why p w good reached me x xs view from (signed (Prepare view what just) sig) f e ps.fine.just_is in
        let at = taken-at p w good reached me x xs from view what just sig f e q in
        node-more (record s { view = view }) (node_on p view what just) at ps.fine.known (record { just = on just view j.0 (high-up s.view view le just j.1); placed = inl (omega arith) }) (ok-up s view le h)) h
      where
        on : (c : Certificate) (v : ℕ) → (c ≡ Root) ⊎ (view_of c < v) → IsHigh p w good reached me v c → ((view_of c ≡ 0) × (digest_of c ≡ root)) ⊎ ((view_of c < v) × OwnCert p w me v (view_of c) (digest_of c))
        on c v l (inl q) = inl (ap view_of q, ap digest_of q)
        on c v (inl q) (inr o) = inl (ap view_of q, ap digest_of q)
        on c v (inr l) (inr o) = inr (l, o)
    taken-ok-heard from (Vote phase view d) sig e h = by-test Ok (keeps_vote p s from.0 phase view d) (with_vote s from.0 view d sig) s (λ q.
        let one = is-same phase 1 (and-true (phase == 1) _ (and-true _ _ q).0).0 in
        let msg = signed (Vote phase view d) sig in
        let c = claim from.0 (stated form p msg.body) sig in
        let there = in_right c (certificate_claims form p (inside msg.body)) (c ∷ []) (inl refl) in
        let m = came p w good reached me x from msg (part-here p w good reached me x xs f) e in
        let is : stated form p msg.body ≡ vote_statement form p 1 view d = ap (λ (z : ℕ). vote_statement form p z view d) one in
        record {
          tree = h.tree;
          nodes = h.nodes;
          votes = (record { sent = λ z. voted p w good reached from.0 view d z (subst (λ (t : List ℕ). IsSigned chained p w from.0 t) is (m.signed c there z)); own = λ z. own-low p w good reached me x xs from msg view d c f e there z is }, h.votes);
          words = h.words;
          turns = h.turns;
          lock = h.lock;
          casts = h.casts;
        }) h
    taken-ok-heard from other sig e h = h

    taken-ok : (i : Input Message) → x.input ≡ i → Ok (state p me xs) → Ok (taken p me (state p me xs) i)
    taken-ok (Cast slot batch) e h = by-test Ok (may_cast p me s slot.0) (with_cast s batch) s (λ q.
        let leads = is-same me p.leader.0 (and-true (me == p.leader.0) _ (and-true _ _ q).0).0 in
        record { tree = h.tree; nodes = h.nodes; votes = h.votes; words = h.words; turns = h.turns; lock = h.lock; casts = λ k b z. leads }) h
    taken-ok (Receive from msg) e h = taken-ok-heard from msg.body msg.sig e h
    taken-ok Timeout e h = by-test Ok (may_end s) (with_round s) s (λ q. ok-up s (suc (round_of s.view) * 65536) (round-above s.view) h) h

    -- ---- what is shown

    abbrev pub MayHigh : ℕ → Option Certificate → Type 0
    MayHigh bound None = Unit {0}
    MayHigh bound (Some c) = IsHigh p w good reached me bound c

    best-high : (k : State) (round : ℕ) (o : Option Certificate) → MayBest k round o → MayHigh k.view o
    best-high k round None h = tt
    best-high k round (Some c) h = h.best.high

    shows-ok-heard : (from : NodeId) (body : Body) (sig : List ℕ) → x.input ≡ (Receive from (signed body sig)) → Ok (taken p me s (Receive from (signed body sig))) → MayHigh (taken p me s (Receive from (signed body sig))).view (shows p me s (taken p me s (Receive from (signed body sig))) (Receive from (signed body sig)))
    shows-ok-heard from (NewView round high) sig e h =
        let k = taken p me s (Receive from (signed (NewView round high) sig)) in
        by-test (MayHigh k.view) (keeps_news p me s from.0 round high) (first_high p k round) None
        (λ q. best-high k round (first_high p k round) (first-high-ok k round (round-some s from.0 round high q).0 h.words)) tt
    shows-ok-heard from (Prepare view what just) sig e h =
        let i = Receive from (signed (Prepare view what just) sig) in
        by-test (MayHigh (taken p me s i).view) (is_usable p s from.0 view just) (Some just) None (λ q.
        let u = usable p w good reached s from.0 view just q in
        let j = just-why p w good reached me x xs view from (signed (Prepare view what just) sig) f e u.just_is in
        high-up s.view (taken p me s i).view (taken-view p me s i) just j.1) tt
    shows-ok-heard from (Vote phase view d) sig e h =
        let k = taken p me s (Receive from (signed (Vote phase view d) sig)) in
        by-test (MayHigh k.view) (keeps_vote p s from.0 phase view d && is_reached p k view d) (Some (certificate p k view d)) None
        (λ q. inr (reached-cert k view d h.votes (and-true (keeps_vote p s from.0 phase view d) (is_reached p k view d) q).1)) tt
    shows-ok-heard from other sig e h = tt

    shows-ok : (i : Input Message) → x.input ≡ i → Ok (taken p me s i) → MayHigh (taken p me s i).view (shows p me s (taken p me s i) i)
    shows-ok (Cast slot batch) e h = tt
    shows-ok (Receive from msg) e h = shows-ok-heard from msg.body msg.sig e h
    shows-ok Timeout e h = tt

  -- ---- the lock, once a certificate of a known node is shown

  pub found-ok : (bound : ℕ) (ks : List Node) (d : List ℕ) (x : Node) → IsTree p.setup.version (IsString w) ks → AllNodes bound ks → find ks d ≡ Some x → NodeOk bound x × (is_known ks x.parent ≡ true)
  found-ok bound [] d x t h e = absurd cc
  found-ok bound (k ∷ ks) d x t h e = go (same_bytes k.digest d) e (found-ok bound ks d x t.2 h.1)
    where
      go : (b : Bool) → (if b then Some k else find ks d) ≡ Some x → (find ks d ≡ Some x → NodeOk bound x × (is_known ks x.parent ≡ true)) → NodeOk bound x × (is_known (k ∷ ks) x.parent ≡ true)
      go true q more =
          let same : k ≡ x = cc in
          subst (λ (z : Node). NodeOk bound z × (is_known (k ∷ ks) z.parent ≡ true)) same (h.0, known-more (same_bytes k.digest k.parent) ks k.parent t.1)
      go false q more = let r = more q in (r.0, known-more (same_bytes k.digest x.parent) ks x.parent r.1)

  -- a turn that is proposed now

  pub record NewOk (k : State) (t : Turn) : Type 0 where
    pub known : is_known k.tree (digest_of t.just) ≡ true
    pub just : (t.just ≡ Root) ⊎ ((view_of t.just < t.view) × OwnCert p w me k.view (view_of t.just) (digest_of t.just))
    pub leads : leader_of p (round_of t.view) ≡ me
    pub digest_is : t.digest ≡ node_digest p t.view t.what t.just

  abbrev pub MayNew : State → Option Turn → Type 0
  MayNew k None = Unit {0}
  MayNew k (Some t) = NewOk k t

  abbrev pub MayAt : Option Turn → Type 0
  MayAt None = Unit {0}
  MayAt (Some t) = IsAt p w (node_digest p t.view t.what t.just) t.view (digest_of t.just) t.what

  module _ (sep : Separate (IsString w)) where
    pub parent-placed : (s : State) (x : Node) → Ok s → is_known s.tree x.parent ≡ true → IsCertified p w x.from x.parent → IsPlaced s.view x.from
    parent-placed s x h known c = elim (known-find s.tree x.parent known) [
      | inl r ↦ absurd (certified-not-root p w good (stands-why p w good reached) sep x.from x.parent c r)
      | inr j ↦
          let a = found-is p.setup.version (IsString w) s.tree x.parent j.0 h.tree j.1 in
          let o = found-ok s.view s.tree x.parent j.0 h.tree h.nodes j.1 in
          subst (λ (z : ℕ). IsPlaced s.view z) (certified-at p w good (stands-why p w good reached) sep x.from j.0.view x.parent j.0.parent j.0.what c a.node) o.0.placed
    ]

    raised-ok : (s : State) (d : List ℕ) (x : Node) → Ok s → find s.tree d ≡ Some x → LockOk s.view (raised s.lock x)
    raised-ok s d x h e = by-test (LockOk s.view) (nat_lt s.lock.view x.from) (record { view = x.from; node = x.parent }) s.lock (λ q.
        let l = ltb-true s.lock.view x.from q in
        let o = found-ok s.view s.tree d x h.tree h.nodes e in
        elim o.0.just [
          | inl z ↦ let n = z.0 in absurd (omega (arith, l, n))
          | inr z ↦ inr (z.1, parent-placed s x h o.1 z.1.cert)
        ]) h.lock

    noted-ok : (s : State) (q : Certificate) (d : List ℕ) (o : Option Node) → find s.tree d ≡ o → Ok s → Ok (noted s q o)
    noted-ok s q d None e h = h
    noted-ok s q d (Some x) e h = record { tree = h.tree; nodes = h.nodes; votes = h.votes; words = h.words; turns = h.turns; lock = raised-ok s d x h e; casts = h.casts }

    shown-ok : (s : State) (o : Option Certificate) → Ok s → Ok (with_shown s o)
    shown-ok s None h = h
    shown-ok s (Some Root) h = h
    shown-ok s (Some (Votes view phase d votes)) h = noted-ok s (Votes view phase d votes) d (find s.tree d) refl h

    -- ---- the next turn

    root-known : (ks : List Node) → is_known ks root ≡ true
    root-known [] = refl
    root-known (k ∷ ks) = known-more (same_bytes k.digest root) ks root (root-known ks)

    -- on the last turn's certificate
    on-last : (k : State) (t : Turn) (what : Content) → Ok k → TurnKnown k.tree t → TurnFits p good t → is_reached p k t.view t.digest ≡ true → NewOk k (turn p (suc t.view) (certificate p k t.view t.digest) what t.slots)
    on-last k t what h g fits q =
        let one = good.few in
        let high = fits.high in
        record {
          known = g.known;
          just = inr (omega arith, reached-cert k t.view t.digest h.votes q);
          leads = ap (λ (z : ℕ). leader_of p z) (same-round t.view (length p.slots) one high) ∙ g.leads;
          digest_is = refl;
        }
      where
        same-round : (v m : ℕ) → m ≤ 64 → v % 65536 ≤ m + 4 → suc v / 65536 ≡ v / 65536
        same-round v m a b = omega (arith, a, b)

    cast-ok : (k : State) (t : Turn) (o : Option Batch) → ((what : Content) → NewOk k (turn p (suc t.view) (certificate p k t.view t.digest) what t.slots)) → MayNew k (cast_turn p (suc t.view) (certificate p k t.view t.digest) t.slots o)
    cast-ok k t None h = tt
    cast-ok k t (Some b) h = h (Holds b)

    after-ok : (k : State) (t : Turn) → Ok k → TurnKnown k.tree t → TurnFits p good t → is_reached p k t.view t.digest ≡ true → MayNew k (turn_after p k t)
    after-ok k t h g fits q =
        let each = λ (what : Content). on-last k t what h g fits q in
        by-if (MayNew k) (nat_lt t.slots (length p.slots)) _ _
        (by-if (MayNew k) (round_of t.view == 0) _ _ (cast-ok k t (nth k.casts t.slots) each) (each Nil))
        (by-if (MayNew k) (is_marked (suc t.view) (full_turn p k.turns (round_of t.view))) (Some (turn p (suc t.view) (certificate p k t.view t.digest) Mark t.slots)) None (each Mark) tt)

    plus-none : (n : ℕ) → n + 0 ≡ n
    plus-none n = omega arith

    pub first-leader : leader_of p 0 ≡ p.leader.0
    first-leader = ap (λ (z : ℕ). z % p.setup.n) (plus-none p.leader.0) ∙ mod-eq_of_lt good.leader

    first-cast : (k : State) (o : Option Batch) → nth k.casts 0 ≡ o → Ok k → MayNew k (cast_turn p 1 Root 0 o)
    first-cast k None e h = tt
    first-cast k (Some b) e h = record { known = root-known k.tree; just = inl refl; leads = first-leader ∙ sym (h.casts 0 b e); digest_is = refl }

    next-ok : (k : State) (ts : List Turn) → Ok k → AllTurns k.tree ts → Fits p good k → (k.turns ≡ ts) → MayNew k (next_turn p k ts)
    next-ok k [] h g fits same = by-if (MayNew k) (round_of k.view == 0) (cast_turn p 1 Root 0 (nth k.casts 0)) None (first-cast k (nth k.casts 0) refl h) tt
    next-ok k (t ∷ ts) h g fits same = by-test (MayNew k) (is_ready p k t) (turn_after p k t) None (λ q.
        let all = subst (λ (z : List Turn). TurnsFit p good z) same fits.turns in
        after-ok k t h g.0 all.0 (and-true (is_reached p k t.view t.digest) _ q).0) tt

    first-ok : (k : State) (round : ℕ) (o : Option Certificate) → me ≡ leader_of p round → MayBest k round o → MayNew k (turn_on p k round o)
    first-ok k round None q h = tt
    first-ok k round (Some c) q h =
        let low = h.best.low in
        record { known = h.known; just = elim h.best.high [ inl z ↦ inl z | inr z ↦ inr (omega (arith, low), z) ]; leads = ap (λ (z : ℕ). leader_of p z) (rounds round) ∙ sym q; digest_is = refl }
      where
        rounds : (r : ℕ) → (r * 65536 + 1) / 65536 ≡ r
        rounds r = omega arith

    proposed-ok-heard : (s k : State) (from : NodeId) (body : Body) (sig : List ℕ) → Ok k → Fits p good k → MayNew k (proposed p me s k (Receive from (signed body sig)))
    proposed-ok-heard s k from (NewView round high) sig h fits = by-test (MayNew k) (keeps_news p me s from.0 round high) (turn_on p k round (first_high p k round)) None (λ q.
        let r = round-some s from.0 round high q in
        first-ok k round (first_high p k round) r.1 (first-high-ok k round r.0 h.words)) tt
    proposed-ok-heard s k from (Vote phase view d) sig h fits = by-if (MayNew k) _ (next_turn p k k.turns) None (next-ok k k.turns h h.turns fits refl) tt
    proposed-ok-heard s k from other sig h fits = tt

    proposed-ok : (s k : State) (i : Input Message) → Ok k → Fits p good k → MayNew k (proposed p me s k i)
    proposed-ok s k (Cast slot batch) h fits = by-if (MayNew k) (may_cast p me s slot.0) (next_turn p k k.turns) None (next-ok k k.turns h h.turns fits refl) tt
    proposed-ok s k (Receive from msg) h fits = proposed-ok-heard s k from msg.body msg.sig h fits
    proposed-ok s k Timeout h fits = tt

    -- what is proposed was hashed
    new-at : (x : Item Message) (s k : State) (i : Input Message) → In x (w me) → x.made.strings ≡ taken_of p s i ++ turn_strings p (proposed p me s k i) → MayTurn p good k.turns (proposed p me s k i) → MayAt (proposed p me s k i)
    new-at x s k i q made may = go (proposed p me s k i) refl may
      where
        go : (o : Option Turn) → proposed p me s k i ≡ o → MayTurn p good k.turns o → MayAt o
        go None e h = tt
        go (Some t) e h =
            let all : x.made.strings ≡ taken_of p s i ++ strings_at p t.view t.what t.just = made ∙ ap (λ (o : Option Turn). taken_of p s i ++ turn_strings p o) e in
            hashed-at p w good reached me x t.view t.what t.just q (digest-length p good t.just h.just) (content-table p.setup.version t.what h.what.0 h.what.1).1
            (λ z m. subst (λ (y : List (List ℕ)). In z y) (sym all) (in_right z (taken_of p s i) (strings_at p t.view t.what t.just) m))

    turn-ok : (k : State) (o : Option Turn) → Ok k → MayNew k o → MayAt o → Ok (with_turn k o)
    turn-ok k None h g a = h
    turn-ok k (Some t) h g a =
        let at = subst (λ (z : List ℕ). IsAt p w z t.view (digest_of t.just) t.what) (sym g.digest_is) a in
        let n = node-more k (node_of t) at g.known (record { just = on t.just g.just; placed = inr g.leads }) h in
        record { tree = n.tree; nodes = n.nodes; votes = n.votes; words = n.words; turns = (record { leads = g.leads; known = here t.digest }, n.turns); lock = n.lock; casts = n.casts }
      where
        on : (c : Certificate) → (c ≡ Root) ⊎ ((view_of c < t.view) × OwnCert p w me k.view (view_of c) (digest_of c)) → ((view_of c ≡ 0) × (digest_of c ≡ root)) ⊎ ((view_of c < t.view) × OwnCert p w me k.view (view_of c) (digest_of c))
        on c (inl q) = inl (ap view_of q, ap digest_of q)
        on c (inr q) = inr q

        here : (d : List ℕ) → (same_bytes d d || is_known k.tree d) ≡ true
        here d = ap (λ (b : Bool). b || is_known k.tree d) (same_bytes-refl d)

    -- ---- the state of a list

    pub taken-of-ok : (x : Item Message) (xs : List (Item Message)) → Part p w good reached me (x ∷ xs) → Ok (state p me xs) → Ok (taken p me (state p me xs) x.input)
    taken-of-ok x xs f h = taken-ok x xs f x.input refl h

    pub shows-of-ok : (x : Item Message) (xs : List (Item Message)) (f : Part p w good reached me (x ∷ xs)) → Ok (state p me xs) → MayHigh x xs f (taken p me (state p me xs) x.input).view (shows p me (state p me xs) (taken p me (state p me xs) x.input) x.input)
    shows-of-ok x xs f h = shows-ok x xs f x.input refl (taken-ok x xs f x.input refl h)

    pub kept-of-ok : (x : Item Message) (xs : List (Item Message)) → Part p w good reached me (x ∷ xs) → Ok (state p me xs) → Ok (kept p me (state p me xs) x.input)
    kept-of-ok x xs f h = shown-ok (taken p me (state p me xs) x.input) (shows p me (state p me xs) (taken p me (state p me xs) x.input) x.input) (taken-of-ok x xs f h)

    pub kept-of-fits : (x : Item Message) (xs : List (Item Message)) → Part p w good reached me (x ∷ xs) → Fits p good (kept p me (state p me xs) x.input)
    kept-of-fits x xs f =
        let all = part-heard p w good reached me (x ∷ xs) f in
        kept-fits p good me (state p me xs) x.input (heard-is p good x.input all.0) (state-fits p good me xs all.2)

    pub proposed-at : (x : Item Message) (xs : List (Item Message)) → Part p w good reached me (x ∷ xs) → MayAt (proposed p me (state p me xs) (kept p me (state p me xs) x.input) x.input)
    proposed-at x xs f =
        let all = part-heard p w good reached me (x ∷ xs) f in
        let s = state p me xs in
        let k = kept p me s x.input in
        new-at x s k x.input (part-here p w good reached me x xs f) (ap (λ (z : Made Message). z.strings) all.1) (proposed-new p good me s k x.input (heard-is p good x.input all.0) (kept-of-fits x xs f))

    pub state-ok : (xs : List (Item Message)) → Part p w good reached me xs → Ok (state p me xs)
    state-ok [] f = record { tree = tt; nodes = tt; votes = tt; words = tt; turns = tt; lock = inl (refl, refl); casts = λ k b e. absurd cc }
    state-ok (x ∷ xs) f =
        let s = state p me xs in
        let k = kept p me s x.input in
        let ok = kept-of-ok x xs f (state-ok xs (front-older x xs (w me) f)) in
        turn-ok k (proposed p me s k x.input) ok (proposed-ok s k x.input ok (kept-of-fits x xs f)) (proposed-at x xs f)
