-- What a replica sends can be decoded, if everything that it received can.
use Rattle.std.proofs.Common.{◌≡◌, ◌≤◌, ◌<◌, ℕ, zero, suc, ◌+◌, ◌*◌, ◌/◌, ◌%◌, ◌^◌, ◌==◌, ◌&&◌, ◌||◌, Bool, true, false, List, [], ◌∷◌, ◌++◌, length, Option, Some, None, refl, sym, subst, inl, inr, arith, true≢false}
use Rattle.std.specs.Prelude.{nat_lt}
use Rattle.std.proofs.lemmas.Bool.{ltb-true}
use Rattle.std.proofs.lemmas.List.{length-append}
use Rattle.iss_base.specs.Lists.{In, nth, same_bytes}
use Rattle.iss_base.proofs.Lists.{and-true, in_append, nth-below, nth-in}
use Rattle.iss_request.specs.Formats.{is_signature}
use Rattle.iss_request.specs.declared.requests.Batch.{Batch}
use Rattle.iss_request.specs.declared.ids.NodeId.{NodeId}
use Rattle.iss_sb.specs.declared.effects.Input.{Input}
use Rattle.iss_sb.specs.declared.effects.Input.TheVariants.{Cast, Receive, Timeout}
use Rattle.iss_sb.specs.declared.effects.Params.{Params}
use Rattle.iss_sb.specs.declared.effects.To.{To}
use Rattle.iss_sb.specs.Calls.{IsGoodParams, is_slot}
use Rattle.iss_sb.specs.Evidence.{Item, IsReadBatch, IsReadMessage, one_or_none}
use Rattle.iss_sb.specs.Laws.{AreHeard, IsHeard}
use Rattle.iss_sb.specs.Statements.{signature}
use Rattle.iss_sb.proofs.Signatures.{signature-shape}
use Rattle.iss_sb.proofs.Slots.{place-below}
use Rattle.iss_sb.specs.declared.content.Content.{Content}
use Rattle.iss_sb.specs.declared.content.Content.TheVariants.{Nil, Holds, Mark}
use Rattle.iss_sb.specs.Content.{IsSpelledContent}
use Rattle.hs_tree.specs.declared.certificates.Certificate.{Certificate}
use Rattle.hs_tree.specs.declared.certificates.Certificate.TheVariants.{Root, Votes}
use Rattle.iss_sb.specs.declared.signers.Signed.{Signed}
use Rattle.hs_tree.specs.declared.messages.Message.{Message}
use Rattle.hs_tree.specs.declared.messages.Body.{Body}
use Rattle.hs_tree.specs.declared.messages.Body.TheVariants.{NewView, Prepare, PreCommit, Commit, Decide, Vote}
use Rattle.iss_sb.specs.Signers.{AreSigners}
use Rattle.hs_tree.specs.Certificates.{IsSpelledCertificate, digest_of, root_row, view_of, votes_row}
use Rattle.hs_tree.specs.Messages.{IsSpelledBody, signed}
use Rattle.hs_tree.specs.Statements.{stated}
use Rattle.hs_tree.specs.Tree.{basic, is_known}
use Rattle.iss_sb.proofs.Contents.{batch-table}
use Rattle.hs_tree.proofs.MessageGrammar.{read-spelled, spelled-read}
use Rattle.sb_hotstuff.specs.HotStuff.{answers, answers_heard, drafts, hotstuff, makes, proposals, shows, sign_all, state, voted}
use Rattle.sb_hotstuff.specs.Rules.{State, after, cast_turn, certificate, first_turn, heard, is_reached, is_ready, keeps_news, keeps_vote, kept, may_cast, may_end, may_prepare, may_second, may_third, next_turn, nil_or_mark, node_digest, proposed, slots_below, turn, turn_after, turn_on, with_cast, with_news, with_node, with_round, with_turn, with_vote}
use Rattle.hs_views.specs.Views.{Kept, News, Turn, all_news, best, is_own_turn, news_of, round_of, turn_of, vote_of, votes_of}
use Rattle.hs_tree.proofs.Claimed.{digest-long}
use Rattle.hs_views.proofs.Tests.{by-if, by-test, is-same}

module _ (p : Params) (good : IsGoodParams hotstuff p) where
  -- ---- What has an encoding

  abbrev pub Spelled : Certificate → Type 0
  Spelled c = (bytes : List ℕ) × IsSpelledCertificate 3 c bytes

  abbrev pub SpelledWhat : Content → Type 0
  SpelledWhat what = (bytes : List ℕ) × IsSpelledContent p.setup.version what bytes

  abbrev SpelledAs : Message → Type 0
  SpelledAs msg = (front : List ℕ) × IsSpelledBody 3 p.setup.version msg.body front × (is_signature msg.sig ≡ true)

  root-spelled : Spelled Root
  root-spelled = (root_row, refl)

  pub digest-length : (c : Certificate) → Spelled c → length (digest_of c) ≡ 32
  digest-length Root h = refl
  digest-length (Votes view phase d votes) h = h.1.digest_fits

  -- ---- The fields of a replica's state

  abbrev pub SignedAll : List Kept → Type 0
  SignedAll [] = Unit {0}
  SignedAll (v ∷ vs) = (is_signature v.sig ≡ true) × SignedAll vs

  abbrev pub SpelledAll : List News → Type 0
  SpelledAll [] = Unit {0}
  SpelledAll (w ∷ ws) = Spelled w.high × SpelledAll ws

  abbrev pub ReadAll : List Batch → Type 0
  ReadAll bs = (b : Batch) → In b bs → IsReadBatch p b

  -- a turn's number is at most one more than the number of slots of its branch
  pub record TurnFits (t : Turn) : Type 0 where
    some : 1 ≤ t.view
    round_fits : round_of t.view ≤ 65535
    turn_fits : turn_of t.view ≤ suc t.slots
    long : length t.digest ≡ 32

  abbrev pub TurnsFit : List Turn → Type 0
  TurnsFit [] = Unit {0}
  TurnsFit (t ∷ ts) = TurnFits t × TurnsFit ts

  pub record Fits (s : State) : Type 0 where
    high : Spelled s.high
    votes : SignedAll s.votes
    news : SpelledAll s.news
    turns : TurnsFit s.turns
    casts : ReadAll s.casts
    few : length s.casts ≤ length p.slots

  -- ---- Certificates of received votes

  low-view : (view : ℕ) → round_of view ≤ 65535 → view < 2 ^ 32
  low-view view h = omega (arith, h)

  abbrev NodesBelow : ℕ → List Signed → Type 0
  NodesBelow n [] = Unit {0}
  NodesBelow n (v ∷ vs) = (v.by.0 < n) × NodesBelow n vs

  one-signed : (vs : List Kept) (phase view : ℕ) (d : List ℕ) (k : ℕ) → SignedAll vs → AreSigners k (one_or_none (vote_of vs phase view d k))
  one-signed [] phase view d k h = tt
  one-signed (v ∷ vs) phase view d k h = by-if (λ (o : Option Signed). AreSigners k (one_or_none o)) _ (Some (record { by = record { 0 = k }; sig = v.sig })) (vote_of vs phase view d k)
      (omega arith, h.0, tt) (one-signed vs phase view d k h.1)

  one-below : (vs : List Kept) (phase view : ℕ) (d : List ℕ) (k : ℕ) → NodesBelow (suc k) (one_or_none (vote_of vs phase view d k))
  one-below [] phase view d k = tt
  one-below (v ∷ vs) phase view d k = by-if (λ (o : Option Signed). NodesBelow (suc k) (one_or_none o)) _ (Some (record { by = record { 0 = k }; sig = v.sig })) (vote_of vs phase view d k)
      (omega arith, tt) (one-below vs phase view d k)

  wider : (k : ℕ) (vs : List Signed) → NodesBelow k vs → NodesBelow (suc k) vs
  wider k [] h = tt
  wider k (v ∷ vs) h = let l = h.0 in (omega (arith, l), wider k vs h.1)

  below-append : (n : ℕ) (xs ys : List Signed) → NodesBelow n xs → NodesBelow n ys → NodesBelow n (xs ++ ys)
  below-append n [] ys h g = g
  below-append n (x ∷ xs) ys h g = (h.0, below-append n xs ys h.1 g)

  votes-below : (n : ℕ) (vs : List Kept) (phase view : ℕ) (d : List ℕ) → NodesBelow n (votes_of n vs phase view d)
  votes-below zero vs phase view d = tt
  votes-below (suc k) vs phase view d = below-append (suc k) (votes_of k vs phase view d) _ (wider k (votes_of k vs phase view d) (votes-below k vs phase view d)) (one-below vs phase view d k)

  lower : (a b : ℕ) (vs : List Signed) → a ≤ b → AreSigners b vs → AreSigners a vs
  lower a b [] le h = tt
  lower a b (v ∷ vs) le h = let l = h.0 in (omega (arith, le, l), h.1, h.2)

  ascending-append : (from k : ℕ) (xs ys : List Signed) → from ≤ k → AreSigners from xs → NodesBelow k xs → AreSigners k ys → AreSigners from (xs ++ ys)
  ascending-append from k [] ys le h b g = lower from k ys le g
  ascending-append from k (x ∷ xs) ys le h b g = let l = b.0 in (h.0, h.1, ascending-append (suc x.by.0) k xs ys (omega (arith, l)) h.2 b.1 g)

  votes-rise : (n : ℕ) (vs : List Kept) (phase view : ℕ) (d : List ℕ) → SignedAll vs → AreSigners 0 (votes_of n vs phase view d)
  votes-rise zero vs phase view d h = tt
  votes-rise (suc k) vs phase view d h = ascending-append 0 k (votes_of k vs phase view d) _ (omega arith) (votes-rise k vs phase view d h) (votes-below k vs phase view d) (one-signed vs phase view d k h)

  one-few : (o : Option Signed) → length (one_or_none o) ≤ 1
  one-few None = omega arith
  one-few (Some v) = omega arith

  votes-few : (n : ℕ) (vs : List Kept) (phase view : ℕ) (d : List ℕ) → length (votes_of n vs phase view d) ≤ n
  votes-few zero vs phase view d = omega arith
  votes-few (suc k) vs phase view d =
      let a = votes-few k vs phase view d in
      let b = one-few (vote_of vs phase view d k) in
      let c = length-append (votes_of k vs phase view d) (one_or_none (vote_of vs phase view d k)) in
      omega (arith, a, b, c)

  nodes-few : p.setup.n ≤ 10
  nodes-few = let n = good.nodes in let f = good.setup.faults in omega (arith, n, f)

  slots-few : length p.slots ≤ 64
  slots-few = good.few

  certificate-spelled : (s : State) (phase view : ℕ) (d : List ℕ) → 1 ≤ phase → phase ≤ 3 → 1 ≤ view → view < 2 ^ 32 → length d ≡ 32 → SignedAll s.votes → Spelled (certificate p s phase view d)
  certificate-spelled s phase view d a b l m long h =
      let votes = votes_of p.setup.n s.votes phase view d in
      let n = nodes-few in
      let few = votes-few p.setup.n s.votes phase view d in
      (votes_row view phase d votes, record { view_low = l; view_fits = m; phase_low = a; phase_fits = b; digest_fits = long; count_fits = omega (arith, n, few); signers = votes-rise p.setup.n s.votes phase view d h; row = refl })

  -- ---- The highest certificate of received NewView messages

  abbrev SpelledEach : List Certificate → Type 0
  SpelledEach [] = Unit {0}
  SpelledEach (c ∷ cs) = Spelled c × SpelledEach cs

  one-spelled : (ws : List News) (round k : ℕ) → SpelledAll ws → SpelledEach (one_or_none (news_of ws round k))
  one-spelled [] round k h = tt
  one-spelled (w ∷ ws) round k h = by-if (λ (o : Option Certificate). SpelledEach (one_or_none o)) ((w.by == k) && (w.round == round)) (Some w.high) (news_of ws round k) (h.0, tt) (one-spelled ws round k h.1)

  each-append : (xs ys : List Certificate) → SpelledEach xs → SpelledEach ys → SpelledEach (xs ++ ys)
  each-append [] ys h g = g
  each-append (x ∷ xs) ys h g = (h.0, each-append xs ys h.1 g)

  news-spelled : (n : ℕ) (ws : List News) (round : ℕ) → SpelledAll ws → SpelledEach (all_news n ws round)
  news-spelled zero ws round h = tt
  news-spelled (suc k) ws round h = each-append (all_news k ws round) _ (news-spelled k ws round h) (one-spelled ws round k h)

  best-spelled : (c : Certificate) (cs : List Certificate) → Spelled c → SpelledEach cs → Spelled (best c cs)
  best-spelled c [] h g = h
  best-spelled c (d ∷ ds) h g = by-if Spelled (nat_lt (view_of c) (view_of d)) (best d ds) (best c ds) (best-spelled d ds g.0 g.1) (best-spelled c ds h g.1)

  -- ---- Turns

  -- a turn that is proposed now
  pub record NewTurn (t : Turn) : Type 0 where
    pub fits : TurnFits t
    pub just : Spelled t.just
    pub what : SpelledWhat t.what

  abbrev pub MayTurn : Option Turn → Type 0
  MayTurn None = Unit {0}
  MayTurn (Some t) = NewTurn t

  nil-spelled : SpelledWhat Nil
  nil-spelled = (0 ∷ [], refl)

  mark-spelled : SpelledWhat Mark
  mark-spelled = (2 ∷ [], refl)

  turn-new : (view : ℕ) (just : Certificate) (what : Content) (slots : ℕ) → 1 ≤ view → round_of view ≤ 65535 → turn_of view ≤ suc (slots) → Spelled just → SpelledWhat what → NewTurn (turn p view just what slots)
  turn-new view just what slots a b c h g = record { fits = record { some = a; round_fits = b; turn_fits = omega (arith, c); long = digest-long basic p view what just }; just = h; what = g }

  cast-new : (view : ℕ) (just : Certificate) (slots : ℕ) (casts : List Batch) (k : ℕ) → 1 ≤ view → round_of view ≤ 65535 → turn_of view ≤ suc slots → Spelled just → ReadAll casts → MayTurn (cast_turn p view just slots (nth casts k))
  cast-new view just slots casts k a b c h g = go (nth casts k) refl
    where
      go : (o : Option Batch) → nth casts k ≡ o → MayTurn (cast_turn p view just slots o)
      go None q = tt
      go (Some x) q = turn-new view just (Holds x) slots a b c h (batch-table p.setup.version x (g x (nth-in casts k x q)))

  -- in round 0, if there is another cast
  first-next : (s : State) (t : Turn) → Fits s → TurnFits t → Spelled (certificate p s 1 t.view t.digest) → round_of t.view ≡ 0 → MayTurn (cast_turn p (suc t.view) (certificate p s 1 t.view t.digest) t.slots (nth s.casts t.view))
  first-next s t h f c r = go (nth s.casts t.view) refl
    where
      rises : (view slots casts m : ℕ) → view < casts → casts ≤ m → m ≤ 64 → view % 65536 ≤ suc slots → (suc view / 65536 ≤ 65535) × (suc view % 65536 ≤ suc (1 + slots))
      rises view slots casts m a b d e = (omega (arith, a, b, d), omega (arith, a, b, d, e))

      go : (o : Option Batch) → nth s.casts t.view ≡ o → MayTurn (cast_turn p (suc t.view) (certificate p s 1 t.view t.digest) t.slots o)
      go None q = tt
      go (Some x) q =
          let l = nth-below s.casts t.view x q in
          let k = rises t.view t.slots (length s.casts) (length p.slots) l h.few slots-few f.turn_fits in
          record {
            fits = record { some = omega arith; round_fits = k.0; turn_fits = k.1; long = digest-long basic p (suc t.view) (Holds x) (certificate p s 1 t.view t.digest) };
            just = c;
            what = batch-table p.setup.version x (h.casts x (nth-in s.casts t.view x q));
          }

  later-next : (s : State) (t : Turn) → TurnFits t → Spelled (certificate p s 1 t.view t.digest) → t.slots < length p.slots → NewTurn (turn p (suc t.view) (certificate p s 1 t.view t.digest) Nil t.slots)
  later-next s t f c l =
      let k = rises t.view t.slots (length p.slots) l slots-few f.turn_fits f.round_fits in
      record { fits = record { some = omega arith; round_fits = k.0; turn_fits = k.1; long = digest-long basic p (suc t.view) Nil (certificate p s 1 t.view t.digest) }; just = c; what = nil-spelled }
    where
      rises : (view slots m : ℕ) → slots < m → m ≤ 64 → view % 65536 ≤ suc slots → view / 65536 ≤ 65535 → (suc view / 65536 ≤ 65535) × (suc view % 65536 ≤ suc (1 + slots))
      rises view slots m a b d e = (omega (arith, a, b, d, e), omega (arith, a, b, d, e))

  next-new : (s : State) (ts : List Turn) → Fits s → TurnsFit ts → MayTurn (next_turn p s ts)
  next-new s [] h g = by-if MayTurn (round_of s.view == 0) (cast_turn p 1 Root 0 (nth s.casts 0)) None (cast-new 1 Root 0 s.casts 0 (omega arith) (omega arith) (omega arith) root-spelled h.casts) tt
  next-new s (t ∷ ts) h g =
      let f = g.0 in
      let c = certificate-spelled s 1 t.view t.digest (omega arith) (omega arith) f.some (low-view t.view f.round_fits) f.long h.votes in
      by-if MayTurn (is_ready p s t) (turn_after p s t) None
      (by-test MayTurn (round_of t.view == 0) (cast_turn p (suc t.view) (certificate p s 1 t.view t.digest) t.slots (nth s.casts t.view)) _ (λ q. first-next s t h f c (is-same (round_of t.view) 0 q))
      (by-test MayTurn (nat_lt t.slots (length p.slots)) (Some (turn p (suc t.view) (certificate p s 1 t.view t.digest) Nil t.slots)) None (λ q. later-next s t f c (ltb-true t.slots (length p.slots) q)) tt)) tt

  held-spelled : (slots : ℕ) → SpelledWhat (nil_or_mark p slots)
  held-spelled slots = by-if SpelledWhat (nat_lt slots (length p.slots)) Nil Mark nil-spelled mark-spelled

  first-new : (s : State) (round : ℕ) → round ≤ 65535 → Fits s → MayTurn (first_turn p s round)
  first-new s round low h =
      let cs = all_news p.setup.n s.news round in
      let high = best Root cs in
      let slots = slots_below s high in
      let spelled = best-spelled Root cs root-spelled (news-spelled p.setup.n s.news round h.news) in
      by-if MayTurn _ (turn_on p s round high) None
      (by-if MayTurn (is_known s.tree (digest_of high)) (Some (turn p (round * 65536 + 1) high (nil_or_mark p slots) slots)) None
      (turn-new (round * 65536 + 1) high (nil_or_mark p slots) slots (omega arith) (rounds round low) (turns round slots) spelled (held-spelled slots)) tt) tt
    where
      rounds : (r : ℕ) → r ≤ 65535 → (r * 65536 + 1) / 65536 ≤ 65535
      rounds r h = omega (arith, h)

      turns : (r slots : ℕ) → (r * 65536 + 1) % 65536 ≤ suc slots
      turns r slots = omega arith

  -- ---- The state

  heard-fits : (me : ℕ) (s : State) (from : ℕ) (body : Body) (sig : List ℕ) → SpelledAs (signed body sig) → Fits s → Fits (heard p me s from body sig)
  heard-fits me s from (NewView round high) sig m h = by-if Fits (keeps_news p me s from round high) (with_news s from round high) s
      (record { high = h.high; votes = h.votes; news = ((m.1.certificate, m.1.spelled), h.news); turns = h.turns; casts = h.casts; few = h.few }) h
  heard-fits me s from (Prepare view what just) sig m h = by-if Fits (may_prepare p s from view what just) (with_node p s view what just) s
      (record { high = h.high; votes = h.votes; news = h.news; turns = h.turns; casts = h.casts; few = h.few }) h
  heard-fits me s from (PreCommit view shown) sig m h = by-if Fits (may_second p s view shown) (record s { high = shown; second = true }) s
      (record { high = (m.1.certificate, m.1.spelled); votes = h.votes; news = h.news; turns = h.turns; casts = h.casts; few = h.few }) h
  heard-fits me s from (Commit view shown) sig m h = by-if Fits (may_third p s view shown) (record s { lock = shown; third = true }) s
      (record { high = h.high; votes = h.votes; news = h.news; turns = h.turns; casts = h.casts; few = h.few }) h
  heard-fits me s from (Decide view shown) sig m h = h
  heard-fits me s from (Vote phase view d) sig m h = by-if Fits (keeps_vote p s from phase view d) (with_vote s from phase view d sig) s
      (record { high = h.high; votes = (m.2, h.votes); news = h.news; turns = h.turns; casts = h.casts; few = h.few }) h

  cast-fits : (s : State) (b : Batch) → length s.casts < length p.slots → IsReadBatch p b → Fits s → Fits (with_cast s b)
  cast-fits s b l r h =
      let n = length-append s.casts (b ∷ []) in
      record {
        high = h.high;
        votes = h.votes;
        news = h.news;
        turns = h.turns;
        casts = λ x k. elim (in_append x s.casts (b ∷ []) k) [
          | inl old ↦ h.casts x old
          | inr new ↦ elim new [ inl e ↦ subst (λ (z : Batch). IsReadBatch p z) (sym e) r | inr none ↦ absurd none ]
        ];
        few = omega (arith, l, n);
      }

  abbrev pub Heard : Input Message → Type 0
  Heard (Cast slot batch) = IsReadBatch p batch
  Heard (Receive from msg) = SpelledAs msg
  Heard Timeout = Unit {0}

  pub heard-is : (i : Input Message) → IsHeard hotstuff p i → Heard i
  heard-is (Cast slot batch) h = h
  heard-is (Receive from msg) h = let r = read-spelled 3 p.setup.version msg h.1 in (r.front, r.body, r.shape)
  heard-is Timeout h = tt

  pub kept-fits : (me : ℕ) (s : State) (i : Input Message) → Heard i → Fits s → Fits (kept p me s i)
  kept-fits me s (Cast slot batch) m h = by-test Fits (may_cast p me s slot.0) (with_cast s batch) s
      (λ q. cast-fits s batch (place-below slot.0 p.slots (length s.casts) (and-true _ (is_slot slot.0 (nth p.slots (length s.casts))) q).1) m h) h
  kept-fits me s (Receive from msg) m h = heard-fits me s from.0 msg.body msg.sig m h
  kept-fits me s Timeout m h = by-if Fits (may_end s) (with_round s) s (record { high = h.high; votes = h.votes; news = h.news; turns = h.turns; casts = h.casts; few = h.few }) h

  proposed-new-heard : (me : ℕ) (s k : State) (from : NodeId) (body : Body) (sig : List ℕ) → Heard (Receive from (signed body sig)) → Fits k → MayTurn (proposed p me s k (Receive from (signed body sig)))
  proposed-new-heard me s k from (NewView round high) sig m h = by-if MayTurn (keeps_news p me s from.0 round high) (first_turn p k round) None (let l = m.1.round_fits in first-new k round (omega (arith, l)) h) tt
  proposed-new-heard me s k from (Vote phase view d) sig m h = by-if MayTurn _ (next_turn p k k.turns) None (next-new k k.turns h h.turns) tt
  proposed-new-heard me s k from other sig m h = tt

  pub proposed-new : (me : ℕ) (s k : State) (i : Input Message) → Heard i → Fits k → MayTurn (proposed p me s k i)
  proposed-new me s k (Cast slot batch) m h = by-if MayTurn (may_cast p me s slot.0) (next_turn p k k.turns) None (next-new k k.turns h h.turns) tt
  proposed-new me s k (Receive from msg) m h = proposed-new-heard me s k from msg.body msg.sig m h
  proposed-new me s k Timeout m h = tt

  turn-fits : (s : State) (o : Option Turn) → Fits s → MayTurn o → Fits (with_turn s o)
  turn-fits s None h g = h
  turn-fits s (Some t) h g = record { high = h.high; votes = h.votes; news = h.news; turns = (g.fits, h.turns); casts = h.casts; few = h.few }

  after-fits : (me : ℕ) (s : State) (i : Input Message) → Heard i → Fits s → Fits (after p me s i)
  after-fits me s i m h = let k = kept-fits me s i m h in turn-fits (kept p me s i) (proposed p me s (kept p me s i) i) k (proposed-new me s (kept p me s i) i m k)

  pub state-fits : (me : ℕ) (xs : List (Item Message)) → AreHeard hotstuff p me xs → Fits (state p me xs)
  state-fits me [] h = record { high = root-spelled; votes = tt; news = tt; turns = tt; casts = λ b k. absurd k; few = omega arith }
  state-fits me (x ∷ xs) h = after-fits me (state p me xs) x.input (heard-is x.input h.0) (state-fits me xs h.2)

  -- ---- Sent messages

  abbrev Signs : Body → Type 0
  Signs body = (front : List ℕ) × IsSpelledBody 3 p.setup.version body front

  abbrev SignsAll : List (To × Body) → Type 0
  SignsAll [] = Unit {0}
  SignsAll (x ∷ xs) = Signs x.1 × SignsAll xs

  signs-append : (xs ys : List (To × Body)) → SignsAll xs → SignsAll ys → SignsAll (xs ++ ys)
  signs-append [] ys h g = g
  signs-append (x ∷ xs) ys h g = (h.0, signs-append xs ys h.1 g)

  proposal-signs : (o : Option Turn) → MayTurn o → SignsAll (proposals o)
  proposal-signs None h = tt
  proposal-signs (Some t) h = ((_, record { view_fits = low-view t.view h.fits.round_fits; behind = h.what.0; what_is = h.what.1; certificate = h.just.0; spelled = h.just.1; row = refl }), tt)

  vote-signs : (phase view : ℕ) (d : List ℕ) → 1 ≤ phase → phase ≤ 3 → view < 2 ^ 32 → length d ≡ 32 → SignsAll (voted p phase view d)
  vote-signs phase view d a b l long = ((_, record { phase_low = a; phase_fits = b; view_fits = l; digest_fits = long; row = refl }), tt)

  shows-sign : (phase view : ℕ) (c : Certificate) → view < 2 ^ 32 → Spelled c → Signs (shows phase view c)
  shows-sign phase view c l h = by-if Signs (phase == 1) (PreCommit view c) _ (_, record { three = refl; view_fits = l; certificate = h.0; spelled = h.1; row = refl })
      (by-if Signs (phase == 2) (Commit view c) (Decide view c) (_, record { three = refl; view_fits = l; certificate = h.0; spelled = h.1; row = refl }) (_, record { three = refl; view_fits = l; certificate = h.0; spelled = h.1; row = refl }))

  own-some : (ts : List Turn) (view : ℕ) (d : List ℕ) → TurnsFit ts → is_own_turn ts view d ≡ true → 1 ≤ view
  own-some [] view d h g = absurd (true≢false (sym g))
  own-some (t ∷ ts) view d h g = go ((t.view == view) && same t) refl g (own-some ts view d h.1)
    where
      same : Turn → Bool
      same t = same_bytes t.digest d

      go : (b : Bool) → ((t.view == view) && same t) ≡ b → (b || is_own_turn ts view d) ≡ true → (is_own_turn ts view d ≡ true → 1 ≤ view) → 1 ≤ view
      go true q e more = let k = is-same t.view view (and-true (t.view == view) (same t) q).0 in let l = h.0.some in omega (arith, k, l)
      go false q e more = more e

  answer-signs : (s k : State) (from : ℕ) (body : Body) (sig : List ℕ) → SpelledAs (signed body sig) → Fits s → Fits k → SignsAll (answers_heard p s k from body)
  answer-signs s k from (Prepare view what just) sig m h g = by-if SignsAll (may_prepare p s from view what just) (voted p 1 view (node_digest p view what just)) [] (vote-signs 1 view (node_digest p view what just) (omega arith) (omega arith) m.1.view_fits (digest-long basic p view what just)) tt
  answer-signs s k from (PreCommit view shown) sig m h g = by-if SignsAll (may_second p s view shown) (voted p 2 view (digest_of shown)) [] (vote-signs 2 view (digest_of shown) (omega arith) (omega arith) m.1.view_fits (digest-length shown (m.1.certificate, m.1.spelled))) tt
  answer-signs s k from (Commit view shown) sig m h g = by-if SignsAll (may_third p s view shown) (voted p 3 view (digest_of shown)) [] (vote-signs 3 view (digest_of shown) (omega arith) (omega arith) m.1.view_fits (digest-length shown (m.1.certificate, m.1.spelled))) tt
  answer-signs s k from (Vote phase view d) sig m h g = by-test SignsAll (keeps_vote p s from phase view d && is_reached p k phase view d) _ [] (λ q.
      let a = and-true (keeps_vote p s from phase view d) (is_reached p k phase view d) q in
      let b = and-true _ _ (and-true _ _ a.0).0 in
      let c = certificate-spelled k phase view d m.1.phase_low m.1.phase_fits (own-some s.turns view d h.turns b.1) m.1.view_fits m.1.digest_fits g.votes in
      (shows-sign phase view (certificate p k phase view d) m.1.view_fits c, tt)) tt
  answer-signs s k from other sig m h g = tt

  answers-sign : (s k : State) (i : Input Message) → Heard i → Fits s → Fits k → SignsAll (answers p s k i)
  answers-sign s k (Cast slot batch) m h g = tt
  answers-sign s k (Receive from msg) m h g = answer-signs s k from.0 msg.body msg.sig m h g
  answers-sign s k Timeout m h g = by-test SignsAll (may_end s) _ [] (λ q. let l = ltb-true (round_of s.view) 65535 q in ((_, record { round_fits = omega (arith, l); certificate = h.high.0; spelled = h.high.1; row = refl }), tt)) tt

  drafts-sign : (me : ℕ) (s : State) (i : Input Message) → Heard i → Fits s → SignsAll (drafts p me s i)
  drafts-sign me s i m h =
      let k = kept p me s i in
      let g = kept-fits me s i m h in
      signs-append (answers p s k i) (proposals (proposed p me s k i)) (answers-sign s k i m h g) (proposal-signs (proposed p me s k i) (proposed-new me s k i m g))

  signed-read : (me leaf : ℕ) (ds : List (To × Body)) → SignsAll ds → (to : To) (msg : Message) → In {A = To × Message} (to, msg) (sign_all p me leaf ds) → IsReadMessage hotstuff p msg
  signed-read me leaf [] h to msg k = absurd k
  signed-read me leaf (x ∷ ds) h to msg (inl e) =
      let sig = signature p me leaf (stated basic p x.1) in
      subst (λ (z : To × Message). IsReadMessage hotstuff p z.1) (sym e) (spelled-read 3 p.setup.version (signed x.1 sig) h.0.0 h.0.1 (signature-shape hotstuff p good me leaf (stated basic p x.1)))
  signed-read me leaf (x ∷ ds) h to msg (inr k) = signed-read me (suc leaf) ds h.1 to msg k

pub sent-again : (p : Params) (me : ℕ) (xs : List (Item Message)) (i : Input Message) (leaf : ℕ) (to : To) (msg : Message) → IsGoodParams hotstuff p → me < p.setup.n →
    AreHeard hotstuff p me xs → IsHeard hotstuff p i → In {A = To × Message} (to, msg) (makes p me xs i leaf).sends → IsReadMessage hotstuff p msg
sent-again p me xs i leaf to msg good below heard hears h =
    signed-read p good me leaf (drafts p me (state p me xs) i) (drafts-sign p good me (state p me xs) i (heard-is p good i hears) (state-fits p good me xs heard)) to msg h
