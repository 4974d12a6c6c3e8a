-- What a node sends is read again, where all that it heard is.
use Rattle.std.proofs.Common.{◌≡◌, ◌≤◌, ◌<◌, ℕ, zero, suc, ◌+◌, ◌*◌, ◌/◌, ◌%◌, ◌^◌, ◌==◌, ◌&&◌, ◌||◌, Bool, true, false, List, [], ◌∷◌, ◌++◌, length, Option, Some, None, refl, sym, ap, ◌∙◌, subst, inl, inr, arith, true≢false}
use Rattle.std.specs.Prelude.{nat_lt, not}
use Rattle.std.proofs.lemmas.Bool.{leb-true, lt-ltb, ltb-true}
use Rattle.std.proofs.lemmas.List.{length-append}
use Rattle.iss_base.specs.Lists.{In, nth, same_bytes}
use Rattle.iss_base.proofs.Lists.{and-true, first-cases, in_append, none-some, nth-in}
use Rattle.iss_request.specs.Formats.{is_signature}
use Rattle.iss_request.specs.declared.requests.Batch.{Batch}
use Rattle.iss_request.specs.declared.ids.NodeId.{NodeId}
use Rattle.iss_sb.specs.declared.effects.Input.{Input}
use Rattle.iss_sb.specs.declared.effects.Input.TheVariants.{Cast, Receive, Timeout}
use Rattle.iss_sb.specs.declared.effects.Params.{Params}
use Rattle.iss_sb.specs.declared.effects.To.{To}
use Rattle.iss_sb.specs.Calls.{IsGoodParams, is_slot}
use Rattle.iss_sb.proofs.Slots.{place-below}
use Rattle.iss_sb.specs.Evidence.{Item, IsReadBatch, IsReadMessage, one_or_none}
use Rattle.iss_sb.specs.Laws.{AreHeard, IsHeard}
use Rattle.iss_sb.specs.Statements.{signature}
use Rattle.iss_sb.proofs.Signatures.{signature-shape}
use Rattle.iss_sb.specs.declared.content.Content.{Content}
use Rattle.iss_sb.specs.declared.content.Content.TheVariants.{Nil, Holds, Mark}
use Rattle.iss_sb.specs.Content.{IsSpelledContent}
use Rattle.hs_tree.specs.declared.certificates.Certificate.{Certificate}
use Rattle.hs_tree.specs.declared.certificates.Certificate.TheVariants.{Root, Votes}
use Rattle.iss_sb.specs.declared.signers.Signed.{Signed}
use Rattle.hs_tree.specs.declared.messages.Message.{Message}
use Rattle.hs_tree.specs.declared.messages.Body.{Body}
use Rattle.hs_tree.specs.declared.messages.Body.TheVariants.{NewView, Prepare, Vote}
use Rattle.iss_sb.specs.Signers.{AreSigners}
use Rattle.hs_tree.specs.Certificates.{IsSpelledCertificate, digest_of, root_row, view_of, votes_row}
use Rattle.hs_tree.specs.Messages.{IsSpelledBody, signed}
use Rattle.hs_tree.specs.Statements.{stated}
use Rattle.hs_tree.specs.Tree.{Node, chained as form, is_known, weight}
use Rattle.iss_sb.proofs.Contents.{batch-table}
use Rattle.hs_tree.proofs.MessageGrammar.{read-spelled, spelled-read}
use Rattle.sb_chained.specs.Chained.{answers, answers_heard, drafts, chained, makes, proposals, sign_all, state, voted}
use Rattle.sb_chained.specs.Rules.{State, after, cast_turn, certificate, find, first_high, full_turn, heard, is_marked, is_ready, is_reached, is_usable, keeps_news, keeps_vote, kept, known_high, may_cast, may_end, may_prepare, next_turn, nil_or_mark, node_digest, noted, proposed, shows, slots_below, taken, turn, turn_after, turn_on, with_cast, with_news, with_node, with_round, with_shown, with_turn, with_vote}
use Rattle.hs_views.specs.Views.{Kept, News, Turn, all_news, best, is_own_turn, news_of, round_of, turn_of, vote_of, votes_of}
use Rattle.iss_sb.proofs.Cases.{by-both}
use Rattle.hs_tree.proofs.Claimed.{digest-long}
use Rattle.hs_views.proofs.Tests.{by-if, by-test, if-some, is-same}

module _ (p : Params) (good : IsGoodParams chained p) where
  -- ---- what has a spelling

  abbrev pub Spelled : Certificate → Type 0
  Spelled c = (bytes : List ℕ) × IsSpelledCertificate 1 c bytes

  abbrev pub SpelledWhat : Content → Type 0
  SpelledWhat what = (bytes : List ℕ) × IsSpelledContent p.setup.version what bytes

  abbrev SpelledAs : Message → Type 0
  SpelledAs msg = (front : List ℕ) × IsSpelledBody 1 p.setup.version msg.body front × (is_signature msg.sig ≡ true)

  root-spelled : Spelled Root
  root-spelled = (root_row, refl)

  pub digest-length : (c : Certificate) → Spelled c → length (digest_of c) ≡ 32
  digest-length Root h = refl
  digest-length (Votes view phase d votes) h = h.1.digest_fits

  -- ---- The fields of a replica's state

  abbrev pub SignedAll : List Kept → Type 0
  SignedAll [] = Unit {0}
  SignedAll (v ∷ vs) = (is_signature v.sig ≡ true) × SignedAll vs

  abbrev pub SpelledAll : List News → Type 0
  SpelledAll [] = Unit {0}
  SpelledAll (w ∷ ws) = Spelled w.high × SpelledAll ws

  abbrev pub ReadAll : List Batch → Type 0
  ReadAll bs = (b : Batch) → In b bs → IsReadBatch p b

  -- a turn's number is at most that of the slots of its branch, and one, while the branch is not full; marks are few
  pub record TurnFits (t : Turn) : Type 0 where
    pub some : 1 ≤ t.view
    pub round_fits : round_of t.view ≤ 65535
    pub low : t.slots < length p.slots → turn_of t.view ≤ suc t.slots
    pub high : turn_of t.view ≤ length p.slots + 4
    pub long : length t.digest ≡ 32

  -- a round's first turn whose branch is full
  abbrev pub FullFits : List Turn → Type 0
  FullFits ts = (round v : ℕ) → full_turn p ts round ≡ Some v → (round_of v ≡ round) × (turn_of v ≤ suc (length p.slots))

  abbrev pub TurnsFit : List Turn → Type 0
  TurnsFit [] = Unit {0}
  TurnsFit (t ∷ ts) = TurnFits t × TurnsFit ts

  pub record Fits (s : State) : Type 0 where
    pub high : Spelled s.high
    pub votes : SignedAll s.votes
    pub news : SpelledAll s.news
    pub turns : TurnsFit s.turns
    pub full : FullFits s.turns
    pub casts : ReadAll s.casts
    pub few : length s.casts ≤ length p.slots

  -- ---- Certificates of received votes

  low-view : (view : ℕ) → round_of view ≤ 65535 → view < 2 ^ 32
  low-view view h = omega (arith, h)

  abbrev NodesBelow : ℕ → List Signed → Type 0
  NodesBelow n [] = Unit {0}
  NodesBelow n (v ∷ vs) = (v.by.0 < n) × NodesBelow n vs

  one-signed : (vs : List Kept) (view : ℕ) (d : List ℕ) (k : ℕ) → SignedAll vs → AreSigners k (one_or_none (vote_of vs 1 view d k))
  one-signed [] view d k h = tt
  one-signed (v ∷ vs) view d k h = by-if (λ (o : Option Signed). AreSigners k (one_or_none o)) _ (Some (record { by = record { 0 = k }; sig = v.sig })) (vote_of vs 1 view d k)
      (omega arith, h.0, tt) (one-signed vs view d k h.1)

  one-below : (vs : List Kept) (view : ℕ) (d : List ℕ) (k : ℕ) → NodesBelow (suc k) (one_or_none (vote_of vs 1 view d k))
  one-below [] view d k = tt
  one-below (v ∷ vs) view d k = by-if (λ (o : Option Signed). NodesBelow (suc k) (one_or_none o)) _ (Some (record { by = record { 0 = k }; sig = v.sig })) (vote_of vs 1 view d k)
      (omega arith, tt) (one-below vs view d k)

  wider : (k : ℕ) (vs : List Signed) → NodesBelow k vs → NodesBelow (suc k) vs
  wider k [] h = tt
  wider k (v ∷ vs) h = let l = h.0 in (omega (arith, l), wider k vs h.1)

  below-append : (n : ℕ) (xs ys : List Signed) → NodesBelow n xs → NodesBelow n ys → NodesBelow n (xs ++ ys)
  below-append n [] ys h g = g
  below-append n (x ∷ xs) ys h g = (h.0, below-append n xs ys h.1 g)

  votes-below : (n : ℕ) (vs : List Kept) (view : ℕ) (d : List ℕ) → NodesBelow n (votes_of n vs 1 view d)
  votes-below zero vs view d = tt
  votes-below (suc k) vs view d = below-append (suc k) (votes_of k vs 1 view d) _ (wider k (votes_of k vs 1 view d) (votes-below k vs view d)) (one-below vs view d k)

  lower : (a b : ℕ) (vs : List Signed) → a ≤ b → AreSigners b vs → AreSigners a vs
  lower a b [] le h = tt
  lower a b (v ∷ vs) le h = let l = h.0 in (omega (arith, le, l), h.1, h.2)

  ascending-append : (from k : ℕ) (xs ys : List Signed) → from ≤ k → AreSigners from xs → NodesBelow k xs → AreSigners k ys → AreSigners from (xs ++ ys)
  ascending-append from k [] ys le h b g = lower from k ys le g
  ascending-append from k (x ∷ xs) ys le h b g = let l = b.0 in (h.0, h.1, ascending-append (suc x.by.0) k xs ys (omega (arith, l)) h.2 b.1 g)

  votes-rise : (n : ℕ) (vs : List Kept) (view : ℕ) (d : List ℕ) → SignedAll vs → AreSigners 0 (votes_of n vs 1 view d)
  votes-rise zero vs view d h = tt
  votes-rise (suc k) vs view d h = ascending-append 0 k (votes_of k vs 1 view d) _ (omega arith) (votes-rise k vs view d h) (votes-below k vs view d) (one-signed vs view d k h)

  one-few : (o : Option Signed) → length (one_or_none o) ≤ 1
  one-few None = omega arith
  one-few (Some v) = omega arith

  votes-few : (n : ℕ) (vs : List Kept) (view : ℕ) (d : List ℕ) → length (votes_of n vs 1 view d) ≤ n
  votes-few zero vs view d = omega arith
  votes-few (suc k) vs view d =
      let a = votes-few k vs view d in
      let b = one-few (vote_of vs 1 view d k) in
      let c = length-append (votes_of k vs 1 view d) (one_or_none (vote_of vs 1 view d k)) in
      omega (arith, a, b, c)

  nodes-few : p.setup.n ≤ 10
  nodes-few = let n = good.nodes in let f = good.setup.faults in omega (arith, n, f)

  slots-few : length p.slots ≤ 64
  slots-few = good.few

  certificate-spelled : (s : State) (view : ℕ) (d : List ℕ) → 1 ≤ view → view < 2 ^ 32 → length d ≡ 32 → SignedAll s.votes → Spelled (certificate p s view d)
  certificate-spelled s view d l m long h =
      let votes = votes_of p.setup.n s.votes 1 view d in
      let n = nodes-few in
      let few = votes-few p.setup.n s.votes view d in
      (votes_row view 1 d votes, record { view_low = l; view_fits = m; phase_low = omega arith; phase_fits = omega arith; digest_fits = long; count_fits = omega (arith, n, few); signers = votes-rise p.setup.n s.votes view d h; row = refl })

  -- ---- The highest certificate of received NewView messages

  abbrev SpelledEach : List Certificate → Type 0
  SpelledEach [] = Unit {0}
  SpelledEach (c ∷ cs) = Spelled c × SpelledEach cs

  one-spelled : (ws : List News) (round k : ℕ) → SpelledAll ws → SpelledEach (one_or_none (news_of ws round k))
  one-spelled [] round k h = tt
  one-spelled (w ∷ ws) round k h = by-if (λ (o : Option Certificate). SpelledEach (one_or_none o)) ((w.by == k) && (w.round == round)) (Some w.high) (news_of ws round k) (h.0, tt) (one-spelled ws round k h.1)

  each-append : (xs ys : List Certificate) → SpelledEach xs → SpelledEach ys → SpelledEach (xs ++ ys)
  each-append [] ys h g = g
  each-append (x ∷ xs) ys h g = (h.0, each-append xs ys h.1 g)

  news-spelled : (n : ℕ) (ws : List News) (round : ℕ) → SpelledAll ws → SpelledEach (all_news n ws round)
  news-spelled zero ws round h = tt
  news-spelled (suc k) ws round h = each-append (all_news k ws round) _ (news-spelled k ws round h) (one-spelled ws round k h)

  best-spelled : (c : Certificate) (cs : List Certificate) → Spelled c → SpelledEach cs → Spelled (best c cs)
  best-spelled c [] h g = h
  best-spelled c (d ∷ ds) h g = by-if Spelled (nat_lt (view_of c) (view_of d)) (best d ds) (best c ds) (best-spelled d ds g.0 g.1) (best-spelled c ds h g.1)

  -- ---- Turns

  -- a turn that is proposed now, behind these
  pub record NewTurn (ts : List Turn) (t : Turn) : Type 0 where
    pub fits : TurnFits t
    pub fresh : full_turn p ts (round_of t.view) ≡ None → turn_of t.view ≤ suc (length p.slots)
    pub just : Spelled t.just
    pub what : SpelledWhat t.what

  abbrev pub MayTurn : List Turn → Option Turn → Type 0
  MayTurn ts None = Unit {0}
  MayTurn ts (Some t) = NewTurn ts t

  nil-spelled : SpelledWhat Nil
  nil-spelled = (0 ∷ [], refl)

  mark-spelled : SpelledWhat Mark
  mark-spelled = (2 ∷ [], refl)

  turn-new : (ts : List Turn) (view : ℕ) (just : Certificate) (what : Content) (slots : ℕ) → 1 ≤ view → round_of view ≤ 65535 → (weight what + slots < length p.slots → turn_of view ≤ suc (weight what + slots)) → turn_of view ≤ length p.slots + 4 →
      (full_turn p ts (round_of view) ≡ None → turn_of view ≤ suc (length p.slots)) → Spelled just → SpelledWhat what → NewTurn ts (turn p view just what slots)
  turn-new ts view just what slots a b c l f h g = record { fits = record { some = a; round_fits = b; low = c; high = l; long = digest-long form p view what just }; fresh = f; just = h; what = g }

  -- the turn after one whose branch is not full fills a slot
  filling : (ts : List Turn) (t : Turn) (just : Certificate) (what : Content) → TurnFits t → t.slots < length p.slots → weight what ≡ 1 → Spelled just → SpelledWhat what → NewTurn ts (turn p (suc t.view) just what t.slots)
  filling ts t just what f l one c g =
      let k = rises t.view t.slots (length p.slots) l slots-few (f.low l) f.round_fits in
      let turns = k.1 in
      turn-new ts (suc t.view) just what t.slots (omega arith) k.0 (λ z. omega (arith, turns, one)) (omega (arith, turns, l)) (λ z. omega (arith, turns, l)) c g
    where
      rises : (view slots m : ℕ) → slots < m → m ≤ 64 → view % 65536 ≤ suc slots → view / 65536 ≤ 65535 → (suc view / 65536 ≤ 65535) × (suc view % 65536 ≤ suc (suc slots))
      rises view slots m a b d e = (omega (arith, a, b, d, e), omega (arith, a, b, d, e))

  fill-cast : (ts : List Turn) (t : Turn) (just : Certificate) (casts : List Batch) → TurnFits t → t.slots < length p.slots → Spelled just → ReadAll casts → MayTurn ts (cast_turn p (suc t.view) just t.slots (nth casts t.slots))
  fill-cast ts t just casts f l c h = go (nth casts t.slots) refl
    where
      go : (o : Option Batch) → nth casts t.slots ≡ o → MayTurn ts (cast_turn p (suc t.view) just t.slots o)
      go None q = tt
      go (Some x) q = filling ts t just (Holds x) f l refl c (batch-table p.setup.version x (h x (nth-in casts t.slots x q)))

  -- a mark on a full branch
  marking : (s : State) (t : Turn) (just : Certificate) → FullFits s.turns → TurnFits t → (t.slots < length p.slots → ⊥) → is_marked (suc t.view) (full_turn p s.turns (round_of t.view)) ≡ true → Spelled just → NewTurn s.turns (turn p (suc t.view) just Mark t.slots)
  marking s t just full f none marked c = go (full_turn p s.turns (round_of t.view)) refl marked
    where
      rises : (view v m : ℕ) → m ≤ 64 → suc view ≤ v + 3 → v / 65536 ≡ view / 65536 → v % 65536 ≤ suc m → view / 65536 ≤ 65535 → (suc view / 65536 ≡ view / 65536) × (suc view % 65536 ≤ m + 4)
      rises view v m a b d e g = (omega (arith, a, b, d, e, g), omega (arith, a, b, d, e, g))

      go : (o : Option ℕ) → full_turn p s.turns (round_of t.view) ≡ o → is_marked (suc t.view) o ≡ true → NewTurn s.turns (turn p (suc t.view) just Mark t.slots)
      go None q e = absurd (true≢false (sym e))
      go (Some v) q e =
          let r = full (round_of t.view) v q in
          let k = rises t.view v (length p.slots) slots-few (leb-true (suc t.view) (v + 3) e) r.0 r.1 f.round_fits in
          let round = k.0 in
          let fits = f.round_fits in
          turn-new s.turns (suc t.view) just Mark t.slots (omega arith) (omega (arith, round, fits)) (λ z. absurd (none (omega (arith, z)))) k.1
          (λ z. let same : full_turn p s.turns (round_of (suc t.view)) ≡ Some v = ap (λ (n : ℕ). full_turn p s.turns n) round ∙ q in absurd (none-some v (sym z ∙ same))) c mark-spelled

  after-new : (s : State) (t : Turn) → Fits s → TurnFits t → MayTurn s.turns (turn_after p s t)
  after-new s t h f =
      let c = certificate-spelled s t.view t.digest f.some (low-view t.view f.round_fits) f.long h.votes in
      by-both (MayTurn s.turns) (nat_lt t.slots (length p.slots)) _ _
      (λ q. by-if (MayTurn s.turns) (round_of t.view == 0) _ _ (fill-cast s.turns t (certificate p s t.view t.digest) s.casts f (ltb-true t.slots (length p.slots) q) c h.casts)
      (filling s.turns t (certificate p s t.view t.digest) Nil f (ltb-true t.slots (length p.slots) q) refl c nil-spelled))
      (λ q. by-test (MayTurn s.turns) (is_marked (suc t.view) (full_turn p s.turns (round_of t.view))) (Some (turn p (suc t.view) (certificate p s t.view t.digest) Mark t.slots)) None
      (λ m. marking s t (certificate p s t.view t.digest) h.full f (λ l. true≢false (sym (lt-ltb t.slots (length p.slots) l) ∙ q)) m c) tt)

  first-cast : (ts : List Turn) (casts : List Batch) → ReadAll casts → MayTurn ts (cast_turn p 1 Root 0 (nth casts 0))
  first-cast ts casts h = go (nth casts 0) refl
    where
      go : (o : Option Batch) → nth casts 0 ≡ o → MayTurn ts (cast_turn p 1 Root 0 o)
      go None q = tt
      go (Some x) q = turn-new ts 1 Root (Holds x) 0 (omega arith) (omega arith) (λ z. omega arith) (omega arith) (λ z. omega arith) root-spelled (batch-table p.setup.version x (h x (nth-in casts 0 x q)))

  next-new : (s : State) (ts : List Turn) → Fits s → TurnsFit ts → MayTurn s.turns (next_turn p s ts)
  next-new s [] h g = by-if (MayTurn s.turns) (round_of s.view == 0) (cast_turn p 1 Root 0 (nth s.casts 0)) None (first-cast s.turns s.casts h.casts) tt
  next-new s (t ∷ ts) h g = by-if (MayTurn s.turns) (is_ready p s t) (turn_after p s t) None (after-new s t h g.0) tt

  held-spelled : (slots : ℕ) → SpelledWhat (nil_or_mark p slots)
  held-spelled slots = by-if SpelledWhat (nat_lt slots (length p.slots)) Nil Mark nil-spelled mark-spelled

  abbrev pub MaySpell : Option Certificate → Type 0
  MaySpell None = Unit {0}
  MaySpell (Some c) = Spelled c

  high-spelled : (s : State) (round : ℕ) → Fits s → MaySpell (first_high p s round)
  high-spelled s round h =
      let cs = all_news p.setup.n s.news round in
      by-if MaySpell _ (known_high s (best Root cs)) None
      (by-if MaySpell (is_known s.tree (digest_of (best Root cs))) (Some (best Root cs)) None (best-spelled Root cs root-spelled (news-spelled p.setup.n s.news round h.news)) tt) tt

  first-new : (s : State) (round : ℕ) → round ≤ 65535 → Fits s → MayTurn s.turns (turn_on p s round (first_high p s round))
  first-new s round low h = go (first_high p s round) (high-spelled s round h)
    where
      rounds : (r : ℕ) → r ≤ 65535 → (r * 65536 + 1) / 65536 ≤ 65535
      rounds r h = omega (arith, h)

      one : (r n : ℕ) → (r * 65536 + 1) % 65536 ≤ suc n
      one r n = omega arith

      one-more : (r n : ℕ) → (r * 65536 + 1) % 65536 ≤ n + 4
      one-more r n = omega arith

      go : (o : Option Certificate) → MaySpell o → MayTurn s.turns (turn_on p s round o)
      go None m = tt
      go (Some high) m =
          let slots = slots_below s high in
          turn-new s.turns (round * 65536 + 1) high (nil_or_mark p slots) slots (omega arith) (rounds round low) (λ z. one round (weight (nil_or_mark p slots) + slots)) (one-more round (length p.slots)) (λ z. one round (length p.slots)) m (held-spelled slots)

  own-some : (ts : List Turn) (view : ℕ) (d : List ℕ) → TurnsFit ts → is_own_turn ts view d ≡ true → 1 ≤ view
  own-some [] view d h g = absurd (true≢false (sym g))
  own-some (t ∷ ts) view d h g = go ((t.view == view) && same t) refl g (own-some ts view d h.1)
    where
      same : Turn → Bool
      same t = same_bytes t.digest d

      go : (b : Bool) → ((t.view == view) && same t) ≡ b → (b || is_own_turn ts view d) ≡ true → (is_own_turn ts view d ≡ true → 1 ≤ view) → 1 ≤ view
      go true q e more = let k = is-same t.view view (and-true (t.view == view) (same t) q).0 in let l = h.0.some in omega (arith, k, l)
      go false q e more = more e

  -- ---- The state

  heard-fits : (me : ℕ) (s : State) (from : ℕ) (body : Body) (sig : List ℕ) → SpelledAs (signed body sig) → Fits s → Fits (heard p me s from body sig)
  heard-fits me s from (NewView round high) sig m h = by-if Fits (keeps_news p me s from round high) (with_news s from round high) s
      (record { high = h.high; votes = h.votes; news = ((m.1.certificate, m.1.spelled), h.news); turns = h.turns; full = h.full; casts = h.casts; few = h.few }) h
  heard-fits me s from (Prepare view what just) sig m h = by-if Fits (may_prepare p s from view what just) (with_node p s view what just) s
      (record { high = h.high; votes = h.votes; news = h.news; turns = h.turns; full = h.full; casts = h.casts; few = h.few }) h
  heard-fits me s from (Vote phase view d) sig m h = by-if Fits (keeps_vote p s from phase view d) (with_vote s from view d sig) s
      (record { high = h.high; votes = (m.2, h.votes); news = h.news; turns = h.turns; full = h.full; casts = h.casts; few = h.few }) h
  heard-fits me s from other sig m h = h

  cast-fits : (s : State) (b : Batch) → length s.casts < length p.slots → IsReadBatch p b → Fits s → Fits (with_cast s b)
  cast-fits s b l r h =
      let n = length-append s.casts (b ∷ []) in
      record {
        high = h.high;
        votes = h.votes;
        news = h.news;
        turns = h.turns;
        full = h.full;
        casts = λ x k. elim (in_append x s.casts (b ∷ []) k) [
          | inl old ↦ h.casts x old
          | inr new ↦ elim new [ inl e ↦ subst (λ (z : Batch). IsReadBatch p z) (sym e) r | inr none ↦ absurd none ]
        ];
        few = omega (arith, l, n);
      }

  abbrev pub Heard : Input Message → Type 0
  Heard (Cast slot batch) = IsReadBatch p batch
  Heard (Receive from msg) = SpelledAs msg
  Heard Timeout = Unit {0}

  pub heard-is : (i : Input Message) → IsHeard chained p i → Heard i
  heard-is (Cast slot batch) h = h
  heard-is (Receive from msg) h = let r = read-spelled 1 p.setup.version msg h.1 in (r.front, r.body, r.shape)
  heard-is Timeout h = tt

  pub taken-fits : (me : ℕ) (s : State) (i : Input Message) → Heard i → Fits s → Fits (taken p me s i)
  taken-fits me s (Cast slot batch) m h = by-test Fits (may_cast p me s slot.0) (with_cast s batch) s
      (λ q. cast-fits s batch (place-below slot.0 p.slots (length s.casts) (and-true _ (is_slot slot.0 (nth p.slots (length s.casts))) q).1) m h) h
  taken-fits me s (Receive from msg) m h = heard-fits me s from.0 msg.body msg.sig m h
  taken-fits me s Timeout m h = by-if Fits (may_end s) (with_round s) s (record { high = h.high; votes = h.votes; news = h.news; turns = h.turns; full = h.full; casts = h.casts; few = h.few }) h

  shows-spelled-heard : (me : ℕ) (s k : State) (from : NodeId) (body : Body) (sig : List ℕ) → Heard (Receive from (signed body sig)) → Fits s → Fits k → MaySpell (shows p me s k (Receive from (signed body sig)))
  shows-spelled-heard me s k from (NewView round high) sig m h g = by-if MaySpell (keeps_news p me s from.0 round high) (first_high p k round) None (high-spelled k round g) tt
  shows-spelled-heard me s k from (Prepare view what just) sig m h g = by-if MaySpell (is_usable p s from.0 view just) (Some just) None (m.1.certificate, m.1.spelled) tt
  shows-spelled-heard me s k from (Vote phase view d) sig m h g = by-test MaySpell (keeps_vote p s from.0 phase view d && is_reached p k view d) (Some (certificate p k view d)) None (λ q.
      let a = and-true (keeps_vote p s from.0 phase view d) (is_reached p k view d) q in
      let b = and-true _ _ (and-true _ _ a.0).0 in
      certificate-spelled k view d (own-some s.turns view d h.turns b.1) m.1.view_fits m.1.digest_fits g.votes) tt
  shows-spelled-heard me s k from other sig m h g = tt

  shows-spelled : (me : ℕ) (s k : State) (i : Input Message) → Heard i → Fits s → Fits k → MaySpell (shows p me s k i)
  shows-spelled me s k (Cast slot batch) m h g = tt
  shows-spelled me s k (Receive from msg) m h g = shows-spelled-heard me s k from msg.body msg.sig m h g
  shows-spelled me s k Timeout m h g = tt

  noted-fits : (s : State) (q : Certificate) (o : Option Node) → Spelled q → Fits s → Fits (noted s q o)
  noted-fits s q None g h = h
  noted-fits s q (Some x) g h = record { high = by-if Spelled (nat_lt (view_of s.high) (view_of q)) q s.high g h.high; votes = h.votes; news = h.news; turns = h.turns; full = h.full; casts = h.casts; few = h.few }

  shown-fits : (s : State) (o : Option Certificate) → MaySpell o → Fits s → Fits (with_shown s o)
  shown-fits s None g h = h
  shown-fits s (Some Root) g h = h
  shown-fits s (Some (Votes view phase d votes)) g h = noted-fits s (Votes view phase d votes) (find s.tree d) g h

  pub kept-fits : (me : ℕ) (s : State) (i : Input Message) → Heard i → Fits s → Fits (kept p me s i)
  kept-fits me s i m h =
      let t = taken p me s i in
      let g = taken-fits me s i m h in
      shown-fits t (shows p me s t i) (shows-spelled me s t i m h g) g

  proposed-new-heard : (me : ℕ) (s k : State) (from : NodeId) (body : Body) (sig : List ℕ) → Heard (Receive from (signed body sig)) → Fits k → MayTurn k.turns (proposed p me s k (Receive from (signed body sig)))
  proposed-new-heard me s k from (NewView round high) sig m h = by-if (MayTurn k.turns) (keeps_news p me s from.0 round high) (turn_on p k round (first_high p k round)) None (let l = m.1.round_fits in first-new k round (omega (arith, l)) h) tt
  proposed-new-heard me s k from (Vote phase view d) sig m h = by-if (MayTurn k.turns) _ (next_turn p k k.turns) None (next-new k k.turns h h.turns) tt
  proposed-new-heard me s k from other sig m h = tt

  pub proposed-new : (me : ℕ) (s k : State) (i : Input Message) → Heard i → Fits k → MayTurn k.turns (proposed p me s k i)
  proposed-new me s k (Cast slot batch) m h = by-if (MayTurn k.turns) (may_cast p me s slot.0) (next_turn p k k.turns) None (next-new k k.turns h h.turns) tt
  proposed-new me s k (Receive from msg) m h = proposed-new-heard me s k from msg.body msg.sig m h
  proposed-new me s k Timeout m h = tt

  full-more : (ts : List Turn) (t : Turn) → FullFits ts → NewTurn ts t → FullFits (t ∷ ts)
  full-more ts t h g round v e = elim (first-cases (full_turn p ts round) _ v e) [
    | inl old ↦ h round v old
    | inr new ↦
        let i = if-some ((round_of t.view == round) && not (nat_lt t.slots (length p.slots))) t.view v new.1 in
        let r = is-same (round_of t.view) round (and-true (round_of t.view == round) _ i.passed).0 in
        let none : full_turn p ts (round_of t.view) ≡ None = ap (λ (n : ℕ). full_turn p ts n) r ∙ new.0 in
        subst (λ (n : ℕ). (round_of n ≡ round) × (turn_of n ≤ suc (length p.slots))) i.is (r, g.fresh none)
  ]

  turn-fits : (s : State) (o : Option Turn) → Fits s → MayTurn s.turns o → Fits (with_turn s o)
  turn-fits s None h g = h
  turn-fits s (Some t) h g = record { high = h.high; votes = h.votes; news = h.news; turns = (g.fits, h.turns); full = full-more s.turns t h.full g; casts = h.casts; few = h.few }

  after-fits : (me : ℕ) (s : State) (i : Input Message) → Heard i → Fits s → Fits (after p me s i)
  after-fits me s i m h = let k = kept-fits me s i m h in turn-fits (kept p me s i) (proposed p me s (kept p me s i) i) k (proposed-new me s (kept p me s i) i m k)

  pub state-fits : (me : ℕ) (xs : List (Item Message)) → AreHeard chained p me xs → Fits (state p me xs)
  state-fits me [] h = record { high = root-spelled; votes = tt; news = tt; turns = tt; full = λ round v e. absurd cc; casts = λ b k. absurd k; few = omega arith }
  state-fits me (x ∷ xs) h = after-fits me (state p me xs) x.input (heard-is x.input h.0) (state-fits me xs h.2)

  -- ---- Sent messages

  abbrev Signs : Body → Type 0
  Signs body = (front : List ℕ) × IsSpelledBody 1 p.setup.version body front

  abbrev SignsAll : List (To × Body) → Type 0
  SignsAll [] = Unit {0}
  SignsAll (x ∷ xs) = Signs x.1 × SignsAll xs

  signs-append : (xs ys : List (To × Body)) → SignsAll xs → SignsAll ys → SignsAll (xs ++ ys)
  signs-append [] ys h g = g
  signs-append (x ∷ xs) ys h g = (h.0, signs-append xs ys h.1 g)

  proposal-signs : (ts : List Turn) (o : Option Turn) → MayTurn ts o → SignsAll (proposals o)
  proposal-signs ts None h = tt
  proposal-signs ts (Some t) h = ((_, record { view_fits = low-view t.view h.fits.round_fits; behind = h.what.0; what_is = h.what.1; certificate = h.just.0; spelled = h.just.1; row = refl }), tt)

  vote-signs : (view : ℕ) (d : List ℕ) → view < 2 ^ 32 → length d ≡ 32 → SignsAll (voted p view d)
  vote-signs view d l long = ((_, record { phase_low = omega arith; phase_fits = omega arith; view_fits = l; digest_fits = long; row = refl }), tt)

  answer-signs : (s : State) (from : ℕ) (body : Body) (sig : List ℕ) → SpelledAs (signed body sig) → SignsAll (answers_heard p s from body)
  answer-signs s from (Prepare view what just) sig m = by-if SignsAll (may_prepare p s from view what just) (voted p view (node_digest p view what just)) [] (vote-signs view (node_digest p view what just) m.1.view_fits (digest-long form p view what just)) tt
  answer-signs s from other sig m = tt

  answers-sign : (s : State) (i : Input Message) → Heard i → Fits s → SignsAll (answers p s i)
  answers-sign s (Cast slot batch) m h = tt
  answers-sign s (Receive from msg) m h = answer-signs s from.0 msg.body msg.sig m
  answers-sign s Timeout m h = by-test SignsAll (may_end s) _ [] (λ q. let l = ltb-true (round_of s.view) 65535 q in ((_, record { round_fits = omega (arith, l); certificate = h.high.0; spelled = h.high.1; row = refl }), tt)) tt

  drafts-sign : (me : ℕ) (s : State) (i : Input Message) → Heard i → Fits s → SignsAll (drafts p me s i)
  drafts-sign me s i m h =
      let k = kept p me s i in
      let g = kept-fits me s i m h in
      signs-append (answers p s i) (proposals (proposed p me s k i)) (answers-sign s i m h) (proposal-signs k.turns (proposed p me s k i) (proposed-new me s k i m g))

  signed-read : (me leaf : ℕ) (ds : List (To × Body)) → SignsAll ds → (to : To) (msg : Message) → In {A = To × Message} (to, msg) (sign_all p me leaf ds) → IsReadMessage chained p msg
  signed-read me leaf [] h to msg k = absurd k
  signed-read me leaf (x ∷ ds) h to msg (inl e) =
      let sig = signature p me leaf (stated form p x.1) in
      subst (λ (z : To × Message). IsReadMessage chained p z.1) (sym e) (spelled-read 1 p.setup.version (signed x.1 sig) h.0.0 h.0.1 (signature-shape chained p good me leaf (stated form p x.1)))
  signed-read me leaf (x ∷ ds) h to msg (inr k) = signed-read me (suc leaf) ds h.1 to msg k

pub sent-again : (p : Params) (me : ℕ) (xs : List (Item Message)) (i : Input Message) (leaf : ℕ) (to : To) (msg : Message) → IsGoodParams chained p → me < p.setup.n →
    AreHeard chained p me xs → IsHeard chained p i → In {A = To × Message} (to, msg) (makes p me xs i leaf).sends → IsReadMessage chained p msg
sent-again p me xs i leaf to msg good below heard hears h =
    signed-read p good me leaf (drafts p me (state p me xs) i) (drafts-sign p good me (state p me xs) i (heard-is p good i hears) (state-fits p good me xs heard)) to msg h
