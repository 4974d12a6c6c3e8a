-- The proposals of round 0 are the leader's casts in order, each on the one before.
use Rattle.std.proofs.Common.{◌≡◌, ◌≤◌, ℕ, zero, suc, ◌+◌, ◌*◌, ◌/◌, ◌==◌, ◌&&◌, Bool, true, false, if◌then◌else◌, List, [], ◌∷◌, ◌++◌, length, Option, Some, None, refl, sym, ap, ◌∙◌, subst, inl, inr, ◌⊎◌, arith}
use Rattle.std.specs.Prelude.{nat_lt}
use Rattle.std.proofs.lemmas.Bool.{eqb-false, leb-true}
use Rattle.iss_base.specs.Lists.{In, nth}
use Rattle.iss_base.proofs.Lists.{and-true, in_append, in_right}
use Rattle.iss_request.specs.declared.ids.NodeId.{NodeId}
use Rattle.iss_request.specs.declared.ids.Slot.{Slot}
use Rattle.iss_request.specs.declared.requests.Batch.{Batch}
use Rattle.iss_sb.specs.declared.effects.Input.{Input}
use Rattle.iss_sb.specs.declared.effects.Input.TheVariants.{Cast, Receive, Timeout}
use Rattle.iss_sb.specs.declared.effects.Params.{Params}
use Rattle.iss_sb.specs.declared.effects.To.{To}
use Rattle.iss_sb.specs.declared.effects.To.TheVariants.{All as To_all}
use Rattle.iss_sb.specs.Calls.{IsGoodParams, is_slot}
use Rattle.iss_sb.specs.Evidence.{Item, IsString, Made, World, accepts}
use Rattle.iss_sb.specs.Laws.{AreHeard}
use Rattle.iss_sb.specs.Legal.{IsLegal}
use Rattle.iss_sb.proofs.Slots.{slot-some}
use Rattle.iss_sb.proofs.Worlds.{accepts-new, accepts-old}
use Rattle.iss_sb.specs.declared.content.Content.{Content}
use Rattle.iss_sb.specs.declared.content.Content.TheVariants.{Nil, Holds, Mark}
use Rattle.hs_tree.specs.declared.certificates.Certificate.{Certificate}
use Rattle.hs_tree.specs.declared.certificates.Certificate.TheVariants.{Root}
use Rattle.hs_tree.specs.declared.messages.Message.{Message}
use Rattle.hs_tree.specs.declared.messages.Body.{Body}
use Rattle.hs_tree.specs.declared.messages.Body.TheVariants.{NewView, Prepare, PreCommit, Commit, Decide, Vote}
use Rattle.hs_tree.specs.Messages.{signed}
use Rattle.hs_tree.specs.Certificates.{digest_of}
use Rattle.hs_tree.specs.Paths.{Has, hash}
use Rattle.hs_views.proofs.DraftsAgree.{sent-drafted}
use Rattle.hs_tree.specs.Tree.{basic, filled, is_known, root, weight}
use Rattle.iss_sb.proofs.Contents.{content-table}
use Rattle.sb_hotstuff.specs.Facts.{Leads}
use Rattle.sb_hotstuff.specs.HotStuff.{answers, asks, drafts, hotstuff, makes, proposals, shows, state, strings_at, taken_of, turn_strings, voted}
use Rattle.sb_hotstuff.specs.Rules.{State, cast_turn, certificate, first_turn, heard, is_reached, is_ready, keeps_news, keeps_vote, kept, may_cast, may_end, may_prepare, may_second, may_third, next_turn, nil_or_mark, node_digest, proposed, slots_below, turn, turn_after, turn_on, with_cast, with_round, with_turn}
use Rattle.hs_views.specs.Views.{Turn, all_news, best, round_of}
use Rattle.iss_sb.proofs.Cases.{by-both}
use Rattle.sb_hotstuff.proofs.LeaderProposals.CastsAreAppendOnly.{Same, after-kept, heard-same, state-more}
use Rattle.sb_hotstuff.proofs.ModuleLaws.SentMessagesDecode.{MayTurn, digest-length, heard-is, kept-fits, proposed-new, state-fits}
use Rattle.sb_hotstuff.proofs.Safety.VotesHaveCauses.{AreVoted, acc, hashed-has}
use Rattle.hs_views.proofs.Tests.{by-if, by-test, is-same}

-- ---- Drafts

-- a proposal that is sent belongs to the turn that the input triggered
pub record IsTurn (o : Option Turn) (view : ℕ) (what : Content) (just : Certificate) : Type 0 where
  pub turn : Turn
  pub is : o ≡ Some turn
  pub view_is : turn.view ≡ view
  pub what_is : turn.what ≡ what
  pub just_is : turn.just ≡ just

module _ (p : Params) (to : To) (view : ℕ) (what : Content) (just : Certificate) where
  abbrev Sent : List (To × Body) → Type 0
  Sent ds = In {A = To × Body} (to, Prepare view what just) ds

  one-is : (a : To) (n : Body) → Sent ((a, n) ∷ []) → Prepare view what just ≡ n
  one-is a n (inl e) = ap (λ (z : To × Body). z.1) e
  one-is a n (inr h) = absurd h

  none-if : (t : Bool) (ds : List (To × Body)) → (Sent ds → ⊥) → Sent (if t then ds else []) → ⊥
  none-if true ds h k = h k
  none-if false ds h k = k

  none-voted : (q v : ℕ) (e : List ℕ) → Sent (voted p q v e) → ⊥
  none-voted q v e h = let m = one-is _ (Vote q v e) h in cc

  none-shown : (q v : ℕ) (c : Certificate) → Prepare view what just ≡ shows q v c → ⊥
  none-shown q v c h = go (q == 1) (q == 2) h
    where
      go : (a b : Bool) → Prepare view what just ≡ (if a then PreCommit v c else (if b then Commit v c else Decide v c)) → ⊥
      go true b e = cc
      go false true e = cc
      go false false e = cc

  none-answered-heard : (s k : State) (from : NodeId) (body : Body) (sig : List ℕ) → Sent (answers p s k (Receive from (signed body sig))) → ⊥
  none-answered-heard s k from (Prepare v c j) x h = none-if (may_prepare p s from.0 v c j) (voted p 1 v (node_digest p v c j)) (none-voted 1 v (node_digest p v c j)) h
  none-answered-heard s k from (PreCommit v shown) x h = none-if (may_second p s v shown) (voted p 2 v (digest_of shown)) (none-voted 2 v (digest_of shown)) h
  none-answered-heard s k from (Commit v shown) x h = none-if (may_third p s v shown) (voted p 3 v (digest_of shown)) (none-voted 3 v (digest_of shown)) h
  none-answered-heard s k from (Vote q v e) x h = none-if (keeps_vote p s from.0 q v e && is_reached p k q v e) ((To_all, shows q v (certificate p k q v e)) ∷ []) (λ z. none-shown q v (certificate p k q v e) (one-is To_all (shows q v (certificate p k q v e)) z)) h
  none-answered-heard s k from other x h = h

  none-answered : (s k : State) (i : Input Message) → Sent (answers p s k i) → ⊥
  none-answered s k (Cast slot batch) h = h
  none-answered s k (Receive from msg) h = none-answered-heard s k from msg.body msg.sig h
  none-answered s k Timeout h = none-if (may_end s) _ (λ z. let m = one-is _ (NewView (suc (round_of s.view)) s.high) z in cc) h

  of-turn : (o : Option Turn) → Sent (proposals o) → IsTurn o view what just
  of-turn None h = absurd h
  of-turn (Some t) h =
      let m = one-is To_all (Prepare t.view t.what t.just) h in
      let a : t.view ≡ view = cc in
      let b : t.what ≡ what = cc in
      let c : t.just ≡ just = cc in
      record { turn = t; is = refl; view_is = a; what_is = b; just_is = c }

pub proposal-turn : (p : Params) (me leaf : ℕ) (xs : List (Item Message)) (i : Input Message) (to : To) (view : ℕ) (what : Content) (just : Certificate) (sig : List ℕ) → In {A = To × Message} (to, signed (Prepare view what just) sig) (makes p me xs i leaf).sends →
    IsTurn (proposed p me (state p me xs) (kept p me (state p me xs) i) i) view what just
proposal-turn p me leaf xs i to view what just sig h =
    let s = state p me xs in
    let k = kept p me s i in
    let drafted = sent-drafted basic p me leaf (drafts p me s i) to (signed (Prepare view what just) sig) h in
    elim (in_append {A = To × Body} (to, Prepare view what just) (answers p s k i) (proposals (proposed p me s k i)) drafted) [
      | inl a ↦ absurd (none-answered p to view what just s k i a)
      | inr a ↦ of-turn p to view what just (proposed p me s k i) a
    ]

-- ---- The turns of a legal history

module _ (p : Params) (w : World Message) (good : IsGoodParams hotstuff p) (legal : IsLegal hotstuff p w) (voted_so : AreVoted p w) (me : ℕ) where
  abbrev Holder : List ℕ → Content → Type 0
  Holder a c = Has p.setup.version (IsString w) a c

  -- the casts are a prefix of the replica's final ones
  abbrev pub Later : List Batch → Type 0
  Later cs = (k : ℕ) (b : Batch) → nth cs k ≡ Some b → nth (state p me (w me)).casts k ≡ Some b

  -- a cast of the replica, accepted at its place
  pub record IsCast (k : ℕ) (b : Batch) : Type 0 where
    pub accepted : acc p w me k b
    pub cast : nth (state p me (w me)).casts k ≡ Some b

  -- a turn that proposes a cast: the cast's place is the node's place on its branch
  pub record CastTurn (t : Turn) : Type 0 where
    pub batch : Batch
    pub holds : t.what ≡ Holds batch
    pub place : ℕ
    pub view_is : t.view ≡ suc place
    pub cast : IsCast place batch
    pub below : List Content
    pub leads : Leads p w (digest_of t.just) root below
    pub full : filled below ≡ place

  pub record TurnOk (t : Turn) : Type 0 where
    pub digest_is : t.digest ≡ hash p.setup.version (digest_of t.just) t.what
    pub early : round_of t.view ≡ 0 → CastTurn t
    pub batch : (b : Batch) → t.what ≡ Holds b → CastTurn t

  abbrev MayOk : Option Turn → Type 0
  MayOk None = Unit {0}
  MayOk (Some t) = TurnOk t

  abbrev MayHold : Option Turn → Type 0
  MayHold None = Unit {0}
  MayHold (Some t) = Holder (digest_of t.just) t.what

  abbrev AllOk : List Turn → Type 0
  AllOk [] = Unit {0}
  AllOk (t ∷ ts) = TurnOk t × Holder (digest_of t.just) t.what × AllOk ts

  record LeaderOk (s : State) : Type 0 where
    turns : AllOk s.turns
    casts : (k : ℕ) (b : Batch) → nth s.casts k ≡ Some b → IsCast k b

  -- ---- The next turn

  cast-ok : (view : ℕ) (just : Certificate) (slots place : ℕ) (o : Option Batch) (below : List Content) → view ≡ suc place → ((b : Batch) → o ≡ Some b → IsCast place b) → Leads p w (digest_of just) root below → filled below ≡ place →
      MayOk (cast_turn p view just slots o)
  cast-ok view just slots place None below v h l f = tt
  cast-ok view just slots place (Some b) below v h l f =
      let c : CastTurn (turn p view just (Holds b) slots) = record { batch = b; holds = refl; place = place; view_is = v; cast = h b refl; below = below; leads = l; full = f } in
      record { digest_is = refl; early = λ z. c; batch = λ x q. c }

  -- a turn of a later round proposes no batch
  later-ok : (view : ℕ) (just : Certificate) (what : Content) (slots : ℕ) → (round_of view ≡ 0 → ⊥) → ((b : Batch) → what ≡ Holds b → ⊥) → TurnOk (turn p view just what slots)
  later-ok view just what slots late none = record { digest_is = refl; early = λ z. absurd (late z); batch = λ b q. absurd (none b q) }

  nil-none : (b : Batch) → Nil ≡ Holds b → ⊥
  nil-none b h = cc

  mark-none : (b : Batch) → Mark ≡ Holds b → ⊥
  mark-none b h = cc

  after-ok : (s : State) (t : Turn) → LeaderOk s → TurnOk t → Holder (digest_of t.just) t.what → MayOk (turn_after p s t)
  after-ok s t h ok has = by-both MayOk (round_of t.view == 0) (cast_turn p (suc t.view) (certificate p s 1 t.view t.digest) t.slots (nth s.casts t.view)) _ (λ q. first (ok.early (is-same (round_of t.view) 0 q))) (λ q. later (eqb-false (round_of t.view) 0 q))
    where
      first : CastTurn t → MayOk (cast_turn p (suc t.view) (certificate p s 1 t.view t.digest) t.slots (nth s.casts t.view))
      first c =
          let one : weight t.what ≡ 1 = ap weight c.holds in
          let full = c.full in
          let view = c.view_is in
          cast-ok (suc t.view) (certificate p s 1 t.view t.digest) t.slots t.view (nth s.casts t.view) (t.what ∷ c.below) refl (λ b q. h.casts t.view b q)
          (digest_of t.just, has, sym ok.digest_is, c.leads) (omega (arith, one, full, view))

      still : (v : ℕ) → (v / 65536 ≡ 0 → ⊥) → suc v / 65536 ≡ 0 → ⊥
      still v h e = h (omega (arith, e))

      later : (round_of t.view ≡ 0 → ⊥) → MayOk (if nat_lt t.slots (length p.slots) then Some (turn p (suc t.view) (certificate p s 1 t.view t.digest) Nil t.slots) else None)
      later late = by-if MayOk (nat_lt t.slots (length p.slots)) (Some (turn p (suc t.view) (certificate p s 1 t.view t.digest) Nil t.slots)) None (later-ok (suc t.view) (certificate p s 1 t.view t.digest) Nil t.slots (still t.view late) nil-none) tt

  next-ok : (s : State) (ts : List Turn) → LeaderOk s → AllOk ts → MayOk (next_turn p s ts)
  next-ok s [] h g = by-if MayOk (round_of s.view == 0) (cast_turn p 1 Root 0 (nth s.casts 0)) None (cast-ok 1 Root 0 0 (nth s.casts 0) [] refl (λ b q. h.casts 0 b q) refl refl) tt
  next-ok s (t ∷ ts) h g = by-if MayOk (is_ready p s t) (turn_after p s t) None (after-ok s t h g.0 g.1) tt

  held-none : (slots : ℕ) (b : Batch) → nil_or_mark p slots ≡ Holds b → ⊥
  held-none slots b h = go (nat_lt slots (length p.slots)) h
    where
      go : (t : Bool) → (if t then Nil else Mark) ≡ Holds b → ⊥
      go true e = nil-none b e
      go false e = mark-none b e

  first-ok : (s : State) (round : ℕ) → 1 ≤ round → MayOk (first_turn p s round)
  first-ok s round low =
      let high = best Root (all_news p.setup.n s.news round) in
      let slots = slots_below s high in
      by-if MayOk _ (turn_on p s round high) None
      (by-if MayOk (is_known s.tree (digest_of high)) (Some (turn p (round * 65536 + 1) high (nil_or_mark p slots) slots)) None (later-ok (round * 65536 + 1) high (nil_or_mark p slots) slots (late round low) (held-none slots)) tt) tt
    where
      late : (r : ℕ) → 1 ≤ r → (r * 65536 + 1) / 65536 ≡ 0 → ⊥
      late r l e = omega (arith, l, e)

  proposed-ok-heard : (s k : State) (from : NodeId) (body : Body) (sig : List ℕ) → LeaderOk k → MayOk (proposed p me s k (Receive from (signed body sig)))
  proposed-ok-heard s k from (NewView round high) sig h = by-test MayOk (keeps_news p me s from.0 round high) (first_turn p k round) None (λ q.
      let a = and-true _ _ (and-true _ _ (and-true _ _ q).0).0 in
      first-ok k round (leb-true 1 round a.0)) tt
  proposed-ok-heard s k from (Vote phase view d) sig h = by-if MayOk _ (next_turn p k k.turns) None (next-ok k k.turns h h.turns) tt
  proposed-ok-heard s k from other sig h = tt

  proposed-ok : (s k : State) (i : Input Message) → LeaderOk k → MayOk (proposed p me s k i)
  proposed-ok s k (Cast slot batch) h = by-if MayOk (may_cast p me s slot.0) (next_turn p k k.turns) None (next-ok k k.turns h h.turns) tt
  proposed-ok s k (Receive from msg) h = proposed-ok-heard s k from msg.body msg.sig h
  proposed-ok s k Timeout h = tt

  -- ---- Proposed nodes were hashed

  new-holds : (x : Item Message) (s k : State) (i : Input Message) → In x (w me) → x.made.strings ≡ taken_of p s i ++ turn_strings p (proposed p me s k i) → MayTurn p good (proposed p me s k i) → MayHold (proposed p me s k i)
  new-holds x s k i q made may = go (proposed p me s k i) refl may
    where
      go : (o : Option Turn) → proposed p me s k i ≡ o → MayTurn p good o → MayHold o
      go None e h = tt
      go (Some t) e h =
          let all : x.made.strings ≡ taken_of p s i ++ strings_at p t.view t.what t.just = made ∙ ap (λ (o : Option Turn). taken_of p s i ++ turn_strings p o) e in
          hashed-has p w good legal voted_so me x t.view t.what t.just q (digest-length p good t.just h.just) (content-table p.setup.version t.what h.what.0 h.what.1).1
          (λ z m. subst (λ (y : List (List ℕ)). In z y) (sym all) (in_right z (taken_of p s i) (strings_at p t.view t.what t.just) m))

  -- ---- The state

  same-ok : (s t : State) → Same s t → LeaderOk s → LeaderOk t
  same-ok s t e h = record { turns = subst AllOk (sym e.0) h.turns; casts = subst (λ (cs : List Batch). (k : ℕ) (b : Batch) → nth cs k ≡ Some b → IsCast k b) (sym e.1) h.casts }

  -- the last element of the longer list is the new one
  nth-last : (cs : List Batch) (c b : Batch) (k : ℕ) → nth (cs ++ c ∷ []) k ≡ Some b → (nth cs k ≡ Some b) ⊎ ((k ≡ length cs) × (c ≡ b))
  nth-last [] c b zero h = inr (refl, (let e : Some c ≡ Some b = h in cc))
  nth-last [] c b (suc k) h = absurd cc
  nth-last (a ∷ cs) c b zero h = inl h
  nth-last (a ∷ cs) c b (suc k) h = elim (nth-last cs c b k h) [ inl q ↦ inl q | inr q ↦ inr (ap suc q.0, q.1) ]

  cast-kept : (s : State) (slot : Slot) (b : Batch) → may_cast p me s slot.0 ≡ true → In {A = Slot × Batch} (slot, b) (accepts (w me)) → Later (with_cast s b).casts → LeaderOk s → LeaderOk (with_cast s b)
  cast-kept s slot b q a l h = record {
    turns = h.turns;
    casts = λ k c e. elim (nth-last s.casts b c k e) [
      | inl old ↦ h.casts k c old
      | inr new ↦
          let there = slot-some slot (nth p.slots (length s.casts)) (and-true _ (is_slot slot.0 (nth p.slots (length s.casts))) q).1 in
          record { accepted = (slot, ap (λ (n : ℕ). nth p.slots n) new.0 ∙ there, subst (λ (z : Batch). In {A = Slot × Batch} (slot, z) (accepts (w me))) new.1 a); cast = l k c e }
    ];
  }

  kept-ok : (s : State) (i : Input Message) → ((slot : Slot) (b : Batch) → i ≡ Cast slot b → may_cast p me s slot.0 ≡ true → In {A = Slot × Batch} (slot, b) (accepts (w me))) → Later (kept p me s i).casts → LeaderOk s → LeaderOk (kept p me s i)
  kept-ok s (Cast slot batch) a l h = by-test (λ (z : State). Later z.casts → LeaderOk z) (may_cast p me s slot.0) (with_cast s batch) s (λ q m. cast-kept s slot batch q (a slot batch refl q) m h) (λ m. h) l
  kept-ok s (Receive from msg) a l h = same-ok s (heard p me s from.0 msg.body msg.sig) (heard-same p me s from.0 msg.body msg.sig) h
  kept-ok s Timeout a l h = by-if LeaderOk (may_end s) (with_round s) s (record { turns = h.turns; casts = h.casts }) h

  turn-ok : (s : State) (o : Option Turn) → LeaderOk s → MayOk o → MayHold o → LeaderOk (with_turn s o)
  turn-ok s None h g m = h
  turn-ok s (Some t) h g m = record { turns = (g, m, h.turns); casts = h.casts }

  -- an earlier history of the replica, whose inputs were all received
  pub record IsPart (xs : List (Item Message)) : Type 0 where
    pub heard : AreHeard hotstuff p me xs
    pub here : (x : Item Message) → In x xs → In x (w me)
    pub accepted : (e : Slot × Batch) → In e (accepts xs) → In e (accepts (w me))
    pub later : Later (state p me xs).casts

  pub part-older : (x : Item Message) (xs : List (Item Message)) → IsPart (x ∷ xs) → IsPart xs
  part-older x xs h = record { heard = h.heard.2; here = λ y q. h.here y (inr q); accepted = λ e q. h.accepted e (accepts-old x xs e q); later = λ k b e. h.later k b (state-more p me x xs k b e) }

  casts-accepted : (x : Item Message) (xs : List (Item Message)) → IsPart (x ∷ xs) → (slot : Slot) (b : Batch) → x.input ≡ Cast slot b → may_cast p me (state p me xs) slot.0 ≡ true → In {A = Slot × Batch} (slot, b) (accepts (w me))
  casts-accepted x xs h slot b e q =
      let asked : x.made.accepted ≡ asks p me xs x.input = ap (λ (z : Made Message). z.accepted) h.heard.1 in
      let at : asks p me xs (Cast slot b) ≡ Some (slot, b) = rw q refl in
      h.accepted (slot, b) (accepts-new x xs (slot, b) (asked ∙ ap (λ (z : Input Message). asks p me xs z) e ∙ at))

  step-ok : (x : Item Message) (xs : List (Item Message)) → IsPart (x ∷ xs) → LeaderOk (state p me xs) → LeaderOk (kept p me (state p me xs) x.input)
  step-ok x xs h ok = kept-ok (state p me xs) x.input (casts-accepted x xs h) (λ k b e. h.later k b (after-kept p me x xs k b e)) ok

  step-holds : (x : Item Message) (xs : List (Item Message)) → IsPart (x ∷ xs) → MayHold (proposed p me (state p me xs) (kept p me (state p me xs) x.input) x.input)
  step-holds x xs h =
      let s = state p me xs in
      let k = kept p me s x.input in
      let heard = heard-is p good x.input h.heard.0 in
      let fits = kept-fits p good me s x.input heard (state-fits p good me xs h.heard.2) in
      new-holds x s k x.input (h.here x (inl refl)) (ap (λ (z : Made Message). z.strings) h.heard.1) (proposed-new p good me s k x.input heard fits)

  state-ok : (xs : List (Item Message)) → IsPart xs → LeaderOk (state p me xs)
  state-ok [] h = record { turns = tt; casts = λ k b e. absurd cc }
  state-ok (x ∷ xs) h =
      let s = state p me xs in
      let k = kept p me s x.input in
      let ok = step-ok x xs h (state-ok xs (part-older x xs h)) in
      turn-ok k (proposed p me s k x.input) ok (proposed-ok s k x.input ok) (step-holds x xs h)

  -- what a replica sends as a proposal
  pub record IsProposed (view : ℕ) (what : Content) (just : Certificate) : Type 0 where
    pub turn : Turn
    pub view_is : turn.view ≡ view
    pub what_is : turn.what ≡ what
    pub just_is : turn.just ≡ just
    pub ok : TurnOk turn
    pub has : Holder (digest_of turn.just) turn.what

  pub proposal-why : (x : Item Message) (xs : List (Item Message)) (to : To) (view : ℕ) (what : Content) (just : Certificate) (sig : List ℕ) → IsPart (x ∷ xs) → In {A = To × Message} (to, signed (Prepare view what just) sig) x.made.sends → IsProposed view what just
  proposal-why x xs to view what just sig h sent =
      let s = state p me xs in
      let k = kept p me s x.input in
      let made = subst (λ (z : Made Message). In {A = To × Message} (to, signed (Prepare view what just) sig) z.sends) h.heard.1 sent in
      let t = proposal-turn p me x.leaf xs x.input to view what just sig made in
      let ok = subst MayOk t.is (proposed-ok s k x.input (step-ok x xs h (state-ok xs (part-older x xs h)))) in
      let has = subst MayHold t.is (step-holds x xs h) in
      record { turn = t.turn; view_is = t.view_is; what_is = t.what_is; just_is = t.just_is; ok = ok; has = has }
