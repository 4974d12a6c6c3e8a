-- What a node proposes: in the first round its casts, each on the one before.
use Rattle.std.proofs.Common.{◌≡◌, ◌≤◌, ℕ, zero, suc, ◌+◌, ◌*◌, ◌/◌, ◌==◌, Bool, true, false, if◌then◌else◌, List, [], ◌∷◌, ◌++◌, length, Option, Some, None, refl, sym, ap, ◌∙◌, subst, inl, inr, ◌⊎◌, arith}
use Rattle.std.specs.Prelude.{nat_lt}
use Rattle.std.proofs.lemmas.Bool.{eqb-false, leb-true}
use Rattle.iss_base.specs.Lists.{In, nth}
use Rattle.iss_base.proofs.Lists.{and-true, in_append}
use Rattle.iss_request.specs.declared.ids.NodeId.{NodeId}
use Rattle.iss_request.specs.declared.ids.Slot.{Slot}
use Rattle.iss_request.specs.declared.requests.Batch.{Batch}
use Rattle.iss_sb.specs.declared.effects.Input.{Input}
use Rattle.iss_sb.specs.declared.effects.Input.TheVariants.{Cast, Receive, Timeout}
use Rattle.iss_sb.specs.declared.effects.Params.{Params}
use Rattle.iss_sb.specs.declared.effects.To.{To}
use Rattle.iss_sb.specs.declared.effects.To.TheVariants.{All as To_all}
use Rattle.iss_sb.specs.Calls.{IsGoodParams, is_slot}
use Rattle.iss_sb.specs.Evidence.{IsReached, IsString, Item, Made, Separate, World, accepts}
use Rattle.iss_sb.proofs.Legal.{accepts-front}
use Rattle.iss_sb.proofs.Slots.{slot-some}
use Rattle.iss_sb.proofs.Worlds.{accepts-new}
use Rattle.iss_sb.proofs.Cases.{by-both}
use Rattle.iss_sb.specs.declared.content.Content.{Content}
use Rattle.iss_sb.specs.declared.content.Content.TheVariants.{Nil, Holds, Mark}
use Rattle.hs_tree.specs.declared.certificates.Certificate.{Certificate}
use Rattle.hs_tree.specs.declared.certificates.Certificate.TheVariants.{Root}
use Rattle.hs_tree.specs.declared.messages.Message.{Message}
use Rattle.hs_tree.specs.declared.messages.Body.{Body}
use Rattle.hs_tree.specs.declared.messages.Body.TheVariants.{NewView, Prepare, Vote}
use Rattle.hs_tree.specs.Messages.{signed}
use Rattle.hs_tree.specs.Certificates.{digest_of}
use Rattle.hs_views.proofs.DraftsAgree.{sent-drafted}
use Rattle.hs_tree.specs.Tree.{chained as form, filled, root, weight}
use Rattle.sb_chained.specs.Chained.{answers, asks, chained, drafts, proposals, state, voted}
use Rattle.sb_chained.specs.Facts.{IsAt, Leads}
use Rattle.sb_chained.specs.Rules.{State, cast_turn, certificate, first_high, full_turn, is_marked, is_ready, keeps_news, kept, may_cast, may_end, may_prepare, next_turn, nil_or_mark, node_digest, proposed, slots_below, turn, turn_after, turn_on, with_cast, with_round, with_turn}
use Rattle.hs_views.specs.Views.{Turn, round_of}
use Rattle.sb_chained.proofs.LeaderProposals.CastsAreAppendOnly.{Same, after-kept, front-more, kept-same}
use Rattle.sb_chained.proofs.Safety.KnownNodesStand.{MayAt, proposed-at}
use Rattle.sb_chained.proofs.Safety.VotesHaveCauses.{Part, acc, front-older, part-made}
use Rattle.hs_views.proofs.Tests.{by-if, by-test, is-same}

-- ---- Drafts

-- a proposal that is sent belongs to the turn that the input triggered
pub record IsTurn (o : Option Turn) (view : ℕ) (what : Content) (just : Certificate) : Type 0 where
  pub turn : Turn
  pub is : o ≡ Some turn
  pub view_is : turn.view ≡ view
  pub what_is : turn.what ≡ what
  pub just_is : turn.just ≡ just

module _ (p : Params) (to : To) (view : ℕ) (what : Content) (just : Certificate) where
  abbrev Sent : List (To × Body) → Type 0
  Sent ds = In {A = To × Body} (to, Prepare view what just) ds

  one-is : (a : To) (n : Body) → Sent ((a, n) ∷ []) → Prepare view what just ≡ n
  one-is a n (inl e) = ap (λ (z : To × Body). z.1) e
  one-is a n (inr h) = absurd h

  none-if : (t : Bool) (ds : List (To × Body)) → (Sent ds → ⊥) → Sent (if t then ds else []) → ⊥
  none-if true ds h k = h k
  none-if false ds h k = k

  none-voted : (v : ℕ) (e : List ℕ) → Sent (voted p v e) → ⊥
  none-voted v e h = let m = one-is _ (Vote 1 v e) h in cc

  none-answered-heard : (s : State) (from : NodeId) (body : Body) (sig : List ℕ) → Sent (answers p s (Receive from (signed body sig))) → ⊥
  none-answered-heard s from (Prepare v c j) x h = none-if (may_prepare p s from.0 v c j) (voted p v (node_digest p v c j)) (none-voted v (node_digest p v c j)) h
  none-answered-heard s from other x h = h

  none-answered : (s : State) (i : Input Message) → Sent (answers p s i) → ⊥
  none-answered s (Cast slot batch) h = h
  none-answered s (Receive from msg) h = none-answered-heard s from msg.body msg.sig h
  none-answered s Timeout h = none-if (may_end s) _ (λ z. let m = one-is _ (NewView (suc (round_of s.view)) s.high) z in cc) h

  of-turn : (o : Option Turn) → Sent (proposals o) → IsTurn o view what just
  of-turn None h = absurd h
  of-turn (Some t) h =
      let m = one-is To_all (Prepare t.view t.what t.just) h in
      let a : t.view ≡ view = cc in
      let b : t.what ≡ what = cc in
      let c : t.just ≡ just = cc in
      record { turn = t; is = refl; view_is = a; what_is = b; just_is = c }

-- a proposal among the drafts is that of the step's turn
pub proposal-turn : (p : Params) (me : ℕ) (s : State) (i : Input Message) (to : To) (view : ℕ) (what : Content) (just : Certificate) → In {A = To × Body} (to, Prepare view what just) (drafts p me s i) →
    IsTurn (proposed p me s (kept p me s i) i) view what just
proposal-turn p me s i to view what just h =
    let k = kept p me s i in
    elim (in_append {A = To × Body} (to, Prepare view what just) (answers p s i) (proposals (proposed p me s k i)) h) [
      | inl a ↦ absurd (none-answered p to view what just s i a)
      | inr a ↦ of-turn p to view what just (proposed p me s k i) a
    ]

-- ---- the turns of a list

module _ (p : Params) (w : World Message) (good : IsGoodParams chained p) (reached : IsReached chained p w) (me : ℕ) where
  abbrev P : List (Item Message) → Type 0
  P xs = Part p w good reached me xs

  -- the casts are a prefix of the replica's final ones
  abbrev pub Later : List Batch → Type 0
  Later cs = (k : ℕ) (b : Batch) → nth cs k ≡ Some b → nth (state p me (w me)).casts k ≡ Some b

  -- a cast of the replica, accepted at its place
  pub record IsCast (k : ℕ) (b : Batch) : Type 0 where
    pub accepted : acc p w me k b
    pub cast : nth (state p me (w me)).casts k ≡ Some b

  -- in the first round a turn's slots are those of its branch
  pub record Early (t : Turn) : Type 0 where
    pub below : List Content
    pub leads : Leads p w (digest_of t.just) root below
    pub full : weight t.what + filled below ≡ t.slots

  -- a turn that proposes a cast: the place of the cast is that of the node on its branch
  pub record CastTurn (t : Turn) (batch : Batch) : Type 0 where
    pub place : ℕ
    pub cast : IsCast place batch
    pub below : List Content
    pub leads : Leads p w (digest_of t.just) root below
    pub full : filled below ≡ place

  pub record TurnOk (t : Turn) : Type 0 where
    pub digest_is : t.digest ≡ node_digest p t.view t.what t.just
    pub early : round_of t.view ≡ 0 → Early t
    pub batch : (b : Batch) → t.what ≡ Holds b → CastTurn t b

  abbrev MayOk : Option Turn → Type 0
  MayOk None = Unit {0}
  MayOk (Some t) = TurnOk t

  -- the node of a turn
  abbrev pub Proposed : Turn → Type 0
  Proposed t = IsAt p w (node_digest p t.view t.what t.just) t.view (digest_of t.just) t.what

  abbrev AllOk : List Turn → Type 0
  AllOk [] = Unit {0}
  AllOk (t ∷ ts) = TurnOk t × Proposed t × AllOk ts

  record LeaderOk (s : State) : Type 0 where
    turns : AllOk s.turns
    casts : (k : ℕ) (b : Batch) → nth s.casts k ≡ Some b → IsCast k b

  -- ---- The next turn

  cast-ok : (view : ℕ) (just : Certificate) (slots : ℕ) (o : Option Batch) (below : List Content) → ((b : Batch) → o ≡ Some b → IsCast slots b) → Leads p w (digest_of just) root below → filled below ≡ slots → MayOk (cast_turn p view just slots o)
  cast-ok view just slots None below h l f = tt
  cast-ok view just slots (Some b) below h l f = record {
    digest_is = refl;
    early = λ z. record { below = below; leads = l; full = omega (arith, f) };
    batch = λ x q. let same : b ≡ x = cc in subst (λ (y : Batch). CastTurn (turn p view just (Holds b) slots) y) same (record { place = slots; cast = h b refl; below = below; leads = l; full = f });
  }

  nil-none : (b : Batch) → Nil ≡ Holds b → ⊥
  nil-none b h = cc

  mark-none : (b : Batch) → Mark ≡ Holds b → ⊥
  mark-none b h = cc

  -- a turn that proposes no batch
  other-ok : (view : ℕ) (just : Certificate) (what : Content) (slots : ℕ) → (round_of view ≡ 0 → Early (turn p view just what slots)) → ((b : Batch) → what ≡ Holds b → ⊥) → TurnOk (turn p view just what slots)
  other-ok view just what slots early none = record { digest_is = refl; early = early; batch = λ b q. absurd (none b q) }

  still : (v : ℕ) → (v / 65536 ≡ 0 → ⊥) → suc v / 65536 ≡ 0 → ⊥
  still v h e = h (omega (arith, e))

  low : (v : ℕ) → suc v / 65536 ≡ 0 → v / 65536 ≡ 0
  low v e = omega (arith, e)

  after-ok : (s : State) (t : Turn) → LeaderOk s → TurnOk t → Proposed t → MayOk (turn_after p s t)
  after-ok s t h ok at = by-if MayOk (nat_lt t.slots (length p.slots)) _ _
      (by-both MayOk (round_of t.view == 0) (cast_turn p (suc t.view) (certificate p s t.view t.digest) t.slots (nth s.casts t.slots)) _
      (λ q. let e = ok.early (is-same (round_of t.view) 0 q) in cast-ok (suc t.view) (certificate p s t.view t.digest) t.slots (nth s.casts t.slots) (t.what ∷ e.below) (λ b z. h.casts t.slots b z) (on e) e.full)
      (λ q. other-ok (suc t.view) (certificate p s t.view t.digest) Nil t.slots (λ z. absurd (still t.view (eqb-false (round_of t.view) 0 q) z)) nil-none))
      (by-if MayOk (is_marked (suc t.view) (full_turn p s.turns (round_of t.view))) (Some (turn p (suc t.view) (certificate p s t.view t.digest) Mark t.slots)) None
      (other-ok (suc t.view) (certificate p s t.view t.digest) Mark t.slots (λ z. let e = ok.early (low t.view z) in let full = e.full in record { below = t.what ∷ e.below; leads = on e; full = omega (arith, full) }) mark-none) tt)
    where
      on : (e : Early t) → Leads p w t.digest root (t.what ∷ e.below)
      on e = (t.view, digest_of t.just, subst (λ (z : List ℕ). IsAt p w z t.view (digest_of t.just) t.what) (sym ok.digest_is) at, e.leads)

  next-ok : (s : State) (ts : List Turn) → LeaderOk s → AllOk ts → MayOk (next_turn p s ts)
  next-ok s [] h g = by-if MayOk (round_of s.view == 0) (cast_turn p 1 Root 0 (nth s.casts 0)) None (cast-ok 1 Root 0 (nth s.casts 0) [] (λ b q. h.casts 0 b q) refl refl) tt
  next-ok s (t ∷ ts) h g = by-if MayOk (is_ready p s t) (turn_after p s t) None (after-ok s t h g.0 g.1) tt

  held-none : (slots : ℕ) (b : Batch) → nil_or_mark p slots ≡ Holds b → ⊥
  held-none slots b h = go (nat_lt slots (length p.slots)) h
    where
      go : (t : Bool) → (if t then Nil else Mark) ≡ Holds b → ⊥
      go true e = nil-none b e
      go false e = mark-none b e

  first-ok : (s : State) (round : ℕ) (o : Option Certificate) → 1 ≤ round → MayOk (turn_on p s round o)
  first-ok s round None low = tt
  first-ok s round (Some high) low =
      let slots = slots_below s high in
      other-ok (round * 65536 + 1) high (nil_or_mark p slots) slots (λ z. absurd (late round low z)) (held-none slots)
    where
      late : (r : ℕ) → 1 ≤ r → (r * 65536 + 1) / 65536 ≡ 0 → ⊥
      late r l e = omega (arith, l, e)

  proposed-ok-heard : (s k : State) (from : NodeId) (body : Body) (sig : List ℕ) → LeaderOk k → MayOk (proposed p me s k (Receive from (signed body sig)))
  proposed-ok-heard s k from (NewView round high) sig h = by-test MayOk (keeps_news p me s from.0 round high) (turn_on p k round (first_high p k round)) None (λ q.
      let a = and-true _ _ (and-true _ _ (and-true _ _ q).0).0 in
      first-ok k round (first_high p k round) (leb-true 1 round a.0)) tt
  proposed-ok-heard s k from (Vote phase view d) sig h = by-if MayOk _ (next_turn p k k.turns) None (next-ok k k.turns h h.turns) tt
  proposed-ok-heard s k from other sig h = tt

  proposed-ok : (s k : State) (i : Input Message) → LeaderOk k → MayOk (proposed p me s k i)
  proposed-ok s k (Cast slot batch) h = by-if MayOk (may_cast p me s slot.0) (next_turn p k k.turns) None (next-ok k k.turns h h.turns) tt
  proposed-ok s k (Receive from msg) h = proposed-ok-heard s k from msg.body msg.sig h
  proposed-ok s k Timeout h = tt

  -- ---- the state

  same-ok : (s t : State) → Same s t → LeaderOk s → LeaderOk t
  same-ok s t e h = record { turns = subst AllOk (sym e.0) h.turns; casts = subst (λ (cs : List Batch). (k : ℕ) (b : Batch) → nth cs k ≡ Some b → IsCast k b) (sym e.1) h.casts }

  -- the last element of the longer list is the new one
  nth-last : (cs : List Batch) (c b : Batch) (k : ℕ) → nth (cs ++ c ∷ []) k ≡ Some b → (nth cs k ≡ Some b) ⊎ ((k ≡ length cs) × (c ≡ b))
  nth-last [] c b zero h = inr (refl, (let e : Some c ≡ Some b = h in cc))
  nth-last [] c b (suc k) h = absurd cc
  nth-last (a ∷ cs) c b zero h = inl h
  nth-last (a ∷ cs) c b (suc k) h = elim (nth-last cs c b k h) [ inl q ↦ inl q | inr q ↦ inr (ap suc q.0, q.1) ]

  cast-kept : (s : State) (slot : Slot) (b : Batch) → may_cast p me s slot.0 ≡ true → In {A = Slot × Batch} (slot, b) (accepts (w me)) → Later (with_cast s b).casts → LeaderOk s → LeaderOk (with_cast s b)
  cast-kept s slot b q a l h = record {
    turns = h.turns;
    casts = λ k c e. elim (nth-last s.casts b c k e) [
      | inl old ↦ h.casts k c old
      | inr new ↦
          let there = slot-some slot (nth p.slots (length s.casts)) (and-true _ (is_slot slot.0 (nth p.slots (length s.casts))) q).1 in
          record { accepted = (slot, ap (λ (n : ℕ). nth p.slots n) new.0 ∙ there, subst (λ (z : Batch). In {A = Slot × Batch} (slot, z) (accepts (w me))) new.1 a); cast = l k c e }
    ];
  }

  kept-ok : (s : State) (i : Input Message) → ((slot : Slot) (b : Batch) → i ≡ Cast slot b → may_cast p me s slot.0 ≡ true → In {A = Slot × Batch} (slot, b) (accepts (w me))) → Later (kept p me s i).casts → LeaderOk s → LeaderOk (kept p me s i)
  kept-ok s (Cast slot batch) a l h = by-test (λ (z : State). Later z.casts → LeaderOk z) (may_cast p me s slot.0) (with_cast s batch) s (λ q m. cast-kept s slot batch q (a slot batch refl q) m h) (λ m. h) l
  kept-ok s (Receive from msg) a l h = same-ok s (kept p me s (Receive from msg)) (kept-same p me s from msg) h
  kept-ok s Timeout a l h = by-if LeaderOk (may_end s) (with_round s) s (record { turns = h.turns; casts = h.casts }) h

  turn-ok : (s : State) (o : Option Turn) → LeaderOk s → MayOk o → MayAt p w good reached me o → LeaderOk (with_turn s o)
  turn-ok s None h g m = h
  turn-ok s (Some t) h g m = record { turns = (g, m, h.turns); casts = h.casts }

  part-later : (xs : List (Item Message)) → P xs → Later (state p me xs).casts
  part-later xs f k b e = front-more p me xs (w me) f k b e

  casts-accepted : (x : Item Message) (xs : List (Item Message)) → P (x ∷ xs) → (slot : Slot) (b : Batch) → x.input ≡ Cast slot b → may_cast p me (state p me xs) slot.0 ≡ true → In {A = Slot × Batch} (slot, b) (accepts (w me))
  casts-accepted x xs f slot b e q =
      let asked : x.made.accepted ≡ asks p me xs x.input = ap (λ (z : Made Message). z.accepted) (part-made p w good reached me (x ∷ xs) f).0 in
      let at : asks p me xs (Cast slot b) ≡ Some (slot, b) = rw q refl in
      accepts-front (x ∷ xs) (w me) (slot, b) f (accepts-new x xs (slot, b) (asked ∙ ap (λ (z : Input Message). asks p me xs z) e ∙ at))

  step-ok : (x : Item Message) (xs : List (Item Message)) → P (x ∷ xs) → LeaderOk (state p me xs) → LeaderOk (kept p me (state p me xs) x.input)
  step-ok x xs f ok = kept-ok (state p me xs) x.input (casts-accepted x xs f) (λ k b e. part-later (x ∷ xs) f k b (after-kept p me x xs k b e)) ok

  module _ (sep : Separate (IsString w)) where
    leader-ok : (xs : List (Item Message)) → P xs → LeaderOk (state p me xs)
    leader-ok [] f = record { turns = tt; casts = λ k b e. absurd cc }
    leader-ok (x ∷ xs) f =
        let s = state p me xs in
        let k = kept p me s x.input in
        let ok = step-ok x xs f (leader-ok xs (front-older x xs (w me) f)) in
        turn-ok k (proposed p me s k x.input) ok (proposed-ok s k x.input ok) (proposed-at p w good reached me sep x xs f)

    -- what a node sends as a proposal
    pub record IsProposed (view : ℕ) (what : Content) (just : Certificate) : Type 0 where
      pub turn : Turn
      pub view_is : turn.view ≡ view
      pub what_is : turn.what ≡ what
      pub just_is : turn.just ≡ just
      pub ok : TurnOk turn
      pub at : Proposed turn

    pub proposal-why : (x : Item Message) (xs : List (Item Message)) (to : To) (view : ℕ) (what : Content) (just : Certificate) (sig : List ℕ) → P (x ∷ xs) → In {A = To × Message} (to, signed (Prepare view what just) sig) x.made.sends → IsProposed view what just
    proposal-why x xs to view what just sig f sent =
        let s = state p me xs in
        let k = kept p me s x.input in
        let made = subst (λ (z : Made Message). In {A = To × Message} (to, signed (Prepare view what just) sig) z.sends) (part-made p w good reached me (x ∷ xs) f).0 sent in
        let t = proposal-turn p me s x.input to view what just (sent-drafted form p me x.leaf (drafts p me s x.input) to (signed (Prepare view what just) sig) made) in
        let ok = subst MayOk t.is (proposed-ok s k x.input (step-ok x xs f (leader-ok xs (front-older x xs (w me) f)))) in
        let at = subst (λ (o : Option Turn). MayAt p w good reached me o) t.is (proposed-at p w good reached me sep x xs f) in
        record { turn = t.turn; view_is = t.view_is; what_is = t.what_is; just_is = t.just_is; ok = ok; at = at }
