-- Each input changes the code's state as the model says.
use Rattle.std.proofs.Common.{◌≡◌, ℕ, ◌==◌, Bool, true, false, if◌then◌else◌, List, [], ◌∷◌, ◌++◌, Option, Some, None, refl, sym, ap, ◌∙◌, subst, append-nil}
use Rattle.std.specs.Prelude.{not, ◌&&◌}
use Rattle.iss_request.specs.declared.ids.NodeId.{NodeId}
use Rattle.iss_request.specs.declared.ids.Slot.{Slot}
use Rattle.iss_request.specs.declared.requests.Batch.{Batch}
use Rattle.iss_sb.specs.declared.effects.Input.{Input}
use Rattle.iss_sb.specs.declared.effects.Input.TheVariants.{Cast, Receive}
use Rattle.iss_sb.specs.declared.effects.Params.{Params}
use Rattle.iss_sb.specs.declared.effects.To.{To}
use Rattle.iss_sb.specs.declared.effects.To.TheVariants.{All as To_all}
use Rattle.iss_sb.specs.declared.content.Content.{Content}
use Rattle.hs_tree.specs.declared.certificates.Certificate.{Certificate}
use Rattle.hs_tree.specs.declared.messages.Message.{Message}
use Rattle.hs_tree.specs.declared.messages.Body.{Body}
use Rattle.hs_tree.specs.declared.messages.Body.TheVariants.{NewView, Prepare, Vote}
use Rattle.hs_tree.specs.Messages.{signed}
use Rattle.sb_hotstuff.specs.declared.outcomes.Outcome.{Outcome}
use Rattle.hs_views.specs.declared.drafts.Draft.{Draft}
use Rattle.sb_hotstuff.specs.declared.state.Node.{Node}
use Rattle.sb_hotstuff.specs.Drafts.{AreDrafts}
use Rattle.sb_hotstuff.specs.HotStuff.{answers, proposals, shows, strings_at, taken_of, turn_strings, voted}
use Rattle.sb_hotstuff.specs.Rules.{State, certificate, first_turn, is_reached, keeps_news, keeps_vote, kept, may_cast, may_prepare, next_turn, node_digest, proposed, turn, with_cast, with_news, with_node, with_turn, with_vote}
use Rattle.hs_views.specs.Views.{Kept, Turn}
use Rattle.sb_hotstuff.specs.Refines.{RefinesState}
use Rattle.sb_hotstuff.specs.Steps.{Does, IsAnswer, IsQuiet, Proposes}
use Rattle.hs_views.specs.Counts.{AreNews, AreVotes}
use Rattle.hs_views.specs.declared.ballots.Ballots.{Ballots}
use Rattle.hs_views.specs.declared.news.Words.{Words}
use Rattle.hs_tree.specs.declared.signing.Hashed.{Hashed}
use Rattle.hs_tree.specs.declared.tree.Tree.{Tree}
use Rattle.hs_tree.specs.Certificates.{digest_of, view_of}
use Rattle.hs_tree.specs.Hashed.{IsHashed}
use Rattle.hs_tree.specs.Known.{Keeps}
use Rattle.hs_tree.specs.Tree.{Node as Tree_node}
use Rattle.sb_hotstuff.proofs.Refinement.TurnRefines.{node-is, strings-are}

-- the parts of a step, composed
module _ (p : Params) (old new : Node) (s : State) (i : Input Message) (o : Outcome) where
  pub does : (k : State) (t : Option Turn) (xs : List (To × Body)) (ss : List (List ℕ)) → kept p old.me.0 s i ≡ k → proposed p old.me.0 s k i ≡ t → answers p s k i ≡ xs → taken_of p s i ≡ ss → new.me ≡ old.me → RefinesState new (with_turn k t) →
      AreDrafts p o.answer xs → AreDrafts p o.proposal (proposals t) → o.hashed ≡ ss ++ turn_strings p t → Does p old new s i o
  does k t xs ss ek et ea es me state answer proposal hashed =
      let prop : proposed p old.me.0 s (kept p old.me.0 s i) i ≡ t = ap (λ (z : State). proposed p old.me.0 s z i) ek ∙ et in
      let ans : answers p s (kept p old.me.0 s i) i ≡ xs = ap (λ (z : State). answers p s z i) ek ∙ ea in
      record {
        node = me;
        state = subst (λ (z : State). RefinesState new z) (λ j. with_turn (sym ek j) (sym prop j)) state;
        answer = subst (λ (z : List (To × Body)). AreDrafts p o.answer z) (sym ans) answer;
        proposal = subst (λ (z : Option Turn). AreDrafts p o.proposal (proposals z)) (sym prop) proposal;
        hashed = hashed ∙ (λ j. sym es j ++ turn_strings p (sym prop j));
      }

  none : (a : Option Draft) → a ≡ None → AreDrafts p a []
  none a e = subst (λ (z : Option Draft). AreDrafts p z []) (sym e) refl

  -- only a proposal
  pub led : (mid : Node) (k : State) (t : Option Turn) → kept p old.me.0 s i ≡ k → proposed p old.me.0 s k i ≡ t → answers p s k i ≡ [] → taken_of p s i ≡ [] → mid.me ≡ old.me → Proposes p mid new k t o → Does p old new s i o
  led mid k t ek et ea es me d = does k t [] [] ek et ea es (d.node ∙ me) d.state (none o.answer d.answer) d.proposal d.hashed

-- nothing
pub idle : (p : Params) (m : Node) (s : State) (i : Input Message) (o : Outcome) → kept p m.me.0 s i ≡ s → proposed p m.me.0 s s i ≡ None → answers p s s i ≡ [] → taken_of p s i ≡ [] → RefinesState m s → IsQuiet o → Does p m m s i o
idle p m s i o ek et ea es h quiet =
    does p m m s i o s None [] [] ek et ea es refl h (none p m m s i o o.answer quiet.answer) (none p m m s i o o.proposal quiet.proposal) quiet.hashed

-- ---- The cases of a test

when : {A : Type 0} (b : Bool) (x y : A) → b ≡ true → (if b then x else y) ≡ x
when b x y h = ap (λ (z : Bool). if z then x else y) h

module _ (p : Params) (m : Node) (s : State) (h : RefinesState m s) where
  abbrev me : ℕ
  me = m.me.0

  pub cast-led : (slot : Slot) (batch : Batch) (n : Node) (o : Outcome) (b : Bool) (mid : Node) → b ≡ may_cast p me s slot.0 → b ≡ true → mid.me ≡ m.me → (casts : List Batch) → casts ≡ m.casts ++ batch ∷ [] → mid ≡ record m { casts = casts } →
      ((k : State) → RefinesState mid k → Proposes p mid n k (next_turn p k k.turns) o) → Does p m n s (Cast slot batch) o
  cast-led slot batch n o b mid hb e same casts hc hm d =
      let t = sym hb ∙ e in
      let k : State = with_cast s batch in
      led p m n s (Cast slot batch) o mid k (next_turn p k k.turns) (when (may_cast p me s slot.0) k s t) (when (may_cast p me s slot.0) (next_turn p k k.turns) None t) refl refl same
      (d k (subst (λ (z : Node). RefinesState z k) (sym hm) (record {
        view = h.view;
        tree = h.tree;
        high = h.high;
        lock = h.lock;
        second = h.second;
        third = h.third;
        casts = hc ∙ ap (λ (z : List Batch). z ++ batch ∷ []) h.casts;
        turns = h.turns;
        low = h.low;
        votes = h.votes;
        news = h.news;
      })))

  pub news-led : (from round : ℕ) (who : NodeId) (high : Certificate) (sig : List ℕ) (n : Node) (o : Outcome) (b : Bool) (words : Words) → who.0 ≡ from → b ≡ keeps_news p me s from round high → b ≡ true → AreNews words ((with_news s from round high).news) →
      ((k : State) → RefinesState (record m { news = words }) k → Proposes p (record m { news = words }) n k (first_turn p k round) o) → Does p m n s (Receive who (signed (NewView round high) sig)) o
  news-led from round who high sig n o b words hw hb e more d =
      let t : keeps_news p me s who.0 round high ≡ true = subst (λ (z : ℕ). keeps_news p me s z round high ≡ true) (sym hw) (sym hb ∙ e) in
      let k : State = with_news s who.0 round high in
      led p m n s (Receive who (signed (NewView round high) sig)) o (record m { news = words }) k (first_turn p k round) (when (keeps_news p me s who.0 round high) k s t) (when (keeps_news p me s who.0 round high) (first_turn p k round) None t) refl refl refl
      (d k (record {
        view = h.view;
        tree = h.tree;
        high = h.high;
        lock = h.lock;
        second = h.second;
        third = h.third;
        casts = h.casts;
        turns = h.turns;
        low = h.low;
        votes = h.votes;
        news = subst (λ (z : ℕ). AreNews words ((with_news s z round high).news)) (sym hw) more;
      }))

  pub node-taken : (from : NodeId) (view : ℕ) (what : Content) (just : Certificate) (sig parent : List ℕ) (hash : Hashed) (tree : Tree) (draft : Draft) → may_prepare p s from.0 view what just ≡ true → parent ≡ digest_of just → IsHashed p.setup.version None parent what hash →
      ((k : Tree_node) (ks : List Tree_node) → k.digest ≡ hash.digest → k.parent ≡ parent → k.what ≡ what → Keeps m.tree ks → Keeps tree (k ∷ ks)) → AreDrafts p (Some draft) (voted p 1 view hash.digest) →
      Does p m (record m { view = view; tree = tree; second = false; third = false }) s (Receive from (signed (Prepare view what just) sig)) (record { answer = Some draft; proposal = None; hashed = hash.strings })
  node-taken from view what just sig parent hash tree draft may hp hashed add drafted =
      let is : hash.digest ≡ node_digest p view what just = node-is p m s view 0 just what (turn p view just what 0) refl parent hash hp hashed in
      let k : State = with_node p s view what just in
      let strings : hash.strings ≡ strings_at p view what just = strings-are p m s view 0 just what (turn p view just what 0) refl parent hash hp hashed in
      does p m (record m { view = view; tree = tree; second = false; third = false }) s (Receive from (signed (Prepare view what just) sig)) (record { answer = Some draft; proposal = None; hashed = hash.strings }) k None
      (voted p 1 view (node_digest p view what just)) (strings_at p view what just) (when (may_prepare p s from.0 view what just) k s may) refl
      (when (may_prepare p s from.0 view what just) (voted p 1 view (node_digest p view what just)) [] may) (when (may_prepare p s from.0 view what just) (strings_at p view what just) [] may) refl
      (record {
        view = refl;
        tree = add (record { view = view; digest = node_digest p view what just; from = view_of just; parent = digest_of just; what = what }) s.tree (sym is) (sym hp) refl h.tree;
        high = h.high;
        lock = h.lock;
        second = refl;
        third = refl;
        casts = h.casts;
        turns = h.turns;
        low = h.low;
        votes = h.votes;
        news = h.news;
      })
      (subst (λ (z : List ℕ). AreDrafts p (Some draft) (voted p 1 view z)) is drafted) refl (strings ∙ sym (append-nil (strings_at p view what just)))

  module _ (from : NodeId) (phase view : ℕ) (d sig : List ℕ) (b : Bool) (votes : Ballots) (hb : b ≡ keeps_vote p s from.0 phase view d) (e : b ≡ true)
      (add : (v : Kept) (vs : List Kept) → v ≡ record { by = from.0; phase = phase; view = view; digest = d; sig = sig } → AreVotes m.votes vs → AreVotes votes (v ∷ vs)) where
    abbrev mid : Node
    mid = record m { votes = votes }

    abbrev k : State
    k = with_vote s from.0 phase view d sig

    t : keeps_vote p s from.0 phase view d ≡ true
    t = sym hb ∙ e

    pub voted-for : RefinesState mid k
    voted-for = record {
      view = h.view;
      tree = h.tree;
      high = h.high;
      lock = h.lock;
      second = h.second;
      third = h.third;
      casts = h.casts;
      turns = h.turns;
      low = h.low;
      votes = add (record { by = from.0; phase = phase; view = view; digest = d; sig = sig }) s.votes refl h.votes;
      news = h.news;
    }

    abbrev X : List (To × Body)
    X = (To_all, shows phase view (certificate p k phase view d)) ∷ []

    abbrev next_is : Bool → Bool → Bool → Option Turn
    next_is a r q = if a && (r && not q) then next_turn p k k.turns else None

    module _ (r : Bool) (hr : r ≡ is_reached p k phase view d) where
      pub vote-kept : (o : Outcome) → r ≡ false → IsQuiet o → Does p m mid s (Receive from (signed (Vote phase view d) sig)) o
      vote-kept o low quiet =
          let u : is_reached p k phase view d ≡ false = sym hr ∙ low in
          does p m mid s (Receive from (signed (Vote phase view d) sig)) o k None [] [] (when (keeps_vote p s from.0 phase view d) k s t) (λ j. next_is (t j) (u j) (phase == 2))
          (λ j. let a : List (To × Body) = if t j && u j then X else [] in a) refl refl voted-for (none p m mid s (Receive from (signed (Vote phase view d) sig)) o o.answer quiet.answer)
          (none p m mid s (Receive from (signed (Vote phase view d) sig)) o o.proposal quiet.proposal) quiet.hashed

      module _ (full : r ≡ true) (draft : Draft) (shown : Certificate) (cert : shown ≡ certificate p k phase view d) (drafted : AreDrafts p (Some draft) ((To_all, shows phase view shown) ∷ [])) where
        u : is_reached p k phase view d ≡ true
        u = sym hr ∙ full

        drafted-so : AreDrafts p (Some draft) X
        drafted-so = subst (λ (z : Certificate). AreDrafts p (Some draft) ((To_all, shows phase view z) ∷ [])) cert drafted

        pub vote-shown : (o : Outcome) → (phase == 2) ≡ true → IsAnswer draft o → Does p m mid s (Receive from (signed (Vote phase view d) sig)) o
        vote-shown o two a =
            does p m mid s (Receive from (signed (Vote phase view d) sig)) o k None X [] (when (keeps_vote p s from.0 phase view d) k s t) (λ j. next_is (t j) (u j) (two j))
            (λ j. let a : List (To × Body) = if t j && u j then X else [] in a) refl refl voted-for (subst (λ (z : Option Draft). AreDrafts p z X) (sym a.answer) drafted-so)
            (none p m mid s (Receive from (signed (Vote phase view d) sig)) o o.proposal a.proposal) a.hashed

        pub vote-led : (n : Node) (o : Outcome) → (phase == 2) ≡ false → Proposes p mid n k (next_turn p k k.turns) o →
            Does p m n s (Receive from (signed (Vote phase view d) sig)) (record { answer = Some draft; proposal = o.proposal; hashed = o.hashed })
        vote-led n o other d2 =
            does p m n s (Receive from (signed (Vote phase view d) sig)) (record { answer = Some draft; proposal = o.proposal; hashed = o.hashed }) k (next_turn p k k.turns) X [] (when (keeps_vote p s from.0 phase view d) k s t)
            (λ j. next_is (t j) (u j) (other j)) (λ j. let a : List (To × Body) = if t j && u j then X else [] in a) refl d2.node d2.state drafted-so d2.proposal d2.hashed
