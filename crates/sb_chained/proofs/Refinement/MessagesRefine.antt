-- What the code does with each kind of input.
use Rattle.std.proofs.Common.{◌≡◌, ℕ, ◌&&◌, Bool, true, false, if◌then◌else◌, List, [], Option, Some, None, refl, sym, ap, ◌∙◌, subst, inl, append-nil}
use Rattle.std.specs.Prelude.{IfSome, nat_lt}
use Rattle.iss_base.specs.Lists.{In}
use Rattle.iss_request.specs.declared.ids.NodeId.{NodeId}
use Rattle.iss_request.specs.declared.ids.Slot.{Slot}
use Rattle.iss_request.specs.declared.requests.Batch.{Batch}
use Rattle.iss_request.specs.declared.requests.Value.{Value}
use Rattle.iss_sb.specs.declared.effects.Input.{Input}
use Rattle.iss_sb.specs.declared.effects.Input.TheVariants.{Cast, Receive, Timeout}
use Rattle.iss_sb.specs.declared.effects.Params.{Params}
use Rattle.iss_sb.specs.declared.effects.To.{To}
use Rattle.iss_sb.specs.Calls.{AllIn, slots_of}
use Rattle.iss_sb.specs.Evidence.{one_or_none}
use Rattle.iss_sb.specs.declared.content.Content.{Content}
use Rattle.hs_tree.specs.declared.certificates.Certificate.{Certificate}
use Rattle.hs_tree.specs.declared.certificates.Certificate.TheVariants.{Root, Votes}
use Rattle.hs_tree.specs.declared.messages.Message.{Message}
use Rattle.hs_tree.specs.declared.messages.Body.{Body}
use Rattle.hs_tree.specs.declared.messages.Body.TheVariants.{NewView, Prepare, PreCommit, Commit, Decide, Vote}
use Rattle.hs_tree.specs.Messages.{signed}
use Rattle.hs_tree.specs.Tree.{Node as Tree_node}
use Rattle.hs_views.proofs.Tests.{none-within}
use Rattle.hs_views.specs.declared.accepted.Accepted.{Accepted}
use Rattle.sb_chained.specs.declared.chained.Chained.{Chained}
use Rattle.sb_chained.specs.declared.outcomes.Outcome.{Outcome}
use Rattle.sb_chained.specs.declared.outcomes.Taken.{Taken}
use Rattle.hs_views.specs.declared.drafts.Draft.{Draft}
use Rattle.sb_chained.specs.declared.state.Node.{Node}
use Rattle.hs_views.specs.Accepted.{AreAccepted, Adds, at_slot, what_at}
use Rattle.sb_chained.specs.Chained.{decides, drafts, offered, proposals, strings, strings_at, turn_strings, value_on, voted}
use Rattle.sb_chained.specs.Drafts.{AreDrafts}
use Rattle.hs_views.specs.Delivered.{IsDelivered}
use Rattle.sb_chained.specs.Internal.Instances.{Does, IsShown, Makes, Takes, TakesNode, asked_in}
use Rattle.sb_chained.specs.Rules.{State, after, certificate, committed_by, find, first_high, is_allowed, is_reached, is_safe, is_usable, keeps_news, keeps_vote, may_cast, may_prepare, next_turn, node_digest, noted, slots_below, turn_on, with_news, with_node, with_shown, with_turn, with_vote}
use Rattle.hs_views.specs.Views.{Turn, round_of}
use Rattle.sb_chained.specs.Refines.{IsAlone, RefinesState, IsQuiet, Proposes}
use Rattle.hs_views.proofs.BranchesDelivered.{at-inside, what-inside}

quiet-draft : (p : Params) (t : Taken) (o : Outcome) → IsAlone o t → IsQuiet o → AreDrafts p t.outcome.draft []
quiet-draft p t o alone quiet = subst (λ (z : Option Draft). AreDrafts p z []) (sym (ap (λ (z : Outcome). z.draft) alone.outcome ∙ quiet.draft)) refl

quiet-hashed : (t : Taken) (o : Outcome) → IsAlone o t → IsQuiet o → t.outcome.hashed ≡ []
quiet-hashed t o alone quiet = ap (λ (z : Outcome). z.hashed) alone.outcome ∙ quiet.hashed

none-inside : (a : Option (Slot × Batch)) (ss : List Slot) → a ≡ None → IfSome a (λ x. In x.0 ss)
none-inside a ss h = subst (λ (z : Option (Slot × Batch)). IfSome z (λ x. In x.0 ss)) (sym h) tt

none-added : (old : Accepted) (a : Option (Slot × Batch)) → a ≡ None → Adds old old (one_or_none a)
none-added old a h = subst (λ (z : Option (Slot × Batch)). Adds old old (one_or_none z)) (sym h) (λ before g. g)

-- ---- what is taken where nothing is accepted

takes-none : (p : Params) (m n : Chained) (i : Input Message) (t : Taken) → n.accepted ≡ m.accepted → t.accepted ≡ None → AllIn (slots_of t.delivers) p.slots → ((s : State) (old : List (Slot × Batch)) → RefinesState p m.node s → asked_in p m.node.me.0 s old i ≡ None) →
    ((s : State) → RefinesState p m.node s → Does p m n s i t) → Takes p m n i t
takes-none p m n i t same none within unasked does = record {
  does = does;
  asked = λ s old h g. none ∙ sym (unasked s old h);
  more = subst (λ (z : Accepted). Adds m.accepted z (one_or_none t.accepted)) (sym same) (none-added m.accepted t.accepted none);
  inside = none-inside t.accepted p.slots none;
  within = within;
}

-- a node alone was changed: nothing is delivered
pub makes-does : (p : Params) (m n : Chained) (s : State) (i : Input Message) (o : Outcome) (t : Taken) → n.delivered ≡ m.delivered → t.outcome ≡ o → t.delivers ≡ [] → ((k : ℕ) → decides p m.node.me.0 s i k ≡ None) → Makes p m.node n.node s i o → Does p m n s i t
makes-does p m n s i o t same is none quiet made = record {
  node = made.node;
  state = made.state;
  draft = subst (λ (z : Outcome). AreDrafts p z.draft (drafts p m.node.me.0 s i)) (sym is) made.draft;
  hashed = ap (λ (z : Outcome). z.hashed) is ∙ made.hashed;
  delivers = inl (record { decides = quiet; delivers = none; same = same });
}

-- ---- inputs that change nothing

module _ (p : Params) (m : Chained) (t : Taken) (o : Outcome) (alone : IsAlone o t) (quiet : IsQuiet o) where
  idle-does : (s : State) (i : Input Message) → RefinesState p m.node s → after p m.node.me.0 s i ≡ s → drafts p m.node.me.0 s i ≡ [] → strings p m.node.me.0 s i ≡ [] → ((k : ℕ) → decides p m.node.me.0 s i k ≡ None) → Does p m m s i t
  idle-does s i h a b c e = record {
    node = refl;
    state = subst (λ (z : State). RefinesState p m.node z) (sym a) h;
    draft = subst (λ (z : List (To × Body)). AreDrafts p t.outcome.draft z) (sym b) (quiet-draft p t o alone quiet);
    hashed = quiet-hashed t o alone quiet ∙ sym c;
    delivers = inl (record { decides = e; delivers = alone.delivers; same = refl });
  }

  idle-takes : (i : Input Message) → ((s : State) (old : List (Slot × Batch)) → RefinesState p m.node s → asked_in p m.node.me.0 s old i ≡ None) → ((s : State) → RefinesState p m.node s → Does p m m s i t) → Takes p m m i t
  idle-takes i unasked does = takes-none p m m i t refl alone.accepted (none-within t.delivers p.slots alone.delivers) unasked does

  pub unheard-pre : (from : NodeId) (view : ℕ) (c : Certificate) (sig : List ℕ) → Takes p m m (Receive from (signed (PreCommit view c) sig)) t
  unheard-pre from view c sig = idle-takes (Receive from (signed (PreCommit view c) sig)) (λ s old h. refl) (λ s h. idle-does s (Receive from (signed (PreCommit view c) sig)) h refl refl refl (λ k. refl))

  pub unheard-commit : (from : NodeId) (view : ℕ) (c : Certificate) (sig : List ℕ) → Takes p m m (Receive from (signed (Commit view c) sig)) t
  unheard-commit from view c sig = idle-takes (Receive from (signed (Commit view c) sig)) (λ s old h. refl) (λ s h. idle-does s (Receive from (signed (Commit view c) sig)) h refl refl refl (λ k. refl))

  pub unheard-decide : (from : NodeId) (view : ℕ) (c : Certificate) (sig : List ℕ) → Takes p m m (Receive from (signed (Decide view c) sig)) t
  unheard-decide from view c sig = idle-takes (Receive from (signed (Decide view c) sig)) (λ s old h. refl) (λ s h. idle-does s (Receive from (signed (Decide view c) sig)) h refl refl refl (λ k. refl))

-- ---- a proposal

module _ (p : Params) (from : NodeId) (view : ℕ) (what : Content) (just : Certificate) (sig : List ℕ) where
  abbrev said : Input Message
  said = Receive from (signed (Prepare view what just) sig)

  abbrev prep : State → Bool → State
  prep s t = if t then with_node p s view what just else s

  abbrev show_if : Bool → Option Certificate
  show_if u = if u then Some just else None

  -- the input was taken, where these are its tests
  record PrepDoes (m n : Chained) (s : State) (tk : Taken) (t u : Bool) : Type 0 where
    node : n.node.me ≡ m.node.me
    state : RefinesState p n.node (with_shown (prep s t) (show_if u))
    draft : AreDrafts p tk.outcome.draft (if t then voted p view (node_digest p view what just) else [])
    hashed : tk.outcome.hashed ≡ (if t then strings_at p view what just else [])
    delivers : IsDelivered p m.delivered n.delivered tk.delivers (value_on p (prep s t) (committed_by (prep s t) (show_if u)))

  prep-does : (m n : Chained) (s : State) (tk : Taken) (t u : Bool) → may_prepare p s from.0 view what just ≡ t → is_usable p s from.0 view just ≡ u → PrepDoes m n s tk t u → Does p m n s said tk
  prep-does m n s tk t u ht hu d =
      let g = subst (λ (a : Bool). PrepDoes m n s tk a (is_usable p s from.0 view just)) (sym ht) (subst (λ (b : Bool). PrepDoes m n s tk t b) (sym hu) d) in
      record {
        node = g.node;
        state = g.state;
        draft = subst (λ (z : List (To × Body)). AreDrafts p tk.outcome.draft z) (sym (append-nil (if may_prepare p s from.0 view what just then voted p view (node_digest p view what just) else []))) g.draft;
        hashed = g.hashed ∙ sym (append-nil (if may_prepare p s from.0 view what just then strings_at p view what just else []));
        delivers = g.delivers;
      }

  -- what is not usable is not taken
  unusable : (s : State) → is_usable p s from.0 view just ≡ false → may_prepare p s from.0 view what just ≡ false
  unusable s h = ap (λ (b : Bool). (b && nat_lt s.view view) && (is_safe p s view what just && is_allowed p (round_of view) (slots_below s just) what)) h

  not-asked : (s : State) (old : List (Slot × Batch)) (me : ℕ) → may_prepare p s from.0 view what just ≡ false → asked_in p me s old said ≡ None
  not-asked s old me h = ap (λ (b : Bool). let r : Option (Slot × Batch) = if b then offered p s old what just else None in r) h

  pub unused-takes : (m : Chained) (tk : Taken) (o : Outcome) (u : Bool) → IsAlone o tk → IsQuiet o → u ≡ false → ((s : State) → RefinesState p m.node s → u ≡ is_usable p s from.0 view just) → Takes p m m said tk
  unused-takes m tk o u alone quiet fails is =
      takes-none p m m said tk refl alone.accepted (none-within tk.delivers p.slots alone.delivers) (λ s old h. not-asked s old m.node.me.0 (unusable s (sym (is s h) ∙ fails)))
      (λ s h. prep-does m m s tk false false (unusable s (sym (is s h) ∙ fails)) (sym (is s h) ∙ fails) (record {
        node = refl;
        state = h;
        draft = quiet-draft p tk o alone quiet;
        hashed = quiet-hashed tk o alone quiet;
        delivers = inl (record { decides = λ k. refl; delivers = alone.delivers; same = refl });
      }))

  pub shown-takes : (m n : Chained) (o : Outcome) (ds : List (Slot × Value)) (t u : Bool) → IsQuiet o → u ≡ true → ((s : State) → RefinesState p m.node s → u ≡ is_usable p s from.0 view just) → t ≡ false → ((s : State) → RefinesState p m.node s → t ≡ may_prepare p s from.0 view what just) →
      n.accepted ≡ m.accepted → AllIn (slots_of ds) p.slots → ((k : State) → RefinesState p m.node k → IsShown p m n k (Some just) ds) → Takes p m n said (record { outcome = o; accepted = None; delivers = ds })
  shown-takes m n o ds t u quiet yep us fails ts same within shown =
      takes-none p m n said (record { outcome = o; accepted = None; delivers = ds }) same refl within (λ s old h. not-asked s old m.node.me.0 (sym (ts s h) ∙ fails))
      (λ s h. let g = shown s h in prep-does m n s (record { outcome = o; accepted = None; delivers = ds }) false true (sym (ts s h) ∙ fails) (sym (us s h) ∙ yep) (record {
        node = g.node;
        state = g.state;
        draft = subst (λ (z : Option Draft). AreDrafts p z []) (sym quiet.draft) refl;
        hashed = quiet.hashed;
        delivers = g.delivers;
      }))

  pub prepared-takes : (m mid n : Chained) (o : Outcome) (ds : List (Slot × Value)) (slot : Option Slot) (a : Option (Slot × Batch)) (t u : Bool) → u ≡ true → ((s : State) → RefinesState p m.node s → u ≡ is_usable p s from.0 view just) →
      t ≡ true → ((s : State) → RefinesState p m.node s → t ≡ may_prepare p s from.0 view what just) → ((s : State) → RefinesState p m.node s → TakesNode p m.node mid.node s view what just o) → mid.delivered ≡ m.delivered → n.accepted ≡ mid.accepted →
      a ≡ what_at what slot → Adds m.accepted mid.accepted (one_or_none (what_at what slot)) → IfSome slot (λ s. In s p.slots) → ((s : State) (old : List (Slot × Batch)) → RefinesState p m.node s → AreAccepted m.accepted old → what_at what slot ≡ offered p s old what just) →
      AllIn (slots_of ds) p.slots → ((k : State) → RefinesState p mid.node k → IsShown p mid n k (Some just) ds) → Takes p m n said (record { outcome = o; accepted = a; delivers = ds })
  prepared-takes m mid n o ds slot a t u yep us holds ts node same acc is adds inside free within shown = record {
    does = λ s h.
        let g = node s h in
        let k = with_node p s view what just in
        let v = shown k g.state in
        prep-does m n s (record { outcome = o; accepted = a; delivers = ds }) true true (sym (ts s h) ∙ holds) (sym (us s h) ∙ yep) (record {
          node = v.node ∙ g.node;
          state = v.state;
          draft = g.draft;
          hashed = g.hashed;
          delivers = subst (λ (z : ℕ). IsDelivered p z n.delivered ds (value_on p k (committed_by k (Some just)))) same v.delivers;
        });
    asked = λ s old h g. is ∙ free s old h g ∙ ap (λ (b : Bool). let r : Option (Slot × Batch) = if b then offered p s old what just else None in r) (sym (sym (ts s h) ∙ holds));
    more = subst (λ (z : Accepted). Adds m.accepted z (one_or_none a)) (sym acc) (subst (λ (z : Option (Slot × Batch)). Adds m.accepted mid.accepted (one_or_none z)) (sym is) adds);
    inside = subst (λ (z : Option (Slot × Batch)). IfSome z (λ x. In x.0 p.slots)) (sym is) (what-inside what slot p.slots inside);
    within = within;
  }

-- ---- a vote

same-reached : (p : Params) (k : State) (q : Option Certificate) (view : ℕ) (d : List ℕ) → is_reached p (with_shown k q) view d ≡ is_reached p k view d
same-reached p k None view d = refl
same-reached p k (Some Root) view d = refl
same-reached p k (Some (Votes w phase e votes)) view d = go (find k.tree e)
  where
    go : (o : Option Tree_node) → is_reached p (noted k (Votes w phase e votes) o) view d ≡ is_reached p k view d
    go None = refl
    go (Some x) = refl

module _ (p : Params) (from : NodeId) (phase view : ℕ) (d sig : List ℕ) where
  abbrev vote : Input Message
  vote = Receive from (signed (Vote phase view d) sig)

  abbrev vkept : State → Bool → State
  vkept s a = if a then with_vote s from.0 view d sig else s

  abbrev vshow : State → Bool → Option Certificate
  vshow k b = if b then Some (certificate p k view d) else None

  abbrev vturn : State → Bool → Option Turn
  vturn k b = if b then next_turn p k k.turns else None

  -- a: the vote is kept; b: and a quorum is there, also once its certificate is noted
  record VoteDoes (m n : Chained) (s : State) (tk : Taken) (a b more : Bool) : Type 0 where
    node : n.node.me ≡ m.node.me
    state : RefinesState p n.node (with_turn (with_shown (vkept s a) (vshow (vkept s a) b)) (vturn (with_shown (vkept s a) (vshow (vkept s a) b)) more))
    draft : AreDrafts p tk.outcome.draft (proposals (vturn (with_shown (vkept s a) (vshow (vkept s a) b)) more))
    hashed : tk.outcome.hashed ≡ turn_strings p (vturn (with_shown (vkept s a) (vshow (vkept s a) b)) more)
    delivers : IsDelivered p m.delivered n.delivered tk.delivers (value_on p (vkept s a) (committed_by (vkept s a) (vshow (vkept s a) b)))

  vote-does : (m n : Chained) (s : State) (tk : Taken) (a b : Bool) → keeps_vote p s from.0 phase view d ≡ a → (keeps_vote p s from.0 phase view d && is_reached p (vkept s (keeps_vote p s from.0 phase view d)) view d) ≡ b → VoteDoes m n s tk a b b → Does p m n s vote tk
  vote-does m n s tk a b ha hb g =
      let t = keeps_vote p s from.0 phase view d in
      let f = t && is_reached p (vkept s t) view d in
      let two = subst (λ (y : Bool). VoteDoes m n s tk a y y) (sym hb) g in
      let three = subst (λ (x : Bool). VoteDoes m n s tk x f f) (sym ha) two in
      let v = subst (λ (y : Bool). VoteDoes m n s tk t f y) (sym (ap (λ (x : Bool). t && x) (same-reached p (vkept s t) (vshow (vkept s t) f) view d))) three in
      record { node = v.node; state = v.state; draft = v.draft; hashed = v.hashed; delivers = v.delivers }

  both-of : (s : State) (a r : Bool) → keeps_vote p s from.0 phase view d ≡ a → is_reached p (vkept s a) view d ≡ r → (keeps_vote p s from.0 phase view d && is_reached p (vkept s (keeps_vote p s from.0 phase view d)) view d) ≡ (a && r)
  both-of s a r ha hr = ap (λ (x : Bool). x && is_reached p (vkept s x) view d) ha ∙ ap (λ (x : Bool). a && x) hr

  pub unkept-vote : (m : Chained) (tk : Taken) (o : Outcome) (a : Bool) → IsAlone o tk → IsQuiet o → a ≡ false → ((s : State) → RefinesState p m.node s → a ≡ keeps_vote p s from.0 phase view d) → Takes p m m vote tk
  unkept-vote m tk o a alone quiet fails is =
      takes-none p m m vote tk refl alone.accepted (none-within tk.delivers p.slots alone.delivers) (λ s old h. refl)
      (λ s h. let e = sym (is s h) ∙ fails in vote-does m m s tk false false e (both-of s false (is_reached p s view d) e refl) (record {
        node = refl;
        state = h;
        draft = quiet-draft p tk o alone quiet;
        hashed = quiet-hashed tk o alone quiet;
        delivers = inl (record { decides = λ k. refl; delivers = alone.delivers; same = refl });
      }))

  module _ (m mid : Chained) (a : Bool) (yep : a ≡ true) (is : (s : State) → RefinesState p m.node s → a ≡ keeps_vote p s from.0 phase view d) (me : mid.node.me ≡ m.node.me) (acc : mid.accepted ≡ m.accepted) (same : mid.delivered ≡ m.delivered)
      (kept_for : (s : State) → RefinesState p m.node s → RefinesState p mid.node (with_vote s from.0 view d sig)) (r : Bool) (reached : (k : State) → RefinesState p mid.node k → r ≡ is_reached p k view d) where
    tests : (s : State) → RefinesState p m.node s → (x : Bool) → r ≡ x → (keeps_vote p s from.0 phase view d && is_reached p (vkept s (keeps_vote p s from.0 phase view d)) view d) ≡ x
    tests s h x e = both-of s true x (sym (is s h) ∙ yep) (sym (reached (with_vote s from.0 view d sig) (kept_for s h)) ∙ e)

    pub kept-vote : (tk : Taken) (o : Outcome) → IsAlone o tk → IsQuiet o → r ≡ false → Takes p m mid vote tk
    kept-vote tk o alone quiet fails =
        takes-none p m mid vote tk acc alone.accepted (none-within tk.delivers p.slots alone.delivers) (λ s old h. refl)
        (λ s h. vote-does m mid s tk true false (sym (is s h) ∙ yep) (tests s h false fails) (record {
          node = me;
          state = kept_for s h;
          draft = quiet-draft p tk o alone quiet;
          hashed = quiet-hashed tk o alone quiet;
          delivers = inl (record { decides = λ k. refl; delivers = alone.delivers; same = same });
        }))

    pub reached-vote : (shown n : Chained) (o : Outcome) (c : Certificate) (ds : List (Slot × Value)) → r ≡ true → ((s : State) → RefinesState p m.node s → c ≡ certificate p (with_vote s from.0 view d sig) view d) → AllIn (slots_of ds) p.slots →
        ((k : State) → RefinesState p mid.node k → IsShown p mid shown k (Some c) ds) → shown.accepted ≡ mid.accepted → n.accepted ≡ shown.accepted → n.delivered ≡ shown.delivered →
        ((k : State) → RefinesState p shown.node k → Proposes p shown.node n.node k (next_turn p k k.turns) o) → Takes p m n vote (record { outcome = o; accepted = None; delivers = ds })
    reached-vote shown n o c ds holds cert within shows_it acc2 acc3 same2 turns =
        let tk : Taken = record { outcome = o; accepted = None; delivers = ds } in
        takes-none p m n vote tk (acc3 ∙ acc2 ∙ acc) refl within (λ s old h. refl)
        (λ s h.
        let k = with_vote s from.0 view d sig in
        let v = subst (λ (z : Certificate). IsShown p mid shown k (Some z) ds) (cert s h) (shows_it k (kept_for s h)) in
        let t = turns (with_shown k (Some (certificate p k view d))) v.state in
        vote-does m n s tk true true (sym (is s h) ∙ yep) (tests s h true holds) (record {
          node = t.node ∙ v.node ∙ me;
          state = t.state;
          draft = t.draft;
          hashed = t.hashed;
          delivers = subst (λ (z : ℕ). IsDelivered p m.delivered z ds (value_on p k (committed_by k (Some (certificate p k view d))))) (sym same2)
              (subst (λ (z : ℕ). IsDelivered p z shown.delivered ds (value_on p k (committed_by k (Some (certificate p k view d))))) same v.delivers);
        }))

-- ---- a word on the start of a round

same-high : (p : Params) (k : State) (q : Option Certificate) (round : ℕ) → first_high p (with_shown k q) round ≡ first_high p k round
same-high p k None round = refl
same-high p k (Some Root) round = refl
same-high p k (Some (Votes view phase d votes)) round = go (find k.tree d)
  where
    go : (o : Option Tree_node) → first_high p (noted k (Votes view phase d votes) o) round ≡ first_high p k round
    go None = refl
    go (Some x) = refl

module _ (p : Params) (from : NodeId) (round : ℕ) (high : Certificate) (sig : List ℕ) where
  abbrev word : Input Message
  word = Receive from (signed (NewView round high) sig)

  abbrev wkept : State → Bool → State
  wkept s a = if a then with_news s from.0 round high else s

  abbrev wshow : Bool → Option Certificate → Option Certificate
  wshow a q = if a then q else None

  record WordDoes (m n : Chained) (s : State) (tk : Taken) (a : Bool) (q r : Option Certificate) : Type 0 where
    node : n.node.me ≡ m.node.me
    state : RefinesState p n.node (with_turn (with_shown (wkept s a) (wshow a q)) (if a then turn_on p (with_shown (wkept s a) (wshow a q)) round r else None))
    draft : AreDrafts p tk.outcome.draft (proposals (if a then turn_on p (with_shown (wkept s a) (wshow a q)) round r else None))
    hashed : tk.outcome.hashed ≡ turn_strings p (if a then turn_on p (with_shown (wkept s a) (wshow a q)) round r else None)
    delivers : IsDelivered p m.delivered n.delivered tk.delivers (value_on p (wkept s a) (committed_by (wkept s a) (wshow a q)))

  word-does : (m n : Chained) (s : State) (tk : Taken) (a : Bool) (q : Option Certificate) → keeps_news p m.node.me.0 s from.0 round high ≡ a → first_high p (wkept s a) round ≡ q → WordDoes m n s tk a q q → Does p m n s word tk
  word-does m n s tk a q ha hq g =
      let t = keeps_news p m.node.me.0 s from.0 round high in
      let f = first_high p (wkept s a) round in
      let k = with_shown (wkept s a) (wshow a f) in
      let two = subst (λ (z : Option Certificate). WordDoes m n s tk a z z) (sym hq) g in
      let three = subst (λ (z : Option Certificate). WordDoes m n s tk a f z) (sym (same-high p (wkept s a) (wshow a f) round)) two in
      let v = subst (λ (x : Bool). WordDoes m n s tk x (first_high p (wkept s x) round) (first_high p (with_shown (wkept s x) (wshow x (first_high p (wkept s x) round))) round)) (sym ha) three in
      record { node = v.node; state = v.state; draft = v.draft; hashed = v.hashed; delivers = v.delivers }

  pub unkept-word : (m : Chained) (tk : Taken) (o : Outcome) → IsAlone o tk → IsQuiet o → ((s : State) → RefinesState p m.node s → keeps_news p m.node.me.0 s from.0 round high ≡ false) → Takes p m m word tk
  unkept-word m tk o alone quiet fails =
      takes-none p m m word tk refl alone.accepted (none-within tk.delivers p.slots alone.delivers) (λ s old h. refl)
      (λ s h. word-does m m s tk false (first_high p s round) (fails s h) refl (record {
        node = refl;
        state = h;
        draft = quiet-draft p tk o alone quiet;
        hashed = quiet-hashed tk o alone quiet;
        delivers = inl (record { decides = λ k. refl; delivers = alone.delivers; same = refl });
      }))

  pub no-round : (m : Chained) (s : State) → round ≡ 0 → keeps_news p m.node.me.0 s from.0 round high ≡ false
  no-round m s z = subst (λ (r : ℕ). keeps_news p m.node.me.0 s from.0 r high ≡ false) (sym z) refl

  module _ (m mid : Chained) (yep : (s : State) → RefinesState p m.node s → keeps_news p m.node.me.0 s from.0 round high ≡ true) (me : mid.node.me ≡ m.node.me) (acc : mid.accepted ≡ m.accepted) (same : mid.delivered ≡ m.delivered)
      (kept_for : (s : State) → RefinesState p m.node s → RefinesState p mid.node (with_news s from.0 round high)) (best : Option Certificate) (best_is : (k : State) → RefinesState p mid.node k → best ≡ first_high p k round) where
    pub kept-word : (tk : Taken) (o : Outcome) → IsAlone o tk → IsQuiet o → best ≡ None → Takes p m mid word tk
    kept-word tk o alone quiet none =
        takes-none p m mid word tk acc alone.accepted (none-within tk.delivers p.slots alone.delivers) (λ s old h. refl)
        (λ s h. word-does m mid s tk true None (yep s h) (sym (best_is (with_news s from.0 round high) (kept_for s h)) ∙ none) (record {
          node = me;
          state = kept_for s h;
          draft = quiet-draft p tk o alone quiet;
          hashed = quiet-hashed tk o alone quiet;
          delivers = inl (record { decides = λ k. refl; delivers = alone.delivers; same = same });
        }))

    pub reached-word : (shown n : Chained) (o : Outcome) (c just : Certificate) (ds : List (Slot × Value)) → best ≡ Some c → just ≡ c → AllIn (slots_of ds) p.slots → ((k : State) → RefinesState p mid.node k → IsShown p mid shown k (Some c) ds) →
        shown.accepted ≡ mid.accepted → n.accepted ≡ shown.accepted → n.delivered ≡ shown.delivered → ((k : State) → RefinesState p shown.node k → Proposes p shown.node n.node k (turn_on p k round (Some just)) o) → Takes p m n word (record { outcome = o; accepted = None; delivers = ds })
    reached-word shown n o c just ds some copied within shows_it acc2 acc3 same2 turns =
        let tk : Taken = record { outcome = o; accepted = None; delivers = ds } in
        takes-none p m n word tk (acc3 ∙ acc2 ∙ acc) refl within (λ s old h. refl)
        (λ s h.
        let k = with_news s from.0 round high in
        let v = shows_it k (kept_for s h) in
        let t = subst (λ (z : Certificate). Proposes p shown.node n.node (with_shown k (Some c)) (turn_on p (with_shown k (Some c)) round (Some z)) o) copied (turns (with_shown k (Some c)) v.state) in
        word-does m n s tk true (Some c) (yep s h) (sym (best_is k (kept_for s h)) ∙ some) (record {
          node = t.node ∙ v.node ∙ me;
          state = t.state;
          draft = t.draft;
          hashed = t.hashed;
          delivers = subst (λ (z : ℕ). IsDelivered p m.delivered z ds (value_on p k (committed_by k (Some c)))) (sym same2)
              (subst (λ (z : ℕ). IsDelivered p z shown.delivered ds (value_on p k (committed_by k (Some c)))) same v.delivers);
        }))

-- ---- a cast, and that time is out

pub cast-takes : (p : Params) (m : Chained) (node : Node) (accepted : Accepted) (slot : Option Slot) (o : Outcome) (a : Option (Slot × Batch)) (at : Slot) (batch : Batch) (ds : List (Slot × Value)) → ds ≡ [] → IfSome slot (λ s. In s p.slots) →
    ((s : State) → RefinesState p m.node s → Makes p m.node node s (Cast at batch) o) → a ≡ at_slot batch slot → Adds m.accepted accepted (one_or_none (at_slot batch slot)) →
    ((s : State) (b : Batch) → RefinesState p m.node s → at_slot b slot ≡ (if may_cast p m.node.me.0 s at.0 then Some (at, b) else None)) →
    Takes p m (record m { node = node; accepted = accepted }) (Cast at batch) (record { outcome = o; accepted = a; delivers = ds })
cast-takes p m node accepted slot o a at batch ds none inside makes is adds free = record {
  does = λ s h. makes-does p m (record m { node = node; accepted = accepted }) s (Cast at batch) o (record { outcome = o; accepted = a; delivers = ds }) refl refl none (λ k. refl) (makes s h);
  asked = λ s old h g. is ∙ free s batch h;
  more = subst (λ (z : Option (Slot × Batch)). Adds m.accepted accepted (one_or_none z)) (sym is) adds;
  inside = subst (λ (z : Option (Slot × Batch)). IfSome z (λ x. In x.0 p.slots)) (sym is) (at-inside batch slot p.slots inside);
  within = none-within ds p.slots none;
}

pub timeout-takes : (p : Params) (m : Chained) (node : Node) (o : Outcome) (t : Taken) → IsAlone o t → ((s : State) → RefinesState p m.node s → Makes p m.node node s Timeout o) → Takes p m (record m { node = node }) Timeout t
timeout-takes p m node o t alone makes =
    takes-none p m (record m { node = node }) Timeout t refl alone.accepted (none-within t.delivers p.slots alone.delivers) (λ s old h. refl)
    (λ s h. makes-does p m (record m { node = node }) s Timeout o t refl alone.outcome alone.delivers (λ k. refl) (makes s h))

-- ---- a message, by its body

pub by-body : (p : Params) (m n : Chained) (from : NodeId) (msg : Message) (body : Body) (t : Taken) → msg.body ≡ body → Takes p m n (Receive from (signed body msg.sig)) t → Takes p m n (Receive from msg) t
by-body p m n from msg body t is d = subst (λ (z : Body). Takes p m n (Receive from (signed z msg.sig)) t) (sym is) d
