-- What an input makes of the code's state.
use Rattle.std.proofs.Common.{◌≡◌, ℕ, Bool, true, if◌then◌else◌, List, [], ◌∷◌, ◌++◌, Option, Some, None, refl, sym, ap, ◌∙◌, subst}
use Rattle.iss_request.specs.declared.ids.Slot.{Slot}
use Rattle.iss_request.specs.declared.requests.Batch.{Batch}
use Rattle.iss_sb.specs.declared.effects.Input.TheVariants.{Cast}
use Rattle.iss_sb.specs.declared.effects.Params.{Params}
use Rattle.iss_sb.specs.declared.content.Content.{Content}
use Rattle.hs_tree.specs.declared.certificates.Certificate.{Certificate}
use Rattle.hs_tree.specs.declared.signing.Hashed.{Hashed}
use Rattle.hs_tree.specs.Certificates.{digest_of, view_of}
use Rattle.hs_tree.specs.Hashed.{IsHashed}
use Rattle.hs_tree.specs.Tree.{Node as Tree_node}
use Rattle.hs_views.specs.declared.ballots.Ballots.{Ballots}
use Rattle.sb_chained.specs.declared.links.Link.{Link}
use Rattle.sb_chained.specs.declared.links.Nodes.{Nodes}
use Rattle.hs_views.specs.declared.news.Words.{Words}
use Rattle.sb_chained.specs.declared.outcomes.Outcome.{Outcome}
use Rattle.hs_views.specs.declared.drafts.Draft.{Draft}
use Rattle.sb_chained.specs.declared.state.Node.{Node}
use Rattle.sb_chained.specs.Chained.{proposals, turn_strings, voted}
use Rattle.sb_chained.specs.Drafts.{AreDrafts}
use Rattle.sb_chained.specs.Internal.Instances.{Makes, TakesNode}
use Rattle.sb_chained.specs.Links.{Holds, link_of}
use Rattle.sb_chained.specs.Rules.{State, may_cast, next_turn, node_digest, node_on, turn, with_cast, with_news, with_turn, with_vote}
use Rattle.hs_views.specs.Views.{Kept, News, Turn}
use Rattle.sb_chained.specs.Refines.{RefinesState, Proposes}
use Rattle.hs_views.specs.Counts.{AreNews, AreVotes}
use Rattle.sb_chained.proofs.Refinement.TurnRefines.{node-is, strings-are}

-- the node that is taken or proposed, as it is known from then on
abbrev pub Adding : Nodes → Nodes → List ℕ → Link → Content → Type 0
Adding old new digest link what = (k : Tree_node) (ks : List Tree_node) → k.digest ≡ digest → link_of k ≡ link → k.what ≡ what → Holds old ks → Holds new (k ∷ ks)

module _ (p : Params) (m : Node) (s : State) (h : RefinesState p m s) (view from : ℕ) (what : Content) (just : Certificate) (parent : List ℕ) (hash : Hashed) (nodes : Nodes) (hp : parent ≡ digest_of just) (hf : from ≡ view_of just)
    (hashed : IsHashed p.setup.version (Some view) parent what hash) (add : Adding m.nodes nodes hash.digest (record { view = view; from = from; parent = parent }) what) where
  same-digest : node_digest p view what just ≡ hash.digest
  same-digest = sym (node-is p m s view 0 just what (turn p view just what 0) refl parent hash hp hashed)

  same-link : (let l : Link = record { view = view; from = view_of just; parent = digest_of just } in l) ≡ record { view = view; from = from; parent = parent }
  same-link = λ i. record { view = view; from = sym hf i; parent = sym hp i }

  pub node-held : Holds nodes (node_on p view what just ∷ s.tree)
  node-held = add (node_on p view what just) s.tree same-digest same-link refl h.nodes

  pub node-taken : (draft : Draft) → AreDrafts p (Some draft) (voted p view hash.digest) → TakesNode p m (record m { nodes = nodes; view = view }) s view what just (record { draft = Some draft; hashed = hash.strings })
  node-taken draft drafted = record {
    node = refl;
    state = record {
      view = refl;
      nodes = node-held;
      high = h.high;
      lock = h.lock;
      casts = h.casts;
      turns = h.turns;
      low = h.low;
      full = h.full;
      votes = h.votes;
      news = h.news;
    };
    draft = subst (λ (z : List ℕ). AreDrafts p (Some draft) (voted p view z)) (sym same-digest) drafted;
    hashed = strings-are p m s view 0 just what (turn p view just what 0) refl parent hash hp hashed;
  }

-- ---- a cast

module _ (p : Params) (m : Node) (s : State) (slot : Slot) (batch : Batch) where
  abbrev ckept : Bool → State
  ckept t = if t then with_cast s batch else s

  abbrev cturn : Bool → Option Turn
  cturn t = if t then next_turn p (ckept t) (ckept t).turns else None

  record CastDoes (n : Node) (o : Outcome) (t : Bool) : Type 0 where
    node : n.me ≡ m.me
    state : RefinesState p n (with_turn (ckept t) (cturn t))
    draft : AreDrafts p o.draft (proposals (cturn t))
    hashed : o.hashed ≡ turn_strings p (cturn t)

  pub cast-made : (n mid : Node) (o : Outcome) (b : Bool) → b ≡ may_cast p m.me.0 s slot.0 → b ≡ true → mid.me ≡ m.me → RefinesState p mid (with_cast s batch) → ((k : State) → RefinesState p mid k → Proposes p mid n k (next_turn p k k.turns) o) → Makes p m n s (Cast slot batch) o
  cast-made n mid o b hb yep me f d =
      let t = d (with_cast s batch) f in
      let g = subst (λ (x : Bool). CastDoes n o x) (sym (sym hb ∙ yep)) (record { node = t.node ∙ me; state = t.state; draft = t.draft; hashed = t.hashed }) in
      record { node = g.node; state = g.state; draft = g.draft; hashed = g.hashed }

  pub cast-kept : RefinesState p m s → (casts : List Batch) → casts ≡ m.casts ++ batch ∷ [] → (rows : Node) → rows ≡ record m { casts = casts } → RefinesState p rows (with_cast s batch)
  cast-kept h casts hc rows hr = subst (λ (z : Node). RefinesState p z (with_cast s batch)) (sym hr) (record {
    view = h.view;
    nodes = h.nodes;
    high = h.high;
    lock = h.lock;
    casts = hc ∙ ap (λ (z : List Batch). z ++ batch ∷ []) h.casts;
    turns = h.turns;
    low = h.low;
    full = h.full;
    votes = h.votes;
    news = h.news;
  })

-- ---- a vote and a word more

pub vote-kept : (p : Params) (m : Node) (s : State) → RefinesState p m s → (from view : ℕ) (d sig : List ℕ) (votes : Ballots) →
    (let v : Kept = record { by = from; phase = 1; view = view; digest = d; sig = sig } in AreVotes votes (v ∷ s.votes)) → RefinesState p (record m { votes = votes }) (with_vote s from view d sig)
vote-kept p m s h from view d sig votes more = record {
  view = h.view;
  nodes = h.nodes;
  high = h.high;
  lock = h.lock;
  casts = h.casts;
  turns = h.turns;
  low = h.low;
  full = h.full;
  votes = more;
  news = h.news;
}

pub word-kept : (p : Params) (m : Node) (s : State) → RefinesState p m s → (from round : ℕ) (high : Certificate) (news : Words) →
    (let w : News = record { by = from; round = round; high = high } in AreNews news (w ∷ s.news)) → RefinesState p (record m { news = news }) (with_news s from round high)
word-kept p m s h from round high news more = record {
  view = h.view;
  nodes = h.nodes;
  high = h.high;
  lock = h.lock;
  casts = h.casts;
  turns = h.turns;
  low = h.low;
  full = h.full;
  votes = h.votes;
  news = more;
}
