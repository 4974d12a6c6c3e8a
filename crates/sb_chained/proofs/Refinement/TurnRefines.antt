-- The turns that the code proposes.
use Rattle.std.proofs.Common.{◌≡◌, ◌≤◌, ◌<◌, ℕ, suc, ◌+◌, ◌*◌, ◌^◌, ◌/◌, ◌%◌, ◌==◌, ◌&&◌, Bool, true, false, if◌then◌else◌, List, [], ◌∷◌, ◌++◌, length, Option, Some, None, refl, sym, ap, ◌∙◌, subst, inl, inr, arith}
use Rattle.std.specs.Prelude.{min, nat_lt}
use Rattle.std.proofs.lemmas.Bool.{leb-true, lt-ltb}
use Rattle.iss_base.specs.Lists.{nth}
use Rattle.iss_base.proofs.Lists.{and-true, first-cases, none-some}
use Rattle.iss_request.specs.Digest.{digest}
use Rattle.iss_request.specs.declared.requests.Batch.{Batch}
use Rattle.iss_sb.specs.declared.effects.Params.{Params}
use Rattle.iss_sb.specs.declared.effects.To.TheVariants.{All as To_all}
use Rattle.iss_sb.specs.declared.content.Content.{Content}
use Rattle.iss_sb.specs.declared.content.Content.TheVariants.{Nil, Holds as Holds_batch, Mark}
use Rattle.hs_tree.specs.declared.certificates.Certificate.{Certificate}
use Rattle.hs_tree.specs.declared.certificates.Certificate.TheVariants.{Root}
use Rattle.hs_tree.specs.declared.messages.Body.TheVariants.{Prepare}
use Rattle.hs_tree.specs.declared.signing.Hashed.{Hashed}
use Rattle.hs_tree.specs.Certificates.{digest_of}
use Rattle.hs_tree.specs.Hashed.{IsHashed}
use Rattle.hs_tree.specs.Known.{path}
use Rattle.hs_tree.specs.Tree.{branch, filled, strings_of, value_of, viewed_string, weight}
use Rattle.hs_tree.proofs.Branches.{branch-path, filled-few}
use Rattle.sb_chained.specs.declared.links.Nodes.{Nodes}
use Rattle.sb_chained.specs.declared.outcomes.Outcome.{Outcome}
use Rattle.hs_views.specs.declared.drafts.Draft.{Draft}
use Rattle.sb_chained.specs.declared.state.Node.{Node}
use Rattle.hs_views.specs.declared.turns.Last.{Last}
use Rattle.sb_chained.specs.declared.turns.Turns.{Turns}
use Rattle.sb_chained.specs.Chained.{strings_at}
use Rattle.sb_chained.specs.Drafts.{AreDrafts, IsDraft}
use Rattle.sb_chained.specs.Links.{Holds}
use Rattle.sb_chained.specs.Rules.{State, cast_turn, certificate, full_turn, is_full, is_marked, is_ready, next_turn, nil_or_mark, node_digest, node_of, slots_below, turn, turn_after, turn_on}
use Rattle.hs_views.specs.Views.{Turn, round_of}
use Rattle.sb_chained.specs.Refines.{AreLow, RefinesState, IsLow, IsQuiet, MayMake, Proposes, is_last_ready}
use Rattle.hs_views.specs.Turns.{last_of, own_of}
use Rattle.hs_views.proofs.TurnsAgree.{Newest, newest, none-last}
use Rattle.sb_chained.specs.Tallies.{AreTurns}
use Rattle.hs_views.proofs.Tests.{if-some, is-same}

-- no turn at all
pub proposes-none : (p : Params) (m : Node) (k : State) (o : Outcome) → RefinesState p m k → IsQuiet o → Proposes p m m k None o
proposes-none p m k o h quiet = record {
  node = refl;
  state = h;
  draft = subst (λ (z : Option Draft). AreDrafts p z []) (sym quiet.draft) refl;
  hashed = quiet.hashed;
}

low-more : (p : Params) (ts : List Turn) (t : Turn) → AreLow p ts → (full_turn p ts (round_of t.view) ≡ None → t.view % 65536 ≤ suc (length p.slots)) → AreLow p (t ∷ ts)
low-more p ts t h g round v e = elim (first-cases (full_turn p ts round) _ v e) [
  | inl old ↦ h round v old
  | inr new ↦
      let i = if-some ((round_of t.view == round) && is_full p t.slots) t.view v new.1 in
      let r = is-same (round_of t.view) round (and-true (round_of t.view == round) _ i.passed).0 in
      let none : full_turn p ts (round_of t.view) ≡ None = ap (λ (n : ℕ). full_turn p ts n) r ∙ new.0 in
      subst (λ (n : ℕ). (n / 65536 ≡ round) × (n % 65536 ≤ suc (length p.slots))) i.is (r, g none)
]

module _ (p : Params) (m : Node) (k : State) (view slots : ℕ) (just : Certificate) (what : Content) (t : Turn) (is : t ≡ turn p view just what slots) where
  pub node-is : (parent : List ℕ) (h : Hashed) → parent ≡ digest_of just → IsHashed p.setup.version (Some view) parent what h → h.digest ≡ node_digest p view what just
  node-is parent h hp hashed = hashed.digest_is ∙ ap (λ (z : List ℕ). digest (viewed_string p.setup.version view z what)) hp

  pub strings-are : (parent : List ℕ) (h : Hashed) → parent ≡ digest_of just → IsHashed p.setup.version (Some view) parent what h → h.strings ≡ strings_at p view what just
  strings-are parent h hp hashed = hashed.strings ∙ ap (λ (z : List ℕ). strings_of p.setup.version (value_of what) ++ viewed_string p.setup.version view z what ∷ []) hp

  pub exact : (full w : ℕ) → w ≡ weight what → weight what + slots < 2 ^ 64 → full ≡ min (slots + w) 18446744073709551615 → weight what + slots ≡ full
  exact full w hw small hf = omega (arith, hf, small, hw)

  -- what is kept of the turn
  pub last-is : (d parent : List ℕ) (h : Hashed) (full : ℕ) → parent ≡ digest_of just → IsHashed p.setup.version (Some view) parent what h → d ≡ h.digest → weight what + slots ≡ full →
      own_of t ≡ (let z : Last = record { view = view; digest = d; slots = full } in z)
  last-is d parent h full hp hashed hd hf =
      let same : node_digest p view what just ≡ d = sym (hd ∙ node-is parent h hp hashed) in
      ap (λ (z : Turn). own_of z) is ∙ (λ i. record { view = view; digest = same i; slots = hf i })

  pub full-is : (full : ℕ) (b : Bool) → weight what + slots ≡ full → b ≡ is_full p full → b ≡ is_full p t.slots
  full-is full b hf hb = hb ∙ ap (λ (n : ℕ). is_full p n) (sym hf) ∙ ap (λ (z : Turn). is_full p z.slots) (sym is)

  pub view-is : view ≡ t.view
  view-is = ap (λ (z : Turn). z.view) (sym is)

  pub proposes-one : (turns : Turns) (nodes : Nodes) (draft : Draft) (parent : List ℕ) (h : Hashed) → parent ≡ digest_of just → IsHashed p.setup.version (Some view) parent what h → MayMake p k view slots what → RefinesState p m k → AreTurns p turns (t ∷ k.turns) →
      Holds nodes (node_of t ∷ k.tree) → IsDraft p draft ((To_all, Prepare view what just) ∷ []) → Proposes p m (record m { turns = turns; nodes = nodes }) k (Some t) (record { draft = Some draft; hashed = h.strings })
  proposes-one turns nodes draft parent h hp hashed may f more there drafted = record {
    node = refl;
    state = record {
      view = f.view;
      nodes = there;
      high = f.high;
      lock = f.lock;
      casts = f.casts;
      turns = more;
      low = λ u e.
          let both : Some (own_of t) ≡ Some u = sym more.made.last ∙ e in
          let same : own_of t ≡ u = cc in
          subst (λ (z : Last). IsLow p z) (ap (λ (z : Turn). own_of z) (sym is) ∙ same) may.low;
      full = low-more p k.turns t f.full (subst (λ (z : Turn). full_turn p k.turns (round_of z.view) ≡ None → z.view % 65536 ≤ suc (length p.slots)) (sym is) may.fresh);
      votes = f.votes;
      news = f.news;
    };
    draft = subst (λ (z : Turn). IsDraft p draft ((To_all, Prepare z.view z.what z.just) ∷ [])) (sym is) drafted;
    hashed = strings-are parent h hp hashed ∙ ap (λ (z : Turn). strings_at p z.view z.what z.just) (sym is);
  }

-- what a call that proposes promises
abbrev pub Makes_one : Params → Node → Node → State → ℕ → Certificate → Content → ℕ → Outcome → Type 0
Makes_one p m n k view just what slots o = (t : Turn) → t ≡ turn p view just what slots → MayMake p k view slots what → RefinesState p m k → Proposes p m n k (Some t) o

-- ---- casts

module _ (p : Params) (m n : Node) (k : State) (o : Outcome) (view slots : ℕ) (just : Certificate) (h : RefinesState p m k) where
  pub cast-none : nth m.casts slots ≡ None → IsQuiet o → Proposes p m m k (cast_turn p view just slots (nth k.casts slots)) o
  cast-none e quiet =
      let none : nth k.casts slots ≡ None = ap (λ (z : List Batch). nth z slots) (sym h.casts) ∙ e in
      subst (λ (z : Option Batch). Proposes p m m k (cast_turn p view just slots z) o) (sym none) (proposes-none p m k o h quiet)

  pub cast-some : (b c : Batch) → nth m.casts slots ≡ Some b → c ≡ b → slots < length p.slots → length p.slots ≤ 64 → view % 65536 ≤ slots + 2 → Makes_one p m n k view just (Holds_batch c) slots o → Proposes p m n k (cast_turn p view just slots (nth k.casts slots)) o
  cast-some b c e same room few low d =
      let some : nth k.casts slots ≡ Some c = ap (λ (z : List Batch). nth z slots) (sym h.casts) ∙ e ∙ ap (λ (z : Batch). let w : Option Batch = Some z in w) (sym same) in
      subst (λ (z : Option Batch). Proposes p m n k (cast_turn p view just slots z) o) (sym some)
      (d (turn p view just (Holds_batch c) slots) refl (record { small = omega (arith, room, few); low = λ z. omega (arith, low); fresh = λ z. omega (arith, low, room) }) h)

-- ---- The turn after the last one

abbrev after_last : Params → State → Last → Option Turn
after_last p k l =
    if nat_lt l.slots (length p.slots) then
    (if round_of l.view == 0 then cast_turn p (suc l.view) (certificate p k l.view l.digest) l.slots (nth k.casts l.slots)
    else Some (turn p (suc l.view) (certificate p k l.view l.digest) Nil l.slots))
    else (if is_marked (suc l.view) (full_turn p k.turns (round_of l.view)) then Some (turn p (suc l.view) (certificate p k l.view l.digest) Mark l.slots) else None)

abbrev choice : Params → State → Last → ℕ → Certificate → Bool → Bool → Bool → Option Turn
choice p k l view just room first marked =
    if room then (if first then cast_turn p view just l.slots (nth k.casts l.slots) else Some (turn p view just Nil l.slots))
    else (if marked then Some (turn p view just Mark l.slots) else None)

module _ (p : Params) (m n : Node) (k : State) (o : Outcome) (t : Turn) (last : Last) (is : own_of t ≡ last) (low : IsLow p last) (h : RefinesState p m k) (few : length p.slots ≤ 64) (fits : last.view < 2 ^ 32) where
  back : (x : Node) → (view : ℕ) (just : Certificate) (room first marked : Bool) → suc last.view ≡ view → certificate p k last.view last.digest ≡ just → nat_lt last.slots (length p.slots) ≡ room → (round_of last.view == 0) ≡ first →
      is_marked (suc last.view) (full_turn p k.turns (round_of last.view)) ≡ marked → Proposes p m x k (choice p k last view just room first marked) o → Proposes p m x k (turn_after p k t) o
  back x view just room first marked hv hj hr hf hm d =
      subst (λ (l : Last). Proposes p m x k (after_last p k l) o) (sym is)
      (subst (λ (z : Option Turn). Proposes p m x k z o) (λ i. choice p k last (sym hv i) (sym hj i) (sym hr i) (sym hf i) (sym hm i)) d)

  not-room : length p.slots ≤ last.slots → nat_lt last.slots (length p.slots) ≡ false
  not-room le = grind (arith, le)

  next-is : suc last.view ≡ last.view + 1
  next-is = omega arith

  pub after-unmarked : length p.slots ≤ last.slots → (b : Bool) → b ≡ is_marked (last.view + 1) (full_turn p k.turns (round_of last.view)) → b ≡ false → IsQuiet o → Proposes p m m k (turn_after p k t) o
  after-unmarked le b hb none quiet =
      back m (suc last.view) (certificate p k last.view last.digest) false (round_of last.view == 0) false refl refl (not-room le) refl (ap (λ (v : ℕ). is_marked v (full_turn p k.turns (round_of last.view))) next-is ∙ sym hb ∙ none) (proposes-none p m k o h quiet)

  module _ (view : ℕ) (just : Certificate) (more : view ≡ min (last.view + 1) 4294967295) (cert : just ≡ certificate p k last.view last.digest) where
    -- where a mark follows, the round's first full turn is near
    record Near : Type 0 where
      turned : ℕ
      turned_is : full_turn p k.turns (round_of last.view) ≡ Some turned
      close : suc last.view ≤ turned + 3
      same_round : turned / 65536 ≡ last.view / 65536
      short : turned % 65536 ≤ suc (length p.slots)

    near : is_marked (last.view + 1) (full_turn p k.turns (round_of last.view)) ≡ true → Near
    near e = go (full_turn p k.turns (round_of last.view)) refl e
      where
        go : (f : Option ℕ) → full_turn p k.turns (round_of last.view) ≡ f → is_marked (last.view + 1) f ≡ true → Near
        go None q e = absurd cc
        go (Some v) q e =
            let l = leb-true (last.view + 1) (v + 3) e in
            let r = h.full (round_of last.view) v q in
            record { turned = v; turned_is = q; close = omega (arith, l); same_round = r.0; short = r.1 }

    high : (v l r : ℕ) → suc l ≤ v + 3 → v / 65536 ≡ l / 65536 → v % 65536 ≤ 65 → l < 2 ^ 32 → (suc l < 2 ^ 32) × (suc l / 65536 ≡ l / 65536)
    high v l r a b c d = (omega (arith, a, b, c, d), omega (arith, a, b, c, d))

    pub after-mark : length p.slots ≤ last.slots → (b : Bool) → b ≡ is_marked (last.view + 1) (full_turn p k.turns (round_of last.view)) → b ≡ true → last.slots < 2 ^ 64 → Makes_one p m n k view just Mark last.slots o → Proposes p m n k (turn_after p k t) o
    after-mark le b hb yep small d =
        let marked = sym hb ∙ yep in
        let x = near marked in
        let xn = x.close in
        let xr = x.same_round in
        let xl = x.short in
        let up = high x.turned last.view 0 xn xr (omega (arith, xl, few)) fits in
        let fit = up.0 in
        let same : suc last.view ≡ view = omega (arith, more, fit) in
        let round : view / 65536 ≡ last.view / 65536 = ap (λ (v : ℕ). v / 65536) (sym same) ∙ up.1 in
        let made = d (turn p view just Mark last.slots) refl (record {
          small = omega (arith, small);
          low = λ z. absurd (omega (arith, z, le));
          fresh = λ z. absurd (none-some x.turned (sym z ∙ ap (λ (r : ℕ). full_turn p k.turns r) round ∙ x.turned_is));
        }) h in
        back n view just false (round_of last.view == 0) true same (sym cert) (not-room le) refl (ap (λ (v : ℕ). is_marked v (full_turn p k.turns (round_of last.view))) next-is ∙ marked) made

    module _ (lt : last.slots < length p.slots) where
      near-view : suc last.view ≡ view
      near-view = let l = low lt in omega (arith, more, l, lt, few, fits)

      turns : view % 65536 ≤ last.slots + 2
      turns = let l = low lt in let e = near-view in omega (arith, e, l)

      pub after-cast : (round : ℕ) → round ≡ last.view / 65536 → round ≡ 0 → (last.slots < length p.slots → length p.slots ≤ 64 → view % 65536 ≤ last.slots + 2 → RefinesState p m k → Proposes p m n k (cast_turn p view just last.slots (nth k.casts last.slots)) o) → Proposes p m n k (turn_after p k t) o
      after-cast round hr z d =
          back n view just true true (is_marked (suc last.view) (full_turn p k.turns (round_of last.view))) near-view (sym cert) (lt-ltb last.slots (length p.slots) lt) (subst (λ (r : ℕ). (r == 0) ≡ true) (sym (sym hr ∙ z)) refl) refl (d lt few turns h)

      pub after-nil : (round : ℕ) → round ≡ last.view / 65536 → 1 ≤ round → Makes_one p m n k view just Nil last.slots o → Proposes p m n k (turn_after p k t) o
      after-nil round hr some d =
          let l = turns in
          let made = d (turn p view just Nil last.slots) refl (record { small = omega (arith, lt, few); low = λ z. omega (arith, l); fresh = λ z. omega (arith, l, lt) }) h in
          back n view just true false (is_marked (suc last.view) (full_turn p k.turns (round_of last.view))) near-view (sym cert) (lt-ltb last.slots (length p.slots) lt) (other (last.view / 65536) (omega (arith, some, hr))) refl made
        where
          other : (r : ℕ) → 1 ≤ r → (r == 0) ≡ false
          other r le = grind (arith, le)

module _ (p : Params) (m n : Node) (k : State) (o : Outcome) (h : RefinesState p m k) (found : Option Last) (found_is : found ≡ last_of k.turns) where
  first-test : found ≡ None → (x : Node) (b : Bool) → (round_of k.view == 0) ≡ b → Proposes p m x k (if b then cast_turn p 1 Root 0 (nth k.casts 0) else None) o → Proposes p m x k (next_turn p k k.turns) o
  first-test e x b hb d =
      let ts : k.turns ≡ [] = none-last k.turns (sym found_is ∙ e) in
      subst (λ (z : List Turn). Proposes p m x k (next_turn p k z) o) (sym ts)
      (subst (λ (z : Bool). Proposes p m x k (if z then cast_turn p 1 Root 0 (nth k.casts 0) else None) o) (sym hb) d)

  own-round : (round : ℕ) → round ≡ m.view / 65536 → round ≡ k.view / 65536
  own-round round hr = hr ∙ ap (λ (z : ℕ). z / 65536) h.view

  pub next-none : found ≡ None → (round : ℕ) → round ≡ m.view / 65536 → 1 ≤ round → IsQuiet o → Proposes p m m k (next_turn p k k.turns) o
  next-none e round hr some quiet = first-test e m false (subst (λ (r : ℕ). (r == 0) ≡ false) (own-round round hr) (other round some)) (proposes-none p m k o h quiet)
    where
      other : (r : ℕ) → 1 ≤ r → (r == 0) ≡ false
      other r le = grind (arith, le)

  pub next-cast : found ≡ None → (round : ℕ) → round ≡ m.view / 65536 → round ≡ 0 → Proposes p m n k (cast_turn p 1 Root 0 (nth k.casts 0)) o → Proposes p m n k (next_turn p k k.turns) o
  next-cast e round hr z d = first-test e n true (subst (λ (r : ℕ). (r == 0) ≡ true) (sym z ∙ own-round round hr) refl) d

  module _ (last : Last) (e : found ≡ Some last) where
    abbrev new : Newest k.turns last
    new = newest k.turns last (sym found_is ∙ e)

    ready-is : (b : Bool) → b ≡ is_last_ready p k last → is_ready p k new.turn ≡ b
    ready-is b hb = ap (λ (l : Last). is_last_ready p k l) new.own ∙ sym hb

    pub next-idle : (b : Bool) → b ≡ is_last_ready p k last → b ≡ false → IsQuiet o → Proposes p m m k (next_turn p k k.turns) o
    next-idle b hb not_yet quiet =
        subst (λ (z : List Turn). Proposes p m m k (next_turn p k z) o) (sym new.list)
        (subst (λ (z : Bool). Proposes p m m k (if z then turn_after p k new.turn else None) o) (sym (ready-is b hb ∙ not_yet)) (proposes-none p m k o h quiet))

    pub next-after : (b : Bool) → b ≡ is_last_ready p k last → b ≡ true → ((t : Turn) → own_of t ≡ last → IsLow p last → RefinesState p m k → Proposes p m n k (turn_after p k t) o) → Proposes p m n k (next_turn p k k.turns) o
    next-after b hb yet d =
        subst (λ (z : List Turn). Proposes p m n k (next_turn p k z) o) (sym new.list)
        (subst (λ (z : Bool). Proposes p m n k (if z then turn_after p k new.turn else None) o) (sym (ready-is b hb ∙ yet))
        (d new.turn new.own (h.low last (h.turns.made.last ∙ sym found_is ∙ e)) h))

-- ---- The first turn of a round

pub first-one : (p : Params) (m n : Node) (k : State) (o : Outcome) (round slots : ℕ) (just : Certificate) (d : List ℕ) (what : Content) → RefinesState p m k → 1 ≤ round → d ≡ digest_of just → slots ≡ filled (branch k.tree d) → what ≡ nil_or_mark p slots →
    Makes_one p m n k (round * 65536 + 1) just what slots o → Proposes p m n k (turn_on p k round (Some just)) o
first-one p m n k o round slots just d what h some d_is slots_is what_is make =
    subst (λ (z : ℕ). Proposes p m n k (Some (turn p (round * 65536 + 1) just (nil_or_mark p z) z)) o) slots_here
    (subst (λ (z : Content). Proposes p m n k (Some (turn p (round * 65536 + 1) just z slots)) o) what_is
    (make (turn p (round * 65536 + 1) just what slots) refl (record { small = omega (arith, small, one); low = λ z. omega arith; fresh = λ z. omega arith }) h))
  where
    slots_here : slots ≡ slots_below k just
    slots_here = slots_is ∙ ap (λ (z : List ℕ). filled (branch k.tree z)) d_is

    weigh : (c : Content) → weight c ≤ 1
    weigh Nil = omega arith
    weigh (Holds_batch b) = omega arith
    weigh Mark = omega arith

    one : weight what ≤ 1
    one = weigh what

    small : slots < 2 ^ 63
    small =
        let few = filled-few (path k.tree d) in
        let long = h.nodes.tree.few d in
        let fits = m.nodes.tree.nodes.small in
        let ok = m.nodes.tree.nodes.ok in
        let same = ap (λ (z : List Content). filled z) (branch-path k.tree d) in
        omega (arith, slots_is, few, long, fits, ok.0, ok.1, same)
