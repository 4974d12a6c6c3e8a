-- A new turn changes the code's state as the model says.
use Rattle.std.proofs.Common.{◌≡◌, ◌≤◌, ◌<◌, ℕ, ◌+◌, ◌*◌, ◌%◌, ◌/◌, ◌^◌, ◌==◌, Bool, true, false, if◌then◌else◌, List, [], ◌∷◌, ◌++◌, Option, Some, None, refl, sym, ap, ◌∙◌, subst, arith}
use Rattle.std.specs.Prelude.{min, suc, nat_lt, nat_le, length, ◌&&◌}
use Rattle.iss_base.proofs.Lists.{eqb-same}
use Rattle.std.proofs.lemmas.Bool.{lt-ltb, le-leb}
use Rattle.hs_tree.specs.Known.{path}
use Rattle.hs_tree.proofs.Branches.{branch-path, filled-few}
use Rattle.iss_base.specs.Lists.{nth}
use Rattle.iss_request.specs.Digest.{digest}
use Rattle.iss_request.specs.declared.requests.Batch.{Batch}
use Rattle.iss_sb.specs.declared.effects.Params.{Params}
use Rattle.iss_sb.specs.declared.effects.To.TheVariants.{All as To_all}
use Rattle.iss_sb.specs.declared.content.Content.{Content}
use Rattle.iss_sb.specs.declared.content.Content.TheVariants.{Nil, Holds}
use Rattle.hs_tree.specs.declared.certificates.Certificate.{Certificate}
use Rattle.hs_tree.specs.declared.certificates.Certificate.TheVariants.{Root}
use Rattle.hs_tree.specs.declared.messages.Body.TheVariants.{Prepare}
use Rattle.hs_tree.specs.declared.signing.Hashed.{Hashed}
use Rattle.hs_tree.specs.Certificates.{digest_of}
use Rattle.hs_tree.specs.Hashed.{IsHashed}
use Rattle.hs_tree.specs.Tree.{filled, branch, is_known, strings_of, value_of, weight, what_bytes}
use Rattle.sb_hotstuff.specs.declared.outcomes.Outcome.{Outcome}
use Rattle.hs_views.specs.declared.drafts.Draft.{Draft}
use Rattle.sb_hotstuff.specs.declared.state.Node.{Node}
use Rattle.hs_views.specs.declared.turns.Last.{Last}
use Rattle.hs_views.specs.declared.turns.Turns.{Turns}
use Rattle.sb_hotstuff.specs.Drafts.{AreDrafts, IsDraft}
use Rattle.sb_hotstuff.specs.HotStuff.{strings_at}
use Rattle.sb_hotstuff.specs.Rules.{State, cast_turn, certificate, first_turn, is_ready, next_turn, nil_or_mark, node_digest, slots_below, turn, turn_after, turn_on}
use Rattle.hs_views.specs.Views.{Turn, all_news, best, round_of}
use Rattle.sb_hotstuff.specs.Refines.{IsLow, RefinesState, is_last_ready}
use Rattle.sb_hotstuff.specs.Steps.{IsQuiet, Proposes}
use Rattle.hs_views.specs.Turns.{AreTurns, last_of, own_of}
use Rattle.hs_views.proofs.TurnsAgree.{Newest, newest, none-last}

-- no turn at all
pub proposes-none : (p : Params) (m : Node) (k : State) (o : Outcome) → RefinesState m k → IsQuiet o → Proposes p m m k None o
proposes-none p m k o h quiet = record {
  node = refl;
  state = h;
  answer = quiet.answer;
  proposal = subst (λ (z : Option Draft). AreDrafts p z []) (sym quiet.proposal) refl;
  hashed = quiet.hashed;
}

module _ (p : Params) (m : Node) (k : State) (view slots : ℕ) (just : Certificate) (what : Content) (t : Turn) (is : t ≡ turn p view just what slots) where
  pub node-is : (parent : List ℕ) (h : Hashed) → parent ≡ digest_of just → IsHashed p.setup.version None parent what h → h.digest ≡ node_digest p view what just
  node-is parent h hp hashed = hashed.digest_is ∙ ap (λ (z : List ℕ). digest (0x41 ∷ z ++ what_bytes p.setup.version what)) hp

  pub strings-are : (parent : List ℕ) (h : Hashed) → parent ≡ digest_of just → IsHashed p.setup.version None parent what h → h.strings ≡ strings_at p view what just
  strings-are parent h hp hashed = hashed.strings ∙ ap (λ (z : List ℕ). strings_of p.setup.version (value_of what) ++ (0x41 ∷ z ++ what_bytes p.setup.version what) ∷ []) hp

  -- what is kept of the turn
  pub last-is : (parent d : List ℕ) (h : Hashed) (full : ℕ) → parent ≡ digest_of just → IsHashed p.setup.version None parent what h → d ≡ h.digest → slots < 2 ^ 63 → (w : ℕ) → w ≡ weight what → w ≤ 1 →
      full ≡ min (slots + w) 18446744073709551615 → own_of t ≡ (let z : Last = record { view = view; digest = d; slots = full } in z)
  last-is parent d h full hp hashed hd small w hw one hf =
      let exact : weight what + slots ≡ full = omega (arith, hf, small, hw, one) in
      let same : node_digest p view what just ≡ d = sym (hd ∙ node-is parent h hp hashed) in
      ap (λ (z : Turn). own_of z) is ∙ (λ i. record { view = view; digest = same i; slots = exact i })

  pub proposes-one : (turns : Turns) (draft : Draft) (parent : List ℕ) (h : Hashed) → parent ≡ digest_of just → IsHashed p.setup.version None parent what h → IsLow (own_of t) → RefinesState m k → AreTurns turns (t ∷ k.turns) →
      IsDraft p draft ((To_all, Prepare view what just) ∷ []) → Proposes p m (record m { turns = turns }) k (Some t) (record { answer = None; proposal = Some draft; hashed = h.strings })
  proposes-one turns draft parent h hp hashed low f more drafted = record {
    node = refl;
    state = record {
      view = f.view;
      tree = f.tree;
      high = f.high;
      lock = f.lock;
      second = f.second;
      third = f.third;
      casts = f.casts;
      turns = more;
      low = λ u e. let both : Some (own_of t) ≡ Some u = sym more.last ∙ e in let same : own_of t ≡ u = cc in subst (λ (z : Last). IsLow z) same low;
      votes = f.votes;
      news = f.news;
    };
    answer = refl;
    proposal = subst (λ (z : Turn). IsDraft p draft ((To_all, Prepare z.view z.what z.just) ∷ [])) (sym is) drafted;
    hashed = strings-are parent h hp hashed
        ∙ ap (λ (z : Turn). strings_at p z.view z.what z.just) (sym is);
  }

-- ---- Casts

module _ (p : Params) (m n : Node) (k : State) (o : Outcome) (view slots place : ℕ) (just : Certificate) (h : RefinesState m k) where
  pub cast-none : nth m.casts place ≡ None → IsQuiet o → Proposes p m m k (cast_turn p view just slots (nth k.casts place)) o
  cast-none e quiet =
      let none : nth k.casts place ≡ None = ap (λ (z : List Batch). nth z place) (sym h.casts) ∙ e in
      subst (λ (z : Option Batch). Proposes p m m k (cast_turn p view just slots z) o) (sym none) (proposes-none p m k o h quiet)

  pub cast-some : (b c : Batch) → nth m.casts place ≡ Some b → c ≡ b → slots < 2 ^ 63 → view % 65536 ≤ slots + 2 → slots + 1 ≤ view →
      ((t : Turn) → t ≡ turn p view just (Holds c) slots → slots < 2 ^ 63 → IsLow (own_of t) → RefinesState m k → Proposes p m n k (Some t) o) → Proposes p m n k (cast_turn p view just slots (nth k.casts place)) o
  cast-some b c e same small low first d =
      let some : nth k.casts place ≡ Some c = ap (λ (z : List Batch). nth z place) (sym h.casts) ∙ e ∙ ap (λ (z : Batch). let w : Option Batch = Some z in w) (sym same) in
      subst (λ (z : Option Batch). Proposes p m n k (cast_turn p view just slots z) o) (sym some)
      (d (turn p view just (Holds c) slots) refl small (record { turn = omega (arith, low); first = λ q. omega (arith, first) }) h)

-- ---- The turn after the last one

abbrev after_last : Params → State → Last → Option Turn
after_last p k l =
    if round_of l.view == 0 then cast_turn p (suc l.view) (certificate p k 1 l.view l.digest) l.slots (nth k.casts l.view) else
    (if nat_lt l.slots (length p.slots) then Some (turn p (suc l.view) (certificate p k 1 l.view l.digest) Nil l.slots) else None)

module _ (p : Params) (m n : Node) (k : State) (o : Outcome) (t : Turn) (last : Last) (is : own_of t ≡ last) (low : IsLow last) (h : RefinesState m k)
    (view round : ℕ) (just : Certificate) (round_is : round ≡ last.view / 65536) (fits : round < 65536) (more : view ≡ min (last.view + 1) 4294967295) (cert : just ≡ certificate p k 1 last.view last.digest) where
  back : Proposes p m n k (after_last p k last) o → Proposes p m n k (turn_after p k t) o
  back d = subst (λ (l : Last). Proposes p m n k (after_last p k l) o) (sym is) d

  pub after-cast : round ≡ 0 → (slots : ℕ) → slots ≡ last.slots → (slots < 2 ^ 63 → view % 65536 ≤ slots + 2 → slots + 1 ≤ view → RefinesState m k → Proposes p m n k (cast_turn p view just slots (nth k.casts last.view)) o) →
      Proposes p m n k (turn_after p k t) o
  after-cast zero_is slots hs d =
      let zero_round : last.view / 65536 ≡ 0 = sym round_is ∙ zero_is in
      let first = low.first zero_round in
      let turns = low.turn in
      let next : view ≡ suc last.view = omega (arith, more, zero_round) in
      let made = d (omega (arith, hs, first, zero_round)) (omega (arith, hs, next, turns, zero_round)) (omega (arith, hs, next, first)) h in
      let test : (round_of last.view == 0) ≡ true = subst (λ (z : ℕ). (z == 0) ≡ true) (sym zero_round) refl in
      back (subst (λ (b : Bool). Proposes p m n k (if b then cast_turn p (suc last.view) (certificate p k 1 last.view last.digest) last.slots (nth k.casts last.view) else
      (if nat_lt last.slots (length p.slots) then Some (turn p (suc last.view) (certificate p k 1 last.view last.digest) Nil last.slots) else None)) o) (sym test)
      (subst (λ (c : Certificate). Proposes p m n k (cast_turn p (suc last.view) c last.slots (nth k.casts last.view)) o) cert
      (subst (λ (v : ℕ). Proposes p m n k (cast_turn p v just last.slots (nth k.casts last.view)) o) next
      (subst (λ (z : ℕ). Proposes p m n k (cast_turn p view just z (nth k.casts last.view)) o) hs made))))

  pub after-nil : 1 ≤ round → last.slots < length p.slots → length p.slots ≤ 64 →
      ((u : Turn) → u ≡ turn p view just Nil last.slots → last.slots < 2 ^ 63 → IsLow (own_of u) → RefinesState m k → Proposes p m n k (Some u) o) → Proposes p m n k (turn_after p k t) o
  after-nil some lt few d =
      let turns = low.turn in
      let next : view ≡ suc last.view = omega (arith, more, turns, lt, few, fits, round_is) in
      let made = d (turn p view just Nil last.slots) refl (omega (arith, lt, few)) (record { turn = omega (arith, next, turns); first = λ q. absurd (omega (arith, q, next, some, round_is)) }) h in
      let later : (round_of last.view == 0) ≡ false = other (last.view / 65536) (omega (arith, some, round_is)) in
      let room : nat_lt last.slots (length p.slots) ≡ true = lt-ltb last.slots (length p.slots) lt in
      back (subst (λ (b : Bool). Proposes p m n k (if b then cast_turn p (suc last.view) (certificate p k 1 last.view last.digest) last.slots (nth k.casts last.view) else
      (if nat_lt last.slots (length p.slots) then Some (turn p (suc last.view) (certificate p k 1 last.view last.digest) Nil last.slots) else None)) o) (sym later)
      (subst (λ (b : Bool). Proposes p m n k (if b then Some (turn p (suc last.view) (certificate p k 1 last.view last.digest) Nil last.slots) else None) o) (sym room)
      (subst (λ (c : Certificate). Proposes p m n k (Some (turn p (suc last.view) c Nil last.slots)) o) cert
      (subst (λ (v : ℕ). Proposes p m n k (Some (turn p v just Nil last.slots)) o) next made))))
    where
      other : (r : ℕ) → 1 ≤ r → (r == 0) ≡ false
      other r le = grind (arith, le)

module _ (p : Params) (m n : Node) (k : State) (o : Outcome) (h : RefinesState m k) (found : Option Last) (found_is : found ≡ last_of k.turns) where
  pub next-cast : found ≡ None → (round : ℕ) → round ≡ m.view / 65536 → round ≡ 0 → Proposes p m n k (cast_turn p 1 Root 0 (nth k.casts 0)) o → Proposes p m n k (next_turn p k k.turns) o
  next-cast e round round_is zero_is d =
      let ts : k.turns ≡ [] = none-last k.turns (sym found_is ∙ e) in
      let zero_round : k.view / 65536 ≡ 0 = ap (λ (z : ℕ). z / 65536) (sym h.view) ∙ sym round_is ∙ zero_is in
      let test : (round_of k.view == 0) ≡ true = subst (λ (z : ℕ). (z == 0) ≡ true) (sym zero_round) refl in
      subst (λ (z : List Turn). Proposes p m n k (next_turn p k z) o) (sym ts)
      (subst (λ (b : Bool). Proposes p m n k (if b then cast_turn p 1 Root 0 (nth k.casts 0) else None) o) (sym test) d)

  module _ (last : Last) (e : found ≡ Some last) where
    abbrev new : Newest k.turns last
    new = newest k.turns last (sym found_is ∙ e)

    ready-is : (b : Bool) → b ≡ is_last_ready p k last → is_ready p k new.turn ≡ b
    ready-is b hb = ap (λ (l : Last). is_last_ready p k l) new.own ∙ sym hb

    pub next-idle : (b : Bool) → b ≡ is_last_ready p k last → b ≡ false → IsQuiet o → Proposes p m m k (next_turn p k k.turns) o
    next-idle b hb not_yet quiet =
        subst (λ (z : List Turn). Proposes p m m k (next_turn p k z) o) (sym new.list)
        (subst (λ (z : Bool). Proposes p m m k (if z then turn_after p k new.turn else None) o) (sym (ready-is b hb ∙ not_yet)) (proposes-none p m k o h quiet))

    pub next-after : (b : Bool) → b ≡ is_last_ready p k last → b ≡ true → ((t : Turn) → own_of t ≡ last → IsLow last → RefinesState m k → Proposes p m n k (turn_after p k t) o) → Proposes p m n k (next_turn p k k.turns) o
    next-after b hb yet d =
        subst (λ (z : List Turn). Proposes p m n k (next_turn p k z) o) (sym new.list)
        (subst (λ (z : Bool). Proposes p m n k (if z then turn_after p k new.turn else None) o) (sym (ready-is b hb ∙ yet))
        (d new.turn new.own (h.low last (h.turns.last ∙ sym found_is ∙ e)) h))

-- ---- The first turn of a round

pub first-one : (p : Params) (m n : Node) (k : State) (o : Outcome) (round count here slots : ℕ) (just : Certificate) (d : List ℕ) (known : Bool) (what : Content) → RefinesState m k → count ≡ length (all_news p.setup.n k.news round) → count ≡ p.setup.quorum →
    here ≡ m.view / 65536 → here ≤ round → 1 ≤ round → just ≡ best Root (all_news p.setup.n k.news round) → d ≡ digest_of just → known ≡ is_known k.tree d → known ≡ true → slots ≡ filled (branch k.tree d) → what ≡ nil_or_mark p slots →
    ((t : Turn) → t ≡ turn p (round * 65536 + 1) just what slots → slots < 2 ^ 63 → IsLow (own_of t) → RefinesState m k → Proposes p m n k (Some t) o) → Proposes p m n k (first_turn p k round) o
first-one p m n k o round count here slots just d known what h many full here_is le some just_is d_is known_is yep slots_is what_is make =
    subst (λ (b : Bool). Proposes p m n k (if b then turn_on p k round high else None) o) (sym test)
    (subst (λ (b : Bool). Proposes p m n k (if b then Some (turn p (round * 65536 + 1) high (nil_or_mark p (slots_below k high)) (slots_below k high)) else None) o) (sym there)
    (subst (λ (c : Certificate). Proposes p m n k (Some (turn p (round * 65536 + 1) c (nil_or_mark p (slots_below k c)) (slots_below k c))) o) just_is
    (subst (λ (z : ℕ). Proposes p m n k (Some (turn p (round * 65536 + 1) just (nil_or_mark p z) z)) o) slots_here
    (subst (λ (z : Content). Proposes p m n k (Some (turn p (round * 65536 + 1) just z slots)) o) what_is
    (make (turn p (round * 65536 + 1) just what slots) refl small (record { turn = omega arith; first = λ q. absurd (omega (arith, q, some)) }) h)))))
  where
    high : Certificate
    high = best Root (all_news p.setup.n k.news round)

    test : ((length (all_news p.setup.n k.news round) == p.setup.quorum) && nat_le (round_of k.view) round) ≡ true
    test =
        let same : length (all_news p.setup.n k.news round) ≡ p.setup.quorum = sym many ∙ full in
        let early : nat_le (k.view / 65536) round ≡ true = le-leb (k.view / 65536) round (subst (λ (z : ℕ). z / 65536 ≤ round) h.view (subst (λ (z : ℕ). z ≤ round) here_is le)) in
        subst (λ (z : ℕ). ((z == p.setup.quorum) && nat_le (k.view / 65536) round) ≡ true) (sym same)
        (subst (λ (b : Bool). (b && nat_le (k.view / 65536) round) ≡ true) (sym (eqb-same p.setup.quorum)) early)

    there : is_known k.tree (digest_of high) ≡ true
    there = subst (λ (c : Certificate). is_known k.tree (digest_of c) ≡ true) just_is (subst (λ (z : List ℕ). is_known k.tree z ≡ true) d_is (sym known_is ∙ yep))

    slots_here : slots ≡ slots_below k just
    slots_here = slots_is ∙ ap (λ (z : List ℕ). filled (branch k.tree z)) d_is

    small : slots < 2 ^ 63
    small =
        let few = filled-few (path k.tree d) in
        let long = h.tree.few d in
        let fits = m.tree.nodes.small in
        let ok = m.tree.nodes.ok in
        let same = ap (λ (z : List Content). filled z) (branch-path k.tree d) in
        omega (arith, slots_is, few, long, fits, ok.0, ok.1, same)
