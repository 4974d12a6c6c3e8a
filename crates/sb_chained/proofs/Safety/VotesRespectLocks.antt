-- The lock of a list, why a vote is safe against what earlier votes lock, and what stands behind what is delivered.
use Rattle.std.proofs.Common.{◌≡◌, ◌≤◌, ◌<◌, ℕ, suc, ◌==◌, ◌||◌, Bool, true, false, if◌then◌else◌, List, [], ◌∷◌, Option, Some, None, refl, sym, ap, ◌∙◌, subst, inl, inr, ◌⊎◌, true≢false, arith}
use Rattle.std.specs.Prelude.{nat_lt}
use Rattle.std.proofs.lemmas.Bool.{ltb-true}
use Rattle.iss_base.specs.Lists.{In, same_bytes}
use Rattle.iss_base.proofs.Lists.{first-cases, same_bytes-is}
use Rattle.iss_request.specs.declared.requests.Value.{Value}
use Rattle.iss_sb.specs.declared.effects.Input.{Input}
use Rattle.iss_sb.specs.declared.effects.Input.TheVariants.{Cast, Receive, Timeout}
use Rattle.iss_sb.specs.declared.effects.Params.{Params}
use Rattle.iss_sb.specs.Calls.{IsGoodParams}
use Rattle.iss_sb.specs.Evidence.{IsReached, IsString, Item, Separate, World, delivered}
use Rattle.iss_sb.specs.Legal.{AreMade}
use Rattle.iss_sb.proofs.Legal.{front_self}
use Rattle.iss_sb.specs.declared.content.Content.{Content}
use Rattle.hs_tree.specs.declared.certificates.Certificate.{Certificate}
use Rattle.hs_tree.specs.declared.certificates.Certificate.TheVariants.{Root, Votes}
use Rattle.hs_tree.specs.declared.messages.Message.{Message}
use Rattle.hs_tree.specs.declared.messages.Body.{Body}
use Rattle.hs_tree.specs.declared.messages.Body.TheVariants.{NewView, Prepare, Vote}
use Rattle.hs_tree.specs.Messages.{signed}
use Rattle.hs_tree.specs.Certificates.{digest_of, view_of}
use Rattle.hs_tree.specs.Tree.{Node, branch, extends, is_known, root}
use Rattle.sb_chained.specs.Chained.{chained, decided, decides, state, value_on}
use Rattle.sb_chained.specs.Facts.{AreSafeVotes, IsAt, IsCertified, IsCommitted, IsDecided, IsLate, IsOver, IsSafeVote, IsVoted, Leads, VotedIn}
use Rattle.sb_chained.specs.declared.links.Lock.{Lock}
use Rattle.sb_chained.specs.Rules.{State, after, committed_by, down, find, heard, if_next, keeps_news, keeps_vote, kept, may_cast, may_end, may_prepare, node_digest, noted, proposed, raised, shows, taken, with_cast, with_news, with_node, with_round, with_shown, with_turn, with_vote}
use Rattle.hs_views.specs.Views.{Turn, leader_of, round_of}
use Rattle.sb_chained.proofs.Safety.OneVoteAView.{IsFirst, cause-new, first-view, tests, voted-below}
use Rattle.sb_chained.proofs.Safety.CertifiedNodes.{below-it, certified-at, certified-not-root, certified-stands, falls, not-root, same-node}
use Rattle.sb_chained.proofs.Safety.KnownNodesStand.{IsPlaced, MayHigh, Ok, found-ok, known-find, known-more, shows-of-ok, state-ok, taken-of-ok}
use Rattle.sb_chained.proofs.Safety.NodesHaveOneView.{branch-is, extends-is, found-is}
use Rattle.sb_chained.proofs.Safety.VotesHaveCauses.{OwnCert, Part, front-older, just-why, part-made, parts, stands-why, taken-at}
use Rattle.hs_views.proofs.Tests.{by-test, is-same}

-- ---- the lock only rises

abbrev Higher : ℕ → State → Type 0
Higher v s = v ≤ s.lock.view

same : (v : ℕ) → v ≤ v
same v = omega arith

raised-high : (l : Lock) (x : Node) → (l.view ≤ (raised l x).view) × (x.from ≤ (raised l x).view)
raised-high l x = go (nat_lt l.view x.from) refl
  where
    go : (b : Bool) → nat_lt l.view x.from ≡ b → (l.view ≤ (if b then (let y : Lock = record { view = x.from; node = x.parent } in y) else l).view) × (x.from ≤ (if b then (let y : Lock = record { view = x.from; node = x.parent } in y) else l).view)
    go true q = let h = ltb-true l.view x.from q in (omega (arith, h), same x.from)
    go false q = (same l.view, not-below l.view x.from q)
      where
        not-below : (a b : ℕ) → nat_lt a b ≡ false → b ≤ a
        not-below a b h = grind (arith, h)

noted-high : (s : State) (q : Certificate) (o : Option Node) → Higher s.lock.view (noted s q o)
noted-high s q None = same s.lock.view
noted-high s q (Some x) = (raised-high s.lock x).0

shown-high : (s : State) (o : Option Certificate) → Higher s.lock.view (with_shown s o)
shown-high s None = same s.lock.view
shown-high s (Some Root) = same s.lock.view
shown-high s (Some (Votes view phase d votes)) = noted-high s (Votes view phase d votes) (find s.tree d)

turn-lock : (s : State) (o : Option Turn) → (with_turn s o).lock ≡ s.lock
turn-lock s None = refl
turn-lock s (Some t) = refl

heard-lock : (p : Params) (me : ℕ) (s : State) (from : ℕ) (body : Body) (sig : List ℕ) → (heard p me s from body sig).lock ≡ s.lock
heard-lock p me s from (NewView round high) sig = by-test (λ (t : State). t.lock ≡ s.lock) (keeps_news p me s from round high) (with_news s from round high) s (λ q. refl) refl
heard-lock p me s from (Prepare view what just) sig = by-test (λ (t : State). t.lock ≡ s.lock) (may_prepare p s from view what just) (with_node p s view what just) s (λ q. refl) refl
heard-lock p me s from (Vote phase view d) sig = by-test (λ (t : State). t.lock ≡ s.lock) (keeps_vote p s from phase view d) (with_vote s from view d sig) s (λ q. refl) refl
heard-lock p me s from other sig = refl

taken-lock : (p : Params) (me : ℕ) (s : State) (i : Input Message) → (taken p me s i).lock ≡ s.lock
taken-lock p me s (Cast slot batch) = by-test (λ (t : State). t.lock ≡ s.lock) (may_cast p me s slot.0) (with_cast s batch) s (λ q. refl) refl
taken-lock p me s (Receive from msg) = heard-lock p me s from.0 msg.body msg.sig
taken-lock p me s Timeout = by-test (λ (t : State). t.lock ≡ s.lock) (may_end s) (with_round s) s (λ q. refl) refl

after-high : (p : Params) (me : ℕ) (s : State) (i : Input Message) → Higher s.lock.view (after p me s i)
after-high p me s i =
    let t = taken p me s i in
    let a = ap (λ (l : Lock). l.view) (turn-lock (kept p me s i) (proposed p me s (kept p me s i) i)) in
    let b = shown-high t (shows p me s t i) in
    let c = ap (λ (l : Lock). l.view) (taken-lock p me s i) in
    omega (arith, a, b, c)

-- ---- nodes one below another

record IsDown (tree : List Node) (o : Option Node) (z : Node) : Type 0 where
  pub above : Node
  pub is : o ≡ Some above
  pub found : find tree above.parent ≡ Some z
  pub next : suc z.view ≡ above.view

down-is : (tree : List Node) (o : Option Node) (z : Node) → down tree o ≡ Some z → IsDown tree o z
down-is tree None z h = absurd cc
down-is tree (Some k) z h = go (find tree k.parent) refl h
  where
    go : (o : Option Node) → find tree k.parent ≡ o → if_next k o ≡ Some z → IsDown tree (Some k) z
    go None q e = absurd cc
    go (Some j) q e = test (suc j.view == k.view) refl e
      where
        test : (b : Bool) → (suc j.view == k.view) ≡ b → (if b then Some j else None) ≡ Some z → IsDown tree (Some k) z
        test true r e =
            let j_is : j ≡ z = cc in
            subst (λ (y : Node). IsDown tree (Some k) y) j_is (record { above = k; is = refl; found = q; next = is-same (suc j.view) k.view r })
        test false r e = absurd cc

module _ (p : Params) (w : World Message) (good : IsGoodParams chained p) (reached : IsReached chained p w) (sep : Separate (IsString w)) where
  abbrev P : ℕ → List (Item Message) → Type 0
  P me xs = Part p w good reached me xs

  -- ---- a vote locks the node two below its own

  module _ (t : ℕ) (z d : List ℕ) (over : IsOver p w d t z) where
    between-not-root : over.between ≡ root → ⊥
    between-not-root q = not-root p w good (stands-why p w good reached) sep over.between over.middle z over.second over.mid q

    -- the node that stands between was shown certified
    shown-locks : (me : ℕ) (k : State) (c : Certificate) → Ok p w good reached me k → digest_of c ≡ over.between → is_known k.tree (digest_of c) ≡ true → Higher t (with_shown k (Some c))
    shown-locks me k Root h e known = absurd (between-not-root (sym e))
    shown-locks me k (Votes view phase g votes) h e known = go (find k.tree g) refl (known-find k.tree g known)
      where
        locks : (y : Node) → find k.tree g ≡ Some y → t ≤ y.from
        locks y q =
            let a = found-is p.setup.version (IsString w) k.tree g y h.tree q in
            let o = found-ok p w good reached me k.view k.tree g y h.tree h.nodes q in
            let s = same-node p w good (stands-why p w good reached) sep g y.view over.middle y.parent z y.what over.second a.node (subst (λ (x : List ℕ). IsAt p w x over.middle z over.second) (sym e) over.mid) in
            elim o.0.just [
              | inl r ↦ absurd (not-root p w good (stands-why p w good reached) sep z t over.parent over.third over.low (sym s.parents ∙ r.1))
              | inr r ↦
                  let cert = subst (λ (x : List ℕ). IsCertified p w y.from x) s.parents r.1.cert in
                  let at = certified-at p w good (stands-why p w good reached) sep y.from t z over.parent over.third cert over.low in
                  omega (arith, at)
            ]

        go : (o : Option Node) → find k.tree g ≡ o → (g ≡ root) ⊎ ((y : Node) × (find k.tree g ≡ Some y)) → Higher t (noted k (Votes view phase g votes) o)
        go o q (inl r) = absurd (between-not-root (sym e ∙ r))
        go None q (inr y) = let both : None ≡ Some y.0 = sym q ∙ y.1 in absurd cc
        go (Some y) q (inr r) = let a = locks y q in let b = (raised-high k.lock y).1 in omega (arith, a, b)

    vote-locks : (me : ℕ) (x : Item Message) (xs : List (Item Message)) (u : ℕ) → P me (x ∷ xs) → IsFirst p (state p me xs) x.input u d → Higher t (state p me (x ∷ xs))
    vote-locks me x xs u f why =
        let s = state p me xs in
        let i : Input Message = Receive why.from (signed (Prepare u why.what why.just) why.sig) in
        let ps = parts p w good reached s why.from.0 u why.what why.just why.may in
        let at = taken-at p w good reached me x xs why.from u why.what why.just why.sig f why.is why.may in
        let mine = subst (λ (q : List ℕ). IsAt p w q u (digest_of why.just) why.what) (sym why.digest_is) at in
        let e = (same-node p w good (stands-why p w good reached) sep d u over.upper (digest_of why.just) over.between why.what over.first mine over.top).parents in
        let ok = subst (λ (y : Input Message). Ok p w good reached me (taken p me s y)) why.is (taken-of-ok p w good reached me sep x xs f (state-ok p w good reached me sep xs (front-older x xs (w me) f))) in
        let new : taken p me s i ≡ with_node p s u why.what why.just = rw (why.may) refl in
        let shown : shows p me s (taken p me s i) i ≡ Some why.just = rw (ps.usable_is) refl in
        let known : is_known (taken p me s i).tree (digest_of why.just) ≡ true = subst (λ (y : State). is_known y.tree (digest_of why.just) ≡ true) (sym new) (known-more (same_bytes (node_digest p u why.what why.just) (digest_of why.just)) s.tree (digest_of why.just) ps.fine.known) in
        let a = shown-locks me (taken p me s i) why.just ok e known in
        let b : Higher t (kept p me s i) = subst (λ (o : Option Certificate). Higher t (with_shown (taken p me s i) o)) (sym shown) a in
        let c : Higher t (kept p me s x.input) = subst (λ (y : Input Message). Higher t (kept p me s y)) (sym why.is) b in
        let l = ap (λ (l : Lock). l.view) (turn-lock (kept p me s x.input) (proposed p me s (kept p me s x.input) x.input)) in
        omega (arith, c, l)

    voted-locks : (me : ℕ) (xs : List (Item Message)) (x : Item Message) (u : ℕ) → P me xs → In x xs → VotedIn x u d → Higher t (state p me xs)
    voted-locks me [] x u f k v = absurd k
    voted-locks me (y ∷ xs) x u f (inl e) v =
        vote-locks me y xs u f (cause-new p me y xs u d (part-made p w good reached me (y ∷ xs) f) (subst (λ (q : Item Message). VotedIn q u d) e v))
    voted-locks me (y ∷ xs) x u f (inr k) v =
        let a = voted-locks me xs x u (front-older y xs (w me) f) k v in
        let b = after-high p me (state p me xs) y.input in
        omega (arith, a, b)

  -- ---- the vote in the higher view came later

  record Before (me : ℕ) (x y : Item Message) : Type 0 where
    pub older : List (Item Message)
    pub part : P me (y ∷ older)
    pub earlier : In x older

  order : (me : ℕ) (xs : List (Item Message)) (x y : Item Message) (u v : ℕ) (d e : List ℕ) → P me xs → In x xs → In y xs → VotedIn x u d → VotedIn y v e → u < v → Before me x y
  order me [] x y u v d e f k l a b lt = absurd k
  order me (z ∷ xs) x y u v d e f k l a b lt = go k l (λ q r. order me xs x y u v d e (front-older z xs (w me) f) q r a b lt)
    where
      made : AreMade chained p me (z ∷ xs)
      made = part-made p w good reached me (z ∷ xs) f

      late : x ≡ z → In y (z ∷ xs) → ⊥
      late q r =
          let low = voted-below p me (z ∷ xs) y v e made r b in
          let why = cause-new p me z xs u d made (subst (λ (i : Item Message). VotedIn i u d) q a) in
          let here = first-view p me (state p me xs) z.input u d why in
          omega (arith, low, here, lt)

      go : In x (z ∷ xs) → In y (z ∷ xs) → (In x xs → In y xs → Before me x y) → Before me x y
      go (inl q) r more = absurd (late q r)
      go (inr q) (inl r) more = record { older = xs; part = subst (λ (i : Item Message). P me (i ∷ xs)) (sym r) f; earlier = q }
      go (inr q) (inr r) more = more q r

  one-of : {C : Type 0} (a b c : Bool) → ((a || b) || c) ≡ true → (a ≡ true → C) → (b ≡ true → C) → (c ≡ true → C) → C
  one-of true b c h x y z = x refl
  one-of false true c h x y z = y refl
  one-of false false true h x y z = z refl
  one-of false false false h x y z = absurd (true≢false (sym h))

  test-of : (b : Bool) → (b ≡ true → ⊥) → b ≡ false
  test-of true h = absurd (h refl)
  test-of false h = refl

  module _ (i v t : ℕ) (e : List ℕ) (x : Item Message) (older : List (Item Message)) (f : P i (x ∷ older)) (why : IsFirst p (state p i older) x.input v e) (some : 1 ≤ t) (high : t ≤ (state p i older).lock.view) where
    abbrev s : State
    s = state p i older

    above : s.view < v
    above = (tests p s why.from.0 v why.what why.just why.may).above

    at : IsAt p w e v (digest_of why.just) why.what
    at = subst (λ (z : List ℕ). IsAt p w z v (digest_of why.just) why.what) (sym why.digest_is) (taken-at p w good reached i x older why.from v why.what why.just why.sig f why.is why.may)

    -- the justification: certified in a lower view where its node is not the root
    just-cert : (digest_of why.just ≡ root → ⊥) → (view_of why.just < v) × IsCertified p w (view_of why.just) (digest_of why.just)
    just-cert none =
        let ps = parts p w good reached s why.from.0 v why.what why.just why.may in
        let j = just-why p w good reached i x older v why.from (signed (Prepare v why.what why.just) why.sig) f why.is ps.fine.just_is in
        go j.0 j.1
      where
        go : (why.just ≡ Root) ⊎ (view_of why.just < v) → (why.just ≡ Root) ⊎ OwnCert p w i s.view (view_of why.just) (digest_of why.just) → (view_of why.just < v) × IsCertified p w (view_of why.just) (digest_of why.just)
        go (inl q) c = absurd (none (ap digest_of q))
        go (inr l) (inl q) = absurd (none (ap digest_of q))
        go (inr l) (inr c) = (l, c.cert)

    safe-by : IsSafeVote p w t v e ⊎ IsLate p w i v e
    safe-by =
        let ok = state-ok p w good reached i sep older (front-older x older (w i) f) in
        elim ok.lock [
          | inl none ↦ let n = none.0 in absurd (omega (arith, n, some, high))
          | inr l ↦ go l.0.cert l.0.own l.1 ok
        ]
      where
        go : (cert : IsCertified p w s.lock.view s.lock.node) → (cert.test i ≡ true → s.lock.view ≤ s.view) → IsPlaced p w good reached i s.view s.lock.view → Ok p w good reached i s → IsSafeVote p w t v e ⊎ IsLate p w i v e
        go cert own placed ok =
            let ps = parts p w good reached s why.from.0 v why.what why.just why.may in
            one-of (same_bytes (node_digest p v why.what why.just) s.lock.node) (extends s.tree (digest_of why.just) s.lock.node) (nat_lt s.lock.view (view_of why.just)) ps.safe
            (λ q. let is = why.digest_is ∙ same_bytes-is (node_digest p v why.what why.just) s.lock.node q in inr (itself is))
            (λ q.
            let r = extends-is p.setup.version (IsString w) s.tree (digest_of why.just) s.lock.node ok.tree q in
            let j = just-cert (below-root r.0 r.1) in
            let l = falls p w good (stands-why p w good reached) sep r.0 (view_of why.just) s.lock.view (digest_of why.just) s.lock.node j.1 cert r.1 in
            let jl = j.0 in
            inl (record { view = s.lock.view; node = s.lock.node; high = high; low = omega (arith, l, jl); lock = cert; safe = inl (why.what ∷ r.0, (v, digest_of why.just, at, r.1)) }))
            (λ q.
            let l = ltb-true s.lock.view (view_of why.just) q in
            let j = just-cert (not-zero l) in
            let jl = j.0 in
            inl (record { view = s.lock.view; node = s.lock.node; high = high; low = omega (arith, l, jl); lock = cert; safe = inr (record { view = view_of why.just; parent = digest_of why.just; what = why.what; above = l; below = jl; node = at; certified = j.1 }) }))
          where
            late : (y : ℕ) (n : List ℕ) (c : IsCertified p w y n) → (c.test i ≡ true → y ≤ s.view) → IsPlaced p w good reached i s.view y → v ≡ y → e ≡ n → IsLate p w i v e
            late y n c own placed view is =
                let up = above in
                record {
                  leads = elim placed [ inl l ↦ absurd (omega (arith, l, up, view)) | inr q ↦ ap (λ (z : ℕ). leader_of p (round_of z)) view ∙ q ];
                  certified = record {
                    test = c.test;
                    many = c.many;
                    each = λ k a b. subst (λ (z : ℕ). IsVoted w k z e) (sym view) (subst (λ (z : List ℕ). IsVoted w k y z) (sym is) (c.each k a b));
                  };
                  without = test-of (c.test i) (λ a. let l = own a in omega (arith, l, up, view));
                }

            -- the lock's node is the vote's: it was certified before this vote, by others
            itself : e ≡ s.lock.node → IsLate p w i v e
            itself is =
                let here : IsCertified p w s.lock.view e = subst (λ (z : List ℕ). IsCertified p w s.lock.view z) (sym is) cert in
                let view : v ≡ s.lock.view = certified-at p w good (stands-why p w good reached) sep s.lock.view v e (digest_of why.just) why.what here at in
                late s.lock.view s.lock.node cert own placed view is

            below-root : (cs : List Content) → Leads p w (digest_of why.just) s.lock.node cs → digest_of why.just ≡ root → ⊥
            below-root [] h q = certified-not-root p w good (stands-why p w good reached) sep s.lock.view s.lock.node cert (sym h ∙ q)
            below-root (c ∷ cs) h q = not-root p w good (stands-why p w good reached) sep (digest_of why.just) h.0 h.1 c h.2 q

            -- the root's certificate is above nothing
            not-zero : s.lock.view < view_of why.just → digest_of why.just ≡ root → ⊥
            not-zero l q =
                let ps = parts p w good reached s why.from.0 v why.what why.just why.may in
                let j = just-why p w good reached i x older v why.from (signed (Prepare v why.what why.just) why.sig) f why.is ps.fine.just_is in
                elim j.1 [
                  | inl r ↦ let n = ap view_of r in omega (arith, n, l)
                  | inr c ↦ certified-not-root p w good (stands-why p w good reached) sep (view_of why.just) (digest_of why.just) c.cert q
                ]

  -- a node two below a vote's is of a view from 1 on
  over-some : (d : List ℕ) (t : ℕ) (z : List ℕ) (i u : ℕ) → IsVoted w i u d → IsOver p w d t z → 1 ≤ t
  over-some d t z i u h o =
      let s = stands-why p w good reached i u d h in
      let e = (same-node p w good (stands-why p w good reached) sep d u o.upper s.parent o.between s.what o.first s.node o.top).parents in
      elim s.just [
        | inl r ↦ absurd (not-root p w good (stands-why p w good reached) sep o.between o.middle z o.second o.mid (sym e ∙ r))
        | inr c ↦
            let b = subst (λ (y : List ℕ). IsCertified p w c.0 y) e c.2 in
            elim (below-it p w good (stands-why p w good reached) sep c.0 o.middle o.between z o.second b o.mid) [
              | inl r ↦ absurd (not-root p w good (stands-why p w good reached) sep z t o.parent o.third o.low r)
              | inr y ↦
                  let at = certified-at p w good (stands-why p w good reached) sep y.0 t z o.parent o.third y.2 o.low in
                  let l = (certified-stands p w good (stands-why p w good reached) y.0 z y.2).some in
                  omega (arith, at, l)
            ]
      ]

  pub safe-why : AreSafeVotes p w
  safe-why i u v t d e z h g lt over =
      let o = order i (w i) h.item g.item u v d e (front_self (w i)) h.taken g.taken h.vote g.vote lt in
      let why = cause-new p i g.item o.older v e (part-made p w good reached i (g.item ∷ o.older) o.part) g.vote in
      let high = voted-locks t z d over i o.older h.item u (front-older g.item o.older (w i) o.part) o.earlier h.vote in
      safe-by i v t e g.item o.older o.part why (over-some d t z i u h over) high

  -- ---- what is delivered

  committed-is : (me : ℕ) (k : State) (o : Option Certificate) (x : Item Message) (xs : List (Item Message)) (f : P me (x ∷ xs)) (z : Node) → Ok p w good reached me k → MayHigh p w good reached me x xs f k.view o → committed_by k o ≡ Some z →
      IsCommitted p w z.view z.digest × (is_known k.tree z.digest ≡ true)
  committed-is me k None x xs f z ok m h = absurd cc
  committed-is me k (Some Root) x xs f z ok m h = absurd cc
  committed-is me k (Some (Votes view phase d votes)) x xs f z ok (inl q) h = absurd cc
  committed-is me k (Some (Votes view phase d votes)) x xs f z ok (inr own) h =
      let two = down-is k.tree (down k.tree (find k.tree d)) z h in
      let one = down-is k.tree (find k.tree d) two.above two.is in
      let top = found-is p.setup.version (IsString w) k.tree d one.above ok.tree one.is in
      let mid = found-is p.setup.version (IsString w) k.tree one.above.parent two.above ok.tree one.found in
      let low = found-is p.setup.version (IsString w) k.tree two.above.parent z ok.tree two.found in
      let at = certified-at p w good (stands-why p w good reached) sep view one.above.view d one.above.parent one.above.what own.cert top.node in
      let a = two.next in
      let b = one.next in
      let views : one.above.view ≡ suc (suc z.view) = omega (arith, a, b) in
      let here = low.digest_is in (
        record {
          top = d;
          middle = one.above.parent;
          parent = z.parent;
          first = one.above.what;
          second = two.above.what;
          third = z.what;
          top_is = subst (λ (y : ℕ). IsAt p w d y one.above.parent one.above.what) views top.node;
          middle_is = subst (λ (y : List ℕ). IsAt p w one.above.parent (suc z.view) y two.above.what) (sym here) (subst (λ (y : ℕ). IsAt p w one.above.parent y two.above.parent two.above.what) (sym a) mid.node);
          node_is = subst (λ (y : List ℕ). IsAt p w y z.view z.parent z.what) (sym here) low.node;
          certified = subst (λ (y : ℕ). IsCertified p w y d) (sym at ∙ views) own.cert;
        },
        subst (λ (y : List ℕ). is_known k.tree y ≡ true) (sym here) low.known,
      )

  decides-shown : (me : ℕ) (x : Item Message) (xs : List (Item Message)) (n : ℕ) (v : Value) → P me (x ∷ xs) → decides p me (state p me xs) x.input n ≡ Some v → IsDecided p w n v
  decides-shown me x xs n v f h =
      let s = state p me xs in
      let k = taken p me s x.input in
      let o = shows p me s k x.input in
      let st = state-ok p w good reached me sep xs (front-older x xs (w me) f) in
      let ok = taken-of-ok p w good reached me sep x xs f st in
      go o (shows-of-ok p w good reached me sep x xs f st) (committed_by k o) refl h ok
    where
      go : (o : Option Certificate) → MayHigh p w good reached me x xs f (taken p me (state p me xs) x.input).view o → (y : Option Node) → committed_by (taken p me (state p me xs) x.input) o ≡ y → value_on p (taken p me (state p me xs) x.input) y n ≡ Some v →
          Ok p w good reached me (taken p me (state p me xs) x.input) → IsDecided p w n v
      go o m None q e ok = absurd cc
      go o m (Some z) q e ok =
          let k = taken p me (state p me xs) x.input in
          let c = committed-is me k o x xs f z ok m q in
          record { view = z.view; node = z.digest; whats = branch k.tree z.digest; committed = c.0; is_branch = branch-is p.setup.version (IsString w) k.tree z.digest ok.tree c.1; value = e }

  decided-shown : (me : ℕ) (xs : List (Item Message)) (n : ℕ) (v : Value) → P me xs → decided p me xs n ≡ Some v → IsDecided p w n v
  decided-shown me [] n v f h = absurd cc
  decided-shown me (x ∷ xs) n v f h = elim (first-cases (decided p me xs n) (decides p me (state p me xs) x.input n) v h) [
    | inl old ↦ decided-shown me xs n v (front-older x xs (w me) f) old
    | inr new ↦ decides-shown me x xs n v f new.1
  ]

  pub delivered-shown : (me : ℕ) (xs : List (Item Message)) (n : ℕ) (v : Value) → P me xs → delivered chained p me xs n ≡ Some v → IsDecided p w n v
  delivered-shown me [] n v f h = absurd cc
  delivered-shown me (x ∷ xs) n v f h = elim (first-cases (delivered chained p me xs n) (decided p me (x ∷ xs) n) v h) [
    | inl old ↦ delivered-shown me xs n v (front-older x xs (w me) f) old
    | inr new ↦ decided-shown me (x ∷ xs) n v f new.1
  ]
