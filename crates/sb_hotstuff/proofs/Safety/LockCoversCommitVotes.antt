-- The lock is never below a commit vote, and what justifies a delivery.
use Rattle.std.proofs.Common.{◌≡◌, ◌≤◌, ◌<◌, ℕ, suc, ◌*◌, ◌/◌, ◌&&◌, ◌||◌, Bool, true, false, List, [], ◌∷◌, Option, Some, None, refl, sym, ap, ◌∙◌, subst, inl, inr, true≢false, arith}
use Rattle.std.specs.Prelude.{nat_lt}
use Rattle.std.proofs.lemmas.Bool.{ltb-true}
use Rattle.iss_base.specs.Lists.{In, same_bytes}
use Rattle.iss_base.proofs.Lists.{and-true, first-cases, same_bytes-is}
use Rattle.iss_request.specs.declared.requests.Value.{Value}
use Rattle.iss_request.specs.declared.ids.NodeId.{NodeId}
use Rattle.iss_sb.specs.declared.effects.Input.{Input}
use Rattle.iss_sb.specs.declared.effects.Input.TheVariants.{Cast, Receive, Timeout}
use Rattle.iss_sb.specs.declared.effects.Params.{Params}
use Rattle.iss_sb.specs.Calls.{IsGoodParams}
use Rattle.iss_sb.specs.Evidence.{Item, IsString, World, delivered}
use Rattle.iss_sb.specs.Legal.{AreMade, IsLegal}
use Rattle.iss_sb.specs.declared.content.Content.{Content}
use Rattle.hs_tree.specs.declared.certificates.Certificate.{Certificate}
use Rattle.hs_tree.specs.declared.messages.Message.{Message}
use Rattle.hs_tree.specs.declared.messages.Body.{Body}
use Rattle.hs_tree.specs.declared.messages.Body.TheVariants.{NewView, Prepare, PreCommit, Commit, Decide, Vote}
use Rattle.hs_tree.specs.Messages.{signed}
use Rattle.hs_tree.specs.Certificates.{digest_of, view_of}
use Rattle.hs_tree.specs.Tree.{branch, extends, is_known, root, value_at_slot}
use Rattle.hs_tree.proofs.Nodes.{branch-is, extends-is}
use Rattle.sb_hotstuff.specs.Facts.{IsCertified, IsSafeVote, IsVoted, Leads, VotedIn}
use Rattle.sb_hotstuff.specs.HotStuff.{decided, decides, hotstuff, state}
use Rattle.sb_hotstuff.specs.Rules.{State, after, is_good, keeps_news, keeps_vote, kept, may_cast, may_end, may_prepare, may_second, may_third, node_digest, proposed, with_cast, with_news, with_node, with_round, with_turn, with_vote}
use Rattle.hs_views.specs.Views.{Turn}
use Rattle.sb_hotstuff.proofs.Basics.{good-is, third-is}
use Rattle.sb_hotstuff.proofs.Safety.OneVoteAPhase.{Cause, IsFirst, IsThird, by_first, by_second, by_third, cause-new, prepare-above, voted-below}
use Rattle.sb_hotstuff.proofs.Safety.VotesHaveCauses.{AllHere, AreVoted, came, came-certified, is-taken, just-why, parts, state-tree, taken-has}
use Rattle.hs_views.proofs.Tests.{by-test, if-in, same-body}

module _ (p : Params) (w : World Message) (good : IsGoodParams hotstuff p) (legal : IsLegal hotstuff p w) (voted : AreVoted p w) where
  abbrev Here : ℕ → List (Item Message) → Type 0
  Here me xs = AllHere p w good legal voted me xs

  record LockOk (s : State) : Type 0 where
    pub low : view_of s.lock ≤ s.view
    pub cert : 1 ≤ view_of s.lock → IsCertified p w 2 (view_of s.lock) (digest_of s.lock)

  record LockStep (s t : State) : Type 0 where
    pub ok : LockOk t
    pub rises : view_of s.lock ≤ view_of t.lock

  -- the same lock, in a view that is not lower
  same-lock : (s t : State) → t.lock ≡ s.lock → s.view ≤ t.view → LockOk s → LockStep s t
  same-lock s t e l h =
      let a = h.low in
      let v : view_of t.lock ≡ view_of s.lock = ap view_of e in
      record { ok = record { low = omega (arith, a, v, l); cert = subst (λ (c : Certificate). 1 ≤ view_of c → IsCertified p w 2 (view_of c) (digest_of c)) (sym e) h.cert }; rises = omega (arith, v) }

  same : (v : ℕ) → v ≤ v
  same v = omega arith

  stays : (s : State) → LockOk s → LockStep s s
  stays s h = same-lock s s refl (same s.view) h

  lock-kept-heard : (me : ℕ) (x : Item Message) (s : State) (from : NodeId) (body : Body) (sig : List ℕ) → In x (w me) → x.input ≡ (Receive from (signed body sig)) → LockOk s → LockStep s (kept p me s (Receive from (signed body sig)))
  lock-kept-heard me x s from (NewView round high) sig k e h = by-test (LockStep s) (keeps_news p me s from.0 round high) (with_news s from.0 round high) s (λ q. same-lock s (with_news s from.0 round high) refl (same s.view) h) (stays s h)
  lock-kept-heard me x s from (Prepare view what just) sig k e h = by-test (LockStep s) (may_prepare p s from.0 view what just) (with_node p s view what just) s (λ q.
      let a = prepare-above p s from.0 view what just q in
      same-lock s (with_node p s view what just) refl (omega (arith, a)) h) (stays s h)
  lock-kept-heard me x s from (PreCommit view shown) sig k e h = by-test (LockStep s) (may_second p s view shown) (record s { high = shown; second = true }) s (λ q. same-lock s (record s { high = shown; second = true }) refl (same s.view) h) (stays s h)
  lock-kept-heard me x s from (Commit view shown) sig k e h = by-test (LockStep s) (may_third p s view shown) (record s { lock = shown; third = true }) s (λ q.
      let g = third-is p s view shown q in
      let v = good-is p 2 view shown g.good in
      let m = came p w good legal voted me x from (signed (Commit view shown) sig) k e in
      let c = came-certified p w good legal voted 2 view from.0 (signed (Commit view shown) sig) m g.good in
      let a = v.view_is in
      let b = g.own in
      let l = h.low in
      record { ok = record { low = omega (arith, a, b); cert = λ z. subst (λ (y : ℕ). IsCertified p w 2 y (digest_of shown)) (sym a) c }; rises = omega (arith, a, b, l) }) (stays s h)
  lock-kept-heard me x s from (Decide view shown) sig k e h = stays s h
  lock-kept-heard me x s from (Vote phase view d) sig k e h = by-test (LockStep s) (keeps_vote p s from.0 phase view d) (with_vote s from.0 phase view d sig) s (λ q. same-lock s (with_vote s from.0 phase view d sig) refl (same s.view) h) (stays s h)

  lock-kept : (me : ℕ) (x : Item Message) (s : State) (i : Input Message) → In x (w me) → x.input ≡ i → LockOk s → LockStep s (kept p me s i)
  lock-kept me x s (Cast slot batch) k e h = by-test (LockStep s) (may_cast p me s slot.0) (with_cast s batch) s (λ q. same-lock s (with_cast s batch) refl (same s.view) h) (stays s h)
  lock-kept me x s (Receive from msg) k e h = lock-kept-heard me x s from msg.body msg.sig k e h
  lock-kept me x s Timeout k e h = by-test (LockStep s) (may_end s) (with_round s) s (λ q. same-lock s (with_round s) refl (above s.view) h) (stays s h)
    where
      above : (v : ℕ) → v ≤ suc (v / 65536) * 65536
      above v = omega arith

  turn-step : (s t : State) (o : Option Turn) → LockStep s t → LockStep s (with_turn t o)
  turn-step s t None h = h
  turn-step s t (Some x) h = let k = h.ok in record { ok = record { low = k.low; cert = k.cert }; rises = h.rises }

  lock-after : (me : ℕ) (x : Item Message) (s : State) → In x (w me) → LockOk s → LockStep s (after p me s x.input)
  lock-after me x s k h = turn-step s (kept p me s x.input) (proposed p me s (kept p me s x.input) x.input) (lock-kept me x s x.input k refl h)

  lock-state : (me : ℕ) (xs : List (Item Message)) → Here me xs → LockOk (state p me xs)
  lock-state me [] here = record { low = omega arith; cert = λ l. absurd (omega (arith, l)) }
  lock-state me (x ∷ xs) here = (lock-after me x (state p me xs) (here x (inl refl)) (lock-state me xs (λ y k. here y (inr k)))).ok

  third-of : (s : State) (i : Input Message) (view : ℕ) (d : List ℕ) (q : ℕ) → Cause p s i view d q → q ≡ 3 → IsThird p s i view d
  third-of s i view d q (by_first f) e = absurd cc
  third-of s i view d q (by_second f) e = absurd cc
  third-of s i view d q (by_third f) e = f

  first-of : (s : State) (i : Input Message) (view : ℕ) (d : List ℕ) (q : ℕ) → Cause p s i view d q → q ≡ 1 → IsFirst p s i view d
  first-of s i view d q (by_first f) e = f
  first-of s i view d q (by_second f) e = absurd cc
  first-of s i view d q (by_third f) e = absurd cc

  -- the lock is at or above each commit vote
  third-lock : (me : ℕ) (xs : List (Item Message)) (x : Item Message) (u : ℕ) (d : List ℕ) → AreMade hotstuff p me xs → Here me xs → In x xs → VotedIn x 3 u d → (1 ≤ u) × (u ≤ view_of (state p me xs).lock)
  third-lock me [] x u d made here k v = absurd k
  third-lock me (y ∷ xs) x u d made here (inl e) v =
      let s = state p me xs in
      let f = third-of s y.input u d 3 (cause-new p me y xs 3 u d made (subst (λ (z : Item Message). VotedIn z 3 u d) e v)) refl in
      let b = good-is p 2 u f.shown (third-is p s u f.shown f.may).good in
      let at : view_of (after p me s (Receive f.from (signed (Commit u f.shown) f.sig))).lock ≡ view_of f.shown = rw (f.may) refl in
      let all : view_of (after p me s y.input).lock ≡ view_of f.shown = ap (λ (z : Input Message). view_of (after p me s z).lock) f.is ∙ at in
      let c = b.view_is in
      (b.some, omega (arith, all, c))
  third-lock me (y ∷ xs) x u d made here (inr k) v =
      let r = third-lock me xs x u d made.1 (λ z q. here z (inr q)) k v in
      let l = (lock-after me y (state p me xs) (here y (inl refl)) (lock-state me xs (λ z q. here z (inr q)))).rises in
      let a = r.1 in
      (r.0, omega (arith, a, l))

  -- the prepare vote was cast after the commit vote
  record Before (me : ℕ) (x y : Item Message) : Type 0 where
    pub older : List (Item Message)
    pub made : AreMade hotstuff p me (y ∷ older)
    pub here : Here me (y ∷ older)
    pub third : In x older

  order : (me : ℕ) (xs : List (Item Message)) (x y : Item Message) (u v : ℕ) (d e : List ℕ) → AreMade hotstuff p me xs → Here me xs → In x xs → In y xs → VotedIn x 3 u d → VotedIn y 1 v e → u < v → Before me x y
  order me [] x y u v d e made here k l a b lt = absurd k
  order me (z ∷ xs) x y u v d e made here k l a b lt = go k l (λ q r. order me xs x y u v d e made.1 (λ t i. here t (inr i)) q r a b lt)
    where
      third-here : x ≡ z → IsThird p (state p me xs) z.input u d
      third-here q = third-of (state p me xs) z.input u d 3 (cause-new p me z xs 3 u d made (subst (λ (t : Item Message). VotedIn t 3 u d) q a)) refl

      first-here : y ≡ z → IsFirst p (state p me xs) z.input v e
      first-here q = first-of (state p me xs) z.input v e 1 (cause-new p me z xs 1 v e made (subst (λ (t : Item Message). VotedIn t 1 v e) q b)) refl

      clash : IsThird p (state p me xs) z.input u d → IsFirst p (state p me xs) z.input v e → ⊥
      clash f g = let q : Commit u f.shown ≡ Prepare v g.what g.just = same-body _ _ _ _ (sym f.is ∙ g.is) in cc

      late : IsThird p (state p me xs) z.input u d → In y xs → ⊥
      late f i =
          let g = (third-is p (state p me xs) u f.shown f.may).own in
          let l = voted-below p me xs y 1 v e made.1 i b in
          omega (arith, g, l, lt)

      go : In x (z ∷ xs) → In y (z ∷ xs) → (In x xs → In y xs → Before me x y) → Before me x y
      go (inl q) (inl r) more = absurd (clash (third-here q) (first-here r))
      go (inl q) (inr r) more = absurd (late (third-here q) r)
      go (inr q) (inl r) more = record { older = xs; made = rw r made; here = rw r here; third = q }
      go (inr q) (inr r) more = more q r

  one-of : {C : Type 0} (a b c : Bool) → ((a || b) || c) ≡ true → (a ≡ true → C) → (b ≡ true → C) → (c ≡ true → C) → C
  one-of true b c h x y z = x refl
  one-of false true c h x y z = y refl
  one-of false false true h x y z = z refl
  one-of false false false h x y z = absurd (true≢false (sym h))

  pub locked-why : (k u v : ℕ) (d e : List ℕ) → IsVoted w k 3 u d → IsVoted w k 1 v e → u < v → IsSafeVote p w u v e
  locked-why k u v d e h g lt =
      let o = order k (w k) h.item g.item u v d e (legal.made k) (λ x q. q) h.taken g.taken h.vote g.vote lt in
      let s = state p k o.older in
      let f = first-of s g.item.input v e 1 (cause-new p k g.item o.older 1 v e o.made g.vote) refl in
      let below : Here k o.older = λ x q. o.here x (inr q) in
      let ok = lock-state k o.older below in
      let t = third-lock k o.older h.item u d o.made.1 below o.third h.vote in
      let above = prepare-above p s f.from.0 v f.what f.just f.may in
      let ps = parts p w good legal voted s f.from.0 v f.what f.just f.may in
      let m = came p w good legal voted k g.item f.from (signed (Prepare v f.what f.just) f.sig) g.taken f.is in
      let has = taken-has p w good legal voted k g.item v f.what f.just g.taken (is-taken p w good legal voted k g.item o.older f.from v f.what f.just f.sig g.taken o.made f.is f.may) in
      let tree = state-tree p w good legal voted k o.older o.made.1 below in
      let low = ok.low in
      let some = t.0 in
      let high = t.1 in
      record {
        view = view_of s.lock;
        node = digest_of s.lock;
        high = high;
        low = omega (arith, low, above);
        lock = ok.cert (omega (arith, some, high));
        safe = one-of (same_bytes (node_digest p v f.what f.just) (digest_of s.lock)) (extends s.tree (digest_of f.just) (digest_of s.lock)) (nat_lt (view_of s.lock) (view_of f.just)) ps.safe
            (λ q. inl ([], f.digest_is ∙ same_bytes-is _ _ q))
            (λ q. let r = extends-is p.setup.version (IsString w) s.tree (digest_of f.just) (digest_of s.lock) tree q in inl (f.what ∷ r.0, (digest_of f.just, has, sym f.digest_is, r.1)))
            (λ q.
            let l = ltb-true (view_of s.lock) (view_of f.just) q in
            elim (just-why p w good legal voted v f.from.0 f.what f.just f.sig m ps.just_is) [
              | inl z ↦ let y = ap (λ (c : Certificate). view_of c) z in absurd (omega (arith, y, l))
              | inr z ↦ inr (record { view = view_of f.just; parent = digest_of f.just; what = f.what; above = l; below = z.0; has = has; is = sym f.digest_is; certified = z.1 })
            ]);
      }

  -- ---- Deliveries

  pub record Shown (n : ℕ) (x : Value) : Type 0 where
    pub view : ℕ
    pub node : List ℕ
    pub whats : List Content
    pub cert : IsCertified p w 3 view node
    pub is_branch : Leads p w node root whats
    pub value : value_at_slot whats 0 p.slots n ≡ Some x

  decides-shown-heard : (me : ℕ) (x : Item Message) (older : List (Item Message)) (from : NodeId) (body : Body) (sig : List ℕ) (n : ℕ) (v : Value) → In x (w me) → x.input ≡ (Receive from (signed body sig)) → AreMade hotstuff p me older → Here me older → decides p (state p me older) (Receive from (signed body sig)) n ≡ Some v → Shown n v
  decides-shown-heard me x older from (Decide view shown) sig n v k e made here h =
      let s = state p me older in
      let t = if-in (is_good p 3 view shown && is_known s.tree (digest_of shown)) (value_at_slot (branch s.tree (digest_of shown)) 0 p.slots n) v h in
      let a = and-true (is_good p 3 view shown) (is_known s.tree (digest_of shown)) t.passed in
      let m = came p w good legal voted me x from (signed (Decide view shown) sig) k e in
      record {
        view = view;
        node = digest_of shown;
        whats = branch s.tree (digest_of shown);
        cert = came-certified p w good legal voted 3 view from.0 (signed (Decide view shown) sig) m a.0;
        is_branch = branch-is p.setup.version (IsString w) s.tree (digest_of shown) (state-tree p w good legal voted me older made here) a.1;
        value = t.is;
      }
  decides-shown-heard me x older from other sig n v k e made here h = absurd cc

  decides-shown : (me : ℕ) (x : Item Message) (older : List (Item Message)) (i : Input Message) (n : ℕ) (v : Value) → In x (w me) → x.input ≡ i → AreMade hotstuff p me older → Here me older → decides p (state p me older) i n ≡ Some v → Shown n v
  decides-shown me x older (Cast slot batch) n v k e made here h = absurd cc
  decides-shown me x older (Receive from msg) n v k e made here h = decides-shown-heard me x older from msg.body msg.sig n v k e made here h
  decides-shown me x older Timeout n v k e made here h = absurd cc

  decided-shown : (me : ℕ) (xs : List (Item Message)) (n : ℕ) (v : Value) → AreMade hotstuff p me xs → Here me xs → decided p me xs n ≡ Some v → Shown n v
  decided-shown me [] n v made here h = absurd cc
  decided-shown me (x ∷ xs) n v made here h =
      let below : Here me xs = λ y q. here y (inr q) in
      elim (first-cases (decided p me xs n) (decides p (state p me xs) x.input n) v h) [
        | inl old ↦ decided-shown me xs n v made.1 below old
        | inr new ↦ decides-shown me x xs x.input n v (here x (inl refl)) refl made.1 below new.1
      ]

  pub delivered-shown : (me : ℕ) (xs : List (Item Message)) (n : ℕ) (v : Value) → AreMade hotstuff p me xs → Here me xs → delivered hotstuff p me xs n ≡ Some v → Shown n v
  delivered-shown me [] n v made here h = absurd cc
  delivered-shown me (x ∷ xs) n v made here h = elim (first-cases (delivered hotstuff p me xs n) (decided p me (x ∷ xs) n) v h) [
    | inl old ↦ delivered-shown me xs n v made.1 (λ y r. here y (inr r)) old
    | inr new ↦ decided-shown me (x ∷ xs) n v made here new.1
  ]
