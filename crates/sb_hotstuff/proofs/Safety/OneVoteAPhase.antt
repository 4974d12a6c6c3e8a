-- Each vote has one cause. A step casts at most one vote, in views that never decrease.
use Rattle.std.proofs.Common.{◌≡◌, ◌≢◌, ◌≤◌, ◌<◌, ℕ, suc, ◌*◌, ◌/◌, ◌==◌, ◌&&◌, not, Bool, true, false, if◌then◌else◌, List, [], ◌∷◌, Option, Some, None, refl, sym, ap, ◌∙◌, subst, ◌⊎◌, inl, inr, true≢false, arith}
use Rattle.std.specs.Prelude.{nat_lt}
use Rattle.std.proofs.lemmas.Bool.{ltb-true}
use Rattle.iss_base.specs.Lists.{In}
use Rattle.iss_base.proofs.Lists.{and-true, in_append, not-true}
use Rattle.iss_request.specs.declared.ids.NodeId.{NodeId}
use Rattle.iss_sb.specs.declared.effects.Input.{Input}
use Rattle.iss_sb.specs.declared.effects.Input.TheVariants.{Cast, Receive, Timeout}
use Rattle.iss_sb.specs.declared.effects.Params.{Params}
use Rattle.iss_sb.specs.declared.effects.To.{To}
use Rattle.iss_sb.specs.declared.effects.To.TheVariants.{All as To_all}
use Rattle.iss_sb.specs.Evidence.{Item, Made}
use Rattle.iss_sb.specs.Legal.{AreMade}
use Rattle.iss_sb.specs.declared.content.Content.{Content}
use Rattle.hs_tree.specs.declared.certificates.Certificate.{Certificate}
use Rattle.hs_tree.specs.declared.messages.Message.{Message}
use Rattle.hs_tree.specs.declared.messages.Body.{Body}
use Rattle.hs_tree.specs.declared.messages.Body.TheVariants.{NewView, Prepare, PreCommit, Commit, Decide, Vote}
use Rattle.hs_tree.specs.Messages.{signed}
use Rattle.hs_tree.specs.Certificates.{digest_of}
use Rattle.hs_tree.specs.Tree.{basic}
use Rattle.sb_hotstuff.specs.Facts.{VotedIn}
use Rattle.sb_hotstuff.specs.HotStuff.{answers, answers_heard, drafts, hotstuff, makes, proposals, shows, state, voted}
use Rattle.sb_hotstuff.specs.Rules.{State, after, certificate, heard, is_reached, keeps_news, keeps_vote, kept, may_cast, may_end, may_prepare, may_second, may_third, node_digest, proposed, with_cast, with_news, with_node, with_round, with_turn, with_vote}
use Rattle.hs_views.specs.Views.{Turn}
use Rattle.sb_hotstuff.proofs.Basics.{second-is, third-is}
use Rattle.hs_views.proofs.DraftsAgree.{sent-drafted}
use Rattle.hs_views.proofs.Tests.{by-test, each-option, same-body}

pub record IsFirst (p : Params) (s : State) (i : Input Message) (view : ℕ) (d : List ℕ) : Type 0 where
  pub from : NodeId
  pub what : Content
  pub just : Certificate
  pub sig : List ℕ
  pub is : i ≡ Receive from (signed (Prepare view what just) sig)
  pub may : may_prepare p s from.0 view what just ≡ true
  pub digest_is : d ≡ node_digest p view what just

pub record IsSecond (p : Params) (s : State) (i : Input Message) (view : ℕ) (d : List ℕ) : Type 0 where
  pub from : NodeId
  pub shown : Certificate
  pub sig : List ℕ
  pub is : i ≡ Receive from (signed (PreCommit view shown) sig)
  pub may : may_second p s view shown ≡ true
  pub digest_is : d ≡ digest_of shown

pub record IsThird (p : Params) (s : State) (i : Input Message) (view : ℕ) (d : List ℕ) : Type 0 where
  pub from : NodeId
  pub shown : Certificate
  pub sig : List ℕ
  pub is : i ≡ Receive from (signed (Commit view shown) sig)
  pub may : may_third p s view shown ≡ true
  pub digest_is : d ≡ digest_of shown

pub data Cause (p : Params) (s : State) (i : Input Message) (view : ℕ) (d : List ℕ) : ℕ → Type 0 where
  by_first : IsFirst p s i view d → Cause p s i view d 1
  by_second : IsSecond p s i view d → Cause p s i view d 2
  by_third : IsThird p s i view d → Cause p s i view d 3

-- ---- Drafts

module _ (p : Params) (to : To) (phase view : ℕ) (d : List ℕ) where
  abbrev Sent : List (To × Body) → Type 0
  Sent ds = In {A = To × Body} (to, Vote phase view d) ds

  one-is : (a : To) (n : Body) → Sent ((a, n) ∷ []) → Vote phase view d ≡ n
  one-is a n (inl e) = ap (λ (z : To × Body). z.1) e
  one-is a n (inr h) = absurd h

  by-true : (t : Bool) (ds : List (To × Body)) (C : Type 0) → (t ≡ true → Sent ds → C) → Sent (if t then ds else []) → C
  by-true true ds C h k = h refl k
  by-true false ds C h k = absurd k

  none-proposed : (o : Option Turn) → Sent (proposals o) → ⊥
  none-proposed None h = h
  none-proposed (Some t) h = let m = one-is To_all (Prepare t.view t.what t.just) h in cc

  none-shown : (q v : ℕ) (c : Certificate) → Vote phase view d ≡ shows q v c → ⊥
  none-shown q v c h = go (q == 1) (q == 2) h
    where
      go : (a b : Bool) → Vote phase view d ≡ (if a then PreCommit v c else (if b then Commit v c else Decide v c)) → ⊥
      go true b e = cc
      go false true e = cc
      go false false e = cc

  abbrev Why : State → Input Message → Type 0
  Why s i = Cause p s i view d phase

  why-heard : (s k : State) (from : NodeId) (body : Body) (sig : List ℕ) → Sent (answers_heard p s k from.0 body) → Why s (Receive from (signed body sig))
  why-heard s k from (Prepare v what just) x h = by-true (may_prepare p s from.0 v what just) (voted p 1 v (node_digest p v what just)) (Why s (Receive from (signed (Prepare v what just) x))) (λ t z. go t (one-is _ (Vote 1 v (node_digest p v what just)) z)) h
    where
      go : may_prepare p s from.0 v what just ≡ true → Vote phase view d ≡ Vote 1 v (node_digest p v what just) → Why s (Receive from (signed (Prepare v what just) x))
      go t e =
          let a : phase ≡ 1 = cc in
          let b : view ≡ v = cc in
          let c : d ≡ node_digest p v what just = cc in
          subst (λ (z : ℕ). Cause p s (Receive from (signed (Prepare v what just) x)) view d z) (sym a)
          (subst (λ (z : ℕ). Cause p s (Receive from (signed (Prepare v what just) x)) z d 1) (sym b)
          (by_first (record { from = from; what = what; just = just; sig = x; is = refl; may = t; digest_is = c })))
  why-heard s k from (PreCommit v shown) x h = by-true (may_second p s v shown) (voted p 2 v (digest_of shown)) (Why s (Receive from (signed (PreCommit v shown) x))) (λ t z. go t (one-is _ (Vote 2 v (digest_of shown)) z)) h
    where
      go : may_second p s v shown ≡ true → Vote phase view d ≡ Vote 2 v (digest_of shown) → Why s (Receive from (signed (PreCommit v shown) x))
      go t e =
          let a : phase ≡ 2 = cc in
          let b : view ≡ v = cc in
          let c : d ≡ digest_of shown = cc in
          subst (λ (z : ℕ). Cause p s (Receive from (signed (PreCommit v shown) x)) view d z) (sym a)
          (subst (λ (z : ℕ). Cause p s (Receive from (signed (PreCommit v shown) x)) z d 2) (sym b)
          (by_second (record { from = from; shown = shown; sig = x; is = refl; may = t; digest_is = c })))
  why-heard s k from (Commit v shown) x h = by-true (may_third p s v shown) (voted p 3 v (digest_of shown)) (Why s (Receive from (signed (Commit v shown) x))) (λ t z. go t (one-is _ (Vote 3 v (digest_of shown)) z)) h
    where
      go : may_third p s v shown ≡ true → Vote phase view d ≡ Vote 3 v (digest_of shown) → Why s (Receive from (signed (Commit v shown) x))
      go t e =
          let a : phase ≡ 3 = cc in
          let b : view ≡ v = cc in
          let c : d ≡ digest_of shown = cc in
          subst (λ (z : ℕ). Cause p s (Receive from (signed (Commit v shown) x)) view d z) (sym a)
          (subst (λ (z : ℕ). Cause p s (Receive from (signed (Commit v shown) x)) z d 3) (sym b)
          (by_third (record { from = from; shown = shown; sig = x; is = refl; may = t; digest_is = c })))
  why-heard s k from (Vote q v e) x h = absurd (by-true (keeps_vote p s from.0 q v e && is_reached p k q v e) ((To_all, shows q v (certificate p k q v e)) ∷ []) ⊥ (λ t z. none-shown q v (certificate p k q v e) (one-is To_all (shows q v (certificate p k q v e)) z)) h)
  why-heard s k from other x h = absurd h

  why-answer : (s k : State) (i : Input Message) → Sent (answers p s k i) → Why s i
  why-answer s k (Cast slot batch) h = absurd h
  why-answer s k (Receive from msg) h = why-heard s k from msg.body msg.sig h
  why-answer s k Timeout h = absurd (by-true (may_end s) _ ⊥ (λ t z. let e = one-is _ _ z in cc) h)

  why : (me : ℕ) (s : State) (i : Input Message) → Sent (drafts p me s i) → Why s i
  why me s i h =
      let k = kept p me s i in
      elim (in_append {A = To × Body} (to, Vote phase view d) (answers p s k i) (proposals (proposed p me s k i)) h) [
        | inl a ↦ why-answer s k i a
        | inr a ↦ absurd (none-proposed (proposed p me s k i) a)
      ]

pub cause : (p : Params) (me leaf : ℕ) (xs : List (Item Message)) (i : Input Message) (to : To) (phase view : ℕ) (d sig : List ℕ) → In {A = To × Message} (to, signed (Vote phase view d) sig) (makes p me xs i leaf).sends → Cause p (state p me xs) i view d phase
cause p me leaf xs i to phase view d sig h =
    why p to phase view d me (state p me xs) i (sent-drafted basic p me leaf (drafts p me (state p me xs) i) to (signed (Vote phase view d) sig) h)

-- ---- Views never decrease

abbrev Rises : ℕ → State → Type 0
Rises v s = v ≤ s.view

same : (v : ℕ) → v ≤ v
same v = omega arith

pub prepare-above : (p : Params) (s : State) (from view : ℕ) (what : Content) (just : Certificate) → may_prepare p s from view what just ≡ true → s.view < view
prepare-above p s from view what just h =
    let a = and-true _ _ h in
    let b = and-true _ _ a.0 in
    let c = and-true _ _ b.0 in
    let e = and-true (nat_lt s.view view) _ c.1 in
    ltb-true s.view view e.0

round-above : (v : ℕ) → v ≤ suc (v / 65536) * 65536
round-above v = omega arith

heard-view : (p : Params) (me : ℕ) (s : State) (from : ℕ) (body : Body) (sig : List ℕ) → Rises s.view (heard p me s from body sig)
heard-view p me s from (NewView round high) sig = by-test (Rises s.view) (keeps_news p me s from round high) (with_news s from round high) s (λ t. same s.view) (same s.view)
heard-view p me s from (Prepare view what just) sig = by-test (Rises s.view) (may_prepare p s from view what just) (with_node p s view what just) s (λ t. let a = prepare-above p s from view what just t in omega (arith, a)) (same s.view)
heard-view p me s from (PreCommit view shown) sig = by-test (Rises s.view) (may_second p s view shown) (record s { high = shown; second = true }) s (λ t. same s.view) (same s.view)
heard-view p me s from (Commit view shown) sig = by-test (Rises s.view) (may_third p s view shown) (record s { lock = shown; third = true }) s (λ t. same s.view) (same s.view)
heard-view p me s from (Decide view shown) sig = same s.view
heard-view p me s from (Vote phase view d) sig = by-test (Rises s.view) (keeps_vote p s from phase view d) (with_vote s from phase view d sig) s (λ t. same s.view) (same s.view)

kept-view : (p : Params) (me : ℕ) (s : State) (i : Input Message) → Rises s.view (kept p me s i)
kept-view p me s (Cast slot batch) = by-test (Rises s.view) (may_cast p me s slot.0) (with_cast s batch) s (λ q. same s.view) (same s.view)
kept-view p me s (Receive from msg) = heard-view p me s from.0 msg.body msg.sig
kept-view p me s Timeout = by-test (Rises s.view) (may_end s) (with_round s) s (λ t. round-above s.view) (same s.view)

pub after-view : (p : Params) (me : ℕ) (s : State) (i : Input Message) → Rises s.view (after p me s i)
after-view p me s i =
    let a = kept-view p me s i in
    let e = each-option (λ (z : Option Turn). (with_turn (kept p me s i) z).view) (kept p me s i).view refl (λ t. refl) (proposed p me s (kept p me s i) i) in
    omega (arith, a, e)

-- ---- A vote is of the view that the step enters or is in

pub first-view : (p : Params) (me : ℕ) (s : State) (i : Input Message) (view : ℕ) (d : List ℕ) → IsFirst p s i view d → (s.view < view) × ((after p me s i).view ≡ view)
first-view p me s i view d f =
    let here : (after p me s (Receive f.from (signed (Prepare view f.what f.just) f.sig))).view ≡ view = rw (f.may) refl in
    (prepare-above p s f.from.0 view f.what f.just f.may, subst (λ (z : Input Message). (after p me s z).view ≡ view) (sym f.is) here)

pub second-view : (p : Params) (me : ℕ) (s : State) (i : Input Message) (view : ℕ) (d : List ℕ) → IsSecond p s i view d → (view ≡ s.view) × (s.second ≡ false) × ((after p me s i).view ≡ view) × ((after p me s i).second ≡ true)
second-view p me s i view d f =
    let own = (second-is p s view f.shown f.may).own in
    let open-now = (and-true _ (not s.second) f.may).1 in
    let new : after p me s (Receive f.from (signed (PreCommit view f.shown) f.sig)) ≡ record s { high = f.shown; second = true } = rw (f.may) refl in
    let is : after p me s i ≡ record s { high = f.shown; second = true } = ap (λ (z : Input Message). after p me s z) f.is ∙ new in
    (own, not-true s.second open-now, ap (λ (z : State). z.view) is ∙ sym own, ap (λ (z : State). z.second) is)

pub third-view : (p : Params) (me : ℕ) (s : State) (i : Input Message) (view : ℕ) (d : List ℕ) → IsThird p s i view d → (view ≡ s.view) × (s.third ≡ false) × ((after p me s i).view ≡ view) × ((after p me s i).third ≡ true)
third-view p me s i view d f =
    let own = (third-is p s view f.shown f.may).own in
    let open-now = (and-true _ (not s.third) f.may).1 in
    let new : after p me s (Receive f.from (signed (Commit view f.shown) f.sig)) ≡ record s { lock = f.shown; third = true } = rw (f.may) refl in
    let is : after p me s i ≡ record s { lock = f.shown; third = true } = ap (λ (z : Input Message). after p me s z) f.is ∙ new in
    (own, not-true s.third open-now, ap (λ (z : State). z.view) is ∙ sym own, ap (λ (z : State). z.third) is)

-- ---- In one history

pub cause-new : (p : Params) (me : ℕ) (x : Item Message) (xs : List (Item Message)) (phase view : ℕ) (d : List ℕ) → AreMade hotstuff p me (x ∷ xs) → VotedIn x phase view d → Cause p (state p me xs) x.input view d phase
cause-new p me x xs phase view d made v = cause p me x.leaf xs x.input v.to phase view d v.sig (subst (λ (z : Made Message). In {A = To × Message} (v.to, signed (Vote phase view d) v.sig) z.sends) made.0 v.sent)

-- a step has at most one cause of a vote
cause-one : (p : Params) (s : State) (i : Input Message) (phase view q v : ℕ) (d e : List ℕ) → Cause p s i view d phase → Cause p s i v e q → (phase ≡ q) × (view ≡ v) × (d ≡ e)
cause-one p s i phase view q v d e (by_first f) (by_first g) =
    let k : Prepare view f.what f.just ≡ Prepare v g.what g.just = same-body _ _ _ _ (sym f.is ∙ g.is) in
    let a : view ≡ v = cc in
    let c : f.what ≡ g.what = cc in
    let j : f.just ≡ g.just = cc in
    (refl, a, f.digest_is ∙ ap (λ (z : ℕ). node_digest p z f.what f.just) a ∙ ap (λ (z : Content). node_digest p v z f.just) c ∙ ap (λ (z : Certificate). node_digest p v g.what z) j ∙ sym g.digest_is)
cause-one p s i phase view q v d e (by_first f) (by_second g) = absurd (let k : Prepare view f.what f.just ≡ PreCommit v g.shown = same-body _ _ _ _ (sym f.is ∙ g.is) in cc)
cause-one p s i phase view q v d e (by_first f) (by_third g) = absurd (let k : Prepare view f.what f.just ≡ Commit v g.shown = same-body _ _ _ _ (sym f.is ∙ g.is) in cc)
cause-one p s i phase view q v d e (by_second f) (by_first g) = absurd (let k : PreCommit view f.shown ≡ Prepare v g.what g.just = same-body _ _ _ _ (sym f.is ∙ g.is) in cc)
cause-one p s i phase view q v d e (by_second f) (by_second g) =
    let k : PreCommit view f.shown ≡ PreCommit v g.shown = same-body _ _ _ _ (sym f.is ∙ g.is) in
    let a : view ≡ v = cc in
    let c : f.shown ≡ g.shown = cc in
    (refl, a, f.digest_is ∙ ap digest_of c ∙ sym g.digest_is)
cause-one p s i phase view q v d e (by_second f) (by_third g) = absurd (let k : PreCommit view f.shown ≡ Commit v g.shown = same-body _ _ _ _ (sym f.is ∙ g.is) in cc)
cause-one p s i phase view q v d e (by_third f) (by_first g) = absurd (let k : Commit view f.shown ≡ Prepare v g.what g.just = same-body _ _ _ _ (sym f.is ∙ g.is) in cc)
cause-one p s i phase view q v d e (by_third f) (by_second g) = absurd (let k : Commit view f.shown ≡ PreCommit v g.shown = same-body _ _ _ _ (sym f.is ∙ g.is) in cc)
cause-one p s i phase view q v d e (by_third f) (by_third g) =
    let k : Commit view f.shown ≡ Commit v g.shown = same-body _ _ _ _ (sym f.is ∙ g.is) in
    let a : view ≡ v = cc in
    let c : f.shown ≡ g.shown = cc in
    (refl, a, f.digest_is ∙ ap digest_of c ∙ sym g.digest_is)

-- ---- What a replica's state records of its votes

-- The state records a vote of this phase and view: the view is lower than its own, or equal with the phase marked.
abbrev pub Marked : State → ℕ → ℕ → Type 0
Marked s phase view = (view < s.view) ⊎ ((view ≡ s.view) × (phase ≡ 2 → s.second ≡ true) × (phase ≡ 3 → s.third ≡ true))

abbrev Remembers : State → State → Type 0
Remembers s t = (s.view < t.view) ⊎ ((s.view ≡ t.view) × (s.second ≡ true → t.second ≡ true) × (s.third ≡ true → t.third ≡ true))

all-same : (s t : State) → s.view ≡ t.view → s.second ≡ t.second → s.third ≡ t.third → Remembers s t
all-same s t a b c = inr (a, (λ h. sym b ∙ h), (λ h. sym c ∙ h))

heard-keeps : (p : Params) (me : ℕ) (s : State) (from : ℕ) (body : Body) (sig : List ℕ) → Remembers s (heard p me s from body sig)
heard-keeps p me s from (NewView round high) sig = by-test (Remembers s) (keeps_news p me s from round high) (with_news s from round high) s (λ t. all-same s (with_news s from round high) refl refl refl) (all-same s s refl refl refl)
heard-keeps p me s from (Prepare view what just) sig = by-test (Remembers s) (may_prepare p s from view what just) (with_node p s view what just) s (λ t. inl (prepare-above p s from view what just t)) (all-same s s refl refl refl)
heard-keeps p me s from (PreCommit view shown) sig = by-test (Remembers s) (may_second p s view shown) (record s { high = shown; second = true }) s (λ t. inr (refl, (λ h. refl), (λ h. h))) (all-same s s refl refl refl)
heard-keeps p me s from (Commit view shown) sig = by-test (Remembers s) (may_third p s view shown) (record s { lock = shown; third = true }) s (λ t. inr (refl, (λ h. h), (λ h. refl))) (all-same s s refl refl refl)
heard-keeps p me s from (Decide view shown) sig = all-same s s refl refl refl
heard-keeps p me s from (Vote phase view d) sig = by-test (Remembers s) (keeps_vote p s from phase view d) (with_vote s from phase view d sig) s (λ t. all-same s (with_vote s from phase view d sig) refl refl refl) (all-same s s refl refl refl)

kept-keeps : (p : Params) (me : ℕ) (s : State) (i : Input Message) → Remembers s (kept p me s i)
kept-keeps p me s (Cast slot batch) = by-test (Remembers s) (may_cast p me s slot.0) (with_cast s batch) s (λ q. all-same s (with_cast s batch) refl refl refl) (all-same s s refl refl refl)
kept-keeps p me s (Receive from msg) = heard-keeps p me s from.0 msg.body msg.sig
kept-keeps p me s Timeout = by-test (Remembers s) (may_end s) (with_round s) s (λ t. inl (higher s.view)) (all-same s s refl refl refl)
  where
    higher : (v : ℕ) → v < suc (v / 65536) * 65536
    higher v = omega arith

turn-keeps : (s t : State) (o : Option Turn) → Remembers s t → Remembers s (with_turn t o)
turn-keeps s t None h = h
turn-keeps s t (Some x) h = h

after-keeps : (p : Params) (me : ℕ) (s : State) (i : Input Message) → Remembers s (after p me s i)
after-keeps p me s i = turn-keeps s (kept p me s i) (proposed p me s (kept p me s i) i) (kept-keeps p me s i)

marked-on : (s t : State) (phase view : ℕ) → Remembers s t → Marked s phase view → Marked t phase view
marked-on s t phase view (inl a) (inl b) = inl (omega (arith, a, b))
marked-on s t phase view (inl a) (inr b) = let e = b.0 in inl (omega (arith, a, e))
marked-on s t phase view (inr a) (inl b) = let e = a.0 in inl (omega (arith, e, b))
marked-on s t phase view (inr a) (inr b) = inr (b.0 ∙ a.0, (λ h. a.1 (b.1 h)), (λ h. a.2 (b.2 h)))

cause-marks : (p : Params) (me : ℕ) (s : State) (i : Input Message) (phase view : ℕ) (d : List ℕ) → Cause p s i view d phase → Marked (after p me s i) phase view
cause-marks p me s i phase view d (by_first f) = inr (sym (first-view p me s i view d f).1, (λ (h : 1 ≡ 2). absurd cc), (λ (h : 1 ≡ 3). absurd cc))
cause-marks p me s i phase view d (by_second f) = let v = second-view p me s i view d f in inr (sym v.2, (λ h. v.3), (λ (h : 2 ≡ 3). absurd cc))
cause-marks p me s i phase view d (by_third f) = let v = third-view p me s i view d f in inr (sym v.2, (λ (h : 3 ≡ 2). absurd cc), (λ h. v.3))

pub voted-marked : (p : Params) (me : ℕ) (xs : List (Item Message)) (x : Item Message) (phase view : ℕ) (d : List ℕ) → AreMade hotstuff p me xs → In x xs → VotedIn x phase view d → Marked (state p me xs) phase view
voted-marked p me [] x phase view d made k v = absurd k
voted-marked p me (y ∷ xs) x phase view d made (inl e) v =
    cause-marks p me (state p me xs) y.input phase view d (cause-new p me y xs phase view d made (subst (λ (z : Item Message). VotedIn z phase view d) e v))
voted-marked p me (y ∷ xs) x phase view d made (inr k) v =
    marked-on (state p me xs) (after p me (state p me xs) y.input) phase view (after-keeps p me (state p me xs) y.input) (voted-marked p me xs x phase view d made.1 k v)

pub voted-below : (p : Params) (me : ℕ) (xs : List (Item Message)) (x : Item Message) (phase view : ℕ) (d : List ℕ) → AreMade hotstuff p me xs → In x xs → VotedIn x phase view d → view ≤ (state p me xs).view
voted-below p me xs x phase view d made k v = elim (voted-marked p me xs x phase view d made k v) [
  | inl a ↦ omega (arith, a)
  | inr a ↦ let e = a.0 in omega (arith, e)
]

-- a new vote is in no lower view than a recorded one, and in the same view for another phase
rises-over : (p : Params) (s : State) (i : Input Message) (phase view q v : ℕ) (d : List ℕ) → Cause p s i view d phase → Marked s q v → (v < view) ⊎ ((v ≡ view) × (q ≢ phase))
rises-over p s i phase view q v d (by_first f) m =
    let a = prepare-above p s f.from.0 view f.what f.just f.may in
    elim m [ inl b ↦ inl (omega (arith, a, b)) | inr b ↦ let e = b.0 in inl (omega (arith, a, e)) ]
rises-over p s i phase view q v d (by_second f) m =
    let own = (second-is p s view f.shown f.may).own in
    let none = not-true s.second (and-true _ (not s.second) f.may).1 in
    elim m [ inl b ↦ inl (omega (arith, own, b)) | inr b ↦ inr (b.0 ∙ sym own, λ h. true≢false (sym (b.1 h) ∙ none)) ]
rises-over p s i phase view q v d (by_third f) m =
    let own = (third-is p s view f.shown f.may).own in
    let none = not-true s.third (and-true _ (not s.third) f.may).1 in
    elim m [ inl b ↦ inl (omega (arith, own, b)) | inr b ↦ inr (b.0 ∙ sym own, λ h. true≢false (sym (b.2 h) ∙ none)) ]

pub votes-rise : (p : Params) (me : ℕ) (x y : Item Message) (before : List (Item Message)) (phase view q v : ℕ) (d e : List ℕ) → AreMade hotstuff p me (x ∷ before) → In y before → VotedIn x phase view d → VotedIn y q v e → (v < view) ⊎ ((v ≡ view) × (q ≢ phase))
votes-rise p me x y before phase view q v d e made k a b =
    rises-over p (state p me before) x.input phase view q v d (cause-new p me x before phase view d made a) (voted-marked p me before y q v e made.1 k b)

pub vote-one : (p : Params) (me : ℕ) (x : Item Message) (before : List (Item Message)) (phase view q v : ℕ) (d e : List ℕ) → AreMade hotstuff p me (x ∷ before) → VotedIn x phase view d → VotedIn x q v e → (phase ≡ q) × (view ≡ v) × (d ≡ e)
vote-one p me x before phase view q v d e made a b = cause-one p (state p me before) x.input phase view q v d e (cause-new p me x before phase view d made a) (cause-new p me x before q v e made b)

first-of : (p : Params) (s : State) (i : Input Message) (view : ℕ) (d : List ℕ) (phase : ℕ) → Cause p s i view d phase → phase ≡ 1 → IsFirst p s i view d
first-of p s i view d phase (by_first f) e = f
first-of p s i view d phase (by_second f) e = absurd cc
first-of p s i view d phase (by_third f) e = absurd cc

-- at most one prepare vote in a view
pub one-first : (p : Params) (me : ℕ) (xs : List (Item Message)) (x y : Item Message) (view : ℕ) (d e : List ℕ) → AreMade hotstuff p me xs → In x xs → In y xs → VotedIn x 1 view d → VotedIn y 1 view e → d ≡ e
one-first p me [] x y view d e made k l v u = absurd k
one-first p me (z ∷ xs) x y view d e made k l v u = go k l (λ a b. one-first p me xs x y view d e made.1 a b v u)
  where
    at_top : (a : Item Message) (g : List ℕ) → a ≡ z → VotedIn a 1 view g → VotedIn z 1 view g
    at_top a g q h = subst (λ (t : Item Message). VotedIn t 1 view g) q h

    apart : (a b : Item Message) (g h : List ℕ) → a ≡ z → In b xs → VotedIn a 1 view g → VotedIn b 1 view h → ⊥
    apart a b g h q old s t = elim (votes-rise p me z b xs 1 view 1 view g h made old (at_top a g q s) t) [
      | inl low ↦ absurd (omega (arith, low))
      | inr other ↦ other.1 refl
    ]

    go : In x (z ∷ xs) → In y (z ∷ xs) → (In x xs → In y xs → d ≡ e) → d ≡ e
    go (inl a) (inl b) more = (vote-one p me z xs 1 view 1 view d e made (at_top x d a v) (at_top y e b u)).2
    go (inl a) (inr b) more = absurd (apart x y d e a b v u)
    go (inr a) (inl b) more = absurd (apart y x e d b a u v)
    go (inr a) (inr b) more = more a b
