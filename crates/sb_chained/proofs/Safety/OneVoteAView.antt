-- Why a vote is sent; that a node votes once at an input, and that its later votes are of higher views.
use Rattle.std.proofs.Common.{◌≡◌, ◌≤◌, ◌<◌, ℕ, suc, ◌*◌, ◌/◌, Bool, true, false, if◌then◌else◌, List, [], ◌∷◌, Option, Some, None, refl, sym, ap, ◌∙◌, subst, inl, inr, arith}
use Rattle.std.specs.Prelude.{nat_lt}
use Rattle.std.proofs.lemmas.Bool.{ltb-true}
use Rattle.iss_base.specs.Lists.{In}
use Rattle.iss_base.proofs.Lists.{and-true, in_append}
use Rattle.iss_request.specs.declared.ids.NodeId.{NodeId}
use Rattle.iss_sb.specs.declared.effects.Input.{Input}
use Rattle.iss_sb.specs.declared.effects.Input.TheVariants.{Cast, Receive, Timeout}
use Rattle.iss_sb.specs.declared.effects.Params.{Params}
use Rattle.iss_sb.specs.declared.effects.To.{To}
use Rattle.iss_sb.specs.declared.effects.To.TheVariants.{All as To_all}
use Rattle.iss_sb.specs.Evidence.{Item, Made}
use Rattle.iss_sb.specs.Legal.{AreMade}
use Rattle.iss_sb.specs.declared.content.Content.{Content}
use Rattle.hs_tree.specs.declared.certificates.Certificate.{Certificate}
use Rattle.hs_tree.specs.declared.messages.Message.{Message}
use Rattle.hs_tree.specs.declared.messages.Body.{Body}
use Rattle.hs_tree.specs.declared.messages.Body.TheVariants.{NewView, Prepare, Vote}
use Rattle.hs_tree.specs.Messages.{signed}
use Rattle.hs_tree.specs.Tree.{chained as form}
use Rattle.sb_chained.specs.Facts.{VotedIn}
use Rattle.sb_chained.specs.Chained.{answers, answers_heard, drafts, chained, makes, proposals, state, voted}
use Rattle.sb_chained.specs.Rules.{State, after, heard, is_allowed, is_safe, is_usable, keeps_news, keeps_vote, kept, may_cast, may_end, may_prepare, node_digest, proposed, shows, slots_below, taken, with_cast, with_news, with_node, with_round, with_turn, with_vote}
use Rattle.hs_views.specs.Views.{Turn, round_of}
use Rattle.sb_chained.proofs.Safety.CertificatesShown.{shown-like}
use Rattle.hs_views.proofs.DraftsAgree.{sent-drafted}
use Rattle.hs_views.proofs.Tests.{by-test, each-option, same-body}

pub record IsFirst (p : Params) (s : State) (i : Input Message) (view : ℕ) (d : List ℕ) : Type 0 where
  pub from : NodeId
  pub what : Content
  pub just : Certificate
  pub sig : List ℕ
  pub is : i ≡ Receive from (signed (Prepare view what just) sig)
  pub may : may_prepare p s from.0 view what just ≡ true
  pub digest_is : d ≡ node_digest p view what just

-- ---- Drafts

module _ (p : Params) (to : To) (view : ℕ) (d : List ℕ) where
  abbrev Sent : List (To × Body) → Type 0
  Sent ds = In {A = To × Body} (to, Vote 1 view d) ds

  one-is : (a : To) (n : Body) → Sent ((a, n) ∷ []) → Vote 1 view d ≡ n
  one-is a n (inl e) = ap (λ (z : To × Body). z.1) e
  one-is a n (inr h) = absurd h

  by-true : (t : Bool) (ds : List (To × Body)) (C : Type 0) → (t ≡ true → Sent ds → C) → Sent (if t then ds else []) → C
  by-true true ds C h k = h refl k
  by-true false ds C h k = absurd k

  none-proposed : (o : Option Turn) → Sent (proposals o) → ⊥
  none-proposed None h = h
  none-proposed (Some t) h = let m = one-is To_all (Prepare t.view t.what t.just) h in cc

  abbrev Why : State → Input Message → Type 0
  Why s i = IsFirst p s i view d

  why-heard : (s : State) (from : NodeId) (body : Body) (sig : List ℕ) → Sent (answers_heard p s from.0 body) → Why s (Receive from (signed body sig))
  why-heard s from (Prepare v what just) x h = by-true (may_prepare p s from.0 v what just) (voted p v (node_digest p v what just)) (Why s (Receive from (signed (Prepare v what just) x))) (λ t z. go t (one-is _ (Vote 1 v (node_digest p v what just)) z)) h
    where
      go : may_prepare p s from.0 v what just ≡ true → Vote 1 view d ≡ Vote 1 v (node_digest p v what just) → Why s (Receive from (signed (Prepare v what just) x))
      go t e =
          let b : view ≡ v = cc in
          let c : d ≡ node_digest p v what just = cc in
          subst (λ (z : ℕ). IsFirst p s (Receive from (signed (Prepare v what just) x)) z d) (sym b)
          (record { from = from; what = what; just = just; sig = x; is = refl; may = t; digest_is = c })
  why-heard s from other x h = absurd h

  why-answer : (s : State) (i : Input Message) → Sent (answers p s i) → Why s i
  why-answer s (Cast slot batch) h = absurd h
  why-answer s (Receive from msg) h = why-heard s from msg.body msg.sig h
  why-answer s Timeout h = absurd (by-true (may_end s) _ ⊥ (λ t z. let e = one-is _ _ z in cc) h)

  why : (me : ℕ) (s : State) (i : Input Message) → Sent (drafts p me s i) → Why s i
  why me s i h =
      let o = proposed p me s (kept p me s i) i in
      elim (in_append {A = To × Body} (to, Vote 1 view d) (answers p s i) (proposals o) h) [
        | inl a ↦ why-answer s i a
        | inr a ↦ absurd (none-proposed o a)
      ]

pub cause : (p : Params) (me leaf : ℕ) (xs : List (Item Message)) (i : Input Message) (to : To) (view : ℕ) (d sig : List ℕ) → In {A = To × Message} (to, signed (Vote 1 view d) sig) (makes p me xs i leaf).sends → IsFirst p (state p me xs) i view d
cause p me leaf xs i to view d sig h =
    why p to view d me (state p me xs) i (sent-drafted form p me leaf (drafts p me (state p me xs) i) to (signed (Vote 1 view d) sig) h)

-- ---- Views never decrease

abbrev Rises : ℕ → State → Type 0
Rises v s = v ≤ s.view

same : (v : ℕ) → v ≤ v
same v = omega arith

-- what the test of a proposal says
pub record Tests (p : Params) (s : State) (from view : ℕ) (what : Content) (just : Certificate) : Type 0 where
  pub usable_is : is_usable p s from view just ≡ true
  pub above : s.view < view
  pub safe : is_safe p s view what just ≡ true
  pub allowed : is_allowed p (round_of view) (slots_below s just) what ≡ true

pub tests : (p : Params) (s : State) (from view : ℕ) (what : Content) (just : Certificate) → may_prepare p s from view what just ≡ true → Tests p s from view what just
tests p s from view what just h =
    let a = and-true _ _ h in
    let b = and-true (is_usable p s from view just) (nat_lt s.view view) a.0 in
    let c = and-true (is_safe p s view what just) _ a.1 in
    record { usable_is = b.0; above = ltb-true s.view view b.1; safe = c.0; allowed = c.1 }

pub round-above : (v : ℕ) → v ≤ suc (v / 65536) * 65536
round-above v = omega arith

heard-view : (p : Params) (me : ℕ) (s : State) (from : ℕ) (body : Body) (sig : List ℕ) → Rises s.view (heard p me s from body sig)
heard-view p me s from (NewView round high) sig = by-test (Rises s.view) (keeps_news p me s from round high) (with_news s from round high) s (λ t. same s.view) (same s.view)
heard-view p me s from (Prepare view what just) sig = by-test (Rises s.view) (may_prepare p s from view what just) (with_node p s view what just) s (λ t. let a = (tests p s from view what just t).above in omega (arith, a)) (same s.view)
heard-view p me s from (Vote phase view d) sig = by-test (Rises s.view) (keeps_vote p s from phase view d) (with_vote s from view d sig) s (λ t. same s.view) (same s.view)
heard-view p me s from other sig = same s.view

pub taken-view : (p : Params) (me : ℕ) (s : State) (i : Input Message) → Rises s.view (taken p me s i)
taken-view p me s (Cast slot batch) = by-test (Rises s.view) (may_cast p me s slot.0) (with_cast s batch) s (λ q. same s.view) (same s.view)
taken-view p me s (Receive from msg) = heard-view p me s from.0 msg.body msg.sig
taken-view p me s Timeout = by-test (Rises s.view) (may_end s) (with_round s) s (λ t. round-above s.view) (same s.view)

-- the view after an input is that of what was taken
pub after-is : (p : Params) (me : ℕ) (s : State) (i : Input Message) → (after p me s i).view ≡ (taken p me s i).view
after-is p me s i =
    let t = taken p me s i in
    each-option (λ (z : Option Turn). (with_turn (kept p me s i) z).view) (kept p me s i).view refl (λ t. refl) (proposed p me s (kept p me s i) i) ∙ (shown-like t (shows p me s t i)).view

pub after-view : (p : Params) (me : ℕ) (s : State) (i : Input Message) → Rises s.view (after p me s i)
after-view p me s i =
    let a = taken-view p me s i in
    let e = after-is p me s i in
    omega (arith, a, e)

-- ---- A vote is of the view that the step enters or is in

pub first-view : (p : Params) (me : ℕ) (s : State) (i : Input Message) (view : ℕ) (d : List ℕ) → IsFirst p s i view d → (after p me s i).view ≡ view
first-view p me s i view d f =
    let here : (taken p me s (Receive f.from (signed (Prepare view f.what f.just) f.sig))).view ≡ view = rw (f.may) refl in
    after-is p me s i ∙ subst (λ (z : Input Message). (taken p me s z).view ≡ view) (sym f.is) here

-- ---- In one history

pub cause-new : (p : Params) (me : ℕ) (x : Item Message) (xs : List (Item Message)) (view : ℕ) (d : List ℕ) → AreMade chained p me (x ∷ xs) → VotedIn x view d → IsFirst p (state p me xs) x.input view d
cause-new p me x xs view d made v = cause p me x.leaf xs x.input v.to view d v.sig (subst (λ (z : Made Message). In {A = To × Message} (v.to, signed (Vote 1 view d) v.sig) z.sends) made.0 v.sent)

-- an input has one cause of a vote
cause-one : (p : Params) (s : State) (i : Input Message) (view v : ℕ) (d e : List ℕ) → IsFirst p s i view d → IsFirst p s i v e → (view ≡ v) × (d ≡ e)
cause-one p s i view v d e f g =
    let k : Prepare view f.what f.just ≡ Prepare v g.what g.just = same-body _ _ _ _ (sym f.is ∙ g.is) in
    let a : view ≡ v = cc in
    let c : f.what ≡ g.what = cc in
    let j : f.just ≡ g.just = cc in
    (a, f.digest_is ∙ ap (λ (z : ℕ). node_digest p z f.what f.just) a ∙ ap (λ (z : Content). node_digest p v z f.just) c ∙ ap (λ (z : Certificate). node_digest p v g.what z) j ∙ sym g.digest_is)

pub voted-below : (p : Params) (me : ℕ) (xs : List (Item Message)) (x : Item Message) (view : ℕ) (d : List ℕ) → AreMade chained p me xs → In x xs → VotedIn x view d → view ≤ (state p me xs).view
voted-below p me [] x view d made k v = absurd k
voted-below p me (y ∷ xs) x view d made (inl e) v =
    let f = cause-new p me y xs view d made (subst (λ (z : Item Message). VotedIn z view d) e v) in
    let l = first-view p me (state p me xs) y.input view d f in
    omega (arith, l)
voted-below p me (y ∷ xs) x view d made (inr k) v =
    let a = voted-below p me xs x view d made.1 k v in
    let b = after-view p me (state p me xs) y.input in
    omega (arith, a, b)

pub votes-rise : (p : Params) (me : ℕ) (x y : Item Message) (before : List (Item Message)) (view v : ℕ) (d e : List ℕ) → AreMade chained p me (x ∷ before) → In y before → VotedIn x view d → VotedIn y v e → v < view
votes-rise p me x y before view v d e made k a b =
    let f = cause-new p me x before view d made a in
    let l = (tests p (state p me before) f.from.0 view f.what f.just f.may).above in
    let m = voted-below p me before y v e made.1 k b in
    omega (arith, l, m)

pub vote-one : (p : Params) (me : ℕ) (x : Item Message) (before : List (Item Message)) (view v : ℕ) (d e : List ℕ) → AreMade chained p me (x ∷ before) → VotedIn x view d → VotedIn x v e → (view ≡ v) × (d ≡ e)
vote-one p me x before view v d e made a b = cause-one p (state p me before) x.input view v d e (cause-new p me x before view d made a) (cause-new p me x before v e made b)

-- one vote in a view
pub one-first : (p : Params) (me : ℕ) (xs : List (Item Message)) (x y : Item Message) (view : ℕ) (d e : List ℕ) → AreMade chained p me xs → In x xs → In y xs → VotedIn x view d → VotedIn y view e → d ≡ e
one-first p me [] x y view d e made k l v u = absurd k
one-first p me (z ∷ xs) x y view d e made k l v u = go k l (λ a b. one-first p me xs x y view d e made.1 a b v u)
  where
    at_top : (a : Item Message) (g : List ℕ) → a ≡ z → VotedIn a view g → VotedIn z view g
    at_top a g q h = subst (λ (t : Item Message). VotedIn t view g) q h

    apart : (a b : Item Message) (g h : List ℕ) → a ≡ z → In b xs → VotedIn a view g → VotedIn b view h → ⊥
    apart a b g h q old s t = let low = votes-rise p me z b xs view view g h made old (at_top a g q s) t in omega (arith, low)

    go : In x (z ∷ xs) → In y (z ∷ xs) → (In x xs → In y xs → d ≡ e) → d ≡ e
    go (inl a) (inl b) more = (vote-one p me z xs view view d e made (at_top x d a v) (at_top y e b u)).1
    go (inl a) (inr b) more = absurd (apart x y d e a b v u)
    go (inr a) (inl b) more = absurd (apart y x e d b a u v)
    go (inr a) (inr b) more = more a b
