-- The start, the end of an epoch, and rest keep the invariant.
use Rattle.std.proofs.Common.{◌≡◌, ◌≢◌, ◌⊎◌, inl, inr, ℕ, suc, zero, ◌≤◌, ◌<◌, Bool, true, false, cond, leb, ◌&&◌, List, [], ◌++◌, length, Some, refl, sym, ap, ◌∙◌, subst, ap₂, arith, le_trans, true≢false}
use Rattle.std.proofs.lemmas.Bool.Decides.{leb_tells}
use mathlib.Core.Path.{fun_ext}
use Rattle.iss_base.specs.Lists.{Extends, In}
use Rattle.iss_base.proofs.Lists.{and-true, chain-oldest, extends-length, same_or_not}
use Rattle.iss_request.specs.Log.{requests}
use Rattle.iss_request.specs.declared.requests.Value.{Value}
use Rattle.iss_request.specs.declared.setups.Setup.{Setup}
use Rattle.iss_sb.specs.Evidence.{IsHashed, IsReached, IsSent, Module, Separate, World, accepts, at_start, empty_world, is_correct}
use Rattle.iss_sb.specs.Laws.{IsSafe}
use Rattle.iss_rules.specs.Books.{Signed}
use Rattle.iss_composition.specs.Cluster.{AllSpelled, Backed, Begun, Cluster, Ended, IsHashedLog, IsTrueLog, Message, Quiet, Rested, Scheme, chain, vote_statement, world_of}
use Rattle.iss_composition.proofs.Heads.{Names}
use Rattle.iss_rules.specs.Past.{advanced, ended_log, Past, Piece, adopted_at, before, log_of, start_of}
use Rattle.iss_rules.proofs.Judged.{Judged}
use Rattle.iss_rules.specs.SoundRules.{IsSoundRules}
use Rattle.iss_composition.specs.Ordered.{Among}
use Rattle.iss_rules.specs.Rules.{Rules}
use Rattle.iss_composition.proofs.Agree.{before-true, far-start, log-true, own-true, separate-part}
use Rattle.iss_rules.proofs.Logs.{newborn-log, Later, Settled, before-later, later-refl, log-chain, log-later}
use Rattle.iss_composition.proofs.Chains.{spelled-oldest, strings-oldest}
use Rattle.iss_rules.proofs.Epochs.{start-cut, start-extends}
use Rattle.iss_composition.proofs.Good.{Good, IsClaimed, IsTrue, Voted}
use Rattle.iss_composition.proofs.Kept.{adopted-later, claimed-later, is_true-later, sent-later, settled-of, voted-later, world-same}
use Rattle.iss_composition.proofs.Statements.{apart, votes}
use Rattle.iss_rules.proofs.Nodes.{correct-below}

-- the next epoch, with more pieces
abbrev pub turned : {Msg : Type 0} → Past Msg → List Piece → Past Msg
turned c pieces = record { epoch = suc c.epoch; evidence = c.evidence; adopted = pieces ++ c.adopted }

pub turned-later : (R : Rules) {Msg : Type 0} (c : Past Msg) (pieces : List Piece) → Settled R c → Later R c (turned c pieces)
turned-later R c pieces h = record { epoch = omega arith; here = λ l. ([], refl); there = λ e l ne. refl; adopted = (pieces, refl); settled = h.all }

-- messages, claims and strings, if histories stay
module _ {Msg : Type 0} (s : Setup) (S : Scheme) (R : Rules) (M : Module Msg) (v w : Cluster Msg) (g : Good s R M v S)
    (later : (j : ℕ) → is_correct s j ≡ true → Later R (v.pasts j) (w.pasts j)) (quiet : Quiet M v w)
    (named : (x : Signed) (e l : ℕ) → l ≢ 255 → In x w.book → Names s M e l x.statement → In x v.book)
    (same : (j e l : ℕ) → is_correct s j ≡ true → (w.pasts j).evidence e l ≡ (v.pasts j).evidence e l) where
  pub sent-quiet : M.stopping ≡ true → (k : Message Msg) → In k w.messages → IsSent (world_of s w.pasts k.epoch k.leader) k.from k.to k.msg
  sent-quiet st k h = sent-later s S R M v w g later quiet.strings k.epoch k.leader k.from k.to k.msg (g.sent st k (quiet.messages st k h))

  pub signed-quiet : (x : Signed) (e l : ℕ) → l ≢ 255 → In x w.book → Names s M e l x.statement → IsClaimed s R M w x e l
  signed-quiet x e l low h t = claimed-later s S R M v w g later quiet.strings x e l (g.signed x e l low (named x e l low h t) t)

  pub strings-quiet : (e l : ℕ) (x : List ℕ) → IsHashed (world_of s w.pasts e l) x → In x w.strings
  strings-quiet e l x h = quiet.strings x (g.strings e l x (subst (λ (y : World Msg). IsHashed y x) (world-same s v w e l (λ j ok. same j e l ok)) h))

pub good-rested : {Msg : Type 0} (s : Setup) (S : Scheme) (R : Rules) (M : Module Msg) (v w : Cluster Msg) → Good s R M v S → Rested s M v w → Good s R M w S
good-rested s S R M v w g rs =
    let later : (j : ℕ) → is_correct s j ≡ true → Later R (v.pasts j) (w.pasts j) =
    λ j ok. rw (rs.same j ok) (later-refl R (v.pasts j) (settled-of s S R M v g j ok)) in
    let same : (j e l : ℕ) → is_correct s j ≡ true → (w.pasts j).evidence e l ≡ (v.pasts j).evidence e l =
    λ j e l ok. ap (λ (c : Past _). c.evidence e l) (rs.same j ok) in
    record {
      reached = λ j ok. rw (rs.same j ok) (g.reached j ok);
      inv = λ j d k ok. rw (rs.same j ok, world-same s v w d k (λ j ok. same j d k ok)) (g.inv j d k ok);
      unborn = λ j d k ok. rw (rs.same j ok) (g.unborn j d k ok);
      judged = λ j d k ok. rw (rs.same j ok) (g.judged j d k ok);
      sent = sent-quiet s S R M v w g later rs.quiet (λ x e l low h t. rs.book x h) same;
      signed = signed-quiet s S R M v w g later rs.quiet (λ x e l low h t. rs.book x h) same;
      strings = strings-quiet s S R M v w g later rs.quiet (λ x e l low h t. rs.book x h) same;
      adopted = λ j d k x ok h. adopted-later s S R M v w g later rs.quiet.strings j d k x ok (rw (rs.same j ok) at h);
      voted = λ x e d q h ok st. voted-later s S R M v w g later rs.quiet.strings e d q (g.voted x e d q (rs.book x h) ok st);
      hashed = λ j ok x. rw (rs.same j ok) (λ h. rs.quiet.strings x (g.hashed j ok x h));
      spelled = λ j ok. rw (rs.same j ok) (g.spelled j ok);
      root = rs.quiet.strings [] g.root;
    }

-- a world in which each correct node has an empty history
pub empty-world : {Msg : Type 0} (s : Setup) (w : Cluster Msg) (e l : ℕ) → ((j : ℕ) → is_correct s j ≡ true → (w.pasts j).evidence e l ≡ []) →
    world_of s w.pasts e l ≡ empty_world
empty-world s w e l h = fun_ext (λ j. go j (is_correct s j) refl)
  where
    go : (j : ℕ) (b : Bool) → is_correct s j ≡ b → cond b ((w.pasts j).evidence e l) [] ≡ []
    go j true ok = h j ok
    go j false ok = refl

pub good-begun : {Msg : Type 0} (s : Setup) (S : Scheme) (R : Rules) (M : Module Msg) (w : Cluster Msg) → Begun s w → Good s R M w S
good-begun s S R M w b = record {
  reached = λ j ok. rw (b.pasts j ok) (omega arith);
  inv = λ j d k ok le lead. rw (empty-world s w d k (λ j ok. ap (λ (c : Past _). c.evidence d k) (b.pasts j ok))) at_start;
  unborn = λ j d k ok. rw (b.pasts j ok) (λ lt. refl);
  judged = λ j d k ok. rw (b.pasts j ok) (λ le. tt);
  sent = λ st k i. absurd (b.messages k i);
  signed = λ x e l low i t. absurd (b.book x i);
  strings = λ e l x h. absurd (subst (λ y. In h.item (y h.node)) (empty-world s w e l (λ j ok. ap (λ (c : Past _). c.evidence e l) (b.pasts j ok))) h.taken);
  adopted = λ j d k x ok. rw (b.pasts j ok) (λ h. absurd (cc));
  voted = λ x e d q h. absurd (b.book x h);
  hashed = λ j ok x. rw (b.pasts j ok) (λ h. absurd (rw (newborn-log R M j) at h));
  spelled = λ j ok x. rw (b.pasts j ok) (λ h. absurd (rw (newborn-log R M j) at h));
  root = b.root;
}

-- some node passes the test, or none below n
some_or_none : (b : ℕ → Bool) (n : ℕ) → ((j : ℕ) × (b j ≡ true)) ⊎ ((j : ℕ) → j < n → b j ≡ false)
some_or_none b zero = inr (λ j lt. absurd (omega arith))
some_or_none b (suc n) = go (some_or_none b n) (b n) refl
  where
    go : ((j : ℕ) × (b j ≡ true)) ⊎ ((j : ℕ) → j < n → b j ≡ false) → (t : Bool) → b n ≡ t → ((j : ℕ) × (b j ≡ true)) ⊎ ((j : ℕ) → j < suc n → b j ≡ false)
    go (inl x) t q = inl x
    go (inr x) true q = inl (n, q)
    go (inr x) false q = inr (λ j lt. elim (same_or_not j n) [ inl y ↦ rw y q | inr y ↦ x j (omega (arith, y)) ])

-- a correct node is in epoch d or past it, or none is
in_epoch : {Msg : Type 0} (s : Setup) (v : Cluster Msg) (d : ℕ) →
    ((j : ℕ) × (is_correct s j ≡ true) × (d ≤ (v.pasts j).epoch)) ⊎ ((j : ℕ) → is_correct s j ≡ true → (v.pasts j).epoch < d)
in_epoch s v d = elim (some_or_none (λ j. is_correct s j && leb d (v.pasts j).epoch) s.n) [
  | inl x ↦ let y = and-true (is_correct s x.0) (leb d (v.pasts x.0).epoch) x.1 in
      inl (x.0, y.0, elim (leb_tells d (v.pasts x.0).epoch) [ inl t ↦ t.1 | inr t ↦ absurd (true≢false (sym y.1 ∙ t.0)) ])
  | inr x ↦ inr (λ j ok.
      elim (leb_tells d (v.pasts j).epoch) [ inl t ↦ absurd (true≢false (sym (ap₂ (λ a b. a && b) ok t.0) ∙ x j (correct-below s j ok))) | inr t ↦ t.1 ])
]

-- node i enters the next epoch, perhaps with more pieces
module _ {Msg : Type 0} (s : Setup) (S : Scheme) (R : Rules) (M : Module Msg) (safe : IsSafe M) (sound : IsSoundRules s M R) (v w : Cluster Msg)
    (sep : Separate (Among w.strings)) (g : Good s R M v S) (i : ℕ) (ok : is_correct s i ≡ true) (pieces : List Piece)
    (here : w.pasts i ≡ turned (v.pasts i) pieces) (other : (j : ℕ) → j ≢ i → w.pasts j ≡ v.pasts j) (quiet : Quiet M v w)
    (named : (x : Signed) (e l : ℕ) → l ≢ 255 → In x w.book → Names s M e l x.statement → In x v.book)
    (hashed : IsHashedLog S w.strings (log_of R M i (w.pasts i))) (spelled : AllSpelled S (log_of R M i (w.pasts i)))
    (far : start_of R (log_of R M i (turned (v.pasts i) pieces)) (suc (v.pasts i).epoch) ≤ length (log_of R M i (turned (v.pasts i) pieces)))
    (pieces_true : (e k : ℕ) (x : Value) → adopted_at (pieces ++ (v.pasts i).adopted) e k ≡ Some x → (e < suc (v.pasts i).epoch) × IsTrue s R M v e k x)
    (votes : (x : Signed) (e : ℕ) (d : List ℕ) (q : ℕ) → In x w.book → is_correct s x.by ≡ true → x.statement ≡ vote_statement s e d q →
    Voted s R M v S e d q) where
  abbrev c : Past Msg
  c = v.pasts i

  abbrev t : Past Msg
  t = turned c pieces

  sep_v : Separate (Among v.strings)
  sep_v = separate-part (Among w.strings) (Among v.strings) quiet.strings sep

  by_node : (P : ℕ → Past Msg → Type 0) → P i t → ((j : ℕ) → j ≢ i → P j (v.pasts j)) → (j : ℕ) → P j (w.pasts j)
  by_node P hi ho j = elim (same_or_not j i) [ inl q ↦ rw (q, here) hi | inr ne ↦ rw (other j ne) (ho j ne) ]

  turned_later : Later R c t
  turned_later = turned-later R c pieces (settled-of s S R M v g i ok)

  later : (j : ℕ) → is_correct s j ≡ true → Later R (v.pasts j) (w.pasts j)
  later = by_node (λ j x. is_correct s j ≡ true → Later R (v.pasts j) x) (λ _. turned_later)
      (λ j ne okj. later-refl R (v.pasts j) (settled-of s S R M v g j okj))

  same_before : (d : ℕ) → d ≤ c.epoch → before R M i t d ≡ before R M i c d
  same_before d le = before-later R M i c t d turned_later (far-start s S R M safe sound v sep_v g i ok d le)

  turned_true : IsTrueLog s R M v.pasts (log_of R M i t)
  turned_true = log-true s S R M safe sound v sep_v g i ok t turned_later (λ e l. refl) (λ e k x h. (pieces_true e k x h).1) (log_of R M i t)
      (log-chain R M i t)

  inv_new : (k : ℕ) → R.leads (before R M i t (suc c.epoch)) (suc c.epoch) k ≡ true →
      IsReached M (R.params (before R M i t (suc c.epoch)) (suc c.epoch) k) (world_of s v.pasts (suc c.epoch) k)
  inv_new k lead = elim (in_epoch s v (suc c.epoch)) [
    | inl x ↦
        let same : before R M x.0 (v.pasts x.0) (suc c.epoch) ≡ before R M i t (suc c.epoch) =
        before-true s S R M safe sound v sep_v g x.0 x.1 (suc c.epoch) x.2 (log_of R M i t) turned_true far in
        rw (← same) (g.inv x.0 (suc c.epoch) k x.1 x.2 (rw same lead))
    | inr none ↦ rw (empty-world s v (suc c.epoch) k (λ j okj. g.unborn j (suc c.epoch) k okj (none j okj))) at_start
  ]

  same_evidence : (j d k : ℕ) → is_correct s j ≡ true → (w.pasts j).evidence d k ≡ (v.pasts j).evidence d k
  same_evidence j d k = by_node (λ j x. is_correct s j ≡ true → x.evidence d k ≡ (v.pasts j).evidence d k) (λ _. refl) (λ j ne _. refl) j

  pub good-turned : Good s R M w S
  good-turned = record {
    reached = by_node (λ j x. is_correct s j ≡ true → start_of R (log_of R M j x) x.epoch ≤ length (log_of R M j x)) (λ _. far) (λ j ne okj. g.reached j okj);
    inv = λ j d k. rw (world-same s v w d k (λ j okj. same_evidence j d k okj))
        (by_node (λ j x. is_correct s j ≡ true → d ≤ x.epoch → R.leads (before R M j x d) d k ≡ true →
        IsReached M (R.params (before R M j x d) d k) (world_of s v.pasts d k))
        (λ _ le lead. elim (leb_tells d c.epoch) [
          | inl y ↦ rw (same_before d y.1) (g.inv i d k ok y.1 (rw (same_before d y.1) at lead))
          | inr y ↦ let q : d ≡ suc c.epoch = omega (arith, le, y.1) in rw q (inv_new k (rw q at lead))
        ])
        (λ j ne okj. g.inv j d k okj) j);
    unborn = λ j d k. by_node (λ j x. is_correct s j ≡ true → x.epoch < d → x.evidence d k ≡ []) (λ _ lt. g.unborn i d k ok (omega (arith, lt)))
        (λ j ne okj. g.unborn j d k okj) j;
    judged = λ j d k. by_node (λ j x. is_correct s j ≡ true → d ≤ x.epoch → Judged R (before R M j x d) d k (accepts (x.evidence d k)))
        (λ _ le. elim (leb_tells d c.epoch) [
          | inl y ↦ rw (same_before d y.1) (g.judged i d k ok y.1)
          | inr y ↦ rw (g.unborn i d k ok y.1) tt
        ])
        (λ j ne okj. g.judged j d k okj) j;
    sent = sent-quiet s S R M v w g later quiet named same_evidence;
    signed = signed-quiet s S R M v w g later quiet named same_evidence;
    strings = strings-quiet s S R M v w g later quiet named same_evidence;
    adopted = λ j d k x. by_node (λ j y. is_correct s j ≡ true → adopted_at y.adopted d k ≡ Some x → (d < y.epoch) × IsTrue s R M w d k x)
        (λ _ h. let a = pieces_true d k x h in (a.0, is_true-later s S R M v w g later quiet.strings d k x a.1))
        (λ j ne okj h. let a = g.adopted j d k x okj h in (a.0, is_true-later s S R M v w g later quiet.strings d k x a.1)) j;
    voted = λ x e d q h okx st. voted-later s S R M v w g later quiet.strings e d q (votes x e d q h okx st);
    hashed = λ j okj x. elim (same_or_not j i) [
      | inl q ↦ rw q (hashed x)
      | inr ne ↦ rw (other j ne) (λ h. quiet.strings x (g.hashed j okj x h))
    ];
    spelled = λ j okj. elim (same_or_not j i) [
      | inl q ↦ rw q spelled
      | inr ne ↦ rw (other j ne) (g.spelled j okj)
    ];
    root = quiet.strings [] g.root;
  }

-- an epoch ends without a piece
pub good-ended : {Msg : Type 0} (s : Setup) (S : Scheme) (R : Rules) (M : Module Msg) → IsSafe M → IsSoundRules s M R → (v w : Cluster Msg) →
    Separate (Among w.strings) → Good s R M v S → (i : ℕ) → Ended s S R M v w i → Good s R M w S
good-ended s S R M safe sound v w sep g i en =
    let c = v.pasts i in
    let t = advanced c in
    let sep_v : Separate (Among v.strings) = separate-part (Among w.strings) (Among v.strings) en.quiet.strings sep in
    let here_far : start_of R (log_of R M i c) (suc c.epoch) ≤ length (log_of R M i c) =
    elim (leb_tells (start_of R (log_of R M i c) (suc c.epoch)) (length (log_of R M i c)))
    [ inl y ↦ y.1 | inr y ↦ absurd (true≢false (sym en.complete ∙ y.0)) ] in
    let grown : Extends (log_of R M i c) (log_of R M i t) = log-later R M i c t (turned-later R c [] (settled-of s S R M v g i en.correct)) in
    let same_start : start_of R (log_of R M i t) (suc c.epoch) ≡ start_of R (log_of R M i c) (suc c.epoch) =
    start-extends R (log_of R M i c) (log_of R M i t) (suc c.epoch) grown here_far in
    let far : start_of R (log_of R M i t) (suc c.epoch) ≤ length (log_of R M i t) =
    rw same_start (le_trans here_far (extends-length (log_of R M i c) (log_of R M i t) grown)) in
    good-turned s S R M safe sound v w sep g i en.correct [] en.here en.other en.quiet
    (λ x d k low h named.
    elim (en.book x h) [
      | inl a ↦ a
      | inr a ↦ absurd
          (apart s M x.statement d k c.epoch (chain S (ended_log R M i c)) (requests (ended_log R M i c)) low named a.1)
    ])
    en.hashed en.spelled far
    (λ d k x h. let a = g.adopted i d k x en.correct h in (omega (arith, a.0), a.1))
    (λ x e d q h okx st. elim (en.book x h) [
      | inl a ↦ g.voted x e d q a okx st
      | inr a ↦
          let same = votes s e c.epoch d (chain S (ended_log R M i c)) q (requests (ended_log R M i c)) (sym st ∙ a.1) in
          record {
            log = ended_log R M i c;
            whole = rw same.0 (start-cut R (log_of R M i c) (suc c.epoch) here_far);
            is = chain-oldest (Backed s R M v.pasts) (start_of R (log_of R M i c) (suc c.epoch)) (log_of R M i c)
                (own-true s S R M safe sound v sep_v g i en.correct);
            chained = same.1;
            number = same.2;
            hashed = λ y k. g.hashed i en.correct y (strings-oldest S (start_of R (log_of R M i c) (suc c.epoch)) (log_of R M i c) y k);
            spelled = spelled-oldest S (start_of R (log_of R M i c) (suc c.epoch)) (log_of R M i c) (g.spelled i en.correct);
          }
    ])
