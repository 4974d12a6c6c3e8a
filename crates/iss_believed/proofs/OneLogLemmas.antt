-- The one log, and why what a client accepts is its answer.
use Rattle.std.proofs.Common.{◌≡◌, ◌⊎◌, inl, inr, ℕ, zero, suc, ◌+◌, ◌<◌, ◌≤◌, Bool, true, false, true≢false, cond, ◌&&◌, List, [], ◌∷◌, ◌++◌, length, length-append, append-nil, append_assoc, Option, Some, None, refl, sym, ap, ◌∙◌, subst, arith}
use Rattle.std.specs.Prelude.{not, nat_lt}
use Rattle.std.proofs.lemmas.Bool.{lt-ltb}
use Rattle.std.proofs.lemmas.Bool.Decides.{nat_tests}
use Rattle.iss_base.specs.Lists.{In}
use Rattle.iss_base.specs.Quorum.{count_below}
use Rattle.iss_base.proofs.Lists.{in_append}
use Rattle.iss_base.proofs.Quorum.{count-mono}
use Rattle.iss_request.specs.Setup.{IsFewFaulty, IsGoodSetup}
use Rattle.iss_request.specs.declared.requests.Value.{Value}
use Rattle.iss_request.specs.declared.setups.Kind.{Kind}
use Rattle.iss_request.specs.declared.setups.Kind.TheVariants.{Byzantine, Stopping}
use Rattle.iss_request.specs.declared.setups.Setup.{Setup}
use Rattle.iss_request.specs.declared.ids.NodeId.{NodeId}
use Rattle.iss_sb.specs.Evidence.{has_node, is_correct}
use Rattle.iss_sb.proofs.Quorums.{count-nodes}
use Rattle.iss_model.specs.Runs.{IsPrefix}
use Rattle.iss_reply.specs.Clients.{IsReplyOf, cluster_of}
use Rattle.iss_reply.specs.Replies.{Replying, and_reply, replies_below, replies_to, replying, reply_at}
use Rattle.iss_reply.specs.declared.replies.Reply.{Reply}
use Rattle.iss_reply.proofs.LawLemmas.{own-reply, reply-longer}
use Rattle.iss_answers.specs.Printed.{AreBelieved}
use Rattle.iss_answers.proofs.BeliefLemmas.{all-believed}
use Rattle.iss_believed.specs.Believed.{AreUnforged, longer, longest, made_by, replies_of_nodes}

-- ---- at most f nodes are faulty

is-faulty : (low has : Bool) → low ≡ true → not (low && not has) ≡ true → has ≡ true
is-faulty true true low h = refl
is-faulty true false low h = absurd (true≢false (sym h))
is-faulty false has low h = absurd (true≢false (sym low))

few : (s : Setup) → IsGoodSetup s → count_below (λ i. not (is_correct s i)) s.n ≤ s.f
few s good =
    let faulty = count-mono (λ i. not (is_correct s i)) (λ i. has_node i s.faulty) s.n
    (λ k lt h. is-faulty (nat_lt k s.n) (has_node k s.faulty) (lt-ltb k s.n lt) h) in
    omega (arith, faulty, count-nodes s.n s.faulty, most s.kind s.faulty good.few_faulty)
  where
    most : (kind : Kind) (faulty : List NodeId) → IsFewFaulty kind s.f faulty → length faulty ≤ s.f
    most Byzantine faulty h = h
    most Stopping faulty h = let none : length faulty ≡ 0 = ap (λ (l : List NodeId). length l) h in omega (arith, none)

-- ---- the longest of logs of which one is a prefix of the other

-- of two correct logs one is a prefix of the other
abbrev pub AreChained : Setup → (ℕ → List Value) → Type 0
AreChained s logs = (i j : ℕ) → is_correct s i ≡ true → is_correct s j ≡ true → IsPrefix (logs i) (logs j) ⊎ IsPrefix (logs j) (logs i)

itself : (a : List Value) → IsPrefix a a
itself a = ([], sym (append-nil a))

through : (a b c : List Value) → IsPrefix a b → IsPrefix b c → IsPrefix a c
through a b c h k = (h.0 ++ k.0, k.1 ∙ ap (λ (l : List Value). l ++ k.0) h.1 ∙ append_assoc a h.0 k.0)

-- the longest is empty, or one of the correct logs
data IsLongest (s : Setup) (logs : ℕ → List Value) (n : ℕ) (log : List Value) : Type 0 where
  Empty : log ≡ [] → IsLongest s logs n log
  Own : (i : ℕ) → is_correct s i ≡ true → log ≡ logs i → IsLongest s logs n log

longest-is : (s : Setup) (logs : ℕ → List Value) (n : ℕ) → IsLongest s logs n (longest s logs n)
longest-is s logs zero = Empty refl
longest-is s logs (suc n) = go (is_correct s n) refl (longest-is s logs n)
  where
    more : IsLongest s logs n (longest s logs n) → IsLongest s logs (suc n) (longest s logs n)
    more (Empty e) = Empty e
    more (Own i c e) = Own i c e

    pick : (b : Bool) → is_correct s n ≡ true → IsLongest s logs n (longest s logs n) → IsLongest s logs (suc n) (cond b (logs n) (longest s logs n))
    pick true c h = Own n c refl
    pick false c h = more h

    go : (b : Bool) → is_correct s n ≡ b → IsLongest s logs n (longest s logs n) → IsLongest s logs (suc n) (cond b (longer (longest s logs n) (logs n)) (longest s logs n))
    go true c h = pick (nat_lt (length (longest s logs n)) (length (logs n))) c h
    go false c h = more h

front-longer : (a b : List Value) → IsPrefix a b → IsPrefix a (longer b a)
front-longer a b h =
    let long : length b ≡ length a + length h.0 = ap (λ (l : List Value). length l) h.1 ∙ length-append a h.0 in
    let no : nat_lt (length b) (length a) ≡ false = grind (arith, nat_tests, long) in
    subst (λ (c : Bool). IsPrefix a (cond c a b)) (sym no) h

-- both of two logs, of which one is a prefix of the other, are prefixes of the longer one
both-longer : (a b : List Value) → IsPrefix a b ⊎ IsPrefix b a → IsPrefix a (longer a b) × IsPrefix b (longer a b)
both-longer a b (inl h) = go (nat_lt (length a) (length b)) refl
  where
    long : length b ≡ length a + length h.0
    long = ap (λ (l : List Value). length l) h.1 ∙ length-append a h.0

    same : length b ≤ length a → b ≡ a
    same le = h.1 ∙ ap (λ (l : List Value). a ++ l) (nothing h.0 (omega (arith, long, le))) ∙ append-nil a
      where
        nothing : (xs : List Value) → length xs ≡ 0 → xs ≡ []
        nothing [] e = refl
        nothing (x ∷ xs) e = absurd (omega (arith, e))

    go : (c : Bool) → nat_lt (length a) (length b) ≡ c → IsPrefix a (cond c b a) × IsPrefix b (cond c b a)
    go true e = (h, itself b)
    go false e = let le : length b ≤ length a = grind (arith, nat_tests, e) in (itself a, subst (λ (l : List Value). IsPrefix b l) (same le) (itself b))
both-longer a b (inr h) = go (nat_lt (length a) (length b)) refl
  where
    long : length a ≡ length b + length h.0
    long = ap (λ (l : List Value). length l) h.1 ∙ length-append b h.0

    go : (c : Bool) → nat_lt (length a) (length b) ≡ c → IsPrefix a (cond c b a) × IsPrefix b (cond c b a)
    go true e = let lt : length a < length b = grind (arith, nat_tests, e) in absurd (omega (arith, lt, long))
    go false e = (itself a, h)

empty-front : (log b : List Value) → log ≡ [] → IsPrefix log b
empty-front log b e = (b, ap (λ (l : List Value). l ++ b) (sym e))

chained-with : (s : Setup) (logs : ℕ → List Value) (n i : ℕ) (log : List Value) → AreChained s logs → IsLongest s logs n log → is_correct s i ≡ true → IsPrefix log (logs i) ⊎ IsPrefix (logs i) log
chained-with s logs n i log chained (Empty e) c = inl (empty-front log (logs i) e)
chained-with s logs n i log chained (Own k d e) c = subst (λ (l : List Value). IsPrefix l (logs i) ⊎ IsPrefix (logs i) l) (sym e) (chained k i d c)

pub prefix-longest : (s : Setup) (logs : ℕ → List Value) → AreChained s logs → (n i : ℕ) → i < n → is_correct s i ≡ true → IsPrefix (logs i) (longest s logs n)
prefix-longest s logs chained zero i lt c = absurd (omega (arith, lt))
prefix-longest s logs chained (suc n) i lt c = go (is_correct s n) refl (λ less. prefix-longest s logs chained n i less c)
  where
    or-last : (i < n) ⊎ (i ≡ n)
    or-last = grind (arith, lt)

    both : is_correct s n ≡ true → IsPrefix (longest s logs n) (longer (longest s logs n) (logs n)) × IsPrefix (logs n) (longer (longest s logs n) (logs n))
    both d = both-longer (longest s logs n) (logs n) (chained-with s logs n n (longest s logs n) chained (longest-is s logs n) d)

    go : (b : Bool) → is_correct s n ≡ b → (i < n → IsPrefix (logs i) (longest s logs n)) → IsPrefix (logs i) (cond b (longer (longest s logs n) (logs n)) (longest s logs n))
    go true d rec = elim or-last [
      | inl less ↦ through (logs i) (longest s logs n) (longer (longest s logs n) (logs n)) (rec less) (both d).0
      | inr same ↦ subst (λ (k : ℕ). IsPrefix (logs k) (longer (longest s logs n) (logs n))) (sym same) (both d).1
    ]
    go false d rec = elim or-last [
      | inl less ↦ rec less
      | inr same ↦ absurd (true≢false (sym (subst (λ (k : ℕ). is_correct s k ≡ true) same c) ∙ d))
    ]

-- ---- a reply of the run is its node's, and is made to the one log

record IsMade (w : Replying) (log : List Value) (r : Reply) : Type 0 where
  number : ℕ
  made : reply_at w log number ≡ Some r

made-below : (w : Replying) (log : List Value) (q : ℕ) (r : Reply) → In r (replies_below w log q) → IsMade w log r
made-below w log zero r h = absurd h
made-below w log (suc q) r h = go (reply_at w log q) refl h (λ i. made-below w log q r i)
  where
    last : (x : Reply) → reply_at w log q ≡ Some x → In r (x ∷ []) → IsMade w log r
    last x at (inl e) = record { number = q; made = at ∙ ap Some (sym e) }
    last x at (inr i) = absurd i

    go : (o : Option Reply) → reply_at w log q ≡ o → In r (and_reply (replies_below w log q) o) → (In r (replies_below w log q) → IsMade w log r) → IsMade w log r
    go None at i rec = rec i
    go (Some x) at i rec = elim (in_append r (replies_below w log q) (x ∷ []) i) [
      | inl j ↦ rec j
      | inr j ↦ last x at j
    ]

record IsOfNode (s : Setup) (logs : ℕ → List Value) (r : Reply) : Type 0 where
  node : ℕ
  correct : is_correct s node ≡ true
  made : IsMade (replying s node) (logs node) r

of-node : (s : Setup) (logs : ℕ → List Value) (n : ℕ) (r : Reply) → In r (replies_of_nodes s logs n) → IsOfNode s logs r
of-node s logs zero r h = absurd h
of-node s logs (suc n) r h = elim (in_append r (replies_of_nodes s logs n) (made_by s logs n) h) [
  | inl i ↦ of-node s logs n r i
  | inr i ↦ go (is_correct s n) refl i
]
  where
    go : (b : Bool) → is_correct s n ≡ b → In r (cond b (replies_to (replying s n) (logs n)) []) → IsOfNode s logs r
    go true c i = record { node = n; correct = c; made = made-below (replying s n) (logs n) _ r i }
    go false c i = absurd i

-- the same reply, to a longer log
longer-reply : (s : Setup) (log more : List Value) (o r : Reply) → IsReplyOf s log o → r.by ≡ o.by → r.epoch ≡ o.epoch → r.q ≡ o.q → r.id ≡ o.id → r.answer ≡ o.answer → IsReplyOf s (log ++ more) r
longer-reply s log more o r h by epoch q id answer =
    let far = reply-longer (replying s o.by.0) log more o.q h.own h.made in
    record {
      own = h.own;
      made = subst (λ (b : NodeId). reply_at (replying s b.0) (log ++ more) r.q ≡ Some h.own) (sym by)
          (subst (λ (k : ℕ). reply_at (replying s o.by.0) (log ++ more) k ≡ Some h.own) (sym q) far);
      epoch = epoch ∙ h.epoch;
      id = id ∙ h.id;
      answer = answer ∙ h.answer;
    }

-- what a client accepts is the answer of a log of which all correct logs are prefixes
pub told-believed : (s : Setup) (logs : ℕ → List Value) (log : List Value) (told : List Reply) → IsGoodSetup s → ((i : ℕ) → is_correct s i ≡ true → IsPrefix (logs i) log) → AreUnforged s (replies_of_nodes s logs s.n) told → AreBelieved log (cluster_of s) told
told-believed s logs log told good fronts unforged = all-believed s (is_correct s) log told (record {
  few = few s good;
  own = λ r there signed right.
      let among = unforged r there signed right in
      let of = of-node s logs s.n among.reply among.there in
      let front = fronts of.node of.correct in
      let own = own-reply s of.node of.made.number (logs of.node) among.reply of.made.made in
      subst (λ (l : List Value). IsReplyOf s l r) (sym front.1)
      (longer-reply s (logs of.node) front.0 among.reply r own among.by among.epoch among.q among.id among.answer);
})

-- no reply is forged among the run's own
pub own-unforged : (s : Setup) (own : List Reply) → AreUnforged s own own
own-unforged s own r there signed right = record { reply = r; there = there; by = refl; epoch = refl; q = refl; id = refl; answer = refl }
