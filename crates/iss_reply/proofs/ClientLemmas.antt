-- What a client counts, and why it may believe an accepted answer.
use Rattle.std.proofs.Common.{◌≡◌, refl, sym, ap, subst, ◌∙◌, inl, inr, ◌⊎◌, IsTrue, ◌↔◌, ℕ, ◌+◌, ◌<◌, Bool, true, false, true≢false, cond, ◌&&◌, ◌||◌, ◌==◌, List, [], ◌∷◌, ◌++◌, length, map, Option, Some, None, arith}
use Rattle.std.specs.Prelude.{not, nat_lt, slice_get, unwrap_or, IsSomeAnd, OnErr, Result, Ok, Err}
use Rattle.std.proofs.Common.{◌/◌, take}
use Rattle.std.proofs.lemmas.Bool.{lt-ltb}
use Rattle.std.specs.Cmp.Lexicographic.{bytes_decides}
use Rattle.std.specs.Map.{lookup}
use Rattle.std.specs.Option.{option_map}
use Rattle.std.specs.Str.{bytes_eq}
use Rattle.std.proofs.lemmas.Option.{slice_get-map}
use Rattle.iss_base.specs.Lists.{In}
use Rattle.iss_base.specs.Quorum.{all_below, distinct, mem}
use Rattle.iss_base.proofs.Lists.{and-true, both, in_append, is-eq, or-cases, or-false, neither, or-assoc, same-test, some-injective}
use Rattle.iss_base.proofs.Quorum.{count-distinct, count-less, count-some}
use Rattle.iss_reply.proofs.RequestLemmas.{get-below}
use Rattle.iss_keys.proofs.DirectoryLemmas.{verified-by}
use Rattle.iss_keys.proofs.ListedLemmas.{length-listed}
use Rattle.iss_keys.specs.Directories.{VerifiesBy, public_keys_of}
use Rattle.iss_keys.specs.KeyStates.{KeyState, PublicKeyView, public_key, public_of}
use Rattle.iss_keys.specs.Signatures.{Verifies}
use Rattle.iss_keys.specs.VerifiedBy.{is_verified_by}
use Rattle.iss_request.proofs.Identities.{same_id-tells}
use Rattle.iss_request.specs.Log.{same_id}
use Rattle.iss_request.specs.declared.ids.ReqId.{ReqId}
use Rattle.iss_request.specs.declared.requests.Request.{Request}
use Rattle.iss_request.specs.declared.requests.Value.{Value}
use Rattle.iss_request.specs.declared.setups.Setup.{Setup}
use Rattle.iss_reply.specs.declared.clients.Stated.{Stated}
use Rattle.iss_reply.specs.declared.clients.Taken.TheVariants.{Counted, Accepted, Late, Refused}
use Rattle.iss_reply.specs.declared.clients.Refusal.TheVariants.{BadReply, Twice}
use Rattle.iss_reply.specs.declared.replies.Reply.{Reply}
use Rattle.iss_reply.specs.Answers.{answer_after, answer_to, held_after, requests_of}
use Rattle.iss_reply.specs.Clients.{AreHonest, Cluster, IsAnswer, IsBelieved, IsReplyOf, accepted_with, agree, agreeing, cluster_of, counted, counts, has_reply_of, is_answered, is_signed, judged, outcome, stated_by, stated_in, stated_to}
use Rattle.iss_reply.specs.Replies.{reply_secret, reply_to, replying, signed_reply, slot_of}

-- ---- one signature

-- a signature under the key of a number, or under none
pub verified-is : (keys : List KeyState) (i : ℕ) (st sig : List ℕ) (key : KeyState) (r : Bool) → slice_get keys i ≡ Some key
    → IsTrue r ↔ Verifies (public_of key).root (public_of key).height st sig → r ≡ is_verified_by (map public_of keys) i st sig
verified-is keys i st sig key r at h =
    let there : slice_get (map public_of keys) i ≡ Some (public_of key) = slice_get-map public_of keys i ∙ ap (option_map public_of) at in
    same-test r (is_verified_by (map public_of keys) i st sig) h
    (subst (λ o. (is_verified_by (map public_of keys) i st sig ≡ true) ↔ IsSomeAnd o (λ k. Verifies k.root k.height st sig)) there (verified-by (map public_of keys) i st sig))

pub verified-none : (keys : List KeyState) (i : ℕ) (st sig : List ℕ) → slice_get keys i ≡ None → false ≡ is_verified_by (map public_of keys) i st sig
verified-none keys i st sig at =
    let none : slice_get (map public_of keys) i ≡ None = slice_get-map public_of keys i ∙ ap (option_map public_of) at in
    same-test false (is_verified_by (map public_of keys) i st sig) (λ h. absurd (true≢false (sym h)), λ h. absurd h)
    (subst (λ o. (is_verified_by (map public_of keys) i st sig ≡ true) ↔ IsSomeAnd o (λ k. Verifies k.root k.height st sig)) none (verified-by (map public_of keys) i st sig))

-- ---- counting

pub on-err : {A E P : Type 0} (r : Result A E) → P → OnErr r P
on-err (Ok x) p = tt
on-err (Err e) p = p

pub put-stated : (es ns : List (ReqId × List Stated)) (rid : ReqId) (x : Stated) (w : List Stated) → ((q : ReqId) → lookup (same_id q) ns ≡ cond (same_id rid q) (Some w) (lookup (same_id q) es))
    → w ≡ stated_in es rid ++ x ∷ [] → (id : ReqId) → stated_in ns id ≡ cond (same_id rid id) (stated_in es id ++ x ∷ []) (stated_in es id)
put-stated es ns rid x w h e id = go (same_id rid id) refl
  where
    go : (b : Bool) → same_id rid id ≡ b → stated_in ns id ≡ cond (same_id rid id) (stated_in es id ++ x ∷ []) (stated_in es id)
    go true q =
        ap (λ o. unwrap_or o []) (h id) ∙ ap (λ b. unwrap_or (cond b (Some w) (lookup (same_id id) es)) []) q ∙ e
        ∙ ap (λ i. stated_in es i ++ x ∷ []) (same_id-tells rid id q)
        ∙ ap (λ b. cond b (stated_in es id ++ x ∷ []) (stated_in es id)) (sym q)
    go false q =
        ap (λ o. unwrap_or o []) (h id) ∙ ap (λ b. unwrap_or (cond b (Some w) (lookup (same_id id) es)) []) q
        ∙ ap (λ b. cond b (stated_in es id ++ x ∷ []) (stated_in es id)) (sym q)

-- ---- why a reply counts

-- what holds of a reply that counts, and of one that is accepted
pub record IsFresh (c : Cluster) (all : List Stated) (r : Reply) : Type 0 where
  pub signed : is_signed c r ≡ true
  pub first : has_reply_of r.by.0 all ≡ false

fresh : (c : Cluster) (all : List Stated) (r : Reply) → counts (judged c all r) ≡ true → IsFresh c all r
fresh c all r = go (is_signed c r) refl (is_answered c.f all) (has_reply_of r.by.0 all) refl
  where
    go : (s : Bool) → is_signed c r ≡ s → (a : Bool) → (t : Bool) → has_reply_of r.by.0 all ≡ t
        → counts (cond (not s) (Refused BadReply) (cond a Late (cond t (Refused Twice) (accepted_with c.f r (agreeing (stated_by r) all))))) ≡ true → IsFresh c all r
    go false es a t et h = absurd (true≢false (sym h))
    go true es true t et h = absurd (true≢false (sym h))
    go true es false true et h = absurd (true≢false (sym h))
    go true es false false et h = record { signed = es; first = et }

-- the counted ones are among those taken, and signed
pub record IsCounted (c : Cluster) (replies : List Reply) (r : Reply) : Type 0 where
  pub taken : In r replies
  pub signed : is_signed c r ≡ true

counted-more : (c : Cluster) (x : Reply) (replies : List Reply) (r : Reply) → IsCounted c replies r → IsCounted c (x ∷ replies) r
counted-more c x replies r h = record { taken = inr h.taken; signed = h.signed }

pub counted-sound : (c : Cluster) (replies : List Reply) (r : Reply) → In r (counted c replies) → IsCounted c replies r
counted-sound c [] r = λ h. absurd h
counted-sound c (x ∷ earlier) r = go (λ h. counted-sound c earlier r h) (counts (outcome c earlier x)) refl
  where
    new : (y : Reply) → IsFresh c (stated_to x.id (counted c earlier)) x → y ≡ x → IsCounted c (x ∷ earlier) y
    new y f e = record { taken = inl e; signed = subst (λ (z : Reply). is_signed c z ≡ true) (sym e) f.signed }

    go : (In r (counted c earlier) → IsCounted c earlier r) → (b : Bool) → counts (outcome c earlier x) ≡ b → In r (cond b (x ∷ counted c earlier) (counted c earlier)) → IsCounted c (x ∷ earlier) r
    go ih true q (inl e) = new r (fresh c (stated_to x.id (counted c earlier)) x q) e
    go ih true q (inr h) = counted-more c x earlier r (ih h)
    go ih false q h = counted-more c x earlier r (ih h)

-- ---- one reply of each node

-- no node has two of these
abbrev pub OneEach : List Stated → Type 0
OneEach [] = Unit {0}
OneEach (b ∷ bs) = (has_reply_of b.by.0 bs ≡ false) × OneEach bs

has-append : (by : ℕ) (xs ys : List Stated) → has_reply_of by (xs ++ ys) ≡ (has_reply_of by xs || has_reply_of by ys)
has-append by [] ys = refl
has-append by (x ∷ xs) ys = ap (λ b. (x.by.0 == by) || b) (has-append by xs ys) ∙ or-assoc (x.by.0 == by) (has_reply_of by xs) (has_reply_of by ys)

eqb-turned : (a b : ℕ) → (a == b) ≡ false → (b == a) ≡ false
eqb-turned a b h = grind arith

one-more : (bs : List Stated) (x : Stated) → OneEach bs → has_reply_of x.by.0 bs ≡ false → OneEach (bs ++ x ∷ [])
one-more [] x one new = (refl, tt)
one-more (b ∷ bs) x one new =
    let apart = or-false (b.by.0 == x.by.0) (has_reply_of x.by.0 bs) new in (
      has-append b.by.0 bs (x ∷ []) ∙ neither (has_reply_of b.by.0 bs) (has_reply_of b.by.0 (x ∷ [])) one.0 (neither (x.by.0 == b.by.0) false (eqb-turned b.by.0 x.by.0 apart.0) refl),
      one-more bs x one.1 apart.1,
    )

pub one-each : (c : Cluster) (replies : List Reply) (id : ReqId) → OneEach (stated_to id (counted c replies))
one-each c [] id = tt
one-each c (r ∷ earlier) id = go (one-each c earlier id) (counts (outcome c earlier r)) refl
  where
    same : OneEach (stated_to id (counted c earlier)) → (b : Bool) → same_id r.id id ≡ b → IsFresh c (stated_to r.id (counted c earlier)) r
        → OneEach (cond b (stated_to id (counted c earlier) ++ stated_by r ∷ []) (stated_to id (counted c earlier)))
    same ih true q f = one-more (stated_to id (counted c earlier)) (stated_by r) ih
        (subst (λ (i : ReqId). has_reply_of r.by.0 (stated_to i (counted c earlier)) ≡ false) (same_id-tells r.id id q) f.first)
    same ih false q f = ih

    go : OneEach (stated_to id (counted c earlier)) → (b : Bool) → counts (outcome c earlier r) ≡ b → OneEach (stated_to id (cond b (r ∷ counted c earlier) (counted c earlier)))
    go ih true q = same ih (same_id r.id id) refl (fresh c (stated_to r.id (counted c earlier)) r q)
    go ih false q = ih

-- ---- the nodes that agree

-- the nodes of those that agree with a reply
abbrev pub nodes_agreeing : Stated → List Stated → List ℕ
nodes_agreeing a [] = []
nodes_agreeing a (b ∷ bs) = cond (agree a b) (b.by.0 ∷ nodes_agreeing a bs) (nodes_agreeing a bs)

long-agreeing : (a : Stated) (bs : List Stated) → length (nodes_agreeing a bs) ≡ agreeing a bs
long-agreeing a [] = refl
long-agreeing a (b ∷ bs) = go (long-agreeing a bs) (agree a b)
  where
    go : length (nodes_agreeing a bs) ≡ agreeing a bs → (t : Bool) → length (cond t (b.by.0 ∷ nodes_agreeing a bs) (nodes_agreeing a bs)) ≡ cond t 1 0 + agreeing a bs
    go ih true = omega (arith, ih)
    go ih false = omega (arith, ih)

-- a node that agrees, with what its reply states
pub record Agrees (a : Stated) (bs : List Stated) (k : ℕ) : Type 0 where
  pub reply : Stated
  pub there : In reply bs
  pub by : reply.by.0 ≡ k
  pub same : agree a reply ≡ true

agrees-more : (a x : Stated) (bs : List Stated) (k : ℕ) → Agrees a bs k → Agrees a (x ∷ bs) k
agrees-more a x bs k h = record { reply = h.reply; there = inr h.there; by = h.by; same = h.same }

who-agrees : (a : Stated) (bs : List Stated) (k : ℕ) → mem k (nodes_agreeing a bs) ≡ true → Agrees a bs k
who-agrees a [] k = λ h. absurd (true≢false (sym h))
who-agrees a (b ∷ bs) k = go (λ h. who-agrees a bs k h) (agree a b) refl
  where
    first : (mem k (nodes_agreeing a bs) ≡ true → Agrees a bs k) → (t : Bool) → (k == b.by.0) ≡ t → agree a b ≡ true → (t || mem k (nodes_agreeing a bs)) ≡ true → Agrees a (b ∷ bs) k
    first ih true e q h = record { reply = b; there = inl refl; by = sym (is-eq k b.by.0 e); same = q }
    first ih false e q h = agrees-more a b bs k (ih h)

    go : (mem k (nodes_agreeing a bs) ≡ true → Agrees a bs k) → (t : Bool) → agree a b ≡ t → mem k (cond t (b.by.0 ∷ nodes_agreeing a bs) (nodes_agreeing a bs)) ≡ true → Agrees a (b ∷ bs) k
    go ih true q h = first ih (k == b.by.0) refl q h
    go ih false q h = agrees-more a b bs k (ih h)

-- a node without a reply is not among them
not-among : (a : Stated) (bs : List Stated) (k : ℕ) → has_reply_of k bs ≡ false → mem k (nodes_agreeing a bs) ≡ false
not-among a [] k h = refl
not-among a (b ∷ bs) k h =
    let apart = or-false (b.by.0 == k) (has_reply_of k bs) h in
    go (eqb-turned b.by.0 k apart.0) (not-among a bs k apart.1) (agree a b)
  where
    go : (k == b.by.0) ≡ false → mem k (nodes_agreeing a bs) ≡ false → (t : Bool) → mem k (cond t (b.by.0 ∷ nodes_agreeing a bs) (nodes_agreeing a bs)) ≡ false
    go other ih true = neither (k == b.by.0) (mem k (nodes_agreeing a bs)) other ih
    go other ih false = ih

not-is : (b : Bool) → b ≡ false → not b ≡ true
not-is b h = ap not h

distinct-agreeing : (a : Stated) (bs : List Stated) → OneEach bs → distinct (nodes_agreeing a bs) ≡ true
distinct-agreeing a [] one = refl
distinct-agreeing a (b ∷ bs) one = go (distinct-agreeing a bs one.1) (agree a b)
  where
    go : distinct (nodes_agreeing a bs) ≡ true → (t : Bool) → distinct (cond t (b.by.0 ∷ nodes_agreeing a bs) (nodes_agreeing a bs)) ≡ true
    go ih true = both (not (mem b.by.0 (nodes_agreeing a bs))) (distinct (nodes_agreeing a bs)) (not-is (mem b.by.0 (nodes_agreeing a bs)) (not-among a bs b.by.0 one.0)) ih
    go ih false = ih

below-agreeing : (n : ℕ) (a : Stated) (bs : List Stated) → ((b : Stated) → In b bs → b.by.0 < n) → all_below n (nodes_agreeing a bs) ≡ true
below-agreeing n a [] h = refl
below-agreeing n a (b ∷ bs) h = go (below-agreeing n a bs (λ x i. h x (inr i))) (agree a b)
  where
    go : all_below n (nodes_agreeing a bs) ≡ true → (t : Bool) → all_below n (cond t (b.by.0 ∷ nodes_agreeing a bs) (nodes_agreeing a bs)) ≡ true
    go ih true = both (nat_lt b.by.0 n) (all_below n (nodes_agreeing a bs)) (lt-ltb b.by.0 n (h b (inl refl))) ih
    go ih false = ih

-- ---- from what is stated back to the reply

pub record IsFrom (id : ReqId) (rs : List Reply) (b : Stated) : Type 0 where
  pub reply : Reply
  pub there : In reply rs
  pub stated : b ≡ stated_by reply
  pub own : reply.id ≡ id

from-more : (id : ReqId) (x : Reply) (rs : List Reply) (b : Stated) → IsFrom id rs b → IsFrom id (x ∷ rs) b
from-more id x rs b h = record { reply = h.reply; there = inr h.there; stated = h.stated; own = h.own }

pub who-stated : (id : ReqId) (rs : List Reply) (b : Stated) → In b (stated_to id rs) → IsFrom id rs b
who-stated id [] b = λ h. absurd h
who-stated id (r ∷ earlier) b = go (λ i. who-stated id earlier b i) (same_id r.id id) refl
  where
    last : In b (stated_by r ∷ []) → r.id ≡ id → IsFrom id (r ∷ earlier) b
    last (inl e) q = record { reply = r; there = inl refl; stated = e; own = q }
    last (inr h) q = absurd h

    go : (In b (stated_to id earlier) → IsFrom id earlier b) → (t : Bool) → same_id r.id id ≡ t → In b (cond t (stated_to id earlier ++ stated_by r ∷ []) (stated_to id earlier)) → IsFrom id (r ∷ earlier) b
    go ih true q h = elim (in_append b (stated_to id earlier) (stated_by r ∷ []) h) [
      | inl i ↦ from-more id r earlier b (ih i)
      | inr i ↦ last i (same_id-tells r.id id q)
    ]
    go ih false q h = from-more id r earlier b (ih h)

-- ---- a signed reply is of a node below n

within : (keys : List PublicKeyView) (i : ℕ) (s sig : List ℕ) → VerifiesBy keys i s sig → i < length keys
within keys i s sig = go (slice_get keys i) refl
  where
    go : (o : Option PublicKeyView) → slice_get keys i ≡ o → IsSomeAnd o (λ key. Verifies key.root key.height s sig) → i < length keys
    go None q h = absurd h
    go (Some key) q h = get-below keys i key q

signed-within : (s : Setup) (r : Reply) → is_signed (cluster_of s) r ≡ true → r.by.0 < s.n
signed-within s r h =
    let keys = public_keys_of reply_secret s.keys s.n in
    let lt = within keys r.by.0 _ r.sig ((verified-by keys r.by.0 _ r.sig).0 h) in
    let long : length keys ≡ s.n = length-listed (λ i. public_key (reply_secret i) s.keys) s.n in
    omega (arith, lt, long)

-- ---- what a correct node's reply says

own-answer : (s : Setup) (log : List Value) (r : Reply) → IsReplyOf s log r → IsAnswer log r.id r.q r.answer
own-answer s log r h = go (slice_get (requests_of log) r.q) refl h.made
  where
    go : (o : Option Request) → slice_get (requests_of log) r.q ≡ o → reply_to (replying s r.by.0) log r.q o ≡ Some h.own → IsAnswer log r.id r.q r.answer
    go None q e = let clash : None ≡ Some h.own → ⊥ = λ e. cc in absurd (clash e)
    go (Some x) q e =
        let told = answer_to (held_after (take r.q (requests_of log))) x.payload in
        let same = some-injective (signed_reply (replying s r.by.0) (slot_of log r.q / s.epoch) x.id r.q told) h.own e in
        record {
          request = x;
          there = q;
          own = ap (λ (y : Reply). y.id) same ∙ sym h.id;
          given = ap (λ o. answer_after (requests_of log) r.q o) q ∙ ap Some (ap (λ (y : Reply). y.answer) same ∙ sym h.answer);
        }

agree-tells : (a b : Stated) → agree a b ≡ true → (b.q ≡ a.q) × (b.answer ≡ a.answer)
agree-tells a b h =
    let one = and-true (a.epoch.0 == b.epoch.0) ((a.q == b.q) && bytes_eq a.answer b.answer) h in
    let two = and-true (a.q == b.q) (bytes_eq a.answer b.answer) one.1 in
    (sym (is-eq a.q b.q two.0), sym ((bytes_decides a.answer b.answer).0 two.1))

-- ---- an accepted answer is the log's

twice-not : (b : Bool) → not (not b) ≡ true → b ≡ true
twice-not true h = refl
twice-not false h = h

stated-below : (s : Setup) (replies : List Reply) (id : ReqId) (b : Stated) → In b (stated_to id (counted (cluster_of s) replies)) → b.by.0 < s.n
stated-below s replies id b i =
    let from = who-stated id (counted (cluster_of s) replies) b i in
    let sound = counted-sound (cluster_of s) replies from.reply from.there in
    subst (λ (x : Stated). x.by.0 < s.n) (sym from.stated) (signed-within s from.reply sound.signed)

-- a correct node gave this answer: the reply's own, or one that agrees
correct-gave : (s : Setup) (correct : ℕ → Bool) (log : List Value) (replies : List Reply) (r : Reply) → AreHonest s correct log (r ∷ replies) → is_signed (cluster_of s) r ≡ true
    → (k : ℕ) → correct k ≡ true → ((k == r.by.0) ≡ true) ⊎ (mem k (nodes_agreeing (stated_by r) (stated_to r.id (counted (cluster_of s) replies))) ≡ true) → IsAnswer log r.id r.q r.answer
correct-gave s correct log replies r honest signed k right (inl e) =
    own-answer s log r (honest.own r (inl refl) signed (ap correct (sym (is-eq k r.by.0 e)) ∙ right))
correct-gave s correct log replies r honest signed k right (inr m) =
    let cs = counted (cluster_of s) replies in
    let a = who-agrees (stated_by r) (stated_to r.id cs) k m in
    let from = who-stated r.id cs a.reply a.there in
    let x = from.reply in
    let sound = counted-sound (cluster_of s) replies x from.there in
    let by : x.by.0 ≡ k = ap (λ (b : Stated). b.by.0) (sym from.stated) ∙ a.by in
    let same = agree-tells (stated_by r) a.reply a.same in
    let q : x.q ≡ r.q = ap (λ (b : Stated). b.q) (sym from.stated) ∙ same.0 in
    let answer : x.answer ≡ r.answer = ap (λ (b : Stated). b.answer) (sym from.stated) ∙ same.1 in
    let given = own-answer s log x (honest.own x (inr sound.taken) sound.signed (ap correct by ∙ right)) in
    subst (λ i. IsAnswer log i r.q r.answer) from.own
    (subst (λ j. IsAnswer log x.id j r.answer) q
    (subst (λ (b : List ℕ). IsAnswer log x.id x.q b) answer given))

-- f others agree with a fresh reply: one of these nodes is correct
accepted-true : (s : Setup) (correct : ℕ → Bool) (log : List Value) (replies : List Reply) (r : Reply) → AreHonest s correct log (r ∷ replies)
    → IsFresh (cluster_of s) (stated_to r.id (counted (cluster_of s) replies)) r → agreeing (stated_by r) (stated_to r.id (counted (cluster_of s) replies)) ≡ s.f → IsAnswer log r.id r.q r.answer
accepted-true s correct log replies r honest f many =
    let c = cluster_of s in
    let cs = counted c replies in
    let all = stated_to r.id cs in
    let nodes = nodes_agreeing (stated_by r) all in
    let low : all_below s.n nodes ≡ true = below-agreeing s.n (stated_by r) all (λ b i. stated-below s replies r.id b i) in
    let own : all_below s.n (r.by.0 ∷ nodes) ≡ true = both (nat_lt r.by.0 s.n) (all_below s.n nodes) (lt-ltb r.by.0 s.n (signed-within s r f.signed)) low in
    let new : not (mem r.by.0 nodes) ≡ true = not-is (mem r.by.0 nodes) (not-among (stated_by r) all r.by.0 f.first) in
    let apart : distinct (r.by.0 ∷ nodes) ≡ true = both (not (mem r.by.0 nodes)) (distinct nodes) new (distinct-agreeing (stated_by r) all (one-each c replies r.id)) in
    let long = long-agreeing (stated_by r) all in
    let some = count-distinct s.n (r.by.0 ∷ nodes) own apart in
    let less = count-less (λ k. mem k (r.by.0 ∷ nodes)) (λ k. not (correct k)) s.n in
    let few = honest.few in
    let one = count-some (λ k. mem k (r.by.0 ∷ nodes) && not (not (correct k))) s.n (omega (arith, long, many, some, less, few)) in
    let parts = and-true (mem one.0 (r.by.0 ∷ nodes)) (not (not (correct one.0))) one.2 in
    correct-gave s correct log replies r honest f.signed one.0 (twice-not (correct one.0) parts.1)
    (or-cases (one.0 == r.by.0) (mem one.0 nodes) parts.0)

-- what a client accepts is the log's answer
pub believed : (s : Setup) (correct : ℕ → Bool) (log : List Value) (replies : List Reply) (r : Reply) → AreHonest s correct log (r ∷ replies) → IsBelieved log r (outcome (cluster_of s) replies r)
believed s correct log replies r honest =
    go (is_signed (cluster_of s) r) refl (is_answered s.f (stated_to r.id (counted (cluster_of s) replies)))
    (has_reply_of r.by.0 (stated_to r.id (counted (cluster_of s) replies))) refl
    (agreeing (stated_by r) (stated_to r.id (counted (cluster_of s) replies)) == s.f) refl
  where
    go : (g : Bool) → is_signed (cluster_of s) r ≡ g → (a : Bool) → (t : Bool) → has_reply_of r.by.0 (stated_to r.id (counted (cluster_of s) replies)) ≡ t
        → (n : Bool) → (agreeing (stated_by r) (stated_to r.id (counted (cluster_of s) replies)) == s.f) ≡ n
        → IsBelieved log r (cond (not g) (Refused BadReply) (cond a Late (cond t (Refused Twice) (cond n (Accepted r.q r.answer) Counted))))
    go false eg a t et n en = tt
    go true eg true t et n en = tt
    go true eg false true et n en = tt
    go true eg false false et false en = tt
    go true eg false false et true en =
        accepted-true s correct log replies r honest (record { signed = eg; first = et })
        (is-eq (agreeing (stated_by r) (stated_to r.id (counted (cluster_of s) replies))) s.f en)
