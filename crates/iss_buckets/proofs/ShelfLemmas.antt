-- A shelf when a request is added or removed.
use Rattle.std.proofs.Common.{◌≡◌, ℕ, suc, ◌+◌, ◌^◌, ◌<◌, ◌≤◌, true, false, cond, List, [], ◌∷◌, ◌++◌, length, refl, sym, ap, ◌∙◌, subst, arith, Option, Some, None, Result, Ok, Err, OnOk, OnErr, is_ok, append_assoc}
use Rattle.std.proofs.lemmas.List.{append-nil}
use Rattle.std.specs.BTreeMap.{insert_entry}
use Rattle.std.specs.Map.{lookup}
use Rattle.std.specs.Ordering.{nat_cmp}
use Rattle.iss_request.specs.Log.{ids, same_id}
use Rattle.iss_request.specs.declared.ids.ReqId.{ReqId}
use Rattle.iss_request.specs.declared.requests.Request.{Request}
use Rattle.iss_buckets.specs.Internal.Filed.{AreFiled, AreQueued, IsSetAt, bucket_of_id, has_number, kept_at, number_of}
use Rattle.iss_buckets.specs.Internal.Shelves.{IsShelf}
use Rattle.iss_buckets.proofs.FiledLemmas.{below_less, below_more, filed_less, filed_more, insert_last, kept_later, known_less, known_more, without}
use Rattle.iss_buckets.proofs.QueueLemmas.{queued_more}

pub shelf_same : (next : ℕ) (es new : List (ℕ × Request)) (ns later : List (ReqId × ℕ)) → IsShelf next es ns → new ≡ es → ((id : ReqId) → lookup (λ x. same_id id x) later ≡ lookup (λ x. same_id id x) ns) → IsShelf next new later
shelf_same next es new ns later h e same = subst (λ (xs : List (ℕ × Request)). IsShelf next xs later) (sym e) (record { filed = h.filed; small = h.small; below = h.below; known = λ id. same id ∙ h.known id })

pub shelf_more : (next : ℕ) (es new : List (ℕ × Request)) (ns later : List (ReqId × ℕ)) (q : Request) → IsShelf next es ns → next + 1 < 2 ^ 64 → number_of es q.id ≡ None → new ≡ insert_entry nat_cmp es next q
    → ((id : ReqId) → lookup (λ x. same_id id x) later ≡ cond (same_id q.id id) (Some next) (lookup (λ x. same_id id x) ns)) → IsShelf (next + 1) new later
shelf_more next es new ns later q h small none e known =
    subst (λ (xs : List (ℕ × Request)). IsShelf (next + 1) xs later) (sym (e ∙ insert_last 0 es next q h.filed h.below)) (record {
      filed = filed_more 0 es next q h.filed h.below (omega arith) none;
      small = small;
      below = below_more es next q h.below;
      known = λ id. known id ∙ ap (λ (o : Option ℕ). cond (same_id q.id id) (Some next) o) (h.known id) ∙ known_more es next q id none;
    })

pub shelf_less : (next : ℕ) (es : List (ℕ × Request)) (ns later : List (ReqId × ℕ)) (n : ℕ) (q : Request) → IsShelf next es ns → kept_at es n ≡ Some q
    → ((id : ReqId) → lookup (λ x. same_id id x) later ≡ cond (same_id q.id id) None (lookup (λ x. same_id id x) ns)) → IsShelf next (without n es) later
shelf_less next es ns later n q h is known = record {
  filed = filed_less 0 es n h.filed;
  small = h.small;
  below = below_less 0 es n next h.filed h.below;
  known = λ id. known id ∙ ap (λ (o : Option ℕ). cond (same_id q.id id) None o) (h.known id) ∙ known_less 0 es n q id h.filed is;
}

-- ---- all requests, one by one

filed_at : (from : ℕ) (done : List (ℕ × Request)) (k : ℕ) (q : Request) (rest : List (ℕ × Request)) → AreFiled from (done ++ (k, q) ∷ rest) → from ≤ k
filed_at from [] k q rest h = h.0
filed_at from (e ∷ done) k q rest h = let low = h.0 in let more = filed_at (suc e.0) done k q rest h.2 in omega (arith, low, more)

pub not_done : (from : ℕ) (done : List (ℕ × Request)) (k : ℕ) (q : Request) (rest : List (ℕ × Request)) → AreFiled from (done ++ (k, q) ∷ rest) → kept_at done k ≡ None
not_done from [] k q rest h = refl
not_done from (e ∷ done) k q rest h =
    let up = filed_at (suc e.0) done k q rest h.2 in
    kept_later e done k (λ is. omega (arith, is, up)) ∙ not_done (suc e.0) done k q rest h.2

pub record Filing (es left : List (ℕ × Request)) (queues : List (List ℕ)) : Type 0 where
  pub done : List (ℕ × Request)
  pub whole : done ++ left ≡ es
  pub queued : AreQueued done queues

pub filing_none : (es : List (ℕ × Request)) (queues : List (List ℕ)) → ((b k : ℕ) → has_number queues b k ≡ false) → Filing es es queues
filing_none es queues none = record { done = []; whole = refl; queued = λ b k lt. none b k }

pub filing_more : (es rest : List (ℕ × Request)) (k : ℕ) (q : Request) (old new : List (List ℕ)) → AreFiled 0 es → Filing es ((k, q) ∷ rest) old → IsSetAt old new (bucket_of_id (length old) q.id) k true → Filing es rest new
filing_more es rest k q old new h f set = record {
  done = f.done ++ (k, q) ∷ [];
  whole = append_assoc f.done ((k, q) ∷ []) rest ∙ f.whole;
  queued = queued_more f.done old new k q f.queued (not_done 0 f.done k q rest (subst (λ (xs : List (ℕ × Request)). AreFiled 0 xs) (sym f.whole) h)) set;
}

pub filing_end : (es : List (ℕ × Request)) (queues : List (List ℕ)) → Filing es [] queues → AreQueued es queues
filing_end es queues f = subst (λ (xs : List (ℕ × Request)). AreQueued xs queues) (sym (append-nil f.done) ∙ f.whole) f.queued

pub ids_next : (found : List ReqId) (q : Request) (rest all : List Request) → found ++ ids (q ∷ rest) ≡ ids all → (found ++ q.id ∷ []) ++ ids rest ≡ ids all
ids_next found q rest all h = append_assoc found (q.id ∷ []) (ids rest) ∙ h

-- ---- results

pub from_ok : {X E P : Type 0} (r : Result X E) → is_ok r ≡ true → OnOk r P → P
from_ok (Ok x) h p = p
from_ok (Err e) h p = absurd (cc)

pub on_err : {X E P : Type 0} (r : Result X E) → P → OnErr r P
on_err (Ok x) p = tt
on_err (Err e) p = p
