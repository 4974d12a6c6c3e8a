use Rattle.std.proofs.Common.{◌≡◌, ⊎_elim, sym, subst, List, [], None, ℕ, length, true}
use Rattle.iss_request.specs.declared.requests.Request.{Request}
use Rattle.iss_buckets.specs.Internal.Filed.{AreFiled, AreQueued, IsSetAt, bucket_of_id, kept_at}
use Rattle.iss_buckets.proofs.FiledLemmas.{unknown}
use Rattle.iss_buckets.proofs.QueueLemmas.{queued_more, queued_none}
use Rattle.iss_buckets.proofs.ShelfLemmas.{not_done}
use Rattle.iss_buckets.proofs.pending.Filed.file.Goals as goal

pub push-requires : goal.push-requires
push-requires c = unknown c.args.self.now.shelf c.args.request.id c.requires

pub invariant_of-self-2-clause-queued : goal.invariant_of-self-2-clause-queued
invariant_of-self-2-clause-queued c =
    let k = c.in_ok-number.number in
    let q = c.args.request in
    let now = c.in_ok-number.ensures.ok in
    let new : kept_at c.args.self.now.shelf k ≡ None = not_done 0 c.args.self.now.shelf k q [] (subst (λ (es : List (ℕ × Request)). AreFiled 0 es) now c.in_ok-number.ensures.filed) in
    ⊎_elim
    (λ (e : c.note.new.queues ≡ []). subst (λ (qs : List (List ℕ)). AreQueued c.push.new.self qs) (sym e) (queued_none c.push.new.self))
    (λ (set : IsSetAt c.args.self.now.queues c.note.new.queues (bucket_of_id (length c.args.self.now.queues) q.id) k true).
    subst (λ (es : List (ℕ × Request)). AreQueued es c.note.new.queues) (sym now) (queued_more c.args.self.now.shelf c.args.self.now.queues c.note.new.queues k q c.args.self.now.queued new set))
    c.note.ensures
