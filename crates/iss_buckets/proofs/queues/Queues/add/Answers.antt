use Rattle.std.proofs.Common.{◌<◌, ◌∙◌, ap, subst, true, ℕ, length, map, slice_set, arith, rules, ◌≡◌}
use Rattle.std.specs.BTreeSet.{BTreeSet}
use Rattle.std.proofs.Math.Seq.{map-set_same}
use Rattle.iss_buckets.specs.Internal.Filed.{IsSetAt}
use Rattle.iss_buckets.proofs.QueueLemmas.{place-in, set-in}
use Rattle.iss_buckets.proofs.ShelfLemmas.{on_err}
use Rattle.iss_buckets.proofs.queues.Queues.add.Goals as goal

pub returns-clause-ok : goal.returns-clause-ok
returns-clause-ok c =
    let sets = c.self.inside.all.items in
    let size : length sets ≡ c.len-count.result = search rules in
    let inside : c.bucket_of.result < length sets = omega (arith, c.bucket_of.ensures.below, size) in
    subst (λ (b : ℕ). IsSetAt c.args.self.now (map (λ s. s.keys) (slice_set sets c.bucket_of.result c.insert.new.self)) b c.args.number true)
    (place-in sets c.args.self.now c.len-count.result c.bucket_of.result c.args.id c.self.view_is size c.bucket_of.ensures.value)
    (set-in sets c.args.self.now c.bucket_of.result c.args.number c.index_mut.result.now c.insert.new.self true
    c.self.view_is inside c.index_mut.ensures.value c.in_ok-insert.ensures.updates.0)

pub returns-in_err-insert-clause-err : goal.returns-in_err-insert-clause-err
returns-in_err-insert-clause-err c =
    let keys = λ (s : BTreeSet ℕ). s.keys in
    let same = c.in_err-insert.ensures.err ∙ ap keys c.index_mut.ensures.value in
    on_err c.from_residual.result (map-set_same keys c.self.inside.all.items c.bucket_of.result c.insert.new.self c.index_mut.result.now same ∙ c.self.view_is)
