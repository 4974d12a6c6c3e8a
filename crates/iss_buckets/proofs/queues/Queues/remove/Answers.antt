use Rattle.std.proofs.Common.{◌<◌, subst, false, ℕ, length, map, slice_set, arith, rules, ◌≡◌}
use Rattle.iss_buckets.specs.Internal.Filed.{IsSetAt}
use Rattle.iss_buckets.proofs.QueueLemmas.{place-in, set-in}
use Rattle.iss_buckets.proofs.queues.Queues.remove.Goals as goal

pub returns : goal.returns
returns c =
    let sets = c.self.inside.all.items in
    let size : length sets ≡ c.len-count.result = search rules in
    let inside : c.bucket_of.result < length sets = omega (arith, c.bucket_of.ensures.below, size) in
    subst (λ (b : ℕ). IsSetAt c.args.self.now (map (λ s. s.keys) (slice_set sets c.bucket_of.result c.remove.new.self)) b c.args.number false)
    (place-in sets c.args.self.now c.len-count.result c.bucket_of.result c.args.id c.self.view_is size c.bucket_of.ensures.value)
    (set-in sets c.args.self.now c.bucket_of.result c.args.number c.index_mut.result.now c.remove.new.self false
    c.self.view_is inside c.index_mut.ensures.value c.remove.ensures.updates.0)
