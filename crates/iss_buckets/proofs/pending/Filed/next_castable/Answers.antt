use Rattle.std.proofs.Common.{◌≡◌, ◌≤◌, ◌+◌, ◌∙◌, sym, subst, arith, ℕ, Option}
use Rattle.iss_buckets.specs.Internal.Filed.{IsNext, is_unmarked_in}
use Rattle.iss_buckets.proofs.NextLemmas.{all_below, castable_below, none_below, other_bucket, own_bucket}
use Rattle.iss_buckets.proofs.pending.Filed.next_castable.Goals.{then-eq, else-eq}
use Rattle.iss_buckets.proofs.pending.Filed.next_castable.Goals as goal

pub loop-bucket-init : goal.loop-bucket-init
loop-bucket-init c = none_below c.args.turn.now.layout.now c.args.turn.now.owner.0 c.args.turn.now.marks.now.keys c.args.self.now.shelf c.args.from

pub loop-bucket-preserved : goal.loop-bucket-preserved
loop-bucket-preserved c =
    let p = c.args.turn.now.layout.now in
    let marks = c.args.turn.now.marks.now.keys in
    let i = c.loop-bucket.bucket in
    elim c.if-eq.branch [
      | then-eq w ↦
          let found : IsNext (is_unmarked_in p.buckets i marks) c.args.self.now.shelf c.args.from w.next_unmarked.result =
          subst (λ (n : ℕ). IsNext (is_unmarked_in n i marks) c.args.self.now.shelf c.args.from w.next_unmarked.result) c.requires w.next_unmarked.ensures
          in
          subst (λ (o : Option ℕ). IsNext (castable_below p c.args.turn.now.owner.0 marks (i + 1)) c.args.self.now.shelf c.args.from o) (sym (w.first-is ∙ w.least-first.ensures))
          (own_bucket p c.args.turn.now.owner.0 marks c.args.self.now.shelf c.args.from i c.owner_of.result c.loop-bucket.first w.next_unmarked.result c.owner_of.ensures (sym c.eq.ensures ∙ w.if-eq.true) c.loop-bucket.invariant found)
      | else-eq w ↦
          subst (λ (o : Option ℕ). IsNext (castable_below p c.args.turn.now.owner.0 marks (i + 1)) c.args.self.now.shelf c.args.from o) (sym w.first-is)
          (other_bucket p c.args.turn.now.owner.0 marks c.args.self.now.shelf c.args.from i c.owner_of.result c.loop-bucket.first c.owner_of.ensures (sym c.eq.ensures ∙ w.if-eq.false) c.loop-bucket.invariant)
    ]

pub returns : goal.returns
returns c =
    let at : c.loop-bucket.bucket ≡ c.args.turn.now.layout.now.buckets = omega (arith, c.loop-bucket.auto.bucket-end, c.loop-bucket-test.false, c.buckets-bucket-end.ensures.value) in
    let some : 1 ≤ c.args.turn.now.layout.now.buckets = omega (arith, c.buckets-bucket-end.ensures.value, c.buckets-bucket-end.ensures.some) in
    all_below c.args.turn.now.layout.now c.args.turn.now.owner.0 c.args.turn.now.marks.now.keys c.args.self.now.shelf c.args.from c.loop-bucket.bucket c.loop-bucket.first some at c.loop-bucket.invariant
