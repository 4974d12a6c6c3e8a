use Rattle.std.proofs.Common.{◌≡◌, ◌∙◌, sym, arith, Some, true, false}
use Rattle.iss_request.specs.Log.{has_id}
use Rattle.iss_request.proofs.Identities.{any-has_id}
use Rattle.iss_buckets.specs.Internal.Filed.{kept_at}
use Rattle.iss_buckets.proofs.QueueLemmas.{NextNumber, found-next, marked-on, none-next}
use Rattle.iss_buckets.proofs.pending.Filed.next_unmarked.Goals as goal

pub returns-then-not-contains : goal.returns-then-not-contains
returns-then-not-contains c =
    let next : NextNumber c.args.self.now.queues c.args.bucket c.run.at c.in-Some.number = record { on = c.in-Some.ensures.some.0; there = c.in-Some.ensures.some.1; least = c.in-Some.ensures.some.2 } in
    let kept : kept_at c.args.self.now.shelf c.in-Some.number ≡ Some c.in-Some-get.request.now = sym c.in-Some-get.ensures.value in
    let free : has_id c.in-Some-get.request.now.id c.args.marks.now.keys ≡ false = sym (any-has_id c.in-Some-get.request.now.id c.args.marks.now.keys) ∙ sym c.contains.ensures ∙ c.if-not-contains.true in
    found-next c.args.self.now.shelf c.args.self.now.queues c.args.bucket c.args.from c.run.at c.in-Some.number c.args.marks.now.keys c.in-Some-get.request.now c.args.self.now.queued c.requires c.run.invariant.on c.run.invariant.fail next kept free

pub run-preserved : goal.run-preserved
run-preserved c =
    let next : NextNumber c.args.self.now.queues c.args.bucket c.run.at c.in-Some.number = record { on = c.in-Some.ensures.some.0; there = c.in-Some.ensures.some.1; least = c.in-Some.ensures.some.2 } in
    let kept : kept_at c.args.self.now.shelf c.in-Some.number ≡ Some c.in-Some-get.request.now = sym c.in-Some-get.ensures.value in
    let mark : has_id c.in-Some-get.request.now.id c.args.marks.now.keys ≡ true = sym (any-has_id c.in-Some-get.request.now.id c.args.marks.now.keys) ∙ sym c.contains.ensures ∙ c.if-not-contains.false in
    record {
      on = omega (arith, c.run.invariant.on, next.on);
      fail = marked-on c.args.self.now.shelf c.args.self.now.queues c.args.bucket c.args.from c.run.at c.in-Some.number c.args.marks.now.keys c.in-Some-get.request.now c.args.self.now.queued c.requires c.run.invariant.fail next kept mark;
    }

pub returns : goal.returns
returns c = none-next c.args.self.now.shelf c.args.self.now.queues c.args.bucket c.args.from c.run.at c.args.marks.now.keys c.args.self.now.queued c.requires c.run.invariant.fail c.in_default.ensures.none
