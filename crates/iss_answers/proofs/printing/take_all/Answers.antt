use Rattle.std.proofs.Common.{◌<◌, ◌∙◌, ap, arith, length, reverse, subst, sym, take}
use Rattle.iss_reply.specs.Clients.{Cluster, HasTaken, outcome}
use Rattle.iss_answers.proofs.WrittenLemmas.{line-more, newest-first}
use Rattle.iss_answers.proofs.printing.take_all.Goals as goal

pub loop-place-preserved : goal.loop-place-preserved
loop-place-preserved c =
    let rs = c.args.replies.now in
    let k = c.loop-place.place in
    let r = c.index-replies-place.result in
    let lt : k < length rs = omega (arith, c.loop-place-test.true) in
    let earlier = reverse (take k rs) in
    let same = c.in_ok-taken.ensures.taken earlier c.loop-place.invariant.taken in
    record {
      text = line-more c.args.client.now.cluster rs k r c.in_ok-taken.taken c.args.out.now.items c.loop-place.out.items c.put_taken.new.out.items lt c.index-replies-place.is c.loop-place.invariant.text
          (same ∙ ap (λ (x : Cluster). outcome x earlier r) c.loop-place.invariant.cluster) c.in_ok-put_taken.ensures;
      taken = subst (HasTaken c.take.new.self) (sym (newest-first rs k r lt c.index-replies-place.is)) (c.in_ok-taken.ensures.after earlier c.loop-place.invariant.taken);
      cluster = c.take.ensures.cluster ∙ c.loop-place.invariant.cluster;
    }
