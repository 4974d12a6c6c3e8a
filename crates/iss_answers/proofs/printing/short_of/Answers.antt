use Rattle.std.proofs.Common.{◌<◌, ◌≤◌, List, arith, length, reverse, subst, take}
use Rattle.std.proofs.lemmas.List.{take_all}
use Rattle.iss_reply.specs.declared.replies.Reply.{Reply}
use Rattle.iss_answers.specs.Internal.Short.{IsLeastOf}
use Rattle.iss_answers.proofs.ShortLemmas.{least-is-short, least-more}
use Rattle.iss_answers.proofs.WrittenLemmas.{seen-more}
use Rattle.iss_answers.proofs.printing.short_of.Goals as goal

pub loop-reply-preserved : goal.loop-reply-preserved
loop-reply-preserved c =
    let rs = c.args.replies.now in
    let k = c.loop-reply.reply-index in
    let r = c.reply-item.result in
    let lt : k < length rs = omega (arith, c.loop-reply-test.true) in
    least-more c.args.client.now.cluster (reverse rs) (take k rs) _ r c.loop-reply.least c.with_open-least.result c.loop-reply.invariant (seen-more rs k r lt c.reply-item.is)
    (c.with_open-least.ensures (reverse rs) c.requires)

pub returns : goal.returns
returns c =
    let rs = c.args.replies.now in
    let le : length rs ≤ c.loop-reply.reply-index = omega (arith, c.loop-reply-test.false) in
    least-is-short c.args.client.now.cluster rs c.loop-reply.least
    (subst (λ (l : List Reply). IsLeastOf c.args.client.now.cluster (reverse rs) l c.loop-reply.least) (take_all c.loop-reply.reply-index rs le) c.loop-reply.invariant)
