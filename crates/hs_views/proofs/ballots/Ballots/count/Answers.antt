use Rattle.std.proofs.Common.{◌≡◌, ◌∙◌, arith}
use Rattle.hs_views.specs.Counts.{count_at}
use Rattle.hs_views.proofs.CountsAgree.{count-is}
use Rattle.hs_views.proofs.ballots.Ballots.count.Goals as goal

pub returns : goal.returns
returns c vs h =
    let end = c.loop-by-test.false in
    let most = c.loop-by.auto.by-end in
    let all : c.loop-by.by ≡ c.args.n = omega (arith, end, most) in
    c.loop-by.invariant.0 ∙ (λ i. count_at c.args.self.now (all i) c.args.poll.now.phase c.args.poll.now.view c.args.poll.now.digest) ∙ count-is c.args.self.now vs c.args.n c.args.poll.now.phase c.args.poll.now.view c.args.poll.now.digest h
