use Rattle.std.proofs.Common.{◌≡◌, ◌∙◌, arith}
use Rattle.hs_views.specs.Counts.{votes_at}
use Rattle.hs_views.proofs.CountsAgree.{votes-are}
use Rattle.hs_views.proofs.ballots.Ballots.votes.Goals as goal

pub returns : goal.returns
returns c vs h =
    let end = c.loop-by-test.false in
    let most = c.loop-by.auto.by-end in
    let all : c.loop-by.by ≡ c.args.n = omega (arith, end, most) in
    c.loop-by.invariant ∙ (λ i. votes_at c.args.self.now (all i) c.args.poll.now.phase c.args.poll.now.view c.args.poll.now.digest) ∙ votes-are c.args.self.now vs c.args.n c.args.poll.now.phase c.args.poll.now.view c.args.poll.now.digest h
