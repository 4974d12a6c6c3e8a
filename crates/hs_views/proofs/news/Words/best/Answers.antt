use Rattle.std.proofs.Common.{◌≡◌, ◌∙◌, arith}
use Rattle.hs_views.specs.Counts.{best_at}
use Rattle.hs_views.proofs.CountsAgree.{best-is}
use Rattle.hs_views.proofs.news.Words.best.Goals as goal

pub returns : goal.returns
returns c ws h =
    let end = c.loop-by-test.false in
    let most = c.loop-by.auto.by-end in
    let all : c.loop-by.by ≡ c.args.n = omega (arith, end, most) in
    c.loop-by.invariant ∙ (λ i. best_at c.args.self.now (all i) c.args.round) ∙ best-is c.args.self.now ws c.args.n c.args.round h
