use Rattle.std.proofs.Common.{◌≡◌, ◌∙◌, arith}
use Rattle.hs_views.specs.Counts.{words_at}
use Rattle.hs_views.proofs.CountsAgree.{words-are}
use Rattle.hs_views.proofs.news.Words.count.Goals as goal

pub returns : goal.returns
returns c ws h =
    let end = c.loop-by-test.false in
    let most = c.loop-by.auto.by-end in
    let all : c.loop-by.by ≡ c.args.n = omega (arith, end, most) in
    c.loop-by.invariant.0 ∙ (λ i. words_at c.args.self.now (all i) c.args.round) ∙ words-are c.args.self.now ws c.args.n c.args.round h
