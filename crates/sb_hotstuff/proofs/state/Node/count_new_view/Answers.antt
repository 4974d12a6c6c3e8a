use Rattle.std.proofs.Common.{refl}
use Rattle.std.proofs.lemmas.Result.{IfOk-weaker}
use Rattle.sb_hotstuff.proofs.Refinement.InputRefines.{news-led}
use Rattle.sb_hotstuff.proofs.state.Node.count_new_view.Goals as goal

pub returns : goal.returns
returns c =
    let m = c.args.self.now in
    IfOk-weaker c.first.result _ _ (λ o d s sig h. news-led c.args.context.now.p.now m s h c.args.from.0 c.args.round c.args.from c.args.high sig c.first.new.self o c.keeps_news.result c.keep.new.self refl (c.keeps_news.ensures s h)
    c.if-not-keeps_news.false (c.in_ok-keep.ensures (record { by = c.args.from.0; round = c.args.round; high = c.args.high }) s.news refl h.news) d) c.first.ensures
