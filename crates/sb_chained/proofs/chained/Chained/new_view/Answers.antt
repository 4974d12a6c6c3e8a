use Rattle.std.proofs.Common.{refl, sym, ◌∙◌}
use Rattle.sb_chained.specs.declared.chained.Chained.{Chained}
use Rattle.sb_chained.specs.declared.state.Node.{Node}
use Rattle.sb_chained.proofs.Refinement.MessagesRefine.{kept-word, reached-word}
use Rattle.sb_chained.proofs.Refinement.InputRefines.{word-kept}
use Rattle.sb_chained.proofs.chained.Chained.new_view.Goals as goal

pub returns-in_default : goal.returns-in_default
returns-in_default c sig =
    let p = c.args.context.now.p.now in
    let m = c.args.self.now in
    let node : Node = record m.node { news = c.keep.new.self } in
    let mid : Chained = record m { node = node } in
    kept-word p c.args.from c.args.round c.args.high sig m mid (λ s h. sym (c.keeps_news.ensures s h) ∙ c.if-not-keeps_news.false) refl refl refl
    (λ s h. word-kept p m.node s h c.args.from.0 c.args.round c.args.high c.keep.new.self (c.in_ok-keep.ensures _ s.news refl h.news))
    c.in_ok-best.field-0 (λ k h. c.in_ok-best.ensures k h) c.of-in_default.result c.nothing-in_default.result c.of-in_default.ensures c.nothing-in_default.ensures c.in_default.is

pub returns : goal.returns
returns c sig =
    let p = c.args.context.now.p.now in
    let m = c.args.self.now in
    let node : Node = record m.node { news = c.keep.new.self } in
    let mid : Chained = record m { node = node } in
    let shown = c.show.new.self in
    let last : Chained = record shown { node = c.first.new.self } in
    reached-word p c.args.from c.args.round c.args.high sig m mid (λ s h. sym (c.keeps_news.ensures s h) ∙ c.if-not-keeps_news.false) refl refl refl
    (λ s h. word-kept p m.node s h c.args.from.0 c.args.round c.args.high c.keep.new.self (c.in_ok-keep.ensures _ s.news refl h.news))
    c.in_ok-best.field-0 (λ k h. c.in_ok-best.ensures k h) shown last c.in_ok-outcome.outcome c.in-Some.best c.in_ok-just.just c.in_ok-delivers.delivers c.in-Some.is c.in_ok-just.ensures
    c.in_ok-delivers.ensures.inside (λ k h. c.in_ok-delivers.ensures.shown k h) c.in_ok-delivers.ensures.accepted refl refl (λ k h. c.in_ok-outcome.ensures k h)
