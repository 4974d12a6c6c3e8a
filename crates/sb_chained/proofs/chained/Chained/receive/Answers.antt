use Rattle.std.proofs.lemmas.Result.{IfOk-weaker}
use Rattle.sb_chained.proofs.Refinement.MessagesRefine.{by-body, unheard-commit, unheard-decide, unheard-pre}
use Rattle.sb_chained.proofs.chained.Chained.receive.Goals as goal

pub returns-in-NewView : goal.returns-in-NewView
returns-in-NewView c = IfOk-weaker c.new_view.result _ _ (λ t h. by-body _ _ _ _ c.args.msg _ t c.in-NewView.is (h c.args.msg.sig)) c.new_view.ensures

pub returns-in-Prepare : goal.returns-in-Prepare
returns-in-Prepare c = IfOk-weaker c.prepare.result _ _ (λ t h. by-body _ _ _ _ c.args.msg _ t c.in-Prepare.is (h c.args.msg.sig)) c.prepare.ensures

pub returns-in-Vote : goal.returns-in-Vote
returns-in-Vote c = IfOk-weaker c.vote.result _ _ (λ t h. by-body _ _ _ _ c.args.msg _ t c.in-Vote.is h) c.vote.ensures

pub returns-in-PreCommit : goal.returns-in-PreCommit
returns-in-PreCommit c = by-body _ _ _ _ c.args.msg _ _ c.in-PreCommit.is (unheard-pre c.args.context.now.p.now c.args.self.now c.of.result c.nothing.result c.of.ensures c.nothing.ensures c.args.from c.in-PreCommit.view c.in-PreCommit.shown c.args.msg.sig)

pub returns-in-Commit : goal.returns-in-Commit
returns-in-Commit c = by-body _ _ _ _ c.args.msg _ _ c.in-Commit.is (unheard-commit c.args.context.now.p.now c.args.self.now c.of-in-Commit.result c.nothing-in-Commit.result c.of-in-Commit.ensures c.nothing-in-Commit.ensures c.args.from c.in-Commit.view c.in-Commit.shown c.args.msg.sig)

pub returns-in-Decide : goal.returns-in-Decide
returns-in-Decide c = by-body _ _ _ _ c.args.msg _ _ c.in-Decide.is (unheard-decide c.args.context.now.p.now c.args.self.now c.of-in-Decide.result c.nothing-in-Decide.result c.of-in-Decide.ensures c.nothing-in-Decide.ensures c.args.from c.in-Decide.view c.in-Decide.shown c.args.msg.sig)
