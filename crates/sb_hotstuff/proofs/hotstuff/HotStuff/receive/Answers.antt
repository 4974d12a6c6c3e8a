use Rattle.std.proofs.Common.{refl}
use Rattle.std.proofs.lemmas.Result.{IfOk-weaker}
use Rattle.iss_sb.specs.declared.effects.Input.TheVariants.{Receive}
use Rattle.hs_tree.specs.declared.messages.Body.TheVariants.{NewView, PreCommit, Commit, Vote}
use Rattle.hs_tree.specs.Messages.{signed}
use Rattle.sb_hotstuff.proofs.Refinement.StepEffectsAgree.{by-body, rule-takes}
use Rattle.sb_hotstuff.proofs.hotstuff.HotStuff.receive.Goals as goal

pub returns-in_ok-outcome-in-NewView : goal.returns-in_ok-outcome-in-NewView
returns-in_ok-outcome-in-NewView c =
    by-body _ _ _ _ c.args.msg _ _ c.in-NewView.is (rule-takes c.args.context.now.p.now c.args.self.now c.count_new_view.new.self (Receive c.args.from (signed (NewView c.in-NewView.round c.in-NewView.high) c.args.msg.sig)) c.in_ok-outcome-in-NewView.outcome _ c.of.ensures
    (λ s h. c.in_ok-outcome-in-NewView.ensures s c.args.msg.sig h) (λ s old h. refl) (λ s k. refl))

pub returns-in-Prepare : goal.returns-in-Prepare
returns-in-Prepare c = IfOk-weaker c.accept_proposal.result _ _ (λ t h. by-body _ _ _ _ c.args.msg _ t c.in-Prepare.is (h c.args.msg.sig)) c.accept_proposal.ensures

pub returns-in_ok-outcome-in-PreCommit : goal.returns-in_ok-outcome-in-PreCommit
returns-in_ok-outcome-in-PreCommit c =
    by-body _ _ _ _ c.args.msg _ _ c.in-PreCommit.is (rule-takes c.args.context.now.p.now c.args.self.now c.vote_pre_commit.new.self (Receive c.args.from (signed (PreCommit c.in-PreCommit.view c.in-PreCommit.shown) c.args.msg.sig)) c.in_ok-outcome-in-PreCommit.outcome _ c.of-in-PreCommit.ensures
    (λ s h. c.in_ok-outcome-in-PreCommit.ensures s c.args.from c.args.msg.sig h) (λ s old h. refl) (λ s k. refl))

pub returns-in_ok-outcome-in-Commit : goal.returns-in_ok-outcome-in-Commit
returns-in_ok-outcome-in-Commit c =
    by-body _ _ _ _ c.args.msg _ _ c.in-Commit.is (rule-takes c.args.context.now.p.now c.args.self.now c.vote_commit.new.self (Receive c.args.from (signed (Commit c.in-Commit.view c.in-Commit.shown) c.args.msg.sig)) c.in_ok-outcome-in-Commit.outcome _ c.of-in-Commit.ensures
    (λ s h. c.in_ok-outcome-in-Commit.ensures s c.args.from c.args.msg.sig h) (λ s old h. refl) (λ s k. refl))

pub returns-in-Decide : goal.returns-in-Decide
returns-in-Decide c = IfOk-weaker c.deliver.result _ _ (λ t h. by-body _ _ _ _ c.args.msg _ t c.in-Decide.is (h c.args.from c.args.msg.sig)) c.deliver.ensures

pub returns-in_ok-outcome-in-Vote : goal.returns-in_ok-outcome-in-Vote
returns-in_ok-outcome-in-Vote c =
    by-body _ _ _ _ c.args.msg _ _ c.in-Vote.is (rule-takes c.args.context.now.p.now c.args.self.now c.count_vote.new.self (Receive c.args.from (signed (Vote c.in-Vote.phase c.in-Vote.view c.in-Vote.digest) c.args.msg.sig)) c.in_ok-outcome-in-Vote.outcome _ c.of-in-Vote.ensures
    (λ s h. c.in_ok-outcome-in-Vote.ensures s h) (λ s old h. refl) (λ s k. refl))
