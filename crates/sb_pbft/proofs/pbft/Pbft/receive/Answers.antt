use Rattle.sb_pbft.proofs.Refinement.CallsRefine.{by-body}
use Rattle.sb_pbft.proofs.pbft.Pbft.receive.Goals as goal

pub returns-in_ok-take_proposal-in-PrePrepare : goal.returns-in_ok-take_proposal-in-PrePrepare
returns-in_ok-take_proposal-in-PrePrepare c = by-body _ _ _ _ c.args.msg _ _ _ _ c.in-PrePrepare.is (rw c.of-offer.ensures at c.in_ok-take_proposal-in-PrePrepare.ensures)

pub returns-in_ok-take_prepare-in-Prepare : goal.returns-in_ok-take_prepare-in-Prepare
returns-in_ok-take_prepare-in-Prepare c = by-body _ _ _ _ c.args.msg _ _ _ _ c.in-Prepare.is (rw c.of-vote.ensures at c.in_ok-take_prepare-in-Prepare.ensures)

pub returns-in_ok-take_commit-in-Commit : goal.returns-in_ok-take_commit-in-Commit
returns-in_ok-take_commit-in-Commit c = by-body _ _ _ _ c.args.msg _ _ _ _ c.in-Commit.is (rw c.of-vote-in-Commit.ensures at c.in_ok-take_commit-in-Commit.ensures)

pub returns-in_ok-take_change-in-ViewChange : goal.returns-in_ok-take_change-in-ViewChange
returns-in_ok-take_change-in-ViewChange c = by-body _ _ _ _ c.args.msg _ _ _ _ c.in-ViewChange.is (rw c.change_of-change.ensures at c.in_ok-take_change-in-ViewChange.ensures)

pub returns-in_ok-take_new_view-in-NewView : goal.returns-in_ok-take_new_view-in-NewView
returns-in_ok-take_new_view-in-NewView c = by-body _ _ _ _ c.args.msg _ _ _ _ c.in-NewView.is (rw c.of-new.ensures at (c.in_ok-take_new_view-in-NewView.ensures c.args.msg.sig))
