use Rattle.hs_tree.specs.Protocols.{form_of}
use Rattle.hs_views.proofs.DraftsAgree.{proposal-drafted}
use Rattle.hs_views.proofs.drafts.proposal_draft.Goals as goal

pub returns : goal.returns
returns c is =
    let form = form_of c.args.protocol in
    let a = c.args.proposal in
    proposal-drafted form c.args.p.now a.view a.what a.just c.args.digest.now c.in_ok-statement.statement is (c.in_ok-statement.ensures form c.args.p.now (c.in_ok-out.ensures form c.tag-tag.ensures))
