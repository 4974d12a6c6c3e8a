use Rattle.hs_tree.specs.Protocols.{form_of}
use Rattle.hs_views.proofs.DraftsAgree.{round-drafted}
use Rattle.hs_views.proofs.drafts.round_draft.Goals as goal

pub returns : goal.returns
returns c =
    let form = form_of c.args.protocol in
    round-drafted form c.args.p.now c.args.round c.view.result c.args.high c.in_ok-statement.statement c.view.ensures
    (c.in_ok-statement.ensures form c.args.p.now (c.in_ok-out.ensures form c.tag-tag.ensures))
