use Rattle.hs_tree.specs.Protocols.{form_of}
use Rattle.hs_views.proofs.DraftsAgree.{vote-drafted}
use Rattle.hs_views.proofs.drafts.vote_draft.Goals as goal

pub returns : goal.returns
returns c =
    let form = form_of c.args.protocol in
    vote-drafted form c.args.p.now c.args.poll.phase c.args.poll.view c.round_of-round.result c.args.poll.digest c.in_ok-statement.statement c.round_of-round.ensures
    (c.in_ok-statement.ensures form c.args.p.now (c.in_ok-out.ensures form c.tag-tag.ensures))
