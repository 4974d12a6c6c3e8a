use Rattle.hs_tree.specs.Tree.{basic}
use Rattle.sb_hotstuff.proofs.Refinement.DraftsAgree.{shown-drafted}
use Rattle.sb_hotstuff.proofs.showing.shown_draft.Goals as goal

pub returns : goal.returns
returns c =
    shown-drafted c.args.p.now c.args.phase c.args.view c.shown_kind.result c.args.shown c.shown_body-body.result c.digest-digest.result c.in_ok-statement.statement c.shown_body-body.ensures c.digest-digest.ensures
    c.shown_kind.ensures (c.in_ok-statement.ensures basic c.args.p.now (c.in_ok-out.ensures basic c.tag-tag.ensures))
