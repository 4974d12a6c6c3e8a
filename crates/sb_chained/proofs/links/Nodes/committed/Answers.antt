use Rattle.std.proofs.Common.{sym, ◌∙◌, Some}
use Rattle.sb_chained.specs.Rules.{down, find}
use Rattle.sb_chained.proofs.Refinement.LinksAgree.{committed-digest, linked-some}
use Rattle.sb_chained.proofs.links.Nodes.committed.Goals as goal

pub returns : goal.returns
returns c ks h =
    let d = c.args.d.now in
    let a = linked-some (find ks d) c.in-Some.top (sym (c.link.ensures ks h) ∙ c.in-Some.is) in
    let b = linked-some (down ks (Some a.node)) c.in-Some-below.middle (sym (c.below.ensures ks a.node h a.link) ∙ c.in-Some-below.is) in
    let t = linked-some (down ks (Some b.node)) c.in-Some-below-2._low (sym (c.below-2.ensures ks b.node h b.link) ∙ c.in-Some-below-2.is) in
    committed-digest ks d a.node b.node t.node c.in-Some-below.middle a.is b.is t.is b.link
