use Rattle.std.proofs.Common.{ap}
use Rattle.sb_chained.specs.declared.links.Link.{Link}
use Rattle.sb_chained.specs.declared.links.Nodes.{Nodes}
use Rattle.sb_chained.proofs.Refinement.LinksAgree.{links-more}
use Rattle.sb_chained.proofs.links.Nodes.add.Goals as goal

pub returns : goal.returns
returns c k ks digest link what h =
    let new : Nodes = record { tree = c.add.new.self; links = c.insert.new.self } in
    record {
      tree = c.in_ok-add.ensures k ks digest (ap (λ (l : Link). l.parent) link) what h.tree;
      links = links-more c.args.self.now new k ks c.args.digest c.args.link digest link h.links (λ d. c.in_ok-insert.ensures.updates.0 d);
    }
