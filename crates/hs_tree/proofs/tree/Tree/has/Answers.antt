use Rattle.std.proofs.Common.{◌∙◌, sym}
use Rattle.hs_tree.proofs.Branches.{has-there}
use Rattle.hs_tree.proofs.tree.Tree.has.Goals as goal

pub returns-else-contains_key : goal.returns-else-contains_key
returns-else-contains_key c ks h = has-there c.args.self.now ks c.args.d.now h _ (sym c.contains_key.ensures ∙ c.if-contains_key.false) c.same.result c.same.ensures
