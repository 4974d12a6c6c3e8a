use Rattle.std.proofs.Common.{◌∙◌, sym}
use Rattle.iss_base.proofs.Lists.{some-injective}
use Rattle.iss_keys.proofs.WriteLemmas.{top_leaf_within, two_written}
use Rattle.iss_keys.proofs.levels.KeyTrees.write_with.Goals as goal

pub put_bottom-requires : goal.put_bottom-requires
put_bottom-requires c = top_leaf_within c.args.self.now.secret c.args.self.now.height c.args.leaf c.requires.leaf

pub returns : goal.returns
returns c =
    two_written c.args.self.now.secret c.args.statement.now c.digest_of_statement.result c.args.out.now.items
    c.write_parts.new.out.items c.args.self.now.height c.args.leaf c.in-Some.bottom c.requires.two
    (some-injective _ _ (sym c.in-Some.is ∙ c.in_ok-put_bottom.ensures)) c.digest_of_statement.ensures
    c.in_ok-write_parts.ensures
