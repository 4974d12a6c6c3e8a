use Rattle.std.proofs.Common.{◌^◌, ◌<◌, ◌∙◌, arith}
use Rattle.hs_tree.proofs.Stated.{node-written}
use Rattle.hs_tree.proofs.signing.node_statement.Goals as goal

pub returns : goal.returns
returns c form p start =
    let small : c.args.view < 2 ^ 32 = omega arith in
    c.into_bytes.ensures ∙ node-written p form c.args.kind c.args.view c.args.digest.now c.args.out _ _ _ small start c.in_ok-put_u8.ensures.ok c.in_ok-put_u32.ensures.ok c.in_ok-put_bytes.ensures.ok
