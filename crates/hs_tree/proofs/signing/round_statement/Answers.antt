use Rattle.std.proofs.Common.{◌^◌, ◌<◌, ◌∙◌, arith}
use Rattle.hs_tree.proofs.Stated.{round-written}
use Rattle.hs_tree.proofs.signing.round_statement.Goals as goal

pub returns : goal.returns
returns c form p start =
    let low : c.args.round < 2 ^ 16 = omega arith in
    let small : c.args.view < 2 ^ 32 = omega arith in
    c.into_bytes.ensures ∙ round-written p form c.args.round c.args.view c.args.out _ _ _ low small start c.in_ok-put_u8.ensures.ok c.in_ok-put_u16.ensures.ok c.in_ok-put_u32.ensures.ok
