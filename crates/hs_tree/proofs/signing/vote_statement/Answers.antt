use Rattle.std.proofs.Common.{◌^◌, ◌<◌, ◌∙◌, arith}
use Rattle.hs_tree.proofs.Stated.{vote-written}
use Rattle.hs_tree.proofs.signing.vote_statement.Goals as goal

pub returns : goal.returns
returns c form p start =
    let poll = c.args.poll.now in
    let small : poll.view < 2 ^ 32 = omega arith in
    c.into_bytes.ensures ∙ vote-written p form poll.phase poll.view poll.digest c.args.out _ _ _ _ small start c.in_ok-put_u8.ensures.ok c.in_ok-put_u8-2.ensures.ok c.in_ok-put_u32.ensures.ok c.in_ok-put_bytes.ensures.ok
