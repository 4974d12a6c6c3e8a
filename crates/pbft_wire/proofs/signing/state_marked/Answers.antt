use Rattle.std.proofs.Common.{◌^◌, ◌<◌, ◌∙◌, arith}
use Rattle.pbft_wire.proofs.Stated.{change-written}
use Rattle.pbft_wire.proofs.signing.state_marked.Goals as goal

pub returns : goal.returns
returns c cs marked =
    let small : c.args.view < 2 ^ 16 = omega arith in
    c.into_bytes.ensures ∙ change-written c.args.p.now c.args.view c.args.p.now.setup.version c.args.marks.now cs _ _ _ _ _ small marked (rw c.new-out.ensures at c.in_ok-put_head.ensures) c.in_ok-put_u8.ensures.ok c.in_ok-put_u16.ensures.ok
    c.in_ok-put_u8-2.ensures.ok c.in_ok-put_marks.ensures
