use Rattle.std.proofs.Common.{◌^◌, ◌<◌, ◌∙◌, arith}
use Rattle.pbft_wire.proofs.Stated.{new-written}
use Rattle.pbft_wire.proofs.signing.state_new.Goals as goal

pub returns : goal.returns
returns c =
    let small : c.args.view < 2 ^ 16 = omega arith in
    c.into_bytes.ensures ∙ new-written c.args.p.now c.args.view c.args.p.now.setup.version _ _ _ small (rw c.new-out.ensures at c.in_ok-put_head.ensures) c.in_ok-put_u8.ensures.ok c.in_ok-put_u16.ensures.ok
