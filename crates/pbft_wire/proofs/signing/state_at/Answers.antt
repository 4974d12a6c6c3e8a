use Rattle.std.proofs.Common.{◌^◌, ◌<◌, ◌∙◌, arith}
use Rattle.pbft_wire.proofs.Stated.{state_at-written}
use Rattle.pbft_wire.proofs.signing.state_at.Goals as goal

pub returns : goal.returns
returns c =
    let m = c.args.mark.now in
    let small : m.view < 2 ^ 16 = omega arith in
    let low : m.slot.0 < 2 ^ 64 = omega arith in
    c.into_bytes.ensures ∙ state_at-written c.args.p.now c.args.kind m.view m.slot.0 c.args.p.now.setup.version m.digest _ _ _ _ _ small low (rw c.new-out.ensures at c.in_ok-put_head.ensures) c.in_ok-put_u8.ensures.ok
    c.in_ok-put_u16.ensures.ok c.in_ok-put_u64.ensures.ok c.in_ok-put_bytes.ensures.ok
