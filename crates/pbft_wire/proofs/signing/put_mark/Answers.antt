use Rattle.std.proofs.Common.{◌^◌, ◌<◌, arith}
use Rattle.std.proofs.lemmas.Result.{on_ok_weaker}
use Rattle.pbft_wire.proofs.Stated.{mark-written}
use Rattle.pbft_wire.proofs.signing.put_mark.Goals as goal

pub returns : goal.returns
returns c =
    let low : c.args.mark.now.slot.0 < 2 ^ 64 = omega arith in
    let small : c.args.mark.now.view < 2 ^ 16 = omega arith in
    on_ok_weaker c.put_bytes.result (λ q. mark-written c.args.mark.now c.args.out.now _ _ _ low small c.in_ok-put_u64.ensures.ok c.in_ok-put_u16.ensures.ok q) c.put_bytes.ensures.ok
