use Rattle.std.proofs.Common.{◌<◌, ◌^◌, arith}
use Rattle.std.proofs.lemmas.Result.{on_ok_weaker}
use Rattle.sb_echo.proofs.Written.{echo-written}
use Rattle.sb_echo.proofs.wire.write_echo.Goals as goal

pub returns : goal.returns
returns c =
    let small : c.args.slot.0 < 2 ^ 64 = omega arith in
    on_ok_weaker c.put_bytes-2.result (λ q. echo-written c.args.slot c.args.digest.now c.args.sig.now _ c.args.out.now _ _ _ _ small c.told-digest c.requires c.as_slice.ensures
    c.in_ok-put_u8.ensures.ok c.in_ok-put_u64.ensures.ok c.in_ok-put_bytes.ensures.ok q) c.put_bytes-2.ensures.ok
