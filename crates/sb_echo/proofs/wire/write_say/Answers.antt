use Rattle.std.proofs.Common.{◌<◌, ◌^◌, arith}
use Rattle.std.proofs.lemmas.Result.{on_ok_weaker}
use Rattle.sb_echo.proofs.Written.{say-written}
use Rattle.sb_echo.proofs.wire.write_say.Goals as goal

pub returns : goal.returns
returns c =
    let small : c.args.slot.0 < 2 ^ 64 = omega arith in
    on_ok_weaker c.put_bytes.result (λ q. say-written c.args.slot c.args.batch.now c.args.sig.now _ c.args.out.now _ _ _ _ small c.requires c.as_slice.ensures
    c.in_ok-put_u8.ensures.ok c.in_ok-put_u64.ensures.ok c.in_ok-write_batch_value.ensures q) c.put_bytes.ensures.ok
