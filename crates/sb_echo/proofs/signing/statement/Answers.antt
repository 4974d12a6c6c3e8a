use Rattle.std.proofs.Common.{◌^◌, ◌<◌, ◌∙◌, arith}
use Rattle.sb_echo.proofs.Written.{statement-written}
use Rattle.sb_echo.proofs.signing.statement.Goals as goal

pub returns : goal.returns
returns c =
    let small : c.args.slot.0 < 2 ^ 64 = omega arith in
    c.into_bytes.ensures ∙ statement-written c.args.p.now c.args.kind c.args.slot.0 c.args.digest.now c.args.p.now.setup.version _ _ _ _ small (rw c.new-out.ensures at c.in_ok-put_head.ensures) c.in_ok-put_u8.ensures.ok c.in_ok-put_u64.ensures.ok c.in_ok-put_bytes.ensures.ok
