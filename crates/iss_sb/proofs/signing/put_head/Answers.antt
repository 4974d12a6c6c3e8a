use Rattle.std.proofs.Common.{◌^◌, ◌<◌, arith}
use Rattle.std.proofs.lemmas.Result.{on_ok_weaker}
use Rattle.iss_sb.proofs.Statements.{head-written}
use Rattle.iss_sb.proofs.signing.put_head.Goals as goal

pub returns : goal.returns
returns c =
    let small : c.args.p.now.epoch.0 < 2 ^ 64 = omega arith in
    on_ok_weaker c.put_u8-2.result (λ q. head-written c.args.p.now c.args.module_tag c.args.out.now _ _ _ _ small c.in_ok-put_bytes.ensures.ok c.in_ok-put_u64.ensures.ok c.in_ok-put_u8.ensures.ok q) c.put_u8-2.ensures.ok
