use Rattle.std.proofs.Common.{◌^◌, ◌<◌, arith}
use Rattle.std.proofs.lemmas.Result.{on_ok_weaker}
use Rattle.hs_tree.proofs.Stated.{started}
use Rattle.hs_tree.proofs.signing.put_start.Goals as goal

pub returns-in_ok-put_u8-in-Some : goal.returns-in_ok-put_u8-in-Some
returns-in_ok-put_u8-in-Some c =
    let small : c.in-Some.view < 2 ^ 32 = omega arith in
    rw c.in-Some.is (on_ok_weaker c.put_u32.result (λ h. started c.args.out.now c.put_u8-in-Some.new.self c.put_u32.new.self c.in-Some.view small c.in_ok-put_u8-in-Some.ensures.ok h) c.put_u32.ensures.ok)
