use Rattle.std.proofs.Common.{◌^◌, ◌<◌, arith}
use Rattle.std.proofs.lemmas.Result.{on_ok_weaker}
use Rattle.sb_relay.proofs.Spelling.{written}
use Rattle.sb_relay.proofs.say.Say.write.Goals as goal

pub returns : goal.returns
returns c =
    let small : c.args.self.now.slot.0 < 2 ^ 64 = omega arith in
    on_ok_weaker c.write_batch_value.result (λ q. written c.args.self.now c.args.out.now _ _ _ small c.in_ok-put_u8.ensures.ok c.in_ok-put_u64.ensures.ok q) c.write_batch_value.ensures
