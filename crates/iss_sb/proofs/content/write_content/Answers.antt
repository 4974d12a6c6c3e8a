use Rattle.std.proofs.lemmas.Result.{on_ok_weaker}
use Rattle.iss_sb.proofs.ContentFields.{holds-written}
use Rattle.iss_sb.proofs.content.write_content.Goals as goal

pub returns-in_ok-put_u8-in-Holds : goal.returns-in_ok-put_u8-in-Holds
returns-in_ok-put_u8-in-Holds c =
    rw c.in-Holds.is
    (on_ok_weaker c.write_batch_value.result (λ q. holds-written c.in-Holds.batch c.args.out.now _ _ c.in_ok-put_u8-in-Holds.ensures.ok q) c.write_batch_value.ensures)
