use Rattle.std.proofs.lemmas.Result.{on_ok_weaker}
use Rattle.pbft_wire.proofs.Written.{at-written}
use Rattle.pbft_wire.proofs.writing.put_at.Goals as goal

pub returns : goal.returns
returns c =
    on_ok_weaker c.put_bytes-2.result (λ q. at-written c.args.kind c.args.mark.now.view c.args.mark.now.slot.0 c.args.mark.now.digest c.args.sig.now c.args.out.now _ _ _ _ _
    c.in_ok-put_u8.ensures.ok c.in_ok-put_u16.ensures.ok c.in_ok-put_u64.ensures.ok c.in_ok-put_bytes.ensures.ok q) c.put_bytes-2.ensures.ok
