use Rattle.std.proofs.lemmas.Result.{on_ok_weaker}
use Rattle.pbft_wire.proofs.Written.{pre_prepare-written}
use Rattle.pbft_wire.proofs.writing.put_pre_prepare.Goals as goal

pub returns : goal.returns
returns c =
    on_ok_weaker c.put_bytes.result (λ q. pre_prepare-written c.args.view c.args.slot.0 c.args.value.now c.args.sig.now c.args.out.now _ _ _ _ _
    c.in_ok-put_u8.ensures.ok c.in_ok-put_u16.ensures.ok c.in_ok-put_u64.ensures.ok c.in_ok-write_value.ensures q) c.put_bytes.ensures.ok
