use Rattle.std.proofs.Common.{ap, ◌∙◌, ◌++◌, sym, List}
use Rattle.std.proofs.lemmas.Bool.{ltb-true}
use Rattle.std.proofs.lemmas.Result.{on_ok_weaker}
use Rattle.iss_request.specs.declared.ids.Slot.{Slot}
use Rattle.iss_request.specs.declared.requests.Value.{Value}
use Rattle.sb_raft.proofs.Refinement.DeliveredSlotsAgree.{paired-at}
use Rattle.sb_raft.proofs.log.put_slot.Goals as goal

pub returns : goal.returns
returns c =
    let found = c.in-Some.ensures.lookup in
    on_ok_weaker c.push.result (λ q. q ∙ ap (λ (z : List (Slot × Value)). c.args.fresh.now ++ z)
    (sym (paired-at c.args.slots.now c.args.place c.in-Some.slot.now c.args.value (ltb-true _ _ (sym found.0)) found.1))) c.push.ensures.ok
