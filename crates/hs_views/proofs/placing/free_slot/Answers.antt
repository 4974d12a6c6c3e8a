use Rattle.std.proofs.Common.{List, sym, subst}
use Rattle.std.proofs.lemmas.Bool.{ltb-true}
use Rattle.iss_base.specs.Lists.{In}
use Rattle.iss_request.specs.declared.ids.Slot.{Slot}
use Rattle.hs_views.proofs.DeliveredSlotsAgree.{slot-inside}
use Rattle.hs_views.proofs.placing.free_slot.Goals as goal

pub returns-clause-inside : goal.returns-clause-inside
returns-clause-inside c =
    let found = c.in-Some.ensures.lookup in
    let slot = c.in-Some.slot.now in
    let ss = c.as_slice.result.now in
    subst (λ (z : List Slot). In slot z) c.as_slice.ensures
    (subst (λ (z : Slot). In z ss) (sym found.1) (slot-inside ss c.args.place slot (ltb-true _ _ (sym found.0))))
