use Rattle.std.proofs.Common.{arith, ◌∙◌, ◌+◌, ◌^◌, ◌<◌, ◌++◌, ◌∷◌, [], List, ap, length, length-append, sym, w64}
use Rattle.std.proofs.Math.Facts.{Fits-of_lt}
use Rattle.iss_node.proofs.Log.EpochSlots.{at-next}
use Rattle.iss_node.proofs.WaitingRequests.RequestRefines.{whole-next}
use Rattle.iss_node.specs.Internal.Transfers.{at_slots}
use Rattle.iss_request.specs.declared.ids.Slot.{Slot}
use Rattle.iss_request.specs.declared.requests.Value.{Value}
use Rattle.iss_node.proofs.transfer.at_slots.Goals as goal

pub loop-value-preserved : goal.loop-value-preserved
loop-value-preserved c =
    let h = c.loop-value.invariant in
    let done = c.loop-value.yielded in
    let v = c.in-Some.value in
    let long = length-append done (v ∷ []) in
    record {
      made =
          c.in_ok-push.ensures.items
          ∙ ap (λ (ds : List (Slot × Value)). ds ++ (record { 0 = c.loop-value.next }, v) ∷ []) h.made
          ∙ ap (λ n. let d : Slot × Value = (record { 0 = n }, v) in at_slots c.args.first.0 done ++ d ∷ []) h.next
          ∙ sym (at-next c.args.first.0 done v);
      whole = whole-next c.args.values done v _ _ h.whole c.in-Some.ensures.steps.0;
      next = omega (arith, long, h.next);
    }

pub overflow_add-next : goal.overflow_add-next
overflow_add-next c =
    let h = c.loop-value.invariant in
    let all = ap (λ (xs : List Value). length xs) h.whole in
    let parts = length-append c.loop-value.yielded c.loop-value.value-iterator.rest.items in
    let some = ap (λ (xs : List Value). length xs) c.in-Some.ensures.steps.0 in
    let low : c.loop-value.next + 1 < 2 ^ 64 = omega (arith, all, parts, some, h.next, c.requires) in
    Fits-of_lt {w = w64} low
