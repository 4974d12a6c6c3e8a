use Rattle.std.proofs.Common.{◌∙◌, ◌<◌, ◌≤◌, ◌&&◌, not, ap, arith}
use Rattle.iss_request.specs.Log.{has_id, ids}
use Rattle.iss_node.proofs.WaitingRequests.ProposalsComplete.{kept-gone, kept-ids, kept-left, landed-gone, landed-ids, landed-left}
use Rattle.iss_node.proofs.flight.Flight.take_completed.Goals as goal

pub loop-slot-preserved-in-Continue-1 : goal.loop-slot-preserved-in-Continue-1
loop-slot-preserved-in-Continue-1 c =
    let h = c.loop-slot.invariant in
    let lt : c.in-Some.slot.0 < c.args.slots = omega (arith, c.if-slot-slots.true) in
    record {
      gone = c.in_ok-push.ensures.items ∙ landed-gone c.args.slots c.loop-slot.yielded c.in-Some.slot c.in-Some.batch c.loop-slot.gone.items c.loop-slot.self-inside.casts.items c.args.self.now.ids c.loop-slot.self-inside.ids c.drop_all.new.self h.gone h.casts h.ids lt;
      casts = landed-left c.args.slots c.loop-slot.yielded c.in-Some.slot c.in-Some.batch c.loop-slot.gone.items c.loop-slot.self-inside.casts.items c.args.self.now.ids c.loop-slot.self-inside.ids c.drop_all.new.self h.gone h.casts h.ids lt;
      ids = landed-ids c.args.slots c.loop-slot.yielded c.in-Some.slot c.in-Some.batch c.loop-slot.gone.items c.loop-slot.self-inside.casts.items c.args.self.now.ids c.loop-slot.self-inside.ids c.drop_all.new.self h.gone h.casts h.ids lt
          (λ x. c.drop_all.ensures x ∙ ap (λ qs. has_id x c.loop-slot.self-inside.ids && not (has_id x (ids qs))) c.as_slice.ensures);
    }

pub loop-slot-preserved : goal.loop-slot-preserved
loop-slot-preserved c =
    let h = c.loop-slot.invariant in
    let le : c.args.slots ≤ c.in-Some.slot.0 = omega (arith, c.if-slot-slots.false) in
    record {
      gone = kept-gone c.args.slots c.loop-slot.yielded c.in-Some.slot c.in-Some.batch c.loop-slot.gone.items c.loop-slot.self-inside.casts.items c.args.self.now.ids c.loop-slot.self-inside.ids c.loop-slot.self-inside.ids h.gone h.casts h.ids le;
      casts = c.in_ok-push-2.ensures.items ∙ kept-left c.args.slots c.loop-slot.yielded c.in-Some.slot c.in-Some.batch c.loop-slot.gone.items c.loop-slot.self-inside.casts.items c.args.self.now.ids c.loop-slot.self-inside.ids c.loop-slot.self-inside.ids h.gone h.casts h.ids le;
      ids = kept-ids c.args.slots c.loop-slot.yielded c.in-Some.slot c.in-Some.batch c.loop-slot.gone.items c.loop-slot.self-inside.casts.items c.args.self.now.ids c.loop-slot.self-inside.ids c.loop-slot.self-inside.ids h.gone h.casts h.ids le;
    }
