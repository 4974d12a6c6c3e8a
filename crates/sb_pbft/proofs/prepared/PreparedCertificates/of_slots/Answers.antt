use Rattle.std.proofs.Common.{◌∙◌, sym}
use Rattle.sb_pbft.specs.Places.{top_at}
use Rattle.sb_pbft.proofs.Refinement.LoopsOverTables.{tops-step, tops-still}
use Rattle.sb_pbft.proofs.prepared.PreparedCertificates.of_slots.Goals as goal
use Rattle.sb_pbft.proofs.prepared.PreparedCertificates.of_slots.Goals.{in-Some+in_ok-copy+in_ok-push, in_default}

pub loop-slot-preserved : goal.loop-slot-preserved
loop-slot-preserved c =
    let top = top_at c.args.self.now in
    let slots = c.args.slots.now in
    elim c.match-get.branch [
      | in-Some+in_ok-copy+in_ok-push w ↦
          tops-step top slots c.loop-slot.slot-index w.in-Some.certificate.now w.in_ok-copy.field-0 c.loop-slot.all c.match-get.all c.loop-slot-test.true c.loop-slot.invariant
          (sym w.in-Some.ensures.value) w.in_ok-copy.ensures (w.all-is ∙ w.in_ok-push.ensures.ok)
      | in_default w ↦ tops-still top slots c.loop-slot.slot-index c.loop-slot.all c.match-get.all c.loop-slot-test.true c.loop-slot.invariant (sym w.in_default.ensures.value) w.all-is
    ]
