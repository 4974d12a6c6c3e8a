use Rattle.std.proofs.Common.{◌∙◌, sym, ap}
use Rattle.iss_layout.specs.Internal.Standings.{behind}
use Rattle.iss_layout.proofs.StandingLemmas.{worst_hit, worst_miss}
use Rattle.iss_layout.proofs.standing.Outcome.worst_under.Goals.{then-eq, else-eq}
use Rattle.iss_layout.proofs.standing.Outcome.worst_under.Goals as goal

pub loop-slot-preserved : goal.loop-slot-preserved
loop-slot-preserved c =
    elim c.if-eq.branch [
      | then-eq w ↦ ap behind w.worst-is ∙ w.later-worst.ensures
          ∙ worst_hit c.args.self.now.layout.now c.args.node.0 c.args.self.now.nil_slots.now c.loop-slot.slot-index (record { 0 = 0 }) c.segment_of.result (behind c.loop-slot.worst) c.loop-slot-test.true c.segment_of.ensures (sym c.eq.ensures ∙ w.if-eq.true) c.loop-slot.invariant
      | else-eq w ↦ ap behind w.worst-is
          ∙ worst_miss c.args.self.now.layout.now c.args.node.0 c.args.self.now.nil_slots.now c.loop-slot.slot-index (record { 0 = 0 }) c.segment_of.result (behind c.loop-slot.worst) c.loop-slot-test.true c.segment_of.ensures (sym c.eq.ensures ∙ w.if-eq.false) c.loop-slot.invariant
    ]
