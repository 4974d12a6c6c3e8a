use Rattle.std.proofs.Common.{arith, length, get_or}
use Rattle.sb_pbft.proofs.Refinement.SettleRefines.{left-more, owes-more, owes-none}
use Rattle.sb_pbft.proofs.pbft.Pbft.settle.Goals as goal

pub loop-slot-init : goal.loop-slot-init
loop-slot-init c = let enough = c.requires in (omega (arith, enough), λ n k g h. h)

pub settle_at-requires : goal.settle_at-requires
settle_at-requires c =
    let within = c.loop-slot-test.true in
    let left = c.loop-slot.invariant.0 in
    omega (arith, within, left)

pub loop-slot-preserved : goal.loop-slot-preserved
loop-slot-preserved c =
    let p = c.args.context.now.p.now in
    let slots = c.args.slots.now in
    let i = c.loop-slot.slot-index in
    let done = c.in_ok-settle_at.ensures in (
      left-more p c.args.touched.answers c.args.touched.view (get_or slots i (record { 0 = 0 })) c.loop-slot.self c.settle_at.new.self c.loop-slot.keys c.settle_at.new.keys c.loop-slot.effects c.settle_at.new.effects
          (length slots) i c.loop-slot.invariant.0 c.loop-slot-test.true done,
      owes-more p c.args.touched.answers c.args.touched.view slots i c.args.self.now c.loop-slot.self c.settle_at.new.self c.args.keys.now c.loop-slot.keys c.settle_at.new.keys c.args.effects.now c.loop-slot.effects
          c.settle_at.new.effects c.loop-slot-test.true c.loop-slot.invariant.1 done,
    )

pub returns : goal.returns
returns c =
    let past = c.loop-slot-test.false in
    owes-none c.args.context.now.p.now c.args.touched.answers c.args.touched.view c.args.slots.now c.loop-slot.slot-index c.args.self.now c.loop-slot.self c.args.keys.now c.loop-slot.keys c.args.effects.now c.loop-slot.effects
    (omega (arith, past)) c.loop-slot.invariant.1
