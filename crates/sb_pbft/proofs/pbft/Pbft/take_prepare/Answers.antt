use Rattle.std.proofs.Common.{arith, not, refl, sym, ◌==◌, [], ◌∷◌, false, None}
use Rattle.iss_base.proofs.Lists.{and-true}
use Rattle.iss_sb.specs.Calls.{has_slot}
use Rattle.iss_sb.proofs.Slots.{has_slot-In}
use Rattle.iss_sb.specs.declared.effects.Input.TheVariants.{Receive}
use Rattle.pbft_wire.specs.Signed.{Prepare}
use Rattle.pbft_views.specs.Good.{primary}
use Rattle.sb_pbft.specs.Internal.Refines.{held}
use Rattle.sb_pbft.specs.Internal.Turns.{and_prepare}
use Rattle.sb_pbft.proofs.Refinement.RulesCompose.{does-nothing, does-settled}
use Rattle.sb_pbft.proofs.Refinement.SettleRefines.{sent-none}
use Rattle.sb_pbft.proofs.Refinement.TablesRefine.{prepare-held, prepare-idle, prepare-turn}
use Rattle.sb_pbft.proofs.pbft.Pbft.take_prepare.Goals as goal

pub returns-then-not-counts : goal.returns-then-not-counts
returns-then-not-counts c =
    let x = c.args.vote in
    let input = Receive x.from (Prepare x.view x.slot c.args.digest x.sig) in
    does-nothing c.args.context.now.p.now input c.args.self.now c.args.keys.now _
    (prepare-idle c.args.context.now.p.now c.args.self.now c.args.self.now.prepares x.from x.view x.slot c.args.digest x.sig c.args.self.now.me.0 c.args.keys.now.used (sym c.if-not-counts.ensures)) c.nothing.ensures

pub returns : goal.returns
returns c =
    let x = c.args.vote in
    let p = c.args.context.now.p.now in
    let old = c.args.self.now in
    let slot = x.slot in
    let input = Receive x.from (Prepare x.view slot c.args.digest x.sig) in
    let counts = sym c.if-not-counts.ensures in
    let nothing = c.nothing-effects.ensures in
    let some = c.args.context.now.good.some in
    does-settled p input old (record old { prepares = c.keep.new.self }) c.settle_at.new.self c.args.keys.now c.args.keys.now c.settle_at.new.keys c.nothing-effects.result c.settle_at.new.effects
    [] false x.view (slot ∷ []) (and_prepare p (held old) input) [] None
    refl (λ own. prepare-held p old c.keep.new.self x.from x.view slot c.args.digest x.sig c.in_ok-keep.ensures counts)
    (sent-none p c.args.keys.now [] c.nothing-effects.result.sends nothing.sends) nothing.delivers nothing.accepted nothing.hashed tt
    (prepare-turn p old c.keep.new.self x.from x.view slot c.args.digest x.sig old.me.0 c.args.keys.now.used counts) c.in_ok-settle_at.ensures
    (has_slot-In slot p.slots (and-true (has_slot slot.0 p.slots) (not (x.from.0 == primary p x.view)) counts).0, tt) (omega (arith, some))
