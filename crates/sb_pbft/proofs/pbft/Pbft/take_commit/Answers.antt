use Rattle.std.proofs.Common.{arith, refl, sym, [], ◌∷◌, false, None}
use Rattle.iss_sb.proofs.Slots.{has_slot-In}
use Rattle.iss_sb.specs.declared.effects.Input.TheVariants.{Receive}
use Rattle.pbft_wire.specs.Signed.{Commit}
use Rattle.sb_pbft.specs.Internal.Refines.{held}
use Rattle.sb_pbft.specs.Internal.Turns.{and_commit}
use Rattle.sb_pbft.proofs.Refinement.RulesCompose.{does-nothing, does-settled}
use Rattle.sb_pbft.proofs.Refinement.SettleRefines.{sent-none}
use Rattle.sb_pbft.proofs.Refinement.TablesRefine.{commit-held, commit-idle, commit-turn}
use Rattle.sb_pbft.proofs.pbft.Pbft.take_commit.Goals as goal

pub returns-then-not-has_slot : goal.returns-then-not-has_slot
returns-then-not-has_slot c =
    let x = c.args.vote in
    let input = Receive x.from (Commit x.view x.slot c.args.digest x.sig) in
    does-nothing c.args.context.now.p.now input c.args.self.now c.args.keys.now _
    (commit-idle c.args.context.now.p.now c.args.self.now c.args.self.now.commits x.from x.view x.slot c.args.digest x.sig c.args.self.now.me.0 c.args.keys.now.used (sym c.if-not-has_slot.ensures)) c.nothing.ensures

pub returns : goal.returns
returns c =
    let x = c.args.vote in
    let p = c.args.context.now.p.now in
    let old = c.args.self.now in
    let slot = x.slot in
    let input = Receive x.from (Commit x.view slot c.args.digest x.sig) in
    let inside = sym c.if-not-has_slot.ensures in
    let nothing = c.nothing-effects.ensures in
    let some = c.args.context.now.good.some in
    does-settled p input old (record old { commits = c.keep.new.self }) c.settle_at.new.self c.args.keys.now c.args.keys.now c.settle_at.new.keys c.nothing-effects.result c.settle_at.new.effects
    [] false x.view (slot ∷ []) (and_commit p (held old) input) [] None
    refl (λ own. commit-held p old c.keep.new.self x.from x.view slot c.args.digest x.sig _ c.new.ensures c.in_ok-keep.ensures inside)
    (sent-none p c.args.keys.now [] c.nothing-effects.result.sends nothing.sends) nothing.delivers nothing.accepted nothing.hashed tt
    (commit-turn p old c.keep.new.self x.from x.view slot c.args.digest x.sig old.me.0 c.args.keys.now.used inside) c.in_ok-settle_at.ensures
    (has_slot-In slot p.slots inside, tt) (omega (arith, some))
