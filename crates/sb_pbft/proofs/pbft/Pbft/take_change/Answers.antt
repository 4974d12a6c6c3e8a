use Rattle.std.proofs.Common.{sym}
use Rattle.iss_sb.specs.declared.effects.Input.TheVariants.{Receive}
use Rattle.pbft_wire.specs.Signed.{ViewChange}
use Rattle.sb_pbft.proofs.Refinement.ViewChangeRefines.{change-does, change-idle}
use Rattle.sb_pbft.proofs.Refinement.RulesCompose.{does-nothing}
use Rattle.sb_pbft.proofs.pbft.Pbft.take_change.Goals as goal

pub returns-then-not-keeps : goal.returns-then-not-keeps
returns-then-not-keeps c =
    let x = c.args.change in
    does-nothing c.args.context.now.p.now (Receive x.node (ViewChange x.view x.certificates x.sig)) c.args.self.now c.args.keys.now _
    (change-idle c.args.context.now.p.now c.args.self.now x c.args.self.now.me.0 c.args.keys.now.used (sym c.if-not-keeps.ensures)) c.nothing-effects.ensures

pub returns : goal.returns
returns c =
    change-does c.args.context.now.p.now c.args.self.now c.args.change c.as_slice.result.now c.keep.new.self c.count-before.result c.args.keys.now c.renew.new.keys
    c.nothing-effects.result c.hash_values.new.effects
    c.renew.new.effects (record {
      keeps = sym c.if-not-keeps.ensures;
      nothing = c.nothing-effects.ensures;
      count = c.count-before.ensures;
      shown = c.as_slice.ensures;
      values = c.in_ok-hash_values.ensures;
      kept = c.in_ok-keep.ensures;
      renews = c.in_ok-renew.ensures;
    })
