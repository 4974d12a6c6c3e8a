use Rattle.std.proofs.Common.{◌∙◌, ap, ◌<◌, ◌++◌, ◌∷◌, [], length, arith, refl}
use Rattle.iss_rules.specs.Formats.{formats_of}
use Rattle.iss_rules.specs.Parcels.{OfModule}
use Rattle.iss_node.proofs.Wire.DecodingRefines.{packed-next}
use Rattle.iss_node.proofs.parcels.pack.Goals as goal

pub loop-to-preserved : goal.loop-to-preserved
loop-to-preserved g c =
    let lt : c.loop-to.to-index < length c.args.sends.now = omega (arith, c.loop-to-test.true) in
    let F = formats_of c.args.setup.now g.M.Sequenced.spec in
    c.in_ok-push.ensures.ok
    ∙ ap (λ b. c.loop-to.packets ++ (c.loop-to-item.result.0, b) ∷ []) (c.in_ok-wrap.ensures c.args.setup.now refl)
    ∙ ap (λ zs. zs ++ (c.loop-to-item.result.0, F.wrap (record { from = c.args.origin.node.0; epoch = c.args.origin.epoch.0; body = OfModule c.args.origin.leader.0 c.loop-to-item.result.1 })) ∷ []) c.loop-to.invariant
    ∙ packed-next F c.args.origin.node.0 c.args.origin.epoch.0 c.args.origin.leader.0 c.args.sends.now c.loop-to.to-index c.loop-to-item.result lt c.loop-to-item.is
