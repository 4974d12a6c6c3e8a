use Rattle.std.proofs.Common.{arith, ◌∙◌}
use Rattle.iss_node.proofs.Steps.SavedAfter.{held-next}
use Rattle.iss_node.specs.Saved.{holds}
use Rattle.iss_node.proofs.saved.Saved.note.Goals as goal

pub loop-cert-preserved : goal.loop-cert-preserved
loop-cert-preserved c =
    let h = c.loop-cert.invariant in
    let put = c.in_ok-put.ensures in
    record {
      from = put.from ∙ h.from;
      held = λ e. held-next (holds c.args.self.now e) _ c.args.certs.now c.loop-cert.cert-index c.cert-item.result e _ (omega (arith, c.loop-cert-test.true)) c.cert-item.is (h.held e) (put.held e);
    }
