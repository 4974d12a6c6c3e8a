use Rattle.std.proofs.Common.{suc, ◌+◌, ◌-◌, ◌∙◌, refl, arith}
use Rattle.iss_request.proofs.Readings.{exit}
use Rattle.iss_sb.proofs.Read.{read-by, unread-by}
use Rattle.pbft_wire.specs.Certificates.{after_slot, parse_certificate, slot_of}
use Rattle.iss_sb.proofs.Ascending.{climbs-bad, climbs-end, climbs-next, climbs-start}
use Rattle.pbft_wire.proofs.reading.read_certificates.Goals as goal

pub returns-in_err-certificate-clause-bad : goal.returns-in_err-certificate-clause-bad
returns-in_err-certificate-clause-bad c =
    exit c.from_residual.result _ _ c.from_residual.ensures.1 (λ at e.
    climbs-bad (parse_certificate c.args.f.now.version) slot_of c.args.many _ (c.args.many - suc c.loop.counter) _ _ _ _ at (omega arith) c.loop.invariant.0 (unread-by (λ n. parse_certificate n (after_slot c.loop.last)) c.loop.invariant.1 (c.in_err-certificate.ensures.bad at e)))

pub loop-init : goal.loop-init
loop-init c = (climbs-start (parse_certificate c.args.f.now.version) slot_of c.args.many _ (c.args.many - 0) _ _ (omega arith) refl c.new-certificates.ensures, refl)

pub loop-preserved : goal.loop-preserved
loop-preserved c =
    rw c.in_ok-push.ensures.ok
    (climbs-next (parse_certificate c.args.f.now.version) slot_of c.args.many _ (c.args.many - (c.loop.counter + 1)) (c.args.many - c.loop.counter) _ _ _ _ _ _ (omega arith) refl c.loop.invariant.0 (read-by (λ n. parse_certificate n (after_slot c.loop.last)) c.loop.invariant.1 c.in_ok-certificate.ensures.ok), c.in_ok-certificate.ensures.ok.version ∙ c.loop.invariant.1)

pub returns-clause-ok : goal.returns-clause-ok
returns-clause-ok c = climbs-end (parse_certificate c.args.f.now.version) slot_of c.args.many _ (c.args.many - c.loop.counter) _ _ _ (omega arith) c.loop.invariant.0
