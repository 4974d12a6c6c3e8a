use Rattle.std.proofs.Common.{ap}
use Rattle.iss_request.specs.Fields.{Written}
use Rattle.pbft_wire.specs.Certificates.{fits_from, slot_of}
use Rattle.iss_sb.proofs.Ascending.{ascending-at}
use Rattle.iss_base.proofs.Lists.{and-true}
use Rattle.pbft_wire.proofs.writing.put_certificates.Goals as goal

pub put_certificate-requires : goal.put_certificate-requires
put_certificate-requires c =
    let version = ap (λ (z : Written). z.version) c.loop-certificate.invariant in
    let r = ascending-at (fits_from c.args.out.now.version) slot_of 0 c.args.certificates.now c.loop-certificate.certificate-index c.certificate-item.result c.requires c.loop-certificate-test.true c.certificate-item.is in
    rw version (and-true _ _ r.1).1
