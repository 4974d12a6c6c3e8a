use Rattle.std.proofs.Common.{◌≡◌, drop}
use Rattle.pbft_wire.specs.Certificates.{after_slot, fits_certificates}
use Rattle.pbft_wire.proofs.writing.certificates_fit.Given as goal

abbrev pub invariant-loop-certificate : goal.invariant-loop-certificate
invariant-loop-certificate l = fits_certificates l.version 0 l.certificates ≡ fits_certificates l.version (after_slot l.last) (drop l.certificate-index l.certificates)
