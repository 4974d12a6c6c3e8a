use Rattle.std.proofs.Common.{arith}
use Rattle.std.proofs.lemmas.Bool.{le-leb}
use Rattle.iss_request.specs.Parsing.{byte}
use Rattle.iss_request.proofs.Readings.{exit, read_passed, unread_tested}
use Rattle.pbft_wire.specs.Certificates.{count, fits_count}
use Rattle.pbft_wire.proofs.reading.read_count.Goals as goal

pub returns-in_err-count-clause-bad : goal.returns-in_err-count-clause-bad
unfolding count
returns-in_err-count-clause-bad c =
    exit c.from_residual.result _ _ c.from_residual.ensures.1 (λ at e. unread_tested fits_count byte (c.in_err-count.ensures.bad at e))

pub returns-clause-ok : goal.returns-clause-ok
unfolding count
returns-clause-ok c = read_passed fits_count byte c.in_ok-count.ensures.ok (le-leb c.in_ok-count.count 255 (omega arith))
