use Rattle.iss_request.proofs.Readings.{exit, named}
use Rattle.raft_wire.specs.Messages.{parse_flag}
use Rattle.raft_wire.proofs.Reading.{flag-read, flag-unread, no-flag}
use Rattle.raft_wire.proofs.wire.read_flag.Goals as goal

pub returns-in_err-byte-clause-bad : goal.returns-in_err-byte-clause-bad
returns-in_err-byte-clause-bad c = exit c.from_residual.result _ _ c.from_residual.ensures.1 (λ at e. flag-unread (c.in_err-byte.ensures.bad at e))

pub returns-then-byte-gt1-clause-bad : goal.returns-then-byte-gt1-clause-bad
returns-then-byte-gt1-clause-bad c at e = named parse_flag c.args.f.now _ _ at (no-flag c.in_ok-byte.byte c.if-byte-gt1.true c.in_ok-byte.ensures.ok) c.bad_field-no_flag.ensures e

pub returns-clause-ok : goal.returns-clause-ok
returns-clause-ok c = flag-read c.in_ok-byte.byte c.if-byte-gt1.false c.in_ok-byte.ensures.ok
