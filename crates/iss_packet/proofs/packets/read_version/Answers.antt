use Rattle.std.proofs.Common.{ap, ◌∙◌, eq-eqb}
use Rattle.std.proofs.lemmas.Bool.{ne_eqb}
use Rattle.iss_request.specs.Formats.{version_byte}
use Rattle.iss_request.proofs.Readings.{exit, named, read_passed, unread_failed, unread_tested}
use Rattle.iss_packet.specs.Packets.{parse_version}
use Rattle.iss_packet.proofs.packets.read_version.Goals as goal

pub returns-in_err-first-clause-bad : goal.returns-in_err-first-clause-bad
unfolding parse_version
returns-in_err-first-clause-bad c =
    exit c.from_residual.result _ _ c.from_residual.ensures.1
    (λ at e. unread_tested _ _ (c.in_err-first.ensures.bad at e))

pub returns-then-first-wanted-clause-bad : goal.returns-then-first-wanted-clause-bad
unfolding parse_version
returns-then-first-wanted-clause-bad c at e =
    named (parse_version c.args.f.now.version) c.args.f.now _ _ at
    (unread_failed _ _ c.in_ok-first.ensures.ok
    (ne_eqb _ _ (rw (c.version_byte-wanted.ensures ∙ ap version_byte c.version.ensures) at c.if-first-wanted.true)))
    c.bad_field-other_version.ensures e

pub returns-clause-ok : goal.returns-clause-ok
unfolding parse_version
returns-clause-ok c = read_passed _ _ c.in_ok-first.ensures.ok
    (eq-eqb _ _ (c.if-first-wanted.false ∙ c.version_byte-wanted.ensures ∙ ap version_byte c.version.ensures))
