use Rattle.std.proofs.Common.{Err, [], codes, sym, subst, ap, ◌∙◌}
use Rattle.hex.specs.Hex.{IsBytes}
use Rattle.iss_request.specs.Formats.{parse_value, spell_value}
use Rattle.iss_request.proofs.OneSpelling.{value_grammar}
use Rattle.iss_audit.specs.Exports.{hex_line}
use Rattle.iss_audit.proofs.LineLemmas.{found-bytes, line-is, line-not}
use Rattle.iss_audit.proofs.lines.value_in.Goals as goal

pub returns-in-Ok : goal.returns-in-Ok
returns-in-Ok c =
    let found = found-bytes (codes "value") c.args.line.now c.in-Some.bytes c.in_ok-bytes.field-0 c.in-Some.is c.in_ok-bytes.ensures in
    let same = sym c.as_slice.ensures in
    line-is (spell_value c.args.version) (parse_value c.args.version) (codes "value") c.args.line.now c.as_slice.result.now c.in-Ok.value (found.0 ∙ ap (hex_line (codes "value")) same) (subst IsBytes same found.1) c.in-Ok.ensures.ok ((value_grammar c.args.version).only c.as_slice.result.now [] c.in-Ok.value c.in-Ok.ensures.ok)

pub returns-in-Err-BadField : goal.returns-in-Err-BadField
returns-in-Err-BadField c =
    let found = found-bytes (codes "value") c.args.line.now c.in-Some.bytes c.in_ok-bytes.field-0 c.in-Some.is c.in_ok-bytes.ensures in
    let same = sym c.as_slice.ensures in
    line-not (spell_value c.args.version) (parse_value c.args.version) (codes "value") c.args.line.now c.as_slice.result.now c.in-Err-BadField.field-0-0 (found.0 ∙ ap (hex_line (codes "value")) same) (subst IsBytes same found.1) (c.in-Err-BadField.ensures.bad c.in-Err-BadField.field-0-0 (ap Err c.in-Err-BadField.field-0-is))
