use Rattle.std.proofs.Common.{◌∙◌, ◌+◌, ◌*◌, ◌<◌, ap, arith, length}
use Rattle.iss_audit.specs.Digits.{is_digit}
use Rattle.iss_audit.proofs.DigitLemmas.{decode-start, decode-step, first-seen, second-seen}
use Rattle.iss_audit.proofs.digits.decode.Goals as goal

pub bytes-init : goal.bytes-init
bytes-init c = decode-start c.args.word.now c.args.bytes.now

pub value_of-requires : goal.value_of-requires
value_of-requires c =
    let fits : 2 * c.bytes.place + 1 < length c.args.word.now = omega arith in
    ap is_digit (first-seen c.args.word.now c.bytes.place fits) ∙ c.requires.digits (2 * c.bytes.place) (omega arith)

pub value_of-requires-in-bytes : goal.value_of-requires-in-bytes
value_of-requires-in-bytes c =
    let fits : 2 * c.bytes.place + 1 < length c.args.word.now = omega arith in
    ap is_digit (second-seen c.args.word.now c.bytes.place fits) ∙ c.requires.digits (2 * c.bytes.place + 1) fits

pub bytes-preserved : goal.bytes-preserved
bytes-preserved c =
    let fits : 2 * c.bytes.place + 1 < length c.args.word.now = omega arith in
    let first = c.value_of.ensures.digit ∙ first-seen c.args.word.now c.bytes.place fits in
    let second = c.value_of-in-bytes.ensures.digit ∙ second-seen c.args.word.now c.bytes.place fits in
    decode-step c.args.word.now c.bytes.bytes c.bytes.place c.value_of.result c.value_of-in-bytes.result fits (omega arith) c.value_of.ensures.small c.value_of-in-bytes.ensures.small first second c.bytes.invariant
