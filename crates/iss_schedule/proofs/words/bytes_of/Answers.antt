use Rattle.std.proofs.Common.{length, sym, ap, ◌∙◌, arith, inl, inr}
use Rattle.std.proofs.lemmas.Bool.{iff_false, eqb-true, eqb-false}
use Rattle.hex.proofs.HexLemmas.{decode_of-same}
use Rattle.iss_schedule.proofs.Encoding.HexIsInjective.{word_is_long, decoded, is_word, is_encoding}
use Rattle.hex.specs.Hex.{encode_lower}
use Rattle.iss_schedule.proofs.words.bytes_of.Goals as goal

pub returns-then-is_empty-clause-none : goal.returns-then-is_empty-clause-none
returns-then-is_empty-clause-none c = λ bytes fits e.
    let none = eqb-true (length c.args.word.now) 0 (sym c.is_empty.ensures ∙ c.if-is_empty.true) in
    let long = word_is_long bytes in
    let same = ap length e in
    omega arith

pub returns-in_default : goal.returns-in_default
returns-in_default c = record {
  some = tt;
  none = λ bytes fits e.
      let ok = decoded c.args.word.now bytes (iff_false c.is_same.ensures c.if-is_same.false) fits e in
      elim c.in-Err.ensures.err [
        | inl memory ↦ c.in_default.not-OutOfMemory memory
        | inr bad ↦ cc (sym bad ∙ ok)
      ];
}

pub returns-then-is_same-2-clause-some : goal.returns-then-is_same-2-clause-some
returns-then-is_same-2-clause-some c =
    is_word c.args.word.now c.in-Ok.bytes.items
    (λ e. eqb-false (length c.args.word.now) 0 (sym c.is_empty.ensures ∙ c.if-is_empty.false) e)
    (sym (c.is_same-2.ensures.0 c.if-is_same-2.true) ∙ c.as_bytes.ensures.value ∙ c.in_ok-again.ensures)

pub returns-clause-none : goal.returns-clause-none
returns-clause-none c = λ bytes fits e.
    let other = iff_false c.is_same.ensures c.if-is_same.false in
    let ok = decoded c.args.word.now bytes other fits e in
    let same = decode_of-same c.args.word.now c.in-Ok.bytes.items bytes c.in-Ok.ensures.ok ok in
    iff_false c.is_same-2.ensures c.if-is_same-2.false
    (c.as_bytes.ensures.value ∙ c.in_ok-again.ensures ∙ ap encode_lower same
    ∙ sym (is_encoding c.args.word.now bytes other e))
