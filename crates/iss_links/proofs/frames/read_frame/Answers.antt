use Rattle.std.proofs.Common.{rules, ◌≡◌, ◌∙◌, sym, ap, List, ℕ, length, take, drop, ◌-◌}
use Rattle.iss_links.specs.Frames.{is_part}
use Rattle.iss_links.proofs.FrameLemmas.{no-frame, some-frame}
use Rattle.iss_links.proofs.frames.read_frame.Goals as goal

pub returns-then-not-is_part-clause-none : goal.returns-then-not-is_part-clause-none
returns-then-not-is_part-clause-none c = λ _.
    no-frame c.args.datagram.now c.short-part.result c.short-parts.result (search rules) (search rules) c.short-part.ensures c.short-parts.ensures (sym c.is_part.ensures ∙ c.if-not-is_part.true)

pub returns-clause-some : goal.returns-clause-some
returns-clause-some c =
    let bytes : c.in_ok-from_slice.field-0.items ≡ take (length c.args.datagram.now - 17) (drop 17 c.args.datagram.now) = search rules in (
      some-frame c.args.datagram.now c.wide-number.result c.short-part.result c.short-parts.result c.in_ok-from_slice.field-0.items c.if-datagram-lt-HEAD.false c.wide-number.ensures c.short-part.ensures c.short-parts.ensures bytes,
      record {
        from_fits = search rules;
        number_fits = search rules;
        parts_fit = search rules;
        is_one = ap (λ (xs : List ℕ). is_part c.short-part.result c.short-parts.result (length xs)) bytes ∙ sym c.is_part.ensures ∙ c.if-not-is_part.false;
      },
    )
