use Rattle.std.proofs.Common.{◌∙◌, arith, rules, sym}
use Rattle.std.proofs.lemmas.Bool.{iff_false}
use Rattle.iss_schedule.proofs.HeaderTable.LineDeterminesFaultyNodes.{faulty_reads, faulty_unread, no_words}
use Rattle.iss_schedule.proofs.faulty.nodes_of.Goals as goal

pub returns-then-is_done : goal.returns-then-is_done
returns-then-is_done c =
    faulty_unread c.args.bounds.most c.args.bounds.n c.args.line.now c.in-Some.word.now c.next.new.self
    (omega (arith, c.args.bounds.bytes)) (sym c.of-words.ensures ∙ c.in-Some.ensures.some)
    (iff_false c.is_same.ensures c.if-is_same.false)
    (λ named js few some e. some (no_words js (sym e ∙ c.is_done.ensures.0 c.if-is_done.true)))

pub returns : goal.returns
returns c =
    faulty_reads c.args.bounds.most c.args.bounds.n c.args.line.now c.in-Some.word.now c.next.new.self c.nodes_in.result
    (omega (arith, c.args.bounds.bytes)) (sym c.of-words.ensures ∙ c.in-Some.ensures.some)
    (iff_false c.is_same.ensures c.if-is_same.false) (c.is_same-2.ensures.0 (search rules))
    (iff_false c.is_done.ensures c.if-is_done.false) c.nodes_in.ensures
