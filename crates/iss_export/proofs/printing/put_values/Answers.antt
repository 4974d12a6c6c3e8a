use Rattle.std.proofs.Common.{◌∙◌, ◌++◌, ◌∷◌, [], List, append-nil, append_assoc, arith, ap, sym, take}
use Rattle.std.proofs.lemmas.List.{take_more}
use Rattle.iss_request.specs.declared.requests.Value.{Value}
use Rattle.iss_export.proofs.CertifiedLemmas.{printed-more, printed-same}
use Rattle.iss_export.proofs.printing.put_values.Goals as goal

pub loop-value-init : goal.loop-value-init
loop-value-init c = λ log text start lines.
    printed-same log (log ++ []) text c.args.out.now.items c.args.start (sym (append-nil log)) (record { lines = lines; place = start })

pub loop-value-preserved : goal.loop-value-preserved
loop-value-preserved c = λ log text start lines.
    let xs = c.args.values.now in
    let i = c.loop-value.value-index in
    let v = c.value-item.result in
    let more = take_more xs i v (omega (arith, c.loop-value-test.true)) ∙ ap (λ (u : Value). take i xs ++ u ∷ []) (sym c.value-item.is) in
    let next = append_assoc log (take i xs) (v ∷ []) ∙ ap (λ (vs : List Value). log ++ vs) (sym more) in
    printed-same _ _ text _ _ next
    (printed-more (log ++ take i xs) text c.loop-value.out.items c.put_slot.new.out.items c.loop-value.place c.in_ok-place.place v (c.loop-value.invariant log text start lines) c.in_ok-put_slot.ensures c.in_ok-place.ensures)
