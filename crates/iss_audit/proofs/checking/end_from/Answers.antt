use Rattle.std.proofs.Common.{◌++◌, ◌∷◌, [], arith, ap, sym, ◌∙◌, take}
use Rattle.std.proofs.lemmas.List.{take_more}
use Rattle.iss_log.proofs.ChainLemmas.{end-next}
use Rattle.iss_request.specs.declared.requests.Value.{Value}
use Rattle.iss_audit.proofs.checking.end_from.Goals as goal

pub loop-value-preserved : goal.loop-value-preserved
loop-value-preserved c =
    let xs = c.args.values.now in
    let i = c.loop-value.value-index in
    let v = c.value-item.result in
    let more = take_more xs i v (omega (arith, c.loop-value-test.true)) ∙ ap (λ (u : Value). take i xs ++ u ∷ []) (sym c.value-item.is) in
    end-next c.args.version c.args.start c.loop-value.end c.in_ok-end.end _ _ v c.loop-value.invariant c.in_ok-end.ensures.end more
