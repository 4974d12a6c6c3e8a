use Rattle.std.proofs.Common.{◌<◌, ◌++◌, ◌∷◌, ◌∙◌, [], ap, arith, length, subst, sym, take}
use Rattle.std.proofs.lemmas.List.{take_more}
use Rattle.hex.specs.Hex.{IsBytes}
use Rattle.iss_request.specs.Formats.{spell_value}
use Rattle.iss_request.specs.declared.requests.Value.{Value}
use Rattle.iss_audit.specs.Exports.{AreBytes}
use Rattle.iss_audit.proofs.ReadLemmas.{all-push}
use Rattle.iss_audit.proofs.WriteLemmas.{value-written}
use Rattle.iss_audit.proofs.writing.put_values.Goals as goal

pub loop-value-preserved : goal.loop-value-preserved
loop-value-preserved c =
    let vs = c.args.values.now in
    let i = c.loop-value.value-index in
    let v = c.value-item.result in
    let lt : i < length vs = omega (arith, c.loop-value-test.true) in
    let more = take_more vs i v lt ∙ ap (λ (u : Value). take i vs ++ u ∷ []) (sym c.value-item.is) in
    record {
      lines = value-written c.args.version (take i vs) _ v c.args.out.now.items c.loop-value.out.items c.put_value.new.out.items more c.loop-value.invariant.lines c.in_ok-put_value.ensures.line;
      bytes = subst (AreBytes c.args.version) (sym more) (all-push (λ (u : Value). IsBytes (spell_value c.args.version u)) (take i vs) v c.loop-value.invariant.bytes c.in_ok-put_value.ensures.bytes);
    }
