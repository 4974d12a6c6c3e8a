use Rattle.std.proofs.Common.{◌≡◌, ◌-◌, ◌++◌, ◌∷◌, [], ◌∙◌, sym, ap, subst, List, length, None, arith, length-append}
use Rattle.iss_request.specs.declared.requests.Value.{Value}
use Rattle.iss_log.specs.LogState.{LogState, ahead_at}
use Rattle.iss_log.proofs.LogLemmas.{on_err, IsAdvancing, advancing_none, advancing_more, advanced}
use Rattle.iss_log.proofs.log.Log.advance.Goals as goal

pub run-init : goal.run-init
run-init c = advancing_none c.args.self.now

pub run-preserved : goal.run-preserved
run-preserved c =
    advancing_more c.args.self.now c.run.self c.join.new.self c.in-Some.value c.take_next.new.self.ahead c.run.invariant
    (sym c.take_next.ensures.value ∙ c.in-Some.is) c.take_next.ensures.others
    (c.in_ok-join.ensures.ok ∙ ap (λ (xs : List Value). record { entries = xs ++ c.in-Some.value ∷ []; ahead = c.take_next.new.self.ahead }) c.take_next.ensures.entries)

pub returns-in_err-join-clause-err : goal.returns-in_err-join-clause-err
returns-in_err-join-clause-err c =
    let same = ap (λ (l : LogState). l.entries) c.in_err-join.ensures.err in
    on_err c.from_residual.result (c.run.invariant.joined, same ∙ c.take_next.ensures.entries ∙ c.run.invariant.entries)

pub returns-clause-ok : goal.returns-clause-ok
returns-clause-ok c =
    let same : c.take_next.new.self ≡ c.run.self = c.in_default.ensures.none in
    let none : ahead_at c.run.self.ahead (length c.run.self.entries) ≡ None = sym c.take_next.ensures.value ∙ c.in_default.is in
    let entries : c.self.inside.values.items ≡ c.args.self.now.entries = ap (λ (l : LogState). l.entries) c.self.view_is in
    let entries-2 : c.self-2.inside.values.items ≡ c.take_next.new.self.entries = ap (λ (l : LogState). l.entries) c.self-2.view_is in
    let so_far : IsAdvancing c.args.self.now c.take_next.new.self = subst (λ (l : LogState). IsAdvancing c.args.self.now l) (sym same) c.run.invariant in
    let long = ap length entries in
    let long-2 = ap length entries-2 in
    let none-2 : ahead_at c.take_next.new.self.ahead (length c.take_next.new.self.entries) ≡ None = subst (λ (l : LogState). ahead_at l.ahead (length l.entries) ≡ None) (sym same) none in
    let grown = ap length so_far.entries ∙ length-append c.args.self.now.entries so_far.joined in
    advanced c.args.self.now c.take_next.new.self (c.len.result - c.len-before.result) so_far none-2 (omega (arith, c.len.ensures, c.len-before.ensures, grown))
