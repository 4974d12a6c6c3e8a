use Rattle.std.proofs.Common.{◌≡◌, ◌≤◌, ◌∙◌, sym, length, ap, subst, cond, eqb, Some, None, arith, is_some, false}
use Rattle.iss_log.specs.LogState.{LogState, value_at, ahead_at}
use Rattle.iss_base.proofs.Lists.{same_number}
use Rattle.iss_log.proofs.LogLemmas.{filled_at, empty_at}
use Rattle.iss_log.proofs.log.Log.fill.Goals as goal

pub returns : goal.returns
returns c =
    let es = c.self.inside.values.items in
    let ahead = c.self.inside.ahead.entries in
    let slot = c.args.slot.0 in
    let past : length es ≤ slot = omega (arith, c.len.ensures) in
    let free : is_some (ahead_at ahead slot) ≡ false = sym c.contains_key.ensures ∙ c.if-contains_key.false in
    record {
      was_empty = subst (λ (l : LogState). value_at l slot ≡ None) c.self.view_is (empty_at es ahead slot past free);
      values = λ s. subst (λ (l : LogState). value_at (record { entries = es; ahead = c.insert.new.self.entries }) s ≡ cond (eqb slot s) (Some c.args.value) (value_at l s)) c.self.view_is
          (filled_at es slot s c.args.value (ahead_at ahead s) (ahead_at c.insert.new.self.entries s) past
          (c.in_ok-insert.ensures.updates.0 s ∙ ap (λ b. cond b (Some c.args.value) (ahead_at ahead s)) (same_number slot s)));
      entries = ap (λ (l : LogState). l.entries) c.self.view_is;
    }
