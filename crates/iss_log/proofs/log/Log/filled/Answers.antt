use Rattle.std.proofs.Common.{◌≤◌, length, subst, IsTrue, IsSome, ◌↔◌, arith}
use Rattle.iss_log.specs.LogState.{LogState, value_at}
use Rattle.iss_log.proofs.LogLemmas.{filled_means}
use Rattle.iss_log.proofs.log.Log.filled.Goals as goal

pub returns-else-slot-len : goal.returns-else-slot-len
returns-else-slot-len c =
    let es = c.self.inside.values.items in
    let past : length es ≤ c.args.slot.0 = omega (arith, c.len.ensures) in
    subst (λ (l : LogState). IsTrue c.contains_key.result ↔ IsSome (value_at l c.args.slot.0)) c.self.view_is
    (filled_means es c.self.inside.ahead.entries c.args.slot.0 c.contains_key.result past c.contains_key.ensures)
