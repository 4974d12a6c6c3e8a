use Rattle.std.proofs.Common.{◌≡◌, subst, cond, None, length, eqb, arith}
use Rattle.iss_log.specs.LogState.{LogState, ahead_at}
use Rattle.iss_log.proofs.LogLemmas.{without_here}
use Rattle.iss_log.proofs.log.Log.take_next.Goals as goal

pub returns-clause-others : goal.returns-clause-others
returns-clause-others c = λ s.
    let next : c.len.result ≡ length c.self.inside.values.items = omega (arith, c.len.ensures) in
    subst (λ (l : LogState). ahead_at c.remove.new.self.entries s ≡ cond (eqb (length l.entries) s) None (ahead_at l.ahead s)) c.self.view_is
    (without_here c.self.inside.ahead.entries c.remove.new.self.entries c.len.result (length c.self.inside.values.items) s (c.remove.ensures.updates.0 s) next)
