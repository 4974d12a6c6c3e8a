use Rattle.std.proofs.Common.{sym, ◌∙◌}
use Rattle.iss_sb.proofs.Slots.{place-In}
use Rattle.sb_chained.proofs.state.Node.may_cast.Goals as goal

pub returns-clause-inside : goal.returns-clause-inside
returns-clause-inside c t = place-In c.args.slot c.args.p.now.slots c.len.result (sym c.is_next.ensures ∙ t)
