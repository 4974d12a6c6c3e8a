use Rattle.std.proofs.Common.{refl, sym, ◌∙◌}
use Rattle.iss_base.proofs.Lists.{none-some}
use Rattle.sb_chained.proofs.state.Node.start.Goals as goal

pub returns-clause-state : goal.returns-clause-state
returns-clause-state c p = record {
  view = refl;
  nodes = c.new.ensures;
  high = refl;
  lock = refl;
  casts = c.new-2.ensures;
  turns = c.new-3.ensures p;
  low = λ t e. absurd (none-some t (sym (c.new-3.ensures p).made.last ∙ e));
  full = λ round view e. absurd (none-some view e);
  votes = c.new-4.ensures;
  news = c.new-5.ensures;
}
