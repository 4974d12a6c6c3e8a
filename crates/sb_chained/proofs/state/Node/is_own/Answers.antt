use Rattle.sb_chained.proofs.state.Node.is_own.Goals as goal

pub returns : goal.returns
returns c p s h = rw c.if-phase-ne-PHASE.false (c.has.ensures p s.turns h.turns)
