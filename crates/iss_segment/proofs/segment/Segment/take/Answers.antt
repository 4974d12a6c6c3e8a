use Rattle.iss_segment.proofs.SegmentLemmas.{instance-taken}
use Rattle.iss_segment.proofs.segment.Segment.take.Goals as goal

pub returns-clause-step : goal.returns-clause-step
returns-clause-step g c = rw (← c.self.view_is) (instance-taken _ _ _ _ _ _ _ _ _ c.laws.ensures.lawful c.in_ok-effects.ensures c.in_ok-mark.ensures)
