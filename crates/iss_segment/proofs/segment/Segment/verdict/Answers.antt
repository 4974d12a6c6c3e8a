use Rattle.std.proofs.Common.{refl}
use Rattle.iss_sb.specs.Evidence.{accepts}
use Rattle.iss_rules.specs.Concrete.{rules_of}
use Rattle.iss_segment.proofs.SegmentLemmas.{verdict-at}
use Rattle.iss_segment.proofs.segment.Segment.verdict.Goals as goal

pub returns-in-Some : goal.returns-in-Some
returns-in-Some g c = rw (← c.self.view_is) (λ before xs r h. verdict-at (rules_of c.self.inside.params.setup) before c.self.inside.params.epoch.0 c.self.inside.params.leader.0 c.self.inside.marked (accepts xs) _ _ _ _ _ h.marked (c.in-Some.ensures c.self.inside.me.0 xs h.ordering) refl (rw (← c.self.view_is) at c.judge.ensures before r))
