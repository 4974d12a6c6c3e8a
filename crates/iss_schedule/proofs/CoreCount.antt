-- The number of cores.
use Rattle.std.proofs.Common.{ℕ, ◌≤◌, List, length, ap, arith}
use Rattle.iss_request.specs.Setup.{IsFewFaulty, IsGoodSetup}
use Rattle.iss_request.specs.declared.ids.NodeId.{NodeId}
use Rattle.iss_request.specs.declared.setups.Kind.{Kind}
use Rattle.iss_request.specs.declared.setups.Kind.TheVariants.{Byzantine, Stopping}
use Rattle.iss_request.specs.declared.setups.Setup.{Setup}
use Rattle.iss_schedule.specs.Cores.{cores_of}

few_twins : (k : Kind) (f : ℕ) (is : List NodeId) → IsFewFaulty k f is → length is ≤ f
few_twins Byzantine f is h = h
few_twins Stopping f is h = let none = ap length h in omega (arith, none)

pub twins_fit : (s : Setup) → IsGoodSetup s → length s.faulty ≤ 3
twins_fit s g = let few = few_twins s.kind s.f s.faulty g.few_faulty in omega (arith, few, g.faults)

pub nodes_fit : (s : Setup) → IsGoodSetup s → s.n ≤ 64
nodes_fit s g = omega (arith, g.epoch_low, g.epoch_high)

pub cores_fit : (s : Setup) → IsGoodSetup s → cores_of s ≤ 67
cores_fit s g = omega (arith, twins_fit s g, nodes_fit s g)
