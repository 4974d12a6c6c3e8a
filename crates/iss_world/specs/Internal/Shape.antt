-- The invariants of a simulation and of a world, whatever happened to them: a good set-up, a kept node for each core,
-- a network between that many cores.
use Rattle.std.specs.Prelude.{◌≡◌, ℕ, false, length, None, Some, slice_get}
use Rattle.iss_model.specs.Run.{cores_of, node_of}
use Rattle.iss_rules.specs.Setups.{IsSetupOf}
use Rattle.iss_network.specs.Network.{Network}
use Rattle.iss_disk.specs.declared.memory.MemoryDisk.{MemoryDisk}
use Rattle.iss_keep.specs.State.{KeptState}
use Rattle.iss_sb.specs.Evidence.{Module}
use Rattle.iss_world.specs.State.{AreBetweenCores, SimulationState, WorldState}
use Rattle.iss_world.specs.Refines.{RefinesSome}
use Rattle.iss_sb.specs.Calls.{Relation}

-- A network between n cores.
pub record IsNetworkOf (n : ℕ) (w : Network) : Type 0 where
  pub held : length w.held ≡ n
  pub packets : AreBetweenCores n w.packets

pub record IsSimulation {M Msg : Type 0} (m : Module Msg) (v : SimulationState M Msg) : Type 0 where
  pub good : IsSetupOf m v.setup
  pub count : length v.nodes ≡ cores_of v.setup
  pub network : IsNetworkOf (cores_of v.setup) v.network
  pub setups : (i : ℕ) (g : KeptState M Msg MemoryDisk) → slice_get v.nodes i ≡ Some g → g.setup ≡ v.setup
  pub places : (i : ℕ) (g : KeptState M Msg MemoryDisk) → slice_get v.nodes i ≡ Some g → g.me.0 ≡ node_of v.setup i

-- The invariant of a world: it refines some run, unless it is stale or its run has stopped.
abbrev pub IsWorld : {M Msg : Type 0} → Module Msg → Relation M Msg → WorldState M Msg → Type 0
IsWorld m refines v = v.stale ≡ false → v.ended ≡ None → RefinesSome m refines v.simulation
