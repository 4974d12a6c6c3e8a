-- What is seen of a world: set-up, kept nodes over their disks, network, books, why the run ended, and whether memory
-- ran out.
use Rattle.std.specs.Prelude.{ℕ, ◌<◌, Bool, List, [], ◌∷◌, Option}
use Rattle.iss_network.specs.Network.{Network}
use Rattle.iss_network.specs.declared.packets.Sent.{Sent}
use Rattle.iss_disk.specs.declared.memory.MemoryDisk.{MemoryDisk}
use Rattle.iss_keep.specs.State.{KeptState}
use Rattle.iss_request.specs.declared.setups.Setup.{Setup}
use Rattle.iss_world.specs.declared.ends.Evidence.{Evidence}

pub record SimulationState (M Msg : Type 0) : Type 0 where
  pub setup : Setup
  -- The cores, ascending, each with its own disk.
  pub nodes : List (KeptState M Msg MemoryDisk)
  pub network : Network
  -- The statements that correct nodes signed, each after its node's identity. Then the strings that were hashed, each
  -- with its digest.
  pub signed : List (List ℕ)
  pub hashed : List (List ℕ × List ℕ)

-- The same simulation with this network.
abbrev pub with_network : {M Msg : Type 0} → SimulationState M Msg → Network → SimulationState M Msg
with_network v network = record v { network = network }

pub record WorldState (M Msg : Type 0) : Type 0 where
  pub simulation : SimulationState M Msg
  -- The evidence that stopped the run, if any.
  pub ended : Option Evidence
  -- Memory ran out in an event, so nothing is known about the rest.
  pub stale : Bool

-- All packets go between cores below n.
abbrev pub AreBetweenCores : ℕ → List Sent → Type 0
AreBetweenCores n [] = Unit {0}
AreBetweenCores n (p ∷ ps) = (p.from < n) × (p.to < n) × AreBetweenCores n ps
