-- Which set-ups are good: each number of a header in its range, and the node count and quorum of its kind. These are
-- 3f + 1 and 2f + 1 for Byzantine nodes, 2f + 1 and f + 1 for stopping ones, and 3 and 2 for the relay. At most f
-- nodes are named faulty, none where they only stop.
use Rattle.std.specs.Prelude.{◌≡◌, ℕ, suc, ◌+◌, ◌*◌, ◌<◌, ◌≤◌, ◌==◌, if◌then◌else◌, List, [], ◌∷◌, length}
use Rattle.iss_base.specs.Heights.{IsHeight}
use Rattle.iss_request.specs.declared.ids.NodeId.{NodeId}
use Rattle.iss_request.specs.declared.setups.Kind.{Kind}
use Rattle.iss_request.specs.declared.setups.Kind.TheVariants.{Byzantine, Stopping}
use Rattle.iss_request.specs.declared.setups.Setup.{Setup}

-- the number of nodes that tolerate f faults, and the size of a quorum
abbrev pub nodes_of_kind : Kind → ℕ → ℕ
nodes_of_kind Byzantine f = 3 * f + 1
nodes_of_kind Stopping f = 2 * f + 1

abbrev pub quorum_of_kind : Kind → ℕ → ℕ
quorum_of_kind Byzantine f = 2 * f + 1
quorum_of_kind Stopping f = f + 1

-- the relay, module 1, has three nodes, none of which may fail
abbrev pub node_count : Setup → ℕ
node_count s = if s.module == 1 then 3 else nodes_of_kind s.kind s.f

abbrev pub quorum_count : Setup → ℕ
quorum_count s = if s.module == 1 then 2 else quorum_of_kind s.kind s.f

-- at most f nodes are Byzantine, and none in the crash model
abbrev pub IsFewFaulty : Kind → ℕ → List NodeId → Type 0
IsFewFaulty Byzantine f faulty = length faulty ≤ f
IsFewFaulty Stopping f faulty = faulty ≡ []

-- nodes below n, strictly ascending, none below `from`
abbrev pub AreAscendingBelow : ℕ → ℕ → List NodeId → Type 0
AreAscendingBelow from n [] = Unit {0}
AreAscendingBelow from n (i ∷ is) = (from ≤ i.0) × (i.0 < n) × AreAscendingBelow (suc i.0) n is

-- rule: Formats: A set-up's fields are in range, and its nodes and quorum fit its fault model and f
pub record IsGoodSetup (s : Setup) : Type 0 where
  -- only the first version can be chosen
  pub version : s.version ≡ 1
  pub faults : s.f ≤ 3
  pub relay_faults : s.module ≡ 1 → s.f ≡ 0
  pub relay_kind : s.module ≡ 1 → s.kind ≡ Stopping
  pub nodes : s.n ≡ node_count s
  pub majority : s.quorum ≡ quorum_count s
  pub epoch_low : s.n ≤ s.epoch
  pub epoch_high : s.epoch ≤ 64
  pub buckets_low : 1 ≤ s.buckets
  pub buckets_high : s.buckets ≤ 256
  pub batch_low : 1 ≤ s.batch
  pub batch_high : s.batch ≤ 32
  pub window_low : 1 ≤ s.window
  pub window_high : s.window ≤ 64
  pub clients_low : 1 ≤ s.clients
  pub clients_high : s.clients ≤ 256
  pub keys_height : IsHeight s.keys
  pub few_faulty : IsFewFaulty s.kind s.f s.faulty
  pub ascending_faulty : AreAscendingBelow 0 s.n s.faulty
