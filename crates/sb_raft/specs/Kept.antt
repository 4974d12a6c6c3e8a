-- What the code keeps for each peer: what was set for it, or a default.
use Rattle.std.specs.Prelude.{ℕ, Option, Some, None}
use Rattle.std.specs.BTreeMap.{get}
use Rattle.std.specs.Ordering.{nat_cmp}
use Rattle.sb_raft.specs.declared.per_peer.PerPeer.{PerPeer}

abbrev pub or_others : {T : Type 0} → Option T → T → T
or_others None others = others
or_others (Some thing) others = thing

abbrev pub kept : {T : Type 0} → PerPeer T → ℕ → T
kept m k = or_others (get nat_cmp m.set k) m.others
