-- How the code keeps a network: a flag for each packet that says whether it waits, and for each core a queue of packet
-- numbers. Numbers that no longer wait are dropped late.
use Rattle.std.specs.Prelude.{ℕ, ◌<◌, ◌≡◌, cond, Bool, true, false, List, [], ◌∷◌, length, filter, Some, slice_set, slice_index_or}
use Rattle.std.specs.List.{list_all}
use Rattle.iss_base.specs.Lists.{nth, below}
use Rattle.iss_network.specs.declared.packets.Sent.{Sent}
use Rattle.iss_network.specs.Network.{Network, flag_at, is_for}

-- whether packet k waits
abbrev pub is_set : List Bool → ℕ → Bool
is_set flags k = flag_at (nth flags k)

-- the packets that wait, ascending
abbrev pub flagged : List Bool → List ℕ
flagged flags = filter (is_set flags) (below (length flags))

-- the flags, with these packets no longer waiting
abbrev pub cleared_flags : List ℕ → List Bool → List Bool
cleared_flags [] flags = flags
cleared_flags (k ∷ ks) flags = cleared_flags ks (slice_set flags k false)

-- whether packet k is for core c
abbrev pub for_core : List Sent → ℕ → ℕ → Bool
for_core packets c k = is_for (nth packets k) c

-- A core's queue holds only packets for that core, and all of those that wait.
abbrev pub IsKept : List Sent → List Bool → List (List ℕ) → List Bool → Type 0
IsKept packets flags queues held =
    (length flags ≡ length packets)
    × (length queues ≡ length held)
    × ((k : ℕ) (p : Sent) → nth packets k ≡ Some p → p.to < length held)
    × ((c : ℕ) → c < length queues → list_all (for_core packets c) (slice_index_or queues c []) ≡ true)
    × ((c : ℕ) → c < length queues →
    filter (is_set flags) (slice_index_or queues c []) ≡ filter (for_core packets c) (flagged flags))

-- the packets that wait for core c, unless it is held
abbrev pub gathered : Network → ℕ → List ℕ
gathered w c = cond (flag_at (nth w.held c)) [] (filter (for_core w.packets c) w.waits)
