-- The network: every packet that was sent, in order, the numbers of those that wait, and which cores are held. A pump
-- delivers what waits for cores that are not held. A packet may be delivered again.
use Rattle.std.specs.Prelude.{ℕ, ◌==◌, cond, Bool, false, List, [], ◌∷◌, ◌++◌, length, Option, Some, None, replicate, slice_set}
use Rattle.iss_base.specs.Lists.{nth}
use Rattle.iss_network.specs.declared.packets.Sent.{Sent}

pub record Network : Type 0 where
  -- packet k is the k-th, from 0
  pub packets : List Sent
  -- the numbers of the packets that wait, ascending
  pub waits : List ℕ
  -- for each core whether it is held
  pub held : List Bool

abbrev pub empty_network : ℕ → Network
empty_network cores = record { packets = []; waits = []; held = replicate cores false }

-- a packet is sent, and waits
abbrev pub posted : Network → Sent → Network
posted w p = record w { packets = w.packets ++ p ∷ []; waits = w.waits ++ length w.packets ∷ [] }

abbrev pub without : ℕ → List ℕ → List ℕ
without k [] = []
without k (x ∷ xs) = cond (k == x) (without k xs) (x ∷ without k xs)

-- packet k stops waiting
abbrev pub settled : Network → ℕ → Network
settled w k = record w { waits = without k w.waits }

-- whether packet k is for core c
abbrev pub is_for : Option Sent → ℕ → Bool
is_for None c = false
is_for (Some p) c = p.to == c

abbrev pub not_for : List Sent → ℕ → List ℕ → List ℕ
not_for packets c [] = []
not_for packets c (k ∷ ks) = cond (is_for (nth packets k) c) (not_for packets c ks) (k ∷ not_for packets c ks)

-- all packets for core c stop waiting
-- rule: Network: A drop ends the waiting of all packets for a core
abbrev pub cleared : Network → ℕ → Network
cleared w c = record w { waits = not_for w.packets c w.waits }

-- a pump skips core c, or does not
-- rule: Network: Pumps pass over a core that is held
abbrev pub held_to : Network → ℕ → Bool → Network
held_to w c b = record w { held = slice_set w.held c b }

abbrev pub flag_at : Option Bool → Bool
flag_at None = false
flag_at (Some b) = b

abbrev pub is_held : List Bool → Option Sent → Bool
is_held held None = false
is_held held (Some p) = flag_at (nth held p.to)

abbrev pub not_held : List Sent → List Bool → List ℕ → List ℕ
not_held packets held [] = []
not_held packets held (k ∷ ks) = cond (is_held held (nth packets k)) (not_held packets held ks)
    (k ∷ not_held packets held ks)

-- what a pump delivers now: the packets that wait for cores that are not held, ascending
-- rule: Network: A pump takes what waits for cores that are not held, in ascending order
abbrev pub due : Network → List ℕ
due w = not_held w.packets w.held w.waits
