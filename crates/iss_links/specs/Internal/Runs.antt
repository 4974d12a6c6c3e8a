-- Runs of links that record their frames: which fragments an end takes in a list of calls, and that each packet which a
-- take gives is joined of them.
use Rattle.std.specs.Prelude.{◌≡◌, ℕ, ◌==◌, List, [], ◌∷◌, ◌++◌, take, Some, if◌then◌else◌}
use Rattle.iss_links.specs.Frames.{Fragment}
use Rattle.iss_links.specs.Reassembly.{IsOutcome}
use Rattle.iss_links.specs.Ends.{End, IsArrival, after_send, after_take, empty_end, end_at}
use Rattle.iss_links.specs.Joined.{IsJoined}
use Rattle.iss_links.specs.declared.links.Arrival.{Arrival}

-- a call that succeeds: a send (sender, number, end, packet), or a take at an end
pub data LinkCall : Type 0 where
  sends : ℕ → ℕ → ℕ → List ℕ → LinkCall
  takes : ℕ → LinkCall

-- the ends after these calls, newest first
abbrev pub ends_after : List End → List LinkCall → List End
ends_after start [] = start
ends_after start (sends from number to packet ∷ calls) = after_send from number to packet (ends_after start calls)
ends_after start (takes at ∷ calls) = after_take at (ends_after start calls)

-- the fragments that end i took in these calls, newest first
abbrev pub taken_at : List End → ℕ → List LinkCall → List Fragment
taken_at start i [] = []
taken_at start i (sends from number to packet ∷ calls) = taken_at start i calls
taken_at start i (takes at ∷ calls) =
    (if at == i then take 1 (end_at (ends_after start calls) i).waiting else []) ++ taken_at start i calls

-- the take at end i takes this fragment, and the packet is joined of it and of what the end took before
pub record IsTakenAndJoined (start : List End) (calls : List LinkCall) (i : ℕ) (packet : List ℕ) : Type 0 where
  pub fragment : Fragment
  pub taken : taken_at start i (takes i ∷ calls) ≡ fragment ∷ taken_at start i calls
  pub joined : IsJoined (fragment ∷ taken_at start i calls) fragment packet

-- whatever calls were made, beginning with empty ends
-- rule: Links: A packet that arrives is joined of frames that its end took, of each part the first
abbrev pub TakesAreJoined : Type 0
TakesAreJoined = (start : List End) (calls : List LinkCall) (i : ℕ) (arrival : Arrival) (packet : List ℕ)
    → ((k : ℕ) → end_at start k ≡ empty_end) → IsArrival i (ends_after start calls) arrival
    → IsOutcome (Some packet) arrival → IsTakenAndJoined start calls i packet
