-- What HotStuff's code keeps, and when it is the state of the definitions.
use Rattle.std.specs.Prelude.{◌≡◌, ◌≤◌, ◌+◌, ◌/◌, ◌%◌, ◌&&◌, nat_le, Bool, Some}
use Rattle.iss_sb.specs.declared.effects.Params.{Params}
use Rattle.hs_tree.specs.Known.{Keeps}
use Rattle.hs_tree.specs.Tree.{basic}
use Rattle.sb_hotstuff.specs.declared.state.Node.{Node}
use Rattle.hs_views.specs.declared.turns.Last.{Last}
use Rattle.sb_hotstuff.specs.Rules.{State, is_reached}
use Rattle.hs_views.specs.Views.{round_of}
use Rattle.hs_views.specs.Turns.{AreTurns}
use Rattle.hs_views.specs.Counts.{AreNews, AreVotes}

-- Bounds of a turn by the slots of its branch, which keep its view within its round. In each round every turn but the
-- first fills a slot; in round 0 the first one does, too.
pub record IsLow (t : Last) : Type 0 where
  pub turn : t.view % 65536 ≤ t.slots + 1
  pub first : t.view / 65536 ≡ 0 → t.slots ≤ t.view

-- the replica's value represents the state
pub record RefinesState (m : Node) (s : State) : Type 0 where
  pub view : m.view ≡ s.view
  pub tree : Keeps m.tree s.tree
  pub high : m.high ≡ s.high
  pub lock : m.lock ≡ s.lock
  pub second : m.second ≡ s.second
  pub third : m.third ≡ s.third
  pub casts : m.casts ≡ s.casts
  pub turns : AreTurns m.turns s.turns
  pub low : (t : Last) → m.turns.last ≡ Some t → IsLow t
  pub votes : AreVotes m.votes s.votes
  pub news : AreNews m.news s.news

-- the last turn's prepareQC and commitQC were broadcast, and the replica is in no later round
abbrev pub is_last_ready : Params → State → Last → Bool
is_last_ready p s t = (is_reached p s 1 t.view t.digest && is_reached p s basic.phases t.view t.digest) &&
    nat_le (round_of s.view) (round_of t.view)
