-- What the code of chained HotStuff keeps, when it is the state of the definitions, and what its rules make.
use Rattle.std.specs.Prelude.{◌≡◌, ◌≤◌, ◌<◌, ℕ, suc, ◌+◌, ◌^◌, ◌/◌, ◌%◌, ◌&&◌, nat_le, length, Bool, List, [], Option, Some, None}
use Rattle.iss_sb.specs.declared.effects.Params.{Params}
use Rattle.iss_sb.specs.declared.content.Content.{Content}
use Rattle.hs_tree.specs.Tree.{weight}
use Rattle.sb_chained.specs.declared.outcomes.Outcome.{Outcome}
use Rattle.sb_chained.specs.declared.outcomes.Taken.{Taken}
use Rattle.hs_views.specs.declared.drafts.Draft.{Draft}
use Rattle.sb_chained.specs.declared.state.Node.{Node}
use Rattle.hs_views.specs.declared.turns.Last.{Last}
use Rattle.sb_chained.specs.Chained.{proposals, turn_strings}
use Rattle.sb_chained.specs.Drafts.{AreDrafts}
use Rattle.sb_chained.specs.Links.{Holds}
use Rattle.sb_chained.specs.Rules.{State, full_turn, is_reached, with_turn}
use Rattle.hs_views.specs.Views.{Turn, round_of}
use Rattle.sb_chained.specs.Tallies.{AreTurns}
use Rattle.hs_views.specs.Counts.{AreNews, AreVotes}

-- Bounds of a turn by the slots of its branch, which keep its view within its round. Until the branch is full, each
-- turn of a round but the first fills a slot. Three marks follow.
abbrev pub IsLow : Params → Last → Type 0
IsLow p t = t.slots < length p.slots → t.view % 65536 ≤ t.slots + 1

abbrev pub AreLow : Params → List Turn → Type 0
AreLow p ts = (round view : ℕ) → full_turn p ts round ≡ Some view →
    (view / 65536 ≡ round) × (view % 65536 ≤ suc (length p.slots))

-- the replica's value represents the state
pub record RefinesState (p : Params) (m : Node) (s : State) : Type 0 where
  pub view : m.view ≡ s.view
  pub nodes : Holds m.nodes s.tree
  pub high : m.high ≡ s.high
  pub lock : m.lock ≡ s.lock
  pub casts : m.casts ≡ s.casts
  pub turns : AreTurns p m.turns s.turns
  pub low : (t : Last) → m.turns.made.last ≡ Some t → IsLow p t
  pub full : AreLow p s.turns
  pub votes : AreVotes m.votes s.votes
  pub news : AreNews m.news s.news

-- what is asked of a turn before it is proposed
pub record MayMake (p : Params) (k : State) (view slots : ℕ) (what : Content) : Type 0 where
  pub small : weight what + slots < 2 ^ 64
  pub low : weight what + slots < length p.slots → view % 65536 ≤ weight what + slots + 1
  pub fresh : full_turn p k.turns (view / 65536) ≡ None → view % 65536 ≤ suc (length p.slots)

-- the last turn is certified, and the replica is in no later round
abbrev pub is_last_ready : Params → State → Last → Bool
is_last_ready p s t = is_reached p s t.view t.digest && nat_le (round_of s.view) (round_of t.view)

-- nothing is sent and nothing is hashed
pub record IsQuiet (o : Outcome) : Type 0 where
  pub draft : o.draft ≡ None
  pub hashed : o.hashed ≡ []

-- the message is the only effect
pub record IsDrafted (d : Draft) (o : Outcome) : Type 0 where
  pub draft : o.draft ≡ Some d
  pub hashed : o.hashed ≡ []

-- nothing is accepted or delivered
pub record IsAlone (o : Outcome) (t : Taken) : Type 0 where
  pub outcome : t.outcome ≡ o
  pub accepted : t.accepted ≡ None
  pub delivers : t.delivers ≡ []

-- the turn, if there is one, was added to state k and proposed
pub record Proposes (p : Params) (old new : Node) (k : State) (t : Option Turn) (o : Outcome) : Type 0 where
  pub node : new.me ≡ old.me
  pub state : RefinesState p new (with_turn k t)
  pub draft : AreDrafts p o.draft (proposals t)
  pub hashed : o.hashed ≡ turn_strings p t
