-- What each handler of HotStuff's code does, over any state that the code keeps: the input was taken as the
-- definitions say, and a turn was proposed or not.
use Rattle.std.specs.Prelude.{◌≡◌, [], Option, Some, None}
use Rattle.iss_sb.specs.declared.effects.Input.{Input}
use Rattle.iss_sb.specs.declared.effects.Params.{Params}
use Rattle.hs_tree.specs.declared.messages.Message.{Message}
use Rattle.sb_hotstuff.specs.declared.outcomes.Outcome.{Outcome}
use Rattle.sb_hotstuff.specs.declared.outcomes.Taken.{Taken}
use Rattle.hs_views.specs.declared.drafts.Draft.{Draft}
use Rattle.sb_hotstuff.specs.declared.state.Node.{Node}
use Rattle.sb_hotstuff.specs.Drafts.{AreDrafts}
use Rattle.sb_hotstuff.specs.HotStuff.{answers, proposals, strings, turn_strings}
use Rattle.sb_hotstuff.specs.Rules.{State, after, kept, proposed, with_turn}
use Rattle.hs_views.specs.Views.{Turn}
use Rattle.sb_hotstuff.specs.Refines.{RefinesState}

-- nothing is sent and nothing is hashed
pub record IsQuiet (o : Outcome) : Type 0 where
  pub answer : o.answer ≡ None
  pub proposal : o.proposal ≡ None
  pub hashed : o.hashed ≡ []

-- the answer is the only effect
pub record IsAnswer (d : Draft) (o : Outcome) : Type 0 where
  pub answer : o.answer ≡ Some d
  pub proposal : o.proposal ≡ None
  pub hashed : o.hashed ≡ []

-- nothing is accepted or delivered
pub record IsAlone (o : Outcome) (t : Taken) : Type 0 where
  pub outcome : t.outcome ≡ o
  pub accepted : t.accepted ≡ None
  pub delivers : t.delivers ≡ []

-- the turn, if there is one, was added to state k and proposed
pub record Proposes (p : Params) (old new : Node) (k : State) (t : Option Turn) (o : Outcome) : Type 0 where
  pub node : new.me ≡ old.me
  pub state : RefinesState new (with_turn k t)
  pub answer : o.answer ≡ None
  pub proposal : AreDrafts p o.proposal (proposals t)
  pub hashed : o.hashed ≡ turn_strings p t

-- the replica took the input in state s, as the model says
pub record Does (p : Params) (old new : Node) (s : State) (i : Input Message) (o : Outcome) : Type 0 where
  pub node : new.me ≡ old.me
  pub state : RefinesState new (after p old.me.0 s i)
  pub answer : AreDrafts p o.answer (answers p s (kept p old.me.0 s i) i)
  pub proposal : AreDrafts p o.proposal (proposals (proposed p old.me.0 s (kept p old.me.0 s i) i))
  pub hashed : o.hashed ≡ strings p old.me.0 s i
