-- A node that is rebuilt from the snapshots of its journal. It refines what the model reads of the same entries: the
-- core that they lead to, and what they saved.
use Rattle.std.specs.Prelude.{◌≡◌, ℕ, suc, ◌<◌, false, true, is_some, List, [], length, Option, Some, None, reverse, take}
use Rattle.iss_model.specs.Frames.{Frame}
use Rattle.iss_node.specs.Internal.Shape.{AreFrom}
use Rattle.iss_node.specs.Saved.{saved_of}
use Rattle.iss_node.specs.State.{NodeView, RefinesCore, StateRefinesCore, StateView, seen_early}
use Rattle.iss_node.specs.declared.answers.Early.{Early}
use Rattle.iss_rebuilt.specs.Reading.{Rebuilt, rebuilt}
use Rattle.iss_rules.specs.Concrete.{rules_of}
use Rattle.iss_rules.specs.Past.{is_complete}
use Rattle.iss_sb.specs.Calls.{Relation}
use Rattle.iss_sb.specs.Evidence.{Module}

-- A node that has read snapshots, and the messages that came early with the last one.
pub record RebuildingView (M Msg : Type 0) : Type 0 where
  pub state : StateView M Msg
  pub early : List (Early Msg)

-- The state refines what was read, without the messages that came early. Its epoch begins where the last snapshot
-- ended, and it has taken nothing since.
pub record HasRead {M Msg : Type 0} (m : Module Msg) (refines : Relation M Msg) (v : StateView M Msg)
    (r : Rebuilt Msg) : Type 0 where
  pub core : StateRefinesCore m refines v (record r.core { early = [] })
  pub saved : saved_of v.saved ≡ r.saved
  pub epoch : r.core.past.epoch ≡ r.saved.from
  pub unfinished : is_complete (rules_of v.setup) m v.me.0 r.core.past ≡ false
  pub landed : r.core.flight ≡ []

pub record RefinesRebuilt {M Msg : Type 0} (m : Module Msg) (refines : Relation M Msg) (v : RebuildingView M Msg)
    (r : Rebuilt Msg) : Type 0 where
  pub read : HasRead m refines v.state r
  pub early : seen_early v.early ≡ r.core.early
  pub from : AreFrom v.state.setup.n v.early

-- The next snapshot is read as the model reads it, and refused if the model refuses it.
-- rule: Persistence: A snapshot that does not continue those before it, or has a part to be dropped, is damage
abbrev pub IsReadOn : {M Msg : Type 0} → Module Msg → Relation M Msg → Option (Rebuilt Msg) →
    Option (RebuildingView M Msg) → Type 0
IsReadOn m refines None None = Unit {0}
IsReadOn m refines None (Some v) = ⊥
IsReadOn m refines (Some r) None = ⊥
IsReadOn m refines (Some r) (Some v) = RefinesRebuilt m refines v r

-- The node refines the core that entries lead to, and notes what they saved.
-- rule: Persistence: A node is rebuilt from its snapshots, in order
-- rule: Persistence: The early messages of the last snapshot are taken next
pub record IsOf {M Msg : Type 0} (m : Module Msg) (refines : Relation M Msg) (found : Option (Rebuilt Msg))
    (node : NodeView M Msg) : Type 0 where
  pub rebuilt : Rebuilt Msg
  pub is : found ≡ Some rebuilt
  pub refined : RefinesCore m refines node rebuilt.core
  pub saved : saved_of node.state.saved ≡ rebuilt.saved

-- The entry at this index is the first of them, oldest first, that the model refuses.
pub record IsFirstBad {Msg : Type 0} (W : Frame Msg) (me : ℕ) (entries : List (List ℕ)) (index : ℕ) : Type 0 where
  pub below : index < length entries
  pub good : is_some (rebuilt W me (reverse (take index entries))) ≡ true
  pub bad : rebuilt W me (reverse (take (suc index) entries)) ≡ None
