-- A variant of chained HotStuff that is not safe: it commits the grandparent of a certified node whatever its view.
use Rattle.std.specs.Prelude.{ℕ, List, [], ◌∷◌, Option, Some, None}
use Rattle.iss_base.specs.Lists.{first_of}
use Rattle.iss_request.specs.declared.requests.Value.{Value}
use Rattle.iss_sb.specs.declared.effects.Input.{Input}
use Rattle.iss_sb.specs.declared.effects.Params.{Params}
use Rattle.iss_sb.specs.Calls.{IsGoodParams}
use Rattle.iss_sb.specs.Evidence.{IsReached, IsString, Item, Module, Separate, World}
use Rattle.iss_sb.specs.Laws.{IsBroadcast}
use Rattle.hs_tree.specs.declared.certificates.Certificate.{Certificate}
use Rattle.hs_tree.specs.declared.certificates.Certificate.TheVariants.{Root, Votes}
use Rattle.hs_tree.specs.declared.messages.Message.{Message}
use Rattle.hs_tree.specs.Tree.{Node}
use Rattle.sb_chained.specs.Chained.{chained, state, value_on}
use Rattle.sb_chained.specs.Rules.{State, find, shows, taken}

-- the parent of a node, of whatever view
abbrev pub parent_of : List Node → Option Node → Option Node
parent_of tree None = None
parent_of tree (Some k) = find tree k.parent

-- the grandparent of a certified node
abbrev pub loosely_committed : State → Option Certificate → Option Node
loosely_committed s None = None
loosely_committed s (Some Root) = None
loosely_committed s (Some (Votes view phase d votes)) = parent_of s.tree (parent_of s.tree (find s.tree d))

abbrev pub loosely_decides : Params → ℕ → State → Input Message → ℕ → Option Value
loosely_decides p me s i n =
    value_on p (taken p me s i) (loosely_committed (taken p me s i) (shows p me s (taken p me s i) i)) n

abbrev pub loosely_decided : Params → ℕ → List (Item Message) → ℕ → Option Value
loosely_decided p me [] n = None
loosely_decided p me (x ∷ xs) n = first_of (loosely_decided p me xs n) (loosely_decides p me (state p me xs) x.input n)

-- chained HotStuff, but for what it decides
abbrev pub loose : Module Message
loose = record chained { decided = loosely_decided }

-- a module is not safe if some reached world with collision-free strings is no broadcast
pub record IsNotSafe {M : Type 0} (m : Module M) : Type 0 where
  pub params : Params
  pub world : World M
  pub good : IsGoodParams m params
  pub reached : IsReached m params world
  pub separate : Separate (IsString world)
  pub broken : IsBroadcast m params world → ⊥
