-- Bodies that are sent, under the statements of chained HotStuff.
use Rattle.std.specs.Prelude.{List, Option}
use Rattle.iss_sb.specs.declared.effects.Params.{Params}
use Rattle.iss_sb.specs.declared.effects.To.{To}
use Rattle.hs_tree.specs.declared.messages.Body.{Body}
use Rattle.hs_tree.specs.Tree.{chained as form}
use Rattle.hs_views.specs.declared.drafts.Draft.{Draft}
use Rattle.hs_views.specs.Drafts as Drafts

abbrev pub IsDraft : Params → Draft → List (To × Body) → Type 0
IsDraft p d xs = Drafts.IsDraft form p d xs

abbrev pub AreDrafts : Params → Option Draft → List (To × Body) → Type 0
AreDrafts p d xs = Drafts.AreDrafts form p d xs
