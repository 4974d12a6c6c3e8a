-- Messages before they are signed, as the code makes them, each with its statement.
use Rattle.std.specs.Prelude.{◌≡◌, ℕ, List, [], ◌∷◌, Option, Some, None}
use Rattle.iss_sb.specs.declared.effects.Params.{Params}
use Rattle.iss_sb.specs.declared.effects.To.{To}
use Rattle.iss_sb.specs.declared.effects.To.TheVariants.{All as To_all}
use Rattle.hs_tree.specs.declared.messages.Body.{Body}
use Rattle.hs_tree.specs.Statements.{stated}
use Rattle.hs_tree.specs.Tree.{Form}
use Rattle.hs_views.specs.declared.drafts.Draft.{Draft}
use Rattle.hs_views.specs.declared.drafts.Recipient.{Recipient}
use Rattle.hs_views.specs.declared.drafts.Recipient.TheVariants.{All as Recipient_all, Leader}
use Rattle.hs_views.specs.Sending.{to_leader}

-- the recipients: all replicas, or the leader of a round
abbrev pub to_nodes : Params → Recipient → To
to_nodes p Recipient_all = To_all
to_nodes p (Leader round) = to_leader p round

-- how many signatures the draft needs: none or one
abbrev pub count_of : Option Draft → ℕ
count_of None = 0
count_of (Some d) = 1

-- the draft is this one body with its recipient, and has its statement
pub record IsDraft (form : Form) (p : Params) (d : Draft) (xs : List (To × Body)) : Type 0 where
  pub message : xs ≡ (to_nodes p d.to, d.body) ∷ []
  pub statement : d.statement ≡ stated form p d.body

-- the optional draft is this list of bodies, which has at most one
abbrev pub AreDrafts : Form → Params → Option Draft → List (To × Body) → Type 0
AreDrafts form p None xs = xs ≡ []
AreDrafts form p (Some d) xs = IsDraft form p d xs
