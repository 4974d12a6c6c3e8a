-- Messages that are sent: to whom, and signed with the next leaves. Common to HotStuff and its chained form.
use Rattle.std.specs.Prelude.{ℕ, suc, List, [], ◌∷◌}
use Rattle.iss_sb.specs.declared.effects.Params.{Params}
use Rattle.iss_sb.specs.declared.effects.To.{To}
use Rattle.iss_sb.specs.declared.effects.To.TheVariants.{One as To_one}
use Rattle.iss_sb.specs.Statements.{signature}
use Rattle.hs_tree.specs.declared.messages.Message.{Message}
use Rattle.hs_tree.specs.declared.messages.Body.{Body}
use Rattle.hs_tree.specs.declared.messages.Body.TheVariants.{Vote}
use Rattle.hs_tree.specs.Messages.{signed}
use Rattle.hs_tree.specs.Statements.{stated}
use Rattle.hs_tree.specs.Tree.{Form}
use Rattle.hs_views.specs.Views.{leader_of, round_of}

abbrev pub to_leader : Params → ℕ → To
to_leader p round = To_one (record { 0 = leader_of p round })

-- a vote, to the leader of the view's round
abbrev pub vote_for : Params → ℕ → ℕ → List ℕ → List (To × Body)
vote_for p phase view d = (to_leader p (round_of view), Vote phase view d) ∷ []

-- signs each body with the next leaf, from this one on
abbrev pub signed_from : Form → Params → ℕ → ℕ → List (To × Body) → List (To × Message)
signed_from form p me leaf [] = []
signed_from form p me leaf (x ∷ xs) =
    (x.0, signed x.1 (signature p me leaf (stated form p x.1))) ∷ signed_from form p me (suc leaf) xs
