-- A certificate that is shown changes the highest certificate and the lock alone.
use Rattle.std.proofs.Common.{◌≡◌, Option, Some, None, refl}
use Rattle.hs_tree.specs.declared.certificates.Certificate.{Certificate}
use Rattle.hs_tree.specs.declared.certificates.Certificate.TheVariants.{Root, Votes}
use Rattle.hs_tree.specs.Tree.{Node}
use Rattle.sb_chained.specs.Rules.{State, find, noted, with_shown}

-- the same in all else
pub record AreLike (s t : State) : Type 0 where
  pub view : t.view ≡ s.view
  pub tree : t.tree ≡ s.tree
  pub casts : t.casts ≡ s.casts
  pub turns : t.turns ≡ s.turns
  pub votes : t.votes ≡ s.votes
  pub news : t.news ≡ s.news

noted-like : (s : State) (q : Certificate) (o : Option Node) → AreLike s (noted s q o)
noted-like s q None = record { view = refl; tree = refl; casts = refl; turns = refl; votes = refl; news = refl }
noted-like s q (Some x) = record { view = refl; tree = refl; casts = refl; turns = refl; votes = refl; news = refl }

pub shown-like : (s : State) (o : Option Certificate) → AreLike s (with_shown s o)
shown-like s None = record { view = refl; tree = refl; casts = refl; turns = refl; votes = refl; news = refl }
shown-like s (Some Root) = record { view = refl; tree = refl; casts = refl; turns = refl; votes = refl; news = refl }
shown-like s (Some (Votes view phase d votes)) = noted-like s (Votes view phase d votes) (find s.tree d)
