-- Adding a turn, as the model does.
use Rattle.std.proofs.Common.{◌≡◌, ℕ, Bool, true, false, ◌==◌, ◌&&◌, if◌then◌else◌, List, ◌∷◌, Option, Some, None, refl, sym, ap, ◌∙◌}
use Rattle.std.specs.BTreeMap.{get}
use Rattle.std.specs.Ordering.{nat_cmp}
use Rattle.iss_base.specs.Lists.{first_of}
use Rattle.iss_sb.specs.declared.effects.Params.{Params}
use Rattle.hs_views.specs.declared.turns.Last.{Last}
use Rattle.hs_views.specs.Turns.{AreTurns as AreMade, own_of}
use Rattle.hs_views.specs.Views.{Turn, round_of}
use Rattle.sb_chained.specs.declared.turns.Turns.{Turns}
use Rattle.sb_chained.specs.Rules.{full_turn, is_full}
use Rattle.sb_chained.specs.Tallies.{AreTurns, Fills, when_full}

when-both : (f : Bool) (round view r : ℕ) → when_full f round view r ≡ (if (round == r) && f then Some view else None)
when-both true round view r = two (round == r)
  where
    two : (q : Bool) → (if q then Some view else None) ≡ (if q && true then Some view else None)
    two true = refl
    two false = refl
when-both false round view r = two (round == r)
  where
    two : (q : Bool) → ◌≡◌ {A = Option ℕ} None (if q && false then Some view else None)
    two true = refl
    two false = refl

pub turns-more : (p : Params) (m mid n : Turns) (t : Turn) (turn : Last) (ts : List Turn) (round : ℕ) (full : Bool) → own_of t ≡ turn → round ≡ round_of t.view → full ≡ is_full p t.slots → AreTurns p m ts → Fills m mid round turn.view full → AreMade n.made (t ∷ ts) → n.full ≡ mid.full →
    AreTurns p n (t ∷ ts)
turns-more p m mid n t turn ts round full is hr hf h fills made same = record {
  made = made;
  full = λ r. ap (λ z. get nat_cmp z r) same ∙ fills.each r ∙ ap (λ (o : Option ℕ). first_of o (when_full full round turn.view r)) (h.full r) ∙ ap (λ (o : Option ℕ). first_of (full_turn p ts r) o) (here r);
}
  where
    here : (r : ℕ) → when_full full round turn.view r ≡ (if (round_of t.view == r) && is_full p t.slots then Some t.view else None)
    here r = (λ i. when_full (hf i) (hr i) (sym (ap (λ (z : Last). z.view) is) i) r) ∙ when-both (is_full p t.slots) (round_of t.view) t.view r
