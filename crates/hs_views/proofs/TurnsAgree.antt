-- Adding a turn, and the newest turn, as the model has them.
use Rattle.std.proofs.Common.{◌≡◌, ℕ, Bool, true, cond, ◌==◌, ◌&&◌, ◌||◌, List, [], ◌∷◌, Option, Some, None, refl, sym, ap, ◌∙◌}
use Rattle.std.specs.BTreeSet.{contains}
use Rattle.std.specs.Cmp.Lexicographic.{slice_cmp}
use Rattle.std.specs.Ordering.{is_eq, nat_cmp}
use Rattle.iss_base.specs.Lists.{same_bytes}
use Rattle.iss_sb.proofs.Cases.{added, both_equal, same_list, same_number}
use Rattle.hs_views.specs.declared.turns.Last.{Last}
use Rattle.hs_views.specs.declared.turns.Own.{Own}
use Rattle.hs_views.specs.declared.turns.Turns.{Turns}
use Rattle.hs_views.specs.Views.{Turn}
use Rattle.hs_views.specs.Turns.{AreTurns, last_of, own_of, own_order}

-- ---- Keys of the set

same_own : (a b : Own) → is_eq (own_order a b) ≡ ((a.view == b.view) && same_bytes a.digest b.digest)
same_own a b =
    let views = same_number a.view b.view in
    let digests = same_list a.digest b.digest in
    both_equal (nat_cmp a.view b.view) (slice_cmp nat_cmp a.digest b.digest) ∙ rw (views, digests) refl

-- ---- Turns

pub turns-more : (m n : Turns) (t : Turn) (turn : Last) (ts : List Turn) → own_of t ≡ turn → AreTurns m ts → n.last ≡ Some turn →
    ((view : ℕ) (d : List ℕ) → contains own_order n.all (record { view = view; digest = d }) ≡ cond (is_eq (own_order (record { view = turn.view; digest = turn.digest }) (record { view = view; digest = d }))) true (contains own_order m.all (record { view = view; digest = d }))) →
    AreTurns n (t ∷ ts)
turns-more m n t turn ts is h last put = record {
  has = λ view d.
      let view_is = ap (λ (z : Last). z.view) is in
      let digest_is = ap (λ (z : Last). z.digest) is in
      added _ _ (contains own_order m.all (record { view = view; digest = d })) _
      (same_own (record { view = turn.view; digest = turn.digest }) (record { view = view; digest = d }) ∙ (λ i. (sym view_is i == view) && same_bytes (sym digest_is i) d)) (put view d)
      ∙ ap (λ (b : Bool). ((t.view == view) && same_bytes t.digest d) || b) (h.has view d);
  last = last ∙ ap (λ (z : Last). let o : Option Last = Some z in o) (sym is);
}

-- ---- The newest turn

pub none-last : (ts : List Turn) → last_of ts ≡ None → ts ≡ []
none-last [] e = refl
none-last (t ∷ ts) e = absurd cc

pub record Newest (ts : List Turn) (last : Last) : Type 0 where
  pub turn : Turn
  pub rest : List Turn
  pub list : ts ≡ turn ∷ rest
  pub own : own_of turn ≡ last

pub newest : (ts : List Turn) (last : Last) → last_of ts ≡ Some last → Newest ts last
newest [] last e = absurd cc
newest (t ∷ ts) last e = record { turn = t; rest = ts; list = refl; own = cc }
