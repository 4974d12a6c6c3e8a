use Rattle.std.proofs.Common.{◌≡◌, ◌∙◌, suc, [], get_or, arith, sym, subst, inl, inr}
use Rattle.std.proofs.lemmas.Bool.{iff_false}
use Rattle.std.proofs.lemmas.Bool.Decides.{leb_tells}
use Rattle.iss_schedule.specs.Headers.{lines_of_rows, see_all}
use Rattle.iss_schedule.proofs.HeaderTable.ModuleRows.{length_lines_of, line_at, no_module}
use Rattle.iss_schedule.proofs.modules.place_in.Goals as goal

pub returns-then-is_same : goal.returns-then-is_same
returns-then-is_same c = (
  omega (arith, length_lines_of c.args.all.now),
  c.is_same.ensures.0 c.if-is_same.true
      ∙ sym (line_at c.args.all.now c.loop-place.place no_module (omega arith)),
)

pub loop-place-preserved : goal.loop-place-preserved
loop-place-preserved c = λ k lt e. elim (leb_tells (suc k) c.loop-place.place) [
  | inl before ↦ c.loop-place.invariant k before.1 e
  | inr now ↦
      let same : k ≡ c.loop-place.place = omega (arith, lt, now.1) in
      iff_false c.is_same.ensures c.if-is_same.false
      (subst (λ j. c.args.line.now ≡ get_or (lines_of_rows (see_all c.args.all.now)) j []) same e
      ∙ line_at c.args.all.now c.loop-place.place no_module (omega arith))
]

pub returns : goal.returns
returns c = λ v lt e. c.loop-place.invariant v (omega (arith, lt, length_lines_of c.args.all.now)) e
