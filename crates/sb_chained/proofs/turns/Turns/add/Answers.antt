use Rattle.std.proofs.Common.{refl, sym, subst}
use Rattle.hs_views.specs.declared.turns.Turns.{Turns as Made}
use Rattle.hs_views.specs.Turns.{AreTurns as AreMade}
use Rattle.sb_chained.specs.declared.turns.Turns.{Turns}
use Rattle.sb_chained.proofs.Refinement.CountsAgree.{turns-more}
use Rattle.sb_chained.proofs.turns.Turns.add.Goals as goal

pub returns : goal.returns
returns c p t ts is round full h =
    let new : Turns = record { made = c.add.new.self; full = c.fill.new.self.full } in
    turns-more p c.args.self.now c.fill.new.self new t c.args.turn ts c.args.round c.args.full is round full h c.in_ok-fill.ensures
    (c.in_ok-add.ensures t ts is (subst (λ (z : Made). AreMade z ts) (sym c.in_ok-fill.ensures.made) h.made)) refl
