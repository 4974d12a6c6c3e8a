use Rattle.std.proofs.Common.{Some, refl}
use Rattle.hs_views.specs.declared.turns.Turns.{Turns}
use Rattle.hs_views.proofs.TurnsAgree.{turns-more}
use Rattle.hs_views.proofs.turns.Turns.add.Goals as goal

pub returns : goal.returns
returns c t ts is h =
    let new : Turns = record { all = c.insert.new.self; last = Some c.args.turn } in
    turns-more c.args.self.now new t c.args.turn ts is h refl (λ view d. c.in_ok-insert.ensures.updates.0 (record { view = view; digest = d }))
