use Rattle.std.proofs.Common.{List, ◌++◌, sym, ap, refl, ◌∙◌}
use Rattle.iss_sb.specs.declared.effects.To.{To}
use Rattle.raft_wire.specs.declared.messages.Message.{Message}
use Rattle.sb_raft.specs.declared.raft.Raft.{Raft}
use Rattle.sb_raft.specs.Rules.{appends}
use Rattle.sb_raft.specs.Refines.{held}
use Rattle.sb_raft.proofs.Refinement.LeaderRulesRefine.{cast-done, cast-idle, cast-state}
use Rattle.sb_raft.proofs.raft.Raft.cast.Goals as goal

pub returns-then-not-may_cast : goal.returns-then-not-may_cast
returns-then-not-may_cast c = cast-idle c.args.context.now.p.now c.args.self.now c.args.slot c.args.batch c.nothing.result (sym c.may_cast.ensures ∙ c.if-not-may_cast.true) c.nothing.ensures

pub returns : goal.returns
returns c =
    let m = c.args.self.now in
    let mid : Raft = record m { log = c.push.new.self } in
    cast-done c.args.context.now.p.now m c.args.slot c.args.batch mid c.advance.new.self c.append_to_others.new.sends c.in_ok-effects.effects (sym c.may_cast.ensures ∙ c.if-not-may_cast.false) c.in_ok-push.ensures.within c.in_ok-effects.ensures refl
    (cast-state m c.push.new.self c.in_ok-copy.field-0 c.args.batch c.in_ok-push.ensures.log c.in_ok-copy.ensures)
    (λ f. c.in_ok-append_to_others.ensures.appends f ∙ ap (λ (z : List (To × Message)). z ++ appends c.args.context.now.p.now m.me.0 (held mid)) c.new-sends.ensures)
