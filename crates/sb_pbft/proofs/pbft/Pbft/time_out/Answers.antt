use Rattle.std.proofs.Common.{◌+◌, ◌∙◌, List, [], ◌∷◌, arith, length, refl, sym, ap, false}
use Rattle.iss_request.specs.declared.ids.Slot.{Slot}
use Rattle.iss_sb.specs.declared.effects.Input.TheVariants.{Timeout}
use Rattle.sb_pbft.specs.Makes.{DraftViewChange}
use Rattle.sb_pbft.specs.Internal.Refines.{held}
use Rattle.sb_pbft.specs.Internal.Turns.{tops_of}
use Rattle.sb_pbft.proofs.Refinement.ViewChangeRefines.{passed, timed-sent, tops-few}
use Rattle.sb_pbft.proofs.Refinement.RulesCompose.{does-sent}
use Rattle.sb_pbft.proofs.pbft.Pbft.time_out.Goals as goal

pub send_change-requires-clause-few : goal.send_change-requires-clause-few
send_change-requires-clause-few c =
    let p = c.args.context.now.p.now in
    let m = held c.args.self.now in
    let is = ap (λ (l : List _). length l) (c.in_ok-certificates.ensures ∙ ap (λ (l : List Slot). tops_of m.top l) c.as_slice.ensures) in
    let few = tops-few m.top p.slots in
    let most = c.args.context.now.good.few in
    omega (arith, is, few, most)

pub returns : goal.returns
returns c =
    let p = c.args.context.now.p.now in
    let old = c.args.self.now in
    let keys = c.args.keys.now in
    let nothing = c.nothing-effects.ensures in
    let ds = DraftViewChange (old.view + 1) (tops_of (held old).top p.slots) ∷ [] in
    does-sent p Timeout old (record old { view = old.view + 1; active = false }) keys c.send_change.new.keys _ ds [] refl
    (timed-sent p (old.view + 1) _ (tops_of (held old).top p.slots) keys c.send_change.new.keys _ _
    (c.in_ok-certificates.ensures ∙ ap (λ (l : List Slot). tops_of (held old).top l) c.as_slice.ensures) nothing.sends c.in_ok-send_change.ensures)
    nothing.delivers nothing.accepted nothing.hashed (passed p old keys.used (sym c.if-not-passes.ensures)) (omega arith)
