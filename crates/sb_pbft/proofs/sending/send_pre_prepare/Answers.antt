use Rattle.std.proofs.Common.{◌++◌, ◌∙◌, List, ℕ, [], ◌∷◌, ap}
use Rattle.iss_request.specs.declared.requests.Value.{Value}
use Rattle.iss_sb.specs.declared.effects.To.{To}
use Rattle.iss_sb.specs.declared.effects.To.TheVariants.{All as To_all}
use Rattle.pbft_wire.specs.declared.messages.Message.{Message}
use Rattle.pbft_wire.specs.Signed.{PrePrepare}
use Rattle.sb_pbft.proofs.sending.send_pre_prepare.Goals as goal

pub returns-clause-sent : goal.returns-clause-sent
returns-clause-sent c =
    let old : List (To × Message) = c.args.sends.now in
    let m = c.args.mark.now in
    c.in_ok-push.ensures.ok
    ∙ ap (λ (z : Value). old ++ (To_all, PrePrepare m.view m.slot z c.in_ok-tag.tag) ∷ []) c.in_ok-said.ensures
    ∙ ap (λ (z : List ℕ). old ++ (To_all, PrePrepare m.view m.slot c.args.value.now z) ∷ []) c.in_ok-tag.ensures
