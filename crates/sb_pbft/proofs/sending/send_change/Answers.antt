use Rattle.std.proofs.Common.{◌∙◌, ℕ, List, refl, ap}
use Rattle.iss_sb.specs.Statements.{signature}
use Rattle.pbft_wire.specs.declared.messages.Certificate.{Certificate}
use Rattle.pbft_wire.specs.Statements.{state_change}
use Rattle.pbft_wire.specs.Signed.{ViewChange}
use Rattle.sb_pbft.specs.Makes.{DraftViewChange}
use Rattle.sb_pbft.proofs.Refinement.SettleRefines.{sent-one}
use Rattle.sb_pbft.proofs.sending.send_change.Goals as goal

pub returns : goal.returns
returns c =
    let p = c.args.context.now.p.now in
    let keys = c.args.keys.now in
    sent-one p (DraftViewChange c.args.view c.args.certificates) _ keys _ _ _ c.in_ok-sig.ensures.used
    (λ me own. ap (λ (s : List ℕ). ViewChange c.args.view c.args.certificates s)
    (c.in_ok-sig.ensures.sig p me own ∙ ap (λ (s : List ℕ). signature p me keys.used s) c.in_ok-statement.ensures
    ∙ ap (λ (l : List Certificate). signature p me keys.used (state_change p c.args.view l)) c.as_slice.ensures)) refl c.in_ok-push.ensures.ok
