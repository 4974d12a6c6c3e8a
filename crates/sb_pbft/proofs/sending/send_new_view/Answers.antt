use Rattle.std.proofs.Common.{◌≡◌, ◌+◌, ◌++◌, ◌∙◌, ℕ, List, arith, length, ap}
use Rattle.iss_keys.specs.KeyStates.{KeyState}
use Rattle.iss_request.specs.declared.ids.Slot.{Slot}
use Rattle.iss_sb.specs.Statements.{signature}
use Rattle.pbft_wire.specs.declared.messages.Change.{Change}
use Rattle.pbft_wire.specs.Signed.{NewView}
use Rattle.pbft_wire.specs.Statements.{state_new}
use Rattle.sb_pbft.specs.Makes.{DraftNewView, choice_sigs}
use Rattle.sb_pbft.proofs.Refinement.SettleRefines.{own-later, sent-by}
use Rattle.sb_pbft.proofs.sending.send_new_view.Goals as goal

pub returns : goal.returns
returns c =
    let p = c.args.context.now.p.now in
    let keys = c.args.keys.now in
    let mid = c.sign_choices.new.keys in
    let v = c.args.view in
    let xs = c.args.changes in
    let n = length p.slots in
    let all = c.as_slice-slots.ensures in
    let first = c.in_ok-sign_choices.ensures.used ∙ ap (λ (l : List Slot). record keys { used = keys.used + length l }) all in
    let later = c.in_ok-sig.ensures.used in
    let total : keys.used + n + 1 ≡ keys.used + (n + 1) = omega arith in
    sent-by p (DraftNewView v xs) _ keys _ _ _
    (later ∙ ap (λ (z : KeyState). record z { used = z.used + 1 }) first ∙ ap (λ (u : ℕ). record keys { used = u }) total)
    (λ me own.
    ap (λ (l : List (List ℕ)). NewView v xs l c.in_ok-sig.sig) (c.in_ok-sign_choices.ensures.sigs me own
    ∙ ap (λ (l : List (List ℕ)). l ++ choice_sigs p me keys.used v c.as_slice.result.now c.as_slice-slots.result.now) c.new-signatures.ensures
    ∙ ap (λ (l : List Change). choice_sigs p me keys.used v l c.as_slice-slots.result.now) c.as_slice.ensures
    ∙ ap (λ (l : List Slot). choice_sigs p me keys.used v xs l) all)
    ∙ ap (λ (s : List ℕ). NewView v xs (choice_sigs p me keys.used v xs p.slots) s)
    (c.in_ok-sig.ensures.sig p me (own-later p me n keys mid first own) ∙ ap (λ (s : List ℕ). signature p me mid.used s) c.in_ok-statement.ensures
    ∙ ap (λ (z : KeyState). signature p me z.used (state_new p v)) first))
    c.in_ok-push.ensures.ok
