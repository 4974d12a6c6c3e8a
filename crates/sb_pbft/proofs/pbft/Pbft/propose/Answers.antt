use Rattle.std.proofs.Common.{◌==◌, List, arith, refl, ap, ◌∙◌, [], ◌∷◌, false, Some}
use Rattle.iss_base.proofs.Lists.{and-true}
use Rattle.iss_request.specs.declared.requests.Value.TheVariants.{Batch as Value_batch}
use Rattle.iss_sb.specs.Statements.{signature}
use Rattle.iss_sb.specs.declared.effects.Input.TheVariants.{Cast}
use Rattle.pbft_wire.specs.Statements.{state_at, string_of}
use Rattle.sb_pbft.specs.Makes.{first_draft, first_sig}
use Rattle.sb_pbft.specs.Internal.Refines.{held, is_free}
use Rattle.sb_pbft.specs.Internal.Turns.{first_proposal, with_proposal}
use Rattle.sb_pbft.proofs.Refinement.RulesCompose.{does-settled}
use Rattle.sb_pbft.proofs.Refinement.ProposalRefines.{cast-sent, cast-turn, first-few, free-slot, proposal-held, same-proposal}
use Rattle.sb_pbft.proofs.pbft.Pbft.propose.Goals as goal

pub returns : goal.returns
returns c nothing =
    let p = c.args.context.now.p.now in
    let old = c.args.self.now in
    let slot = c.args.slot in
    let batch = c.args.batch in
    let keys = c.args.keys.now in
    let may = c.requires.may in
    let parts = and-true (old.me.0 == p.leader.0) (is_free p (held old) slot.0) may in
    let got = c.in_ok-value.ensures nothing in
    let some = c.args.context.now.good.some in
    let few = first-few p old slot batch in
    does-settled p (Cast slot batch) old (record old { proposals = c.put.new.self }) c.settle_at.new.self keys c.send_pre_prepare.new.keys c.settle_at.new.keys _ c.settle_at.new.effects
    (first_draft p old.me.0 (Some (slot, batch))) false 0 (slot ∷ [])
    (with_proposal (held old) 0 slot.0 (first_proposal p (slot, batch) (first_sig p old.me.0 keys.used (slot, batch) (Cast slot batch)))) (string_of p (Value_batch batch) ∷ []) (Some (slot, batch))
    refl
    (λ own. proposal-held p old slot batch c.put.new.self _ _
    (same-proposal p old slot batch _ _ _ _ got.value got.digest (c.in_ok-sig.ensures.sig old.me.0 own ∙ ap (λ (d : List _). signature p old.me.0 keys.used (state_at p 1 0 slot.0 d)) got.digest)) c.in_ok-put.ensures)
    (cast-sent p old slot batch parts.0 _ _ _ keys c.send_pre_prepare.new.keys _ _ got.value got.digest c.in_ok-sig.ensures.used c.in_ok-sig.ensures.sig got.sends c.in_ok-sig.ensures.sent)
    got.delivers got.accepted got.hashed (free-slot p old slot parts.1) (cast-turn p old slot batch keys.used may) c.in_ok-settle_at.ensures
    (free-slot p old slot parts.1, tt) (omega (arith, some, few))
