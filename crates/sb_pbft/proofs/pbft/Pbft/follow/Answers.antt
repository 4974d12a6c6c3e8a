use Rattle.std.proofs.Common.{◌==◌, ◌&&◌, not, arith, refl, [], ◌∷◌, false, Some}
use Rattle.iss_base.proofs.Lists.{and-true}
use Rattle.iss_request.specs.declared.requests.Value.TheVariants.{Batch as Value_batch}
use Rattle.iss_sb.specs.declared.effects.Input.TheVariants.{Receive}
use Rattle.pbft_wire.specs.Signed.{PrePrepare}
use Rattle.pbft_wire.specs.Statements.{string_of}
use Rattle.sb_pbft.specs.Makes.{first_draft}
use Rattle.sb_pbft.specs.Internal.Refines.{held, is_free}
use Rattle.sb_pbft.specs.Internal.Turns.{first_proposal, with_proposal}
use Rattle.sb_pbft.proofs.Refinement.RulesCompose.{does-settled}
use Rattle.sb_pbft.proofs.Refinement.ProposalRefines.{first-few, free-slot, not-is, proposal-held, same-proposal, told-sent, told-turn}
use Rattle.sb_pbft.proofs.pbft.Pbft.follow.Goals as goal

pub returns : goal.returns
returns c nothing =
    let x = c.args.offer in
    let p = c.args.context.now.p.now in
    let old = c.args.self.now in
    let slot = x.slot in
    let batch = c.args.batch in
    let keys = c.args.keys.now in
    let may = c.requires.may in
    let parts = and-true (not (old.me.0 == p.leader.0) && (x.from.0 == p.leader.0)) ((x.view == 0) && is_free p (held old) slot.0) may in
    let other = not-is (old.me.0 == p.leader.0) (and-true (not (old.me.0 == p.leader.0)) (x.from.0 == p.leader.0) parts.0).0 in
    let free = (and-true (x.view == 0) (is_free p (held old) slot.0) parts.1).1 in
    let got = c.in_ok-value.ensures nothing in
    let some = c.args.context.now.good.some in
    let few = first-few p old slot batch in
    does-settled p (Receive x.from (PrePrepare x.view slot (Value_batch batch) x.sig)) old (record old { proposals = c.put.new.self }) c.settle_at.new.self keys c.send_prepare.new.keys
    c.settle_at.new.keys _ c.settle_at.new.effects (first_draft p old.me.0 (Some (slot, batch))) false 0 (slot ∷ [])
    (with_proposal (held old) 0 slot.0 (first_proposal p (slot, batch) x.sig)) (string_of p (Value_batch batch) ∷ []) (Some (slot, batch))
    refl
    (λ own. proposal-held p old slot batch c.put.new.self _ _ (same-proposal p old slot batch _ _ _ _ got.value got.digest refl) c.in_ok-put.ensures)
    (told-sent p old slot batch other _ keys c.send_prepare.new.keys _ _ got.digest got.sends c.in_ok-send_prepare.ensures.sent)
    got.delivers got.accepted got.hashed (free-slot p old slot free) (told-turn p old slot batch keys.used x.from x.view x.sig may) c.in_ok-settle_at.ensures
    (free-slot p old slot free, tt) (omega (arith, some, few))
