use Rattle.std.proofs.Common.{◌∙◌, ◌∷◌, List, ap, reverse, sym, subst, ℕ}
use Rattle.std.specs.List.{All, filter}
use Rattle.iss_layout.specs.Layout.{IsSlotOf, IsStanding, slots_from}
use Rattle.iss_model.specs.Node.{is_nil_at}
use Rattle.iss_node.proofs.Log.NilSlotsOfEpoch.{are-of}
use Rattle.iss_node.specs.Internal.Epochs.{notes}
use Rattle.iss_request.specs.declared.ids.ReqId.{ReqId}
use Rattle.iss_request.specs.declared.ids.Slot.{Slot}
use Rattle.iss_window.specs.Kept.{RefinesNoted}
use Rattle.iss_window.specs.Window.{and_closed}
use Rattle.iss_node.proofs.state.NodeState.close.Goals as goal

pub advance-requires-clause-nil_slots : goal.advance-requires-clause-nil_slots
advance-requires-clause-nil_slots g c =
    let test = λ (s : Slot). is_nil_at (reverse c.self.inside.log.entries) s.0 in
    let are = c.as_slice.ensures ∙ c.in_ok-nils.ensures ∙ ap (λ (k : ℕ). filter test (slots_from k c.self.inside.setup.epoch)) c.first.ensures in
    subst (λ (ns : List Slot). All (λ (s : Slot). IsSlotOf c.self.inside.layout s.0) ns) (sym are) (are-of c.self.inside.layout test c.self.inside.setup.epoch c.self.invariant.slots)

pub returns-clause-closed : goal.returns-clause-closed
returns-clause-closed g c =
    let test = λ (s : Slot). is_nil_at (reverse c.self.inside.log.entries) s.0 in
    let are = c.as_slice.ensures ∙ c.in_ok-nils.ensures ∙ ap (λ (k : ℕ). filter test (slots_from k c.self.inside.setup.epoch)) c.first.ensures in
    rw (← c.self.view_is) (record {
      standing = λ past h. subst (λ (ns : List Slot). IsStanding c.self.inside.setup (record { plan = c.self.inside.layout; nils = ns } ∷ past) c.advance.new.self) are (c.advance.ensures past h);
      windows = λ n h. subst (λ (xs : List ReqId). RefinesNoted c.close_epoch.new.self (and_closed (notes n xs))) c.as_slice-2.ensures (c.close_epoch.ensures.closed (notes n c.as_slice-2.result.now) (c.in_ok-note_all.ensures.noted n h));
      width = c.close_epoch.ensures.width ∙ c.in_ok-note_all.ensures.width;
    })
