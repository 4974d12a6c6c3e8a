-- Each step computed from the state agrees with the definitions over the history.
use Rattle.std.proofs.Common.{◌&&◌, ◌∷◌, ℕ, false, not, List, []}
use Rattle.std.proofs.lemmas.Bool.{cond_both}
use Rattle.std.specs.Prelude.{◌==◌}
use Rattle.iss_base.proofs.Lists.{and-true}
use Rattle.iss_sb.specs.Calls.{IsGoodParams, has_slot}
use Rattle.iss_sb.specs.Evidence.{Item}
use Rattle.iss_request.specs.declared.ids.NodeId.{NodeId}
use Rattle.iss_sb.specs.declared.effects.Input.{Input}
use Rattle.iss_sb.specs.declared.effects.Input.TheVariants.{Cast, Receive, Timeout}
use Rattle.iss_sb.specs.declared.effects.Params.{Params}
use Rattle.pbft_wire.specs.declared.messages.Message.{Message}
use Rattle.pbft_wire.specs.declared.messages.Body.{Body}
use Rattle.pbft_wire.specs.declared.messages.Body.TheVariants.{PrePrepare as Pre_prepare_body, Prepare as Prepare_body, Commit as Commit_body, ViewChange as View_change_body, NewView as New_view_body}
use Rattle.pbft_wire.specs.Signed.{PrePrepare, Prepare, Commit, NewView, signed}
use Rattle.pbft_views.specs.Good.{primary}
use Rattle.sb_pbft.specs.Makes.{inputs}
use Rattle.sb_pbft.specs.Pbft.{pbft}
use Rattle.sb_pbft.specs.Rules.{enters, mode, passes}
use Rattle.sb_pbft.specs.Internal.Turns.{Turn, TurnsTo, and_commit, and_prepare, at_slots, begins, gives_up, idle, model, turn}
use Rattle.sb_pbft.proofs.Model.ViewChangeTurn.{change-turns}
use Rattle.sb_pbft.proofs.Model.NewViewTurn.{new-view-turns}
use Rattle.sb_pbft.proofs.Model.ProposalTurn.{cast-offers, offer-turns, told-offers}
use Rattle.sb_pbft.proofs.Model.IgnoredInputs.{commit-nothing, new-view-nothing, prepare-nothing, still-turns, timeout-nothing}
use Rattle.sb_pbft.proofs.Model.TimeoutTurn.{timeout-turns}
use Rattle.sb_pbft.proofs.Model.VoteTurn.{commit-turns, prepare-turns}

turn-is-heard : (p : Params) (me : ℕ) (xs : List (Item Message)) (from : NodeId) (body : Body) (sig : List ℕ) (leaf : ℕ) → IsGoodParams pbft p →
    TurnsTo p me xs (Receive from (signed body sig)) leaf (turn p me leaf (model p me xs) (Receive from (signed body sig)))
turn-is-heard p me xs from (Pre_prepare_body v slot x) sig leaf good =
    offer-turns p me leaf xs good.ascending (Receive from (PrePrepare v slot x sig)) (told-offers p me leaf xs from v slot x sig)
turn-is-heard p me xs from (Prepare_body v slot d) sig leaf good =
    let i : Input Message = Receive from (Prepare v slot d sig) in
    cond_both {A = Turn} (has_slot slot.0 p.slots && not (from.0 == primary p v)) (at_slots p (and_prepare p (model p me xs) i) false v (slot ∷ [])) (idle (model p me xs)) (λ t. TurnsTo p me xs i leaf t)
    (λ h. prepare-turns p me from v slot d sig leaf xs good.ascending (and-true (has_slot slot.0 p.slots) (not (from.0 == primary p v)) h).0)
    (λ h. still-turns p me leaf xs good.ascending i (prepare-nothing p me leaf xs from v slot d sig h))
turn-is-heard p me xs from (Commit_body v slot d) sig leaf good =
    let i : Input Message = Receive from (Commit v slot d sig) in
    cond_both {A = Turn} (has_slot slot.0 p.slots) (at_slots p (and_commit p (model p me xs) i) false v (slot ∷ [])) (idle (model p me xs)) (λ t. TurnsTo p me xs i leaf t)
    (λ h. commit-turns p me from v slot d sig leaf xs good.ascending h)
    (λ h. still-turns p me leaf xs good.ascending i (commit-nothing p me leaf xs from v slot d sig h))
turn-is-heard p me xs from (View_change_body v cs) sig leaf good = change-turns p me from v cs sig leaf xs good.ascending
turn-is-heard p me xs from (New_view_body v vs sigs) sig leaf good =
    let i : Input Message = Receive from (NewView v vs sigs sig) in
    cond_both {A = Turn} (enters p (mode p (inputs xs)) from.0 v vs sigs) (begins p me (model p me xs) v vs sigs) (idle (model p me xs)) (λ t. TurnsTo p me xs i leaf t)
    (λ h. new-view-turns p me leaf xs good.ascending from v vs sigs sig h)
    (λ h. still-turns p me leaf xs good.ascending i (new-view-nothing p me leaf xs from v vs sigs sig h))

pub turn-is : (p : Params) (me : ℕ) (xs : List (Item Message)) (i : Input Message) (leaf : ℕ) → IsGoodParams pbft p →
    TurnsTo p me xs i leaf (turn p me leaf (model p me xs) i)
turn-is p me xs (Cast slot batch) leaf good = offer-turns p me leaf xs good.ascending (Cast slot batch) (cast-offers p me leaf xs slot batch)
turn-is p me xs (Receive from msg) leaf good = turn-is-heard p me xs from msg.body msg.sig leaf good
turn-is p me xs Timeout leaf good =
    cond_both {A = Turn} (passes (mode p (inputs xs))) (gives_up p (model p me xs)) (idle (model p me xs)) (λ t. TurnsTo p me xs Timeout leaf t)
    (λ h. timeout-turns p me leaf xs good.ascending h)
    (λ h. still-turns p me leaf xs good.ascending Timeout (timeout-nothing p me leaf xs h))
