-- The state after a vote or a proposal was stored.
use Rattle.std.proofs.Common.{◌≡◌, ◌==◌, ◌&&◌, ℕ, Bool, true, false, not, List, [], ◌∷◌, Option, None, refl, sym, ap, ◌∙◌}
use Rattle.iss_base.specs.Lists.{first_of}
use Rattle.iss_request.specs.declared.ids.NodeId.{NodeId}
use Rattle.iss_request.specs.declared.ids.Slot.{Slot}
use Rattle.iss_sb.specs.declared.effects.Input.TheVariants.{Receive}
use Rattle.iss_sb.specs.declared.effects.Params.{Params}
use Rattle.iss_sb.specs.Calls.{has_slot}
use Rattle.pbft_wire.specs.Signed.{Prepare, Commit}
use Rattle.pbft_views.specs.Good.{primary}
use Rattle.sb_pbft.specs.declared.pbft.Pbft.{Pbft}
use Rattle.sb_pbft.specs.declared.tallies.Votes.{Votes}
use Rattle.sb_pbft.specs.Places.{vote_at}
use Rattle.sb_pbft.specs.Rules.{Ballot, is_at, when}
use Rattle.sb_pbft.specs.Internal.Refines.{held}
use Rattle.sb_pbft.specs.Internal.Turns.{and_commit, and_prepare, bare, idle, turn}
use Rattle.sb_pbft.proofs.Refinement.RulesCompose.{turned}

right-true : (t : Bool) → (t && true) ≡ t
right-true true = refl
right-true false = refl

bare-when : (t : Bool) (b : Ballot) → bare (when t b) ≡ when t (record { digest = b.digest; sig = [] })
bare-when true b = refl
bare-when false b = refl

module _ (p : Params) (m : Pbft) (votes : Votes) (from : NodeId) (v : ℕ) (slot : Slot) (d sig : List ℕ) where
  pub prepare-held : ((w s k : ℕ) → vote_at votes w s k ≡ first_of (vote_at m.prepares w s k) (when (is_at from.0 v slot.0 w s k) (record { digest = d; sig = sig }))) →
      (has_slot slot.0 p.slots && not (from.0 == primary p v)) ≡ true →
      held (record m { prepares = votes }) ≡ and_prepare p (held m) (Receive from (Prepare v slot d sig))
  prepare-held new counts = λ j. record (held m) { prepare = λ w s k. (new w s k ∙ tested w s k) j }
    where
      tested : (w s k : ℕ) → first_of (vote_at m.prepares w s k) (when (is_at from.0 v slot.0 w s k) (record { digest = d; sig = sig })) ≡
          first_of (vote_at m.prepares w s k) (when (is_at from.0 v slot.0 w s k && (has_slot slot.0 p.slots && not (from.0 == primary p v))) (record { digest = d; sig = sig }))
      tested w s k = ap (λ (t : Bool). let b : Ballot = record { digest = d; sig = sig } in first_of (vote_at m.prepares w s k) (when t b))
          (sym (ap (λ (t : Bool). is_at from.0 v slot.0 w s k && t) counts ∙ right-true (is_at from.0 v slot.0 w s k)))

  pub commit-held : (none : List ℕ) → none ≡ [] →
      ((w s k : ℕ) → vote_at votes w s k ≡ first_of (vote_at m.commits w s k) (when (is_at from.0 v slot.0 w s k) (record { digest = d; sig = none }))) →
      has_slot slot.0 p.slots ≡ true → held (record m { commits = votes }) ≡ and_commit p (held m) (Receive from (Commit v slot d sig))
  commit-held none empty new inside = λ j. record (held m) { commit = λ w s k. (new w s k ∙ tested w s k) j }
    where
      tested : (w s k : ℕ) → first_of (vote_at m.commits w s k) (when (is_at from.0 v slot.0 w s k) (record { digest = d; sig = none })) ≡
          first_of (vote_at m.commits w s k) (bare (when (is_at from.0 v slot.0 w s k && has_slot slot.0 p.slots) (record { digest = d; sig = sig })))
      tested w s k =
          let t = is_at from.0 v slot.0 w s k in
          let whole : Ballot = record { digest = d; sig = sig } in
          ap (λ (x : List ℕ). let b : Ballot = record { digest = d; sig = x } in first_of (vote_at m.commits w s k) (when t b)) empty
          ∙ ap (λ (u : Bool). let b : Ballot = record { digest = d; sig = [] } in first_of (vote_at m.commits w s k) (when u b)) (sym (ap (λ (u : Bool). t && u) inside ∙ right-true t))
          ∙ ap (λ (o : Option Ballot). first_of (vote_at m.commits w s k) o) (sym (bare-when (t && has_slot slot.0 p.slots) whole))

  pub prepare-turn : (me leaf : ℕ) → (has_slot slot.0 p.slots && not (from.0 == primary p v)) ≡ true →
      turn p me leaf (held m) (Receive from (Prepare v slot d sig)) ≡ turned p [] (and_prepare p (held m) (Receive from (Prepare v slot d sig))) false v (slot ∷ []) [] None
  prepare-turn me leaf counts = rw counts refl

  pub prepare-idle : (me leaf : ℕ) → (has_slot slot.0 p.slots && not (from.0 == primary p v)) ≡ false →
      turn p me leaf (held m) (Receive from (Prepare v slot d sig)) ≡ idle (held m)
  prepare-idle me leaf out = rw out refl

  pub commit-turn : (me leaf : ℕ) → has_slot slot.0 p.slots ≡ true →
      turn p me leaf (held m) (Receive from (Commit v slot d sig)) ≡ turned p [] (and_commit p (held m) (Receive from (Commit v slot d sig))) false v (slot ∷ []) [] None
  commit-turn me leaf inside = rw inside refl

  pub commit-idle : (me leaf : ℕ) → has_slot slot.0 p.slots ≡ false →
      turn p me leaf (held m) (Receive from (Commit v slot d sig)) ≡ idle (held m)
  commit-idle me leaf out = rw out refl
