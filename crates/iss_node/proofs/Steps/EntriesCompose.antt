-- The snapshot that an outcome hands out.
use Rattle.std.proofs.Common.{◌≡◌, ℕ, List, Option, Some, None, ap, sym, ◌∙◌, subst}
use Rattle.iss_base.specs.Lists.{first_of}
use Rattle.iss_ballots.specs.Ballots.{AreKept, BallotsState}
use Rattle.iss_checkpoint.specs.declared.votes.Cert.{Cert}
use Rattle.iss_checkpoint.specs.declared.votes.Vote.{Vote}
use Rattle.iss_model.specs.Frames.{frame_of}
use Rattle.iss_model.specs.Node.{Core, Early as Kept_early}
use Rattle.iss_node.proofs.Steps.OutcomesCompose.{nothing}
use Rattle.iss_node.specs.Entered.{IsEntered, IsEntryOf, encoded_by}
use Rattle.iss_node.specs.Saved.{SavedState, saved_of}
use Rattle.iss_node.specs.State.{RefinesBareCore, StateView, holding, seen_early}
use Rattle.iss_node.specs.Steps.{IsLater}
use Rattle.iss_node.specs.declared.answers.Early.{Early}
use Rattle.iss_node.specs.declared.answers.Outcome.{Outcome}
use Rattle.iss_rebuilt.specs.Stored.{snapshot_of}
use Rattle.iss_request.specs.declared.ids.NodeId.{NodeId}
use Rattle.iss_request.specs.declared.setups.Setup.{Setup}
use Rattle.iss_sb.specs.Evidence.{Item, Module}
use Rattle.iss_sb.specs.declared.effects.Params.{Params}
use Rattle.iss_snapshot.specs.Snapshots.{spell_snapshot}

pub nothing-entered : (o : Outcome) → o ≡ nothing → o.entered ≡ None
nothing-entered o is = ap (λ (z : Outcome). z.entered) is

module _ {M Msg : Type 0} (m : Module Msg) where
  -- The entry does not depend on what a step changes.
  pub later-entered : (v w : StateView M Msg) → IsLater v w → (d : Option (Core Msg)) (bytes : Option (List ℕ)) → IsEntered m v d bytes → IsEntered m w d bytes
  later-entered v w later None bytes h = h
  later-entered v w later (Some d) bytes h = λ votes certs kept.
      h votes certs (subst (λ (b : BallotsState). AreKept b votes certs) later.ballots kept)
      ∙ sym (same votes certs)
    where
      same : (votes : List Vote) (certs : List Cert) → Some (spell_snapshot w.setup.version (snapshot_of (frame_of w.setup m) w.me.0 (saved_of w.saved) (holding votes certs d)))
          ≡ Some (spell_snapshot v.setup.version (snapshot_of (frame_of v.setup m) v.me.0 (saved_of v.saved) (holding votes certs d)))
      same votes certs =
          ap (λ (s : Setup). Some (spell_snapshot s.version (snapshot_of (frame_of s m) w.me.0 (saved_of w.saved) (holding votes certs d)))) later.setup
          ∙ (ap (λ (i : NodeId). Some (spell_snapshot v.setup.version (snapshot_of (frame_of v.setup m) i.0 (saved_of w.saved) (holding votes certs d)))) later.me
          ∙ ap (λ (x : SavedState). Some (spell_snapshot v.setup.version (snapshot_of (frame_of v.setup m) v.me.0 (saved_of x) (holding votes certs d)))) later.saved)

  -- Of two turns in sequence the later entry counts.
  pub both-entered : (v : StateView M Msg) (c d : Option (Core Msg)) (first last : Option (List ℕ)) → IsEntered m v c first → IsEntered m v d last → IsEntered m v (first_of d c) (first_of last first)
  both-entered v c None first last h k = subst (λ (o : Option (List ℕ)). IsEntered m v c (first_of o first)) (sym k) h
  both-entered v c (Some d) first last h k = λ votes certs kept. ap (λ (o : Option (List ℕ)). first_of o first) (k votes certs kept)

-- The snapshot of the core that the state refines.
pub entry-of : {M Msg : Type 0} (m : Module Msg) (refines : M → Params → ℕ → List (Item Msg) → Type 0) (w : StateView M Msg) (early : List (Early Msg)) (bytes : List ℕ) → IsEntryOf m refines w early bytes →
    (d : Core Msg) → RefinesBareCore m refines w d → (xs : List (Kept_early Msg)) → seen_early early ≡ xs → (votes : List Vote) (certs : List Cert) → AreKept w.ballots votes certs →
    bytes ≡ encoded_by m w (holding votes certs (record d { early = xs }))
entry-of m refines w early bytes entry d refined xs same votes certs kept =
    entry d.past votes certs refined.tied kept
    ∙ (ap (λ (c : Core _). encoded_by m w (holding votes certs (record c { early = seen_early early }))) (sym refined.core)
    ∙ ap (λ (ys : List (Kept_early _)). encoded_by m w (holding votes certs (record d { early = ys }))) same)
