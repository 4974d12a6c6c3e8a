-- Every early message of a core was decoded from bytes, at every node.
use Rattle.std.proofs.Common.{inl, inr, ℕ, suc, ◌<◌, List, [], ◌∷◌}
use Rattle.iss_base.specs.Lists.{In}
use Rattle.iss_base.proofs.Lists.{in_append}
use Rattle.iss_request.specs.Fields.{IsReadAgain}
use Rattle.iss_request.specs.declared.setups.Setup.{Setup}
use Rattle.iss_sb.specs.Evidence.{Module}
use Rattle.iss_rules.specs.declared.events.NodeEvent.{NodeEvent}
use Rattle.iss_rules.specs.Parcels.{Formats}
use Rattle.iss_model.specs.Node.{Core, Early, Turn, adopts_piece, advance_epochs, takes_each, then_turn}
use Rattle.iss_rules.specs.Rules.{Rules}
use Rattle.iss_rules.proofs.Faithful.{IsFaithful}
use Rattle.iss_model.proofs.Rows.{each-holds, settles-holds}
use Rattle.iss_model.proofs.Steps.{Took, adopted, asked, cast, fired, handed, kept, received, sought, voted}

-- its sender exists, and it decodes from its own encoding
abbrev pub AreTold : {Msg : Type 0} → Setup → Module Msg → Core Msg → Type 0
AreTold {Msg} s M d = (x : Early Msg) → In x d.early → (x.from < s.n) × IsReadAgain (M.spell s.version) (M.parse s.version) x.msg

module _ {Msg : Type 0} (s : Setup) (F : Formats Msg) (R : Rules) (M : Module Msg) (faithful : IsFaithful s F M) (i : ℕ) where
  settles-told : (t : Turn Msg) → AreTold s M t.core → AreTold s M (advance_epochs F R M i t).core
  settles-told t k = settles-holds F R M i (λ t. AreTold s M t.core) (λ t l input. Unit {0}) (λ t l input z fit come. z) (λ t z complete x m. absurd m)
      (λ t claims z. z) t k (λ done u x m z q r. tt)

  each-told : (e : ℕ) (xs : List (Early Msg)) (t : Turn Msg) → AreTold s M t.core → AreTold s M (then_turn t (takes_each F R M i e xs)).core
  each-told e xs t k = each-holds F R M i (λ t. AreTold s M t.core) (λ t l input. Unit {0}) (λ t l input z fit come. z) (λ t z complete x m. absurd m)
      (λ t claims z. z) e xs t k (λ u x m z q r. tt)

  pub took-told : (b : Core Msg) (event : NodeEvent) (t : Turn Msg) → AreTold s M b → Took F R M i b event t → AreTold s M t.core
  took-told b event t z (received k l msg u un y e inp q) = rw q (settles-told u (rw inp.is z))
  took-told b event t z (kept {bytes} k l msg un y e r) = rw r.is (λ x m. elim (in_append x b.early (record { from = k.from; leader = l; msg = msg } ∷ []) m) [
    | inl a ↦ z x a
    | inr a ↦ elim a [ inl w ↦ rw w (faithful.told bytes k l msg un y) | inr none ↦ absurd none ]
  ])
  took-told b event t z (asked k q un y r) = rw r.is z
  took-told b event t z (cast n u r q) = rw q (settles-told u (rw r.is z))
  took-told b event t z (fired l u inp q) = rw q (settles-told u (rw inp.is z))
  took-told b event t z (voted k v un y r) = rw r.is z
  took-told b event t z (handed k cert un y r) = rw r.is z
  took-told b event t z (adopted k p un y r) = rw r.is (each-told (suc b.past.epoch) b.early (adopts_piece R M i b p) (λ x m. absurd m))
  took-told b event t z (sought peer q) = rw q z
