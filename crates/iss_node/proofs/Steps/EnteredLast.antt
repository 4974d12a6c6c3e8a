-- The core that entered the newest epoch has the epoch and the certificates of the core after the step.
use Rattle.std.proofs.Common.{◌≡◌, ℕ, suc, List, Option, Some, None, refl, sym, ◌∙◌}
use Rattle.iss_model.proofs.Rows.{each-holds, settles-holds, then_takes}
use Rattle.iss_model.proofs.Steps.{Took, adopted, asked, cast, fired, handed, kept, received, sought, took, voted}
use Rattle.iss_model.specs.Node.{Core, Early, Taken, Turn, adopts_piece, advance_epochs, step, takes_each, then_turn}
use Rattle.iss_rules.specs.Parcels.{Formats}
use Rattle.iss_rules.specs.Rules.{Rules}
use Rattle.iss_rules.specs.declared.events.NodeEvent.{NodeEvent}
use Rattle.iss_sb.specs.Evidence.{Module}

-- of a core, and of one that entered its epoch
abbrev pub IsLast : {Msg : Type 0} → Core Msg → Option (Core Msg) → Type 0
IsLast c None = Unit {0}
IsLast c (Some d) = (d.past.epoch ≡ c.past.epoch) × (d.certs ≡ c.certs)

still-last : {Msg : Type 0} (c e : Core Msg) (o : Option (Core Msg)) → e.past.epoch ≡ c.past.epoch → e.certs ≡ c.certs → IsLast c o → IsLast e o
still-last c e None p q h = tt
still-last c e (Some d) p q h = (h.0 ∙ sym p, h.1 ∙ sym q)

module _ {Msg : Type 0} (F : Formats Msg) (R : Rules) (M : Module Msg) (me : ℕ) where
  settles-last : (t : Turn Msg) → IsLast t.core t.entered → IsLast (advance_epochs F R M me t).core (advance_epochs F R M me t).entered
  settles-last t h =
      settles-holds F R M me (λ u. IsLast u.core u.entered) (λ u l input. Unit {0}) (λ u l input k fit come. still-last u.core (then_takes F R M me u l input).core u.entered refl refl k) (λ u k done. (refl, refl))
      (λ u claims k. k) t h (λ done u x i k q r. tt)

  each-last : (e : ℕ) (xs : List (Early Msg)) (t : Turn Msg) → IsLast t.core t.entered → IsLast (then_turn t (takes_each F R M me e xs)).core (then_turn t (takes_each F R M me e xs)).entered
  each-last e xs t h =
      each-holds F R M me (λ u. IsLast u.core u.entered) (λ u l input. Unit {0}) (λ u l input k fit come. still-last u.core (then_takes F R M me u l input).core u.entered refl refl k) (λ u k done. (refl, refl))
      (λ u claims k. k) e xs t h (λ u x i k q r. tt)

  took-last : (c : Core Msg) (event : NodeEvent) (t : Turn Msg) → Took F R M me c event t → IsLast t.core t.entered
  took-last c event t (received k l msg u un b e i q) = rw q (settles-last u (rw i.is tt))
  took-last c event t (kept k l msg u b e i) = rw i.is tt
  took-last c event t (asked k q u b r) = rw r.is tt
  took-last c event t (cast s u i q) = rw q (settles-last u (rw i.is tt))
  took-last c event t (fired l u i q) = rw q (settles-last u (rw i.is tt))
  took-last c event t (voted k v u b r) = rw r.is tt
  took-last c event t (handed k cert u b r) = rw r.is tt
  took-last c event t (adopted k p u b a) = rw a.is (each-last (suc c.past.epoch) c.early (adopts_piece R M me c p) (refl, refl))
  took-last c event t (sought peer q) = rw q tt

  pub step-last : (c : Core Msg) (event : NodeEvent) (t : Turn Msg) → step F R M me c event ≡ Taken t → IsLast t.core t.entered
  step-last c event t q = took-last c event t (took F R M me c event t q)
