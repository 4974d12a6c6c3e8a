-- Every event uses its own leaves, and later events do not change what earlier ones produced.
use Rattle.std.proofs.Common.{arith, ◌≡◌, ℕ, suc, ◌≤◌, List, [], ◌∷◌, ◌++◌, reverse, refl, sym, ap, ◌∙◌}
use Rattle.std.proofs.lemmas.List.{reverse-append}
use Rattle.iss_model.proofs.Rows.{each-holds, settles-holds}
use Rattle.iss_model.proofs.Steps.{Took, adopted, asked, cast, fired, handed, kept, received, sought, took, voted}
use Rattle.iss_rules.specs.Concrete.{rules_of}
use Rattle.iss_rules.specs.Formats.{formats_of}
use Rattle.iss_model.specs.Courses.{after_step, core_of as core_after}
use Rattle.iss_model.specs.Node.{Core, Dropped, Early, Stepped, Taken, Turn, adopts_piece, advance_epochs, initial_core, step, takes_each, then_turn}
use Rattle.iss_rules.specs.Parcels.{Formats}
use Rattle.iss_rules.specs.Rules.{Rules}
use Rattle.iss_rules.specs.declared.events.NodeEvent.{NodeEvent}
use Rattle.iss_request.specs.declared.setups.Setup.{Setup}
use Rattle.iss_sb.specs.Evidence.{Module}
use Rattle.iss_keep.specs.Cores.{step_of}
use Rattle.iss_keep.specs.Internal.Makings.{AreApart, Making, made_on, makings_from, makings_of}

-- ---- a step never reuses a leaf

module _ {Msg : Type 0} (F : Formats Msg) (R : Rules) (m : Module Msg) (me : ℕ) where
  settles-more : (n : ℕ) (t : Turn Msg) → n ≤ t.core.leaf → n ≤ (advance_epochs F R m me t).core.leaf
  settles-more n t h = settles-holds F R m me (λ u. n ≤ u.core.leaf) (λ u l input. Unit {0})
      (λ u l input k fit come. omega (arith, k)) (λ u k complete. omega (arith, k)) (λ u claims k. k) t h (λ done u x i k q r. tt)

  each-more : (n e : ℕ) (early : List (Early Msg)) (t : Turn Msg) → n ≤ t.core.leaf → n ≤ (then_turn t (takes_each F R m me e early)).core.leaf
  each-more n e early t h = each-holds F R m me (λ u. n ≤ u.core.leaf) (λ u l input. Unit {0})
      (λ u l input k fit come. omega (arith, k)) (λ u k complete. omega (arith, k)) (λ u claims k. k) e early t h (λ u x i k q r. tt)

  took-more : (c : Core Msg) (event : NodeEvent) (t : Turn Msg) → Took F R m me c event t → c.leaf ≤ t.core.leaf
  took-more c event t (received k l msg u un b e i q) = rw q (settles-more c.leaf u (rw i.is (omega arith)))
  took-more c event t (kept k l msg un b e i) = rw i.is (omega arith)
  took-more c event t (asked k q un b r) = rw r.is (omega arith)
  took-more c event t (voted k v un b r) = rw r.is (omega arith)
  took-more c event t (handed k cert un b r) = rw r.is (omega arith)
  took-more c event t (adopted k p un b r) = rw r.is (each-more c.leaf (suc c.past.epoch) c.early (adopts_piece R m me c p) (omega arith))
  took-more c event t (sought peer q) = rw q (omega arith)
  took-more c event t (cast slot u i q) = rw q (settles-more c.leaf u (rw i.is (omega arith)))
  took-more c event t (fired l u i q) = rw q (settles-more c.leaf u (rw i.is (omega arith)))

  pub taken-more : (c : Core Msg) (event : NodeEvent) (t : Turn Msg) → step F R m me c event ≡ Taken t → c.leaf ≤ t.core.leaf
  taken-more c event t h = took-more c event t (took F R m me c event t h)

-- ---- a list of events

module _ {Msg : Type 0} (s : Setup) (m : Module Msg) (me : ℕ) where
  -- the turn of a core's step, if the step was accepted
  stepped-more : (c : Core Msg) (event : NodeEvent) (o : Stepped Msg) → step_of s m me c event ≡ o → (more : Core Msg → List (Making Msg)) →
      ((d : Core Msg) → AreApart d.leaf (more d)) → AreApart c.leaf (made_on c o more)
  stepped-more c event (Dropped why) q more rest = rest c
  stepped-more c event (Taken t) q more rest = (omega arith, taken-more (formats_of s m) (rules_of s) m me c event t q, rest t.core)

  apart-from : (events : List NodeEvent) (c : Core Msg) → AreApart c.leaf (makings_from s m me events c)
  apart-from [] c = tt
  apart-from (x ∷ xs) c = stepped-more c x (step_of s m me c x) refl (makings_from s m me xs) (λ d. apart-from xs d)

  pub makings-apart : (events : List NodeEvent) → AreApart 0 (makings_of s m me events)
  makings-apart events = apart-from events initial_core

  -- ---- later events

  -- the core after events, oldest first, and newest first
  abbrev after : List NodeEvent → Core Msg → Core Msg
  after [] c = c
  after (x ∷ xs) c = after xs (after_step c (step_of s m me c x))

  abbrev behind : Core Msg → List NodeEvent → Core Msg
  behind c [] = c
  behind c (x ∷ xs) = let d = behind c xs in after_step d (step_of s m me d x)

  behind-last : (c : Core Msg) (xs : List NodeEvent) (x : NodeEvent) → behind c (xs ++ x ∷ []) ≡ behind (after_step c (step_of s m me c x)) xs
  behind-last c [] x = refl
  behind-last c (y ∷ ys) x = ap (λ (d : Core Msg). after_step d (step_of s m me d y)) (behind-last c ys x)

  behind-core : (xs : List NodeEvent) → behind initial_core xs ≡ core_after (formats_of s m) (rules_of s) m me xs
  behind-core [] = refl
  behind-core (x ∷ xs) = ap (λ (d : Core Msg). after_step d (step_of s m me d x)) (behind-core xs)

  turned : (xs : List NodeEvent) (c : Core Msg) → after xs c ≡ behind c (reverse xs)
  turned [] c = refl
  turned (x ∷ xs) c =
      turned xs (after_step c (step_of s m me c x))
      ∙ sym (ap (λ (ys : List NodeEvent). behind c ys) (reverse-append (x ∷ []) xs) ∙ behind-last c (reverse xs) x)

  stepped-on : (c : Core Msg) (o : Stepped Msg) (front more : List NodeEvent) →
      ((b : Core Msg) → makings_from s m me (front ++ more) b ≡ makings_from s m me front b ++ makings_from s m me more (after front b)) →
      made_on c o (makings_from s m me (front ++ more)) ≡ made_on c o (makings_from s m me front) ++ makings_from s m me more (after front (after_step c o))
  stepped-on c (Dropped why) front more rest = rest c
  stepped-on c (Taken t) front more rest = ap (λ (xs : List (Making Msg)). record { first = c.leaf; turn = t } ∷ xs) (rest t.core)

  go-on : (front more : List NodeEvent) (c : Core Msg) →
      makings_from s m me (front ++ more) c ≡ makings_from s m me front c ++ makings_from s m me more (after front c)
  go-on [] more c = refl
  go-on (x ∷ front) more c = stepped-on c (step_of s m me c x) front more (λ b. go-on front more b)

  pub makings-go-on : (front more : List NodeEvent) →
      makings_of s m me (front ++ more) ≡ makings_of s m me front
      ++ makings_from s m me more (core_after (formats_of s m) (rules_of s) m me (reverse front))
  makings-go-on front more =
      go-on front more initial_core
      ∙ ap (λ (d : Core Msg). makings_of s m me front ++ makings_from s m me more d) (turned front initial_core ∙ behind-core (reverse front))
