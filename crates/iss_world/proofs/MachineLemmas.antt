-- An event at a core of the model, by its disk, and the evidence that it reveals.
use Rattle.std.proofs.Common.{◌≡◌, ℕ, Bool, true, false, cond, List, Option, Some, None, refl, sym, ap, ◌∙◌}
use Rattle.std.specs.Prelude.{option_map}
use Rattle.iss_base.specs.Lists.{first_of}
use Rattle.iss_base.proofs.Lists.{none-some, some-injective}
use Rattle.iss_rules.specs.Books.{Signed}
use Rattle.iss_rules.specs.Concrete.{rules_of}
use Rattle.iss_rules.specs.Parcels.{Formats}
use Rattle.iss_model.specs.Node.{Dropped, Stepped, Taken, Turn, step}
use Rattle.iss_rules.specs.Ends.{End, Forged}
use Rattle.iss_model.specs.Run.{Held, after_step, at_core, by_collision, by_forged, claims_at, collision_in, early_of, first_forged, node_of, turned_to}
use Rattle.iss_rules.specs.declared.events.NodeEvent.{NodeEvent}
use Rattle.iss_rules.specs.declared.events.Why.TheVariants.{Stopped}
use Rattle.iss_node.specs.Steps.{IsMade}
use Rattle.iss_node.specs.declared.answers.Outcome.{Outcome}
use Rattle.iss_request.specs.declared.setups.Setup.{Setup}
use Rattle.iss_model.specs.Courses.{Machines, at_machine, by_step, stops, with_disks}
use Rattle.iss_model.specs.Disks.{may_keep}
use Rattle.iss_model.specs.Driver.{Upshot, done, ended_by, lost_by}
use Rattle.iss_sb.specs.declared.effects.Claim.{Claim}
use Rattle.iss_sb.specs.Evidence.{Module}
use Rattle.iss_theorems.proofs.CrashRecovery.JournaledEventsEnter.{forged-first}
use Rattle.iss_world.proofs.BookLemmas.{forged-append}
use Rattle.iss_world.specs.Refines.{end_of}
use Rattle.iss_world.specs.Internal.Steps.{ends_by, forged_in, kept_at, kept_to, stepped_to}
use Rattle.iss_world.specs.declared.ends.Evidence.{Evidence}

-- ---- tests of claims and strings

module _ {Msg : Type 0} (m : Module Msg) (s : Setup) (F : Formats Msg) (h : Held Msg) (c : ℕ) (event : NodeEvent) (claims : List Claim)
    (are : claims ≡ claims_at F (rules_of s) m (node_of s c) (h.net.cores c) event) where
  -- The event's own claims are not forged.
  pub at-stepped : first_forged s (rules_of s) h.signed claims ≡ None →
      at_core s F (rules_of s) m h c event ≡ stepped_to s h c (step F (rules_of s) m (node_of s c) (h.net.cores c) event)
  at-stepped none =
      let stepped = step F (rules_of s) m (node_of s c) (h.net.cores c) event in
      let here = claims_at F (rules_of s) m (node_of s c) (h.net.cores c) event in
      let none-here : first_forged s (rules_of s) h.signed here ≡ None = ap (λ (cs : List Claim). first_forged s (rules_of s) h.signed cs) (sym are) ∙ none in
      ap (λ (o : Option Claim). by_forged o h (after_step s h c stepped)) (forged-append s (rules_of s) h.signed here (early_of stepped) none-here)

  pub at-forged : (claim : Claim) → Some claim ≡ first_forged s (rules_of s) h.signed claims → at_core s F (rules_of s) m h c event ≡ ended_by h (Forged claim)
  at-forged claim is =
      let stepped = step F (rules_of s) m (node_of s c) (h.net.cores c) event in
      let here = claims_at F (rules_of s) m (node_of s c) (h.net.cores c) event in
      let one : first_forged s (rules_of s) h.signed here ≡ Some claim = ap (λ (cs : List Claim). first_forged s (rules_of s) h.signed cs) (sym are) ∙ sym is in
      ap (λ (o : Option Claim). by_forged o h (after_step s h c stepped)) (forged-first s (rules_of s) h.signed here (early_of stepped) claim one)

ending : {Msg : Type 0} (f : Option Claim) (o : Option End) (h : Held Msg) (next : Held Msg) (e : End) → first_of (forged_in f) o ≡ Some e →
    by_forged f h (by_collision o h next) ≡ ended_by h e
ending (Some c) o h next e q = ap (λ (z : End). ended_by h z) (some-injective (Forged c) e q)
ending None (Some x) h next e q = ap (λ (z : End). ended_by h z) (some-injective x e q)
ending None None h next e q = absurd (none-some e q)

going : {Msg : Type 0} (f : Option Claim) (o : Option End) (h : Held Msg) (next : Held Msg) → first_of (forged_in f) o ≡ None → by_forged f h (by_collision o h next) ≡ done next
going (Some c) o h next q = absurd (none-some (Forged c) (sym q))
going None (Some x) h next q = absurd (none-some x (sym q))
going None None h next q = refl

module _ {Msg : Type 0} (s : Setup) (h : Held Msg) (c : ℕ) (t : Turn Msg) where
  pub turn-ends : (e : End) → ends_by s h.signed h.hashed t.early t.strings ≡ Some e → stepped_to s h c (Taken t) ≡ ended_by h e
  turn-ends e q = ending (first_forged s (rules_of s) h.signed t.early) (collision_in t.strings h.hashed) h (turned_to s h c t) e q

  pub turn-done : ends_by s h.signed h.hashed t.early t.strings ≡ None → stepped_to s h c (Taken t) ≡ done (turned_to s h c t)
  turn-done q = going (first_forged s (rules_of s) h.signed t.early) (collision_in t.strings h.hashed) h (turned_to s h c t) q

pub kept-end : (o : Option Evidence) (e : Evidence) (p : Option End) → o ≡ Some e → option_map end_of o ≡ p → Some (end_of e) ≡ p
kept-end o e p q h = sym (ap (λ (z : Option Evidence). option_map end_of z) q) ∙ h

pub no-end : (o : Option Evidence) (p : Option End) → o ≡ None → option_map end_of o ≡ p → p ≡ None
no-end o p q h = sym h ∙ ap (λ (z : Option Evidence). option_map end_of z) q

-- The evidence that a step reveals: by claims that arrived early, then by strings.
pub ends-forged : (s : Setup) (signed : List Signed) (hashed strings : List (List ℕ)) (early lent : List Claim) (claim : Claim) (o : Option Claim) → lent ≡ early → o ≡ Some claim →
    o ≡ first_forged s (rules_of s) signed lent → Some (Forged claim) ≡ ends_by s signed hashed early strings
ends-forged s signed hashed strings early lent claim o same some is =
    let one : Some claim ≡ first_forged s (rules_of s) signed early = sym some ∙ is ∙ ap (λ (cs : List Claim). first_forged s (rules_of s) signed cs) same in
    ap (λ (q : Option Claim). first_of (forged_in q) (collision_in strings hashed)) one

pub ends-collided : (s : Setup) (signed : List Signed) (hashed strings lent-strings : List (List ℕ)) (early lent : List Claim) (o : Option Claim) (end : Option End) → lent ≡ early → lent-strings ≡ strings →
    o ≡ None → o ≡ first_forged s (rules_of s) signed lent → end ≡ collision_in lent-strings hashed → end ≡ ends_by s signed hashed early strings
ends-collided s signed hashed strings lent-strings early lent o end same same-strings none is e =
    let no' : None ≡ first_forged s (rules_of s) signed early = sym none ∙ is ∙ ap (λ (cs : List Claim). first_forged s (rules_of s) signed cs) same in
    e ∙ ap (λ (xs : List (List ℕ)). collision_in xs hashed) same-strings ∙ ap (λ (q : Option Claim). first_of (forged_in q) (collision_in strings hashed)) no'

-- The turn's claims and strings are those of the released outcome.
pub made-ends : (s : Setup) {Msg : Type 0} (h : Held Msg) (t : Turn Msg) (o : Outcome) → IsMade t o → ends_by s h.signed h.hashed o.early o.hashed ≡ ends_by s h.signed h.hashed t.early t.strings
made-ends s h t o made =
    ap (λ (cs : List Claim). ends_by s h.signed h.hashed cs o.hashed) made.early ∙ ap (λ (xs : List (List ℕ)). ends_by s h.signed h.hashed t.early xs) made.hashed

-- ---- an event at a core, by its disk

either : {A : Type 0} (b : Bool) (x y z : A) → x ≡ z → y ≡ z → cond b x y ≡ z
either true x y z p q = p
either false x y z p q = q

module _ {Msg : Type 0} (m : Module Msg) (s : Setup) (F : Formats Msg) (w : Machines Msg) (c : ℕ) (event : NodeEvent) where
  abbrev its_step : Stepped Msg
  its_step = step F (rules_of s) m (node_of s c) (w.held.net.cores c) event

  abbrev ended_with : Claim → Upshot (Machines Msg)
  ended_with claim = record { state = w; lost = None; ended = Some (Forged claim) }

  -- A core whose disk has failed takes no event.
  pub machine-stopped : (w.disks c).failed ≡ true → at_machine s F (rules_of s) m w c event ≡ lost_by w Stopped
  machine-stopped e = ap (λ (b : Bool). cond b (lost_by w Stopped) (by_step s F (rules_of s) m w c event its_step)) e

  machine-goes : (w.disks c).failed ≡ false → at_machine s F (rules_of s) m w c event ≡ by_step s F (rules_of s) m w c event its_step
  machine-goes e = ap (λ (b : Bool). cond b (lost_by w Stopped) (by_step s F (rules_of s) m w c event its_step)) e

  module _ (claims : List Claim) (are : claims ≡ claims_at F (rules_of s) m (node_of s c) (w.held.net.cores c) event) (working : (w.disks c).failed ≡ false) where
    abbrev room : Bool
    room = may_keep (w.disks c).passes

    first-is : (o : Option Claim) → first_forged s (rules_of s) w.held.signed claims ≡ o →
        first_forged s (rules_of s) w.held.signed (claims_at F (rules_of s) m (node_of s c) (w.held.net.cores c) event) ≡ o
    first-is o is = ap (λ (cs : List Claim). first_forged s (rules_of s) w.held.signed cs) (sym are) ∙ is

    forged-step : (claim : Claim) → Some claim ≡ first_forged s (rules_of s) w.held.signed claims → (o : Stepped Msg) →
        by_step s F (rules_of s) m w c event o ≡ ended_with claim
    forged-step claim is (Dropped why) = ap (λ (d : Upshot (Held Msg)). with_disks w w.disks d) (at-forged m s F w.held c event claims are claim is)
    forged-step claim is (Taken turn) =
        either room (with_disks w (kept_at w c event) (at_core s F (rules_of s) m w.held c event))
        (stops (first_forged s (rules_of s) w.held.signed (claims_at F (rules_of s) m (node_of s c) (w.held.net.cores c) event)) w c) (ended_with claim)
        (ap (λ (d : Upshot (Held Msg)). with_disks w (kept_at w c event) d) (at-forged m s F w.held c event claims are claim is))
        (ap (λ (o : Option Claim). stops o w c) (first-is (Some claim) (sym is)))

    -- The event claims a forged signature.
    pub machine-forged : (claim : Claim) → Some claim ≡ first_forged s (rules_of s) w.held.signed claims → at_machine s F (rules_of s) m w c event ≡ ended_with claim
    machine-forged claim is = machine-goes working ∙ forged-step claim is its_step

    kept-step : first_forged s (rules_of s) w.held.signed claims ≡ None → (o : Stepped Msg) → its_step ≡ o →
        by_step s F (rules_of s) m w c event o ≡ kept_to s w c event o
    kept-step none (Dropped why) q =
        ap (λ (d : Upshot (Held Msg)). with_disks w w.disks d) (at-stepped m s F w.held c event claims are none ∙ ap (λ (o : Stepped Msg). stepped_to s w.held c o) q)
    kept-step none (Taken turn) q =
        ap (λ (d : Upshot (Held Msg)). cond room (with_disks w (kept_at w c event) d)
        (stops (first_forged s (rules_of s) w.held.signed (claims_at F (rules_of s) m (node_of s c) (w.held.net.cores c) event)) w c))
        (at-stepped m s F w.held c event claims are none ∙ ap (λ (o : Stepped Msg). stepped_to s w.held c o) q)
        ∙ ap (λ (o : Option Claim). cond room (with_disks w (kept_at w c event) (stepped_to s w.held c (Taken turn))) (stops o w c)) (first-is None none)

    -- If no claim is forged, the core is stepped.
    pub machine-kept : first_forged s (rules_of s) w.held.signed claims ≡ None → at_machine s F (rules_of s) m w c event ≡ kept_to s w c event its_step
    machine-kept none = machine-goes working ∙ kept-step none its_step refl
