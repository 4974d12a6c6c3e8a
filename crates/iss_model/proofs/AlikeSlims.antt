-- Placed cores with equal slims are alike, and the other way round.
use Rattle.std.proofs.Common.{◌≡◌, ℕ, ◌+◌, ◌-◌, List, Option, Some, None, length, refl, sym, ap, ◌∙◌, subst, arith}
use Rattle.std.specs.List.{filter}
use mathlib.Core.Path.{fun_ext}
use Rattle.iss_checkpoint.specs.declared.votes.Cert.{Cert}
use Rattle.iss_checkpoint.specs.declared.votes.Vote.{Vote}
use Rattle.iss_request.specs.declared.ids.Slot.{Slot}
use Rattle.iss_request.specs.declared.requests.Batch.{Batch}
use Rattle.iss_request.specs.declared.requests.Request.{Request}
use Rattle.iss_request.specs.declared.requests.Value.{Value}
use Rattle.iss_request.specs.declared.setups.Setup.{Setup}
use Rattle.iss_sb.specs.Evidence.{Item, Module}
use Rattle.iss_rules.specs.declared.events.NodeEvent.{NodeEvent}
use Rattle.iss_rules.specs.Concrete.{rules_of}
use Rattle.iss_rules.specs.Formats.{formats_of}
use Rattle.iss_rules.specs.Parcels.{Formats}
use Rattle.iss_rules.specs.Past.{log_of, initial_history}
use Rattle.iss_rules.specs.Rules.{Rules}
use Rattle.iss_rules.specs.Setups.{IsSetupOf}
use Rattle.iss_rules.specs.Votes.{cert_on, is_open}
use Rattle.iss_rules.proofs.Ending.{HasSlots}
use Rattle.iss_rules.proofs.Layouts.{sound-rules}
use Rattle.iss_rules.proofs.Logs.{newborn-log}
use Rattle.iss_model.specs.Node.{Core, Dropped, Early, Stepped, Taken, Turn, initial_core, step}
use Rattle.iss_model.specs.Run.{claims_at}
use Rattle.iss_model.specs.Slims.{IsPlaced, StepsRespectSlims, IsSameEntered, IsSameStep, SlimCore, StepsKeepPlaced, slim}
use Rattle.iss_model.proofs.AlikeLogs.{Placed, ap₃}
use Rattle.iss_model.proofs.AlikeSteps.{AlikeCore, AlikeEntered, AlikeStep, claims-alike, step-alike}

module _ {Msg : Type 0} (F : Formats Msg) (R : Rules) (slots : HasSlots R) (M : Module Msg) (me : ℕ) where
  past-placed : (c : Core Msg) → IsPlaced R M me c → Placed R M me c.past
  past-placed c h = record { bounded = record { evidence = h.unborn; adopted = h.settled }; reached = h.reached }

  placed-past : (c : Core Msg) → Placed R M me c.past → IsPlaced R M me c
  placed-past c h = record { unborn = h.bounded.evidence; settled = h.bounded.adopted; reached = h.reached }

  -- equal slims make cores alike
  pub slims-alike : (c d : Core Msg) → IsPlaced R M me c → IsPlaced R M me d → slim R M me c ≡ slim R M me d → AlikeCore F R slots M me c d
  slims-alike c d hc hd q =
      let epoch : c.past.epoch ≡ d.past.epoch = ap (λ (s : SlimCore Msg). s.epoch) q in
      record {
        past = record {
          placed = past-placed c hc;
          other = past-placed d hd;
          epoch = epoch;
          log = ap (λ (s : SlimCore Msg). s.log) q;
          taken = λ k l le.
              let i : ℕ = k - c.past.epoch in
              let x : c.past.epoch + i ≡ k = omega (arith, le) in
              let y : d.past.epoch + i ≡ k = omega (arith, le, epoch) in
              ap (λ (n : ℕ). c.past.evidence n l) (sym x) ∙ (ap (λ (s : SlimCore Msg). s.taken i l) q ∙ ap (λ (n : ℕ). d.past.evidence n l) y);
        };
        waiting = ap (λ (s : SlimCore Msg). s.waiting) q;
        flight = ap (λ (s : SlimCore Msg). s.flight) q;
        early = ap (λ (s : SlimCore Msg). s.early) q;
        voted = record { certs_are = λ e. ap (λ (s : SlimCore Msg). s.certs e) q; votes_are = ap (λ (s : SlimCore Msg). s.votes) q };
        leaf = ap (λ (s : SlimCore Msg). s.leaf) q;
      }

  abbrev made_of : ℕ → List Value → (ℕ → ℕ → List (Item Msg)) → List Request → List (Slot × Batch) → List (Early Msg) → List Vote → (ℕ → Option Cert) → ℕ → SlimCore Msg
  made_of e log taken waiting flight early votes certs leaf =
      record { epoch = e; log = log; taken = taken; waiting = waiting; flight = flight; early = early; votes = votes; certs = certs; leaf = leaf }

  -- and alike cores have equal slims
  pub alike-slims : (c d : Core Msg) → AlikeCore F R slots M me c d → slim R M me c ≡ slim R M me d
  alike-slims c d a =
      let tc : ℕ → ℕ → List (Item Msg) = λ k l. c.past.evidence (c.past.epoch + k) l in
      let td : ℕ → ℕ → List (Item Msg) = λ k l. d.past.evidence (d.past.epoch + k) l in
      let vc : List Vote = filter (is_open c.certs) c.votes in
      let vd : List Vote = filter (is_open d.certs) d.votes in
      let kc : ℕ → Option Cert = λ e. cert_on c.certs e in
      let kd : ℕ → Option Cert = λ e. cert_on d.certs e in
      let taken : tc ≡ td =
      fun_ext (λ k. fun_ext (λ l.
      a.past.taken (c.past.epoch + k) l (omega arith) ∙ ap (λ (e : ℕ). d.past.evidence (e + k) l) a.past.epoch)) in
      let certs : kc ≡ kd = fun_ext (λ e. a.voted.certs_are e) in
      ap₃ (λ (e : ℕ) (log : List Value) (t : ℕ → ℕ → List (Item Msg)). made_of e log t c.waiting c.flight c.early vc kc c.leaf) a.past.epoch a.past.log taken
      ∙ (ap₃ (λ (w : List Request) (f : List (Slot × Batch)) (x : List (Early Msg)). made_of d.past.epoch (log_of R M me d.past) td w f x vc kc c.leaf)
      a.waiting a.flight a.early
      ∙ ap₃ (λ (v : List Vote) (k : ℕ → Option Cert) (n : ℕ). made_of d.past.epoch (log_of R M me d.past) td d.waiting d.flight d.early v k n)
      a.voted.votes_are certs a.leaf)

  same-entered : (o p : Option (Core Msg)) → AlikeEntered F R slots M me o p → IsSameEntered R M me o p
  same-entered None None h = tt
  same-entered None (Some d) h = absurd h
  same-entered (Some c) None h = absurd h
  same-entered (Some c) (Some d) h = alike-slims c d h

  same-step : (o p : Stepped Msg) → AlikeStep F R slots M me o p → IsSameStep R M me o p
  same-step (Dropped x) (Dropped y) h = h
  same-step (Dropped x) (Taken u) h = absurd h
  same-step (Taken t) (Dropped y) h = absurd h
  same-step (Taken t) (Taken u) h = record {
    core = alike-slims t.core u.core h.core;
    entered = same-entered t.entered u.entered h.entered;
    sends = h.sends;
    own = h.own;
    early = h.early;
    strings = h.strings;
  }

  pub steps-same : (c d : Core Msg) → IsPlaced R M me c → IsPlaced R M me d → slim R M me c ≡ slim R M me d → (event : NodeEvent) →
      IsSameStep R M me (step F R M me c event) (step F R M me d event) × (claims_at F R M me c event ≡ claims_at F R M me d event)
  steps-same c d hc hd q event =
      let a = slims-alike c d hc hd q in
      (same-step (step F R M me c event) (step F R M me d event) (step-alike F R slots M me c d a event), claims-alike F R slots M me c d a event)

  placed-step : (o : Stepped Msg) → AlikeStep F R slots M me o o → (t : Turn Msg) → o ≡ Taken t → IsPlaced R M me t.core
  placed-step (Dropped x) h t q = absurd (cc)
  placed-step (Taken u) h t q =
      let same : u ≡ t = cc in
      subst (λ (z : Turn Msg). IsPlaced R M me z.core) same (placed-past u.core h.core.past.placed)

  pub steps-placed : (c : Core Msg) (event : NodeEvent) (t : Turn Msg) → IsPlaced R M me c → step F R M me c event ≡ Taken t → IsPlaced R M me t.core
  steps-placed c event t h q =
      placed-step (step F R M me c event) (step-alike F R slots M me c c (slims-alike c c h h refl) event) t q

  pub initial-placed : IsPlaced R M me initial_core
  initial-placed = record {
    unborn = λ e l lt. refl;
    settled = λ e k v q. absurd (cc);
    reached = let q : length (log_of R M me (initial_history {Msg = Msg})) ≡ 0 = ap (λ (xs : List Value). length xs) (newborn-log R M me) in omega (arith);
  }

module _ {Msg : Type 0} (s : Setup) (M : Module Msg) (h : IsSetupOf M s) where
  slots-of : HasSlots (rules_of s)
  slots-of = let sound = sound-rules M s h in record { some = sound.some_slots; most = sound.most }

  pub steps-respect-slims : StepsRespectSlims s M
  steps-respect-slims me c d hc hd q event = steps-same (formats_of s M) (rules_of s) slots-of M me c d hc hd q event

  pub steps-keep-placed : StepsKeepPlaced s M
  steps-keep-placed me = (
    initial-placed (formats_of s M) (rules_of s) slots-of M me,
    λ c event t p q. steps-placed (formats_of s M) (rules_of s) slots-of M me c event t p q,
  )
