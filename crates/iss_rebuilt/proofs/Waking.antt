-- Cores with equal slim parts take the same early messages alike: each is taken as the packet that it came in.
use Rattle.std.proofs.Common.{◌≡◌, ◌≢◌, ◌⊎◌, inl, inr, ℕ, suc, Bool, true, false, cond, nat_le, List, [], ◌∷◌, length, Some, refl, sym, ap, ap₂, ◌∙◌, subst}
use Rattle.iss_base.specs.Lists.{In}
use Rattle.iss_base.proofs.Lists.{same_or_not}
use Rattle.iss_request.specs.declared.requests.Value.{Value}
use Rattle.iss_request.specs.declared.setups.Setup.{Setup}
use Rattle.iss_sb.specs.Evidence.{Module}
use Rattle.iss_rules.specs.declared.events.NodeEvent.{NodeEvent}
use Rattle.iss_rules.specs.declared.events.NodeEvent.TheVariants.{Packet as On_packet}
use Rattle.iss_rules.specs.Parcels.{Formats}
use Rattle.iss_rules.specs.Past.{is_complete, start_of}
use Rattle.iss_rules.specs.Rules.{Rules}
use Rattle.iss_model.specs.Node.{Core, Dropped, Early, Stepped, Taken, Turn, ended, ends, finish_step, or_unchanged, step, takes_each, takes_early, then_turn, try_step, unchanged}
use Rattle.iss_model.specs.Slims.{IsPlaced, IsSameStep, SlimCore, slim}
use Rattle.iss_model.proofs.AlikeSlims.{steps-placed, steps-same}
use Rattle.iss_model.proofs.Steps.{input-taken}
use Rattle.iss_rebuilt.specs.Stored.{early_parcel}
use Rattle.iss_rebuilt.proofs.Entering.{advance-ends, advance-stays, message-step}
use Rattle.iss_rebuilt.proofs.Regular.{IsGoodFrame, IsRegular, slots-in}
use Rattle.iss_rebuilt.proofs.Resting.{IsOpen, IsTold, each-next, each-stops, early-tried, heard_of}

module _ {Msg : Type 0} (s : Setup) (F : Formats Msg) (R : Rules) (M : Module Msg) (P : IsGoodFrame s F R M) (me : ℕ) where
  -- the core after an event, which may be dropped
  abbrev after : Core Msg → Stepped Msg → Core Msg
  after c (Dropped why) = c
  after c (Taken t) = t.core

  -- an early message as an event
  abbrev event_of : ℕ → Early Msg → NodeEvent
  event_of e x = On_packet (F.wrap (early_parcel e x))

  abbrev IsAgain : ℕ → Early Msg → Type 0
  IsAgain e x = F.unwrap (F.wrap (early_parcel e x)) ≡ Some (early_parcel e x)

  early-event : (c : Core Msg) (e : ℕ) (x : Early Msg) → c.past.epoch ≡ e → c.early ≡ [] → IsOpen s F R M P me c → IsAgain e x →
      (takes_early F R M me c x).core ≡ after c (step F R M me c (event_of e x))
  early-event c e x q early unfinished again =
      go (try_step F R M me c x.leader (heard_of x)) refl
      ∙ sym (ap (λ (o : Stepped Msg). after c o) (message-step F R M me c (F.wrap (early_parcel e x)) (early_parcel e x) x.leader x.msg again refl (sym q)))
    where
      turn : (u : Turn Msg) → u.core.early ≡ [] → (b : Bool) → is_complete R M me u.core.past ≡ b →
          (cond b (then_turn u (ends F R M me)) u).core ≡ after c (finish_step F R M me (Taken u))
      turn u z false k = sym (ap (λ (w : Turn Msg). w.core) (advance-stays F R M me u k))
      turn u z true k =
          sym (advance-ends F R M me u k
          ∙ ap (λ (xs : List (Early Msg)). (takes_each F R M me (suc u.core.past.epoch) xs (ends F R M me u.core).core).core) z)

      go : (o : Stepped Msg) → try_step F R M me c x.leader (heard_of x) ≡ o →
          (ended F R M me (or_unchanged c o)).core ≡ after c (finish_step F R M me o)
      go (Dropped why) k = ap (λ (b : Bool). (cond b (then_turn (unchanged c) (ends F R M me)) (unchanged c)).core) unfinished
      go (Taken u) k =
          let i = input-taken F R M me c x.leader (heard_of x) u k in
          turn u (ap (λ (w : Turn Msg). w.core.early) i.is ∙ early) (is_complete R M me u.core.past) refl

  -- ---- equal slim parts

  pub record AreSlim (c d : Core Msg) : Type 0 where
    pub placed : IsPlaced R M me c
    pub other : IsPlaced R M me d
    pub slims : slim R M me c ≡ slim R M me d

  slim-early : (c d : Core Msg) → slim R M me c ≡ slim R M me d → c.early ≡ d.early
  slim-early c d q = ap (λ (z : SlimCore Msg). z.early) q

  slim-epoch : (c d : Core Msg) → slim R M me c ≡ slim R M me d → c.past.epoch ≡ d.past.epoch
  slim-epoch c d q = ap (λ (z : SlimCore Msg). z.epoch) q

  slim-open : (c d : Core Msg) → slim R M me c ≡ slim R M me d → IsOpen s F R M P me c → IsOpen s F R M P me d
  slim-open c d q h =
      sym (ap₂ (λ (e : ℕ) (log : List Value). nat_le (start_of R log (suc e)) (length log)) (slim-epoch c d q) (ap (λ (z : SlimCore Msg). z.log) q)) ∙ h

  -- an event keeps them equal
  pub slim-after : (c d : Core Msg) → AreSlim c d → (event : NodeEvent) → AreSlim (after c (step F R M me c event)) (after d (step F R M me d event))
  slim-after c d h event =
      go (step F R M me c event) (step F R M me d event) refl refl
      (steps-same F R (slots-in s F R M P me) M me c d h.placed h.other h.slims event).0
    where
      go : (o p : Stepped Msg) → step F R M me c event ≡ o → step F R M me d event ≡ p → IsSameStep R M me o p → AreSlim (after c o) (after d p)
      go (Dropped x) (Dropped y) j k z = h
      go (Dropped x) (Taken u) j k z = absurd z
      go (Taken t) (Dropped y) j k z = absurd z
      go (Taken t) (Taken u) j k z = record {
        placed = steps-placed F R (slots-in s F R M P me) M me c event t h.placed j;
        other = steps-placed F R (slots-in s F R M P me) M me d event u h.other k;
        slims = z.core;
      }

  abbrev TakeAlike : ℕ → List (Early Msg) → Core Msg → Core Msg → Type 0
  TakeAlike e xs c d = AreSlim (takes_each F R M me e xs c).core (takes_each F R M me e xs d).core

  -- and so do early messages
  pub each-slim : (e : ℕ) (xs : List (Early Msg)) (c d : Core Msg) → AreSlim c d → IsRegular s F R M P me c → IsOpen s F R M P me c → c.early ≡ [] →
      ((x : Early Msg) → In x xs → IsTold s M x.from x.msg) → ((x : Early Msg) → In x xs → IsAgain e x) →
      TakeAlike e xs c d
  each-slim e [] c d h regular unfinished early told again = h
  each-slim e (x ∷ xs) c d h regular unfinished early told again =
      go (λ a b k r u n. each-slim e xs a b k r u n (λ y i. told y (inr i)) (λ y i. again y (inr i))) (same_or_not c.past.epoch e)
    where
      same : c.past.epoch ≡ d.past.epoch
      same = slim-epoch c d h.slims

      go : ((a b : Core Msg) → AreSlim a b → IsRegular s F R M P me a → IsOpen s F R M P me a → a.early ≡ [] → TakeAlike e xs a b) →
          (c.past.epoch ≡ e) ⊎ (c.past.epoch ≢ e) → TakeAlike e (x ∷ xs) c d
      go others (inr ne) =
          subst (λ (w : Turn Msg). AreSlim w.core (takes_each F R M me e (x ∷ xs) d).core) (sym (each-stops s F R M P me e (x ∷ xs) c ne))
          (subst (λ (w : Turn Msg). AreSlim c w.core) (sym (each-stops s F R M P me e (x ∷ xs) d (λ z. ne (same ∙ z)))) h)
      go others (inl q) =
          let c1 : Core Msg = (takes_early F R M me c x).core in
          let d1 : Core Msg = (takes_early F R M me d x).core in
          let tried = early-tried s F R M P me c x regular unfinished early (told x (inl refl)) in
          let c_is = early-event c e x q early unfinished (again x (inl refl)) in
          let d_is = early-event d e x (sym same ∙ q) (sym (slim-early c d h.slims) ∙ early) (slim-open c d h.slims unfinished) (again x (inl refl)) in
          let next : AreSlim c1 d1 =
          subst (λ (f : Core Msg). AreSlim f d1) (sym c_is)
          (subst (λ (f : Core Msg). AreSlim (after c (step F R M me c (event_of e x))) f) (sym d_is) (slim-after c d h (event_of e x))) in
          subst (λ (w : Turn Msg). AreSlim w.core (takes_each F R M me e (x ∷ xs) d).core) (sym (each-next s F R M P me e x xs c q))
          (subst (λ (w : Turn Msg). AreSlim (takes_each F R M me e xs c1).core w.core) (sym (each-next s F R M P me e x xs d (sym same ∙ q)))
          (others c1 d1 next tried.regular tried.unfinished tried.early))
