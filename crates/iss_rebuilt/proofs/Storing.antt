-- A core that has just entered an epoch is storable. It is the one that a step shows, and woken it is the core after the
-- step.
use Rattle.std.proofs.Common.{◌≡◌, ◌⊎◌, inl, inr, ℕ, suc, ◌≤◌, ◌<◌, List, [], ◌∷◌, length, Option, Some, None, refl, sym, ap, ap₂, ◌∙◌, subst, arith}
use Rattle.iss_base.specs.Lists.{In, first_of}
use Rattle.iss_base.proofs.Lists.{in_left}
use Rattle.iss_request.specs.declared.ids.Slot.{Slot}
use Rattle.iss_request.specs.declared.requests.Batch.{Batch}
use Rattle.iss_request.specs.declared.setups.Setup.{Setup}
use Rattle.iss_sb.specs.Evidence.{Item, Module, accepts}
use Rattle.iss_rules.specs.declared.events.NodeEvent.{NodeEvent}
use Rattle.iss_rules.specs.Parcels.{Formats}
use Rattle.iss_rules.specs.Rules.{Rules}
use Rattle.iss_rules.proofs.Ids.{ids-left, in-ids}
use Rattle.iss_model.specs.Frames.{Frame}
use Rattle.iss_model.specs.Node.{Core, Early, Taken, Turn, early_most, step, takes_each}
use Rattle.iss_model.specs.Sound.{carried}
use Rattle.iss_model.proofs.Casts.{early-ready}
use Rattle.iss_model.proofs.Places.{FiledCore, step-keeps}
use Rattle.iss_rebuilt.specs.Reading.{woken}
use Rattle.iss_rebuilt.specs.Storable.{IsStorable}
use Rattle.iss_rebuilt.specs.Stored.{early_parcel}
use Rattle.iss_rebuilt.proofs.Ballots.{ballots-near, ballots-true}
use Rattle.iss_rebuilt.proofs.Entering.{quiet}
use Rattle.iss_rebuilt.proofs.Regular.{Goes, IsFresh, IsGoodFrame, IsRegular, fresh-exact, goes-refl, goes-trans, regular-open, slots-in}
use Rattle.iss_rebuilt.proofs.Resting.{Ends, IsBegun, IsOpen, IsResting, IsTold, each-tried, enters, stays, step-ends}

module _ {Msg : Type 0} (W : Frame Msg) (P : IsGoodFrame W.setup W.formats W.rules W.spec) (me : ℕ) where
  abbrev s : Setup
  s = W.setup

  abbrev F : Formats Msg
  F = W.formats

  abbrev R : Rules
  R = W.rules

  abbrev M : Module Msg
  M = W.spec

  -- the early messages that a core takes next
  pub record AreNext (d : Core Msg) : Type 0 where
    pub few : length d.early ≤ early_most
    pub told : (x : Early Msg) → In x d.early → IsTold s M x.from x.msg
    pub again : (x : Early Msg) → In x d.early → F.unwrap (F.wrap (early_parcel d.past.epoch x)) ≡ Some (early_parcel d.past.epoch x)

  -- nothing is in flight
  nothing-flies : (d : Core Msg) → FiledCore R M me d → IsFresh R (slots-in s F R M P me) M me d.past → d.flight ≡ []
  nothing-flies d filed fresh = go d.flight refl
    where
      go : (fs : List (Slot × Batch)) → d.flight ≡ fs → fs ≡ []
      go [] q = refl
      go (f ∷ fs) q =
          let cast = filed.cast f (subst (λ (xs : List (Slot × Batch)). In f xs) (sym q) (inl refl)) in
          absurd (subst (λ (xs : List (Item Msg)). In f (accepts xs)) (fresh d.past.epoch me (omega arith)) cast.held)

  pub storable-of : (d : Core Msg) → IsRegular s F R M P me d → FiledCore R M me d → IsFresh R (slots-in s F R M P me) M me d.past → AreNext d → IsStorable W me d
  storable-of d h filed fresh next =
      let sound = h.ready.sound in
      record {
        placed = record { reached = sound.reached; settled = sound.settled; unborn = sound.unborn };
        fresh = fresh;
        exact = fresh-exact R (slots-in s F R M P me) M me d.past fresh sound.settled;
        landed = nothing-flies d filed fresh;
        different = filed.waiting_once;
        signed = λ q i. sound.signed q (in_left q d.waiting (carried d.flight) i);
        inside = λ q i. sound.inside q.id (ids-left q.id d.waiting (carried d.flight) (in-ids q d.waiting i)) (sound.unordered q.id (in-ids q d.waiting i));
        unordered = λ q i. sound.unordered q.id (in-ids q d.waiting i);
        certified = ballots-true s R P.few d.past.epoch d.votes d.certs h.ballots;
        near = ballots-near s R P.few d.past.epoch d.votes d.certs h.ballots;
        counted = h.ballots.counted;
        few = next.few;
        read = next.again;
        leaves = h.leaves;
      }

  -- ---- the core that an event lets enter an epoch

  -- the core that a step lets enter an epoch
  pub record IsEntered (c : Core Msg) (t : Turn Msg) : Type 0 where
    pub core : Core Msg
    pub entered : t.entered ≡ Some core
    pub regular : IsRegular s F R M P me core
    pub storable : IsStorable W me core
    pub next : AreNext core
    pub onward : c.past.epoch < core.past.epoch
    pub to : Goes R (slots-in s F R M P me) M me c core
    pub on : Goes R (slots-in s F R M P me) M me core t.core
    pub unfinished : IsOpen s F R M P me (quiet core)
    pub quietly : IsRegular s F R M P me (quiet core)
    pub wakes : (woken W me core).core ≡ t.core

  module _ (low : me < s.n) (c : Core Msg) (h : IsResting s F R M P me c) (event : NodeEvent) (t : Turn Msg) (q : step F R M me c event ≡ Taken t) where
    -- the next epoch is entered, and not ended
    once : (u : Turn Msg) → step F R M me (quiet c) event ≡ Taken u → IsBegun s F R M P me c u.core →
        t.core ≡ (takes_each F R M me (suc c.past.epoch) c.early u.core).core → Goes R (slots-in s F R M P me) M me u.core t.core →
        t.entered ≡ Some (record u.core { early = c.early }) → IsEntered c t
    once u k b is on entered =
        let d : Core Msg = record u.core { early = c.early } in
        let back : quiet d ≡ u.core = ap (λ (xs : List (Early Msg)). record u.core { early = xs }) (sym b.early) in
        let with_early : (xs : List (Early Msg)) → IsRegular s F R M P me (record u.core { early = xs }) =
        λ xs. record { ready = early-ready F R M me u.core xs b.regular.ready; heard = b.regular.heard; ballots = b.regular.ballots; leaves = b.regular.leaves } in
        let filed : FiledCore R M me d = (step-keeps R M me F P.segments P.law (quiet c) event u h.filed k).filed in
        let next : AreNext d = record {
          few = h.early.few;
          told = h.early.told;
          again = λ x i. subst (λ (n : ℕ). F.unwrap (F.wrap (early_parcel n x)) ≡ Some (early_parcel n x)) (sym b.epoch) (h.early.again x i);
        } in
        record {
          core = d;
          entered = entered;
          regular = with_early c.early;
          storable = storable-of d (with_early c.early) filed b.fresh next;
          next = next;
          onward = let e = b.epoch in omega (arith, e);
          to = record { epoch = b.goes.epoch; logs = b.goes.logs; certs = b.goes.certs };
          on = record { epoch = on.epoch; logs = on.logs; certs = on.certs };
          unfinished = regular-open s F R M P me u.core b.regular b.fresh;
          quietly = with_early [];
          wakes =
              ap₂ (λ (n : ℕ) (f : Core Msg). (takes_each F R M me n c.early f).core) b.epoch back ∙ sym is;
        }

    -- it is entered and ended
    twice : t.core.past.epoch ≡ suc (suc c.past.epoch) → IsRegular s F R M P me t.core → t.core.early ≡ [] → Goes R (slots-in s F R M P me) M me c t.core →
        IsFresh R (slots-in s F R M P me) M me t.core.past → t.entered ≡ Some t.core → IsEntered c t
    twice same regular early goes fresh entered =
        let d : Core Msg = t.core in
        let filed : FiledCore R M me d = (step-keeps R M me F P.segments P.law c event t h.filed q).filed in
        let none : (x : Early Msg) → In x d.early → ⊥ = λ x i. subst (λ (xs : List (Early Msg)). In x xs) early i in
        let next : AreNext d = record {
          few = subst (λ (xs : List (Early Msg)). length xs ≤ early_most) (sym early) (omega arith);
          told = λ x i. absurd (none x i);
          again = λ x i. absurd (none x i);
        } in
        record {
          core = d;
          entered = entered;
          regular = regular;
          storable = storable-of d regular filed fresh next;
          next = next;
          onward = omega (arith, same);
          to = goes;
          on = goes-refl R (slots-in s F R M P me) M me d;
          unfinished = regular-open s F R M P me d regular fresh;
          quietly =
              record { ready = early-ready F R M me d [] regular.ready; heard = regular.heard; ballots = regular.ballots; leaves = regular.leaves };
          wakes =
              ap (λ (xs : List (Early Msg)). (takes_each F R M me d.past.epoch xs (quiet d)).core) early
              ∙ ap (λ (xs : List (Early Msg)). record d { early = xs }) (sym early);
        }

    -- a step stays in its epoch, or such a core enters the next one or the one after it
    pub entering : (t.entered ≡ None) ⊎ IsEntered c t
    entering = go (step-ends s F R M P me low c h event t q)
      where
        go : Ends s F R M P me c event t → (t.entered ≡ None) ⊎ IsEntered c t
        go (stays regular unfinished epoch goes early none) = inl none
        go (enters u k b is entered) =
            let f : Core Msg = (takes_each F R M me (suc c.past.epoch) c.early u.core).core in
            let tried = each-tried s F R M P me (suc c.past.epoch) c.early u.core b.epoch b.regular (regular-open s F R M P me u.core b.regular b.fresh) b.early
            (λ x i. h.early.told x i) in
            let on : Goes R (slots-in s F R M P me) M me u.core t.core =
            subst (λ (z : Core Msg). Goes R (slots-in s F R M P me) M me u.core z) (sym is) tried.goes in
            let d : Core Msg = record u.core { early = c.early } in
            let epoch : t.core.past.epoch ≡ f.past.epoch = ap (λ (z : Core Msg). z.past.epoch) is in
            elim tried.stage [
              | inl same ↦ inr (once u k b is on (entered ∙ ap (λ (o : Option (Core Msg)). first_of o (Some d)) same.1))
              | inr later ↦
                  inr (twice (epoch ∙ (later.0 ∙ ap (λ (n : ℕ). suc n) b.epoch)) (subst (λ (z : Core Msg). IsRegular s F R M P me z) (sym is) tried.regular)
                  (ap (λ (z : Core Msg). z.early) is ∙ tried.early) (goes-trans R (slots-in s F R M P me) M me c u.core t.core b.goes on)
                  (subst (λ (z : Core Msg). IsFresh R (slots-in s F R M P me) M me z.past) (sym is) later.1)
                  (entered ∙ (ap (λ (o : Option (Core Msg)). first_of o (Some d)) later.2 ∙ ap (λ (z : Core Msg). Some z) (sym is))))
            ]
