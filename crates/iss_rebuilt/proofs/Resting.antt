-- A core between two events, and what an event does to it: the core stays in its epoch, or enters the next one as it
-- would without early messages, and then takes these, which may end that epoch too.
use Rattle.std.proofs.Common.{◌≡◌, ◌⊎◌, inl, inr, ℕ, suc, ◌≤◌, ◌<◌, ◌^◌, Bool, true, false, cond, eqb, List, [], ◌∷◌, ◌++◌, length, length-append, Option, Some, None, refl, sym, ap, ap₂, ◌∙◌, subst, arith}
use Rattle.iss_base.specs.Lists.{In, first_of}
use Rattle.iss_base.proofs.Lists.{eqb-other, eqb-same, in_append, in_left}
use Rattle.iss_request.specs.Fields.{IsReadAgain}
use Rattle.iss_request.specs.declared.ids.Slot.{Slot}
use Rattle.iss_request.specs.declared.requests.Batch.{Batch}
use Rattle.iss_request.specs.declared.setups.Setup.{Setup}
use Rattle.iss_sb.specs.declared.effects.Input.{Input}
use Rattle.iss_sb.specs.declared.effects.Input.TheVariants.{Cast, Receive, Timeout}
use Rattle.iss_sb.specs.Evidence.{Module}
use Rattle.iss_transfer.specs.declared.pieces.Piece.{Piece as Sent_piece}
use Rattle.iss_rules.specs.declared.events.NodeEvent.{NodeEvent}
use Rattle.iss_rules.specs.declared.events.NodeEvent.TheVariants.{Packet as On_packet, Propose as On_propose, Timeout as On_timeout, AskFrom as On_ask}
use Rattle.iss_rules.specs.Parcels.{Body, Formats, OfModule, OfPiece, Parcel}
use Rattle.iss_rules.specs.Past.{Past, is_complete}
use Rattle.iss_rules.specs.Rules.{Rules}
use Rattle.iss_rules.specs.Votes.{stable}
use Rattle.iss_model.specs.Node.{Core, Dropped, Early, Stepped, Taken, Turn, adopts_piece, advance_epochs, counted, early_most, ended, ends, finish_step, or_unchanged, step, step_unjudged, takes_each, takes_early, then_turn, try_step, unchanged}
use Rattle.iss_model.specs.Sound.{carried}
use Rattle.iss_model.proofs.Casts.{cast-fit, cast-read, casting-ready, early-ready, kept-ready, requested-ready}
use Rattle.iss_model.proofs.Places.{FiledCore, step-keeps}
use Rattle.iss_model.proofs.Ready.{IsReadyCore}
use Rattle.iss_model.proofs.Rows.{IsFit}
use Rattle.iss_model.proofs.Steps.{IsAdopted, IsCast, IsInput, IsKept, Took, adopted, asked, cast, casting, fired, handed, input-taken, kept, next_batch, received, sought, took, voted}
use Rattle.iss_model.proofs.Told.{AreTold}
use Rattle.iss_rebuilt.specs.Stored.{early_parcel}
use Rattle.iss_rebuilt.proofs.Ballots.{ballots-counted, counted-keeps}
use Rattle.iss_rebuilt.proofs.Entering.{advance-ends, advance-enters, advance-stays, cast-step, entered_last, input-passes, message-step, piece-step, quiet, quiet-adopted, quiet-ends, quiet-input}
use Rattle.iss_rebuilt.proofs.Regular.{Goes, IsFresh, IsGoodFrame, IsRegular, MayTake, adopts-fresh, adopts-goes, adopts-regular, ends-fresh, ends-goes, ends-regular, goes-refl, goes-trans, input-goes, input-regular, input-spare, regular-open, slots-in}

-- a message that a core may hear
abbrev pub IsTold : {Msg : Type 0} → Setup → Module Msg → ℕ → Msg → Type 0
IsTold s M from msg = (from < s.n) × IsReadAgain (M.spell s.version) (M.parse s.version) msg

-- an early message as an input
abbrev pub heard_of : {Msg : Type 0} → Early Msg → Input Msg
heard_of x = Receive (record { 0 = x.from }) x.msg

may-hear : {Msg : Type 0} (s : Setup) (M : Module Msg) (from : ℕ) (msg : Msg) → IsTold s M from msg → MayTake s M (Receive (record { 0 = from }) msg)
may-hear s M from msg h = λ p q. (
  subst (λ (t : Setup). (from < t.n) × IsReadAgain (M.spell t.version) (M.parse t.version) msg) (sym q) h,
  subst (λ (t : Setup). from < t.n) (sym q) h.0,
)

module _ {Msg : Type 0} (s : Setup) (F : Formats Msg) (R : Rules) (M : Module Msg) (P : IsGoodFrame s F R M) (me : ℕ) where
  -- the early messages of a core
  pub record AreEarly (c : Core Msg) : Type 0 where
    pub few : length c.early ≤ early_most
    pub told : AreTold s M c
    pub again : (x : Early Msg) → In x c.early →
        F.unwrap (F.wrap (early_parcel (suc c.past.epoch) x)) ≡ Some (early_parcel (suc c.past.epoch) x)

  pub no-early : (c : Core Msg) → c.early ≡ [] → AreEarly c
  no-early c q = record {
    few = subst (λ (xs : List (Early Msg)). length xs ≤ early_most) (sym q) (omega arith);
    told = λ x i. absurd (subst (λ (xs : List (Early Msg)). In x xs) q i);
    again = λ x i. absurd (subst (λ (xs : List (Early Msg)). In x xs) q i);
  }

  abbrev pub IsOpen : Core Msg → Type 0
  IsOpen c = is_complete R M me c.past ≡ false

  pub record IsResting (c : Core Msg) : Type 0 where
    pub regular : IsRegular s F R M P me c
    pub filed : FiledCore R M me c
    pub unfinished : IsOpen c
    pub early : AreEarly c

  -- ---- early messages

  -- core d, to which early messages led from core c, and the core that entered an epoch by them
  pub record IsTried (c d : Core Msg) (entered : Option (Core Msg)) : Type 0 where
    pub regular : IsRegular s F R M P me d
    pub unfinished : IsOpen d
    pub early : d.early ≡ []
    pub goes : Goes R (slots-in s F R M P me) M me c d
    pub stage : ((d.past.epoch ≡ c.past.epoch) × (entered ≡ None))
        ⊎ ((d.past.epoch ≡ suc c.past.epoch) × IsFresh R (slots-in s F R M P me) M me d.past × (entered ≡ Some d))

  untried : (c : Core Msg) → IsRegular s F R M P me c → IsOpen c → c.early ≡ [] → IsTried c c None
  untried c h unfinished early =
      record { regular = h; unfinished = unfinished; early = early; goes = goes-refl R (slots-in s F R M P me) M me c; stage = inl (refl, refl) }

  -- a core after an input, and after the end of its epoch if it is over
  ended-tried : (c : Core Msg) (u : Turn Msg) → IsRegular s F R M P me u.core → u.core.leaf < 2 ^ s.keys → u.core.early ≡ [] → u.core.past.epoch ≡ c.past.epoch →
      Goes R (slots-in s F R M P me) M me c u.core → u.entered ≡ None → IsTried c (ended F R M me u).core (ended F R M me u).entered
  ended-tried c u h spare early same goes none = go (is_complete R M me u.core.past) refl
    where
      go : (b : Bool) → is_complete R M me u.core.past ≡ b → IsTried c (cond b (then_turn u (ends F R M me)) u).core (cond b (then_turn u (ends F R M me)) u).entered
      go false q = record { regular = h; unfinished = q; early = early; goes = goes; stage = inl (same, none) }
      go true q =
          let regular = ends-regular s F R M P me u.core h q spare in
          let fresh = ends-fresh s F R M P me u.core h q in
          record {
            regular = regular;
            unfinished = regular-open s F R M P me (ends F R M me u.core).core regular fresh;
            early = refl;
            goes = goes-trans R (slots-in s F R M P me) M me c u.core (ends F R M me u.core).core goes (ends-goes s F R M P me u.core h q);
            stage = inr (
              ap (λ (n : ℕ). suc n) same,
              fresh,
              ap (λ (xs : List (Early Msg)). Some (record (ends F R M me u.core).core { early = xs })) early,
            );
          }

  pub early-tried : (c : Core Msg) (x : Early Msg) → IsRegular s F R M P me c → IsOpen c → c.early ≡ [] → IsTold s M x.from x.msg →
      IsTried c (takes_early F R M me c x).core (takes_early F R M me c x).entered
  early-tried c x h unfinished early told = go (try_step F R M me c x.leader (heard_of x)) refl
    where
      go : (o : Stepped Msg) → try_step F R M me c x.leader (heard_of x) ≡ o →
          IsTried c (ended F R M me (or_unchanged c o)).core (ended F R M me (or_unchanged c o)).entered
      go (Dropped why) q =
          subst (λ (b : Bool). IsTried c (cond b (then_turn (unchanged c) (ends F R M me)) (unchanged c)).core
          (cond b (then_turn (unchanged c) (ends F R M me)) (unchanged c)).entered) (sym unfinished) (untried c h unfinished early)
      go (Taken u) q =
          let i = input-taken F R M me c x.leader (heard_of x) u q in
          let fit : IsFit F R M me c x.leader (heard_of x) = record { leads = i.leads; claims = i.claims; leaves = i.leaves; judged = i.judged } in
          let may = may-hear s M x.from x.msg told in
          subst (λ (w : Turn Msg). IsTried c (ended F R M me w).core (ended F R M me w).entered) (sym i.is)
          (ended-tried c (step_unjudged F R M me c x.leader (heard_of x))
          (input-regular s F R M P me c x.leader (heard_of x) h fit may)
          (input-spare s F R M P me c x.leader (heard_of x) h fit may) early refl
          (input-goes s F R M P me c x.leader (heard_of x) h fit may) refl)

  -- in another epoch none is taken
  pub each-stops : (e : ℕ) (xs : List (Early Msg)) (c : Core Msg) → (c.past.epoch ≡ e → ⊥) → takes_each F R M me e xs c ≡ unchanged c
  each-stops e [] c ne = refl
  each-stops e (x ∷ xs) c ne =
      ap (λ (b : Bool). cond b (then_turn (takes_early F R M me c x) (takes_each F R M me e xs)) (unchanged c)) (eqb-other c.past.epoch e ne)

  -- the first is taken, and then the others
  pub each-next : (e : ℕ) (x : Early Msg) (xs : List (Early Msg)) (c : Core Msg) → c.past.epoch ≡ e →
      takes_each F R M me e (x ∷ xs) c ≡ then_turn (takes_early F R M me c x) (takes_each F R M me e xs)
  each-next e x xs c q =
      ap (λ (b : Bool). cond b (then_turn (takes_early F R M me c x) (takes_each F R M me e xs)) (unchanged c))
      (ap (λ (n : ℕ). eqb n e) q ∙ eqb-same e)

  tried-then : (c d f : Core Msg) (o p : Option (Core Msg)) → IsTried c d o → d.past.epoch ≡ c.past.epoch → o ≡ None → IsTried d f p →
      IsTried c f (first_of p o)
  tried-then c d f o p a same none b = record {
    regular = b.regular;
    unfinished = b.unfinished;
    early = b.early;
    goes = goes-trans R (slots-in s F R M P me) M me c d f a.goes b.goes;
    stage = elim b.stage [
      | inl q ↦ inl (q.0 ∙ same, ap₂ (λ (x y : Option (Core Msg)). first_of x y) q.1 none)
      | inr q ↦ inr (q.0 ∙ ap (λ (n : ℕ). suc n) same, q.1, ap (λ (x : Option (Core Msg)). first_of x o) q.2)
    ];
  }

  pub each-tried : (e : ℕ) (xs : List (Early Msg)) (c : Core Msg) → c.past.epoch ≡ e → IsRegular s F R M P me c → IsOpen c → c.early ≡ [] →
      ((x : Early Msg) → In x xs → IsTold s M x.from x.msg) → IsTried c (takes_each F R M me e xs c).core (takes_each F R M me e xs c).entered
  each-tried e [] c q h unfinished early told = untried c h unfinished early
  each-tried e (x ∷ xs) c q h unfinished early told =
      let d : Core Msg = (takes_early F R M me c x).core in
      let o : Option (Core Msg) = (takes_early F R M me c x).entered in
      let first : IsTried c d o = early-tried c x h unfinished early (told x (inl refl)) in
      subst (λ (w : Turn Msg). IsTried c w.core w.entered) (sym (each-next e x xs c q)) (elim first.stage [
        | inl same ↦
            tried-then c d (takes_each F R M me e xs d).core o (takes_each F R M me e xs d).entered first same.0 same.1
            (each-tried e xs d (same.0 ∙ q) first.regular first.unfinished first.early (λ y i. told y (inr i)))
        | inr later ↦
            subst (λ (w : Turn Msg). IsTried c w.core (first_of w.entered o)) (sym (each-stops e xs d (λ z. let l = later.0 in absurd (omega (arith, z, l, q))))) first
      ])

  -- ---- events

  -- a core that has just entered the next epoch
  pub record IsBegun (c d : Core Msg) : Type 0 where
    pub regular : IsRegular s F R M P me d
    pub fresh : IsFresh R (slots-in s F R M P me) M me d.past
    pub early : d.early ≡ []
    pub epoch : d.past.epoch ≡ suc c.past.epoch
    pub goes : Goes R (slots-in s F R M P me) M me c d

  -- what an event leads to
  pub data Ends (c : Core Msg) (event : NodeEvent) (t : Turn Msg) : Type 0 where
    stays : IsRegular s F R M P me t.core → IsOpen t.core → t.core.past.epoch ≡ c.past.epoch → Goes R (slots-in s F R M P me) M me c t.core → AreEarly t.core →
        t.entered ≡ None → Ends c event t
    enters : (u : Turn Msg) → step F R M me (quiet c) event ≡ Taken u → IsBegun c u.core →
        t.core ≡ (takes_each F R M me (suc c.past.epoch) c.early u.core).core → t.entered ≡ entered_last F R M me c.past.epoch c.early u.core →
        Ends c event t

  -- an input that core b takes, which is core c with a part of its waiting requests in flight
  module _ (c : Core Msg) (h : IsResting c) (event : NodeEvent) (t : Turn Msg) (b : Core Msg) (l : ℕ) (input : Input Msg) (regular : IsRegular s F R M P me b)
      (goes : Goes R (slots-in s F R M P me) M me c b) (past : b.past ≡ c.past) (early : b.early ≡ c.early) (fit : IsFit F R M me b l input) (may : MayTake s M input) where
    abbrev u : Turn Msg
    u = step_unjudged F R M me b l input

    input-ends : (v : Turn Msg) → v.core ≡ quiet u.core → t ≡ advance_epochs F R M me u → step F R M me (quiet c) event ≡ Taken (advance_epochs F R M me v) →
        Ends c event t
    input-ends v same q step_is = go (is_complete R M me u.core.past) refl
      where
        after : IsRegular s F R M P me u.core
        after = input-regular s F R M P me b l input regular fit may

        spare : u.core.leaf < 2 ^ s.keys
        spare = input-spare s F R M P me b l input regular fit may

        on : Goes R (slots-in s F R M P me) M me c u.core
        on = goes-trans R (slots-in s F R M P me) M me c b u.core goes (input-goes s F R M P me b l input regular fit may)

        epoch : u.core.past.epoch ≡ c.past.epoch
        epoch = ap (λ (z : Past Msg). z.epoch) past

        kept_early : AreEarly u.core
        kept_early =
            let e = h.early in
            record {
              few = subst (λ (xs : List (Early Msg)). length xs ≤ early_most) (sym early) e.few;
              told = λ x i. e.told x (subst (λ (xs : List (Early Msg)). In x xs) early i);
              again = λ x i. subst (λ (n : ℕ). F.unwrap (F.wrap (early_parcel (suc n) x)) ≡ Some (early_parcel (suc n) x)) (sym epoch)
                  (e.again x (subst (λ (xs : List (Early Msg)). In x xs) early i));
            }

        go : (b : Bool) → is_complete R M me u.core.past ≡ b → Ends c event t
        go false z = subst (λ (w : Turn Msg). Ends c event w) (sym (q ∙ advance-stays F R M me u z)) (stays after z epoch on kept_early refl)
        go true z =
            let begun : (advance_epochs F R M me v).core ≡ (ends F R M me u.core).core = quiet-ends F R M me u v same z in
            let next : Core Msg = (ends F R M me u.core).core in
            let is : IsBegun c next = record {
              regular = ends-regular s F R M P me u.core after z spare;
              fresh = ends-fresh s F R M P me u.core after z;
              early = refl;
              epoch = ap (λ (n : ℕ). suc n) epoch;
              goes = goes-trans R (slots-in s F R M P me) M me c u.core next on (ends-goes s F R M P me u.core after z);
            } in
            enters (advance_epochs F R M me v) step_is (subst (λ (d : Core Msg). IsBegun c d) (sym begun) is)
            (ap (λ (w : Turn Msg). w.core) q
            ∙ (advance-ends F R M me u z
            ∙ (ap₂ (λ (n : ℕ) (xs : List (Early Msg)). (takes_each F R M me (suc n) xs next).core) epoch early
            ∙ ap (λ (d : Core Msg). (takes_each F R M me (suc c.past.epoch) c.early d).core) (sym begun))))
            (ap (λ (w : Turn Msg). w.entered) q
            ∙ (advance-enters F R M me u z
            ∙ (ap₂ (λ (n : ℕ) (xs : List (Early Msg)). entered_last F R M me n xs next) epoch early
            ∙ ap (λ (d : Core Msg). entered_last F R M me c.past.epoch c.early d) (sym begun))))

  module _ (low : me < s.n) (c : Core Msg) (h : IsResting c) where
    own : Goes R (slots-in s F R M P me) M me c c
    own = goes-refl R (slots-in s F R M P me) M me c

    fits : (l : ℕ) (input : Input Msg) (u : Turn Msg) → IsInput F R M me c l input u → IsFit F R M me c l input
    fits l input u i = record { leads = i.leads; claims = i.claims; leaves = i.leaves; judged = i.judged }

    -- an input in the instance of a leader
    plain-ends : (event : NodeEvent) (t : Turn Msg) (l : ℕ) (input : Input Msg) (u : Turn Msg) → IsInput F R M me c l input u → MayTake s M input →
        t ≡ advance_epochs F R M me u → step F R M me (quiet c) event ≡ finish_step F R M me (try_step F R M me (quiet c) l input) → Ends c event t
    plain-ends event t l input u i may q step_is =
        input-ends c h event t c l input h.regular own refl refl (fits l input u i) may (step_unjudged F R M me (quiet c) l input) refl
        (q ∙ ap (λ (w : Turn Msg). advance_epochs F R M me w) i.is)
        (step_is ∙ ap (λ (o : Stepped Msg). finish_step F R M me o) (input-passes F R M me (quiet c) l input _ (quiet-input F R M me c l input u i)))

    cast-ends : (t : Turn Msg) (slot : Slot) (u : Turn Msg) → IsCast F R M me c slot u → t ≡ advance_epochs F R M me u → Ends c On_propose t
    cast-ends t slot u i q =
        let batch : Batch = next_batch F R M me c in
        let b : Core Msg = casting F R M me c slot in
        let ready = h.regular.ready in
        let regular : IsRegular s F R M P me b = record {
          ready = casting-ready F R M me c slot ready;
          heard = h.regular.heard;
          ballots = h.regular.ballots;
          leaves = h.regular.leaves;
        } in
        let may : MayTake s M (Cast slot batch) =
        λ p setup. (cast-read R M me c F s p setup P.sound.batch (λ r k. ready.spelled r (in_left r c.waiting (carried c.flight) k)), tt) in
        input-ends c h On_propose t b me (Cast slot batch) regular (record { epoch = own.epoch; logs = own.logs; certs = own.certs }) refl refl
        (cast-fit R M me c ready.sound F P.law slot u i) may
        (step_unjudged F R M me (casting F R M me (quiet c) slot) me (Cast slot batch)) refl (q ∙ ap (λ (w : Turn Msg). advance_epochs F R M me w) i.is)
        (cast-step F R M me (quiet c) slot i.leads i.leaves i.free)

    piece-ends : (bytes : List ℕ) (t : Turn Msg) (k : Parcel Msg) (x : Sent_piece) → F.unwrap bytes ≡ Some k → k.body ≡ OfPiece x →
        IsAdopted F R M me c x t → Ends c (On_packet bytes) t
    piece-ends bytes t k x un b a =
        let read = P.faithful.pieced bytes k x un b in
        let entry = P.pieced bytes k x un b in
        let d : Core Msg = (adopts_piece R M me c x).core in
        enters (then_turn (adopts_piece R M me (quiet c) x) (takes_each F R M me (suc c.past.epoch) []))
        (piece-step F R M me (quiet c) bytes k x _ un b (quiet-adopted F R M me c x t a))
        (record {
          regular = adopts-regular s F R M P me c x h.regular (t, a) read entry;
          fresh = adopts-fresh s F R M P me c x h.regular (t, a) read entry;
          early = refl;
          epoch = refl;
          goes = adopts-goes s F R M P me c x h.regular (t, a) read entry;
        })
        (ap (λ (w : Turn Msg). w.core) a.is) (ap (λ (w : Turn Msg). w.entered) a.is)

    -- an event that ends no epoch
    still : (event : NodeEvent) (t : Turn Msg) (d : Core Msg) → t.core ≡ d → IsRegular s F R M P me d → d.past ≡ c.past →
        Goes R (slots-in s F R M P me) M me c d → AreEarly d → t.entered ≡ None → Ends c event t
    still event t d q regular past goes early none =
        stays (subst (λ (f : Core Msg). IsRegular s F R M P me f) (sym q) regular)
        (ap (λ (f : Core Msg). is_complete R M me f.past) q ∙ (ap (λ (z : Past Msg). is_complete R M me z) past ∙ h.unfinished))
        (ap (λ (f : Core Msg). f.past.epoch) q ∙ ap (λ (z : Past Msg). z.epoch) past)
        (subst (λ (f : Core Msg). Goes R (slots-in s F R M P me) M me c f) (sym q) goes)
        (subst (λ (f : Core Msg). AreEarly f) (sym q) early) none

    -- early messages are not about the rest of a core
    same-early : (d : Core Msg) → d.early ≡ c.early → d.past ≡ c.past → AreEarly d
    same-early d q past = record {
      few = subst (λ (xs : List (Early Msg)). length xs ≤ early_most) (sym q) h.early.few;
      told = λ x i. h.early.told x (subst (λ (xs : List (Early Msg)). In x xs) q i);
      again = λ x i. subst (λ (n : ℕ). F.unwrap (F.wrap (early_parcel (suc n) x)) ≡ Some (early_parcel (suc n) x)) (sym (ap (λ (z : Past Msg). z.epoch) past))
          (h.early.again x (subst (λ (xs : List (Early Msg)). In x xs) q i));
    }

    kept-ends : (bytes : List ℕ) (t : Turn Msg) (k : Parcel Msg) (l : ℕ) (msg : Msg) → F.unwrap bytes ≡ Some k → k.body ≡ OfModule l msg →
        k.epoch ≡ suc c.past.epoch → IsKept F R M me c (record { from = k.from; leader = l; msg = msg }) t → Ends c (On_packet bytes) t
    kept-ends bytes t k l msg un b e i =
        let x : Early Msg = record { from = k.from; leader = l; msg = msg } in
        let d : Core Msg = record c { early = c.early ++ x ∷ [] } in
        let back : early_parcel (suc c.past.epoch) x ≡ k =
        ap₂ (λ (n : ℕ) (y : Body Msg). parcel_on k n y) (sym e) (sym b) in
        let new : F.unwrap (F.wrap (early_parcel (suc c.past.epoch) x)) ≡ Some (early_parcel (suc c.past.epoch) x) =
        subst (λ (z : Parcel Msg). F.unwrap (F.wrap z) ≡ Some z) (sym back) (P.again bytes k l msg un b) in
        still (On_packet bytes) t d (ap (λ (w : Turn Msg). w.core) i.is)
        (record { ready = early-ready F R M me c (c.early ++ x ∷ []) h.regular.ready; heard = h.regular.heard; ballots = h.regular.ballots; leaves = h.regular.leaves })
        refl (record { epoch = own.epoch; logs = own.logs; certs = own.certs })
        (record {
          few = let n = length-append c.early (x ∷ []) in let lt = i.few in omega (arith, n, lt);
          told = λ y m. elim (in_append y c.early (x ∷ []) m) [
            | inl a ↦ h.early.told y a
            | inr a ↦ elim a [ inl w ↦ rw w (P.faithful.told bytes k l msg un b) | inr none ↦ absurd none ]
          ];
          again = λ y m. elim (in_append y c.early (x ∷ []) m) [
            | inl a ↦ h.early.again y a
            | inr a ↦ elim a [ inl w ↦ rw w new | inr none ↦ absurd none ]
          ];
        })
        (ap (λ (w : Turn Msg). w.entered) i.is)
      where
        parcel_on : Parcel Msg → ℕ → Body Msg → Parcel Msg
        parcel_on k n y = record { from = k.from; epoch = n; body = y }

    took-ends : (event : NodeEvent) (t : Turn Msg) → Took F R M me c event t → Ends c event t
    took-ends event t (received {bytes} k l msg u un b e i q) =
        plain-ends (On_packet bytes) t l (Receive (record { 0 = k.from }) msg) u i (may-hear s M k.from msg (P.faithful.told bytes k l msg un b)) q
        (message-step F R M me (quiet c) bytes k l msg un b e)
    took-ends event t (kept {bytes} k l msg un b e i) = kept-ends bytes t k l msg un b e i
    took-ends event t (asked {bytes} k r un b i) =
        let d : Core Msg = record c { waiting = c.waiting ++ r ∷ [] } in
        still (On_packet bytes) t d (ap (λ (w : Turn Msg). w.core) i.is)
        (record {
          ready = subst (λ (w : Turn Msg). IsReadyCore R M me w.core) i.is (requested-ready F R M me c r t h.regular.ready (P.faithful.asked bytes k r un b) i);
          heard = h.regular.heard;
          ballots = h.regular.ballots;
          leaves = h.regular.leaves;
        })
        refl (record { epoch = own.epoch; logs = own.logs; certs = own.certs }) (same-early d refl refl) (ap (λ (w : Turn Msg). w.entered) i.is)
    took-ends event t (cast slot u i q) = cast-ends t slot u i q
    took-ends event t (voted {bytes} k v un b i) =
        let d : Core Msg = counted R c v in
        let old = h.regular in
        still (On_packet bytes) t d (ap (λ (w : Turn Msg). w.core) i.is)
        (record {
          ready = kept-ready F R M me c c.early (v ∷ c.votes) (stable R (v ∷ c.votes) v ++ c.certs) c.leaf old.ready;
          heard = old.heard;
          ballots = ballots-counted s R P.few c.past.epoch c.votes c.certs v i.near i.signed i.uncounted old.ballots (P.voted bytes k v un b);
          leaves = old.leaves;
        })
        refl (record { epoch = own.epoch; logs = own.logs; certs = counted-keeps s R P.few c.past.epoch c.votes c.certs v i.near i.signed i.uncounted })
        (same-early d refl refl) (ap (λ (w : Turn Msg). w.entered) i.is)
    took-ends event t (handed {bytes} k x un b i) =
        still (On_packet bytes) t c (ap (λ (w : Turn Msg). w.core) i.is) h.regular refl own h.early (ap (λ (w : Turn Msg). w.entered) i.is)
    took-ends event t (adopted {bytes} k x un b a) = piece-ends bytes t k x un b a
    took-ends event t (sought peer q) = still (On_ask peer) t c (ap (λ (w : Turn Msg). w.core) q) h.regular refl own h.early (ap (λ (w : Turn Msg). w.entered) q)
    took-ends event t (fired l u i q) = plain-ends (On_timeout l) t l.0 Timeout u i (λ p setup. (tt, tt)) q refl

    pub step-ends : (event : NodeEvent) (t : Turn Msg) → step F R M me c event ≡ Taken t → Ends c event t
    step-ends event t q = took-ends event t (took F R M me c event t q)

    -- the core after the event is between two events again
    pub step-rests : (event : NodeEvent) (t : Turn Msg) → step F R M me c event ≡ Taken t → IsResting t.core
    step-rests event t q = go (step-ends event t q)
      where
        filed : FiledCore R M me t.core
        filed = (step-keeps R M me F P.segments P.law c event t h.filed q).filed

        go : Ends c event t → IsResting t.core
        go (stays regular unfinished epoch goes early none) = record { regular = regular; filed = filed; unfinished = unfinished; early = early }
        go (enters u step_is b is entered) =
            let tried = each-tried (suc c.past.epoch) c.early u.core b.epoch b.regular (regular-open s F R M P me u.core b.regular b.fresh) b.early
            (λ x i. h.early.told x i) in
            record {
              regular = subst (λ (f : Core Msg). IsRegular s F R M P me f) (sym is) tried.regular;
              filed = filed;
              unfinished = subst (λ (f : Core Msg). IsOpen f) (sym is) tried.unfinished;
              early = no-early t.core (ap (λ (f : Core Msg). f.early) is ∙ tried.early);
            }

    pub step-goes : (event : NodeEvent) (t : Turn Msg) → step F R M me c event ≡ Taken t → Goes R (slots-in s F R M P me) M me c t.core
    step-goes event t q = go (step-ends event t q)
      where
        go : Ends c event t → Goes R (slots-in s F R M P me) M me c t.core
        go (stays regular unfinished epoch goes early none) = goes
        go (enters u step_is b is entered) =
            let tried = each-tried (suc c.past.epoch) c.early u.core b.epoch b.regular (regular-open s F R M P me u.core b.regular b.fresh) b.early
            (λ x i. h.early.told x i) in
            subst (λ (f : Core Msg). Goes R (slots-in s F R M P me) M me c f) (sym is)
            (goes-trans R (slots-in s F R M P me) M me c u.core _ b.goes tried.goes)
