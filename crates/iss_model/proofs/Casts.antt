-- Every core of a run is sound, and the judge accepts what a sound core proposes.
use Rattle.std.proofs.Common.{◌&&◌, nat_lt, ◌≡◌, ◌⊎◌, inl, inr, ℕ, suc, ◌-◌, ◌≤◌, ◌<◌, Bool, true, false, cond, eqb, not, List, [], ◌∷◌, ◌++◌, length, length-append, take, is_some, Option, Some, None, refl, sym, ap, ◌∙◌, subst, arith, true≢false}
use Rattle.std.proofs.Math.Seq.{take-append_seam}
use Rattle.iss_base.specs.Lists.{Extends, In, oldest}
use Rattle.iss_base.proofs.Lists.{and-true, extends-length, extends-refl, extends-trans, in_append, in_left, in_right, is-eq, not-true, oldest-holds, oldest-part, or-false, set_at2-other}
use Rattle.iss_checkpoint.specs.declared.votes.Cert.{Cert}
use Rattle.iss_checkpoint.specs.declared.votes.Vote.{Vote}
use Rattle.iss_request.specs.Fields.{IsReadAgain}
use Rattle.iss_request.specs.Formats.{HasSpelling, parse_value, requests_most, spell_value}
use Rattle.iss_request.specs.Log.{has_id, ids, log_ids}
use Rattle.iss_request.specs.declared.ids.ReqId.{ReqId}
use Rattle.iss_request.specs.declared.ids.Slot.{Slot}
use Rattle.iss_request.specs.declared.requests.Batch.{Batch}
use Rattle.iss_request.specs.declared.requests.Request.{Request}
use Rattle.iss_request.specs.declared.requests.Value.{Value}
use Rattle.iss_request.specs.declared.requests.Value.TheVariants.{Batch as Value_batch}
use Rattle.iss_request.specs.declared.setups.Setup.{Setup}
use Rattle.iss_sb.specs.declared.effects.Input.{Input}
use Rattle.iss_sb.specs.declared.effects.Input.TheVariants.{Cast}
use Rattle.iss_sb.specs.declared.effects.Params.{Params}
use Rattle.iss_sb.specs.Evidence.{IsReadBatch, Module, accepts, delivered}
use Rattle.iss_sb.specs.Laws.{IsLawful}
use Rattle.iss_sb.proofs.Read.{batch-read}
use Rattle.iss_rules.specs.declared.events.NodeEvent.{NodeEvent}
use Rattle.iss_rules.specs.Judge.{judge, marks}
use Rattle.iss_buckets.specs.Waiting.{absent, cut}
use Rattle.iss_rules.specs.Parcels.{Formats, OfRequest, Parcel}
use Rattle.iss_rules.specs.Verdicts.{verdict}
use Rattle.iss_model.specs.Node.{Core, Early, Taken, Turn, first_slot, flown, has_slot, initial_core, in_next_epoch, step_unjudged, is_castable, is_mine, joined, next_slot, unchanged, returned, advance_epochs, step, adopts_piece, ends, then_turn, after_growth, takes_each}
use Rattle.iss_rules.specs.Votes.{cert_on, keeping, stable}
use Rattle.iss_rules.specs.Past.{Past, Piece, adopted_at, adopts, advanced, asked_in, before, before_own, is_complete, log_of, params_of, start_of, takes}
use Rattle.iss_rules.specs.Rules.{Rules}
use Rattle.iss_rules.proofs.Windows.{AreWindows}
use Rattle.iss_model.specs.Sound.{IsSoundCore, carried, held}
use Rattle.iss_model.proofs.Ready.{IsReadyCore}
use Rattle.iss_model.proofs.Cuts.{absent-ids, cut-few, cut-in, cut-once, uncut-ids}
use Rattle.iss_rules.proofs.Ending.{HasSlots, advanced-later, advanced-log, before-advanced, before-part, reached-advanced}
use Rattle.iss_rules.proofs.Epochs.{length-cut, start-extends, start-next}
use Rattle.iss_model.proofs.Flights.{casting-in, casting-once, ids-carried, ids-within, parts-of, refiled-in, refiled-once}
use Rattle.iss_rules.proofs.Ids.{ids-append, ids-in, ids-left, ids-once, ids-right, in-ids, log_ids-append, log_ids-extends, not-has}
use Rattle.iss_rules.proofs.Judged.{accepts-it}
use Rattle.iss_rules.proofs.Logs.{Later, Settled, before-later, log-later, takes-later}
use Rattle.iss_rules.proofs.Longest.{Bounded}
use Rattle.iss_rules.proofs.Pieces.{adopted-far, adopts-later, adopts-settled}
use Rattle.iss_model.proofs.Rows.{IsFit, each-holds, settles-holds, then_ends, then_takes}
use Rattle.iss_model.proofs.Steps.{IsAdopted, IsCast, IsRequested, Took, adopted, asked, cast, casting, fired, handed, kept, next_batch, received, sought, took, voted}
use Rattle.iss_transfer.specs.declared.pieces.Piece.{Piece as Sent_piece}

-- the newer part of a longer log
pub joined-newer : (newer old : List Value) → joined (length old) (newer ++ old) ≡ newer
joined-newer newer old = go (length (newer ++ old) - length old) (omega (arith, length-append newer old))
  where
    go : (n : ℕ) → n ≡ length newer → take n (newer ++ old) ≡ newer
    go n q = ap (λ (k : ℕ). take k (newer ++ old)) q ∙ take-append_seam newer old

pub log_ids-joined : (x : ReqId) (old new : List Value) → Extends old new → In x (log_ids new) → In x (log_ids (joined (length old) new)) ⊎ In x (log_ids old)
log_ids-joined x old new e i =
    let k : In x (log_ids (e.0 ++ old)) = subst (λ (t : List Value). In x (log_ids t)) e.1 i in
    let j : joined (length old) new ≡ e.0 = ap (λ (t : List Value). joined (length old) t) e.1 ∙ joined-newer e.0 old in
    elim (log_ids-append x e.0 old k) [
      | inl a ↦ inl (subst (λ (t : List Value). In x (log_ids t)) (sym j) a)
      | inr a ↦ inr a
    ]

module _ {Msg : Type 0} (F : Formats Msg) (R : Rules) (M : Module Msg) (me : ℕ) where
  pub settled-core : (c : Core Msg) → IsSoundCore R M me c → Settled R c.past
  settled-core c h = record { all = h.settled }

  -- no slot after the node's epoch is filled
  pub bounded-core : (c : Core Msg) → IsSoundCore R M me c → Bounded c.past
  bounded-core c h = record { evidence = h.unborn; adopted = h.settled }

  -- a core stays sound as its log grows, if windows and epoch starts stay
  pub refiled-sound : (c : Core Msg) (past : Past Msg) (leaf : ℕ) → IsSoundCore R M me c → Later R c.past past →
      ((x : ReqId) → In x (ids (held c)) → (In x (log_ids (log_of R M me past)) → ⊥) → (In x (log_ids (log_of R M me c.past)) → ⊥) →
      R.inside (before_own R M me past) past.epoch x ≡ true) →
      start_of R (log_of R M me past) past.epoch ≤ length (log_of R M me past) →
      ((e k : ℕ) (v : Value) → adopted_at past.adopted e k ≡ Some v → e < past.epoch) → ((e l : ℕ) → past.epoch < e → past.evidence e l ≡ []) →
      IsSoundCore R M me (after_growth R M me c past leaf)
  refiled-sound c past leaf h later inside reached settled unborn =
      let old = log_of R M me c.past in
      let new = log_of R M me past in
      let gone = log_ids (joined (length old) new) in
      let grown : Extends old new = log-later R M me c.past past later in
      let within : (q : Request) → In q (held (after_growth R M me c past leaf)) → In q (held c) = refiled-in gone (log_ids new) new c.waiting c.flight in
      record {
        different = refiled-once gone (log_ids new) new c.waiting c.flight h.different;
        signed = λ q i. h.signed q (within q i);
        inside = λ x i none. inside x (ids-within (held (after_growth R M me c past leaf)) (held c) within x i) none
            (λ k. none (subst (λ (t : List Value). In x (log_ids t)) (sym grown.1) (log_ids-extends x grown.0 old k)));
        unordered = λ x i j. elim (ids-append x (absent gone c.waiting) (absent (log_ids new) (returned new c.flight)) i) [
          | inl a ↦
              let k = absent-ids gone c.waiting x a in
              elim (log_ids-joined x old new grown j) [ inl b ↦ k.1 b | inr b ↦ h.unordered x k.0 b ]
          | inr a ↦ (absent-ids (log_ids new) (returned new c.flight) x a).1 j
        ];
        reached = reached;
        settled = settled;
        unborn = unborn;
      }

  -- a core stays sound after an input
  pub inputs-sound : (c : Core Msg) (l : ℕ) (input : Input Msg) → IsSoundCore R M me c → IsSoundCore R M me (step_unjudged F R M me c l input).core
  inputs-sound c l input h =
      let past = takes R M me c.past l input c.leaf in
      let old = log_of R M me c.past in
      let new = log_of R M me past in
      let later : Later R c.past past = takes-later R M me c.past l input c.leaf (settled-core c h) in
      let grown : Extends old new = log-later R M me c.past past later in
      let same : before R M me past c.past.epoch ≡ before R M me c.past c.past.epoch = before-later R M me c.past past c.past.epoch later h.reached in
      let start : start_of R new c.past.epoch ≡ start_of R old c.past.epoch = start-extends R old new c.past.epoch grown h.reached in
      let far : length old ≤ length new = extends-length old new grown in
      let reached : start_of R old c.past.epoch ≤ length old = h.reached in
      refiled-sound c past _ h later
      (λ x i none fresh. subst (λ (bf : List Value). R.inside bf c.past.epoch x ≡ true) (sym same) (h.inside x i fresh))
      (let n : start_of R new c.past.epoch ≤ length new = omega (arith, start, far, reached) in n)
      h.settled
      (λ e k lt. set_at2-other c.past.evidence c.past.epoch l _ e k (inl (omega (arith, lt))) ∙ h.unborn e k lt)

  pub requested-sound : (c : Core Msg) (q : Request) (t : Turn Msg) → IsSoundCore R M me c → IsRequested F R M me c q t → IsSoundCore R M me t.core
  requested-sound c q t h r =
      let a = or-false (has_id q.id (ids c.waiting)) _ r.unknown in
      let b = or-false (has_id q.id (flown c.flight)) (has_id q.id (log_ids (log_of R M me c.past))) a.1 in
      let p = parts-of c.waiting (carried c.flight) h.different in
      let grounded : In q.id (ids (carried c.flight)) → ⊥ =
      λ i. not-has q.id (flown c.flight) b.0 (subst (λ (xs : List ReqId). In q.id xs) (ids-carried c.flight) i) in
      let new : List Request = c.waiting ++ q ∷ [] in
      let new-waits : (x : ReqId) → In x (ids new) → In x (ids c.waiting) ⊎ (x ≡ q.id) =
      λ x i. elim (ids-append x c.waiting (q ∷ []) i) [ inl k ↦ inl k | inr k ↦ elim k [ inl e ↦ inr e | inr j ↦ absurd j ] ] in
      rw r.is (record {
        different = ids-once new (carried c.flight)
            (ids-once c.waiting (q ∷ []) p.left (λ i. i, tt) (λ x i. elim [ inl e ↦ not-has q.id (ids c.waiting) a.0 (rw (← e) i) | inr j ↦ absurd j ])) p.right
            (λ x i j. elim (new-waits x i) [ inl k ↦ p.apart x k j | inr e ↦ grounded (rw e at j) ]);
        signed = λ y i. elim (in_append y new (carried c.flight) i) [
          | inl k ↦ elim (in_append y c.waiting (q ∷ []) k) [
            | inl m ↦ h.signed y (in_left y c.waiting (carried c.flight) m)
            | inr m ↦ elim m [ inl e ↦ rw e r.signed | inr none ↦ absurd none ]
          ]
          | inr k ↦ h.signed y (in_right y c.waiting (carried c.flight) k)
        ];
        inside = λ x i none. elim (ids-append x new (carried c.flight) i) [
          | inl k ↦ elim (new-waits x k) [ inl m ↦ h.inside x (ids-left x c.waiting (carried c.flight) m) none | inr e ↦ rw e r.inside ]
          | inr k ↦ h.inside x (ids-right x c.waiting (carried c.flight) k) none
        ];
        unordered = λ x i. elim (new-waits x i) [ inl k ↦ h.unordered x k | inr e ↦ rw e (not-has q.id (log_ids (log_of R M me c.past)) b.1) ];
        reached = h.reached;
        settled = h.settled;
        unborn = h.unborn;
      })

  pub casting-sound : (c : Core Msg) (s : Slot) → IsSoundCore R M me c → IsSoundCore R M me (casting F R M me c s)
  casting-sound c s h =
      let within : (q : Request) → In q (held (casting F R M me c s)) → In q (held c) = casting-in R.batch (is_mine R M me c) s c.waiting c.flight in
      record {
        different = casting-once R.batch (is_mine R M me c) s c.waiting c.flight h.different;
        signed = λ q i. h.signed q (within q i);
        inside = λ x i none. h.inside x (ids-within (held (casting F R M me c s)) (held c) within x i) none;
        unordered = λ x i. h.unordered x (uncut-ids R.batch (is_mine R M me c) c.waiting x i);
        reached = h.reached;
        settled = h.settled;
        unborn = h.unborn;
      }

  pub inputs-ready : (c : Core Msg) (l : ℕ) (input : Input Msg) → IsReadyCore R M me c → IsReadyCore R M me (step_unjudged F R M me c l input).core
  inputs-ready c l input h =
      let new = log_of R M me (takes R M me c.past l input c.leaf) in
      record {
        sound = inputs-sound c l input h.sound;
        spelled = λ q i. h.spelled q (refiled-in (log_ids (joined (length (log_of R M me c.past)) new)) (log_ids new) new c.waiting c.flight q i);
      }

  pub casting-ready : (c : Core Msg) (s : Slot) → IsReadyCore R M me c → IsReadyCore R M me (casting F R M me c s)
  casting-ready c s h =
      record { sound = casting-sound c s h.sound; spelled = λ q i. h.spelled q (casting-in R.batch (is_mine R M me c) s c.waiting c.flight q i) }

  -- soundness is not about early messages, votes, certificates and the leaf
  pub kept-sound : (c : Core Msg) (early : List (Early Msg)) (votes : List Vote) (certs : List Cert) (leaf : ℕ) → IsSoundCore R M me c →
      IsSoundCore R M me (record c { early = early; votes = votes; certs = certs; leaf = leaf })
  kept-sound c early votes certs leaf h = record {
    different = h.different;
    signed = h.signed;
    inside = h.inside;
    unordered = h.unordered;
    reached = h.reached;
    settled = h.settled;
    unborn = h.unborn;
  }

  pub kept-ready : (c : Core Msg) (early : List (Early Msg)) (votes : List Vote) (certs : List Cert) (leaf : ℕ) → IsReadyCore R M me c →
      IsReadyCore R M me (record c { early = early; votes = votes; certs = certs; leaf = leaf })
  kept-ready c early votes certs leaf h = record { sound = kept-sound c early votes certs leaf h.sound; spelled = h.spelled }

  pub early-sound : (c : Core Msg) (xs : List (Early Msg)) → IsSoundCore R M me c → IsSoundCore R M me (record c { early = xs })
  early-sound c xs h = kept-sound c xs c.votes c.certs c.leaf h

  pub early-ready : (c : Core Msg) (xs : List (Early Msg)) → IsReadyCore R M me c → IsReadyCore R M me (record c { early = xs })
  early-ready c xs h = record { sound = early-sound c xs h.sound; spelled = h.spelled }

  pub requested-ready : (c : Core Msg) (q : Request) (t : Turn Msg) → IsReadyCore R M me c → HasSpelling q → IsRequested F R M me c q t →
      IsReadyCore R M me t.core
  requested-ready c q t h good r = record {
    sound = requested-sound c q t h.sound r;
    spelled = λ y i. elim (in_append y (c.waiting ++ q ∷ []) (carried c.flight) (subst (λ (z : Turn Msg). In y (held z.core)) r.is i)) [
      | inl k ↦ elim (in_append y c.waiting (q ∷ []) k) [
        | inl m ↦ h.spelled y (in_left y c.waiting (carried c.flight) m)
        | inr m ↦ elim m [ inl e ↦ rw e good | inr none ↦ absurd none ]
      ]
      | inr k ↦ h.spelled y (in_right y c.waiting (carried c.flight) k)
    ];
  }

  module _ (slots : HasSlots R) (windows : AreWindows R) where
    -- a core stays sound at the end of an epoch
    pub ends-sound : (c : Core Msg) → IsSoundCore R M me c → is_complete R M me c.past ≡ true → IsSoundCore R M me (in_next_epoch c)
    ends-sound c h complete =
        let old = log_of R M me c.past in
        let new = log_of R M me (advanced c.past) in
        let bounded = bounded-core c h in
        let same : new ≡ old = advanced-log R slots M me c.past bounded in
        let bf : before R M me (advanced c.past) (suc c.past.epoch) ≡ old = before-advanced R slots M me c.past bounded complete in
        let past-by : Extends (before R M me c.past c.past.epoch) old = before-part R slots M me c.past bounded in
        record {
          different = h.different;
          signed = h.signed;
          inside = λ x i none.
              let fresh : In x (log_ids old) → ⊥ = λ k. none (subst (λ (t : List Value). In x (log_ids t)) (sym same) k) in
              let now : R.inside old (suc c.past.epoch) x ≡ true =
              windows.kept (before R M me c.past c.past.epoch) old c.past.epoch (suc c.past.epoch) x (h.inside x i fresh) past-by (omega arith) fresh in
              subst (λ (t : List Value). R.inside t (suc c.past.epoch) x ≡ true) (sym bf) now;
          unordered = λ x i k. h.unordered x i (subst (λ (t : List Value). In x (log_ids t)) same k);
          reached = reached-advanced R slots M me c.past bounded complete;
          settled = λ e k v q. let lt = h.settled e k v q in omega (arith, lt);
          unborn = λ e l lt. h.unborn e l (omega (arith, lt));
        }

    -- also with the vote
    pub ends-ready : (c : Core Msg) → IsReadyCore R M me c → is_complete R M me c.past ≡ true → IsReadyCore R M me (ends F R M me c).core
    ends-ready c h complete =
        kept-ready (in_next_epoch c) [] c.votes c.certs (suc c.leaf) (record { sound = ends-sound c h.sound complete; spelled = h.spelled })

    -- a core stays sound after adopting a piece with one value for each slot of its epoch
    pub adopts-sound : (c : Core Msg) (p : Sent_piece) (t : Turn Msg) → IsSoundCore R M me c → IsAdopted F R M me c p t →
        IsSoundCore R M me (adopts_piece R M me c p).core
    adopts-sound c p t h a =
        let piece : Piece = record { epoch = c.past.epoch; values = p.values } in
        let past : Past Msg = adopts c.past piece in
        let old = log_of R M me c.past in
        let new = log_of R M me past in
        let later : Later R c.past past = adopts-later R c.past piece (settled-core c h) in
        let grown : Extends old new = log-later R M me c.past past later in
        let bf = before_own R M me c.past in
        let start : start_of R new c.past.epoch ≡ start_of R old c.past.epoch = start-extends R old new c.past.epoch grown h.reached in
        let long : length bf ≡ start_of R old c.past.epoch = length-cut R old c.past.epoch h.reached in
        let part : Extends bf new = extends-trans bf old new (before-part R slots M me c.past (bounded-core c h)) grown in
        let next = start-next R new c.past.epoch in
        let ahead : Extends bf (before_own R M me past) =
        subst (λ (xs : List Value). Extends bf (oldest (start_of R new (suc c.past.epoch)) xs)) (sym part.1)
        (oldest-holds (start_of R new (suc c.past.epoch)) part.0 bf (omega (arith, long, start, next))) in
        kept-sound (after_growth R M me c past c.leaf) [] c.votes (keeping c.certs p.cert (cert_on c.certs c.past.epoch)) c.leaf
        (refiled-sound c past c.leaf h later
        (λ x i none fresh. windows.kept bf (before_own R M me past) c.past.epoch (suc c.past.epoch) x (h.inside x i fresh) ahead (omega arith)
        (λ k.
        let whole = oldest-part (start_of R new (suc c.past.epoch)) new in
        none (subst (λ (xs : List Value). In x (log_ids xs)) (sym whole.1) (log_ids-extends x whole.0 (before_own R M me past) k))))
        (adopted-far R slots M me c.past (settled-core c h) h.reached piece refl a.whole)
        (adopts-settled R c.past piece refl (settled-core c h)).all
        (λ e l lt. h.unborn e l (omega (arith, lt))))

    pub adopts-ready : (c : Core Msg) (p : Sent_piece) (t : Turn Msg) → IsReadyCore R M me c → IsAdopted F R M me c p t →
        IsReadyCore R M me (adopts_piece R M me c p).core
    adopts-ready c p t h a =
        let new = log_of R M me (adopts c.past (record { epoch = c.past.epoch; values = p.values })) in
        record {
          sound = adopts-sound c p t h.sound a;
          spelled = λ q i. h.spelled q (refiled-in (log_ids (joined (length (log_of R M me c.past)) new)) (log_ids new) new c.waiting c.flight q i);
        }

    settles-ready : (t : Turn Msg) → IsReadyCore R M me t.core → IsReadyCore R M me (advance_epochs F R M me t).core
    settles-ready t h = settles-holds F R M me (λ t. IsReadyCore R M me t.core) (λ t l input. Unit {0})
        (λ t l input k fit come. inputs-ready t.core l input k) (λ t k complete. ends-ready t.core k complete) (λ t claims k. k) t h (λ done u x i k q r. tt)

    each-ready : (e : ℕ) (xs : List (Early Msg)) (t : Turn Msg) → IsReadyCore R M me t.core → IsReadyCore R M me (then_turn t (takes_each F R M me e xs)).core
    each-ready e xs t h = each-holds F R M me (λ t. IsReadyCore R M me t.core) (λ t l input. Unit {0})
        (λ t l input k fit come. inputs-ready t.core l input k) (λ t k complete. ends-ready t.core k complete) (λ t claims k. k) e xs t h
        (λ u x i k q r. tt)

    took-ready : (c : Core Msg) (event : NodeEvent) (t : Turn Msg) → IsReadyCore R M me c → Took F R M me c event t →
        ((bytes : List ℕ) (k : Parcel Msg) (q : Request) → F.unwrap bytes ≡ Some k → k.body ≡ OfRequest q → HasSpelling q) → IsReadyCore R M me t.core
    took-ready c event t h (received k l msg u un b e i q) read = rw q (settles-ready u (rw i.is (inputs-ready c l _ h)))
    took-ready c event t h (kept k l msg u b e i) read = rw i.is (early-ready c _ h)
    took-ready c event t h (asked {bytes} k q u b r) read = requested-ready c q t h (read bytes k q u b) r
    took-ready c event t h (cast s u i q) read = rw q (settles-ready u (rw i.is (inputs-ready (casting F R M me c s) me _ (casting-ready c s h))))
    took-ready c event t h (fired l u i q) read = rw q (settles-ready u (rw i.is (inputs-ready c l.0 _ h)))
    took-ready c event t h (voted k v u b r) read = rw r.is (kept-ready c c.early (v ∷ c.votes) (stable R (v ∷ c.votes) v ++ c.certs) c.leaf h)
    took-ready c event t h (handed k cert u b r) read = rw r.is h
    took-ready c event t h (adopted k p u b a) read = rw a.is (each-ready (suc c.past.epoch) c.early (adopts_piece R M me c p) (adopts-ready c p t h a))
    took-ready c event t h (sought peer q) read = rw q h

    -- a core stays sound after each step, if each received request has an encoding
    pub step-ready : ((bytes : List ℕ) (k : Parcel Msg) (q : Request) → F.unwrap bytes ≡ Some k → k.body ≡ OfRequest q → HasSpelling q) →
        (c : Core Msg) (event : NodeEvent) (t : Turn Msg) → IsReadyCore R M me c → step F R M me c event ≡ Taken t → IsReadyCore R M me t.core
    step-ready read c event t h q = took-ready c event t h (took F R M me c event t q) read

    -- logs only grow
    record Grown (old : Past Msg) (t : Turn Msg) : Type 0 where
      sound : IsSoundCore R M me t.core
      logs : Extends (log_of R M me old) (log_of R M me t.core.past)

    inputs-grown : (old : Past Msg) (t : Turn Msg) (l : ℕ) (input : Input Msg) → Grown old t → Grown old (then_takes F R M me t l input)
    inputs-grown old t l input k = record {
      sound = inputs-sound t.core l input k.sound;
      logs = extends-trans _ _ _ k.logs
          (log-later R M me t.core.past (takes R M me t.core.past l input t.core.leaf)
          (takes-later R M me t.core.past l input t.core.leaf (settled-core t.core k.sound)));
    }

    ends-grown : (old : Past Msg) (t : Turn Msg) → Grown old t → is_complete R M me t.core.past ≡ true → Grown old (then_ends F R M me t)
    ends-grown old t k complete = record {
      sound = kept-sound (in_next_epoch t.core) [] t.core.votes t.core.certs (suc t.core.leaf) (ends-sound t.core k.sound complete);
      logs = extends-trans _ _ _ k.logs (log-later R M me t.core.past (advanced t.core.past) (advanced-later R t.core.past (settled-core t.core k.sound)));
    }

    settles-grown : (old : Past Msg) (t : Turn Msg) → Grown old t → Grown old (advance_epochs F R M me t)
    settles-grown old t h = settles-holds F R M me (Grown old) (λ t l input. Unit {0}) (λ t l input k fit come. inputs-grown old t l input k) (ends-grown old)
        (λ t claims k. record { sound = k.sound; logs = k.logs })
        t h (λ done u x i k q r. tt)

    each-grown : (old : Past Msg) (e : ℕ) (xs : List (Early Msg)) (t : Turn Msg) → Grown old t → Grown old (then_turn t (takes_each F R M me e xs))
    each-grown old e xs t h = each-holds F R M me (Grown old) (λ t l input. Unit {0}) (λ t l input k fit come. inputs-grown old t l input k) (ends-grown old)
        (λ t claims k. record { sound = k.sound; logs = k.logs })
        e xs t h (λ u x i k q r. tt)

    adopts-grown : (c : Core Msg) (p : Sent_piece) (t : Turn Msg) → IsSoundCore R M me c → IsAdopted F R M me c p t → Grown c.past (adopts_piece R M me c p)
    adopts-grown c p t h a =
        let piece : Piece = record { epoch = c.past.epoch; values = p.values } in
        record {
          sound = adopts-sound c p t h a;
          logs = log-later R M me c.past (adopts c.past piece) (adopts-later R c.past piece (settled-core c h));
        }

    at-first : (c : Core Msg) → IsSoundCore R M me c → Grown c.past (unchanged c)
    at-first c h = record { sound = h; logs = extends-refl (log_of R M me c.past) }

    took-grown : (c : Core Msg) (event : NodeEvent) (t : Turn Msg) → IsSoundCore R M me c → Took F R M me c event t →
        Extends (log_of R M me c.past) (log_of R M me t.core.past)
    took-grown c event t h (received k l msg u un b e i q) = rw q ((settles-grown c.past u (rw i.is (inputs-grown c.past (unchanged c) l _ (at-first c h)))).logs)
    took-grown c event t h (kept k l msg u b e i) = rw i.is (extends-refl (log_of R M me c.past))
    took-grown c event t h (asked k q u b r) = rw r.is (extends-refl (log_of R M me c.past))
    took-grown c event t h (cast s u i q) =
        rw q ((settles-grown c.past u
        (rw i.is (inputs-grown c.past (unchanged (casting F R M me c s)) me _ (at-first (casting F R M me c s) (casting-sound c s h))))).logs)
    took-grown c event t h (voted k v u b r) = rw r.is (extends-refl (log_of R M me c.past))
    took-grown c event t h (handed k cert u b r) = rw r.is (extends-refl (log_of R M me c.past))
    took-grown c event t h (adopted k p u b a) =
        rw a.is ((each-grown c.past (suc c.past.epoch) c.early (adopts_piece R M me c p) (adopts-grown c p t h a)).logs)
    took-grown c event t h (sought peer q) = rw q (extends-refl (log_of R M me c.past))
    took-grown c event t h (fired l u i q) = rw q ((settles-grown c.past u (rw i.is (inputs-grown c.past (unchanged c) l.0 _ (at-first c h)))).logs)

    pub step-grown : (c : Core Msg) (event : NodeEvent) (t : Turn Msg) → IsSoundCore R M me c → step F R M me c event ≡ Taken t →
        Extends (log_of R M me c.past) (log_of R M me t.core.past)
    step-grown c event t h q = took-grown c event t h (took F R M me c event t q)

-- a core that took nothing is sound
pub idle-sound : {Msg : Type 0} (R : Rules) (M : Module Msg) (me : ℕ) → IsSoundCore R M me initial_core
idle-sound R M me = record {
  different = tt;
  signed = λ q i. absurd i;
  inside = λ x i. absurd i;
  unordered = λ x i. absurd i;
  reached =
      omega arith;
  settled = λ e k v h. absurd (cc);
  unborn = λ e l lt. refl;
}

pub idle-ready : {Msg : Type 0} (R : Rules) (M : Module Msg) (me : ℕ) → IsReadyCore R M me initial_core
idle-ready R M me = record { sound = idle-sound R M me; spelled = λ q i. absurd i }

-- what a core proposes

pub slot-passes : (p : Slot → Bool) (ss : List Slot) (s : Slot) → first_slot p ss ≡ Some s → In s ss × (p s ≡ true)
slot-passes p [] s h = absurd (cc)
slot-passes p (r ∷ ss) s h = go (slot-passes p ss s) (p r) refl h
  where
    go : (first_slot p ss ≡ Some s → In s ss × (p s ≡ true)) → (b : Bool) → p r ≡ b → cond b (Some r) (first_slot p ss) ≡ Some s → In s (r ∷ ss) × (p s ≡ true)
    go ih true q k = let e : s ≡ r = cc in (inl e, rw e q)
    go ih false q k = let z = ih k in (inr z.0, z.1)

pub some-there : {A : Type 0} (o : Option A) → is_some o ≡ true → (x : A) × (o ≡ Some x)
some-there None h = absurd (true≢false (sym h))
some-there (Some x) h = (x, refl)

module _ {Msg : Type 0} (R : Rules) (M : Module Msg) (me : ℕ) (c : Core Msg) where
  -- the next slot to propose at is in the segment, with nothing in flight
  pub slot-free : (s : Slot) → next_slot R M me c ≡ Some s →
      In s (params_of R M me c.past me).slots × (is_castable M (params_of R M me c.past me) me (c.past.evidence c.past.epoch me) c.flight s ≡ true)
  slot-free s h =
      let k = slot-passes (λ (t : Slot). not (nat_lt t.0 (length (log_of R M me c.past))) && is_castable M (params_of R M me c.past me) me
      (c.past.evidence c.past.epoch me) c.flight t) (params_of R M me c.past me).slots s h in
      (k.0, (and-true (not (nat_lt s.0 (length (log_of R M me c.past)))) _ k.1).1)

  -- the module accepts any batch there
  pub cast-asked : IsLawful M → (s : Slot) → next_slot R M me c ≡ Some s → (b : Batch) → asked_in R M me c.past me (Cast s b) ≡ Some (s, b)
  cast-asked law s h b =
      let p = params_of R M me c.past me in
      let xs = c.past.evidence c.past.epoch me in
      let k = and-true (not (has_slot s.0 c.flight)) _ (slot-free s h).1 in
      let k2 = and-true (not (is_some (delivered M p me xs s.0))) (is_some (M.asks p me xs (Cast s []))) k.1 in
      let r = some-there (M.asks p me xs (Cast s [])) k2.1 in
      let q : r.0 ≡ (s, []) = law.casts p me xs s [] r.0 r.1 in
      law.castable p me xs s [] b (r.1 ∙ ap (λ (z : Slot × Batch). Some z) q)

  -- a batch of encodable requests is encodable
  pub cast-read : (F : Formats Msg) (s : Setup) (p : Params) → p.setup ≡ s → R.batch ≤ requests_most s.version →
      ((q : Request) → In q c.waiting → HasSpelling q) →
      IsReadBatch p (next_batch F R M me c)
  cast-read F s p setup low h =
      let few = cut-few R.batch (is_mine R M me c) c.waiting in
      let batch = next_batch F R M me c in
      let read = batch-read s.version batch (omega (arith, few, low)) (λ q i. h q (cut-in R.batch (is_mine R M me c) c.waiting q i).0) in
      subst (λ (t : Setup). IsReadAgain (spell_value t.version) (parse_value t.version) (Value_batch batch)) (sym setup) read

  module _ (h : IsSoundCore R M me c) where
    abbrev bf : List Value
    bf = before R M me c.past c.past.epoch

    abbrev mine : Request → Bool
    mine = is_mine R M me c

    abbrev marked : List ReqId
    marked = marks (accepts (c.past.evidence c.past.epoch me))

    owned : (q : Request) → mine q ≡ true → R.owner bf c.past.epoch q.id ≡ me
    owned q k = is-eq (R.owner bf c.past.epoch q.id) me (and-true (eqb (R.owner bf c.past.epoch q.id) me) _ k).0

    unmarked : (q : Request) → mine q ≡ true → In q.id marked → ⊥
    unmarked q k = not-has q.id marked (not-true (has_id q.id marked) (and-true (eqb (R.owner bf c.past.epoch q.id) me) (not (has_id q.id marked)) k).1)

    -- the log before the epoch is part of the log
    earlier : (x : ReqId) → In x (log_ids bf) → In x (log_ids (log_of R M me c.past))
    earlier x i =
        let e = oldest-part (start_of R (log_of R M me c.past) c.past.epoch) (log_of R M me c.past) in
        subst (λ (t : List Value). In x (log_ids t)) (sym e.1) (log_ids-extends x e.0 bf i)

    unmarked-id : (x : ReqId) → In x (ids (cut R.batch mine c.waiting)) → In x marked → ⊥
    unmarked-id x i =
        let r = ids-in x (cut R.batch mine c.waiting) i in
        rw r.2 (unmarked r.0 (cut-in R.batch mine c.waiting r.0 r.1).1)

    waits : (q : Request) → In q (cut R.batch mine c.waiting) → In q c.waiting
    waits q i = (cut-in R.batch mine c.waiting q i).0

    -- the judge accepts the batch that the core proposes next
    pub cast-accepted : (F : Formats Msg) → judge R bf c.past.epoch me marked (next_batch F R M me c) ≡ None
    cast-accepted F = accepts-it R bf c.past.epoch me marked (next_batch F R M me c) (record {
      few = cut-few R.batch mine c.waiting;
      owner = λ q i. owned q (cut-in R.batch mine c.waiting q i).1;
      signed = λ q i. h.signed q (in_left q c.waiting (carried c.flight) (waits q i));
      inside = λ q i. h.inside q.id (ids-left q.id c.waiting (carried c.flight) (in-ids q c.waiting (waits q i)))
          (h.unordered q.id (in-ids q c.waiting (waits q i)));
      unordered = λ q i k. h.unordered q.id (in-ids q c.waiting (waits q i)) (earlier q.id k);
      unmarked = λ x i. unmarked-id x i;
      different = cut-once R.batch mine c.waiting (parts-of c.waiting (carried c.flight) h.different).left;
    })

    -- so the verdict on the step is to accept
    pub cast-judged : (F : Formats Msg) → IsLawful M → (s : Slot) → next_slot R M me c ≡ Some s →
        verdict R bf c.past.epoch me (accepts (c.past.evidence c.past.epoch me)) (asked_in R M me c.past me (Cast s (next_batch F R M me c))) ≡ None
    cast-judged F law s k =
        let q = cast-asked law s k (next_batch F R M me c) in
        ap (λ (o : Option (Slot × Batch)). verdict R bf c.past.epoch me (accepts (c.past.evidence c.past.epoch me)) o) q ∙ cast-accepted F

    -- and the core may take the proposal as an input
    pub cast-fit : (F : Formats Msg) → IsLawful M → (s : Slot) (t : Turn Msg) → IsCast F R M me c s t →
        IsFit F R M me (casting F R M me c s) me (Cast s (next_batch F R M me c))
    cast-fit F law s t k = record { leads = k.leads; claims = refl; leaves = k.leaves; judged = cast-judged F law s k.free }
