-- What a step did that accepted its event.
use Rattle.std.specs.Prelude.{nat_lt}
use Rattle.std.proofs.Common.{◌≡◌, inl, inr, ℕ, suc, ◌<◌, ◌≤◌, Bool, true, false, cond, eqb, not, List, [], ◌∷◌, ◌++◌, length, Option, Some, None, refl, sym, ap, ◌∙◌, arith, true≢false}
use Rattle.std.proofs.lemmas.Bool.Decides.{leb_tells}
use Rattle.iss_base.proofs.Lists.{and-true, is-eq, not-false}
use Rattle.iss_checkpoint.specs.declared.votes.Cert.{Cert}
use Rattle.iss_checkpoint.specs.declared.votes.Vote.{Vote}
use Rattle.iss_request.specs.declared.ids.NodeId.{NodeId}
use Rattle.iss_request.specs.declared.ids.Slot.{Slot}
use Rattle.iss_request.specs.declared.requests.Batch.{Batch}
use Rattle.iss_request.specs.declared.requests.Request.{Request}
use Rattle.iss_sb.specs.declared.effects.Input.{Input}
use Rattle.iss_sb.specs.declared.effects.Input.TheVariants.{Cast, Receive, Timeout}
use Rattle.iss_sb.specs.Evidence.{Module, accepts}
use Rattle.iss_rules.specs.declared.events.NodeEvent.{NodeEvent}
use Rattle.iss_rules.specs.declared.events.NodeEvent.TheVariants.{Packet as On_packet, Propose as On_propose, Timeout as On_timeout, AskFrom as On_ask}
use Rattle.iss_rules.specs.declared.events.Refusal.{Refusal}
use Rattle.iss_rules.specs.declared.events.Why.{Why}
use Rattle.iss_rules.specs.declared.events.Why.TheVariants.{BadClaim, BadRequest, EarlyFull, Known, NoCert, NoKeys, NotLeader, NotNeeded, OtherEpoch, OutOfWindow as Why_out_of_window, WrongChain as Why_wrong_chain}
use Rattle.iss_buckets.specs.Waiting.{cut, uncut}
use Rattle.iss_rules.specs.Parcels.{Body, Formats, OfAsk, OfModule, OfPiece, OfRequest, OfVote, Parcel}
use Rattle.iss_rules.specs.Verdicts.{verdict}
use Rattle.iss_rules.specs.Votes.{all_verify, cert_on, claim_of_vote, is_true_cert}
use Rattle.iss_model.specs.Node.{Core, Dropped, Early, Stepped, Taken, Turn, try_step, by_verdict, casts_at, early_most, has_leaves, step_unjudged, is_known, is_mine, keeps_early, next_slot, unchanged, finish_step, advance_epochs, step, takes_bytes, takes_parcel, takes_request, claims_of_input, adopts_piece, asking, counted, handing, hands_out, has_shape, is_counted, leads_to, then_turn, takes_each, takes_piece, takes_vote}
use Rattle.iss_rules.specs.Past.{asked_in, before, before_own, log_of, params_of, start_of}
use Rattle.iss_rules.specs.Rules.{Rules}
use Rattle.iss_transfer.specs.declared.pieces.Piece.{Piece as Sent_piece}

pub turn-is : {Msg : Type 0} (a b : Turn Msg) → Taken a ≡ Taken b → b ≡ a
turn-is a b h = cc

pub untaken : {Msg : Type 0} (why : Why) (t : Turn Msg) → Dropped why ≡ Taken t → ⊥
untaken why t h = cc

-- a check that dropped nothing
pub undropped : {Msg : Type 0} (b : Bool) (why : Why) (more : Stepped Msg) (t : Turn Msg) → cond b (Dropped why) more ≡ Taken t → (b ≡ false) × (more ≡ Taken t)
undropped true why more t h = absurd (untaken why t h)
undropped false why more t h = (refl, h)

-- a check that found no number below another
not-below : (a b : ℕ) → nat_lt a b ≡ false → b ≤ a
not-below a b h = elim (leb_tells (suc a) b) [ inl y ↦ absurd (true≢false (sym y.0 ∙ h)) | inr y ↦ omega (arith, y.1) ]

module _ {Msg : Type 0} (F : Formats Msg) (R : Rules) (M : Module Msg) (me : ℕ) (c : Core Msg) where
  -- an input was taken
  pub record IsInput (l : ℕ) (input : Input Msg) (t : Turn Msg) : Type 0 where
    pub leads : R.leads (before R M me c.past c.past.epoch) c.past.epoch l ≡ true
    pub claims : all_verify R (claims_of_input M (params_of R M me c.past l) input) ≡ true
    pub leaves : has_leaves M (params_of R M me c.past l) c.leaf ≡ true
    pub judged : verdict R (before R M me c.past c.past.epoch) c.past.epoch l (accepts (c.past.evidence c.past.epoch l)) (asked_in R M me c.past l input) ≡ None
    pub is : t ≡ step_unjudged F R M me c l input

  -- a request was accepted
  pub record IsRequested (q : Request) (t : Turn Msg) : Type 0 where
    pub signed : R.signed q ≡ true
    pub unknown : is_known R M me c q.id ≡ false
    pub inside : R.inside (before R M me c.past c.past.epoch) c.past.epoch q.id ≡ true
    pub is : t ≡ unchanged (record c { waiting = c.waiting ++ q ∷ [] })

  -- the next batch to propose, and the core that proposes it at a slot
  abbrev pub next_batch : Batch
  next_batch = cut R.batch (is_mine R M me c) c.waiting

  abbrev pub casting : Slot → Core Msg
  casting s = record c { waiting = uncut R.batch (is_mine R M me c) c.waiting; flight = c.flight ++ (s, next_batch) ∷ [] }

  pub record IsCast (s : Slot) (t : Turn Msg) : Type 0 where
    pub leads : R.leads (before R M me c.past c.past.epoch) c.past.epoch me ≡ true
    pub leaves : has_leaves M (params_of R M me c.past me) c.leaf ≡ true
    pub free : next_slot R M me c ≡ Some s
    pub is : t ≡ step_unjudged F R M me (casting s) me (Cast s next_batch)

  -- a message of the next epoch was kept
  pub record IsKept (x : Early Msg) (t : Turn Msg) : Type 0 where
    pub few : length c.early < early_most
    pub is : t ≡ unchanged (record c { early = c.early ++ x ∷ [] })

  -- a vote was counted
  pub record IsVoted (v : Vote) (t : Turn Msg) : Type 0 where
    pub near : v.epoch.0 ≤ suc c.past.epoch
    pub signed : all_verify R (claim_of_vote R v ∷ []) ≡ true
    pub uncounted : is_counted c v ≡ false
    pub is : t ≡ unchanged (counted R c v)

  -- an epoch was sent to a lagging node
  pub record IsHanded (to e : ℕ) (cert : Cert) (t : Turn Msg) : Type 0 where
    pub kept : cert_on c.certs e ≡ Some cert
    pub whole : start_of R (log_of R M me c.past) (suc e) ≤ length (log_of R M me c.past)
    pub is : t ≡ handing F R M me c to e cert

  -- the values of the node's epoch were adopted, and early messages were tried
  pub record IsAdopted (p : Sent_piece) (t : Turn Msg) : Type 0 where
    pub epoch : p.epoch.0 ≡ c.past.epoch
    pub of_epoch : p.cert.epoch.0 ≡ c.past.epoch
    pub whole : length p.values ≡ R.slots (before_own R M me c.past) c.past.epoch
    pub certified : is_true_cert R p.cert ≡ true
    pub leads : leads_to R (before_own R M me c.past) p ≡ true
    pub is : t ≡ then_turn (adopts_piece R M me c p) (takes_each F R M me (suc c.past.epoch) c.early)

  -- what an accepted event did first; it may then end an epoch
  pub data Took : NodeEvent → Turn Msg → Type 0 where
    received : {bytes : List ℕ} {t : Turn Msg} (k : Parcel Msg) (l : ℕ) (msg : Msg) (u : Turn Msg) → F.unwrap bytes ≡ Some k → k.body ≡ OfModule l msg →
        k.epoch ≡ c.past.epoch → IsInput l (Receive (record { 0 = k.from }) msg) u → t ≡ advance_epochs F R M me u → Took (On_packet bytes) t
    kept : {bytes : List ℕ} {t : Turn Msg} (k : Parcel Msg) (l : ℕ) (msg : Msg) → F.unwrap bytes ≡ Some k → k.body ≡ OfModule l msg →
        k.epoch ≡ suc c.past.epoch → IsKept (record { from = k.from; leader = l; msg = msg }) t → Took (On_packet bytes) t
    asked : {bytes : List ℕ} {t : Turn Msg} (k : Parcel Msg) (q : Request) → F.unwrap bytes ≡ Some k → k.body ≡ OfRequest q → IsRequested q t →
        Took (On_packet bytes) t
    cast : {t : Turn Msg} (s : Slot) (u : Turn Msg) → IsCast s u → t ≡ advance_epochs F R M me u → Took On_propose t
    voted : {bytes : List ℕ} {t : Turn Msg} (k : Parcel Msg) (v : Vote) → F.unwrap bytes ≡ Some k → k.body ≡ OfVote v → IsVoted v t → Took (On_packet bytes) t
    handed : {bytes : List ℕ} {t : Turn Msg} (k : Parcel Msg) (cert : Cert) → F.unwrap bytes ≡ Some k → k.body ≡ OfAsk → IsHanded k.from k.epoch cert t →
        Took (On_packet bytes) t
    adopted : {bytes : List ℕ} {t : Turn Msg} (k : Parcel Msg) (p : Sent_piece) → F.unwrap bytes ≡ Some k → k.body ≡ OfPiece p → IsAdopted p t →
        Took (On_packet bytes) t
    sought : {t : Turn Msg} (peer : NodeId) → t ≡ asking F me c peer → Took (On_ask peer) t
    fired : {t : Turn Msg} (l : NodeId) (u : Turn Msg) → IsInput l.0 Timeout u → t ≡ advance_epochs F R M me u → Took (On_timeout l) t

  approved : (v : Option Refusal) (u t : Turn Msg) → by_verdict v u ≡ Taken t → (v ≡ None) × (t ≡ u)
  approved None u t h = (refl, turn-is u t h)
  approved (Some x) u t h = absurd (cc)

  pub input-taken : (l : ℕ) (input : Input Msg) (t : Turn Msg) → try_step F R M me c l input ≡ Taken t → IsInput l input t
  input-taken l input t h =
      let a = undropped (not (R.leads (before R M me c.past c.past.epoch) c.past.epoch l)) NotLeader _ t h in
      let v = undropped (not (all_verify R (claims_of_input M (params_of R M me c.past l) input))) BadClaim _ t a.1 in
      let b = undropped (not (has_leaves M (params_of R M me c.past l) c.leaf)) NoKeys _ t v.1 in
      let d = approved _ _ t b.1 in
      record { leads = not-false _ a.0; claims = not-false _ v.0; leaves = not-false _ b.0; judged = d.0; is = d.1 }

  pub request-taken : (q : Request) (t : Turn Msg) → takes_request R M me c q ≡ Taken t → IsRequested q t
  request-taken q t h =
      let a = undropped (not (R.signed q)) BadRequest _ t h in
      let b = undropped (is_known R M me c q.id) Known _ t a.1 in
      let d = undropped (not (R.inside (before R M me c.past c.past.epoch) c.past.epoch q.id)) Why_out_of_window _ t b.1 in
      record { signed = not-false _ a.0; unknown = b.0; inside = not-false _ d.0; is = turn-is _ t d.1 }

  pub cast-taken : (o : Option Slot) (t : Turn Msg) → next_slot R M me c ≡ o → R.leads (before R M me c.past c.past.epoch) c.past.epoch me ≡ true →
      casts_at F R M me c o ≡ Taken t → Took On_propose t
  cast-taken None t q leads h = absurd (untaken _ t h)
  cast-taken (Some s) t q leads h =
      let a = undropped (not (has_leaves M (params_of R M me c.past me) c.leaf)) NoKeys _ t h in
      cast s (step_unjudged F R M me (casting s) me (Cast s next_batch)) (record { leads = leads; leaves = not-false _ a.0; free = q; is = refl }) (turn-is _ t a.1)

  -- a finished step was accepted
  settled-taken : (o : Stepped Msg) (t : Turn Msg) → finish_step F R M me o ≡ Taken t → (u : Turn Msg) × (o ≡ Taken u) × (t ≡ advance_epochs F R M me u)
  settled-taken (Dropped why) t h = absurd (untaken why t h)
  settled-taken (Taken u) t h = (u, refl, turn-is (advance_epochs F R M me u) t h)

  pub kept-taken : (x : Early Msg) (t : Turn Msg) → keeps_early c x ≡ Taken t → IsKept x t
  kept-taken x t h = elim (leb_tells (suc (length c.early)) early_most) [
    | inl y ↦ record {
      few = y.1;
      is =
          turn-is _ t (sym (ap (λ (b : Bool). cond b (Taken (unchanged (record c { early = c.early ++ x ∷ [] }))) (Dropped EarlyFull)) y.0) ∙ h);
    }
    | inr y ↦ absurd (untaken EarlyFull t
        (sym (ap (λ (b : Bool). cond b (Taken (unchanged (record c { early = c.early ++ x ∷ [] }))) (Dropped EarlyFull)) y.0) ∙ h))
  ]

  pub vote-taken : (v : Vote) (t : Turn Msg) → takes_vote R c v ≡ Taken t → IsVoted v t
  vote-taken v t h =
      let a = undropped (nat_lt (suc c.past.epoch) v.epoch.0) OtherEpoch _ t h in
      let b = undropped (not (all_verify R (claim_of_vote R v ∷ []))) BadClaim _ t a.1 in
      let d = undropped (is_counted c v) Known _ t b.1 in
      record { near = not-below (suc c.past.epoch) v.epoch.0 a.0; signed = not-false _ b.0; uncounted = d.0; is = turn-is _ t d.1 }

  pub hand-taken : (to e : ℕ) (t : Turn Msg) (o : Option Cert) → cert_on c.certs e ≡ o → hands_out F R M me c to e o ≡ Taken t →
      (cert : Cert) × IsHanded to e cert t
  hand-taken to e t None q h = absurd (untaken _ t h)
  hand-taken to e t (Some cert) q h =
      let log = log_of R M me c.past in
      let a = undropped (nat_lt (length log) (start_of R log (suc e))) NoCert _ t h in
      (cert, record { kept = q; whole = not-below (length log) (start_of R log (suc e)) a.0; is = turn-is _ t a.1 })

  pub piece-taken : (p : Sent_piece) (t : Turn Msg) → takes_piece F R M me c p ≡ Taken t → IsAdopted p t
  piece-taken p t h =
      let e = c.past.epoch in
      let bf = before_own R M me c.past in
      let a = undropped (nat_lt p.epoch.0 e) NotNeeded _ t h in
      let b = undropped (nat_lt e p.epoch.0) OtherEpoch _ t a.1 in
      let d = undropped (not (has_shape R bf e p)) OtherEpoch _ t b.1 in
      let f = undropped (not (is_true_cert R p.cert)) BadClaim _ t d.1 in
      let g = undropped (not (leads_to R bf p)) Why_wrong_chain _ t f.1 in
      let shape = and-true (eqb p.cert.epoch.0 e) (eqb (length p.values) (R.slots bf e)) (not-false _ d.0) in
      let high = not-below p.epoch.0 e a.0 in
      let low = not-below e p.epoch.0 b.0 in
      record {
        epoch = omega (arith, high, low);
        of_epoch = is-eq p.cert.epoch.0 e shape.0;
        whole = is-eq (length p.values) (R.slots bf e) shape.1;
        certified = not-false _ f.0;
        leads = not-false _ g.0;
        is = turn-is _ t g.1;
      }

  bytes-taken : (bytes : List ℕ) (t : Turn Msg) (o : Option (Parcel Msg)) → F.unwrap bytes ≡ o → takes_bytes F R M me c o ≡ Taken t → Took (On_packet bytes) t
  bytes-taken bytes t None u h = absurd (untaken _ t h)
  bytes-taken bytes t (Some k) u h = go k.body refl h
    where
      go : (b : Body Msg) → k.body ≡ b → takes_parcel F R M me c k.from k.epoch b ≡ Taken t → Took (On_packet bytes) t
      go (OfRequest q) e h = asked k q u e (request-taken q t h)
      go (OfVote v) e h = voted k v u e (vote-taken v t h)
      go OfAsk e h = let r = hand-taken k.from k.epoch t (cert_on c.certs k.epoch) refl h in handed k r.0 u e r.1
      go (OfPiece p) e h = adopted k p u e (piece-taken p t h)
      go (OfModule l msg) e h = now (eqb k.epoch c.past.epoch) refl h
        where
          input : Input Msg
          input = Receive (record { 0 = k.from }) msg

          x : Early Msg
          x = record { from = k.from; leader = l; msg = msg }

          next : (b : Bool) → eqb k.epoch (suc c.past.epoch) ≡ b → cond b (keeps_early c x) (Dropped OtherEpoch) ≡ Taken t → Took (On_packet bytes) t
          next true q m = kept k l msg u e (is-eq k.epoch (suc c.past.epoch) q) (kept-taken x t m)
          next false q m = absurd (untaken OtherEpoch t m)

          now : (b : Bool) → eqb k.epoch c.past.epoch ≡ b →
              cond b (finish_step F R M me (try_step F R M me c l input))
              (cond (eqb k.epoch (suc c.past.epoch)) (keeps_early c x) (Dropped OtherEpoch)) ≡ Taken t → Took (On_packet bytes) t
          now true q m =
              let r = settled-taken (try_step F R M me c l input) t m in
              received k l msg r.0 u e (is-eq k.epoch c.past.epoch q) (input-taken l input r.0 r.1) r.2
          now false q m = next (eqb k.epoch (suc c.past.epoch)) refl m

  pub took : (event : NodeEvent) (t : Turn Msg) → step F R M me c event ≡ Taken t → Took event t
  took (On_packet bytes) t h = bytes-taken bytes t (F.unwrap bytes) refl h
  took On_propose t h =
      let a = undropped (not (R.leads (before R M me c.past c.past.epoch) c.past.epoch me)) NotLeader (casts_at F R M me c (next_slot R M me c)) t h in
      cast-taken (next_slot R M me c) t refl (not-false _ a.0) a.1
  took (On_timeout l) t h =
      let r = settled-taken (try_step F R M me c l.0 Timeout) t h in
      fired l r.0 (input-taken l.0 Timeout r.0 r.1) r.2
  took (On_ask peer) t h = sought peer (turn-is _ t h)
