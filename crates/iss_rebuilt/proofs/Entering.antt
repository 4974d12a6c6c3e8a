-- What a step does to a core between two events: it stays in its epoch, or enters the next one as it would without early
-- messages, and then takes these.
use Rattle.std.proofs.Common.{◌≡◌, inl, inr, ℕ, suc, ◌≤◌, Bool, true, false, cond, eqb, not, nat_lt, List, [], ◌∷◌, ◌++◌, Option, Some, refl, sym, ap, ◌∙◌, subst, arith}
use Rattle.std.proofs.lemmas.Bool.Decides.{leb_tells}
use Rattle.iss_base.specs.Lists.{first_of}
use Rattle.iss_base.proofs.Lists.{both, eqb-same}
use Rattle.iss_buckets.specs.Waiting.{cut, uncut}
use Rattle.iss_request.specs.declared.ids.Slot.{Slot}
use Rattle.iss_sb.specs.declared.effects.Input.{Input}
use Rattle.iss_sb.specs.declared.effects.Input.TheVariants.{Cast, Receive}
use Rattle.iss_sb.specs.Evidence.{Module}
use Rattle.iss_transfer.specs.declared.pieces.Piece.{Piece as Sent_piece}
use Rattle.iss_rules.specs.declared.events.NodeEvent.{NodeEvent}
use Rattle.iss_rules.specs.declared.events.NodeEvent.TheVariants.{Packet as On_packet, Propose as On_propose}
use Rattle.iss_rules.specs.declared.events.Refusal.{Refusal}
use Rattle.iss_rules.specs.declared.events.Why.TheVariants.{BadClaim, NoKeys, NotLeader, NotNeeded, OtherEpoch, WrongChain as Why_wrong_chain}
use Rattle.iss_rules.specs.Parcels.{Body, Formats, OfModule, OfPiece, Parcel}
use Rattle.iss_rules.specs.Past.{before_own, is_complete, leads_in, params_of}
use Rattle.iss_rules.specs.Rules.{Rules}
use Rattle.iss_rules.specs.Verdicts.{verdict_in}
use Rattle.iss_rules.specs.Votes.{all_verify, is_true_cert}
use Rattle.iss_model.specs.Node.{Core, Dropped, Early, Stepped, Taken, Turn, adopts_piece, advance_epochs, by_verdict, casts_at, claims_of_input, ends, finish_step, has_leaves, has_shape, is_mine, keeps_early, leads_to, next_slot, step, step_unjudged, takes_bytes, takes_each, takes_parcel, then_turn, try_step}
use Rattle.iss_model.proofs.Rows.{each-holds, settles-holds}
use Rattle.iss_model.proofs.Steps.{IsAdopted, IsInput, Took, adopted, asked, cast, fired, handed, kept, received, sought, took, voted}

-- a core without its early messages
abbrev pub quiet : {Msg : Type 0} → Core Msg → Core Msg
quiet c = record c { early = [] }

module _ {Msg : Type 0} (F : Formats Msg) (R : Rules) (M : Module Msg) (me : ℕ) where
  -- an input that passes the tests is taken
  pub input-passes : (c : Core Msg) (l : ℕ) (input : Input Msg) (t : Turn Msg) → IsInput F R M me c l input t →
      try_step F R M me c l input ≡ Taken (step_unjudged F R M me c l input)
  input-passes c l input t i =
      let done : Turn Msg = step_unjudged F R M me c l input in
      let judged : Stepped Msg = by_verdict (verdict_in R M me c.past l input) done in
      let third : Stepped Msg = cond (not (has_leaves M (params_of R M me c.past l) c.leaf)) (Dropped NoKeys) judged in
      let second : Stepped Msg = cond (not (all_verify R (claims_of_input M (params_of R M me c.past l) input))) (Dropped BadClaim) third in
      ap (λ (b : Bool). cond (not b) (Dropped NotLeader) second) i.leads
      ∙ (ap (λ (b : Bool). cond (not b) (Dropped BadClaim) third) i.claims
      ∙ (ap (λ (b : Bool). cond (not b) (Dropped NoKeys) judged) i.leaves
      ∙ ap (λ (o : Option Refusal). by_verdict o done) i.judged))

  -- so it is without early messages
  pub quiet-input : (c : Core Msg) (l : ℕ) (input : Input Msg) (t : Turn Msg) → IsInput F R M me c l input t →
      IsInput F R M me (quiet c) l input (step_unjudged F R M me (quiet c) l input)
  quiet-input c l input t i = record { leads = i.leads; claims = i.claims; leaves = i.leaves; judged = i.judged; is = refl }

  -- a message of the core's epoch
  pub message-step : (c : Core Msg) (bytes : List ℕ) (k : Parcel Msg) (l : ℕ) (msg : Msg) → F.unwrap bytes ≡ Some k → k.body ≡ OfModule l msg → k.epoch ≡ c.past.epoch →
      step F R M me c (On_packet bytes) ≡ finish_step F R M me (try_step F R M me c l (Receive (record { 0 = k.from }) msg))
  message-step c bytes k l msg un b e =
      let input : Input Msg = Receive (record { 0 = k.from }) msg in
      let ahead : Stepped Msg =
      cond (eqb k.epoch (suc c.past.epoch)) (keeps_early c (record { from = k.from; leader = l; msg = msg })) (Dropped OtherEpoch) in
      ap (λ (o : Option (Parcel Msg)). takes_bytes F R M me c o) un
      ∙ (ap (λ (x : Body Msg). takes_parcel F R M me c k.from k.epoch x) b
      ∙ ap (λ (t : Bool). cond t (finish_step F R M me (try_step F R M me c l input)) ahead) (ap (λ (n : ℕ). eqb n c.past.epoch) e ∙ eqb-same c.past.epoch))

  -- a proposal
  pub cast-step : (c : Core Msg) (slot : Slot) → leads_in R M me c.past me ≡ true → has_leaves M (params_of R M me c.past me) c.leaf ≡ true → next_slot R M me c ≡ Some slot →
      step F R M me c On_propose
      ≡ Taken (advance_epochs F R M me (step_unjudged F R M me (record c {
        waiting = uncut R.batch (is_mine R M me c) c.waiting;
        flight = c.flight ++ (slot, cut R.batch (is_mine R M me c) c.waiting) ∷ [];
      }) me (Cast slot (cut R.batch (is_mine R M me c) c.waiting))))
  cast-step c slot leads leaves free =
      ap (λ (b : Bool). cond (not b) (Dropped NotLeader) (casts_at F R M me c (next_slot R M me c))) leads
      ∙ (ap (λ (o : Option Slot). casts_at F R M me c o) free
      ∙ ap (λ (b : Bool). cond (not b) (Dropped NoKeys) (Taken (advance_epochs F R M me (step_unjudged F R M me (record c {
        waiting = uncut R.batch (is_mine R M me c) c.waiting;
        flight = c.flight ++ (slot, cut R.batch (is_mine R M me c) c.waiting) ∷ [];
      }) me (Cast slot (cut R.batch (is_mine R M me c) c.waiting)))))) leaves)

  not-less : (a b : ℕ) → b ≤ a → nat_lt a b ≡ false
  not-less a b le = elim (leb_tells (suc a) b) [ inl t ↦ let lt = t.1 in absurd (omega (arith, lt, le)) | inr t ↦ t.0 ]

  -- a piece
  pub piece-step : (c : Core Msg) (bytes : List ℕ) (k : Parcel Msg) (x : Sent_piece) (t : Turn Msg) → F.unwrap bytes ≡ Some k → k.body ≡ OfPiece x →
      IsAdopted F R M me c x t →
      step F R M me c (On_packet bytes) ≡ Taken (then_turn (adopts_piece R M me c x) (takes_each F R M me (suc c.past.epoch) c.early))
  piece-step c bytes k x t un b a =
      let e : ℕ = c.past.epoch in
      let bf = before_own R M me c.past in
      let done : Stepped Msg = Taken (then_turn (adopts_piece R M me c x) (takes_each F R M me (suc e) c.early)) in
      let five : Stepped Msg = cond (not (leads_to R bf x)) (Dropped Why_wrong_chain) done in
      let four : Stepped Msg = cond (not (is_true_cert R x.cert)) (Dropped BadClaim) five in
      let three : Stepped Msg = cond (not (has_shape R bf e x)) (Dropped OtherEpoch) four in
      let two : Stepped Msg = cond (nat_lt e x.epoch.0) (Dropped OtherEpoch) three in
      let shape : has_shape R bf e x ≡ true =
      both (eqb x.cert.epoch.0 e) _ (ap (λ (n : ℕ). eqb n e) a.of_epoch ∙ eqb-same e)
      (ap (λ (n : ℕ). eqb n (R.slots bf e)) a.whole ∙ eqb-same (R.slots bf e)) in
      let at = a.epoch in
      ap (λ (o : Option (Parcel Msg)). takes_bytes F R M me c o) un
      ∙ (ap (λ (y : Body Msg). takes_parcel F R M me c k.from k.epoch y) b
      ∙ (ap (λ (z : Bool). cond z (Dropped NotNeeded) two) (not-less x.epoch.0 e (omega (arith, at)))
      ∙ (ap (λ (z : Bool). cond z (Dropped OtherEpoch) three) (not-less e x.epoch.0 (omega (arith, at)))
      ∙ (ap (λ (z : Bool). cond (not z) (Dropped OtherEpoch) four) shape
      ∙ (ap (λ (z : Bool). cond (not z) (Dropped BadClaim) five) a.certified
      ∙ ap (λ (z : Bool). cond (not z) (Dropped Why_wrong_chain) done) a.leads)))))

  pub quiet-adopted : (c : Core Msg) (x : Sent_piece) (t : Turn Msg) → IsAdopted F R M me c x t →
      IsAdopted F R M me (quiet c) x (then_turn (adopts_piece R M me (quiet c) x) (takes_each F R M me (suc c.past.epoch) []))
  quiet-adopted c x t a =
      record { epoch = a.epoch; of_epoch = a.of_epoch; whole = a.whole; certified = a.certified; leads = a.leads; is = refl }

  -- ---- the end of an epoch

  abbrev row : Bool → Turn Msg → Turn Msg
  row b w = cond b (then_turn (then_turn w (ends F R M me)) (takes_each F R M me (suc w.core.past.epoch) w.core.early)) w

  -- the core that entered an epoch last, if d has just entered the one after e and takes these early messages next
  abbrev pub entered_last : ℕ → List (Early Msg) → Core Msg → Option (Core Msg)
  entered_last e xs d = first_of (takes_each F R M me (suc e) xs d).entered (Some (record d { early = xs }))

  pub advance-stays : (u : Turn Msg) → is_complete R M me u.core.past ≡ false → advance_epochs F R M me u ≡ u
  advance-stays u q = ap (λ (b : Bool). row b u) q

  -- an epoch that is over ends, and what came early is taken
  pub advance-ends : (u : Turn Msg) → is_complete R M me u.core.past ≡ true →
      (advance_epochs F R M me u).core ≡ (takes_each F R M me (suc u.core.past.epoch) u.core.early (ends F R M me u.core).core).core
  advance-ends u q = ap (λ (b : Bool). (row b u).core) q

  -- with the core as it entered the next one
  pub advance-enters : (u : Turn Msg) → is_complete R M me u.core.past ≡ true →
      (advance_epochs F R M me u).entered ≡ entered_last u.core.past.epoch u.core.early (ends F R M me u.core).core
  advance-enters u q = ap (λ (b : Bool). (row b u).entered) q

  -- without early messages it only ends
  pub quiet-ends : (u v : Turn Msg) → v.core ≡ quiet u.core → is_complete R M me u.core.past ≡ true → (advance_epochs F R M me v).core ≡ (ends F R M me u.core).core
  quiet-ends u v same q =
      advance-ends v (ap (λ (d : Core Msg). is_complete R M me d.past) same ∙ q)
      ∙ ap (λ (d : Core Msg). (takes_each F R M me (suc d.past.epoch) d.early (ends F R M me d).core).core) same

  -- ---- epochs never fall

  rising : (n : ℕ) (t : Turn Msg) → n ≤ t.core.past.epoch → n ≤ (advance_epochs F R M me t).core.past.epoch
  rising n t h = settles-holds F R M me (λ (w : Turn Msg). n ≤ w.core.past.epoch) (λ w l input. Unit {0}) (λ w l input z fit come. z)
      (λ w z complete. omega (arith, z)) (λ w claims z. z) t h (λ done u x i z q r. tt)

  each-rising : (n e : ℕ) (xs : List (Early Msg)) (t : Turn Msg) → n ≤ t.core.past.epoch → n ≤ (then_turn t (takes_each F R M me e xs)).core.past.epoch
  each-rising n e xs t h = each-holds F R M me (λ (w : Turn Msg). n ≤ w.core.past.epoch) (λ w l input. Unit {0}) (λ w l input z fit come. z)
      (λ w z complete. omega (arith, z)) (λ w claims z. z) e xs t h (λ u x i z q r. tt)

  same-rises : (c : Core Msg) (t u : Turn Msg) → t ≡ u → c.past.epoch ≤ u.core.past.epoch → c.past.epoch ≤ t.core.past.epoch
  same-rises c t u q h = subst (λ (w : Turn Msg). c.past.epoch ≤ w.core.past.epoch) (sym q) h

  took-rises : (c : Core Msg) (event : NodeEvent) (t : Turn Msg) → Took F R M me c event t → c.past.epoch ≤ t.core.past.epoch
  took-rises c event t (received k l msg u un b e i q) =
      same-rises c t (advance_epochs F R M me u) q (rising c.past.epoch u (same-rises c u _ i.is (omega arith)))
  took-rises c event t (kept k l msg un b e i) = same-rises c t _ i.is (omega arith)
  took-rises c event t (asked k r un b i) = same-rises c t _ i.is (omega arith)
  took-rises c event t (cast slot u i q) =
      same-rises c t (advance_epochs F R M me u) q (rising c.past.epoch u (same-rises c u _ i.is (omega arith)))
  took-rises c event t (voted k v un b i) = same-rises c t _ i.is (omega arith)
  took-rises c event t (handed k x un b i) = same-rises c t _ i.is (omega arith)
  took-rises c event t (adopted k x un b a) =
      same-rises c t _ a.is (each-rising c.past.epoch (suc c.past.epoch) c.early (adopts_piece R M me c x) (omega arith))
  took-rises c event t (sought peer q) = same-rises c t _ q (omega arith)
  took-rises c event t (fired l u i q) =
      same-rises c t (advance_epochs F R M me u) q (rising c.past.epoch u (same-rises c u _ i.is (omega arith)))

  pub step-rises : (c : Core Msg) (event : NodeEvent) (t : Turn Msg) → step F R M me c event ≡ Taken t → c.past.epoch ≤ t.core.past.epoch
  step-rises c event t q = took-rises c event t (took F R M me c event t q)
