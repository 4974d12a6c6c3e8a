-- Each request that a core accepted has a place, and no step gives it a second one.
use Rattle.std.proofs.Common.{◌≡◌, ◌⊎◌, inl, inr, ℕ, suc, ◌+◌, ◌≤◌, ◌<◌, Bool, true, false, cond, eqb, nat_lt, not, ◌&&◌, List, [], ◌∷◌, ◌++◌, length, Option, Some, None, refl, sym, ap, ◌∙◌, subst, arith, true≢false, le_trans}
use Rattle.std.proofs.lemmas.Bool.Decides.{leb_tells}
use Rattle.iss_base.specs.Lists.{Different, Extends, In}
use Rattle.iss_base.proofs.Lists.{and-true, different-append, extends-length, in_append, in_left, in_right, not-true, or-false, set_at2-other, set_at2-same}
use Rattle.iss_buckets.specs.Waiting.{absent, cut, uncut}
use Rattle.iss_request.specs.Log.{has_id, ids, log_ids}
use Rattle.iss_request.specs.declared.ids.ReqId.{ReqId}
use Rattle.iss_request.specs.declared.ids.Slot.{Slot}
use Rattle.iss_request.specs.declared.requests.Batch.{Batch}
use Rattle.iss_request.specs.declared.requests.Request.{Request}
use Rattle.iss_request.specs.declared.requests.Value.{Value}
use Rattle.iss_sb.specs.declared.effects.Input.{Input}
use Rattle.iss_sb.specs.declared.effects.Input.TheVariants.{Cast, Receive, Timeout}
use Rattle.iss_sb.specs.Evidence.{Item, Module, accepts, one_or_none}
use Rattle.iss_sb.specs.Laws.{IsLawful}
use Rattle.iss_rules.specs.declared.events.NodeEvent.{NodeEvent}
use Rattle.iss_rules.specs.declared.events.NodeEvent.TheVariants.{Packet as On_packet, Propose as On_propose, Timeout as On_timeout, AskFrom as On_ask}
use Rattle.iss_rules.specs.declared.events.Why.TheVariants.{NoKeys, NotLeader, OtherEpoch}
use Rattle.iss_rules.specs.Parcels.{Body, Formats, OfAsk, OfModule, OfPiece, OfRequest, OfVote, Parcel}
use Rattle.iss_model.specs.Node.{Core, Dropped, Early, is_known, then_turn, Stepped, Taken, Turn, try_step, casts_at, ended, flown, flying, has_leaves, in_next_epoch, step_unjudged, is_castable, is_mine, is_nil_at, joined, keeps_early, next_slot, returned, unchanged, finish_step, advance_epochs, step, takes_bytes, takes_each, takes_early, takes_parcel, takes_request, or_unchanged, adopts_piece, asking, counted, ends, handing}
use Rattle.iss_rules.specs.Votes.{cert_on}
use Rattle.iss_rules.specs.Past.{Past, Piece, adopts, advanced, before, cut_at, is_complete, leads_in, log_of, made_in, params_of, start_of, taken_in, takes}
use Rattle.iss_rules.specs.Rules.{Rules}
use Rattle.iss_model.proofs.Casts.{cast-asked, log_ids-joined, slot-passes}
use Rattle.iss_model.proofs.Cuts.{absent-ids, absent-once, cut-ids, cut-once, cut-uncut-apart, uncut-ids, uncut-once}
use Rattle.iss_rules.proofs.Ending.{HasSlots, advanced-later, advanced-log, complete-far}
use Rattle.iss_rules.proofs.Epochs.{cut-extends, length-cut, start-cut, start-extends, start-mono}
use Rattle.iss_model.proofs.Filed.{absent-or, cut-or, flight-splits, flown-append, flown-flying, flown-left, flown-once, flown-right, flying-once, in-flying, in-longer, in-returned, joined-in, nil-stays, returned-apart, returned-once}
use Rattle.iss_rules.proofs.Ids.{ids-append, ids-left, ids-once, ids-right, not-has}
use Rattle.iss_rules.proofs.Pieces.{adopted-far, adopts-later, adopts-settled}
use Rattle.iss_model.proofs.Steps.{IsAdopted, hand-taken, input-taken, kept-taken, piece-taken, request-taken, turn-is, undropped, untaken, vote-taken}
use Rattle.iss_transfer.specs.declared.pieces.Piece.{Piece as Sent_piece}
use Rattle.iss_rules.proofs.Logs.{Later, Settled, before-later, evidence-later, log-later, takes-later}

-- What epochs and segments must satisfy: epochs have slots, and a slot of a segment is led by its leader and is in its
-- epoch or an earlier one.
pub record HasSegments (R : Rules) : Type 0 where
  pub slots : HasSlots R
  pub leader : (log : List Value) (e l : ℕ) (s : Slot) → In s (R.params log e l).slots → R.leader log e s.0 ≡ l
  pub high : (log : List Value) (e l : ℕ) (s : Slot) → In s (R.params log e l).slots → s.0 < start_of R log e + R.slots log e

pub accepts-append : {Msg : Type 0} (newer xs : List (Item Msg)) (f : Slot × Batch) → In f (accepts xs) → In f (accepts (newer ++ xs))
accepts-append [] xs f h = h
accepts-append (y ∷ newer) xs f h = in_right f (one_or_none y.made.accepted) (accepts (newer ++ xs)) (accepts-append newer xs f h)

module _ {Msg : Type 0} (R : Rules) (M : Module Msg) (i : ℕ) where
  -- the next batch to propose, and the core that proposes it
  abbrev next_batch : Core Msg → Batch
  next_batch c = cut R.batch (is_mine R M i c) c.waiting

  abbrev casting : Core Msg → Slot → Core Msg
  casting c s = record c { waiting = uncut R.batch (is_mine R M i c) c.waiting; flight = c.flight ++ (s, next_batch c) ∷ [] }

  -- a batch that the node proposed in epoch e, at a slot of its own segment
  pub record WasCast (past : Past Msg) (e : ℕ) (f : Slot × Batch) : Type 0 where
    pub held : In f (accepts (past.evidence e i))
    pub inside : In f.0 (R.params (before R M i past e) e i).slots
    pub begun : start_of R (log_of R M i past) e ≤ f.0.0

  pub record Filed (past : Past Msg) (waiting : List Request) (flight : List (Slot × Batch)) : Type 0 where
    pub settled : Settled R past
    pub unborn : (e l : ℕ) → past.epoch < e → past.evidence e l ≡ []
    pub reached : start_of R (log_of R M i past) past.epoch ≤ length (log_of R M i past)
    pub waiting_once : Different (ids waiting)
    pub flight_once : Different (flown flight)
    pub apart : (x : ReqId) → In x (ids waiting) → In x (flown flight) → ⊥
    pub unlogged : (x : ReqId) → In x (ids waiting) → In x (log_ids (log_of R M i past)) → ⊥
    pub cast : (f : Slot × Batch) → In f flight → WasCast past past.epoch f
    pub open_slot : (f : Slot × Batch) → In f flight → length (log_of R M i past) ≤ f.0.0

  -- a request that was proposed at a slot that now holds a batch
  pub record Gone (past : Past Msg) (x : ReqId) : Type 0 where
    pub epoch : ℕ
    pub begun : epoch ≤ past.epoch
    pub entry : Slot × Batch
    pub cast : WasCast past epoch entry
    pub within : In x (ids entry.1)
    pub low : entry.0.0 < length (log_of R M i past)
    pub is : is_nil_at (log_of R M i past) entry.0.0 ≡ false

  abbrev pub IsPlaced : Past Msg → List Request → List (Slot × Batch) → ReqId → Type 0
  IsPlaced past waiting flight x = In x (log_ids (log_of R M i past)) ⊎ (In x (ids waiting) ⊎ (In x (flown flight) ⊎ Gone past x))

  abbrev pub FiledCore : Core Msg → Type 0
  FiledCore c = Filed c.past c.waiting c.flight

  abbrev pub PlacedCore : Core Msg → ReqId → Type 0
  PlacedCore c x = IsPlaced c.past c.waiting c.flight x

  -- what a step keeps
  pub record Keeps (c d : Core Msg) : Type 0 where
    pub filed : FiledCore d
    pub kept : (x : ReqId) → PlacedCore c x → PlacedCore d x

  pub keeps-refl : (c : Core Msg) → FiledCore c → Keeps c c
  keeps-refl c h = record { filed = h; kept = λ x k. k }

  pub keeps-trans : (c d e : Core Msg) → Keeps c d → (FiledCore d → Keeps d e) → Keeps c e
  keeps-trans c d e a f = let b = f a.filed in record { filed = b.filed; kept = λ x k. b.kept x (a.kept x k) }

  -- earlier proposals and ordered requests stay so
  cast-later : (c d : Past Msg) → Later R c d → start_of R (log_of R M i c) c.epoch ≤ length (log_of R M i c) → (e : ℕ) → e ≤ c.epoch → (f : Slot × Batch) →
      WasCast c e f → WasCast d e f
  cast-later c d later reached e le f h =
      let far : start_of R (log_of R M i c) e ≤ length (log_of R M i c) = le_trans (start-mono R (log_of R M i c) e c.epoch le) reached in
      let g = evidence-later R c d later e i in
      record {
        held = subst (λ (xs : List (Item Msg)). In f (accepts xs)) (sym g.1) (accepts-append g.0 (c.evidence e i) f h.held);
        inside = subst (λ (t : List Value). In f.0 (R.params t e i).slots) (sym (before-later R M i c d e later far)) h.inside;
        begun = let same = start-extends R (log_of R M i c) (log_of R M i d) e (log-later R M i c d later) far in omega (arith, same, h.begun);
      }

  gone-later : (c d : Past Msg) → Later R c d → start_of R (log_of R M i c) c.epoch ≤ length (log_of R M i c) → (x : ReqId) → Gone c x → Gone d x
  gone-later c d later reached x g =
      let grown = log-later R M i c d later in
      record {
        epoch = g.epoch;
        begun = omega (arith, g.begun, later.epoch);
        entry = g.entry;
        cast = cast-later c d later reached g.epoch g.begun g.entry g.cast;
        within = g.within;
        low = let longer = extends-length (log_of R M i c) (log_of R M i d) grown in omega (arith, longer, g.low);
        is = nil-stays (log_of R M i c) (log_of R M i d) g.entry.0.0 grown g.low ∙ g.is;
      }

  -- the waiting list and the flight over a log that has grown
  module _ (old new : Past Msg) (waiting : List Request) (flight : List (Slot × Batch)) (later : Later R old new)
      (reached : start_of R (log_of R M i old) old.epoch ≤ length (log_of R M i old)) where
    abbrev before_log : List Value
    before_log = log_of R M i old

    abbrev log : List Value
    log = log_of R M i new

    abbrev gone : List ReqId
    gone = log_ids (joined (length before_log) log)

    abbrev left : List Request
    left = absent gone waiting

    abbrev back : List Request
    back = absent (log_ids log) (returned log flight)

    grown : Extends before_log log
    grown = log-later R M i old new later

    -- within an epoch, what was reached stays reached
    still-reached : new.epoch ≡ old.epoch → start_of R log new.epoch ≤ length log
    still-reached same =
        let begins = start-extends R before_log log old.epoch grown reached in
        let longer = extends-length before_log log grown in
        subst (λ (e : ℕ). start_of R log e ≤ length log) (sym same) (omega (arith, begins, longer, reached))

    refile-filed : start_of R log new.epoch ≤ length log → Settled R new → ((e l : ℕ) → new.epoch < e → new.evidence e l ≡ []) → Different (ids waiting) → Different (flown flight) →
        ((x : ReqId) → In x (ids waiting) → In x (flown flight) → ⊥) → ((x : ReqId) → In x (ids waiting) → In x (log_ids before_log) → ⊥) →
        ((f : Slot × Batch) → In f (flying (length log) flight) → WasCast new new.epoch f) → Filed new (left ++ back) (flying (length log) flight)
    refile-filed far settled unborn w1 f1 apart unlogged cast = record {
      settled = settled;
      unborn = unborn;
      reached = far;
      waiting_once = ids-once left back (absent-once gone waiting w1) (absent-once (log_ids log) (returned log flight) (returned-once log flight f1))
          (λ x a b. apart x (absent-ids gone waiting x a).0 (in-returned log flight x (absent-ids (log_ids log) (returned log flight) x b).0));
      flight_once = flying-once (length log) flight f1;
      apart = λ x a b. elim (ids-append x left back a) [
        | inl y ↦ apart x (absent-ids gone waiting x y).0 (flown-flying (length log) flight x b)
        | inr y ↦ returned-apart log flight f1 x (absent-ids (log_ids log) (returned log flight) x y).0 b
      ];
      unlogged = λ x a j. elim (ids-append x left back a) [
        | inl y ↦ let k = absent-ids gone waiting x y in elim (log_ids-joined x before_log log grown j) [ inl z ↦ k.1 z | inr z ↦ unlogged x k.0 z ]
        | inr y ↦ (absent-ids (log_ids log) (returned log flight) x y).1 j
      ];
      cast = cast;
      open_slot = λ f h. (in-flying (length log) flight f h).1;
    }

    refile-kept : (e : ℕ) → e ≤ new.epoch → ((f : Slot × Batch) → In f flight → WasCast new e f) → (x : ReqId) → IsPlaced old waiting flight x →
        IsPlaced new (left ++ back) (flying (length log) flight) x
    refile-kept e le cast x (inl a) = inl (in-longer x before_log log grown a)
    refile-kept e le cast x (inr (inl a)) = elim (absent-or gone waiting x a) [
      | inl y ↦ inl (joined-in x before_log log grown y)
      | inr y ↦ inr (inl (ids-left x left back y))
    ]
    refile-kept e le cast x (inr (inr (inl a))) = elim (flight-splits log flight x a) [
      | inl y ↦ elim (absent-or (log_ids log) (returned log flight) x y) [ inl z ↦ inl z | inr z ↦ inr (inl (ids-right x left back z)) ]
      | inr y ↦ elim y [
        | inl z ↦ inr (inr (inl z))
        | inr z ↦ inr (inr (inr
            (record { epoch = e; begun = le; entry = z.entry; cast = cast z.entry z.flew; within = z.within; low = z.low; is = z.is })))
      ]
    ]
    refile-kept e le cast x (inr (inr (inr a))) = inr (inr (inr (gone-later old new later reached x a)))

  module _ (F : Formats Msg) where
    takes-unborn : (c : Past Msg) (l : ℕ) (input : Input Msg) (leaf : ℕ) → ((e k : ℕ) → c.epoch < e → c.evidence e k ≡ []) → (e k : ℕ) → c.epoch < e →
        (takes R M i c l input leaf).evidence e k ≡ []
    takes-unborn c l input leaf h e k lt = set_at2-other c.evidence c.epoch l _ e k (inl (omega (arith, lt))) ∙ h e k lt

    -- an input
    pub inputs-keep : (c : Core Msg) (l : ℕ) (input : Input Msg) → FiledCore c → Keeps c (step_unjudged F R M i c l input).core
    inputs-keep c l input h =
        let new : Past Msg = takes R M i c.past l input c.leaf in
        let later : Later R c.past new = takes-later R M i c.past l input c.leaf h.settled in
        let cast : (f : Slot × Batch) → In f c.flight → WasCast new new.epoch f =
        λ f k. cast-later c.past new later h.reached c.past.epoch (omega arith) f (h.cast f k) in
        record {
          filed = refile-filed c.past new c.waiting c.flight later h.reached (still-reached c.past new c.waiting c.flight later h.reached refl)
              (record { all = h.settled.all })
              (takes-unborn c.past l input c.leaf h.unborn) h.waiting_once h.flight_once h.apart h.unlogged
              (λ f k. cast f (in-flying (length (log_of R M i new)) c.flight f k).0);
          kept = refile-kept c.past new c.waiting c.flight later h.reached new.epoch (omega arith) cast;
        }

    -- the end of an epoch
    module _ (seg : HasSegments R) where
      -- nothing is in flight
      none-flies : (c : Core Msg) → FiledCore c → is_complete R M i c.past ≡ true → (f : Slot × Batch) → In f c.flight → ⊥
      none-flies c h complete f k =
          let log = log_of R M i c.past in
          let e = c.past.epoch in
          let cast : WasCast c.past e f = h.cast f k in
          let high = seg.high (before R M i c.past e) e i f.0 cast.inside in
          let here : start_of R (cut_at R log e) e ≡ length (cut_at R log e) = start-cut R log e h.reached in
          let len : length (cut_at R log e) ≡ start_of R log e = length-cut R log e h.reached in
          let ends : start_of R log (suc e) ≤ length log = complete-far R seg.slots M i c.past (record { evidence = h.unborn; adopted = h.settled.all }) complete in
          let open_at = h.open_slot f k in
          absurd (omega (arith, high, here, len, ends, open_at))

      pub end-keeps : (c : Core Msg) → FiledCore c → is_complete R M i c.past ≡ true → Keeps c (in_next_epoch c)
      end-keeps c h complete =
          let same : log_of R M i (advanced c.past) ≡ log_of R M i c.past =
          advanced-log R seg.slots M i c.past (record { evidence = h.unborn; adopted = h.settled.all }) in
          record {
            filed = record {
              settled = record { all = λ d k v q. let lt = h.settled.all d k v q in omega (arith, lt) };
              unborn = λ e l lt. h.unborn e l (omega (arith, lt));
              reached = subst (λ (t : List Value). start_of R t (suc c.past.epoch) ≤ length t) (sym same) (complete-far R seg.slots M i c.past (record { evidence = h.unborn; adopted = h.settled.all }) complete);
              waiting_once = h.waiting_once;
              flight_once = h.flight_once;
              apart = h.apart;
              unlogged = λ x a b. h.unlogged x a (subst (λ (t : List Value). In x (log_ids t)) same b);
              cast = λ f k. absurd (none-flies c h complete f k);
              open_slot = λ f k. absurd (none-flies c h complete f k);
            };
            kept = λ x k. elim k [
              | inl a ↦ inl (subst (λ (t : List Value). In x (log_ids t)) (sym same) a)
              | inr a ↦ inr (elim a [
                | inl y ↦ inl y
                | inr y ↦ inr (elim y [ inl z ↦ inl z | inr z ↦ inr (gone-later c.past (advanced c.past) (advanced-later R c.past h.settled) h.reached x z) ])
              ])
            ];
          }

      -- with its vote
      ends-keep : (c : Core Msg) → FiledCore c → is_complete R M i c.past ≡ true → Keeps c (ends F R M i c).core
      ends-keep c h complete = let k = end-keeps c h complete in record { filed = k.filed; kept = k.kept }

      ended-keeps : (c : Core Msg) (t : Turn Msg) → Keeps c t.core → Keeps c (ended F R M i t).core
      ended-keeps c t h = go (is_complete R M i t.core.past) refl
        where
          go : (b : Bool) → is_complete R M i t.core.past ≡ b → Keeps c (cond b (then_turn t (λ d. ends F R M i d)) t).core
          go true q = keeps-trans c t.core (ends F R M i t.core).core h (λ f. ends-keep t.core f q)
          go false q = h

      -- an input that was not refused
      pub at-inputs : (c : Core Msg) (l : ℕ) (input : Input Msg) (t : Turn Msg) → try_step F R M i c l input ≡ Taken t → t ≡ step_unjudged F R M i c l input
      at-inputs c l input t h = (input-taken F R M i c l input t h).is

      tried-keeps : (c : Core Msg) (l : ℕ) (input : Input Msg) → FiledCore c → Keeps c (or_unchanged c (try_step F R M i c l input)).core
      tried-keeps c l input h = go (try_step F R M i c l input) refl
        where
          go : (o : Stepped Msg) → try_step F R M i c l input ≡ o → Keeps c (or_unchanged c o).core
          go (Dropped why) q = keeps-refl c h
          go (Taken t) q = subst (λ (u : Turn Msg). Keeps c u.core) (sym (at-inputs c l input t q)) (inputs-keep c l input h)

      each-keeps : (e : ℕ) (xs : List (Early Msg)) (c : Core Msg) → FiledCore c → Keeps c (takes_each F R M i e xs c).core
      each-keeps e [] c h = keeps-refl c h
      each-keeps e (x ∷ xs) c h =
          let input : Input Msg = Receive (record { 0 = x.from }) x.msg in
          let first : Keeps c (takes_early F R M i c x).core =
          ended-keeps c (or_unchanged c (try_step F R M i c x.leader input)) (tried-keeps c x.leader input h) in
          go (each-keeps e xs (takes_early F R M i c x).core) first (eqb c.past.epoch e)
        where
          go : (FiledCore (takes_early F R M i c x).core →
              Keeps (takes_early F R M i c x).core (takes_each F R M i e xs (takes_early F R M i c x).core).core) → Keeps c (takes_early F R M i c x).core →
              (b : Bool) → Keeps c (cond b (then_turn (takes_early F R M i c x) (takes_each F R M i e xs)) (unchanged c)).core
          go ih first true = keeps-trans c (takes_early F R M i c x).core _ first ih
          go ih first false = keeps-refl c h

      pub settles-keeps : (c : Core Msg) (t : Turn Msg) → Keeps c t.core → Keeps c (advance_epochs F R M i t).core
      settles-keeps c t h = go (is_complete R M i t.core.past) refl
        where
          e : ℕ
          e = suc t.core.past.epoch

          go : (b : Bool) → is_complete R M i t.core.past ≡ b →
              Keeps c (cond b (then_turn (then_turn t (λ d. ends F R M i d)) (takes_each F R M i e t.core.early)) t).core
          go true q = keeps-trans c (ends F R M i t.core).core _ (keeps-trans c t.core (ends F R M i t.core).core h (λ f. ends-keep t.core f q))
              (λ f. each-keeps e t.core.early (ends F R M i t.core).core f)
          go false q = h

      settled-keeps : (c : Core Msg) (l : ℕ) (input : Input Msg) (t : Turn Msg) → FiledCore c → finish_step F R M i (try_step F R M i c l input) ≡ Taken t →
          Keeps c t.core
      settled-keeps c l input t h = go (try_step F R M i c l input) refl
        where
          go : (o : Stepped Msg) → try_step F R M i c l input ≡ o → finish_step F R M i o ≡ Taken t → Keeps c t.core
          go (Dropped why) q k = absurd (untaken why t k)
          go (Taken u) q k =
              let first : Keeps c u.core = subst (λ (v : Turn Msg). Keeps c v.core) (sym (at-inputs c l input u q)) (inputs-keep c l input h) in
              subst (λ (v : Turn Msg). Keeps c v.core) (sym (turn-is _ t k)) (settles-keeps c u first)

      -- a request
      requested : (c : Core Msg) (q : Request) → FiledCore c → is_known R M i c q.id ≡ false → Keeps c (record c { waiting = c.waiting ++ q ∷ [] })
      requested c q h unknown =
          let a = or-false (has_id q.id (ids c.waiting)) _ unknown in
          let b = or-false (has_id q.id (flown c.flight)) (has_id q.id (log_ids (log_of R M i c.past))) a.1 in
          record {
            filed = record {
              settled = h.settled;
              unborn = h.unborn;
              reached = h.reached;
              waiting_once = ids-once c.waiting (q ∷ []) h.waiting_once (λ k. k, tt)
                  (λ x y. elim [ inl e ↦ not-has q.id (ids c.waiting) a.0 (rw (← e) y) | inr k ↦ absurd k ]);
              flight_once = h.flight_once;
              apart = λ x y f.
                  elim (ids-append x c.waiting (q ∷ []) y)
                  [ inl k ↦ h.apart x k f | inr k ↦ elim k [ inl e ↦ not-has q.id (flown c.flight) b.0 (rw (← e) f) | inr z ↦ absurd z ] ];
              unlogged = λ x y g.
                  elim (ids-append x c.waiting (q ∷ []) y)
                  [ inl k ↦ h.unlogged x k g | inr k ↦ elim k [ inl e ↦ not-has q.id (log_ids (log_of R M i c.past)) b.1 (rw (← e) g) | inr z ↦ absurd z ] ];
              cast = h.cast;
              open_slot = h.open_slot;
            };
            kept = λ x k. elim k [ inl y ↦ inl y | inr y ↦ inr (elim y [ inl z ↦ inl (ids-left x c.waiting (q ∷ []) z) | inr z ↦ inr z ]) ];
          }

      -- a request that was accepted waits
      pub request-waits : (c : Core Msg) (q : Request) (t : Turn Msg) → takes_request R M i c q ≡ Taken t →
          (is_known R M i c q.id ≡ false) × (t.core ≡ record c { waiting = c.waiting ++ q ∷ [] })
      request-waits c q t h = let r = request-taken F R M i c q t h in (r.unknown, ap (λ (u : Turn Msg). u.core) r.is)

      still-keeps : (c : Core Msg) (t u : Turn Msg) → FiledCore c → t ≡ u → u.core.past ≡ c.past → u.core.waiting ≡ c.waiting → u.core.flight ≡ c.flight → Keeps c t.core
      still-keeps c t u h q p w f = subst (λ (z : Turn Msg). Keeps c z.core) (sym q) (record {
        filed = rw (p, w, f) h;
        kept = λ x k. rw (p, w, f) k;
      })

      early-keeps : (c : Core Msg) (x : Early Msg) (t : Turn Msg) → FiledCore c → keeps_early c x ≡ Taken t → Keeps c t.core
      early-keeps c x t h k = still-keeps c t (unchanged (record c { early = c.early ++ x ∷ [] })) h (kept-taken F R M i c x t k).is refl refl refl

      -- a piece: nothing of the epoch is in flight after it
      adopts-keep : (c : Core Msg) (p : Sent_piece) (t : Turn Msg) → FiledCore c → IsAdopted F R M i c p t → Keeps c (adopts_piece R M i c p).core
      adopts-keep c p t h a =
          let piece : Piece = record { epoch = c.past.epoch; values = p.values } in
          let e = c.past.epoch in
          let new : Past Msg = adopts c.past piece in
          let old_log = log_of R M i c.past in
          let log = log_of R M i new in
          let later : Later R c.past new = adopts-later R c.past piece h.settled in
          let far : start_of R log (suc e) ≤ length log = adopted-far R seg.slots M i c.past h.settled h.reached piece refl a.whole in
          let cast : (f : Slot × Batch) → In f c.flight → WasCast new e f =
          λ f k. cast-later c.past new later h.reached e (omega arith) f (h.cast f k) in
          let same : start_of R log e ≡ start_of R old_log e = start-extends R old_log log e (log-later R M i c.past new later) h.reached in
          let cut : cut_at R log e ≡ cut_at R old_log e = cut-extends R old_log log e (log-later R M i c.past new later) h.reached in
          let next : start_of R log (suc e) ≡ start_of R log e + R.slots (cut_at R log e) e = refl in
          let slots : R.slots (cut_at R log e) e ≡ R.slots (cut_at R old_log e) e = ap (λ (xs : List Value). R.slots xs e) cut in
          let here : start_of R (cut_at R old_log e) e ≡ length (cut_at R old_log e) = start-cut R old_log e h.reached in
          let len : length (cut_at R old_log e) ≡ start_of R old_log e = length-cut R old_log e h.reached in
          record {
            filed = refile-filed c.past new c.waiting c.flight later h.reached far (adopts-settled R c.past piece refl h.settled)
                (λ d l lt. h.unborn d l (omega (arith, lt))) h.waiting_once h.flight_once h.apart h.unlogged
                (λ f k.
                let w = in-flying (length log) c.flight f k in
                let high = seg.high (before R M i c.past e) e i f.0 (h.cast f w.0).inside in
                let open_at = w.1 in
                absurd (omega (arith, high, open_at, far, same, next, slots, here, len)));
            kept = refile-kept c.past new c.waiting c.flight later h.reached e (omega arith) cast;
          }

      parcel-keeps : (c : Core Msg) (from e : ℕ) (body : Body Msg) (t : Turn Msg) → FiledCore c → takes_parcel F R M i c from e body ≡ Taken t → Keeps c t.core
      parcel-keeps c from e (OfRequest q) t h k =
          let r = request-waits c q t k in
          subst (λ (d : Core Msg). Keeps c d) (sym r.1) (requested c q h r.0)
      parcel-keeps c from e (OfVote v) t h k = let r = vote-taken F R M i c v t k in still-keeps c t (unchanged (counted R c v)) h r.is refl refl refl
      parcel-keeps c from e OfAsk t h k =
          let r = hand-taken F R M i c from e t (cert_on c.certs e) refl k in
          still-keeps c t (handing F R M i c from e r.0) h r.1.is refl refl refl
      parcel-keeps c from e (OfPiece p) t h k =
          let a = piece-taken F R M i c p t k in
          let done = keeps-trans c (adopts_piece R M i c p).core _ (adopts-keep c p t h a) (λ f. each-keeps (suc c.past.epoch) c.early (adopts_piece R M i c p).core f) in
          subst (λ (z : Turn Msg). Keeps c z.core) (sym a.is) done
      parcel-keeps c from e (OfModule l msg) t h k = now (eqb e c.past.epoch) k
        where
          input : Input Msg
          input = Receive (record { 0 = from }) msg

          early : Early Msg
          early = record { from = from; leader = l; msg = msg }

          next : (b : Bool) → cond b (keeps_early c early) (Dropped OtherEpoch) ≡ Taken t → Keeps c t.core
          next true k = early-keeps c early t h k
          next false k = absurd (untaken _ t k)

          now : (b : Bool) → cond b (finish_step F R M i (try_step F R M i c l input))
              (cond (eqb e (suc c.past.epoch)) (keeps_early c early) (Dropped OtherEpoch)) ≡ Taken t → Keeps c t.core
          now true k = settled-keeps c l input t h k
          now false k = next (eqb e (suc c.past.epoch)) k

      bytes-keep : (c : Core Msg) (o : Option (Parcel Msg)) (t : Turn Msg) → FiledCore c → takes_bytes F R M i c o ≡ Taken t → Keeps c t.core
      bytes-keep c None t h k = absurd (untaken _ t k)
      bytes-keep c (Some p) t h k = parcel-keeps c p.from p.epoch p.body t h k

      -- a proposal
      module _ (law : IsLawful M) where
        abbrev open_at : Core Msg → Slot → Bool
        open_at c s = not (nat_lt s.0 (length (log_of R M i c.past))) && is_castable M (params_of R M i c.past i) i (taken_in c.past i) c.flight s

        -- the slot of a proposal is in the segment, not in the log, and has nothing in flight
        free-slot : (c : Core Msg) (s : Slot) → next_slot R M i c ≡ Some s →
            In s (params_of R M i c.past i).slots × (length (log_of R M i c.past) ≤ s.0) ×
            (is_castable M (params_of R M i c.past i) i (taken_in c.past i) c.flight s ≡ true)
        free-slot c s q =
            let k = slot-passes (open_at c) (params_of R M i c.past i).slots s q in
            let a = and-true (not (nat_lt s.0 (length (log_of R M i c.past)))) _ k.1 in
            let far : length (log_of R M i c.past) ≤ s.0 =
            elim (leb_tells (suc s.0) (length (log_of R M i c.past)))
            [ inl t ↦ absurd (true≢false (sym t.0 ∙ not-true _ a.0)) | inr t ↦ omega (arith, t.1) ] in
            (k.0, far, a.1)

        cast-keeps : (c : Core Msg) (s : Slot) → FiledCore c → next_slot R M i c ≡ Some s →
            Keeps c (step_unjudged F R M i (casting c s) i (Cast s (next_batch c))).core
        cast-keeps c s h q =
            let opens : length (log_of R M i c.past) ≤ s.0 = (free-slot c s q).1 in
            let mine = is_mine R M i c in
            let batch = next_batch c in
            let rest = uncut R.batch mine c.waiting in
            let more : List (Slot × Batch) = (s, batch) ∷ [] in
            let flies = c.flight ++ more in
            let new : Past Msg = takes R M i c.past i (Cast s batch) c.leaf in
            let later : Later R c.past new = takes-later R M i c.past i (Cast s batch) c.leaf h.settled in
            let accepted : (made_in R M i c.past i (Cast s batch) c.leaf).accepted ≡ Some (s, batch) =
            law.accepted (params_of R M i c.past i) i (taken_in c.past i) (Cast s batch) c.leaf ∙ cast-asked R M i c law s q batch in
            let fresh : WasCast new new.epoch (s, batch) = record {
              held = subst (λ (xs : List (Item Msg)). In (s, batch) (accepts xs)) (sym (set_at2-same c.past.evidence c.past.epoch i _))
                  (rw accepted (inl refl));
              inside = subst (λ (t : List Value). In s (R.params t c.past.epoch i).slots) (sym (before-later R M i c.past new c.past.epoch later h.reached))
                  (free-slot c s q).0;
              begun = let same = start-extends R (log_of R M i c.past) (log_of R M i new) c.past.epoch (log-later R M i c.past new later) h.reached in
                  let far = h.reached in omega (arith, same, far, opens);
            } in
            let cast : (f : Slot × Batch) → In f flies → WasCast new new.epoch f = λ f k. elim (in_append f c.flight more k) [
              | inl a ↦ cast-later c.past new later h.reached c.past.epoch (omega arith) f (h.cast f a)
              | inr a ↦ elim a [ inl e ↦ rw e fresh | inr none ↦ absurd none ]
            ] in
            let only : (x : ReqId) → In x (flown more) → In x (ids batch) = λ x k. elim (in_append x (ids batch) [] k) [ inl a ↦ a | inr a ↦ absurd a ] in
            let once : Different (flown more) = different-append (ids batch) [] (cut-once R.batch mine c.waiting h.waiting_once) tt (λ x a b. b) in
            let kept : (x : ReqId) → PlacedCore c x → IsPlaced c.past rest flies x = λ x k. elim k [
              | inl a ↦ inl a
              | inr a ↦ inr (elim a [
                | inl y ↦ elim (cut-or R.batch mine c.waiting x y) [
                  | inl z ↦ inr (inl (flown-right x c.flight more (in_left x (ids batch) [] z)))
                  | inr z ↦ inl z
                ]
                | inr y ↦ inr (elim y [ inl z ↦ inl (flown-left x c.flight more z) | inr z ↦ inr z ])
              ])
            ] in
            record {
              filed = refile-filed c.past new rest flies later h.reached (still-reached c.past new rest flies later h.reached refl)
                  (record { all = h.settled.all })
                  (takes-unborn c.past i (Cast s batch) c.leaf h.unborn)
                  (uncut-once R.batch mine c.waiting h.waiting_once)
                  (flown-once c.flight more h.flight_once once (λ x a b. h.apart x (cut-ids R.batch mine c.waiting x (only x b)) a))
                  (λ x a b. elim (flown-append x c.flight more b) [
                    | inl y ↦ h.apart x (uncut-ids R.batch mine c.waiting x a) y
                    | inr y ↦ cut-uncut-apart R.batch mine c.waiting h.waiting_once x
                        (only x y) a
                  ])
                  (λ x a. h.unlogged x (uncut-ids R.batch mine c.waiting x a))
                  (λ f k. cast f (in-flying (length (log_of R M i new)) flies f k).0);
              kept = λ x k. refile-kept c.past new rest flies later h.reached new.epoch (omega arith) cast x (kept x k);
            }

        casts-keep : (c : Core Msg) (o : Option Slot) (t : Turn Msg) → FiledCore c → next_slot R M i c ≡ o → casts_at F R M i c o ≡ Taken t → Keeps c t.core
        casts-keep c None t h q k = absurd (untaken _ t k)
        casts-keep c (Some s) t h q k =
            let a = undropped (not (has_leaves M (params_of R M i c.past i) c.leaf)) NoKeys _ t k in
            let first = step_unjudged F R M i (casting c s) i (Cast s (next_batch c)) in
            subst (λ (u : Turn Msg). Keeps c u.core) (sym (turn-is _ t a.1)) (settles-keeps c first (cast-keeps c s h q))

        -- each step
        pub step-keeps : (c : Core Msg) (event : NodeEvent) (t : Turn Msg) → FiledCore c → step F R M i c event ≡ Taken t → Keeps c t.core
        step-keeps c (On_packet bytes) t h k = bytes-keep c (F.unwrap bytes) t h k
        step-keeps c On_propose t h k =
            let a = undropped (not (leads_in R M i c.past i)) NotLeader _ t k in
            casts-keep c (next_slot R M i c) t h refl a.1
        step-keeps c (On_timeout l) t h k = settled-keeps c l.0 Timeout t h k
        step-keeps c (On_ask peer) t h k = still-keeps c t (asking F i c peer) h (turn-is _ t k) refl refl refl
