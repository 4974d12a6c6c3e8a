-- Conservation in a cluster: each request that a correct core accepted is in exactly one place.
use Rattle.std.proofs.Common.{◌≡◌, inl, inr, ℕ, zero, suc, ◌-◌, ◌^◌, ◌≤◌, ◌<◌, true, List, [], ◌∷◌, ◌++◌, length, Some, sym, ap, ◌∙◌, subst, arith, append_assoc}
use Rattle.std.proofs.lemmas.Bool.Decides.{leb_tells}
use Rattle.iss_base.specs.Lists.{Chain, Extends, In}
use Rattle.iss_base.proofs.Lists.{chain-part, extends-length, in_left}
use Rattle.iss_layout.proofs.FairLemmas.{segment_slots}
use Rattle.iss_request.specs.Log.{ids, log_ids}
use Rattle.iss_request.specs.declared.ids.ReqId.{ReqId}
use Rattle.iss_request.specs.declared.ids.Slot.{Slot}
use Rattle.iss_request.specs.declared.requests.Batch.{Batch}
use Rattle.iss_request.specs.declared.requests.Request.{Request}
use Rattle.iss_request.specs.declared.requests.Value.{Value}
use Rattle.iss_request.specs.declared.requests.Value.TheVariants.{Batch as Value_batch}
use Rattle.iss_request.specs.declared.setups.Setup.{Setup}
use Rattle.iss_sb.specs.Evidence.{IsReached, IsString, Module, Separate, accepts, is_correct}
use Rattle.iss_sb.specs.Laws.{AcceptsOnce, IsSafe}
use Rattle.iss_composition.specs.Cluster.{Backed, Cluster, IsTrueLog, Scheme, world_of}
use Rattle.iss_rules.specs.Concrete.{number_of, plan_at, rules_of, slots_at, start_at}
use Rattle.iss_theorems.specs.Conserved.{One, first, second, third}
use Rattle.iss_rules.specs.Judge.{marks}
use Rattle.iss_rules.proofs.Judged.{Judged, Accepted, accepted, entry-judged, one-slot, owner-of, unordered-of}
use Rattle.iss_model.specs.Node.{flown}
use Rattle.iss_rules.specs.SoundRules.{IsSoundRules}
use Rattle.iss_composition.specs.Ordered.{Among}
use Rattle.iss_rules.specs.Past.{Past, before, before_at, cell, cut_at, epoch_at, leader_at, log_of, params_at, start_by, start_of}
use Rattle.iss_rules.specs.Rules.{Rules}
use Rattle.iss_rules.specs.Setups.{IsSetupOf}
use Rattle.iss_composition.proofs.Agree.{far-start, in-world, own-true, placed, right, separate-part, strings-are, world-at}
use Rattle.iss_rules.proofs.Epochs.{cut-extends, epoch-high, epoch-low, epoch-unique, length-cut, start-cut, start-mono, start-within}
use Rattle.iss_model.proofs.Filed.{Stood, flown-entry, not-nil}
use Rattle.iss_composition.proofs.Good.{Good}
use Rattle.iss_rules.proofs.Ids.{log_ids-extends}
use Rattle.iss_rules.proofs.Layouts.{sound-rules}
use Rattle.iss_rules.proofs.Logs.{log-chain}
use Rattle.iss_rules.proofs.Longest.{cell-epoch}
use Rattle.iss_composition.proofs.Once.{Found, Valid, find, in-before, valid}
use Rattle.iss_model.proofs.Places.{Filed, Gone, HasSegments, IsPlaced, WasCast}

module _ {Msg : Type 0} (s : Setup) (S : Scheme) (R : Rules) (M : Module Msg) (safe : IsSafe M) (once : AcceptsOnce M)
    (sound : IsSoundRules s M R) (seg : HasSegments R) (w : Cluster Msg) (sep : Separate (Among w.strings)) (g : Good s R M w S) (i : ℕ)
    (ok : is_correct s i ≡ true) where
  abbrev past : Past Msg
  past = w.pasts i

  abbrev log : List Value
  log = log_of R M i past

  true_log : IsTrueLog s R M w.pasts log
  true_log = own-true s S R M safe sound w sep g i ok

  -- a log value at a slot where the node proposed in an epoch is of the instance in which it proposed
  record IsOwn (older : List Value) (e : ℕ) : Type 0 where
    pub epoch : epoch_at R older ≡ e
    pub start : before_at R older ≡ before R M i past e
    pub leader : leader_at R older ≡ i

  own-place : (older : List Value) → Extends older log → (e : ℕ) → e ≤ past.epoch → (f : Slot × Batch) → WasCast R M i past e f → length older ≡ f.0.0 →
      IsOwn older e
  own-place older part e le f cast at =
      let far : start_of R log e ≤ length log = far-start s S R M safe sound w sep g i ok e le in
      let begun = cast.begun in
      let low : start_of R log e ≤ length older = omega (arith, begun, at) in
      let same : start_of R log e ≡ start_of R older e = start-within R older log e part low in
      let low2 : start_of R older e ≤ length older = omega (arith, same, low) in
      let cut : before R M i past e ≡ cut_at R older e = cut-extends R older log e part low2 in
      let high = seg.high (before R M i past e) e i f.0 cast.inside in
      let here : start_of R (cut_at R log e) e ≡ length (cut_at R log e) = start-cut R log e far in
      let len : length (cut_at R log e) ≡ start_of R log e = length-cut R log e far in
      let slots : R.slots (before R M i past e) e ≡ R.slots (cut_at R older e) e = ap (λ (t : List Value). R.slots t e) cut in
      let ends : length older < start_of R older (suc e) = omega (arith, high, here, len, slots, at, same) in
      let ee : epoch_at R older ≡ e = epoch-unique R seg.slots.some older e low2 ends in
      let bf : before_at R older ≡ before R M i past e = ap (λ (n : ℕ). cut_at R older n) ee ∙ sym cut in
      let leads : R.leader (before R M i past e) e f.0.0 ≡ i = seg.leader (before R M i past e) e i f.0 cast.inside in
      let l1 : R.leader (before_at R older) e f.0.0 ≡ i = subst (λ (t : List Value). R.leader t e f.0.0 ≡ i) (sym bf) leads in
      let l2 : R.leader (before_at R older) (epoch_at R older) f.0.0 ≡ i = subst (λ (n : ℕ). R.leader (before_at R older) n f.0.0 ≡ i) (sym ee) l1 in
      record { epoch = ee; start = bf; leader = subst (λ (n : ℕ). R.leader (before_at R older) (epoch_at R older) n ≡ i) (sym at) l2 }

  -- the leader of that instance, and what it accepted
  module _ (older : List Value) (e : ℕ) (own : IsOwn older e) where
    abbrev leader : ℕ
    leader = (params_at R older).leader.0

    leader-is : leader ≡ i
    leader-is = sound.leader (before_at R older) (epoch_at R older) (leader_at R older) ∙ own.leader

    leader-correct : is_correct (params_at R older).setup leader ≡ true
    leader-correct = subst (λ (n : ℕ). is_correct (params_at R older).setup n ≡ true) (sym leader-is) (right s S R M safe sound w sep g older i ok)

    abbrev there : List (Slot × Batch)
    there = accepts (world_of s w.pasts (epoch_at R older) (leader_at R older) leader)

    abbrev here : List (Slot × Batch)
    here = accepts (past.evidence e i)

    there-here : there ≡ here
    there-here =
        let at_i : there ≡ accepts (world_of s w.pasts (epoch_at R older) (leader_at R older) i) =
        ap (λ (n : ℕ). accepts (world_of s w.pasts (epoch_at R older) (leader_at R older) n)) leader-is in
        let plain : accepts (world_of s w.pasts (epoch_at R older) (leader_at R older) i) ≡ accepts (past.evidence (epoch_at R older) (leader_at R older)) =
        ap (λ xs. accepts xs) (world-at s w (epoch_at R older) (leader_at R older) i ok) in
        let led : accepts (past.evidence (epoch_at R older) (leader_at R older)) ≡ accepts (past.evidence (epoch_at R older) i) =
        ap (λ (n : ℕ). accepts (past.evidence (epoch_at R older) n)) own.leader in
        at_i ∙ plain ∙ led ∙ ap (λ (n : ℕ). accepts (past.evidence n i)) own.epoch

    abbrev at : Slot
    at = record { 0 = length older }

    -- the node accepted what the log holds there
    own-accepted : (b : Batch) → Backed s R M w.pasts older (Value_batch b) → In {A = Slot × Batch} (at, b) here
    own-accepted b st =
        let delivered = in-world s S R M safe sound w sep g older st.node st.correct (length older) (Value_batch b) st.is in
        let told : In {A = Slot × Batch} (at, b) there =
        (placed s S R M safe sound w sep g older (Value_batch b) st).integrity st.node at b leader-correct
        (right s S R M safe sound w sep g older st.node st.correct) delivered in
        subst (λ (xs : List (Slot × Batch)). In (at, b) xs) there-here told

    -- and nothing else
    own-batch : (b : Batch) → Backed s R M w.pasts older (Value_batch b) → (c : Batch) → In {A = Slot × Batch} (at, c) here → c ≡ b
    own-batch b st c held =
        let d = epoch_at R older in
        let l = leader_at R older in
        let lead : R.leads (before_at R older) d l ≡ true = sound.leads older in
        let reached : IsReached M (params_at R older) (world_of s w.pasts d l) = rw st.start at (g.inv st.node d l st.correct st.begun (rw st.start lead)) in
        let apart : Separate (IsString (world_of s w.pasts d l)) =
        separate-part (Among w.strings) (IsString (world_of s w.pasts d l)) (strings-are s S R M w g d l) sep in
        let good = sound.good (before_at R older) d l lead in
        let back : (z : Batch) → In {A = Slot × Batch} (at, z) here → In {A = Slot × Batch} (at, z) there =
        λ z k. subst (λ (xs : List (Slot × Batch)). In (at, z) xs) (sym there-here) k in
        once (params_at R older) (world_of s w.pasts d l) good reached apart leader-correct at c b (back c held) (back b (own-accepted b st))

  stood-backed : (n : ℕ) (st : Stood log n) → Backed s R M w.pasts st.older (Value_batch st.batch)
  stood-backed n st = (chain-part (Backed s R M w.pasts) st.part.0 (Value_batch st.batch) st.older
      (subst (λ (t : List Value). IsTrueLog s R M w.pasts t) st.part.1 true_log)).1

  lower : (older : List Value) (v : Value) → Extends (v ∷ older) log → Extends older log
  lower older v part = (part.0 ++ (v ∷ []), part.1 ∙ sym (append_assoc part.0 (v ∷ []) older))

  -- what was proposed at a slot that holds a batch is in the log
  pub landed : (x : ReqId) → Gone R M i past x → In x (log_ids log)
  landed x gone =
      let st : Stood log gone.entry.0.0 = not-nil log gone.entry.0.0 gone.low gone.is in
      let own : IsOwn st.older gone.epoch = own-place st.older (lower st.older (Value_batch st.batch) st.part) gone.epoch gone.begun gone.entry gone.cast st.slot in
      let slot : gone.entry.0 ≡ record { 0 = length st.older } = ap (λ (n : ℕ). let z : Slot = record { 0 = n } in z) (sym st.slot) in
      let held : In {A = Slot × Batch} (record { 0 = length st.older }, gone.entry.1) (accepts (past.evidence gone.epoch i)) =
      subst (λ (z : Slot). In {A = Slot × Batch} (z, gone.entry.1) (accepts (past.evidence gone.epoch i))) slot gone.cast.held in
      let same : gone.entry.1 ≡ st.batch = own-batch st.older gone.epoch own st.batch (stood-backed gone.entry.0.0 st) gone.entry.1 held in
      let within : In x (ids st.batch) = subst (λ (b : Batch). In x (ids b)) same gone.within in
      subst (λ (t : List Value). In x (log_ids t)) (sym st.part.1)
      (log_ids-extends x st.part.0 (Value_batch st.batch ∷ st.older) (in_left x (ids st.batch) (log_ids st.older) within))

  -- what is in flight is not in the log
  module _ (waiting : List Request) (flight : List (Slot × Batch)) (h : Filed R M i past waiting flight) where
    abbrev e : ℕ
    e = past.epoch

    abbrev bf : List Value
    bf = before R M i past e

    abbrev held_here : List (Slot × Batch)
    held_here = accepts (past.evidence e i)

    judged : Judged R bf e i held_here
    judged = g.judged i e i ok (omega arith)

    begun-here : (low : List Value) (b : Batch) → Extends (Value_batch b ∷ low) log → epoch_at R low ≤ e
    begun-here low b part =
        let P : List Value → Value → Type 0 = λ o u. cell R M i past o ≡ Some u in
        let whole : Chain P (part.0 ++ (Value_batch b ∷ low)) = subst (λ (t : List Value). Chain P t) part.1 (log-chain R M i past) in
        cell-epoch R M i past (record { evidence = h.unborn; adopted = h.settled.all }) low (Value_batch b) (chain-part P part.0 (Value_batch b) low whole).1

    pub unlanded : (x : ReqId) → In x (flown flight) → In x (log_ids log) → ⊥
    unlanded x flying logged =
        let f = flown-entry flight x flying in
        let cast : WasCast R M i past e f.0 = h.cast f.0 f.1 in
        let found : Found s S R M safe sound w sep g x log = find s S R M safe sound w sep g x log true_log logged in
        let low = found.older in
        let part : Extends low log = lower low (Value_batch found.batch) found.part in
        let j = entry-judged R bf e i held_here judged f.0 cast.held in
        let mine : Accepted R bf e i (marks j.1) f.0.1 = accepted R bf e i (marks j.1) f.0.1 j.3 in
        let far : start_of R log e ≤ length log = far-start s S R M safe sound w sep g i ok e (omega arith) in
        elim (leb_tells e (epoch_at R low)) [
          | inr t ↦
              -- of an earlier epoch: it was in the log before this one
              let below : length low < start_of R log e = elim (leb_tells (start_of R log e) (length low)) [
                | inr y ↦ y.1
                | inl y ↦
                    let st : start_of R log e ≡ start_of R low e = start-within R low log e part y.1 in
                    absurd (omega (arith, st, y.1, start-mono R low (suc (epoch_at R low)) e t.1, epoch-high R seg.slots.some low))
              ] in
              unordered-of R bf e i (marks j.1) f.0.1 mine x f.2
              (in-before (start_of R log e) (Value_batch found.batch ∷ low) log x found.part below (in_left x (ids found.batch) (log_ids low) found.within))
          | inl t ↦
              -- of this epoch: its owner is this node, which accepted it at one slot
              let begun : epoch_at R low ≤ e = begun-here low found.batch found.part in
              let ee : epoch_at R low ≡ e = omega (arith, begun, t.1) in
              let start : before_at R low ≡ bf = sym (cut-extends R low log (epoch_at R low) part (epoch-low R low)) ∙ ap (λ (n : ℕ). cut_at R log n) ee in
              let v : Valid s S R M safe sound w sep g low found.batch = valid s S R M safe sound w sep g low found.batch found.stands in
              let o1 : R.owner bf e x ≡ i = owner-of R bf e i (marks j.1) f.0.1 mine x f.2 in
              let o2 : R.owner (before_at R low) (epoch_at R low) x ≡ leader_at R low =
              owner-of R (before_at R low) (epoch_at R low) (leader_at R low) (marks v.earlier) found.batch v.is x found.within in
              let o3 : R.owner bf e x ≡ leader_at R low =
              subst (λ (n : ℕ). R.owner bf n x ≡ leader_at R low) ee
              (subst (λ (k : List Value). R.owner k (epoch_at R low) x ≡ leader_at R low) start o2) in
              let own : IsOwn low e = record { epoch = ee; start = start; leader = sym o3 ∙ o1 } in
              let accepted_low = own-accepted low e own found.batch found.stands.is in
              let longer : suc (length low) ≤ length log = extends-length (Value_batch found.batch ∷ low) log found.part in
              let opens : length log ≤ f.0.0.0 = h.open_slot f.0 f.1 in
              one-slot R bf e i held_here judged f.0 (record { 0 = length low }, found.batch) cast.held accepted_low
              (λ q. absurd (omega (arith, q, opens, longer))) x f.2 found.within
        ]

    pub one-place : (x : ReqId) → IsPlaced R M i past waiting flight x → One (In x (log_ids log)) (In x (ids waiting)) (In x (flown flight))
    one-place x k =
        let in_log : In x (log_ids log) → One (In x (log_ids log)) (In x (ids waiting)) (In x (flown flight)) =
        λ a. first a (λ b. h.unlogged x b a) (λ b. unlanded x b a) in
        elim k [
          | inl a ↦ in_log a
          | inr a ↦ elim a [
            | inl y ↦ second (λ b. h.unlogged x y b) y (λ b. h.apart x y b)
            | inr y ↦ elim y [
              | inl z ↦ third (λ b. unlanded x z b) (λ b. h.apart x b z) z
              | inr z ↦ in_log (landed x z)
            ]
          ]
        ]

start-least : (s : Setup) (log : List Value) (e : ℕ) → start_at s log e ≤ start_by (slots_at s) log e
start-least s log zero = omega arith
start-least s log (suc e) =
    let a = start_by (slots_at s) log (suc e) in
    let b = 2 ^ 64 - slots_at s log (suc e) in
    elim (leb_tells a b) [ inl t ↦ rw t.0 (omega arith) | inr t ↦ rw t.0 (omega (arith, t.1)) ]

-- the segments of a set-up's layout
pub segments : {Msg : Type 0} (s : Setup) (M : Module Msg) → IsSetupOf M s → HasSegments (rules_of s)
segments s M h =
    let sound = sound-rules M s h in
    record {
      slots = record { some = sound.some_slots; most = sound.most };
      leader = λ log e l slot i. ap number_of ((segment_slots (plan_at s log e) l slot).0 i).1;
      high = λ log e l slot i.
          let within = ((segment_slots (plan_at s log e) l slot).0 i).0.1 in
          let least = start-least s log e in
          omega (arith, within, least);
    }
