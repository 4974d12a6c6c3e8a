-- A generated schedule is in range.
use Rattle.std.proofs.Common.{◌≡◌, ◌∙◌, ℕ, zero, suc, ◌+◌, ◌-◌, ◌^◌, ◌<◌, Bool, true, false, if◌then◌else◌, List, [], ◌∷◌, ◌++◌, refl, sym, ap, arith, inl, inr, codes, append_assoc}
use Rattle.std.specs.Prelude.{◌==◌, nat_lt, slice_index}
use Rattle.std.specs.Fmt.{digits}
use Rattle.std.specs.Int.{to_be_bytes, w64}
use Rattle.std.proofs.lemmas.Nat.{mod_below}
use Rattle.iss_request.specs.Setup.{IsGoodSetup}
use Rattle.iss_schedule.specs.Events.{AreInRange, IsInRange}
use Rattle.iss_schedule.proofs.BadLines.PrefixesAreRead.{in_range_push}
use Rattle.iss_schedule.specs.Schedules.{IsKnown, header_lines}
use Rattle.iss_schedule.specs.Words.{ended}
use Rattle.iss_schedule.specs.declared.schedules.Event.{Event}
use Rattle.iss_schedule.specs.declared.schedules.Event.TheVariants.{Calm, Deliver, Lose, Propose, Pump, Restart}
use Rattle.iss_lab.specs.Draws.{drawn, next}
use Rattle.iss_lab.specs.Generated.{drawn_event, drawn_events, drawn_request, drawn_timeout, lab_setup, of_kind, untagged}

-- ---- the set-up

lab_is_good : IsGoodSetup lab_setup
lab_is_good = record {
  version = refl;
  faults = omega arith;
  relay_faults = λ e. absurd (omega (arith, e));
  relay_kind = λ e. absurd (omega (arith, e));
  nodes = refl;
  majority = refl;
  epoch_low = omega arith;
  epoch_high = omega arith;
  buckets_low = omega arith;
  buckets_high = omega arith;
  batch_low = omega arith;
  batch_high = omega arith;
  window_low = omega arith;
  window_high = omega arith;
  clients_low = omega arith;
  clients_high = omega arith;
  keys_height = (omega arith, omega arith);
  few_faulty = omega arith;
  ascending_faulty = tt;
}

pub lab_is_known : IsKnown lab_setup
lab_is_known = record {
  good = lab_is_good;
  known = inr (inr (inl refl));
  kind = refl;
  faults = omega arith;
  tag = refl;
}

-- ---- the events

below : (end x : ℕ) → 0 < end → drawn end x < end
below end x some = mod_below _ end some

all_bytes : (n i : ℕ) → slice_index (to_be_bytes w64 n) i < 256
all_bytes n zero = mod_below _ 256 (omega arith)
all_bytes n (suc zero) = mod_below _ 256 (omega arith)
all_bytes n (suc (suc zero)) = mod_below _ 256 (omega arith)
all_bytes n (suc (suc (suc zero))) = mod_below _ 256 (omega arith)
all_bytes n (suc (suc (suc (suc zero)))) = mod_below _ 256 (omega arith)
all_bytes n (suc (suc (suc (suc (suc zero))))) = mod_below _ 256 (omega arith)
all_bytes n (suc (suc (suc (suc (suc (suc zero)))))) = mod_below _ 256 (omega arith)
all_bytes n (suc (suc (suc (suc (suc (suc (suc zero))))))) = mod_below _ 256 (omega arith)
all_bytes n (suc (suc (suc (suc (suc (suc (suc (suc i)))))))) = omega arith

chosen : (b : Bool) (x y : Event × ℕ) → IsInRange lab_setup x.0 → IsInRange lab_setup y.0 →
    IsInRange lab_setup (if b then x else y).0
chosen true x y h k = h
chosen false x y h k = k

request_in_range : (i x : ℕ) → IsInRange lab_setup (drawn_request i x).0
request_in_range i x =
    let a = next x in let b = next a in let c = next b in
    (below 4 a (omega arith), below 16 b (omega arith), omega (arith, below 64 c (omega arith)), (all_bytes i, omega arith))

timeout_in_range : (x : ℕ) → IsInRange lab_setup (drawn_timeout x).0
timeout_in_range x = let a = next x in let b = next a in (below 4 a (omega arith), below 4 b (omega arith))

kind_in_range : (d i x : ℕ) → IsInRange lab_setup (of_kind d i x).0
kind_in_range d i x =
    let a = next x in
    let deliver : drawn 64 a < 2 ^ 64 = omega (arith, below 64 a (omega arith)) in
    let lose : drawn 1024 a < 2 ^ 64 = omega (arith, below 1024 a (omega arith)) in
    let five : Event × ℕ = if d == 12 then (Restart (drawn 4 a), a) else (Pump, x) in
    let four : Event × ℕ = if d == 11 then (Lose (drawn 1024 a), a) else five in
    let three : Event × ℕ = if d == 10 then (Deliver (drawn 64 a), a) else four in
    let two : Event × ℕ = if d == 9 then drawn_timeout x else three in
    let one : Event × ℕ = if nat_lt d 9 then (Propose (drawn 4 a), a) else two in
    chosen (nat_lt d 5) (drawn_request i x) one (request_in_range i x)
    (chosen (nat_lt d 9) (Propose (drawn 4 a), a) two (below 4 a (omega arith))
    (chosen (d == 9) (drawn_timeout x) three (timeout_in_range x)
    (chosen (d == 10) (Deliver (drawn 64 a), a) four deliver
    (chosen (d == 11) (Lose (drawn 1024 a), a) five lose
    (chosen (d == 12) (Restart (drawn 4 a), a) (Pump, x) (below 4 a (omega arith)) tt)))))

drawn_in_range : (i count x : ℕ) → AreInRange lab_setup (drawn_events i count x)
drawn_in_range i zero x = tt
drawn_in_range i (suc count) x = (kind_in_range (drawn 16 (next x)) i (next x), drawn_in_range (suc i) count (drawn_event i x).1)

pub generated_in_range : (number count : ℕ) → AreInRange lab_setup (drawn_events 0 count number ++ Calm 50 ∷ [])
generated_in_range number count = in_range_push lab_setup _ _ (drawn_in_range 0 count number) (omega arith, omega arith)

-- ---- the loop

pub header_is : 0x43 ∷ codes "iss 1\nmodule pbft\nf 1\nepoch 8\nbuckets 16\nbatch 8\nwindow 64\npolicy blacklist\nclients 16\nkeys 10\nfaulty none\n" ≡ 0x43 ∷ ended (header_lines untagged)
unfolding digits
header_is = refl

add-one : (i : ℕ) → i + 1 ≡ suc i
add-one i = omega arith

-- The events so far, one more, and those that are left.
pub one_more : (so_far : List Event) (i count x y : ℕ) (e : Event) → i < count → (e, y) ≡ drawn_event i x →
    (so_far ++ e ∷ []) ++ drawn_events (i + 1) (count - (i + 1)) y ≡ so_far ++ drawn_events i (count - i) x
one_more so_far i count x y e lt is =
    let left : count - i ≡ suc (count - (i + 1)) = omega (arith, lt) in
    append_assoc so_far (e ∷ []) _
    ∙ ap (λ (j : ℕ). so_far ++ e ∷ drawn_events j (count - (i + 1)) y) (add-one i)
    ∙ ap (λ (d : Event × ℕ). so_far ++ d.0 ∷ drawn_events (suc i) (count - (i + 1)) d.1) is
    ∙ ap (λ (k : ℕ). so_far ++ drawn_events i k x) (sym left)
