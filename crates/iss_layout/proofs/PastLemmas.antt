-- Who leads an epoch is a function of the log before it.
use Rattle.std.proofs.Common.{◌≡◌, ℕ, zero, suc, ◌+◌, ◌*◌, ◌<◌, ◌≤◌, Bool, false, List, [], ◌∷◌, ◌++◌, length, refl, sym, ap, ◌∙◌, arith, eqb, length-append, reverse, slice_get, Some, cond, not}
use Rattle.std.proofs.lemmas.Grind.{reverse_onto}
use Rattle.std.proofs.lemmas.List.Elements.{filter-append}
use Rattle.std.specs.List.{filter}
use Rattle.iss_base.proofs.Lists.{eqb-other, some-injective}
use Rattle.iss_request.specs.Formats.{is_batch}
use Rattle.iss_request.specs.declared.ids.Slot.{Slot}
use Rattle.iss_request.specs.declared.requests.Value.{Value}
use Rattle.iss_request.specs.declared.setups.Setup.{Setup}
use Rattle.iss_layout.specs.Layout.{Ended, IsOfThePast, Plan, conduct_of, epochs, is_nil_at, nils_in, plan_by, slots_from, slots_in, with_next}

-- a slot of a log keeps its value in a longer one
pub nil-kept : (newer log : List Value) (k : ℕ) → k < length log → is_nil_at (newer ++ log) k ≡ is_nil_at log k
nil-kept [] log k within = refl
nil-kept (v ∷ newer) log k within =
    let long = length-append newer log in
    let apart : eqb k (length (newer ++ log)) ≡ false = eqb-other k (length (newer ++ log)) (λ e. omega (arith, e, long, within)) in
    rw apart (nil-kept newer log k within)

filter-same : (f g : Slot → Bool) (first k : ℕ) → ((i : ℕ) → i < k → f (record { 0 = first + i }) ≡ g (record { 0 = first + i })) → filter f (slots_from first k) ≡ filter g (slots_from first k)
filter-same f g first zero same = refl
filter-same f g first (suc k) same =
    let here = same k (omega arith) in
    let last : filter f (record { 0 = first + k } ∷ []) ≡ filter g (record { 0 = first + k } ∷ []) = rw here refl in
    filter-append f (slots_from first k) (record { 0 = first + k } ∷ [])
    ∙ ap (λ xs. xs ++ filter f (record { 0 = first + k } ∷ [])) (filter-same f g first k (λ i lt. same i (omega (arith, lt))))
    ∙ ap (λ xs. filter g (slots_from first k) ++ xs) last
    ∙ sym (filter-append g (slots_from first k) (record { 0 = first + k } ∷ []))

pub nils-kept : (p : Plan) (newer log : List Value) → p.start + p.slots ≤ length log → nils_in p (newer ++ log) ≡ nils_in p log
nils-kept p newer log held =
    filter-same (λ s. is_nil_at (newer ++ log) s.0) (λ s. is_nil_at log s.0) p.start p.slots
    (λ i lt. nil-kept newer log (p.start + i) (omega (arith, lt, held)))

pub slots-in : (s : Setup) (e : ℕ) (log : List Value) → slots_in (epochs s e log) ≡ e * s.epoch
slots-in s zero log = omega arith
slots-in s (suc e) log = let before = slots-in s e log in omega (arith, before)

pub epochs-kept : (s : Setup) (e : ℕ) (log newer : List Value) → e * s.epoch ≤ length log → epochs s e (newer ++ log) ≡ epochs s e log
epochs-kept s zero log newer held = refl
epochs-kept s (suc e) log newer held =
    let start = slots-in s e log in
    let fits : slots_in (epochs s e log) + s.epoch ≤ length log = omega (arith, start, held) in
    let less : e * s.epoch ≤ length log = omega (arith, held) in
    let p : Plan = plan_by s e (slots_in (epochs s e log)) (conduct_of (epochs s e log)) in
    ap (λ (past : List Ended). with_next s e (newer ++ log) past) (epochs-kept s e log newer less)
    ∙ ap (λ (ns : List Slot). record { plan = p; nils = ns } ∷ epochs s e log) (nils-kept p newer log fits)

pub of-the-past : (s : Setup) (e : ℕ) (log newer : List Value) → e * s.epoch ≤ length log → IsOfThePast s e log newer
of-the-past s e log newer held =
    let same = epochs-kept s e log newer held in
    record {
      same = same;
      plan = λ start. ap (λ (past : List Ended). plan_by s e start (conduct_of past)) same;
      starts = slots-in s e log;
    }

-- ---- a log with the oldest value first

nil-first : (log : List Value) (x : Value) → is_nil_at (log ++ x ∷ []) 0 ≡ not (is_batch x)
nil-first [] x = refl
nil-first (v ∷ log) x =
    let long = length-append log (x ∷ []) in
    rw (eqb-other 0 (length (log ++ x ∷ [])) (λ e. omega (arith, e, long))) (nil-first log x)

same-next : (a b c : ℕ) → c ≡ b + 1 → eqb (suc a) c ≡ eqb a b
same-next a b c e = grind arith

nil-later : (log : List Value) (x : Value) (k : ℕ) → is_nil_at (log ++ x ∷ []) (suc k) ≡ is_nil_at log k
nil-later [] x k = rw (eqb-other (suc k) 0 (λ e. omega (arith, e))) refl
nil-later (v ∷ log) x k =
    ap (λ (t : Bool). cond t (not (is_batch v)) (is_nil_at (log ++ x ∷ []) (suc k))) (same-next k (length log) (length (log ++ x ∷ [])) (length-append log (x ∷ [])))
    ∙ ap (λ (t : Bool). cond (eqb k (length log)) (not (is_batch v)) t) (nil-later log x k)

pub nil-at : (entries : List Value) (k : ℕ) (v : Value) → slice_get entries k ≡ Some v → is_nil_at (reverse entries) k ≡ not (is_batch v)
nil-at [] k v h = cc
nil-at (x ∷ xs) zero v h = ap (λ (log : List Value). is_nil_at log 0) (reverse_onto xs x []) ∙ nil-first (reverse xs) x ∙ ap (λ (y : Value). not (is_batch y)) (some-injective x v h)
nil-at (x ∷ xs) (suc k) v h = ap (λ (log : List Value). is_nil_at log (suc k)) (reverse_onto xs x []) ∙ nil-later (reverse xs) x k ∙ nil-at xs k v h
