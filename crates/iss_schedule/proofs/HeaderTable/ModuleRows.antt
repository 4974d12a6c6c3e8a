-- The table of modules: the invariant of each row, and where a row is. Nothing here grows with the table.
use Rattle.std.proofs.Common.{◌≡◌, ◌∙◌, inl, inr, ℕ, zero, suc, ◌<◌, ◌≤◌, Bool, true, false, not, ◌&&◌, cond, eqb, leb, List, [], ◌∷◌, length, get_or, refl, sym, ap, subst, arith}
use Rattle.std.specs.List.{list_all}
use Rattle.iss_base.proofs.Lists.{and-true, not-true}
use Rattle.iss_request.specs.declared.setups.Kind.TheVariants.{Byzantine, Stopping}
use Rattle.iss_schedule.specs.declared.modules.Module.{Module}
use Rattle.iss_schedule.specs.Headers.{IsOneOf, ModuleRow, lines_of_rows, module_rows, place_among, relay_row, row_at, see, see_all}
use Rattle.iss_request.proofs.StoppingKinds.{is_stopping, stops}
use Rattle.iss_schedule.proofs.HeaderTable.TestsDecide.{is_equal, is_small, is_zero, no_equal}

-- ---- tests of all rows

abbrev is_sound : ModuleRow → Bool
is_sound r = leb r.most_faults 3 && cond (eqb r.number 1) (eqb r.most_faults 0 && stops r.kind) true

abbrev numbers_differ : List ModuleRow → Bool
numbers_differ [] = true
numbers_differ (r ∷ rs) = list_all (λ q. not (eqb r.number q.number)) rs && numbers_differ rs

all_at : (P : ModuleRow → Bool) (rs : List ModuleRow) (k : ℕ) (d : ModuleRow) → list_all P rs ≡ true → P d ≡ true →
    P (get_or rs k d) ≡ true
all_at P [] k d t u = u
all_at P (r ∷ rs) zero d t u = (and-true (P r) (list_all P rs) t).0
all_at P (r ∷ rs) (suc k) d t u = all_at P rs k d (and-true (P r) (list_all P rs) t).1 u

all_below : (P : ModuleRow → Bool) (rs : List ModuleRow) (k : ℕ) (d : ModuleRow) → list_all P rs ≡ true →
    k < length rs → P (get_or rs k d) ≡ true
all_below P [] k d t lt = absurd (omega (arith, lt))
all_below P (r ∷ rs) zero d t lt = (and-true (P r) (list_all P rs) t).0
all_below P (r ∷ rs) (suc k) d t lt = all_below P rs k d (and-true (P r) (list_all P rs) t).1 (omega (arith, lt))

-- ---- the invariant of a row

pub record IsSoundRow (r : ModuleRow) : Type 0 where
  pub few : r.most_faults ≤ 3
  pub relay_faults : r.number ≡ 1 → r.most_faults ≡ 0
  pub relay_kind : r.number ≡ 1 → r.kind ≡ Stopping

relay_part : (n : ℕ) (x : Bool) → cond (eqb n 1) x true ≡ true → n ≡ 1 → x ≡ true
relay_part n x t e = subst (λ m. cond (eqb m 1) x true ≡ true) e t

sound_row : (r : ModuleRow) → is_sound r ≡ true → IsSoundRow r
sound_row r t =
    let parts = and-true (leb r.most_faults 3) (cond (eqb r.number 1) (eqb r.most_faults 0 && stops r.kind) true) t in
    let relay = λ (e : r.number ≡ 1). and-true (eqb r.most_faults 0) (stops r.kind)
    (relay_part r.number (eqb r.most_faults 0 && stops r.kind) parts.1 e) in
    record {
      few = is_small r.most_faults parts.0;
      relay_faults = λ e. is_zero r.most_faults (relay e).0;
      relay_kind = λ e. is_stopping r.kind (relay e).1;
    }

pub rows_sound : (place : ℕ) → IsSoundRow (row_at place)
rows_sound place = sound_row (row_at place) (all_at is_sound module_rows place relay_row refl refl)

-- ---- where a row is

tail_of : (m : ℕ) (r : ModuleRow) (rs : List ModuleRow) → IsOneOf m (r ∷ rs) → (r.number ≡ m → ⊥) → IsOneOf m rs
tail_of m r [] h ne = absurd (ne (sym h))
tail_of m r (q ∷ rs) (inl e) ne = absurd (ne (sym e))
tail_of m r (q ∷ rs) (inr h) ne = h

pub place_low : (m : ℕ) (rs : List ModuleRow) → IsOneOf m rs → place_among m rs < length rs
place_low m [] h = absurd h
place_low m (r ∷ rs) h = go (λ t. place_low m rs t) (eqb r.number m) refl
  where
    go : (IsOneOf m rs → place_among m rs < length rs) → (b : Bool) → eqb r.number m ≡ b →
        cond b 0 (suc (place_among m rs)) < suc (length rs)
    go later true e = omega arith
    go later false e = let t = later (tail_of m r rs h (no_equal r.number m e)) in omega (arith, t)

pub number_of_row : (m : ℕ) (rs : List ModuleRow) (d : ModuleRow) → IsOneOf m rs →
    (get_or rs (place_among m rs) d).number ≡ m
number_of_row m [] d h = absurd h
number_of_row m (r ∷ rs) d h = go (λ t. number_of_row m rs d t) (eqb r.number m) refl
  where
    go : (IsOneOf m rs → (get_or rs (place_among m rs) d).number ≡ m) → (b : Bool) → eqb r.number m ≡ b →
        (get_or (r ∷ rs) (cond b 0 (suc (place_among m rs))) d).number ≡ m
    go later true e = is_equal r.number m e
    go later false e = later (tail_of m r rs h (no_equal r.number m e))

back : (rs : List ModuleRow) (k : ℕ) (d : ModuleRow) → numbers_differ rs ≡ true → k < length rs →
    place_among (get_or rs k d).number rs ≡ k
back [] k d t lt = absurd (omega (arith, lt))
back (r ∷ rs) zero d t lt =
    let e : eqb r.number r.number ≡ true = grind (arith) in
    ap (λ (b : Bool). cond b 0 (suc (place_among r.number rs))) e
back (r ∷ rs) (suc k) d t lt =
    let parts = and-true (list_all (λ q. not (eqb r.number q.number)) rs) (numbers_differ rs) t in
    let apart = not-true (eqb r.number (get_or rs k d).number)
    (all_below (λ q. not (eqb r.number q.number)) rs k d parts.0 (omega (arith, lt))) in
    ap (λ (b : Bool). cond b 0 (suc (place_among (get_or rs k d).number rs))) apart
    ∙ ap suc (back rs k d parts.1 (omega (arith, lt)))

pub place_back : (place : ℕ) → place < length module_rows → place_among (row_at place).number module_rows ≡ place
place_back place lt = back module_rows place relay_row refl lt

pub one_at : (rs : List ModuleRow) (k : ℕ) (d : ModuleRow) → k < length rs → IsOneOf (get_or rs k d).number rs
one_at [] k d lt = absurd (omega (arith, lt))
one_at (r ∷ []) zero d lt = refl
one_at (r ∷ []) (suc k) d lt = absurd (omega (arith, lt))
one_at (r ∷ q ∷ rs) zero d lt = inl refl
one_at (r ∷ q ∷ rs) (suc k) d lt = inr (one_at (q ∷ rs) k d (omega (arith, lt)))

-- ---- the code's table

-- the row for a place past the end
abbrev pub no_module : Module
no_module = record { line = record { ref_ptr = (0, 0); now = [] }; number = 0; kind = Byzantine; most_faults = 0 }

see_at : (ms : List Module) (k : ℕ) (d : Module) (r : ModuleRow) → k < length ms →
    get_or (see_all ms) k r ≡ see (get_or ms k d)
see_at [] k d r lt = absurd (omega (arith, lt))
see_at (m ∷ ms) zero d r lt = refl
see_at (m ∷ ms) (suc k) d r lt = see_at ms k d r (omega (arith, lt))

length_see : (ms : List Module) → length (see_all ms) ≡ length ms
length_see [] = refl
length_see (m ∷ ms) = ap suc (length_see ms)

see_beyond : (ms : List Module) (k : ℕ) (r : ModuleRow) → length ms ≤ k → get_or (see_all ms) k r ≡ r
see_beyond [] k r le = refl
see_beyond (m ∷ ms) zero r le = absurd (omega (arith, le))
see_beyond (m ∷ ms) (suc k) r le = see_beyond ms k r (omega (arith, le))

-- the row at a place
pub seen_at : (ms : List Module) (k : ℕ) (d : Module) → see_all ms ≡ module_rows → k < length ms →
    see (get_or ms k d) ≡ row_at k
seen_at ms k d is lt = sym (see_at ms k d relay_row lt) ∙ ap (λ (rs : List ModuleRow). get_or rs k relay_row) is

pub some_module : (ms : List Module) → see_all ms ≡ module_rows → 0 < length ms
some_module ms is = let size = ap (λ (rs : List ModuleRow). length rs) is in omega (arith, size, length_see ms)

pub few_modules : (ms : List Module) → see_all ms ≡ module_rows → length ms < 4294967296
few_modules ms is = let size = ap (λ (rs : List ModuleRow). length rs) is in omega (arith, size, length_see ms)

pub seen_first : (ms : List Module) (k : ℕ) (d : Module) → see_all ms ≡ module_rows → length ms ≤ k →
    see (get_or ms 0 d) ≡ row_at k
seen_first ms k d is le = seen_at ms 0 d is (some_module ms is) ∙ sym (see_beyond ms k relay_row le)
    ∙ ap (λ (rs : List ModuleRow). get_or rs k relay_row) is

pub length_lines_of : (ms : List Module) → length (lines_of_rows (see_all ms)) ≡ length ms
length_lines_of [] = refl
length_lines_of (m ∷ ms) = ap suc (length_lines_of ms)

pub line_at : (ms : List Module) (k : ℕ) (d : Module) → k < length ms →
    get_or (lines_of_rows (see_all ms)) k [] ≡ (get_or ms k d).line.now
line_at [] k d lt = absurd (omega (arith, lt))
line_at (m ∷ ms) zero d lt = refl
line_at (m ∷ ms) (suc k) d lt = line_at ms k d (omega (arith, lt))

line_beyond : (ms : List Module) (k : ℕ) → length ms ≤ k → get_or (lines_of_rows (see_all ms)) k [] ≡ []
line_beyond [] k le = refl
line_beyond (m ∷ ms) zero le = absurd (omega (arith, le))
line_beyond (m ∷ ms) (suc k) le = line_beyond ms k (omega (arith, le))

-- the first module with a number
pub place_first : (ms : List Module) (number k : ℕ) (d : Module) → k < length ms →
    ((j : ℕ) → j < k → (get_or ms j d).number ≡ number → ⊥) → (get_or ms k d).number ≡ number →
    place_among number (see_all ms) ≡ k
place_first [] number k d lt none here = absurd (omega (arith, lt))
place_first (m ∷ ms) number zero d lt none here =
    let e : eqb m.number number ≡ true = grind (arith, here) in
    ap (λ (b : Bool). cond b 0 (suc (place_among number (see_all ms)))) e
place_first (m ∷ ms) number (suc k) d lt none here =
    let ne = none 0 (omega arith) in
    let e : eqb m.number number ≡ false = grind (arith, ne) in
    ap (λ (b : Bool). cond b 0 (suc (place_among number (see_all ms)))) e
    ∙ ap suc (place_first ms number k d (omega (arith, lt)) (λ j lt is. none (suc j) (omega (arith, lt)) is) here)

place_none : (ms : List Module) (number : ℕ) (d : Module) →
    ((j : ℕ) → j < length ms → (get_or ms j d).number ≡ number → ⊥) → place_among number (see_all ms) ≡ length ms
place_none [] number d none = refl
place_none (m ∷ ms) number d none =
    let ne = none 0 (omega arith) in
    let e : eqb m.number number ≡ false = grind (arith, ne) in
    ap (λ (b : Bool). cond b 0 (suc (place_among number (see_all ms)))) e
    ∙ ap suc (place_none ms number d (λ j lt is. none (suc j) (omega (arith, lt)) is))

pub line_first : (ms : List Module) (number k : ℕ) (d : Module) → k < length ms →
    ((j : ℕ) → j < k → (get_or ms j d).number ≡ number → ⊥) → (get_or ms k d).number ≡ number →
    (get_or ms k d).line.now ≡ get_or (lines_of_rows (see_all ms)) (place_among number (see_all ms)) []
line_first ms number k d lt none here =
    sym (line_at ms k d lt) ∙ ap (λ j. get_or (lines_of_rows (see_all ms)) j [])
    (sym (place_first ms number k d lt none here))

pub line_none : (ms : List Module) (number : ℕ) (d : Module) →
    ((j : ℕ) → j < length ms → (get_or ms j d).number ≡ number → ⊥) →
    [] ≡ get_or (lines_of_rows (see_all ms)) (place_among number (see_all ms)) []
line_none ms number d none =
    sym (line_beyond ms (length ms) (omega arith))
    ∙ ap (λ j. get_or (lines_of_rows (see_all ms)) j []) (sym (place_none ms number d none))
