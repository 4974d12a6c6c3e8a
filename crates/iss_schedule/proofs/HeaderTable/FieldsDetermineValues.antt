-- Tables of header fields. A text has one list of values, and values in range can be extended.
use Rattle.std.proofs.Common.{◌≡◌, ◌∙◌, ℕ, zero, suc, ◌^◌, ◌<◌, ◌≤◌, Bool, true, not, ◌&&◌, List, [], ◌∷◌, ◌++◌, length, take, get_or, Some, decimal, refl, sym, ap, subst, arith, append_assoc, append-nil, true≢false}
use Rattle.std.specs.List.{list_all}
use Rattle.std.proofs.lemmas.Fmt.{decimal_injective}
use Rattle.iss_base.specs.Lists.{nth, same_bytes}
use Rattle.iss_base.proofs.Lists.{and-true, not-true, same_bytes-refl, some-injective}
use Rattle.iss_schedule.specs.Forms.{IsFieldFormed}
use Rattle.iss_schedule.specs.Headers.{HeaderField, OneOf, Number, IsValue, IsGoodLine, AreValues, spell_value, lines_of}
use Rattle.iss_schedule.specs.Words.{Lacks}
use Rattle.iss_schedule.proofs.Encoding.NoSeparatorInWords.{lacks_test, lacks_by_test, lacks_decimal, lacks_append}
use Rattle.iss_schedule.proofs.Encoding.DecimalIsInjective.{decimal_is_number}

-- ---- what a table requires of its fields: texts differ, a text and a name have no line feed, and numbers fit a word

abbrev pub all_differ : List (List ℕ) → Bool
all_differ [] = true
all_differ (x ∷ xs) = list_all (λ y. not (same_bytes x y)) xs && all_differ xs

abbrev pub IsSoundField : HeaderField → Type 0
IsSoundField (OneOf texts) = (all_differ texts ≡ true) × (list_all (lacks_test 10) texts ≡ true)
IsSoundField (Number name low end) = (lacks_test 10 name ≡ true) × ((above : List ℕ) → end above ≤ 2 ^ 64)

abbrev pub AreSound : List HeaderField → Type 0
AreSound [] = Unit {0}
AreSound (f ∷ fs) = IsSoundField f × AreSound fs

-- whatever the values above, some value is in range
abbrev pub Fills : List HeaderField → List ℕ → Type 0
Fills [] above = Unit {0}
Fills (f ∷ fs) above = ((v : ℕ) × IsValue f above v) × ((v : ℕ) → IsValue f above v → Fills fs (above ++ v ∷ []))

-- values in range for the first fields, and the fields that remain
abbrev pub AreSome : List HeaderField → List ℕ → List ℕ → List HeaderField → Type 0
AreSome fs above [] left = left ≡ fs
AreSome [] above (v ∷ vs) left = ⊥
AreSome (f ∷ fs) above (v ∷ vs) left = IsValue f above v × AreSome fs (above ++ v ∷ []) vs left

-- ---- one field

apart : (x : List ℕ) (xs : List (List ℕ)) (w : ℕ) → list_all (λ y. not (same_bytes x y)) xs ≡ true → w < length xs →
    x ≡ get_or xs w [] → ⊥
apart x [] w t lt e = absurd (omega (arith, lt))
apart x (y ∷ ys) zero t lt e =
    let p = and-true (not (same_bytes x y)) (list_all (λ z. not (same_bytes x z)) ys) t in
    true≢false (sym (subst (λ (z : List ℕ). same_bytes x z ≡ true) e (same_bytes-refl x))
    ∙ not-true (same_bytes x y) p.0)
apart x (y ∷ ys) (suc w) t lt e =
    apart x ys w (and-true (not (same_bytes x y)) (list_all (λ z. not (same_bytes x z)) ys) t).1 (omega (arith, lt)) e

one_text : (texts : List (List ℕ)) → all_differ texts ≡ true → (v w : ℕ) → v < length texts → w < length texts →
    get_or texts v [] ≡ get_or texts w [] → v ≡ w
one_text [] d v w p q e = absurd (omega (arith, p))
one_text (x ∷ xs) d zero zero p q e = refl
one_text (x ∷ xs) d zero (suc w) p q e =
    absurd (apart x xs w (and-true (list_all (λ y. not (same_bytes x y)) xs) (all_differ xs) d).0 (omega (arith, q)) e)
one_text (x ∷ xs) d (suc v) zero p q e =
    absurd (apart x xs v (and-true (list_all (λ y. not (same_bytes x y)) xs) (all_differ xs) d).0
    (omega (arith, p)) (sym e))
one_text (x ∷ xs) d (suc v) (suc w) p q e =
    ap suc (one_text xs (and-true (list_all (λ y. not (same_bytes x y)) xs) (all_differ xs) d).1 v w (omega (arith, p))
    (omega (arith, q)) e)

pub field_same : (name : List ℕ) (m n : ℕ) → m < 2 ^ 64 → n < 2 ^ 64 → name ++ 32 ∷ decimal m ≡ name ++ 32 ∷ decimal n →
    m ≡ n
field_same [] m n fits fits' e = let same : decimal m ≡ decimal n = cc in decimal_injective m n fits fits' same
field_same (b ∷ bs) m n fits fits' e = let tails : bs ++ 32 ∷ decimal m ≡ bs ++ 32 ∷ decimal n = cc in
    field_same bs m n fits fits' tails

one_value : (f : HeaderField) → IsSoundField f → (above : List ℕ) (v w : ℕ) → IsValue f above v → IsValue f above w →
    spell_value f v ≡ spell_value f w → v ≡ w
one_value (OneOf texts) s above v w p q e = one_text texts s.0 v w p q e
one_value (Number name low end) s above v w p q e = let b = s.1 above in
    field_same name v w (omega (arith, p.1, b)) (omega (arith, q.1, b)) e

text_whole : (texts : List (List ℕ)) → list_all (lacks_test 10) texts ≡ true → (v : ℕ) → v < length texts →
    Lacks 10 (get_or texts v [])
text_whole [] t v lt = absurd (omega (arith, lt))
text_whole (x ∷ xs) t zero lt = lacks_by_test 10 x (and-true (lacks_test 10 x) (list_all (lacks_test 10) xs) t).0
text_whole (x ∷ xs) t (suc v) lt =
    text_whole xs (and-true (lacks_test 10 x) (list_all (lacks_test 10) xs) t).1 v (omega (arith, lt))

pub value_whole : (f : HeaderField) → IsSoundField f → (above : List ℕ) (v : ℕ) → IsValue f above v →
    Lacks 10 (spell_value f v)
value_whole (OneOf texts) s above v ok = text_whole texts s.1 v ok
value_whole (Number name low end) s above v ok =
    let b = s.1 above in
    let fits : v < 2 ^ 64 = omega (arith, ok.1, b) in
    lacks_append 10 name (32 ∷ decimal v) (lacks_by_test 10 name s.0) (
      (λ e. omega arith),
      lacks_decimal 10 v (omega arith) fits,
    )

pub value_formed : (f : HeaderField) → IsSoundField f → (above line : List ℕ) → IsGoodLine f above line →
    IsFieldFormed f line
value_formed (OneOf texts) s above line g = (g.0, (g.1.0, g.1.1))
value_formed (Number name low end) s above line g = let b = s.1 above in
    (decimal g.0, (g.1.1, decimal_is_number g.0 (omega (arith, g.1.0.1, b))))

-- ---- all fields

-- the element at an index
pub record IsAt (fs : List HeaderField) (p : ℕ) (line : List ℕ) : Type 0 where
  pub field : HeaderField
  pub above : List ℕ
  pub place : nth fs p ≡ Some field
  pub sound : IsSoundField field
  pub good : IsGoodLine field above line

pub value_at : (fs : List HeaderField) → AreSound fs → (above vs : List ℕ) → AreValues fs above vs →
    (p : ℕ) (line : List ℕ) → nth (lines_of fs vs) p ≡ Some line → IsAt fs p line
value_at [] s above vs ok p line e = absurd cc
value_at (f ∷ fs) s above [] ok p line e = absurd ok
value_at (f ∷ fs) s above (v ∷ vs) ok zero line e =
    record {
      field = f;
      above = above;
      place = refl;
      sound = s.0;
      good = (v, (ok.0, sym (some-injective (spell_value f v) line e)));
    }
value_at (f ∷ fs) s above (v ∷ vs) ok (suc p) line e =
    let r = value_at fs s.1 (above ++ v ∷ []) vs ok.1 p line e in
    record { field = r.field; above = r.above; place = r.place; sound = r.sound; good = r.good }

pub one_list : (fs : List HeaderField) → AreSound fs → (above vs ws : List ℕ) → AreValues fs above vs →
    AreValues fs above ws → lines_of fs vs ≡ lines_of fs ws → vs ≡ ws
one_list [] s above vs ws p q e = p ∙ sym q
one_list (f ∷ fs) s above [] ws p q e = absurd p
one_list (f ∷ fs) s above (v ∷ vs) [] p q e = absurd q
one_list (f ∷ fs) s above (v ∷ vs) (w ∷ ws) p q e =
    let heads : spell_value f v ≡ spell_value f w = cc in
    let same : v ≡ w = one_value f s.0 above v w p.0 q.0 heads in
    let tails : lines_of fs vs ≡ lines_of fs ws = cc in
    let there : AreValues fs (above ++ v ∷ []) ws = subst (λ z. AreValues fs (above ++ z ∷ []) ws) (sym same) q.1 in
    let rest : vs ≡ ws = one_list fs s.1 (above ++ v ∷ []) vs ws p.1 there tails in
    cc

pub length_lines : (fs : List HeaderField) (above vs : List ℕ) → AreValues fs above vs →
    length (lines_of fs vs) ≡ length fs
length_lines [] above vs ok = refl
length_lines (f ∷ fs) above [] ok = absurd ok
length_lines (f ∷ fs) above (v ∷ vs) ok = ap suc (length_lines fs (above ++ v ∷ []) vs ok.1)

-- ---- the first fields

none_read : (fs : List HeaderField) → lines_of fs [] ≡ []
none_read [] = refl
none_read (f ∷ fs) = refl

pub length_some : (fs : List HeaderField) (above vs : List ℕ) (left : List HeaderField) → AreSome fs above vs left →
    length (lines_of fs vs) ≡ length vs
length_some fs above [] left h = ap length (none_read fs)
length_some [] above (v ∷ vs) left h = absurd h
length_some (f ∷ fs) above (v ∷ vs) left h = ap suc (length_some fs (above ++ v ∷ []) vs left h.1)

-- the first remaining field is the one at the index after the values
pub field_behind : (fs : List HeaderField) (above vs : List ℕ) (f : HeaderField) (more : List HeaderField) →
    AreSome fs above vs (f ∷ more) → nth fs (length vs) ≡ Some f
field_behind [] above [] f more h = absurd cc
field_behind (g ∷ fs) above [] f more h = let same : f ≡ g = cc in ap (λ (z : HeaderField). Some z) (sym same)
field_behind [] above (v ∷ vs) f more h = absurd h
field_behind (g ∷ fs) above (v ∷ vs) f more h = field_behind fs (above ++ v ∷ []) vs f more h.1

again : (above vs : List ℕ) (v : ℕ) → (above ++ v ∷ []) ++ vs ≡ above ++ v ∷ vs
again above vs v = append_assoc above (v ∷ []) vs

-- one value more
pub some_more : (fs : List HeaderField) (above vs : List ℕ) (v : ℕ) (f : HeaderField) (more : List HeaderField) →
    AreSome fs above vs (f ∷ more) → IsValue f (above ++ vs) v → AreSome fs above (vs ++ v ∷ []) more
some_more [] above [] v f more h ok = absurd cc
some_more (g ∷ fs) above [] v f more h ok =
    let same : f ≡ g = cc in
    let rest : more ≡ fs = cc in (
      subst (λ (a : List ℕ). IsValue g a v) (append-nil above)
          (subst (λ (z : HeaderField). IsValue z (above ++ []) v) same ok),
      rest,
    )
some_more [] above (w ∷ vs) v f more h ok = absurd h
some_more (g ∷ fs) above (w ∷ vs) v f more h ok = (
  h.0,
  some_more fs (above ++ w ∷ []) vs v f more h.1
      (subst (λ (a : List ℕ). IsValue f a v) (sym (again above vs w)) ok),
)

pub lines_more : (fs : List HeaderField) (above vs : List ℕ) (v : ℕ) (f : HeaderField) (more : List HeaderField) →
    AreSome fs above vs (f ∷ more) → lines_of fs (vs ++ v ∷ []) ≡ lines_of fs vs ++ spell_value f v ∷ []
lines_more [] above [] v f more h = absurd cc
lines_more (g ∷ fs) above [] v f more h =
    let same : f ≡ g = cc in
    ap (λ (ls : List (List ℕ)). spell_value g v ∷ ls) (none_read fs)
    ∙ ap (λ (z : HeaderField). spell_value z v ∷ []) (sym same)
lines_more [] above (w ∷ vs) v f more h = absurd h
lines_more (g ∷ fs) above (w ∷ vs) v f more h =
    ap (λ (ls : List (List ℕ)). spell_value g w ∷ ls) (lines_more fs (above ++ w ∷ []) vs v f more h.1)

pub some_all : (fs : List HeaderField) (above vs : List ℕ) → AreSome fs above vs [] → AreValues fs above vs
some_all [] above [] h = refl
some_all (f ∷ fs) above [] h = absurd cc
some_all [] above (v ∷ vs) h = absurd h
some_all (f ∷ fs) above (v ∷ vs) h = (h.0, some_all fs (above ++ v ∷ []) vs h.1)

-- values in range for all fields are as many as the fields
pub all_some : (fs : List HeaderField) (above vs : List ℕ) → AreValues fs above vs → AreSome fs above vs []
all_some [] above [] ok = refl
all_some [] above (v ∷ vs) ok = absurd (let none : v ∷ vs ≡ [] = ok in cc)
all_some (f ∷ fs) above [] ok = absurd ok
all_some (f ∷ fs) above (v ∷ vs) ok = (ok.0, all_some fs (above ++ v ∷ []) vs ok.1)

-- ---- values so far are extended

rest_of : (fs : List HeaderField) (above : List ℕ) → Fills fs above → (vs : List ℕ) × AreValues fs above vs
rest_of [] above h = ([], refl)
rest_of (f ∷ fs) above h = let r = rest_of fs (above ++ h.0.0 ∷ []) (h.1 h.0.0 h.0.1) in (h.0.0 ∷ r.0, (h.0.1, r.1))

pub gone_on : (fs : List HeaderField) (above vs : List ℕ) (left : List HeaderField) → Fills fs above →
    AreSome fs above vs left → (more : List ℕ) × AreValues fs above (vs ++ more)
gone_on fs above [] left h some = rest_of fs above h
gone_on [] above (v ∷ vs) left h some = absurd some
gone_on (f ∷ fs) above (v ∷ vs) left h some = let r = gone_on fs (above ++ v ∷ []) vs left (h.1 v some.0) some.1 in
    (r.0, (some.0, r.1))

pub front_of : (fs : List HeaderField) (above vs more : List ℕ) (left : List HeaderField) (others : List (List ℕ)) →
    AreSome fs above vs left → lines_of fs vs ≡ take (length (lines_of fs vs)) (lines_of fs (vs ++ more) ++ others)
front_of [] above [] more left others h = refl
front_of (f ∷ fs) above [] more left others h = refl
front_of [] above (v ∷ vs) more left others h = absurd h
front_of (f ∷ fs) above (v ∷ vs) more left others h =
    ap (λ (ls : List (List ℕ)). spell_value f v ∷ ls) (front_of fs (above ++ v ∷ []) vs more left others h.1)

-- If a list extends the values so far, the next line encodes a value in range after them.
pub next_good : (fs : List HeaderField) → AreSound fs →
    (above vs ws : List ℕ) (f : HeaderField) (more : List HeaderField) (line : List ℕ) (others : List (List ℕ)) →
    AreSome fs above vs (f ∷ more) → AreValues fs above ws →
    lines_of fs vs ++ line ∷ [] ≡ take (length (lines_of fs vs ++ line ∷ [])) (lines_of fs ws ++ others) →
    IsGoodLine f (above ++ vs) line
next_good [] s above [] ws f more line others some ok e = absurd cc
next_good (g ∷ fs) s above [] [] f more line others some ok e = absurd ok
next_good (g ∷ fs) s above [] (w ∷ ws) f more line others some ok e =
    let same : f ≡ g = cc in
    let here : line ≡ spell_value g w = cc in
    subst (λ (z : HeaderField). IsGoodLine z (above ++ []) line) (sym same)
    (subst (λ (a : List ℕ). IsGoodLine g a line) (sym (append-nil above)) (w, (ok.0, here)))
next_good [] s above (v ∷ vs) ws f more line others some ok e = absurd some
next_good (g ∷ fs) s above (v ∷ vs) [] f more line others some ok e = absurd ok
next_good (g ∷ fs) s above (v ∷ vs) (w ∷ ws) f more line others some ok e =
    let heads : spell_value g v ≡ spell_value g w = cc in
    let same : v ≡ w = one_value g s.0 above v w some.0 ok.0 heads in
    let tails : lines_of fs vs ++ line ∷ [] ≡ take (length (lines_of fs vs ++ line ∷ [])) (lines_of fs ws ++ others) =
    cc in
    let there : AreValues fs (above ++ v ∷ []) ws = subst (λ z. AreValues fs (above ++ z ∷ []) ws) (sym same) ok.1 in
    subst (λ (a : List ℕ). IsGoodLine f a line) (again above vs v)
    (next_good fs s.1 (above ++ v ∷ []) vs ws f more line others some.1 there tails)
