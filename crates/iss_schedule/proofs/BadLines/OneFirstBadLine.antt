-- A text with a bad line is the text of no schedule, and has exactly one first bad line with one reason.
use Rattle.std.proofs.Common.{◌≡◌, ◌≢◌, ℕ, zero, suc, ◌+◌, ◌<◌, List, [], ◌∷◌, ◌++◌, length, take, drop, map, Some, refl, sym, ap, subst, ◌∙◌, arith, append_assoc, length-append, inl, inr}
use Rattle.iss_base.specs.Lists.{nth}
use Rattle.iss_request.specs.declared.setups.Kind.{Kind}
use Rattle.iss_request.specs.declared.setups.Kind.TheVariants.{Byzantine, Stopping}
use Rattle.iss_request.specs.declared.setups.Setup.{Setup}
use Rattle.iss_schedule.specs.declared.errors.LineFault.{LineFault}
use Rattle.iss_schedule.specs.declared.errors.LineFault.TheVariants.{Cut, Form, Faulty, Injected, Range, Size}
use Rattle.iss_schedule.specs.declared.names.Name.TheVariants as name
use Rattle.iss_schedule.specs.declared.schedules.Schedule.{Schedule}
use Rattle.iss_schedule.specs.BadLines.{Begins, IsNext, IsFault, IsBadRest, IsBadLine}
use Rattle.iss_schedule.specs.Events.{spell_event}
use Rattle.iss_schedule.specs.Schedules.{header_lines, schedule_lines, IsFine, IsSchedule, most_events}
use Rattle.iss_schedule.specs.Words.{Lacks, ended}
use Rattle.iss_schedule.proofs.Encoding.SplitsAreUnique.{cut_same, no_cut}
use Rattle.iss_schedule.proofs.BadLines.LinesHaveTheirForm.{AreWhole, whole_take, whole_lines, Meets, Same, Left, Right, meets, formed, injection_of, same_front}
use Rattle.iss_schedule.proofs.BadLines.RefusedLines.{form_behind, length_spelled}

nth_at : (xs : List (List ℕ)) (y : List ℕ) (ys : List (List ℕ)) → nth (xs ++ y ∷ ys) (length xs) ≡ Some y
nth_at [] y ys = refl
nth_at (x ∷ xs) y ys = nth_at xs y ys

take_front : (xs ys : List (List ℕ)) → xs ≡ take (length xs) (xs ++ ys)
take_front [] ys = refl
take_front (x ∷ xs) ys = ap (λ (t : List (List ℕ)). x ∷ t) (take_front xs ys)

take_drop : (n : ℕ) (xs : List (List ℕ)) → xs ≡ take n xs ++ drop n xs
take_drop zero xs = refl
take_drop (suc n) [] = refl
take_drop (suc n) (x ∷ xs) = ap (λ (t : List (List ℕ)). x ∷ t) (take_drop n xs)

line_count : (s : Schedule) → length (schedule_lines s) ≡ 11 + length s.events
line_count s = let all = length-append (header_lines s.setup) (map spell_event s.events) in
    let count = length_spelled s.events in omega arith

pub nonempty : (line more : List ℕ) → line ++ 10 ∷ more ≢ []
nonempty line more e = omega (arith, ap length e, length-append line (10 ∷ more))

-- ---- a schedule in range continues the prefix with line m

begins_more : (s : Schedule) (front ms : List (List ℕ)) (m : List ℕ) → IsFine s → schedule_lines s ≡ front ++ m ∷ ms →
    Begins (front ++ m ∷ [])
begins_more s front ms m fine is =
    let all : schedule_lines s ≡ (front ++ m ∷ []) ++ ms = is ∙ sym (append_assoc front (m ∷ []) ms) in
    record {
      schedule = s;
      fine = fine;
      front = subst (λ (ls : List (List ℕ)). front ++ m ∷ [] ≡ take (length (front ++ m ∷ [])) ls) (sym all)
          (take_front (front ++ m ∷ []) ms);
    }

two_kinds : (k : Kind) → k ≡ Byzantine → k ≡ Stopping → ⊥
two_kinds k e f = let both : Byzantine ≡ Stopping = sym e ∙ f in cc

fault_none : (s : Schedule) (front ms : List (List ℕ)) (m : List ℕ) (why : LineFault) → IsFine s →
    schedule_lines s ≡ front ++ m ∷ ms → IsFault front m why → ⊥
fault_none s front ms m Form fine is f =
    f (formed s (length front) m fine
    (subst (λ (ls : List (List ℕ)). nth ls (length front) ≡ Some m) (sym is) (nth_at front m ms)))
fault_none s front ms m Faulty fine is f = f.2 (begins_more s front ms m fine is)
fault_none s front ms m Injected fine is f =
    let b = f.2.begins in
    let byzantine = injection_of s (length front) m fine f.0
    (subst (λ (ls : List (List ℕ)). nth ls (length front) ≡ Some m) (sym is) (nth_at front m ms)) f.1 in
    let own : front ≡ take (length front) (schedule_lines s) =
    subst (λ (ls : List (List ℕ)). front ≡ take (length front) ls) (sym is) (take_front front (m ∷ ms)) in
    let same = same_front s b.schedule front fine b.fine f.0 own b.front in
    two_kinds s.setup.kind byzantine (subst (λ (u : Setup). u.kind ≡ Stopping) (sym same) f.2.stops)
fault_none s front ms m Range fine is f = f.3 (begins_more s front ms m fine is)
fault_none s front ms m Cut fine is f = f
fault_none s front ms m Size fine is f = f

next_none : (s : Schedule) (front ms : List (List ℕ)) (m rest tail : List ℕ) (why : LineFault) → IsFine s →
    schedule_lines s ≡ front ++ m ∷ ms → Lacks 10 m → rest ≡ m ++ 10 ∷ tail → (line : List ℕ)
    × (IsNext line rest × IsFault front line why) → ⊥
next_none s front ms m rest tail why fine is whole text f =
    let same = cut_same 10 f.0 m f.1.0.more tail f.1.0.whole whole (sym f.1.0.text ∙ text) in
    fault_none s front ms m why fine is (subst (λ (l : List ℕ). IsFault front l why) same.0 f.1.1)

goes_on : (s : Schedule) (front ms : List (List ℕ)) (m rest tail : List ℕ) (why : LineFault) → IsFine s →
    schedule_lines s ≡ front ++ m ∷ ms → Lacks 10 m → rest ≡ m ++ 10 ∷ tail → IsBadRest front rest why → ⊥
goes_on s front ms m rest tail Size fine is whole text bad =
    let count = line_count s in let all = length-append front (m ∷ ms) in let same = ap length is in
    let few = fine.few in omega (arith, bad.0)
goes_on s front ms m rest tail Cut fine is whole text bad = no_cut 10 m tail (subst (Lacks 10) text bad.1)
goes_on s front ms m rest tail Form fine is whole text bad =
    next_none s front ms m rest tail Form fine is whole text bad.1
goes_on s front ms m rest tail Faulty fine is whole text bad =
    next_none s front ms m rest tail Faulty fine is whole text bad.1
goes_on s front ms m rest tail Injected fine is whole text bad =
    next_none s front ms m rest tail Injected fine is whole text bad.1
goes_on s front ms m rest tail Range fine is whole text bad =
    next_none s front ms m rest tail Range fine is whole text bad.1

-- or the line ends there, and so does the text
next_ends : (front : List (List ℕ)) (rest : List ℕ) (why : LineFault) → rest ≡ [] → (line : List ℕ)
    × (IsNext line rest × IsFault front line why) → ⊥
next_ends front rest why none f = nonempty f.0 f.1.0.more (sym f.1.0.text ∙ none)

ends : (s : Schedule) (front : List (List ℕ)) (rest : List ℕ) (why : LineFault) → schedule_lines s ≡ front → rest ≡ [] →
    IsBadRest front rest why → ⊥
ends s front rest Size is none bad = bad.1 none
ends s front rest Cut is none bad =
    let count = line_count s in let same = ap length is in
    elim bad.2 [ inl short ↦ omega arith | inr some ↦ some none ]
ends s front rest Form is none bad = next_ends front rest Form none bad.1
ends s front rest Faulty is none bad = next_ends front rest Faulty none bad.1
ends s front rest Injected is none bad = next_ends front rest Injected none bad.1
ends s front rest Range is none bad = next_ends front rest Range none bad.1

-- ---- the laws

pub nothing : (xs : List ℕ) → xs ++ [] ≡ xs
nothing [] = refl
nothing (x ∷ xs) = ap (λ (t : List ℕ). x ∷ t) (nothing xs)

whole_front : (front : List (List ℕ)) → Begins front → AreWhole front
whole_front front b = subst AreWhole (sym b.front)
    (whole_take (length front) (schedule_lines b.schedule) (whole_lines b.schedule b.fine))

whole_at : (xs : List (List ℕ)) (y : List ℕ) (ys : List (List ℕ)) → AreWhole (xs ++ y ∷ ys) → Lacks 10 y
whole_at [] y ys h = h.0
whole_at (x ∷ xs) y ys h = whole_at xs y ys h.1

-- the line with its line feed, and what follows
next_text : (m : List ℕ) (ms : List (List ℕ)) (t : List ℕ) → ended (m ∷ ms) ++ t ≡ m ++ 10 ∷ (ended ms ++ t)
next_text m ms t = append_assoc m (10 ∷ ended ms) t

refused_meets : (s : Schedule) (front : List (List ℕ)) (rest : List ℕ) (why : LineFault) → IsFine s →
    Meets front (schedule_lines s) rest [] → IsBadRest front rest why → ⊥
refused_meets s front rest why fine (Same is none) bad = ends s front rest why (sym is) none bad
refused_meets s front rest why fine (Left m ms is text) bad =
    goes_on s front ms m rest (ended ms ++ []) why fine is
    (whole_at front m ms (subst AreWhole is (whole_lines s fine))) (text ∙ next_text m ms []) bad
refused_meets s front rest why fine (Right m ms is text) bad =
    nonempty m (ended ms ++ rest) (sym (text ∙ next_text m ms rest))

pub refused_none : (b : List ℕ) (line : ℕ) (why : LineFault) (s : Schedule) → IsBadLine b line why → IsSchedule b s → ⊥
refused_none b line why s (inl long) h = omega (arith, long.0, h.short)
refused_none b line why s (inr first) h =
    let f = first.1 in
    refused_meets s f.front f.rest why h.fine
    (meets f.front (schedule_lines s) f.rest [] (whole_front f.front f.good) (whole_lines s h.fine) (sym f.text ∙ h.text
    ∙ sym (nothing (ended (schedule_lines s))))) f.bad

-- two faults of one line are equal
same_fault : (front : List (List ℕ)) (line : List ℕ) (v w : LineFault) → IsFault front line v →
    IsFault front line w → v ≡ w
same_fault front line Form Form f g = refl
same_fault front line Form Faulty f g = absurd (f g.0)
same_fault front line Form Injected f g =
    absurd (f (form_behind (length front) line g.0
    (record { name = name.Bytes; arguments = g.1.arguments; words = g.1.words; spelled = g.1.spelled })))
same_fault front line Form Range f g = absurd (f g.0)
same_fault front line Faulty Form f g = absurd (g f.0)
same_fault front line Faulty Faulty f g = refl
same_fault front line Faulty Injected f g = absurd (omega (arith, f.1, g.0))
same_fault front line Faulty Range f g = absurd (g.1 f.1)
same_fault front line Injected Form f g =
    absurd (g (form_behind (length front) line f.0
    (record { name = name.Bytes; arguments = f.1.arguments; words = f.1.words; spelled = f.1.spelled })))
same_fault front line Injected Faulty f g = absurd (omega (arith, g.1, f.0))
same_fault front line Injected Injected f g = refl
same_fault front line Injected Range f g = absurd (g.2 f)
same_fault front line Range Form f g = absurd (g f.0)
same_fault front line Range Faulty f g = absurd (f.1 g.1)
same_fault front line Range Injected f g = absurd (f.2 g)
same_fault front line Range Range f g = refl
same_fault front line Cut w f g = absurd f
same_fault front line Size w f g = absurd f
same_fault front line Form Cut f g = absurd g
same_fault front line Form Size f g = absurd g
same_fault front line Faulty Cut f g = absurd g
same_fault front line Faulty Size f g = absurd g
same_fault front line Injected Cut f g = absurd g
same_fault front line Injected Size f g = absurd g
same_fault front line Range Cut f g = absurd g
same_fault front line Range Size f g = absurd g

-- what is wrong with the rest: there is an event too many, no line feed follows, or the next line has a fault
data Kinds (front : List (List ℕ)) (rest : List ℕ) (why : LineFault) : Type 0 where
  Full : why ≡ Size → length front ≡ 11 + most_events → Kinds front rest why
  Unended : why ≡ Cut → length front < 11 + most_events → Lacks 10 rest → Kinds front rest why
  Fault : length front < 11 + most_events → (line : List ℕ) → IsNext line rest → IsFault front line why →
      Kinds front rest why

kinds : (front : List (List ℕ)) (rest : List ℕ) (why : LineFault) → IsBadRest front rest why → Kinds front rest why
kinds front rest Size bad = Full refl bad.0
kinds front rest Cut bad = Unended refl bad.0 bad.1
kinds front rest Form bad = Fault bad.0 bad.1.0 bad.1.1.0 bad.1.1.1
kinds front rest Faulty bad = Fault bad.0 bad.1.0 bad.1.1.0 bad.1.1.1
kinds front rest Injected bad = Fault bad.0 bad.1.0 bad.1.1.0 bad.1.1.1
kinds front rest Range bad = Fault bad.0 bad.1.0 bad.1.1.0 bad.1.1.1

same_kinds : (front : List (List ℕ)) (rest : List ℕ) (v w : LineFault) → Kinds front rest v → Kinds front rest w → v ≡ w
same_kinds front rest v w (Full e n) (Full f m) = e ∙ sym f
same_kinds front rest v w (Full e n) (Unended f m lacks) = absurd (omega arith)
same_kinds front rest v w (Full e n) (Fault m line next fault) = absurd (omega arith)
same_kinds front rest v w (Unended e n lacks) (Full f m) = absurd (omega arith)
same_kinds front rest v w (Unended e n lacks) (Unended f m lacks') = e ∙ sym f
same_kinds front rest v w (Unended e n lacks) (Fault m line next fault) =
    absurd (no_cut 10 line next.more (subst (Lacks 10) next.text lacks))
same_kinds front rest v w (Fault n line next fault) (Full f m) = absurd (omega arith)
same_kinds front rest v w (Fault n line next fault) (Unended f m lacks) =
    absurd (no_cut 10 line next.more (subst (Lacks 10) next.text lacks))
same_kinds front rest v w (Fault n line next fault) (Fault m line' next' fault') =
    let same = cut_same 10 line line' next.more next'.more next.whole next'.whole (sym next.text ∙ next'.text) in
    same_fault front line' v w (subst (λ (l : List ℕ). IsFault front l v) same.0 fault) fault'

same_rest : (xs ys : List (List ℕ)) (r t : List ℕ) (v w : LineFault) → xs ≡ ys → r ≡ t → IsBadRest xs r v →
    IsBadRest ys t w → v ≡ w
same_rest xs ys r t v w e f a b =
    same_kinds ys t v w (kinds ys t v
    (subst (λ (x : List ℕ). IsBadRest ys x v) f (subst (λ (ls : List (List ℕ)). IsBadRest ls r v) e a)))
    (kinds ys t w b)

-- the prefix before one bad line is not longer than the prefix before another
longer : (xs ys ms : List (List ℕ)) (m r t : List ℕ) (v : LineFault) → Begins ys → ys ≡ xs ++ m ∷ ms →
    r ≡ ended (m ∷ ms) ++ t → IsBadRest xs r v → ⊥
longer xs ys ms m r t v b is text bad =
    let s = b.schedule in
    let back = drop (length ys) (schedule_lines s) in
    let lines : schedule_lines s ≡ ys ++ back = take_drop (length ys) (schedule_lines s)
    ∙ ap (λ (l : List (List ℕ)). l ++ back) (sym b.front) in
    let all : schedule_lines s ≡ xs ++ m ∷ (ms ++ back) = lines ∙ ap (λ (l : List (List ℕ)). l ++ back) is
    ∙ append_assoc xs (m ∷ ms) back in
    goes_on s xs (ms ++ back) m r (ended ms ++ t) v b.fine all (whole_at xs m ms (subst AreWhole is (whole_front ys b)))
    (text ∙ next_text m ms t) bad

one_meets : (xs ys : List (List ℕ)) (r t : List ℕ) (k l : ℕ) (v w : LineFault) → Begins xs → Begins ys →
    k ≡ suc (length xs) → l ≡ suc (length ys) → IsBadRest xs r v → IsBadRest ys t w → Meets xs ys r t →
    (k ≡ l) × (v ≡ w)
one_meets xs ys r t k l v w bx by ek el a b (Same e f) =
    (ek ∙ ap (λ (x : List (List ℕ)). suc (length x)) e ∙ sym el, same_rest xs ys r t v w e f a b)
one_meets xs ys r t k l v w bx by ek el a b (Left m ms e f) = absurd (longer xs ys ms m r t v by e f a)
one_meets xs ys r t k l v w bx by ek el a b (Right m ms e f) = absurd (longer ys xs ms m t r w bx e f b)

pub one_bad_line : (b : List ℕ) (k l : ℕ) (v w : LineFault) → IsBadLine b k v → IsBadLine b l w → (k ≡ l) × (v ≡ w)
one_bad_line b k l v w (inl x) (inl y) = (x.1 ∙ sym y.1, x.2 ∙ sym y.2)
one_bad_line b k l v w (inl x) (inr y) = absurd (omega (arith, x.0, y.0))
one_bad_line b k l v w (inr x) (inl y) = absurd (omega (arith, x.0, y.0))
one_bad_line b k l v w (inr x) (inr y) =
    let p = x.1 in let q = y.1 in
    one_meets p.front q.front p.rest q.rest k l v w p.good q.good p.number q.number p.bad q.bad
    (meets p.front q.front p.rest q.rest (whole_front p.front p.good) (whole_front q.front q.good)
    (sym p.text ∙ q.text))
