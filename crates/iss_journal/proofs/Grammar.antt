-- Each file has at most one reading.
use Rattle.std.proofs.Common.{◌≡◌, ◌≢◌, inl, inr, ℕ, ◌≤◌, List, [], ◌∷◌, ◌++◌, length, take, drop, get_or, refl, sym, ◌∙◌, ap, subst, arith, append_assoc, length-append}
use Rattle.std.proofs.lemmas.List.{take_at, drop_at}
use Rattle.std.specs.Int.{w32, to_be_bytes, from_be_bytes}
use Rattle.iss_journal.specs.Frames.{AreShort, damaged, frame, frames, holds, IsWhole, max_entry, Reading, Reads, version_1}
use Rattle.iss_journal.proofs.FrameLemmas.{size_back}

-- these bytes do not begin with a whole frame followed by a byte
pub Ends : List ℕ → Type 0
Ends bytes = (entry rest : List ℕ) → length entry ≤ max_entry → 1 ≤ length rest → bytes ≡ frame entry ++ rest → ⊥

first_byte : (bytes : List ℕ) → ℕ
first_byte bytes = get_or bytes 0 0

pub closed_ends : (gate : ℕ) (rest : List ℕ) → gate ≢ 1 → Ends (gate ∷ rest)
unfolding Ends
closed_ends gate rest closed entry more short some is = closed (ap (λ (l : List ℕ). get_or l 0 0) is)

-- after the gate of a frame that is followed by a byte there is a whole entry
pub whole_frame : (entry rest : List ℕ) → length entry ≤ max_entry → 1 ≤ length rest →
    IsWhole (drop 1 (frame entry ++ rest))
whole_frame entry rest short some =
    let size : List ℕ = to_be_bytes w32 (length entry) in
    let is : drop 1 (frame entry ++ rest) ≡ size ++ (entry ++ rest) = append_assoc size entry rest in
    let value : from_be_bytes w32 (take 4 (size ++ (entry ++ rest))) ≡ length entry = size_back entry short in
    subst IsWhole (sym is) (
      omega arith,
      omega (arith, value, short),
      omega (arith, value, length-append entry rest, some),
    )

pub broken_ends : (rest : List ℕ) → (IsWhole rest → ⊥) → Ends (1 ∷ rest)
unfolding Ends
broken_ends rest broken entry more short some is =
    broken (subst IsWhole (sym (ap (drop 1) is)) (whole_frame entry more short some))

-- two frames at the start of the same bytes are equal
same_frame : (e f x y : List ℕ) → length e ≤ max_entry → length f ≤ max_entry → frame e ++ x ≡ frame f ++ y →
    (e ≡ f) × (x ≡ y)
same_frame e f x y short_e short_f is =
    let sized : to_be_bytes w32 (length e) ≡ to_be_bytes w32 (length f) = ap (λ (l : List ℕ). take 4 (drop 1 l)) is in
    let size : length e ≡ length f = sym (size_back e short_e) ∙ ap (from_be_bytes w32) sized ∙ size_back f short_f in
    let bodies : e ++ x ≡ f ++ y = ap (drop 5) is in (
      sym (take_at e x (length e) refl) ∙ ap (take (length e)) bodies ∙ take_at f y (length e) (sym size),
      sym (drop_at e x (length e) refl) ∙ ap (drop (length e)) bodies ∙ drop_at f y (length e) (sym size),
    )

pub record SameParts (es fs : List (List ℕ)) (x y : List ℕ) : Type 0 where
  pub entries : es ≡ fs
  pub ends : x ≡ y

pub same_parts : (es fs : List (List ℕ)) (x y : List ℕ) → AreShort es → AreShort fs → 1 ≤ length x → 1 ≤ length y →
    Ends x → Ends y → frames es ++ x ≡ frames fs ++ y → SameParts es fs x y
unfolding Ends
same_parts [] [] x y short_e short_f some_x some_y ends_x ends_y is = record { entries = refl; ends = is }
same_parts [] (f ∷ fs) x y short_e short_f some_x some_y ends_x ends_y is =
    absurd (ends_x f (frames fs ++ y) short_f.0 (omega (arith, length-append (frames fs) y, some_y)) (is
    ∙ append_assoc (frame f) (frames fs) y))
same_parts (e ∷ es) [] x y short_e short_f some_x some_y ends_x ends_y is =
    absurd (ends_y e (frames es ++ x) short_e.0 (omega (arith, length-append (frames es) x, some_x)) (sym is
    ∙ append_assoc (frame e) (frames es) x))
same_parts (e ∷ es) (f ∷ fs) x y short_e short_f some_x some_y ends_x ends_y is =
    let both : frame e ++ (frames es ++ x) ≡ frame f ++ (frames fs ++ y) = sym (append_assoc (frame e) (frames es) x)
    ∙ is ∙ append_assoc (frame f) (frames fs) y in
    let first = same_frame e f (frames es ++ x) (frames fs ++ y) short_e.0 short_f.0 both in
    let others = same_parts es fs x y short_e.1 short_f.1 some_x some_y ends_x ends_y first.1 in
    record {
      entries = ap (λ (a : List ℕ). a ∷ es) first.0 ∙ ap (λ (bs : List (List ℕ)). f ∷ bs) others.entries;
      ends = others.ends;
    }

some : (g : ℕ) (rest : List ℕ) → 1 ≤ length (g ∷ rest)
some g rest = omega arith

pub one_reading : (file : List ℕ) (r s : Reading) → Reads version_1 file r → Reads version_1 file s → r ≡ s
one_reading file (holds es) (holds fs) (inl a) (inl b) = ap holds (a.1 ∙ sym b.1)
one_reading file (holds es) (holds fs) (inl a) (inr b) = absurd (omega (arith, a.0, b.0))
one_reading file (holds es) (holds fs) (inr a) (inl b) = absurd (omega (arith, a.0, b.0))
one_reading file (holds es) (holds fs) (inr a) (inr b) =
    let p = a.1 in
    let q = b.1 in
    ap holds (same_parts es fs (p.gate ∷ p.rest) (q.gate ∷ q.rest) p.short q.short (some p.gate p.rest)
    (some q.gate q.rest) (closed_ends p.gate p.rest p.closed) (closed_ends q.gate q.rest q.closed) (sym p.is
    ∙ q.is)).entries
one_reading file (holds es) (damaged at) (inl a) b = absurd (omega (arith, a.0, b.0))
one_reading file (holds es) (damaged at) (inr a) b =
    let p = a.1 in
    let q = b.1 in
    let parts = same_parts es q.entries (p.gate ∷ p.rest) (1 ∷ q.rest) p.short q.short (some p.gate p.rest)
    (some 1 q.rest) (closed_ends p.gate p.rest p.closed) (broken_ends q.rest q.broken) (sym p.is ∙ q.is) in
    absurd (p.closed (ap (λ (l : List ℕ). get_or l 0 0) parts.ends))
one_reading file (damaged at) (holds es) a (inl b) = absurd (omega (arith, a.0, b.0))
one_reading file (damaged at) (holds es) a (inr b) =
    let p = b.1 in
    let q = a.1 in
    let parts = same_parts es q.entries (p.gate ∷ p.rest) (1 ∷ q.rest) p.short q.short (some p.gate p.rest)
    (some 1 q.rest) (closed_ends p.gate p.rest p.closed) (broken_ends q.rest q.broken) (sym p.is ∙ q.is) in
    absurd (p.closed (ap (λ (l : List ℕ). get_or l 0 0) parts.ends))
one_reading file (damaged at) (damaged to) a b =
    let p = a.1 in
    let q = b.1 in
    let parts = same_parts p.entries q.entries (1 ∷ p.rest) (1 ∷ q.rest) p.short q.short (some 1 p.rest) (some 1 q.rest)
    (broken_ends p.rest p.broken) (broken_ends q.rest q.broken) (sym p.is ∙ q.is) in
    ap damaged (p.offset ∙ ap (λ (es : List (List ℕ)). length (frames es)) parts.entries ∙ sym q.offset)
