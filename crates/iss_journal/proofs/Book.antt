-- Entries laid out in the bytes of a file.
use Rattle.std.proofs.Common.{◌≡◌, ◌≢◌, inl, inr, lit<, length-drop, length-take-le, ℕ, zero, suc, ◌+◌, ◌-◌, ◌*◌, ◌<◌, ◌≤◌, List, [], ◌∷◌, ◌++◌, length, take, drop, get_or, refl, sym, ◌∙◌, ap, subst, arith, append_assoc, length-append, length-take, take-append-drop}
use Rattle.std.proofs.lemmas.List.{append-nil, take_all, take_at, drop_at, drop-drop, get_or_append_left, get_or-append_right, get_or-take, get_or-drop, get_or_past, drop_more, take-append-le}
use Rattle.std.proofs.lemmas.Bool.{cases_lt}
use Rattle.std.proofs.lemmas.Nat.{be_bytes_4}
use Rattle.std.specs.Int.{w32, to_be_bytes, from_be_bytes}
use Rattle.iss_journal.specs.Frames.{frame, frames, max_entry, AreShort, IsWhole, ClosesAfter}
use Rattle.iss_journal.specs.Views.{AreMarks, IsBook, end_at, entries_at, entry_at, size_at}
use Rattle.iss_journal.proofs.FrameLemmas.{entries_back, frames-push, length-entries, short-push, size_of}

-- the entries read from the bytes are those that were written
pub record Rebuilt (bytes : List ℕ) (count last : ℕ) (entries : List (List ℕ)) : Type 0 where
  pub found : entries_at bytes count ≡ entries
  pub book : IsBook bytes count last

pub rebuilt : (bytes : List ℕ) (count last : ℕ) (entries : List (List ℕ)) (tail : List ℕ) →
    bytes ≡ frames entries ++ tail → count ≡ length entries → last ≡ length (frames entries) → AreShort entries →
    Rebuilt bytes count last entries
rebuilt bytes count last entries tail is many end short =
    let found : entries_at bytes count ≡ entries = ap (λ (l : List ℕ). entries_at l count) is
    ∙ entries_back entries tail count many short in
    record {
      found = found;
      book = record {
        front = ap (take last) is ∙ take_at (frames entries) tail last (sym end) ∙ ap frames (sym found);
        end = end ∙ ap (λ (es : List (List ℕ)). length (frames es)) (sym found);
        short = subst AreShort (sym found) short;
      };
    }

-- the bytes of a book begin with the frames of its entries
pub begins : (bytes : List ℕ) (count last : ℕ) → IsBook bytes count last →
    bytes ≡ frames (entries_at bytes count) ++ drop last bytes
begins bytes count last book = sym (take-append-drop last bytes) ∙ ap (λ (l : List ℕ). l ++ drop last bytes) book.front

-- a book with other bytes after its last gate
pub with_tail : (bytes : List ℕ) (count last : ℕ) (other tail : List ℕ) → IsBook bytes count last →
    other ≡ frames (entries_at bytes count) ++ tail → Rebuilt other count last (entries_at bytes count)
with_tail bytes count last other tail book is =
    rebuilt other count last (entries_at bytes count) tail is (sym (length-entries 0 bytes count)) book.end book.short

-- a book with one more entry
pub with_entry : (bytes : List ℕ) (count more last next : ℕ) (entry tail : List ℕ) → IsBook bytes count last →
    bytes ≡ frames (entries_at bytes count) ++ (frame entry ++ tail) → length entry ≤ max_entry → more ≡ count + 1 →
    next ≡ last + (5 + length entry)
    → Rebuilt bytes more next (entries_at bytes count ++ entry ∷ [])
with_entry bytes count more last next entry tail book is short is_more is_next =
    let entries = entries_at bytes count in
    rebuilt bytes more next (entries ++ entry ∷ []) tail
    (is ∙ sym (append_assoc (frames entries) (frame entry) tail)
    ∙ ap (λ (l : List ℕ). l ++ tail) (sym (frames-push entries entry)))
    (omega (arith, is_more, length-append entries (entry ∷ []), length-entries 0 bytes count))
    (omega (
      arith,
      is_next,
      book.end,
      ap length (frames-push entries entry),
      length-append (frames entries) (frame entry),
    ))
    (short-push entries entry book.short short)

-- the frames of a list split at an entry
pub frames_split : (entries : List (List ℕ)) (k : ℕ) → k < length entries →
    frames entries ≡ frames (take k entries) ++ (frame (get_or entries k []) ++ frames (drop (suc k) entries))
frames_split [] k lt = absurd (omega arith)
frames_split (e ∷ entries) zero lt = refl
frames_split (e ∷ entries) (suc k) lt = ap (λ (l : List ℕ). frame e ++ l) (frames_split entries k (omega arith))
    ∙ sym (append_assoc (frame e) (frames (take k entries))
    (frame (get_or entries k []) ++ frames (drop (suc k) entries)))

pub length_more : (entries : List (List ℕ)) (k : ℕ) → k < length entries →
    length (frames (take (suc k) entries)) ≡ length (frames (take k entries)) + (5 + length (get_or entries k []))
length_more [] k lt = absurd (omega arith)
length_more (e ∷ entries) zero lt = omega (arith, length-append (frame e) [])
length_more (e ∷ entries) (suc k) lt =
    omega (
      arith,
      length-append (frame e) (frames (take (suc k) entries)),
      length-append (frame e) (frames (take k entries)),
      length_more entries k (omega arith),
    )

-- there are no more entries than bytes
pub as_many : (entries : List (List ℕ)) → length entries ≤ length (frames entries)
as_many [] = omega arith
as_many (e ∷ entries) = omega (arith, as_many entries, length-append (frame e) (frames entries))

-- an entry, with the bytes before its frame and after it
pub split_at : (bytes : List ℕ) (count last k : ℕ) → IsBook bytes count last → k < length (entries_at bytes count) →
    bytes ≡ frames (take k (entries_at bytes count))
    ++ (frame (get_or (entries_at bytes count) k [])
    ++ (frames (drop (suc k) (entries_at bytes count)) ++ drop last bytes))
split_at bytes count last k book lt =
    let entries = entries_at bytes count in
    let entry = get_or entries k [] in
    let before = frames (take k entries) in
    begins bytes count last book ∙ ap (λ (l : List ℕ). l ++ drop last bytes) (frames_split entries k lt)
    ∙ append_assoc before (frame entry ++ frames (drop (suc k) entries)) (drop last bytes)
    ∙ ap (λ (l : List ℕ). before ++ l) (append_assoc (frame entry) (frames (drop (suc k) entries)) (drop last bytes))

pub short_at : (entries : List (List ℕ)) (k : ℕ) → k < length entries → AreShort entries →
    length (get_or entries k []) ≤ max_entry
short_at [] k lt short = absurd (omega (arith, lt))
short_at (e ∷ entries) zero lt short = short.0
short_at (e ∷ entries) (suc k) lt short = short_at entries k (omega (arith, lt)) short.1

-- its end follows from its length
pub ends_at : (bytes : List ℕ) (count last k gate : ℕ) → IsBook bytes count last → k < length (entries_at bytes count) →
    gate ≡ length (frames (take k (entries_at bytes count)))
    → end_at bytes gate ≡ length (frames (take (k + 1) (entries_at bytes count)))
ends_at bytes count last k gate book lt is_gate =
    let entries = entries_at bytes count in
    let entry = get_or entries k [] in
    let rest = frames (drop (suc k) entries) ++ drop last bytes in
    let sized : size_at bytes gate ≡ length entry =
    ap (λ (l : List ℕ). size_at l gate) (split_at bytes count last k book lt)
    ∙ size_of (frames (take k entries)) entry rest gate is_gate (short_at entries k lt book.short) in
    omega (
      arith,
      is_gate,
      sized,
      ap (λ (n : ℕ). length (frames (take n entries))) (plus_one k),
      length_more entries k lt,
    )
  where
    plus_one : (n : ℕ) → n + 1 ≡ suc n
    plus_one n = omega arith

-- its bytes
pub entry_is : (bytes : List ℕ) (count last k gate end : ℕ) → IsBook bytes count last →
    k < length (entries_at bytes count) → gate ≡ length (frames (take k (entries_at bytes count))) →
    end ≡ length (frames (take (k + 1) (entries_at bytes count)))
    → take (end - (gate + 5)) (drop (gate + 5) bytes) ≡ get_or (entries_at bytes count) k []
entry_is bytes count last k gate end book lt is_gate is_end =
    let entries = entries_at bytes count in
    let entry = get_or entries k [] in
    let before = frames (take k entries) in
    let rest = frames (drop (suc k) entries) ++ drop last bytes in
    let split : bytes ≡ before ++ (frame entry ++ rest) = split_at bytes count last k book lt in
    let there : drop (gate + 5) bytes ≡ entry ++ rest =
    ap (drop (gate + 5)) split ∙ sym (drop-drop 5 gate (before ++ (frame entry ++ rest)))
    ∙ ap (drop 5) (drop_at before (frame entry ++ rest) gate (sym is_gate)) in
    let size : end - (gate + 5) ≡ length entry =
    omega (
      arith,
      is_gate,
      is_end,
      ap (λ (n : ℕ). length (frames (take n entries))) (plus_one k),
      length_more entries k lt,
    ) in
    ap (λ (n : ℕ). take n (drop (gate + 5) bytes)) size ∙ ap (take (length entry)) there
    ∙ take_at entry rest (length entry) refl
  where
    plus_one : (n : ℕ) → n + 1 ≡ suc n
    plus_one n = omega arith

-- it lies within the bytes
pub entry_within : (bytes : List ℕ) (count last k gate end : ℕ) → IsBook bytes count last → last ≤ length bytes →
    k < length (entries_at bytes count) → gate ≡ length (frames (take k (entries_at bytes count))) →
    end ≡ length (frames (take (k + 1) (entries_at bytes count)))
    → (gate + 5 ≤ end) × (end ≤ length bytes)
entry_within bytes count last k gate end book in_bytes lt is_gate is_end =
    let entries = entries_at bytes count in
    let more = length_more entries k lt in
    let here = ap (λ (n : ℕ). length (frames (take n entries))) (plus_one k) in
    let all = ap length (frames_split entries k lt) in
    let parts = length-append (frames (take k entries))
    (frame (get_or entries k []) ++ frames (drop (suc k) entries)) in
    let part = length-append (frame (get_or entries k [])) (frames (drop (suc k) entries)) in (
      omega (arith, is_gate, is_end, here, more),
      omega (arith, is_gate, is_end, here, more, all, parts, part, book.end, in_bytes),
    )
  where
    plus_one : (n : ℕ) → n + 1 ≡ suc n
    plus_one n = omega arith

pub last_within : (bytes : List ℕ) (count last : ℕ) → IsBook bytes count last → last ≤ length bytes
last_within bytes count last book =
    let l : length (take last bytes) ≡ last = ap length book.front ∙ sym book.end in
    omega (arith, l, length-take last bytes)

-- its end lies within the bytes
pub ends_within : (bytes : List ℕ) (count last k gate : ℕ) → IsBook bytes count last →
    k < length (entries_at bytes count) → gate ≡ length (frames (take k (entries_at bytes count)))
    → end_at bytes gate ≤ length bytes
ends_within bytes count last k gate book lt is_gate =
    (entry_within bytes count last k gate (end_at bytes gate) book (last_within bytes count last book) lt is_gate
    (ends_at bytes count last k gate book lt is_gate)).1

-- an open gate after the last entry, followed by a whole entry
pub one_more : (bytes : List ℕ) (count more at next first : ℕ) → IsBook bytes count at → at < length bytes →
    first ≡ get_or bytes at first → first ≡ 1 → to_be_bytes w32 (from_be_bytes w32 (take 4 (drop (at + 1) bytes)))
    ≡ take 4 (drop (at + 1) bytes) → IsWhole (drop (at + 1) bytes) →
    next ≡ at + 5 + from_be_bytes w32 (take 4 (drop (at + 1) bytes)) → more ≡ count + 1 →
    Rebuilt bytes more next (entries_at bytes count ++ entry_at bytes at ∷ [])
one_more bytes count more at next first book within is_first is_open sized whole is_next is_more =
    let rest = drop (at + 1) bytes in
    let size = from_be_bytes w32 (take 4 rest) in
    let body = drop (at + 5) bytes in
    let entry = take size body in
    let behind : drop 4 rest ≡ body = drop-drop 4 (at + 1) bytes ∙ ap (λ (n : ℕ). drop n bytes) (five at) in
    let room : size ≤ length body = omega (arith, whole.2, length-drop (at + 1) bytes, length-drop (at + 5) bytes) in
    let long : length entry ≡ size = length-take-le size body room in
    let spelled : rest ≡ to_be_bytes w32 (length entry) ++ (entry ++ drop size body) =
    sym (take-append-drop 4 rest) ∙ ap (λ (l : List ℕ). l ++ drop 4 rest) (sym sized ∙ ap (to_be_bytes w32) (sym long))
    ∙ ap (λ (l : List ℕ). to_be_bytes w32 (length entry) ++ l) (behind ∙ sym (take-append-drop size body)) in
    let opened : drop at bytes ≡ frame entry ++ drop size body =
    drop_more bytes at first within ∙ ap (λ (n : ℕ). n ∷ rest) (sym is_first ∙ is_open)
    ∙ ap (λ (l : List ℕ). 1 ∷ l) spelled
    ∙ sym (ap (λ (l : List ℕ). 1 ∷ l) (append_assoc (to_be_bytes w32 (length entry)) entry (drop size body))) in
    let short : length entry ≤ max_entry = omega (arith, long, whole.1) in
    let next_is : next ≡ at + (5 + length entry) = omega (arith, is_next, long) in
    with_entry bytes count more at next entry (drop size body) book (begins bytes count at book
    ∙ ap (λ (l : List ℕ). frames (entries_at bytes count) ++ l) opened) short is_more next_is
  where
    five : (n : ℕ) → n + 1 + 4 ≡ n + 5
    five n = omega arith

-- a closed gate after the last entry
pub closes : (bytes : List ℕ) (count at first : ℕ) (entries : List (List ℕ)) → IsBook bytes count at →
    at < length bytes → first ≡ get_or bytes at first → first ≢ 1 → entries ≡ entries_at bytes count →
    ClosesAfter entries bytes
closes bytes count at first entries book within is_first closed same = record {
  gate = first;
  rest = drop (at + 1) bytes;
  is = begins bytes count at book ∙ ap (λ (es : List (List ℕ)). frames es ++ drop at bytes) (sym same)
      ∙ ap (λ (l : List ℕ). frames entries ++ l) (drop_more bytes at first within
      ∙ ap (λ (n : ℕ). n ∷ drop (at + 1) bytes) (sym is_first));
  closed = closed;
  short = subst AreShort (sym same) book.short;
}

-- the encoding of the number that four bytes encode is these bytes
pub spelled : (bytes : List ℕ) (from : ℕ) → ((i : ℕ) → get_or bytes i 0 < 256) → 4 ≤ length (drop from bytes) →
    to_be_bytes w32 (from_be_bytes w32 (take 4 (drop from bytes))) ≡ take 4 (drop from bytes)
spelled bytes from fit long =
    let rest = drop from bytes in
    let four : length (take 4 rest) ≡ 4 = length-take-le 4 rest long in
    let fits : (i : ℕ) → get_or (take 4 rest) i 0 < 256 = λ i. elim (cases_lt i 4) [
      | inl below ↦ subst (λ (n : ℕ). n < 256) (sym (get_or-take 4 rest i 0 below ∙ get_or-drop from bytes i 0))
          (fit (from + i))
      | inr past ↦ let at_end : length (take 4 rest) ≤ i = omega (arith, four, past) in
          subst (λ (n : ℕ). n < 256) (sym (get_or_past (take 4 rest) i 0 at_end)) (lit< tt)
    ] in
    be_bytes_4 (take 4 rest) (from_be_bytes w32 (take 4 rest)) four fits refl

-- the marks after one more entry that is not an eighth one
pub unmarked : (marks : List ℕ) (entries : List (List ℕ)) (entry : List ℕ) → AreMarks marks entries →
    length entries < 8 * length marks → AreMarks marks (entries ++ entry ∷ [])
unmarked marks entries entry are below =
    let more = length-append entries (entry ∷ []) in
    record {
      lies = λ i within.
          let front : take (8 * i) (entries ++ entry ∷ []) ≡ take (8 * i) entries =
          take-append-le (8 * i) entries (entry ∷ []) (omega (arith, within, are.no_more)) in
          are.lies i within ∙ ap (λ (es : List (List ℕ)). length (frames es)) (sym front);
      enough = omega (arith, more, below);
      no_more = omega (arith, more, are.no_more);
    }

-- the marks after one more entry that is an eighth one
pub marked : (marks : List ℕ) (entries : List (List ℕ)) (entry : List ℕ) (gate : ℕ) → AreMarks marks entries →
    8 * length marks ≤ length entries → gate ≡ length (frames entries) →
    AreMarks (marks ++ gate ∷ []) (entries ++ entry ∷ [])
marked marks entries entry gate are reached is_gate =
    let more = length-append entries (entry ∷ []) in
    let marks_more = length-append marks (gate ∷ []) in
    record {
      lies = λ i within. elim (cases_lt i (length marks)) [
        | inl below ↦
            let front : take (8 * i) (entries ++ entry ∷ []) ≡ take (8 * i) entries =
            take-append-le (8 * i) entries (entry ∷ []) (omega (arith, below, reached)) in
            get_or_append_left marks (gate ∷ []) 0 i below ∙ are.lies i below
            ∙ ap (λ (es : List (List ℕ)). length (frames es)) (sym front)
        | inr past ↦
            let here : i ≡ length marks = omega (arith, past, within, marks_more) in
            let all : length entries ≡ 8 * i = omega (arith, here, reached, are.enough) in
            get_or-append_right marks (gate ∷ []) (length marks) i 0 refl past
            ∙ ap (λ (n : ℕ). get_or (gate ∷ []) n 0) (nothing i (length marks) here)
            ∙ is_gate ∙ ap (λ (es : List (List ℕ)). length (frames es)) (sym (take_at entries (entry ∷ []) (8 * i) all))
      ];
      enough = omega (arith, more, marks_more, are.enough);
      no_more = omega (arith, more, marks_more, reached);
    }
  where
    nothing : (i n : ℕ) → i ≡ n → i - n ≡ 0
    nothing i n is = omega (arith, is)

-- ---- the first entries

pub frames_parts : (es : List (List ℕ)) (k : ℕ) → frames es ≡ frames (take k es) ++ frames (drop k es)
frames_parts [] zero = refl
frames_parts [] (suc k) = refl
frames_parts (e ∷ es) zero = refl
frames_parts (e ∷ es) (suc k) = ap (λ (l : List ℕ). frame e ++ l) (frames_parts es k)
    ∙ sym (append_assoc (frame e) (frames (take k es)) (frames (drop k es)))

short_first : (es : List (List ℕ)) (k : ℕ) → AreShort es → AreShort (take k es)
short_first [] zero short = tt
short_first [] (suc k) short = tt
short_first (e ∷ es) zero short = tt
short_first (e ∷ es) (suc k) short = (short.0, short_first es k short.1)

pub fewer_bytes : (es : List (List ℕ)) (k : ℕ) → length (frames (take k es)) ≤ length (frames es)
fewer_bytes es k =
    omega (arith, ap length (frames_parts es k), length-append (frames (take k es)) (frames (drop k es)))

-- a book that ends behind its first k entries
pub book_first : (bytes : List ℕ) (count last k gate : ℕ) → IsBook bytes count last →
    k ≤ length (entries_at bytes count) → gate ≡ length (frames (take k (entries_at bytes count))) →
    Rebuilt (take gate bytes) k gate (take k (entries_at bytes count))
book_first bytes count last k gate book le is_gate =
    let es = entries_at bytes count in
    let tail = frames (drop k es) ++ drop last bytes in
    let split : bytes ≡ frames (take k es) ++ tail = begins bytes count last book
    ∙ ap (λ (l : List ℕ). l ++ drop last bytes) (frames_parts es k)
    ∙ append_assoc (frames (take k es)) (frames (drop k es)) (drop last bytes) in
    let front : take gate bytes ≡ frames (take k es) = ap (take gate) split
    ∙ take_at (frames (take k es)) tail gate (sym is_gate) in
    rebuilt (take gate bytes) k gate (take k es) [] (front ∙ sym (append-nil (frames (take k es))))
    (sym (length-take-le k es le)) is_gate (short_first es k book.short)

take_within : (es : List (List ℕ)) (k n : ℕ) → n ≤ k → take n (take k es) ≡ take n es
take_within [] k zero le = refl
take_within [] zero (suc n) le = refl
take_within [] (suc k) (suc n) le = refl
take_within (e ∷ es) k zero le = refl
take_within (e ∷ es) zero (suc n) le = absurd (omega (arith, le))
take_within (e ∷ es) (suc k) (suc n) le =
    ap (λ (l : List (List ℕ)). e ∷ l) (take_within es k n (omega (arith, le)))

pub marks_first : (marks : List ℕ) (es : List (List ℕ)) (k n : ℕ) → AreMarks marks es → k ≤ length es → k ≤ 8 * n →
    8 * n ≤ k + 7 → AreMarks (take n marks) (take k es)
marks_first marks es k n are le enough no_more =
    let long : n ≤ length marks = omega (arith, are.enough, le, no_more) in
    let many : length (take n marks) ≡ n = length-take-le n marks long in
    let few : length (take k es) ≡ k = length-take-le k es le in
    record {
      lies = λ i lt. lies i (omega (arith, lt, many)) long;
      enough = omega (arith, many, few, enough);
      no_more = omega (arith, many, few, no_more);
    }
  where
    lies : (i : ℕ) → i < n → n ≤ length marks →
        get_or (take n marks) i 0 ≡ length (frames (take (8 * i) (take k es)))
    lies i lt long =
        get_or-take n marks i 0 lt ∙ are.lies i (omega (arith, lt, long))
        ∙ ap (λ (l : List (List ℕ)). length (frames l)) (sym (take_within es k (8 * i) (omega (arith, lt, no_more))))

-- where the entry behind the first k ones begins
pub last_is : (bytes : List ℕ) (count last k : ℕ) → IsBook bytes count last → k ≡ count →
    last ≡ length (frames (take k (entries_at bytes count)))
last_is bytes count last k book is =
    book.end ∙ ap (λ (l : List (List ℕ)). length (frames l))
    (sym (take_all k (entries_at bytes count) (omega (arith, is, length-entries 0 bytes count))))
