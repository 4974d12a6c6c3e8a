-- Frames of entries: their lengths, and that decoding a frame gives the entry.
use Rattle.std.proofs.Common.{◌≡◌, ℕ, zero, suc, ◌+◌, ◌≤◌, List, [], ◌∷◌, ◌++◌, length, take, drop, refl, sym, ◌∙◌, ap, arith, append_assoc, length-append}
use Rattle.std.proofs.lemmas.List.{take_at, drop_at, drop-drop, append-nil}
use Rattle.std.proofs.lemmas.Nat.{from_be_bytes-to_be_bytes_4}
use Rattle.std.specs.Int.{w32, to_be_bytes, from_be_bytes}
use Rattle.iss_journal.specs.Frames.{frame, frames, max_entry, AreShort}
use Rattle.iss_journal.specs.Views.{end_at, entry_at, entries_at, entries_from, size_at}

pub length-frame : (entry : List ℕ) → length (frame entry) ≡ 5 + length entry
length-frame entry = omega arith

pub size_back : (entry : List ℕ) → length entry ≤ max_entry →
    from_be_bytes w32 (to_be_bytes w32 (length entry)) ≡ length entry
size_back entry short = from_be_bytes-to_be_bytes_4 (length entry) (omega (arith, short))

-- the length is decoded from a frame at any offset
pub size_of : (before entry rest : List ℕ) (gate : ℕ) → gate ≡ length before → length entry ≤ max_entry →
    size_at (before ++ (frame entry ++ rest)) gate ≡ length entry
size_of before entry rest gate is short =
    let size : List ℕ = to_be_bytes w32 (length entry) in
    let opened : drop (gate + 1) (before ++ (frame entry ++ rest)) ≡ size ++ (entry ++ rest) =
    sym (drop-drop 1 gate (before ++ (frame entry ++ rest)))
    ∙ ap (drop 1) (drop_at before (frame entry ++ rest) gate (sym is)) ∙ append_assoc size entry rest in
    let sized : take 4 (drop (gate + 1) (before ++ (frame entry ++ rest))) ≡ size = ap (take 4) opened in
    ap (from_be_bytes w32) sized ∙ size_back entry short

-- the entry is decoded from a frame at any offset
pub entry_back : (before entry rest : List ℕ) (gate : ℕ) → gate ≡ length before → length entry ≤ max_entry →
    entry_at (before ++ (frame entry ++ rest)) gate ≡ entry
entry_back before entry rest gate is short =
    let there : drop (gate + 5) (before ++ (frame entry ++ rest)) ≡ entry ++ rest =
    sym (drop-drop 5 gate (before ++ (frame entry ++ rest)))
    ∙ ap (drop 5) (drop_at before (frame entry ++ rest) gate (sym is)) in
    ap (λ (n : ℕ). take n (drop (gate + 5) (before ++ (frame entry ++ rest)))) (size_of before entry rest gate is short)
    ∙ ap (take (length entry)) there
    ∙ take_at entry rest (length entry) refl

pub entries_back_from : (before : List ℕ) (entries : List (List ℕ)) (rest : List ℕ) (at : ℕ) → at ≡ length before →
    AreShort entries → entries_from at (before ++ (frames entries ++ rest)) (length entries) ≡ entries
entries_back_from before [] rest at is short = refl
entries_back_from before (entry ∷ entries) rest at is short =
    let whole = before ++ (frames (entry ∷ entries) ++ rest) in
    let regrouped : whole ≡ before ++ (frame entry ++ (frames entries ++ rest)) =
    ap (λ (l : List ℕ). before ++ l) (append_assoc (frame entry) (frames entries) rest) in
    let moved : whole ≡ (before ++ frame entry) ++ (frames entries ++ rest) = regrouped
    ∙ sym (append_assoc before (frame entry) (frames entries ++ rest)) in
    let first : entry_at whole at ≡ entry =
    ap (λ (l : List ℕ). entry_at l at) regrouped ∙ entry_back before entry (frames entries ++ rest) at is short.0 in
    let sized : size_at whole at ≡ length entry = ap (λ (l : List ℕ). size_at l at) regrouped
    ∙ size_of before entry (frames entries ++ rest) at is short.0 in
    let ends : end_at whole at ≡ length (before ++ frame entry) =
    omega (arith, is, sized, length-append before (frame entry)) in
    let others : entries_from (end_at whole at) whole (length entries) ≡ entries =
    ap (λ (l : List ℕ). entries_from (end_at whole at) l (length entries)) moved
    ∙ entries_back_from (before ++ frame entry) entries rest (end_at whole at) ends short.1 in
    ap (λ (e : List ℕ). e ∷ entries_from (end_at whole at) whole (length entries)) first
    ∙ ap (λ (es : List (List ℕ)). entry ∷ es) others

pub entries_back : (entries : List (List ℕ)) (rest : List ℕ) (count : ℕ) → count ≡ length entries → AreShort entries →
    entries_at (frames entries ++ rest) count ≡ entries
entries_back entries rest count many short = ap (entries_at (frames entries ++ rest)) many
    ∙ entries_back_from [] entries rest 0 refl short

-- reading n entries gives n entries
pub length-entries : (at : ℕ) (bytes : List ℕ) (count : ℕ) → length (entries_from at bytes count) ≡ count
length-entries at bytes zero = refl
length-entries at bytes (suc count) = ap suc (length-entries (end_at bytes at) bytes count)

pub frames-push : (entries : List (List ℕ)) (entry : List ℕ) → frames (entries ++ entry ∷ []) ≡ frames entries
    ++ frame entry
frames-push [] entry = append-nil (frame entry)
frames-push (e ∷ entries) entry = ap (λ (l : List ℕ). frame e ++ l) (frames-push entries entry)
    ∙ sym (append_assoc (frame e) (frames entries) (frame entry))

pub short-push : (entries : List (List ℕ)) (entry : List ℕ) → AreShort entries → length entry ≤ max_entry →
    AreShort (entries ++ entry ∷ [])
short-push [] entry short here = (here, tt)
short-push (e ∷ entries) entry short here = (short.0, short-push entries entry short.1 here)
