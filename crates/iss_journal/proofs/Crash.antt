-- Every crash image at each step of an append.
use Rattle.std.proofs.Common.{◌≡◌, ◌≢◌, inl, inr, ℕ, ◌+◌, ◌<◌, ◌≤◌, false, List, [], ◌∷◌, ◌++◌, length, take, drop, get_or, set, refl, sym, ◌∙◌, ap, arith, append_assoc, length-append, length-take-le, take-append-drop, get_or-set_same, get_or-set_other, length-set}
use Rattle.std.proofs.lemmas.List.{take_at, drop_at, drop-drop, append-nil, take_all, drop_all, get_or-take, ext_get_or, set_at}
use Rattle.std.proofs.lemmas.Bool.{cases_lt, cases_eq, lt-leb, le-ltb, or_from, and_left, and_right}
use Rattle.std.specs.Int.{w32, to_be_bytes}
use Rattle.iss_disk.specs.File.{Image, settled, overwritten, wrote, synced}
use Rattle.iss_journal.specs.Frames.{AreShort, frame, frames, holds, max_entry, Reads, version_1}
use Rattle.iss_journal.specs.Promises.{OnlyLeaves, HoldsWithOrWithout, RestsOn}
use Rattle.iss_journal.proofs.FrameLemmas.{frames-push, short-push}

-- what is written after the gate: the length, the entry and a closed gate
abbrev pub body : List ℕ → List ℕ
body entry = (to_be_bytes w32 (length entry) ++ entry) ++ 0 ∷ []

-- bytes that agree with a list up to its length begin with it
pub begins_with : (bytes front : List ℕ) → length front ≤ length bytes →
    ((i : ℕ) → i < length front → get_or bytes i 0 ≡ get_or front i 0) → bytes ≡ front ++ drop (length front) bytes
begins_with bytes front long same =
    let l : length (take (length front) bytes) ≡ length front = length-take-le (length front) bytes long in
    let is : take (length front) bytes ≡ front =
    ext_get_or 0 (take (length front) bytes) front l (λ i lt. let below : i < length front = omega (arith, l, lt) in
    get_or-take (length front) bytes i 0 below ∙ same i below) in
    sym (take-append-drop (length front) bytes) ∙ ap (λ (f : List ℕ). f ++ drop (length front) bytes) is

-- a file that is all synced is its only crash image
pub only_settled : (bytes c : List ℕ) → Image (settled bytes) c → c ≡ bytes
only_settled bytes c image =
    let l : length c ≡ length bytes = omega (arith, image.long_enough, image.short_enough) in
    ext_get_or 0 c bytes l (λ i lt. image.others i lt (omega (arith, l, lt)) refl)

-- the reading of entries, a closed gate and any bytes
pub reads_closed : (entries : List (List ℕ)) (gate : ℕ) (rest bytes : List ℕ) → AreShort entries → gate ≢ 1 →
    bytes ≡ frames entries ++ gate ∷ rest → Reads version_1 bytes (holds entries)
reads_closed [] gate rest bytes short closed is = elim (cases_lt 1 (length bytes)) [
  | inl long ↦ inr (long, record { gate = gate; rest = rest; is = is; closed = closed; short = short })
  | inr brief ↦ inl (brief, refl)
]
reads_closed (e ∷ entries) gate rest bytes short closed is =
    let size = ap length is in
    let parts = length-append (frames (e ∷ entries)) (gate ∷ rest) in
    let part = length-append (frame e) (frames entries) in
    inr (omega (arith, size, parts, part), record { gate = gate; rest = rest; is = is; closed = closed; short = short })

module _ (entries : List (List ℕ)) (entry : List ℕ) (gate : ℕ) (short : AreShort entries)
    (fits : length entry ≤ max_entry) (closed : gate ≢ 1) where
  abbrev rest : List ℕ
  rest = frames entries ++ gate ∷ []

  abbrev last : ℕ
  last = length (frames entries)

  abbrev staged : List ℕ
  staged = frames entries ++ gate ∷ body entry

  abbrev appended : List ℕ
  appended = frames (entries ++ entry ∷ []) ++ 0 ∷ []

  pub length_rest : length rest ≡ last + 1
  length_rest = omega (arith, length-append (frames entries) (gate ∷ []))

  pub written_behind : overwritten (last + 1) (body entry) rest ≡ staged
  written_behind =
      ap (λ (l : List ℕ). (l ++ body entry) ++ drop (last + 1 + length (body entry)) rest)
      (take_all (last + 1) rest (omega (arith, length_rest)))
      ∙ ap (λ (l : List ℕ). (rest ++ body entry) ++ l)
      (drop_all (last + 1 + length (body entry)) rest (omega (arith, length_rest)))
      ∙ append-nil (rest ++ body entry)
      ∙ append_assoc (frames entries) (gate ∷ []) (body entry)

  pub opened : overwritten last (1 ∷ []) staged ≡ appended
  opened =
      let back : drop (last + 1) staged ≡ body entry = sym (drop-drop 1 last staged)
      ∙ ap (drop 1) (drop_at (frames entries) (gate ∷ body entry) last refl) in
      ap (λ (l : List ℕ). (l ++ 1 ∷ []) ++ drop (last + 1) staged)
      (take_at (frames entries) (gate ∷ body entry) last refl)
      ∙ ap (λ (l : List ℕ). (frames entries ++ 1 ∷ []) ++ l) back
      ∙ append_assoc (frames entries) (1 ∷ []) (body entry)
      ∙ sym (append_assoc (frames entries) (frame entry) (0 ∷ []))
      ∙ ap (λ (l : List ℕ). l ++ 0 ∷ []) (sym (frames-push entries entry))

  abbrev P : List ℕ → Type 0
  P = HoldsWithOrWithout version_1 entries entry

  pub at_rest : OnlyLeaves P (settled rest)
  at_rest c image = inl (reads_closed entries gate [] c short closed (only_settled rest c image))

  -- crash images while the entry is written after the closed gate
  pub behind : OnlyLeaves P (wrote (last + 1) (body entry) (settled rest))
  behind c image =
      let front : c ≡ rest ++ drop (length rest) c =
      begins_with c rest image.long_enough (λ i lt.
      let before : i < last + 1 = omega (arith, lt, length_rest) in
      image.others i (omega (arith, lt, image.long_enough)) (omega (arith, lt))
      (or_from _ false (and_left _ _ (lt-leb (last + 1) i before)) refl)) in
      inl (reads_closed entries gate (drop (length rest) c) c short closed (front
      ∙ append_assoc (frames entries) (gate ∷ []) (drop (length rest) c)))

  pub staged_rest : OnlyLeaves P (settled staged)
  staged_rest c image = inl (reads_closed entries gate (body entry) c short closed (only_settled staged c image))

  pub staged_reads : Reads version_1 staged (holds entries)
  staged_reads = reads_closed entries gate (body entry) staged short closed refl

  pub rest_reads : Reads version_1 rest (holds entries)
  rest_reads = reads_closed entries gate [] rest short closed refl

  pub length_staged : length staged ≡ last + 1 + length (body entry)
  length_staged = omega (arith, length-append (frames entries) (gate ∷ body entry))

  -- a gate with any byte before a whole entry
  with_gate : (x : ℕ) (c : List ℕ) → c ≡ frames entries ++ x ∷ body entry → P c
  with_gate x c is = elim (cases_eq x 1) [
    | inl open_gate ↦ inr (reads_closed (entries ++ entry ∷ []) 0 [] c (short-push entries entry short fits)
        (λ e. omega arith)
        (is ∙ ap (λ (n : ℕ). frames entries ++ n ∷ body entry) open_gate
        ∙ sym (append_assoc (frames entries) (frame entry) (0 ∷ []))
        ∙ ap (λ (l : List ℕ). l ++ 0 ∷ []) (sym (frames-push entries entry))))
    | inr shut ↦ inl (reads_closed entries x (body entry) c short shut is)
  ]

  -- crash images while the gate is opened
  pub opening : OnlyLeaves P (wrote last (1 ∷ []) (settled staged))
  opening c image =
      let l : length c ≡ length staged = omega (arith, image.long_enough, image.short_enough, length_staged) in
      let x = get_or c last 0 in
      let in_staged : last < length staged = omega (arith, length_staged) in
      let same : c ≡ set staged last x =
      ext_get_or 0 c (set staged last x) (l ∙ sym (length-set staged last x)) (λ i lt.
      elim (cases_eq i last) [
        | inl here ↦ ap (λ (n : ℕ). get_or c n 0) here
            ∙ sym (ap (λ (n : ℕ). get_or (set staged last x) n 0) here ∙ get_or-set_same staged last x 0 in_staged)
        | inr elsewhere ↦
            image.others i lt (omega (arith, l, lt)) (or_from _ false (elim (cases_lt i last) [
              | inl before ↦ and_left _ _ (lt-leb last i before)
              | inr past ↦ and_right _ _ (le-ltb i (last + 1) (omega (arith, past, elsewhere)))
            ]) refl)
            ∙ sym (get_or-set_other staged last i x 0 elsewhere)
      ]) in
      with_gate x c (same ∙ set_at (frames entries) gate (body entry) x last refl)

  pub rests : RestsOn (entries ++ entry ∷ []) (synced (wrote last (1 ∷ []) (settled staged)))
  rests = record {
    gate = 0;
    closed = λ e. omega arith;
    is = ap settled opened;
    short = short-push entries entry short fits;
  }
