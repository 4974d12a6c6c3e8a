-- Files of a disk in memory by their names.
use Rattle.std.proofs.Common.{◌≡◌, ◌≢◌, inl, inr, ℕ, zero, suc, ◌+◌, ◌<◌, ◌≤◌, true, false, cond, List, [], ◌∷◌, ◌++◌, length, take, drop, get_or, set, refl, sym, ◌∙◌, ap, subst, arith, add-zero}
use Rattle.std.specs.Prelude.{bytes_eq}
use Rattle.std.proofs.lemmas.Bool.{cases_Bool, cond-true, cond-false, false≢true}
use Rattle.std.proofs.lemmas.Slice.Eq.{bytes_eq-Decides}
use Rattle.std.proofs.lemmas.List.{drop_more, drop_all, get_or_read, get_or-drop, drop-drop, drop-set-lt, take_more, take_more_set, take_all}
use Rattle.iss_disk.specs.File.{File, settled}
use Rattle.iss_disk.specs.Calls.{Restarts, IfTold}
use Rattle.iss_disk.specs.NoteViews.{calls_in}
use Rattle.iss_disk.specs.States.{newest, calls_of}
use Rattle.iss_disk.specs.EachState.{states_some}
use Rattle.iss_disk.specs.StoredViews.{history_of}
use Rattle.iss_disk.specs.MemoryViews.{history_among}
use Rattle.iss_disk.specs.MemoryLaws.{bytes_eq_self}
use Rattle.iss_disk.specs.declared.stored.StoredFile.{StoredFile}

pub differs : (a b : List ℕ) → a ≢ b → bytes_eq a b ≡ false
differs a b ne = elim (cases_Bool (bytes_eq a b)) [
  | inl same ↦ absurd (ne ((bytes_eq-Decides a b).0 same))
  | inr other ↦
      other
]

pub same_names : (a b : List ℕ) → a ≡ b → bytes_eq a b ≡ true
same_names a b is = subst (λ (l : List ℕ). bytes_eq a l ≡ true) is (bytes_eq_self a)

-- the first file is found by its name
pub among_first : (file : StoredFile) (files : List StoredFile) (name : List ℕ) → file.name.items ≡ name →
    history_among (file ∷ files) name ≡ history_of file
among_first file files name is = cond-true (bytes_eq file.name.items name) (history_of file) (history_among files name)
    (same_names _ _ is)

-- a file with another name is found among the rest
pub among_others : (file : StoredFile) (files : List StoredFile) (name : List ℕ) → file.name.items ≢ name →
    history_among (file ∷ files) name ≡ history_among files name
among_others file files name ne =
    cond-false (bytes_eq file.name.items name) (history_of file) (history_among files name) (differs _ _ ne)

dropped : (files : List StoredFile) (i : ℕ) (file : StoredFile) → i < length files → file ≡ get_or files i file →
    drop i files ≡ file ∷ drop (i + 1) files
dropped files i file lt is = drop_more files i file lt ∙ ap (λ (f : StoredFile). f ∷ drop (i + 1) files) (sym is)

pub among_found : (files : List StoredFile) (i : ℕ) (file : StoredFile) (name : List ℕ) → i < length files →
    file ≡ get_or files i file → file.name.items ≡ name → history_among (drop i files) name ≡ history_of file
among_found files i file name lt is named =
    ap (λ (fs : List StoredFile). history_among fs name) (dropped files i file lt is)
    ∙ among_first file (drop (i + 1) files) name named

pub among_passed : (files : List StoredFile) (i : ℕ) (file : StoredFile) (name : List ℕ) → i < length files →
    file ≡ get_or files i file → file.name.items ≢ name →
    history_among (drop i files) name ≡ history_among (drop (i + 1) files) name
among_passed files i file name lt is named =
    ap (λ (fs : List StoredFile). history_among fs name) (dropped files i file lt is)
    ∙ among_others file (drop (i + 1) files) name named

-- removing a file changes nothing for other names
pub among_removed : (files : List StoredFile) (i : ℕ) (file : StoredFile) (name : List ℕ) → i < length files →
    file ≡ get_or files i file → file.name.items ≢ name →
    history_among (take i files ++ drop (suc i) files) name ≡ history_among files name
among_removed [] i file name lt is ne = absurd (omega arith)
among_removed (f ∷ files) zero file name lt is ne =
    sym (among_others f files name (λ e. ne (ap (λ (s : StoredFile). s.name.items) is ∙ e)))
among_removed (f ∷ files) (suc i) file name lt is ne =
    ap (λ (h : List File). cond (bytes_eq f.name.items name) (history_of f) h)
    (among_removed files i file name (omega arith) is ne)

pub among_none : (files : List StoredFile) (i : ℕ) (name : List ℕ) → length files ≤ i →
    history_among (drop i files) name ≡ settled [] ∷ []
among_none files i name past = ap (λ (fs : List StoredFile). history_among fs name) (drop_all i files past)

-- a file and those after it restart, whatever their names
pub restarts_first : (old new : StoredFile) (old_rest new_rest : List StoredFile) (name : List ℕ) →
    old.name.items ≡ new.name.items → Restarts (history_of old) (history_of new) →
    Restarts (history_among old_rest name) (history_among new_rest name)
    → Restarts (history_among (old ∷ old_rest) name) (history_among (new ∷ new_rest) name)
restarts_first old new old_rest new_rest name named first rest = elim (cases_Bool (bytes_eq old.name.items name)) [
  | inl same ↦ subst (λ (h : List File). Restarts h (history_among (new ∷ new_rest) name))
      (sym (cond-true (bytes_eq old.name.items name) (history_of old) (history_among old_rest name) same))
      (subst (λ (h : List File). Restarts (history_of old) h)
      (sym (cond-true (bytes_eq new.name.items name) (history_of new) (history_among new_rest name)
      (ap (λ (l : List ℕ). bytes_eq l name) (sym named) ∙ same))) first)
  | inr other ↦ subst (λ (h : List File). Restarts h (history_among (new ∷ new_rest) name))
      (sym (cond-false (bytes_eq old.name.items name) (history_of old) (history_among old_rest name) other))
      (subst (λ (h : List File). Restarts (history_among old_rest name) h)
      (sym (cond-false (bytes_eq new.name.items name) (history_of new) (history_among new_rest name)
      (ap (λ (l : List ℕ). bytes_eq l name) (sym named) ∙ other))) rest)
]

-- equal reads of one name
pub same_read : (files : List StoredFile) (i : ℕ) (a b : StoredFile) → i < length files → a ≡ get_or files i a →
    b ≡ get_or files i b → a ≡ b
same_read files i a b lt is_a is_b = get_or_read files i a lt is_a b ∙ sym is_b

-- each file keeps its name, and is what was synced of it
abbrev pub EachRestarts : List StoredFile → List StoredFile → Type 0
EachRestarts [] [] = Unit {0}
EachRestarts (old ∷ olds) (new ∷ news) = (new.name.items ≡ old.name.items) × Restarts (history_of old) (history_of new)
    × EachRestarts olds news
EachRestarts olds news = ⊥

pub each_restarts : (olds news : List StoredFile) (name : List ℕ) → EachRestarts olds news →
    Restarts (history_among olds name) (history_among news name)
each_restarts [] [] name each = inr (refl, refl)
each_restarts [] (new ∷ news) name each = absurd each
each_restarts (old ∷ olds) [] name each = absurd each
each_restarts (old ∷ olds) (new ∷ news) name each =
    restarts_first old new olds news name (sym each.0) each.1 (each_restarts olds news name each.2)

pub each_more : (olds news : List StoredFile) (old new : StoredFile) → EachRestarts olds news →
    new.name.items ≡ old.name.items → Restarts (history_of old) (history_of new) →
    EachRestarts (olds ++ old ∷ []) (news ++ new ∷ [])
each_more [] [] old new each named restarts = (named, restarts, tt)
each_more [] (n ∷ news) old new each named restarts = absurd each
each_more (o ∷ olds) [] old new each named restarts = absurd each
each_more (o ∷ olds) (n ∷ news) old new each named restarts =
    (each.0, each.1, each_more olds news old new each.2 named restarts)

-- one more file has restarted
pub each_next : (olds news : List StoredFile) (i : ℕ) (old new : StoredFile) → i < length olds →
    length news ≡ length olds → EachRestarts (take i olds) (take i news) → drop i news ≡ drop i olds →
    old ≡ get_or news i old → new.name.items ≡ old.name.items → Restarts (history_of old) (history_of new)
    → EachRestarts (take (i + 1) olds) (take (i + 1) (set news i new))
    × (drop (i + 1) (set news i new) ≡ drop (i + 1) olds)
each_next olds news i old new lt long done left is named restarts =
    let same : get_or olds i old ≡ old =
    ap (λ (k : ℕ). get_or olds k old) (sym (add-zero i)) ∙ sym (get_or-drop i olds 0 old)
    ∙ ap (λ (l : List StoredFile). get_or l 0 old) (sym left) ∙ get_or-drop i news 0 old
    ∙ ap (λ (k : ℕ). get_or news k old) (add-zero i) ∙ sym is in
    let in_news : i < length news = omega (arith, lt, long) in
    let front_old : take (i + 1) olds ≡ take i olds ++ old ∷ [] = take_more olds i old lt
    ∙ ap (λ (f : StoredFile). take i olds ++ f ∷ []) same in
    let front_new : take (i + 1) (set news i new) ≡ take i news ++ new ∷ [] = take_more_set news i new in_news in
    let behind : i < i + 1 = omega arith in (
      subst (λ (l : List StoredFile). EachRestarts l (take (i + 1) (set news i new))) (sym front_old)
          (subst (λ (l : List StoredFile). EachRestarts (take i olds ++ old ∷ []) l) (sym front_new)
          (each_more (take i olds) (take i news) old new done named restarts)),
      drop-set-lt (i + 1) news i new behind ∙ sym (drop-drop 1 i news) ∙ ap (drop 1) left ∙ drop-drop 1 i olds,
    )

pub each_done : (olds news : List StoredFile) (i : ℕ) → length olds ≤ i → length news ≡ length olds →
    EachRestarts (take i olds) (take i news) → EachRestarts olds news
each_done olds news i past long done =
    let in_news : length news ≤ i = omega (arith, past, long) in
    subst (λ (l : List StoredFile). EachRestarts l news) (take_all i olds past)
    (subst (λ (l : List StoredFile). EachRestarts (take i olds) l) (take_all i news in_news) done)

-- After the wanted file becomes the current one, and the former one joins the others, each name has the same file.
pub attached_files : (file next : StoredFile) (before after : List StoredFile) (wanted : List ℕ) →
    file.name.items ≢ wanted → next.name.items ≡ wanted → history_of next ≡ history_among before wanted
    → ((name : List ℕ) → name ≢ wanted → history_among after name ≡ history_among before name) → (n : List ℕ) →
    history_among (next ∷ file ∷ after) n ≡ history_among (file ∷ before) n
attached_files file next before after wanted apart named is_next others n =
    elim (cases_Bool (bytes_eq next.name.items n)) [
      | inl same ↦
          let found : next.name.items ≡ n = (bytes_eq-Decides next.name.items n).0 same in
          among_first next (file ∷ after) n found ∙ is_next ∙ ap (history_among before) (sym named ∙ found)
          ∙ sym (among_others file before n (λ e. apart (e ∙ sym found ∙ named)))
      | inr other ↦
          among_others next (file ∷ after) n (λ e. false≢true (sym other ∙ same_names _ _ e))
          ∙ ap (λ (h : List File). cond (bytes_eq file.name.items n) (history_of file) h)
          (others n (λ e. false≢true (sym other ∙ same_names _ _ (named ∙ sym e))))
    ]

-- a bound on the recorded content is a bound on the stored content
pub within_content : (stored : StoredFile) (n : ℕ) → IfTold (history_of stored) (λ file. n ≤ length file.content) →
    n ≤ length stored.content.items
within_content stored n within =
    let some = states_some (calls_of stored.recent ++ calls_in stored.calls) stored.lost.items stored.content.items in
    let here : n ≤ length some.file.content =
    subst (λ (h : List File). IfTold h (λ file. n ≤ length file.content)) some.is within in
    let is : some.file.content ≡ stored.content.items = ap (λ (h : List File). (newest h).content) (sym some.is)
    ∙ stored.stored.is_content in
    omega (arith, here, ap length is)
