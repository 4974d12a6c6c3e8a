-- The crash images while the end of a file is cut off, and while an empty journal is made.
use Rattle.std.proofs.Common.{◌≡◌, inl, ℕ, ◌+◌, ◌<◌, ◌≤◌, Bool, true, List, [], ◌∷◌, ◌++◌, length, take, drop, get_or, refl, sym, ◌∙◌, ap, subst, arith, append_assoc, length-append}
use Rattle.std.proofs.lemmas.List.{take_at, take_all, get_or_append_left, nil_from_length}
use Rattle.iss_disk.specs.File.{File, settled, wrote, shortened, synced}
use Rattle.iss_disk.specs.Calls.{IfTold, Moves}
use Rattle.iss_journal.specs.Frames.{ClosesAfter, frames, holds, Reads, version_1}
use Rattle.iss_journal.specs.Promises.{OnlyLeaves, LeavesOnly, RestsOn}
use Rattle.iss_journal.proofs.Crash.{begins_with, only_settled, reads_closed}
use Rattle.iss_journal.proofs.Steps.{goes_on, untold}

-- Cutting after the last gate

module _ (entries : List (List ℕ)) (bytes : List ℕ) (ends : ClosesAfter entries bytes) where
  abbrev end : ℕ
  end = length (frames entries) + 1

  abbrev front : List ℕ
  front = frames entries ++ ends.gate ∷ []

  abbrev P : List ℕ → Type 0
  P c = Reads version_1 c (holds entries)

  length_front : length front ≡ end
  length_front = omega (arith, length-append (frames entries) (ends.gate ∷ []))

  split : bytes ≡ front ++ ends.rest
  split = ends.is ∙ sym (append_assoc (frames entries) (ends.gate ∷ []) ends.rest)

  pub end_within : end ≤ length bytes
  end_within = omega (arith, ap length split, length-append front ends.rest, length_front)

  starts : OnlyLeaves P (settled bytes)
  starts c image = reads_closed entries ends.gate ends.rest c ends.short ends.closed
      (only_settled bytes c image ∙ ends.is)

  cuts : OnlyLeaves P (shortened end (settled bytes))
  cuts c image =
      let long : end ≤ length c = omega (arith, image.long_enough, end_within) in
      let same : c ≡ front ++ drop (length front) c =
      begins_with c front (omega (arith, long, length_front)) (λ i lt.
      let within : i < length bytes = omega (arith, lt, length_front, end_within) in
      image.others i (omega (arith, lt, length_front, long)) within refl ∙ ap (λ (l : List ℕ). get_or l i 0) split
      ∙ get_or_append_left front ends.rest 0 i lt) in
      reads_closed entries ends.gate (drop (length front) c) c ends.short ends.closed (same
      ∙ append_assoc (frames entries) (ends.gate ∷ []) (drop (length front) c))

  shortens : take end bytes ≡ front
  shortens = ap (take end) split ∙ take_at front ends.rest end length_front

  rest_cut : RestsOn entries (synced (shortened end (settled bytes)))
  rest_cut = record { gate = ends.gate; closed = ends.closed; is = ap settled shortens; short = ends.short }

  cut_rests : OnlyLeaves P (synced (shortened end (settled bytes)))
  cut_rests c image = reads_closed entries ends.gate [] c ends.short ends.closed (only_settled (take end bytes) c image
      ∙ shortens)

  at : (file : File) (change : File → File) → file ≡ settled bytes → OnlyLeaves P (change (settled bytes)) →
      OnlyLeaves P (change file)
  at file change is leaves = subst (λ (f : File). OnlyLeaves P (change f)) (sym is) leaves

  pub nothing_done : (h : List File) → IfTold h (λ file. file ≡ settled bytes) → LeavesOnly P h h
  nothing_done [] is = refl
  nothing_done (file ∷ past) is = ([], refl, at file (λ f. f) is starts, tt)

  pub rests_already : (h : List File) → IfTold h (λ file. file ≡ settled bytes) → length bytes ≤ end →
      IfTold h (RestsOn entries)
  rests_already [] is brief = tt
  rests_already (file ∷ past) is brief =
      let none : ends.rest ≡ [] =
      nil_from_length ends.rest
      (omega (arith, brief, ap length split, length-append front ends.rest, length_front)) in
      record {
        gate = ends.gate;
        closed = ends.closed;
        is = is ∙ ap settled (ends.is ∙ ap (λ (l : List ℕ). frames entries ++ ends.gate ∷ l) none);
        short =
            ends.short;
      }

  pub cutting : (passed : Bool) (h0 h1 : List File) → IfTold h0 (λ file. file ≡ settled bytes) →
      Moves (shortened end) passed h0 h1 → LeavesOnly P h0 h1
  cutting passed [] h1 is moves = moves
  cutting passed (file ∷ past) h1 is moves =
      goes_on P file past (file ∷ past) h1 (shortened end) passed file past (nothing_done (file ∷ past) is) refl
      (at file (λ f. f) is starts) (at file (shortened end) is cuts) moves

  pub cut_synced : (passed : Bool) (h0 h1 h2 : List File) → IfTold h0 (λ file. file ≡ settled bytes) →
      Moves (shortened end) true h0 h1 → Moves synced passed h1 h2 → LeavesOnly P h0 h2
  cut_synced passed [] h1 h2 is moves then = untold synced passed h1 h2 moves then
  cut_synced passed (file ∷ past) h1 h2 is moves then =
      goes_on P file past h1 h2 synced passed (shortened end file) (file ∷ past)
      (cutting true (file ∷ past) h1 is moves) moves (at file (shortened end) is cuts)
      (at file (λ f. synced (shortened end f)) is cut_rests) then

  pub cut_done : (h0 h1 h2 : List File) → IfTold h0 (λ file. file ≡ settled bytes) → Moves (shortened end) true h0 h1 →
      Moves synced true h1 h2 → IfTold h2 (RestsOn entries)
  cut_done [] h1 h2 is moves
      then = subst (λ (l : List File). IfTold l (RestsOn entries)) (sym (untold synced true h1 h2 moves then)) tt
  cut_done (file ∷ past) h1 h2 is moves then =
      let made : h2 ≡ synced (shortened end file) ∷ shortened end file ∷ file ∷ past =
      subst (λ (l : List File). Moves synced true l h2) moves then in
      subst (λ (l : List File). IfTold l (RestsOn entries)) (sym made)
      (subst (λ (f : File). RestsOn entries (synced (shortened end f))) (sym is) rest_cut)

  -- everything up to the last gate is left
  pub left_whole : (h : List File) → IfTold h (λ file. file ≡ settled bytes) → length bytes ≤ end →
      IfTold h (λ file. file ≡ settled (take end bytes))
  left_whole [] is brief = tt
  left_whole (file ∷ past) is brief = is ∙ ap settled (sym (take_all end bytes brief))

  pub cut_file : (h0 h1 h2 : List File) → IfTold h0 (λ file. file ≡ settled bytes) → Moves (shortened end) true h0 h1 →
      Moves synced true h1 h2 → IfTold h2 (λ file. file ≡ settled (take end bytes))
  cut_file [] h1 h2 is moves
      then = subst (λ (l : List File). IfTold l (λ file. file ≡ settled (take end bytes)))
      (sym (untold synced true h1 h2 moves then)) tt
  cut_file (file ∷ past) h1 h2 is moves then =
      let made : h2 ≡ synced (shortened end file) ∷ shortened end file ∷ file ∷ past =
      subst (λ (l : List File). Moves synced true l h2) moves then in
      subst (λ (l : List File). IfTold l (λ file. file ≡ settled (take end bytes))) (sym made)
      (ap (λ (f : File). synced (shortened end f)) is)

  pub cut_within : (h : List File) → IfTold h (λ file. file ≡ settled bytes) →
      IfTold h (λ file. end ≤ length file.content)
  cut_within [] is = tt
  cut_within (file ∷ past) is = omega (arith, ap (λ (f : File). length f.content) is, end_within)

-- Making an empty journal of at most one byte

module _ (bytes : List ℕ) (brief : length bytes ≤ 1) where
  abbrev Q : List ℕ → Type 0
  Q c = Reads version_1 c (holds [])

  empty_starts : OnlyLeaves Q (settled bytes)
  empty_starts c image = inl (omega (arith, image.short_enough, brief), refl)

  emptied : OnlyLeaves Q (shortened 0 (settled bytes))
  emptied c image = inl (omega (arith, image.short_enough, brief), refl)

  gated : OnlyLeaves Q (wrote 0 (0 ∷ []) (shortened 0 (settled bytes)))
  gated c image = inl (omega (arith, image.short_enough, brief), refl)

  made_rests : RestsOn [] (synced (wrote 0 (0 ∷ []) (shortened 0 (settled bytes))))
  made_rests = record { gate = 0; closed = λ e. omega arith; is = refl; short = tt }

  made_leaves : OnlyLeaves Q (synced (wrote 0 (0 ∷ []) (shortened 0 (settled bytes))))
  made_leaves c image = inl (omega (arith, image.short_enough), refl)

  like : (file : File) (change : File → File) → file ≡ settled bytes → OnlyLeaves Q (change (settled bytes)) →
      OnlyLeaves Q (change file)
  like file change is leaves = subst (λ (f : File). OnlyLeaves Q (change f)) (sym is) leaves

  abbrev gate : File → File
  gate = wrote 0 (0 ∷ [])

  pub emptying : (passed : Bool) (h0 h1 : List File) → IfTold h0 (λ file. file ≡ settled bytes) →
      Moves (shortened 0) passed h0 h1 → LeavesOnly Q h0 h1
  emptying passed [] h1 is a = a
  emptying passed (file ∷ past) h1 is a =
      goes_on Q file past (file ∷ past) h1 (shortened 0) passed file past (
        [],
        refl,
        like file (λ f. f) is empty_starts,
        tt,
      ) refl (like file (λ f. f) is empty_starts) (like file (shortened 0) is emptied) a

  pub gating : (passed : Bool) (h0 h1 h2 : List File) → IfTold h0 (λ file. file ≡ settled bytes) →
      Moves (shortened 0) true h0 h1 → Moves gate passed h1 h2 → LeavesOnly Q h0 h2
  gating passed [] h1 h2 is a b = untold gate passed h1 h2 a b
  gating passed (file ∷ past) h1 h2 is a b =
      goes_on Q file past h1 h2 gate passed (shortened 0 file) (file ∷ past) (emptying true (file ∷ past) h1 is a) a
      (like file (shortened 0) is emptied) (like file (λ f. gate (shortened 0 f)) is gated) b

  two : (file : File) (past h1 h2 : List File) → Moves (shortened 0) true (file ∷ past) h1 → Moves gate true h1 h2 →
      h2 ≡ gate (shortened 0 file) ∷ shortened 0 file ∷ file ∷ past
  two file past h1 h2 a b = subst (λ (l : List File). Moves gate true l h2) a b

  pub gate_synced : (passed : Bool) (h0 h1 h2 h3 : List File) → IfTold h0 (λ file. file ≡ settled bytes) →
      Moves (shortened 0) true h0 h1 → Moves gate true h1 h2 → Moves synced passed h2 h3 → LeavesOnly Q h0 h3
  gate_synced passed [] h1 h2 h3 is a b d = untold synced passed h2 h3 (untold gate true h1 h2 a b) d
  gate_synced passed (file ∷ past) h1 h2 h3 is a b d =
      goes_on Q file past h2 h3 synced passed (gate (shortened 0 file)) (shortened 0 file ∷ file ∷ past)
      (gating true (file ∷ past) h1 h2 is a b) (two file past h1 h2 a b)
      (like file (λ f. gate (shortened 0 f)) is gated)
      (like file (λ f. synced (gate (shortened 0 f))) is made_leaves) d

  pub empty_done : (h0 h1 h2 h3 : List File) → IfTold h0 (λ file. file ≡ settled bytes) →
      Moves (shortened 0) true h0 h1 → Moves gate true h1 h2 → Moves synced true h2 h3 → IfTold h3 (RestsOn [])
  empty_done [] h1 h2 h3 is a b d =
      subst (λ (l : List File). IfTold l (RestsOn []))
      (sym (untold synced true h2 h3 (untold gate true h1 h2 a b) d)) tt
  empty_done (file ∷ past) h1 h2 h3 is a b d =
      let made : h3 ≡ synced (gate (shortened 0 file)) ∷ gate (shortened 0 file) ∷ shortened 0 file ∷ file ∷ past =
      subst (λ (l : List File). Moves synced true l h3) (two file past h1 h2 a b) d in
      subst (λ (l : List File). IfTold l (RestsOn [])) (sym made)
      (subst (λ (f : File). RestsOn [] (synced (gate (shortened 0 f)))) (sym is) made_rests)

  pub empty_file : (h0 h1 h2 h3 : List File) → IfTold h0 (λ file. file ≡ settled bytes) →
      Moves (shortened 0) true h0 h1 → Moves gate true h1 h2 → Moves synced true h2 h3 →
      IfTold h3 (λ file. file ≡ settled (0 ∷ []))
  empty_file [] h1 h2 h3 is a b d =
      subst (λ (l : List File). IfTold l (λ file. file ≡ settled (0 ∷ [])))
      (sym (untold synced true h2 h3 (untold gate true h1 h2 a b) d)) tt
  empty_file (file ∷ past) h1 h2 h3 is a b d =
      let made : h3 ≡ synced (gate (shortened 0 file)) ∷ gate (shortened 0 file) ∷ shortened 0 file ∷ file ∷ past =
      subst (λ (l : List File). Moves synced true l h3) (two file past h1 h2 a b) d in
      subst (λ (l : List File). IfTold l (λ file. file ≡ settled (0 ∷ []))) (sym made)
      (ap (λ (f : File). synced (gate (shortened 0 f))) is)
