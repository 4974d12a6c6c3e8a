-- Attaching keeps a file's reading at each moment.
use Rattle.std.proofs.Common.{◌≡◌, inl, inr, ℕ, ◌+◌, ◌<◌, ◌≤◌, true, false, List, [], ◌∷◌, ◌++◌, length, take, refl, sym, ◌∙◌, ap, subst, arith, append_assoc}
use Rattle.iss_disk.specs.File.{File, Image, settled, synced}
use Rattle.iss_disk.specs.Calls.{Device, IfTold, EachState, Moves, Place, Stays, Room, Takes}
use Rattle.iss_journal.specs.Frames.{ClosesAfter, frames, holds, Reading, Reads, version_1}
use Rattle.iss_journal.specs.Promises.{OnlyLeaves, LeavesOnly, LeavesReading, LosesNothing, HoldsFirst, HoldsWithOrWithout, RestsOn, ComesToRest}
use Rattle.iss_journal.proofs.Crash.{only_settled, reads_closed}
use Rattle.iss_journal.specs.RetainedViews.{HasGrown, IsSame}
use Rattle.iss_journal.specs.declared.retained.Retained.{Retained}
use Rattle.iss_journal.specs.Sound.{HasRoom}
use Rattle.iss_journal.specs.declared.reserved.Reserved.{Reserved}
use Rattle.iss_journal.proofs.Grammar.{one_reading}
use Rattle.iss_journal.proofs.Steps.{between_leaves, each_append}

pub told_so : (P Q : File → Type 0) (h : List File) → IfTold h P → ((file : File) → P file → Q file) → IfTold h Q
told_so P Q [] told so = tt
told_so P Q (file ∷ past) told so = so file told

pub reads_same : (h new : List File) → IfTold h (λ file. file ≡ settled file.content) → new ≡ h →
    LeavesReading version_1 h new
reads_same [] new on_disk same = same
reads_same (file ∷ past) new on_disk same = (
  [],
  same,
  λ reading reads. (
    (λ c image. subst (λ (bytes : List ℕ). Reads version_1 bytes reading)
        (sym (only_settled file.content c (subst (λ (f : File). Image f c) on_disk image))) reads),
    tt,
  ),
)

pub reads_like : (h0 h1 new : List File) (found : Reading) → h1 ≡ h0 →
    IfTold h0 (λ file. Reads version_1 file.content found) →
    LeavesOnly (λ bytes. Reads version_1 bytes found) h1 new → LeavesReading version_1 h0 new
reads_like [] h1 new found same told leaves =
    subst (λ (h : List File). LeavesOnly (λ bytes. Reads version_1 bytes found) h new) same leaves
reads_like (file ∷ past) h1 new found same told leaves =
    let here : LeavesOnly (λ bytes. Reads version_1 bytes found) (file ∷ past) new =
    subst (λ (h : List File). LeavesOnly (λ bytes. Reads version_1 bytes found) h new) same leaves in (
      here.0,
      here.1,
      λ reading reads.
          subst (λ (r : Reading). OnlyLeaves (λ bytes. Reads version_1 bytes r) file
          × EachState (OnlyLeaves (λ bytes. Reads version_1 bytes r)) here.0)
          (one_reading file.content found reading told reads) (here.2, here.3),
    )

pub brief_reads : (h : List File) (bytes : List ℕ) → IfTold h (λ file. bytes ≡ file.content) → length bytes ≤ 1 →
    IfTold h (λ file. Reads version_1 file.content (holds []))
brief_reads h bytes told brief =
    told_so _ _ h told (λ file is. subst (λ (b : List ℕ). Reads version_1 b (holds [])) is (inl (brief, refl)))

pub whole_reads : (h : List File) (bytes : List ℕ) (entries : List (List ℕ)) → IfTold h (λ file. bytes ≡ file.content) →
    1 < length bytes → ClosesAfter entries bytes → IfTold h (λ file. Reads version_1 file.content (holds entries))
whole_reads h bytes entries told long ends =
    told_so _ _ h told (λ file is. subst (λ (b : List ℕ). Reads version_1 b (holds entries)) is (inr (long, ends)))

-- what attaching leaves of a file of at most one byte
pub brief_rests : (h new : List File) (bytes : List ℕ) →
    IfTold h (λ file. bytes ≡ file.content) → length bytes ≤ 1 → IfTold new (λ file. file ≡ settled (0 ∷ [])) →
    IfTold h (λ file. IfTold new (ComesToRest file.content))
brief_rests h new bytes told brief made =
    told_so _ _ h told (λ file is. told_so _ _ new made
    (λ now e. inl (subst (λ (b : List ℕ). length b ≤ 1) is brief, e)))

pub whole_rests : (h new : List File) (bytes : List ℕ) (entries : List (List ℕ)) →
    IfTold h (λ file. bytes ≡ file.content) → ClosesAfter entries bytes → 1 < length bytes →
    IfTold new (λ file. file ≡ settled (take (length (frames entries) + 1) bytes)) →
    IfTold h (λ file. IfTold new (ComesToRest file.content))
whole_rests h new bytes entries told ends long made =
    told_so _ _ h told (λ file is.
    subst (λ (b : List ℕ). IfTold new (ComesToRest b)) is
    (told_so _ _ new made (λ now e. inr (entries, ends, long, e))))

-- the first sync, and what follows it
keeps_first : (entries : List (List ℕ)) (file : File) → Image file file.content →
    OnlyLeaves (HoldsFirst version_1 entries) file →
    OnlyLeaves (HoldsFirst version_1 entries) (synced file)
keeps_first entries file read leaves c image =
    subst (HoldsFirst version_1 entries) (sym (only_settled file.content c image)) (leaves file.content read)

each_holds : (entries more : List (List ℕ)) (states : List File) →
    EachState (OnlyLeaves (λ bytes. Reads version_1 bytes (holds (entries ++ more)))) states →
    EachState (OnlyLeaves (HoldsFirst version_1 entries)) states
each_holds entries more [] each = tt
each_holds entries more (s ∷ states) each = (λ c image. (more, each.0 c image), each_holds entries more states each.1)

-- the sync fails
pub sync_fails : (h0 h1 : List File) → ((file : File) (past : List File) → h0 ≡ file ∷ past → Image file file.content) →
    Moves synced false h0 h1 → LosesNothing version_1 h0 h1
sync_fails [] h1 read moves = moves
sync_fails (file ∷ past) h1 read moves = (
  moves.0,
  moves.1,
  λ entries leaves. between_leaves (HoldsFirst version_1 entries) moves.0 file (synced file) leaves
      (keeps_first entries file (read file past refl) leaves) moves.2,
)

pub sync_then : (h0 h1 h2 : List File) →
    ((file : File) (past : List File) → h0 ≡ file ∷ past → Image file file.content) → Moves synced true h0 h1 →
    LeavesReading version_1 h1 h2 → LosesNothing version_1 h0 h2
sync_then [] h1 h2 read moves reading = subst (λ (h : List File). LeavesReading version_1 h h2) moves reading
sync_then (file ∷ past) h1 h2 read moves reading =
    let later : LeavesReading version_1 (synced file ∷ file ∷ past) h2 =
    subst (λ (h : List File). LeavesReading version_1 h h2) moves reading in (
      later.0 ++ synced file ∷ [],
      later.1 ∙ sym (append_assoc later.0 (synced file ∷ []) (file ∷ past)),
      λ entries leaves.
          let first = leaves file.content (read file past refl) in
          let each = (later.2 (holds (entries ++ first.0)) first.1).1 in
          each_append (OnlyLeaves (HoldsFirst version_1 entries)) later.0 (synced file ∷ [])
          (each_holds entries first.0 later.0 each) (keeps_first entries file (read file past refl) leaves, tt),
    )

pub sync_content : (h0 h1 : List File) → Moves synced true h0 h1 → IfTold h1 (λ file. file ≡ settled file.content)
sync_content [] h1 moves = subst (λ (h : List File). IfTold h (λ file. file ≡ settled file.content)) (sym moves) tt
sync_content (file ∷ past) h1 moves =
    subst (λ (h : List File). IfTold h (λ file. file ≡ settled file.content)) (sym moves) refl

-- what holds for a read after the sync held for a read before it
pub before_sync : (P : List ℕ → Type 0) (h0 h1 : List File) → Moves synced true h0 h1 →
    IfTold h1 (λ file. P file.content) → IfTold h0 (λ file. P file.content)
before_sync P [] h1 moves told = tt
before_sync P (file ∷ past) h1 moves told = subst (λ (h : List File). IfTold h (λ f. P f.content)) moves told

-- a sync settles what the file holds
pub settles : (h0 h1 : List File) → Moves synced true h0 h1 →
    IfTold h0 (λ before. IfTold h1 (λ now. now ≡ settled before.content))
settles [] h1 moves = tt
settles (file ∷ past) h1 moves =
    subst (λ (h : List File). IfTold h (λ now. now ≡ settled file.content)) (sym moves) refl

pub loses_start : (h : List File) → LosesNothing version_1 h h
loses_start [] = refl
loses_start (file ∷ past) = ([], refl, λ entries leaves. tt)

pub rests_durable : (h : List File) (entries : List (List ℕ)) → IfTold h (RestsOn entries) →
    IfTold h (OnlyLeaves (λ bytes. Reads version_1 bytes (holds entries)))
rests_durable h entries told = told_so _ _ h told (λ file rests c image.
    reads_closed entries rests.gate [] c rests.short rests.closed
    (only_settled (frames entries ++ rests.gate ∷ []) c (subst (λ (f : File). Image f c) rests.is image)))

-- where all files stayed, so did the history of the current one
pub history_same : (before now : Device) → before.history ≡ before.files before.current.name →
    now.history ≡ now.files now.current.name → Stays before.current now.current before.files now.files →
    now.history ≡ before.history
history_same before now here_before here_now stays = here_now
    ∙ ap (λ (n : Place). now.files n.name) stays.place ∙ stays.all before.current.name ∙ sym here_before

-- the room that is left after an entry
pub room_after : (spare left : Reserved) (old staged new : Retained) (room now : Room) (bytes : ℕ) →
    HasRoom spare old room → IsSame old staged → HasGrown (5 + bytes) staged new → Takes 4 (bytes + 6) room now →
    spare.entries ≡ left.entries + 1 → 1 ≤ left.entries → spare.limit ≡ left.limit + 6 + bytes →
    HasRoom left new now
room_after spare left old staged new room now bytes has same grown takes is_entries some is_limit =
    let own = ap (λ (es : List (List ℕ)). length (frames es)) same.entries.own in
    let longer = grown.entries in
    record {
      some = some;
      in_memory = omega (arith, has.in_memory, same.entries.bytes, own, longer.own, longer.bytes, is_limit);
      for_marks = omega (
        arith,
        has.for_marks,
        same.entries.marks_room,
        same.entries.marks,
        longer.marks,
        longer.marks_room,
        is_entries,
      );
      for_tails = omega (
        arith,
        has.for_tails,
        same.entries.tails_room,
        same.entries.few,
        longer.tails,
        longer.tails_room,
        is_entries,
      );
      for_gates = omega (arith, has.for_gates, same.gates_room, same.few, grown.gates, grown.gates_room, is_entries);
      in_file = omega (arith, has.in_file, same.last, grown.last, is_limit);
      calls = omega (arith, has.calls, takes.calls_left, is_entries);
      on_disk = omega (arith, has.on_disk, takes.bytes_left, is_limit);
    }

pub rests_start : (h : List File) (entries : List (List ℕ)) (entry : List ℕ) → IfTold h (RestsOn entries) →
    LeavesOnly (HoldsWithOrWithout version_1 entries entry) h h
rests_start [] entries entry told = refl
rests_start (file ∷ past) entries entry told =
    ([], refl, (λ c image. inl (rests_durable (file ∷ past) entries told c image)), tt)
