-- What the disk of a kept node holds from call to call. The synced part of its file is exactly the journal's entries,
-- so a restart reopens the node in the same state.
use Rattle.std.proofs.Common.{arith, ◌≡◌, inl, inr, ℕ, zero, suc, ◌-◌, ◌<◌, ◌≤◌, Bool, true, false, List, [], ◌∷◌, ◌++◌, Some, refl, sym, ap, ◌∙◌, subst, Result, Ok, Err}
use Rattle.iss_node.specs.declared.answers.Answer.TheVariants.{Dropped as Node_dropped, NoMemory as Node_no_memory, Stale as Node_stale, Taken as Node_taken}
use Rattle.iss_node.specs.declared.answers.Answer.{Answer as NodeAnswer}
use Rattle.iss_disk.specs.declared.errors.Failed.{Failed}
use Rattle.iss_disk.specs.Calls.{Device, IfTold, IsRestarted, Passes, Place, Restarts, Runs, Stays, script, up_to}
use Rattle.iss_disk.specs.EachState.{newest_state, states_some}
use Rattle.iss_disk.specs.File.{File, Image, restarted, settled, shortened, wrote}
use Rattle.iss_disk.specs.NoteViews.{calls_in}
use Rattle.iss_disk.specs.ReadsAreImages.{image_settled}
use Rattle.iss_disk.specs.States.{calls_of}
use Rattle.iss_disk.specs.StoredViews.{history_of}
use Rattle.iss_disk.specs.declared.stored.StoredFile.{StoredFile}
use Rattle.iss_journal.specs.Frames.{damaged, holds, Reading, Reads, version_1}
use Rattle.iss_journal.proofs.Retaining.{retained-twice}
use Rattle.iss_journal.proofs.Showing.{shown_once}
use Rattle.iss_journal.specs.Promises.{LosesNone, OnlyLeaves, Shows}
use Rattle.iss_journal.specs.Retained.{retained}
use Rattle.iss_rebuilt.specs.Reading.{Rebuilt}
use Rattle.iss_request.specs.declared.setups.Setup.{Setup}
use Rattle.iss_sb.specs.Evidence.{Module}
use Rattle.iss_keep.proofs.ReplayLemmas.{stops-not}
use Rattle.iss_keep.specs.Cores.{StopsAt, core_of}
use Rattle.iss_keep.specs.Steps.{IsAttached, IsDamaged, IsWritten}

-- ---- a file has one reading: `one` is the law `a_file_has_one_reading` of iss_journal

never-both : (es : List (List ℕ)) (at : ℕ) → holds es ≡ damaged at → ⊥
never-both es at h = cc

module _ (one : (bytes : List ℕ) (r q : Reading) → Reads version_1 bytes r → Reads version_1 bytes q → r ≡ q) where
  -- Attaching finds the entries that the file held.
  pub attached-same : (before now : Device) (held found : List (List ℕ)) (file : File) (past : List File) → before.history ≡ file ∷ past →
      Shows version_1 held file.content → IsAttached before now found → found ≡ held
  attached-same before now held found file past told reads attached =
      let read : Shows version_1 found file.content = subst (λ (h : List File). IfTold h (λ f. Shows version_1 found f.content)) told attached.read in
      shown_once found held file.content read reads

  module _ {Msg : Type 0} (s : Setup) (m : Module Msg) (me : ℕ) (held found : List (List ℕ)) (c : Rebuilt Msg) (leads : core_of s m me held ≡ Some c) (at : ℕ)
      (file : File) (past : List File) (reads : Shows version_1 held file.content) where
    damaged-not : IsDamaged s m me found (file ∷ past) at → ⊥
    damaged-not (inl broken) = never-both reads.all at (one file.content (holds reads.all) (damaged at) reads.read broken)
    damaged-not (inr (gates, read, stops)) =
        let shown : Shows version_1 found file.content = record { all = read.all; read = read.read; stay = read.stay } in
        let same : found ≡ held = shown_once found held file.content shown reads in
        stops-not s m me held (subst (λ (es : List (List ℕ)). retained es ≡ es) same (ap retained read.stay ∙ retained-twice read.all ∙ sym read.stay))
        gates c at leads (subst (λ (es : List (List ℕ)). StopsAt s m me at es gates) same stops)

    -- If the entries in the file lead to a core, reopening finds no damage.
    pub never-damaged : (history : List File) → history ≡ file ∷ past → IsDamaged s m me found history at → ⊥
    never-damaged history told broken = damaged-not (subst (λ (h : List File). IsDamaged s m me found h at) told broken)

-- ---- what is synced

-- For a file in memory, the synced content is one of the crash images.
kept-wrote : (at : ℕ) (bytes : List ℕ) (file : File) → Image file file.kept → Image (wrote at bytes file) file.kept
kept-wrote at bytes file h = record { long_enough = h.long_enough; short_enough = omega (arith, h.short_enough); others = λ i within below outside. refl }

kept-shortened : (n : ℕ) (file : File) → Image file file.kept → Image (shortened n file) file.kept
kept-shortened n file h = record { long_enough = omega (arith, h.long_enough); short_enough = h.short_enough; others = λ i within below outside. refl }

pub stored-kept : (file : StoredFile) → IfTold (history_of file) (λ f. Image f f.kept)
stored-kept file =
    newest_state (λ f. Image f f.kept) (image_settled []) kept-wrote kept-shortened (λ f. image_settled f.content) (λ f. image_settled f.kept)
    (calls_of file.recent ++ calls_in file.calls) file.lost.items file.content.items

-- Its history is known and not empty.
pub stored-told : (file : StoredFile) → (f : File) × (past : List File) × (history_of file ≡ f ∷ past)
stored-told file =
    let some = states_some (calls_of file.recent ++ calls_in file.calls) file.lost.items file.content.items in
    (some.file, some.past, some.is)

-- What every crash image holds is synced.
pub leaves-synced : (entries : List (List ℕ)) (history : List File) → IfTold history (λ file. Image file file.kept) →
    IfTold history (OnlyLeaves (Shows version_1 entries)) → IfTold history (λ file. Shows version_1 entries file.kept)
leaves-synced entries [] image leaves = tt
leaves-synced entries (file ∷ past) image leaves = leaves file.kept image

-- After reopening, the synced part of the file is the entries.
pub attached-synced : (entries : List (List ℕ)) (before now : Device) → IsAttached before now entries → IfTold now.history (λ file. Image file file.kept) →
    IfTold now.history (λ file. Shows version_1 entries file.kept)
attached-synced entries before now attached image = leaves-synced entries now.history image attached.durable

module _ (entries : List (List ℕ)) where
  abbrev AreSynced : List File → List (List ℕ) → Type 0
  AreSynced history es = IfTold history (λ file. Shows version_1 es file.kept)

  alike : (before now : List File) (later : List (List ℕ)) → now ≡ before → later ≡ entries → AreSynced before entries → AreSynced now later
  alike before now later same added h =
      subst (λ (es : List (List ℕ)). AreSynced now es) (sym added) (subst (λ (f : List File). AreSynced f entries) (sym same) h)

  -- Whatever the answer to an event, the synced part of the file is the entries after that event.
  pub written-synced : (entry : List ℕ) (before now : Device) (later : List (List ℕ)) (answer : Result NodeAnswer Failed) → IsWritten entries entry before now later answer →
      IfTold now.history (λ file. Image file file.kept) → IfTold before.history (λ file. Shows version_1 entries file.kept) →
      IfTold now.history (λ file. Shows version_1 later file.kept)
  written-synced entry before now later (Ok (Node_taken outcome)) w image h =
      subst (λ (es : List (List ℕ)). AreSynced now.history es) (sym w.added) (leaves-synced (retained (entries ++ entry ∷ [])) now.history image w.file.1)
  written-synced entry before now later (Ok (Node_dropped why)) w image h = alike before.history now.history later w.file w.added h
  written-synced entry before now later (Err failed) w image h = subst (λ (es : List (List ℕ)). AreSynced now.history es) (sym w.added) w.file.1
  written-synced entry before now later (Ok Node_stale) w image h = alike before.history now.history later w.file w.added h
  written-synced entry before now later (Ok Node_no_memory) w image h = alike before.history now.history later w.file w.added h

  -- ---- a restart

  restarts-kept : (file : File) → file ≡ restarted file → file.content ≡ file.kept
  restarts-kept file h = ap (λ (f : File). f.content) h

  -- After a restart the file's content is what was synced, and it is still synced.
  pub restarts-read : (old new : List File) → Restarts old new → IfTold old (λ file. Shows version_1 entries file.kept) →
      IfTold new (λ file. Shows version_1 entries file.content) × IfTold new (λ file. Shows version_1 entries file.kept)
  restarts-read [] new h synced = rw h (tt, tt)
  restarts-read (file ∷ past) new (inl h) synced = rw h (synced, synced)
  restarts-read (file ∷ past) new (inr h) synced =
      rw h.0 (subst (λ (bytes : List ℕ). Shows version_1 entries bytes) (sym (restarts-kept file h.1)) synced, synced)

  -- The current file of a disk after a restart. `here` is the law of `Disk` with that name.
  module _ {D : Type 0} (state : D → Device) (here : (disk : D) → (state disk).history ≡ (state disk).files (state disk).current.name) (old new : D) where
    restarted-here : IsRestarted (state old) (state new) → Restarts (state old).history (state new).history
    restarted-here h =
        subst (λ (files : List File). Restarts files (state new).history) (sym (here old))
        (subst (λ (files : List File). Restarts ((state old).files (state old).current.name) files)
        (sym (here new ∙ ap (λ (place : Place). (state new).files place.name) h.current)) (h.files (state old).current.name))

    pub restarted-read : IsRestarted (state old) (state new) → IfTold (state old).history (λ file. Shows version_1 entries file.kept) →
        IfTold (state new).history (λ file. Shows version_1 entries file.content) × IfTold (state new).history (λ file. Shows version_1 entries file.kept)
    restarted-read h synced = restarts-read (state old).history (state new).history (restarted-here h) synced

-- A disk whose files do not change keeps its history.
pub stays-here : {D : Type 0} (state : D → Device) (here : (disk : D) → (state disk).history ≡ (state disk).files (state disk).current.name) (old new : D) →
    Stays (state old).current (state new).current (state old).files (state new).files → (state new).history ≡ (state old).history
stays-here state here old new h =
    here new ∙ ap (λ (place : Place). (state new).files place.name) h.place ∙ h.all (state old).current.name ∙ sym (here old)

-- ---- a new file

-- A new file holds no entries, neither in its content nor in its synced part.
pub new-read : (history : List File) → history ≡ settled [] ∷ [] →
    IfTold history (λ file. Shows version_1 [] file.content) × IfTold history (λ file. Shows version_1 [] file.kept)
new-read history is =
    let none : Shows version_1 [] [] = record { all = []; read = inl (omega arith, refl); stay = refl } in rw is (none, none)

-- ---- which calls succeed

-- If no call of the disk fails, reopening succeeds and leaves that so.
pub reopens-well : (before now : Device) (failed : Type 0) → LosesNone version_1 failed before now → before.passes ≡ script [] → (now.passes ≡ script []) × (failed → ⊥)
reopens-well before now failed h all = h.works all

no-pass : (P : Type 0) → true ≡ false → P
no-pass P h = absurd (cc)

-- If k calls succeed out of a budget of n, the budget left is n - k.
pub runs-passed : (k n : ℕ) (now : Passes) → Runs k (up_to n) now true → (k ≤ n) × (now ≡ up_to (n - k))
runs-passed zero n now h =
    let all : n ≡ n - 0 = omega arith in
    (omega arith, h.0 ∙ ap (λ (calls : ℕ). up_to calls) all)
runs-passed (suc k) zero now h = no-pass _ h.1
runs-passed (suc k) (suc n) now h =
    let rest = runs-passed k n now h in
    let fewer : suc n - suc k ≡ n - k = omega arith in
    (omega (arith, rest.0), rest.1 ∙ ap (λ (calls : ℕ). up_to calls) (sym fewer))

-- If one of k calls fails, the budget was below k, and every later call fails.
pub runs-failed : (k n : ℕ) (now : Passes) → Runs k (up_to n) now false → (n < k) × (now ≡ up_to 0)
runs-failed zero n now h = no-pass _ (sym h.1)
runs-failed (suc k) zero now h = (omega arith, h.0)
runs-failed (suc k) (suc n) now h = let rest = runs-failed k n now h in (omega (arith, rest.0), rest.1)

-- On a disk without faults these calls succeed, and so do all later ones.
pub runs-all : (k : ℕ) (now : Passes) (passed : Bool) → Runs k (script []) now passed → (passed ≡ true) × (now ≡ script [])
runs-all zero now passed h = (h.1, h.0)
runs-all (suc k) now passed h = runs-all k now passed h
