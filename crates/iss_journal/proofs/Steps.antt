-- Sequences of device calls.
use Rattle.std.specs.Int.{w32, to_be_bytes}
use Rattle.std.proofs.Common.{◌≡◌, inl, inr, ⊎_elim, ℕ, zero, suc, ◌+◌, ◌<◌, ◌≤◌, Bool, true, false, Option, Some, None, List, [], ◌∷◌, ◌++◌, length, length-append, drop, refl, sym, ◌∙◌, ap, subst, arith, append_assoc}
use Rattle.std.proofs.lemmas.List.{drop_at, drop-drop}
use Rattle.std.proofs.lemmas.Bool.{true≢false, false≢true}
use Rattle.iss_disk.specs.File.{File, Image, settled, wrote, synced}
use Rattle.iss_disk.specs.Calls.{EachState, IfTold, IsBetween, Moves, Place, StaysHere, Stays, HasCause, Passes, outcome, next, AtOutcome, Runs}
use Rattle.iss_journal.specs.Frames.{frame, frames, holds, max_entry, Reads, version_1}
use Rattle.iss_journal.specs.Promises.{OnlyLeaves, LeavesOnly, HoldsWithOrWithout, RestsOn}
use Rattle.iss_journal.proofs.Crash as crash
use Rattle.iss_journal.proofs.FrameLemmas.{length-frame}

-- Passes

stop_at : (o : Option Bool) (n : ℕ) (before now : Passes) →
    AtOutcome o (now ≡ before) (Runs 0 (next before) now false) ((now ≡ next before) × (false ≡ false)) →
    AtOutcome o (now ≡ before) (Runs n (next before) now false) ((now ≡ next before) × (false ≡ false))
stop_at None n before now run = run
stop_at (Some true) n before now run = absurd (false≢true run.1)
stop_at (Some false) n before now run = run

-- a call that fails ends a sequence of calls
pub runs_stop : (n : ℕ) (before now : Passes) → Runs 1 before now false → Runs (suc n) before now false
runs_stop n before now run = stop_at (outcome before) n before now run

more_at : (o : Option Bool) (n : ℕ) (before mid now : Passes) (passed : Bool) → outcome before ≡ o →
    AtOutcome o (mid ≡ before) (Runs 0 (next before) mid true) ((mid ≡ next before) × (true ≡ false)) →
    Runs n mid now passed → AtOutcome o (now ≡ before) (Runs n (next before) now passed) ((now ≡ next before)
    × (passed ≡ false))
more_at None zero before mid now passed is run rest = rest.0 ∙ run
more_at None (suc n) before mid now passed is run rest =
    subst (λ (o : Option Bool). AtOutcome o (now ≡ mid) (Runs n (next mid) now passed) ((now ≡ next mid)
    × (passed ≡ false))) (ap outcome run ∙ is) rest ∙ run
more_at (Some true) n before mid now passed is run rest = subst (λ (p : Passes). Runs n p now passed) run.0 rest
more_at (Some false) n before mid now passed is run rest = absurd (true≢false run.1)

-- a call that succeeds comes before a sequence of calls
pub runs_more : (n : ℕ) (before mid now : Passes) (passed : Bool) → Runs 1 before mid true → Runs n mid now passed →
    Runs (suc n) before now passed
runs_more n before mid now passed run rest = more_at (outcome before) n before mid now passed refl run rest

-- Causes and other files

pub cause_more : (a b d : ℕ) (failed : Type 0) → a ≤ b → HasCause b d failed → HasCause a d failed
cause_more a b d failed le cause = record {
  never_falls = omega (arith, le, cause.never_falls);
  rose = λ f. ⊎_elim (λ lt. let up : a < d = omega (arith, le, lt) in inl up) (λ top. inr top) (cause.rose f);
}

pub stays_more : (n0 n1 n2 : Place) (f0 f1 f2 : List ℕ → List File) → StaysHere n0 n1 f0 f1 → StaysHere n1 n2 f1 f2 →
    StaysHere n0 n2 f0 f2
stays_more n0 n1 n2 f0 f1 f2 first second = record {
  place = second.place ∙ first.place;
  others = λ name other. second.others name (λ e. other (e ∙ ap (λ (p : Place). p.name) first.place)) ∙ first.others name other;
}

pub stays_here : (n0 n1 : Place) (f0 f1 : List ℕ → List File) → Stays n0 n1 f0 f1 → StaysHere n0 n1 f0 f1
stays_here n0 n1 f0 f1 stays = record { place = stays.place; others = λ name other. stays.all name }

-- States

pub each_append : (P : File → Type 0) (xs ys : List File) → EachState P xs → EachState P ys → EachState P (xs ++ ys)
each_append P [] ys px py = py
each_append P (x ∷ xs) ys px py = (px.0, each_append P xs ys px.1 py)

pub between_leaves : (P : List ℕ → Type 0) (states : List File) (f g : File) → OnlyLeaves P f → OnlyLeaves P g →
    EachState (IsBetween f g) states → EachState (OnlyLeaves P) states
between_leaves P [] f g pf pg each = tt
between_leaves P (s ∷ states) f g pf pg each = (
  λ c image. ⊎_elim (pf c) (pg c) (each.0.images c image),
  between_leaves P states f g pf pg each.1,
)

pub between_kept : (K : List ℕ → Type 0) (states : List File) (f g : File) (past : List File) →
    EachState (IsBetween f g) states → K f.kept → IfTold (states ++ f ∷ past) (λ s. K s.kept)
between_kept K [] f g past each k = k
between_kept K (s ∷ states) f g past each k = subst K (sym each.0.kept) k

pub untold : (change : File → File) (passed : Bool) (h new : List File) → h ≡ [] → Moves change passed h new → new ≡ []
untold change passed h new is moves = subst (λ (l : List File). Moves change passed l new) is moves

-- one more call, after which P holds for every crash image
pub goes_on : (P : List ℕ → Type 0) (file : File) (past h new : List File) (change : File → File) (passed : Bool)
    (now : File) (before : List File) → LeavesOnly P (file ∷ past) h → h ≡ now ∷ before → OnlyLeaves P now →
    OnlyLeaves P (change now) → Moves change passed h new → LeavesOnly P (file ∷ past) new
goes_on P file past h new change passed now before so_far is here there moves =
    goes (passed) (subst (λ (l : List File). Moves change passed l new) is moves)
  where
    whole : now ∷ before ≡ so_far.0 ++ file ∷ past
    whole = sym is ∙ so_far.1

    goes : (b : Bool) → Moves change b (now ∷ before) new → LeavesOnly P (file ∷ past) new
    goes true made = (
      change now ∷ so_far.0,
      made ∙ ap (λ (l : List File). change now ∷ l) whole,
      so_far.2,
      (there, so_far.3),
    )
    goes false made = (
      made.0 ++ so_far.0,
      made.1 ∙ ap (λ (l : List File). made.0 ++ l) whole
          ∙ sym (append_assoc made.0 so_far.0 (file ∷ past)),
      so_far.2,
      each_append (OnlyLeaves P) made.0 so_far.0
          (between_leaves P made.0 now (change now) here there made.2) so_far.3,
    )

-- An append

-- the file is these entries and a closed gate, all synced
abbrev pub IsClosed : List (List ℕ) → File → Type 0
IsClosed entries file = file ≡ settled (frames entries ++ 0 ∷ [])

-- what is promised if a call fails
pub record Interrupted (entries : List (List ℕ)) (entry : List ℕ) (old new : List File) : Type 0 where
  pub moment : LeavesOnly (HoldsWithOrWithout version_1 entries entry) old new
  pub kept : IfTold new (λ file. Reads version_1 file.kept (holds entries))

-- what is promised if all calls succeed
pub record Appended (entries : List (List ℕ)) (entry : List ℕ) (old new : List File) : Type 0 where
  pub moment : LeavesOnly (HoldsWithOrWithout version_1 entries entry) old new
  pub rests : IfTold new (RestsOn (entries ++ entry ∷ []))
  pub file : IfTold new (IsClosed (entries ++ entry ∷ []))

module _ (entries : List (List ℕ)) (entry : List ℕ) (fits : length entry ≤ max_entry) where
  abbrev last : ℕ
  last = length (frames entries)

  abbrev P : List ℕ → Type 0
  P = HoldsWithOrWithout version_1 entries entry

  abbrev K : List ℕ → Type 0
  K bytes = Reads version_1 bytes (holds entries)

  abbrev write : File → File
  write = wrote (last + 1) (crash.body entry)

  abbrev open_gate : File → File
  open_gate = wrote last (1 ∷ [])

  nothing : (h new : List File) → h ≡ [] → new ≡ [] → Interrupted entries entry [] new
  nothing h new is is_new =
      record { moment = is_new; kept = subst (λ (l : List File). IfTold l (λ file. K file.kept)) (sym is_new) tt }

  module _ (file : File) (past : List File) (rests : RestsOn entries file) where
    abbrev rest : List ℕ
    rest = frames entries ++ rests.gate ∷ []

    abbrev staged : List ℕ
    staged = frames entries ++ rests.gate ∷ crash.body entry

    at_start : OnlyLeaves P file
    at_start = subst (OnlyLeaves P) (sym rests.is)
        (crash.at_rest entries entry rests.gate rests.short fits rests.closed)

    written : OnlyLeaves P (write file)
    written = subst (λ (f : File). OnlyLeaves P (write f)) (sym rests.is)
        (crash.behind entries entry rests.gate rests.short fits rests.closed)

    is_staged : synced (write file) ≡ settled staged
    is_staged = ap (λ (f : File). synced (write f)) rests.is
        ∙ ap settled (crash.written_behind entries entry rests.gate rests.short fits rests.closed)

    on_disk : OnlyLeaves P (synced (write file))
    on_disk = subst (OnlyLeaves P) (sym is_staged)
        (crash.staged_rest entries entry rests.gate rests.short fits rests.closed)

    opens : OnlyLeaves P (open_gate (synced (write file)))
    opens = subst (λ (f : File). OnlyLeaves P (open_gate f)) (sym is_staged)
        (crash.opening entries entry rests.gate rests.short fits rests.closed)

    is_appended : RestsOn (entries ++ entry ∷ []) (synced (open_gate (synced (write file))))
    is_appended = subst (λ (f : File). RestsOn (entries ++ entry ∷ []) (synced (open_gate f))) (sym is_staged)
        (crash.rests entries entry rests.gate rests.short fits rests.closed)

    is_closed : IsClosed (entries ++ entry ∷ []) (synced (open_gate (synced (write file))))
    is_closed = ap (λ (f : File). synced (open_gate f)) is_staged
        ∙ ap settled (crash.opened entries entry rests.gate rests.short fits rests.closed)

    in_place : OnlyLeaves P (synced (open_gate (synced (write file))))
    in_place c image = inr (reads_rest (entries ++ entry ∷ [])
        (synced (open_gate (synced (write file)))) is_appended c image)
      where
        reads_rest : (es : List (List ℕ)) (f : File) → RestsOn es f → (c : List ℕ) → Image f c → Reads version_1 c (holds es)
        reads_rest es f r c image =
            crash.reads_closed es r.gate [] c r.short r.closed
            (crash.only_settled (frames es ++ r.gate ∷ []) c (subst (λ (g : File). Image g c) r.is image))

    kept_rest : K file.kept
    kept_rest = subst (λ (f : File). K f.kept) (sym rests.is)
        (crash.rest_reads entries entry rests.gate rests.short fits rests.closed)

    kept_staged : K (synced (write file)).kept
    kept_staged = subst (λ (f : File). K f.kept) (sym is_staged)
        (crash.staged_reads entries entry rests.gate rests.short fits rests.closed)

    m0 : LeavesOnly P (file ∷ past) (file ∷ past)
    m0 = ([], refl, at_start, tt)

    pub told1 : (passed : Bool) (h1 : List File) → Moves write passed (file ∷ past) h1 → LeavesOnly P (file ∷ past) h1
    told1 passed h1 w = goes_on P file past (file ∷ past) h1 write passed file past m0 refl at_start written w

    pub told2 : (passed : Bool) (h1 h2 : List File) → Moves write true (file ∷ past) h1 → Moves synced passed h1 h2 →
        LeavesOnly P (file ∷ past) h2
    told2 passed h1 h2 w s = goes_on P file past h1 h2 synced passed (write file) (file ∷ past)
        (told1 true h1 w) w written on_disk s

    -- the states after two successful calls
    two : (h1 h2 : List File) → Moves write true (file ∷ past) h1 → Moves synced true h1 h2 →
        h2 ≡ synced (write file) ∷ write file ∷ file ∷ past
    two h1 h2 w s = subst (λ (l : List File). Moves synced true l h2) w s

    pub told3 : (passed : Bool) (h1 h2 h3 : List File) → Moves write true (file ∷ past) h1 → Moves synced true h1 h2 →
        Moves open_gate passed h2 h3 → LeavesOnly P (file ∷ past) h3
    told3 passed h1 h2 h3 w s o =
        goes_on P file past h2 h3 open_gate passed (synced (write file)) (write file ∷ file ∷ past)
        (told2 true h1 h2 w s) (two h1 h2 w s) on_disk opens o

    three : (h1 h2 h3 : List File) → Moves write true (file ∷ past) h1 → Moves synced true h1 h2 →
        Moves open_gate true h2 h3 →
        h3 ≡ open_gate (synced (write file)) ∷ synced (write file) ∷ write file ∷ file ∷ past
    three h1 h2 h3 w s o = subst (λ (l : List File). Moves open_gate true l h3) (two h1 h2 w s) o

    pub told4 : (passed : Bool) (h1 h2 h3 h4 : List File) → Moves write true (file ∷ past) h1 →
        Moves synced true h1 h2 → Moves open_gate true h2 h3 → Moves synced passed h3 h4 → LeavesOnly P (file ∷ past) h4
    told4 passed h1 h2 h3 h4 w s o t =
        goes_on P file past h3 h4 synced passed (open_gate (synced (write file)))
        (synced (write file) ∷ write file ∷ file ∷ past) (told3 true h1 h2 h3 w s o)
        (three h1 h2 h3 w s o) opens in_place t

    pub kept1 : (h1 : List File) → Moves write false (file ∷ past) h1 → IfTold h1 (λ f. K f.kept)
    kept1 h1 w = subst (λ (l : List File). IfTold l (λ f. K f.kept)) (sym w.1)
        (between_kept K w.0 file (write file) past w.2 kept_rest)

    pub kept2 : (h1 h2 : List File) → Moves write true (file ∷ past) h1 → Moves synced false h1 h2 →
        IfTold h2 (λ f. K f.kept)
    kept2 h1 h2 w s =
        let made = subst (λ (l : List File). Moves synced false l h2) w s in
        subst (λ (l : List File). IfTold l (λ f. K f.kept)) (sym made.1)
        (between_kept K made.0 (write file) (synced (write file)) (file ∷ past) made.2 kept_rest)

    pub kept3 : (h1 h2 h3 : List File) → Moves write true (file ∷ past) h1 → Moves synced true h1 h2 →
        Moves open_gate false h2 h3 → IfTold h3 (λ f. K f.kept)
    kept3 h1 h2 h3 w s o =
        let made = subst (λ (l : List File). Moves open_gate false l h3) (two h1 h2 w s) o in
        subst (λ (l : List File). IfTold l (λ f. K f.kept)) (sym made.1)
        (between_kept K made.0 (synced (write file)) (open_gate (synced (write file)))
        (write file ∷ file ∷ past) made.2 kept_staged)

    pub kept4 : (h1 h2 h3 h4 : List File) → Moves write true (file ∷ past) h1 → Moves synced true h1 h2 →
        Moves open_gate true h2 h3 → Moves synced false h3 h4 → IfTold h4 (λ f. K f.kept)
    kept4 h1 h2 h3 h4 w s o t =
        let made = subst (λ (l : List File). Moves synced false l h4) (three h1 h2 h3 w s o) t in
        subst (λ (l : List File). IfTold l (λ f. K f.kept)) (sym made.1)
        (between_kept K made.0 (open_gate (synced (write file))) (synced (open_gate (synced (write file))))
        (synced (write file) ∷ write file ∷ file ∷ past) made.2 kept_staged)

    -- what holds for the file after all four calls
    pub after4 : (Q : File → Type 0) (h1 h2 h3 h4 : List File) → Moves write true (file ∷ past) h1 →
        Moves synced true h1 h2 → Moves open_gate true h2 h3 → Moves synced true h3 h4 →
        Q (synced (open_gate (synced (write file)))) → IfTold h4 Q
    after4 Q h1 h2 h3 h4 w s o t is =
        let made : h4 ≡ synced (open_gate (synced (write file))) ∷ open_gate (synced (write file)) ∷ synced
        (write file) ∷ write file ∷ file ∷ past =
        subst (λ (l : List File). Moves synced true l h4) (three h1 h2 h3 w s o) t in
        subst (λ (l : List File). IfTold l Q) (sym made) is

  pub exit1 : (h0 h1 : List File) → IfTold h0 (RestsOn entries) → Moves write false h0 h1 →
      Interrupted entries entry h0 h1
  exit1 [] h1 rests w = nothing [] h1 refl w
  exit1 (file ∷ past) h1 rests w =
      record { moment = told1 file past rests false h1 w; kept = kept1 file past rests h1 w }

  pub exit2 : (h0 h1 h2 : List File) → IfTold h0 (RestsOn entries) → Moves write true h0 h1 → Moves synced false h1 h2 →
      Interrupted entries entry h0 h2
  exit2 [] h1 h2 rests w s = nothing h1 h2 w (untold synced false h1 h2 w s)
  exit2 (file ∷ past) h1 h2 rests w s =
      record { moment = told2 file past rests false h1 h2 w s; kept = kept2 file past rests h1 h2 w s }

  pub exit3 : (h0 h1 h2 h3 : List File) → IfTold h0 (RestsOn entries) → Moves write true h0 h1 →
      Moves synced true h1 h2 → Moves open_gate false h2 h3 → Interrupted entries entry h0 h3
  exit3 [] h1 h2 h3 rests w s o =
      nothing h2 h3 (untold synced true h1 h2 w s) (untold open_gate false h2 h3 (untold synced true h1 h2 w s) o)
  exit3 (file ∷ past) h1 h2 h3 rests w s o =
      record { moment = told3 file past rests false h1 h2 h3 w s o; kept = kept3 file past rests h1 h2 h3 w s o }

  pub exit4 : (h0 h1 h2 h3 h4 : List File) → IfTold h0 (RestsOn entries) → Moves write true h0 h1 →
      Moves synced true h1 h2 → Moves open_gate true h2 h3 → Moves synced false h3 h4 → Interrupted entries entry h0 h4
  exit4 [] h1 h2 h3 h4 rests w s o t =
      nothing h3 h4 (untold open_gate true h2 h3 (untold synced true h1 h2 w s) o)
      (untold synced false h3 h4 (untold open_gate true h2 h3 (untold synced true h1 h2 w s) o) t)
  exit4 (file ∷ past) h1 h2 h3 h4 rests w s o t =
      record {
        moment = told4 file past rests false h1 h2 h3 h4 w s o t;
        kept = kept4 file past rests h1 h2 h3 h4 w s o t;
      }

  pub finish : (h0 h1 h2 h3 h4 : List File) → IfTold h0 (RestsOn entries) → Moves write true h0 h1 →
      Moves synced true h1 h2 → Moves open_gate true h2 h3 → Moves synced true h3 h4 → Appended entries entry h0 h4
  finish [] h1 h2 h3 h4 rests w s o t =
      let none : h4 ≡ [] = untold synced true h3 h4 (untold open_gate true h2 h3 (untold synced true h1 h2 w s) o) t in
      record {
        moment = none;
        rests = subst (λ (l : List File). IfTold l (RestsOn (entries ++ entry ∷ []))) (sym none) tt;
        file = subst (λ (l : List File). IfTold l (IsClosed (entries ++ entry ∷ []))) (sym none) tt;
      }
  finish (file ∷ past) h1 h2 h3 h4 rests w s o t = record {
    moment = told4 file past rests true h1 h2 h3 h4 w s o t;
    rests = after4 file past rests (RestsOn (entries ++ entry ∷ [])) h1 h2 h3 h4 w s o t (is_appended file past rests);
    file = after4 file past rests (IsClosed (entries ++ entry ∷ [])) h1 h2 h3 h4 w s o t (is_closed file past rests);
  }

  -- the writes begin within the file
  pub first_within : (h0 : List File) → IfTold h0 (RestsOn entries) → IfTold h0 (λ file. last + 1 ≤ length file.content)
  first_within [] rests = tt
  first_within (file ∷ past) rests =
      omega (
        arith,
        ap (λ (f : File). length f.content) rests.is,
        crash.length_rest entries entry rests.gate rests.short fits rests.closed,
      )

  pub second_within : (h0 h1 h2 : List File) → IfTold h0 (RestsOn entries) → Moves write true h0 h1 →
      Moves synced true h1 h2 → IfTold h2 (λ file. last ≤ length file.content)
  second_within [] h1 h2 rests w s =
      subst (λ (l : List File). IfTold l (λ file. last ≤ length file.content)) (sym (untold synced true h1 h2 w s)) tt
  second_within (file ∷ past) h1 h2 rests w s =
      subst (λ (l : List File). IfTold l (λ file. last ≤ length file.content)) (sym (two file past rests h1 h2 w s))
      (omega (
        arith,
        ap (λ (f : File). length f.content) (is_staged file past rests),
        crash.length_staged entries entry rests.gate rests.short fits rests.closed,
      ))

-- what is staged after the gate
pub is_body : (entries : List (List ℕ)) (entry bytes behind : List ℕ) →
    bytes ≡ frames entries ++ (frame entry ++ 0 ∷ []) → behind ≡ drop (length (frames entries) + 1) bytes →
    behind ≡ crash.body entry
is_body entries entry bytes behind is is_behind =
    is_behind ∙ ap (drop (length (frames entries) + 1)) is
    ∙ sym (drop-drop 1 (length (frames entries)) (frames entries ++ (frame entry ++ 0 ∷ [])))
    ∙ ap (drop 1) (drop_at (frames entries) (frame entry ++ 0 ∷ []) (length (frames entries)) refl)

pub length-body : (entry : List ℕ) → length (crash.body entry) ≡ length entry + 5
length-body entry =
    omega (
      arith,
      length-append (to_be_bytes w32 (length entry) ++ entry) (0 ∷ []),
      length-frame entry,
    )

-- a write of the same bytes at the same offset
pub same_write : (at to : ℕ) (bytes others : List ℕ) (passed : Bool) (h new : List File) → at ≡ to → bytes ≡ others →
    Moves (wrote at bytes) passed h new → Moves (wrote to others) passed h new
same_write at to bytes others passed h new is_at is_bytes moves =
    subst (λ (n : ℕ). Moves (wrote n others) passed h new) is_at
    (subst (λ (l : List ℕ). Moves (wrote at l) passed h new) is_bytes moves)
