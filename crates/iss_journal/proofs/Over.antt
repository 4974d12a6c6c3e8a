-- An append to a file at rest, of whose entries some stay in memory.
use Rattle.std.proofs.Common.{arith, ◌≡◌, ℕ, ◌+◌, ◌≤◌, Bool, true, false, List, [], ◌∷◌, ◌++◌, length, refl, sym, ap, ◌∙◌, subst}
use Rattle.iss_disk.specs.File.{File, synced, wrote}
use Rattle.iss_disk.specs.Calls.{IfTold, Moves}
use Rattle.iss_journal.specs.Frames.{frames, holds, max_entry, Reads, version_1}
use Rattle.iss_journal.specs.Internal.Additions.{RestsWith}
use Rattle.iss_journal.specs.Promises.{EndsClosed, LeavesWithOrWithout, OnlyLeaves, RestsOn, Shows}
use Rattle.iss_journal.specs.RetainedViews.{Retains, gates_over, shown_in}
use Rattle.iss_journal.specs.Sound.{IsRead, RestsOver}
use Rattle.iss_journal.specs.declared.retained.Retained.{Retained}
use Rattle.iss_journal.proofs.Crash.{body}
use Rattle.iss_journal.proofs.FrameLemmas.{short-push}
use Rattle.iss_journal.proofs.Reading.{rests_durable, rests_start, told_so}
use Rattle.iss_journal.proofs.RetainedLemmas.{gates_are}
use Rattle.iss_journal.proofs.Steps.{Appended, Interrupted, exit1, exit2, exit3, exit4, finish, first_within, same_write, second_within, untold}

-- what is promised if a call fails
pub record Broken (kept : Retained) (entry : List ℕ) (old new : List File) : Type 0 where
  pub moment : LeavesWithOrWithout version_1 (shown_in kept) entry old new
  pub stays : IfTold new (λ file. Shows version_1 (shown_in kept) file.kept)

-- what is promised if all calls succeed
pub record Written (kept : Retained) (entry : List ℕ) (old new : List File) : Type 0 where
  pub moment : LeavesWithOrWithout version_1 (shown_in kept) entry old new
  pub rests : IfTold new (RestsWith kept entry)

module _ (kept : Retained) (entry : List ℕ) (fits : length entry ≤ max_entry) (gate : ℕ) (staged : List ℕ)
    (is_gate : gate ≡ kept.end) (is_staged : staged ≡ body entry) where
  abbrev write : File → File
  write = wrote (gate + 1) staged

  abbrev open_gate : File → File
  open_gate = wrote gate (1 ∷ [])

  none : (h new : List File) → h ≡ [] → new ≡ [] → Broken kept entry [] new
  none h new is is_new = record {
    moment = is_new;
    stays = subst (λ (l : List File). IfTold l (λ file. Shows version_1 (shown_in kept) file.kept)) (sym is_new) tt;
  }

  module _ (file : File) (past : List File) (over : RestsOver kept file) where
    abbrev all : List (List ℕ)
    all = over.all

    place : gate ≡ length (frames all)
    place = is_gate ∙ over.retains.ends

    pub writes : (passed : Bool) (h new : List File) → Moves write passed h new →
        Moves (wrote (length (frames all) + 1) (body entry)) passed h new
    writes passed h new = same_write (gate + 1) (length (frames all) + 1) staged (body entry) passed h new
        (ap (λ (n : ℕ). n + 1) place) is_staged

    pub opens : (passed : Bool) (h new : List File) → Moves open_gate passed h new →
        Moves (wrote (length (frames all)) (1 ∷ [])) passed h new
    opens passed h new = same_write gate (length (frames all)) (1 ∷ []) (1 ∷ []) passed h new place refl

    pub broken : (new : List File) → Interrupted all entry (file ∷ past) new → Broken kept entry (file ∷ past) new
    broken new i = record {
      moment = (all, over.retains.shown, i.moment);
      stays = told_so _ _ new i.kept (λ f read. record { all = all; read = read; stay = over.retains.shown });
    }

    pub written : (new : List File) → Appended all entry (file ∷ past) new → Written kept entry (file ∷ past) new
    written new a = record {
      moment = (all, over.retains.shown, a.moment);
      rests = told_so _ _ new a.file (λ f is. record {
        all = all;
        retains = over.retains;
        is = is;
        short = short-push all entry over.rests.short fits;
      });
    }

  pub over1 : (h0 h1 : List File) → IfTold h0 (RestsOver kept) → Moves write false h0 h1 → Broken kept entry h0 h1
  over1 [] h1 over w = none [] h1 refl w
  over1 (file ∷ past) h1 over w = broken file past over h1 (exit1 over.all entry fits (file ∷ past) h1 over.rests
      (writes file past over false (file ∷ past) h1 w))

  pub over2 : (h0 h1 h2 : List File) → IfTold h0 (RestsOver kept) → Moves write true h0 h1 → Moves synced false h1 h2 →
      Broken kept entry h0 h2
  over2 [] h1 h2 over w s = none h1 h2 w (untold synced false h1 h2 w s)
  over2 (file ∷ past) h1 h2 over w s =
      broken file past over h2 (exit2 over.all entry fits (file ∷ past) h1 h2 over.rests
      (writes file past over true (file ∷ past) h1 w) s)

  pub over3 : (h0 h1 h2 h3 : List File) → IfTold h0 (RestsOver kept) → Moves write true h0 h1 →
      Moves synced true h1 h2 → Moves open_gate false h2 h3 → Broken kept entry h0 h3
  over3 [] h1 h2 h3 over w s o =
      none h2 h3 (untold synced true h1 h2 w s) (untold open_gate false h2 h3 (untold synced true h1 h2 w s) o)
  over3 (file ∷ past) h1 h2 h3 over w s o =
      broken file past over h3 (exit3 over.all entry fits (file ∷ past) h1 h2 h3 over.rests
      (writes file past over true (file ∷ past) h1 w) s (opens file past over false h2 h3 o))

  pub over4 : (h0 h1 h2 h3 h4 : List File) → IfTold h0 (RestsOver kept) → Moves write true h0 h1 →
      Moves synced true h1 h2 → Moves open_gate true h2 h3 → Moves synced false h3 h4 → Broken kept entry h0 h4
  over4 [] h1 h2 h3 h4 over w s o t =
      none h3 h4 (untold open_gate true h2 h3 (untold synced true h1 h2 w s) o)
      (untold synced false h3 h4 (untold open_gate true h2 h3 (untold synced true h1 h2 w s) o) t)
  over4 (file ∷ past) h1 h2 h3 h4 over w s o t =
      broken file past over h4 (exit4 over.all entry fits (file ∷ past) h1 h2 h3 h4 over.rests
      (writes file past over true (file ∷ past) h1 w) s (opens file past over true h2 h3 o) t)

  pub finish_over : (h0 h1 h2 h3 h4 : List File) → IfTold h0 (RestsOver kept) → Moves write true h0 h1 →
      Moves synced true h1 h2 → Moves open_gate true h2 h3 → Moves synced true h3 h4 → Written kept entry h0 h4
  finish_over [] h1 h2 h3 h4 over w s o t =
      let last : h4 ≡ [] = untold synced true h3 h4 (untold open_gate true h2 h3 (untold synced true h1 h2 w s) o) t in
      record {
        moment = last;
        rests = subst (λ (l : List File). IfTold l (RestsWith kept entry)) (sym last) tt;
      }
  finish_over (file ∷ past) h1 h2 h3 h4 over w s o t =
      written file past over h4 (finish over.all entry fits (file ∷ past) h1 h2 h3 h4 over.rests
      (writes file past over true (file ∷ past) h1 w) s (opens file past over true h2 h3 o) t)

  -- the writes begin within the file
  pub first_over : (h0 : List File) → IfTold h0 (RestsOver kept) → IfTold h0 (λ file. gate + 1 ≤ length file.content)
  first_over [] over = tt
  first_over (file ∷ past) over =
      subst (λ (n : ℕ). n + 1 ≤ length file.content) (sym (place file past over))
      (first_within over.all entry fits (file ∷ past) over.rests)

  pub second_over : (h0 h1 h2 : List File) → IfTold h0 (RestsOver kept) → Moves write true h0 h1 →
      Moves synced true h1 h2 → IfTold h2 (λ file. gate ≤ length file.content)
  second_over [] h1 h2 over w s =
      subst (λ (l : List File). IfTold l (λ file. gate ≤ length file.content)) (sym (untold synced true h1 h2 w s)) tt
  second_over (file ∷ past) h1 h2 over w s =
      told_so _ _ h2 (second_within over.all entry fits (file ∷ past) h1 h2 over.rests
      (writes file past over true (file ∷ past) h1 w) s)
      (λ f le. subst (λ (n : ℕ). n ≤ length f.content) (sym (place file past over)) le)

-- ---- before and after

pub over_start : (h : List File) (kept : Retained) (entry : List ℕ) → IfTold h (RestsOver kept) →
    LeavesWithOrWithout version_1 (shown_in kept) entry h h
over_start [] kept entry over = refl
over_start (file ∷ past) kept entry over =
    (over.all, over.retains.shown, rests_start (file ∷ past) over.all entry over.rests)

-- what the journal shows is on the disk
pub over_durable : (h : List File) (kept : Retained) → IfTold h (RestsOver kept) →
    IfTold h (OnlyLeaves (Shows version_1 (shown_in kept)))
over_durable h kept over = told_so _ _ h over (λ file r c image.
    record { all = r.all; read = rests_durable (file ∷ []) r.all r.rests c image; stay = r.retains.shown })

-- the file rests on entries, and this is what stays of them
pub over_rests : (h : List File) (all : List (List ℕ)) (kept : Retained) → IfTold h (RestsOn all) → Retains all kept →
    IfTold h (RestsOver kept)
over_rests h all kept rests retains =
    told_so _ _ h rests (λ file r. record { all = all; retains = retains; rests = r })

module _ (old new : Retained) (entry : List ℕ)
    (grows : (all : List (List ℕ)) → Retains all old → Retains (all ++ entry ∷ []) new) where
  -- the new entry is in memory too
  pub over_added : (h : List File) → IfTold h (RestsWith old entry) → IfTold h (RestsOver new)
  over_added h more = told_so _ _ h more (λ file r. record {
    all = r.all ++ entry ∷ [];
    retains = grows r.all r.retains;
    rests = record { gate = 0; closed = λ e. omega arith; is = r.is; short = r.short };
  })

  pub over_closed : (h : List File) → IfTold h (RestsWith old entry) → IfTold h (EndsClosed (shown_in new))
  over_closed h more =
      told_so _ _ h more (λ file r. (r.all ++ entry ∷ [], r.is, (grows r.all r.retains).shown))

-- attached anew
pub is_read : (h : List File) (all : List (List ℕ)) (kept : Retained) →
    IfTold h (λ file. Reads version_1 file.content (holds all)) →
    Retains all kept → IsRead version_1 (shown_in kept) (gates_over kept) h
is_read h all kept read retains =
    record { all = all; read = read; stay = retains.shown; lie = gates_are all kept retains }
