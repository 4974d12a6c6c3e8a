-- What attaching leaves at each of its exits: before its first sync, where that fails, and behind it.
use Rattle.std.proofs.Common.{arith, ◌≡◌, ◌≤◌, ℕ, Bool, true, false, Ok, Err, List, [], ◌∷◌, inl, inr, refl, sym, ap, ◌∙◌, subst}
use Rattle.iss_disk.specs.File.{File, Image, settled, synced}
use Rattle.iss_disk.specs.Calls.{Changes, Device, IfTold, OnlyMakesRoom, Passes, Place, Rose, Runs, StaysHere, script}
use Rattle.iss_journal.specs.EntryViews.{entries_in}
use Rattle.iss_journal.specs.Frames.{damaged, holds, Reads, version_1}
use Rattle.iss_journal.specs.Internal.Settling.{IsLeftDamaged, IsLoaded, OnlyLoads}
use Rattle.iss_journal.specs.Promises.{ComesToRest, LosesNone, LosesNothing, StaysDamaged}
use Rattle.iss_journal.specs.RetainedViews.{Retains, gates_over, shown_in}
use Rattle.iss_journal.specs.Sound.{IsAttached}
use Rattle.iss_journal.specs.declared.entries.Entries.{Entries}
use Rattle.iss_journal.specs.declared.retained.Retained.{Retained}
use Rattle.iss_journal.proofs.Over.{is_read, over_durable, over_rests}
use Rattle.iss_journal.proofs.Reading.{before_sync, history_same, loses_start, settles, sync_fails, sync_then}

rose_since : (a b c : ℕ) → a ≤ b → Rose b c → Rose a c
rose_since a b c le (inl lt) = inl (omega (arith, le, lt))
rose_since a b c le (inr full) = inr full

-- one call, of a disk whose calls all succeed
one_runs : (p q : Passes) (passed : Bool) → Runs 1 p q passed → p ≡ script [] → (q ≡ script []) × (passed ≡ true)
one_runs p q passed runs is = subst (λ (before : Passes). Runs 1 before q passed) is runs

not_so : (b : Bool) → b ≡ true → b ≡ false → ⊥
not_so b is other = cc

module _ (d0 d1 : Device) (here0 : d0.history ≡ d0.files d0.current.name)
    (here1 : d1.history ≡ d1.files d1.current.name) (made : OnlyMakesRoom d0 d1) where
  pub same : d1.history ≡ d0.history
  same = history_same d0 d1 here0 here1 made.same

  -- before the first sync
  pub only_room : (failed : Type 0) → (failed → ⊥) → LosesNone version_1 failed d0 d1
  only_room failed never = record {
    any_moment = subst (λ (h : List File). LosesNothing version_1 d0.history h) (sym same) (loses_start d0.history);
    others = record { place = made.same.place; others = λ name other. made.same.all name };
    cause = record { never_falls = omega (arith, made.faults); rose = λ f. absurd (never f) };
    works = λ sound. (made.passes ∙ sound, never);
  }

  others_then : (d2 : Device) → StaysHere d1.current d2.current d1.files d2.files →
      StaysHere d0.current d2.current d0.files d2.files
  others_then d2 stays = record {
    place = stays.place ∙ made.same.place;
    others = λ name other.
        stays.others name (λ e. other (e ∙ ap (λ (p : Place). p.name) made.same.place)) ∙ made.same.all name;
  }

  module _ (d2 : Device)
      (read : (file : File) (past : List File) → d1.history ≡ file ∷ past → Image file file.content) where
    -- the first sync failed
    pub sync_failed : {T E : Type 0} (e : E) (failed : Type 0) → Changes {T = T} {E = E} synced 0 (Err e) d1 d2 →
        LosesNone version_1 failed d0 d2
    sync_failed e failed c = record {
      any_moment = subst (λ (h : List File). LosesNothing version_1 h d2.history) same
          (sync_fails d1.history d2.history read c.file);
      others = others_then d2 c.others;
      cause = record {
        never_falls = omega (arith, c.cause.never_falls, made.faults);
        rose = λ f. rose_since d0.faults d1.faults d2.faults (omega (arith, made.faults)) (c.cause.rose refl);
      };
      works = λ sound.
          absurd (not_so false (one_runs d1.passes d2.passes false c.device (made.passes ∙ sound)).1 refl);
    }

    -- the file was loaded
    pub then_loaded : {T E : Type 0} (x : T) (d3 : Device) (failed in_load : Type 0) → (failed → in_load) →
        Changes {T = T} {E = E} synced 0 (Ok x) d1 d2 → OnlyLoads version_1 in_load d2 d3 →
        LosesNone version_1 failed d0 d3
    then_loaded x d3 failed in_load so c l = record {
      any_moment = subst (λ (h : List File). LosesNothing version_1 h d3.history) same
          (sync_then d1.history d2.history d3.history read c.file l.any_moment);
      others = others_then d3 (record {
        place = l.others.place ∙ c.others.place;
        others = λ name other.
            l.others.others name (λ e. other (e ∙ ap (λ (p : Place). p.name) c.others.place))
            ∙ c.others.others name other;
      });
      cause = record {
        never_falls = omega (arith, made.faults, c.cause.never_falls, l.cause.never_falls);
        rose = λ f.
            rose_since d0.faults d2.faults d3.faults (omega (arith, made.faults, c.cause.never_falls))
            (l.cause.rose (so f));
      };
      works = λ sound.
          let runs = l.works (one_runs d1.passes d2.passes true c.device (made.passes ∙ sound)).0 in
          (runs.0, λ f. runs.1 (so f));
    }

  -- the file was damaged, and stays
  pub then_damaged : {T E : Type 0} (x : T) (d2 d3 : Device) (at : ℕ) → Changes {T = T} {E = E} synced 0 (Ok x) d1 d2 →
      IsLeftDamaged version_1 at d2.history d3.history → StaysDamaged version_1 at d0.history d3.history
  then_damaged x d2 d3 at c l = record {
    damaged = subst (λ (h : List File). IfTold h (λ file. Reads version_1 file.content (damaged at))) same
        (before_sync (λ bytes. Reads version_1 bytes (damaged at)) d1.history d2.history c.file l.damaged);
    damaged_stays = subst
        (λ (h : List File). IfTold h (λ from. IfTold d3.history (λ to. to ≡ settled from.content))) same
        (subst (λ (h : List File). IfTold d1.history (λ from. IfTold h (λ to. to ≡ settled from.content)))
        (sym l.damaged_stays) (settles d1.history d2.history c.file));
  }

  -- the file's entries were read
  pub then_attached : {T E : Type 0} (x : T) (d2 d3 : Device) (all : Entries) (kept : Retained) →
      Changes {T = T} {E = E} synced 0 (Ok x) d1 d2 → IsLoaded version_1 d2.history d3.history all →
      Retains (entries_in all) kept → IsAttached version_1 (shown_in kept) (gates_over kept) d0.history d3.history
  then_attached x d2 d3 all kept c l retains =
      let es = entries_in all in
      record {
        read = is_read d0.history es kept
            (subst (λ (h : List File). IfTold h (λ file. Reads version_1 file.content (holds es))) same
            (before_sync (λ bytes. Reads version_1 bytes (holds es)) d1.history d2.history c.file l.read)) retains;
        file = subst (λ (h : List File). IfTold h (λ file. IfTold d3.history (ComesToRest file.content))) same
            (before_sync (λ bytes. IfTold d3.history (ComesToRest bytes)) d1.history d2.history c.file l.file);
        durable = over_durable d3.history kept (over_rests d3.history es kept l.rests retains);
      }
