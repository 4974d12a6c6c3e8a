-- What an answer says about the journal's disk.
use Rattle.std.proofs.Common.{◌≡◌, inl, inr, ℕ, true, List, [], ◌∷◌, Option, Result, Ok, Err, refl, sym, ap, ◌∙◌, subst}
use Rattle.iss_disk.specs.Calls.{Device, HasCause, IfTold}
use Rattle.iss_disk.specs.File.{File, settled}
use Rattle.iss_journal.specs.Frames.{damaged, Reads, version_1}
use Rattle.iss_journal.specs.Promises.{ComesToRest, LosesNone, Shows, StaysDamaged}
use Rattle.iss_journal.specs.Retained.{retained}
use Rattle.iss_journal.proofs.Retaining.{retained-twice}
use Rattle.iss_journal.specs.Sound.{IsAttached as IsAttachedAt, IsRead, JournalState}
use Rattle.iss_journal.specs.declared.errors.AttachError.{AttachError}
use Rattle.iss_journal.specs.declared.errors.AttachError.TheVariants.{Damaged, Failed, NoMemory}
use Rattle.iss_disk.specs.declared.errors.EndError.{EndError}
use Rattle.iss_node.specs.State.{NodeView}
use Rattle.iss_request.specs.declared.ids.NodeId.{NodeId}
use Rattle.iss_request.specs.declared.setups.Setup.{Setup}
use Rattle.iss_sb.specs.Calls.{Relation}
use Rattle.iss_sb.specs.Evidence.{Module}
use Rattle.iss_keep.specs.Cores.{StopsAt}
use Rattle.iss_keep.specs.Internal.Keeping.{HasAppended}
use Rattle.iss_keep.specs.Internal.Replays.{IsBackAt, IsOpening, IsRecovery}
use Rattle.iss_keep.specs.Steps.{IsLeft, IsRefused}

-- The cause of one failure is the cause of every failure that implies it.
caused-by : (before now : ℕ) (P Q : Type 0) → (Q → P) → HasCause before now P → HasCause before now Q
caused-by before now P Q leads h = record { never_falls = h.never_falls; rose = λ q. h.rose (leads q) }

-- The journal was attached, and no failure of the disk is reported.
pub loses-none : (before now : Device) (P Q : Type 0) → (Q → ⊥) → LosesNone version_1 P before now → LosesNone version_1 Q before now
loses-none before now P Q none h = record {
  any_moment = h.any_moment;
  others = h.others;
  cause = caused-by before.faults now.faults P Q (λ q. absurd (none q)) h.cause;
  works = λ sound. ((h.works sound).0, none);
}

pub no-error : {A E : Type 0} (x : A) (e : E) → ◌≡◌ {A = Result A E} (Ok x) (Err e) → ⊥
no-error x e h = cc

same-error : {A E : Type 0} (e d : E) → ◌≡◌ {A = Result A E} (Err e) (Err d) → e ≡ d
same-error e d h = cc

-- ---- what a refusal leaves of the file

pub left-damaged : (entries : List (List ℕ)) (before now : List File) (at : ℕ) →
    IfTold before (λ file. Reads version_1 file.content (damaged at)) →
    IfTold before (λ from. IfTold now (λ file. file ≡ settled from.content)) → IsLeft entries before now at
left-damaged entries [] now at damage stays = tt
left-damaged entries (file ∷ past) now at damage stays = inl (damage, stays)

-- ---- a journal that was read

pub read-shows : (entries : List (List ℕ)) (gates : List ℕ) (before : List File) → IsRead version_1 entries gates before →
    IfTold before (λ file. Shows version_1 entries file.content)
read-shows entries gates [] h = tt
read-shows entries gates (file ∷ past) h = record { all = h.all; read = h.read; stay = h.stay }

-- A journal shows what stays of some entries, so all of these stay.
pub read-stays : (entries : List (List ℕ)) (gates : List ℕ) (before : List File) → IsRead version_1 entries gates before → retained entries ≡ entries
read-stays entries gates before h = ap retained h.stay ∙ retained-twice h.all ∙ sym h.stay

pub left-read : (entries : List (List ℕ)) (gates : List ℕ) (before now : List File) (at : ℕ) → IsRead version_1 entries gates before →
    IfTold before (λ from. IfTold now (ComesToRest from.content)) → IsLeft entries before now at
left-read entries gates [] now at h rest = tt
left-read entries gates (file ∷ past) now at h rest = inr (record { all = h.all; read = h.read; stay = h.stay }, rest)

-- ---- the answer of an opening

-- The file itself is damaged.
pub not-attached : {Msg : Type 0} (s : Setup) (m : Module Msg) (me : ℕ) (entries : List (List ℕ)) (before now : Device) (at : ℕ) →
    StaysDamaged version_1 at before.history now.history → IsRefused s m me entries before now at
not-attached s m me entries before now at h =
    record { damaged = inl h.damaged; left = left-damaged entries before.history now.history at h.damaged h.damaged_stays }

module _ {M Msg D : Type 0} (state : D → Device) (s : Setup) (m : Module Msg) (refines : Relation M Msg) (me : NodeId) (before now : JournalState D) where
  -- The journal was attached, and the node recovered from it, or not.
  pub opened : IsAttachedAt version_1 now.entries now.gates (state before.disk).history (state now.disk).history → now.attached ≡ true → (r : Result (NodeView M Msg) AttachError) → IsRecovery (IsBackAt s m refines me now.entries) s m me.0 now r →
      IsOpening state s m refines me before now r
  opened attached on (Ok node) back = record {
    back = back;
    stay = read-stays now.entries now.gates (state before.disk).history attached.read;
    attached = record {
      read = read-shows now.entries now.gates (state before.disk).history attached.read;
      rest = attached.file;
      durable = attached.durable;
    };
    is_attached = on;
  }
  opened attached on (Err (Damaged at)) stops = record {
    damaged = inr (now.gates, attached.read, stops);
    left = left-read now.entries now.gates (state before.disk).history (state now.disk).history at attached.read attached.file;
  }
  opened attached on (Err Failed) none = absurd none
  opened attached on (Err NoMemory) h = tt

  -- The journal was not attached.
  pub unopened : (e : AttachError) →
      ((at : ℕ) → ◌≡◌ {A = Result (Unit {0}) AttachError} (Err e) (Err (Damaged at)) → StaysDamaged version_1 at (state before.disk).history (state now.disk).history) →
      IsOpening state s m refines me before now (Err e)
  unopened (Damaged at) h = not-attached s m me.0 now.entries (state before.disk) (state now.disk) at (h at refl)
  unopened Failed h = tt
  unopened NoMemory h = tt

  -- What is said of damage.
  pub refused : {T : Type 0} (e : AttachError) → IsOpening state s m refines me before now (Err e) → (at : ℕ) → ◌≡◌ {A = Result T AttachError} (Err e) (Err (Damaged at)) →
      IsRefused s m me.0 now.entries (state before.disk) (state now.disk) at
  refused e h at is = subst (λ (z : AttachError). IsOpening state s m refines me before now (Err z)) (same-error e (Damaged at) is) h

-- ---- a recovery that fails

-- A recovery never answers that the disk failed.
pub recovers-soundly : {Msg D T : Type 0} (s : Setup) (m : Module Msg) (me : ℕ) (journal : JournalState D) (P : T → Type 0) (r : Result T AttachError) →
    IsRecovery P s m me journal r → r ≡ Err Failed → ⊥
recovers-soundly {T = T} s m me journal P r h is = subst (λ (z : Result T AttachError). IsRecovery P s m me journal z) is h

-- An entry leads nowhere. Of an error it does not matter what would have been returned.
pub recovers-stopped : {Msg D : Type 0} (s : Setup) (m : Module Msg) (me : ℕ) (journal : JournalState D) (e : AttachError) (gate : ℕ) →
    e ≡ Damaged gate → StopsAt s m me gate journal.entries journal.gates → IsRecovery {T = Unit {0}} (λ x. Unit {0}) s m me journal (Err e)
recovers-stopped s m me journal e gate is h =
    subst (λ (z : AttachError). IsRecovery {T = Unit {0}} (λ x. Unit {0}) s m me journal (Err z)) (sym is) h

-- ---- the answer of an append

-- The result of an append, under another name.
pub appended-as : {D T : Type 0} (state : D → Device) (own : List ℕ) (entered later : Option (List ℕ)) (old new : JournalState D) (r q : Result T EndError) →
    r ≡ q → HasAppended state own entered later old new r → HasAppended state own entered later old new q
appended-as {T} state own entered later old new r q is h =
    subst (λ (z : Result T EndError). HasAppended state own entered later old new z) is h
