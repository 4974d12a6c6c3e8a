-- What a step leaves of a node, and what appending its entry leaves after that.
use Rattle.std.proofs.Common.{◌≡◌, ℕ, ◌≤◌, true, false, List, Option, Result, Ok, Err, IsErrOf, OnOk, length, take, refl, sym, ap, ◌∙◌, subst, true≢false}
use Rattle.iss_disk.specs.declared.errors.Failed.{Failed}
use Rattle.iss_disk.specs.Calls.{Device}
use Rattle.iss_disk.specs.declared.errors.EndError.{EndError}
use Rattle.iss_disk.specs.declared.errors.EndError.TheVariants.{Failed as Disk_failed, NoMemory as Disk_no_memory}
use Rattle.iss_journal.specs.Frames.{max_entry}
use Rattle.iss_journal.specs.Sound.{JournalState}
use Rattle.iss_log.specs.LogState.{GoesOn}
use Rattle.iss_model.specs.Frames.{frame_of, step_in}
use Rattle.iss_model.specs.Node.{Core, Stepped, Taken as Step_taken, Turn}
use Rattle.iss_rules.specs.Setups.{IsSetupOf}
use Rattle.iss_rules.specs.declared.events.NodeEvent.{NodeEvent}
use Rattle.iss_rules.specs.declared.events.Why.{Why}
use Rattle.iss_node.specs.Entered.{IsKeptEntry}
use Rattle.iss_node.specs.Saved.{SavedState, saved_of}
use Rattle.iss_node.specs.State.{NodeView, RefinesCore}
use Rattle.iss_node.specs.Steps.{HasRetreated, IsEnteredAnswer, IsLeft, IsSpoiled}
use Rattle.iss_node.specs.declared.answers.Answer.{Answer as NodeAnswer}
use Rattle.iss_node.specs.declared.answers.Answer.TheVariants.{Dropped as Node_dropped, NoMemory as Node_no_memory, Stale as Node_stale, Taken as Node_taken}
use Rattle.iss_node.specs.declared.answers.Outcome.{Outcome}
use Rattle.iss_sb.specs.Calls.{Relation}
use Rattle.iss_sb.specs.Evidence.{Module}
use Rattle.iss_keep.specs.Entries.{spell_event}
use Rattle.iss_keep.specs.Internal.Keeping.{Answers, HasAppended, HasEnded, HasJournaled, HasNoted, HasStepped, IsKeptAs, ShowsSame, Takes, entry_kept, kept_at, released}
use Rattle.iss_keep.specs.Steps.{IsWritten, makes_stale}
use Rattle.iss_keep.proofs.SnapshotLemmas.{kept-right, kept-short}
use Rattle.iss_keep.proofs.TakenLemmas.{log-cut, log-long, taken-goes-on, taken-later, taken-short}

-- What a node hands out and notes, for the step of each core that it refines.
abbrev pub Enters : {M Msg : Type 0} → Module Msg → Relation M Msg → NodeEvent → (old new : NodeView M Msg) → NodeAnswer → Type 0
Enters {Msg = Msg} m refines event old new answer = (c : Core Msg) → RefinesCore m refines old c →
    IsEnteredAnswer m old.state (step_in (frame_of old.state.setup m) old.state.me.0 c event) new.state answer

-- The append did not fail.
abbrev pub nothing_failed : Result (Unit {0}) EndError
nothing_failed = Ok tt

-- ---- the event was not accepted

pub shows-spoiled : {M Msg : Type 0} (old new : NodeView M Msg) → IsSpoiled old new → ShowsSame old new
shows-spoiled old new h = record { log = h.log; epoch = h.epoch }

pub shows-itself : {M Msg : Type 0} (v : NodeView M Msg) → ShowsSame v v
shows-itself v = record { log = refl; epoch = refl }

-- a dropped event is not noted
pub dropped-notes : {M Msg : Type 0} (m : Module Msg) (refines : Relation M Msg) (event : NodeEvent) (old new : NodeView M Msg) (why : Why) →
    (core : (c : Core Msg) × RefinesCore m refines old c) → Answers m refines event old new (Node_dropped why) → Enters m refines event old new (Node_dropped why) →
    saved_of new.state.saved ≡ saved_of old.state.saved
dropped-notes {Msg = Msg} m refines event old new why core answer enters =
    let a = answer core.0 core.1 in
    let same : new.state.saved ≡ old.state.saved =
    subst (λ (o : Stepped Msg). IsEnteredAnswer m old.state o new.state (Node_dropped why)) a.step_is (enters core.0 core.1) in
    ap (λ (z : SavedState). saved_of z) same

-- The node has not accepted the event: nothing is appended.
pub unaccepted : {M Msg : Type 0} (m : Module Msg) (refines : Relation M Msg) (event : NodeEvent) (old new : NodeView M Msg) (entry : List ℕ) (made : NodeAnswer) →
    (core : (c : Core Msg) × RefinesCore m refines old c) → Answers m refines event old new made → Enters m refines event old new made → IsLeft old new made →
    ((outcome : Outcome) → made ≡ Node_taken outcome → ⊥) → HasStepped m refines event old new entry (released made nothing_failed)
unaccepted m refines event old new entry (Node_taken outcome) core answer enters left other = absurd (other outcome refl)
unaccepted m refines event old new entry (Node_dropped why) core answer enters left other = (answer, dropped-notes m refines event old new why core answer enters)
unaccepted m refines event old new entry Node_no_memory core answer enters left other = shows-spoiled old new left
unaccepted m refines event old new entry Node_stale core answer enters left other = absurd (true≢false (sym left.0 ∙ core.1.fresh))

-- A node that is not stale does not answer so.
pub never-stale : {M Msg : Type 0} (m : Module Msg) (refines : Relation M Msg) (event : NodeEvent) (old new : NodeView M Msg) (entry : List ℕ) (a : Result NodeAnswer Failed) →
    HasStepped m refines event old new entry a → a ≡ Ok Node_stale → ⊥
never-stale m refines event old new entry a h q = subst (λ (z : Result NodeAnswer Failed). HasStepped m refines event old new entry z) q h

-- ---- the event was accepted

-- A journal that took the entry is attached.
still-on : {D : Type 0} (outcome : Outcome) (now : JournalState D) (r : Result (Unit {0}) EndError) → OnOk r (now.attached ≡ true) →
    makes_stale (released (Node_taken outcome) r) ≡ false → now.attached ≡ true
still-on outcome now (Ok x) on h = on
still-on outcome now (Err Disk_failed) on h = absurd (true≢false h)
still-on outcome now (Err Disk_no_memory) on h = absurd (true≢false h)

module _ {M Msg : Type 0} (m : Module Msg) (refines : Relation M Msg) (event : NodeEvent) (old taken : NodeView M Msg) (outcome : Outcome)
    (good : IsSetupOf m old.state.setup) (core : (c : Core Msg) × RefinesCore m refines old c) (setup : taken.state.setup ≡ old.state.setup) (me : taken.state.me ≡ old.state.me)
    (answer : Answers m refines event old taken (Node_taken outcome)) (enters : Enters m refines event old taken (Node_taken outcome))
    (own : List ℕ) (own-is : own ≡ spell_event event) where
  -- the snapshot that a turn hands out
  entered-by : (c : Core Msg) (turn : Turn Msg) → RefinesCore m refines old c → step_in (frame_of old.state.setup m) old.state.me.0 c event ≡ Step_taken turn →
      IsKeptEntry m old.state turn.entered taken.state.saved outcome.entered
  entered-by c turn st q = subst (λ (o : Stepped Msg). IsEnteredAnswer m old.state o taken.state (Node_taken outcome)) q (enters c st)

  -- The entry is short enough for a journal.
  pub short : length (entry_kept outcome.entered own) ≤ max_entry
  short =
      let a = answer core.0 core.1 in
      kept-short m old.state own a.turn.entered taken.state.saved outcome.entered
      (subst (λ (bytes : List ℕ). length bytes ≤ max_entry) (sym own-is) (taken-short old.state.setup m good old.state.me.0 core.0 event a.turn a.step_is))
      (entered-by core.0 a.turn core.1 a.step_is)

  right-entry : IsKeptAs m refines event old (entry_kept outcome.entered own)
  right-entry c turn st q =
      subst (λ (bytes : List ℕ). entry_kept outcome.entered bytes ≡ (kept_at m old event turn).entry) (sym own-is)
      (kept-right m old.state (spell_event event) turn.entered taken.state.saved outcome.entered (entered-by c turn st q)).entry

  right-note : HasNoted m refines event old taken
  right-note c turn st q = (kept-right m old.state (spell_event event) turn.entered taken.state.saved outcome.entered (entered-by c turn st q)).saved

  grown : GoesOn old.state.log.entries taken.state.log.entries
  grown =
      let a = answer core.0 core.1 in
      taken-goes-on m refines old taken core.0 event a.turn good core.1 a.turned.refined a.step_is setup me

  -- The node can retreat to the log and epoch that it had before the step.
  pub longer : (slots : ℕ) → slots ≡ length old.state.log.entries → slots ≤ length taken.state.log.entries
  longer slots is =
      subst (λ (k : ℕ). k ≤ length taken.state.log.entries) (sym is) (log-long old.state.log.entries taken.state.log.entries grown)

  pub later : (epoch : ℕ) → epoch ≡ old.state.epoch → epoch ≤ taken.state.epoch
  later epoch is =
      let a = answer core.0 core.1 in
      subst (λ (k : ℕ). k ≤ taken.state.epoch) (sym is) (taken-later m refines old taken core.0 event a.turn good core.1 a.turned.refined a.step_is setup me)

  module _ (slots epoch : ℕ) (length-is : slots ≡ length old.state.log.entries) (epoch-is : epoch ≡ old.state.epoch) (new : NodeView M Msg) where
    gone-back : HasRetreated taken new slots epoch → ShowsSame old new
    gone-back h = record {
      log = h.log ∙ ap (λ (k : ℕ). take k taken.state.log.entries) length-is ∙ log-cut old.state.log.entries taken.state.log.entries grown;
      epoch = h.epoch ∙ epoch-is;
    }

    taken-then : Takes m refines event old
    taken-then c st = let a = answer c st in (a.turn, a.step_is)

    -- What is handed out has this snapshot. It is the one that the node made, unless memory ran out.
    module _ (after : Option (List ℕ)) where
      abbrev out : Outcome
      out = record outcome { entered = after }

      out-answer : Answers m refines event old taken (Node_taken out)
      out-answer c st =
          let a = answer c st in
          record {
            turn = a.turn;
            step_is = a.step_is;
            turned = record {
              refined = a.turned.refined;
              made = record { sends = a.turned.made.sends; own = a.turned.made.own; early = a.turned.made.early; hashed = a.turned.made.hashed };
              entered = tt;
              addressed = a.turned.addressed;
            };
          }

      entry-with : after ≡ outcome.entered → IsKeptAs m refines event old (entry_kept after own)
      entry-with same = subst (λ (x : Option (List ℕ)). IsKeptAs m refines event old (entry_kept x own)) (sym same) right-entry

      pub stepped : (r : Result (Unit {0}) EndError) → ((IsErrOf r Disk_no_memory → ⊥) → after ≡ outcome.entered) →
          HasEnded out slots epoch taken new (released (Node_taken out) r) → HasStepped m refines event old new (entry_kept after own) (released (Node_taken out) r)
      stepped (Ok x) same h = (
        subst (λ (v : NodeView M Msg). Answers m refines event old v (Node_taken out)) (sym h.1) out-answer,
        entry-with (same (λ e. absurd (cc))),
        subst (λ (v : NodeView M Msg). HasNoted m refines event old v) (sym h.1) right-note,
      )
      stepped (Err Disk_failed) same h = (gone-back h, taken-then, entry-with (same (λ e. absurd (cc))))
      stepped (Err Disk_no_memory) same h = gone-back h

    pub same-node : (given : Outcome) (a : Result NodeAnswer Failed) → HasEnded given slots epoch taken new a → (new.state.setup ≡ old.state.setup) × (new.state.me ≡ old.state.me)
    same-node given (Ok (Node_taken taken_out)) h = (ap (λ (v : NodeView M Msg). v.state.setup) h.1 ∙ setup, ap (λ (v : NodeView M Msg). v.state.me) h.1 ∙ me)
    same-node given (Ok (Node_dropped why)) h = absurd h
    same-node given (Err failed) h = (h.setup ∙ setup, h.me ∙ me)
    same-node given (Ok Node_stale) h = absurd h
    same-node given (Ok Node_no_memory) h = (h.setup ∙ setup, h.me ∙ me)

    -- The whole: the step, and the append of its entry.
    pub journaled : {D : Type 0} (state : D → Device) (before now : JournalState D) (after : Option (List ℕ)) (r : Result (Unit {0}) EndError) →
        HasAppended state own outcome.entered after before now r → ((given : Outcome) → HasEnded given slots epoch taken new (released (Node_taken given) r)) →
        HasJournaled state m refines event old new before now (Node_taken (record outcome { entered = after })) r
    journaled state before now after r appended ended =
        let given : Outcome = record outcome { entered = after } in
        record {
          written = subst (λ (bytes : List ℕ). IsWritten before.entries (entry_kept after bytes) (state before.disk) (state now.disk) now.entries (released (Node_taken given) r)) own-is
              (appended.written given);
          stepped = subst (λ (bytes : List ℕ). HasStepped m refines event old new (entry_kept after bytes) (released (Node_taken given) r)) own-is
              (stepped after r appended.same (ended given));
          attached = still-on given now r appended.attached;
          same = same-node given (released (Node_taken given) r) (ended given);
        }
