-- What each call of a kept node preserves and establishes.
use Rattle.std.proofs.Common.{inl, inr, ◌≡◌, ◌⊎◌, ℕ, Bool, true, false, List, [], ◌∷◌, ◌++◌, refl, sym, ap, ◌∙◌, subst, true≢false, Result, Ok, Err}
use Rattle.iss_node.specs.declared.answers.Answer.{Answer as NodeAnswer}
use Rattle.iss_disk.specs.declared.errors.Failed.{Failed}
use Rattle.iss_disk.specs.Calls.{Device, IfTold}
use Rattle.iss_disk.specs.File.{File}
use Rattle.iss_journal.specs.Frames.{version_1}
use Rattle.iss_journal.specs.Promises.{OnlyLeaves, Shows}
use Rattle.iss_journal.specs.Retained.{retained}
use Rattle.iss_journal.specs.Sound.{JournalState}
use Rattle.iss_keys.specs.Directories.{AreKeysOf, DirectoryView, directory_of, node_secret}
use Rattle.iss_keys.specs.KeyStates.{KeyState}
use Rattle.iss_rules.specs.Concrete.{keys_of, rules_of}
use Rattle.iss_rules.specs.Formats.{formats_of}
use Rattle.iss_model.specs.Frames.{frame_of}
use Rattle.iss_model.specs.Node.{Core, Stepped, Taken as Step_taken, Turn, step}
use Rattle.iss_rules.specs.declared.events.NodeEvent.{NodeEvent}
use Rattle.iss_rules.specs.declared.events.Why.{Why}
use Rattle.iss_node.specs.Saved.{saved_of}
use Rattle.iss_node.specs.State.{IsMember, NodeView, RefinesCore}
use Rattle.iss_node.specs.Steps.{IsAnswer as Node_answers, IsOfNodes}
use Rattle.iss_node.specs.declared.answers.Answer.TheVariants.{Dropped as Node_dropped, Taken as Node_taken, NoMemory as Node_no_memory, Stale as Node_stale}
use Rattle.iss_node.specs.declared.answers.Outcome.{Outcome}
use Rattle.iss_rebuilt.specs.Stored.{Kept, Saved, Stored, kept_of, stored_by}
use Rattle.iss_request.specs.declared.ids.NodeId.{NodeId}
use Rattle.iss_request.specs.declared.setups.Setup.{Setup}
use Rattle.iss_sb.specs.Evidence.{Module}
use Rattle.iss_sb.specs.Calls.{AreToNodes, Relation}
use Rattle.iss_keep.specs.Cores.{step_of, stored_after}
use Rattle.iss_keep.specs.Entries.{spell_event}
use Rattle.iss_keep.specs.State.{IsKept, IsStoredSince, KeptRefinesCore, KeptState, RefinesStored, state_over, stored_as}
use Rattle.iss_keep.specs.Internal.Keeping.{HasStepped, IsKeptAs, kept_at}
use Rattle.iss_keep.specs.Internal.Replays.{IsOf, IsReplayed}
use Rattle.iss_keep.specs.Steps.{IsAnswer, IsDrop, IsTurn, ShowsAsBefore, Writes, entries_after, is_appended, makes_stale}
use Rattle.iss_keep.proofs.RetainLemmas.{shows-more, shows-read}

-- The keys of a replica, none of which is used.
pub own-keys : (s : Setup) (i : ℕ) (d : DirectoryView) (k : KeyState) → d ≡ keys_of s →
    ((n clients height : ℕ) → d ≡ directory_of n clients height → k ≡ record { secret = node_secret i; height = height; used = 0 }) →
    AreKeysOf i s.keys k × (k.used ≡ 0)
own-keys s i d k is made =
    let mine = made s.n s.clients s.keys is in
    (record { own = ap (λ (z : KeyState). z.secret) mine; tall = ap (λ (z : KeyState). z.height) mine }, ap (λ (z : KeyState). z.used) mine)

-- ---- what is stored after an event

module _ {Msg : Type 0} (s : Setup) (m : Module Msg) (me : ℕ) where
  -- a further event
  pub since-more : (st : Stored Msg) (event : NodeEvent) → IsStoredSince s m me st → IsStoredSince s m me (stored_after s m me st event)
  since-more st event h = record {
    read = h.read;
    found = h.found;
    is_read = h.is_read;
    events = event ∷ h.events;
    is = ap (λ (z : Stored Msg). stored_after s m me z event) h.is;
  }

  abbrev after_turn : Stored Msg → Kept → Core Msg → Stored Msg
  after_turn st k c = record { entries = k.entry ∷ st.entries; saved = k.saved; core = c }

  pub turn-stored : (st : Stored Msg) (event : NodeEvent) (turn : Turn Msg) → step_of s m me st.core event ≡ Step_taken turn →
      stored_after s m me st event ≡ after_turn st (kept_of (frame_of s m) me st.saved (spell_event event) turn) turn.core
  turn-stored st event turn q = ap (λ (o : Stepped Msg). stored_by (frame_of s m) spell_event me st event o) q

module _ {M Msg D : Type 0} (m : Module Msg) (refines : Relation M Msg) (state : D → Device) (directory : DirectoryView) where
  not-both : (b : Bool) (P : Type 0) → b ≡ true → b ≡ false → P
  not-both b P t f = absurd (true≢false (sym t ∙ f))

  -- The invariant of a node that has to be reopened.
  pub stale-kept : (journal : JournalState D) (v : KeptState M Msg D) → IsMember m v.setup directory v.me.0 → v.node.state.setup ≡ v.setup → v.node.state.me ≡ v.me →
      v.stale ≡ true → IsKept m refines state directory journal v
  stale-kept journal v member cluster number stale = record {
    member = member;
    cluster = cluster;
    number = number;
    attached = λ f. not-both v.stale _ stale f;
    durable = λ f. not-both v.stale _ stale f;
    kept = inl stale;
  }

  -- The invariant of a node that stands for what was stored.
  pub fresh-kept : (journal : JournalState D) (v : KeptState M Msg D) (st : Stored Msg) → IsMember m v.setup directory v.me.0 →
      journal.attached ≡ true →
      IfTold (state v.disk).history (OnlyLeaves (Shows version_1 v.entries)) → RefinesStored m refines v st → IsStoredSince v.setup m v.me.0 st →
      IsKept m refines state directory journal v
  fresh-kept journal v st member attached durable stands since = record {
    member = member;
    cluster = stands.cluster;
    number = stands.number;
    attached = λ f. attached;
    durable = λ f. durable;
    kept = inr (st, stands, since);
  }

  abbrev Stands : KeptState M Msg D → Type 0
  Stands v = (st : Stored Msg) × RefinesStored m refines v st × IsStoredSince v.setup m v.me.0 st

  -- A node that is not stale stands for what was stored.
  standing : (v : KeptState M Msg D) → (v.stale ≡ true) ⊎ Stands v → v.stale ≡ false → Stands v
  standing v (inl stale) fresh = not-both v.stale _ stale fresh
  standing v (inr h) fresh = h

  pub its-store : (journal : JournalState D) (v : KeptState M Msg D) → IsKept m refines state directory journal v → v.stale ≡ false → Stands v
  its-store journal v kept fresh = standing v kept.kept fresh

  -- So it refines a core.
  pub its-core : (journal : JournalState D) (v : KeptState M Msg D) → IsKept m refines state directory journal v → v.stale ≡ false →
      (c : Core Msg) × RefinesCore m refines v.node c
  its-core journal v kept fresh = let h = its-store journal v kept fresh in (h.0.core, h.1.node)

  -- ---- a step of its node

  module _ (before : JournalState D) (old : KeptState M Msg D) (kept : IsKept m refines state directory before old) (event : NodeEvent) (node : NodeView M Msg)
      (setup : node.state.setup ≡ old.node.state.setup) (me : node.state.me ≡ old.node.state.me) where
    abbrev node_step : Core Msg → Stepped Msg
    node_step c = step (formats_of old.node.state.setup m) (rules_of old.node.state.setup) m old.node.state.me.0 c event

    -- The node's step equals the step of the model.
    same-step : (c : Core Msg) → node_step c ≡ step_of old.setup m old.me.0 c event
    same-step c = ap (λ (s : Setup). step (formats_of s m) (rules_of s) m old.node.state.me.0 c event) kept.cluster
        ∙ ap (λ (i : NodeId). step_of old.setup m i.0 c event) kept.number

    module _ (outcome : Outcome)
        (answer : (c : Core Msg) → RefinesCore m refines old.node c → Node_answers m refines (IsOfNodes old.node.state.setup.n event) c (node_step c) node (Node_taken outcome)) where
      own-peer : IsOfNodes old.setup.n event → IsOfNodes old.node.state.setup.n event
      own-peer h = subst (λ (s : Setup). IsOfNodes s.n event) (sym kept.cluster) h

      -- The node refines the core after the step.
      pub took-turn : (journal : JournalState D) → (c : Core Msg) → KeptRefinesCore m refines old c →
          IsTurn m refines (IsOfNodes old.setup.n event) (step_of old.setup m old.me.0 c event) (state_over old.setup old.me node journal false) outcome
      took-turn journal c at =
          let a = answer c at.node in
          let is : step_of old.setup m old.me.0 c event ≡ Step_taken a.turn = sym (same-step c) ∙ a.step_is in
          record {
            turn = a.turn;
            step_is = is;
            at = record { fresh = refl; node = a.turned.refined; cluster = setup ∙ kept.cluster; number = me ∙ kept.number };
            made = a.turned.made;
            addressed = λ of. subst (λ (s : Setup). AreToNodes s.n outcome.sends) (setup ∙ kept.cluster) (a.turned.addressed (own-peer of));
          }

    module _ (why : Why)
        (answer : (c : Core Msg) → RefinesCore m refines old.node c → Node_answers m refines (IsOfNodes old.node.state.setup.n event) c (node_step c) node (Node_dropped why)) where
      pub dropped-turn : (journal : JournalState D) → (c : Core Msg) → KeptRefinesCore m refines old c →
          IsDrop m refines c (step_of old.setup m old.me.0 c event) (state_over old.setup old.me node journal false) why
      dropped-turn journal c at =
          let a = answer c at.node in
          record {
            step_is = sym (same-step c) ∙ a.step_is;
            at = record { fresh = refl; node = a.refined; cluster = setup ∙ kept.cluster; number = me ∙ kept.number };
          }

    -- ---- what the event is stored as

    module _ (st : Stored Msg) (for : RefinesStored m refines old st) where
      abbrev Here : Turn Msg → Kept
      Here turn = kept_of (frame_of old.setup m) old.me.0 st.saved (spell_event event) turn

      -- The node keeps as the model stores.
      kept-here : (turn : Turn Msg) → kept_at m old.node event turn ≡ Here turn
      kept-here turn =
          ap (λ (s : Setup). kept_of (frame_of s m) old.node.state.me.0 (saved_of old.node.state.saved) (spell_event event) turn) for.cluster
          ∙ (ap (λ (i : NodeId). kept_of (frame_of old.setup m) i.0 (saved_of old.node.state.saved) (spell_event event) turn) for.number
          ∙ ap (λ (z : Saved). kept_of (frame_of old.setup m) old.me.0 z (spell_event event) turn) for.saved)

      stored-entry : (turn : Turn Msg) (entry : List ℕ) → node_step st.core ≡ Step_taken turn → IsKeptAs m refines event old.node entry →
          (stored_after old.setup m old.me.0 st event).entries ≡ entry ∷ st.entries
      stored-entry turn entry q right =
          ap (λ (z : Stored Msg). z.entries) (turn-stored old.setup m old.me.0 st event turn (sym (same-step st.core) ∙ q))
          ∙ ap (λ (k : Kept). k.entry ∷ st.entries) (sym (kept-here turn))
          ∙ ap (λ (bytes : List ℕ). bytes ∷ st.entries) (sym (right st.core turn for.node q))

      -- What was written is what the event is stored as.
      pub right-entry : (entry : List ℕ) (answer : Result NodeAnswer Failed) → HasStepped m refines event old.node node entry answer → is_appended answer ≡ true →
          (stored_after old.setup m old.me.0 st event).entries ≡ entry ∷ st.entries
      right-entry entry (Ok (Node_taken outcome)) h on = let a = h.0 st.core for.node in stored-entry a.turn entry a.step_is h.1
      right-entry entry (Ok (Node_dropped why)) h on = absurd (true≢false (sym on))
      right-entry entry (Err failed) h on = let t = h.1 st.core for.node in stored-entry t.0 entry t.1 h.2
      right-entry entry (Ok Node_stale) h on = absurd (true≢false (sym on))
      right-entry entry (Ok Node_no_memory) h on = absurd (true≢false (sym on))

      -- After an accepted event the node stands for what is stored with it.
      took-stored : (journal : JournalState D) (entry : List ℕ) (outcome : Outcome) → HasStepped m refines event old.node node entry (Ok (Node_taken outcome)) →
          journal.entries ≡ retained (old.entries ++ entry ∷ []) →
          RefinesStored m refines (state_over old.setup old.me node journal false) (stored_after old.setup m old.me.0 st event)
      took-stored journal entry outcome h added =
          let a = h.0 st.core for.node in
          let is = turn-stored old.setup m old.me.0 st event a.turn (sym (same-step st.core) ∙ a.step_is) in
          let more = stored-entry a.turn entry a.step_is h.1 in
          record {
            fresh = refl;
            node = subst (λ (c : Core Msg). RefinesCore m refines node c) (sym (ap (λ (z : Stored Msg). z.core) is)) a.turned.refined;
            cluster = setup ∙ kept.cluster;
            number = me ∙ kept.number;
            entries = added ∙ shows-more st (stored_after old.setup m old.me.0 st event) old.entries entry for.entries more;
            saved = h.2 st.core a.turn for.node a.step_is ∙ ap (λ (k : Kept). k.saved) (kept-here a.turn) ∙ sym (ap (λ (z : Stored Msg). z.saved) is);
          }

      -- A dropped event changes nothing.
      dropped-stored : (journal : JournalState D) (entry : List ℕ) (why : Why) → HasStepped m refines event old.node node entry (Ok (Node_dropped why)) →
          journal.entries ≡ old.entries →
          RefinesStored m refines (state_over old.setup old.me node journal false) (stored_after old.setup m old.me.0 st event)
      dropped-stored journal entry why h added =
          let a = h.0 st.core for.node in
          let is : stored_after old.setup m old.me.0 st event ≡ st =
          ap (λ (o : Stepped Msg). stored_by (frame_of old.setup m) spell_event old.me.0 st event o) (sym (same-step st.core) ∙ a.step_is) in
          subst (λ (z : Stored Msg). RefinesStored m refines (state_over old.setup old.me node journal false) z) (sym is) (record {
            fresh = refl;
            node = a.refined;
            cluster = setup ∙ kept.cluster;
            number = me ∙ kept.number;
            entries = added ∙ for.entries;
            saved = h.1 ∙ for.saved;
          })

      pub stores : (journal : JournalState D) (entry : List ℕ) (answer : Result NodeAnswer Failed) → HasStepped m refines event old.node node entry answer →
          journal.entries ≡ entries_after old.entries entry answer → makes_stale answer ≡ false →
          RefinesStored m refines (state_over old.setup old.me node journal false) (stored_after old.setup m old.me.0 st event)
      stores journal entry (Ok (Node_taken outcome)) h added on = took-stored journal entry outcome h added
      stores journal entry (Ok (Node_dropped why)) h added on = dropped-stored journal entry why h added
      stores journal entry (Err failed) h added on = absurd (true≢false on)
      stores journal entry (Ok Node_stale) h added on = absurd (true≢false on)
      stores journal entry (Ok Node_no_memory) h added on = absurd (true≢false on)

    -- ---- the effect of the whole call on a node that was not stale

    module _ (fresh : old.stale ≡ false) (journal : JournalState D) (entry : List ℕ) where
      abbrev left : Result NodeAnswer Failed → KeptState M Msg D
      left answer = state_over old.setup old.me node journal (makes_stale answer)

      pub answers : (answer : Result NodeAnswer Failed) → HasStepped m refines event old.node node entry answer →
          (c : Core Msg) → KeptRefinesCore m refines old c →
          IsAnswer m refines (IsOfNodes old.setup.n event) c (step_of old.setup m old.me.0 c event) (left answer) answer
      answers (Ok (Node_taken outcome)) stepped c at = took-turn outcome stepped.0 journal c at
      answers (Ok (Node_dropped why)) stepped c at = dropped-turn why stepped.0 journal c at
      answers (Err failed) stepped c at = let t = stepped.1 c at.node in (t.0, sym (same-step c) ∙ t.1)
      answers (Ok Node_stale) stepped c at = stepped
      answers (Ok Node_no_memory) stepped c at = tt

      fresh-after : journal.attached ≡ true →
          IfTold (state journal.disk).history (OnlyLeaves (Shows version_1 journal.entries)) →
          ((st : Stored Msg) → RefinesStored m refines old st → RefinesStored m refines (state_over old.setup old.me node journal false) (stored_after old.setup m old.me.0 st event)) →
          IsKept m refines state directory journal (state_over old.setup old.me node journal false)
      fresh-after attached durable on =
          let h = its-store before old kept fresh in
          fresh-kept journal (state_over old.setup old.me node journal false) (stored_after old.setup m old.me.0 h.0 event) kept.member attached durable
          (on h.0 h.1) (since-more old.setup m old.me.0 h.0 event h.2)

      stale-after : IsKept m refines state directory journal (state_over old.setup old.me node journal true)
      stale-after = stale-kept journal (state_over old.setup old.me node journal true) kept.member (setup ∙ kept.cluster) (me ∙ kept.number) refl

      durable-with : (es : List (List ℕ)) → journal.entries ≡ es → IfTold (state journal.disk).history (OnlyLeaves (Shows version_1 es)) →
          IfTold (state journal.disk).history (OnlyLeaves (Shows version_1 journal.entries))
      durable-with es added told =
          subst (λ (xs : List (List ℕ)). IfTold (state journal.disk).history (OnlyLeaves (Shows version_1 xs))) (sym added) told

      pub kept-after : (answer : Result NodeAnswer Failed) → HasStepped m refines event old.node node entry answer → journal.entries ≡ entries_after old.entries entry answer →
          Writes old.entries entry (state old.disk).history (state journal.disk).history answer →
          (makes_stale answer ≡ false → journal.attached ≡ true) → IsKept m refines state directory journal (left answer)
      kept-after (Ok (Node_taken outcome)) stepped added wrote attached =
          fresh-after (attached refl) (durable-with (retained (old.entries ++ entry ∷ [])) added wrote.1)
          (λ st for. took-stored st for journal entry outcome stepped added)
      kept-after (Ok (Node_dropped why)) stepped added wrote attached =
          let told : IfTold (state journal.disk).history (OnlyLeaves (Shows version_1 old.entries)) =
          subst (λ (f : List File). IfTold f (OnlyLeaves (Shows version_1 old.entries))) (sym wrote) (kept.durable fresh) in
          fresh-after (attached refl) (durable-with old.entries added told) (λ st for. dropped-stored st for journal entry why stepped added)
      kept-after (Err failed) stepped added wrote attached = stale-after
      kept-after (Ok Node_stale) stepped added wrote attached = stale-after
      kept-after (Ok Node_no_memory) stepped added wrote attached = stale-after

      shows-after : (answer : Result NodeAnswer Failed) → HasStepped m refines event old.node node entry answer → makes_stale answer ≡ true → (later : Bool) →
          ShowsAsBefore old (state_over old.setup old.me node journal later)
      shows-after (Ok (Node_taken outcome)) stepped stale later = absurd (true≢false (sym stale))
      shows-after (Ok (Node_dropped why)) stepped stale later = absurd (true≢false (sym stale))
      shows-after (Err failed) stepped stale later = record { log = stepped.0.log; epoch = stepped.0.epoch }
      shows-after (Ok Node_stale) stepped stale later = absurd stepped
      shows-after (Ok Node_no_memory) stepped stale later = record { log = stepped.log; epoch = stepped.epoch }

      -- The same, with the new value of `stale`.
      module _ (later : Bool) (answer : Result NodeAnswer Failed) (is : later ≡ makes_stale answer) (stepped : HasStepped m refines event old.node node entry answer) where
        pub take-answers : (c : Core Msg) → KeptRefinesCore m refines old c →
            IsAnswer m refines (IsOfNodes old.setup.n event) c (step_of old.setup m old.me.0 c event) (state_over old.setup old.me node journal later) answer
        take-answers c at =
            subst (λ (b : Bool). IsAnswer m refines (IsOfNodes old.setup.n event) c (step_of old.setup m old.me.0 c event) (state_over old.setup old.me node journal b) answer) (sym is)
            (answers answer stepped c at)

        pub take-stores : journal.entries ≡ entries_after old.entries entry answer → (st : Stored Msg) → RefinesStored m refines old st → later ≡ false →
            RefinesStored m refines (state_over old.setup old.me node journal later) (stored_after old.setup m old.me.0 st event)
        take-stores added st for on =
            subst (λ (b : Bool). RefinesStored m refines (state_over old.setup old.me node journal b) (stored_after old.setup m old.me.0 st event)) (sym on)
            (stores st for journal entry answer stepped added (sym is ∙ on))

        -- A node that becomes stale still reports the log and epoch that it had.
        pub take-shows : later ≡ true → ShowsAsBefore old (state_over old.setup old.me node journal later)
        take-shows stale = shows-after answer stepped (sym is ∙ stale) later

        pub take-kept : journal.entries ≡ entries_after old.entries entry answer →
            Writes old.entries entry (state old.disk).history (state journal.disk).history answer →
            (makes_stale answer ≡ false → journal.attached ≡ true) → IsKept m refines state directory journal (state_over old.setup old.me node journal later)
        take-kept added wrote attached =
            subst (λ (b : Bool). IsKept m refines state directory journal (state_over old.setup old.me node journal b)) (sym is)
            (kept-after answer stepped added wrote attached)

  -- ---- reopening

  module _ (journal : JournalState D) (s : Setup) (i : NodeId) (node : NodeView M Msg) (stay : retained journal.entries ≡ journal.entries)
      (h : IsReplayed s m refines i.0 journal.entries node) (own : IsOf s i node) where
    -- The node stands for the entries that it has read.
    pub reopened-stored : RefinesStored m refines (state_over s i node journal false) (stored_as journal.entries h.0)
    reopened-stored =
        record { fresh = refl; node = h.1.0; cluster = own.cluster; number = own.number; entries = shows-read journal.entries stay; saved = h.1.1 }

    pub reopened-kept : IsMember m s directory i.0 → journal.attached ≡ true →
        IfTold (state journal.disk).history (OnlyLeaves (Shows version_1 journal.entries)) →
        IsKept m refines state directory journal (state_over s i node journal false)
    reopened-kept member attached durable =
        fresh-kept journal (state_over s i node journal false) (stored_as journal.entries h.0) member attached durable reopened-stored
        (record { read = journal.entries; found = h.0; is_read = h.2; events = []; is = refl })
