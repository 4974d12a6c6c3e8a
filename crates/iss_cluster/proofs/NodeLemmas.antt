-- A running node, event by event: what it does is what its core does, and its journal shows what stays of the events.
use Rattle.std.proofs.Common.{◌≡◌, true≢false, Result, Ok, Err, IfOk, IsErrOf, OnOk, is_ok, ◌∙◌, inl, inr, ℕ, zero, suc, ◌<◌, ◌≤◌, ◌^◌, Bool, true, false, cond, get_or, List, [], ◌∷◌, ◌++◌, Option, Some, refl, sym, ap, subst, arith}
use Rattle.std.specs.Prelude.{filter, map, not, IsErr}
use Rattle.iss_node.specs.declared.answers.Answer.TheVariants.{Dropped as Node_dropped, NoMemory as Node_no_memory, Stale as Node_stale, Taken as Node_taken}
use Rattle.iss_node.specs.declared.answers.Answer.{Answer as NodeAnswer}
use Rattle.iss_disk.specs.declared.errors.Failed.{Failed}
use Rattle.iss_base.proofs.Lists.{in_append, some-injective}
use Rattle.iss_base.specs.Lists.{In, below}
use Rattle.iss_cluster.proofs.EventLemmas.{accepted-more, named-more, since-more}
use Rattle.iss_cluster.specs.Nodes.{BeginsWith, HasRead, HasTaken, IsCutShort, IsDurable, IsNodeRun, IsRefused, IsRunning, Leaves, as_step, is_taken, newest_entry, node_behavior_of, sends_of, stored_since}
use Rattle.iss_config.specs.Configs.{setup_of}
use Rattle.iss_config.specs.declared.configs.Config.{Config}
use Rattle.iss_disk.specs.Calls.{Device, EachState, HasCause, IfTold}
use Rattle.iss_disk.specs.File.{File}
use Rattle.iss_journal.specs.Frames.{version_1}
use Rattle.iss_journal.proofs.Showing.{shows_either}
use Rattle.iss_journal.specs.Promises.{HoldsWithOrWithout, LeavesOnly, LeavesWithOrWithout, OnlyLeaves, Shows, ShowsWithOrWithout}
use Rattle.iss_journal.specs.Retained.{retained}
use Rattle.iss_journal.specs.declared.errors.AttachError.{AttachError}
use Rattle.iss_keep.specs.Cores.{core_of, shown_of, step_of, stored_after, stored_of}
use Rattle.iss_keep.specs.Entries.{NamesNode, spell_event}
use Rattle.iss_keep.specs.Recovery.{AreNamed, Recovers}
use Rattle.iss_keep.specs.State.{KeptRefinesCore, KeptState, RefinesStored, stored_as}
use Rattle.iss_keep.specs.Steps.{IsAnswer, IsAttached, IsDrop, IsJournaled, IsReopened, IsSame, IsTaken, IsTurn, Writes, makes_stale}
use Rattle.iss_links.specs.Ends.{End}
use Rattle.iss_loops.specs.Behavior.{AreNodes}
use Rattle.iss_loops.specs.NodeBehavior.{FailsAt, GoTo, IsOpen, IsStep, NamesNodes, NodeBehavior}
use Rattle.iss_loops.specs.NodeLoop.{Cuts, HasLooped, begins, node_loop_of}
use Rattle.iss_loops.specs.declared.node.NodeStep.TheVariants.{Taken as Step_taken, Dropped as Step_dropped}
use Rattle.iss_loops.specs.declared.node.StepError.TheVariants.{DiskFault}
use Rattle.iss_model.specs.Frames.{frame_of}
use Rattle.iss_model.specs.Node.{Core, Stepped}
use Rattle.iss_model.specs.Slims.{IsPlaced, slim}
use Rattle.iss_model.specs.Views.{is_castable_now, unfilled}
use Rattle.iss_node.specs.Steps.{IsOfNodes}
use Rattle.iss_node.specs.State.{RefinesCore}
use Rattle.iss_node.specs.declared.answers.Outcome.{Outcome}
use Rattle.iss_rebuilt.specs.Reading.{Rebuilt}
use Rattle.iss_rebuilt.specs.Stored.{Stored, stored_by}
use Rattle.iss_replay.specs.Text.{node_block}
use Rattle.iss_request.specs.declared.ids.NodeId.{NodeId}
use Rattle.iss_request.specs.declared.setups.Setup.{Setup}
use Rattle.iss_request.specs.declared.requests.Value.{Value}
use Rattle.iss_rules.specs.Concrete.{rules_of}
use Rattle.iss_rules.specs.Past.{log_of}
use Rattle.iss_rules.specs.Setups.{IsSetupOf}
use Rattle.iss_rules.specs.declared.events.NodeEvent.{NodeEvent}
use Rattle.iss_rules.specs.declared.events.NodeEvent.TheVariants.{Packet, Propose, Timeout, AskFrom}
use Rattle.iss_rules.specs.declared.events.Why.{Why}
use Rattle.iss_sb.specs.Calls.{AreToNodes, Relation}
use Rattle.iss_sb.specs.Evidence.{Module}
use Rattle.iss_world.proofs.OverLemmas.{StandsForSlims}

-- ---- an event that names nodes

pub named : (n : ℕ) (event : NodeEvent) → NamesNodes n event → NamesNode n event
named n (Packet bytes) h = tt
named n Propose h = tt
named n (Timeout leader) h = h
named n (AskFrom peer) h = h

pub of-nodes : (n : ℕ) (event : NodeEvent) → NamesNodes n event → IsOfNodes n event
of-nodes n (Packet bytes) h = tt
of-nodes n Propose h = tt
of-nodes n (Timeout leader) h = tt
of-nodes n (AskFrom peer) h = h

-- ---- leaders

named-back : (leaders : List NodeId) → map (λ (l : ℕ). let i : NodeId = record { 0 = l } in i) (map (λ (l : NodeId). l.0) leaders) ≡ leaders
named-back [] = refl
named-back (l ∷ leaders) = ap (λ (ls : List NodeId). l ∷ ls) (named-back leaders)

in-map : (leaders : List NodeId) (node : NodeId) → In node leaders → In node.0 (map (λ (l : NodeId). l.0) leaders)
in-map [] node h = absurd h
in-map (l ∷ leaders) node (inl is) = inl (ap (λ (i : NodeId). i.0) is)
in-map (l ∷ leaders) node (inr behind) = inr (in-map leaders node behind)

in-filter : (p : ℕ → Bool) (xs : List ℕ) (x : ℕ) → In x (filter p xs) → In x xs
in-filter p [] x h = h
in-filter p (y ∷ ys) x h = go (p y) h (in-filter p ys x)
  where
    go : (b : Bool) → In x (cond b (y ∷ filter p ys) (filter p ys)) → (In x (filter p ys) → In x ys) → In x (y ∷ ys)
    go true (inl is) rest = inl is
    go true (inr behind) rest = inr (rest behind)
    go false h rest = inr (rest h)

in-below : (n x : ℕ) → In x (below n) → x < n
in-below zero x h = absurd h
in-below (suc n) x h = elim (in_append x (below n) (n ∷ []) h) [
  | inl early ↦ omega (arith, in-below n x early)
  | inr last ↦ go last
]
  where
    go : In x (n ∷ []) → x < suc n
    go (inl is) = omega (arith, is)
    go (inr none) = absurd none

pub few-nodes : {Msg : Type 0} (m : Module Msg) (s : Setup) → IsSetupOf m s → s.n ≤ 64
few-nodes m s h = let low = h.good.epoch_low in let high = h.good.epoch_high in omega (arith, low, high)

-- every crash image at each moment of a call: so at its end
told-there : (P : List ℕ → Type 0) (file : File) (past added : List File) → OnlyLeaves P file → EachState (OnlyLeaves P) added → IfTold (added ++ file ∷ past) (OnlyLeaves P)
told-there P file past [] here each = here
told-there P file past (a ∷ more) here each = each.0

told-now : (P : List ℕ → Type 0) (before now : List File) → LeavesOnly P before now → IfTold now (OnlyLeaves P)
told-now P [] now is = subst (λ (h : List File). IfTold h (OnlyLeaves P)) (sym is) tt
told-now P (file ∷ past) now moment =
    let here : LeavesOnly P (file ∷ past) now = moment in
    subst (λ (h : List File). IfTold h (OnlyLeaves P)) (sym here.1) (told-there P file past here.0 here.2 here.3)

each-shows : (entries all : List (List ℕ)) (entry : List ℕ) → entries ≡ retained all → (now : List File) → IfTold now (OnlyLeaves (HoldsWithOrWithout version_1 all entry)) →
    IfTold now (OnlyLeaves (ShowsWithOrWithout version_1 entries entry))
each-shows entries all entry stay [] h = tt
each-shows entries all entry stay (file ∷ past) h = λ c image. shows_either entries all entry c stay (h c image)

-- after an append that failed, too, each crash image shows the entries, with or without the new one
left-now : (entries : List (List ℕ)) (entry : List ℕ) (before now : List File) → LeavesWithOrWithout version_1 entries entry before now →
    IfTold now (OnlyLeaves (ShowsWithOrWithout version_1 entries entry))
left-now entries entry [] now is = subst (λ (h : List File). IfTold h (OnlyLeaves (ShowsWithOrWithout version_1 entries entry))) (sym is) tt
left-now entries entry (file ∷ past) now (all, stay, leaves) = each-shows entries all entry stay now (told-now (HoldsWithOrWithout version_1 all entry) (file ∷ past) now leaves)

module _ {M Msg D : Type 0} (m : Module Msg) (refines : Relation M Msg) (state : D → Device) where
  abbrev Has : KeptState M Msg D → NodeBehavior → List NodeEvent → Type 0
  Has v B events = HasTaken m refines v B events

  -- ---- an open node

  stored-at : (v : KeptState M Msg D) (st : Stored Msg) → RefinesStored m refines v st → KeptRefinesCore m refines v st.core
  stored-at v st h = record { fresh = h.fresh; node = h.node; cluster = h.cluster; number = h.number }

  module _ (v : KeptState M Msg D) (B : NodeBehavior) (events : List NodeEvent) (h : Has v B events) where
    abbrev had : Stored Msg
    had = stored_since v.setup m v.me.0 h.base events

    pub is-there : KeptRefinesCore m refines v had.core
    is-there = stored-at v had h.stored

    pub has-fresh : v.stale ≡ false
    has-fresh = h.stored.fresh

    pub castable-is : (b : Bool) → ((c : Core Msg) → KeptRefinesCore m refines v c → b ≡ is_castable_now (rules_of v.setup) m v.me.0 c) → b ≡ B.castable events
    castable-is b are = are had.core is-there ∙ ap (λ (x : NodeBehavior). x.castable events) (sym h.does)

    pub leaders-are : (leaders : List NodeId) → ((c : Core Msg) → KeptRefinesCore m refines v c → map (λ (l : NodeId). l.0) leaders ≡ unfilled (rules_of v.setup) m v.setup.n v.me.0 c.past) → leaders ≡ B.unfilled events
    leaders-are leaders are =
        sym (named-back leaders) ∙ ap (map (λ (l : ℕ). let i : NodeId = record { 0 = l } in i)) (are had.core is-there)
        ∙ ap (λ (x : NodeBehavior). x.unfilled events) (sym h.does)

    pub leaders-nodes : (leaders : List NodeId) → ((c : Core Msg) → KeptRefinesCore m refines v c → map (λ (l : NodeId). l.0) leaders ≡ unfilled (rules_of v.setup) m v.setup.n v.me.0 c.past) → AreNodes v.setup.n leaders
    leaders-nodes leaders are node inside = in-below v.setup.n node.0 (in-filter _ (below v.setup.n) node.0
        (subst (λ (ls : List ℕ). In node.0 ls) (are had.core is-there) (in-map leaders node inside)))

    pub nodes-is : B.setup.n ≡ v.setup.n
    nodes-is = ap (λ (x : NodeBehavior). x.setup.n) h.does

    pub me-is : B.me ≡ v.me.0
    me-is = ap (λ (x : NodeBehavior). x.me) h.does

    -- its journal shows what stays of the events
    pub shows-is : v.entries ≡ B.shows events
    shows-is = h.stored.entries ∙ ap (λ (x : NodeBehavior). x.shows events) (sym h.does)

    pub prints-is : (epoch : ℕ) (values : List Value) (me : ℕ) → me ≡ v.me.0 → ((c : Core Msg) → KeptRefinesCore m refines v c → epoch ≡ c.past.epoch)
        → ((c : Core Msg) → KeptRefinesCore m refines v c → log_of (rules_of v.setup) m v.me.0 c.past ≡ values) → node_block me epoch values ≡ B.prints events
    prints-is epoch values me number epochs logs =
        ap (λ (i : ℕ). node_block i epoch values) number ∙ ap (λ (e : ℕ). node_block v.me.0 e values) (epochs had.core is-there)
        ∙ ap (λ (vs : List Value). node_block v.me.0 had.core.past.epoch vs) (sym (logs had.core is-there))
        ∙ ap (λ (x : NodeBehavior). x.prints events) (sym h.does)

    pub epoch-is : (epoch : ℕ) → ((c : Core Msg) → KeptRefinesCore m refines v c → epoch ≡ c.past.epoch) → epoch ≡ B.epoch events
    epoch-is epoch epochs = epochs had.core is-there ∙ ap (λ (x : NodeBehavior). x.epoch events) (sym h.does)

  -- ---- one event

  module _ (event : NodeEvent) (old new : KeptState M Msg D) (same : IsSame old new) where
    since-same : (base : Stored Msg) (events : List NodeEvent) → stored_since old.setup m old.me.0 base events ≡ stored_since new.setup m new.me.0 base events
    since-same base events =
        ap (λ (s : Setup). stored_since s m old.me.0 base events) (sym same.setup) ∙ ap (λ (i : NodeId). stored_since new.setup m i.0 base events) (sym same.me)

    does-same : (base : Stored Msg) → node_behavior_of old.setup m old.me.0 base ≡ node_behavior_of new.setup m new.me.0 base
    does-same base =
        ap (λ (s : Setup). node_behavior_of s m old.me.0 base) (sym same.setup) ∙ ap (λ (i : NodeId). node_behavior_of new.setup m i.0 base) (sym same.me)

    module _ (names : NamesNodes old.setup.n event) (B : NodeBehavior) (events : List NodeEvent) (h : Has old B events) where
      abbrev st : Stored Msg
      st = stored_since old.setup m old.me.0 h.base events

      abbrev stepped : Stepped Msg
      stepped = step_of old.setup m old.me.0 st.core event

      abbrev StoresOn : Type 0
      StoresOn = (z : Stored Msg) → RefinesStored m refines old z → new.stale ≡ false → RefinesStored m refines new (stored_after old.setup m old.me.0 z event)

      accepts-is : (t : Stepped Msg) → stepped ≡ t → B.accepts events event ≡ is_taken t
      accepts-is t is = ap (λ (x : NodeBehavior). x.accepts events event) h.does ∙ ap is_taken is

      taken-step : (outcome : Outcome) → IsTurn m refines (IsOfNodes old.setup.n event) stepped new outcome → StoresOn → IsStep B events event (Has new B) (Step_taken outcome.sends)
      taken-step outcome t stores =
          let on : RefinesStored m refines new (stored_after old.setup m old.me.0 st event) = stores st h.stored t.at.fresh in
          let is : stored_after old.setup m old.me.0 st event ≡ stored_since new.setup m new.me.0 h.base (events ++ event ∷ []) =
          sym (since-more old.setup m old.me.0 h.base events event) ∙ since-same h.base (events ++ event ∷ []) in
          let yes : B.accepts events event ≡ true = accepts-is _ t.step_is in (
            yes,
            record {
              base = h.base;
              does = h.does ∙ does-same h.base;
              stored = subst (λ (z : Stored Msg). RefinesStored m refines new z) is on;
              accepted = accepted-more B [] events event h.accepted yes;
              named = subst (λ (s : Setup). AreNamed s.n (events ++ event ∷ [])) (sym same.setup) (named-more old.setup.n events event h.named (named old.setup.n event names));
            },
            t.made.sends ∙ sym (ap sends_of t.step_is) ∙ ap (λ (x : NodeBehavior). x.sends events event) (sym h.does),
          )

      dropped-step : (why : Why) → IsDrop m refines st.core stepped new why → StoresOn → IsStep B events event (Has new B) Step_dropped
      dropped-step why d stores =
          let on : RefinesStored m refines new (stored_after old.setup m old.me.0 st event) = stores st h.stored d.at.fresh in
          let none : stored_after old.setup m old.me.0 st event ≡ st = ap (λ (t : Stepped Msg). stored_by (frame_of old.setup m) spell_event old.me.0 st event t) d.step_is in (
            accepts-is _ d.step_is,
            record {
              base = h.base;
              does = h.does ∙ does-same h.base;
              stored = subst (λ (z : Stored Msg). RefinesStored m refines new z) (none ∙ since-same h.base events) on;
              accepted = h.accepted;
              named = subst (λ (s : Setup). AreNamed s.n events) (sym same.setup) h.named;
            },
          )

      -- the disk failed
      fails-at : (failed : Failed) (entry : List ℕ) → Writes old.entries entry (state old.disk).history (state new.disk).history (Err failed) → (stored_after old.setup m old.me.0 st event).entries ≡ entry ∷ st.entries → IsTaken stepped
          → FailsAt B (λ (es : List NodeEvent) (e : NodeEvent). Leaves new.setup.n (state new.disk).history B es e) events event
      fails-at failed entry written right t =
          let kept : newest_entry (stored_after old.setup m old.me.0 st event) ≡ entry = ap (λ (es : List (List ℕ)). get_or es 0 []) right in
          record {
            accepted = accepts-is _ t.1;
            left = record {
              accepted = h.accepted;
              named = subst (λ (s : Setup). AreNamed s.n events) (sym same.setup) h.named;
              left = subst (λ (es : List (List ℕ)). IfTold (state new.disk).history (OnlyLeaves (ShowsWithOrWithout version_1 es (B.keeps events event)))) (shows-is old B events h)
                  (subst (λ (e : List ℕ). IfTold (state new.disk).history (OnlyLeaves (ShowsWithOrWithout version_1 old.entries e))) (sym kept ∙ ap (λ (x : NodeBehavior). x.keeps events event) (sym h.does))
                  (left-now old.entries entry (state old.disk).history (state new.disk).history written.0));
            };
          }

    -- by the answer of the kept node
    module _ (names : NamesNodes old.setup.n event) (stores : (z : Stored Msg) → RefinesStored m refines old z → new.stale ≡ false → RefinesStored m refines new (stored_after old.setup m old.me.0 z event)) where
      abbrev Says : Result NodeAnswer Failed → Type 0
      Says a = (c : Core Msg) → KeptRefinesCore m refines old c → IsAnswer m refines (IsOfNodes old.setup.n event) c (step_of old.setup m old.me.0 c event) new a

      pub by-step : (a : Result NodeAnswer Failed) → Says a → IfOk (as_step a) (λ step. (B : NodeBehavior) (events : List NodeEvent) → Has old B events → IsStep B events event (Has new B) step)
      by-step (Ok (Node_taken outcome)) says = λ B events h. taken-step names B events h outcome (says (stored_since old.setup m old.me.0 h.base events).core (is-there old B events h)) stores
      by-step (Ok (Node_dropped why)) says = λ B events h. dropped-step names B events h why (says (stored_since old.setup m old.me.0 h.base events).core (is-there old B events h)) stores
      by-step (Err failed) says = tt
      by-step (Ok Node_stale) says = tt
      by-step (Ok Node_no_memory) says = tt

      pub by-address : (a : Result NodeAnswer Failed) → Says a → IsOpen (Has old) → IfOk (as_step a) (GoTo old.setup.n)
      by-address (Ok (Node_taken outcome)) says o =
          let h = o.2 in
          let t = says (stored_since old.setup m old.me.0 h.base o.1).core (is-there old o.0 o.1 h) in
          subst (λ (s : Setup). AreToNodes s.n outcome.sends) same.setup (t.addressed (of-nodes old.setup.n event names))
      by-address (Ok (Node_dropped why)) says o = tt
      by-address (Err failed) says o = tt
      by-address (Ok Node_stale) says o = tt
      by-address (Ok Node_no_memory) says o = tt

      pub by-cut : (a : Result NodeAnswer Failed) → Says a → IsJournaled state m refines event old new a → IsErrOf (as_step a) DiskFault
          → (B : NodeBehavior) (events : List NodeEvent) → Has old B events → FailsAt B (λ (es : List NodeEvent) (e : NodeEvent). Leaves new.setup.n (state new.disk).history B es e) events event
      by-cut (Ok (Node_taken outcome)) says w q = absurd (cc)
      by-cut (Ok (Node_dropped why)) says w q = absurd (cc)
      by-cut (Err failed) says w q = λ B events h.
          fails-at names B events h failed w.entry
          w.written.file
          (w.right refl (stored_since old.setup m old.me.0 h.base events) h.stored) (says (stored_since old.setup m old.me.0 h.base events).core (is-there old B events h))
      by-cut (Ok Node_stale) says w q = absurd (cc)
      by-cut (Ok Node_no_memory) says w q = absurd (cc)

    -- every crash image shows its entries after the answer, too
    pub by-durable : (a : Result NodeAnswer Failed) → IsJournaled state m refines event old new a → new.stale ≡ makes_stale a
        → (old.stale ≡ false → IsDurable state old) → old.stale ≡ false → new.stale ≡ false → IsDurable state new
    by-durable (Ok (Node_taken outcome)) w is durable was fresh =
        subst (λ (es : List (List ℕ)). IfTold (state new.disk).history (OnlyLeaves (Shows version_1 es))) (sym w.written.added) w.written.file.1
    by-durable (Ok (Node_dropped why)) w is durable was fresh =
        subst (λ (x : List File). IfTold x (OnlyLeaves (Shows version_1 new.entries))) (sym w.written.file)
        (subst (λ (es : List (List ℕ)). IfTold (state old.disk).history (OnlyLeaves (Shows version_1 es))) (sym w.written.added) (durable was))
    by-durable (Err failed) w is durable was fresh = absurd (true≢false (sym is ∙ fresh))
    by-durable (Ok Node_stale) w is durable was fresh = absurd (true≢false (sym is ∙ fresh))
    by-durable (Ok Node_no_memory) w is durable was fresh = absurd (true≢false (sym is ∙ fresh))

  pub by-cause : (a : Result NodeAnswer Failed) (before now : ℕ) → HasCause before now (IsErr a) → HasCause before now (IsErrOf (as_step a) DiskFault)
  by-cause (Ok (Node_taken outcome)) before now h = record { never_falls = h.never_falls; rose = λ q. absurd (cc) }
  by-cause (Ok (Node_dropped why)) before now h = record { never_falls = h.never_falls; rose = λ q. absurd (cc) }
  by-cause (Err failed) before now h = record { never_falls = h.never_falls; rose = λ q. h.rose refl }
  by-cause (Ok Node_stale) before now h = record { never_falls = h.never_falls; rose = λ q. absurd (cc) }
  by-cause (Ok Node_no_memory) before now h = record { never_falls = h.never_falls; rose = λ q. absurd (cc) }

  -- ---- from call to call

  pub starts : (s : Setup) (i me : NodeId) (nodes : ℕ) (v : KeptState M Msg D) → IsSetupOf m s → i.0 < s.n → nodes ≡ s.n → i ≡ me
      → v.setup ≡ s → v.me ≡ me → v.stale ≡ true → IsRunning m state nodes i v
  starts s i me nodes v good member count number setup is stale = record {
    good = subst (λ (t : Setup). IsSetupOf m t) (sym setup) good;
    member = subst (λ (t : Setup). v.me.0 < t.n) (sym setup) (subst (λ (k : NodeId). k.0 < s.n) (number ∙ sym is) member);
    count = count ∙ ap (λ (t : Setup). t.n) (sym setup);
    number = number ∙ sym is;
    durable = λ fresh. absurd (true≢false (sym stale ∙ fresh));
  }

  pub running-on : (nodes : ℕ) (me : NodeId) (old new : KeptState M Msg D) → IsRunning m state nodes me old → IsSame old new → (new.stale ≡ false → IsDurable state new)
      → IsRunning m state nodes me new
  running-on nodes me old new runs same durable = record {
    good = subst (λ (s : Setup). IsSetupOf m s) (sym same.setup) runs.good;
    member = subst (λ (s : Setup). new.me.0 < s.n) (sym same.setup) (subst (λ (i : NodeId). i.0 < old.setup.n) (sym same.me) runs.member);
    count = runs.count ∙ ap (λ (s : Setup). s.n) (sym same.setup);
    number = runs.number ∙ sym same.me;
    durable = durable;
  }

  -- ---- reopening

  module _ (old new : KeptState M Msg D) (same : IsSame old new) where
    abbrev Led : Type 0
    Led = (found : Rebuilt Msg) × (core_of new.setup m new.me.0 new.entries ≡ Some found) × RefinesStored m refines new (stored_as new.entries found)

    reopened-durable : (r : Result (Unit {0}) AttachError) → new.stale ≡ not (is_ok r) → OnOk r (IsReopened state m refines old new) → new.stale ≡ false → IsDurable state new
    reopened-durable (Ok x) is on fresh = on.attached.durable
    reopened-durable (Err e) is on fresh = absurd (true≢false (sym is ∙ fresh))

    pub reopened-running : (nodes : ℕ) (me : NodeId) (r : Result (Unit {0}) AttachError) → IsRunning m state nodes me old → new.stale ≡ not (is_ok r)
        → OnOk r (IsReopened state m refines old new) → IsRunning m state nodes me new
    reopened-running nodes me r runs is attached = running-on nodes me old new runs same (reopened-durable r is attached)

    -- what it had stored whose journal it read
    module _ (slims : StandsForSlims m refines)
        (recovers : (events : List NodeEvent) → AreNamed new.setup.n events → (stored_of new.setup m new.me.0 events).core.past.epoch < 2 ^ 64 →
        Recovers new.setup m new.me.0 (shown_of (stored_of new.setup m new.me.0 events)) (stored_of new.setup m new.me.0 events)) (led : Led) where
      by-events : (events : List NodeEvent) → new.entries ≡ shown_of (stored_of new.setup m new.me.0 events) → AreNamed new.setup.n events
          → (stored_of new.setup m new.me.0 events).core.past.epoch < 2 ^ 64 → RefinesStored m refines new (stored_of new.setup m new.me.0 events)
      by-events events entries names low =
          let z : Stored Msg = stored_of new.setup m new.me.0 events in
          let back = recovers events names low in
          let for = led.2 in
          let is : led.0 ≡ back.found = some-injective led.0 back.found (sym led.1 ∙ ap (λ (es : List (List ℕ)). core_of new.setup m new.me.0 es) entries ∙ back.is) in
          let at-found : RefinesCore m refines new.node back.found.core = subst (λ (r : Rebuilt Msg). RefinesCore m refines new.node r.core) is for.node in
          let at-wrote : RefinesCore m refines new.node z.core = slims new.node back.found.core z.core at-found
          (subst (λ (s : Setup). IsPlaced (rules_of s) m new.node.state.me.0 z.core) (sym for.cluster)
          (subst (λ (i : NodeId). IsPlaced (rules_of new.setup) m i.0 z.core) (sym for.number) back.known))
          (subst (λ (s : Setup). slim (rules_of s) m new.node.state.me.0 back.found.core ≡ slim (rules_of s) m new.node.state.me.0 z.core) (sym for.cluster)
          (subst (λ (i : NodeId). slim (rules_of new.setup) m i.0 back.found.core ≡ slim (rules_of new.setup) m i.0 z.core) (sym for.number) back.slims)) in
          record {
            fresh = for.fresh;
            node = at-wrote;
            cluster = for.cluster;
            number = for.number;
            entries = entries;
            saved = for.saved ∙ ap (λ (r : Rebuilt Msg). r.saved) is ∙ back.saved;
          }

      stored-by : (base : Stored Msg) → BeginsWith new.setup m new.me.0 new.entries led.0 base → RefinesStored m refines new base
      stored-by base (inl is) = subst (λ (z : Stored Msg). RefinesStored m refines new z) (sym is) led.2
      stored-by base (inr (events, is, entries, names, low)) =
          subst (λ (z : Stored Msg). RefinesStored m refines new z) (sym is)
          (by-events events (entries ∙ ap (λ (z : Stored Msg). shown_of z) is) names (subst (λ (z : Stored Msg). z.core.past.epoch < 2 ^ 64) is low))

      has-read : IsAttached (state old.disk) (state new.disk) new.entries → HasRead m refines (state old.disk).history new
      has-read attached = record { read = attached.read; found = led.0; leads = led.1; stored = stored-by }

    pub read-by : StandsForSlims m refines → ((events : List NodeEvent) → AreNamed new.setup.n events → (stored_of new.setup m new.me.0 events).core.past.epoch < 2 ^ 64 →
        Recovers new.setup m new.me.0 (shown_of (stored_of new.setup m new.me.0 events)) (stored_of new.setup m new.me.0 events))
        → (r : Result (Unit {0}) AttachError) → OnOk r (IsReopened state m refines old new) → OnOk r (HasRead m refines (state old.disk).history new)
    read-by slims recovers (Ok x) on = has-read slims recovers on.core on.attached
    read-by slims recovers (Err e) on = tt

  -- ---- a whole run

  pub opened-by : (v : KeptState M Msg D) (before : List File) → HasRead m refines before v → IsOpen (Has v)
  opened-by v before h =
      let base : Stored Msg = stored_as v.entries h.found in
      (node_behavior_of v.setup m v.me.0 base, [], record { base = base; does = refl; stored = h.stored base (inl refl); accepted = tt; named = λ e i. absurd i })

  module _ (c : Config) (me : ℕ) (mid end : KeptState M Msg D) (setup : mid.setup ≡ setup_of c) (number : mid.me.0 ≡ me) (before : List File) (read : HasRead m refines before mid) where
    -- the node had stored this, and took nothing yet
    begun : (base : Stored Msg) → BeginsWith (setup_of c) m me mid.entries read.found base → Has mid (node_behavior_of (setup_of c) m me base) []
    begun base origin =
        let here : BeginsWith mid.setup m mid.me.0 mid.entries read.found base =
        subst (λ (s : Setup). BeginsWith s m mid.me.0 mid.entries read.found base) (sym setup) (subst (λ (i : ℕ). BeginsWith (setup_of c) m i mid.entries read.found base) (sym number) origin) in
        record {
          base = base;
          does = ap (λ (s : Setup). node_behavior_of s m me base) (sym setup) ∙ ap (λ (i : ℕ). node_behavior_of mid.setup m i base) (sym number);
          stored = read.stored base here;
          accepted = tt;
          named = λ e i. absurd i;
        }

    led-there : core_of (setup_of c) m me mid.entries ≡ Some read.found
    led-there = subst (λ (i : ℕ). core_of (setup_of c) m i mid.entries ≡ Some read.found) number (subst (λ (s : Setup). core_of s m mid.me.0 mid.entries ≡ Some read.found) setup read.leads)

    module _ (ends ends_now : Option (List End)) where
      pub node-ran : (printed : List ℕ) → IsDurable state end
          → ((B : NodeBehavior) (events : List NodeEvent) → Has mid B events → HasLooped events (Has end B) ends ends_now (node_loop_of B 200000 64 c.turns events))
          → ((B : NodeBehavior) (events : List NodeEvent) → Has end B events → (printed ≡ B.prints events) × (B.epoch events < 2 ^ 64)) → IsNodeRun m c me ends ends_now before (state end.disk).history printed
      node-ran printed durable loops prints = record {
        held = mid.entries;
        found = read.found;
        read = read.read;
        leads = led-there;
        went = λ base origin.
            let B : NodeBehavior = node_behavior_of (setup_of c) m me base in
            let l = loops B [] (begun base origin) in
            let p = prints B l.later l.there in
            record {
              taken = l.later;
              accepted = l.there.accepted;
              named = subst (λ (n : ℕ). AreNamed n l.later) (sym (nodes-is end B l.later l.there)) l.there.named;
              kept = subst (λ (es : List (List ℕ)). IfTold (state end.disk).history (OnlyLeaves (Shows version_1 es))) (shows-is end B l.later l.there) durable;
              loops = l.loops;
              block = p.0;
              low = p.1;
            };
      }

      -- a run that the disk ends
      pub cut-short : Cuts (Has mid) (λ (B : NodeBehavior) (es : List NodeEvent) (e : NodeEvent). Leaves end.setup.n (state end.disk).history B es e) ends (record { count = 0; idle = true; idle_turns = 0 }) ends_now
          → end.setup.n ≡ mid.setup.n → IsCutShort m c me ends ends_now before (state end.disk).history
      cut-short cuts nodes = record {
        held = mid.entries;
        found = read.found;
        read = read.read;
        leads = led-there;
        went = λ base origin.
            let B : NodeBehavior = node_behavior_of (setup_of c) m me base in
            let cut = cuts B [] (begun base origin) in
            record {
              taken = cut.kept;
              failed = cut.failed;
              fails = cut.fails.accepted;
              kept = subst (λ (n : ℕ). Leaves n (state end.disk).history B cut.kept cut.failed) (nodes ∙ ap (λ (s : Setup). s.n) setup) cut.fails.left;
              sent = λ there told. cut.sent (begins [] there) (record { events_are = refl; ends_are = told; count = refl; idle = refl; idle_turns = refl });
            };
      }

    -- the node is the same after its loop
    pub same-node : (ends ends_now : Option (List End)) → ((B : NodeBehavior) (events : List NodeEvent) → Has mid B events → HasLooped events (Has end B) ends ends_now (node_loop_of B 200000 64 c.turns events))
        → (end.setup ≡ mid.setup) × (end.me ≡ mid.me)
    same-node ends ends_now loops =
        let o = opened-by mid before read in
        let l = loops o.0 o.1 o.2 in
        let is : node_behavior_of end.setup m end.me.0 l.there.base ≡ node_behavior_of mid.setup m mid.me.0 o.2.base = sym l.there.does ∙ o.2.does in
        (ap (λ (x : NodeBehavior). x.setup) is, ap (λ (k : ℕ). let i : NodeId = record { 0 = k } in i) (ap (λ (x : NodeBehavior). x.me) is))

  -- ---- a refusal

  pub refused : (c : Config) (me at : ℕ) (s : Setup) (i : NodeId) (before now : List File) → s ≡ setup_of c → i.0 ≡ me → IsRefused m s i.0 before now at → IsRefused m (setup_of c) me before now at
  refused c me at s i before now setup number h =
      subst (λ (n : ℕ). IsRefused m (setup_of c) n before now at) number (subst (λ (t : Setup). IsRefused m t i.0 before now at) setup h)
