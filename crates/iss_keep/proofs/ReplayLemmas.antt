-- A node that recovers from the entries of its journal: first from the snapshots in front, then from the events behind.
use Rattle.std.proofs.Common.{arith, append_assoc, inl, inr, length-append, length-take-le, true≢false, ◌≡◌, ◌⊎◌, ℕ, zero, suc, ◌+◌, ◌<◌, ◌≤◌, true, false, cond, List, [], ◌∷◌, ◌++◌, length, take, drop, get_or, Option, Some, None, Bool, Result, Ok, IfOk, refl, sym, ap, ◌∙◌, subst, take-append-drop}
use Rattle.std.proofs.lemmas.List.{drop_more, reverse-reverse, take_all, take_at, take_more}
use Rattle.std.specs.List.{filter}
use Rattle.std.specs.Prelude.{reverse}
use Rattle.iss_journal.specs.Retained.{is_snapshot, retained}
use Rattle.iss_rules.proofs.Logs.{newborn-log}
use Rattle.iss_rules.specs.Concrete.{rules_of}
use Rattle.iss_model.specs.Frames.{Frame, frame_of}
use Rattle.iss_model.specs.Node.{Stepped, initial_core}
use Rattle.iss_rules.specs.declared.events.NodeEvent.{NodeEvent}
use Rattle.iss_rules.specs.declared.events.Why.{Why}
use Rattle.iss_node.specs.Rebuilding.{IsOf as IsOfFound, IsReadOn, RebuildingView, RefinesRebuilt}
use Rattle.iss_node.specs.Saved.{SavedState, saved_of}
use Rattle.iss_node.specs.State.{NodeView, RefinesCore}
use Rattle.iss_node.specs.Steps.{IsDrop, IsTurn}
use Rattle.iss_node.specs.declared.answers.Outcome.{Outcome}
use Rattle.iss_rebuilt.proofs.StaysTurned.{turned-last}
use Rattle.iss_rebuilt.specs.Reading.{Rebuilt, core_of_step, reads_entry, rebuilt, recovered, replayed, replays, woken_of}
use Rattle.iss_request.specs.declared.ids.NodeId.{NodeId}
use Rattle.iss_request.specs.declared.requests.Value.{Value}
use Rattle.iss_request.specs.declared.setups.Setup.{Setup}
use Rattle.iss_sb.specs.Calls.{Relation}
use Rattle.iss_sb.specs.Evidence.{Module}
use Rattle.iss_keep.specs.Cores.{StopsAt, core_of, step_of}
use Rattle.iss_keep.specs.Entries.{event_in}
use Rattle.iss_keep.specs.Internal.Replays.{AreInFront, GoesTo, IsFound, IsOf, IsReaderOf, IsRebuiltBy, IsReplayed}
use Rattle.iss_keep.proofs.RetainLemmas.{behind-event}

-- ---- entries, oldest first and newest first

turned-more : (entries : List (List ℕ)) (k : ℕ) → k < length entries → reverse (take (k + 1) entries) ≡ get_or entries k [] ∷ reverse (take k entries)
turned-more entries k lt = ap (λ (es : List (List ℕ)). reverse es) (take_more entries k [] lt) ∙ turned-last (take k entries) (get_or entries k [])

-- the entries in front are all snapshots
pub all-front : (entries : List (List ℕ)) (front k : ℕ) → AreInFront entries front → k ≤ front →
    filter is_snapshot (reverse (take k entries)) ≡ reverse (take k entries)
all-front entries front zero h le = refl
all-front entries front (suc k) h le =
    let lt : k < front = omega (arith, le) in
    let within = h.within in
    let more : reverse (take (suc k) entries) ≡ get_or entries k [] ∷ reverse (take k entries) =
    ap (λ (n : ℕ). reverse (take n entries)) (let q : suc k ≡ k + 1 = omega arith in q) ∙ turned-more entries k (omega (arith, lt, within)) in
    let rest = all-front entries front k h (omega (arith, le)) in
    subst (λ (xs : List (List ℕ)). filter is_snapshot xs ≡ xs) (sym more)
    (ap (λ (b : Bool). cond b (get_or entries k [] ∷ filter is_snapshot (reverse (take k entries))) (filter is_snapshot (reverse (take k entries)))) (h.are k lt)
    ∙ ap (λ (xs : List (List ℕ)). get_or entries k [] ∷ xs) rest)

module _ {Msg : Type 0} (s : Setup) (m : Module Msg) (me : ℕ) where
  abbrev W : Frame Msg
  W = frame_of s m

  abbrev row : List ℕ → Bool → Option (Rebuilt Msg) → Option (Rebuilt Msg) → Option (Rebuilt Msg)
  row entry b first others = cond b (woken_of W me (reads_entry W me first entry)) (replays W me (event_in s.n entry) others)

  -- one entry more
  pub one-more : (front : List (List ℕ)) (entry : List ℕ) → core_of s m me (front ++ entry ∷ [])
      ≡ row entry (is_snapshot entry) (rebuilt W me (filter is_snapshot (reverse front))) (core_of s m me front)
  one-more front entry = ap (λ (es : List (List ℕ)). recovered W (event_in s.n) me es) (turned-last front entry)

  pub event-more : (front : List (List ℕ)) (entry : List ℕ) (found : Rebuilt Msg) → is_snapshot entry ≡ false → core_of s m me front ≡ Some found →
      core_of s m me (front ++ entry ∷ []) ≡ replays W me (event_in s.n entry) (Some found)
  event-more front entry found kind before =
      one-more front entry
      ∙ (ap (λ (b : Bool). row entry b (rebuilt W me (filter is_snapshot (reverse front))) (core_of s m me front)) kind
      ∙ ap (λ (o : Option (Rebuilt Msg)). replays W me (event_in s.n entry) o) before)

  -- snapshots alone
  pub snapshots-wake : (xs : List (List ℕ)) → filter is_snapshot xs ≡ xs → recovered W (event_in s.n) me xs ≡ woken_of W me (rebuilt W me xs)
  snapshots-wake [] h = refl
  snapshots-wake (x ∷ xs) h = go (is_snapshot x) refl h
    where
      same : (ps qs : List (List ℕ)) → ◌≡◌ {A = List (List ℕ)} (x ∷ ps) (x ∷ qs) → ps ≡ qs
      same ps qs q = cc

      few : (ys : List (List ℕ)) → length (filter is_snapshot ys) ≤ length ys
      few [] = omega arith
      few (y ∷ ys) = count (is_snapshot y) (few ys)
        where
          count : (b : Bool) → length (filter is_snapshot ys) ≤ length ys → length (cond b (y ∷ filter is_snapshot ys) (filter is_snapshot ys)) ≤ length (y ∷ ys)
          count true le = omega (arith, le)
          count false le = omega (arith, le)

      go : (b : Bool) → is_snapshot x ≡ b → cond b (x ∷ filter is_snapshot xs) (filter is_snapshot xs) ≡ x ∷ xs →
          row x (is_snapshot x) (rebuilt W me (filter is_snapshot xs)) (recovered W (event_in s.n) me xs) ≡ woken_of W me (reads_entry W me (rebuilt W me xs) x)
      go true q k =
          ap (λ (b : Bool). row x b (rebuilt W me (filter is_snapshot xs)) (recovered W (event_in s.n) me xs)) q
          ∙ ap (λ (ys : List (List ℕ)). woken_of W me (reads_entry W me (rebuilt W me ys) x)) (same (filter is_snapshot xs) xs k)
      go false q k =
          let le = few xs in
          let n : length (filter is_snapshot xs) ≡ length (x ∷ xs) = ap (λ (ys : List (List ℕ)). length ys) k in
          absurd (omega (arith, le, n))

  -- ---- entries that lead to a core contain none that is refused

  at-end : (front : List (List ℕ)) (x : List ℕ) (rest : List (List ℕ)) → get_or (front ++ x ∷ rest) (length front) [] ≡ x
  at-end [] x rest = refl
  at-end (y ∷ ys) x rest = at-end ys x rest

  replays-none : (o : Option NodeEvent) → replays W me o None ≡ None
  replays-none None = refl
  replays-none (Some event) = refl

  woken-none : (o : Option (Rebuilt Msg)) → woken_of W me o ≡ None → o ≡ None
  woken-none None h = refl
  woken-none (Some r) h = absurd (cc)

  no-core : (c : Rebuilt Msg) → None ≡ Some c → ⊥
  no-core c h = cc

  module _ (entries : List (List ℕ)) (stay : retained entries ≡ entries) where
    -- the first k entries lead nowhere, and no later one helps
    record IsStuck (k : ℕ) : Type 0 where
      none : core_of s m me (take k entries) ≡ None
      why : (rebuilt W me (filter is_snapshot (reverse (take k entries))) ≡ None)
          ⊎ ((j : ℕ) × (j < k) × (is_snapshot (get_or entries j []) ≡ false))

    abbrev at : ℕ → List ℕ
    at k = get_or entries k []

    abbrev fronts : ℕ → Option (Rebuilt Msg)
    fronts k = rebuilt W me (filter is_snapshot (reverse (take k entries)))

    entry-more : (k : ℕ) → k < length entries → core_of s m me (take (k + 1) entries) ≡ row (at k) (is_snapshot (at k)) (fronts k) (core_of s m me (take k entries))
    entry-more k lt = ap (λ (es : List (List ℕ)). core_of s m me es) (take_more entries k [] lt) ∙ one-more (take k entries) (at k)

    fronts-more : (k : ℕ) → k < length entries → is_snapshot (at k) ≡ true → fronts (k + 1) ≡ reads_entry W me (fronts k) (at k)
    fronts-more k lt q =
        ap (λ (es : List (List ℕ)). rebuilt W me (filter is_snapshot es)) (turned-more entries k lt)
        ∙ ap (λ (b : Bool). rebuilt W me (cond b (at k ∷ filter is_snapshot (reverse (take k entries))) (filter is_snapshot (reverse (take k entries))))) q

    stuck-on : (k : ℕ) → k < length entries → IsStuck k → IsStuck (k + 1)
    stuck-on k lt h = go (is_snapshot (at k)) refl
      where
        go : (b : Bool) → is_snapshot (at k) ≡ b → IsStuck (k + 1)
        go false q = record {
          none = entry-more k lt ∙ (ap (λ (b : Bool). row (at k) b (fronts k) (core_of s m me (take k entries))) q
              ∙ (ap (λ (o : Option (Rebuilt Msg)). replays W me (event_in s.n (at k)) o) h.none ∙ replays-none (event_in s.n (at k))));
          why = inr (k, omega arith, q);
        }
        go true q = elim h.why [
          | inl empty ↦ record {
            none = entry-more k lt ∙ (ap (λ (b : Bool). row (at k) b (fronts k) (core_of s m me (take k entries))) q
                ∙ ap (λ (o : Option (Rebuilt Msg)). woken_of W me (reads_entry W me o (at k))) empty);
            why = inl (fronts-more k lt q ∙ ap (λ (o : Option (Rebuilt Msg)). reads_entry W me o (at k)) empty);
          }
          | inr (j, below, event) ↦ absurd (true≢false (sym q ∙ behind-event entries j k stay event (omega (arith, below)) lt))
        ]

    stuck-all : (d k : ℕ) → k + d ≡ length entries → IsStuck k → core_of s m me entries ≡ None
    stuck-all zero k sum h =
        ap (λ (es : List (List ℕ)). core_of s m me es) (sym (take_all k entries (omega (arith, sum)))) ∙ h.none
    stuck-all (suc d) k sum h = stuck-all d (k + 1) (omega (arith, sum)) (stuck-on k (omega (arith, sum)) h)

    stops-stuck : (gates : List ℕ) (offset : ℕ) (stops : StopsAt s m me offset entries gates) → IsStuck (length stops.front + 1)
    stops-stuck gates offset stops = go (is_snapshot stops.entry) refl
      where
        long : length (stops.front ++ stops.entry ∷ []) ≡ length stops.front + 1
        long = length-append stops.front (stops.entry ∷ [])

        parts : entries ≡ (stops.front ++ stops.entry ∷ []) ++ stops.behind
        parts = stops.is ∙ sym (append_assoc stops.front (stops.entry ∷ []) stops.behind)

        first : take (length stops.front + 1) entries ≡ stops.front ++ stops.entry ∷ []
        first = ap (λ (es : List (List ℕ)). take (length stops.front + 1) es) parts
            ∙ take_at (stops.front ++ stops.entry ∷ []) stops.behind (length stops.front + 1) long

        entry-is : at (length stops.front) ≡ stops.entry
        entry-is = ap (λ (es : List (List ℕ)). get_or es (length stops.front) []) stops.is ∙ at-end stops.front stops.entry stops.behind

        none : core_of s m me (take (length stops.front + 1) entries) ≡ None
        none = ap (λ (es : List (List ℕ)). core_of s m me es) first ∙ stops.none

        go : (b : Bool) → is_snapshot stops.entry ≡ b → IsStuck (length stops.front + 1)
        go false q = record { none = none; why = inr (length stops.front, omega arith, ap is_snapshot entry-is ∙ q) }
        go true q = record {
          none = none;
          why = inl (
              ap (λ (es : List (List ℕ)). rebuilt W me (filter is_snapshot (reverse es))) first
              ∙ (ap (λ (es : List (List ℕ)). rebuilt W me (filter is_snapshot es)) (turned-last stops.front stops.entry)
              ∙ (ap (λ (b : Bool). rebuilt W me (cond b (stops.entry ∷ filter is_snapshot (reverse stops.front)) (filter is_snapshot (reverse stops.front)))) q
              ∙ woken-none _ (sym (one-more stops.front stops.entry
              ∙ ap (λ (b : Bool). row stops.entry b (rebuilt W me (filter is_snapshot (reverse stops.front))) (core_of s m me stops.front)) q) ∙ stops.none))));
        }

    pub stops-not : (gates : List ℕ) (c : Rebuilt Msg) (offset : ℕ) → core_of s m me entries ≡ Some c → StopsAt s m me offset entries gates → ⊥
    stops-not gates c offset leads stops =
        let k : ℕ = length stops.front in
        let long : length entries ≡ k + suc (length stops.behind) =
        ap (λ (es : List (List ℕ)). length es) stops.is ∙ length-append stops.front (stops.entry ∷ stops.behind) in
        no-core c (sym (stuck-all (length stops.behind) (k + 1) (omega (arith, long)) (stops-stuck gates offset stops)) ∙ leads)

module _ {M Msg : Type 0} (s : Setup) (m : Module Msg) (refines : Relation M Msg) (me : ℕ) where
  -- ---- one event

  module _ (found : Rebuilt Msg) (entry : List ℕ) (old new : NodeView M Msg) where
    replays-at : (event : NodeEvent) (o : Stepped Msg) → Some event ≡ event_in s.n entry → step_of s m me found.core event ≡ o →
        replays (frame_of s m) me (event_in s.n entry) (Some found) ≡ replayed found.saved (core_of_step o)
    replays-at event o read q =
        ap (λ (e : Option NodeEvent). replays (frame_of s m) me e (Some found)) (sym read) ∙ ap (λ (z : Stepped Msg). replayed found.saved (core_of_step z)) q

    pub goes-taken : (of : Type 0) (event : NodeEvent) (outcome : Outcome) → Some event ≡ event_in s.n entry →
        IsTurn m refines of (step_of s m me found.core event) new outcome → new.state.saved ≡ old.state.saved → saved_of old.state.saved ≡ found.saved →
        GoesTo s m refines me found entry new true
    goes-taken of event outcome read a same saved =
        (record { core = a.turn.core; saved = found.saved }, (a.turned.refined, ap (λ (z : SavedState). saved_of z) same ∙ saved), replays-at event _ read a.step_is)

    pub goes-dropped : (event : NodeEvent) (why : Why) → Some event ≡ event_in s.n entry → IsDrop m refines found.core (step_of s m me found.core event) new why →
        GoesTo s m refines me found entry new false
    goes-dropped event why read a = replays-at event _ read a.step_is

    pub goes-nowhere : None ≡ event_in s.n entry → GoesTo s m refines me found entry new false
    goes-nowhere read = ap (λ (e : Option NodeEvent). replays (frame_of s m) me e (Some found)) (sym read)

  -- ---- where entries stop

  pub stops-here : (entries : List (List ℕ)) (k : ℕ) → k < length entries → (found : Rebuilt Msg) → core_of s m me (take k entries) ≡ Some found →
      (gates : List ℕ) (at : ℕ) → at ≡ get_or gates k 0 → core_of s m me (take k entries ++ get_or entries k [] ∷ []) ≡ None → StopsAt s m me at entries gates
  stops-here entries k lt found before gates at offset none = record {
    front = take k entries;
    entry = get_or entries k [];
    behind = drop (k + 1) entries;
    is = sym (take-append-drop k entries) ∙ ap (λ (es : List (List ℕ)). take k entries ++ es) (drop_more entries k [] lt);
    offset = offset ∙ ap (λ (i : ℕ). get_or gates i 0) (sym (length-take-le k entries (omega (arith, lt))));
    found = found;
    before = before;
    none = none;
  }

-- ---- the snapshots in front

module _ {M Msg : Type 0} (s : Setup) (m : Module Msg) (refines : Relation M Msg) (me : NodeId) (entries : List (List ℕ)) (front : ℕ) (are : AreInFront entries front) where
  abbrev V : Frame Msg
  V = frame_of s m

  module _ (k : ℕ) (lt : k < front) (old : RebuildingView M Msg) (next : Option (RebuildingView M Msg)) (entry : List ℕ) (is : entry ≡ get_or entries k []) (own : IsReaderOf s me old)
      (before : IsRebuiltBy s m refines me.0 (take k entries) old)
      (read : (r : Rebuilt Msg) → RefinesRebuilt m refines old r → IsReadOn m refines (reads_entry (frame_of old.state.setup m) old.state.me.0 (Some r) entry) next) where
    in-row : k < length entries
    in-row = let w = are.within in omega (arith, lt, w)

    -- the reader reads as the model reads entry k
    here : IsReadOn m refines (reads_entry V me.0 (Some before.0) (get_or entries k [])) next
    here =
        subst (λ (e : List ℕ). IsReadOn m refines (reads_entry V me.0 (Some before.0) e) next) is
        (subst (λ (i : NodeId). IsReadOn m refines (reads_entry V i.0 (Some before.0) entry) next) own.number
        (subst (λ (t : Setup). IsReadOn m refines (reads_entry (frame_of t m) old.state.me.0 (Some before.0) entry) next) own.cluster (read before.0 before.1)))

    -- the snapshots so far lead on
    at-entry : (o : Option (Rebuilt Msg)) → reads_entry V me.0 (Some before.0) (get_or entries k []) ≡ o →
        rebuilt V me.0 (reverse (take (k + 1) entries)) ≡ o
    at-entry o h =
        ap (λ (es : List (List ℕ)). rebuilt V me.0 es) (turned-more entries k in-row)
        ∙ (ap (λ (f : Option (Rebuilt Msg)). reads_entry V me.0 f (get_or entries k [])) before.2 ∙ h)

    pub read-on : (new : RebuildingView M Msg) → next ≡ Some new → IsRebuiltBy s m refines me.0 (take (k + 1) entries) new
    read-on new q =
        go (reads_entry V me.0 (Some before.0) (get_or entries k [])) refl
        (subst (λ (o : Option (RebuildingView M Msg)). IsReadOn m refines (reads_entry V me.0 (Some before.0) (get_or entries k [])) o) q here)
      where
        go : (o : Option (Rebuilt Msg)) → reads_entry V me.0 (Some before.0) (get_or entries k []) ≡ o → IsReadOn m refines o (Some new) →
            IsRebuiltBy s m refines me.0 (take (k + 1) entries) new
        go None z h = absurd h
        go (Some r) z h = (r, h, at-entry (Some r) z)

    pub read-stops : next ≡ None → (gates : List ℕ) (at : ℕ) → at ≡ get_or gates k 0 → StopsAt s m me.0 at entries gates
    read-stops q gates at offset =
        go (reads_entry V me.0 (Some before.0) (get_or entries k [])) refl
        (subst (λ (o : Option (RebuildingView M Msg)). IsReadOn m refines (reads_entry V me.0 (Some before.0) (get_or entries k [])) o) q here)
      where
        woke : core_of s m me.0 (take k entries) ≡ woken_of V me.0 (Some before.0)
        woke = snapshots-wake s m me.0 (reverse (take k entries)) (all-front entries front k are (omega (arith, lt)))
            ∙ ap (λ (o : Option (Rebuilt Msg)). woken_of V me.0 o) before.2

        last : rebuilt V me.0 (filter is_snapshot (reverse (take k entries))) ≡ Some before.0
        last = ap (λ (es : List (List ℕ)). rebuilt V me.0 es) (all-front entries front k are (omega (arith, lt))) ∙ before.2

        go : (o : Option (Rebuilt Msg)) → reads_entry V me.0 (Some before.0) (get_or entries k []) ≡ o → IsReadOn m refines o None →
            StopsAt s m me.0 at entries gates
        go (Some r) z h = absurd h
        go None z h =
            stops-here s m refines me.0 entries k in-row _ woke gates at offset
            (one-more s m me.0 (take k entries) (get_or entries k [])
            ∙ (ap (λ (b : Bool). row s m me.0 (get_or entries k []) b (rebuilt V me.0 (filter is_snapshot (reverse (take k entries)))) (core_of s m me.0 (take k entries))) (are.are k lt)
            ∙ (ap (λ (f : Option (Rebuilt Msg)). woken_of V me.0 (reads_entry V me.0 f (get_or entries k []))) last
            ∙ ap (λ (f : Option (Rebuilt Msg)). woken_of V me.0 f) z)))

    pub still-reads : (new : RebuildingView M Msg) → (new.state.setup ≡ old.state.setup) × (new.state.me ≡ old.state.me) → IsReaderOf s me new
    still-reads new same = record { cluster = same.0 ∙ own.cluster; number = same.1 ∙ own.number }

  -- woken, the node is at the core of the snapshots
  pub finished : (v : RebuildingView M Msg) (node : NodeView M Msg) → IsReaderOf s me v → IsRebuiltBy s m refines me.0 (take front entries) v →
      ((r : Rebuilt Msg) → RefinesRebuilt m refines v r → IsOfFound m refines (woken_of (frame_of v.state.setup m) v.state.me.0 (Some r)) node) →
      IsReplayed s m refines me.0 (take front entries) node
  finished v node own before wakes =
      let w = wakes before.0 before.1 in
      let there : woken_of V me.0 (Some before.0) ≡ Some w.rebuilt =
      subst (λ (i : NodeId). woken_of V i.0 (Some before.0) ≡ Some w.rebuilt) own.number
      (subst (λ (t : Setup). woken_of (frame_of t m) v.state.me.0 (Some before.0) ≡ Some w.rebuilt) own.cluster w.is) in (
        w.rebuilt,
        (w.refined, w.saved),
        snapshots-wake s m me.0 (reverse (take front entries)) (all-front entries front front are (omega arith))
            ∙ (ap (λ (o : Option (Rebuilt Msg)). woken_of V me.0 o) before.2 ∙ there),
      )

  -- ---- the events behind them

  module _ (stay : retained entries ≡ entries) (k : ℕ) (behind : front ≤ k) (lt : k < length entries) (old new : NodeView M Msg) (entry : List ℕ)
      (is : entry ≡ get_or entries k []) (own : IsOf s me old) (before : IsReplayed s m refines me.0 (take k entries) old) where
    no-snapshot-here : is_snapshot (get_or entries k []) ≡ false
    no-snapshot-here = behind-event entries front k stay (are.last (omega (arith, behind, lt))) behind lt

    -- the node's step at its entry is the model's at entry k
    there : (o : Option (Rebuilt Msg)) → replays (frame_of old.state.setup m) old.state.me.0 (event_in old.state.setup.n entry) (Some before.0) ≡ o →
        core_of s m me.0 (take k entries ++ get_or entries k [] ∷ []) ≡ o
    there o h =
        event-more s m me.0 (take k entries) (get_or entries k []) before.0 no-snapshot-here before.2
        ∙ subst (λ (e : List ℕ). replays V me.0 (event_in s.n e) (Some before.0) ≡ o) is
        (subst (λ (i : NodeId). replays V i.0 (event_in s.n entry) (Some before.0) ≡ o) own.number
        (subst (λ (t : Setup). replays (frame_of t m) old.state.me.0 (event_in t.n entry) (Some before.0) ≡ o) own.cluster h))

    pub replay-on : ((found : Rebuilt Msg) → IsFound m refines old found → GoesTo old.state.setup m refines old.state.me.0 found entry new true) →
        IsReplayed s m refines me.0 (take (k + 1) entries) new
    replay-on goes =
        let g = goes before.0 before.1 in
        (g.0, g.1, ap (λ (es : List (List ℕ)). core_of s m me.0 es) (take_more entries k [] lt) ∙ there (Some g.0) g.2)

    pub replay-stops : ((found : Rebuilt Msg) → IsFound m refines old found → GoesTo old.state.setup m refines old.state.me.0 found entry new false) →
        (gates : List ℕ) (at : ℕ) → at ≡ get_or gates k 0 → StopsAt s m me.0 at entries gates
    replay-stops goes gates at offset =
        stops-here s m refines me.0 entries k lt before.0 before.2 gates at offset (there None (goes before.0 before.1))

module _ {M Msg : Type 0} (s : Setup) (m : Module Msg) (refines : Relation M Msg) (me : NodeId) (entries : List (List ℕ)) where
  pub replay-end : (k : ℕ) (node : NodeView M Msg) → length entries ≤ k → IsReplayed s m refines me.0 (take k entries) node → IsReplayed s m refines me.0 entries node
  replay-end k node all h = subst (λ (es : List (List ℕ)). IsReplayed s m refines me.0 es node) (take_all k entries all) h

-- The node keeps its set-up and identity.
pub still-of : {M Msg : Type 0} (s : Setup) (me : NodeId) (old new : NodeView M Msg) → IsOf s me old → (new.state.setup ≡ old.state.setup) × (new.state.me ≡ old.state.me) →
    IsOf s me new
still-of s me old new own same = record { cluster = same.0 ∙ own.cluster; number = same.1 ∙ own.number }

-- A node that took no event reports an empty log and epoch 0.
pub fresh-shown : {M Msg : Type 0} (m : Module Msg) (refines : Relation M Msg) (v : NodeView M Msg) → RefinesCore m refines v initial_core →
    (v.state.log.entries ≡ []) × (v.state.epoch ≡ 0)
fresh-shown m refines v h =
    (sym (reverse-reverse v.state.log.entries) ∙ ap (λ (xs : List Value). reverse xs) (sym h.held.state.tied.log ∙ newborn-log (rules_of v.state.setup) m v.state.me.0), h.held.state.tied.epoch)

-- ---- results

pub went : {E : Type 0} (r : Result Bool E) (b : Bool) (P : Bool → Type 0) → r ≡ Ok b → IfOk r P → P b
went {E = E} r b P is h = subst (λ (z : Result Bool E). IfOk z P) is h
