-- A node that read snapshots, one after the other, refines what the model rebuilds of them, and wakes as that does.
use Rattle.std.proofs.Common.{arith, inl, inr, ◌≡◌, ℕ, ◌+◌, ◌<◌, ◌≤◌, false, is_some, nat_le, List, [], ◌∷◌, ◌++◌, length, take, get_or, reverse, Option, Some, None, refl, sym, ap, ◌∙◌, subst, add-one}
use Rattle.std.proofs.Math.Seq.{take-suc}
use Rattle.std.proofs.lemmas.Bool.Decides.{leb_tells}
use Rattle.std.proofs.lemmas.List.{reverse-append, take_all}
use Rattle.iss_model.specs.Frames.{Frame, frame_of}
use Rattle.iss_model.specs.Node.{Core, Early as Kept_early, Turn, initial_core, takes_each, then_turn, unchanged}
use Rattle.iss_node.proofs.EpochEnd.EpochEndRefines.{complete-is}
use Rattle.iss_node.proofs.Log.LogIsDelivered.{has-slots}
use Rattle.iss_node.proofs.Steps.EntriesCompose.{nothing-entered}
use Rattle.iss_node.proofs.Steps.SavedAfter.{nothing-held}
use Rattle.iss_node.proofs.Steps.OutcomesCompose.{nothing, nothing-made, nothing-sent}
use Rattle.iss_node.proofs.Steps.VotesDoNotMatter.{each-held, held-parts}
use Rattle.iss_node.specs.Internal.Ready.{IsOpen}
use Rattle.iss_node.specs.Internal.Rebuilding.{IsReadAs}
use Rattle.iss_node.specs.Internal.Shape.{AreFrom}
use Rattle.iss_node.specs.Rebuilding.{HasRead, IsFirstBad, IsOf, IsReadOn, RebuildingView, RefinesRebuilt}
use Rattle.iss_node.specs.Saved.{SavedState, saved_of}
use Rattle.iss_node.specs.State.{NodeView, RefinesBareCore, RefinesCore, StateRefinesCore, StateView, bare, holding, seen_early}
use Rattle.iss_node.specs.Steps.{IsLater, IsTurnBehind, IsTurned}
use Rattle.iss_node.specs.declared.answers.Early.{Early}
use Rattle.iss_node.specs.declared.answers.Outcome.{Outcome}
use Rattle.iss_rebuilt.specs.Reading.{Rebuilt, reads_entry, rebuilt, woken, woken_of}
use Rattle.iss_rebuilt.specs.Stored.{nothing_saved}
use Rattle.iss_request.specs.declared.requests.Value.{Value}
use Rattle.iss_request.specs.declared.setups.Setup.{Setup}
use Rattle.iss_rules.proofs.Logs.{newborn-log}
use Rattle.iss_rules.specs.Concrete.{rules_of}
use Rattle.iss_rules.specs.Formats.{formats_of}
use Rattle.iss_rules.specs.Past.{initial_history, is_complete, start_of}
use Rattle.iss_rules.specs.Setups.{IsSetupOf}
use Rattle.iss_sb.specs.Evidence.{Item, Module}
use Rattle.iss_sb.specs.declared.effects.Params.{Params}

-- ---- no snapshot

-- Nothing is in the log of a node that took no event, and an epoch has a slot.
unfinished-first : {M Msg : Type 0} (m : Module Msg) (v : StateView M Msg) → IsSetupOf m v.setup → is_complete (rules_of v.setup) m v.me.0 initial_history ≡ false
unfinished-first m v good =
    ap (λ (log : List Value). nat_le (start_of (rules_of v.setup) log 1) (length log)) (newborn-log (rules_of v.setup) m v.me.0)
    ∙ elim (leb_tells (start_of (rules_of v.setup) [] 1) 0) [
      | inl t ↦ let le = t.1 in let some : 0 < v.setup.epoch = (has-slots v.setup good.good).some [] 0 in absurd (omega (arith, le, some))
      | inr t ↦ t.0
    ]

started-in : {M Msg : Type 0} (m : Module Msg) (refines : M → Params → ℕ → List (Item Msg) → Type 0) (v : StateView M Msg) → IsSetupOf m v.setup → (used : ℕ) → used ≡ 0 → StateRefinesCore m refines v (record initial_core { leaf = used }) →
    v.saved ≡ record { from = 0; low = 0; strays = [] } → (early : List (Early Msg)) → early ≡ [] →
    RefinesRebuilt m refines (record { state = v; early = early }) (record { core = initial_core; saved = nothing_saved })
started-in {Msg = Msg} m refines v good used none h saved early is = record {
  read = record {
    core = subst (λ (k : ℕ). StateRefinesCore m refines v (record initial_core { leaf = k })) none h;
    saved = ap (λ (s : SavedState). saved_of s) saved ∙ nothing-held;
    epoch = refl;
    unfinished = unfinished-first m v good;
    landed = refl;
  };
  early = ap (λ (xs : List (Early Msg)). seen_early xs) is;
  from = subst (λ (xs : List (Early Msg)). AreFrom v.setup.n xs) (sym is) tt;
}

-- The state of a node that has just started.
pub started-so : {M Msg : Type 0} (m : Module Msg) (refines : M → Params → ℕ → List (Item Msg) → Type 0) (s : Setup) → IsSetupOf m s → (node : NodeView M Msg) → node.state.setup ≡ s →
    (used : ℕ) → used ≡ 0 → RefinesCore m refines node (record initial_core { leaf = used }) → node.state.saved ≡ record { from = 0; low = 0; strays = [] } →
    (v : StateView M Msg) → v ≡ node.state → (early : List (Early Msg)) → early ≡ [] →
    RefinesRebuilt m refines (record { state = v; early = early }) (record { core = initial_core; saved = nothing_saved })
started-so {M = M} {Msg = Msg} m refines s good node same used none h saved v v_is early is =
    subst (λ (z : StateView M Msg). RefinesRebuilt m refines (record { state = z; early = early }) (record { core = initial_core; saved = nothing_saved })) (sym v_is)
    (started-in m refines node.state (subst (λ (z : Setup). IsSetupOf m z) (sym same) good) used none h.held saved early is)

-- ---- one snapshot more

pub read-on : {M Msg : Type 0} (m : Module Msg) (refines : M → Params → ℕ → List (Item Msg) → Type 0) (o : Option (Rebuilt Msg)) (w : StateView M Msg) (early : List (Early Msg)) →
    IsReadAs m refines o w (Some early) → IsReadOn m refines o (Some (record { state = w; early = early }))
read-on m refines None w early h = absurd h
read-on m refines (Some r) w early h = record { read = h.0; early = h.1; from = h.2 }

pub read-none : {M Msg : Type 0} (m : Module Msg) (refines : M → Params → ℕ → List (Item Msg) → Type 0) (o : Option (Rebuilt Msg)) (w : StateView M Msg) → IsReadAs m refines o w None → IsReadOn m refines o None
read-none m refines None w h = tt
read-none m refines (Some r) w h = absurd h

pub read-some : {M Msg : Type 0} (m : Module Msg) (refines : M → Params → ℕ → List (Item Msg) → Type 0) (o : Option (Rebuilt Msg)) (v : RebuildingView M Msg) → IsReadOn m refines o (Some v) →
    (r : Rebuilt Msg) × ((o ≡ Some r) × RefinesRebuilt m refines v r)
read-some m refines None v h = absurd h
read-some m refines (Some r) v h = (r, (refl, h))

pub refused-none : {M Msg : Type 0} (m : Module Msg) (refines : M → Params → ℕ → List (Item Msg) → Type 0) (o : Option (Rebuilt Msg)) → IsReadOn m refines o None → o ≡ None
refused-none m refines None h = refl
refused-none m refines (Some r) h = absurd h

-- What is read of the bytes, found as the next early messages or none, by the node with this state.
module _ {M Msg : Type 0} (m : Module Msg) (refines : M → Params → ℕ → List (Item Msg) → Type 0) (v w : StateView M Msg) (old : List (Early Msg)) (bytes : List ℕ) (found : Option (List (Early Msg)))
    (read : (r : Rebuilt Msg) → HasRead m refines v r → IsReadAs m refines (reads_entry (frame_of v.setup m) v.me.0 (Some r) bytes) w found) where
  abbrev IsReadBy : RebuildingView M Msg → Option (RebuildingView M Msg) → Type 0
  IsReadBy x next = (r : Rebuilt Msg) → RefinesRebuilt m refines x r → IsReadOn m refines (reads_entry (frame_of x.state.setup m) x.state.me.0 (Some r) bytes) next

  here-next : (early : List (Early Msg)) → found ≡ Some early → IsReadBy (record { state = v; early = old }) (Some (record { state = w; early = early }))
  here-next early found_is r h =
      let o = reads_entry (frame_of v.setup m) v.me.0 (Some r) bytes in
      read-on m refines o w early (subst (λ (f : Option (List (Early Msg))). IsReadAs m refines o w f) found_is (read r h.read))

  here-refused : found ≡ None → IsReadBy (record { state = v; early = old }) None
  here-refused none r h =
      let o = reads_entry (frame_of v.setup m) v.me.0 (Some r) bytes in
      read-none m refines o w (subst (λ (f : Option (List (Early Msg))). IsReadAs m refines o w f) none (read r h.read))

  pub read-next : (x : RebuildingView M Msg) → record { state = v; early = old } ≡ x → (early : List (Early Msg)) → found ≡ Some early → IsReadBy x (Some (record { state = w; early = early }))
  read-next x is early found_is = subst (λ (z : RebuildingView M Msg). IsReadBy z (Some (record { state = w; early = early }))) is (here-next early found_is)

  pub read-refused : (x : RebuildingView M Msg) → record { state = v; early = old } ≡ x → found ≡ None → IsReadBy x None
  read-refused x is none = subst (λ (z : RebuildingView M Msg). IsReadBy z None) is (here-refused none)

  pub read-holds : (early : List (Early Msg)) → found ≡ Some early → (r : Rebuilt Msg) × RefinesRebuilt m refines (record { state = v; early = old }) r →
      (s : Rebuilt Msg) × RefinesRebuilt m refines (record { state = w; early = early }) s
  read-holds early found_is h =
      let s = read-some m refines (reads_entry (frame_of v.setup m) v.me.0 (Some h.0) bytes) (record { state = w; early = early }) (here-next early found_is h.0 h.1) in (s.0, s.1.1)

-- ---- all entries

-- The model has the newest first.
rebuilt-next : {Msg : Type 0} (W : Frame Msg) (me : ℕ) (entries : List (List ℕ)) (i : ℕ) (d : List ℕ) → i < length entries →
    rebuilt W me (reverse (take (i + 1) entries)) ≡ reads_entry W me (rebuilt W me (reverse (take i entries))) (get_or entries i d)
rebuilt-next W me entries i d lt =
    let next : take (i + 1) entries ≡ take i entries ++ get_or entries i d ∷ [] = rw add-one (take-suc entries i d lt) in
    ap (λ (xs : List (List ℕ)). rebuilt W me xs) (ap (λ (xs : List (List ℕ)). reverse xs) next ∙ reverse-append (take i entries) (get_or entries i d ∷ []))

module _ {M Msg : Type 0} (m : Module Msg) (refines : M → Params → ℕ → List (Item Msg) → Type 0) (W : Frame Msg) (me : ℕ) (entries : List (List ℕ)) (i : ℕ) (lt : i < length entries)
    (r : Rebuilt Msg) (is : rebuilt W me (reverse (take i entries)) ≡ Some r) where
  at-next : rebuilt W me (reverse (take (i + 1) entries)) ≡ reads_entry W me (Some r) (get_or entries i [])
  at-next = rebuilt-next W me entries i [] lt ∙ ap (λ (o : Option (Rebuilt Msg)). reads_entry W me o (get_or entries i [])) is

  pub all-next : (next : RebuildingView M Msg) → IsReadOn m refines (reads_entry W me (Some r) (get_or entries i [])) (Some next) →
      (s : Rebuilt Msg) × ((rebuilt W me (reverse (take (i + 1) entries)) ≡ Some s) × RefinesRebuilt m refines next s)
  all-next next h = let s = read-some m refines (reads_entry W me (Some r) (get_or entries i [])) next h in (s.0, (at-next ∙ s.1.0, s.1.1))

  pub first-bad : reads_entry W me (Some r) (get_or entries i []) ≡ None → IsFirstBad W me entries i
  first-bad none = record {
    below = lt;
    good = ap (λ (o : Option (Rebuilt Msg)). is_some o) is;
    bad = ap (λ (k : ℕ). rebuilt W me (reverse (take k entries))) (sym (add-one i)) ∙ (at-next ∙ none);
  }

pub all-read : {Msg : Type 0} (W : Frame Msg) (me : ℕ) (entries : List (List ℕ)) (i : ℕ) → length entries ≤ i → (r : Rebuilt Msg) → rebuilt W me (reverse (take i entries)) ≡ Some r → rebuilt W me (reverse entries) ≡ Some r
all-read W me entries i le r is = ap (λ (xs : List (List ℕ)). rebuilt W me (reverse xs)) (sym (take_all i entries le)) ∙ is

-- ---- the early messages of the last one

module _ {M Msg : Type 0} (m : Module Msg) (refines : M → Params → ℕ → List (Item Msg) → Type 0) (v : StateView M Msg) (early : List (Early Msg)) (r : Rebuilt Msg)
    (h : RefinesRebuilt m refines (record { state = v; early = early }) r) where
  abbrev c : Core Msg
  c = record r.core { early = [] }

  -- Its epoch lasts.
  pub is-open : IsOpen m refines v
  is-open = record {
    refined = (r.core.past, h.read.core.state.tied);
    lasts = complete-is m refines v r.core.past h.read.core.state.tied ∙ h.read.unfinished;
  }

  module _ (w : StateView M Msg) (later : IsLater v w) (first o : Outcome) (is : first ≡ nothing)
      (each : IsTurnBehind m refines v (λ F R me t. then_turn t (takes_each F R m me v.epoch (seen_early early))) first w o) where
    abbrev taken : ℕ → List (Kept_early Msg) → Core Msg → Turn Msg
    taken e xs d = takes_each (formats_of v.setup m) (rules_of v.setup) m v.me.0 e xs d

    begun : IsTurned m refines (unchanged (bare c)) v first
    begun = record {
      refined = h.read.core.state;
      made = nothing-made (bare c) first is;
      entered = nothing-entered first is;
      addressed = nothing-sent v.setup.n first is;
    }

    refined : RefinesBareCore m refines w (taken v.epoch (seen_early early) (bare c)).core
    refined = (each (unchanged (bare c)) begun).refined

    same : holding r.core.votes r.core.certs (taken v.epoch (seen_early early) (bare c)).core ≡ (woken (frame_of v.setup m) v.me.0 r.core).core
    same =
        ap (λ (t : Turn Msg). t.core) (sym (each-held (formats_of v.setup m) (rules_of v.setup) m v.me.0 r.core.votes r.core.certs v.epoch (seen_early early) (bare c)))
        ∙ (ap (λ (e : ℕ). (taken e (seen_early early) c).core) h.read.core.state.tied.epoch
        ∙ ap (λ (xs : List (Kept_early Msg)). (taken r.core.past.epoch xs c).core) h.early)

    pub wakes : StateRefinesCore m refines w (woken (frame_of v.setup m) v.me.0 r.core).core
    wakes = subst (λ (d : Core Msg). StateRefinesCore m refines w d) same (held-parts m refines v w later c (taken v.epoch (seen_early early) (bare c)).core h.read.core refined)

    pub woken-so : (node : NodeView M Msg) → node ≡ record { state = w; stale = false } → IsOf m refines (woken_of (frame_of v.setup m) v.me.0 (Some r)) node
    woken-so node node_is = record {
      rebuilt = record r { core = (woken (frame_of v.setup m) v.me.0 r.core).core };
      is = refl;
      refined = subst (λ (n : NodeView M Msg). RefinesCore m refines n (woken (frame_of v.setup m) v.me.0 r.core).core) (sym node_is) (record { fresh = refl; held = wakes });
      saved = ap (λ (n : NodeView M Msg). saved_of n.state.saved) node_is ∙ (ap (λ (s : SavedState). saved_of s) later.saved ∙ h.read.saved);
    }
