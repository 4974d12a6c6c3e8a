-- The entries that a replica stores lead back to it, and so do those of them that stay.
use Rattle.std.proofs.Common.{◌≡◌, inl, inr, ℕ, ◌≤◌, ◌<◌, ◌^◌, ◌&&◌, Bool, true, false, cond, nat_le, List, [], ◌∷◌, length, reverse, Option, Some, None, refl, sym, ap, ap₂, ◌∙◌, subst, arith, le_trans, true≢false}
use Rattle.std.specs.List.{filter}
use Rattle.std.proofs.lemmas.Bool.{leb-true}
use Rattle.iss_base.specs.Lists.{In}
use Rattle.iss_base.proofs.Lists.{in_left, none-some, some-injective}
use Rattle.iss_journal.specs.Frames.{max_entry}
use Rattle.iss_journal.specs.Retained.{is_snapshot, retained}
use Rattle.iss_request.specs.declared.setups.Setup.{Setup}
use Rattle.iss_sb.specs.Evidence.{Module}
use Rattle.iss_rules.specs.declared.events.NodeEvent.{NodeEvent}
use Rattle.iss_rules.specs.Parcels.{Formats}
use Rattle.iss_rules.specs.Past.{log_of, start_of}
use Rattle.iss_rules.specs.Rules.{Rules}
use Rattle.iss_rules.proofs.Epochs.{cut-extends, start-mono}
use Rattle.iss_model.specs.Frames.{Frame, step_in}
use Rattle.iss_model.specs.Node.{Core, Dropped, Early, Stepped, Taken, Turn, initial_core, step, takes_each}
use Rattle.iss_model.specs.Slims.{IsPlaced, IsSameStep, SlimCore}
use Rattle.iss_model.specs.Sound.{carried}
use Rattle.iss_model.proofs.AlikeSlims.{steps-placed, steps-same}
use Rattle.iss_model.proofs.Casts.{idle-ready}
use Rattle.iss_model.proofs.Places.{FiledCore}
use Rattle.iss_snapshot.specs.Snapshots.{fits, snapshot_row, spell_snapshot}
use Rattle.iss_snapshot.specs.declared.snapshots.Snapshot.{Snapshot}
use Rattle.iss_snapshot.proofs.SnapshotGrammar.{spelled-row}
use Rattle.iss_rebuilt.specs.Laws.{HasEntry, IsRecovered}
use Rattle.iss_rebuilt.specs.Reading.{Rebuilt, core_of_step, reads_entry, rebuilt, recovered, replayed, replays, woken, woken_of}
use Rattle.iss_rebuilt.specs.Storable.{IsBehind}
use Rattle.iss_rebuilt.specs.Stored.{Kept, Saved, Stored, is_storable, nothing_saved, or_event, saved_after, snapshot_kept, snapshot_of, stored, stored_by}
use Rattle.iss_rebuilt.proofs.Ballots.{no-ballots}
use Rattle.iss_rebuilt.proofs.Encodable.{IsWritable, snapshot-fits}
use Rattle.iss_rebuilt.proofs.Entering.{quiet, step-rises}
use Rattle.iss_rebuilt.proofs.Entries.{entry-read, past-same}
use Rattle.iss_rebuilt.proofs.Heard.{log-read}
use Rattle.iss_rebuilt.proofs.Regular.{Goes, IsGoodFrame, IsRegular, regular-open, slots-in}
use Rattle.iss_rebuilt.proofs.Resting.{IsResting, no-early, step-goes, step-rests}
use Rattle.iss_rebuilt.proofs.StaysTurned.{newest_stay, stays-turned}
use Rattle.iss_rebuilt.proofs.Storing.{IsEntered, entering}
use Rattle.iss_rebuilt.proofs.Waking.{AreSlim, each-slim}

right-of : (a b : Bool) → (a && b) ≡ true → b ≡ true
right-of true b h = h
right-of false b h = absurd (true≢false (sym h))

-- ---- what stays of entries leads to the same

filter-twice : (xs : List (List ℕ)) → filter is_snapshot (filter is_snapshot xs) ≡ filter is_snapshot xs
filter-twice [] = refl
filter-twice (x ∷ xs) = go (is_snapshot x) refl (filter-twice xs)
  where
    row : Bool → List (List ℕ)
    row b = cond b (x ∷ filter is_snapshot xs) (filter is_snapshot xs)

    go : (b : Bool) → is_snapshot x ≡ b → filter is_snapshot (filter is_snapshot xs) ≡ filter is_snapshot xs →
        filter is_snapshot (row b) ≡ row b
    go false q ih = ih
    go true q ih = ap (λ (b : Bool). cond b (x ∷ filter is_snapshot (filter is_snapshot xs)) (filter is_snapshot (filter is_snapshot xs))) q
        ∙ ap (λ (ys : List (List ℕ)). x ∷ ys) ih

pub newest-recovers : {Msg : Type 0} (W : Frame Msg) (event_in : List ℕ → Option NodeEvent) (me : ℕ) (xs : List (List ℕ)) →
    recovered W event_in me (newest_stay xs) ≡ recovered W event_in me xs
newest-recovers W event_in me [] = refl
newest-recovers {Msg} W event_in me (x ∷ xs) = go (is_snapshot x) refl (newest-recovers W event_in me xs)
  where
    row : Bool → Option (Rebuilt Msg) → Option (Rebuilt Msg) → Option (Rebuilt Msg)
    row b first others = cond b (woken_of W me (reads_entry W me first x)) (replays W me (event_in x) others)

    tail : Bool → List (List ℕ)
    tail b = cond b (filter is_snapshot xs) (newest_stay xs)

    go : (b : Bool) → is_snapshot x ≡ b → recovered W event_in me (newest_stay xs) ≡ recovered W event_in me xs →
        row (is_snapshot x) (rebuilt W me (filter is_snapshot (tail (is_snapshot x)))) (recovered W event_in me (tail (is_snapshot x)))
        ≡ row (is_snapshot x) (rebuilt W me (filter is_snapshot xs)) (recovered W event_in me xs)
    go true q ih =
        subst (λ (b : Bool). row b (rebuilt W me (filter is_snapshot (tail b))) (recovered W event_in me (tail b)) ≡ row b (rebuilt W me (filter is_snapshot xs)) (recovered W event_in me xs))
        (sym q) (ap (λ (ys : List (List ℕ)). woken_of W me (reads_entry W me (rebuilt W me ys) x)) (filter-twice xs))
    go false q ih =
        subst (λ (b : Bool). row b (rebuilt W me (filter is_snapshot (tail b))) (recovered W event_in me (tail b)) ≡ row b (rebuilt W me (filter is_snapshot xs)) (recovered W event_in me xs))
        (sym q) (ap (λ (o : Option (Rebuilt Msg)). replays W me (event_in x) o) ih)

module _ {Msg : Type 0} (W : Frame Msg) (P : IsGoodFrame W.setup W.formats W.rules W.spec) (me : ℕ) (low : me < W.setup.n) where
  abbrev s : Setup
  s = W.setup

  abbrev F : Formats Msg
  F = W.formats

  abbrev R : Rules
  R = W.rules

  abbrev M : Module Msg
  M = W.spec

  abbrev GoesOn : Core Msg → Core Msg → Type 0
  GoesOn c d = Goes R (slots-in s F R M P me) M me c d

  abbrev IsSlim : Core Msg → Core Msg → Type 0
  IsSlim c d = AreSlim s F R M P me c d

  regular-placed : (c : Core Msg) → IsRegular s F R M P me c → IsPlaced R M me c
  regular-placed c h =
      let sound = h.ready.sound in
      record { reached = sound.reached; settled = sound.settled; unborn = sound.unborn }

  -- what snapshots led to stays behind a core that goes on
  behind-goes : (r : Rebuilt Msg) (c d : Core Msg) → IsBehind W me r c → IsPlaced R M me c → IsPlaced R M me d → GoesOn c d → IsBehind W me r d
  behind-goes r c d b pc pd g =
      let from : ℕ = r.saved.from in
      let a = log_of R M me c.past in
      let z = log_of R M me d.past in
      let far : start_of R a from ≤ length a = le_trans (start-mono R a from c.past.epoch b.low) pc.reached in
      let le : from ≤ d.past.epoch = le_trans b.low g.epoch in
      let far_too : start_of R z from ≤ length z = le_trans (start-mono R z from d.past.epoch le) pd.reached in
      record {
        low = le;
        past = b.past ∙ past-same W a z from from far far_too (sym (cut-extends R a z from g.logs far)) (omega arith);
        holds = b.holds;
        certs = λ e x q. g.certs e x (b.certs e x q);
      }

  -- ---- waking

  quiet-slim : (a b : Core Msg) → IsSlim a b → IsSlim (quiet a) (quiet b)
  quiet-slim a b h = record {
    placed = record { reached = h.placed.reached; settled = h.placed.settled; unborn = h.placed.unborn };
    other = record { reached = h.other.reached; settled = h.other.settled; unborn = h.other.unborn };
    slims = ap (λ (z : SlimCore Msg). record z { early = [] }) h.slims;
  }

  flip-slim : (a b : Core Msg) → IsSlim a b → IsSlim b a
  flip-slim a b h = record { placed = h.other; other = h.placed; slims = sym h.slims }

  -- a core with the slim part of an entered one wakes as that does
  woken-slim : (c : Core Msg) (t : Turn Msg) (e : IsEntered W P me c t) (next : Core Msg) → IsSlim next e.core →
      IsSlim (woken W me next).core t.core
  woken-slim c t e next h =
      let d : Core Msg = e.core in
      let epoch : d.past.epoch ≡ next.past.epoch = ap (λ (z : SlimCore Msg). z.epoch) (sym h.slims) in
      let early : d.early ≡ next.early = ap (λ (z : SlimCore Msg). z.early) (sym h.slims) in
      let both : IsSlim (takes_each F R M me d.past.epoch d.early (quiet d)).core (takes_each F R M me d.past.epoch d.early (quiet next)).core =
      each-slim s F R M P me d.past.epoch d.early (quiet d) (quiet next) (quiet-slim d next (flip-slim next d h)) e.quietly e.unfinished refl
      e.next.told e.next.again in
      let there : (takes_each F R M me d.past.epoch d.early (quiet next)).core ≡ (woken W me next).core =
      ap₂ (λ (n : ℕ) (xs : List (Early Msg)). (takes_each F R M me n xs (quiet next)).core) epoch early in
      subst (λ (f : Core Msg). IsSlim f t.core) there
      (subst (λ (f : Core Msg). IsSlim (takes_each F R M me d.past.epoch d.early (quiet next)).core f) e.wakes (flip-slim _ _ both))

  -- ---- events

  -- an event that one core takes, another with the same slim part takes too
  record TakesToo (a : Core Msg) (event : NodeEvent) (t : Turn Msg) : Type 0 where
    turn : Turn Msg
    is : step F R M me a event ≡ Taken turn
    slims : IsSlim turn.core t.core

  takes-too : (a b : Core Msg) (event : NodeEvent) (t : Turn Msg) → IsSlim a b → step F R M me b event ≡ Taken t → TakesToo a event t
  takes-too a b event t h q =
      go (step F R M me a event) refl
      (subst (λ (o : Stepped Msg). IsSameStep R M me (step F R M me a event) o) q (steps-same F R (slots-in s F R M P me) M me a b h.placed h.other h.slims event).0)
    where
      go : (o : Stepped Msg) → step F R M me a event ≡ o → IsSameStep R M me o (Taken t) → TakesToo a event t
      go (Dropped why) k z = absurd z
      go (Taken u) k z = record {
        turn = u;
        is = k;
        slims = record {
          placed = steps-placed F R (slots-in s F R M P me) M me a event u h.placed k;
          other = steps-placed F R (slots-in s F R M P me) M me b event t h.other q;
          slims = z.core;
        };
      }

  -- ---- what is stored

  module _ (spell : NodeEvent → List ℕ) (event_in : List ℕ → Option NodeEvent) where
    -- what is known of a core and the entries that it stored
    record IsStored (st : Stored Msg) : Type 0 where
      resting : IsResting s F R M P me st.core
      front : Rebuilt Msg
      front_is : rebuilt W me (filter is_snapshot st.entries) ≡ Some front
      front_saved : front.saved ≡ st.saved
      behind : IsBehind W me front st.core
      found : Rebuilt Msg
      found_is : recovered W event_in me st.entries ≡ Some found
      found_saved : found.saved ≡ st.saved
      slims : IsSlim found.core st.core

    initial-past-fresh : (k l : ℕ) → 0 ≤ k → (initial_core {Msg = Msg}).past.evidence k l ≡ []
    initial-past-fresh k l le = refl

    initial-regular : IsRegular s F R M P me initial_core
    initial-regular = record {
      ready = idle-ready R M me;
      heard = record { heard = λ e l. tt; pieces = λ p i. absurd i };
      ballots = no-ballots s R P.few;
      leaves = omega arith;
    }

    initial-filed : FiledCore R M me initial_core
    initial-filed = record {
      settled = record { all = λ e k v h. absurd (cc) };
      unborn = λ e l lt. refl;
      reached = omega arith;
      waiting_once = tt;
      flight_once = tt;
      apart = λ x a b. a;
      unlogged = λ x a b. a;
      cast = λ f i. absurd i;
      open_slot = λ f i. absurd i;
    }

    initial-stored : IsStored (stored W spell me [])
    initial-stored = record {
      resting = record {
        regular = initial-regular;
        filed = initial-filed;
        unfinished = regular-open s F R M P me initial_core initial-regular initial-past-fresh;
        early = no-early s F R M P me initial_core refl;
      };
      front = record { core = initial_core; saved = nothing_saved };
      front_is = refl;
      front_saved = refl;
      behind = record { low = omega arith; past = refl; holds = λ e. refl; certs = λ e c q. absurd (cc) };
      found = record { core = initial_core; saved = nothing_saved };
      found_is = refl;
      found_saved = refl;
      slims = record { placed = regular-placed initial_core initial-regular; other = regular-placed initial_core initial-regular; slims = refl };
    }

    module _ (st : Stored Msg) (h : IsStored st) (event : NodeEvent) (entry : HasEntry spell event_in event) (t : Turn Msg) (q : step F R M me st.core event ≡ Taken t) where
      abbrev rests : IsResting s F R M P me t.core
      rests = step-rests s F R M P me low st.core h.resting event t q

      -- the event itself is kept
      event-stored : IsStored (record { entries = spell event ∷ st.entries; saved = st.saved; core = t.core })
      event-stored =
          let too = takes-too h.found.core st.core event t h.slims q in
          let front : filter is_snapshot (spell event ∷ st.entries) ≡ filter is_snapshot st.entries =
          ap (λ (b : Bool). cond b (spell event ∷ filter is_snapshot st.entries) (filter is_snapshot st.entries)) entry.1 in
          let first : recovered W event_in me (spell event ∷ st.entries) ≡ replays W me (event_in (spell event)) (recovered W event_in me st.entries) =
          ap (λ (b : Bool). cond b (woken_of W me (reads_entry W me (rebuilt W me (filter is_snapshot st.entries)) (spell event)))
          (replays W me (event_in (spell event)) (recovered W event_in me st.entries))) entry.1 in
          let second : replays W me (event_in (spell event)) (recovered W event_in me st.entries) ≡ replays W me (Some event) (Some h.found) =
          ap₂ (λ (o : Option NodeEvent) (p : Option (Rebuilt Msg)). replays W me o p) entry.0 h.found_is in
          record {
            resting = rests;
            front = h.front;
            front_is = ap (λ (xs : List (List ℕ)). rebuilt W me xs) front ∙ h.front_is;
            front_saved = h.front_saved;
            behind = behind-goes h.front st.core t.core h.behind (regular-placed st.core h.resting.regular) (regular-placed t.core rests.regular)
                (step-goes s F R M P me low st.core h.resting event t q);
            found = record { core = too.turn.core; saved = h.found.saved };
            found_is = first ∙ (second ∙ ap (λ (o : Stepped Msg). replayed h.found.saved (core_of_step o)) too.is);
            found_saved = h.found_saved;
            slims = too.slims;
          }

      module _ (e : IsEntered W P me st.core t) (last : t.core.past.epoch < 2 ^ 64) where
        abbrev d : Core Msg
        d = e.core

        abbrev snap : Snapshot
        snap = snapshot_of W me h.front.saved d

        behind_d : IsBehind W me h.front d
        behind_d = behind-goes h.front st.core d h.behind (regular-placed st.core h.resting.regular) e.storable.placed e.to

        writable : length (snapshot_row s.version snap) ≤ max_entry → IsWritable W (slots-in s F R M P me) me h.front d e.storable behind_d
        writable short = record {
          onward = let a = h.behind.low in let b = e.onward in omega (arith, a, b);
          epoch = let a = e.on.epoch in omega (arith, a, last);
          values = log-read s R M P.sound me P.decides low d.past e.regular.heard;
          leaf = let a = e.regular.leaves in let b = P.keys in omega (arith, a, b);
          requests = λ r i. e.regular.ready.spelled r (in_left r d.waiting (carried d.flight) i);
          certs = λ x i. (e.regular.ballots.certs_are x i).entry;
          votes = λ v i. (e.regular.ballots.votes_are v i).entry;
          short = short;
        }

        -- the snapshot is kept in the event's place
        snapshot-stored : length (snapshot_row s.version snap) ≤ max_entry →
            IsStored (record { entries = spell_snapshot s.version snap ∷ st.entries; saved = saved_after h.front.saved snap; core = t.core })
        snapshot-stored short =
            let slots = slots-in s F R M P me in
            let fits = snapshot-fits W slots me h.front d e.storable behind_d (writable short) in
            let bytes : List ℕ = spell_snapshot s.version snap in
            let read = entry-read W slots me h.front d e.storable behind_d fits in
            let next : Rebuilt Msg = read.0.next in
            let kind : is_snapshot bytes ≡ true =
            ap is_snapshot (spelled-row s.version R.slots (log_of R M me h.front.core.past) snap fits.fitting) in
            let front_read : reads_entry W me (rebuilt W me (filter is_snapshot st.entries)) bytes ≡ Some next =
            ap (λ (o : Option (Rebuilt Msg)). reads_entry W me o bytes) h.front_is ∙ read.1 in
            let front : filter is_snapshot (bytes ∷ st.entries) ≡ bytes ∷ filter is_snapshot st.entries =
            ap (λ (b : Bool). cond b (bytes ∷ filter is_snapshot st.entries) (filter is_snapshot st.entries)) kind in
            let first : recovered W event_in me (bytes ∷ st.entries) ≡ woken_of W me (reads_entry W me (rebuilt W me (filter is_snapshot st.entries)) bytes) =
            ap (λ (b : Bool). cond b (woken_of W me (reads_entry W me (rebuilt W me (filter is_snapshot st.entries)) bytes))
            (replays W me (event_in bytes) (recovered W event_in me st.entries))) kind in
            record {
              resting = rests;
              front = next;
              front_is = ap (λ (xs : List (List ℕ)). rebuilt W me xs) front ∙ front_read;
              front_saved = read.0.saved;
              behind = behind-goes next d t.core read.0.behind e.storable.placed (regular-placed t.core rests.regular) e.on;
              found = record next { core = (woken W me next.core).core };
              found_is = first ∙ ap (λ (o : Option (Rebuilt Msg)). woken_of W me o) front_read;
              found_saved = read.0.saved;
              slims = woken-slim st.core t e next.core (record { placed = read.0.placed; other = e.storable.placed; slims = read.0.slims });
            }

        entered-stored : IsStored (stored_by W spell me st event (Taken t))
        entered-stored =
            subst (λ (o : Option (Core Msg)). IsStored (put (or_event (snapshot_kept W me st.saved o) (spell event) st.saved))) (sym e.entered)
            (subst (λ (m : Saved). IsStored (put (or_event (snapshot_kept W me m (Some d)) (spell event) m))) h.front_saved
            (go (is_storable s.version snap) refl))
          where
            put : Kept → Stored Msg
            put k = record { entries = k.entry ∷ st.entries; saved = k.saved; core = t.core }

            go : (b : Bool) → is_storable s.version snap ≡ b →
                IsStored (put (or_event (cond b (Some (record { entry = spell_snapshot s.version snap; saved = saved_after h.front.saved snap })) None)
                (spell event) h.front.saved))
            go true k =
                snapshot-stored
                (leb-true (length (snapshot_row s.version snap)) max_entry (right-of (fits snap) (nat_le (length (snapshot_row s.version snap)) max_entry) k))
            go false k = subst (λ (m : Saved). IsStored (record { entries = spell event ∷ st.entries; saved = m; core = t.core })) (sym h.front_saved) event-stored

        -- so it has an encoding, unless it is too long
        snapshot-has : length (snapshot_row s.version snap) ≤ max_entry → fits snap ≡ true
        snapshot-has short = (snapshot-fits W (slots-in s F R M P me) me h.front d e.storable behind_d (writable short)).fitting

      stayed-stored : t.entered ≡ None → IsStored (stored_by W spell me st event (Taken t))
      stayed-stored none = subst (λ (o : Option (Core Msg)). IsStored (put (or_event (snapshot_kept W me st.saved o) (spell event) st.saved))) (sym none) event-stored
        where
          put : Kept → Stored Msg
          put k = record { entries = k.entry ∷ st.entries; saved = k.saved; core = t.core }

      taken-stored : t.core.past.epoch < 2 ^ 64 → IsStored (stored_by W spell me st event (Taken t))
      taken-stored last = elim (entering W P me low st.core h.resting event t q) [
        | inl none ↦ stayed-stored none
        | inr e ↦ entered-stored e last
      ]

    all-stored : (events : List NodeEvent) → ((event : NodeEvent) → In event events → HasEntry spell event_in event) → (stored W spell me events).core.past.epoch < 2 ^ 64 →
        IsStored (stored W spell me events)
    all-stored [] have last = initial-stored
    all-stored (x ∷ xs) have last = go (λ lt. all-stored xs (λ e i. have e (inr i)) lt) (step_in W me st.core x) refl last
      where
        st : Stored Msg
        st = stored W spell me xs

        go : (st.core.past.epoch < 2 ^ 64 → IsStored st) → (o : Stepped Msg) → step_in W me st.core x ≡ o →
            (stored_by W spell me st x o).core.past.epoch < 2 ^ 64 → IsStored (stored_by W spell me st x o)
        go before (Dropped why) q lt = before lt
        go before (Taken t) q lt =
            let rises = step-rises F R M me st.core x t q in
            let last : t.core.past.epoch < 2 ^ 64 = lt in
            let earlier : st.core.past.epoch < 2 ^ 64 = omega (arith, last, rises) in
            taken-stored st (before earlier) x (have x (inl refl)) t q last

    pub journals-recover : (events : List NodeEvent) → ((event : NodeEvent) → In event events → HasEntry spell event_in event) → (stored W spell me events).core.past.epoch < 2 ^ 64 →
        IsRecovered W event_in me (reverse (retained (reverse (stored W spell me events).entries))) (stored W spell me events)
    journals-recover events have last =
        let st : Stored Msg = stored W spell me events in
        let h = all-stored events have last in
        record {
          found = h.found;
          is = ap (λ (xs : List (List ℕ)). recovered W event_in me xs) (stays-turned st.entries) ∙ (newest-recovers W event_in me st.entries ∙ h.found_is);
          saved = h.found_saved;
          placed = h.slims.placed;
          known = h.slims.other;
          slims = h.slims.slims;
        }

    -- the snapshot of a core that an event lets enter an epoch has an encoding, unless it is too long
    pub snapshots-fit : (events : List NodeEvent) → ((event : NodeEvent) → In event events → HasEntry spell event_in event) →
        (event : NodeEvent) (t : Turn Msg) (d : Core Msg) → HasEntry spell event_in event →
        step F R M me (stored W spell me events).core event ≡ Taken t → t.entered ≡ Some d → t.core.past.epoch < 2 ^ 64 →
        length (snapshot_row s.version (snapshot_of W me (stored W spell me events).saved d)) ≤ max_entry →
        fits (snapshot_of W me (stored W spell me events).saved d) ≡ true
    snapshots-fit events have event t d entry q entered last =
        let st : Stored Msg = stored W spell me events in
        let rises = step-rises F R M me st.core event t q in
        let h = all-stored events have (let b : st.core.past.epoch < 2 ^ 64 = omega (arith, last, rises) in b) in
        elim (entering W P me low st.core h.resting event t q) [
          | inl none ↦ absurd (none-some d (sym none ∙ entered))
          | inr e ↦
              let same : e.core ≡ d = some-injective e.core d (sym e.entered ∙ entered) in
              subst (λ (x : Core Msg). length (snapshot_row s.version (snapshot_of W me st.saved x)) ≤ max_entry → fits (snapshot_of W me st.saved x) ≡ true) same
              (subst (λ (m : Saved). length (snapshot_row s.version (snapshot_of W me m e.core)) ≤ max_entry → fits (snapshot_of W me m e.core) ≡ true) h.front_saved
              (snapshot-has st h event entry t q e last))
        ]
