-- What a node hands out to be kept, and notes, is what the event is stored as.
use Rattle.std.proofs.Common.{◌≡◌, ℕ, ◌≤◌, ◌&&◌, Bool, true, false, cond, nat_le, List, [], length, Option, Some, None, refl, sym, ap, subst, true≢false}
use Rattle.std.proofs.lemmas.Bool.{leb-true}
use Rattle.iss_journal.specs.Frames.{max_entry}
use Rattle.iss_model.specs.Frames.{Frame, frame_of}
use Rattle.iss_model.specs.Node.{Core}
use Rattle.iss_node.specs.Entered.{IsKeptEntry, saved_by, saved_with}
use Rattle.iss_node.specs.Saved.{SavedState, saved_of}
use Rattle.iss_node.specs.State.{StateView}
use Rattle.iss_rebuilt.specs.Stored.{Kept, is_storable, or_event, saved_after, snapshot_kept}
use Rattle.iss_request.specs.declared.requests.Value.{Value}
use Rattle.iss_sb.specs.Evidence.{Module}
use Rattle.iss_snapshot.proofs.SnapshotGrammar.{spelled-row}
use Rattle.iss_snapshot.specs.Snapshots.{fits, snapshot_row, spell_snapshot}
use Rattle.iss_snapshot.specs.declared.snapshots.Snapshot.{Snapshot}
use Rattle.iss_keep.specs.Internal.Keeping.{entry_kept}

-- ---- an event

module _ {M Msg : Type 0} (m : Module Msg) (v : StateView M Msg) (own : List ℕ) where
  abbrev W : Frame Msg
  W = frame_of v.setup m

  abbrev kept_with : Option (Core Msg) → Kept
  kept_with o = or_event (snapshot_kept W v.me.0 (saved_of v.saved) o) own (saved_of v.saved)

  -- what is handed out is kept, and noted
  pub record IsRight (k : Kept) (new : SavedState) (bytes : Option (List ℕ)) : Type 0 where
    pub entry : entry_kept bytes own ≡ k.entry
    pub saved : saved_of new ≡ k.saved

  entered : (d : Core Msg) (new : SavedState) (bytes : Option (List ℕ)) (b : Bool) → let s = saved_by m v d in
      bytes ≡ cond b (Some (spell_snapshot v.setup.version s)) None → saved_of new ≡ saved_with b (saved_of v.saved) s →
      IsRight (or_event (cond b (Some (record { entry = spell_snapshot v.setup.version s; saved = saved_after (saved_of v.saved) s })) None) own (saved_of v.saved)) new bytes
  entered d new bytes true h noted =
      record { entry = ap (λ (x : Option (List ℕ)). entry_kept x own) h; saved = noted }
  entered d new bytes false h noted =
      record { entry = ap (λ (x : Option (List ℕ)). entry_kept x own) h; saved = noted }

  pub kept-right : (o : Option (Core Msg)) (new : SavedState) (bytes : Option (List ℕ)) → IsKeptEntry m v o new bytes → IsRight (kept_with o) new bytes
  kept-right None new bytes h =
      record { entry = ap (λ (x : Option (List ℕ)). entry_kept x own) h.0; saved = ap (λ (x : SavedState). saved_of x) h.1 }
  kept-right (Some d) new bytes h = entered d new bytes (is_storable v.setup.version (saved_by m v d)) h.0 h.1

  -- ---- it is short

  both-true : (a b : Bool) → (a && b) ≡ true → (a ≡ true) × (b ≡ true)
  both-true true b h = (refl, h)
  both-true false b h = absurd (true≢false (sym h))

  spelled-short : (s : Snapshot) → is_storable v.setup.version s ≡ true → length (spell_snapshot v.setup.version s) ≤ max_entry
  spelled-short s h =
      let t = both-true (fits s) (nat_le (length (snapshot_row v.setup.version s)) max_entry) h in
      subst (λ (bytes : List ℕ). length bytes ≤ max_entry) (sym (spelled-row v.setup.version (λ (log : List Value) (e : ℕ). 0) [] s t.0))
      (leb-true (length (snapshot_row v.setup.version s)) max_entry t.1)

  pub kept-short : (o : Option (Core Msg)) (new : SavedState) (bytes : Option (List ℕ)) → length own ≤ max_entry → IsKeptEntry m v o new bytes →
      length (entry_kept bytes own) ≤ max_entry
  kept-short None new bytes short h = subst (λ (x : Option (List ℕ)). length (entry_kept x own) ≤ max_entry) (sym h.0) short
  kept-short (Some d) new bytes short h =
      subst (λ (x : Option (List ℕ)). length (entry_kept x own) ≤ max_entry) (sym h.0) (go (is_storable v.setup.version (saved_by m v d)) refl)
    where
      go : (b : Bool) → is_storable v.setup.version (saved_by m v d) ≡ b →
          length (entry_kept (cond b (Some (spell_snapshot v.setup.version (saved_by m v d))) None) own) ≤ max_entry
      go true q = spelled-short (saved_by m v d) q
      go false q = short
