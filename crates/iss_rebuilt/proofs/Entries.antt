-- The entry of a core is read as a core with its slim part; and what snapshots led to stays behind later cores.
use Rattle.std.proofs.Common.{◌≡◌, ℕ, zero, suc, ◌≤◌, ◌<◌, List, [], ◌∷◌, length, reverse, Some, sym, ap, ap₂, ◌∙◌, refl, arith, append-nil}
use Rattle.iss_base.proofs.Lists.{oldest-part}
use Rattle.iss_request.specs.Fields.{Good, Parsed}
use Rattle.iss_request.specs.declared.requests.Value.{Value}
use Rattle.iss_request.specs.declared.setups.Setup.{Setup}
use Rattle.iss_sb.specs.Evidence.{Module}
use Rattle.iss_rules.specs.Formats.{whole}
use Rattle.iss_rules.specs.Past.{Past, Piece, cut_at, log_of, start_of}
use Rattle.iss_rules.specs.Setups.{IsSetupOf}
use Rattle.iss_rules.proofs.Ending.{HasSlots}
use Rattle.iss_rules.proofs.Epochs.{cut-extends, start-cut, start-mono}
use Rattle.iss_rules.proofs.Layouts.{sound-rules}
use Rattle.iss_model.specs.Frames.{Frame, frame_of}
use Rattle.iss_model.specs.Node.{Core, joined, values_of}
use Rattle.iss_snapshot.specs.Snapshots.{IsEncodable, parse_snapshot, spell_snapshot}
use Rattle.iss_snapshot.specs.declared.snapshots.Snapshot.{Snapshot}
use Rattle.iss_snapshot.proofs.SnapshotGrammar.{snapshot-exact}
use Rattle.iss_rebuilt.specs.Laws.{SnapshotsRebuild}
use Rattle.iss_rebuilt.specs.Reading.{Rebuilt, reads_entry, reads_parsed}
use Rattle.iss_rebuilt.specs.Storable.{IsBehind, IsReadBack, IsStorable, adopted_of, past_of}
use Rattle.iss_rebuilt.specs.Stored.{snapshot_of}
use Rattle.iss_rebuilt.proofs.Rebuilding.{snapshot-read}

-- cuts of a cut
module _ {Msg : Type 0} (W : Frame Msg) (log : List Value) (n : ℕ) (far : start_of W.rules log n ≤ length log) where
  abbrev top : List Value
  top = cut_at W.rules log n

  cut-cut : (e : ℕ) → e ≤ n → cut_at W.rules log e ≡ cut_at W.rules top e
  cut-cut e le =
      let at = start-cut W.rules log n far in
      cut-extends W.rules top log e (oldest-part (start_of W.rules log n) log) (let m = start-mono W.rules top e n le in omega (arith, m, at))

  values-same : (e : ℕ) → e < n → values_of W.rules top e ≡ values_of W.rules log e
  values-same e lt =
      ap₂ (λ (a b : List Value). reverse (joined (length a) b)) (sym (cut-cut e (omega (arith, lt)))) (sym (cut-cut (suc e) (omega (arith, lt))))

  adopted-same : (m : ℕ) → m ≤ n → adopted_of W top m ≡ adopted_of W log m
  adopted-same zero le = refl
  adopted-same (suc m) le =
      ap₂ (λ (vs : List Value) (ps : List Piece). piece_on m vs ps) (values-same m (omega (arith, le))) (adopted-same m (omega (arith, le)))
    where
      piece_on : ℕ → List Value → List Piece → List Piece
      piece_on m vs ps = record { epoch = m; values = vs } ∷ ps

-- two logs with one cut at epoch n give the same pasts up to it
pub past-same : {Msg : Type 0} (W : Frame Msg) (a b : List Value) (n m : ℕ) → start_of W.rules a n ≤ length a → start_of W.rules b n ≤ length b →
    cut_at W.rules a n ≡ cut_at W.rules b n → m ≤ n → past_of W a m ≡ past_of W b m
past-same {Msg} W a b n m fa fb q le =
    ap (λ (ps : List Piece). past_with ps)
    (sym (adopted-same W a n fa m le) ∙ (ap (λ (t : List Value). adopted_of W t m) q ∙ adopted-same W b n fb m le))
  where
    past_with : List Piece → Past Msg
    past_with ps = record { epoch = m; evidence = λ e l. []; adopted = ps }

module _ {Msg : Type 0} (W : Frame Msg) (slots : HasSlots W.rules) (me : ℕ) (r : Rebuilt Msg) (d : Core Msg) (h : IsStorable W me d) (b : IsBehind W me r d) where
  abbrev log : List Value
  log = log_of W.rules W.spec me r.core.past

  abbrev snap : Snapshot
  snap = snapshot_of W me r.saved d

  abbrev bytes : List ℕ
  bytes = spell_snapshot W.setup.version snap

  module _ (fits : IsEncodable W.setup.version W.rules.slots log snap) where
    parsed : parse_snapshot W.setup.version W.rules.slots log bytes ≡ Good snap []
    parsed = (snapshot-exact W.setup.version W.rules.slots log snap bytes []).1 (fits, sym (append-nil bytes))

    pub entry-read : (read : IsReadBack W me r d) × (reads_entry W me (Some r) bytes ≡ Some read.next)
    entry-read =
        let read = snapshot-read W slots me r d h b in
        (read, ap (λ (p : Parsed Snapshot). reads_parsed W me r (whole p)) parsed ∙ read.is)

module _ {Msg : Type 0} (s : Setup) (M : Module Msg) (good : IsSetupOf M s) where
  pub slots-of : HasSlots (frame_of s M).rules
  slots-of = let sound = sound-rules M s good in record { some = sound.some_slots; most = sound.most }

  pub snapshots-rebuild : SnapshotsRebuild s M
  snapshots-rebuild me r d h b p = entry-read (frame_of s M) slots-of me r d h b p
