-- The bytes of an entry, its certificates, and the packets in it are read as the model reads them.
use Rattle.std.proofs.Common.{arith, inl, inr, ◌≡◌, ℕ, suc, ◌+◌, ◌-◌, ◌<◌, ◌≤◌, Bool, true, false, cond, nat_le, List, [], ◌∷◌, ◌++◌, length, take, drop, get_or, Option, Some, None, refl, sym, ap, ◌∙◌, add-one, append_assoc}
use Rattle.std.proofs.Math.Seq.{take-suc}
use Rattle.std.proofs.lemmas.Bool.Decides.{leb_tells}
use Rattle.std.proofs.lemmas.List.{take-append-drop}
use Rattle.iss_ballots.proofs.PacketLemmas.{all-whole, good-whole}
use Rattle.iss_base.proofs.Lists.{none-some, some-injective}
use Rattle.iss_checkpoint.specs.Votes.{is_cert, voters_of}
use Rattle.iss_checkpoint.specs.declared.votes.Cert.{Cert}
use Rattle.iss_keys.specs.Directories.{DirectoryView}
use Rattle.iss_model.specs.Frames.{Frame, frame_of}
use Rattle.iss_model.specs.Node.{Early as Kept_early, early_most}
use Rattle.iss_node.specs.Internal.Rebuilding.{AreWhole, IsWhole, kept_early}
use Rattle.iss_node.specs.Internal.Shape.{IsNodeState}
use Rattle.iss_node.specs.State.{StateView}
use Rattle.iss_rebuilt.specs.Reading.{Rebuilt, early_each, early_in, reads_entry, reads_parsed, reads_snapshot, with_early}
use Rattle.iss_request.specs.Fields.{Bad, Good}
use Rattle.iss_request.specs.Parsing.{all_of}
use Rattle.iss_request.specs.declared.requests.Value.{Value}
use Rattle.iss_request.specs.declared.setups.Setup.{Setup}
use Rattle.iss_rules.proofs.Checked.{cert-same}
use Rattle.iss_rules.specs.Concrete.{rules_of}
use Rattle.iss_rules.specs.Past.{log_of}
use Rattle.iss_rules.specs.Votes.{is_true_cert}
use Rattle.iss_sb.specs.Evidence.{Module}
use Rattle.iss_snapshot.proofs.SnapshotGrammar.{fitting-is, snapshot-exact}
use Rattle.iss_snapshot.specs.Snapshots.{AreEpochs, equal_epochs, parse_snapshot}
use Rattle.iss_snapshot.specs.declared.snapshots.Snapshot.{Snapshot}

-- ---- the whole entry

pub entry-parsed : {Msg : Type 0} (s : Setup) (m : Module Msg) (me : ℕ) (r : Rebuilt Msg) (bytes : List ℕ) (snapshot : Snapshot) →
    ((log : List Value) → parse_snapshot s.version (equal_epochs s.epoch) log bytes ≡ Good snapshot []) →
    reads_entry (frame_of s m) me (Some r) bytes ≡ reads_snapshot (frame_of s m) me r snapshot
entry-parsed s m me r bytes snapshot h =
    ap (λ (o : Option Snapshot). reads_parsed (frame_of s m) me r o) (good-whole _ snapshot (h (log_of (rules_of s) m me r.core.past)))

pub entry-damaged : {Msg : Type 0} (s : Setup) (m : Module Msg) (me : ℕ) (r : Rebuilt Msg) (bytes : List ℕ) (at : ℕ) →
    ((log : List Value) → all_of (parse_snapshot s.version (equal_epochs s.epoch) log) bytes ≡ Bad at) → reads_entry (frame_of s m) me (Some r) bytes ≡ None
entry-damaged s m me r bytes at h =
    let log = log_of (rules_of s) m me r.core.past in
    ap (λ (o : Option Snapshot). reads_parsed (frame_of s m) me r o) (all-whole (parse_snapshot s.version (equal_epochs s.epoch) log) bytes (at, h log))

whole-epochs : (version n e : ℕ) (log : List Value) (epochs : List (List Value)) → AreEpochs version (equal_epochs n) e log epochs → AreWhole n epochs
whole-epochs version n e log [] h = tt
whole-epochs version n e log (x ∷ more) h = (h.0, whole-epochs version n (suc e) _ more h.2)

pub parsed-whole : (version n : ℕ) (bytes : List ℕ) (s : Snapshot) → ((log : List Value) → parse_snapshot version (equal_epochs n) log bytes ≡ Good s []) → IsWhole n s
parsed-whole version n bytes s h =
    let fit = ((snapshot-exact version (equal_epochs n) [] s bytes []).0 (h [])).0 in
    let f = fitting-is s fit.fitting in
    record { above = f.above; count = f.count; values = whole-epochs version n s.from.0 [] s.epochs fit.epochs }

-- ---- certificates

pub check-is : {M Msg : Type 0} (m : Module Msg) (v : StateView M Msg) → IsNodeState m v → (c : Cert) → is_cert (voters_of v.setup v.directory) c ≡ is_true_cert (rules_of v.setup) c
check-is m v shape c = ap (λ (d : DirectoryView). is_cert (voters_of v.setup d) c) shape.directory ∙ cert-same v.setup c

-- ---- packets

none-with : {Msg : Type 0} (o : Option (Kept_early Msg)) → with_early o None ≡ None
none-with None = refl
none-with (Some x) = refl

module _ {Msg : Type 0} (W : Frame Msg) (e : ℕ) where
  abbrev one : List ℕ → Option (Kept_early Msg)
  one packet = early_in e (W.formats.unwrap packet)

  -- One more message.
  pub early-next : (done : List (List ℕ)) (packet : List ℕ) (xs : List (Kept_early Msg)) (x : Kept_early Msg) → early_each W e done ≡ Some xs → one packet ≡ Some x →
      early_each W e (done ++ packet ∷ []) ≡ Some (xs ++ x ∷ [])
  early-next [] packet xs x h q =
      ap (λ (o : Option (Kept_early Msg)). with_early o (Some [])) q ∙ ap (λ (ys : List (Kept_early Msg)). Some (ys ++ x ∷ [])) (some-injective [] xs h)
  early-next (b ∷ done) packet xs x h q = go (λ ys k. early-next done packet ys x k q) (one b) refl (early_each W e done) refl h
    where
      go : ((ys : List (Kept_early Msg)) → early_each W e done ≡ Some ys → early_each W e (done ++ packet ∷ []) ≡ Some (ys ++ x ∷ [])) → (o : Option (Kept_early Msg)) → one b ≡ o → (os : Option (List (Kept_early Msg))) → early_each W e done ≡ os → with_early o os ≡ Some xs →
          with_early (one b) (early_each W e (done ++ packet ∷ [])) ≡ Some (xs ++ x ∷ [])
      go more None qo os qs k = absurd (none-some xs k)
      go more (Some y) qo None qs k = absurd (none-some xs k)
      go more (Some y) qo (Some ys) qs k =
          ap (λ (o : Option (Kept_early Msg)). with_early o (early_each W e (done ++ packet ∷ []))) qo
          ∙ (ap (λ (os : Option (List (Kept_early Msg))). with_early (Some y) os) (more ys qs)
          ∙ ap (λ (zs : List (Kept_early Msg)). Some (zs ++ x ∷ [])) (some-injective (y ∷ ys) xs k))

  -- One that is no message.
  early-stops : (done : List (List ℕ)) (packet : List ℕ) (rest : List (List ℕ)) → one packet ≡ None → early_each W e (done ++ packet ∷ rest) ≡ None
  early-stops [] packet rest q = ap (λ (o : Option (Kept_early Msg)). with_early o (early_each W e rest)) q
  early-stops (b ∷ done) packet rest q =
      ap (λ (os : Option (List (Kept_early Msg))). with_early (one b) os) (early-stops done packet rest q) ∙ none-with (one b)

  early-count : (packets : List (List ℕ)) (xs : List (Kept_early Msg)) → early_each W e packets ≡ Some xs → length xs ≡ length packets
  early-count [] xs h = ap (λ (ys : List (Kept_early Msg)). length ys) (sym (some-injective [] xs h))
  early-count (b ∷ packets) xs h = go (λ ys k. early-count packets ys k) (one b) (early_each W e packets) refl h
    where
      go : ((ys : List (Kept_early Msg)) → early_each W e packets ≡ Some ys → length ys ≡ length packets) → (o : Option (Kept_early Msg)) (os : Option (List (Kept_early Msg))) → early_each W e packets ≡ os → with_early o os ≡ Some xs → length xs ≡ suc (length packets)
      go more None os qs k = absurd (none-some xs k)
      go more (Some y) None qs k = absurd (none-some xs k)
      go more (Some y) (Some ys) qs k =
          ap (λ (zs : List (Kept_early Msg)). length zs) (sym (some-injective (y ∷ ys) xs k)) ∙ ap (λ (n : ℕ). suc n) (more ys qs)

  -- ---- the results

  test-many : (xs : List (Kept_early Msg)) → early_most < length xs → nat_le (length xs) early_most ≡ false
  test-many xs lt = elim (leb_tells (length xs) early_most) [
    | inl t ↦ let le = t.1 in absurd (omega (arith, le, lt))
    | inr t ↦ t.0
  ]

  test-few : (xs : List (Kept_early Msg)) → length xs ≤ early_most → nat_le (length xs) early_most ≡ true
  test-few xs le = elim (leb_tells (length xs) early_most) [
    | inl t ↦ t.0
    | inr t ↦ let lt = t.1 in absurd (omega (arith, le, lt))
  ]

  pub early-many : (packets : List (List ℕ)) → early_most < length packets → kept_early (early_each W e packets) ≡ None
  early-many packets lt = go (early_each W e packets) refl
    where
      go : (os : Option (List (Kept_early Msg))) → early_each W e packets ≡ os → kept_early os ≡ None
      go None q = refl
      go (Some xs) q =
          let n = early-count packets xs q in
          ap (λ (b : Bool). cond b (Some xs) None) (test-many xs (omega (arith, n, lt)))

  split-at : (packets : List (List ℕ)) (i : ℕ) (packet : List ℕ) → i < length packets → packet ≡ get_or packets i packet → packets ≡ take i packets ++ packet ∷ drop (i + 1) packets
  split-at packets i packet lt is =
      let next : take (i + 1) packets ≡ take i packets ++ packet ∷ [] = rw add-one (take-suc packets i packet lt ∙ ap (λ (y : List ℕ). take i packets ++ y ∷ []) (sym is)) in
      sym (take-append-drop (i + 1) packets) ∙ (ap (λ (xs : List (List ℕ)). xs ++ drop (i + 1) packets) next ∙ append_assoc (take i packets) (packet ∷ []) (drop (i + 1) packets))

  pub early-bad : (packets : List (List ℕ)) (i : ℕ) (packet : List ℕ) → i < length packets → packet ≡ get_or packets i packet → one packet ≡ None → kept_early (early_each W e packets) ≡ None
  early-bad packets i packet lt is none =
      ap (λ (xs : List (List ℕ)). kept_early (early_each W e xs)) (split-at packets i packet lt is)
      ∙ ap (λ (os : Option (List (Kept_early Msg))). kept_early os) (early-stops (take i packets) packet (drop (i + 1) packets) none)

  pub early-on : (packets : List (List ℕ)) (i : ℕ) (packet : List ℕ) (xs : List (Kept_early Msg)) (x : Kept_early Msg) → i < length packets → packet ≡ get_or packets i packet →
      early_each W e (take i packets) ≡ Some xs → one packet ≡ Some x → early_each W e (take (i + 1) packets) ≡ Some (xs ++ x ∷ [])
  early-on packets i packet xs x lt is h q =
      let next : take (i + 1) packets ≡ take i packets ++ packet ∷ [] = rw add-one (take-suc packets i packet lt ∙ ap (λ (y : List ℕ). take i packets ++ y ∷ []) (sym is)) in
      ap (λ (ys : List (List ℕ)). early_each W e ys) next ∙ early-next (take i packets) packet xs x h q

  pub early-all : (packets : List (List ℕ)) (xs : List (Kept_early Msg)) → length packets ≤ early_most → early_each W e packets ≡ Some xs → Some xs ≡ kept_early (early_each W e packets)
  early-all packets xs few h =
      let n = early-count packets xs h in
      sym (ap (λ (os : Option (List (Kept_early Msg))). kept_early os) h
      ∙ ap (λ (b : Bool). cond b (Some xs) None) (test-few xs (omega (arith, n, few))))
