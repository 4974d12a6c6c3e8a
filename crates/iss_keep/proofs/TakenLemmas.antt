-- Facts about an accepted event: its entry is short and decodes to it, and its leader is a replica. The log is extended
-- and the epoch never falls.
use Rattle.std.proofs.Common.{arith, ◌≡◌, ℕ, suc, ◌≤◌, List, [], ◌∷◌, ◌++◌, length, take, Some, None, refl, sym, ap, ◌∙◌, subst, length-append}
use Rattle.std.proofs.lemmas.List.{reverse-append, reverse-reverse, take_at}
use Rattle.std.specs.Prelude.{reverse}
use Rattle.iss_base.specs.Lists.{Extends}
use Rattle.iss_journal.specs.Frames.{max_entry}
use Rattle.iss_log.specs.LogState.{GoesOn}
use Rattle.iss_rules.specs.declared.events.NodeEvent.{NodeEvent}
use Rattle.iss_rules.specs.declared.events.NodeEvent.TheVariants.{Packet as On_packet}
use Rattle.iss_rules.specs.Concrete.{rules_of}
use Rattle.iss_rules.specs.Formats.{formats_of, parcel_in, whole}
use Rattle.iss_model.specs.Node.{Core, Early, Taken, Turn, adopts_piece, advance_epochs, step, takes_each, then_turn}
use Rattle.iss_rules.specs.Parcels.{Formats, Parcel}
use Rattle.iss_rules.specs.Past.{before_own, log_of}
use Rattle.iss_rules.specs.Rules.{Rules}
use Rattle.iss_rules.specs.Setups.{IsSetupOf}
use Rattle.iss_model.specs.Sound.{IsSoundCore}
use Rattle.iss_model.proofs.Casts.{kept-sound, step-grown}
use Rattle.iss_rules.proofs.Ending.{HasSlots}
use Rattle.iss_rules.proofs.Layouts.{sound-rules}
use Rattle.iss_model.proofs.Rows.{each-holds, settles-holds}
use Rattle.iss_model.proofs.Steps.{Took, adopted, asked, cast, fired, handed, kept, received, sought, took, voted}
use Rattle.iss_rules.proofs.Windows.{are-windows}
use Rattle.iss_node.specs.State.{NodeView, RefinesCore, bare}
use Rattle.iss_node.specs.Steps.{IsOfNodes}
use Rattle.iss_packet.proofs.OneSpelling.{packet_table}
use Rattle.iss_packet.specs.Packets.{parse_packet}
use Rattle.iss_packet.specs.declared.packets.Packet.{Packet}
use Rattle.iss_request.specs.Fields.{Bad, Good, Parsed}
use Rattle.iss_request.specs.declared.requests.Value.{Value}
use Rattle.iss_request.specs.declared.setups.Setup.{Setup}
use Rattle.iss_sb.specs.Calls.{Relation}
use Rattle.iss_sb.specs.Evidence.{Module}
use Rattle.iss_keep.specs.Entries.{NamesNode, spell_event}

-- ---- its entry

nothing-read : {Msg : Type 0} (k : Parcel Msg) (P : Type 0) → None ≡ Some k → P
nothing-read k P h = absurd (cc)

module _ {Msg : Type 0} (s : Setup) (m : Module Msg) where
  spelled-short : (p : Packet) (bytes : List ℕ) → parse_packet s.version s.n bytes ≡ Good p [] → length bytes ≤ 200000016
  spelled-short p bytes h =
      let t = (packet_table s.version s.n p bytes).0 h in
      let l : length bytes ≡ suc (suc (suc (suc (suc (suc (suc (suc (suc (suc (suc (suc (suc (suc (suc (suc (length p.body)))))))))))))))) = ap (λ (xs : List ℕ). length xs) t.3 in
      omega (arith, l, t.2)

  parsed-short : (bytes : List ℕ) (k : Parcel Msg) (o : Parsed Packet) → parse_packet s.version s.n bytes ≡ o → parcel_in m s.version (whole o) ≡ Some k → length bytes ≤ 200000016
  parsed-short bytes k (Good p []) q h = spelled-short p bytes q
  parsed-short bytes k (Good p (b ∷ rest)) q h = nothing-read k _ h
  parsed-short bytes k (Bad at) q h = nothing-read k _ h

  packet-short : (bytes : List ℕ) (k : Parcel Msg) → (formats_of s m).unwrap bytes ≡ Some k → length (spell_event (On_packet bytes)) ≤ max_entry
  packet-short bytes k h = let l = parsed-short bytes k (parse_packet s.version s.n bytes) refl h in omega (arith, l)

  module _ (good : IsSetupOf m s) (me : ℕ) (c : Core Msg) where
    took-short : (event : NodeEvent) (t : Turn Msg) → Took (formats_of s m) (rules_of s) m me c event t → length (spell_event event) ≤ max_entry
    took-short event t (received {bytes} k l msg u un b e i q) = packet-short bytes k un
    took-short event t (kept {bytes} k l msg un b e i) = packet-short bytes k un
    took-short event t (asked {bytes} k q un b r) = packet-short bytes k un
    took-short event t (voted {bytes} k v un b r) = packet-short bytes k un
    took-short event t (handed {bytes} k cert un b r) = packet-short bytes k un
    took-short event t (adopted {bytes} k p un b r) = packet-short bytes k un
    took-short event t (sought peer q) = omega arith
    took-short event t (cast slot u i q) = omega arith
    took-short event t (fired l u i q) = omega arith

    took-named : (event : NodeEvent) (t : Turn Msg) → IsOfNodes s.n event → Took (formats_of s m) (rules_of s) m me c event t → NamesNode s.n event
    took-named event t of (received k l msg u un b e i q) = tt
    took-named event t of (kept k l msg un b e i) = tt
    took-named event t of (asked k q un b r) = tt
    took-named event t of (cast slot u i q) = tt
    took-named event t of (voted k v un b r) = tt
    took-named event t of (handed k cert un b r) = tt
    took-named event t of (adopted k p un b r) = tt
    took-named event t of (sought peer q) = of
    took-named event t of (fired l u i q) = ((sound-rules m s good).good (before_own (rules_of s) m me c.past) c.past.epoch l.0 i.leads).leader

    pub taken-short : (event : NodeEvent) (t : Turn Msg) → step (formats_of s m) (rules_of s) m me c event ≡ Taken t → length (spell_event event) ≤ max_entry
    taken-short event t h = took-short event t (took (formats_of s m) (rules_of s) m me c event t h)

    pub taken-named : (event : NodeEvent) (t : Turn Msg) → IsOfNodes s.n event → step (formats_of s m) (rules_of s) m me c event ≡ Taken t → NamesNode s.n event
    taken-named event t of h = took-named event t of (took (formats_of s m) (rules_of s) m me c event t h)

-- ---- the epoch never falls

module _ {Msg : Type 0} (F : Formats Msg) (R : Rules) (m : Module Msg) (me : ℕ) where
  settles-rise : (n : ℕ) (t : Turn Msg) → n ≤ t.core.past.epoch → n ≤ (advance_epochs F R m me t).core.past.epoch
  settles-rise n t h = settles-holds F R m me (λ u. n ≤ u.core.past.epoch) (λ u l input. Unit {0})
      (λ u l input k fit come. k) (λ u k complete. omega (arith, k)) (λ u claims k. k) t h (λ done u x i k q r. tt)

  each-rise : (n e : ℕ) (early : List (Early Msg)) (t : Turn Msg) → n ≤ t.core.past.epoch → n ≤ (then_turn t (takes_each F R m me e early)).core.past.epoch
  each-rise n e early t h = each-holds F R m me (λ u. n ≤ u.core.past.epoch) (λ u l input. Unit {0})
      (λ u l input k fit come. k) (λ u k complete. omega (arith, k)) (λ u claims k. k) e early t h (λ u x i k q r. tt)

  took-rise : (c : Core Msg) (event : NodeEvent) (t : Turn Msg) → Took F R m me c event t → c.past.epoch ≤ t.core.past.epoch
  took-rise c event t (received k l msg u un b e i q) = rw q (settles-rise c.past.epoch u (rw i.is (omega arith)))
  took-rise c event t (kept k l msg un b e i) = rw i.is (omega arith)
  took-rise c event t (asked k q un b r) = rw r.is (omega arith)
  took-rise c event t (voted k v un b r) = rw r.is (omega arith)
  took-rise c event t (handed k cert un b r) = rw r.is (omega arith)
  took-rise c event t (adopted k p un b r) = rw r.is (each-rise c.past.epoch (suc c.past.epoch) c.early (adopts_piece R m me c p) (omega arith))
  took-rise c event t (sought peer q) = rw q (omega arith)
  took-rise c event t (cast slot u i q) = rw q (settles-rise c.past.epoch u (rw i.is (omega arith)))
  took-rise c event t (fired l u i q) = rw q (settles-rise c.past.epoch u (rw i.is (omega arith)))

  pub taken-rises : (c : Core Msg) (event : NodeEvent) (t : Turn Msg) → step F R m me c event ≡ Taken t → c.past.epoch ≤ t.core.past.epoch
  taken-rises c event t h = took-rise c event t (took F R m me c event t h)

-- ---- the log is extended

turned : (a b : List Value) → Extends (reverse a) (reverse b) → GoesOn a b
turned a b h = (
  reverse h.0,
  sym (reverse-reverse b) ∙ ap (λ (xs : List Value). reverse xs) h.1 ∙ reverse-append h.0 (reverse a)
      ∙ ap (λ (xs : List Value). xs ++ reverse h.0) (reverse-reverse a),
)

pub log-cut : (a b : List Value) → GoesOn a b → take (length a) b ≡ a
log-cut a b h = ap (λ (xs : List Value). take (length a) xs) h.1 ∙ take_at a h.0 (length a) refl

pub log-long : (a b : List Value) → GoesOn a b → length a ≤ length b
log-long a b h = let l = ap (λ (xs : List Value). length xs) h.1 in let k = length-append a h.0 in omega (arith, l, k)

module _ {M Msg : Type 0} (m : Module Msg) (refines : Relation M Msg) (old new : NodeView M Msg) (c : Core Msg) (event : NodeEvent) (t : Turn Msg)
    (good : IsSetupOf m old.state.setup) (before : RefinesCore m refines old c) (now : RefinesCore m refines new t.core)
    (taken : step (formats_of old.state.setup m) (rules_of old.state.setup) m old.state.me.0 c event ≡ Taken t)
    (setup : new.state.setup ≡ old.state.setup) (me : new.state.me ≡ old.state.me) where
  abbrev R : Rules
  R = rules_of old.state.setup

  slots : HasSlots R
  slots = record { some = (sound-rules m old.state.setup good).some_slots; most = (sound-rules m old.state.setup good).most }

  sound : IsSoundCore R m old.state.me.0 c
  sound =
      kept-sound (formats_of old.state.setup m) R m old.state.me.0 (bare c) c.early c.votes c.certs c.leaf
      (subst (λ (d : Core Msg). IsSoundCore R m old.state.me.0 d) (sym before.held.state.core) before.held.state.tied.sound)

  log-now : log_of R m old.state.me.0 t.core.past ≡ reverse new.state.log.entries
  log-now = subst (λ (s : Setup). log_of (rules_of s) m old.state.me.0 t.core.past ≡ reverse new.state.log.entries) setup
      (subst (λ (i : ℕ). log_of (rules_of new.state.setup) m i t.core.past ≡ reverse new.state.log.entries) (ap (λ z. z.0) me) now.held.state.tied.log)

  pub taken-goes-on : GoesOn old.state.log.entries new.state.log.entries
  taken-goes-on =
      let grown = step-grown (formats_of old.state.setup m) R m old.state.me.0 slots (are-windows old.state.setup) c event t sound taken in
      turned old.state.log.entries new.state.log.entries
      (grown.0, sym log-now ∙ grown.1 ∙ ap (λ (xs : List Value). grown.0 ++ xs) before.held.state.tied.log)

  pub taken-later : old.state.epoch ≤ new.state.epoch
  taken-later = let r = taken-rises (formats_of old.state.setup m) R m old.state.me.0 c event t taken in omega (arith, r, before.held.state.tied.epoch, now.held.state.tied.epoch)
