-- The effects of a step of the code are the model's, if its rule did what the model says.
use Rattle.std.proofs.Common.{◌≡◌, ℕ, Bool, true, false, if◌then◌else◌, ◌+◌, ◌^◌, ◌<◌, List, ◌∷◌, ◌++◌, length, take, drop, refl, sym, subst, ap, ◌∙◌, Option, Some, None, arith}
use Rattle.std.specs.Prelude.{IfSome}
use Rattle.std.proofs.Math.Seq.{drop-append_seam}
use Rattle.std.proofs.lemmas.List.{length-take-le}
use Rattle.iss_base.specs.Lists.{In}
use Rattle.iss_keys.specs.KeyStates.{KeyState}
use Rattle.iss_request.specs.declared.ids.Slot.{Slot}
use Rattle.iss_request.specs.declared.requests.Batch.{Batch}
use Rattle.iss_request.specs.declared.requests.Value.{Value}
use Rattle.iss_sb.specs.declared.effects.Effects.{Effects}
use Rattle.iss_sb.specs.declared.effects.Input.{Input}
use Rattle.iss_sb.specs.declared.effects.Params.{Params}
use Rattle.iss_sb.specs.Calls.{AllIn, Delivers, IsGoodParams, IsTaken, IsTrueStep, slots_of}
use Rattle.iss_sb.specs.Evidence.{Item, and_then, delivered}
use Rattle.iss_sb.specs.declared.effects.Input.TheVariants.{Cast}
use Rattle.iss_sb.proofs.Slots.{place-In}
use Rattle.raft_wire.specs.declared.entries.Entry.{Entry}
use Rattle.raft_wire.specs.declared.messages.Message.{Message}
use Rattle.sb_raft.specs.declared.raft.Raft.{Raft}
use Rattle.sb_raft.specs.Logs.{contents, filled}
use Rattle.iss_sb.specs.Paired.{value_with}
use Rattle.sb_raft.specs.Raft.{asks, raft, state}
use Rattle.sb_raft.specs.Rules.{State, Step, is_candidate, may_cast, step}
use Rattle.sb_raft.specs.Refines.{Does, IsLow, Refines, cast_of, held, newly}
use Rattle.sb_raft.proofs.StateChanges.NextIndexIsInLog.{bounded}
use Rattle.sb_raft.proofs.StateChanges.CommittedEntriesStay.{contents-both, delivered-is, grown, room}
use Rattle.sb_raft.proofs.ModuleLaws.LogLengthIsBounded.{few, no-more}
use Rattle.sb_raft.proofs.ModuleLaws.StepsAreLawful.{cast-next}
use Rattle.iss_sb.proofs.Paired.{fresh-ascending, fresh-within}
use Rattle.sb_raft.proofs.Refinement.DeliveredSlotsAgree.{decided-fresh, fresh-decided}
use Rattle.sb_raft.proofs.Safety.ListPrefixes.{pre_rest}

-- ---- Newly delivered slots

module _ (p : Params) (good : IsGoodParams raft p) (me : ℕ) (xs : List (Item Message)) (x : Item Message) where
  abbrev s : State
  s = state p me xs

  abbrev v : State
  v = state p me (x ∷ xs)

  abbrev before : List Entry
  before = take s.commit s.log

  -- the values committed before are a prefix of those committed now
  contents-now : contents (take v.commit v.log) ≡ contents before ++ contents (drop s.commit (take v.commit v.log))
  contents-now =
      let r = pre_rest before (take v.commit v.log) (grown p me xs x) in
      let long = length-take-le s.commit s.log (room p me xs) in
      let rest : drop s.commit (take v.commit v.log) ≡ r.0 =
      ap (λ (z : List Entry). drop s.commit z) r.1 ∙ ap (λ (n : ℕ). drop n (before ++ r.0)) (sym long) ∙ drop-append_seam before r.0 in
      ap contents r.1 ∙ contents-both before r.0 ∙ ap (λ (z : List Entry). contents before ++ contents z) (sym rest)

  pub newly-delivered : Delivers raft p me xs (x ∷ xs) (newly p s v)
  newly-delivered = record { exactly = λ t y. (λ i. now t y i, λ h. fresh t y h.0 h.1); ascending = fresh-ascending 0 (filled before) p.slots _ good.ascending }
    where
      now : (t : Slot) (y : Value) → In {A = Slot × Value} (t, y) (newly p s v) → (delivered raft p me (x ∷ xs) t.0 ≡ Some y) × (delivered raft p me xs t.0 ≡ None)
      now t y i =
          let f = fresh-decided 0 t y p.slots (contents before) (contents (drop s.commit (take v.commit v.log))) good.ascending i in
          (delivered-is p me (x ∷ xs) t.0 ∙ subst (λ (z : List Value). value_with t.0 p.slots z ≡ Some y) (sym contents-now) f.0, delivered-is p me xs t.0 ∙ f.1)

      fresh : (t : Slot) (y : Value) → delivered raft p me (x ∷ xs) t.0 ≡ Some y → delivered raft p me xs t.0 ≡ None → In {A = Slot × Value} (t, y) (newly p s v)
      fresh t y h n =
          decided-fresh t y p.slots (contents before) (contents (drop s.commit (take v.commit v.log)))
          (subst (λ (z : List Value). value_with t.0 p.slots z ≡ Some y) contents-now (sym (delivered-is p me (x ∷ xs) t.0) ∙ h)) (sym (delivered-is p me xs t.0) ∙ n)

-- ---- Bounds of indices

pub refines-low : (p : Params) → IsGoodParams raft p → (m : Raft) (me : ℕ) (xs : List (Item Message)) → Refines m p me xs → m.term < 2 ^ 16 → IsLow (held m)
refines-low p good m me xs st low =
    let f = few p good me xs in
    let s = state p me xs in
    let marks = no-more (is_candidate s.role) (length s.log) (65600 + s.term + filled s.log) f.marks in
    let full = f.full in
    let term = ap (λ (z : State). z.term) st.state in
    let b = bounded p me xs in
    let all : IsLow s = record { room = omega (arith, marks, full, term, low); next = λ r. (b r).next; matched = λ r. (b r).matched } in
    subst (λ (z : State). IsLow z) (sym st.state) all

-- ---- A step

module _ (p : Params) (good : IsGoodParams raft p) (old new : Raft) (i : Input Message) (accepted : Option (Slot × Batch)) (e : Effects Message) (low : old.term < 2 ^ 16)
    (d : Does p old.me (IsLow (held old)) (held old) new (step p old.me.0 (held old) i) accepted e) where
  step-same : (me : ℕ) (xs : List (Item Message)) → Refines old p me xs → step p old.me.0 (held old) i ≡ step p me (state p me xs) i
  step-same me xs st = ap (λ (k : ℕ). step p k (held old) i) st.node ∙ ap (λ (z : State). step p me z i) st.state

  refines-then : (me : ℕ) (xs : List (Item Message)) (leaf : ℕ) → Refines old p me xs → Refines new p me (and_then raft p me xs i leaf)
  refines-then me xs leaf st = record {
    node = ap (λ z. z.0) d.node ∙ st.node;
    state = d.state (refines-low p good old me xs st low) ∙ ap (λ (z : Step). z.state) (step-same me xs st);
  }

  takes : ((me : ℕ) (xs : List (Item Message)) → Refines old p me xs → accepted ≡ asks p me xs i) → (me : ℕ) (xs : List (Item Message)) (leaf : ℕ) → Refines old p me xs → IsTaken raft p me xs i leaf e
  takes asked me xs leaf st =
      let later = refines-then me xs leaf st in
      let x : Item Message = record { input = i; leaf = leaf; made = raft.makes p me xs i leaf } in
      record {
        sends = d.sends (refines-low p good old me xs st low) ∙ ap (λ (z : Step). z.sends) (step-same me xs st);
        accepted = d.accepts ∙ asked me xs st;
        hashed = d.hashed;
        delivers = subst (λ (z : List (Slot × Value)). Delivers raft p me xs (x ∷ xs) z)
            (sym (d.delivers ∙ ap (λ (z : State). newly p z (held new)) st.state ∙ ap (λ (z : State). newly p (state p me xs) z) later.state)) (newly-delivered p good me xs x);
      }

  pub true-step : ((me : ℕ) (xs : List (Item Message)) → Refines old p me xs → accepted ≡ asks p me xs i) → IfSome accepted (λ a. In a.0 p.slots) → (keys : KeyState) → IsTrueStep raft Refines p old new i keys keys e
  true-step asked inside keys = record {
    refined = λ me xs st own. refines-then me xs keys.used st;
    effects = λ me xs st own. takes asked me xs keys.used st;
    used = λ me xs st own. omega arith;
    within = record {
      delivered = subst (λ (z : List (Slot × Value)). AllIn (slots_of z) p.slots) (sym d.delivers) (fresh-within (filled (take (held old).commit (held old).log)) p.slots _);
      accepted = subst (λ (z : Option (Slot × Batch)). IfSome z (λ a. In a.0 p.slots)) (sym d.accepts) inside;
      addressed = d.addressed;
      same_secret = refl;
      same_height = refl;
      leaves = omega arith;
      few = omega arith;
    };
    enough = omega arith;
  }

-- the batch accepted with a cast is the one offered, at a slot of the segment
pub cast-asked : (p : Params) (m : Raft) (me : ℕ) (xs : List (Item Message)) (slot : Slot) (batch : Batch) → Refines m p me xs → cast_of p (held m) slot batch ≡ asks p me xs (Cast slot batch)
cast-asked p m me xs slot batch st = ap (λ (z : State). cast_of p z slot batch) st.state

pub cast-inside : (p : Params) (s : State) (slot : Slot) (batch : Batch) → IfSome (cast_of p s slot batch) (λ a. In a.0 p.slots)
cast-inside p s slot batch = go (may_cast p s slot.0) refl
  where
    go : (b : Bool) → may_cast p s slot.0 ≡ b → IfSome {T = Slot × Batch} (if b then Some (slot, batch) else None) (λ a. In a.0 p.slots)
    go true h = place-In slot p.slots (filled s.log) (cast-next p s slot.0 h)
    go false h = tt
