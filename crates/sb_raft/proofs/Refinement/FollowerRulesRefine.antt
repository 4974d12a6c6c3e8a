-- The code's rules for followers, composed from their parts.
use Rattle.std.proofs.Common.{◌≡◌, ◌≢◌, ℕ, ◌+◌, ◌^◌, ◌<◌, ◌≤◌, ◌==◌, Bool, true, false, if◌then◌else◌, List, [], ◌∷◌, length, take, drop, refl, sym, subst, ap, ◌∙◌, Option, None, inl, inr, arith}
use Rattle.std.specs.Prelude.{max, min, nat_le}
use Rattle.std.proofs.lemmas.Bool.{cases_lt, and_parts, leb-true}
use Rattle.std.proofs.lemmas.List.{length-drop, length-take, nil_from_length, take-append-drop}
use Rattle.iss_base.proofs.Lists.{eqb-other, eqb-same}
use Rattle.iss_request.specs.declared.ids.NodeId.{NodeId}
use Rattle.iss_request.specs.declared.ids.Slot.{Slot}
use Rattle.iss_request.specs.declared.requests.Batch.{Batch}
use Rattle.iss_request.specs.declared.requests.Value.{Value}
use Rattle.iss_sb.specs.declared.effects.Effects.{Effects}
use Rattle.iss_sb.specs.declared.effects.Params.{Params}
use Rattle.iss_sb.specs.Calls.{IsNothing}
use Rattle.raft_wire.specs.declared.entries.Entry.{Entry}
use Rattle.raft_wire.specs.declared.messages.Message.{Message}
use Rattle.raft_wire.specs.declared.messages.Message.TheVariants.{Reply}
use Rattle.sb_raft.specs.declared.raft.Raft.{Raft}
use Rattle.iss_sb.specs.Paired.{paired}
use Rattle.sb_raft.specs.Held.{LogState, is_mergeable, with_merged}
use Rattle.sb_raft.specs.Logs.{contents, filled, fits_behind, merged, stay}
use Rattle.sb_raft.specs.Rules.{Follower, Leader, State, Step, answer, appended, on_append, quiet, taken, to}
use Rattle.sb_raft.specs.Refines.{Does, IsLow, IsReply, held, merges}
use Rattle.sb_raft.proofs.Safety.CommittedLogsAgree.{take_kept}
use Rattle.sb_raft.proofs.Refinement.RulesCompose.{does-nothing, does-reply, rebased}
use Rattle.sb_raft.proofs.Refinement.MergeAgrees.{merged-reach}

-- ---- The cases of a test

module _ (p : Params) (can : Type 0) where
  pub goes : (me : NodeId) (from : State) (new : Raft) (b : Bool) (x y : Step) (accepted : Option (Slot × Batch)) (e : Effects Message) → b ≡ true → Does p me can from new x accepted e → Does p me can from new (if b then x else y) accepted e
  goes me from new b x y accepted e h d = subst (λ (z : Bool). Does p me can from new (if z then x else y) accepted e) (sym h) d

  pub goes_not : (me : NodeId) (from : State) (new : Raft) (b : Bool) (x y : Step) (accepted : Option (Slot × Batch)) (e : Effects Message) → b ≡ false → Does p me can from new y accepted e → Does p me can from new (if b then x else y) accepted e
  goes_not me from new b x y accepted e h d = subst (λ (z : Bool). Does p me can from new (if z then x else y) accepted e) (sym h) d

  -- nothing happens
  pub idle : (m : Raft) (b : Bool) (x : Step) (e : Effects Message) → b ≡ false → IsNothing e → Does p m.me can (held m) m (if b then x else quiet (held m)) None e
  idle m b x e h n = goes_not m.me (held m) m b x (quiet (held m)) None e h (does-nothing p can m m (quiet (held m)) e refl (λ _. refl) refl refl n)

-- ---- An Append that is refused

low-follower : (s : State) → IsLow s → IsLow (record s { role = Follower })
low-follower s low = record { room = low.room; next = λ r. absurd (clash r); matched = λ r. absurd (clash r) }
  where
    clash : Follower ≡ Leader → ⊥
    clash r = cc

module _ (p : Params) (m : Raft) (from term previous previous_term commit : ℕ) (es : List Entry) (below : from < p.setup.n) (e : Effects Message) where
  abbrev can : Type 0
  can = IsLow (held m)

  abbrev whole : Step
  whole = on_append (held m) from term previous previous_term commit es

  abbrev follower : State
  follower = record (held m) { role = Follower }

  pub append-late : term ≢ m.term → previous < 2 ^ 32 → IsReply from m.term false previous e → Does p m.me can (held m) m whole None e
  append-late ne field h =
      goes_not p can m.me (held m) m (term == m.term) (taken follower from previous previous_term commit es) (answer (held m) from (Reply m.term false previous)) None e (eqb-other term m.term ne)
      (does-reply p can m m (answer (held m) from (Reply m.term false previous)) e refl (λ _. refl) refl from m.term false previous below (λ _. field) (λ _. refl) h)

  in-term : (new : Raft) → term ≡ m.term → Does p m.me can (held m) new (taken follower from previous previous_term commit es) None e → Does p m.me can (held m) new whole None e
  in-term new is d =
      goes p can m.me (held m) new (term == m.term) (taken follower from previous previous_term commit es) (answer (held m) from (Reply m.term false previous)) None e
      (subst (λ (z : ℕ). (term == z) ≡ true) is (eqb-same term)) d

  pub append-unfit : (new : Raft) → new.me ≡ m.me → held new ≡ follower → new.log.commit ≡ m.log.commit → term ≡ m.term → fits_behind m.log.entries previous previous_term ≡ false → previous < 2 ^ 32 →
      IsReply from m.term false previous e → Does p m.me can (held m) new whole None e
  append-unfit new me state stays is fits field h =
      in-term new is (goes_not p can m.me (held m) new (fits_behind m.log.entries previous previous_term) (merges follower from previous commit es) (answer follower from (Reply m.term false previous)) None e fits
      (does-reply p can m new (answer follower from (Reply m.term false previous)) e me (λ _. state) stays from m.term false previous below (λ _. field) (λ _. refl) h))

  pub append-fits : (mid new : Raft) → mid.me ≡ m.me → held mid ≡ follower → mid.log ≡ m.log → term ≡ m.term → fits_behind m.log.entries previous previous_term ≡ true →
      Does p mid.me (IsLow (held mid)) (held mid) new (merges (held mid) from previous commit es) None e → Does p m.me can (held m) new whole None e
  append-fits mid new me state log is fits d =
      in-term new is (goes p can m.me (held m) new (fits_behind m.log.entries previous previous_term) (merges follower from previous commit es) (answer follower from (Reply m.term false previous)) None e fits
      (rebased p can IsLow (λ k s. merges s from previous commit es) m mid new follower None e d me (λ _. state) (λ low. low-follower (held m) low)
      (ap (λ (z : LogState). z.commit) log) (ap (λ (z : LogState). take m.log.commit z.entries) log)))

-- ---- Entries that are merged after an index

-- the committed prefix stays
kept-front : (log es : List Entry) (front commit : ℕ) → front ≤ length log → commit ≤ front + stay (drop front log) es → take commit (merged log front es) ≡ take commit log
kept-front log es front commit le h =
    let l = length-take front log in
    take_kept commit (take front log) (drop front log) es (omega (arith, l, le, h)) ∙ ap (λ (z : List Entry). take commit z) (take-append-drop front log)

drop-max : (c told : ℕ) (es : List Entry) → drop c (take told es) ≡ drop c (take (max c told) es)
drop-max c told es = elim (cases_lt c told) [
  | inl lt ↦ let e : told ≡ max c told = omega (arith, lt) in ap (λ (n : ℕ). drop c (take n es)) e
  | inr le ↦ let e : c ≡ max c told = omega (arith, le) in nothing told le ∙ sym (nothing c (omega arith)) ∙ ap (λ (n : ℕ). drop c (take n es)) e
]
  where
    nothing : (n : ℕ) → n ≤ c → drop c (take n es) ≡ []
    nothing n le = nil_from_length (drop c (take n es)) (let d = length-drop c (take n es) in let t = length-take n es in omega (arith, d, t, le))

module _ (p : Params) (m new : Raft) (from previous commit : ℕ) (es : List Entry) (below : from < p.setup.n) (within : previous ≤ length m.log.entries) (me : new.me ≡ m.me) where
  abbrev low : Type 0
  low = IsLow (held m)

  abbrev after : Step
  after = answer (appended (held m) previous commit es) from (Reply m.term true (previous + length es))

  pub merge-idle : (e : Effects Message) → held new ≡ held m → is_mergeable m.log previous es ≡ false → IsNothing e → Does p m.me low (held m) new (merges (held m) from previous commit es) None e
  merge-idle e state h n =
      goes_not p low m.me (held m) new (is_mergeable m.log previous es) after (quiet (held m)) None e h
      (does-nothing p low m new (quiet (held m)) e me (λ _. state) (ap (λ (z : State). z.commit) state) refl n)

  pub merge-done : (mid : LogState) (sent told : ℕ) (ds : List (Slot × Value)) (e : Effects Message) → is_mergeable m.log previous es ≡ true → mid ≡ with_merged m.log previous es →
      new.log ≡ record mid { commit = max mid.commit told } → held new ≡ record (held m) { log = new.log.entries; commit = new.log.commit } →
      sent ≡ min (previous + length es) 18446744073709551615 → told ≡ min sent commit →
      ds ≡ paired (drop (filled (take mid.commit mid.entries)) p.slots) (contents (drop mid.commit (take told mid.entries))) →
      IsReply from m.term true sent e → Does p m.me low (held m) new (merges (held m) from previous commit es) None (record e { delivers = ds })
  merge-done mid sent told ds e ok log later state long short is h =
      goes p low m.me (held m) new (is_mergeable m.log previous es) after (quiet (held m)) None (record e { delivers = ds }) ok (record {
        node = me;
        state = λ _. state ∙ (λ i. record (held m) { log = entries i; commit = index i });
        sends = λ _. h.sends (omega (arith, exact, most)) ∙ ap (λ (n : ℕ). to from (Reply m.term true n) ∷ []) exact;
        accepts = h.accepted;
        delivers = is ∙ ap (λ (z : LogState). paired (drop (filled (take z.commit z.entries)) p.slots) (contents (drop z.commit (take told z.entries)))) log
            ∙ ap (λ (z : List Entry). paired (drop (filled z) p.slots) (contents (drop m.log.commit (take told all)))) front
            ∙ ap (λ (z : List Entry). paired (drop (filled (take m.log.commit m.log.entries)) p.slots) (contents z)) (drop-max m.log.commit told all)
            ∙ ap (λ (z : LogState). paired (drop (filled (take m.log.commit m.log.entries)) p.slots) (contents (drop m.log.commit (take z.commit z.entries)))) (sym now);
        hashed = h.hashed;
        addressed = h.addressed p.setup.n below;
      })
    where
      all : List Entry
      all = merged m.log.entries previous es

      parts : (m.log.commit ≤ previous + stay (drop previous m.log.entries) es) × (length (merged m.log.entries previous es) ≤ 65600)
      parts = let a = and_parts (nat_le m.log.commit (previous + stay (drop previous m.log.entries) es)) (nat_le (length (merged m.log.entries previous es)) 65600) ok in (leb-true _ _ a.0, leb-true _ _ a.1)

      most : previous + length es ≤ 65600
      most = let r = merged-reach m.log.entries previous es within in let l = parts.1 in omega (arith, r, l)

      exact : sent ≡ previous + length es
      exact = let l = most in omega (arith, long, l)

      now : new.log ≡ record { entries = merged m.log.entries previous es; commit = max m.log.commit told }
      now = later ∙ ap (λ (z : LogState). let w : LogState = record { entries = z.entries; commit = max z.commit told } in w) log

      entries : new.log.entries ≡ merged m.log.entries previous es
      entries = ap (λ (z : LogState). z.entries) now

      index : new.log.commit ≡ max m.log.commit (min commit (previous + length es))
      index = let c = ap (λ (z : LogState). z.commit) now in let x = exact in omega (arith, c, short, x)

      front : take m.log.commit (merged m.log.entries previous es) ≡ take m.log.commit m.log.entries
      front = kept-front m.log.entries es previous m.log.commit within parts.0

-- the log after a merge that was refused
pub when-false : {A : Type 0} (b : Bool) (new old other : A) → b ≡ false → new ≡ (if b then other else old) → new ≡ old
when-false b new old other h e = e ∙ ap (λ (z : Bool). if z then other else old) h

pub when-true : {A : Type 0} (b : Bool) (new old other : A) → b ≡ true → new ≡ (if b then other else old) → new ≡ other
when-true b new old other h e = e ∙ ap (λ (z : Bool). if z then other else old) h

-- the index to commit is within the merged log
pub merged-told : (l new : LogState) (front : ℕ) (es : List Entry) (sent commit told : ℕ) → front ≤ length l.entries → new ≡ with_merged l front es → sent ≡ min (front + length es) 18446744073709551615 → told ≡ min sent commit → told ≤ length new.entries
merged-told l new front es sent commit told within is s t =
    let r = merged-reach l.entries front es within in
    let e = ap (λ (z : LogState). length z.entries) is in
    omega (arith, r, e, s, t)
