-- The code's rules for leaders and candidates, composed from their parts.
use Rattle.std.proofs.Common.{◌≡◌, ℕ, ◌+◌, ◌-◌, ◌^◌, ◌<◌, ◌≤◌, ◌==◌, ◌&&◌, Bool, true, false, not, cond, if◌then◌else◌, List, [], ◌∷◌, ◌++◌, length, take, drop, append_assoc, refl, sym, subst, ap, ◌∙◌, Some, None, inl, inr, arith}
use Rattle.std.specs.Prelude.{max, min, nat_le, nat_lt}
use Rattle.std.proofs.lemmas.Bool.{and_parts, eqb-true, le-leb, le-ltb, lt-leb, lt-ltb}
use Rattle.std.proofs.lemmas.List.{length-append, take-append-le}
use Rattle.iss_base.specs.Lists.{set_at}
use Rattle.iss_base.specs.Quorum.{count_below}
use Rattle.iss_request.specs.declared.ids.NodeId.{NodeId}
use Rattle.iss_request.specs.declared.ids.Slot.{Slot}
use Rattle.iss_request.specs.declared.requests.Batch.{Batch}
use Rattle.iss_request.specs.declared.requests.Value.{Value}
use Rattle.iss_sb.specs.declared.effects.Effects.{Effects}
use Rattle.iss_sb.specs.declared.effects.Params.{Params}
use Rattle.iss_sb.specs.declared.effects.To.{To}
use Rattle.iss_sb.specs.Calls.{AreToNodes, IsNothing}
use Rattle.iss_sb.specs.declared.content.Content.TheVariants.{Holds, Mark}
use Rattle.raft_wire.specs.declared.messages.Message.{Message}
use Rattle.raft_wire.specs.declared.messages.Message.TheVariants.{Vote}
use Rattle.sb_raft.specs.declared.raft.Raft.{Raft}
use Rattle.iss_sb.specs.Paired.{paired}
use Rattle.sb_raft.specs.Held.{LogState}
use Rattle.sb_raft.specs.Kept.{kept}
use Rattle.sb_raft.specs.Logs.{contents, entry, filled, nils}
use Rattle.sb_raft.specs.Rules.{Candidate, Leader, State, Step, advanced, answer, append_behind, appends, ask_vote, candidate, counted, filling, grants, greatest, is_candidate, is_leader, may_cast, may_commit, on_ask, on_cast, on_not_ok, on_ok, on_reply, on_timeout, on_vote, others, quiet, risen, spread, stands_up, to, to_each, won}
use Rattle.sb_raft.specs.Refines.{Does, Fits, HasRoom, IsLow, OnlySends, cast_of, held}
use Rattle.sb_raft.proofs.StateChanges.NextIndexIsInLog.{Bounds, match-bounds, won-bounds}
use Rattle.sb_raft.proofs.Refinement.RulesCompose.{does-nothing, does-only, everywhere, rebased, restep}
use Rattle.sb_raft.proofs.StateChanges.TermVoteRoleLog.{cast-parts}
use Rattle.sb_raft.proofs.ModuleLaws.LogLengthIsBounded.{filling-long}
use Rattle.sb_raft.proofs.Refinement.FollowerRulesRefine.{goes, goes_not}
use Rattle.sb_raft.proofs.StateChanges.CommitAndMatchIndices.{greatest_is}
use Rattle.sb_raft.proofs.StateChanges.StepCases.{leader_is, with_cast, with_granted, with_match}

bounds-of : (s : State) → IsLow s → s.role ≡ Leader → Bounds s
bounds-of s low r = record { matched = low.matched r; next = low.next r }

pub fits-of : (s : State) → IsLow s → s.role ≡ Leader → Fits s
fits-of s low r = let room = low.room in record { log = omega (arith, room); next = low.next r }

-- ---- Committing by counting

greatest-within : (test : ℕ → Bool) (least k : ℕ) → least ≤ k → greatest test least k ≤ k
greatest-within test least k le = elim (greatest_is test least k) [
  | inl e ↦ omega (arith, e, le)
  | inr a ↦ a.within
]

module _ (p : Params) (m : Raft) where
  abbrev top : ℕ
  top = greatest (may_commit p m.me.0 (held m)) m.log.commit (length m.log.entries)

  abbrev made : List (To × Message) → Step
  made sends = record { state = held m; sends = sends }

  abbrev Advances : Raft → List (To × Message) → Effects Message → Type 0
  Advances new sends e = Does p m.me (Fits (held m)) (held m) new (advanced p m.me.0 (made sends)) None e

  pub reach-within : (index : ℕ) → index ≡ top → m.log.commit ≤ length m.log.entries → index ≤ length m.log.entries
  reach-within index is le = let w = greatest-within (may_commit p m.me.0 (held m)) m.log.commit (length m.log.entries) le in omega (arith, is, w)

  pub advance-idle : (index : ℕ) (sends : List (To × Message)) (e : Effects Message) → index ≡ top → index ≤ m.log.commit → AreToNodes p.setup.n sends → OnlySends sends e → Advances m sends e
  advance-idle index sends e is le addressed h =
      goes_not p (Fits (held m)) m.me (held m) m (nat_lt m.log.commit top) (risen p m.me.0 (record (held m) { commit = top }) sends) (made sends) None e (le-ltb m.log.commit top (omega (arith, is, le)))
      (does-only p (Fits (held m)) m m (made sends) e refl (λ _. refl) refl sends addressed (λ _. refl) h)

  pub advance-done : (index : ℕ) (new : Raft) (sends more : List (To × Message)) (ds : List (Slot × Value)) (e : Effects Message) → index ≡ top → m.log.commit < index → new.me ≡ m.me →
      held new ≡ record (held m) { log = new.log.entries; commit = new.log.commit } → new.log ≡ record m.log { commit = max m.log.commit index } →
      ds ≡ paired (drop (filled (take m.log.commit m.log.entries)) p.slots) (contents (drop m.log.commit (take index m.log.entries))) →
      (Fits (held new) → more ≡ sends ++ appends p new.me.0 (held new)) → AreToNodes p.setup.n more → OnlySends more e → Advances new sends (record e { delivers = ds })
  advance-done index new sends more ds e is lt node state log given sent addressed h =
      goes p (Fits (held m)) m.me (held m) new (nat_lt m.log.commit top) (risen p m.me.0 (record (held m) { commit = top }) sends) (made sends) None (record e { delivers = ds }) (lt-ltb m.log.commit top (omega (arith, is, lt))) (record {
        node = node;
        state = λ _. now;
        sends = λ c. h.sends_is ∙ sent (subst (λ (z : State). Fits z) (sym now) (record { log = c.log; next = c.next })) ∙ ap (λ (k : NodeId). sends ++ appends p k.0 (held new)) node ∙ ap (λ (z : State). sends ++ appends p m.me.0 z) now;
        accepts = h.accepted;
        delivers = given ∙ (λ i. paired (drop (filled (take m.log.commit m.log.entries)) p.slots) (contents (drop m.log.commit (take (sym commit i) (sym entries i)))));
        hashed = h.hashed;
        addressed = subst (λ (z : List (To × Message)). AreToNodes p.setup.n z) (sym h.sends_is) addressed;
      })
    where
      commit : new.log.commit ≡ index
      commit = let c = ap (λ (z : LogState). z.commit) log in omega (arith, c, lt)

      entries : new.log.entries ≡ m.log.entries
      entries = ap (λ (z : LogState). z.entries) log

      now : held new ≡ record (held m) { commit = top }
      now = state ∙ (λ i. record (held m) { log = entries i; commit = (commit ∙ is) i })

-- ---- The rules

module _ (p : Params) (m : Raft) where
  abbrev low : Type 0
  low = IsLow (held m)

  abbrev me : ℕ
  me = m.me.0

  -- committing by counting, from a later state
  further : (can : Type 0) (mid new : Raft) (u : State) (sends wanted : List (To × Message)) (e : Effects Message) →
      Does p mid.me (Fits (held mid)) (held mid) new (advanced p mid.me.0 (record { state = held mid; sends = sends })) None e → mid.me ≡ m.me → (can → held mid ≡ u) → (can → Fits u) → (can → sends ≡ wanted) →
      mid.log.commit ≡ m.log.commit → take m.log.commit mid.log.entries ≡ take m.log.commit m.log.entries → Does p m.me can (held m) new (advanced p me (record { state = u; sends = wanted })) None e
  further can mid new u sends wanted e d node is fits same stays front =
      restep p can m.me (held m) new (advanced p me (record { state = u; sends = sends })) (advanced p me (record { state = u; sends = wanted })) None e
      (rebased p can Fits (λ k s. advanced p k (record { state = s; sends = sends })) m mid new u None e d node is fits stays front)
      (λ c. ap (λ (z : List (To × Message)). advanced p me (record { state = u; sends = z })) (same c))

  -- ---- Replies

  module _ (from index : ℕ) (leads : is_leader (held m).role ≡ true) where
    abbrev held_to : ℕ
    held_to = max (kept m.matched from) index

    pub ok-done : (mid new : Raft) (far later : ℕ) (sends : List (To × Message)) (e : Effects Message) → index ≤ length m.log.entries →
        Does p mid.me (Fits (held mid)) (held mid) new (advanced p mid.me.0 (record { state = held mid; sends = sends })) None e → sends ≡ [] → mid.me ≡ m.me →
        held mid ≡ record (held m) { matched = kept mid.matched; next = kept mid.next } → far ≡ held_to → later ≡ min (far + 1) 18446744073709551615 →
        ((k : ℕ) → kept mid.matched k ≡ set_at (kept m.matched) from far k) → ((k : ℕ) → kept mid.next k ≡ set_at (kept m.next) from later k) → mid.log ≡ m.log →
        Does p m.me low (held m) new (on_ok p me (held m) from index) None e
    ok-done mid new far later sends e within d none node state is rose matched next log =
        goes p low m.me (held m) new (nat_le index (length m.log.entries)) (advanced p me (quiet (with_match (held m) from index))) (quiet (held m)) None e (le-leb index (length m.log.entries) within)
        (further low mid new (with_match (held m) from index) sends [] e d node now fits (λ _. none) (ap (λ (z : LogState). z.commit) log) (ap (λ (z : LogState). take m.log.commit z.entries) log))
      where
        same-far : kept mid.matched ≡ set_at (kept m.matched) from held_to
        same-far = everywhere (kept mid.matched) (set_at (kept m.matched) from far) matched ∙ ap (λ (n : ℕ). set_at (kept m.matched) from n) is

        same-next : low → kept mid.next ≡ set_at (kept m.next) from (held_to + 1)
        same-next c =
            let room = c.room in
            let high = c.matched (leader_is (held m).role leads) from in
            let exact : later ≡ held_to + 1 = omega (arith, rose, is, room, high, within) in
            everywhere (kept mid.next) (set_at (kept m.next) from later) next ∙ ap (λ (n : ℕ). set_at (kept m.next) from n) exact

        now : low → held mid ≡ with_match (held m) from index
        now c = state ∙ (λ i. record (held m) { matched = same-far i; next = same-next c i })

        fits : low → Fits (with_match (held m) from index)
        fits c =
            let b = match-bounds (held m) from index (bounds-of (held m) c (leader_is (held m).role leads)) within in
            let room = c.room in
            record { log = omega (arith, room); next = b.next }

    pub not-ok-done : (new : Raft) (msg : Message) (e : Effects Message) → from < p.setup.n → ((index == kept m.next from - 1) && nat_le 1 index) ≡ true → new.me ≡ m.me →
        held new ≡ record (held m) { next = kept new.next } → ((k : ℕ) → kept new.next k ≡ set_at (kept m.next) from index k) → new.log.commit ≡ m.log.commit →
        (length m.log.entries < 2 ^ 32 → index - 1 ≤ length m.log.entries → msg ≡ append_behind (held m) (index - 1)) →
        OnlySends (to from msg ∷ []) e → Does p m.me low (held m) new (on_not_ok (held m) from index) None e
    not-ok-done new msg e below test node state next stays is h =
        goes p low m.me (held m) new ((index == kept m.next from - 1) && nat_le 1 index) (answer (record (held m) { next = set_at (kept m.next) from index }) from (append_behind (held m) (index - 1))) (quiet (held m)) None e test
        (does-only p low m new (answer (record (held m) { next = set_at (kept m.next) from index }) from (append_behind (held m) (index - 1))) e node (λ _. now) stays (to from msg ∷ []) (below, tt) same h)
      where
        now : held new ≡ record (held m) { next = set_at (kept m.next) from index }
        now = state ∙ (λ i. record (held m) { next = everywhere (kept new.next) (set_at (kept m.next) from index) next i })

        same : low → to from msg ∷ [] ≡ to from (append_behind (held m) (index - 1)) ∷ []
        same c =
            let room = c.room in
            let a = and_parts (index == kept m.next from - 1) (nat_le 1 index) test in
            let last = eqb-true index (kept m.next from - 1) a.0 in
            let high = c.next (leader_is (held m).role leads) from in
            ap (λ (z : Message). to from z ∷ []) (is (omega (arith, room)) (omega (arith, last, high)))

  -- ---- Counting votes

  pub votes-few : (sends : List (To × Message)) (e : Effects Message) → AreToNodes p.setup.n sends → count_below (kept m.granted) p.setup.n < p.setup.quorum → OnlySends sends e →
      Does p m.me (HasRoom (held m)) (held m) m (counted p me (held m) sends) None e
  votes-few sends e addressed lt h =
      goes_not p (HasRoom (held m)) m.me (held m) m (nat_le p.setup.quorum (count_below (kept m.granted) p.setup.n)) _ (record { state = held m; sends = sends }) None e (lt-leb p.setup.quorum (count_below (kept m.granted) p.setup.n) lt)
      (does-only p (HasRoom (held m)) m m (record { state = held m; sends = sends }) e refl (λ _. refl) refl sends addressed (λ _. refl) h)

  room-won : length p.slots ≤ 64 → HasRoom (held m) → Fits (won p (held m))
  room-won few room =
      let b = won-bounds p (held m) in
      let l = length-append m.log.entries (filling p (held m)) in
      let f = filling-long p (held m) in
      record { log = omega (arith, room, l, f, few); next = b.next }

  pub votes-won : length p.slots ≤ 64 → (mid new : Raft) (sends more : List (To × Message)) (e : Effects Message) → p.setup.quorum ≤ count_below (kept m.granted) p.setup.n → m.log.commit ≤ length m.log.entries →
      Does p mid.me (Fits (held mid)) (held mid) new (advanced p mid.me.0 (record { state = held mid; sends = more })) None e → mid.me ≡ m.me → held mid ≡ won p (held m) →
      (Fits (held mid) → more ≡ sends ++ appends p mid.me.0 (held mid)) → Does p m.me (HasRoom (held m)) (held m) new (counted p me (held m) sends) None e
  votes-won few mid new sends more e enough low_commit d node is sent =
      goes p (HasRoom (held m)) m.me (held m) new (nat_le p.setup.quorum (count_below (kept m.granted) p.setup.n)) (advanced p me (record { state = won p (held m); sends = sends ++ appends p me (won p (held m)) })) (record { state = held m; sends = sends }) None e
      (le-leb p.setup.quorum (count_below (kept m.granted) p.setup.n) enough)
      (further (HasRoom (held m)) mid new (won p (held m)) more (sends ++ appends p me (won p (held m))) e d node (λ _. is) (λ room. room-won few room) same (ap (λ (z : State). z.commit) is)
      (ap (λ (z : State). take m.log.commit z.log) is ∙ take-append-le m.log.commit m.log.entries (filling p (held m)) low_commit))
    where
      same : HasRoom (held m) → more ≡ sends ++ appends p me (won p (held m))
      same room =
          sent (subst (λ (z : State). Fits z) (sym is) (room-won few room))
          ∙ ap (λ (k : NodeId). sends ++ appends p k.0 (held mid)) node ∙ ap (λ (z : State). sends ++ appends p me z) is

  -- counting votes, from a later state
  pub votes-further : (can : Type 0) (mid new : Raft) (u : State) (sends wanted : List (To × Message)) (e : Effects Message) → Does p mid.me (HasRoom (held mid)) (held mid) new (counted p mid.me.0 (held mid) sends) None e →
      mid.me ≡ m.me → held mid ≡ u → (can → HasRoom u) → (can → sends ≡ wanted) → mid.log ≡ m.log → Does p m.me can (held m) new (counted p me u wanted) None e
  votes-further can mid new u sends wanted e d node is room same log =
      restep p can m.me (held m) new (counted p me u sends) (counted p me u wanted) None e
      (rebased p can HasRoom (λ k s. counted p k s sends) m mid new u None e d node (λ _. is) room (ap (λ (z : LogState). z.commit) log) (ap (λ (z : LogState). take m.log.commit z.entries) log))
      (λ c. ap (λ (z : List (To × Message)). counted p me u z) (same c))

  pub vote-done : (mid new : Raft) (from term : ℕ) (granted : Bool) (sends : List (To × Message)) (e : Effects Message) → ((is_candidate (held m).role && granted) && (term == m.term)) ≡ true →
      Does p mid.me (HasRoom (held mid)) (held mid) new (counted p mid.me.0 (held mid) sends) None e → sends ≡ [] → mid.me ≡ m.me → held mid ≡ record (held m) { granted = kept mid.granted } →
      ((k : ℕ) → kept mid.granted k ≡ set_at (kept m.granted) from true k) → mid.log ≡ m.log → Does p m.me low (held m) new (on_vote p me (held m) from term granted) None e
  vote-done mid new from term granted sends e test d none node state is log =
      goes p low m.me (held m) new ((is_candidate (held m).role && granted) && (term == m.term)) (counted p me (with_granted (held m) from) []) (quiet (held m)) None e test
      (votes-further low mid new (with_granted (held m) from) sends [] e d node (state ∙ (λ i. record (held m) { granted = everywhere (kept mid.granted) (set_at (kept m.granted) from true) is i })) (λ c. c.room) (λ _. none) log)

  -- ---- Timeouts

  pub stand-done : (mid new : Raft) (sends : List (To × Message)) (e : Effects Message) → Does p mid.me (HasRoom (held mid)) (held mid) new (counted p mid.me.0 (held mid) sends) None e → mid.me ≡ m.me →
      held mid ≡ record (held m) { term = m.term + 1; vote = Some me; role = Candidate; granted = kept mid.granted } → ((k : ℕ) → kept mid.granted k ≡ (k == me)) → mid.log ≡ m.log →
      (length mid.log.entries < 2 ^ 32 → sends ≡ to_each (ask_vote (held mid)) (others mid.me.0 p.setup.n)) → Does p m.me low (held m) new (stands_up p me (candidate me (held m))) None e
  stand-done mid new sends e d node state is log sent =
      votes-further low mid new (candidate me (held m)) sends (to_each (ask_vote (candidate me (held m))) (others me p.setup.n)) e d node now (λ c. c.room) same log
    where
      now : held mid ≡ candidate me (held m)
      now = state ∙ (λ i. record (held m) { term = m.term + 1; vote = Some me; role = Candidate; granted = everywhere (kept mid.granted) (λ k. k == me) is i })

      same : low → sends ≡ to_each (ask_vote (candidate me (held m))) (others me p.setup.n)
      same c =
          let room = c.room in
          let long = ap (λ (z : LogState). length z.entries) log in
          sent (omega (arith, room, long)) ∙ ap (λ (k : NodeId). to_each (ask_vote (held mid)) (others k.0 p.setup.n)) node ∙ ap (λ (z : State). to_each (ask_vote z) (others me p.setup.n)) now

  pub timeout-leader : (sends : List (To × Message)) (e : Effects Message) → is_leader (held m).role ≡ true → (Fits (held m) → sends ≡ appends p me (held m)) → AreToNodes p.setup.n sends → OnlySends sends e →
      Does p m.me low (held m) m (on_timeout p me (held m)) None e
  timeout-leader sends e leads sent addressed h =
      goes p low m.me (held m) m (is_leader (held m).role) (record { state = held m; sends = appends p me (held m) }) (if nat_lt m.term 65535 then stands_up p me (candidate me (held m)) else quiet (held m)) None e leads
      (does-only p low m m (record { state = held m; sends = appends p me (held m) }) e refl (λ _. refl) refl sends addressed (λ c. sent (fits-of (held m) c (leader_is (held m).role leads))) h)

  pub timeout-last : (e : Effects Message) → is_leader (held m).role ≡ false → nat_lt m.term 65535 ≡ false → IsNothing e → Does p m.me low (held m) m (on_timeout p me (held m)) None e
  timeout-last e other last n =
      goes_not p low m.me (held m) m (is_leader (held m).role) (record { state = held m; sends = appends p me (held m) }) (if nat_lt m.term 65535 then stands_up p me (candidate me (held m)) else quiet (held m)) None e other
      (goes_not p low m.me (held m) m (nat_lt m.term 65535) (stands_up p me (candidate me (held m))) (quiet (held m)) None e last (does-nothing p low m m (quiet (held m)) e refl (λ _. refl) refl refl n))

  pub timeout-refines : (new : Raft) (e : Effects Message) → is_leader (held m).role ≡ false → m.term < 65535 → Does p m.me low (held m) new (stands_up p me (candidate me (held m))) None e → Does p m.me low (held m) new (on_timeout p me (held m)) None e
  timeout-refines new e other lt d =
      goes_not p low m.me (held m) new (is_leader (held m).role) (record { state = held m; sends = appends p me (held m) }) (if nat_lt m.term 65535 then stands_up p me (candidate me (held m)) else quiet (held m)) None e other
      (goes p low m.me (held m) new (nat_lt m.term 65535) (stands_up p me (candidate me (held m))) (quiet (held m)) None e (lt-ltb m.term 65535 lt) d)

  -- ---- Casts

  module _ (slot : Slot) (batch : Batch) where
    abbrev Casts : Raft → Effects Message → Bool → Type 0
    Casts new e b = Does p m.me low (held m) new (if b then spread p me (with_cast (held m) batch) else quiet (held m)) (if b then Some (slot, batch) else None) e

    pub cast-idle : (e : Effects Message) → may_cast p (held m) slot.0 ≡ false → IsNothing e → Does p m.me low (held m) m (on_cast p me (held m) slot.0 batch) (cast_of p (held m) slot batch) e
    cast-idle e other n = subst (λ (b : Bool). Casts m e b) (sym other) (does-nothing p low m m (quiet (held m)) e refl (λ _. refl) refl refl n)

    pub cast-done : (mid new : Raft) (sends : List (To × Message)) (e : Effects Message) → may_cast p (held m) slot.0 ≡ true → m.log.commit ≤ length m.log.entries →
        Does p mid.me (Fits (held mid)) (held mid) new (advanced p mid.me.0 (record { state = held mid; sends = sends })) None e → mid.me ≡ m.me → held mid ≡ with_cast (held m) batch →
        (Fits (held mid) → sends ≡ appends p mid.me.0 (held mid)) → Does p m.me low (held m) new (on_cast p me (held m) slot.0 batch) (cast_of p (held m) slot batch) (record e { accepted = Some (slot, batch) })
    cast-done mid new sends e may low_commit d node is sent =
        let r = further low mid new (with_cast (held m) batch) sends (appends p me (with_cast (held m) batch)) e d node (λ _. is) fits same (ap (λ (z : State). z.commit) is)
        (ap (λ (z : State). take m.log.commit z.log) is ∙ take-append-le m.log.commit m.log.entries (entry m.term (Holds batch) ∷ []) low_commit) in
        subst (λ (b : Bool). Casts new (record e { accepted = Some (slot, batch) }) b) (sym may)
        (record { node = r.node; state = r.state; sends = r.sends; accepts = refl; delivers = r.delivers; hashed = r.hashed; addressed = r.addressed })
      where
        fits : low → Fits (with_cast (held m) batch)
        fits c =
            let leads = (cast-parts p (held m) slot.0 may).leads in
            let room = c.room in
            let l = length-append m.log.entries (entry m.term (Holds batch) ∷ []) in
            record { log = omega (arith, room, l); next = λ k. let h = c.next leads k in omega (arith, h, l) }

        same : low → sends ≡ appends p me (with_cast (held m) batch)
        same c =
            sent (subst (λ (z : State). Fits z) (sym is) (fits c)) ∙ ap (λ (k : NodeId). appends p k.0 (held mid)) node ∙ ap (λ (z : State). appends p me z) is

-- ---- A new leader's state

pub lead-state : (p : Params) (m new : Raft) (mid : LogState) (missing last : ℕ) → held new ≡ record (held m) { role = Leader; log = new.log.entries; commit = new.log.commit; next = kept new.next; matched = kept new.matched } →
    missing ≡ length p.slots - filled m.log.entries → last ≡ length m.log.entries + 1 → ((k : ℕ) → kept new.next k ≡ last) → ((k : ℕ) → kept new.matched k ≡ 0) →
    mid ≡ record m.log { entries = m.log.entries ++ entry m.term Mark ∷ [] } → new.log ≡ record mid { entries = mid.entries ++ nils m.term missing } → held new ≡ won p (held m)
lead-state p m new mid missing last state count after next matched marked filled_up =
    state ∙ (λ i. record (held m) { role = Leader; log = entries i; commit = commit i; next = every i; matched = none i })
  where
    entries : new.log.entries ≡ m.log.entries ++ filling p (held m)
    entries =
        ap (λ (z : LogState). z.entries) filled_up ∙ ap (λ (z : LogState). z.entries ++ nils m.term missing) marked ∙ append_assoc m.log.entries (entry m.term Mark ∷ []) (nils m.term missing)
        ∙ ap (λ (n : ℕ). m.log.entries ++ entry m.term Mark ∷ nils m.term n) count

    commit : new.log.commit ≡ m.log.commit
    commit = ap (λ (z : LogState). z.commit) filled_up ∙ ap (λ (z : LogState). z.commit) marked

    every : kept new.next ≡ (λ (k : ℕ). length m.log.entries + 1)
    every = everywhere (kept new.next) (λ k. length m.log.entries + 1) (λ k. next k ∙ after)

    none : kept new.matched ≡ (λ (k : ℕ). 0)
    none = everywhere (kept new.matched) (λ k. 0) matched

-- a new candidate has only its own vote
pub own-vote : (mine : ℕ) (all one : ℕ → Bool) → ((k : ℕ) → all k ≡ false) → ((k : ℕ) → one k ≡ set_at all mine true k) → (k : ℕ) → one k ≡ (k == mine)
own-vote mine all one none set k = set k ∙ go (k == mine) (none k)
  where
    go : (b : Bool) → all k ≡ false → cond b true (all k) ≡ b
    go true h = refl
    go false h = h

-- ---- Granting votes

pub grant-done : (p : Params) (m new : Raft) (from term last last_term : ℕ) (e : Effects Message) → from < p.setup.n → new.me ≡ m.me → held new ≡ record (held m) { vote = Some from } → new.log.commit ≡ m.log.commit →
    grants (held m) from term last last_term ≡ true → OnlySends (to from (Vote m.term true) ∷ []) e → Does p m.me (IsLow (held m)) (held m) new (on_ask (held m) from term last last_term) None e
grant-done p m new from term last last_term e below node state stays test h =
    goes p (IsLow (held m)) m.me (held m) new (grants (held m) from term last last_term) (answer (record (held m) { vote = Some from }) from (Vote m.term true)) (answer (held m) from (Vote m.term false)) None e test
    (does-only p (IsLow (held m)) m new (answer (record (held m) { vote = Some from }) from (Vote m.term true)) e node (λ _. state) stays (to from (Vote m.term true) ∷ []) (below, tt) (λ _. refl) h)

pub refuse-done : (p : Params) (m : Raft) (from term last last_term : ℕ) (e : Effects Message) → from < p.setup.n → grants (held m) from term last last_term ≡ false → OnlySends (to from (Vote m.term false) ∷ []) e →
    Does p m.me (IsLow (held m)) (held m) m (on_ask (held m) from term last last_term) None e
refuse-done p m from term last last_term e below test h =
    goes_not p (IsLow (held m)) m.me (held m) m (grants (held m) from term last last_term) (answer (record (held m) { vote = Some from }) from (Vote m.term true)) (answer (held m) from (Vote m.term false)) None e test
    (does-only p (IsLow (held m)) m m (answer (held m) from (Vote m.term false)) e refl (λ _. refl) refl (to from (Vote m.term false) ∷ []) (below, tt) (λ _. refl) h)

-- a reply that is used
pub reply-done : (p : Params) (m new : Raft) (from term index : ℕ) (ok : Bool) (e : Effects Message) → ((is_leader (held m).role && (term == m.term)) && not (from == m.me.0)) ≡ true →
    Does p m.me (IsLow (held m)) (held m) new (if ok then on_ok p m.me.0 (held m) from index else on_not_ok (held m) from index) None e → Does p m.me (IsLow (held m)) (held m) new (on_reply p m.me.0 (held m) from term ok index) None e
reply-done p m new from term index ok e test d =
    goes p (IsLow (held m)) m.me (held m) new ((is_leader (held m).role && (term == m.term)) && not (from == m.me.0)) (if ok then on_ok p m.me.0 (held m) from index else on_not_ok (held m) from index) (quiet (held m)) None e test d

-- the log with a cast
pub cast-state : (m : Raft) (log : LogState) (copy batch : Batch) → log ≡ record m.log { entries = m.log.entries ++ entry m.term (Holds copy) ∷ [] } → copy ≡ batch →
    held (record m { log = log }) ≡ with_cast (held m) batch
cast-state m log copy batch e same =
    let entries : log.entries ≡ m.log.entries ++ entry m.term (Holds batch) ∷ [] = ap (λ (z : LogState). z.entries) e ∙ ap (λ (z : Batch). m.log.entries ++ entry m.term (Holds z) ∷ []) same in
    let commit : log.commit ≡ m.log.commit = ap (λ (z : LogState). z.commit) e in
    λ i. record (held m) { log = entries i; commit = commit i }
