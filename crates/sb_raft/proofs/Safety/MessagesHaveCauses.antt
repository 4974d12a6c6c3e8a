-- A node may send what it sends.
use Rattle.std.proofs.Common.{◌≡◌, ℕ, zero, suc, ◌+◌, ◌-◌, ◌*◌, ◌≤◌, ◌==◌, ◌&&◌, not, Bool, true, false, cond, if◌then◌else◌, List, [], ◌∷◌, ◌++◌, length, take, refl, sym, subst, ap, ◌∙◌, inl, inr, Some, arith}
use Rattle.std.specs.Prelude.{nat_lt, nat_le}
use Rattle.std.proofs.lemmas.Bool.{eqb-true, leb-true, and_parts}
use Rattle.std.proofs.lemmas.List.{take-append-drop}
use Rattle.iss_base.specs.Lists.{In, set_at}
use Rattle.iss_request.specs.declared.ids.NodeId.{NodeId}
use Rattle.iss_request.specs.declared.requests.Batch.{Batch}
use Rattle.iss_sb.specs.declared.effects.Input.{Input}
use Rattle.iss_sb.specs.declared.effects.Input.TheVariants.{Cast, Receive, Timeout}
use Rattle.iss_sb.specs.declared.effects.Params.{Params}
use Rattle.iss_sb.specs.declared.effects.To.{To}
use Rattle.iss_sb.specs.declared.effects.To.TheVariants.{All as To_all, One as To_one}
use Rattle.iss_sb.specs.Evidence.{Reaches}
use Rattle.iss_sb.proofs.Cases.{by-both}
use Rattle.raft_wire.specs.declared.entries.Entry.{Entry}
use Rattle.iss_sb.specs.declared.content.Content.TheVariants.{Holds}
use Rattle.raft_wire.specs.declared.messages.Message.{Message}
use Rattle.raft_wire.specs.declared.messages.Message.TheVariants.{Append, Reply, AskVote, Vote}
use Rattle.sb_raft.specs.Rules.{Follower, Leader, State, Step, advanced, answer, append_behind, append_to, appended, appends, ask_vote, candidate, counted, grants, is_candidate, is_leader, last_timed_term, may_cast, may_commit, may_merge, on_append, on_ask, on_cast, on_not_ok, on_ok, on_reply, on_timeout, on_vote, others, quiet, raised, risen, spread, stands_up, step, taken, to_each, won}
use Rattle.iss_base.specs.Quorum.{count_below}
use Rattle.sb_raft.specs.Logs.{entry, fits_behind}
use Rattle.sb_raft.proofs.StateChanges.StepCases.{leader_is, greatest-above, reach, with_cast, with_granted, with_match}
use Rattle.sb_raft.proofs.StateChanges.TermVoteRoleLog.{cast-parts}
use Rattle.sb_raft.proofs.StateChanges.NextIndexIsInLog.{Bound, Bounds, cast-bounds, match-bounds, raised-bound, won-bounds}
use Rattle.sb_raft.proofs.Safety.CommittedLogsAgree.{take_long}
use Rattle.sb_raft.proofs.Safety.Invariant.{May}

abbrev pub IsOne : (ℕ → Message → Type 0) → To → Message → Type 0
IsOne P To_all m = ⊥
IsOne P (To_one k) m = P k.0 m

abbrev pub AllSent : (ℕ → Message → Type 0) → List (To × Message) → Type 0
AllSent P [] = Unit {0}
AllSent P (x ∷ xs) = IsOne P x.0 x.1 × AllSent P xs

reached : (P : ℕ → Message → Type 0) (to : To) (i : ℕ) (m : Message) → Reaches to i → IsOne P to m → P i m
reached P To_all i m r h = absurd h
reached P (To_one k) i m r h = subst (λ (z : ℕ). P z m) r h

pub sent-In : (P : ℕ → Message → Type 0) (xs : List (To × Message)) (to : To) (i : ℕ) (m : Message) → AllSent P xs → Reaches to i → In {A = To × Message} (to, m) xs → P i m
sent-In P [] to i m h r k = absurd k
sent-In P (x ∷ xs) to i m h r (inl e) = reached P to i m r (subst (λ (z : To × Message). IsOne P z.0 z.1) (sym e) h.0)
sent-In P (x ∷ xs) to i m h r (inr k) = sent-In P xs to i m h.1 r k

sent-append : (P : ℕ → Message → Type 0) (a b : List (To × Message)) → AllSent P a → AllSent P b → AllSent P (a ++ b)
sent-append P [] b h k = k
sent-append P (x ∷ a) b h k = (h.0, sent-append P a b h.1 k)

sent-each : (P : ℕ → Message → Type 0) (msg : ℕ → Message) (ks : List ℕ) → ((k : ℕ) → P k (msg k)) → AllSent P (to_each msg ks)
sent-each P msg [] h = tt
sent-each P msg (k ∷ ks) h = (h k, sent-each P msg ks h)

-- ---- A single node

none-below : (me n : ℕ) → n ≤ me → count_below (λ k. k == me) n ≡ 0
none-below me zero h = refl
none-below me (suc n) h = go (n == me) refl (none-below me n (omega arith))
  where
    go : (b : Bool) → (n == me) ≡ b → count_below (λ k. k == me) n ≡ 0 → cond b 1 0 + count_below (λ k. k == me) n ≡ 0
    go true e r = let q = eqb-true n me e in absurd (omega arith)
    go false e r = omega (arith, r)

one-below : (me n : ℕ) → count_below (λ k. k == me) n ≤ 1
one-below me zero = omega arith
one-below me (suc n) = go (n == me) refl (one-below me n)
  where
    go : (b : Bool) → (n == me) ≡ b → count_below (λ k. k == me) n ≤ 1 → cond b 1 0 + count_below (λ k. k == me) n ≤ 1
    go true e r = let q = eqb-true n me e in let z = none-below me n (omega arith) in omega arith
    go false e r = omega (arith, r)

alone-others : (me n : ℕ) → n ≡ 1 → 1 ≤ count_below (λ k. k == me) n → others me n ≡ []
alone-others me n e h = subst (λ (z : ℕ). others me z ≡ []) (sym e) (go (0 == me) (subst (λ (z : ℕ). 1 ≤ count_below (λ k. k == me) z) e h))
  where
    go : (b : Bool) → 1 ≤ cond b 1 0 + 0 → cond {A = List ℕ} b [] (0 ∷ []) ≡ []
    go true k = refl
    go false k = absurd (omega arith)

module _ (p : Params) (me : ℕ) (nodes : p.setup.n ≡ 2 * p.setup.f + 1) (quorum : p.setup.quorum ≡ p.setup.f + 1) (s : State) (i : Input Message) where
  abbrev Fine : Step → Type 0
  Fine z = AllSent (May s i z.state) z.sends

  -- an Append of a state whose commit index is at most the final one
  append-may : (u v : State) (k prev : ℕ) → v.role ≡ Leader → v.term ≡ u.term → v.log ≡ u.log → u.commit ≤ v.commit → prev ≤ length u.log → May s i v k (append_behind u prev)
  append-may u v k prev r t l c h = (r, sym t, c, (take prev u.log, l ∙ sym (take-append-drop prev u.log), take_long prev u.log h, refl))

  appends-may : (u v : State) → v.role ≡ Leader → v.term ≡ u.term → v.log ≡ u.log → u.commit ≤ v.commit → Bounds u → AllSent (May s i v) (appends p me u)
  appends-may u v r t l c b = sent-each (May s i v) (append_to u) (others me p.setup.n) (λ k. append-may u v k (u.next k - 1) r t l c (b.next k))

  -- committing after messages that are allowed whatever the final commit index
  advance-may : (made : Step) → made.state.role ≡ Leader → Bounds made.state → ((c : ℕ) → made.state.commit ≤ c → AllSent (May s i (record made.state { commit = c })) made.sends) → Fine (advanced p me made)
  advance-may made r b h =
      let g = reach p me made.state in
      let later = record made.state { commit = g } in
      let up = greatest-above (may_commit p me made.state) made.state.commit (length made.state.log) in
      by-both (λ (z : Step). Fine z) (nat_lt made.state.commit g) (risen p me later made.sends) made
      (λ q. sent-append (May s i later) made.sends (appends p me later) (h g up) (appends-may later later r refl refl (omega arith) (record { matched = b.matched; next = b.next })))
      (λ q. h made.state.commit (omega arith))

  spread-may : (u : State) → u.role ≡ Leader → Bounds u → Fine (spread p me u)
  spread-may u r b = advance-may (record { state = u; sends = appends p me u }) r b (λ c h. appends-may u (record u { commit = c }) r refl refl h b)

  -- votes are counted: nothing was sent before, or the final role is not leader
  counted-may : (u : State) (sends : List (To × Message)) → (p.setup.quorum ≤ count_below u.granted p.setup.n → sends ≡ []) → AllSent (May s i u) sends → Fine (counted p me u sends)
  counted-may u sends none h =
      let v = won p u in
      let b = won-bounds p u in
      by-both (λ (z : Step). Fine z) (nat_le p.setup.quorum (count_below u.granted p.setup.n)) (advanced p me (record { state = v; sends = sends ++ appends p me v })) (record { state = u; sends = sends })
      (λ q. advance-may (record { state = v; sends = sends ++ appends p me v }) refl b (λ c k.
      sent-append (May s i (record v { commit = c })) sends (appends p me v)
      (subst (λ (z : List (To × Message)). AllSent (May s i (record v { commit = c })) z) (sym (none (leb-true p.setup.quorum (count_below u.granted p.setup.n) q))) tt)
      (appends-may v (record v { commit = c }) refl refl refl k b)))
      (λ q. h)

  cast-may : (u : State) (slot : ℕ) (batch : Batch) → Bound u → Fine (on_cast p me u slot batch)
  cast-may u slot batch b =
      by-both (λ (z : Step). Fine z) (may_cast p u slot) (spread p me (with_cast u batch)) (quiet u)
      (λ h. let r = (cast-parts p u slot h).leads in spread-may (with_cast u batch) r (cast-bounds u (entry u.term (Holds batch)) (b r)))
      (λ h. tt)

  timeout-may : (u : State) → Bound u → Fine (on_timeout p me u)
  timeout-may u b =
      let v = candidate me u in
      by-both (λ (z : Step). Fine z) (is_leader u.role) (record { state = u; sends = appends p me u }) (if nat_lt u.term last_timed_term then stands_up p me v else quiet u)
      (λ h. let r = leader_is u.role h in appends-may u u r refl refl (omega arith) (b r))
      (λ h. by-both (λ (z : Step). Fine z) (nat_lt u.term last_timed_term) (stands_up p me v) (quiet u)
      (λ k. counted-may v (to_each (ask_vote v) (others me p.setup.n))
      (λ q. ap (λ (ks : List ℕ). to_each (ask_vote v) ks) (let o = one-below me p.setup.n in alone-others me p.setup.n (omega arith) (omega arith)))
      (sent-each (May s i v) (ask_vote v) (others me p.setup.n) (λ k. (refl, refl, refl, refl))))
      (λ k. tt))

  reply-may : (u : State) (j t : ℕ) (ok : Bool) (x : ℕ) → Bound u → Fine (on_reply p me u j t ok x)
  reply-may u j t ok x b =
      by-both (λ (z : Step). Fine z) ((is_leader u.role && (t == u.term)) && not (j == me)) (if ok then on_ok p me u j x else on_not_ok u j x) (quiet u)
      (λ h.
      let a = and_parts (is_leader u.role && (t == u.term)) (not (j == me)) h in
      let d = and_parts (is_leader u.role) (t == u.term) a.0 in
      go ok (leader_is u.role d.0))
      (λ h. tt)
    where
      go : (ok : Bool) → u.role ≡ Leader → Fine (if ok then on_ok p me u j x else on_not_ok u j x)
      go true r = by-both (λ (z : Step). Fine z) (nat_le x (length u.log)) (advanced p me (quiet (with_match u j x))) (quiet u)
          (λ h. advance-may (quiet (with_match u j x)) r (match-bounds u j x (b r) (leb-true x (length u.log) h)) (λ c k. tt))
          (λ h. tt)
      go false r =
          let v = record u { next = set_at u.next j x } in
          by-both (λ (z : Step). Fine z) ((x == u.next j - 1) && nat_le 1 x) (answer v j (append_behind u (x - 1))) (quiet u)
          (λ h.
          let a = and_parts (x == u.next j - 1) (nat_le 1 x) h in
          let e = eqb-true x (u.next j - 1) a.0 in
          let o = (b r).next j in
          (append-may u v j (x - 1) r refl refl (omega arith) (omega (arith, e, o)), tt))
          (λ h. tt)

  vote-may : (u : State) (j t : ℕ) (g : Bool) → Fine (on_vote p me u j t g)
  vote-may u j t g =
      by-both (λ (z : Step). Fine z) ((is_candidate u.role && g) && (t == u.term)) (counted p me (with_granted u j) []) (quiet u)
      (λ h. counted-may (with_granted u j) [] (λ q. refl) tt)
      (λ h. tt)

abbrev IsFine : State → Input Message → Step → Type 0
IsFine s i z = AllSent (May s i z.state) z.sends

ask-may : (s : State) (j : NodeId) (t last lt : ℕ) → IsFine s (Receive j (AskVote t last lt)) (on_ask (raised s t) j.0 t last lt)
ask-may s j t last lt =
    let u = raised s t in
    let i : Input Message = Receive j (AskVote t last lt) in
    by-both (λ (z : Step). IsFine s i z) (grants u j.0 t last lt) (answer (record u { vote = Some j.0 }) j.0 (Vote u.term true)) (answer u j.0 (Vote u.term false))
    (λ h.
    let a = and_parts (t == u.term) _ h in
    let e = eqb-true t u.term a.0 in
    (subst (λ (z : ℕ). May s i (record u { vote = Some j.0 }) j.0 (Vote z true)) e (last, lt, refl, h), tt))
    (λ h. (refl, tt))

append-fine : (s : State) (j : NodeId) (t prev pt c : ℕ) (es : List Entry) → IsFine s (Receive j (Append t prev pt c es)) (on_append (raised s t) j.0 t prev pt c es)
append-fine s j t prev pt c es =
    let u = raised s t in
    let f = record u { role = Follower } in
    let i : Input Message = Receive j (Append t prev pt c es) in
    by-both (λ (z : Step). IsFine s i z) (t == u.term) (taken f j.0 prev pt c es) (answer u j.0 (Reply u.term false prev))
    (λ h.
    let e = eqb-true t u.term h in
    by-both (λ (z : Step). IsFine s i z) (fits_behind u.log prev pt) (if may_merge f prev es then answer (appended f prev c es) j.0 (Reply f.term true (prev + length es)) else quiet f) (answer f j.0 (Reply f.term false prev))
    (λ g. by-both (λ (z : Step). IsFine s i z) (may_merge u prev es) (answer (appended f prev c es) j.0 (Reply f.term true (prev + length es))) (quiet f)
    (λ k. (subst (λ (z : ℕ). May s i (appended f prev c es) j.0 (Reply z true (prev + length es))) e (prev, pt, c, es, refl, e, g, k, refl), tt))
    (λ k. tt))
    (λ g. ((t, pt, c, es, refl, refl), tt)))
    (λ h. ((t, pt, c, es, refl, refl), tt))

-- ---- All nodes

pub sends-may : (p : Params) (me : ℕ) → p.setup.n ≡ 2 * p.setup.f + 1 → p.setup.quorum ≡ p.setup.f + 1 → (s : State) (i : Input Message) → Bound s → IsFine s i (step p me s i)
sends-may p me nodes quorum s (Cast slot batch) b = cast-may p me nodes quorum s (Cast slot batch) s slot.0 batch b
sends-may p me nodes quorum s (Receive j (Append t prev pt c es)) b = append-fine s j t prev pt c es
sends-may p me nodes quorum s (Receive j (Reply t ok x)) b = reply-may p me nodes quorum s (Receive j (Reply t ok x)) (raised s t) j.0 t ok x (raised-bound s t b)
sends-may p me nodes quorum s (Receive j (AskVote t last lt)) b = ask-may s j t last lt
sends-may p me nodes quorum s (Receive j (Vote t g)) b = vote-may p me nodes quorum s (Receive j (Vote t g)) (raised s t) j.0 t g
sends-may p me nodes quorum s Timeout b = timeout-may p me nodes quorum s Timeout s b
