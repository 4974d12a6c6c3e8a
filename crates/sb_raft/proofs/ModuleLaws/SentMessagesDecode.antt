-- If all that a node received was decoded, its terms, indices and counts fit the messages' fields, and its entries can
-- be decoded. So can all that it sends.
use Rattle.std.proofs.Common.{◌≡◌, ℕ, zero, suc, ◌+◌, ◌-◌, ◌^◌, ◌<◌, ◌≤◌, ◌==◌, Bool, true, false, cond, List, [], ◌∷◌, ◌++◌, length, take, drop, refl, sym, subst, ap, ◌∙◌, inl, inr, ◌⊎◌, arith}
use Rattle.std.specs.Prelude.{nat_lt}
use Rattle.std.proofs.lemmas.List.{length-append, length-take}
use Rattle.iss_base.specs.Lists.{In}
use Rattle.iss_base.proofs.Lists.{in_append, in_left, in_right}
use Rattle.iss_request.specs.declared.ids.NodeId.{NodeId}
use Rattle.iss_sb.specs.declared.effects.Input.{Input}
use Rattle.iss_sb.specs.declared.effects.Input.TheVariants.{Cast, Receive, Timeout}
use Rattle.iss_sb.specs.declared.effects.Params.{Params}
use Rattle.iss_sb.specs.declared.effects.To.{To}
use Rattle.iss_sb.specs.declared.effects.To.TheVariants.{All as To_all, One as To_one}
use Rattle.iss_sb.specs.Calls.{IsGoodParams}
use Rattle.iss_sb.specs.Evidence.{Item, IsReadMessage}
use Rattle.iss_sb.specs.Laws.{AreHeard, IsHeard}
use Rattle.iss_sb.proofs.Cases.{by-both}
use Rattle.raft_wire.specs.declared.entries.Entry.{Entry}
use Rattle.iss_sb.specs.declared.content.Content.TheVariants.{Holds}
use Rattle.raft_wire.specs.declared.messages.Message.{Message}
use Rattle.raft_wire.specs.declared.messages.Message.TheVariants.{Append, Reply, AskVote, Vote}
use Rattle.raft_wire.specs.Messages.{IsSpelledAppend, spell}
use Rattle.raft_wire.proofs.Readable.{HasBytes, HaveBytes, batch-has, entries-have, have-entries, mark-has, nil-has, read-spelled, spelled-read}
use Rattle.sb_raft.specs.Logs.{entry, filled, last_term, merge, merged, nils}
use Rattle.sb_raft.specs.Raft.{raft, state}
use Rattle.sb_raft.specs.Rules.{State, candidate, filling, is_candidate, raised, step}
use Rattle.sb_raft.proofs.StateChanges.NextIndexIsInLog.{bounded}
use Rattle.sb_raft.proofs.StateChanges.CommittedEntriesStay.{merge-longer, room, room-next}
use Rattle.sb_raft.proofs.StateChanges.TermVoteRoleLog.{fits_parts}
use Rattle.sb_raft.proofs.ModuleLaws.LogLengthIsBounded.{Few, few, no-more}
use Rattle.sb_raft.proofs.Safety.Invariant.{May, node}
use Rattle.sb_raft.proofs.Safety.MessagesHaveCauses.{AllSent, IsOne, sends-may}
use Rattle.sb_raft.proofs.StateChanges.StepCases.{append_cases, ask_cases, cast_cases, raise, reply_cases, time_cases, up, vote_cases, Raise, level, higher, Handled, none, down, copy, reply, back, grant, voted, win, casts, times, alone, next, with_granted}

-- ---- Logs

pub take-in : (n : ℕ) (x : Entry) (xs : List Entry) → In x (take n xs) → In x xs
take-in zero x xs h = absurd h
take-in (suc n) x [] h = absurd h
take-in (suc n) x (y ∷ xs) (inl e) = inl e
take-in (suc n) x (y ∷ xs) (inr h) = inr (take-in n x xs h)

drop-in : (n : ℕ) (x : Entry) (xs : List Entry) → In x (drop n xs) → In x xs
drop-in zero x xs h = h
drop-in (suc n) x [] h = absurd h
drop-in (suc n) x (y ∷ xs) h = inr (drop-in n x xs h)

merge-in : (x : Entry) (xs es : List Entry) → In x (merge xs es) → In x xs ⊎ In x es
merge-in x xs [] h = inl h
merge-in x [] (e ∷ es) h = inr h
merge-in x (y ∷ xs) (e ∷ es) h = go (y.term == e.term) (merge-in x xs es) h
  where
    go : (b : Bool) → (In x (merge xs es) → In x xs ⊎ In x es) → In x (cond b (y ∷ merge xs es) (e ∷ es)) → In x (y ∷ xs) ⊎ In x (e ∷ es)
    go true r (inl q) = inl (inl q)
    go true r (inr k) = elim (r k) [ inl q ↦ inl (inr q) | inr q ↦ inr (inr q) ]
    go false r k = inr k

merged-in : (x : Entry) (log : List Entry) (previous : ℕ) (es : List Entry) → In x (merged log previous es) → In x log ⊎ In x es
merged-in x log previous es h = elim (in_append x (take previous log) (merge (drop previous log) es) h) [
  | inl k ↦ inl (take-in previous x log k)
  | inr k ↦ elim (merge-in x (drop previous log) es k) [ inl q ↦ inl (drop-in previous x log q) | inr q ↦ inr q ]
]

-- the last term of a log is one of its terms, or 0
last-low : (bound : ℕ) (log : List Entry) → 0 < bound → ((e : Entry) → In e log → e.term < bound) → last_term log < bound
last-low bound [] some h = some
last-low bound (e ∷ []) some h = h e (inl refl)
last-low bound (e ∷ (d ∷ log)) some h = last-low bound (d ∷ log) some (λ x i. h x (inr i))

-- ---- States within the bounds

module _ (p : Params) where
  abbrev version : ℕ
  version = p.setup.version

  pub record Ranged (s : State) : Type 0 where
    pub term : s.term < 2 ^ 16
    pub entries : HaveBytes version s.log

  -- a log has less than 2^32 entries
  pub short : (s : State) → Few s → Ranged s → length s.log < 2 ^ 32
  short s f r =
      let m = no-more (is_candidate s.role) (length s.log) (65600 + s.term + filled s.log) f.marks in
      let t = r.term in
      let g = f.full in
      omega (arith, m, t, g)

  ranged-start : (me : ℕ) → Ranged (state p me [])
  ranged-start me = record { term = omega arith; entries = λ e i. absurd i }

  -- the same log
  keeps : (s v : State) → Ranged s → v.term < 2 ^ 16 → v.log ≡ s.log → Ranged v
  keeps s v r low log = record { term = low; entries = subst (λ (x : List Entry). HaveBytes version x) (sym log) r.entries }

  -- the same log and term
  same-ranged : (s v : State) → Ranged s → v.term ≡ s.term → v.log ≡ s.log → Ranged v
  same-ranged s v r term log = let t = r.term in keeps s v r (omega (arith, t, term)) log

  raised-low : (s : State) (t : ℕ) → t < 2 ^ 16 → s.term < 2 ^ 16 → (raised s t).term < 2 ^ 16
  raised-low s t a b = by-both (λ (z : State). z.term < 2 ^ 16) (nat_lt s.term t) (up s t) s (λ h. a) (λ h. b)

  raised-ranged : (s : State) (t : ℕ) → t < 2 ^ 16 → Ranged s → Ranged (raised s t)
  raised-ranged s t low r = go (raise s t)
    where
      go : Raise s (raised s t) → Ranged (raised s t)
      go (level e) = subst (λ (z : State). Ranged z) (sym e) r
      go (higher u l e) = keeps s (raised s t) r (raised-low s t low r.term) (ap (λ (z : State). z.log) e)

  -- the log with a mark and the missing nils
  fills : (s v : State) → v.term < 2 ^ 16 → HaveBytes version s.log → v.log ≡ s.log ++ filling p s → s.term ≡ v.term → Ranged v
  fills s v low entries log term =
      let k = length p.slots - filled s.log in
      let below : s.term < 2 ^ 16 = omega (arith, term, low) in
      record {
        term = low;
        entries = subst (λ (x : List Entry). HaveBytes version x) (sym log) (λ e i. elim (in_append e s.log (filling p s) i) [
          | inl h ↦ entries e h
          | inr (inl q) ↦ subst (λ (z : Entry). HasBytes version z) (sym q) (mark-has version s.term below)
          | inr (inr h) ↦ of-nils s.term k e below h
        ]);
      }
    where
      of-nils : (t k : ℕ) (e : Entry) → t < 2 ^ 16 → In e (nils t k) → HasBytes version e
      of-nils t zero e low h = absurd h
      of-nils t (suc k) e low (inl q) = subst (λ (z : Entry). HasBytes version z) (sym q) (nil-has version t low)
      of-nils t (suc k) e low (inr h) = of-nils t k e low h

  -- what a received Append holds
  append-heard : (j : NodeId) (t prev pt c : ℕ) (es : List Entry) → IsHeard raft p (Receive j (Append t prev pt c es)) → IsSpelledAppend version t prev pt c es (spell version (Append t prev pt c es))
  append-heard j t prev pt c es h = read-spelled version (Append t prev pt c es) h.1

  module _ (good : IsGoodParams raft p) (me : ℕ) where
    ranged-level : (u : State) (i : Input Message) (v : State) → IsHeard raft p i → Ranged u → Handled p me u i v → Ranged v
    ranged-level u i v h r (none e) = subst (λ (z : State). Ranged z) (sym e) r
    ranged-level u i v h r (down e) = same-ranged u v r (ap (λ (z : State). z.term) e) (ap (λ (z : State). z.log) e)
    ranged-level u i v h r (copy j prev pt c es ei f fm e) =
        let heard = append-heard j u.term prev pt c es (subst (λ (z : Input Message). IsHeard raft p z) ei h) in
        let t : v.term ≡ u.term = ap (λ (z : State). z.term) e in
        let low = r.term in
        record {
          term = omega (arith, t, low);
          entries = subst (λ (x : List Entry). HaveBytes version x) (sym (ap (λ (z : State). z.log) e)) (λ x k. elim (merged-in x u.log prev es k) [
            | inl q ↦ r.entries x q
            | inr q ↦ entries-have version es heard.entries heard.spelled x q
          ]);
        }
    ranged-level u i v h r (reply j x ei ru ne lx e) = same-ranged u v r (ap (λ (z : State). z.term) e) (ap (λ (z : State). z.log) e)
    ranged-level u i v h r (back j x ei ru nx lx e) = same-ranged u v r (ap (λ (z : State). z.term) e) (ap (λ (z : State). z.log) e)
    ranged-level u i v h r (grant j last lt ei g e) = same-ranged u v r (ap (λ (z : State). z.term) e) (ap (λ (z : State). z.log) e)
    ranged-level u i v h r (voted j ei ru e) = same-ranged u v r (ap (λ (z : State). z.term) e) (ap (λ (z : State). z.log) e)
    ranged-level u i v h r (win j ei ru n e) =
        let t : v.term ≡ u.term = ap (λ (z : State). z.term) e in
        let low = r.term in
        fills (with_granted u j.0) v (omega (arith, t, low)) r.entries (ap (λ (z : State). z.log) e) (sym t)
    ranged-level u i v h r (casts s b ei mc e) =
        let one = entry u.term (Holds b) in
        let t : v.term ≡ u.term = ap (λ (z : State). z.term) e in
        let low = r.term in
        record {
          term = omega (arith, t, low);
          entries = subst (λ (x : List Entry). HaveBytes version x) (sym (ap (λ (z : State). z.log) e)) (λ x k. elim (in_append x u.log (one ∷ []) k) [
            | inl q ↦ r.entries x q
            | inr (inl q) ↦ subst (λ (z : Entry). HasBytes version z) (sym q) (batch-has version u.term b r.term (subst (λ (z : Input Message). IsHeard raft p z) ei h))
            | inr (inr q) ↦ absurd q
          ]);
        }
    ranged-level u i v h r (times ei ru e) =
        let t : v.term ≡ u.term + 1 = ap (λ (z : State). z.term) e in
        let low = ei.1 in
        keeps u v r (omega (arith, t, low)) (ap (λ (z : State). z.log) e)
    ranged-level u i v h r (alone ei ru n e) =
        let t : v.term ≡ u.term + 1 = ap (λ (z : State). z.term) e in
        let low = ei.1 in
        fills (candidate me u) v (omega (arith, t, low)) r.entries (ap (λ (z : State). z.log) e) (sym t)

    ranged-next : (s : State) (i : Input Message) → IsHeard raft p i → Ranged s → Ranged (next p me s i)
    ranged-next s (Cast slot b) h r = ranged-level s (Cast slot b) _ h r (cast_cases p me s slot b)
    ranged-next s (Receive j (Append t prev pt c es)) h r =
        ranged-level (raised s t) (Receive j (Append t prev pt c es)) _ h (raised-ranged s t (append-heard j t prev pt c es h).term_fits r) (append_cases p me (raised s t) j t prev pt c es)
    ranged-next s (Receive j (Reply t ok x)) h r =
        ranged-level (raised s t) (Receive j (Reply t ok x)) _ h (raised-ranged s t (read-spelled version (Reply t ok x) h.1).0 r) (reply_cases p me (raised s t) j t ok x)
    ranged-next s (Receive j (AskVote t last lt)) h r =
        ranged-level (raised s t) (Receive j (AskVote t last lt)) _ h (raised-ranged s t (read-spelled version (AskVote t last lt) h.1).0 r) (ask_cases p me (raised s t) j t last lt)
    ranged-next s (Receive j (Vote t g)) h r =
        ranged-level (raised s t) (Receive j (Vote t g)) _ h (raised-ranged s t (read-spelled version (Vote t g) h.1).0 r) (vote_cases p me (raised s t) j t g)
    ranged-next s Timeout h r = ranged-level s Timeout _ h r (time_cases p me s)

    pub ranged : (xs : List (Item Message)) → AreHeard raft p me xs → Ranged (state p me xs)
    ranged [] h = ranged-start me
    ranged (x ∷ xs) h = ranged-next (state p me xs) x.input h.0 (ranged xs h.2)

    -- ---- Sent messages

    entries-low : (log : List Entry) → HaveBytes version log → (e : Entry) → In e log → e.term < 2 ^ 16
    entries-low log h e i = (h e i).spelled.term

    may-read : (s : State) (i : Input Message) (v : State) → Few v → Ranged v → v.commit ≤ length v.log → IsHeard raft p i → (k : ℕ) (msg : Message) → May s i v k msg → IsReadMessage raft p msg
    may-read s i v f r room h k (Append t prev pt c es) m =
        let front = m.3.0 in
        let log : v.log ≡ front ++ es = m.3.1 in
        let long = short v f r in
        let l : length v.log ≡ length front + length es = ap (λ (x : List Entry). length x) log ∙ length-append front es in
        let here : (e : Entry) → In e (front ++ es) → HasBytes version e = λ e i. r.entries e (subst (λ (x : List Entry). In e x) (sym log) i) in
        let es-have = have-entries version es (λ e i. here e (in_right e front es i)) in
        let last = last-low (2 ^ 16) front (omega arith) (λ e i. (here e (in_left e front es i)).spelled.term) in
        let tv = m.1 in
        let low = r.term in
        let cv = m.2 in
        let pl = m.3.2 in
        let pe = m.3.3 in
        spelled-read version (Append t prev pt c es) _ (record {
          term_fits = omega (arith, tv, low);
          previous_fits = omega (arith, pl, l, long);
          previous_term_fits = omega (arith, last, pe);
          commit_fits = omega (arith, cv, room, long);
          count_fits = omega (arith, l, long);
          entries = es-have.0;
          spelled = es-have.1;
          row = refl;
        })
    may-read s i v f r room h k (Reply t false x) m =
        let heard = append-heard (node k) m.0 x m.1 m.2 m.3 (subst (λ (z : Input Message). IsHeard raft p z) m.4 h) in
        let tv = m.5 in
        let low = r.term in
        spelled-read version (Reply t false x) _ (omega (arith, tv, low), heard.previous_fits, refl)
    may-read s i v f r room h k (Reply t true x) m =
        let heard = append-heard (node k) t m.0 m.1 m.2 m.3 (subst (λ (z : Input Message). IsHeard raft p z) m.4 h) in
        let a = fits_parts (raised s t) m.0 m.1 m.3 m.6 m.7 in
        let ml = merge-longer (drop m.0 (raised s t).log) m.3 in
        let tl = length-take m.0 (raised s t).log in
        let l = length-append (take m.0 (raised s t).log) (merge (drop m.0 (raised s t).log) m.3) in
        let w = a.within in
        let sh = a.short in
        let x-is = m.8 in
        spelled-read version (Reply t true x) _ (heard.term_fits, omega (arith, ml, tl, l, w, sh, x-is), refl)
    may-read s i v f r room h k (AskVote t last lt) m =
        let long = short v f r in
        let low = r.term in
        let tv = m.1 in
        let lv = m.2 in
        let le = m.3 in
        let ll = last-low (2 ^ 16) v.log (omega arith) (entries-low v.log r.entries) in
        spelled-read version (AskVote t last lt) _ (omega (arith, tv, low), omega (arith, lv, long), omega (arith, le, ll), refl)
    may-read s i v f r room h k (Vote t false) m = let low = r.term in spelled-read version (Vote t false) _ (omega (arith, m, low), refl)
    may-read s i v f r room h k (Vote t true) m =
        let heard = read-spelled version (AskVote t m.0 m.1) (subst (λ (z : Input Message). IsHeard raft p z) m.2 h).1 in
        spelled-read version (Vote t true) _ (heard.0, refl)

    one-node : (to : To) (P : ℕ → Message → Type 0) (msg : Message) → IsOne P to msg → (k : ℕ) × P k msg
    one-node To_all P msg h = absurd h
    one-node (To_one k) P msg h = (k.0, h)

    sent-one : (P : ℕ → Message → Type 0) (sends : List (To × Message)) (to : To) (msg : Message) → AllSent P sends → In {A = To × Message} (to, msg) sends → (k : ℕ) × P k msg
    sent-one P [] to msg h i = absurd i
    sent-one P (x ∷ sends) to msg h (inl e) = one-node to P msg (subst (λ (z : To × Message). IsOne P z.0 z.1) (sym e) h.0)
    sent-one P (x ∷ sends) to msg h (inr i) = sent-one P sends to msg h.1 i

    -- all that a node sends can be decoded
    pub sends-read : (xs : List (Item Message)) (i : Input Message) → AreHeard raft p me xs → IsHeard raft p i → (to : To) (msg : Message) → In {A = To × Message} (to, msg) (step p me (state p me xs) i).sends → IsReadMessage raft p msg
    sends-read xs i heard hi to msg h =
        let s = state p me xs in
        let may = sends-may p me good.nodes good.majority s i (bounded p me xs) in
        let one = sent-one (May s i (next p me s i)) (step p me s i).sends to msg may h in
        let r = ranged-next s i hi (ranged xs heard) in
        may-read s i (next p me s i) (few p good me (record { input = i; leaf = 0; made = raft.makes p me xs i 0 } ∷ xs)) r (room-next p me s i (room p me xs)) hi one.0 msg one.1
