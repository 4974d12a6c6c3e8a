-- Raft meets the laws of single steps.
use Rattle.std.proofs.Common.{◌≡◌, ◌≤◌, ◌<◌, ◌+◌, ℕ, zero, suc, Bool, true, false, ◌==◌, ◌&&◌, cond, if◌then◌else◌, List, [], ◌∷◌, ◌++◌, length, Some, None, refl, sym, subst, inl, inr, arith}
use Rattle.std.specs.Prelude.{nat_lt}
use Rattle.std.proofs.lemmas.Bool.Decides.{Decides-eqb}
use Rattle.iss_base.specs.Lists.{In, nth, set_at}
use Rattle.iss_base.proofs.Lists.{and-true}
use Rattle.iss_request.specs.declared.ids.NodeId.{NodeId}
use Rattle.iss_request.specs.declared.ids.Slot.{Slot}
use Rattle.iss_request.specs.declared.requests.Batch.{Batch}
use Rattle.iss_request.specs.declared.requests.Value.{Value}
use Rattle.iss_sb.specs.declared.effects.Input.{Input}
use Rattle.iss_sb.specs.declared.effects.Input.TheVariants.{Cast, Receive, Timeout}
use Rattle.iss_sb.specs.declared.effects.Params.{Params}
use Rattle.iss_sb.specs.declared.effects.To.{To}
use Rattle.iss_sb.specs.declared.effects.To.TheVariants.{One as To_one}
use Rattle.iss_sb.specs.Calls.{AreToNodes, IsToNode, IsGoodInput, is_slot}
use Rattle.iss_sb.specs.Evidence.{Item}
use Rattle.iss_sb.specs.Laws.{IsLawful, SignsOnce}
use Rattle.iss_sb.proofs.Silent.{silent-once}
use Rattle.iss_sb.proofs.Slots.{place-In, slot-is}
use Rattle.raft_wire.specs.declared.entries.Entry.{Entry}
use Rattle.iss_sb.specs.declared.content.Content.TheVariants.{Holds}
use Rattle.raft_wire.specs.declared.messages.Message.{Message}
use Rattle.raft_wire.specs.declared.messages.Message.TheVariants.{Append, Reply, AskVote, Vote}
use Rattle.sb_raft.proofs.ModuleLaws.SentMessagesDecode.{sends-read}
use Rattle.iss_sb.specs.Paired.{value_with}
use Rattle.sb_raft.specs.Raft.{asks, raft, state}
use Rattle.sb_raft.specs.Rules.{Follower, State, Step, advanced, answer, append_to, append_behind, appended, appends, ask_vote, candidate, counted, greatest, is_leader, last_timed_term, matched_at, may_cast, may_commit, may_merge, on_append, on_ask, on_not_ok, on_ok, on_reply, on_timeout, on_vote, on_message, others, quiet, raised, risen, spread, stands_up, step, taken, to_each, with_commit, won}
use Rattle.sb_raft.specs.Logs.{entry, filled, fits_behind}

pub by_if : {A : Type 0} (P : A → Type 0) (t : Bool) (x y : A) → P x → P y → P (if t then x else y)
by_if P true x y h k = h
by_if P false x y h k = k

-- ---- Messages go to existing nodes

abbrev IsAddressed : ℕ → Step → Type 0
IsAddressed n made = AreToNodes n made.sends

abbrev AreBelow : ℕ → List ℕ → Type 0
AreBelow n [] = Unit {0}
AreBelow n (k ∷ ks) = (k < n) × AreBelow n ks

below-append : (n : ℕ) (a b : List ℕ) → AreBelow n a → AreBelow n b → AreBelow n (a ++ b)
below-append n [] b h k = k
below-append n (x ∷ a) b h k = (h.0, below-append n a b h.1 k)

others-below : (n me m : ℕ) → m ≤ n → AreBelow n (others me m)
others-below n me zero h = tt
others-below n me (suc m) h =
    below-append n (others me m) (cond (m == me) [] (m ∷ [])) (others-below n me m (omega (arith, h))) (by_if (λ z. AreBelow n z) (m == me) [] (m ∷ []) tt (omega (arith, h), tt))

each-nodes : (n : ℕ) (msg : ℕ → Message) (ks : List ℕ) → AreBelow n ks → AreToNodes n (to_each msg ks)
each-nodes n msg [] h = tt
each-nodes n msg (k ∷ ks) h = (h.0, each-nodes n msg ks h.1)

nodes-append : (n : ℕ) (a b : List (To × Message)) → AreToNodes n a → AreToNodes n b → AreToNodes n (a ++ b)
nodes-append n [] b h k = k
nodes-append n (x ∷ a) b h k = (h.0, nodes-append n a b h.1 k)

nodes-In : (n : ℕ) (sends : List (To × Message)) (k : NodeId) (msg : Message) → AreToNodes n sends → In {A = To × Message} (To_one k, msg) sends → k.0 < n
nodes-In n [] k msg h i = absurd i
nodes-In n (x ∷ sends) k msg h (inl e) = subst (λ (z : To × Message). IsToNode n z.0) (sym e) h.0
nodes-In n (x ∷ sends) k msg h (inr i) = nodes-In n sends k msg h.1 i

module _ (p : Params) (me : ℕ) where
  abbrev n : ℕ
  n = p.setup.n

  to-others : (msg : ℕ → Message) → AreToNodes n (to_each msg (others me n))
  to-others msg = each-nodes n msg (others me n) (others-below n me n (omega arith))

  with-commit : (made : Step) (i : ℕ) → IsAddressed n made → IsAddressed n (with_commit p me made i)
  with-commit made i h =
      let s = record made.state { commit = i } in
      by_if (λ (z : Step). IsAddressed n z) _ (risen p me s made.sends) made (nodes-append n made.sends (appends p me s) h (to-others (append_to s))) h

  advances : (made : Step) → IsAddressed n made → IsAddressed n (advanced p me made)
  advances made h = with-commit made (greatest (may_commit p me made.state) made.state.commit (length made.state.log)) h

  spreads : (s : State) → IsAddressed n (spread p me s)
  spreads s = advances (record { state = s; sends = appends p me s }) (to-others (append_to s))

  counts : (s : State) (sends : List (To × Message)) → AreToNodes n sends → IsAddressed n (counted p me s sends)
  counts s sends h =
      by_if (λ (z : Step). IsAddressed n z) _ _ (record { state = s; sends = sends })
      (advances (record { state = won p s; sends = sends ++ appends p me (won p s) }) (nodes-append n sends (appends p me (won p s)) h (to-others (append_to (won p s))))) h

  on-append : (s : State) (from term previous previous_term commit : ℕ) (es : List Entry) → from < n → IsAddressed n (on_append s from term previous previous_term commit es)
  on-append s from term previous previous_term commit es h =
      let f = record s { role = Follower } in
      by_if (λ (z : Step). IsAddressed n z) (term == s.term) (taken f from previous previous_term commit es) (answer s from (Reply s.term false previous))
      (by_if (λ (z : Step). IsAddressed n z) (fits_behind f.log previous previous_term) _ (answer f from (Reply f.term false previous))
      (by_if (λ (z : Step). IsAddressed n z) (may_merge f previous es) (answer (appended f previous commit es) from (Reply f.term true (previous + length es))) (quiet f) (h, tt) tt)
      (h, tt))
      (h, tt)

  on-reply : (s : State) (from term : ℕ) (ok : Bool) (i : ℕ) → from < n → IsAddressed n (on_reply p me s from term ok i)
  on-reply s from term ok i h =
      by_if (λ (z : Step). IsAddressed n z) _ _ (quiet s)
      (by_if (λ (z : Step). IsAddressed n z) ok (on_ok p me s from i) (on_not_ok s from i)
      (by_if (λ (z : Step). IsAddressed n z) _ _ (quiet s) (advances (quiet (matched_at s from _)) tt) tt)
      (by_if (λ (z : Step). IsAddressed n z) _ (answer (record s { next = set_at s.next from i }) from (append_behind s _)) (quiet s) (h, tt) tt))
      tt

  on-ask : (s : State) (from term last last_term : ℕ) → from < n → IsAddressed n (on_ask s from term last last_term)
  on-ask s from term last last_term h = by_if (λ (z : Step). IsAddressed n z) _ (answer _ from (Vote s.term true)) (answer s from (Vote s.term false)) (h, tt) (h, tt)

  on-vote : (s : State) (from term : ℕ) (granted : Bool) → IsAddressed n (on_vote p me s from term granted)
  on-vote s from term granted = by_if (λ (z : Step). IsAddressed n z) _ _ (quiet s) (counts (record s { granted = set_at s.granted from true }) [] tt) tt

  on-message : (s : State) (from : ℕ) (msg : Message) → from < n → IsAddressed n (on_message p me s from msg)
  on-message s from (Append term previous previous_term commit es) h = on-append (raised s term) from term previous previous_term commit es h
  on-message s from (Reply term ok i) h = on-reply (raised s term) from term ok i h
  on-message s from (AskVote term last last_term) h = on-ask (raised s term) from term last last_term h
  on-message s from (Vote term granted) h = on-vote (raised s term) from term granted

  on-timeout : (s : State) → IsAddressed n (on_timeout p me s)
  on-timeout s =
      by_if (λ (z : Step). IsAddressed n z) (is_leader s.role) (record { state = s; sends = appends p me s }) (if nat_lt s.term last_timed_term then stands_up p me (candidate me s) else quiet s) (to-others (append_to s))
      (by_if (λ (z : Step). IsAddressed n z) (nat_lt s.term last_timed_term) (stands_up p me (candidate me s)) (quiet s) (counts (candidate me s) _ (to-others (ask_vote (candidate me s)))) tt)

  on-input : (s : State) (input : Input Message) → IsGoodInput p input → IsAddressed n (step p me s input)
  on-input s (Cast slot batch) h =
      let later = record s { log = s.log ++ entry s.term (Holds batch) ∷ [] } in
      by_if (λ (z : Step). IsAddressed n z) (may_cast p s slot.0) (spread p me later) (quiet s) (spreads later) tt
  on-input s (Receive from msg) h = on-message s from.0 msg h
  on-input s Timeout h = on-timeout s

-- ---- Casts and slots

pub some-only : {A : Type 0} (t : Bool) (x y : A) → (if t then Some x else None) ≡ Some y → (t ≡ true) × (y ≡ x)
some-only true x y h = (refl, cc)
some-only false x y h = absurd cc

value-In : (s : Slot) (slots : List Slot) (vs : List Value) (x : Value) → value_with s.0 slots vs ≡ Some x → In s slots
value-In s [] vs x h = absurd cc
value-In s (t ∷ slots) [] x h = absurd cc
value-In s (t ∷ slots) (v ∷ vs) x h = go (t.0 == s.0) refl h (value-In s slots vs x)
  where
    go : (b : Bool) → (t.0 == s.0) ≡ b → (if b then Some v else value_with s.0 slots vs) ≡ Some x → (value_with s.0 slots vs ≡ Some x → In s slots) → In s (t ∷ slots)
    go true q k more = inl (slot-is s t (sym ((Decides-eqb t.0 s.0).0 q)))
    go false q k more = inr (more k)

pub cast-next : (p : Params) (s : State) (slot : ℕ) → may_cast p s slot ≡ true → is_slot slot (nth p.slots (filled s.log)) ≡ true
cast-next p s slot h = (and-true (is_leader s.role && (s.term == 1)) (is_slot slot (nth p.slots (filled s.log))) h).1

cast-within : (p : Params) (s : State) (slot : Slot) (batch : Batch) (x : Slot × Batch) → (if may_cast p s slot.0 then Some (slot, batch) else None) ≡ Some x → In x.0 p.slots
cast-within p s slot batch x h =
    let t = some-only (may_cast p s slot.0) (slot, batch) x h in
    subst (λ (z : Slot × Batch). In z.0 p.slots) (sym t.1) (place-In slot p.slots _ (cast-next p s slot.0 t.0))

-- only a cast offers a batch
asked : (p : Params) (me : ℕ) (xs : List (Item Message)) (x : Slot × Batch) (i : Input Message) → asks p me xs i ≡ Some x → In x.0 p.slots
asked p me xs x (Cast slot batch) h = cast-within p (state p me xs) slot batch x h
asked p me xs x (Receive from msg) h = absurd cc
asked p me xs x Timeout h = absurd cc

pub raft-lawful : IsLawful raft
raft-lawful = record {
  names = λ p from msg c h. absurd h;
  accepted = λ p me xs i leaf. refl;
  casts = λ p me xs s b x h. (some-only (may_cast p (state p me xs) s.0) (s, b) x h).1;
  castable = λ p me xs s b c h. rw (some-only (may_cast p (state p me xs) s.0) (s, b) (s, b) h).0 refl;
  asked_within = λ p me xs i x h. asked p me xs x i h;
  decided_within = λ p me xs s x h. value-In s p.slots _ x h;
  addressed = λ p me xs i leaf k msg good input h. nodes-In p.setup.n _ k msg (on-input p me (state p me xs) i input) h;
  read_again = λ p me xs i leaf to msg good below heard input h. sends-read p good me xs i heard input to msg h;
  few = λ p good. omega arith;
  uses = λ p me xs i leaf good input. omega arith;
}

pub raft-once : SignsOnce raft
raft-once = silent-once raft (λ p from msg c h. h) (λ p me xs i leaf. refl)
