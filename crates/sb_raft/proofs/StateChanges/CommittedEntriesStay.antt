-- Committed entries stay, so what is delivered is what is decided.
use Rattle.std.proofs.Common.{◌≡◌, ℕ, zero, suc, ◌≤◌, ◌==◌, Bool, true, false, cond, if◌then◌else◌, List, [], ◌∷◌, ◌++◌, length, take, drop, append_assoc, refl, sym, subst, ap, ◌∙◌, Some, None, arith}
use Rattle.iss_request.specs.declared.ids.Slot.{Slot}
use Rattle.iss_request.specs.declared.requests.Value.{Value}
use Rattle.iss_sb.specs.declared.effects.Input.{Input}
use Rattle.iss_sb.specs.declared.effects.Params.{Params}
use Rattle.iss_sb.specs.Evidence.{Item, delivered}
use Rattle.iss_sb.proofs.Delivered.{delivered-decided}
use Rattle.raft_wire.specs.declared.entries.Entry.{Entry}
use Rattle.raft_wire.specs.declared.messages.Message.{Message}
use Rattle.iss_sb.specs.Paired.{value_with}
use Rattle.sb_raft.specs.Raft.{decided, state, raft}
use Rattle.sb_raft.specs.Rules.{State}
use Rattle.sb_raft.specs.Logs.{content, contents, merge}
use Rattle.sb_raft.proofs.Safety.LogPrefixes.{Prefix}
use Rattle.sb_raft.proofs.Safety.ListPrefixes.{pre_length, pre_rest, pre_trans}
use Rattle.sb_raft.proofs.StateChanges.StepCases.{next}
use Rattle.sb_raft.proofs.StateChanges.CommitAndMatchIndices.{Commit, same, counted, copied, commit, front_same}
use Rattle.sb_raft.proofs.Safety.CommittedLogsAgree.{take_pre, take_less, take_kept, stay_length, length_both, take_long}

pub merge-longer : (xs es : List Entry) → length es ≤ length (merge xs es)
merge-longer xs [] = omega arith
merge-longer [] (e ∷ es) = omega arith
merge-longer (x ∷ xs) (e ∷ es) = go (x.term == e.term) (merge-longer xs es)
  where
    go : (b : Bool) → length es ≤ length (merge xs es) → suc (length es) ≤ length (cond b (x ∷ merge xs es) (e ∷ es))
    go true h = omega arith
    go false h = omega arith

pub take-drop : (n : ℕ) (xs : List Entry) → take n xs ++ drop n xs ≡ xs
take-drop zero xs = refl
take-drop (suc n) [] = refl
take-drop (suc n) (x ∷ xs) = ap (λ (z : List Entry). x ∷ z) (take-drop n xs)

record IsOn (a b : State) : Type 0 where
  pub room : b.commit ≤ length b.log
  pub front : Prefix (take a.commit a.log) (take b.commit b.log)

on : (p : Params) (me : ℕ) (s : State) (i : Input Message) (v : State) → s.commit ≤ length s.log → Commit p me s i v → IsOn s v
on p me s i v room (same e f) =
    let l = pre_length s.log v.log f in
    record { room = omega arith; front = front_same (take s.commit s.log) (take v.commit v.log) (ap (λ (z : ℕ). take z v.log) e ∙ take_pre s.commit s.log v.log f room) }
on p me s i v room (counted c e one n lt q r f up) =
    let less = take_less s.commit v.commit v.log (omega arith) in
    record { room = omega arith; front = pre_trans (take s.commit s.log) (take s.commit v.log) (take v.commit v.log) (front_same (take s.commit s.log) (take s.commit v.log) (take_pre s.commit s.log v.log f room)) less }
on p me s i v room (copied j prev pt c es ei a b st el ec er) =
    let lp = take_long prev s.log a in
    let tk = take_kept s.commit (take prev s.log) (drop prev s.log) es (omega arith) in
    let kept : take s.commit v.log ≡ take s.commit s.log = ap (λ (z : List Entry). take s.commit z) el ∙ (tk ∙ ap (λ (z : List Entry). take s.commit z) (take-drop prev s.log)) in
    let sl = stay_length (drop prev s.log) es in
    let ml = merge-longer (drop prev s.log) es in
    let ll = ap length el ∙ length_both (take prev s.log) (merge (drop prev s.log) es) in
    let less = take_less s.commit v.commit v.log (omega arith) in
    record { room = omega arith; front = pre_trans (take s.commit s.log) (take s.commit v.log) (take v.commit v.log) (front_same (take s.commit s.log) (take s.commit v.log) kept) less }

pub room-next : (p : Params) (me : ℕ) (s : State) (i : Input Message) → s.commit ≤ length s.log → (next p me s i).commit ≤ length (next p me s i).log
room-next p me s i h = (on p me s i (next p me s i) h (commit p me s i)).room

pub room : (p : Params) (me : ℕ) (xs : List (Item Message)) → (state p me xs).commit ≤ length (state p me xs).log
room p me [] = omega arith
room p me (x ∷ xs) = (on p me (state p me xs) x.input (state p me (x ∷ xs)) (room p me xs) (commit p me (state p me xs) x.input)).room

-- ---- Slots

pub contents-both : (a b : List Entry) → contents (a ++ b) ≡ contents a ++ contents b
contents-both [] b = refl
contents-both (e ∷ a) b = ap (λ (z : List Value). content e.what ++ z) (contents-both a b) ∙ sym (append_assoc (content e.what) (contents a) (contents b))

value-more : (s : ℕ) (slots : List Slot) (vs ws : List Value) (x : Value) → value_with s slots vs ≡ Some x → value_with s slots (vs ++ ws) ≡ Some x
value-more s [] vs ws x h = absurd cc
value-more s (t ∷ slots) [] ws x h = absurd cc
value-more s (t ∷ slots) (v ∷ vs) ws x h = go (t.0 == s) h (value-more s slots vs ws x)
  where
    go : (b : Bool) → (if b then Some v else value_with s slots vs) ≡ Some x → (value_with s slots vs ≡ Some x → value_with s slots (vs ++ ws) ≡ Some x) → (if b then Some v else value_with s slots (vs ++ ws)) ≡ Some x
    go true h r = h
    go false h r = r h

pub value-front : (s : ℕ) (slots : List Slot) (a b : List Entry) (x : Value) → Prefix a b → value_with s slots (contents a) ≡ Some x → value_with s slots (contents b) ≡ Some x
value-front s slots a b x f h =
    let r = pre_rest a b f in
    let e = ap contents r.1 ∙ contents-both a r.0 in
    subst (λ (z : List Value). value_with s slots z ≡ Some x) (sym e) (value-more s slots (contents a) (contents r.0) x h)

-- what was committed before is a prefix of what is committed now
pub grown : (p : Params) (me : ℕ) (xs : List (Item Message)) (y : Item Message) →
    Prefix (take (state p me xs).commit (state p me xs).log) (take (state p me (y ∷ xs)).commit (state p me (y ∷ xs)).log)
grown p me xs y = (on p me (state p me xs) y.input (state p me (y ∷ xs)) (room p me xs) (commit p me (state p me xs) y.input)).front

decided-stays : (p : Params) (me : ℕ) (xs : List (Item Message)) (y : Item Message) (s : ℕ) (x : Value) → decided p me xs s ≡ Some x → decided p me (y ∷ xs) s ≡ Some x
decided-stays p me xs y s x h =
    value-front s p.slots (take (state p me xs).commit (state p me xs).log) (take (state p me (y ∷ xs)).commit (state p me (y ∷ xs)).log) x (grown p me xs y) h

decided-start : (p : Params) (me : ℕ) (s : ℕ) → decided p me [] s ≡ None
decided-start p me s = go p.slots
  where
    go : (slots : List Slot) → value_with s slots [] ≡ None
    go [] = refl
    go (t ∷ ts) = refl

pub delivered-is : (p : Params) (me : ℕ) (xs : List (Item Message)) (s : ℕ) → delivered raft p me xs s ≡ decided p me xs s
delivered-is p me xs s = delivered-decided raft p me (decided-start p me) (decided-stays p me) xs s
