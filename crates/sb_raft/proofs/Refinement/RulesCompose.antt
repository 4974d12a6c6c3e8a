-- A rule of the code does what the model's rule does, composed from its parts.
use Rattle.std.proofs.Common.{◌≡◌, ℕ, ◌^◌, ◌<◌, Bool, List, [], ◌∷◌, length, take, drop, sym, subst, ap, ◌∙◌, Option, None, arith}
use Rattle.std.proofs.lemmas.List.{length-drop, length-take, nil_from_length}
use Rattle.iss_request.specs.declared.ids.NodeId.{NodeId}
use Rattle.iss_request.specs.declared.ids.Slot.{Slot}
use Rattle.iss_request.specs.declared.requests.Batch.{Batch}
use Rattle.iss_sb.specs.declared.effects.Effects.{Effects}
use Rattle.iss_sb.specs.declared.effects.Params.{Params}
use Rattle.iss_sb.specs.declared.effects.To.{To}
use Rattle.iss_sb.specs.Calls.{AreToNodes, IsNothing}
use Rattle.raft_wire.specs.declared.entries.Entry.{Entry}
use Rattle.raft_wire.specs.declared.messages.Message.{Message}
use Rattle.raft_wire.specs.declared.messages.Message.TheVariants.{Reply}
use Rattle.sb_raft.specs.declared.raft.Raft.{Raft}
use Rattle.iss_sb.specs.Paired.{paired}
use Rattle.sb_raft.specs.Logs.{contents, filled}
use Rattle.sb_raft.specs.Rules.{Follower, Leader, State, Step, raised, to}
use Rattle.sb_raft.specs.Refines.{Does, IsLow, IsReply, OnlySends, held, newly}
use Rattle.iss_sb.proofs.Paired.{paired-none}
use Rattle.sb_raft.proofs.StateChanges.StepCases.{Raise, level, higher, raise}

-- functions that agree everywhere are equal
pub everywhere : {A : Type 0} (f g : ℕ → A) → ((k : ℕ) → f k ≡ g k) → f ≡ g
everywhere f g h = λ i k. h k i

-- ---- Newly filled slots

drop-taken : (n : ℕ) (es : List Entry) → drop n (take n es) ≡ []
drop-taken n es =
    let d = length-drop n (take n es) in
    let t = length-take n es in
    nil_from_length (drop n (take n es)) (omega (arith, d, t))

-- nothing, if the commit index stays
pub newly-none : (p : Params) (s v : State) → v.commit ≡ s.commit → newly p s v ≡ []
newly-none p s v e =
    let slots = drop (filled (take s.commit s.log)) p.slots in
    ap (λ (k : ℕ). paired slots (contents (drop s.commit (take k v.log)))) e ∙ ap (λ (z : List Entry). paired slots (contents z)) (drop-taken s.commit v.log) ∙ paired-none slots

-- it is a function of the committed prefix
pub newly-front : (p : Params) (s u v : State) → u.commit ≡ s.commit → take s.commit u.log ≡ take s.commit s.log → newly p u v ≡ newly p s v
newly-front p s u v e f =
    ap (λ (k : ℕ). paired (drop (filled (take k u.log)) p.slots) (contents (drop k (take v.commit v.log)))) e
    ∙ ap (λ (z : List Entry). paired (drop (filled z) p.slots) (contents (drop s.commit (take v.commit v.log)))) f

-- ---- A rule that ends at once

module _ (p : Params) (can : Type 0) (old new : Raft) (step : Step) (e : Effects Message) (me : new.me ≡ old.me) (state : can → held new ≡ step.state) (stays : new.log.commit ≡ old.log.commit) where
  pub does-nothing : step.sends ≡ [] → IsNothing e → Does p old.me can (held old) new step None e
  does-nothing none h = record {
    node = me;
    state = state;
    sends = λ _. h.sends ∙ sym none;
    accepts = h.accepted;
    delivers = h.delivers ∙ sym (newly-none p (held old) (held new) stays);
    hashed = h.hashed;
    addressed = subst (λ (z : List (To × Message)). AreToNodes p.setup.n z) (sym h.sends) tt;
  }

  pub does-reply : (k term : ℕ) (ok : Bool) (index : ℕ) → k < p.setup.n → (can → index < 2 ^ 32) → (can → step.sends ≡ to k (Reply term ok index) ∷ []) → IsReply k term ok index e → Does p old.me can (held old) new step None e
  does-reply k term ok index below field is h = record {
    node = me;
    state = state;
    sends = λ c. h.sends (field c) ∙ sym (is c);
    accepts = h.accepted;
    delivers = h.delivers ∙ sym (newly-none p (held old) (held new) stays);
    hashed = h.hashed;
    addressed = h.addressed p.setup.n below;
  }

  pub does-only : (sends : List (To × Message)) → AreToNodes p.setup.n sends → (can → sends ≡ step.sends) → OnlySends sends e → Does p old.me can (held old) new step None e
  does-only sends addressed is h = record {
    node = me;
    state = state;
    sends = λ c. h.sends_is ∙ is c;
    accepts = h.accepted;
    delivers = h.delivers ∙ sym (newly-none p (held old) (held new) stays);
    hashed = h.hashed;
    addressed = subst (λ (z : List (To × Message)). AreToNodes p.setup.n z) (sym h.sends_is) addressed;
  }

-- ---- A rule that goes on

-- what was done from a later state with the same committed prefix was done from the first one
pub rebased : (p : Params) (can : Type 0) (P : State → Type 0) (f : ℕ → State → Step) (old mid new : Raft) (u : State) (accepted : Option (Slot × Batch)) (e : Effects Message) →
    Does p mid.me (P (held mid)) (held mid) new (f mid.me.0 (held mid)) accepted e → mid.me ≡ old.me → (can → held mid ≡ u) → (can → P u) →
    mid.log.commit ≡ old.log.commit → take old.log.commit mid.log.entries ≡ take old.log.commit old.log.entries → Does p old.me can (held old) new (f old.me.0 u) accepted e
rebased p can P f old mid new u accepted e d me is holds stays front = record {
  node = d.node ∙ me;
  state = λ c. d.state (subst P (sym (is c)) (holds c)) ∙ ap (λ (z : Step). z.state) (path c);
  sends = λ c. d.sends (subst P (sym (is c)) (holds c)) ∙ ap (λ (z : Step). z.sends) (path c);
  accepts = d.accepts;
  delivers = d.delivers ∙ newly-front p (held old) (held mid) (held new) stays front;
  hashed = d.hashed;
  addressed = d.addressed;
}
  where
    path : can → f mid.me.0 (held mid) ≡ f old.me.0 u
    path c = ap (λ (n : NodeId). f n.0 (held mid)) me ∙ ap (λ (z : State). f old.me.0 z) (is c)

-- the same for an equal step
pub restep : (p : Params) (can : Type 0) (me : NodeId) (from : State) (new : Raft) (step other : Step) (accepted : Option (Slot × Batch)) (e : Effects Message) →
    Does p me can from new step accepted e → (can → step ≡ other) → Does p me can from new other accepted e
restep p can me from new step other accepted e d is = record {
  node = d.node;
  state = λ c. d.state c ∙ ap (λ (z : Step). z.state) (is c);
  sends = λ c. d.sends c ∙ ap (λ (z : Step). z.sends) (is c);
  accepts = d.accepts;
  delivers = d.delivers;
  hashed = d.hashed;
  addressed = d.addressed;
}

pub step-path : (s t : State) (a b : List (To × Message)) → s ≡ t → a ≡ b → (let x : Step = record { state = s; sends = a } in x) ≡ (let y : Step = record { state = t; sends = b } in y)
step-path s t a b e f = λ i. record { state = e i; sends = f i }

-- ---- A higher term

after-raise : (s u : State) → Raise s u → IsLow s → IsLow u
after-raise s u (level e) low = subst (λ (z : State). IsLow z) (sym e) low
after-raise s u (higher v l e) low =
    let log = ap (λ (z : State). length z.log) e in
    let room = low.room in
    record { room = omega (arith, log, room); next = λ r. absurd (follower (ap (λ (z : State). z.role) e) r); matched = λ r. absurd (follower (ap (λ (z : State). z.role) e) r) }
  where
    follower : u.role ≡ Follower → u.role ≡ Leader → ⊥
    follower a b = cc

pub low-raised : (s : State) (t : ℕ) → IsLow s → IsLow (raised s t)
low-raised s t low = after-raise s (raised s t) (raise s t) low

raised-log : (s u : State) → Raise s u → (u.log ≡ s.log) × (u.commit ≡ s.commit)
raised-log s u (level e) = (ap (λ (z : State). z.log) e, ap (λ (z : State). z.commit) e)
raised-log s u (higher v l e) = (ap (λ (z : State). z.log) e, ap (λ (z : State). z.commit) e)

-- a rule that applies after the node took over the term of a message
pub raised-does : (p : Params) (m mid new : Raft) (t : ℕ) (f : ℕ → State → Step) (e : Effects Message) → mid.me ≡ m.me → held mid ≡ raised (held m) t →
    Does p mid.me (IsLow (held mid)) (held mid) new (f mid.me.0 (held mid)) None e → Does p m.me (IsLow (held m)) (held m) new (f m.me.0 (raised (held m) t)) None e
raised-does p m mid new t f e me is d =
    let r = raised-log (held m) (raised (held m) t) (raise (held m) t) in
    rebased p (IsLow (held m)) IsLow f m mid new (raised (held m) t) None e d me (λ _. is) (λ low. low-raised (held m) t low)
    (ap (λ (z : State). z.commit) is ∙ r.1) (ap (λ (z : State). take m.log.commit z.log) is ∙ ap (λ (z : List Entry). take m.log.commit z) r.0)
