-- The tests and lists of the relay agree with the history that they represent.
use Rattle.std.proofs.Common.{◌≡◌, ℕ, Bool, true, false, not, ◌+◌, ◌&&◌, ◌||◌, ◌==◌, if◌then◌else◌, List, [], ◌∷◌, ◌++◌, Option, Some, None, is_some, refl, sym, ap, ◌∙◌, subst, inl, inr, arith, true≢false}
use Rattle.std.proofs.lemmas.Bool.{eq-eqb}
use Rattle.std.proofs.lemmas.List.Folds.{list_any-append}
use Rattle.iss_base.specs.Lists.{In, first_of}
use Rattle.iss_base.proofs.Lists.{and-true, is-eq, not-true, or-alone, or-flip}
use Rattle.iss_request.specs.declared.ids.NodeId.{NodeId}
use Rattle.iss_request.specs.declared.ids.Slot.{Slot}
use Rattle.iss_request.specs.declared.requests.Batch.{Batch}
use Rattle.iss_request.specs.declared.requests.Value.{Value}
use Rattle.iss_request.specs.declared.requests.Value.TheVariants.{Batch as Value_batch}
use Rattle.iss_sb.specs.declared.effects.Effects.{Effects}
use Rattle.iss_sb.specs.declared.effects.Input.{Input}
use Rattle.iss_sb.specs.declared.effects.Input.TheVariants.{Cast, Receive, Timeout}
use Rattle.iss_sb.specs.declared.effects.Params.{Params}
use Rattle.iss_sb.specs.declared.effects.To.TheVariants.{All as To_all}
use Rattle.iss_sb.specs.Calls.{IsNothing, IsTaken, has_slot}
use Rattle.iss_sb.specs.Evidence.{Item, and_then, delivered}
use Rattle.iss_sb.proofs.Delivered.{Delivers-from, Delivers-nothing, delivered-decided}
use Rattle.iss_sb.proofs.Slots.{has_slot-In, slot-is}
use Rattle.sb_relay.specs.declared.relay.Relay.{Relay}
use Rattle.sb_relay.specs.declared.say.Say.{Say}
use Rattle.sb_relay.specs.Relay.{asks, decided, is_for, made_of, relay, said, says}
use Rattle.sb_relay.specs.Internal.Refines.{Refines, may_cast, may_deliver}

no_answer : {A : Type 0} (o : Option A) → is_some o ≡ false → o ≡ None
no_answer None h = refl
no_answer (Some x) h = absurd (true≢false h)

an_answer : {A : Type 0} (o : Option A) → o ≡ None → is_some o ≡ false
an_answer o h = rw h refl

is_some-first : {A : Type 0} (a b : Option A) → is_some (first_of a b) ≡ (is_some a || is_some b)
is_some-first None b = refl
is_some-first (Some x) b = refl

-- one slot more
marked : (s : ℕ) (slots : List Slot) (slot : Slot) →
    has_slot s (slots ++ slot ∷ []) ≡ (has_slot s slots || (slot.0 == s))
marked s slots slot = list_any-append (λ t. t.0 == s) slots (slot ∷ []) ∙ ap (λ b. has_slot s slots || b) (or-alone (slot.0 == s))

-- the leader's batch for a slot of the segment, in one input
abbrev word : Params → ℕ → Input Say → Option Value
word p s i = if has_slot s p.slots then says p.leader.0 s i else None

decided-more : (p : Params) (me : ℕ) (x : Item Say) (xs : List (Item Say)) (s : ℕ) →
    decided p me (x ∷ xs) s ≡ first_of (decided p me xs s) (word p s x.input)
decided-more p me x xs s = go (has_slot s p.slots)
  where
    go : (b : Bool) → (if b then first_of (said p.leader.0 s xs) (says p.leader.0 s x.input) else None) ≡ first_of (if b then said p.leader.0 s xs else None) (if b then says p.leader.0 s x.input else None)
    go true = refl
    go false = refl

decided-start : (p : Params) (me s : ℕ) → decided p me [] s ≡ None
decided-start p me s = go (has_slot s p.slots)
  where
    go : (b : Bool) → ◌≡◌ {A = Option Value} (if b then None else None) None
    go true = refl
    go false = refl

decided-stays : (p : Params) (me : ℕ) (xs : List (Item Say)) (y : Item Say) (s : ℕ) (x : Value) →
    decided p me xs s ≡ Some x → decided p me (y ∷ xs) s ≡ Some x
decided-stays p me xs y s x h = decided-more p me y xs s ∙ ap (λ (o : Option Value). first_of o (word p s y.input)) h

-- what is delivered is decided
pub delivered-is : (p : Params) (me : ℕ) (xs : List (Item Say)) (s : ℕ) → delivered relay p me xs s ≡ decided p me xs s
delivered-is p me = delivered-decided relay p me (decided-start p me) (decided-stays p me)

-- what the leader's message says
pub record IsWord (p : Params) (s : ℕ) (from : NodeId) (msg : Say) (x : Value) : Type 0 where
  pub within : has_slot s p.slots ≡ true
  pub leads : from.0 ≡ p.leader.0
  pub slot : msg.slot.0 ≡ s
  pub value : x ≡ Value_batch msg.batch

pub word-is : (p : Params) (s : ℕ) (from : NodeId) (msg : Say) (x : Value) → word p s (Receive from msg) ≡ Some x →
    IsWord p s from msg x
word-is p s from msg x h = go (has_slot s p.slots) ((from.0 == p.leader.0) && (msg.slot.0 == s)) refl refl h
  where
    go : (a b : Bool) → has_slot s p.slots ≡ a → ((from.0 == p.leader.0) && (msg.slot.0 == s)) ≡ b →
        (if a then (if b then Some (Value_batch msg.batch) else None) else None) ≡ Some x → IsWord p s from msg x
    go true true q r k =
        let t = and-true (from.0 == p.leader.0) (msg.slot.0 == s) r in
        record { within = q; leads = is-eq from.0 p.leader.0 t.0; slot = is-eq msg.slot.0 s t.1; value = cc }
    go true false q r k = absurd (cc)
    go false b q r k = absurd (cc)

pub is-word : (p : Params) (s : ℕ) (from : NodeId) (msg : Say) → has_slot s p.slots ≡ true → from.0 ≡ p.leader.0 →
    msg.slot.0 ≡ s → word p s (Receive from msg) ≡ Some (Value_batch msg.batch)
is-word p s from msg within leads slot = rw (within, eq-eqb from.0 p.leader.0 leads, eq-eqb msg.slot.0 s slot) refl

no-word-cast : (p : Params) (s : ℕ) (slot : Slot) (batch : Batch) → word p s (Cast slot batch) ≡ None
no-word-cast p s slot batch = decided-start p 0 s

no-word-timeout : (p : Params) (s : ℕ) → word p s Timeout ≡ None
no-word-timeout p s = decided-start p 0 s

-- what may be delivered, by the test
pub record MayDeliver (m : Relay) (p : Params) (from : NodeId) (slot : Slot) : Type 0 where
  pub leads : from.0 ≡ p.leader.0
  pub within : has_slot slot.0 p.slots ≡ true
  pub fresh : has_slot slot.0 m.delivered ≡ false

deliver-test : (m : Relay) (p : Params) (from : NodeId) (slot : Slot) → may_deliver m p from slot ≡ true →
    MayDeliver m p from slot
deliver-test m p from slot h =
    let a = and-true (from.0 == p.leader.0) (has_slot slot.0 p.slots && not (has_slot slot.0 m.delivered)) h in
    let b = and-true (has_slot slot.0 p.slots) (not (has_slot slot.0 m.delivered)) a.1 in
    record { leads = is-eq from.0 p.leader.0 a.0; within = b.0; fresh = not-true (has_slot slot.0 m.delivered) b.1 }

test-deliver : (m : Relay) (p : Params) (from : NodeId) (slot : Slot) → MayDeliver m p from slot →
    may_deliver m p from slot ≡ true
test-deliver m p from slot h = rw (eq-eqb from.0 p.leader.0 h.leads, h.within, h.fresh) refl

pub cast-within : (m : Relay) (p : Params) (slot : Slot) → may_cast m p slot ≡ true → In slot p.slots
cast-within m p slot h =
    let a = and-true (m.me.0 == p.leader.0) (has_slot slot.0 p.slots && not (has_slot slot.0 m.cast)) h in
    has_slot-In slot p.slots (and-true (has_slot slot.0 p.slots) (not (has_slot slot.0 m.cast)) a.1).0

pub deliver-within : (m : Relay) (p : Params) (from : NodeId) (slot : Slot) → may_deliver m p from slot ≡ true →
    In slot p.slots
deliver-within m p from slot h = has_slot-In slot p.slots (deliver-test m p from slot h).within

-- nothing signs
pub no-leaf : (o : Option (Slot × Batch)) (n : ℕ) → n ≡ n + (made_of o).used
no-leaf None n = omega arith
no-leaf (Some a) n = omega arith

module _ (m : Relay) (p : Params) (me : ℕ) (xs : List (Item Say)) (st : Refines m p me xs) where
  pub asks-is : (slot : Slot) (batch : Batch) →
      asks p me xs (Cast slot batch) ≡ (if may_cast m p slot then Some (slot, batch) else None)
  asks-is slot batch = rw (← st.node, ← st.cast slot.0) refl

  asks-as : (slot : Slot) (batch : Batch) (b : Bool) → may_cast m p slot ≡ b →
      asks p me xs (Cast slot batch) ≡ (if b then Some (slot, batch) else None)
  asks-as slot batch b h = asks-is slot batch ∙ ap (λ (b : Bool). let o : Option (Slot × Batch) = if b then Some (slot, batch) else None in o) h

  -- the lists after one input more
  refines-more : (i : Input Say) (leaf : ℕ) (n : Relay) → n.me ≡ m.me →
      ((s : ℕ) → has_slot s n.cast ≡ (is_for s (made_of (asks p me xs i)).accepted || has_slot s m.cast)) →
      ((s : ℕ) → has_slot s n.delivered ≡ (has_slot s m.delivered || is_some (word p s i))) →
      Refines n p me (and_then relay p me xs i leaf)
  refines-more i leaf n same casts delivers = record {
    node = ap (λ (a : NodeId). a.0) same ∙ st.node;
    cast = λ s. casts s ∙ ap (λ b. is_for s (made_of (asks p me xs i)).accepted || b) (st.cast s);
    delivered = λ s. delivers s ∙ ap (λ b. b || is_some (word p s i)) (st.delivered s) ∙ sym (is_some-first (decided p me xs s) (word p s i)) ∙ ap (λ (o : Option Value). is_some o) (sym (decided-more p me (record { input = i; leaf = leaf; made = made_of (asks p me xs i) }) xs s));
  }

  -- an input that accepts nothing and has no new batch of the leader
  idle-refines : (i : Input Say) (leaf : ℕ) → asks p me xs i ≡ None →
      ((s : ℕ) → (has_slot s m.delivered || is_some (word p s i)) ≡ has_slot s m.delivered) →
      Refines m p me (and_then relay p me xs i leaf)
  idle-refines i leaf none old = refines-more i leaf m refl (λ s. rw none refl) (λ s. sym (old s))

  decided-new : (i : Input Say) (leaf s : ℕ) (x : Value) → decided p me (and_then relay p me xs i leaf) s ≡ Some x →
      delivered relay p me xs s ≡ None → word p s i ≡ Some x
  decided-new i leaf s x d none =
      let open' : decided p me xs s ≡ None = sym (delivered-is p me xs s) ∙ none in
      let all : first_of (decided p me xs s) (word p s i) ≡ Some x = sym (decided-more p me (record { input = i; leaf = leaf; made = made_of (asks p me xs i) }) xs s) ∙ d in
      rw open' at all

  idle-taken : (i : Input Say) (leaf : ℕ) (e : Effects Say) → asks p me xs i ≡ None →
      ((s : Slot) (x : Value) → word p s.0 i ≡ Some x → delivered relay p me xs s.0 ≡ None → ⊥) → IsNothing e →
      IsTaken relay p me xs i leaf e
  idle-taken i leaf e none old nothing = record {
    sends = rw none nothing.sends;
    accepted = rw none nothing.accepted;
    hashed = rw none nothing.hashed;
    delivers = rw nothing.delivers (Delivers-nothing relay p me xs i leaf (λ s x d o. old s x (decided-new i leaf s.0 x d o) o));
  }

  -- a cast that is refused, and a timeout
  pub idle_cast-refines : (slot : Slot) (batch : Batch) (leaf : ℕ) → may_cast m p slot ≡ false →
      Refines m p me (and_then relay p me xs (Cast slot batch) leaf)
  idle_cast-refines slot batch leaf h = idle-refines (Cast slot batch) leaf (asks-as slot batch false h) (λ s. rw (no-word-cast p s slot batch) (or-alone (has_slot s m.delivered)))

  pub idle_cast-taken : (slot : Slot) (batch : Batch) (leaf : ℕ) (e : Effects Say) → may_cast m p slot ≡ false →
      IsNothing e → IsTaken relay p me xs (Cast slot batch) leaf e
  idle_cast-taken slot batch leaf e h nothing = idle-taken (Cast slot batch) leaf e (asks-as slot batch false h) (λ s x w o. let n = no-word-cast p s.0 slot batch in absurd (cc)) nothing

  pub idle_timeout-refines : (leaf : ℕ) → Refines m p me (and_then relay p me xs Timeout leaf)
  idle_timeout-refines leaf = idle-refines Timeout leaf refl (λ s. rw (no-word-timeout p s) (or-alone (has_slot s m.delivered)))

  pub idle_timeout-taken : (leaf : ℕ) (e : Effects Say) → IsNothing e → IsTaken relay p me xs Timeout leaf e
  idle_timeout-taken leaf e nothing = idle-taken Timeout leaf e refl (λ s x w o. let n = no-word-timeout p s.0 in absurd (cc)) nothing

  -- a cast that is accepted
  pub cast-refines : (slot : Slot) (batch : Batch) (leaf : ℕ) (n : Relay) → may_cast m p slot ≡ true → n.me ≡ m.me →
      n.cast ≡ m.cast ++ slot ∷ [] → n.delivered ≡ m.delivered →
      Refines n p me (and_then relay p me xs (Cast slot batch) leaf)
  cast-refines slot batch leaf n h same casts delivers =
      let asked = asks-as slot batch true h in
      refines-more (Cast slot batch) leaf n same
      (λ s. rw (asked, casts) (marked s m.cast slot ∙ or-flip (has_slot s m.cast) (slot.0 == s)))
      (λ s. rw (delivers, no-word-cast p s slot batch) (sym (or-alone (has_slot s m.delivered))))

  pub cast-taken : (slot : Slot) (batch : Batch) (leaf : ℕ) (e : Effects Say) → may_cast m p slot ≡ true →
      e.sends ≡ (To_all, record { slot = slot; batch = batch }) ∷ [] → e.accepted ≡ Some (slot, batch) → e.delivers ≡ [] → e.hashed ≡ [] →
      IsTaken relay p me xs (Cast slot batch) leaf e
  cast-taken slot batch leaf e h sends accepted delivers hashed =
      let asked = asks-as slot batch true h in
      record {
        sends = rw asked sends;
        accepted = rw asked accepted;
        hashed = rw asked hashed;
        delivers = rw delivers (Delivers-nothing relay p me xs (Cast slot batch) leaf (λ s x d o. let w = decided-new (Cast slot batch) leaf s.0 x d o in let n = no-word-cast p s.0 slot batch in absurd (cc)));
      }

  -- a message is to be delivered exactly if its batch is new
  may-from : (from : NodeId) (msg : Say) (s : ℕ) (x : Value) → word p s (Receive from msg) ≡ Some x →
      has_slot s m.delivered ≡ false → may_deliver m p from msg.slot ≡ true
  may-from from msg s x w fresh =
      let k = word-is p s from msg x w in
      test-deliver m p from msg.slot (record { leads = k.leads; within = ap (λ n. has_slot n p.slots) k.slot ∙ k.within; fresh = ap (λ n. has_slot n m.delivered) k.slot ∙ fresh })

  fresh-of : (s : ℕ) → delivered relay p me xs s ≡ None → has_slot s m.delivered ≡ false
  fresh-of s h = st.delivered s ∙ an_answer (decided p me xs s) (sym (delivered-is p me xs s) ∙ h)

  none-of : (s : ℕ) → has_slot s m.delivered ≡ false → delivered relay p me xs s ≡ None
  none-of s h = delivered-is p me xs s ∙ no_answer (decided p me xs s) (sym (st.delivered s) ∙ h)

  old-word : (from : NodeId) (msg : Say) (s : ℕ) → may_deliver m p from msg.slot ≡ false →
      (has_slot s m.delivered || is_some (word p s (Receive from msg))) ≡ has_slot s m.delivered
  old-word from msg s h = go (has_slot s m.delivered) (word p s (Receive from msg)) refl refl
    where
      go : (b : Bool) (o : Option Value) → has_slot s m.delivered ≡ b → word p s (Receive from msg) ≡ o →
          (b || is_some o) ≡ b
      go true o q r = refl
      go false None q r = refl
      go false (Some x) q r = let t = may-from from msg s x r q in absurd (true≢false (sym t ∙ h))

  -- a Say that delivers nothing
  pub idle_say-refines : (from : NodeId) (msg : Say) (leaf : ℕ) → may_deliver m p from msg.slot ≡ false →
      Refines m p me (and_then relay p me xs (Receive from msg) leaf)
  idle_say-refines from msg leaf h = idle-refines (Receive from msg) leaf refl (λ s. old-word from msg s h)

  pub idle_say-taken : (from : NodeId) (msg : Say) (leaf : ℕ) (e : Effects Say) →
      may_deliver m p from msg.slot ≡ false → IsNothing e → IsTaken relay p me xs (Receive from msg) leaf e
  idle_say-taken from msg leaf e h nothing = idle-taken (Receive from msg) leaf e refl
      (λ s x w o. let t = may-from from msg s.0 x w (fresh-of s.0 o) in true≢false (sym t ∙ h)) nothing

  -- a Say that delivers
  pub say-refines : (from : NodeId) (msg : Say) (leaf : ℕ) (n : Relay) → may_deliver m p from msg.slot ≡ true →
      n.me ≡ m.me → n.cast ≡ m.cast → n.delivered ≡ m.delivered ++ msg.slot ∷ [] →
      Refines n p me (and_then relay p me xs (Receive from msg) leaf)
  say-refines from msg leaf n h same casts delivers = refines-more (Receive from msg) leaf n same
      (λ s. rw casts refl)
      (λ s. rw delivers (marked s m.delivered msg.slot ∙ ap (λ b. has_slot s m.delivered || b) (told s (msg.slot.0 == s) refl)))
    where
      told : (s : ℕ) (b : Bool) → (msg.slot.0 == s) ≡ b → b ≡ is_some (word p s (Receive from msg))
      told s true q =
          let t = deliver-test m p from msg.slot h in
          let same : msg.slot.0 ≡ s = is-eq msg.slot.0 s q in
          rw (is-word p s from msg (ap (λ n. has_slot n p.slots) (sym same) ∙ t.within) t.leads same) refl
      told s false q = sym (none (word p s (Receive from msg)) refl)
        where
          none : (o : Option Value) → word p s (Receive from msg) ≡ o → is_some o ≡ false
          none None r = refl
          none (Some x) r = let k = word-is p s from msg x r in absurd (true≢false (sym (eq-eqb msg.slot.0 s k.slot) ∙ q))

  pub say-taken : (from : NodeId) (msg : Say) (leaf : ℕ) (e : Effects Say) → may_deliver m p from msg.slot ≡ true →
      e.sends ≡ [] → e.accepted ≡ None → e.delivers ≡ (msg.slot, Value_batch msg.batch) ∷ [] → e.hashed ≡ [] → IsTaken relay p me xs (Receive from msg) leaf e
  say-taken from msg leaf e h sends accepted delivers hashed = record {
    sends = sends;
    accepted = accepted;
    hashed = hashed;
    delivers = rw delivers (Delivers-from relay p me xs (Receive from msg) leaf ((msg.slot, Value_batch msg.batch) ∷ []) (omega arith, tt) (λ s x. (one s x, only s x)));
  }
    where
      now : (decided p me (and_then relay p me xs (Receive from msg) leaf) msg.slot.0 ≡ Some (Value_batch msg.batch)) × (delivered relay p me xs msg.slot.0 ≡ None)
      now =
          let t = deliver-test m p from msg.slot h in
          let none = none-of msg.slot.0 t.fresh in
          let open' : decided p me xs msg.slot.0 ≡ None = sym (delivered-is p me xs msg.slot.0) ∙ none in
          (decided-more p me (record { input = Receive from msg; leaf = leaf; made = made_of None }) xs msg.slot.0 ∙ rw open' (is-word p msg.slot.0 from msg t.within t.leads refl), none)

      one : (s : Slot) (x : Value) → In {A = Slot × Value} (s, x) ((msg.slot, Value_batch msg.batch) ∷ []) → (decided p me (and_then relay p me xs (Receive from msg) leaf) s.0 ≡ Some x) × (delivered relay p me xs s.0 ≡ None)
      one s x (inl q) = subst (λ (z : Slot × Value). (decided p me (and_then relay p me xs (Receive from msg) leaf) z.0.0 ≡ Some z.1) × (delivered relay p me xs z.0.0 ≡ None)) (sym q) now
      one s x (inr k) = absurd k

      only : (s : Slot) (x : Value) → (decided p me (and_then relay p me xs (Receive from msg) leaf) s.0 ≡ Some x) × (delivered relay p me xs s.0 ≡ None) → In {A = Slot × Value} (s, x) ((msg.slot, Value_batch msg.batch) ∷ [])
      only s x d =
          let k = word-is p s.0 from msg x (decided-new (Receive from msg) leaf s.0 x d.0 d.1) in
          inl (ap (λ (t : Slot). let z : Slot × Value = (t, x) in z) (slot-is s msg.slot (sym k.slot)) ∙ ap (λ (v : Value). let z : Slot × Value = (msg.slot, v) in z) k.value)
