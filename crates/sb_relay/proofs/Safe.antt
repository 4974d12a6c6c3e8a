-- The relay is a Sequenced Broadcast: what is sent was accepted, what is delivered was sent, and the leader accepts
-- one batch for a slot.
use Rattle.std.proofs.Common.{◌≡◌, ◌<◌, ◌≤◌, ◌^◌, ℕ, Bool, true, false, not, ◌&&◌, ◌||◌, ◌==◌, if◌then◌else◌, List, [], ◌∷◌, Option, Some, None, refl, sym, ap, ◌∙◌, subst, inl, inr, arith, true≢false}
use Rattle.std.proofs.lemmas.Bool.{eq-eqb}
use Rattle.iss_base.specs.Lists.{In}
use Rattle.iss_base.proofs.Lists.{and-true, first-cases, is-eq, not-true, some-injective}
use Rattle.iss_sb.proofs.Inputs.{cast-is}
use Rattle.iss_request.proofs.Identities.{holds-injective}
use Rattle.iss_request.specs.Fields.{IsReadAgain}
use Rattle.iss_request.specs.Formats.{parse_value, spell_value}
use Rattle.iss_request.specs.declared.ids.NodeId.{NodeId}
use Rattle.iss_request.specs.declared.ids.Slot.{Slot}
use Rattle.iss_request.specs.declared.requests.Batch.{Batch}
use Rattle.iss_request.specs.declared.requests.Value.{Value}
use Rattle.iss_request.specs.declared.requests.Value.TheVariants.{Batch as Value_batch}
use Rattle.iss_sb.specs.declared.effects.Input.{Input}
use Rattle.iss_sb.specs.declared.effects.Input.TheVariants.{Cast, Receive, Timeout}
use Rattle.iss_sb.specs.declared.effects.Params.{Params}
use Rattle.iss_sb.specs.declared.effects.To.{To}
use Rattle.iss_sb.specs.declared.effects.To.TheVariants.{All as To_all, One as To_one}
use Rattle.iss_sb.specs.Calls.{IsGoodParams, has_slot}
use Rattle.iss_sb.specs.Evidence.{Item, Made, World, IsReadBatch, IsReadMessage, IsSent, MayCome, accepts, delivered}
use Rattle.iss_sb.specs.Laws.{AcceptsOnce, AreHeard, DecidesReadable, IsBroadcast, IsHeard, IsLawful, IsSafe, SignsOnce}
use Rattle.iss_sb.specs.Legal.{AreMade, IsLegal}
use Rattle.iss_sb.proofs.Legal.{all-correct, once-made, safe-legal}
use Rattle.iss_sb.proofs.Silent.{silent-once}
use Rattle.iss_sb.proofs.Slots.{below-In, has_slot-In, node-is, slot-is}
use Rattle.iss_sb.proofs.Worlds.{accepts-cases, accepts-new, accepts-old}
use Rattle.sb_relay.specs.declared.say.Say.{Say}
use Rattle.sb_relay.specs.Relay.{asks, decided, is_for, made_of, relay, said, says, was_cast}
use Rattle.sb_relay.proofs.Marks.{delivered-is}
use Rattle.sb_relay.proofs.Spelling.{say-again, say-batch}

abbrev Same : Input Say → Input Say → Type 0
Same x y = x ≡ y

-- the batch that an input asks for
record IsAsked (p : Params) (me : ℕ) (xs : List (Item Say)) (i : Input Say) (slot : Slot) (batch : Batch) : Type 0 where
  cast : Same i (Cast slot batch)
  leads : me ≡ p.leader.0
  within : has_slot slot.0 p.slots ≡ true
  fresh : was_cast slot.0 xs ≡ false

asked : (p : Params) (me : ℕ) (xs : List (Item Say)) (i : Input Say) (slot : Slot) (batch : Batch) →
    asks p me xs i ≡ Some (slot, batch) → IsAsked p me xs i slot batch
asked p me xs (Receive from msg) slot batch h = absurd (cc)
asked p me xs Timeout slot batch h = absurd (cc)
asked p me xs (Cast s b) slot batch h = go ((me == p.leader.0) && (has_slot s.0 p.slots && not (was_cast s.0 xs))) refl h
  where
    go : (t : Bool) → ((me == p.leader.0) && (has_slot s.0 p.slots && not (was_cast s.0 xs))) ≡ t →
        ◌≡◌ {A = Option (Slot × Batch)} (if t then Some (s, b) else None) (Some (slot, batch)) →
        IsAsked p me xs (Cast s b) slot batch
    go false q r = absurd (cc)
    go true q r =
        let e = some-injective {A = Slot × Batch} (s, b) (slot, batch) r in
        let slots : s ≡ slot = ap (λ (x : Slot × Batch). x.0) e in
        let batches : b ≡ batch = ap (λ (x : Slot × Batch). x.1) e in
        let t = and-true (me == p.leader.0) (has_slot s.0 p.slots && not (was_cast s.0 xs)) q in
        let u = and-true (has_slot s.0 p.slots) (not (was_cast s.0 xs)) t.1 in
        record {
          cast = ap (Cast s) batches ∙ ap (λ (x : Slot). Cast x batch) slots;
          leads = is-eq me p.leader.0 t.0;
          within = ap (λ (x : Slot). has_slot x.0 p.slots) (sym slots) ∙ u.0;
          fresh = ap (λ (x : Slot). was_cast x.0 xs) (sym slots) ∙ not-true (was_cast s.0 xs) u.1;
        }

accepted-is : (o : Option (Slot × Batch)) → (made_of o).accepted ≡ o
accepted-is None = refl
accepted-is (Some a) = refl

sent-is : (o : Option (Slot × Batch)) (to : To) (msg : Say) → In {A = To × Say} (to, msg) (made_of o).sends →
    o ≡ Some (msg.slot, msg.batch)
sent-is None to msg h = absurd h
sent-is (Some a) to msg (inl q) = ap (λ (x : To × Say). let o : Option (Slot × Batch) = Some (x.1.slot, x.1.batch) in o) (sym q)
sent-is (Some a) to msg (inr h) = absurd h

-- an accepted batch was cast at its slot
cast-of : (xs : List (Item Say)) (s : Slot) (b : Batch) → In {A = Slot × Batch} (s, b) (accepts xs) →
    was_cast s.0 xs ≡ true
cast-of [] s b h = absurd h
cast-of (x ∷ xs) s b h = elim (accepts-cases x xs (s, b) h) [
  | inl q ↦ rw (q, eq-eqb s.0 s.0 refl) refl
  | inr k ↦ let more = cast-of xs s b k in rw more (or_true (is_for s.0 x.made.accepted))
]
  where
    or_true : (t : Bool) → (t || true) ≡ true
    or_true true = refl
    or_true false = refl

-- the leader's message is in the history
said-told : (p : Params) (xs : List (Item Say)) (s : ℕ) (v : Value) → said p.leader.0 s xs ≡ Some v → (msg : Say) × (x : Item Say) × (v ≡ Value_batch msg.batch) × (msg.slot.0 ≡ s) × In x xs × (x.input ≡ Receive p.leader msg)
said-told p [] s v h = absurd (cc)
said-told p (x ∷ xs) s v h = elim (first-cases (said p.leader.0 s xs) (says p.leader.0 s x.input) v h) [
  | inl a ↦ let r = said-told p xs s v a in (r.0, r.1, r.2, r.3, inr r.4, r.5)
  | inr a ↦ let r = word x.input refl a.1 in (r.0, x, r.1, r.2, inl refl, r.3)
]
  where
    word : (i : Input Say) → x.input ≡ i → says p.leader.0 s i ≡ Some v →
        (msg : Say) × (v ≡ Value_batch msg.batch) × (msg.slot.0 ≡ s) × (x.input ≡ Receive p.leader msg)
    word (Cast k b) q r = absurd (cc)
    word Timeout q r = absurd (cc)
    word (Receive from msg) q r = go ((from.0 == p.leader.0) && (msg.slot.0 == s)) refl r
      where
        go : (t : Bool) → ((from.0 == p.leader.0) && (msg.slot.0 == s)) ≡ t →
            (if t then Some (Value_batch msg.batch) else None) ≡ Some v →
            (msg : Say) × (v ≡ Value_batch msg.batch) × (msg.slot.0 ≡ s) × (x.input ≡ Receive p.leader msg)
        go false t z = absurd (cc)
        go true t z =
            let k = and-true (from.0 == p.leader.0) (msg.slot.0 == s) t in
            let leads : from ≡ p.leader = node-is from p.leader (is-eq from.0 p.leader.0 k.0) in
            (msg, sym (some-injective _ v z), is-eq msg.slot.0 s k.1, q ∙ ap (λ (y : NodeId). Receive y msg) leads)

decided-said : (p : Params) (me : ℕ) (xs : List (Item Say)) (s : ℕ) (v : Value) → decided p me xs s ≡ Some v →
    (has_slot s p.slots ≡ true) × (said p.leader.0 s xs ≡ Some v)
decided-said p me xs s v h = go (has_slot s p.slots) h
  where
    go : (b : Bool) → (if b then said p.leader.0 s xs else None) ≡ Some v → (b ≡ true) × (said p.leader.0 s xs ≡ Some v)
    go true k = (refl, k)
    go false k = absurd (cc)

-- what a node sends it had accepted
sent-accepted : (p : Params) (me : ℕ) (xs : List (Item Say)) (x : Item Say) (to : To) (msg : Say) →
    AreMade relay p me xs → In x xs → In {A = To × Say} (to, msg) x.made.sends →
    In {A = Slot × Batch} (msg.slot, msg.batch) (accepts xs)
sent-accepted p me [] x to msg made h sent = absurd h
sent-accepted p me (y ∷ xs) x to msg made (inl e) sent =
    let here = subst (λ (z : Item Say). In {A = To × Say} (to, msg) z.made.sends) e sent in
    let asked_for = sent-is (asks p me xs y.input) to msg (subst (λ (z : Made Say). In {A = To × Say} (to, msg) z.sends) made.0 here) in
    accepts-new y xs (msg.slot, msg.batch) (ap (λ (z : Made Say). z.accepted) made.0 ∙ accepted-is (asks p me xs y.input) ∙ asked_for)
sent-accepted p me (y ∷ xs) x to msg made (inr h) sent = accepts-old y xs (msg.slot, msg.batch) (sent-accepted p me xs x to msg made.1 h sent)

-- if a batch is accepted, none was cast before
fresh-at : (p : Params) (me : ℕ) (x : Item Say) (xs : List (Item Say)) (s : Slot) (b : Batch) →
    AreMade relay p me (x ∷ xs) → x.made.accepted ≡ Some (s, b) → was_cast s.0 xs ≡ false
fresh-at p me x xs s b made h = (asked p me xs x.input s b (sym (accepted-is (asks p me xs x.input)) ∙ (sym (ap (λ (z : Made Say). z.accepted) made.0) ∙ h))).fresh

-- a node accepts one batch for a slot
once : (p : Params) (me : ℕ) (xs : List (Item Say)) (s : Slot) (b c : Batch) → AreMade relay p me xs →
    In {A = Slot × Batch} (s, b) (accepts xs) → In {A = Slot × Batch} (s, c) (accepts xs) → b ≡ c
once p me [] s b c made h k = absurd h
once p me (x ∷ xs) s b c made h k = elim (accepts-cases x xs (s, b) h) [
  | inl q ↦ elim (accepts-cases x xs (s, c) k) [
    | inl r ↦ ap (λ (z : Slot × Batch). z.1) (some-injective {A = Slot × Batch} (s, b) (s, c) (sym q ∙ r))
    | inr z ↦ absurd (true≢false (sym (cast-of xs s c z) ∙ fresh-at p me x xs s b made q))
  ]
  | inr y ↦ elim (accepts-cases x xs (s, c) k) [
    | inl r ↦ absurd (true≢false (sym (cast-of xs s b y) ∙ fresh-at p me x xs s c made r))
    | inr z ↦ once p me xs s b c made.1 y z
  ]
]

pub relay-accepts-once : AcceptsOnce relay
relay-accepts-once = once-made relay (λ p me xs good made s b c. once p me xs s b c made)

module _ (p : Params) (w : World Say) (legal : IsLegal relay p w) where
  -- what the leader sent, it had accepted
  told : (i : ℕ) (x : Item Say) (msg : Say) → In x (w i) → x.input ≡ Receive p.leader msg →
      In {A = Slot × Batch} (msg.slot, msg.batch) (accepts (w p.leader.0))
  told i x msg h q =
      let sent : IsSent w p.leader.0 i msg = subst (λ (y : Input Say). MayCome relay p w i y) q (legal.came i x h) in
      sent-accepted p p.leader.0 (w p.leader.0) sent.item sent.to msg (legal.made p.leader.0) sent.taken sent.sent

  -- the leader accepted each delivered value at its slot
  owned : (i s : ℕ) (v : Value) → delivered relay p i (w i) s ≡ Some v →
      (b : Batch) × (v ≡ Value_batch b) × In {A = Slot × Batch} (record { 0 = s }, b) (accepts (w p.leader.0))
  owned i s v d =
      let h = decided-said p i (w i) s v (sym (delivered-is p i (w i) s) ∙ d) in
      let t = said-told p (w i) s v h.1 in
      let slot : t.0.slot ≡ record { 0 = s } = slot-is t.0.slot (record { 0 = s }) t.3 in
      (t.0.batch, t.2, subst (λ (x : Slot). In {A = Slot × Batch} (x, t.0.batch) (accepts (w p.leader.0))) slot (told i t.1 t.0 t.4 t.5))

  -- the leader accepted each delivered batch
  owned_batch : (i : ℕ) (s : Slot) (b : Batch) → delivered relay p i (w i) s.0 ≡ Some (Value_batch b) →
      In {A = Slot × Batch} (s, b) (accepts (w p.leader.0))
  owned_batch i s b d =
      let a = owned i s.0 (Value_batch b) d in
      let same : a.0 ≡ b = sym (holds-injective b a.0 a.1) in
      subst (λ (x : Batch). In {A = Slot × Batch} (s, x) (accepts (w p.leader.0))) same a.2

  is-broadcast : IsGoodParams relay p → IsBroadcast relay p w
  is-broadcast good = record {
    agreement = λ i j s x y _ _ d e.
        let a = owned i s x d in
        let b = owned j s y e in
        a.1 ∙ ap (λ (t : Batch). Value_batch t) (once p p.leader.0 (w p.leader.0) (record { 0 = s }) a.0 b.0 (legal.made p.leader.0) a.2 b.2) ∙ sym b.1;
    shared = λ i j s t b c _ _ d e. record { node = p.leader.0; correct = all-correct relay p good refl p.leader.0 good.leader; first = owned_batch i s b d; second = owned_batch j t c e };
    integrity = λ i s b _ _ d. owned_batch i s b d;
  }

pub relay-safe : IsSafe relay
relay-safe = safe-legal relay (λ p w good legal sep. is-broadcast p w legal good)

no-leaves : (o : Option (Slot × Batch)) → (made_of o).used ≤ 0
no-leaves None = omega arith
no-leaves (Some a) = omega arith

-- the relay sends only to all
not-one : (o : Option (Slot × Batch)) (k : NodeId) (msg : Say) (n : ℕ) →
    In {A = To × Say} (To_one k, msg) (made_of o).sends → k.0 < n
not-one None k msg n h = absurd h
not-one (Some a) k msg n (inl e) = let to : To_one k ≡ To_all = ap (λ (z : To × Say). z.0) e in cc
not-one (Some a) k msg n (inr h) = absurd h

-- the batch of a received cast decodes, and so does the message with it
sent-again : (p : Params) (me : ℕ) (xs : List (Item Say)) (i : Input Say) (to : To) (msg : Say) → IsGoodParams relay p →
    IsHeard relay p i → In {A = To × Say} (to, msg) (made_of (asks p me xs i)).sends → IsReadMessage relay p msg
sent-again p me xs i to msg good heard sent =
    let a = asked p me xs i msg.slot msg.batch (sent-is (asks p me xs i) to msg sent) in
    let low : msg.slot.0 < 2 ^ 64 = below-In (2 ^ 64) msg.slot p.slots good.slots_low (has_slot-In msg.slot p.slots a.within) in
    let batch : IsReadBatch p msg.batch = subst (λ (y : Input Say). IsHeard relay p y) a.cast heard in
    say-again p.setup.version msg low batch

pub relay-lawful : IsLawful relay
relay-lawful = record {
  names = λ p from msg c h. absurd h;
  accepted = λ p me xs i leaf. accepted-is (asks p me xs i);
  casts = λ p me xs s b x h. cast-is s b x (asked p me xs (Cast s b) x.0 x.1 h).cast;
  castable = λ p me xs s b c h.
      let a = asked p me xs (Cast s b) s b h in
      rw (eq-eqb me p.leader.0 a.leads, a.within, a.fresh) refl;
  asked_within = λ p me xs i x h. has_slot-In x.0 p.slots (asked p me xs i x.0 x.1 h).within;
  decided_within = λ p me xs s x h. has_slot-In s p.slots (decided-said p me xs s.0 x h).0;
  addressed = λ p me xs i leaf k msg good input h. not-one (asks p me xs i) k msg p.setup.n h;
  read_again = λ p me xs i leaf to msg good below heard input sent. sent-again p me xs i to msg good input sent;
  few = λ p good. omega arith;
  uses = λ p me xs i leaf good input. no-leaves (asks p me xs i);
}

pub relay-once : SignsOnce relay
relay-once = silent-once relay (λ p from msg c h. h) (λ p me xs i leaf. let few = no-leaves (asks p me xs i) in omega (arith, few))

-- ---- what is decided decodes

heard-in : (p : Params) (me : ℕ) (xs : List (Item Say)) (x : Item Say) → AreHeard relay p me xs → In x xs →
    IsHeard relay p x.input
heard-in p me [] x heard h = absurd h
heard-in p me (y ∷ xs) x heard (inl e) = subst (λ (z : Item Say). IsHeard relay p z.input) (sym e) heard.0
heard-in p me (y ∷ xs) x heard (inr i) = heard-in p me xs x heard.2 i

pub relay-decides-readable : DecidesReadable relay
relay-decides-readable p me xs s x good below heard h =
    let r = said-told p xs s x (decided-said p me xs s x h).1 in
    let k : IsHeard relay p (Receive p.leader r.0) = subst (λ (z : Input Say). IsHeard relay p z) r.5 (heard-in p me xs r.1 heard r.4) in
    subst (λ (z : Value). IsReadAgain (spell_value p.setup.version) (parse_value p.setup.version) z) (sym r.2) (say-batch p.setup.version r.0 k.1)
