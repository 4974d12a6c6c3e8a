-- Facts about one node's history in which each step is what the rules make.
use Rattle.std.proofs.Common.{◌≡◌, ◌+◌, ℕ, Bool, true, false, ◌&&◌, ◌==◌, not, if◌then◌else◌, List, [], ◌∷◌, Option, Some, None, is_some, refl, sym, ap, ◌∙◌, subst, inl, inr, ◌⊎◌, arith, true≢false}
use Rattle.std.proofs.lemmas.Bool.{leb-true, le-leb}
use Rattle.iss_base.specs.Lists.{In, same_bytes}
use Rattle.iss_base.proofs.Lists.{and-true, first-cases, same_bytes-is, some-injective, or-cases}
use Rattle.iss_request.specs.declared.ids.NodeId.{NodeId}
use Rattle.iss_request.specs.declared.ids.Slot.{Slot}
use Rattle.iss_request.specs.declared.requests.Batch.{Batch}
use Rattle.iss_request.specs.declared.requests.Value.{Value}
use Rattle.iss_request.specs.declared.requests.Value.TheVariants.{Batch as Value_batch}
use Rattle.iss_sb.specs.declared.effects.Claim.{Claim}
use Rattle.iss_sb.specs.declared.effects.Input.{Input}
use Rattle.iss_sb.specs.declared.effects.Input.TheVariants.{Cast, Receive, Timeout}
use Rattle.iss_sb.specs.declared.effects.Params.{Params}
use Rattle.iss_sb.specs.declared.effects.To.{To}
use Rattle.iss_sb.specs.Calls.{has_slot}
use Rattle.iss_sb.specs.Evidence.{Item, Made, accepts}
use Rattle.iss_sb.specs.Legal.{AreMade}
use Rattle.iss_sb.proofs.Slots.{node-is, slot-is}
use Rattle.iss_sb.proofs.Worlds.{accepts-cases, accepts-new, accepts-old}
use Rattle.sb_echo.specs.declared.word.Word.{Word}
use Rattle.sb_echo.specs.declared.word.Word.TheVariants.{Say, Echo as Echo_word}
use Rattle.sb_echo.specs.Echo.{asks, batch_for, claims, decide, decided, digest_of, echo, echo_of, has_echo, is_cast, is_echo, is_echoed, is_open, made_of, makes, say, statement, taken, string_of, words}
use Rattle.sb_echo.proofs.Bytes.{is-same, same-is}
use Rattle.iss_base.proofs.Quorum.{count-mono, or_right_true}

abbrev pub Same : Input Word → Input Word → Type 0
Same x y = x ≡ y

-- ---- accepted batches

pub none-is : {A : Type 0} (o : Option A) → not (is_some o) ≡ true → o ≡ None
none-is None h = refl
none-is (Some x) h = absurd (true≢false (sym h))

pub record IsOpen (p : Params) (s : ℕ) (xs : List (Item Word)) : Type 0 where
  pub within : has_slot s p.slots ≡ true
  pub fresh : taken s xs ≡ None

open-is : (p : Params) (s : ℕ) (xs : List (Item Word)) → is_open p s xs ≡ true → IsOpen p s xs
open-is p s xs h = let t = and-true (has_slot s p.slots) (not (is_some (taken s xs))) h in record { within = t.0; fresh = none-is (taken s xs) t.1 }

-- the leader's batch for a slot
pub record IsTold (p : Params) (i : Input Word) (a : Slot × Batch) : Type 0 where
  pub sig : List ℕ
  pub input : Same i (Receive p.leader (Say a.0 a.1 sig))

pub record IsOwn (p : Params) (me : ℕ) (i : Input Word) (a : Slot × Batch) : Type 0 where
  pub leads : me ≡ p.leader.0
  pub input : Same i (Cast a.0 a.1)

pub record IsAsked (p : Params) (me : ℕ) (xs : List (Item Word)) (i : Input Word) (a : Slot × Batch) : Type 0 where
  pub free : IsOpen p a.0.0 xs
  pub cause : IsOwn p me i a ⊎ IsTold p i a

pub asked : (p : Params) (me : ℕ) (xs : List (Item Word)) (i : Input Word) (a : Slot × Batch) →
    asks p me xs i ≡ Some a → IsAsked p me xs i a
asked p me xs Timeout a h = absurd (cc)
asked p me xs (Receive from (Echo_word slot d sig)) a h = absurd (cc)
asked p me xs (Cast slot batch) a h = go ((me == p.leader.0) && is_open p slot.0 xs) refl h
  where
    go : (t : Bool) → ((me == p.leader.0) && is_open p slot.0 xs) ≡ t →
        ◌≡◌ {A = Option (Slot × Batch)} (if t then Some (slot, batch) else None) (Some a) →
        IsAsked p me xs (Cast slot batch) a
    go false q r = absurd (cc)
    go true q r =
        let t = and-true (me == p.leader.0) (is_open p slot.0 xs) q in
        subst (λ (z : Slot × Batch). IsAsked p me xs (Cast slot batch) z) (some-injective {A = Slot × Batch} (slot, batch) a r)
        (record { free = open-is p slot.0 xs t.1; cause = inl (record { leads = is-same me p.leader.0 t.0; input = refl }) })
asked p me xs (Receive from (Say slot batch sig)) a h = go ((from.0 == p.leader.0) && is_open p slot.0 xs) refl h
  where
    go : (t : Bool) → ((from.0 == p.leader.0) && is_open p slot.0 xs) ≡ t →
        ◌≡◌ {A = Option (Slot × Batch)} (if t then Some (slot, batch) else None) (Some a) →
        IsAsked p me xs (Receive from (Say slot batch sig)) a
    go false q r = absurd (cc)
    go true q r =
        let t = and-true (from.0 == p.leader.0) (is_open p slot.0 xs) q in
        let leader : from ≡ p.leader = node-is from p.leader (is-same from.0 p.leader.0 t.0) in
        subst (λ (z : Slot × Batch). IsAsked p me xs (Receive from (Say slot batch sig)) z) (some-injective {A = Slot × Batch} (slot, batch) a r)
        (record { free = open-is p slot.0 xs t.1; cause = inr (record { sig = sig; input = ap (λ (k : NodeId). Receive k (Say slot batch sig)) leader }) })

-- ---- effects

pub accepted-is : (p : Params) (me leaf : ℕ) (cast : Bool) (o : Option (Slot × Batch)) →
    (made_of p me leaf cast o).accepted ≡ o
accepted-is p me leaf cast None = refl
accepted-is p me leaf cast (Some a) = refl

made-accepted : (p : Params) (me : ℕ) (x : Item Word) (xs : List (Item Word)) (a : Slot × Batch) →
    AreMade echo p me (x ∷ xs) → x.made.accepted ≡ Some a → asks p me xs x.input ≡ Some a
made-accepted p me x xs a made h =
    let is : x.made ≡ makes p me xs x.input x.leaf = made.0 in
    sym (accepted-is p me x.leaf (is_cast x.input) (asks p me xs x.input)) ∙ sym (ap (λ (z : Made Word). z.accepted) is) ∙ h

-- ---- the batch of a slot

pub batch_for-is : (s : ℕ) (o : Option (Slot × Batch)) (b : Batch) → batch_for s o ≡ Some b →
    ◌≡◌ {A = Option (Slot × Batch)} o (Some (record { 0 = s }, b))
batch_for-is s None b h = absurd (cc)
batch_for-is s (Some a) b h = go (a.0.0 == s) refl h
  where
    go : (t : Bool) → (a.0.0 == s) ≡ t → (if t then Some a.1 else None) ≡ Some b →
        ◌≡◌ {A = Option (Slot × Batch)} (Some a) (Some (record { 0 = s }, b))
    go false q r = absurd (cc)
    go true q r =
        let slots : a.0 ≡ record { 0 = s } = slot-is a.0 (record { 0 = s }) (is-same a.0.0 s q) in
        let batches : a.1 ≡ b = some-injective a.1 b r in
        ap (λ (z : Slot). let o : Option (Slot × Batch) = Some (z, a.1) in o) slots ∙ ap (λ (z : Batch). let o : Option (Slot × Batch) = Some (record { 0 = s }, z) in o) batches

-- the batch of a slot was accepted there
pub taken-accepted : (xs : List (Item Word)) (s : ℕ) (b : Batch) → taken s xs ≡ Some b →
    In {A = Slot × Batch} (record { 0 = s }, b) (accepts xs)
taken-accepted [] s b h = absurd (cc)
taken-accepted (x ∷ xs) s b h = elim (first-cases (taken s xs) (batch_for s x.made.accepted) b h) [
  | inl a ↦ accepts-old x xs (record { 0 = s }, b) (taken-accepted xs s b a)
  | inr a ↦ accepts-new x xs (record { 0 = s }, b) (batch_for-is s x.made.accepted b a.1)
]

-- an accepted batch is that of its slot, since there was none
pub accepted-taken : (p : Params) (me : ℕ) (xs : List (Item Word)) (a : Slot × Batch) → AreMade echo p me xs →
    In a (accepts xs) → taken a.0.0 xs ≡ Some a.1
accepted-taken p me [] a made h = absurd h
accepted-taken p me (x ∷ xs) a made h = elim (accepts-cases x xs a h) [
  | inl q ↦
      let fresh : taken a.0.0 xs ≡ None = (asked p me xs x.input a (made-accepted p me x xs a made q)).free.fresh in
      rw (fresh, q, same-is a.0.0 a.0.0 refl) refl
  | inr k ↦ let t : taken a.0.0 xs ≡ Some a.1 = accepted-taken p me xs a made.1 k in rw t refl
]

pub once : (p : Params) (me : ℕ) (xs : List (Item Word)) (s : Slot) (b c : Batch) → AreMade echo p me xs →
    In {A = Slot × Batch} (s, b) (accepts xs) → In {A = Slot × Batch} (s, c) (accepts xs) → b ≡ c
once p me xs s b c made h k = some-injective b c (sym (accepted-taken p me xs (s, b) made h) ∙ accepted-taken p me xs (s, c) made k)

-- ---- the origin of accepted batches, and what is sent for them

pub record IsAccepted (p : Params) (me : ℕ) (xs : List (Item Word)) (a : Slot × Batch) : Type 0 where
  pub item : Item Word
  pub stands : In item xs
  pub cause : IsOwn p me item.input a ⊎ IsTold p item.input a
  pub hashed : In (string_of p a.1) item.made.strings

pub accepted-cause : (p : Params) (me : ℕ) (xs : List (Item Word)) (a : Slot × Batch) → AreMade echo p me xs →
    In a (accepts xs) → IsAccepted p me xs a
accepted-cause p me [] a made h = absurd h
accepted-cause p me (x ∷ xs) a made h = elim (accepts-cases x xs a h) [
  | inl q ↦
      let ask = made-accepted p me x xs a made q in
      let is : x.made ≡ made_of p me x.leaf (is_cast x.input) (Some a) = made.0 ∙ ap (made_of p me x.leaf (is_cast x.input)) ask in
      record { item = x; stands = inl refl; cause = (asked p me xs x.input a ask).cause; hashed = rw is (inl refl) }
  | inr k ↦ let r = accepted-cause p me xs a made.1 k in record { item = r.item; stands = inr r.stands; cause = r.cause; hashed = r.hashed }
]

-- a message with a claim on the digest of the accepted batch
pub record IsSentFor (p : Params) (me : ℕ) (xs : List (Item Word)) (msg : Word) : Type 0 where
  pub accepted : Slot × Batch
  pub stands : In accepted (accepts xs)
  pub kind : ℕ
  pub states : (c : Claim) → In c (claims p me msg) →
      c.statement ≡ statement p kind accepted.0.0 (digest_of p accepted.1)

abbrev States : Params → ℕ → Slot × Batch → Word → Type 0
States p me a msg = (kind : ℕ) × ((c : Claim) → In c (claims p me msg) → c.statement ≡ statement p kind a.0.0 (digest_of p a.1))

say-states : (p : Params) (me leaf : ℕ) (a : Slot × Batch) → States p me a (say p me leaf a)
say-states p me leaf a = (1, λ c h. elim h [ inl e ↦ ap (λ (z : Claim). z.statement) e | inr k ↦ absurd k ])

echo-states : (p : Params) (me leaf : ℕ) (a : Slot × Batch) → States p me a (echo_of p me leaf a)
echo-states p me leaf a = (2, λ c h. elim h [ inl e ↦ ap (λ (z : Claim). z.statement) e | inr k ↦ absurd k ])

words-state : (p : Params) (me leaf : ℕ) (cast : Bool) (a : Slot × Batch) (to : To) (msg : Word) →
    In {A = To × Word} (to, msg) (words p me leaf cast a) → States p me a msg
words-state p me leaf true a to msg (inl e) = subst (λ (z : To × Word). States p me a z.1) (sym e) (say-states p me leaf a)
words-state p me leaf true a to msg (inr (inl e)) = subst (λ (z : To × Word). States p me a z.1) (sym e) (echo-states p me (leaf + 1) a)
words-state p me leaf true a to msg (inr (inr h)) = absurd h
words-state p me leaf false a to msg (inl e) = subst (λ (z : To × Word). States p me a z.1) (sym e) (echo-states p me leaf a)
words-state p me leaf false a to msg (inr h) = absurd h

pub sent-for : (p : Params) (me : ℕ) (xs : List (Item Word)) (x : Item Word) (to : To) (msg : Word) →
    AreMade echo p me xs → In x xs → In {A = To × Word} (to, msg) x.made.sends → IsSentFor p me xs msg
sent-for p me [] x to msg made h k = absurd h
sent-for p me (y ∷ ys) x to msg made (inr h) k =
    let r = sent-for p me ys x to msg made.1 h k in
    record { accepted = r.accepted; stands = accepts-old y ys r.accepted r.stands; kind = r.kind; states = r.states }
sent-for p me (y ∷ ys) x to msg made (inl e) k = go (asks p me ys y.input) refl
  where
    go : (o : Option (Slot × Batch)) → asks p me ys y.input ≡ o → IsSentFor p me (y ∷ ys) msg
    go o q = by_case o is (subst (λ (z : Made Word). In {A = To × Word} (to, msg) z.sends) (ap (λ (z : Item Word). z.made) e ∙ is) k)
      where
        is : y.made ≡ made_of p me y.leaf (is_cast y.input) o
        is = made.0 ∙ ap (made_of p me y.leaf (is_cast y.input)) q

        by_case : (o : Option (Slot × Batch)) → y.made ≡ made_of p me y.leaf (is_cast y.input) o →
            In {A = To × Word} (to, msg) (made_of p me y.leaf (is_cast y.input) o).sends → IsSentFor p me (y ∷ ys) msg
        by_case None is h = absurd h
        by_case (Some a) is h =
            let s = words-state p me y.leaf (is_cast y.input) a to msg h in
            record { accepted = a; stands = accepts-new y ys a (ap (λ (z : Made Word). z.accepted) is); kind = s.0; states = s.1 }

-- ---- echoes

pub record IsEchoOf (s : ℕ) (d : List ℕ) (k : ℕ) (i : Input Word) : Type 0 where
  pub from : NodeId
  pub slot : Slot
  pub sig : List ℕ
  pub input : Same i (Receive from (Echo_word slot d sig))
  pub by : from.0 ≡ k
  pub at_slot : slot.0 ≡ s

echo-is : (s : ℕ) (d : List ℕ) (k : ℕ) (i : Input Word) → is_echo s d k i ≡ true → IsEchoOf s d k i
echo-is s d k (Cast slot batch) h = absurd (true≢false (sym h))
echo-is s d k Timeout h = absurd (true≢false (sym h))
echo-is s d k (Receive from (Say slot batch sig)) h = absurd (true≢false (sym h))
echo-is s d k (Receive from (Echo_word slot e sig)) h =
    let t = and-true (from.0 == k) ((slot.0 == s) && same_bytes e d) h in
    let u = and-true (slot.0 == s) (same_bytes e d) t.1 in
    record { from = from; slot = slot; sig = sig; input = ap (λ (z : List ℕ). Receive from (Echo_word slot z sig)) (same_bytes-is e d u.1); by = is-same from.0 k t.0; at_slot = is-same slot.0 s u.0 }

pub has_echo-is : (s : ℕ) (d : List ℕ) (k : ℕ) (xs : List (Item Word)) → has_echo s d k xs ≡ true →
    (x : Item Word) × In x xs × IsEchoOf s d k x.input
has_echo-is s d k [] h = absurd (true≢false (sym h))
has_echo-is s d k (x ∷ xs) h = elim (or-cases (is_echo s d k x.input) (has_echo s d k xs) h) [
  | inl a ↦ (x, inl refl, echo-is s d k x.input a)
  | inr a ↦ let r = has_echo-is s d k xs a in (r.0, inr r.1, r.2)
]

-- ---- decided values

pub record IsDecided (p : Params) (xs : List (Item Word)) (s : ℕ) (v : Value) : Type 0 where
  pub batch : Batch
  pub value : v ≡ Value_batch batch
  pub within : has_slot s p.slots ≡ true
  pub taken : taken s xs ≡ Some batch
  pub echoed : is_echoed p s (digest_of p batch) xs ≡ true

pub decided-is : (p : Params) (me : ℕ) (xs : List (Item Word)) (s : ℕ) (v : Value) → decided p me xs s ≡ Some v →
    IsDecided p xs s v
decided-is p me xs s v h = go (taken s xs) refl h
  where
    go : (o : Option Batch) → taken s xs ≡ o → decide p s xs o ≡ Some v → IsDecided p xs s v
    go None q r = absurd (cc)
    go (Some b) q r = there (has_slot s p.slots && is_echoed p s (digest_of p b) xs) refl r
      where
        there : (t : Bool) → (has_slot s p.slots && is_echoed p s (digest_of p b) xs) ≡ t →
            (if t then Some (Value_batch b) else None) ≡ Some v → IsDecided p xs s v
        there false u z = absurd (cc)
        there true u z =
            let k = and-true (has_slot s p.slots) (is_echoed p s (digest_of p b) xs) u in
            record { batch = b; value = sym (some-injective (Value_batch b) v z); within = k.0; taken = q; echoed = k.1 }

echoed-stays : (p : Params) (s : ℕ) (d : List ℕ) (y : Item Word) (xs : List (Item Word)) → is_echoed p s d xs ≡ true →
    is_echoed p s d (y ∷ xs) ≡ true
echoed-stays p s d y xs h =
    let a = leb-true _ _ h in
    let b = count-mono (λ k. has_echo s d k xs) (λ k. has_echo s d k (y ∷ xs)) p.setup.n (λ k l e. or_right_true (is_echo s d k y.input) (has_echo s d k xs) e) in
    le-leb _ _ (omega arith)

pub decided-stays : (p : Params) (me : ℕ) (xs : List (Item Word)) (y : Item Word) (s : ℕ) (v : Value) →
    decided p me xs s ≡ Some v → decided p me (y ∷ xs) s ≡ Some v
decided-stays p me xs y s v h =
    let d = decided-is p me xs s v h in
    let t : taken s xs ≡ Some d.batch = d.taken in
    let e = echoed-stays p s (digest_of p d.batch) y xs d.echoed in
    rw (t, d.within, e) (ap (λ (z : Value). Some z) (sym d.value))
