-- Each rule's step, from a state that represents a history.
use Rattle.std.proofs.Common.{◌≡◌, ◌+◌, ℕ, Bool, true, false, not, ◌&&◌, ◌||◌, ◌==◌, if◌then◌else◌, List, [], ◌∷◌, Option, Some, None, is_some, refl, sym, ap, ◌∙◌, subst, ◌↔◌, IsTrue, true≢false}
use Rattle.std.specs.Prelude.{nat_le}
use Rattle.iss_base.specs.Lists.{first_of, same_bytes}
use Rattle.iss_base.proofs.Lists.{and-true, first_of-none}
use Rattle.iss_request.specs.declared.ids.NodeId.{NodeId}
use Rattle.iss_request.specs.declared.ids.Slot.{Slot}
use Rattle.iss_request.specs.declared.requests.Batch.{Batch}
use Rattle.iss_request.specs.declared.requests.Value.{Value}
use Rattle.iss_request.specs.declared.requests.Value.TheVariants.{Batch as Value_batch}
use Rattle.iss_sb.specs.declared.effects.Effects.{Effects}
use Rattle.iss_sb.specs.declared.effects.Input.{Input}
use Rattle.iss_sb.specs.declared.effects.Input.TheVariants.{Cast, Receive, Timeout}
use Rattle.iss_sb.specs.declared.effects.Params.{Params}
use Rattle.iss_sb.specs.declared.effects.To.{To}
use Rattle.iss_sb.specs.declared.effects.To.TheVariants.{All as To_all}
use Rattle.iss_sb.specs.Calls.{IsNothing, IsTaken, has_slot}
use Rattle.iss_sb.specs.Evidence.{Item, and_then}
use Rattle.iss_sb.specs.Statements.{signature}
use Rattle.sb_echo.specs.declared.echo.Echo.{Echo}
use Rattle.sb_echo.specs.declared.echo.Place.{Place}
use Rattle.sb_echo.specs.declared.echo.Place.TheVariants.{Waiting, Delivered}
use Rattle.sb_echo.specs.declared.word.Word.{Word}
use Rattle.sb_echo.specs.declared.word.Word.TheVariants.{Say, Echo as Echo_word}
use Rattle.sb_echo.specs.Echo.{asks, batch_for, decide, decided, digest_of, echo, has_echo, is_cast, is_echo, is_echoed, is_open, made_of, makes, statement, taken, words}
use Rattle.sb_echo.specs.Heard.{has}
use Rattle.sb_echo.specs.Internal.Refines.{HasCompleted, HasTaken, Refines, completed_of, is_free, is_heard, may_cast, may_take, one_at, place_at, place_for}
use Rattle.sb_echo.proofs.Bytes.{is-same, same-is}
use Rattle.sb_echo.proofs.Facts.{accepted-is, decided-stays, none-is}
use Rattle.sb_echo.proofs.Marks.{IsQuiet, count-alike, decide-quiet, delivers-at, echo-apart, newly, other, some-place}

-- the value that is delivered is decided now, and was not before; the batch that was accepted there is o
record IsAt (p : Params) (o : Option Batch) (before now out : Option Value) : Type 0 where
  pub value : out ≡ newly before now
  pub place : (if is_some out then Some Delivered else place_for p o before) ≡ place_for p o now

at-fresh : (p : Params) (b : Batch) (t : Bool) →
    IsAt p (Some b) None (if t then Some (Value_batch b) else None) (if t then Some (Value_batch b) else None)
at-fresh p b true = record { value = refl; place = refl }
at-fresh p b false = record { value = refl; place = refl }

module _ (m : Echo) (p : Params) (me : ℕ) (xs : List (Item Word)) (st : Refines m p me xs) where
  -- ---- the tests

  heard-is : (s : ℕ) (d : List ℕ) → has_slot s p.slots ≡ true → is_heard m p s d ≡ is_echoed p s d xs
  heard-is s d within = ap (λ n. nat_le p.setup.quorum n) (count-alike (λ k. has m.heard s d k) (λ k. has_echo s d k xs) p.setup.n (λ k. st.heard s d k within))

  free-is : (s : ℕ) → is_free m p s ≡ is_open p s xs
  free-is s = ap (λ (b : Bool). has_slot s p.slots && not b) (ap (λ (o : Option Place). is_some o) (st.places s) ∙ some-place p (taken s xs) (decided p me xs s))

  pub asks-cast : (slot : Slot) (batch : Batch) →
      asks p me xs (Cast slot batch) ≡ (if may_cast m p slot then Some (slot, batch) else None)
  asks-cast slot batch = ap (λ (b : Bool). let o : Option (Slot × Batch) = if b then Some (slot, batch) else None in o)
      (ap (λ (n : ℕ). (n == p.leader.0) && is_open p slot.0 xs) (sym st.node) ∙ ap (λ (b : Bool). (m.me.0 == p.leader.0) && b) (sym (free-is slot.0)))

  pub asks-say : (from : NodeId) (slot : Slot) (batch : Batch) (sig : List ℕ) →
      asks p me xs (Receive from (Say slot batch sig)) ≡ (if may_take m p from slot then Some (slot, batch) else None)
  asks-say from slot batch sig = ap (λ (b : Bool). let o : Option (Slot × Batch) = if (from.0 == p.leader.0) && b then Some (slot, batch) else None in o) (sym (free-is slot.0))

  -- ---- one input more

  abbrev item : Input Word → ℕ → Item Word
  item i leaf = record { input = i; leaf = leaf; made = made_of p me leaf (is_cast i) (asks p me xs i) }

  abbrev later : Input Word → ℕ → List (Item Word)
  later i leaf = item i leaf ∷ xs

  accepts-is : (i : Input Word) (leaf : ℕ) (o : Option (Slot × Batch)) → asks p me xs i ≡ o →
      (item i leaf).made.accepted ≡ o
  accepts-is i leaf o q = accepted-is p me leaf (is_cast i) (asks p me xs i) ∙ q

  taken-is : (i : Input Word) (leaf s : ℕ) (o : Option (Slot × Batch)) → asks p me xs i ≡ o →
      taken s (later i leaf) ≡ first_of (taken s xs) (batch_for s o)
  taken-is i leaf s o q = ap (λ (z : Option (Slot × Batch)). first_of (taken s xs) (batch_for s z)) (accepts-is i leaf o q)

  taken-idle : (i : Input Word) (leaf s : ℕ) → asks p me xs i ≡ None → taken s (later i leaf) ≡ taken s xs
  taken-idle i leaf s q = taken-is i leaf s None q ∙ first_of-none (taken s xs)

  decided-is-of : (i : Input Word) (leaf s : ℕ) (o : Option Batch) → taken s (later i leaf) ≡ o →
      decided p me (later i leaf) s ≡ decide p s (later i leaf) o
  decided-is-of i leaf s o q = ap (λ (z : Option Batch). decide p s (later i leaf) z) q

  same-place : (s : ℕ) (ys : List (Item Word)) → taken s ys ≡ taken s xs → decided p me ys s ≡ decided p me xs s →
      place_at s m ≡ place_for p (taken s ys) (decided p me ys s)
  same-place s ys a b = st.places s ∙ ap (λ (o : Option Batch). place_for p o (decided p me xs s)) (sym a) ∙ ap (λ (o : Option Value). place_for p (taken s ys) o) (sym b)

  -- ---- an input that changes nothing

  decided-idle : (i : Input Word) (leaf s : ℕ) → asks p me xs i ≡ None → IsQuiet p s i →
      decided p me (later i leaf) s ≡ decided p me xs s
  decided-idle i leaf s q quiet = decided-is-of i leaf s (taken s xs) (taken-idle i leaf s q) ∙ decide-quiet p s (item i leaf) xs quiet (taken s xs)

  idle-refines : (i : Input Word) (leaf : ℕ) → asks p me xs i ≡ None → ((s : ℕ) → IsQuiet p s i) →
      Refines m p me (later i leaf)
  idle-refines i leaf q quiet = record {
    node = st.node;
    places = λ s. same-place s (later i leaf) (taken-idle i leaf s q) (decided-idle i leaf s q (quiet s));
    heard = λ s d k within. let no = quiet s within d k in rw no (st.heard s d k within);
  }

  abbrev pick : Slot
  pick = record { 0 = 0 }

  newly-same : (o : Option Value) → None ≡ newly o o
  newly-same None = refl
  newly-same (Some x) = refl

  idle-taken : (i : Input Word) (leaf : ℕ) (e : Effects Word) → asks p me xs i ≡ None → ((s : ℕ) → IsQuiet p s i) →
      IsNothing e → IsTaken echo p me xs i leaf e
  idle-taken i leaf e q quiet nothing = record {
    sends = rw q nothing.sends;
    accepted = rw q nothing.accepted;
    hashed = rw q nothing.hashed;
    delivers = delivers-at p me xs i leaf pick None
        (newly-same (decided p me xs 0) ∙ ap (λ (o : Option Value). newly (decided p me xs 0) o) (sym (decided-idle i leaf 0 q (quiet 0))))
        (λ s ne. decided-idle i leaf s q (quiet s)) e.delivers nothing.delivers;
  }

  asks-as-cast : (slot : Slot) (batch : Batch) (b : Bool) → may_cast m p slot ≡ b →
      asks p me xs (Cast slot batch) ≡ (if b then Some (slot, batch) else None)
  asks-as-cast slot batch b h = asks-cast slot batch ∙ ap (λ (b : Bool). let o : Option (Slot × Batch) = if b then Some (slot, batch) else None in o) h

  asks-as-say : (from : NodeId) (slot : Slot) (batch : Batch) (sig : List ℕ) (b : Bool) → may_take m p from slot ≡ b →
      asks p me xs (Receive from (Say slot batch sig)) ≡ (if b then Some (slot, batch) else None)
  asks-as-say from slot batch sig b h = asks-say from slot batch sig ∙ ap (λ (b : Bool). let o : Option (Slot × Batch) = if b then Some (slot, batch) else None in o) h

  pub idle_cast-refines : (slot : Slot) (batch : Batch) (leaf : ℕ) → may_cast m p slot ≡ false →
      Refines m p me (and_then echo p me xs (Cast slot batch) leaf)
  idle_cast-refines slot batch leaf h = idle-refines (Cast slot batch) leaf (asks-as-cast slot batch false h) (λ s within d k. refl)

  pub idle_cast-taken : (slot : Slot) (batch : Batch) (leaf : ℕ) (e : Effects Word) → may_cast m p slot ≡ false →
      IsNothing e → IsTaken echo p me xs (Cast slot batch) leaf e
  idle_cast-taken slot batch leaf e h nothing = idle-taken (Cast slot batch) leaf e (asks-as-cast slot batch false h) (λ s within d k. refl) nothing

  pub idle_say-refines : (from : NodeId) (slot : Slot) (batch : Batch) (sig : List ℕ) (leaf : ℕ) →
      may_take m p from slot ≡ false → Refines m p me (and_then echo p me xs (Receive from (Say slot batch sig)) leaf)
  idle_say-refines from slot batch sig leaf h = idle-refines (Receive from (Say slot batch sig)) leaf (asks-as-say from slot batch sig false h) (λ s within d k. refl)

  pub idle_say-taken : (from : NodeId) (slot : Slot) (batch : Batch) (sig : List ℕ) (leaf : ℕ) (e : Effects Word) →
      may_take m p from slot ≡ false → IsNothing e → IsTaken echo p me xs (Receive from (Say slot batch sig)) leaf e
  idle_say-taken from slot batch sig leaf e h nothing = idle-taken (Receive from (Say slot batch sig)) leaf e (asks-as-say from slot batch sig false h) (λ s within d k. refl) nothing

  pub idle_timeout-refines : (leaf : ℕ) → Refines m p me (and_then echo p me xs Timeout leaf)
  idle_timeout-refines leaf = idle-refines Timeout leaf refl (λ s within d k. refl)

  pub idle_timeout-taken : (leaf : ℕ) (e : Effects Word) → IsNothing e → IsTaken echo p me xs Timeout leaf e
  idle_timeout-taken leaf e nothing = idle-taken Timeout leaf e refl (λ s within d k. refl) nothing

  -- an echo at a slot of another segment
  outside-quiet : (from : NodeId) (slot : Slot) (d sig : List ℕ) → has_slot slot.0 p.slots ≡ false → (s : ℕ) →
      IsQuiet p s (Receive from (Echo_word slot d sig))
  outside-quiet from slot d sig out s within e k = echo-apart from slot d sig s e k (other slot.0 s (λ q. true≢false (sym within ∙ ap (λ (n : ℕ). has_slot n p.slots) q ∙ out)))

  pub idle_echo-refines : (from : NodeId) (slot : Slot) (d sig : List ℕ) (leaf : ℕ) → has_slot slot.0 p.slots ≡ false →
      Refines m p me (and_then echo p me xs (Receive from (Echo_word slot d sig)) leaf)
  idle_echo-refines from slot d sig leaf out = idle-refines (Receive from (Echo_word slot d sig)) leaf refl (outside-quiet from slot d sig out)

  pub idle_echo-taken : (from : NodeId) (slot : Slot) (d sig : List ℕ) (leaf : ℕ) (e : Effects Word) →
      has_slot slot.0 p.slots ≡ false → IsNothing e → IsTaken echo p me xs (Receive from (Echo_word slot d sig)) leaf e
  idle_echo-taken from slot d sig leaf e out nothing = idle-taken (Receive from (Echo_word slot d sig)) leaf e refl (outside-quiet from slot d sig out) nothing

  -- ---- an input that is no echo and makes the node accept a batch

  record IsFree (s : ℕ) : Type 0 where
    pub within : has_slot s p.slots ≡ true
    pub fresh : taken s xs ≡ None

  free-parts : (s : ℕ) → is_free m p s ≡ true → IsFree s
  free-parts s h =
      let t = and-true (has_slot s p.slots) (not (is_some (taken s xs))) (sym (free-is s) ∙ h) in
      record { within = t.0; fresh = none-is (taken s xs) t.1 }

  module _ (i : Input Word) (leaf : ℕ) (slot : Slot) (batch : Batch) (asked : asks p me xs i ≡ Some (slot, batch)) (quiet : (s : ℕ) (d : List ℕ) (k : ℕ) → is_echo s d k i ≡ false) (free : IsFree slot.0) where
    taken-here : taken slot.0 (later i leaf) ≡ Some batch
    taken-here = let none = free.fresh in let one = same-is slot.0 slot.0 refl in taken-is i leaf slot.0 (Some (slot, batch)) asked ∙ rw (none, one) refl

    taken-there : (s : ℕ) → (slot.0 == s) ≡ false → taken s (later i leaf) ≡ taken s xs
    taken-there s h = taken-is i leaf s (Some (slot, batch)) asked ∙ rw h (first_of-none (taken s xs))

    decided-here : decided p me (later i leaf) slot.0 ≡ (if is_heard m p slot.0 (digest_of p batch) then Some (Value_batch batch) else None)
    decided-here =
        let within = free.within in
        let heard = heard-is slot.0 (digest_of p batch) free.within in
        decided-is-of i leaf slot.0 (Some batch) taken-here ∙ decide-quiet p slot.0 (item i leaf) xs (λ w d k. quiet slot.0 d k) (Some batch) ∙ rw (within, heard) refl

    decided-there : (s : ℕ) → (slot.0 == s) ≡ false → decided p me (later i leaf) s ≡ decided p me xs s
    decided-there s h = decided-is-of i leaf s (taken s xs) (taken-there s h) ∙ decide-quiet p s (item i leaf) xs (λ w d k. quiet s d k) (taken s xs)

    place-here : (b : Bool) (d : List ℕ) → d ≡ digest_of p batch → ◌≡◌ {A = Option Place} (Some (if b then Delivered else Waiting d (Value_batch batch))) (place_for p (Some batch) (if b then Some (Value_batch batch) else None))
    place-here true d e = refl
    place-here false d e = ap (λ (z : List ℕ). let o : Option Place = Some (Waiting z (Value_batch batch)) in o) e

    taken-place : (n : Echo) (d : List ℕ) (e : Effects Word) → HasTaken p m n slot batch d e → (s : ℕ) →
        place_at s n ≡ place_for p (taken s (later i leaf)) (decided p me (later i leaf) s)
    taken-place n d e h s = h.places s ∙ go (slot.0 == s) refl
      where
        go : (b : Bool) → (slot.0 == s) ≡ b → (if b then Some (if is_heard m p slot.0 d then Delivered else Waiting d (Value_batch batch)) else place_at s m) ≡ place_for p (taken s (later i leaf)) (decided p me (later i leaf) s)
        go false q = same-place s (later i leaf) (taken-there s q) (decided-there s q)
        go true q =
            let here : slot.0 ≡ s = is-same slot.0 s q in
            subst (λ (z : ℕ). ◌≡◌ {A = Option Place} (Some (if is_heard m p slot.0 d then Delivered else Waiting d (Value_batch batch))) (place_for p (taken z (later i leaf)) (decided p me (later i leaf) z))) here
            (place-here (is_heard m p slot.0 d) d h.digest
            ∙ ap (λ (z : List ℕ). place_for p (Some batch) (if is_heard m p slot.0 z then Some (Value_batch batch) else None)) h.digest
            ∙ ap (λ (o : Option Value). place_for p (Some batch) o) (sym decided-here)
            ∙ ap (λ (o : Option Batch). place_for p o (decided p me (later i leaf) slot.0)) (sym taken-here))

    taken-refines : (n : Echo) (d : List ℕ) (e : Effects Word) → HasTaken p m n slot batch d e →
        Refines n p me (later i leaf)
    taken-refines n d e h = record {
      node = ap (λ (a : NodeId). a.0) h.node ∙ st.node;
      places = taken-place n d e h;
      heard = λ s d' k within. let no = quiet s d' k in let same = h.heard in rw (same, no) (st.heard s d' k within);
    }

    not-yet : decided p me xs slot.0 ≡ None
    not-yet = ap (λ (o : Option Batch). decide p slot.0 xs o) free.fresh

    taken-effects : (n : Echo) (d : List ℕ) (e f : Effects Word) → HasTaken p m n slot batch d e →
        f.sends ≡ words p me leaf (is_cast i) (slot, batch) → f.accepted ≡ e.accepted → f.hashed ≡ e.hashed →
        f.delivers ≡ e.delivers → IsTaken echo p me xs i leaf f
    taken-effects n d e f h sends accepted hashed delivers = record {
      sends = rw asked sends;
      accepted = accepted ∙ h.accepted ∙ sym asked;
      hashed = rw asked (hashed ∙ h.hashed);
      delivers = delivers-at p me xs i leaf slot (if is_heard m p slot.0 (digest_of p batch) then Some (Value_batch batch) else None)
          (sym decided-here ∙ ap (λ (o : Option Value). newly o (decided p me (later i leaf) slot.0)) (sym not-yet))
          (λ s ne. decided-there s (other slot.0 s ne)) f.delivers
          (delivers ∙ h.delivers ∙ ap (λ (z : List ℕ). one_at slot (if is_heard m p slot.0 z then Some (Value_batch batch) else None)) h.digest);
    }

  pub cast-refines : (slot : Slot) (batch : Batch) (leaf : ℕ) (n : Echo) (d : List ℕ) (e : Effects Word) →
      may_cast m p slot ≡ true → HasTaken p m n slot batch d e →
      Refines n p me (and_then echo p me xs (Cast slot batch) leaf)
  cast-refines slot batch leaf n d e may h =
      let t = and-true (m.me.0 == p.leader.0) (is_free m p slot.0) may in
      taken-refines (Cast slot batch) leaf slot batch (asks-as-cast slot batch true may) (λ s d k. refl) (free-parts slot.0 t.1) n d e h

  pub cast-taken : (slot : Slot) (batch : Batch) (leaf : ℕ) (n : Echo) (d : List ℕ) (e f : Effects Word) →
      may_cast m p slot ≡ true → HasTaken p m n slot batch d e →
      f.sends ≡ words p me leaf true (slot, batch) → f.accepted ≡ e.accepted → f.hashed ≡ e.hashed → f.delivers ≡ e.delivers → IsTaken echo p me xs (Cast slot batch) leaf f
  cast-taken slot batch leaf n d e f may h =
      let t = and-true (m.me.0 == p.leader.0) (is_free m p slot.0) may in
      taken-effects (Cast slot batch) leaf slot batch (asks-as-cast slot batch true may) (λ s d k. refl) (free-parts slot.0 t.1) n d e f h

  pub say-refines : (from : NodeId) (slot : Slot) (batch : Batch) (sig : List ℕ) (leaf : ℕ) (n : Echo) (d : List ℕ) (e : Effects Word) → may_take m p from slot ≡ true → HasTaken p m n slot batch d e → Refines n p me (and_then echo p me xs (Receive from (Say slot batch sig)) leaf)
  say-refines from slot batch sig leaf n d e may h =
      let t = and-true (from.0 == p.leader.0) (is_free m p slot.0) may in
      taken-refines (Receive from (Say slot batch sig)) leaf slot batch (asks-as-say from slot batch sig true may) (λ s d k. refl) (free-parts slot.0 t.1) n d e h

  pub say-taken : (from : NodeId) (slot : Slot) (batch : Batch) (sig : List ℕ) (leaf : ℕ) (n : Echo) (d : List ℕ) (e f : Effects Word) → may_take m p from slot ≡ true → HasTaken p m n slot batch d e →
      f.sends ≡ words p me leaf false (slot, batch) → f.accepted ≡ e.accepted → f.hashed ≡ e.hashed → f.delivers ≡ e.delivers → IsTaken echo p me xs (Receive from (Say slot batch sig)) leaf f
  say-taken from slot batch sig leaf n d e f may h =
      let t = and-true (from.0 == p.leader.0) (is_free m p slot.0) may in
      taken-effects (Receive from (Say slot batch sig)) leaf slot batch (asks-as-say from slot batch sig true may) (λ s d k. refl) (free-parts slot.0 t.1) n d e f h

  -- ---- an echo at a slot of the segment

  module _ (from : NodeId) (slot : Slot) (d sig : List ℕ) (leaf : ℕ) (within : has_slot slot.0 p.slots ≡ true) (h n : Echo) (v : Option Value)
      (same_node : h.me ≡ m.me) (same_places : h.places ≡ m.places) (hears : (s : ℕ) (e : List ℕ) (k : ℕ) → has h.heard s e k ≡ (((from.0 == k) && ((slot.0 == s) && same_bytes d e)) || has m.heard s e k)) (did : HasCompleted p h n slot v) where
    abbrev i : Input Word
    i = Receive from (Echo_word slot d sig)

    heard-now : (s : ℕ) (e : List ℕ) (k : ℕ) → has_slot s p.slots ≡ true →
        has h.heard s e k ≡ has_echo s e k (later i leaf)
    heard-now s e k w = hears s e k ∙ ap (λ (b : Bool). is_echo s e k i || b) (st.heard s e k w)

    counted : (e : List ℕ) → is_heard h p slot.0 e ≡ is_echoed p slot.0 e (later i leaf)
    counted e = ap (λ c. nat_le p.setup.quorum c) (count-alike (λ k. has h.heard slot.0 e k) (λ k. has_echo slot.0 e k (later i leaf)) p.setup.n (λ k. heard-now slot.0 e k within))

    decide-now : (b : Batch) → decide p slot.0 (later i leaf) (Some b) ≡ (if is_heard h p slot.0 (digest_of p b) then Some (Value_batch b) else None)
    decide-now b = let c = counted (digest_of p b) in rw (within, c) refl

    at-slot : (o : Option Batch) → taken slot.0 xs ≡ o → IsAt p o (decide p slot.0 xs o) (decide p slot.0 (later i leaf) o) (completed_of h p slot.0 (place_for p o (decide p slot.0 xs o)))
    at-slot None q = record { value = refl; place = refl }
    at-slot (Some b) q = go (decide p slot.0 xs (Some b)) refl
      where
        go : (x : Option Value) → decide p slot.0 xs (Some b) ≡ x → IsAt p (Some b) x (decide p slot.0 (later i leaf) (Some b)) (completed_of h p slot.0 (place_for p (Some b) x))
        go None r = subst (λ (z : Option Value). IsAt p (Some b) None z (completed_of h p slot.0 (place_for p (Some b) None))) (sym (decide-now b)) (at-fresh p b (is_heard h p slot.0 (digest_of p b)))
        go (Some x) r =
            let before : decided p me xs slot.0 ≡ Some x = ap (λ (o : Option Batch). decide p slot.0 xs o) q ∙ r in
            let now : decided p me (later i leaf) slot.0 ≡ Some x = decided-stays p me xs (item i leaf) slot.0 x before in
            let still : decide p slot.0 (later i leaf) (Some b) ≡ Some x = sym (decided-is-of i leaf slot.0 (Some b) (taken-idle i leaf slot.0 refl ∙ q)) ∙ now in
            subst (λ (z : Option Value). IsAt p (Some b) (Some x) z None) (sym still) (record { value = refl; place = refl })

    place-of : (s : ℕ) → place_at s h ≡ place_for p (taken s xs) (decided p me xs s)
    place-of s = let same = same_places in rw same (st.places s)

    here : IsAt p (taken slot.0 xs) (decide p slot.0 xs (taken slot.0 xs)) (decide p slot.0 (later i leaf) (taken slot.0 xs)) v
    here = subst (λ (w : Option Value). IsAt p (taken slot.0 xs) (decide p slot.0 xs (taken slot.0 xs)) (decide p slot.0 (later i leaf) (taken slot.0 xs)) w) (sym (did.value ∙ ap (λ (o : Option Place). completed_of h p slot.0 o) (place-of slot.0))) (at-slot (taken slot.0 xs) refl)

    decided-now : decided p me (later i leaf) slot.0 ≡ decide p slot.0 (later i leaf) (taken slot.0 xs)
    decided-now = decided-is-of i leaf slot.0 (taken slot.0 xs) (taken-idle i leaf slot.0 refl)

    elsewhere : (s : ℕ) → (slot.0 == s) ≡ false → decided p me (later i leaf) s ≡ decided p me xs s
    elsewhere s q = decided-idle i leaf s refl (λ w e k. echo-apart from slot d sig s e k q)

    echo-place : (s : ℕ) → place_at s n ≡ place_for p (taken s (later i leaf)) (decided p me (later i leaf) s)
    echo-place s = did.places s ∙ go (slot.0 == s) refl
      where
        go : (b : Bool) → (slot.0 == s) ≡ b → (if b && is_some v then Some Delivered else place_at s h) ≡ place_for p (taken s (later i leaf)) (decided p me (later i leaf) s)
        go false q = place-of s ∙ sym (st.places s) ∙ same-place s (later i leaf) (taken-idle i leaf s refl) (elsewhere s q)
        go true q =
            let is : slot.0 ≡ s = is-same slot.0 s q in
            subst (λ (z : ℕ). (if is_some v then Some Delivered else place_at z h) ≡ place_for p (taken z (later i leaf)) (decided p me (later i leaf) z)) is
            (ap (λ (o : Option Place). if is_some v then Some Delivered else o) (place-of slot.0)
            ∙ here.place
            ∙ ap (λ (o : Option Value). place_for p (taken slot.0 xs) o) (sym decided-now)
            ∙ ap (λ (o : Option Batch). place_for p o (decided p me (later i leaf) slot.0)) (sym (taken-idle i leaf slot.0 refl)))

    pub echo-refines : Refines n p me (and_then echo p me xs (Receive from (Echo_word slot d sig)) leaf)
    echo-refines = record {
      node = ap (λ (a : NodeId). a.0) (did.node ∙ same_node) ∙ st.node;
      places = echo-place;
      heard = λ s e k w. let same = did.heard in rw same (heard-now s e k w);
    }

    pub echo-taken : (e : Effects Word) → e.sends ≡ [] → e.accepted ≡ None → e.hashed ≡ [] →
        e.delivers ≡ one_at slot v → IsTaken echo p me xs (Receive from (Echo_word slot d sig)) leaf e
    echo-taken e sends accepted hashed delivers = record {
      sends = sends;
      accepted = accepted;
      hashed = hashed;
      delivers = delivers-at p me xs i leaf slot v
          (here.value ∙ ap (λ (o : Option Value). newly (decided p me xs slot.0) o) (sym decided-now))
          (λ s ne. elsewhere s (other slot.0 s ne)) e.delivers delivers;
    }

  -- ---- the number of leaves used

  pub cast-used : (slot : Slot) (batch : Batch) (leaf : ℕ) (b : Bool) → may_cast m p slot ≡ b →
      (makes p me xs (Cast slot batch) leaf).used ≡ (if b then 2 else 0)
  cast-used slot batch leaf b h = ap (λ (o : Option (Slot × Batch)). (made_of p me leaf true o).used) (asks-as-cast slot batch b h) ∙ go b
    where
      go : (b : Bool) → (made_of p me leaf true (if b then Some (slot, batch) else None)).used ≡ (if b then 2 else 0)
      go true = refl
      go false = refl

  pub say-used : (from : NodeId) (slot : Slot) (batch : Batch) (sig : List ℕ) (leaf : ℕ) (b : Bool) →
      may_take m p from slot ≡ b → (makes p me xs (Receive from (Say slot batch sig)) leaf).used ≡ (if b then 1 else 0)
  say-used from slot batch sig leaf b h = ap (λ (o : Option (Slot × Batch)). (made_of p me leaf false o).used) (asks-as-say from slot batch sig b h) ∙ go b
    where
      go : (b : Bool) → (made_of p me leaf false (if b then Some (slot, batch) else None)).used ≡ (if b then 1 else 0)
      go true = refl
      go false = refl

  -- ---- the tests of the trait

  no-some : (a : Slot × Batch) → ◌≡◌ {A = Option (Slot × Batch)} None (Some a) → ⊥
  no-some a h = cc

  pub casts-means : (slot : Slot) (batch : Batch) (b : Bool) → b ≡ may_cast m p slot →
      IsTrue b ↔ (asks p me xs (Cast slot batch) ≡ Some (slot, batch))
  casts-means slot batch b e = (
    (λ t. asks-as-cast slot batch true (sym e ∙ t)),
    (λ h. e ∙ go (may_cast m p slot) refl h),
  )
    where
      go : (t : Bool) → may_cast m p slot ≡ t → asks p me xs (Cast slot batch) ≡ Some (slot, batch) → t ≡ true
      go true q h = refl
      go false q h = absurd (no-some (slot, batch) (sym (asks-as-cast slot batch false q) ∙ h))

  pub asks-of-cast : (i : Input Word) (slot : Slot) (batch : Batch) (b : Bool) → i ≡ Cast slot batch →
      may_cast m p slot ≡ b → asks p me xs i ≡ (if b then Some (slot, batch) else None)
  asks-of-cast i slot batch b e h = ap (λ (i : Input Word). asks p me xs i) e ∙ asks-as-cast slot batch b h

  pub asks-of-say : (i : Input Word) (from : NodeId) (msg : Word) (slot : Slot) (batch : Batch) (sig : List ℕ) (b : Bool) → i ≡ Receive from msg → msg ≡ Say slot batch sig → may_take m p from slot ≡ b → asks p me xs i ≡ (if b then Some (slot, batch) else None)
  asks-of-say i from msg slot batch sig b e q h = ap (λ (i : Input Word). asks p me xs i) (e ∙ ap (λ (w : Word). Receive from w) q) ∙ asks-as-say from slot batch sig b h

-- the initial state
pub start-refines : (m : Echo) (p : Params) (me : ℕ) → m.me.0 ≡ me → m.places.entries ≡ [] →
    ((s : ℕ) (d : List ℕ) (k : ℕ) → has m.heard s d k ≡ false) → Refines m p me []
start-refines m p me same none unheard = record { node = same; places = λ s. rw none refl; heard = λ s d k within. unheard s d k }

-- ---- messages

pub echoed-words : (p : Params) (me leaf : ℕ) (slot : Slot) (batch : Batch) (d sig : List ℕ) → d ≡ digest_of p batch →
    sig ≡ signature p me leaf (statement p 2 slot.0 d) →
    ◌≡◌ {A = List (To × Word)} ((To_all, Echo_word slot d sig) ∷ []) (words p me leaf false (slot, batch))
echoed-words p me leaf slot batch d sig e h =
    ap (λ (z : List ℕ). let l : List (To × Word) = (To_all, Echo_word slot d z) ∷ [] in l) h
    ∙ ap (λ (z : List ℕ). let l : List (To × Word) = (To_all, Echo_word slot z (signature p me leaf (statement p 2 slot.0 z))) ∷ [] in l) e

pub said-words : (p : Params) (me leaf : ℕ) (slot : Slot) (batch said : Batch) (d sig own : List ℕ) → said ≡ batch →
    d ≡ digest_of p batch → sig ≡ signature p me leaf (statement p 1 slot.0 d) →
    own ≡ signature p me (leaf + 1) (statement p 2 slot.0 d) →
    ◌≡◌ {A = List (To × Word)} ((To_all, Say slot said sig) ∷ (To_all, Echo_word slot d own) ∷ []) (words p me leaf true (slot, batch))
said-words p me leaf slot batch said d sig own s e h k =
    ap (λ (z : Batch). let l : List (To × Word) = (To_all, Say slot z sig) ∷ (To_all, Echo_word slot d own) ∷ [] in l) s
    ∙ ap (λ (z : List ℕ). let l : List (To × Word) = (To_all, Say slot batch z) ∷ (To_all, Echo_word slot d own) ∷ [] in l) h
    ∙ ap (λ (z : List ℕ). let l : List (To × Word) = (To_all, Say slot batch (signature p me leaf (statement p 1 slot.0 d))) ∷ (To_all, Echo_word slot d z) ∷ [] in l) k
    ∙ ap (λ (z : List ℕ). let l : List (To × Word) = (To_all, Say slot batch (signature p me leaf (statement p 1 slot.0 z))) ∷ (To_all, Echo_word slot z (signature p me (leaf + 1) (statement p 2 slot.0 z))) ∷ [] in l) e
