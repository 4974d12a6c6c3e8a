-- An index of packets, when a packet is added, and when one is looked up.
use Rattle.std.proofs.Common.{inl, inr, ◌≡◌, ◌⊎◌, ◌∙◌, ℕ, suc, ◌+◌, Bool, true, false, true≢false, List, [], ◌∷◌, ◌++◌, length, Option, Some, refl, sym, ap, arith, append_assoc, length-append, if◌then◌else◌, Vec, Global}
use Rattle.std.specs.Prelude.{◌==◌, bytes_eq}
use Rattle.std.proofs.lemmas.List.{append-nil}
use Rattle.std.proofs.lemmas.Slice.Eq.{bytes_eq-Decides}
use Rattle.iss_base.proofs.Lists.{and-true, eqb-same, is-eq}
use Rattle.iss_base.specs.Lists.{nth}
use Rattle.iss_loops.specs.Internal.PacketIndex.{IsIndexOf, first_match, if_key, is_packet, key_from, listed, numbers_from}
use Rattle.iss_loops.specs.Loop.{number_from}
use Rattle.iss_network.specs.declared.packets.Sent.{Sent}

-- ---- one more packet

numbers-append : (k key : ℕ) (ps : List Sent) (p : Sent) → numbers_from k key (ps ++ p ∷ []) ≡ numbers_from k key ps ++ if_key (k + length ps) key p
numbers-append k key [] p = let e : k ≡ k + 0 = omega arith in append-nil (if_key k key p) ∙ ap (λ (n : ℕ). if_key n key p) e
numbers-append k key (q ∷ ps) p =
    let e : suc k + length ps ≡ k + suc (length ps) = omega arith in
    ap (λ (xs : List ℕ). if_key k key q ++ xs) (numbers-append (suc k) key ps p)
    ∙ sym (append_assoc (if_key k key q) (numbers_from (suc k) key ps) (if_key (suc k + length ps) key p))
    ∙ ap (λ (n : ℕ). (if_key k key q ++ numbers_from (suc k) key ps) ++ if_key n key p) e

-- ---- the first packet with these bytes

nth-behind : (front ps : List Sent) (p : Sent) → nth (front ++ p ∷ ps) (length front) ≡ Some p
nth-behind [] ps p = refl
nth-behind (q ∷ front) ps p = nth-behind front ps p

is-key : (p : Sent) (core : ℕ) (bytes : List ℕ) → is_packet (Some p) core bytes ≡ true → key_from p.to p.bytes ≡ key_from core bytes
is-key p core bytes h =
    let parts = and-true (p.to == core) (bytes_eq p.bytes bytes) h in
    let to : p.to ≡ core = is-eq p.to core parts.0 in
    let same : p.bytes ≡ bytes = (bytes_eq-Decides p.bytes bytes).0 parts.1 in
    ap (λ (k : ℕ). key_from k p.bytes) to ∙ ap (λ (xs : List ℕ). key_from core xs) same

skips : (packets : List Sent) (core : ℕ) (bytes : List ℕ) (k : ℕ) (b : Bool) (ks : List ℕ) → is_packet (nth packets k) core bytes ≡ false
    → first_match packets core bytes ((if b then k ∷ [] else []) ++ ks) ≡ first_match packets core bytes ks
skips packets core bytes k true ks h = ap (λ (t : Bool). if t then Some k else first_match packets core bytes ks) h
skips packets core bytes k false ks h = refl

finds : (packets : List Sent) (core : ℕ) (bytes : List ℕ) (k : ℕ) (b : Bool) (ks : List ℕ) → b ≡ true → is_packet (nth packets k) core bytes ≡ true
    → first_match packets core bytes ((if b then k ∷ [] else []) ++ ks) ≡ Some k
finds packets core bytes k true ks e h = ap (λ (t : Bool). if t then Some k else first_match packets core bytes ks) h
finds packets core bytes k false ks e h = absurd (true≢false (sym e))

tells : (b : Bool) → (b ≡ true) ⊎ (b ≡ false)
tells true = inl refl
tells false = inr refl

match-from : (packets front ps : List Sent) (core : ℕ) (bytes : List ℕ) (k : ℕ) → packets ≡ front ++ ps → k ≡ length front
    → first_match packets core bytes (numbers_from k (key_from core bytes) ps) ≡ number_from k core bytes ps
match-from packets front [] core bytes k whole at = refl
match-from packets front (p ∷ ps) core bytes k whole at =
    let here : nth packets k ≡ Some p = ap (λ (xs : List Sent). nth xs k) whole ∙ ap (λ (n : ℕ). nth (front ++ p ∷ ps) n) at ∙ nth-behind front ps p in
    let key : ℕ = key_from core bytes in
    elim (tells (is_packet (Some p) core bytes)) [
      | inl same ↦
          let hit : (key_from p.to p.bytes == key) ≡ true = ap (λ (n : ℕ). n == key) (is-key p core bytes same) ∙ eqb-same key in
          finds packets core bytes k (key_from p.to p.bytes == key) (numbers_from (suc k) key ps) hit (ap (λ (o : Option Sent). is_packet o core bytes) here ∙ same)
          ∙ sym (ap (λ (t : Bool). if t then Some k else number_from (suc k) core bytes ps) same)
      | inr other ↦
          let whole2 : packets ≡ (front ++ p ∷ []) ++ ps = whole ∙ sym (append_assoc front (p ∷ []) ps) in
          let count = length-append front (p ∷ []) in
          let at2 : suc k ≡ length (front ++ p ∷ []) = omega (arith, at, count) in
          skips packets core bytes k (key_from p.to p.bytes == key) (numbers_from (suc k) key ps) (ap (λ (o : Option Sent). is_packet o core bytes) here ∙ other)
          ∙ match-from packets (front ++ p ∷ []) ps core bytes (suc k) whole2 at2
          ∙ sym (ap (λ (t : Bool). if t then Some k else number_from (suc k) core bytes ps) other)
    ]

pub first-is : (packets : List Sent) (core : ℕ) (bytes : List ℕ) → first_match packets core bytes (numbers_from 0 (key_from core bytes) packets) ≡ number_from 0 core bytes packets
first-is packets core bytes = match-from packets [] packets core bytes 0 refl refl

-- ---- one more packet in an index

pub added : (old mid new : List (ℕ × Vec ℕ Global)) (packets : List Sent) (p : Sent) (number key : ℕ) (numbers later : List ℕ) → IsIndexOf old packets → number ≡ length packets → key ≡ key_from p.to p.bytes
    → numbers ≡ listed old key → ((k : ℕ) → listed mid k ≡ (if key == k then [] else listed old k)) → ((k : ℕ) → listed new k ≡ (if key == k then later else listed mid k))
    → later ≡ numbers ++ number ∷ [] → IsIndexOf new (packets ++ p ∷ [])
added old mid new packets p number key numbers later h is_number is_key are left put is_later = λ k.
    let e : 0 + length packets ≡ number = omega (arith, is_number) in
    put k ∙ ap (λ (xs : List ℕ). if key == k then xs else listed mid k) is_later
    ∙ rest k (key == k) refl ∙ sym (numbers-append 0 k packets p ∙ ap (λ (n : ℕ). numbers_from 0 k packets ++ if_key n k p) e)
  where
    rest : (k : ℕ) (b : Bool) → (key == k) ≡ b → (if key == k then numbers ++ number ∷ [] else listed mid k) ≡ numbers_from 0 k packets ++ if_key number k p
    rest k true e =
        let same : key ≡ k = is-eq key k e in
        let hit : (key_from p.to p.bytes == k) ≡ true = ap (λ (n : ℕ). n == k) (sym is_key) ∙ e in
        ap (λ (t : Bool). if t then numbers ++ number ∷ [] else listed mid k) e
        ∙ ap (λ (xs : List ℕ). xs ++ number ∷ []) (are ∙ ap (λ (n : ℕ). listed old n) same ∙ h k)
        ∙ sym (ap (λ (t : Bool). numbers_from 0 k packets ++ (if t then number ∷ [] else [])) hit)
    rest k false e =
        let miss : (key_from p.to p.bytes == k) ≡ false = ap (λ (n : ℕ). n == k) (sym is_key) ∙ e in
        ap (λ (t : Bool). if t then numbers ++ number ∷ [] else listed mid k) e
        ∙ left k ∙ ap (λ (t : Bool). if t then [] else listed old k) e ∙ h k ∙ sym (append-nil (numbers_from 0 k packets))
        ∙ sym (ap (λ (t : Bool). numbers_from 0 k packets ++ (if t then number ∷ [] else [])) miss)
