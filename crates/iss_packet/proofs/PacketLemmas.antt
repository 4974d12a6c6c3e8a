-- Decoding the encoding of a packet gives it back.
use Rattle.std.proofs.Common.{◌≡◌, ◌≢◌, ℕ, ◌^◌, ◌<◌, ◌≤◌, Bool, true, false, ltb, leb, ◌&&◌, List, [], ◌∷◌, ◌++◌, length, refl, sym, ap, subst, append_assoc, arith, inl, inr}
use Rattle.std.specs.Prelude.{Result, Ok, Err}
use Rattle.std.specs.Result.{IsErrAnd}
use Rattle.std.proofs.lemmas.Bool.{cases_lt, leb-true, lt-ltb, lt-leb}
use Rattle.iss_base.proofs.Lists.{and-true}
use Rattle.iss_request.specs.declared.errors.DecodeError.{DecodeError}
use Rattle.iss_request.specs.declared.errors.DecodeError.TheVariants as fields
use Rattle.iss_request.specs.Fields.{Reading, Written, and_bytes, IsRead}
use Rattle.iss_request.specs.Parsing.{◌>>=◌, done, such_that, byte}
use Rattle.iss_request.proofs.Readings.{read_then, read_done, read_passed}
use Rattle.iss_packet.specs.declared.packets.Packet.{Packet}
use Rattle.iss_packet.specs.declared.packets.PacketKind.{PacketKind}
use Rattle.iss_packet.specs.declared.packets.PacketError.{PacketError}
use Rattle.iss_packet.specs.declared.packets.PacketError.TheVariants.{NotPacket}
use Rattle.iss_packet.specs.Internal.Errors.{as_packet_error}
use Rattle.iss_packet.specs.Packets.{is_kind, kind_at, is_spellable, route_bytes, body_bytes, no_packet, spell_packet, parse_kind}

pub kind_read : (n : ℕ) (a b : Reading) (found : ℕ) (k : PacketKind) → found ≡ n → IsRead byte a b found →
    is_kind n ≡ true → kind_at n ≡ k → IsRead parse_kind a b k
unfolding parse_kind
kind_read n a b found k e r t is =
    let here : IsRead byte a b n = subst (λ (m : ℕ). IsRead byte a b m) e r in
    subst (λ (x : PacketKind). IsRead (such_that is_kind byte >>= λ m. done (kind_at m)) a b x) is
    (read_then _ _ (read_passed _ _ here t) (read_done _ _))

and_false : (b : Bool) → (b && false) ≡ false
and_false true = refl
and_false false = refl

pub other_kind : (n : ℕ) → n ≢ 1 → n ≢ 2 → n ≢ 3 → n ≢ 4 → n ≢ 5 → is_kind n ≡ false
other_kind n a b c d e =
    elim (cases_lt 5 n) [
      | inl lt ↦ rw (lt-leb n 5 lt) (and_false (leb 1 n))
      | inr le ↦ let none : n ≡ 0 = omega arith in rw none refl
    ]

-- the exit of a `?`, where a field's error becomes a packet's error
pub exit : {T U : Type 0} (r : Result T PacketError) (d : DecodeError) (P : Type 0) →
    IsErrAnd r (λ e. e ≡ as_packet_error d) →
    ((at : ℕ) → ◌≡◌ {A = Result U DecodeError} (Err d) (Err (fields.BadField at)) → P) → r ≡ Err NotPacket → P
exit (Ok x) d P h bad e = absurd h
exit (Err y) (fields.BadField at) P h bad e = bad at refl
exit (Err y) fields.NoMemory P h bad e = absurd cc

pub spelling_test : (p : Packet) (b : Bool) → p.epoch.0 < 2 ^ 64 → b ≡ leb (length p.body) 200000000 →
    b ≡ is_spellable p
spelling_test p b lt e = rw (lt-ltb p.epoch.0 (2 ^ 64) lt) e

pub spellable_length : (p : Packet) → true ≡ is_spellable p → length p.body ≤ 200000000
spellable_length p e = leb-true _ _ (and-true (ltb p.epoch.0 (2 ^ 64)) (leb (length p.body) 200000000) (sym e)).1

pub packet_spelled : (version : ℕ) (p : Packet) → true ≡ is_spellable p → spell_packet version p ≡ route_bytes version p
    ++ body_bytes p.body
unfolding spell_packet
packet_spelled version p e = rw (sym e) refl

pub packet_unspelled : (version : ℕ) (p : Packet) → false ≡ is_spellable p → spell_packet version p ≡ no_packet
unfolding spell_packet
packet_unspelled version p e = rw (sym e) refl

five_parts : (old : List ℕ) (v k f : ℕ) (epoch : List ℕ) (l : ℕ) → ((((old ++ v ∷ []) ++ k ∷ []) ++ f ∷ []) ++ epoch)
    ++ l ∷ [] ≡ old ++ (v ∷ k ∷ f ∷ (epoch ++ l ∷ []))
five_parts old v k f epoch l = simp append_assoc

-- the fields of the route, one after another
pub five_written : (old a b c d e : Written) (v k f : ℕ) (epoch : List ℕ) (l : ℕ) → a ≡ and_bytes old (v ∷ []) →
    b ≡ and_bytes a (k ∷ []) → c ≡ and_bytes b (f ∷ []) → d ≡ and_bytes c epoch → e ≡ and_bytes d (l ∷ []) →
    e ≡ and_bytes old (v ∷ k ∷ f ∷ (epoch ++ l ∷ []))
five_written old a b c d e v k f epoch l p q r s t =
    rw (t, s, r, q, p) (ap (λ (z : List ℕ). record old { bytes = z }) (five_parts old.bytes v k f epoch l))
