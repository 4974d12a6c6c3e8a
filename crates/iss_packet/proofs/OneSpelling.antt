-- A packet has at most one encoding.
use Rattle.std.proofs.Common.{◌≡◌, ℕ, ◌^◌, ◌≤◌, Bool, true, false, cond, ltb, leb, eqb, List, [], ◌∷◌, ◌++◌, length, refl, sym, ap, subst, ◌∙◌, append_assoc, append-nil, arith, inl, inr, ◌⊎◌, eqb-true, eq-eqb}
use Rattle.std.specs.Prelude.{◌↔◌}
use Rattle.std.specs.Int.{w32, w64, to_be_bytes}
use Rattle.std.proofs.lemmas.Bool.{ltb-true, leb-true, lt-ltb, le-leb}
use Rattle.iss_base.proofs.Lists.{and-true}
use Rattle.iss_request.specs.Fields.{Good, Bad, IsBad, IsGrammar}
use Rattle.iss_request.specs.Formats.{is_second, version_byte}
use Rattle.iss_request.specs.Parsing.{done, byte, number}
use Rattle.iss_request.proofs.OneSpelling.{done_good, Whole}
use Rattle.iss_request.proofs.ParserLemmas.{then_good, first_bad, then_parts, done_parts, test_passed, test_failed, test_bad, test_parts, byte_again, byte_parts, wide32, wide64, number_again, number_parts, block_again, block_parts}
use Rattle.iss_packet.specs.declared.packets.Packet.{Packet}
use Rattle.iss_packet.specs.declared.packets.PacketKind.{PacketKind}
use Rattle.iss_packet.specs.declared.packets.PacketKind.TheVariants.{Message, Vote as Kind_vote, Ask, Piece as Kind_piece, Request as Kind_request}
use Rattle.iss_packet.specs.Packets.{kind_byte, is_kind, kind_at, is_routed, is_spellable, route_bytes, body_bytes, no_packet, spell_packet, IsSpelledPacket, parse_version, parse_kind, parse_size, parse_parts, parse_packet}
use Rattle.iss_packet.proofs.PacketLemmas.{packet_spelled, packet_unspelled}

-- ---- kinds

kind_again : (k : PacketKind) → (is_kind (kind_byte k) ≡ true) × (kind_at (kind_byte k) ≡ k)
kind_again Message = (refl, refl)
kind_again Kind_vote = (refl, refl)
kind_again Ask = (refl, refl)
kind_again Kind_piece = (refl, refl)
kind_again Kind_request = (refl, refl)

one_of_five : (n : ℕ) → is_kind n ≡ true → (n ≡ 1) ⊎ (n ≡ 2) ⊎ (n ≡ 3) ⊎ (n ≡ 4) ⊎ (n ≡ 5)
one_of_five n e =
    let both = and-true (leb 1 n) (leb n 5) e in
    let low : 1 ≤ n = leb-true 1 n both.0 in
    let high : n ≤ 5 = leb-true n 5 both.1 in
    grind arith

kind_back : (n : ℕ) → is_kind n ≡ true → kind_byte (kind_at n) ≡ n
kind_back n e =
    let P : ℕ → Type 0 = λ m. kind_byte (kind_at m) ≡ m in
    elim (one_of_five n e) [
      | inl a ↦ subst P (sym a) refl
      | inr (inl a) ↦ subst P (sym a) refl
      | inr (inr (inl a)) ↦ subst P (sym a) refl
      | inr (inr (inr (inl a))) ↦ subst P (sym a) refl
      | inr (inr (inr (inr a))) ↦ subst P (sym a) refl
    ]

kind_read : (k : PacketKind) (rest : List ℕ) → parse_kind (kind_byte k ∷ rest) ≡ Good k rest
unfolding parse_kind
kind_read k rest =
    let again = kind_again k in
    then_good _ _ _ rest rest (kind_byte k) k
    (test_passed is_kind byte _ rest (kind_byte k) (byte_again _ rest) again.0)
    (ap (λ (x : PacketKind). done x rest) again.1 ∙ done_good k rest)

kind_parts : (bytes rest : List ℕ) (k : PacketKind) → parse_kind bytes ≡ Good k rest → bytes ≡ kind_byte k ∷ rest
unfolding parse_kind
kind_parts bytes rest k e =
    let a = then_parts _ _ bytes rest k e in
    let found = test_parts is_kind byte bytes a.mid a.thing a.first in
    let ends = done_parts (kind_at a.thing) k a.mid rest a.second in
    let same : kind_byte k ≡ a.thing = ap kind_byte (sym ends.0) ∙ kind_back a.thing found.1 in
    byte_parts bytes a.mid a.thing found.0 ∙ ap (λ (x : ℕ). x ∷ a.mid) (sym same)
    ∙ ap (λ (x : List ℕ). kind_byte k ∷ x) ends.1

-- ---- the other fields

abbrev first : ℕ → ℕ → Bool
first version v = eqb v (version_byte version)

abbrev fits : ℕ → Bool
fits n = leb n 200000000

version_read : (version : ℕ) (rest : List ℕ) →
    parse_version version (version_byte version ∷ rest) ≡ Good (version_byte version) rest
unfolding parse_version
version_read version rest =
    test_passed (first version) byte _ rest (version_byte version) (byte_again (version_byte version) rest)
    (eq-eqb _ _ refl)

version_parts : (version : ℕ) (bytes rest : List ℕ) (v : ℕ) → parse_version version bytes ≡ Good v rest →
    bytes ≡ version_byte version ∷ rest
unfolding parse_version
version_parts version bytes rest v e =
    let found = test_parts (first version) byte bytes rest v e in
    byte_parts bytes rest v found.0 ∙ ap (λ (n : ℕ). n ∷ rest) (eqb-true v (version_byte version) found.1)

zero_of : (second : Bool) → eqb 0 (cond second 2 1) ≡ false
zero_of true = refl
zero_of false = refl

no_version : (version : ℕ) (rest : List ℕ) → parse_version version (0 ∷ rest) ≡ Bad 0
unfolding parse_version
no_version version rest = test_failed (first version) byte _ rest 0 (byte_again 0 rest) (zero_of (is_second version))

size_read : (n : ℕ) (rest : List ℕ) → n ≤ 200000000 → parse_size (to_be_bytes w32 n ++ rest) ≡ Good n rest
unfolding parse_size
size_read n rest le = test_passed fits (number w32) _ rest n (number_again w32 (2 ^ 32) wide32 n rest (omega arith))
    (le-leb n 200000000 le)

record IsSize (bytes rest : List ℕ) (n : ℕ) : Type 0 where
  pub parts : bytes ≡ to_be_bytes w32 n ++ rest
  pub small : n ≤ 200000000

size_parts : (bytes rest : List ℕ) (n : ℕ) → parse_size bytes ≡ Good n rest → IsSize bytes rest n
unfolding parse_size
size_parts bytes rest n e =
    let found = test_parts fits (number w32) bytes rest n e in
    record {
      parts = (number_parts w32 (2 ^ 32) wide32 bytes rest n found.0).parts;
      small = leb-true n 200000000 found.1;
    }

-- ---- packets

regrouped : (version : ℕ) (p : Packet) (rest : List ℕ) →
    (route_bytes version p ++ body_bytes p.body)
    ++ rest ≡ version_byte version ∷ (kind_byte p.kind ∷ (p.from ∷ (to_be_bytes w64 p.epoch.0
    ++ (p.leader ∷ (to_be_bytes w32 (length p.body) ++ (p.body ++ rest))))))
regrouped version p rest = simp append_assoc

parts_again : (version : ℕ) (p : Packet) (rest : List ℕ) → is_spellable p ≡ true →
    parse_parts version ((route_bytes version p ++ body_bytes p.body) ++ rest) ≡ Good p rest
unfolding parse_parts
parts_again version p rest e =
    let both = and-true (ltb p.epoch.0 (2 ^ 64)) (fits (length p.body)) e in
    let tail = p.body ++ rest in
    let sized = to_be_bytes w32 (length p.body) ++ tail in
    let epoch = to_be_bytes w64 p.epoch.0 in
    let body_read = block_again p.body rest (length p.body) refl in
    ap (parse_parts version) (regrouped version p rest) ∙
    then_good _ _ _ (kind_byte p.kind ∷ (p.from ∷ (epoch ++ (p.leader ∷ sized)))) rest (version_byte version) p
    (version_read version _)
    (then_good _ _ _ (p.from ∷ (epoch ++ (p.leader ∷ sized))) rest p.kind p (kind_read p.kind _)
    (then_good _ _ _ (epoch ++ (p.leader ∷ sized)) rest p.from p (byte_again p.from _)
    (then_good _ _ _ (p.leader ∷ sized) rest p.epoch.0 p
    (number_again w64 (2 ^ 64) wide64 p.epoch.0 _ (ltb-true _ _ both.0))
    (then_good _ _ _ sized rest p.leader p (byte_again p.leader sized)
    (then_good _ _ _ tail rest (length p.body) p (size_read (length p.body) tail (leb-true _ _ both.1))
    (then_good _ _ _ rest rest p.body p body_read (done_good p rest)))))))

record IsPacket (version : ℕ) (bytes rest : List ℕ) (p : Packet) : Type 0 where
  pub parts : bytes ≡ (route_bytes version p ++ body_bytes p.body) ++ rest
  pub spelled : is_spellable p ≡ true

parts_parts : (version : ℕ) (bytes rest : List ℕ) (p : Packet) → parse_parts version bytes ≡ Good p rest →
    IsPacket version bytes rest p
unfolding parse_parts
parts_parts version bytes rest p e =
    let a = then_parts _ _ bytes rest p e in
    let b = then_parts _ _ a.mid rest p a.second in
    let c = then_parts _ _ b.mid rest p b.second in
    let d = then_parts _ _ c.mid rest p c.second in
    let f = then_parts _ _ d.mid rest p d.second in
    let g = then_parts _ _ f.mid rest p f.second in
    let h = then_parts _ _ g.mid rest p g.second in
    let made : Packet = record {
      kind = b.thing;
      from = c.thing;
      epoch = record { 0 = d.thing };
      leader = f.thing;
      body = h.thing;
    } in
    let ends = done_parts made p h.mid rest h.second in
    let epoch = number_parts w64 (2 ^ 64) wide64 c.mid d.mid d.thing d.first in
    let size = size_parts f.mid g.mid g.thing g.first in
    let body = block_parts g.thing g.mid h.mid h.thing h.first in
    let tail : f.mid ≡ to_be_bytes w32 (length h.thing) ++ (h.thing ++ rest) = size.parts
    ∙ ap (λ (n : ℕ). to_be_bytes w32 n ++ g.mid) (sym body.len)
    ∙ ap (λ (x : List ℕ). to_be_bytes w32 (length h.thing) ++ x) (body.parts
    ∙ ap (λ (x : List ℕ). h.thing ++ x) ends.1) in
    let behind : c.mid ≡ to_be_bytes w64 d.thing
    ++ (f.thing ∷ (to_be_bytes w32 (length h.thing) ++ (h.thing ++ rest))) = epoch.parts
    ∙ ap (λ (x : List ℕ). to_be_bytes w64 d.thing ++ x) (byte_parts d.mid f.mid f.thing f.first
    ∙ ap (λ (x : List ℕ). f.thing ∷ x) tail) in
    let whole : bytes ≡ version_byte
    version ∷ (kind_byte b.thing ∷ (c.thing ∷ (to_be_bytes w64 d.thing
    ++ (f.thing ∷ (to_be_bytes w32 (length h.thing) ++ (h.thing ++ rest)))))) =
    version_parts version bytes a.mid a.thing a.first
    ∙ ap (λ (x : List ℕ). version_byte version ∷ x) (kind_parts a.mid b.mid b.thing b.first
    ∙ ap (λ (x : List ℕ). kind_byte b.thing ∷ x) (byte_parts b.mid c.mid c.thing c.first
    ∙ ap (λ (x : List ℕ). c.thing ∷ x) behind)) in
    let small : length h.thing ≤ 200000000 = omega (arith, body.len, size.small) in
    subst (λ (x : Packet). IsPacket version bytes rest x) ends.0 record {
      parts = whole ∙ sym (regrouped version made rest);
      spelled = rw (lt-ltb d.thing (2 ^ 64) epoch.below, le-leb (length h.thing) 200000000 small) refl;
    }

routed_whole : (version n : ℕ) (p : Packet) (b : Bool) → is_routed n p ≡ b → is_spellable p ≡ true →
    Whole (spell_packet version p) (parse_packet version n) p
unfolding parse_packet
routed_whole version n p true r e =
    inl (λ rest. rw (packet_spelled version p (sym e))
    (test_passed (is_routed n) (parse_parts version) _ rest p (parts_again version p rest e) r))
routed_whole version n p false r e =
    inr (λ rest. rw (packet_spelled version p (sym e))
    (0, test_failed (is_routed n) (parse_parts version) _ rest p (parts_again version p rest e) r))

no_packet_bad : (version n : ℕ) (rest : List ℕ) → IsBad (parse_packet version n (no_packet ++ rest))
unfolding parse_packet parse_parts
no_packet_bad version n rest =
    (0, test_bad (is_routed n) (parse_parts version) _ 0 (first_bad _ _ _ 0 (no_version version rest)))

packet_whole : (version n : ℕ) (p : Packet) (b : Bool) → is_spellable p ≡ b →
    Whole (spell_packet version p) (parse_packet version n) p
packet_whole version n p true e = routed_whole version n p (is_routed n p) refl e
packet_whole version n p false e = inr (λ rest. rw (packet_unspelled version p (sym e)) (no_packet_bad version n rest))

packet_only : (version n : ℕ) (bytes rest : List ℕ) (p : Packet) → parse_packet version n bytes ≡ Good p rest →
    bytes ≡ spell_packet version p ++ rest
unfolding parse_packet
packet_only version n bytes rest p e =
    let found = test_parts (is_routed n) (parse_parts version) bytes rest p e in
    let is = parts_parts version bytes rest p found.0 in
    rw (packet_spelled version p (sym is.spelled)) is.parts

pub packet_grammar : (version n : ℕ) → IsGrammar (spell_packet version) (parse_packet version n)
packet_grammar version n =
    record { only = packet_only version n; whole = λ p. packet_whole version n p (is_spellable p) refl }

-- what is decoded from exactly these bytes is what the table relates to them
pub packet_table : (version n : ℕ) (p : Packet) (bytes : List ℕ) →
    (parse_packet version n bytes ≡ Good p []) ↔ IsSpelledPacket version n p bytes
unfolding parse_packet
packet_table version n p bytes = (forth, back)
  where
    forth : parse_packet version n bytes ≡ Good p [] → IsSpelledPacket version n p bytes
    forth e =
        let found = test_parts (is_routed n) (parse_parts version) bytes [] p e in
        let is = parts_parts version bytes [] p found.0 in
        let both = and-true (ltb p.epoch.0 (2 ^ 64)) (fits (length p.body)) is.spelled in (
          found.1,
          ltb-true _ _ both.0,
          leb-true _ _ both.1,
          is.parts
              ∙ append-nil (route_bytes version p ++ body_bytes p.body),
        )

    back : IsSpelledPacket version n p bytes → parse_packet version n bytes ≡ Good p []
    back h =
        let spelled : is_spellable p ≡ true =
        rw (lt-ltb p.epoch.0 (2 ^ 64) h.1, le-leb (length p.body) 200000000 h.2) refl in
        let all : bytes ≡ (route_bytes version p ++ body_bytes p.body) ++ [] = h.3
        ∙ sym (append-nil (route_bytes version p ++ body_bytes p.body)) in
        test_passed (is_routed n) (parse_parts version) bytes [] p (ap (parse_parts version) all
        ∙ parts_again version p [] spelled) h.0
