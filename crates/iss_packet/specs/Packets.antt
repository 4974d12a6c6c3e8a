-- How packets are encoded and decoded. Whether kind, sender, epoch and leader fit each other depends on the number of
-- nodes. A module's message is from a node, in the instance of a leader. A vote, an ask and a piece are from a node,
-- and have leader 0. A request is from nobody: 255, epoch 0, leader 0.
--
--   packet    version (1 byte: 1, in version 2 that number), kind (1), from (1), epoch (8), leader (1), length of the
--             body (4, at most 200,000,000), body
use Rattle.std.specs.Prelude.{◌≡◌, ℕ, ◌^◌, ◌<◌, ◌≤◌, List, [], ◌∷◌, ◌++◌, length, Bool, true, nat_le, nat_lt, ◌==◌, ◌&&◌, if◌then◌else◌}
use Rattle.std.specs.Int.{w32, w64, to_be_bytes}
use Rattle.iss_request.specs.Formats.{version_byte}
use Rattle.iss_request.specs.Parsing.{Parser, ◌>>=◌, done, such_that, byte, number, block}
use Rattle.iss_packet.specs.declared.packets.Packet.{Packet}
use Rattle.iss_packet.specs.declared.packets.PacketKind.{PacketKind}
use Rattle.iss_packet.specs.declared.packets.PacketKind.TheVariants.{Message, Vote as Kind_vote, Ask, Piece as Kind_piece, Request as Kind_request}

-- ---- kinds

abbrev pub kind_byte : PacketKind → ℕ
kind_byte Message = 1
kind_byte Kind_vote = 2
kind_byte Ask = 3
kind_byte Kind_piece = 4
kind_byte Kind_request = 5

abbrev pub is_kind : ℕ → Bool
is_kind b = nat_le 1 b && nat_le b 5

abbrev pub kind_at : ℕ → PacketKind
kind_at b = if b == 1 then Message
    else (if b == 2 then Kind_vote else (if b == 3 then Ask else (if b == 4 then Kind_piece else Kind_request)))

-- whether the packet's kind fits its sender, epoch and leader in a cluster of n nodes
-- rule: Formats: A packet has one encoding a version, and its kind fits its sender, epoch and leader
abbrev pub is_routed_as : ℕ → PacketKind → ℕ → ℕ → ℕ → Bool
is_routed_as n Message from epoch leader = nat_lt from n && nat_lt leader n
is_routed_as n Kind_vote from epoch leader = nat_lt from n && (leader == 0)
is_routed_as n Ask from epoch leader = nat_lt from n && (leader == 0)
is_routed_as n Kind_piece from epoch leader = nat_lt from n && (leader == 0)
is_routed_as n Kind_request from epoch leader = (from == 255) && ((epoch == 0) && (leader == 0))

unfoldable pub is_routed : ℕ → Packet → Bool
is_routed n p = is_routed_as n p.kind p.from p.epoch.0 p.leader

-- ---- encoding. A packet without one is written as one byte that is no version

abbrev pub is_spellable : Packet → Bool
is_spellable p = nat_lt p.epoch.0 (2 ^ 64) && nat_le (length p.body) 200000000

abbrev pub route_bytes : ℕ → Packet → List ℕ
route_bytes version p = version_byte version ∷ kind_byte p.kind ∷ p.from ∷ to_be_bytes w64 p.epoch.0 ++ p.leader ∷ []

abbrev pub body_bytes : List ℕ → List ℕ
body_bytes body = to_be_bytes w32 (length body) ++ body

abbrev pub no_packet : List ℕ
no_packet = 0 ∷ []

unfoldable pub spell_packet : ℕ → Packet → List ℕ
spell_packet version p = if is_spellable p then route_bytes version p ++ body_bytes p.body else no_packet

-- ---- the table as a relation between packets of a cluster of n nodes and bytes

abbrev pub IsSpelledPacket : ℕ → ℕ → Packet → List ℕ → Type 0
IsSpelledPacket version n p bytes =
    (is_routed n p ≡ true) × (p.epoch.0 < 2 ^ 64) × (length p.body ≤ 200000000)
    × (bytes ≡ route_bytes version p ++ body_bytes p.body)

-- ---- reading

unfoldable pub parse_version : ℕ → Parser ℕ
parse_version version = such_that (λ v. v == version_byte version) byte

unfoldable pub parse_kind : Parser PacketKind
parse_kind = do
  kind ← such_that is_kind byte
  done (kind_at kind)

unfoldable pub parse_size : Parser ℕ
parse_size = such_that (λ n. nat_le n 200000000) (number w32)

unfoldable pub parse_parts : ℕ → Parser Packet
parse_parts version = do
  first ← parse_version version
  kind ← parse_kind
  from ← byte
  epoch ← number w64
  leader ← byte
  size ← parse_size
  body ← block size
  done (record { kind = kind; from = from; epoch = record { 0 = epoch }; leader = leader; body = body })

-- a packet of this version in a cluster of n nodes
unfoldable pub parse_packet : ℕ → ℕ → Parser Packet
parse_packet version n = such_that (is_routed n) (parse_parts version)
