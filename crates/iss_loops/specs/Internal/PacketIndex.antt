-- How packets are found by receiver and bytes: each packet has a key, and the numbers of all packets with one key are
-- listed. Different packets may have one key, so their bytes are compared.
use Rattle.std.specs.Prelude.{◌≡◌, ℕ, suc, ◌+◌, ◌*◌, ◌%◌, ◌^◌, ◌==◌, ◌&&◌, Bool, false, bytes_eq, List, [], ◌∷◌, ◌++◌, Option, Some, None, Vec, if◌then◌else◌}
use Rattle.std.specs.Global.{Global}
use Rattle.std.specs.Map.{lookup}
use Rattle.iss_base.specs.Lists.{nth}
use Rattle.iss_network.specs.declared.packets.Sent.{Sent}

-- the key of a packet: a polynomial of its receiver and its bytes, modulo 2^64
abbrev pub key_step : ℕ → ℕ → ℕ
key_step key byte = ((key * 1099511628211) % 2 ^ 64 + byte) % 2 ^ 64

abbrev pub key_from : ℕ → List ℕ → ℕ
key_from key [] = key
key_from key (b ∷ bs) = key_from (key_step key b) bs

-- the numbers of the packets with this key, from number k on
abbrev pub if_key : ℕ → ℕ → Sent → List ℕ
if_key k key p = if key_from p.to p.bytes == key then k ∷ [] else []

abbrev pub numbers_from : ℕ → ℕ → List Sent → List ℕ
numbers_from k key [] = []
numbers_from k key (p ∷ ps) = if_key k key p ++ numbers_from (suc k) key ps

-- the numbers that an index lists under a key
abbrev pub numbers_in : Option (Vec ℕ Global) → List ℕ
numbers_in None = []
numbers_in (Some numbers) = numbers.items

abbrev pub listed : List (ℕ × Vec ℕ Global) → ℕ → List ℕ
listed index key = numbers_in (lookup (λ k. key == k) index)

-- the index of these packets
abbrev pub IsIndexOf : List (ℕ × Vec ℕ Global) → List Sent → Type 0
IsIndexOf index packets = (key : ℕ) → listed index key ≡ numbers_from 0 key packets

-- whether this is a packet for the core with these bytes
abbrev pub is_packet : Option Sent → ℕ → List ℕ → Bool
is_packet None core bytes = false
is_packet (Some p) core bytes = (p.to == core) && bytes_eq p.bytes bytes

-- the first of these numbers that is one of a packet for the core with these bytes
abbrev pub first_match : List Sent → ℕ → List ℕ → List ℕ → Option ℕ
first_match packets core bytes [] = None
first_match packets core bytes (k ∷ ks) =
    if is_packet (nth packets k) core bytes then Some k else first_match packets core bytes ks
