-- How requests and values are encoded and decoded. Numbers have their highest byte first. A version is any number: 2
-- is the second, and every other number means the first.
--
--   request     client (1 byte), number (4), length of the payload (2, at most 256), payload, signature
--   value       0 for nil; 1, count (1 byte, at most 32), requests
--               in version 2: 0 for nil; 2, count (2 bytes, at most 256), requests
--   signature   height of the key (1 byte), leaf (4), and as many digests of 32 bytes as a key of this height has
use Rattle.std.specs.Prelude.{◌≡◌, ◌≤◌, ℕ, zero, suc, ◌+◌, ◌*◌, ◌^◌, List, [], ◌∷◌, ◌++◌, length}
use Rattle.std.specs.Prelude.{Bool, true, false, nat_le, nat_lt, ◌==◌, ◌&&◌, ◌||◌, if◌then◌else◌}
use Rattle.std.specs.List.{AllByRecursion, flat_map}
use Rattle.std.specs.Int.{w16, w32, to_be_bytes}
use Rattle.iss_base.specs.Heights.{digests_of_height, is_height}
use Rattle.iss_request.specs.Parsing.{Parser, ◌>>=◌, done, such_that, byte, number, block, digests, times}
use Rattle.iss_request.specs.declared.requests.Request.{Request}
use Rattle.iss_request.specs.declared.requests.Value.{Value}
use Rattle.iss_request.specs.declared.requests.Value.TheVariants.{Nil as Value_nil, Batch as Value_batch}

-- ---- versions

abbrev pub is_second : ℕ → Bool
is_second version = version == 2

-- the byte that identifies the version: the first of a packet, and of a value that is a batch
abbrev pub version_byte : ℕ → ℕ
version_byte version = if is_second version then 2 else 1

-- the maximal number of requests in a batch
abbrev pub requests_most : ℕ → ℕ
requests_most version = if is_second version then 256 else 32

-- ---- values

abbrev pub is_batch : Value → Bool
is_batch Value_nil = false
is_batch (Value_batch b) = true

-- the requests of a value; nil has none
abbrev pub batch_of : Value → List Request
batch_of Value_nil = []
batch_of (Value_batch b) = b

-- ---- what has an encoding

-- rule: Formats: A signature begins with its key's height, which fixes its length
abbrev pub is_signature : List ℕ → Bool
is_signature [] = false
is_signature (h ∷ rest) = is_height h && (length rest == 4 + 32 * digests_of_height h)

abbrev pub has_spelling : Request → Bool
has_spelling r = nat_lt r.id.number (2 ^ 32) && (nat_le (length r.payload) 256 && is_signature r.sig)

-- ---- encoding. What has none is written as a request whose length is too large, or a count that is, and ends there

abbrev pub request_bytes : Request → List ℕ
request_bytes r = r.id.client ∷ to_be_bytes w32 r.id.number ++ to_be_bytes w16 (length r.payload) ++ r.payload ++ r.sig

abbrev pub no_request : List ℕ
no_request = 0 ∷ 0 ∷ 0 ∷ 0 ∷ 0 ∷ 255 ∷ 255 ∷ []

unfoldable pub spell_request : Request → List ℕ
spell_request r = if has_spelling r then request_bytes r else no_request

-- a count that is too large in either version
abbrev pub no_batch : List ℕ
no_batch = 255 ∷ 255 ∷ []

unfoldable pub spell_count : ℕ → ℕ → List ℕ
spell_count version count = if is_second version then to_be_bytes w16 count else count ∷ []

unfoldable pub spell_batch : ℕ → List Request → List ℕ
spell_batch version b = if nat_le (length b) (requests_most version)
    then spell_count version (length b) ++ flat_map spell_request b else no_batch

unfoldable pub spell_value : ℕ → Value → List ℕ
spell_value version Value_nil = 0 ∷ []
spell_value version (Value_batch b) = version_byte version ∷ spell_batch version b

-- the string hashed for a value's digest
-- rule: Formats: A value's digest is the hash of its encoding after a byte of its own
abbrev pub value_string : ℕ → Value → List ℕ
value_string version v = 0x40 ∷ spell_value version v

-- ---- the table as a relation between elements and bytes

abbrev pub HasSpelling : Request → Type 0
HasSpelling r = has_spelling r ≡ true

-- rule: Formats: A request has one encoding: client, number, a payload of at most 256 bytes, signature
abbrev pub IsSpelledRequest : Request → List ℕ → Type 0
IsSpelledRequest r bytes = HasSpelling r × (bytes ≡ request_bytes r)

abbrev pub value_bytes : ℕ → List Request → List ℕ
value_bytes version b = version_byte version ∷ spell_count version (length b) ++ flat_map request_bytes b

-- rule: Formats: A value has one encoding a version: nil, or a batch after a version byte and a count
abbrev pub IsSpelledValue : ℕ → Value → List ℕ → Type 0
IsSpelledValue version Value_nil bytes = bytes ≡ 0 ∷ []
IsSpelledValue version (Value_batch b) bytes = (length b ≤ requests_most version) × AllByRecursion HasSpelling b
    × (bytes ≡ value_bytes version b)

-- ---- reading

unfoldable pub parse_payload : Parser (List ℕ)
parse_payload = do
  size ← such_that (λ n. nat_le n 256) (number w16)
  block size

unfoldable pub parse_signature : Parser (List ℕ)
parse_signature = do
  height ← such_that is_height byte
  leaf ← block 4
  nodes ← digests (digests_of_height height)
  done (height ∷ leaf ++ nodes)

unfoldable pub parse_request : Parser Request
parse_request = do
  client ← byte
  number ← number w32
  payload ← parse_payload
  sig ← parse_signature
  done (record { id = record { client = client; number = number }; payload = payload; sig = sig })

unfoldable pub count_field : ℕ → Parser ℕ
count_field version = if is_second version then number w16 else byte

unfoldable pub parse_count : ℕ → Parser ℕ
parse_count version = such_that (λ n. nat_le n (requests_most version)) (count_field version)

unfoldable pub parse_batch : ℕ → Parser (List Request)
parse_batch version = do
  count ← parse_count version
  times count parse_request

-- the first byte says whether the value is nil or a batch
abbrev pub is_first : ℕ → ℕ → Bool
is_first version b = (b == 0) || (b == version_byte version)

unfoldable pub parse_rest : ℕ → ℕ → Parser Value
parse_rest version zero = done Value_nil
parse_rest version (suc b) = do
  batch ← parse_batch version
  done (Value_batch batch)

unfoldable pub parse_value : ℕ → Parser Value
parse_value version = do
  first ← such_that (is_first version) byte
  parse_rest version first
