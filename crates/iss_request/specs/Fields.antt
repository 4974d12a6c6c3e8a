-- What a reader and a writer of fields do. A reader that succeeds gives the thing that the parser gives, goes forward
-- by its bytes, and keeps the version. One that fails names the offset of the first field that does not fit. A format
-- is exact if what is read is encoded just so, and each thing has one encoding, or bytes that no reader takes.
use Rattle.std.specs.Prelude.{ℕ, ◌+◌, ◌≤◌, List, ◌++◌, length, drop, ◌≡◌, ◌⊎◌}

-- a reader's state: the version of the formats, all bytes, and the offset of the next one
pub record Reading : Type 0 where
  pub version : ℕ
  pub all : List ℕ
  pub at : ℕ

-- the bytes that are still to be read
abbrev pub left : Reading → List ℕ
left r = drop r.at r.all

-- the bytes written so far, and the version of the formats
pub record Written : Type 0 where
  pub version : ℕ
  pub bytes : List ℕ

-- the same with more bytes at the end
abbrev pub and_bytes : Written → List ℕ → Written
and_bytes w more = record w { bytes = w.bytes ++ more }

-- The result of parsing a prefix of some bytes: an element and the rest, or the number of bytes before the first field
-- that does not fit.
pub data Parsed (A : Type 0) : Type 0 where
  Good : (thing : A) → (rest : List ℕ) → Parsed A
  Bad : (at : ℕ) → Parsed A

abbrev pub IsBad : {A : Type 0} → Parsed A → Type 0
IsBad {A} p = (at : ℕ) × (p ≡ Bad at)

-- The parser's element was read, and the reader is now at the rest.
pub record IsRead {A : Type 0} (parse : List ℕ → Parsed A) (before later : Reading) (thing : A) : Type 0 where
  pub found : parse (left before) ≡ Good thing (left later)
  pub version : later.version ≡ before.version
  pub same : later.all ≡ before.all
  pub forward : before.at ≤ later.at
  pub behind : later.at + length (left later) ≡ before.at + length (left before)

-- The parser found no element; `at` is the offset of the first field that does not fit.
-- rule: Formats: A decoding error names the offset of the first field that does not fit
pub record IsUnreadable {A : Type 0} (parse : List ℕ → Parsed A) (before : Reading) (at : ℕ) : Type 0 where
  pub after : ℕ
  pub found : parse (left before) ≡ Bad after
  pub field : at ≡ before.at + after

-- decoding a message's encoding gives the message, whatever follows
abbrev pub IsReadAgain : {M : Type 0} → (M → List ℕ) → (List ℕ → Parsed M) → M → Type 0
IsReadAgain spell parse msg = (rest : List ℕ) → parse (spell msg ++ rest) ≡ Good msg rest

-- Each message has at most one encoding. A message without one is written as bytes that decode to nothing.
pub record IsGrammar {M : Type 0} (spell : M → List ℕ) (parse : List ℕ → Parsed M) : Type 0 where
  pub only : (bytes rest : List ℕ) (msg : M) → parse bytes ≡ Good msg rest → bytes ≡ spell msg ++ rest
  pub whole : (msg : M) → IsReadAgain spell parse msg ⊎ ((rest : List ℕ) → IsBad (parse (spell msg ++ rest)))
