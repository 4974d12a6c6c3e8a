-- How the content of a log entry (Raft) or of a tree node (HotStuff) is spelled in bytes, and how it is read.
--
--   content   0 for nil; 1 and a value that is a batch; 2 for a mark
--
-- The value is spelled and read by the version of the formats.
use Rattle.std.specs.Prelude.{◌≡◌, ℕ, ◌==◌, nat_le, Bool, List, [], ◌∷◌, if◌then◌else◌}
use Rattle.iss_request.specs.Formats.{IsSpelledValue, batch_of, is_batch, parse_value, spell_value}
use Rattle.iss_request.specs.Parsing.{Parser, ◌>>=◌, byte, done, such_that}
use Rattle.iss_request.specs.declared.requests.Value.TheVariants.{Batch as Value_batch}
use Rattle.iss_sb.specs.declared.content.Content.{Content}
use Rattle.iss_sb.specs.declared.content.Content.TheVariants.{Nil, Holds, Mark}

-- ---- encoding

-- rule: Raft: An entry holds nil, a batch or a mark
abbrev pub spell_content : ℕ → Content → List ℕ
spell_content version Nil = 0 ∷ []
spell_content version (Holds batch) = 1 ∷ spell_value version (Value_batch batch)
spell_content version Mark = 2 ∷ []

-- ---- the table as a relation between contents and bytes

-- the row of the table for each kind
abbrev pub IsSpelledContent : ℕ → Content → List ℕ → Type 0
IsSpelledContent version Nil bytes = bytes ≡ 0 ∷ []
IsSpelledContent version (Holds batch) bytes = (value : List ℕ) × IsSpelledValue version (Value_batch batch) value
    × (bytes ≡ 1 ∷ value)
IsSpelledContent version Mark bytes = bytes ≡ 2 ∷ []

-- ---- decoding

unfoldable pub parse_batch_content : ℕ → Parser Content
parse_batch_content version = do
  value ← such_that is_batch (parse_value version)
  done (Holds (batch_of value))

abbrev pub is_kind : ℕ → Bool
is_kind n = nat_le n 2

abbrev pub content_of : ℕ → ℕ → Parser Content
content_of version kind = if kind == 0 then done Nil else (if kind == 1 then parse_batch_content version else done Mark)

-- the first byte is the kind of what follows
unfoldable pub parse_content : ℕ → Parser Content
parse_content version = do
  kind ← such_that is_kind byte
  content_of version kind
