-- How the entries of a log are encoded and decoded. An entry is a term and its content: nil, a batch or a mark.
--
--   entry   term (2 bytes), then its content
use Rattle.std.specs.Prelude.{◌≡◌, ◌<◌, ℕ, ◌^◌, nat_lt, List, [], ◌∷◌, ◌++◌, if◌then◌else◌}
use Rattle.std.specs.Int.{to_be_bytes, w16}
use Rattle.iss_request.specs.Parsing.{Parser, ◌>>=◌, done, number}
use Rattle.iss_sb.specs.Content.{IsSpelledContent, parse_content, spell_content}
use Rattle.raft_wire.specs.declared.entries.Entry.{Entry}

-- ---- Encoding

-- An entry whose term is too large is written as term 0 and an invalid kind, which no reader accepts.
abbrev pub no_entry : List ℕ
no_entry = 0 ∷ 0 ∷ 255 ∷ []

abbrev pub spell_entry : ℕ → Entry → List ℕ
spell_entry version e =
    if nat_lt e.term (2 ^ 16) then to_be_bytes w16 e.term ++ spell_content version e.what else no_entry

-- ---- The encoding as a relation between entries and bytes

pub record IsSpelledEntry (version : ℕ) (e : Entry) (bytes : List ℕ) : Type 0 where
  pub term : e.term < 2 ^ 16
  pub behind : List ℕ
  pub what : IsSpelledContent version e.what behind
  pub row : bytes ≡ to_be_bytes w16 e.term ++ behind

-- the entries in sequence
abbrev pub AreSpelledEntries : ℕ → List Entry → List ℕ → Type 0
AreSpelledEntries version [] bytes = bytes ≡ []
AreSpelledEntries version (e ∷ es) bytes =
    (first : List ℕ) × (others : List ℕ) × IsSpelledEntry version e first × AreSpelledEntries version es others
    × (bytes ≡ first ++ others)

-- ---- Decoding

unfoldable pub parse_entry : ℕ → Parser Entry
parse_entry version = do
  term ← number w16
  what ← parse_content version
  done (record { term = term; what = what })
