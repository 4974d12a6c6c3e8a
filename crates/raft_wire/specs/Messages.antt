-- How the messages of Raft are encoded and decoded. The table is also stated as a relation, so each message has
-- exactly one encoding. Numbers have their highest byte first.
--
--   message   its number (1 byte), then its fields
--   Append    1: term (2), previous index (4), previous term (2), commit (4), count (4), that many entries
--   Reply     2: term (2), ok (1 byte, 0 or 1), index (4)
--   AskVote   3: term (2), last index (4), last term (2)
--   Vote      4: term (2), granted (1 byte, 0 or 1)
use Rattle.std.specs.Prelude.{◌≡◌, ◌<◌, ℕ, ◌^◌, ◌==◌, ◌&&◌, Bool, true, false, nat_lt, nat_le, List, [], ◌∷◌, ◌++◌, length, if◌then◌else◌}
use Rattle.std.specs.Int.{to_be_bytes, w16, w32}
use Rattle.std.specs.List.{flat_map}
use Rattle.iss_request.specs.Parsing.{Parser, ◌>>=◌, byte, done, number, such_that, times}
use Rattle.raft_wire.specs.declared.entries.Entry.{Entry}
use Rattle.raft_wire.specs.declared.messages.Message.{Message}
use Rattle.raft_wire.specs.declared.messages.Message.TheVariants.{Append, Reply, AskVote, Vote}
use Rattle.raft_wire.specs.Entries.{AreSpelledEntries, parse_entry, spell_entry}

-- ---- Which messages have an encoding

abbrev pub is_term : ℕ → Bool
is_term term = nat_lt term (2 ^ 16)

abbrev pub is_index : ℕ → Bool
is_index index = nat_lt index (2 ^ 32)

-- the fields of an Append before its entries, and the number of entries
abbrev pub fits_append : ℕ → ℕ → ℕ → ℕ → ℕ → Bool
fits_append term previous previous_term commit count = (is_term term && is_index previous) &&
    (is_term previous_term && (is_index commit && is_index count))

-- ---- Encoding. A message without one is written as number 0, which no reader accepts

abbrev pub flag : Bool → ℕ
flag true = 1
flag false = 0

abbrev pub append_row : ℕ → ℕ → ℕ → ℕ → ℕ → List ℕ → List ℕ
append_row term previous previous_term commit count entries =
    1 ∷ to_be_bytes w16 term ++ to_be_bytes w32 previous ++ to_be_bytes w16 previous_term ++ to_be_bytes w32 commit
    ++ to_be_bytes w32 count ++ entries

abbrev pub reply_row : ℕ → Bool → ℕ → List ℕ
reply_row term ok index = 2 ∷ to_be_bytes w16 term ++ flag ok ∷ to_be_bytes w32 index

abbrev pub ask_row : ℕ → ℕ → ℕ → List ℕ
ask_row term last last_term = 3 ∷ to_be_bytes w16 term ++ to_be_bytes w32 last ++ to_be_bytes w16 last_term

abbrev pub vote_row : ℕ → Bool → List ℕ
vote_row term granted = 4 ∷ to_be_bytes w16 term ++ flag granted ∷ []

abbrev pub no_message : List ℕ
no_message = 0 ∷ []

abbrev pub spell : ℕ → Message → List ℕ
spell version (Append term previous previous_term commit es) =
    if fits_append term previous previous_term commit (length es)
    then append_row term previous previous_term commit (length es) (flat_map (spell_entry version) es)
    else no_message
spell version (Reply term ok index) = if is_term term && is_index index then reply_row term ok index else no_message
spell version (AskVote term last last_term) =
    if is_term term && (is_index last && is_term last_term) then ask_row term last last_term else no_message
spell version (Vote term granted) = if is_term term then vote_row term granted else no_message

-- ---- The encoding as a relation between messages and bytes

pub record IsSpelledAppend (version term previous previous_term commit : ℕ) (es : List Entry)
    (bytes : List ℕ) : Type 0 where
  pub term_fits : term < 2 ^ 16
  pub previous_fits : previous < 2 ^ 32
  pub previous_term_fits : previous_term < 2 ^ 16
  pub commit_fits : commit < 2 ^ 32
  pub count_fits : length es < 2 ^ 32
  pub entries : List ℕ
  pub spelled : AreSpelledEntries version es entries
  pub row : bytes ≡ append_row term previous previous_term commit (length es) entries

-- rule: Raft: A message has one encoding, and an error names the first field that does not fit
abbrev pub IsSpelledMessage : ℕ → Message → List ℕ → Type 0
IsSpelledMessage version (Append term previous previous_term commit es) bytes =
    IsSpelledAppend version term previous previous_term commit es bytes
IsSpelledMessage version (Reply term ok index) bytes = (term < 2 ^ 16) × (index < 2 ^ 32)
    × (bytes ≡ reply_row term ok index)
IsSpelledMessage version (AskVote term last last_term) bytes =
    (term < 2 ^ 16) × (last < 2 ^ 32) × (last_term < 2 ^ 16) × (bytes ≡ ask_row term last last_term)
IsSpelledMessage version (Vote term granted) bytes = (term < 2 ^ 16) × (bytes ≡ vote_row term granted)

-- ---- Decoding

unfoldable pub parse_flag : Parser Bool
parse_flag = do
  n ← such_that (λ n. nat_le n 1) byte
  done (n == 1)

unfoldable pub parse_append : ℕ → Parser Message
parse_append version = do
  term ← number w16
  previous ← number w32
  previous_term ← number w16
  commit ← number w32
  count ← number w32
  es ← times count (parse_entry version)
  done (Append term previous previous_term commit es)

unfoldable pub parse_reply : Parser Message
parse_reply = do
  term ← number w16
  ok ← parse_flag
  index ← number w32
  done (Reply term ok index)

unfoldable pub parse_ask : Parser Message
parse_ask = do
  term ← number w16
  last ← number w32
  last_term ← number w16
  done (AskVote term last last_term)

unfoldable pub parse_vote : Parser Message
parse_vote = do
  term ← number w16
  granted ← parse_flag
  done (Vote term granted)

abbrev pub is_known : ℕ → Bool
is_known n = nat_le 1 n && nat_le n 4

abbrev pub fields_of : ℕ → ℕ → Parser Message
fields_of version n =
    if n == 1
    then parse_append version
    else (if n == 2 then parse_reply else (if n == 3 then parse_ask else parse_vote))

-- the message's number, then its fields
unfoldable pub parse : ℕ → Parser Message
parse version = do
  message ← such_that is_known byte
  fields_of version message
