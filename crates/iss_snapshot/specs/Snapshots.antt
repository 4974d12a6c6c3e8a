-- How a replica is encoded as it enters an epoch, before it takes the messages that came early. In a journal a snapshot
-- replaces all events before it. It continues the snapshot before: it has the values of the epochs since that one, and
-- the certificates that no earlier one has. Nothing is in flight at that moment.
--
--   snapshot      kind (1 byte: 5), from (8), to (8, above from), the values of the epochs from `from` on and below
--                 `to` in the order of their slots, next leaf (4), requests, certificates, votes, early packets; each
--                 of these four after its number (4, of packets 2)
--   certificate   epoch (8), then as at the end of a piece
--   vote          epoch (8), node (1), then as in the body of its packet
--   early packet  length (4), bytes
--
-- How many values an epoch has may depend on the log before it: `slots log e` is the number for epoch e after this log.
use Rattle.std.specs.Prelude.{◌≡◌, ℕ, zero, suc, ◌-◌, ◌^◌, ◌<◌, nat_lt, ◌==◌, ◌&&◌, Bool, true, List, [], ◌∷◌, ◌++◌, length, if◌then◌else◌}
use Rattle.std.specs.Int.{Width, to_be_bytes, w16, w32, w64}
use Rattle.std.specs.List.{AllByRecursion, flat_map, list_all}
use Rattle.iss_base.specs.Lists.{push_all}
use Rattle.iss_checkpoint.specs.Bodies.{parse_vote, spell_vote}
use Rattle.iss_checkpoint.specs.Certificates.{parse_cert, spell_cert}
use Rattle.iss_checkpoint.specs.declared.votes.Cert.{Cert}
use Rattle.iss_checkpoint.specs.declared.votes.Vote.{Vote}
use Rattle.iss_request.specs.Fields.{IsReadAgain}
use Rattle.iss_request.specs.Formats.{parse_request, parse_value, spell_request, spell_value}
use Rattle.iss_request.specs.Parsing.{Parser, ◌>>=◌, block, byte, done, number, such_that, times}
use Rattle.iss_request.specs.declared.requests.Value.{Value}
use Rattle.iss_snapshot.specs.declared.snapshots.Snapshot.{Snapshot}
use Rattle.iss_snapshot.specs.declared.snapshots.Span.{Span}

-- ---- encoding

-- the elements after their number
abbrev pub counted : {A : Type 0} → Width → (A → List ℕ) → List A → List ℕ
counted w spell xs = to_be_bytes w (length xs) ++ flat_map spell xs

abbrev pub spell_values : ℕ → List Value → List ℕ
spell_values version values = flat_map (spell_value version) values

abbrev pub cert_entry : Cert → List ℕ
cert_entry c = to_be_bytes w64 c.epoch.0 ++ spell_cert c

abbrev pub vote_entry : Vote → List ℕ
vote_entry v = to_be_bytes w64 v.epoch.0 ++ (v.by.0 ∷ spell_vote v)

abbrev pub packet_entry : List ℕ → List ℕ
packet_entry bytes = to_be_bytes w32 (length bytes) ++ bytes

abbrev pub head_bytes : Snapshot → List ℕ
head_bytes s = 5 ∷ (to_be_bytes w64 s.from.0 ++ to_be_bytes w64 s.to.0)

abbrev pub body_bytes : Snapshot → List ℕ
body_bytes s =
    to_be_bytes w32 s.leaf ++ (counted w32 spell_request s.waiting ++ (counted w32 cert_entry s.certs
    ++ (counted w32 vote_entry s.votes ++ counted w16 packet_entry s.early)))

abbrev pub snapshot_row : ℕ → Snapshot → List ℕ
snapshot_row version s = head_bytes s ++ (flat_map (spell_values version) s.epochs ++ body_bytes s)

-- whether the bytes' length fits its field
abbrev pub is_short : List ℕ → Bool
is_short bytes = nat_lt (length bytes) (2 ^ 32)

-- whether the snapshot has as many epochs as it goes on by, and the numbers of its rows fit their fields
abbrev pub fits : Snapshot → Bool
fits s =
    ((nat_lt s.from.0 s.to.0 && (length s.epochs == s.to.0 - s.from.0)) && nat_lt (length s.waiting) (2 ^ 32)) &&
    ((nat_lt (length s.certs) (2 ^ 32) && nat_lt (length s.votes) (2 ^ 32)) &&
    (nat_lt (length s.early) (2 ^ 16) && list_all is_short s.early))

-- A snapshot that does not fit is written as one byte that is no snapshot's kind.
unfoldable pub spell_snapshot : ℕ → Snapshot → List ℕ
spell_snapshot version s = if fits s then snapshot_row version s else 0 ∷ []

-- ---- decoding

-- as many elements as their number says
unfoldable pub parse_counted : {A : Type 0} → Width → Parser A → Parser (List A)
parse_counted w p = do
  count ← number w
  times count p

-- the values of n epochs, from epoch e on, after this log
unfoldable pub parse_epochs : ℕ → (List Value → ℕ → ℕ) → ℕ → ℕ → List Value → Parser (List (List Value))
parse_epochs version slots zero e log = done []
parse_epochs version slots (suc n) e log = do
  values ← times (slots log e) (parse_value version)
  others ← parse_epochs version slots n (suc e) (push_all values log)
  done (values ∷ others)

unfoldable pub parse_cert_entry : Parser Cert
parse_cert_entry = do
  e ← number w64
  parse_cert e

unfoldable pub parse_vote_entry : Parser Vote
parse_vote_entry = do
  e ← number w64
  by ← byte
  parse_vote by e

unfoldable pub parse_packet_entry : Parser (List ℕ)
parse_packet_entry = do
  size ← number w32
  block size

unfoldable pub parse_kind : Parser ℕ
parse_kind = such_that (λ n. n == 5) byte

-- an epoch after `from`
unfoldable pub parse_to : ℕ → Parser ℕ
parse_to from = such_that (λ n. nat_lt from n) (number w64)

unfoldable pub parse_span : Parser Span
parse_span = do
  kind ← parse_kind
  from ← number w64
  to ← parse_to from
  done (record { from = record { 0 = from }; to = record { 0 = to } })

unfoldable pub parse_body : Span → List (List Value) → Parser Snapshot
parse_body span epochs = do
  leaf ← number w32
  waiting ← parse_counted w32 parse_request
  certs ← parse_counted w32 parse_cert_entry
  votes ← parse_counted w32 parse_vote_entry
  early ← parse_counted w16 parse_packet_entry
  done (record {
    from = span.from;
    to = span.to;
    epochs = epochs;
    leaf = leaf;
    waiting = waiting;
    certs = certs;
    votes = votes;
    early = early;
  })

-- a snapshot after this log, which has all epochs before `from`
unfoldable pub parse_snapshot : ℕ → (List Value → ℕ → ℕ) → List Value → Parser Snapshot
parse_snapshot version slots log = do
  span ← parse_span
  epochs ← parse_epochs version slots (span.to.0 - span.from.0) span.from.0 log
  parse_body span epochs

-- the same number of values in each epoch
abbrev pub equal_epochs : ℕ → List Value → ℕ → ℕ
equal_epochs n log e = n

-- ---- the snapshots that have an encoding

-- each epoch has as many values as slots, and each value has an encoding
abbrev pub AreEpochs : ℕ → (List Value → ℕ → ℕ) → ℕ → List Value → List (List Value) → Type 0
AreEpochs version slots e log [] = Unit {0}
AreEpochs version slots e log (values ∷ others) =
    (length values ≡ slots log e)
    × AllByRecursion (λ v. IsReadAgain (spell_value version) (parse_value version) v) values
    × AreEpochs version slots (suc e) (push_all values log) others

-- the certificate, and the vote, with its epoch
abbrev pub IsCertEntry : Cert → Type 0
IsCertEntry c = (c.epoch.0 < 2 ^ 64) × IsReadAgain spell_cert (parse_cert c.epoch.0) c

abbrev pub IsVoteEntry : Vote → Type 0
IsVoteEntry v = (v.epoch.0 < 2 ^ 64) × IsReadAgain spell_vote (parse_vote v.by.0 v.epoch.0) v

-- rule: Formats: A snapshot has one encoding a version: epochs, leaf, requests, certificates, votes, packets
pub record IsEncodable (version : ℕ) (slots : List Value → ℕ → ℕ) (log : List Value) (s : Snapshot) : Type 0 where
  pub from_fits : s.from.0 < 2 ^ 64
  pub to_fits : s.to.0 < 2 ^ 64
  pub leaf_fits : s.leaf < 2 ^ 32
  pub fitting : fits s ≡ true
  pub epochs : AreEpochs version slots s.from.0 log s.epochs
  pub waiting : AllByRecursion (λ q. IsReadAgain spell_request parse_request q) s.waiting
  pub certs : AllByRecursion IsCertEntry s.certs
  pub votes : AllByRecursion IsVoteEntry s.votes
