-- Configurations. A configuration is a TOML table with exactly eleven keys, each with a text or a whole number. Nine of
-- them are those of a schedule's header, in its ranges, and give the set-up of a cluster without faulty nodes. Two are
-- the loop's: how many requests it makes, and how many turns it takes.
use Rattle.std.specs.Prelude.{◌≡◌, ◌≢◌, ◌≤◌, ◌<◌, ◌*◌, ◌-◌, ◌/◌, ◌^◌, ℕ, List, [], ◌∷◌, codes, drop, get_or, pos, Some}
use Rattle.std.specs.Str.{IsUtf8}
use Rattle.toml.specs.Data.{Data, Members, integer, member, no_members, string}
use Rattle.toml.specs.Parse.{parse_document}
use Rattle.iss_request.specs.declared.setups.Setup.{Setup}
use Rattle.iss_schedule.specs.Headers.{counted, place_of_policy, policy_lines, row_of}
use Rattle.iss_schedule.specs.Schedules.{IsKnown, cluster_tag}
use Rattle.iss_config.specs.declared.configs.Config.{Config}

-- ---- the table

-- the word of a header's line `module WORD` or `policy WORD`
abbrev pub word_in : List ℕ → List ℕ
word_in line = drop 7 line

abbrev pub module_word : Config → List ℕ
module_word c = word_in (row_of c.module).line

abbrev pub policy_word : Config → List ℕ
policy_word c = word_in (get_or policy_lines (place_of_policy c.policy) [])

abbrev pub whole : ℕ → Data
whole n = integer (pos n)

-- keys with their values, as a table has them
abbrev pub members_of : List (List ℕ × Data) → Members
members_of [] = no_members
members_of (e ∷ es) = member e.0 e.1 (members_of es)

-- the keys of a configuration in the order of their letters, each with its value
-- rule: Loopback: A configuration is a TOML table with exactly eleven keys
abbrev pub entries_of : Config → List (List ℕ × Data)
entries_of c =
    (codes "batch", whole c.batch)
    ∷ (codes "buckets", whole c.buckets)
    ∷ (codes "clients", whole c.clients)
    ∷ (codes "epoch", whole c.epoch)
    ∷ (codes "f", whole c.f)
    ∷ (codes "keys", whole c.keys)
    ∷ (codes "module", string (module_word c))
    ∷ (codes "policy", string (policy_word c))
    ∷ (codes "requests", whole c.requests)
    ∷ (codes "turns", whole c.turns)
    ∷ (codes "window", whole c.window)
    ∷ []

-- ---- the set-up and the ranges

-- the header's values; no node is faulty
abbrev pub untagged : Config → Setup
untagged c = counted (record {
  version = 1;
  «module» = c.module;
  f = c.f;
  epoch = c.epoch;
  buckets = c.buckets;
  batch = c.batch;
  window = c.window;
  policy = c.policy;
  clients = c.clients;
  keys = c.keys;
  faulty = [];
  n = 0;
  quorum = 0;
  kind = (row_of c.module).kind;
  tag = [];
})

-- the set-up of the cluster, whose tag is that of the header of its schedules
-- rule: Loopback: A configuration's set-up has its values, no faulty node, and the tag of its own header
abbrev pub setup_of : Config → Setup
setup_of c = record (untagged c) { tag = cluster_tag (untagged c) }

-- The set-up is one that a schedule may have. The requests are in the clients' windows and have leaves to sign them:
-- the last one has the number `(requests - 1) / clients`, and a client has `2 ^ keys` leaves.
-- rule: Loopback: A configuration's numbers are in the ranges of a schedule's header
-- rule: Loopback: Requests lie in the clients' windows, and have leaves that sign them
pub record IsInRange (c : Config) : Type 0 where
  pub setup : IsKnown (setup_of c)
  pub requests_high : c.requests ≤ 16384
  pub requests_in_windows : c.requests ≤ c.clients * c.window
  pub requests_have_leaves : c.requests ≢ 0 → (c.requests - 1) / c.clients < 2 ^ c.keys
  pub turns_low : 1 ≤ c.turns
  pub turns_high : c.turns ≤ 1000000

-- the bytes are a text of the configuration
pub record IsConfig (bytes : List ℕ) (c : Config) : Type 0 where
  pub utf8 : IsUtf8 bytes
  pub table : parse_document bytes ≡ Some (members_of (entries_of c))
  pub range : IsInRange c
