-- What a table holds, by look-ups, for private functions alone.
use Rattle.std.specs.Prelude.{◌≡◌, ◌≢◌, ◌≤◌, ◌<◌, ◌*◌, ◌-◌, ◌/◌, ◌^◌, ◌==◌, ℕ, suc, List, [], codes, get_or, if◌then◌else◌, pos, ℤ, Option, Some, option_and_then}
use Rattle.toml.specs.Data.{Members, no_members, member, as_integer, as_str, get_member}
use Rattle.iss_request.specs.Setup.{nodes_of_kind, quorum_of_kind}
use Rattle.iss_schedule.specs.Headers.{IsOneOf, module_rows, place_of_policy, policy_lines, row_of}
use Rattle.iss_config.specs.Configs.{IsInRange, entries_of, members_of, word_in}
use Rattle.iss_config.specs.declared.parts.Protocol.{Protocol}
use Rattle.iss_config.specs.declared.parts.Sizes.{Sizes}
use Rattle.iss_config.specs.declared.parts.Work.{Work}
use Rattle.iss_config.specs.declared.configs.Config.{Config}

-- how many members
abbrev pub count_of : Members → ℕ
count_of no_members = 0
count_of (member k d ms) = suc (count_of ms)

-- the whole number, and the text, at a key
abbrev pub integer_at : List ℕ → Members → Option ℤ
integer_at key ms = option_and_then as_integer (get_member key ms)

abbrev pub text_at : List ℕ → Members → Option (List ℕ)
text_at key ms = option_and_then as_str (get_member key ms)

-- the table has this whole number, within the range, at the key
pub record HasNumber (ms : Members) (key : List ℕ) (low high n : ℕ) : Type 0 where
  pub is : integer_at key ms ≡ Some (pos n)
  pub least : low ≤ n
  pub most : n ≤ high

-- the number of nodes, and the size of a quorum, by the number of the module
abbrev pub nodes_of : ℕ → ℕ → ℕ
nodes_of number f = if number == 1 then 3 else nodes_of_kind (row_of number).kind f

abbrev pub quorum_of : ℕ → ℕ → ℕ
quorum_of number f = if number == 1 then 2 else quorum_of_kind (row_of number).kind f

-- The table has these values at its keys, in their ranges, and maybe other keys. The protocol's keys come first, then
-- the sizes, and then the loop's keys.
pub record HoldsProtocol (ms : Members) (p : Protocol) : Type 0 where
  pub module_is : IsOneOf p.module module_rows
      × (text_at (codes "module") ms ≡ Some (word_in (row_of p.module).line))
  pub policy_is : text_at (codes "policy") ms ≡ Some (word_in (get_or policy_lines (place_of_policy p.policy) []))
  pub f_is : HasNumber ms (codes "f") 0 (row_of p.module).most_faults p.f
  pub epoch_is : HasNumber ms (codes "epoch") (nodes_of p.module p.f) 64 p.epoch

pub record HoldsSizes (ms : Members) (s : Sizes) : Type 0 where
  pub buckets_is : HasNumber ms (codes "buckets") 1 256 s.buckets
  pub batch_is : HasNumber ms (codes "batch") 1 32 s.batch
  pub window_is : HasNumber ms (codes "window") 1 64 s.window
  pub clients_is : HasNumber ms (codes "clients") 1 256 s.clients
  pub keys_is : HasNumber ms (codes "keys") 2 20 s.keys

pub record HoldsWork (ms : Members) (s : Sizes) (w : Work) : Type 0 where
  pub requests_is : HasNumber ms (codes "requests") 0 16384 w.requests
  pub turns_is : HasNumber ms (codes "turns") 1 1000000 w.turns
  pub in_windows : w.requests ≤ s.clients * s.window
  pub have_leaves : w.requests ≢ 0 → (w.requests - 1) / s.clients < 2 ^ s.keys

-- the parts of a configuration
abbrev pub protocol_of : Config → Protocol
protocol_of c = record { «module» = c.module; policy = c.policy; f = c.f; epoch = c.epoch }

abbrev pub sizes_of : Config → Sizes
sizes_of c = record { buckets = c.buckets; batch = c.batch; window = c.window; clients = c.clients; keys = c.keys }

abbrev pub work_of : Config → Work
work_of c = record { requests = c.requests; turns = c.turns }

pub record Holds (ms : Members) (c : Config) : Type 0 where
  pub protocol : HoldsProtocol ms (protocol_of c)
  pub sizes : HoldsSizes ms (sizes_of c)
  pub work : HoldsWork ms (sizes_of c) (work_of c)

-- the table is that of the configuration
pub record IsTableOf (ms : Members) (c : Config) : Type 0 where
  pub same : ms ≡ members_of (entries_of c)
  pub range : IsInRange c
