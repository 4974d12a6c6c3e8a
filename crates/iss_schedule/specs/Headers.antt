-- The header of a schedule: a table of its lines, and the set-up that their values give. A line has one of some words,
-- or a name and a number within two bounds, which may depend on the lines above. The last line names the faulty nodes.
-- A module is one row of the module table: its word, number, kind, and most faults.
use Rattle.std.specs.Prelude.{◌≡◌, ◌⊎◌, ◌<◌, ◌==◌, ℕ, suc, List, [], ◌∷◌, ◌++◌, length, get_or, codes, if◌then◌else◌, decimal}
use Rattle.iss_request.specs.Setup.{node_count, quorum_count}
use Rattle.iss_request.specs.declared.setups.Kind.{Kind}
use Rattle.iss_request.specs.declared.setups.Kind.TheVariants.{Byzantine, Stopping}
use Rattle.iss_request.specs.declared.setups.Policy.{Policy}
use Rattle.iss_request.specs.declared.setups.Policy.TheVariants.{Simple, Backoff, Blacklist}
use Rattle.iss_request.specs.declared.setups.Setup.{Setup}
use Rattle.iss_request.specs.declared.ids.NodeId.{NodeId}
use Rattle.iss_schedule.specs.declared.modules.Module.{Module}
use Rattle.iss_schedule.specs.Reads.{IsWithin}
use Rattle.iss_schedule.specs.Words.{line_of}

-- ---- modules and policies

-- a module that schedules can name: its line, its number, its fault model, and the maximal f
pub record ModuleRow : Type 0 where
  pub line : List ℕ
  pub number : ℕ
  pub kind : Kind
  pub most_faults : ℕ

abbrev pub row : List ℕ → ℕ → Kind → ℕ → ModuleRow
row line number kind most_faults = record { line = line; number = number; kind = kind; most_faults = most_faults }

abbrev pub relay_row : ModuleRow
relay_row = row (codes "module relay") 1 Stopping 0

-- The modules that schedules can name. To add a module, add a line here and one in the code's table.
-- rule: Schedules: A module is one row: its word, its number, its fault model, the most faults
abbrev pub module_rows : List ModuleRow
module_rows =
    relay_row
    ∷ row (codes "module raft") 2 Stopping 3
    ∷ row (codes "module pbft") 3 Byzantine 3
    ∷ row (codes "module hotstuff") 4 Byzantine 3
    ∷ row (codes "module chained") 5 Byzantine 3
    ∷ []

abbrev pub lines_of_rows : List ModuleRow → List (List ℕ)
lines_of_rows [] = []
lines_of_rows (r ∷ rs) = r.line ∷ lines_of_rows rs

-- the code's table as rows
abbrev pub see : Module → ModuleRow
see m = row m.line.now m.number m.kind m.most_faults

abbrev pub see_all : List Module → List ModuleRow
see_all [] = []
see_all (m ∷ ms) = see m ∷ see_all ms

-- the place of the module of this number, and the module of a place
abbrev pub place_among : ℕ → List ModuleRow → ℕ
place_among number [] = 0
place_among number (r ∷ rs) = if r.number == number then 0 else suc (place_among number rs)

abbrev pub row_at : ℕ → ModuleRow
row_at place = get_or module_rows place relay_row

abbrev pub row_of : ℕ → ModuleRow
row_of number = row_at (place_among number module_rows)

-- the module with this number has a row
abbrev pub IsOneOf : ℕ → List ModuleRow → Type 0
IsOneOf number [] = ⊥
IsOneOf number (r ∷ []) = number ≡ r.number
IsOneOf number (r ∷ q ∷ rs) = (number ≡ r.number) ⊎ IsOneOf number (q ∷ rs)

-- the lines that name the policies, in order
abbrev pub policy_lines : List (List ℕ)
policy_lines = codes "policy simple" ∷ codes "policy backoff" ∷ codes "policy blacklist" ∷ []

abbrev pub place_of_policy : Policy → ℕ
place_of_policy Simple = 0
place_of_policy Backoff = 1
place_of_policy Blacklist = 2

abbrev pub policy_at : ℕ → Policy
policy_at place = get_or (Simple ∷ Backoff ∷ Blacklist ∷ []) place Simple

-- ---- values

-- the value of header line i, counted from 0
abbrev pub value : List ℕ → ℕ → ℕ
value values k = get_or values k 0

-- The set-up with these values, faulty nodes and tag. Its nodes are counted by its fault model.
abbrev pub counted : Setup → Setup
counted s = record s { n = node_count s; quorum = quorum_count s }

abbrev pub setup_of_row : ModuleRow → List ℕ → List NodeId → List ℕ → Setup
setup_of_row r values faulty tag = counted (record {
  version = 1;
  «module» = r.number;
  f = value values 2;
  epoch = value values 3;
  buckets = value values 4;
  batch = value values 5;
  window = value values 6;
  policy = policy_at (value values 7);
  clients = value values 8;
  keys = value values 9;
  faulty = faulty;
  n = 0;
  quorum = 0;
  kind = r.kind;
  tag = tag;
})

abbrev pub setup_with : List ℕ → List NodeId → List ℕ → Setup
setup_with values faulty tag = setup_of_row (row_at (value values 1)) values faulty tag

-- the values of a set-up
abbrev pub values_of : Setup → List ℕ
values_of s =
    0 ∷ place_among s.module module_rows ∷ s.f ∷ s.epoch ∷ s.buckets ∷ s.batch ∷ s.window
    ∷ place_of_policy s.policy ∷ s.clients ∷ s.keys ∷ []

-- ---- lines

-- A line of a header is one of some texts, whose value is its index among them, or a name and a number. The number is
-- at least `low` and below `end`, which may depend on the values above.
pub data HeaderField : Type 0 where
  OneOf : (texts : List (List ℕ)) → HeaderField
  Number : (name : List ℕ) → (low end : List ℕ → ℕ) → HeaderField

-- the fields of a header; an epoch has at least one slot for each node
-- rule: Schedules: A header line is one of its field's texts, or a name and a number in range
abbrev pub header_fields : List HeaderField
header_fields =
    OneOf (codes "iss 1" ∷ [])
    ∷ OneOf (lines_of_rows module_rows)
    ∷ Number (codes "f") (λ above. 0) (λ above. suc (row_at (value above 1)).most_faults)
    ∷ Number (codes "epoch") (λ above. (setup_with above [] []).n) (λ above. 65)
    ∷ Number (codes "buckets") (λ above. 1) (λ above. 257)
    ∷ Number (codes "batch") (λ above. 1) (λ above. 33)
    ∷ Number (codes "window") (λ above. 1) (λ above. 65)
    ∷ OneOf policy_lines
    ∷ Number (codes "clients") (λ above. 1) (λ above. 257)
    ∷ Number (codes "keys") (λ above. 2) (λ above. 21)
    ∷ []

-- a name and a number
abbrev pub field : List ℕ → ℕ → List ℕ
field name n = name ++ 32 ∷ decimal n

-- how a value is encoded, and whether it is in range after the values above
abbrev pub spell_value : HeaderField → ℕ → List ℕ
spell_value (OneOf texts) v = get_or texts v []
spell_value (Number name low end) v = field name v

abbrev pub IsValue : HeaderField → List ℕ → ℕ → Type 0
IsValue (OneOf texts) above v = v < length texts
IsValue (Number name low end) above v = IsWithin (low above) (end above) v

-- a line that encodes a value in range
abbrev pub IsGoodLine : HeaderField → List ℕ → List ℕ → Type 0
IsGoodLine f above line = (v : ℕ) × (IsValue f above v × (line ≡ spell_value f v))

-- a value in range for each field
abbrev pub AreValues : List HeaderField → List ℕ → List ℕ → Type 0
AreValues [] above vs = vs ≡ []
AreValues (f ∷ fs) above [] = ⊥
AreValues (f ∷ fs) above (v ∷ vs) = IsValue f above v × AreValues fs (above ++ v ∷ []) vs

abbrev pub lines_of : List HeaderField → List ℕ → List (List ℕ)
lines_of [] vs = []
lines_of (f ∷ fs) [] = []
lines_of (f ∷ fs) (v ∷ vs) = spell_value f v ∷ lines_of fs vs

-- the field after these values
abbrev pub next_field : List ℕ → HeaderField
next_field above = get_or header_fields (length above) (OneOf [])

-- ---- the last line

abbrev pub node_words : List NodeId → List (List ℕ)
node_words [] = []
node_words (i ∷ is) = decimal i.0 ∷ node_words is

-- the line that names the faulty nodes
-- rule: Schedules: Faulty nodes are strictly ascending, at most f, and none where nodes only crash
abbrev pub faulty_line : List NodeId → List ℕ
faulty_line [] = codes "faulty none"
faulty_line (i ∷ is) = line_of (codes "faulty" ∷ node_words (i ∷ is))
