-- The tree of HotStuff (Yin and others, 2019): the string of a node, the nodes that a replica knows, and their
-- branches. A node has a parent and holds nil, a batch, or a mark, which fills no slot. The k-th node of a branch that
-- is no mark holds the k-th slot of the segment. The root has no content; its digest is that of the empty string.
-- HotStuff and its chained form differ in the module's tag, the number of phases, and a node's string.
use Rattle.std.specs.Prelude.{ℕ, suc, ◌+◌, ◌==◌, ◌&&◌, ◌||◌, Bool, List, [], ◌∷◌, ◌++◌, replicate, Option, Some, None, if◌then◌else◌}
use Rattle.iss_base.specs.Lists.{same_bytes}
use Rattle.iss_request.specs.Digest.{digest}
use Rattle.iss_request.specs.Formats.{value_string}
use Rattle.iss_request.specs.declared.ids.Slot.{Slot}
use Rattle.iss_request.specs.declared.requests.Value.{Value}
use Rattle.iss_request.specs.declared.requests.Value.TheVariants.{Nil as Value_nil, Batch as Value_batch}
use Rattle.iss_sb.specs.Statements.{four_bytes}
use Rattle.iss_sb.specs.declared.content.Content.{Content}
use Rattle.iss_sb.specs.declared.content.Content.TheVariants.{Nil, Holds, Mark}

-- ---- Strings and digests

-- the value that a content has for a slot; a mark has none
abbrev pub value_of : Content → Option Value
value_of Nil = Some Value_nil
value_of (Holds b) = Some (Value_batch b)
value_of Mark = None

abbrev pub kind_of : Content → ℕ
kind_of Nil = 0
kind_of (Holds b) = 1
kind_of Mark = 2

-- the string of the value, if there is one
abbrev pub strings_of : ℕ → Option Value → List (List ℕ)
strings_of version None = []
strings_of version (Some v) = value_string version v ∷ []

-- the value's digest, zeros for a mark
abbrev pub value_digest : ℕ → Option Value → List ℕ
value_digest version None = replicate 32 0
value_digest version (Some v) = digest (value_string version v)

-- the root's digest is that of the empty string
abbrev pub root : List ℕ
root = digest []

-- the content in a node's string: its kind and its value's digest
abbrev pub what_bytes : ℕ → Content → List ℕ
what_bytes version what = kind_of what ∷ value_digest version (value_of what)

-- HotStuff's string has no view: a node that is proposed again in another view is the same node
-- rule: HotStuff: A node's digest covers its parent, its kind and the digest of its value
abbrev pub plain_string : ℕ → ℕ → List ℕ → Content → List ℕ
plain_string version view parent what = 0x41 ∷ parent ++ what_bytes version what

-- the string of the chained form, in which each node has one view
-- rule: Chained HotStuff: A node's digest covers its view
abbrev pub viewed_string : ℕ → ℕ → List ℕ → Content → List ℕ
viewed_string version view parent what = 0x44 ∷ four_bytes view ++ parent ++ what_bytes version what

-- the string of a node that shows this view, or none
abbrev pub string_in : ℕ → Option ℕ → List ℕ → Content → List ℕ
string_in version None parent what = plain_string version 0 parent what
string_in version (Some view) parent what = viewed_string version view parent what

-- The differences between basic and chained HotStuff: the module's tag, the number of voting phases, and the string of
-- a node by version, view, parent and content.
pub record Form : Type 0 where
  pub tag : ℕ
  pub phases : ℕ
  pub string : ℕ → ℕ → List ℕ → Content → List ℕ

abbrev pub basic : Form
basic = record { tag = 4; phases = 3; string = plain_string }

abbrev pub chained : Form
chained = record { tag = 5; phases = 1; string = viewed_string }

-- ---- Known nodes, newest first: each comes before its parent

-- a node, with the view in which it was proposed
pub record Node : Type 0 where
  pub view : ℕ
  pub digest : List ℕ
  -- the justification: the view of its votes, and the parent's digest
  pub from : ℕ
  pub parent : List ℕ
  pub what : Content

-- whether the digest is a known node's or the root's
abbrev pub is_known : List Node → List ℕ → Bool
is_known [] d = same_bytes d root
is_known (k ∷ ks) d = same_bytes k.digest d || is_known ks d

-- the contents from the node up to the root
abbrev pub branch : List Node → List ℕ → List Content
branch [] d = []
branch (k ∷ ks) d = if same_bytes k.digest d then k.what ∷ branch ks k.parent else branch ks d

-- whether e is the node d or an ancestor of it
abbrev pub extends : List Node → List ℕ → List ℕ → Bool
extends [] d e = same_bytes d e
extends (k ∷ ks) d e = same_bytes d e || (if same_bytes k.digest d then extends ks k.parent e else extends ks d e)

-- ---- The slots of a branch, whose contents are listed newest first

-- how many slots a content fills
abbrev pub weight : Content → ℕ
weight Nil = 1
weight (Holds b) = 1
weight Mark = 0

-- how many slots a branch fills
abbrev pub filled : List Content → ℕ
filled [] = 0
filled (c ∷ cs) = weight c + filled cs

abbrev pub value_here : ℕ → ℕ → Content → Option Value → Option Value
value_here k n c below = if (k == n) && (weight c == 1) then value_of c else below

-- the value at this place of the branch, counted from 0 at the root
abbrev pub value_at : List Content → ℕ → Option Value
value_at [] k = None
value_at (c ∷ cs) k = value_here k (filled cs) c (value_at cs k)

-- the value at slot s, if the first of these slots has place k
abbrev pub value_at_slot : List Content → ℕ → List Slot → ℕ → Option Value
value_at_slot cs k [] s = None
value_at_slot cs k (t ∷ ts) s = if t.0 == s then value_at cs k else value_at_slot cs (suc k) ts s
