-- Chained HotStuff, but for the string of a node, which shows no view. A node that is proposed again in another view,
-- with the same parent and content, then has the same digest, and a replica takes it for one of the view in which it
-- took it. All definitions that no node's digest enters are those of chained HotStuff.
use Rattle.std.specs.Prelude.{ℕ, ◌&&◌, ◌||◌, Bool, nat_lt, List, [], ◌∷◌, ◌++◌, length, Option, Some, None, if◌then◌else◌}
use Rattle.iss_base.specs.Lists.{first_of, same_bytes}
use Rattle.iss_request.specs.declared.ids.Slot.{Slot}
use Rattle.iss_request.specs.declared.requests.Batch.{Batch}
use Rattle.iss_request.specs.declared.requests.Value.{Value}
use Rattle.iss_sb.specs.declared.content.Content.{Content}
use Rattle.iss_sb.specs.declared.effects.Input.{Input}
use Rattle.iss_sb.specs.declared.effects.Input.TheVariants.{Cast, Receive, Timeout}
use Rattle.iss_sb.specs.declared.effects.Params.{Params}
use Rattle.iss_sb.specs.declared.effects.To.{To}
use Rattle.iss_sb.specs.Evidence.{Item, Made, Module, accepts}
use Rattle.hs_tree.specs.declared.certificates.Certificate.{Certificate}
use Rattle.hs_tree.specs.declared.messages.Message.{Message}
use Rattle.hs_tree.specs.declared.messages.Body.{Body}
use Rattle.hs_tree.specs.declared.messages.Body.TheVariants.{NewView, Prepare, Vote}
use Rattle.hs_tree.specs.Certificates.{digest_of, view_of}
use Rattle.hs_tree.specs.Statements.{claims, node_digest, node_string}
use Rattle.hs_tree.specs.Tree.{Form, chained as viewed, extends, plain_string, strings_of, value_of}
use Rattle.hs_views.specs.Sending.{signed_from}
use Rattle.hs_views.specs.Views.{Turn, round_of}
use Rattle.sb_chained.specs.Chained.{chained, offered, proposals, value_on, voted}
use Rattle.sb_chained.specs.Chained as Chained
use Rattle.sb_chained.specs.Rules.{State, committed_by, is_allowed, is_usable, keeps_news, keeps_vote, may_cast, may_end, shows, slots_below, start, with_cast, with_news, with_round, with_shown, with_turn, with_vote}
use Rattle.sb_chained.specs.Rules as Rules

-- the string of a node without its view
abbrev pub viewless : Form
viewless = record viewed { string = plain_string }

-- ---- A proposal

abbrev pub is_safe : Params → State → ℕ → Content → Certificate → Bool
is_safe p s view what just =
    (same_bytes (node_digest viewless p view what just) s.lock.node ||
    extends s.tree (digest_of just) s.lock.node) ||
    nat_lt s.lock.view (view_of just)

abbrev pub may_prepare : Params → State → ℕ → ℕ → Content → Certificate → Bool
may_prepare p s from view what just =
    (is_usable p s from view just && nat_lt s.view view) &&
    (is_safe p s view what just && is_allowed p (round_of view) (slots_below s just) what)

abbrev pub with_node : Params → State → ℕ → Content → Certificate → State
with_node p s view what just = record s {
  view = view;
  tree = record {
    view = view;
    digest = node_digest viewless p view what just;
    from = view_of just;
    parent = digest_of just;
    what = what;
  } ∷ s.tree;
}

-- ---- The state after an input

abbrev pub heard : Params → ℕ → State → ℕ → Body → List ℕ → State
heard p me s from (NewView round high) sig =
    if keeps_news p me s from round high then with_news s from round high else s
heard p me s from (Prepare view what just) sig =
    if may_prepare p s from view what just then with_node p s view what just else s
heard p me s from (Vote phase view d) sig =
    if keeps_vote p s from phase view d then with_vote s from view d sig else s
heard p me s from other sig = s

abbrev pub taken : Params → ℕ → State → Input Message → State
taken p me s (Cast slot batch) = if may_cast p me s slot.0 then with_cast s batch else s
taken p me s (Receive from msg) = heard p me s from.0 msg.body msg.sig
taken p me s Timeout = if may_end s then with_round s else s

abbrev pub kept : Params → ℕ → State → Input Message → State
kept p me s i = with_shown (taken p me s i) (shows p me s (taken p me s i) i)

-- the same turn, by the digest that shows no view
abbrev pub without_view : Params → Option Turn → Option Turn
without_view p None = None
without_view p (Some t) = Some (record t { digest = node_digest viewless p t.view t.what t.just })

abbrev pub proposed : Params → ℕ → State → State → Input Message → Option Turn
proposed p me s k i = without_view p (Rules.proposed p me s k i)

abbrev pub after : Params → ℕ → State → Input Message → State
after p me s i = with_turn (kept p me s i) (proposed p me s (kept p me s i) i)

abbrev pub state : Params → ℕ → List (Item Message) → State
state p me [] = start
state p me (x ∷ xs) = after p me (state p me xs) x.input

-- ---- Accepted batches

abbrev pub asked_by : Params → State → List (Slot × Batch) → ℕ → Body → Option (Slot × Batch)
asked_by p s old from (Prepare view what just) =
    if may_prepare p s from view what just then offered p s old what just else None
asked_by p s old from other = None

abbrev pub asks : Params → ℕ → List (Item Message) → Input Message → Option (Slot × Batch)
asks p me xs (Cast slot batch) = if may_cast p me (state p me xs) slot.0 then Some (slot, batch) else None
asks p me xs (Receive from msg) = asked_by p (state p me xs) (accepts xs) from.0 msg.body
asks p me xs Timeout = None

-- ---- Messages and strings

abbrev pub answers_heard : Params → State → ℕ → Body → List (To × Body)
answers_heard p s from (Prepare view what just) =
    if may_prepare p s from view what just then voted p view (node_digest viewless p view what just) else []
answers_heard p s from other = []

abbrev pub answers : Params → State → Input Message → List (To × Body)
answers p s (Cast slot batch) = []
answers p s (Receive from msg) = answers_heard p s from.0 msg.body
answers p s Timeout = Chained.answers p s Timeout

abbrev pub drafts : Params → ℕ → State → Input Message → List (To × Body)
drafts p me s i = answers p s i ++ proposals (proposed p me s (kept p me s i) i)

abbrev pub strings_at : Params → ℕ → Content → Certificate → List (List ℕ)
strings_at p view what just =
    strings_of p.setup.version (value_of what) ++ node_string viewless p view what just ∷ []

abbrev pub taken_strings : Params → State → ℕ → Body → List (List ℕ)
taken_strings p s from (Prepare view what just) =
    if may_prepare p s from view what just then strings_at p view what just else []
taken_strings p s from other = []

abbrev pub taken_of : Params → State → Input Message → List (List ℕ)
taken_of p s (Cast slot batch) = []
taken_of p s (Receive from msg) = taken_strings p s from.0 msg.body
taken_of p s Timeout = []

abbrev pub turn_strings : Params → Option Turn → List (List ℕ)
turn_strings p None = []
turn_strings p (Some t) = strings_at p t.view t.what t.just

abbrev pub strings : Params → ℕ → State → Input Message → List (List ℕ)
strings p me s i = taken_of p s i ++ turn_strings p (proposed p me s (kept p me s i) i)

abbrev pub makes : Params → ℕ → List (Item Message) → Input Message → ℕ → Made Message
makes p me xs input leaf = record {
  sends = signed_from viewless p me leaf (drafts p me (state p me xs) input);
  accepted = asks p me xs input;
  strings = strings p me (state p me xs) input;
  used = length (drafts p me (state p me xs) input);
}

-- ---- Decisions

abbrev pub decides : Params → ℕ → State → Input Message → ℕ → Option Value
decides p me s i n =
    value_on p (taken p me s i) (committed_by (taken p me s i) (shows p me s (taken p me s i) i)) n

abbrev pub decided : Params → ℕ → List (Item Message) → ℕ → Option Value
decided p me [] n = None
decided p me (x ∷ xs) n = first_of (decided p me xs n) (decides p me (state p me xs) x.input n)

-- chained HotStuff with digests that leave out the view
abbrev pub without_views : Module Message
without_views = record chained { claims = claims viewless; asks = asks; makes = makes; decided = decided }
