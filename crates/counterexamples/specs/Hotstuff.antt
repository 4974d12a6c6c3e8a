-- HotStuff without the safe test (Yin and others, 2019: safeNode). A replica votes for each proposal of a view's leader
-- on a certified node that it knows, whatever its lock. All definitions that this test does not enter are HotStuff's.
use Rattle.std.specs.Prelude.{ℕ, ◌&&◌, Bool, List, [], ◌∷◌, ◌++◌, length, Option, Some, None, if◌then◌else◌}
use Rattle.iss_base.specs.Lists.{first_of}
use Rattle.iss_request.specs.declared.ids.Slot.{Slot}
use Rattle.iss_request.specs.declared.requests.Batch.{Batch}
use Rattle.iss_request.specs.declared.requests.Value.{Value}
use Rattle.iss_sb.specs.declared.content.Content.{Content}
use Rattle.iss_sb.specs.declared.effects.Input.{Input}
use Rattle.iss_sb.specs.declared.effects.Input.TheVariants.{Cast, Receive, Timeout}
use Rattle.iss_sb.specs.declared.effects.Params.{Params}
use Rattle.iss_sb.specs.declared.effects.To.{To}
use Rattle.iss_sb.specs.Evidence.{Item, Made, Module, accepts}
use Rattle.hs_tree.specs.declared.certificates.Certificate.{Certificate}
use Rattle.hs_tree.specs.declared.messages.Message.{Message}
use Rattle.hs_tree.specs.declared.messages.Body.{Body}
use Rattle.hs_tree.specs.declared.messages.Body.TheVariants.{Prepare}
use Rattle.hs_tree.specs.Certificates.{digest_of}
use Rattle.hs_tree.specs.Tree.{is_known}
use Rattle.hs_views.specs.Views.{round_of}
use Rattle.sb_hotstuff.specs.HotStuff.{decides, hotstuff, offered, proposals, sign_all, strings_at, turn_strings, voted}
use Rattle.sb_hotstuff.specs.HotStuff as HotStuff
use Rattle.sb_hotstuff.specs.Rules.{State, is_allowed, is_just, is_timely, may_cast, node_digest, proposed, slots_below, start, with_node, with_turn}
use Rattle.sb_hotstuff.specs.Rules as Rules

-- whether the proposal is taken: all of HotStuff's tests but the safe one
abbrev pub may_prepare : Params → State → ℕ → ℕ → Content → Certificate → Bool
may_prepare p s from view what just =
    (is_timely p s from view && (is_just p view just && is_known s.tree (digest_of just))) &&
    is_allowed p (round_of view) (slots_below s just) what

-- ---- The state after an input

abbrev pub heard : Params → ℕ → State → ℕ → Body → List ℕ → State
heard p me s from (Prepare view what just) sig =
    if may_prepare p s from view what just then with_node p s view what just else s
heard p me s from other sig = Rules.heard p me s from other sig

abbrev pub kept : Params → ℕ → State → Input Message → State
kept p me s (Receive from msg) = heard p me s from.0 msg.body msg.sig
kept p me s i = Rules.kept p me s i

abbrev pub after : Params → ℕ → State → Input Message → State
after p me s i = with_turn (kept p me s i) (proposed p me s (kept p me s i) i)

abbrev pub state : Params → ℕ → List (Item Message) → State
state p me [] = start
state p me (x ∷ xs) = after p me (state p me xs) x.input

-- ---- Accepted batches, messages and strings

abbrev pub asked_by : Params → State → List (Slot × Batch) → ℕ → Body → Option (Slot × Batch)
asked_by p s old from (Prepare view what just) =
    if may_prepare p s from view what just then offered p s old what just else None
asked_by p s old from other = None

abbrev pub asks : Params → ℕ → List (Item Message) → Input Message → Option (Slot × Batch)
asks p me xs (Cast slot batch) = if may_cast p me (state p me xs) slot.0 then Some (slot, batch) else None
asks p me xs (Receive from msg) = asked_by p (state p me xs) (accepts xs) from.0 msg.body
asks p me xs Timeout = None

abbrev pub answers_heard : Params → State → State → ℕ → Body → List (To × Body)
answers_heard p s k from (Prepare view what just) =
    if may_prepare p s from view what just then voted p 1 view (node_digest p view what just) else []
answers_heard p s k from other = HotStuff.answers_heard p s k from other

abbrev pub answers : Params → State → State → Input Message → List (To × Body)
answers p s k (Receive from msg) = answers_heard p s k from.0 msg.body
answers p s k i = HotStuff.answers p s k i

abbrev pub drafts : Params → ℕ → State → Input Message → List (To × Body)
drafts p me s i = answers p s (kept p me s i) i ++ proposals (proposed p me s (kept p me s i) i)

abbrev pub taken_strings : Params → State → ℕ → Body → List (List ℕ)
taken_strings p s from (Prepare view what just) =
    if may_prepare p s from view what just then strings_at p view what just else []
taken_strings p s from other = []

abbrev pub taken_of : Params → State → Input Message → List (List ℕ)
taken_of p s (Receive from msg) = taken_strings p s from.0 msg.body
taken_of p s i = []

abbrev pub strings : Params → ℕ → State → Input Message → List (List ℕ)
strings p me s i = taken_of p s i ++ turn_strings p (proposed p me s (kept p me s i) i)

abbrev pub makes : Params → ℕ → List (Item Message) → Input Message → ℕ → Made Message
makes p me xs input leaf = record {
  sends = sign_all p me leaf (drafts p me (state p me xs) input);
  accepted = asks p me xs input;
  strings = strings p me (state p me xs) input;
  used = length (drafts p me (state p me xs) input);
}

-- ---- Decisions

abbrev pub decided : Params → ℕ → List (Item Message) → ℕ → Option Value
decided p me [] n = None
decided p me (x ∷ xs) n = first_of (decided p me xs n) (decides p (state p me xs) x.input n)

-- HotStuff whose replicas vote without the safe test
abbrev pub without_safe_test : Module Message
without_safe_test = record hotstuff { asks = asks; makes = makes; decided = decided }
