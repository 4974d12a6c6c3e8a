-- What HotStuff decides decodes, if all that it took does: each known node's content has an encoding.
use Rattle.std.proofs.Common.{◌≡◌, ℕ, ◌&&◌, true, List, [], ◌∷◌, Option, Some, None, inl, inr}
use Rattle.iss_base.proofs.Lists.{first-cases}
use Rattle.iss_request.specs.declared.requests.Value.{Value}
use Rattle.iss_sb.specs.declared.effects.Input.{Input}
use Rattle.iss_sb.specs.declared.effects.Input.TheVariants.{Cast, Receive, Timeout}
use Rattle.iss_sb.specs.declared.effects.Params.{Params}
use Rattle.iss_sb.specs.Calls.{IsGoodParams}
use Rattle.iss_sb.specs.Evidence.{Item}
use Rattle.iss_sb.specs.Laws.{AreHeard, DecidesReadable}
use Rattle.hs_tree.specs.declared.messages.Message.{Message}
use Rattle.hs_tree.specs.declared.messages.Body.{Body}
use Rattle.hs_tree.specs.declared.messages.Body.TheVariants.{NewView, Prepare, PreCommit, Commit, Decide, Vote}
use Rattle.hs_tree.specs.Messages.{signed}
use Rattle.hs_tree.specs.Certificates.{digest_of}
use Rattle.hs_tree.specs.Tree.{branch, is_known, value_at_slot}
use Rattle.hs_tree.proofs.BranchesDecode.{Decodes, TreeEncodes, branch-decodes}
use Rattle.hs_views.specs.Views.{Turn}
use Rattle.hs_views.proofs.Tests.{by-if, if-in}
use Rattle.sb_hotstuff.specs.HotStuff.{decided, decides, decides_heard, hotstuff, state}
use Rattle.sb_hotstuff.specs.Rules.{State, heard, is_good, keeps_news, keeps_vote, kept, may_cast, may_end, may_prepare, may_second, may_third, proposed, with_cast, with_news, with_node, with_round, with_turn, with_vote}
use Rattle.sb_hotstuff.proofs.ModuleLaws.SentMessagesDecode.{Heard, heard-is}

module _ (p : Params) (good : IsGoodParams hotstuff p) where
  abbrev Encodes : State → Type 0
  Encodes s = TreeEncodes p.setup.version s.tree

  heard-encodes : (me : ℕ) (s : State) (from : ℕ) (body : Body) (sig : List ℕ) → Heard p good (Receive (record { 0 = from }) (signed body sig)) → Encodes s → Encodes (heard p me s from body sig)
  heard-encodes me s from (NewView round high) sig m h = by-if Encodes (keeps_news p me s from round high) (with_news s from round high) s h h
  heard-encodes me s from (Prepare view what just) sig m h = by-if Encodes (may_prepare p s from view what just) (with_node p s view what just) s ((m.1.behind, m.1.what_is), h) h
  heard-encodes me s from (PreCommit view shown) sig m h = by-if Encodes (may_second p s view shown) (record s { high = shown; second = true }) s h h
  heard-encodes me s from (Commit view shown) sig m h = by-if Encodes (may_third p s view shown) (record s { lock = shown; third = true }) s h h
  heard-encodes me s from (Decide view shown) sig m h = h
  heard-encodes me s from (Vote phase view d) sig m h = by-if Encodes (keeps_vote p s from phase view d) (with_vote s from phase view d sig) s h h

  kept-encodes : (me : ℕ) (s : State) (i : Input Message) → Heard p good i → Encodes s → Encodes (kept p me s i)
  kept-encodes me s (Cast slot batch) m h = by-if Encodes (may_cast p me s slot.0) (with_cast s batch) s h h
  kept-encodes me s (Receive from msg) m h = heard-encodes me s from.0 msg.body msg.sig m h
  kept-encodes me s Timeout m h = by-if Encodes (may_end s) (with_round s) s h h

  turn-encodes : (s : State) (o : Option Turn) → Encodes s → Encodes (with_turn s o)
  turn-encodes s None h = h
  turn-encodes s (Some t) h = h

  state-encodes : (me : ℕ) (xs : List (Item Message)) → AreHeard hotstuff p me xs → Encodes (state p me xs)
  state-encodes me [] h = tt
  state-encodes me (x ∷ xs) h =
      let s = state p me xs in
      turn-encodes (kept p me s x.input) (proposed p me s (kept p me s x.input) x.input) (kept-encodes me s x.input (heard-is p good x.input h.0) (state-encodes me xs h.2))

  message-decodes : (s : State) (body : Body) (sig : List ℕ) (n : ℕ) (x : Value) → Encodes s → decides_heard p s body n ≡ Some x → Decodes p.setup.version x
  message-decodes s (Decide view shown) sig n x h q =
      let d = digest_of shown in
      branch-decodes p.setup.version s.tree d p.slots n x h (if-in (is_good p 3 view shown && is_known s.tree d) (value_at_slot (branch s.tree d) 0 p.slots n) x q).is
  message-decodes s other sig n x h q = absurd cc

  input-decodes : (s : State) (i : Input Message) (n : ℕ) (x : Value) → Encodes s → decides p s i n ≡ Some x → Decodes p.setup.version x
  input-decodes s (Cast slot batch) n x h q = absurd cc
  input-decodes s (Receive from msg) n x h q = message-decodes s msg.body msg.sig n x h q
  input-decodes s Timeout n x h q = absurd cc

  value-decodes : (me : ℕ) (xs : List (Item Message)) (n : ℕ) (x : Value) → AreHeard hotstuff p me xs → decided p me xs n ≡ Some x → Decodes p.setup.version x
  value-decodes me [] n x h q = absurd cc
  value-decodes me (y ∷ xs) n x h q = elim (first-cases (decided p me xs n) (decides p (state p me xs) y.input n) x q) [
    | inl old ↦ value-decodes me xs n x h.2 old
    | inr new ↦ input-decodes (state p me xs) y.input n x (state-encodes me xs h.2) new.1
  ]

pub hotstuff-decides-readable : DecidesReadable hotstuff
hotstuff-decides-readable p me xs s x good below heard h = value-decodes p good me xs s x heard h
