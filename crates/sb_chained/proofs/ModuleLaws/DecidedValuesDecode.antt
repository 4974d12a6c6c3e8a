-- What chained HotStuff decides decodes, if all that it took does: each known node's content has an encoding.
use Rattle.std.proofs.Common.{◌≡◌, ℕ, List, [], ◌∷◌, Option, Some, None, inl, inr}
use Rattle.iss_base.proofs.Lists.{first-cases}
use Rattle.iss_request.specs.declared.requests.Value.{Value}
use Rattle.iss_sb.specs.declared.effects.Input.{Input}
use Rattle.iss_sb.specs.declared.effects.Input.TheVariants.{Cast, Receive, Timeout}
use Rattle.iss_sb.specs.declared.effects.Params.{Params}
use Rattle.iss_sb.specs.Calls.{IsGoodParams}
use Rattle.iss_sb.specs.Evidence.{Item}
use Rattle.iss_sb.specs.Laws.{AreHeard, DecidesReadable}
use Rattle.hs_tree.specs.declared.certificates.Certificate.{Certificate}
use Rattle.hs_tree.specs.declared.certificates.Certificate.TheVariants.{Root, Votes}
use Rattle.hs_tree.specs.declared.messages.Message.{Message}
use Rattle.hs_tree.specs.declared.messages.Body.{Body}
use Rattle.hs_tree.specs.declared.messages.Body.TheVariants.{NewView, Prepare, Vote}
use Rattle.hs_tree.specs.Messages.{signed}
use Rattle.hs_tree.specs.Tree.{Node}
use Rattle.hs_tree.proofs.BranchesDecode.{Decodes, TreeEncodes, branch-decodes}
use Rattle.hs_views.specs.Views.{Turn}
use Rattle.hs_views.proofs.Tests.{by-if}
use Rattle.sb_chained.specs.Chained.{chained, decided, decides, state, value_on}
use Rattle.sb_chained.specs.Rules.{State, after, committed_by, find, heard, keeps_news, keeps_vote, kept, may_cast, may_end, may_prepare, noted, proposed, shows, taken, with_cast, with_news, with_node, with_round, with_shown, with_turn, with_vote}
use Rattle.sb_chained.proofs.ModuleLaws.SentMessagesDecode.{Fits, Heard, MayTurn, heard-is, kept-fits, proposed-new, state-fits}

module _ (p : Params) (good : IsGoodParams chained p) where
  abbrev Encodes : State → Type 0
  Encodes s = TreeEncodes p.setup.version s.tree

  heard-encodes : (me : ℕ) (s : State) (from : ℕ) (body : Body) (sig : List ℕ) → Heard p good (Receive (record { 0 = from }) (signed body sig)) → Encodes s → Encodes (heard p me s from body sig)
  heard-encodes me s from (NewView round high) sig m h = by-if Encodes (keeps_news p me s from round high) (with_news s from round high) s h h
  heard-encodes me s from (Prepare view what just) sig m h = by-if Encodes (may_prepare p s from view what just) (with_node p s view what just) s ((m.1.behind, m.1.what_is), h) h
  heard-encodes me s from (Vote phase view d) sig m h = by-if Encodes (keeps_vote p s from phase view d) (with_vote s from view d sig) s h h
  heard-encodes me s from other sig m h = h

  taken-encodes : (me : ℕ) (s : State) (i : Input Message) → Heard p good i → Encodes s → Encodes (taken p me s i)
  taken-encodes me s (Cast slot batch) m h = by-if Encodes (may_cast p me s slot.0) (with_cast s batch) s h h
  taken-encodes me s (Receive from msg) m h = heard-encodes me s from.0 msg.body msg.sig m h
  taken-encodes me s Timeout m h = by-if Encodes (may_end s) (with_round s) s h h

  noted-encodes : (s : State) (q : Certificate) (o : Option Node) → Encodes s → Encodes (noted s q o)
  noted-encodes s q None h = h
  noted-encodes s q (Some x) h = h

  shown-encodes : (s : State) (o : Option Certificate) → Encodes s → Encodes (with_shown s o)
  shown-encodes s None h = h
  shown-encodes s (Some Root) h = h
  shown-encodes s (Some (Votes view phase d votes)) h = noted-encodes s (Votes view phase d votes) (find s.tree d) h

  -- the node of a turn is known
  turn-encodes : (s : State) (o : Option Turn) → Encodes s → MayTurn p good s.turns o → Encodes (with_turn s o)
  turn-encodes s None h g = h
  turn-encodes s (Some t) h g = (g.what, h)

  after-encodes : (me : ℕ) (s : State) (i : Input Message) → Heard p good i → Fits p good s → Encodes s → Encodes (after p me s i)
  after-encodes me s i m f h =
      let t = taken p me s i in
      let k = kept p me s i in
      turn-encodes k (proposed p me s k i) (shown-encodes t (shows p me s t i) (taken-encodes me s i m h)) (proposed-new p good me s k i m (kept-fits p good me s i m f))

  state-encodes : (me : ℕ) (xs : List (Item Message)) → AreHeard chained p me xs → Encodes (state p me xs)
  state-encodes me [] h = tt
  state-encodes me (x ∷ xs) h = after-encodes me (state p me xs) x.input (heard-is p good x.input h.0) (state-fits p good me xs h.2) (state-encodes me xs h.2)

  node-decodes : (s : State) (o : Option Node) (n : ℕ) (x : Value) → Encodes s → value_on p s o n ≡ Some x → Decodes p.setup.version x
  node-decodes s None n x h q = absurd cc
  node-decodes s (Some z) n x h q = branch-decodes p.setup.version s.tree z.digest p.slots n x h q

  value-decodes : (me : ℕ) (xs : List (Item Message)) (n : ℕ) (x : Value) → AreHeard chained p me xs → decided p me xs n ≡ Some x → Decodes p.setup.version x
  value-decodes me [] n x h q = absurd cc
  value-decodes me (y ∷ xs) n x h q = elim (first-cases (decided p me xs n) (decides p me (state p me xs) y.input n) x q) [
    | inl old ↦ value-decodes me xs n x h.2 old
    | inr new ↦
        let s = state p me xs in
        let t = taken p me s y.input in
        node-decodes t (committed_by t (shows p me s t y.input)) n x (taken-encodes me s y.input (heard-is p good y.input h.0) (state-encodes me xs h.2)) new.1
  ]

pub chained-decides-readable : DecidesReadable chained
chained-decides-readable p me xs s x good below heard h = value-decodes p good me xs s x heard h
