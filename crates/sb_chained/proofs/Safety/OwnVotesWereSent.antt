-- What a correct node signed as a vote it sent, and what a node receives of its own votes it sent before.
use Rattle.std.proofs.Common.{◌≡◌, ℕ, true, List, [], ◌∷◌, refl, ap, ◌∙◌, subst}
use Rattle.iss_base.specs.Lists.{In}
use Rattle.iss_sb.specs.declared.effects.Claim.{Claim}
use Rattle.iss_sb.specs.declared.effects.Input.{Input}
use Rattle.iss_sb.specs.declared.effects.Input.TheVariants.{Cast, Receive, Timeout}
use Rattle.iss_sb.specs.declared.effects.Params.{Params}
use Rattle.iss_sb.specs.declared.effects.To.{To}
use Rattle.iss_sb.specs.Evidence.{Item, IsReached, IsSigned, MayCome, Move, World, after, at_start, is_correct}
use Rattle.iss_sb.specs.Laws.{ComesWith}
use Rattle.iss_sb.proofs.Claims.{signed-stated}
use Rattle.iss_sb.proofs.Worlds.{by_node}
use Rattle.hs_tree.specs.declared.messages.Message.{Message}
use Rattle.hs_tree.specs.Messages.{signed}
use Rattle.hs_tree.specs.declared.messages.Body.{Body}
use Rattle.hs_tree.specs.Statements.{vote_statement}
use Rattle.hs_tree.specs.Tree.{chained as form}
use Rattle.sb_chained.specs.Chained.{chained}
use Rattle.sb_chained.specs.Facts.{IsVoted, VotedIn}
use Rattle.sb_chained.proofs.Basics.{own-vote}
use Rattle.sb_chained.proofs.Safety.VotesSentWereReceived.{States, passes-on}

-- a vote that a correct node signed, it sent as a message of its own
abbrev pub AreVoted : Params → World Message → Type 0
AreVoted p w = (i view : ℕ) (d : List ℕ) → is_correct p.setup i ≡ true → IsSigned chained p w i (vote_statement form p 1 view d) → IsVoted w i view d

pub voted-reached : (p : Params) (w : World Message) → IsReached chained p w → AreVoted p w
voted-reached p w reached i view d correct own =
    let s = signed-stated chained p (States p) refl (passes-on p) w reached i (vote_statement form p 1 view d) correct own in
    let is = own-vote p s.msg.body 1 view d s.states in
    record { item = s.item; taken = s.taken; vote = record { to = s.to; sig = s.msg.sig; sent = subst (λ (z : Body). In {A = To × Message} (s.to, signed z s.msg.sig) s.item.made.sends) is s.sent } }

-- the vote was sent at one of these inputs
pub record VotedBefore (xs : List (Item Message)) (view : ℕ) (d : List ℕ) : Type 0 where
  pub item : Item Message
  pub taken : In item xs
  pub vote : VotedIn item view d

-- each vote of node me's own in what came to it, it had sent before
abbrev pub OwnVotes : Params → ℕ → List (Item Message) → Type 0
OwnVotes p me [] = Unit {0}
OwnVotes p me (x ∷ xs) =
    ((view : ℕ) (d : List ℕ) (c : Claim) → ComesWith chained p c x.input → c.by.0 ≡ me → c.statement ≡ vote_statement form p 1 view d → VotedBefore xs view d) × OwnVotes p me xs

module _ (p : Params) (w later : World Message) (reached : IsReached chained p w) (move : Move chained p w later) where
  comes : (view : ℕ) (d : List ℕ) (c : Claim) (y : Input Message) → MayCome chained p w move.node y → ComesWith chained p c y → c.by.0 ≡ move.node → c.statement ≡ vote_statement form p 1 view d → VotedBefore (w move.node) view d
  comes view d c (Cast slot batch) may h by is = absurd h
  comes view d c (Receive from msg) may h by is =
      let signed = may.signed c h (ap (λ (k : ℕ). is_correct p.setup k) by ∙ move.correct) in
      let own = subst (λ (k : ℕ). IsSigned chained p w k (vote_statement form p 1 view d)) by (subst (λ (t : List ℕ). IsSigned chained p w c.by.0 t) is signed) in
      let v = voted-reached p w reached move.node view d move.correct own in
      record { item = v.item; taken = v.taken; vote = v.vote }
  comes view d c Timeout may h by is = absurd h

pub own-before : (p : Params) (w : World Message) → IsReached chained p w → (i : ℕ) → OwnVotes p i (w i)
own-before p w at_start i = tt
own-before p w (after {w = before} reached move) i =
    by_node chained p before w move (λ j xs. OwnVotes p j xs) ((λ view d c h by is. comes p before w reached move view d c move.input move.may h by is), own-before p before reached move.node) (λ j ne. own-before p before reached j) i
