-- In each reachable world all that a node took has an encoding: the law `read_again`, put to use.
use Rattle.std.proofs.Common.{◌≡◌, ◌<◌, ℕ, Bool, true, false, List, [], ◌∷◌, refl, subst, inl, inr}
use Rattle.std.specs.Prelude.{nat_lt, not}
use Rattle.std.proofs.lemmas.Bool.{ltb-true}
use Rattle.iss_base.specs.Lists.{In}
use Rattle.iss_base.proofs.Lists.{and-true}
use Rattle.iss_sb.specs.declared.effects.Input.{Input}
use Rattle.iss_sb.specs.declared.effects.Input.TheVariants.{Cast, Receive, Timeout}
use Rattle.iss_sb.specs.declared.effects.Params.{Params}
use Rattle.iss_sb.specs.declared.effects.To.{To}
use Rattle.iss_sb.specs.Calls.{IsGoodParams}
use Rattle.iss_sb.specs.Evidence.{Item, Made, Module, World, Move, IsReached, IsReadMessage, MayArrive, MayCome, has_node, is_correct}
use Rattle.iss_sb.specs.Laws.{AreHeard, IsHeard, IsLawful}
use Rattle.iss_sb.proofs.Legal.{reached-keeps}
use Rattle.iss_sb.proofs.Worlds.{by_node}

module _ {M : Type 0} (m : Module M) (lawful : IsLawful m) (p : Params) (good : IsGoodParams m p) where
  -- what a node sent at an entry of its history has an encoding
  pub sent-again : (me : ℕ) (xs : List (Item M)) (x : Item M) (to : To) (msg : M) → me < p.setup.n → AreHeard m p me xs → In x xs → In {A = To × M} (to, msg) x.made.sends → IsReadMessage m p msg
  sent-again me [] x to msg below heard h sent = absurd h
  sent-again me (y ∷ xs) x to msg below heard (inr h) sent = sent-again me xs x to msg below heard.2 h sent
  sent-again me (y ∷ xs) x to msg below heard (inl e) sent =
      let here = subst (λ (z : Item M). In {A = To × M} (to, msg) z.made.sends) e sent in
      let made = subst (λ (z : Made M). In {A = To × M} (to, msg) z.sends) heard.1 here in
      lawful.read_again p me xs y.input y.leaf to msg good below heard.2 heard.0 made

  correct-below : (i : ℕ) → is_correct p.setup i ≡ true → i < p.setup.n
  correct-below i h = let k = and-true (nat_lt i p.setup.n) (not (has_node i p.setup.faulty)) h in ltb-true i p.setup.n k.0

  -- what each node took has encodings, and a node that took anything is correct
  record AreAllHeard (w : World M) : Type 0 where
    heard : (i : ℕ) → AreHeard m p i (w i)
    correct : (i : ℕ) (x : Item M) → In x (w i) → is_correct p.setup i ≡ true

  module _ (w later : World M) (before : AreAllHeard w) (move : Move m p w later) where
    arrived : (stopping : Bool) (i from : ℕ) (msg : M) → MayArrive stopping m p w i from msg → (from < p.setup.n) × IsReadMessage m p msg
    arrived true i from msg h =
        let below = correct-below from (before.correct from h.item h.taken) in
        (below, sent-again from (w from) h.item h.to msg below (before.heard from) h.taken h.sent)
    arrived false i from msg h = (h.named, h.read)

    came : (i : ℕ) (input : Input M) → MayCome m p w i input → IsHeard m p input
    came i (Cast slot batch) h = h.1
    came i (Receive from msg) h = arrived m.stopping i from.0 msg h
    came i Timeout h = tt

    all-later : AreAllHeard later
    all-later = record {
      heard = by_node m p w later move (λ i xs. AreHeard m p i xs) (came move.node move.input move.may, refl, before.heard move.node) (λ j ne. before.heard j);
      correct = λ i x. by_node m p w later move (λ i xs. In x xs → is_correct p.setup i ≡ true) (λ h. move.correct) (λ j ne h. before.correct j x h) i;
    }

  pub heard-reached : (w : World M) → IsReached m p w → (i : ℕ) → AreHeard m p i (w i)
  heard-reached w reached i = (reached-keeps m p AreAllHeard (record { heard = λ i. tt; correct = λ i x h. absurd h }) (λ w later legal before move. all-later w later before move) w reached).heard i
