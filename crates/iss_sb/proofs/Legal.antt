-- Reachable worlds are legal; an induction principle for further invariants of them; the history at which an entry was
-- made.
use Rattle.std.proofs.Common.{◌≡◌, ◌<◌, ℕ, Bool, true, false, not, ◌&&◌, List, [], ◌∷◌, refl, sym, subst, ap, inl, inr}
use Rattle.std.specs.Prelude.{nat_lt}
use Rattle.std.proofs.lemmas.Bool.{lt-ltb}
use Rattle.iss_base.specs.Lists.{In}
use Rattle.iss_request.specs.declared.requests.Batch.{Batch}
use Rattle.iss_request.specs.declared.ids.Slot.{Slot}
use Rattle.iss_sb.specs.declared.effects.Input.{Input}
use Rattle.iss_sb.specs.declared.effects.Input.TheVariants.{Cast, Receive, Timeout}
use Rattle.iss_sb.specs.declared.effects.Params.{Params}
use Rattle.iss_sb.specs.Calls.{IsGoodParams}
use Rattle.iss_sb.specs.Evidence.{Item, Module, World, Move, IsReached, at_start, after, MayArrive, MayCome, IsString, Separate, accepts, empty_world, is_correct}
use Rattle.iss_sb.specs.Laws.{AcceptsOnce, IsBroadcast, IsSafe}
use Rattle.iss_sb.specs.Legal.{AreMade, Front, HaveCome, IsLegal, IsMadeAt}
use Rattle.iss_sb.proofs.Quorums.{none-faulty}
use Rattle.iss_sb.proofs.Worlds.{accepts-old, by_node, IsSent-later, IsSigned-later, Separate-before}

-- ---- legal worlds

module _ {M : Type 0} (m : Module M) (p : Params) (w later : World M) (move : Move m p w later) where
  -- what may be received now may be received later
  pub MayArrive-later : (stopping : Bool) (i from : ℕ) (msg : M) → MayArrive stopping m p w i from msg → MayArrive stopping m p later i from msg
  MayArrive-later true i from msg h = IsSent-later m p w later move from i msg h
  MayArrive-later false i from msg h = record { named = h.named; read = h.read; verified = h.verified; signed = λ c k q. IsSigned-later m p w later move c.by.0 c.statement (h.signed c k q) }

  pub MayCome-later : (i : ℕ) (input : Input M) → MayCome m p w i input → MayCome m p later i input
  MayCome-later i (Cast slot batch) h = h
  MayCome-later i (Receive from msg) h = MayArrive-later m.stopping i from.0 msg h
  MayCome-later i Timeout h = h

  pub legal-later : IsLegal m p w → IsLegal m p later
  legal-later h = record {
    made = by_node m p w later move (λ i xs. AreMade m p i xs) (refl, h.made move.node) (λ j ne. h.made j);
    came = λ i x. by_node m p w later move (λ i xs. In x xs → MayCome m p later i x.input)
        (λ k. elim k [
          | inl e ↦ rw e (MayCome-later move.node move.input move.may)
          | inr old ↦ MayCome-later move.node x.input (h.came move.node x old)
        ])
        (λ j ne k. MayCome-later j x.input (h.came j x k)) i;
  }

module _ {M : Type 0} (m : Module M) (p : Params) where
  pub legal-empty : IsLegal m p empty_world
  legal-empty = record { made = λ i. tt; came = λ i x h. absurd h }

  -- each reachable world is legal
  pub legal-reached : (w : World M) → IsReached m p w → IsLegal m p w
  legal-reached w at_start = legal-empty
  legal-reached w (after {w = before} reached move) = legal-later m p before w move (legal-reached before reached)

  -- what holds at the start, and is kept by each move from a legal world, holds of each reachable world
  pub reached-keeps : (P : World M → Type 0) → P empty_world → ((w later : World M) → IsLegal m p w → P w → Move m p w later → P later) → (w : World M) → IsReached m p w → P w
  reached-keeps P starts keeps w at_start = starts
  reached-keeps P starts keeps w (after {w = before} reached move) = keeps before w (legal-reached before reached) (reached-keeps P starts keeps before reached) move

  -- the same, if only moves keep it after which strings do not collide
  pub separate-keeps : (P : World M → Type 0) → P empty_world → ((w later : World M) → IsLegal m p w → P w → Move m p w later → Separate (IsString later) → P later) → (w : World M) → IsReached m p w → Separate (IsString w) → P w
  separate-keeps P starts keeps = reached-keeps (λ w. Separate (IsString w) → P w) (λ sep. starts) (λ w later legal h move sep. keeps w later legal (h (Separate-before m p w later move sep)) move sep)

  pub have-come : (w : World M) (me : ℕ) (xs : List (Item M)) → ((x : Item M) → In x xs → MayCome m p w me x.input) → HaveCome m p w me xs
  have-come w me [] h = tt
  have-come w me (x ∷ xs) h = (h x (inl refl), have-come w me xs (λ y k. h y (inr k)))

-- a module is safe if each legal world without collisions is a broadcast
pub safe-legal : {M : Type 0} (m : Module M) → ((p : Params) (w : World M) → IsGoodParams m p → IsLegal m p w → Separate (IsString w) → IsBroadcast m p w) → IsSafe m
safe-legal m gives p w good reached sep = gives p w good (legal-reached m p w reached) sep

-- a correct leader accepts one batch at a slot if no history that the module makes has two accepted there
pub once-made : {M : Type 0} (m : Module M) → ((p : Params) (me : ℕ) (xs : List (Item M)) → IsGoodParams m p → AreMade m p me xs → (s : Slot) (b c : Batch) → In {A = Slot × Batch} (s, b) (accepts xs) → In {A = Slot × Batch} (s, c) (accepts xs) → b ≡ c) → AcceptsOnce m
once-made m gives p w good reached sep correct = gives p p.leader.0 (w p.leader.0) good ((legal-reached m p w reached).made p.leader.0)

-- an inductive invariant of worlds: it holds at the start, moves between legal worlds without collisions keep it, and
-- it implies a broadcast
pub record IsKept {M : Type 0} (m : Module M) (Inv : Params → World M → Type 0) : Type 0 where
  pub starts : (p : Params) → IsGoodParams m p → Inv p empty_world
  pub keeps : (p : Params) (w later : World M) → IsGoodParams m p → IsLegal m p w → Inv p w → Move m p w later → Separate (IsString later) → Inv p later
  pub gives : (p : Params) (w : World M) → IsGoodParams m p → IsLegal m p w → Inv p w → Separate (IsString w) → IsBroadcast m p w

-- a module with such an invariant is safe
pub safe-kept : {M : Type 0} (m : Module M) (Inv : Params → World M → Type 0) → IsKept m Inv → IsSafe m
safe-kept m Inv kept p w good reached sep =
    let inv = separate-keeps m p (Inv p) (kept.starts p good) (λ w later legal h move apart. kept.keeps p w later good legal h move apart) w reached sep in
    kept.gives p w good (legal-reached m p w reached) inv sep

-- and a safe module has one: that the world is reachable
pub kept-safe : {M : Type 0} (m : Module M) → IsSafe m → IsKept m (λ p w. IsReached m p w)
kept-safe m safe = record {
  starts = λ p good. at_start;
  keeps = λ p w later good legal h move sep. after h move;
  gives = λ p w good legal h sep. safe p w good h sep;
}

-- ---- the history at which an entry was made

pub front_self : {A : Type 0} (l : List A) → Front l l
front_self [] = refl
front_self (i ∷ l) = inl refl

pub front_trans : {A : Type 0} (a b c : List A) → Front a b → Front b c → Front a c
front_trans a b [] h g = subst (λ (z : List _). Front a z) g h
front_trans a b (i ∷ c) h (inl e) = subst (λ (z : List _). Front a z) e h
front_trans a b (i ∷ c) h (inr g) = inr (front_trans a b c h g)

-- an element of an earlier history is in the later one
pub front-in : {A : Type 0} (x : A) (a l : List A) → Front a l → In x a → In x l
front-in x a [] f h = subst (λ (z : List _). In x z) f h
front-in x a (y ∷ l) (inl q) h = subst (λ (z : List _). In x z) q h
front-in x a (y ∷ l) (inr f) h = inr (front-in x a l f h)

pub accepts-front : {M : Type 0} (a l : List (Item M)) (e : Slot × Batch) → Front a l → In e (accepts a) → In e (accepts l)
accepts-front a [] e f h = subst (λ (z : List _). In e (accepts z)) f h
accepts-front a (x ∷ l) e (inl q) h = subst (λ (z : List _). In e (accepts z)) q h
accepts-front a (x ∷ l) e (inr f) h = accepts-old x l e (accepts-front a l e f h)

module _ {M : Type 0} (m : Module M) (p : Params) (me : ℕ) where
  pub made-at : (x : Item M) (xs : List (Item M)) → AreMade m p me xs → In x xs → IsMadeAt m p me x xs
  made-at x [] h i = absurd i
  made-at x (y ∷ xs) h (inl e) = record {
    before = xs;
    front = inl (ap (λ (z : Item M). z ∷ xs) e);
    made = subst (λ (z : Item M). z.made ≡ m.makes p me xs z.input z.leaf) (sym e) h.0;
  }
  made-at x (y ∷ xs) h (inr i) = let r = made-at x xs h.1 i in record { before = r.before; front = inr r.front; made = r.made }

  pub made-front : (a l : List (Item M)) → Front a l → AreMade m p me l → AreMade m p me a
  made-front a [] f h = subst (λ (z : List (Item M)). AreMade m p me z) (sym f) h
  made-front a (x ∷ l) (inl q) h = subst (λ (z : List (Item M)). AreMade m p me z) (sym q) h
  made-front a (x ∷ l) (inr f) h = made-front a l f h.1

-- ---- correct nodes

below-all : (i n : ℕ) → i < n → (nat_lt i n && not false) ≡ true
below-all i n h = let t : nat_lt i n ≡ true = lt-ltb i n h in rw t refl

-- in the crash-stop model each node is correct
pub all-correct : {M : Type 0} (m : Module M) (p : Params) → IsGoodParams m p → m.stopping ≡ true → (i : ℕ) → i < p.setup.n → is_correct p.setup i ≡ true
all-correct m p good stops i below = let none = none-faulty m p good stops in rw none (below-all i p.setup.n below)
