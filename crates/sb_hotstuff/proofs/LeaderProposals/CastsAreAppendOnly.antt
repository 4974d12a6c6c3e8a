-- The list of casts is append-only, and a cast that is taken is the next one.
use Rattle.std.proofs.Common.{◌≡◌, ℕ, true, List, [], ◌∷◌, length, Option, Some, refl, ap, ◌∙◌, subst, inl, inr}
use Rattle.iss_base.specs.Lists.{nth}
use Rattle.iss_request.specs.declared.ids.Slot.{Slot}
use Rattle.iss_request.specs.declared.requests.Batch.{Batch}
use Rattle.iss_sb.specs.declared.effects.Input.{Input}
use Rattle.iss_sb.specs.declared.effects.Input.TheVariants.{Cast, Receive, Timeout}
use Rattle.iss_sb.specs.declared.effects.Params.{Params}
use Rattle.iss_sb.specs.Evidence.{Item}
use Rattle.iss_sb.specs.Legal.{Front}
use Rattle.hs_tree.specs.declared.messages.Message.{Message}
use Rattle.hs_tree.specs.declared.messages.Body.{Body}
use Rattle.hs_tree.specs.declared.messages.Body.TheVariants.{NewView, Prepare, PreCommit, Commit, Decide, Vote}
use Rattle.sb_hotstuff.specs.HotStuff.{state}
use Rattle.sb_hotstuff.specs.Rules.{State, heard, keeps_news, keeps_vote, kept, may_cast, may_end, may_prepare, may_second, may_third, proposed, with_cast, with_news, with_node, with_round, with_turn, with_vote}
use Rattle.hs_views.specs.Views.{Turn}
use Rattle.hs_views.proofs.Tests.{by-if, each-option, nth-first, nth-end}

abbrev pub Same : State → State → Type 0
Same s t = (t.turns ≡ s.turns) × (t.casts ≡ s.casts)

module _ (p : Params) (me : ℕ) where
  pub heard-same : (s : State) (from : ℕ) (body : Body) (sig : List ℕ) → Same s (heard p me s from body sig)
  heard-same s from (NewView round high) sig = by-if (Same s) (keeps_news p me s from round high) (with_news s from round high) s (refl, refl) (refl, refl)
  heard-same s from (Prepare view what just) sig = by-if (Same s) (may_prepare p s from view what just) (with_node p s view what just) s (refl, refl) (refl, refl)
  heard-same s from (PreCommit view shown) sig = by-if (Same s) (may_second p s view shown) (record s { high = shown; second = true }) s (refl, refl) (refl, refl)
  heard-same s from (Commit view shown) sig = by-if (Same s) (may_third p s view shown) (record s { lock = shown; third = true }) s (refl, refl) (refl, refl)
  heard-same s from (Decide view shown) sig = (refl, refl)
  heard-same s from (Vote phase view d) sig = by-if (Same s) (keeps_vote p s from phase view d) (with_vote s from phase view d sig) s (refl, refl) (refl, refl)

  abbrev pub IsAt : State → ℕ → Batch → Type 0
  IsAt s k b = nth s.casts k ≡ Some b

  kept-more : (s : State) (i : Input Message) (k : ℕ) (b : Batch) → IsAt s k b → IsAt (kept p me s i) k b
  kept-more s (Cast slot batch) k b e = by-if (λ (z : State). IsAt z k b) (may_cast p me s slot.0) (with_cast s batch) s (nth-first s.casts batch b k e) e
  kept-more s (Receive from msg) k b e = ap (λ (cs : List Batch). nth cs k) (heard-same s from.0 msg.body msg.sig).1 ∙ e
  kept-more s Timeout k b e = by-if (λ (z : State). IsAt z k b) (may_end s) (with_round s) s e e

  -- a turn changes no cast
  pub after-kept : (x : Item Message) (xs : List (Item Message)) (k : ℕ) (b : Batch) → IsAt (kept p me (state p me xs) x.input) k b → IsAt (state p me (x ∷ xs)) k b
  after-kept x xs k b e =
      let c = kept p me (state p me xs) x.input in
      ap (λ (cs : List Batch). nth cs k) (each-option (λ (z : Option Turn). (with_turn c z).casts) c.casts refl (λ t. refl) (proposed p me (state p me xs) c x.input)) ∙ e

  pub state-more : (x : Item Message) (xs : List (Item Message)) (k : ℕ) (b : Batch) → IsAt (state p me xs) k b → IsAt (state p me (x ∷ xs)) k b
  state-more x xs k b e = after-kept x xs k b (kept-more (state p me xs) x.input k b e)

  pub front-more : (xs l : List (Item Message)) → Front xs l → (k : ℕ) (b : Batch) → IsAt (state p me xs) k b → IsAt (state p me l) k b
  front-more xs [] f k b e = subst (λ (z : List (Item Message)). IsAt (state p me z) k b) f e
  front-more xs (x ∷ l) (inl q) k b e = subst (λ (z : List (Item Message)). IsAt (state p me z) k b) q e
  front-more xs (x ∷ l) (inr f) k b e = state-more x l k b (front-more xs l f k b e)

  pub cast-new : (x : Item Message) (xs : List (Item Message)) (slot : Slot) (b : Batch) → x.input ≡ Cast slot b → may_cast p me (state p me xs) slot.0 ≡ true → IsAt (state p me (x ∷ xs)) (length (state p me xs).casts) b
  cast-new x xs slot b e q =
      let s = state p me xs in
      let taken : kept p me s (Cast slot b) ≡ with_cast s b = rw q refl in
      let is : kept p me s x.input ≡ with_cast s b = ap (λ (i : Input Message). kept p me s i) e ∙ taken in
      after-kept x xs (length s.casts) b (ap (λ (z : State). nth z.casts (length s.casts)) is ∙ nth-end s.casts b)
