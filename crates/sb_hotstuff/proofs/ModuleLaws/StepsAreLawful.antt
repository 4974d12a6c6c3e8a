-- HotStuff meets the laws of single steps.
use Rattle.std.proofs.Common.{◌≡◌, ◌≤◌, ◌<◌, ℕ, suc, ◌+◌, ◌*◌, ◌%◌, ◌&&◌, List, [], ◌∷◌, length, Option, Some, None, refl, sym, ap, subst, inl, inr, arith}
use Rattle.std.proofs.lemmas.List.{length-append}
use Rattle.iss_base.specs.Lists.{In, nth}
use Rattle.iss_base.proofs.Lists.{and-true, first-cases}
use Rattle.iss_request.specs.declared.ids.NodeId.{NodeId}
use Rattle.iss_request.specs.declared.ids.Slot.{Slot}
use Rattle.iss_request.specs.declared.requests.Batch.{Batch}
use Rattle.iss_request.specs.declared.requests.Value.{Value}
use Rattle.iss_sb.specs.declared.effects.Input.{Input}
use Rattle.iss_sb.specs.declared.effects.Input.TheVariants.{Cast, Receive, Timeout}
use Rattle.iss_sb.specs.declared.effects.Params.{Params}
use Rattle.iss_sb.specs.declared.effects.To.{To}
use Rattle.iss_sb.specs.declared.effects.To.TheVariants.{One as To_one}
use Rattle.iss_sb.specs.Calls.{AreToNodes, IsToNode, is_slot}
use Rattle.iss_sb.specs.Evidence.{Item, accepts}
use Rattle.iss_sb.specs.Laws.{IsLawful}
use Rattle.iss_sb.proofs.Slots.{place-In}
use Rattle.hs_tree.specs.declared.messages.Message.{Message}
use Rattle.hs_tree.specs.declared.messages.Body.{Body}
use Rattle.hs_tree.specs.declared.messages.Body.TheVariants.{Prepare, PreCommit, Commit, Decide, Vote}
use Rattle.hs_tree.specs.Messages.{signed}
use Rattle.hs_tree.specs.Certificates.{digest_of}
use Rattle.hs_tree.specs.Tree.{basic, branch, is_known, value_at_slot}
use Rattle.sb_hotstuff.specs.HotStuff.{answers, answers_heard, asks, decided, decides, drafts, hotstuff, offered, proposals, sign_all, state, voted}
use Rattle.sb_hotstuff.specs.Rules.{State, is_good, is_reached, keeps_vote, kept, may_cast, may_end, may_prepare, may_second, may_third, node_digest, proposed, slots_below}
use Rattle.hs_views.specs.Views.{Turn, round_of}
use Rattle.sb_hotstuff.proofs.ModuleLaws.SentMessagesDecode.{sent-again}
use Rattle.hs_tree.proofs.Claimed.{named}
use Rattle.hs_tree.proofs.Places.{value-In}
use Rattle.hs_views.proofs.DraftsAgree.{to-append}
use Rattle.hs_views.proofs.Inside.{AsksInside, DecidesInside, offered-In}
use Rattle.hs_views.proofs.Tests.{IsIf, by-if, if-in, if-some}

-- ---- Batches that are offered

module _ (p : Params) (me : ℕ) (xs : List (Item Message)) where
  cast-is : (s : Slot) (b : Batch) (x : Slot × Batch) → asks p me xs (Cast s b) ≡ Some x → IsIf (may_cast p me (state p me xs) s.0) (s, b) x
  cast-is s b x h = if-some (may_cast p me (state p me xs) s.0) (s, b) x h

  castable : (s : Slot) (b c : Batch) → asks p me xs (Cast s b) ≡ Some (s, b) → asks p me xs (Cast s c) ≡ Some (s, c)
  castable s b c h = rw ((cast-is s b (s, b) h).passed) refl

asked-In-heard : (p : Params) (me : ℕ) (xs : List (Item Message)) (from : NodeId) (body : Body) (sig : List ℕ) (x : Slot × Batch) → asks p me xs (Receive from (signed body sig)) ≡ Some x → In x.0 p.slots
asked-In-heard p me xs from (Prepare view what just) sig x h =
    let s = state p me xs in
    offered-In p (accepts xs) what (slots_below s just) x (if-in (may_prepare p s from.0 view what just) (offered p s (accepts xs) what just) x h).is
asked-In-heard p me xs from other sig x h = absurd cc

asked-In : AsksInside hotstuff
asked-In p me xs (Cast s b) x h =
    let c = cast-is p me xs s b x h in
    let t = and-true _ (is_slot s.0 (nth p.slots (length (state p me xs).casts))) c.passed in
    subst (λ (z : Slot × Batch). In z.0 p.slots) c.is (place-In s p.slots (length (state p me xs).casts) t.1)
asked-In p me xs (Receive from msg) x h = asked-In-heard p me xs from msg.body msg.sig x h
asked-In p me xs Timeout x h = absurd cc

-- ---- Decisions

decides-In-heard : (p : Params) (s : State) (from : NodeId) (body : Body) (sig : List ℕ) (n : Slot) (x : Value) → decides p s (Receive from (signed body sig)) n.0 ≡ Some x → In n p.slots
decides-In-heard p s from (Decide view shown) sig n x h =
    value-In (branch s.tree (digest_of shown)) 0 p.slots n x (if-in (is_good p 3 view shown && is_known s.tree (digest_of shown)) (value_at_slot (branch s.tree (digest_of shown)) 0 p.slots n.0) x h).is
decides-In-heard p s from other sig n x h = absurd cc

decides-In : (p : Params) (s : State) (i : Input Message) (n : Slot) (x : Value) → decides p s i n.0 ≡ Some x → In n p.slots
decides-In p s (Cast slot batch) n x h = absurd cc
decides-In p s (Receive from msg) n x h = decides-In-heard p s from msg.body msg.sig n x h
decides-In p s Timeout n x h = absurd cc

decided-In : DecidesInside hotstuff
decided-In p me [] n x h = absurd cc
decided-In p me (i ∷ xs) n x h = elim (first-cases (decided p me xs n.0) (decides p (state p me xs) i.input n.0) x h) [
  | inl old ↦ decided-In p me xs n x old
  | inr new ↦ decides-In p (state p me xs) i.input n x new.1
]

-- ---- At most two messages, to existing replicas

record IsFine (n most : ℕ) (ds : List (To × Body)) : Type 0 where
  pub to : AreToNodes n ds
  pub few : length ds ≤ most

none_fine : (n : ℕ) → IsFine n 1 []
none_fine n = record { to = tt; few = omega arith }

module _ (p : Params) (some : 0 < p.setup.n) where
  below : (k : ℕ) → k % p.setup.n < p.setup.n
  below k = go p.setup.n some
    where
      go : (n : ℕ) → 0 < n → k % n < n
      go n h = omega arith

  abbrev Fine : List (To × Body) → Type 0
  Fine ds = IsFine p.setup.n 1 ds

  proposal_fine : (o : Option Turn) → Fine (proposals o)
  proposal_fine None = none_fine p.setup.n
  proposal_fine (Some t) = record { to = (tt, tt); few = omega arith }

  voted_fine : (phase view : ℕ) (d : List ℕ) → Fine (voted p phase view d)
  voted_fine phase view d = record { to = (below (p.leader.0 + round_of view), tt); few = omega arith }

  answer_fine : (s k : State) (from : ℕ) (body : Body) (sig : List ℕ) → Fine (answers_heard p s k from body)
  answer_fine s k from (Prepare view what just) sig = by-if Fine (may_prepare p s from view what just) (voted p 1 view (node_digest p view what just)) [] (voted_fine 1 view (node_digest p view what just)) (none_fine p.setup.n)
  answer_fine s k from (PreCommit view shown) sig = by-if Fine (may_second p s view shown) (voted p 2 view (digest_of shown)) [] (voted_fine 2 view (digest_of shown)) (none_fine p.setup.n)
  answer_fine s k from (Commit view shown) sig = by-if Fine (may_third p s view shown) (voted p 3 view (digest_of shown)) [] (voted_fine 3 view (digest_of shown)) (none_fine p.setup.n)
  answer_fine s k from (Vote phase view d) sig = by-if Fine (keeps_vote p s from phase view d && is_reached p k phase view d) _ [] (record { to = (tt, tt); few = omega arith }) (none_fine p.setup.n)
  answer_fine s k from other sig = none_fine p.setup.n

  answers_fine : (s k : State) (i : Input Message) → Fine (answers p s k i)
  answers_fine s k (Cast slot batch) = none_fine p.setup.n
  answers_fine s k (Receive from msg) = answer_fine s k from.0 msg.body msg.sig
  answers_fine s k Timeout = by-if Fine (may_end s) _ [] (record { to = (below (p.leader.0 + suc (round_of s.view)), tt); few = omega arith }) (none_fine p.setup.n)

  drafts_fine : (me : ℕ) (s : State) (i : Input Message) → IsFine p.setup.n 2 (drafts p me s i)
  drafts_fine me s i =
      let k = kept p me s i in
      let a = answers_fine s k i in
      let b = proposal_fine (proposed p me s k i) in
      let long = length-append (answers p s k i) (proposals (proposed p me s k i)) in
      let few_a = a.few in
      let few_b = b.few in
      record { to = to-append p.setup.n (answers p s k i) (proposals (proposed p me s k i)) a.to b.to; few = omega (arith, long, few_a, few_b) }

-- signing changes neither the recipients nor the number of messages
signed-to : (p : Params) (me leaf n : ℕ) (ds : List (To × Body)) → AreToNodes n ds → (k : NodeId) (msg : Message) → In {A = To × Message} (To_one k, msg) (sign_all p me leaf ds) → k.0 < n
signed-to p me leaf n [] h k msg q = absurd q
signed-to p me leaf n (x ∷ ds) h k msg (inl e) = subst (λ (z : To). IsToNode n z) (ap (λ (z : To × Message). z.0) (sym e)) h.0
signed-to p me leaf n (x ∷ ds) h k msg (inr q) = signed-to p me (suc leaf) n ds h.1 k msg q

nodes-some : (n f : ℕ) → n ≡ 3 * f + 1 → 0 < n
nodes-some n f e = omega (arith, e)

pub hotstuff-lawful : IsLawful hotstuff
hotstuff-lawful = record {
  names = named basic;
  accepted = λ p me xs i leaf. refl;
  casts = λ p me xs s b x h. sym (cast-is p me xs s b x h).is;
  castable = castable;
  asked_within = asked-In;
  decided_within = decided-In;
  addressed = λ p me xs i leaf k msg good input h. signed-to p me leaf p.setup.n (drafts p me (state p me xs) i) (drafts_fine p (nodes-some p.setup.n p.setup.f good.nodes) me (state p me xs) i).to k msg h;
  read_again = sent-again;
  few = λ p good. omega arith;
  uses = λ p me xs i leaf good input. (drafts_fine p (nodes-some p.setup.n p.setup.f good.nodes) me (state p me xs) i).few;
}
