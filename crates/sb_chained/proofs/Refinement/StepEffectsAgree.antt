-- A step of the code is one of the definitions.
use Rattle.std.proofs.Common.{◌≡◌, ◌≤◌, ℕ, ◌+◌, Bool, true, false, if◌then◌else◌, List, ◌++◌, length, Option, Some, None, refl, sym, ap, ◌∙◌, subst, arith}
use Rattle.std.specs.Prelude.{IfSome, IsTrue, ◌↔◌}
use Rattle.iss_base.specs.Lists.{In, first_of}
use Rattle.iss_base.proofs.Lists.{none-some}
use Rattle.iss_keys.specs.Directories.{AreKeysOf}
use Rattle.iss_keys.specs.KeyStates.{KeyState, left_of}
use Rattle.iss_request.specs.declared.ids.NodeId.{NodeId}
use Rattle.iss_request.specs.declared.ids.Slot.{Slot}
use Rattle.iss_request.specs.declared.requests.Batch.{Batch}
use Rattle.iss_request.specs.declared.requests.Value.{Value}
use Rattle.iss_sb.specs.declared.effects.Effects.{Effects}
use Rattle.iss_sb.specs.declared.effects.Input.{Input}
use Rattle.iss_sb.specs.declared.effects.Input.TheVariants.{Cast, Receive, Timeout}
use Rattle.iss_sb.specs.declared.effects.Params.{Params}
use Rattle.iss_sb.specs.Calls.{AllIn, Delivers, IsGoodParams, IsTaken, IsTrueStep, slots_of}
use Rattle.iss_sb.specs.Evidence.{Item, accepts, and_then, delivered, one_or_none}
use Rattle.iss_sb.proofs.Delivered.{delivered-decided}
use Rattle.hs_tree.specs.declared.messages.Message.{Message}
use Rattle.hs_tree.specs.Tree.{chained as form}
use Rattle.sb_chained.specs.declared.chained.Chained.{Chained}
use Rattle.sb_chained.specs.declared.outcomes.Taken.{Taken}
use Rattle.hs_views.specs.Accepted.{AreAccepted}
use Rattle.sb_chained.specs.Chained.{asks, chained, decided, decides, drafts, state, strings}
use Rattle.sb_chained.specs.Drafts.{AreDrafts}
use Rattle.hs_views.specs.Drafts.{count_of}
use Rattle.hs_views.specs.Delivered.{IsDelivered}
use Rattle.sb_chained.specs.Internal.Instances.{Does, IsSigned, Refines, Takes, asked_in}
use Rattle.sb_chained.specs.Rules.{State, after, may_cast}
use Rattle.sb_chained.specs.Refines.{RefinesState}
use Rattle.hs_views.proofs.BranchesDelivered.{delivers-now, reached-now}
use Rattle.hs_views.proofs.DraftsAgree.{count-few, drafts-long}

-- ---- Decisions are stable, so a slot is delivered if it is decided

pub delivered-is : (p : Params) (me : ℕ) (xs : List (Item Message)) (n : ℕ) → delivered chained p me xs n ≡ decided p me xs n
delivered-is p me xs n = delivered-decided chained p me (λ s. refl) (λ xs y s x h. ap (λ (o : Option Value). first_of o (decides p me (state p me xs) y.input s)) h) xs n

-- ---- a step: the effect of the input, signed

asked-is : (p : Params) (me : ℕ) (xs : List (Item Message)) (i : Input Message) → asked_in p me (state p me xs) (accepts xs) i ≡ asks p me xs i
asked-is p me xs (Cast slot batch) = refl
asked-is p me xs (Receive from msg) = refl
asked-is p me xs Timeout = refl

module _ (p : Params) (good : IsGoodParams chained p) (m n : Chained) (i : Input Message) (t : Taken) (before later : KeyState) (e : Effects Message) (enough : 2 ≤ left_of before) (takes : Takes p m n i t) (signed : IsSigned p t before later e) where
  used-is : later.used ≡ before.used + count_of t.outcome.draft
  used-is = ap (λ (k : KeyState). k.used) signed.used

  module _ (me : ℕ) (xs : List (Item Message)) (st : Refines m p me xs) where
    abbrev s : State
    s = state p me xs

    d : Does p m n s i t
    d = takes.does s st.keeps

    drafted : AreDrafts p t.outcome.draft (drafts p me s i)
    drafted = subst (λ (k : ℕ). AreDrafts p t.outcome.draft (drafts p k s i)) st.node d.draft

    delivered_so : IsDelivered p m.delivered n.delivered t.delivers (decides p me s i)
    delivered_so = subst (λ (k : ℕ). IsDelivered p m.delivered n.delivered t.delivers (decides p k s i)) st.node d.delivers

    accepted-is : t.accepted ≡ asks p me xs i
    accepted-is = takes.asked s (accepts xs) st.keeps st.batches ∙ ap (λ (k : ℕ). asked_in p k s (accepts xs) i) st.node ∙ asked-is p me xs i

    stands-then : (leaf : ℕ) → Refines n p me (and_then chained p me xs i leaf)
    stands-then leaf = record {
      node = ap (λ (z : NodeId). z.0) d.node ∙ st.node;
      keeps = subst (λ (k : ℕ). RefinesState p n.node (after p k s i)) st.node d.state;
      batches = subst (λ (z : Option (Slot × Batch)). AreAccepted n.accepted (one_or_none z ++ accepts xs)) accepted-is (takes.more (accepts xs) st.batches);
      reached = reached-now chained p good.ascending me xs i (λ k. decided p me xs k) (λ k. decides p me s i k) (λ k. delivered-is p me xs k) (λ leaf k. refl) m.delivered st.reached n.delivered t.delivers delivered_so;
    }

    takes-it : AreKeysOf me p.setup.keys before → IsTaken chained p me xs i before.used e
    takes-it own = record {
      sends = signed.sends me (drafts p me s i) own drafted;
      accepted = signed.accepts ∙ accepted-is;
      hashed = signed.hashed ∙ subst (λ (k : ℕ). t.outcome.hashed ≡ strings p k s i) st.node d.hashed;
      delivers = subst (λ (z : List (Slot × Value)). Delivers chained p me xs (and_then chained p me xs i before.used) z) (sym signed.delivers)
          (delivers-now chained p good.ascending me xs i (λ k. decided p me xs k) (λ k. decides p me s i k) (λ k. delivered-is p me xs k) (λ leaf k. refl) m.delivered st.reached n.delivered t.delivers before.used delivered_so);
    }

    uses : later.used ≡ before.used + length (drafts p me s i)
    uses =
        let u = used-is in
        let long = drafts-long form p t.outcome.draft (drafts p me s i) drafted in
        omega (arith, u, long)

  pub true-step : IsTrueStep chained Refines p m n i before later e
  true-step =
      let u = used-is in
      let one = count-few t.outcome.draft in
      record {
        refined = λ me xs st own. stands-then me xs st before.used;
        effects = λ me xs st own. takes-it me xs st own;
        used = λ me xs st own. uses me xs st;
        within = record {
          delivered = subst (λ (z : List (Slot × Value)). AllIn (slots_of z) p.slots) (sym signed.delivers) takes.within;
          accepted = subst (λ (z : Option (Slot × Batch)). IfSome z (λ x. In x.0 p.slots)) (sym signed.accepts) takes.inside;
          addressed = signed.addressed;
          same_secret = ap (λ (k : KeyState). k.secret) signed.used;
          same_height = ap (λ (k : KeyState). k.height) signed.used;
          leaves = omega (arith, u);
          few = omega (arith, u, one);
        };
        enough = enough;
      }

-- ---- Whether a cast is valid

pub casts-means : (p : Params) (m : Chained) (me : ℕ) (xs : List (Item Message)) → Refines m p me xs → (slot : Slot) (batch : Batch) (b : Bool) → ((s : State) → RefinesState p m.node s → b ≡ may_cast p m.node.me.0 s slot.0) →
    IsTrue b ↔ (asks p me xs (Cast slot batch) ≡ Some (slot, batch))
casts-means p m me xs st slot batch b h = (
  (λ t. asked true (sym is ∙ t)),
  (λ k. is ∙ go (may_cast p me (state p me xs) slot.0) refl k),
)
  where
    is : b ≡ may_cast p me (state p me xs) slot.0
    is = h (state p me xs) st.keeps ∙ ap (λ (k : ℕ). may_cast p k (state p me xs) slot.0) st.node

    asked : (t : Bool) → may_cast p me (state p me xs) slot.0 ≡ t → asks p me xs (Cast slot batch) ≡ (if t then Some (slot, batch) else None)
    asked t e = ap (λ (z : Bool). let r : Option (Slot × Batch) = if z then Some (slot, batch) else None in r) e

    go : (t : Bool) → may_cast p me (state p me xs) slot.0 ≡ t → asks p me xs (Cast slot batch) ≡ Some (slot, batch) → t ≡ true
    go true e k = refl
    go false e k = absurd (none-some (slot, batch) (sym (asked false e) ∙ k))
