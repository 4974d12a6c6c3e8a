-- The effects of a step of the code are the model's, if its rule did what the model says.
use Rattle.std.proofs.Common.{◌≡◌, ℕ, ◌+◌, ◌≤◌, ◌&&◌, Bool, true, false, if◌then◌else◌, List, [], ◌++◌, length, drop, Option, Some, None, refl, sym, ap, subst, ◌∙◌, inl, inr, arith}
use Rattle.std.specs.Prelude.{IfSome, IsTrue, ◌↔◌, ◌⊎◌}
use Rattle.std.proofs.lemmas.List.{length-append}
use Rattle.iss_base.specs.Lists.{In, first_of}
use Rattle.iss_base.proofs.Lists.{none-some}
use Rattle.iss_keys.specs.Directories.{AreKeysOf}
use Rattle.iss_keys.specs.KeyStates.{KeyState, left_of}
use Rattle.iss_request.specs.declared.ids.NodeId.{NodeId}
use Rattle.iss_request.specs.declared.ids.Slot.{Slot}
use Rattle.iss_request.specs.declared.requests.Batch.{Batch}
use Rattle.iss_request.specs.declared.requests.Value.{Value}
use Rattle.iss_sb.specs.declared.effects.Effects.{Effects}
use Rattle.iss_sb.specs.declared.effects.Input.{Input}
use Rattle.iss_sb.specs.declared.effects.Input.TheVariants.{Cast, Receive}
use Rattle.iss_sb.specs.declared.effects.Params.{Params}
use Rattle.iss_sb.specs.declared.effects.To.{To}
use Rattle.iss_sb.specs.Calls.{AllIn, Delivers, IsGoodParams, IsTaken, IsTrueStep, slots_of}
use Rattle.iss_sb.specs.Evidence.{Item, accepts, and_then, delivered, one_or_none}
use Rattle.iss_sb.proofs.Delivered.{delivered-decided}
use Rattle.iss_sb.specs.declared.content.Content.{Content}
use Rattle.hs_tree.specs.declared.certificates.Certificate.{Certificate}
use Rattle.hs_tree.specs.declared.messages.Message.{Message}
use Rattle.hs_tree.specs.declared.messages.Body.{Body}
use Rattle.hs_tree.specs.declared.messages.Body.TheVariants.{Prepare, Decide}
use Rattle.hs_tree.specs.Messages.{signed}
use Rattle.hs_tree.specs.Certificates.{digest_of}
use Rattle.hs_tree.specs.Known.{Keeps, values}
use Rattle.hs_tree.specs.Tree.{Node as Tree_node, basic, branch, filled, is_known, value_at_slot}
use Rattle.hs_views.specs.declared.accepted.Accepted.{Accepted}
use Rattle.sb_hotstuff.specs.declared.hotstuff.HotStuff.{HotStuff}
use Rattle.sb_hotstuff.specs.declared.state.Node.{Node}
use Rattle.sb_hotstuff.specs.declared.outcomes.Outcome.{Outcome}
use Rattle.sb_hotstuff.specs.declared.outcomes.Taken.{Taken}
use Rattle.iss_sb.specs.Paired.{paired}
use Rattle.sb_hotstuff.specs.Drafts.{AreDrafts}
use Rattle.hs_views.specs.Drafts.{count_of}
use Rattle.hs_views.specs.Accepted.{AreAccepted, Adds, at_slot, what_at}
use Rattle.hs_views.specs.Delivered.{IsDelivered}
use Rattle.sb_hotstuff.specs.HotStuff.{answers, asked_in, asks, decided, decides, drafts, hotstuff, offered, proposals, state, strings, strings_at, voted}
use Rattle.sb_hotstuff.specs.Internal.Instances.{IsSigned, Refines, Takes}
use Rattle.sb_hotstuff.specs.Rules.{State, after, is_good, kept, may_cast, may_prepare, node_digest, proposed, with_node}
use Rattle.sb_hotstuff.specs.Refines.{RefinesState}
use Rattle.sb_hotstuff.specs.Steps.{Does, IsAlone, IsQuiet}
use Rattle.sb_hotstuff.proofs.Refinement.InputRefines.{idle}
use Rattle.iss_sb.proofs.Paired.{fresh-within}
use Rattle.hs_views.proofs.BranchesDelivered.{at-inside, delivers-now, reached-now, what-inside}
use Rattle.hs_views.proofs.DraftsAgree.{count-few, drafts-long}
use Rattle.hs_views.proofs.Tests.{none-within}

-- ---- Decisions are stable, so a slot is delivered if it is decided

pub delivered-is : (p : Params) (me : ℕ) (xs : List (Item Message)) (n : ℕ) → delivered hotstuff p me xs n ≡ decided p me xs n
delivered-is p me xs n = delivered-decided hotstuff p me (λ s. refl) (λ xs y s x h. ap (λ (o : Option Value). first_of o (decides p (state p me xs) y.input s)) h) xs n

-- ---- A step: the effect of the input, signed

module _ (p : Params) (good : IsGoodParams hotstuff p) (m n : HotStuff) (i : Input Message) (t : Taken) (before later : KeyState) (e : Effects Message) (enough : 2 ≤ left_of before) (takes : Takes p m n i t) (signed : IsSigned p t before later e) where
  used-is : later.used ≡ before.used + (count_of t.outcome.answer + count_of t.outcome.proposal)
  used-is = ap (λ (k : KeyState). k.used) signed.used

  module _ (me : ℕ) (xs : List (Item Message)) (st : Refines m p me xs) where
    abbrev s : State
    s = state p me xs

    d : Does p m.node n.node s i t.outcome
    d = takes.does s st.keeps

    answered : AreDrafts p t.outcome.answer (answers p s (kept p me s i) i)
    answered = subst (λ (k : ℕ). AreDrafts p t.outcome.answer (answers p s (kept p k s i) i)) st.node d.answer

    proposes : AreDrafts p t.outcome.proposal (proposals (proposed p me s (kept p me s i) i))
    proposes = subst (λ (k : ℕ). AreDrafts p t.outcome.proposal (proposals (proposed p k s (kept p k s i) i))) st.node d.proposal

    accepted-is : t.accepted ≡ asks p me xs i
    accepted-is = takes.asked s (accepts xs) st.keeps st.batches ∙ ap (λ (k : ℕ). asked_in p k s (accepts xs) i) st.node

    refines-then : (leaf : ℕ) → Refines n p me (and_then hotstuff p me xs i leaf)
    refines-then leaf = record {
      node = ap (λ (z : NodeId). z.0) d.node ∙ st.node;
      keeps = subst (λ (k : ℕ). RefinesState n.node (after p k s i)) st.node d.state;
      batches = subst (λ (z : Option (Slot × Batch)). AreAccepted n.accepted (one_or_none z ++ accepts xs)) accepted-is (takes.more (accepts xs) st.batches);
      reached = reached-now hotstuff p good.ascending me xs i (λ k. decided p me xs k) (λ k. decides p s i k) (λ k. delivered-is p me xs k) (λ leaf k. refl) m.delivered st.reached n.delivered t.delivers (takes.delivers s st.keeps);
    }

    makes : AreKeysOf me p.setup.keys before → IsTaken hotstuff p me xs i before.used e
    makes own = record {
      sends = signed.sends me (answers p s (kept p me s i) i) (proposals (proposed p me s (kept p me s i) i)) own answered proposes;
      accepted = signed.accepts ∙ accepted-is;
      hashed = signed.hashed ∙ subst (λ (k : ℕ). t.outcome.hashed ≡ strings p k s i) st.node d.hashed;
      delivers = subst (λ (z : List (Slot × Value)). Delivers hotstuff p me xs (and_then hotstuff p me xs i before.used) z) (sym signed.delivers)
          (delivers-now hotstuff p good.ascending me xs i (λ k. decided p me xs k) (λ k. decides p s i k) (λ k. delivered-is p me xs k) (λ leaf k. refl) m.delivered st.reached n.delivered t.delivers before.used (takes.delivers s st.keeps));
    }

    uses : later.used ≡ before.used + length (drafts p me s i)
    uses =
        let u = used-is in
        let first = drafts-long basic p t.outcome.answer (answers p s (kept p me s i) i) answered in
        let second = drafts-long basic p t.outcome.proposal (proposals (proposed p me s (kept p me s i) i)) proposes in
        let both = length-append (answers p s (kept p me s i) i) (proposals (proposed p me s (kept p me s i) i)) in
        omega (arith, u, first, second, both)

  pub true-step : IsTrueStep hotstuff Refines p m n i before later e
  true-step =
      let u = used-is in
      let first = count-few t.outcome.answer in
      let second = count-few t.outcome.proposal in
      record {
        refined = λ me xs st own. refines-then me xs st before.used;
        effects = λ me xs st own. makes me xs st own;
        used = λ me xs st own. uses me xs st;
        within = record {
          delivered = subst (λ (z : List (Slot × Value)). AllIn (slots_of z) p.slots) (sym signed.delivers) takes.within;
          accepted = subst (λ (z : Option (Slot × Batch)). IfSome z (λ x. In x.0 p.slots)) (sym signed.accepts) takes.inside;
          addressed = signed.addressed;
          same_secret = ap (λ (k : KeyState). k.secret) signed.used;
          same_height = ap (λ (k : KeyState). k.height) signed.used;
          leaves = omega (arith, u);
          few = omega (arith, u, first, second);
        };
        enough = enough;
      }

-- ---- What is taken of each kind of input

-- a rule of the protocol alone: nothing is accepted or delivered
pub rule-takes : (p : Params) (m : HotStuff) (node : Node) (i : Input Message) (o : Outcome) (t : Taken) → IsAlone o t → ((s : State) → RefinesState m.node s → Does p m.node node s i o) →
    ((s : State) (old : List (Slot × Batch)) → RefinesState m.node s → asked_in p m.node.me.0 s old i ≡ None) → ((s : State) (k : ℕ) → decides p s i k ≡ None) → Takes p m (record m { node = node }) i t
rule-takes p m node i o t alone does unasked quiet = record {
  does = λ s h. subst (λ (z : Outcome). Does p m.node node s i z) (sym alone.outcome) (does s h);
  asked = λ s old h k. alone.accepted ∙ sym (unasked s old h);
  more = subst (λ (z : Option (Slot × Batch)). Adds m.accepted m.accepted (one_or_none z)) (sym alone.accepted) (λ old h. h);
  inside = subst (λ (z : Option (Slot × Batch)). IfSome z (λ x. In x.0 p.slots)) (sym alone.accepted) tt;
  delivers = λ s h. inl (record { decides = λ k. quiet s k; delivers = alone.delivers; same = refl });
  within = none-within t.delivers p.slots alone.delivers;
}

module _ (p : Params) (m : HotStuff) (node : Node) (accepted : Accepted) (slot : Option Slot) (t : Taken) (within : IfSome slot (λ s. In s p.slots)) (none : t.delivers ≡ []) where
  pub cast-takes : (at : Slot) (batch : Batch) → ((s : State) → RefinesState m.node s → Does p m.node node s (Cast at batch) t.outcome) → t.accepted ≡ at_slot batch slot → Adds m.accepted accepted (one_or_none (at_slot batch slot)) →
      ((s : State) (b : Batch) → RefinesState m.node s → at_slot b slot ≡ (if may_cast p m.node.me.0 s at.0 then Some (at, b) else None)) → Takes p m (record m { node = node; accepted = accepted }) (Cast at batch) t
  cast-takes at batch does is adds free = record {
    does = does;
    asked = λ s old h k. is ∙ free s batch h;
    more = subst (λ (z : Option (Slot × Batch)). Adds m.accepted accepted (one_or_none z)) (sym is) adds;
    inside = subst (λ (z : Option (Slot × Batch)). IfSome z (λ x. In x.0 p.slots)) (sym is) (at-inside batch slot p.slots within);
    delivers = λ s h. inl (record { decides = λ k. refl; delivers = none; same = refl });
    within = none-within t.delivers p.slots none;
  }

  pub proposal-takes : (from : NodeId) (view : ℕ) (what : Content) (just : Certificate) (sig : List ℕ) → ((s : State) → RefinesState m.node s → may_prepare p s from.0 view what just ≡ true) →
      ((s : State) → RefinesState m.node s → Does p m.node node s (Receive from (signed (Prepare view what just) sig)) t.outcome) → t.accepted ≡ what_at what slot → Adds m.accepted accepted (one_or_none (what_at what slot)) →
      ((s : State) (old : List (Slot × Batch)) → RefinesState m.node s → AreAccepted m.accepted old → what_at what slot ≡ offered p s old what just) →
      Takes p m (record m { node = node; accepted = accepted }) (Receive from (signed (Prepare view what just) sig)) t
  proposal-takes from view what just sig may does is adds free = record {
    does = does;
    asked = λ s old h k. is ∙ free s old h k ∙ ap (λ (z : Bool). let r : Option (Slot × Batch) = if z then offered p s old what just else None in r) (sym (may s h));
    more = subst (λ (z : Option (Slot × Batch)). Adds m.accepted accepted (one_or_none z)) (sym is) adds;
    inside = subst (λ (z : Option (Slot × Batch)). IfSome z (λ x. In x.0 p.slots)) (sym is) (what-inside what slot p.slots within);
    delivers = λ s h. inl (record { decides = λ k. refl; delivers = none; same = refl });
    within = none-within t.delivers p.slots none;
  }

-- a message, by its body
pub by-body : (p : Params) (m n : HotStuff) (from : NodeId) (msg : Message) (body : Body) (t : Taken) → msg.body ≡ body → Takes p m n (Receive from (signed body msg.sig)) t → Takes p m n (Receive from msg) t
by-body p m n from msg body t is d = subst (λ (z : Body). Takes p m n (Receive from (signed z msg.sig)) t) (sym is) d

-- a proposal that does not pass its test
pub unprepared-takes : (p : Params) (m : HotStuff) (o : Outcome) (t : Taken) → IsQuiet o → IsAlone o t → (from : NodeId) (view : ℕ) (what : Content) (just : Certificate) (sig : List ℕ) →
    ((s : State) → RefinesState m.node s → may_prepare p s from.0 view what just ≡ false) → Takes p m m (Receive from (signed (Prepare view what just) sig)) t
unprepared-takes p m o t quiet alone from view what just sig nope =
    rule-takes p m m.node (Receive from (signed (Prepare view what just) sig)) o t alone
    (λ s h. idle p m.node s (Receive from (signed (Prepare view what just) sig)) o (ap (λ (z : Bool). if z then with_node p s view what just else s) (nope s h)) refl
    (ap (λ (z : Bool). let l : List (To × Body) = if z then voted p 1 view (node_digest p view what just) else [] in l) (nope s h)) (ap (λ (z : Bool). let l : List (List ℕ) = if z then strings_at p view what just else [] in l) (nope s h)) h quiet)
    (λ s old h. ap (λ (z : Bool). let r : Option (Slot × Batch) = if z then offered p s old what just else None in r) (nope s h)) (λ s k. refl)

-- a commitQC
module _ (p : Params) (m : HotStuff) (later : ℕ) (o : Outcome) (t : Taken) (quiet : IsQuiet o) (outcome : t.outcome ≡ o) (accepted : t.accepted ≡ None) (from : NodeId) (view : ℕ) (shown : Certificate) (sig : List ℕ) where
  abbrev said : Input Message
  said = Receive from (signed (Decide view shown) sig)

  told : (s : State) (k : ℕ) (b : Bool) → (is_good p 3 view shown && is_known s.tree (digest_of shown)) ≡ b →
      decides p s said k ≡ (if b then value_at_slot (branch s.tree (digest_of shown)) 0 p.slots k else None)
  told s k b h = ap (λ (z : Bool). let r : Option Value = if z then value_at_slot (branch s.tree (digest_of shown)) 0 p.slots k else None in r) h

  deciding : ((s : State) → RefinesState m.node s → IsDelivered p m.delivered later t.delivers (decides p s said)) → AllIn (slots_of t.delivers) p.slots → Takes p m (record m { delivered = later }) said t
  deciding delivers within = record {
    does = λ s h. subst (λ (z : Outcome). Does p m.node m.node s said z) (sym outcome) (idle p m.node s said o refl refl refl refl h quiet);
    asked = λ s old h k. accepted;
    more = subst (λ (z : Option (Slot × Batch)). Adds m.accepted m.accepted (one_or_none z)) (sym accepted) (λ old h. h);
    inside = subst (λ (z : Option (Slot × Batch)). IfSome z (λ x. In x.0 p.slots)) (sym accepted) tt;
    delivers = delivers;
    within = within;
  }

  pub undecided-takes : later ≡ m.delivered → t.delivers ≡ [] → ((s : State) → RefinesState m.node s → (is_good p 3 view shown && is_known s.tree (digest_of shown)) ≡ false) → Takes p m (record m { delivered = later }) said t
  undecided-takes same none nope = deciding (λ s h. inl (record { decides = λ k. told s k false (nope s h); delivers = none; same = same })) (none-within t.delivers p.slots none)

  pub decided-takes : (d : List ℕ) (vs : List Value) (slots : ℕ) → ((s : State) → RefinesState m.node s → (is_good p 3 view shown && is_known s.tree (digest_of shown)) ≡ true) → d ≡ digest_of shown → t.delivers ≡ paired (drop m.delivered p.slots) vs →
      ((ks : List Tree_node) → Keeps m.node.tree ks → vs ≡ drop m.delivered (values (branch ks d))) → ((ks : List Tree_node) → Keeps m.node.tree ks → slots ≡ filled (branch ks d)) →
      ((slots ≤ m.delivered) × (later ≡ m.delivered)) ⊎ ((m.delivered ≤ slots) × (later ≡ slots)) → Takes p m (record m { delivered = later }) said t
  decided-takes d vs slots yep hd ds behind full up =
      deciding (λ s h. inr (
        branch s.tree (digest_of shown),
        record {
          decides = λ k. told s k true (yep s h);
          delivers = ds ∙ ap (λ (z : List Value). paired (drop m.delivered p.slots) z) (behind s.tree h.tree ∙ ap (λ (z : List ℕ). drop m.delivered (values (branch s.tree z))) hd);
          up_to = subst (λ (z : ℕ). ((z ≤ m.delivered) × (later ≡ m.delivered)) ⊎ ((m.delivered ≤ z) × (later ≡ z))) (full s.tree h.tree ∙ ap (λ (z : List ℕ). filled (branch s.tree z)) hd) up;
        },
      )) (subst (λ (z : List (Slot × Value)). AllIn (slots_of z) p.slots) (sym ds) (fresh-within m.delivered p.slots vs))

-- ---- Whether a cast is valid

pub casts-means : (p : Params) (m : HotStuff) (me : ℕ) (xs : List (Item Message)) → Refines m p me xs → (slot : Slot) (batch : Batch) (b : Bool) → ((s : State) → RefinesState m.node s → b ≡ may_cast p m.node.me.0 s slot.0) →
    IsTrue b ↔ (asks p me xs (Cast slot batch) ≡ Some (slot, batch))
casts-means p m me xs st slot batch b h = (
  (λ t. asked true (sym is ∙ t)),
  (λ k. is ∙ go (may_cast p me (state p me xs) slot.0) refl k),
)
  where
    is : b ≡ may_cast p me (state p me xs) slot.0
    is = h (state p me xs) st.keeps ∙ ap (λ (k : ℕ). may_cast p k (state p me xs) slot.0) st.node

    asked : (t : Bool) → may_cast p me (state p me xs) slot.0 ≡ t → asks p me xs (Cast slot batch) ≡ (if t then Some (slot, batch) else None)
    asked t e = ap (λ (z : Bool). let r : Option (Slot × Batch) = if z then Some (slot, batch) else None in r) e

    go : (t : Bool) → may_cast p me (state p me xs) slot.0 ≡ t → asks p me xs (Cast slot batch) ≡ Some (slot, batch) → t ≡ true
    go true e k = refl
    go false e k = absurd (none-some (slot, batch) (sym (asked false e) ∙ k))
