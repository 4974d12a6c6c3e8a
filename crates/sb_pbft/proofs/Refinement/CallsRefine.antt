-- The calls of the trait refine the definitions, given the contracts of the rules.
use Rattle.std.proofs.Common.{◌≡◌, ◌≤◌, ◌+◌, ◌*◌, ◌↔◌, ◌∙◌, ℕ, Bool, true, false, List, [], length, Option, Some, None, refl, sym, ap, subst}
use Rattle.std.specs.BTreeSet.{contains}
use Rattle.std.specs.Ordering.{nat_cmp}
use Rattle.std.specs.Prelude.{IsTrue}
use Rattle.iss_keys.specs.Directories.{AreKeysOf}
use Rattle.iss_keys.specs.KeyStates.{KeyState, left_of}
use Rattle.iss_request.specs.declared.ids.NodeId.{NodeId}
use Rattle.iss_request.specs.declared.ids.Slot.{Slot}
use Rattle.iss_request.specs.declared.requests.Batch.{Batch}
use Rattle.iss_request.specs.declared.requests.Value.{Value}
use Rattle.iss_request.specs.declared.requests.Value.TheVariants.{Batch as Value_batch, Nil as Value_nil}
use Rattle.iss_sb.specs.declared.effects.Effects.{Effects}
use Rattle.iss_sb.specs.declared.effects.Input.{Input}
use Rattle.iss_sb.specs.declared.effects.Input.TheVariants.{Cast, Receive}
use Rattle.iss_sb.specs.declared.effects.Params.{Params}
use Rattle.iss_sb.specs.Calls.{Delivers, IsGoodParams, IsTaken, IsTrueStep}
use Rattle.iss_sb.specs.Evidence.{Item, and_then}
use Rattle.pbft_wire.specs.declared.messages.Message.{Message}
use Rattle.pbft_wire.specs.declared.messages.Body.{Body}
use Rattle.pbft_wire.specs.declared.messages.Body.TheVariants.{PrePrepare as Pre_prepare_body}
use Rattle.pbft_wire.specs.Signed.{PrePrepare, signed}
use Rattle.sb_pbft.specs.declared.pbft.Pbft.{Pbft}
use Rattle.sb_pbft.specs.Makes.{Draft, sign_all, uses_all}
use Rattle.sb_pbft.specs.Pbft.{asks, pbft}
use Rattle.sb_pbft.specs.Places.{change_at, proposal_at, top_at, vote_at}
use Rattle.sb_pbft.specs.Rules.{when}
use Rattle.sb_pbft.specs.Internal.Refines.{Does, IsTurn, Refines, held, may_cast, may_take}
use Rattle.sb_pbft.specs.Internal.Turns.{Held, accepts_of, asked_at, idle, model, turn}
use Rattle.sb_pbft.proofs.Refinement.ProposalRefines.{cast-asked, told-asked}
use Rattle.sb_pbft.proofs.Model.TurnsAreAsDefined.{turn-is}

-- ---- a new instance

pub starts : (p : Params) (m : Pbft) → m.view ≡ 0 → m.active ≡ true → ((v s : ℕ) → proposal_at m.proposals v s ≡ None) →
    ((v s k : ℕ) → vote_at m.prepares v s k ≡ None) → ((v s k : ℕ) → vote_at m.commits v s k ≡ None) →
    ((v k : ℕ) → change_at m.changes v k ≡ None) → ((s : ℕ) → top_at m.tops s ≡ None) →
    m.delivered.keys ≡ [] → Refines m p m.me.0 []
starts p m view active proposals prepares commits changes tops empty = record {
  node = refl;
  state = λ j. record {
    mode = record { view = view j; active = active j };
    proposal = λ v s. proposals v s j;
    prepare = λ v s k. prepares v s k j;
    commit = λ v s k. commits v s k j;
    change = λ v k. changes v k j;
    top = λ s. tops s j;
    done = λ s. none-delivered s j;
  };
}
  where
    none-delivered : (s : ℕ) → contains nat_cmp m.delivered s ≡ false
    none-delivered s = rw empty refl

-- ---- a step

module _ (p : Params) (good : IsGoodParams pbft p) (old new : Pbft) (i : Input Message) (b l : KeyState) (e : Effects Message)
    (d : Does p old new i b l e) where
  -- the turn of the history that the old state represents
  turned-so : (me : ℕ) (xs : List (Item Message)) → Refines old p me xs → AreKeysOf me p.setup.keys b →
      IsTurn p new me b.used (turn p me b.used (model p me xs) i) e b l
  turned-so me xs st own =
      subst (λ (z : Held). IsTurn p new me b.used (turn p me b.used z i) e b l) st.state
      (subst (λ (k : ℕ). IsTurn p new k b.used (turn p k b.used (held old) i) e b l) st.node
      (d.turns (subst (λ (k : ℕ). AreKeysOf k p.setup.keys b) (sym st.node) own)))

  refines-then : (me : ℕ) (xs : List (Item Message)) → Refines old p me xs → AreKeysOf me p.setup.keys b →
      Refines new p me (and_then pbft p me xs i b.used)
  refines-then me xs st own = record {
    node = ap (λ (k : NodeId). k.0) d.node ∙ st.node;
    state = (turned-so me xs st own).holds ∙ (turn-is p me xs i b.used good).held;
  }

  takes : (me : ℕ) (xs : List (Item Message)) → Refines old p me xs → AreKeysOf me p.setup.keys b →
      IsTaken pbft p me xs i b.used e
  takes me xs st own =
      let t = turned-so me xs st own in
      let w = turn-is p me xs i b.used good in
      record {
        sends = t.sends ∙ ap (λ (ds : List Draft). sign_all p me b.used ds) w.drafts;
        accepted = t.accepted ∙ w.accepted;
        hashed = t.hashed ∙ w.strings;
        delivers = subst (λ (z : List (Slot × Value)). Delivers pbft p me xs (and_then pbft p me xs i b.used) z) (sym t.delivers) w.delivers;
      }

  pub true-step : 2 * length p.slots + 1 ≤ left_of b → IsTrueStep pbft Refines p old new i b l e
  true-step enough = record {
    refined = λ me xs st own. refines-then me xs st own;
    effects = λ me xs st own. takes me xs st own;
    used = λ me xs st own. (turned-so me xs st own).used ∙ ap (λ (ds : List Draft). b.used + uses_all p ds) (turn-is p me xs i b.used good).drafts;
    within = d.within;
    enough = enough;
  }

-- ---- the batch to accept

accepts-is : (p : Params) (me leaf : ℕ) (h : Held) (i : Input Message) (o : Option (Slot × Batch)) →
    ◌≡◌ {A = Option (Slot × Batch)} (accepts_of p me leaf h i o).accepted o
accepts-is p me leaf h i None = refl
accepts-is p me leaf h i (Some a) = refl

module _ (p : Params) (good : IsGoodParams pbft p) (m : Pbft) (me : ℕ) (xs : List (Item Message)) (st : Refines m p me xs) where
  asked-so : (i : Input Message) →
      ◌≡◌ {A = Option (Slot × Batch)} (asked_at p m.me.0 (held m) i) (asked_at p me (model p me xs) i)
  asked-so i = ap (λ (k : ℕ). asked_at p k (held m) i) st.node ∙ ap (λ (z : Held). asked_at p me z i) st.state

  pub asks-cast : (slot : Slot) (batch : Batch) →
      ◌≡◌ {A = Option (Slot × Batch)} (asks p me xs (Cast slot batch)) (when (may_cast p m slot.0) (slot, batch))
  asks-cast slot batch =
      sym (turn-is p me xs (Cast slot batch) 0 good).accepted
      ∙ accepts-is p me 0 (model p me xs) (Cast slot batch) (asked_at p me (model p me xs) (Cast slot batch))
      ∙ sym (asked-so (Cast slot batch)) ∙ cast-asked p m slot batch

  pub asks-told : (from : NodeId) (v : ℕ) (slot : Slot) (batch : Batch) (sig : List ℕ) →
      ◌≡◌ {A = Option (Slot × Batch)} (asks p me xs (Receive from (PrePrepare v slot (Value_batch batch) sig))) (when (may_take p m from.0 v slot.0) (slot, batch))
  asks-told from v slot batch sig =
      sym (turn-is p me xs (Receive from (PrePrepare v slot (Value_batch batch) sig)) 0 good).accepted
      ∙ accepts-is p me 0 (model p me xs) (Receive from (PrePrepare v slot (Value_batch batch) sig))
      (asked_at p me (model p me xs) (Receive from (PrePrepare v slot (Value_batch batch) sig)))
      ∙ sym (asked-so (Receive from (PrePrepare v slot (Value_batch batch) sig))) ∙ told-asked p m slot batch from v sig

  pub asks-of-cast : (i : Input Message) (slot : Slot) (batch : Batch) (t : Bool) → i ≡ Cast slot batch →
      t ≡ may_cast p m slot.0 →
      ◌≡◌ {A = Option (Slot × Batch)} (when {A = Slot × Batch} t (slot, batch)) (asks p me xs i)
  asks-of-cast i slot batch t is may =
      ap (λ (z : Bool). let x : Slot × Batch = (slot, batch) in when z x) may ∙ sym (asks-cast slot batch) ∙ ap (λ (z : Input Message). asks p me xs z) (sym is)

  pub asks-of-told : (i : Input Message) (from : NodeId) (msg : Message) (v : ℕ) (slot : Slot) (x : Value) (batch : Batch) (t : Bool) →
      i ≡ Receive from msg → msg.body ≡ Pre_prepare_body v slot x → x ≡ Value_batch batch → t ≡ may_take p m from.0 v slot.0 →
      ◌≡◌ {A = Option (Slot × Batch)} (when {A = Slot × Batch} t (slot, batch)) (asks p me xs i)
  asks-of-told i from msg v slot x batch t is says holds may =
      ap (λ (z : Bool). let x : Slot × Batch = (slot, batch) in when z x) may ∙ sym (asks-told from v slot batch msg.sig)
      ∙ ap (λ (z : Value). asks p me xs (Receive from (PrePrepare v slot z msg.sig))) (sym holds) ∙ ap (λ (z : Body). asks p me xs (Receive from (signed z msg.sig))) (sym says)
      ∙ ap (λ (z : Input Message). asks p me xs z) (sym is)

  when-some : (t : Bool) (x : Slot × Batch) → t ≡ true → ◌≡◌ {A = Option (Slot × Batch)} (when t x) (Some x)
  when-some t x h = ap (λ (z : Bool). when {A = Slot × Batch} z x) h

  some-when : (t : Bool) (x : Slot × Batch) → ◌≡◌ {A = Option (Slot × Batch)} (when t x) (Some x) → t ≡ true
  some-when true x h = refl
  some-when false x h = absurd cc

  pub casts-means : (slot : Slot) (batch : Batch) (b : Bool) → b ≡ may_cast p m slot.0 →
      IsTrue b ↔ (◌≡◌ {A = Option (Slot × Batch)} (asks p me xs (Cast slot batch)) (Some (slot, batch)))
  casts-means slot batch b e = (
    (λ t. asks-cast slot batch ∙ when-some (may_cast p m slot.0) (slot, batch) (sym e ∙ t)),
    (λ h. e ∙ some-when (may_cast p m slot.0) (slot, batch) (sym (asks-cast slot batch) ∙ h)),
  )

-- a PrePrepare for nil offers no batch
pub nil-idle : (p : Params) (m : Pbft) (from : NodeId) (v : ℕ) (slot : Slot) (x : Value) (sig : List ℕ) (leaf : ℕ) →
    x ≡ Value_nil →
    turn p m.me.0 leaf (held m) (Receive from (PrePrepare v slot x sig)) ≡ idle (held m)
nil-idle p m from v slot x sig leaf is = ap (λ (z : Value). turn p m.me.0 leaf (held m) (Receive from (PrePrepare v slot z sig))) is

-- ---- A message by its body

pub by-body : (p : Params) (old new : Pbft) (from : NodeId) (msg : Message) (body : Body) (k l : KeyState) (e : Effects Message) → msg.body ≡ body →
    Does p old new (Receive from (signed body msg.sig)) k l e → Does p old new (Receive from msg) k l e
by-body p old new from msg body k l e is d = subst (λ (z : Body). Does p old new (Receive from (signed z msg.sig)) k l e) (sym is) d
