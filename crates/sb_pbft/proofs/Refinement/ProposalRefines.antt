-- The state after a proposal of view 0 was accepted.
use Rattle.std.proofs.Common.{◌≤◌, ◌+◌, arith, ◌≡◌, ◌==◌, ◌&&◌, ℕ, Bool, true, false, not, cond, List, [], ◌∷◌, ◌++◌, Option, Some, None, is_some, refl, sym, ap, ◌∙◌, subst}
use Rattle.iss_base.specs.Lists.{In, set_at2}
use Rattle.iss_base.proofs.Lists.{and-true}
use Rattle.iss_sb.proofs.Slots.{has_slot-In}
use Rattle.iss_keys.specs.Directories.{AreKeysOf}
use Rattle.iss_keys.specs.KeyStates.{KeyState}
use Rattle.iss_request.specs.declared.ids.NodeId.{NodeId}
use Rattle.iss_request.specs.declared.ids.Slot.{Slot}
use Rattle.iss_request.specs.declared.requests.Batch.{Batch}
use Rattle.iss_request.specs.declared.requests.Value.{Value}
use Rattle.iss_request.specs.declared.requests.Value.TheVariants.{Batch as Value_batch}
use Rattle.iss_sb.specs.declared.effects.Input.{Input}
use Rattle.iss_sb.specs.declared.effects.Input.TheVariants.{Cast, Receive}
use Rattle.iss_sb.specs.declared.effects.Params.{Params}
use Rattle.iss_sb.specs.declared.effects.To.{To}
use Rattle.iss_sb.specs.declared.effects.To.TheVariants.{All as To_all}
use Rattle.iss_sb.specs.Statements.{signature}
use Rattle.pbft_wire.specs.declared.messages.Message.{Message}
use Rattle.pbft_wire.specs.Signed.{PrePrepare}
use Rattle.pbft_wire.specs.Statements.{digest_of, state_at, string_of}
use Rattle.sb_pbft.specs.declared.pbft.Pbft.{Pbft}
use Rattle.sb_pbft.specs.declared.proposals.Proposal.{Proposal}
use Rattle.sb_pbft.specs.declared.proposals.Proposals.{Proposals}
use Rattle.sb_pbft.specs.Makes.{Draft, DraftPrePrepare, DraftPrepare, first_draft, first_sig, uses_all}
use Rattle.sb_pbft.specs.Places.{proposal_at}
use Rattle.sb_pbft.specs.Rules.{is_open, when}
use Rattle.sb_pbft.specs.Internal.Refines.{Sent, held, is_free, may_cast, may_take}
use Rattle.sb_pbft.specs.Internal.Turns.{Held, accepts_of, asked_at, first_proposal, free, idle, turn, with_proposal}
use Rattle.iss_sb.specs.Calls.{has_slot}
use Rattle.sb_pbft.proofs.Refinement.RulesCompose.{turned}
use Rattle.sb_pbft.proofs.Refinement.SettleRefines.{sent-one}

-- an offer, if there is no proposal yet
free-when : (h : Held) (x : Slot × Batch) (a b : Bool) →
    free h (when (a && b) x) ≡ when (a && (b && not (is_some (h.proposal 0 x.0.0)))) x
free-when h x false b = refl
free-when h x true false = refl
free-when h x true true = go (is_some (h.proposal 0 x.0.0))
  where
    go : (t : Bool) → cond t None (Some x) ≡ when (true && (true && not t)) x
    go true = refl
    go false = refl

swapped : (a b c d : Bool) → (a && ((b && c) && d)) ≡ (a && (b && (c && d)))
swapped false b c d = refl
swapped true false c d = refl
swapped true true c d = refl

module _ (p : Params) (m : Pbft) (slot : Slot) (batch : Batch) where
  pub cast-asked : asked_at p m.me.0 (held m) (Cast slot batch) ≡ when (may_cast p m slot.0) (slot, batch)
  cast-asked = free-when (held m) (slot, batch) (m.me.0 == p.leader.0) (is_open p (held m).mode slot.0)

  pub told-asked : (from : NodeId) (v : ℕ) (sig : List ℕ) →
      asked_at p m.me.0 (held m) (Receive from (PrePrepare v slot (Value_batch batch) sig)) ≡ when (may_take p m from.0 v slot.0) (slot, batch)
  told-asked from v sig =
      free-when (held m) (slot, batch) (not (m.me.0 == p.leader.0) && (from.0 == p.leader.0)) ((v == 0) && is_open p (held m).mode slot.0)
      ∙ ap (λ (t : Bool). let x : Slot × Batch = (slot, batch) in when t x)
      (swapped (not (m.me.0 == p.leader.0) && (from.0 == p.leader.0)) (v == 0) (is_open p (held m).mode slot.0) (not (is_some ((held m).proposal 0 slot.0))))

  -- the state with the proposal
  pub proposal-held : (all : Proposals) (q r : Proposal) → q ≡ r →
      ((v s : ℕ) → proposal_at all v s ≡ set_at2 (proposal_at m.proposals) 0 slot.0 (Some q) v s) →
      held (record m { proposals = all }) ≡ with_proposal (held m) 0 slot.0 r
  proposal-held all q r e new = λ j. record (held m) { proposal = λ v s. (new v s ∙ ap (λ (z : Proposal). set_at2 (proposal_at m.proposals) 0 slot.0 (Some z) v s) e) j }

  accepts-some : (leaf : ℕ) (i : Input Message) (o : Option (Slot × Batch)) →
      ◌≡◌ {A = Option (Slot × Batch)} o (Some (slot, batch)) →
      accepts_of p m.me.0 leaf (held m) i o ≡
      turned p (first_draft p m.me.0 (Some (slot, batch))) (with_proposal (held m) 0 slot.0 (first_proposal p (slot, batch) (first_sig p m.me.0 leaf (slot, batch) i))) false 0 (slot ∷ [])
      (string_of p (Value_batch batch) ∷ []) (Some (slot, batch))
  accepts-some leaf i o e = ap (λ (z : Option (Slot × Batch)). accepts_of p m.me.0 leaf (held m) i z) e

  accepts-none : (leaf : ℕ) (i : Input Message) (o : Option (Slot × Batch)) → ◌≡◌ {A = Option (Slot × Batch)} o None →
      accepts_of p m.me.0 leaf (held m) i o ≡ idle (held m)
  accepts-none leaf i o e = ap (λ (z : Option (Slot × Batch)). accepts_of p m.me.0 leaf (held m) i z) e

  when-is : (t u : Bool) → t ≡ u → ◌≡◌ {A = Option (Slot × Batch)} (when {A = Slot × Batch} t (slot, batch)) (when {A = Slot × Batch} u (slot, batch))
  when-is t u e = ap (λ (z : Bool). let x : Slot × Batch = (slot, batch) in when z x) e

  pub cast-turn : (leaf : ℕ) → may_cast p m slot.0 ≡ true → turn p m.me.0 leaf (held m) (Cast slot batch) ≡
      turned p (first_draft p m.me.0 (Some (slot, batch))) (with_proposal (held m) 0 slot.0 (first_proposal p (slot, batch) (first_sig p m.me.0 leaf (slot, batch) (Cast slot batch)))) false 0 (slot ∷ [])
      (string_of p (Value_batch batch) ∷ []) (Some (slot, batch))
  cast-turn leaf may = accepts-some leaf (Cast slot batch) (asked_at p m.me.0 (held m) (Cast slot batch)) (cast-asked ∙ when-is (may_cast p m slot.0) true may)

  pub cast-idle : (leaf : ℕ) → may_cast p m slot.0 ≡ false →
      turn p m.me.0 leaf (held m) (Cast slot batch) ≡ idle (held m)
  cast-idle leaf out = accepts-none leaf (Cast slot batch) (asked_at p m.me.0 (held m) (Cast slot batch)) (cast-asked ∙ when-is (may_cast p m slot.0) false out)

  pub told-turn : (leaf : ℕ) (from : NodeId) (v : ℕ) (sig : List ℕ) → may_take p m from.0 v slot.0 ≡ true →
      turn p m.me.0 leaf (held m) (Receive from (PrePrepare v slot (Value_batch batch) sig)) ≡
      turned p (first_draft p m.me.0 (Some (slot, batch))) (with_proposal (held m) 0 slot.0 (first_proposal p (slot, batch) sig)) false 0 (slot ∷ []) (string_of p (Value_batch batch) ∷ []) (Some (slot, batch))
  told-turn leaf from v sig may =
      let i = Receive from (PrePrepare v slot (Value_batch batch) sig) in
      accepts-some leaf i (asked_at p m.me.0 (held m) i) (told-asked from v sig ∙ when-is (may_take p m from.0 v slot.0) true may)

  pub told-idle : (leaf : ℕ) (from : NodeId) (v : ℕ) (sig : List ℕ) → may_take p m from.0 v slot.0 ≡ false →
      turn p m.me.0 leaf (held m) (Receive from (PrePrepare v slot (Value_batch batch) sig)) ≡ idle (held m)
  told-idle leaf from v sig out =
      let i = Receive from (PrePrepare v slot (Value_batch batch) sig) in
      accepts-none leaf i (asked_at p m.me.0 (held m) i) (told-asked from v sig ∙ when-is (may_take p m from.0 v slot.0) false out)

  -- ---- the message that is sent first

  pub leader-draft : (m.me.0 == p.leader.0) ≡ true →
      first_draft p m.me.0 (Some (slot, batch)) ≡ DraftPrePrepare slot (Value_batch batch) ∷ []
  leader-draft leads = ap (λ (t : Bool). cond t (DraftPrePrepare slot (Value_batch batch)) (DraftPrepare 0 slot (digest_of p (Value_batch batch))) ∷ []) leads

  pub follower-draft : (m.me.0 == p.leader.0) ≡ false →
      first_draft p m.me.0 (Some (slot, batch)) ≡ DraftPrepare 0 slot (digest_of p (Value_batch batch)) ∷ []
  follower-draft follows = ap (λ (t : Bool). cond t (DraftPrePrepare slot (Value_batch batch)) (DraftPrepare 0 slot (digest_of p (Value_batch batch))) ∷ []) follows

  pub first-few : uses_all p (first_draft p m.me.0 (Some (slot, batch))) ≤ 1
  first-few = go (m.me.0 == p.leader.0)
    where
      go : (t : Bool) → uses_all p (cond t (DraftPrePrepare slot (Value_batch batch)) (DraftPrepare 0 slot (digest_of p (Value_batch batch))) ∷ []) ≤ 1
      go true = omega arith
      go false = omega arith

  pub cast-sent : (m.me.0 == p.leader.0) ≡ true →
      (x : Value) (d sig : List ℕ) (k l : KeyState) (s t : List (To × Message)) → x ≡ Value_batch batch →
      d ≡ digest_of p (Value_batch batch) →
      l ≡ record k { used = k.used + 1 } → ((me : ℕ) → AreKeysOf me p.setup.keys k → sig ≡ signature p me k.used (state_at p 1 0 slot.0 d)) → s ≡ [] →
      t ≡ s ++ (To_all, PrePrepare 0 slot x sig) ∷ [] → Sent p (first_draft p m.me.0 (Some (slot, batch))) k l [] t
  cast-sent leads x d sig k l s t is hash used signed none put =
      subst (λ (ds : List Draft). Sent p ds k l [] t) (sym (leader-draft leads))
      (sent-one p (DraftPrePrepare slot (Value_batch batch)) (PrePrepare 0 slot x sig) k l [] t used
      (λ me own. ap (λ (z : Value). PrePrepare 0 slot z sig) is ∙ ap (λ (z : List ℕ). PrePrepare 0 slot (Value_batch batch) z) (signed me own ∙ ap (λ (z : List ℕ). signature p me k.used (state_at p 1 0 slot.0 z)) hash))
      refl (put ∙ ap (λ (z : List (To × Message)). z ++ (To_all, PrePrepare 0 slot x sig) ∷ []) none))

  pub told-sent : (m.me.0 == p.leader.0) ≡ false → (d : List ℕ) (k l : KeyState) (s t : List (To × Message)) →
      d ≡ digest_of p (Value_batch batch) → s ≡ [] → Sent p (DraftPrepare 0 slot d ∷ []) k l s t →
      Sent p (first_draft p m.me.0 (Some (slot, batch))) k l [] t
  told-sent follows d k l s t hash none sent =
      subst (λ (ds : List Draft). Sent p ds k l [] t) (sym (follower-draft follows))
      (subst (λ (z : List ℕ). Sent p (DraftPrepare 0 slot z ∷ []) k l [] t) hash (subst (λ (z : List (To × Message)). Sent p (DraftPrepare 0 slot d ∷ []) k l z t) none sent))

  pub same-proposal : (x : Value) (d sig tag : List ℕ) → x ≡ Value_batch batch → d ≡ digest_of p (Value_batch batch) →
      sig ≡ tag →
      ◌≡◌ {A = Proposal} (record { value = x; digest = d; sig = sig }) (first_proposal p (slot, batch) tag)
  same-proposal x d sig tag is hash same = λ j. record { value = is j; digest = hash j; sig = same j }

pub free-slot : (p : Params) (m : Pbft) (slot : Slot) → is_free p (held m) slot.0 ≡ true → In slot p.slots
free-slot p m slot free =
    let begun = (and-true (is_open p (held m).mode slot.0) (not (is_some ((held m).proposal 0 slot.0))) free).0 in
    let a = and-true ((held m).mode.view == 0) ((held m).mode.active && has_slot slot.0 p.slots) begun in
    has_slot-In slot p.slots (and-true (held m).mode.active (has_slot slot.0 p.slots) a.1).1

pub not-is : (t : Bool) → not t ≡ true → t ≡ false
not-is true h = absurd cc
not-is false h = refl
