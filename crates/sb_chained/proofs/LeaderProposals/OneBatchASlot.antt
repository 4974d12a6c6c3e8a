-- A correct leader accepts at most one batch at a slot: its cast at the slot's place. This also holds if it takes a
-- proposal, which is its own.
use Rattle.std.proofs.Common.{◌≡◌, ℕ, true, List, [], ◌∷◌, length, Some, refl, sym, ap, ◌∙◌, subst, inl, inr}
use Rattle.iss_base.specs.Lists.{In, nth}
use Rattle.iss_base.proofs.Lists.{and-true, some-injective}
use Rattle.iss_request.specs.declared.ids.NodeId.{NodeId}
use Rattle.iss_request.specs.declared.ids.Slot.{Slot}
use Rattle.iss_request.specs.declared.requests.Batch.{Batch}
use Rattle.iss_sb.specs.declared.effects.Input.{Input}
use Rattle.iss_sb.specs.declared.effects.Input.TheVariants.{Cast, Receive, Timeout}
use Rattle.iss_sb.specs.declared.effects.Params.{Params}
use Rattle.iss_sb.specs.Calls.{IsGoodParams, is_slot}
use Rattle.iss_sb.specs.Evidence.{IsReached, IsString, Item, Made, Separate, World, accepts, is_correct}
use Rattle.iss_sb.specs.Legal.{Front}
use Rattle.iss_sb.proofs.Legal.{front_self, front_trans}
use Rattle.iss_sb.proofs.Worlds.{accepts-cases}
use Rattle.iss_sb.proofs.Slots.{one-place, slot-some}
use Rattle.iss_sb.specs.declared.content.Content.{Content}
use Rattle.iss_sb.specs.declared.content.Content.TheVariants.{Nil, Holds, Mark}
use Rattle.hs_tree.specs.declared.certificates.Certificate.{Certificate}
use Rattle.hs_tree.specs.declared.messages.Message.{Message}
use Rattle.hs_tree.specs.declared.messages.Body.{Body}
use Rattle.hs_tree.specs.declared.messages.Body.TheVariants.{Prepare}
use Rattle.hs_tree.specs.Messages.{signed}
use Rattle.hs_tree.specs.Certificates.{digest_of}
use Rattle.hs_tree.specs.Tree.{branch, root}
use Rattle.sb_chained.specs.Chained.{asks, chained, offered, state}
use Rattle.sb_chained.specs.Facts.{AreOnce, Leads}
use Rattle.sb_chained.specs.Rules.{may_cast, may_prepare, slots_below}
use Rattle.sb_chained.proofs.LeaderProposals.CastsAreAppendOnly.{cast-new, front-more}
use Rattle.sb_chained.proofs.Safety.KnownNodesStand.{state-ok}
use Rattle.sb_chained.proofs.Safety.NodesHaveOneView.{branch-is}
use Rattle.sb_chained.proofs.Safety.VotesHaveCauses.{front-older, part-here, part-made, parts, taken-at}
use Rattle.sb_chained.proofs.Safety.WorldsAreBroadcasts.{leader-signed, proposed-cast}
use Rattle.hs_views.proofs.BatchesOnce.{IsOffered, unless-is}
use Rattle.hs_views.proofs.Tests.{if-in, if-some}

-- ---- The batch of a proposal

module _ (p : Params) (w : World Message) (good : IsGoodParams chained p) (reached : IsReached chained p w) (sep : Separate (IsString w)) (correct : is_correct p.setup p.leader.0 ≡ true) where
  abbrev l : ℕ
  l = p.leader.0

  -- the batch is the leader's cast at the slot's place
  record IsCastAt (s : Slot) (b : Batch) : Type 0 where
    place : ℕ
    slot : nth p.slots place ≡ Some s
    cast : nth (state p l (w l)).casts place ≡ Some b

  by-cast : (x : Item Message) (older : List (Item Message)) → Front (x ∷ older) (w l) → (s : Slot) (b : Batch) → x.input ≡ Cast s b → may_cast p l (state p l older) s.0 ≡ true → IsCastAt s b
  by-cast x older f s b e q =
      let casts = (state p l older).casts in
      record {
        place = length casts;
        slot = slot-some s (nth p.slots (length casts)) (and-true _ (is_slot s.0 (nth p.slots (length casts))) q).1;
        cast = front-more p l (x ∷ older) (w l) f (length casts) b (cast-new p l x older s b e q);
      }

  by-proposal : (x : Item Message) (older : List (Item Message)) → Front (x ∷ older) (w l) → (from : NodeId) (v : ℕ) (c : Batch) (just : Certificate) (sig : List ℕ) (s : Slot) (b : Batch) →
      x.input ≡ Receive from (signed (Prepare v (Holds c) just) sig) → may_prepare p (state p l older) from.0 v (Holds c) just ≡ true → IsOffered (nth p.slots (slots_below (state p l older) just)) c s b → IsCastAt s b
  by-proposal x older f from v c just sig s b e q o =
      let st = state p l older in
      let k = part-here p w good reached l x older f in
      let at = taken-at p w good reached l x older from v (Holds c) just sig f e q in
      let ps = parts p w good reached st from.0 v (Holds c) just q in
      let tree = (state-ok p w good reached l sep older (front-older x older (w l) f)).tree in
      let leads : Leads p w (digest_of just) root (branch st.tree (digest_of just)) = branch-is p.setup.version (IsString w) st.tree (digest_of just) tree ps.fine.known in
      let signed = leader-signed p w good reached sep l x st from v c just sig k e q correct in
      let own = proposed-cast p w good reached sep l v just c (digest_of just) (branch st.tree (digest_of just)) correct signed refl at leads in
      record { place = slots_below st just; slot = o.slot; cast = own.cast ∙ ap (λ (z : Batch). Some z) o.batch }

  asked-at-heard : (x : Item Message) (older : List (Item Message)) → Front (x ∷ older) (w l) → (from : NodeId) (body : Body) (sig : List ℕ) (s : Slot) (b : Batch) → x.input ≡ (Receive from (signed body sig)) → asks p l older (Receive from (signed body sig)) ≡ Some (s, b) → IsCastAt s b
  asked-at-heard x older f from (Prepare v what just) sig s b e h =
      let st = state p l older in
      let t = if-in (may_prepare p st from.0 v what just) (offered p st (accepts older) what just) (s, b) h in
      go what e t.passed t.is
    where
      go : (c : Content) → x.input ≡ Receive from (signed (Prepare v c just) sig) → may_prepare p (state p l older) from.0 v c just ≡ true → offered p (state p l older) (accepts older) c just ≡ Some (s, b) → IsCastAt s b
      go Nil is q o = absurd cc
      go (Holds c) is q o = by-proposal x older f from v c just sig s b is q (unless-is (accepts older) c (nth p.slots (slots_below (state p l older) just)) s b o)
      go Mark is q o = absurd cc
  asked-at-heard x older f from other sig s b e h = absurd cc

  asked-at : (x : Item Message) (older : List (Item Message)) → Front (x ∷ older) (w l) → (i : Input Message) (s : Slot) (b : Batch) → x.input ≡ i → asks p l older i ≡ Some (s, b) → IsCastAt s b
  asked-at x older f (Cast slot batch) s b e h =
      let t = if-some (may_cast p l (state p l older) slot.0) (slot, batch) (s, b) h in
      subst (λ (z : Slot × Batch). IsCastAt z.0 z.1) t.is (by-cast x older f slot batch e t.passed)
  asked-at x older f Timeout s b e h = absurd cc
  asked-at x older f (Receive from msg) s b e h = asked-at-heard x older f from msg.body msg.sig s b e h

  accepted-at : (xs : List (Item Message)) → Front xs (w l) → (s : Slot) (b : Batch) → In {A = Slot × Batch} (s, b) (accepts xs) → IsCastAt s b
  accepted-at [] f s b h = absurd h
  accepted-at (x ∷ xs) f s b h = elim (accepts-cases x xs (s, b) h) [
    | inl now ↦
        let made = (part-made p w good reached l (x ∷ xs) f).0 in
        asked-at x xs f x.input s b refl (sym (ap (λ (z : Made Message). z.accepted) made) ∙ now)
    | inr old ↦ accepted-at xs (front_trans xs (x ∷ xs) (w l) (inr (front_self xs)) f) s b old
  ]

  once : (s : Slot) (b c : Batch) → IsCastAt s b → IsCastAt s c → b ≡ c
  once s b c h g =
      let at = one-place 0 p.slots h.place g.place s good.ascending h.slot g.slot in
      some-injective b c (sym h.cast ∙ ap (λ (n : ℕ). nth (state p l (w l)).casts n) at ∙ g.cast)

pub accepted-once : (p : Params) (w : World Message) → IsGoodParams chained p → IsReached chained p w → Separate (IsString w) → AreOnce p w
accepted-once p w good reached sep correct s b c h g =
    let at = accepted-at p w good reached sep correct (w p.leader.0) (front_self (w p.leader.0)) s in
    once p w good reached sep correct s b c (at b h) (at c g)
