-- Reached worlds with separate strings are broadcasts: the facts, and what follows of them.
use Rattle.std.proofs.Common.{◌≡◌, ◌<◌, ℕ, ◌==◌, Bool, true, false, if◌then◌else◌, List, [], ◌∷◌, length, Option, Some, None, refl, sym, ap, ◌∙◌, subst, inl}
use Rattle.std.specs.Prelude.{nat_lt}
use Rattle.std.proofs.lemmas.Bool.{ltb-true}
use Rattle.iss_base.specs.Lists.{In, nth}
use Rattle.iss_base.proofs.Lists.{and-true, in_right, nth-some}
use Rattle.iss_request.specs.declared.ids.NodeId.{NodeId}
use Rattle.iss_request.specs.declared.ids.Slot.{Slot}
use Rattle.iss_request.specs.declared.requests.Batch.{Batch}
use Rattle.iss_request.specs.declared.requests.Value.TheVariants.{Batch as Value_batch}
use Rattle.iss_sb.specs.declared.effects.Input.{Input}
use Rattle.iss_sb.specs.declared.effects.Input.TheVariants.{Receive}
use Rattle.iss_sb.specs.declared.effects.Params.{Params}
use Rattle.iss_sb.specs.declared.effects.To.{To}
use Rattle.iss_sb.specs.Calls.{IsGoodParams}
use Rattle.iss_sb.specs.Evidence.{IsReached, IsSigned, IsString, Item, Made, Separate, World, accepts, delivered, is_correct}
use Rattle.iss_sb.specs.Laws.{IsSafe}
use Rattle.iss_sb.proofs.Claims.{signed-stated}
use Rattle.iss_sb.proofs.Legal.{accepts-front, front_self, made-at}
use Rattle.iss_sb.proofs.Slots.{slot-is}
use Rattle.iss_sb.proofs.Worlds.{accepts-new, accepts-old}
use Rattle.iss_sb.specs.declared.content.Content.{Content}
use Rattle.iss_sb.specs.declared.content.Content.TheVariants.{Holds}
use Rattle.hs_tree.specs.declared.certificates.Certificate.{Certificate}
use Rattle.hs_tree.specs.declared.messages.Message.{Message}
use Rattle.hs_tree.specs.declared.messages.Body.{Body}
use Rattle.hs_tree.specs.declared.messages.Body.TheVariants.{Prepare}
use Rattle.hs_tree.specs.Messages.{signed}
use Rattle.hs_tree.specs.Certificates.{digest_of}
use Rattle.iss_sb.specs.Statements.{claim}
use Rattle.hs_tree.specs.Statements.{certificate_claims, stated}
use Rattle.hs_tree.specs.Tree.{branch, chained as form, filled, root, value_at}
use Rattle.sb_chained.specs.Chained.{asks, chained, offered, state}
use Rattle.hs_views.specs.Batches.{unless_accepted, was_accepted}
use Rattle.sb_chained.specs.Facts.{AreAgreed, AreBacked, AreCertified, AreDecided, AreExtending, AreFromLeader, AreSafeVotes, AreStanding, HaveOneNode, HaveSharedAcceptor, IsAt, IsVoted, Leads, VoteOnce}
use Rattle.sb_chained.specs.Paths.{hash}
use Rattle.sb_chained.specs.Rules.{State, is_allowed, may_prepare, node_digest, slots_below}
use Rattle.hs_views.specs.Views.{leader_of, round_of}
use Rattle.sb_chained.proofs.Basics.{own-proposal}
use Rattle.sb_chained.proofs.Safety.OneVoteAView.{vote-one, votes-rise}
use Rattle.sb_chained.proofs.Safety.CertifiedNodes.{certified-at, low-certified, quorums-meet, same-branch, same-node, some}
use Rattle.sb_chained.proofs.Safety.VotesSentWereReceived.{States, passes-on}
use Rattle.sb_chained.proofs.Safety.BranchesAgree.{Accepted, Facts, First, accepted-root, agree, extends-it, share}
use Rattle.sb_chained.proofs.Safety.KnownNodesStand.{first-leader, state-ok}
use Rattle.sb_chained.proofs.LeaderProposals.ProposalsAreCasts.{IsCast, proposal-why}
use Rattle.sb_chained.proofs.Safety.VotesRespectLocks.{delivered-shown, safe-why}
use Rattle.sb_chained.proofs.Safety.NodesHaveOneView.{branch-is}
use Rattle.sb_chained.proofs.Safety.VotesHaveCauses.{acc, came, came-certified, front-older, legal, one-why, part-here, part-made, parts, spot, stands-why, taken-at}
use Rattle.hs_views.proofs.SlotsOfBranches.{slot-agree, place, from-zero}
use Rattle.hs_views.proofs.BatchesOnce.{was-In}
use Rattle.hs_views.proofs.Tests.{is-same}

-- ---- the value at a slot stands at its place

same-digest : (p : Params) (u v : ℕ) (a b : Content) (c e : Certificate) (d : List ℕ) → u ≡ v → a ≡ b → c ≡ e → node_digest p v b e ≡ d → node_digest p u a c ≡ d
same-digest p u v a b c e d q r s h = ap (λ (z : ℕ). node_digest p z a c) q ∙ ap (λ (z : Content). node_digest p v z c) r ∙ ap (λ (z : Certificate). node_digest p v b z) s ∙ h

module _ (p : Params) (w : World Message) (good : IsGoodParams chained p) (reached : IsReached chained p w) where
  -- ---- votes

  pub vote-once : VoteOnce w
  vote-once = record {
    one = λ i x view v d e k a b.
        let t = made-at chained p i x (w i) ((legal p w good reached).made i) k in
        vote-one p i x t.before view v d e (part-made p w good reached i (x ∷ t.before) t.front) a b;
    ascending = λ i x y before view v d e f k a b. votes-rise p i x y before view v d e (part-made p w good reached i (x ∷ before) f) k a b;
  }

  pub standing : AreStanding p w
  standing = stands-why p w good reached

  pub one-node-view : HaveOneNode p w
  one-node-view view d e c g =
      let m = quorums-meet p good c.test g.test c.many g.many in
      one-why p w good reached m.node view d e (c.each m.node m.first m.correct) (g.each m.node m.second m.correct)

  pub are-votes : AreCertified p w
  are-votes i view x from msg h e g =
      let t = made-at chained p i x (w i) ((legal p w good reached).made i) h in
      (came-certified p w good reached i x t.before view from msg t.front e g).cert

  module _ (sep : Separate (IsString w)) where
    pub safe-votes : AreSafeVotes p w
    safe-votes = safe-why p w good reached sep

    facts : Facts p w (acc p w)
    facts = record { one = one-why p w good reached; stands = standing; locked = safe-votes }

    pub extending : AreExtending p w
    extending = λ t v z e l c g. extends-it p w (acc p w) good facts sep t v z e l c g

    -- ---- what a node accepts with a vote

    offered-why : (x : Item Message) (older : List (Item Message)) (b : Batch) (n : ℕ) → n < length p.slots → x.made.accepted ≡ unless_accepted (accepts older) b (nth p.slots n) →
        (s : Slot) × (nth p.slots n ≡ Some s) × In {A = Slot × Batch} (s, b) (accepts (x ∷ older))
    offered-why x older b n l e =
        let r = nth-some p.slots n l in
        (r.0, r.1, go r.0 (was_accepted r.0.0 b (accepts older)) refl (e ∙ ap (λ (o : Option Slot). unless_accepted (accepts older) b o) r.1))
      where
        go : (s : Slot) (t : Bool) → was_accepted s.0 b (accepts older) ≡ t → x.made.accepted ≡ (if was_accepted s.0 b (accepts older) then None else Some (s, b)) → In {A = Slot × Batch} (s, b) (accepts (x ∷ older))
        go s true q h = accepts-old x older (s, b) (was-In s b (accepts older) q)
        go s false q h = accepts-new x older (s, b) (h ∙ rw q refl)

    allowed-low : (round n : ℕ) (b : Batch) → is_allowed p round n (Holds b) ≡ true → (round ≡ 0) × (n < length p.slots)
    allowed-low round n b h = let a = and-true (round == 0) (nat_lt n (length p.slots)) h in (is-same round 0 a.0, ltb-true n (length p.slots) a.1)

    first : (k v : ℕ) (d : List ℕ) → IsVoted w k v d → First p w (acc p w) k v d
    first k v d h =
        let sp = spot p w good reached k v d h in
        let f = sp.why in
        let s = state p k sp.older in
        let at = taken-at p w good reached k sp.item sp.older f.from v f.what f.just f.sig sp.part f.is f.may in
        record {
          parent = digest_of f.just;
          what = f.what;
          node = subst (λ (z : List ℕ). IsAt p w z v (digest_of f.just) f.what) (sym f.digest_is) at;
          accepted = λ cs b br full.
              let ps = parts p w good reached s f.from.0 v f.what f.just f.may in
              let tree = (state-ok p w good reached k sep sp.older (front-older sp.item sp.older (w k) sp.part)).tree in
              let mine = branch-is p.setup.version (IsString w) s.tree (digest_of f.just) tree ps.fine.known in
              let n = slots_below s f.just in
              let same = same-branch p w good standing sep (digest_of f.just) cs (branch s.tree (digest_of f.just)) br mine in
              let low = (allowed-low (round_of v) n b (ap (λ (c : Content). is_allowed p (round_of v) n c) (sym full) ∙ ps.allowed)).1 in
              let asked : sp.item.made.accepted ≡ asks p k sp.older sp.item.input = ap (λ (z : Made Message). z.accepted) (part-made p w good reached k (sp.item ∷ sp.older) sp.part).0 in
              let here : asks p k sp.older (Receive f.from (signed (Prepare v f.what f.just) f.sig)) ≡ offered p s (accepts sp.older) f.what f.just = rw (f.may) refl in
              let all : sp.item.made.accepted ≡ unless_accepted (accepts sp.older) b (nth p.slots n) = asked ∙ ap (λ (z : Input Message). asks p k sp.older z) f.is ∙ here ∙ ap (λ (c : Content). offered p s (accepts sp.older) c f.just) full in
              let r = offered-why sp.item sp.older b n low all in
              subst (λ (z : List Content). acc p w k (filled z) b) (sym same) (r.0, r.1, accepts-front (sp.item ∷ sp.older) (w k) (r.0, b) sp.part r.2);
        }

    -- ---- Deliveries

    pub are-decided : AreDecided p w
    are-decided i n x h = delivered-shown p w good reached sep i (w i) n x (front_self (w i)) h

    pub agreed : AreAgreed p w
    agreed i j s x y h g =
        let a = are-decided i s x h in
        let b = are-decided j s y g in
        slot-agree a.whats b.whats p.slots 0 s x y (λ n u v. agree p w (acc p w) good facts sep a.view a.node b.view b.node n a.whats b.whats x y a.committed b.committed a.is_branch b.is_branch u v) a.value b.value

    -- a delivered batch has a place, and a quorum accepted it there
    record Rests (s : Slot) (b : Batch) : Type 0 where
      place : ℕ
      slot : nth p.slots place ≡ Some s
      accepted : Accepted p w (acc p w) place b

    rests : (i : ℕ) (s : Slot) (b : Batch) → delivered chained p i (w i) s.0 ≡ Some (Value_batch b) → Rests s b
    rests i s b h =
        let a = are-decided i s.0 (Value_batch b) h in
        let q = place a.whats p.slots 0 s.0 (Value_batch b) a.value in
        let value = subst (λ (n : ℕ). value_at a.whats n ≡ Some (Value_batch b)) (from-zero q.at) q.value in
        let low = low-certified p w good standing sep a.view a.node a.committed in
        record {
          place = q.at;
          slot = q.there ∙ ap (λ (z : Slot). Some z) (slot-is q.slot s q.is);
          accepted = accepted-root p w (acc p w) good facts sep first a.whats a.view a.node q.at b low a.is_branch value;
        }

    acc-at : (j n : ℕ) (s : Slot) (b : Batch) → nth p.slots n ≡ Some s → acc p w j n b → In {A = Slot × Batch} (s, b) (accepts (w j))
    acc-at j n s b e a =
        let both : Some a.0 ≡ Some s = sym a.1 ∙ e in
        let same : a.0 ≡ s = cc in
        subst (λ (z : Slot). In {A = Slot × Batch} (z, b) (accepts (w j))) same a.2

    pub backed : AreBacked p w
    backed i s b h =
        let r = rests i s b h in
        let a = r.accepted in
        let at = certified-at p w good standing sep a.view a.at a.node a.parent (Holds b) a.certified a.is in
        record { view = a.view; node = a.node; parent = a.parent; is = subst (λ (z : ℕ). IsAt p w a.node z a.parent (Holds b)) at a.is; certified = a.certified; accepted = λ k t c. acc-at k r.place s b r.slot (a.each k t c) }

    pub shared : HaveSharedAcceptor p w
    shared i j s t b c h g =
        let x = rests i s b h in
        let y = rests j t c g in
        let k = share p w (acc p w) good facts sep first x.place y.place b c x.accepted y.accepted in
        record { node = k.0; correct = k.1; first = acc-at k.0 x.place s b x.slot k.2; second = acc-at k.0 y.place t c y.slot k.3 }

    -- ---- Deliveries in a correct leader's segment

    -- the vote for a batch was for a proposal of the segment's leader
    record IsProposal (b : Batch) (view : ℕ) (parent : List ℕ) : Type 0 where
      just : Certificate
      parent_is : digest_of just ≡ parent
      signed : is_correct p.setup p.leader.0 ≡ true → IsSigned chained p w p.leader.0 (stated form p (Prepare view (Holds b) just))

    -- a correct leader of the segment signed each proposal of a batch that a replica takes
    pub leader-signed : (k : ℕ) (x : Item Message) (s : State) (from : NodeId) (v : ℕ) (b : Batch) (just : Certificate) (sig : List ℕ) → In x (w k) → x.input ≡ Receive from (signed (Prepare v (Holds b) just) sig) →
        may_prepare p s from.0 v (Holds b) just ≡ true → is_correct p.setup p.leader.0 ≡ true → IsSigned chained p w p.leader.0 (stated form p (Prepare v (Holds b) just))
    leader-signed k x s from v b just sig h e may correct =
        let ps = parts p w good reached s from.0 v (Holds b) just may in
        let early = allowed-low (round_of v) (slots_below s just) b ps.allowed in
        let leader : from.0 ≡ p.leader.0 = ps.fine.leader ∙ ap (λ (z : ℕ). leader_of p z) early.0 ∙ first-leader p w good reached k sep in
        let m = came p w good reached k x from (signed (Prepare v (Holds b) just) sig) h e in
        let own = claim from.0 (stated form p (Prepare v (Holds b) just)) sig in
        let given = m.signed own (in_right own (certificate_claims form p just) (own ∷ []) (inl refl)) (ap (λ (z : ℕ). is_correct p.setup z) leader ∙ correct) in
        subst (λ (z : ℕ). IsSigned chained p w z (stated form p (Prepare v (Holds b) just))) leader given

    leads-first : (k v : ℕ) (d : List ℕ) → IsVoted w k v d → (u : ℕ) (b : Batch) (parent : List ℕ) → IsAt p w d u parent (Holds b) → IsProposal b v parent
    leads-first k v d h u b parent at =
        let sp = spot p w good reached k v d h in
        let f = sp.why in
        let s = state p k sp.older in
        let mine = subst (λ (z : List ℕ). IsAt p w z v (digest_of f.just) f.what) (sym f.digest_is) (taken-at p w good reached k sp.item sp.older f.from v f.what f.just f.sig sp.part f.is f.may) in
        let same = same-node p w good standing sep d v u (digest_of f.just) parent f.what (Holds b) mine at in
        let is : sp.item.input ≡ Receive f.from (signed (Prepare v (Holds b) f.just) f.sig) = subst (λ (z : Content). sp.item.input ≡ Receive f.from (signed (Prepare v z f.just) f.sig)) same.contents f.is in
        let may = subst (λ (z : Content). may_prepare p s f.from.0 v z f.just ≡ true) same.contents f.may in
        record { just = f.just; parent_is = same.parents; signed = leader-signed k sp.item s f.from v b f.just f.sig (part-here p w good reached k sp.item sp.older sp.part) is may }

    -- what a correct leader signed as a proposal is its cast at the place behind the node's branch
    pub proposed-cast : (l v : ℕ) (just : Certificate) (b : Batch) (parent : List ℕ) (below : List Content) → is_correct p.setup l ≡ true → IsSigned chained p w l (stated form p (Prepare v (Holds b) just)) →
        digest_of just ≡ parent → IsAt p w (node_digest p v (Holds b) just) v parent (Holds b) → Leads p w parent root below → IsCast p w good reached l (filled below) b
    proposed-cast l v just b parent below correct own e at leads =
        let s = signed-stated chained p (States p) refl (passes-on p) w reached l (stated form p (Prepare v (Holds b) just)) correct own in
        let mine = own-proposal p s.msg.body v (node_digest p v (Holds b) just) s.states in
        let m = made-at chained p l s.item (w l) ((legal p w good reached).made l) s.taken in
        let sent = subst (λ (z : Body). In {A = To × Message} (s.to, signed z s.msg.sig) s.item.made.sends) mine.is s.sent in
        let t = proposal-why p w good reached l sep s.item m.before s.to v mine.what mine.just s.msg.sig m.front sent in
        let digests = same-digest p t.turn.view v t.turn.what mine.what t.turn.just mine.just (node_digest p v (Holds b) just) t.view_is t.what_is t.just_is mine.digest_is in
        let same = same-node p w good standing sep (node_digest p v (Holds b) just) t.turn.view v (digest_of t.turn.just) parent t.turn.what (Holds b) (subst (λ (z : List ℕ). IsAt p w z t.turn.view (digest_of t.turn.just) t.turn.what) digests t.at) at in
        let c = t.ok.batch b same.contents in
        let paths = same-branch p w good standing sep parent c.below below (subst (λ (z : List ℕ). Leads p w z root c.below) same.parents c.leads) leads in
        let at_place : c.place ≡ filled below = sym c.full ∙ ap filled paths in
        subst (λ (n : ℕ). IsCast p w good reached l n b) at_place c.cast

    pub from-leader : AreFromLeader p w
    from-leader i s b correct h =
        let r = rests i s b h in
        let a = r.accepted in
        let k = some p w good standing a.view a.node a.certified in
        let t = leads-first k.0 a.view a.node k.2 a.at b a.parent a.is in
        let views = certified-at p w good standing sep a.view a.at a.node a.parent (Holds b) a.certified a.is in
        let mine = subst (λ (z : ℕ). IsAt p w a.node z a.parent (Holds b)) views a.is in
        let digest : a.node ≡ node_digest p a.view (Holds b) t.just = sym mine.is ∙ ap (λ (z : List ℕ). hash p.setup.version a.view z (Holds b)) (sym t.parent_is) in
        let g = proposed-cast p.leader.0 a.view t.just b a.parent a.below correct (t.signed correct) t.parent_is (subst (λ (z : List ℕ). IsAt p w z a.view a.parent (Holds b)) digest mine) a.leads in
        acc-at p.leader.0 r.place s b r.slot (subst (λ (n : ℕ). acc p w p.leader.0 n b) (sym a.place) g.accepted)

pub chained-safe : IsSafe chained
chained-safe p w good reached sep = record {
  agreement = λ i j s x y ci cj h g. agreed p w good reached sep i j s x y h g;
  shared = λ i j s t b c ci cj h g. shared p w good reached sep i j s t b c h g;
  integrity = λ i s b cl ci h. from-leader p w good reached sep i s b cl h;
}
