-- Each reachable world is a broadcast, unless SHA-256 collides on its strings: the facts, and what follows from them.
use Rattle.std.proofs.Common.{◌≡◌, ◌<◌, ℕ, ◌+◌, ◌%◌, ◌==◌, true, List, [], ◌∷◌, Some, refl, sym, ap, ◌∙◌, subst, inl, inr, arith}
use Rattle.std.proofs.Math.Nat.{mod-eq_of_lt}
use Rattle.iss_base.specs.Lists.{In, nth}
use Rattle.iss_base.proofs.Lists.{and-true, in_right}
use Rattle.iss_request.specs.declared.ids.NodeId.{NodeId}
use Rattle.iss_request.specs.declared.ids.Slot.{Slot}
use Rattle.iss_request.specs.declared.requests.Batch.{Batch}
use Rattle.iss_request.specs.declared.requests.Value.{Value}
use Rattle.iss_request.specs.declared.requests.Value.TheVariants.{Batch as Value_batch}
use Rattle.iss_sb.specs.declared.effects.Input.TheVariants.{Receive}
use Rattle.iss_sb.specs.declared.effects.Params.{Params}
use Rattle.iss_sb.specs.declared.effects.To.{To}
use Rattle.iss_sb.specs.Calls.{IsGoodParams}
use Rattle.iss_sb.specs.Evidence.{Item, IsReached, IsSigned, IsString, Separate, World, accepts, delivered, is_correct}
use Rattle.iss_sb.specs.Laws.{AreHeard, IsSafe}
use Rattle.iss_sb.specs.Legal.{Front, IsLegal}
use Rattle.iss_sb.proofs.Claims.{signed-stated}
use Rattle.iss_sb.proofs.Heard.{heard-reached}
use Rattle.iss_sb.proofs.Legal.{accepts-front, front-in, legal-reached, made-at, made-front}
use Rattle.iss_sb.proofs.Slots.{slot-is}
use Rattle.iss_sb.specs.declared.content.Content.{Content}
use Rattle.iss_sb.specs.declared.content.Content.TheVariants.{Holds}
use Rattle.hs_tree.specs.declared.certificates.Certificate.{Certificate}
use Rattle.hs_tree.specs.declared.messages.Message.{Message}
use Rattle.hs_tree.specs.declared.messages.Body.{Body}
use Rattle.hs_tree.specs.declared.messages.Body.TheVariants.{Prepare}
use Rattle.hs_tree.specs.Messages.{signed}
use Rattle.hs_tree.specs.Certificates.{digest_of}
use Rattle.hs_tree.specs.Paths.{Has, hash}
use Rattle.iss_sb.specs.Statements.{claim}
use Rattle.hs_tree.specs.Statements.{certificate_claims, stated, vote_statement}
use Rattle.hs_tree.specs.Tree.{basic, filled, root, value_at}
use Rattle.sb_hotstuff.specs.Facts.{AreAgreed, AreBacked, AreCertified, AreExtending, AreFromLeader, AreRested, AreSafeVotes, HaveOneNode, HaveSharedAcceptor, IsVoted, Leads, VoteOnce}
use Rattle.sb_hotstuff.specs.HotStuff.{hotstuff, state}
use Rattle.sb_hotstuff.specs.Rules.{State, is_timely, may_prepare, node_digest, slots_below}
use Rattle.hs_views.specs.Views.{leader_of, round_of}
use Rattle.sb_hotstuff.proofs.Basics.{own-proposal, own-vote}
use Rattle.sb_hotstuff.proofs.LeaderProposals.CastsAreAppendOnly.{front-more}
use Rattle.sb_hotstuff.proofs.Safety.OneVoteAPhase.{vote-one, votes-rise}
use Rattle.sb_hotstuff.proofs.Safety.VotesSentWereReceived.{States, passes-on}
use Rattle.sb_hotstuff.proofs.Safety.BranchesAgree.{Accepted, Facts, First, accepted-root, agree, extends-it, one-of-view, same-branch, same-node, share, some, third-first}
use Rattle.sb_hotstuff.proofs.ModuleLaws.StepsAreLawful.{hotstuff-lawful}
use Rattle.sb_hotstuff.proofs.LeaderProposals.ProposalsAreCasts.{IsCast, IsPart, proposal-why}
use Rattle.sb_hotstuff.proofs.Safety.LockCoversCommitVotes.{Shown, delivered-shown, locked-why}
use Rattle.sb_hotstuff.proofs.Safety.VotesHaveCauses.{AreVoted, acc, allowed-low, came, came-certified, first-cause, first-why, is-taken, one-why, parts, second-why, spot, taken-has, third-why}
use Rattle.hs_views.proofs.SlotsOfBranches.{slot-agree, place, from-zero}
use Rattle.hs_views.proofs.Tests.{is-same}

-- ---- The value at a slot is that at its place

plus-none : (n : ℕ) → n + 0 ≡ n
plus-none n = omega arith

-- ---- What was signed was sent

pub voted-reached : (p : Params) (w : World Message) → IsReached hotstuff p w → AreVoted p w
voted-reached p w reached i phase view d correct own =
    let s = signed-stated hotstuff p (States p) refl (passes-on p) w reached i (vote_statement basic p phase view d) correct own in
    let is = own-vote p s.msg.body phase view d s.states in
    record { item = s.item; taken = s.taken; vote = record { to = s.to; sig = s.msg.sig; sent = subst (λ (z : Body). In {A = To × Message} (s.to, signed z s.msg.sig) s.item.made.sends) is s.sent } }

module _ (p : Params) (w : World Message) (good : IsGoodParams hotstuff p) (reached : IsReached hotstuff p w) where
  pub legal : IsLegal hotstuff p w
  legal = legal-reached hotstuff p w reached

  pub voted : AreVoted p w
  voted = voted-reached p w reached

  -- ---- At most one vote for a phase of a view

  pub vote-once : VoteOnce w
  vote-once = record {
    one = λ i x phase view q v d e k a b.
        let t = made-at hotstuff p i x (w i) (legal.made i) k in
        vote-one p i x t.before phase view q v d e (made-front hotstuff p i (x ∷ t.before) (w i) t.front (legal.made i)) a b;
    ascending = λ i x y before phase view q v d e f k a b. votes-rise p i x y before phase view q v d e (made-front hotstuff p i (x ∷ before) (w i) f (legal.made i)) k a b;
  }

  pub rested : AreRested p w
  rested = record { second = second-why p w good legal voted; third = third-why p w good legal voted }

  pub safe-votes : AreSafeVotes p w
  safe-votes = locked-why p w good legal voted

  facts : Facts p w (acc p w)
  facts = record {
    one = one-why p w good legal voted;
    second = second-why p w good legal voted;
    third = third-why p w good legal voted;
    locked = safe-votes;
  }

  pub one-node-view : HaveOneNode p w
  one-node-view = one-of-view p w (acc p w) good facts

  pub are-votes : AreCertified p w
  are-votes i phase view x from msg h e g = came-certified p w good legal voted phase view from.0 msg (came p w good legal voted i x from msg h e) g

  pub extending : AreExtending p w
  extending = λ u v d e l c g. extends-it p w (acc p w) good facts u d v e l c g

  module _ (sep : Separate (IsString w)) where
    first : (k v : ℕ) (d : List ℕ) → IsVoted w k 1 v d → First p w (acc p w) k v d
    first = first-why p w good legal voted sep

    -- ---- Deliveries

    see : (i n : ℕ) (x : Value) → delivered hotstuff p i (w i) n ≡ Some x → Shown p w good legal voted n x
    see i n x h = delivered-shown p w good legal voted i (w i) n x (legal.made i) (λ y q. q) h

    pub agreed : AreAgreed p w
    agreed i j s x y h g =
        let a = see i s x h in
        let b = see j s y g in
        slot-agree a.whats b.whats p.slots 0 s x y (λ n u v. agree p w (acc p w) good facts sep a.view a.node b.view b.node n a.whats b.whats x y a.cert b.cert a.is_branch b.is_branch u v) a.value b.value

    -- a delivered batch has a place, and a quorum accepted it there
    record Rests (s : Slot) (b : Batch) : Type 0 where
      place : ℕ
      slot : nth p.slots place ≡ Some s
      accepted : Accepted p w (acc p w) place b

    rests : (i : ℕ) (s : Slot) (b : Batch) → delivered hotstuff p i (w i) s.0 ≡ Some (Value_batch b) → Rests s b
    rests i s b h =
        let a = see i s.0 (Value_batch b) h in
        let q = place a.whats p.slots 0 s.0 (Value_batch b) a.value in
        let value = subst (λ (n : ℕ). value_at a.whats n ≡ Some (Value_batch b)) (from-zero q.at) q.value in
        record {
          place = q.at;
          slot = q.there ∙ ap (λ (z : Slot). Some z) (slot-is q.slot s q.is);
          accepted = accepted-root p w (acc p w) good facts sep first a.whats a.view a.node q.at b (third-first p w (acc p w) good facts a.view a.node a.cert) a.is_branch value;
        }

    acc-at : (j n : ℕ) (s : Slot) (b : Batch) → nth p.slots n ≡ Some s → acc p w j n b → In {A = Slot × Batch} (s, b) (accepts (w j))
    acc-at j n s b e a =
        let both : Some a.0 ≡ Some s = sym a.1 ∙ e in
        let same : a.0 ≡ s = cc in
        subst (λ (z : Slot). In {A = Slot × Batch} (z, b) (accepts (w j))) same a.2

    pub backed : AreBacked p w
    backed i s b h =
        let r = rests i s b h in
        let a = r.accepted in
        record { view = a.view; parent = a.parent; has = a.has; certified = a.certified; accepted = λ k t c. acc-at k r.place s b r.slot (a.each k t c) }

    pub shared : HaveSharedAcceptor p w
    shared i j s t b c h g =
        let x = rests i s b h in
        let y = rests j t c g in
        let k = share p w (acc p w) good facts sep first x.place y.place b c x.accepted y.accepted in
        record { node = k.0; correct = k.1; first = acc-at k.0 x.place s b x.slot k.2; second = acc-at k.0 y.place t c y.slot k.3 }

    -- ---- Deliveries in a correct leader's segment

    first-leader : (n l : ℕ) → l < n → (l + 0) % n ≡ l
    first-leader n l h = ap (λ (z : ℕ). z % n) (plus-none l) ∙ mod-eq_of_lt h

    -- the prepare vote for a batch answered a proposal of the segment's leader
    record IsProposal (b : Batch) (parent : List ℕ) : Type 0 where
      view : ℕ
      just : Certificate
      parent_is : digest_of just ≡ parent
      signed : is_correct p.setup p.leader.0 ≡ true → IsSigned hotstuff p w p.leader.0 (stated basic p (Prepare view (Holds b) just))

    -- a correct leader of the segment signed each proposal of a batch that a replica takes
    pub leader-signed : (k : ℕ) (x : Item Message) (s : State) (from : NodeId) (v : ℕ) (b : Batch) (just : Certificate) (sig : List ℕ) → In x (w k) → x.input ≡ Receive from (signed (Prepare v (Holds b) just) sig) →
        may_prepare p s from.0 v (Holds b) just ≡ true → is_correct p.setup p.leader.0 ≡ true → IsSigned hotstuff p w p.leader.0 (stated basic p (Prepare v (Holds b) just))
    leader-signed k x s from v b just sig h e may correct =
        let ps = parts p w good legal voted s from.0 v (Holds b) just may in
        let early = allowed-low p w good legal voted (round_of v) (slots_below s just) b ps.allowed in
        let timely = (and-true (is_timely p s from.0 v) _ (and-true _ _ may).0).0 in
        let sender : from.0 ≡ leader_of p (round_of v) = is-same from.0 (leader_of p (round_of v)) (and-true (from.0 == leader_of p (round_of v)) _ timely).0 in
        let leader : from.0 ≡ p.leader.0 = sender ∙ ap (λ (z : ℕ). leader_of p z) early.0 ∙ first-leader p.setup.n p.leader.0 good.leader in
        let m = came p w good legal voted k x from (signed (Prepare v (Holds b) just) sig) h e in
        let own = claim from.0 (stated basic p (Prepare v (Holds b) just)) sig in
        let given = m.signed own (in_right own (certificate_claims basic p just) (own ∷ []) (inl refl)) (ap (λ (z : ℕ). is_correct p.setup z) leader ∙ correct) in
        subst (λ (z : ℕ). IsSigned hotstuff p w z (stated basic p (Prepare v (Holds b) just))) leader given

    leads-first : (k v : ℕ) (d : List ℕ) (h : IsVoted w k 1 v d) (b : Batch) (parent : List ℕ) → Has p.setup.version (IsString w) parent (Holds b) → d ≡ hash p.setup.version parent (Holds b) → IsProposal b parent
    leads-first k v d h b parent has e =
        let sp = spot p k (w k) h.item (legal.made k) h.taken in
        let s = state p k sp.older in
        let f = first-cause p w good legal voted sep k v d h in
        let mine = taken-has p w good legal voted k h.item v f.what f.just h.taken (is-taken p w good legal voted k h.item sp.older f.from v f.what f.just f.sig h.taken sp.made f.is f.may) in
        let same = same-node p w (acc p w) good facts sep (digest_of f.just) parent f.what (Holds b) mine has (sym f.digest_is ∙ e) in
        let is : h.item.input ≡ Receive f.from (signed (Prepare v (Holds b) f.just) f.sig) = subst (λ (z : Content). h.item.input ≡ Receive f.from (signed (Prepare v z f.just) f.sig)) same.1 f.is in
        let may = subst (λ (z : Content). may_prepare p s f.from.0 v z f.just ≡ true) same.1 f.may in
        record { view = v; just = f.just; parent_is = same.0; signed = leader-signed k h.item s f.from v b f.just f.sig h.taken is may }

    -- the history of a replica up to one of its entries
    part : (k : ℕ) (x : Item Message) (older : List (Item Message)) → Front (x ∷ older) (w k) → IsPart p w good legal voted k (x ∷ older)
    part k x older f = record {
      heard = front-heard k (x ∷ older) (w k) f (heard-reached hotstuff hotstuff-lawful p good w reached k);
      here = λ y q. front-in y (x ∷ older) (w k) f q;
      accepted = λ e q. accepts-front (x ∷ older) (w k) e f q;
      later = λ n b e. front-more p k (x ∷ older) (w k) f n b e;
    }
      where
        front-heard : (me : ℕ) (a l : List (Item Message)) → Front a l → AreHeard hotstuff p me l → AreHeard hotstuff p me a
        front-heard me a [] g h = subst (λ (z : List (Item Message)). AreHeard hotstuff p me z) (sym g) h
        front-heard me a (y ∷ l) (inl q) h = subst (λ (z : List (Item Message)). AreHeard hotstuff p me z) (sym q) h
        front-heard me a (y ∷ l) (inr g) h = front-heard me a l g h.2

    -- a proposal that a correct leader signed holds its cast at the place after the parent's branch
    pub proposed-cast : (l v : ℕ) (just : Certificate) (b : Batch) (parent : List ℕ) (below : List Content) → is_correct p.setup l ≡ true → IsSigned hotstuff p w l (stated basic p (Prepare v (Holds b) just)) →
        digest_of just ≡ parent → Has p.setup.version (IsString w) parent (Holds b) → Leads p w parent root below → IsCast p w good legal voted l (filled below) b
    proposed-cast l v just b parent below correct own e has leads =
        let s = signed-stated hotstuff p (States p) refl (passes-on p) w reached l (stated basic p (Prepare v (Holds b) just)) correct own in
        let mine = own-proposal p s.msg.body v (node_digest p v (Holds b) just) s.states in
        let at = made-at hotstuff p l s.item (w l) (legal.made l) s.taken in
        let sent = subst (λ (z : Body). In {A = To × Message} (s.to, signed z s.msg.sig) s.item.made.sends) mine.is s.sent in
        let t = proposal-why p w good legal voted l s.item at.before s.to v mine.what mine.just s.msg.sig (part l s.item at.before at.front) sent in
        let one : hash p.setup.version (digest_of t.turn.just) t.turn.what ≡ hash p.setup.version parent (Holds b) =
        ap (λ (c : Certificate). hash p.setup.version (digest_of c) t.turn.what) t.just_is ∙ ap (λ (c : Content). hash p.setup.version (digest_of mine.just) c) t.what_is ∙ mine.digest_is ∙ ap (λ (z : List ℕ). hash p.setup.version z (Holds b)) e in
        let same = same-node p w (acc p w) good facts sep (digest_of t.turn.just) parent t.turn.what (Holds b) t.has has one in
        let c = t.ok.batch b same.1 in
        let paths = same-branch p w (acc p w) good facts sep parent c.below below (subst (λ (z : List ℕ). Leads p w z root c.below) same.0 c.leads) leads in
        let at_place : c.place ≡ filled below = sym c.full ∙ ap filled paths in
        let held : Holds c.batch ≡ Holds b = sym c.holds ∙ same.1 in
        let batches : c.batch ≡ b = cc in
        subst (λ (n : ℕ). IsCast p w good legal voted l n b) at_place (subst (λ (z : Batch). IsCast p w good legal voted l c.place z) batches c.cast)

    pub from-leader : AreFromLeader p w
    from-leader i s b correct h =
        let r = rests i s b h in
        let a = r.accepted in
        let k = some p w (acc p w) good facts 1 a.view (hash p.setup.version a.parent (Holds b)) a.certified in
        let t = leads-first k.0 a.view (hash p.setup.version a.parent (Holds b)) k.2 b a.parent a.has refl in
        let g = proposed-cast p.leader.0 t.view t.just b a.parent a.below correct (t.signed correct) t.parent_is a.has a.leads in
        acc-at p.leader.0 r.place s b r.slot (subst (λ (n : ℕ). acc p w p.leader.0 n b) (sym a.place) g.accepted)

pub hotstuff-safe : IsSafe hotstuff
hotstuff-safe p w good reached sep = record {
  agreement = λ i j s x y ci cj h g. agreed p w good reached sep i j s x y h g;
  shared = λ i j s t b c ci cj h g. shared p w good reached sep i j s t b c h g;
  integrity = λ i s b cl ci h. from-leader p w good reached sep i s b cl h;
}
