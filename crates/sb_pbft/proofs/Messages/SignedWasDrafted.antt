-- Each statement that a correct replica signed is that of a message it sent, of a known kind.
use Rattle.std.proofs.Common.{◌≡◌, ◌∷◌, ◌∙◌, ℕ, true, List, [], refl, sym, ap, subst, inl, inr, arith}
use Rattle.iss_base.specs.Lists.{In}
use Rattle.iss_base.proofs.Lists.{in_left, in_right}
use Rattle.iss_request.specs.declared.ids.Slot.{Slot}
use Rattle.iss_request.specs.declared.requests.Value.{Value}
use Rattle.iss_sb.specs.Calls.{IsGoodParams}
use Rattle.iss_sb.specs.Evidence.{IsReached, IsSigned, Item, Made, World, is_correct}
use Rattle.iss_sb.specs.Legal.{Front}
use Rattle.iss_sb.specs.declared.effects.Params.{Params}
use Rattle.iss_sb.specs.declared.effects.To.{To}
use Rattle.iss_sb.proofs.Legal.{legal-reached, made-at}
use Rattle.iss_sb.proofs.Slots.{slot-is}
use Rattle.iss_sb.proofs.Statements.{statement-same}
use Rattle.pbft_wire.specs.Statements.{digest_of, state_at, state_change, statement, tag}
use Rattle.pbft_wire.specs.declared.messages.Certificate.{Certificate}
use Rattle.pbft_wire.specs.declared.messages.Change.{Change}
use Rattle.pbft_wire.specs.declared.messages.Message.{Message}
use Rattle.pbft_views.specs.Choice.{choice}
use Rattle.pbft_views.proofs.Statements.{HasMark, at-same, change-same}
use Rattle.sb_pbft.specs.Makes.{Draft, DraftCommit, DraftNewView, DraftPrePrepare, DraftPrepare, DraftViewChange, drafts, makes, sign}
use Rattle.sb_pbft.specs.Pbft.{pbft}
use Rattle.sb_pbft.proofs.Messages.OwnClaimsWereSent.{States, stated}
use Rattle.sb_pbft.proofs.History.OnePrepareAView.{Rule, SameDraft, drafted, rule-of, signed-draft}

pub drafted-in : (p : Params) (me : ℕ) (xs before : List (Item Message)) (x : Item Message) (d : Draft) →
    Front (x ∷ before) xs → In d (drafts p me before x.input) → In d (drafted p me xs)
drafted-in p me [] before x d f h = absurd (cc)
drafted-in p me (y ∷ ys) before x d (inl q) h =
    let hd : x ≡ y = cc in
    let tl : before ≡ ys = cc in
    in_left d (drafts p me ys y.input) (drafted p me ys) (subst (λ (z : Item Message). In d (drafts p me ys z.input)) hd (subst (λ (z : List (Item Message)). In d (drafts p me z x.input)) tl h))
drafted-in p me (y ∷ ys) before x d (inr f) h = in_right d (drafts p me ys y.input) (drafted p me ys) (drafted-in p me ys before x d f h)

-- ---- kinds of drafts, by the statement that they make

module _ (p : Params) (me leaf : ℕ) where
  abbrev Makes : Draft → List ℕ → Type 0
  Makes d t = States p me (sign p me leaf d) t

  other-kind : (k l v u : ℕ) (f g : List ℕ) → statement p k v f ≡ statement p l u g → k ≡ l
  other-kind k l v u f g h = (statement-same 1 p tag k l v u f g h).kind

  prepare-is : (u v s : ℕ) (t : Slot) (d e : List ℕ) → state_at p 2 v s d ≡ state_at p 2 u t.0 e →
      SameDraft (DraftPrepare u t e) (DraftPrepare v (record { 0 = s }) d)
  prepare-is u v s t d e h =
      let r = at-same p 2 2 v u s t.0 d e h in
      ap (λ (z : ℕ). DraftPrepare z t e) (sym r.view) ∙ ap (λ (z : Slot). DraftPrepare v z e) (slot-is t (record { 0 = s }) (sym r.slot)) ∙ ap (λ (z : List ℕ). DraftPrepare v (record { 0 = s }) z) (sym r.digest)

  pub makes-prepare : (d : Draft) (v s : ℕ) (e : List ℕ) → Makes d (state_at p 2 v s e) →
      SameDraft d (DraftPrepare v (record { 0 = s }) e)
  makes-prepare (DraftPrePrepare t x) v s e h = let k = other-kind 2 1 v 0 _ _ h in absurd (omega (arith, k))
  makes-prepare (DraftPrepare u t g) v s e h = prepare-is u v s t e g h
  makes-prepare (DraftCommit u t g) v s e h = let k = other-kind 2 3 v u _ _ h in absurd (omega (arith, k))
  makes-prepare (DraftViewChange u cs) v s e h = let k = other-kind 2 4 v u _ _ h in absurd (omega (arith, k))
  makes-prepare (DraftNewView u ys) v s e (inl h) = let k = other-kind 2 1 v u _ _ h.2 in absurd (omega (arith, k))
  makes-prepare (DraftNewView u ys) v s e (inr h) = let k = other-kind 2 5 v u _ _ h in absurd (omega (arith, k))

  commit-is : (u v s : ℕ) (t : Slot) (d e : List ℕ) → state_at p 3 v s d ≡ state_at p 3 u t.0 e →
      SameDraft (DraftCommit u t e) (DraftCommit v (record { 0 = s }) d)
  commit-is u v s t d e h =
      let r = at-same p 3 3 v u s t.0 d e h in
      ap (λ (z : ℕ). DraftCommit z t e) (sym r.view) ∙ ap (λ (z : Slot). DraftCommit v z e) (slot-is t (record { 0 = s }) (sym r.slot)) ∙ ap (λ (z : List ℕ). DraftCommit v (record { 0 = s }) z) (sym r.digest)

  pub makes-commit : (d : Draft) (v s : ℕ) (e : List ℕ) → Makes d (state_at p 3 v s e) →
      SameDraft d (DraftCommit v (record { 0 = s }) e)
  makes-commit (DraftPrePrepare t x) v s e h = let k = other-kind 3 1 v 0 _ _ h in absurd (omega (arith, k))
  makes-commit (DraftPrepare u t g) v s e h = let k = other-kind 3 2 v u _ _ h in absurd (omega (arith, k))
  makes-commit (DraftCommit u t g) v s e h = commit-is u v s t e g h
  makes-commit (DraftViewChange u cs) v s e h = let k = other-kind 3 4 v u _ _ h in absurd (omega (arith, k))
  makes-commit (DraftNewView u ys) v s e (inl h) = let k = other-kind 3 1 v u _ _ h.2 in absurd (omega (arith, k))
  makes-commit (DraftNewView u ys) v s e (inr h) = let k = other-kind 3 5 v u _ _ h in absurd (omega (arith, k))

  -- a ViewChange for that view, whose certificates have these slots, views and digests
  pub record MakesChange (d : Draft) (v : ℕ) (cs : List Certificate) : Type 0 where
    pub certificates : List Certificate
    pub is : SameDraft d (DraftViewChange v certificates)
    pub each : (c : Certificate) → In c certificates → HasMark p c cs

  pub makes-change : (d : Draft) (v : ℕ) (cs : List Certificate) → Makes d (state_change p v cs) → MakesChange d v cs
  makes-change (DraftPrePrepare t x) v cs h = let k = other-kind 4 1 v 0 _ _ h in absurd (omega (arith, k))
  makes-change (DraftPrepare u t g) v cs h = let k = other-kind 4 2 v u _ _ h in absurd (omega (arith, k))
  makes-change (DraftCommit u t g) v cs h = let k = other-kind 4 3 v u _ _ h in absurd (omega (arith, k))
  makes-change (DraftViewChange u ds) v cs h =
      let r = change-same p u v ds cs (sym h) in
      record { certificates = ds; is = ap (λ (z : ℕ). DraftViewChange z ds) r.view; each = r.each }
  makes-change (DraftNewView u ys) v cs (inl h) = let k = other-kind 4 1 v u _ _ h.2 in absurd (omega (arith, k))
  makes-change (DraftNewView u ys) v cs (inr h) = let k = other-kind 4 5 v u _ _ h in absurd (omega (arith, k))

  -- a PrePrepare of view 0, or one for a choice in a NewView
  pub data MakesProposal (d : Draft) (v s : ℕ) (e : List ℕ) : Type 0 where
    at_first : (t : Slot) (x : Value) → SameDraft d (DraftPrePrepare t x) → v ≡ 0 → t.0 ≡ s → digest_of p x ≡ e →
        MakesProposal d v s e
    at_new : (ys : List Change) (t : Slot) → SameDraft d (DraftNewView v ys) → In t p.slots → t.0 ≡ s →
        digest_of p (choice ys s) ≡ e → MakesProposal d v s e

  pub makes-proposal : (d : Draft) (v s : ℕ) (e : List ℕ) → Makes d (state_at p 1 v s e) → MakesProposal d v s e
  makes-proposal (DraftPrePrepare t x) v s e h = let r = at-same p 1 1 v 0 s t.0 e (digest_of p x) h in at_first t x refl r.view (sym r.slot) (sym r.digest)
  makes-proposal (DraftPrepare u t g) v s e h = let k = other-kind 1 2 v u _ _ h in absurd (omega (arith, k))
  makes-proposal (DraftCommit u t g) v s e h = let k = other-kind 1 3 v u _ _ h in absurd (omega (arith, k))
  makes-proposal (DraftViewChange u cs) v s e h = let k = other-kind 1 4 v u _ _ h in absurd (omega (arith, k))
  makes-proposal (DraftNewView u ys) v s e (inl h) =
      let r = at-same p 1 1 v u s h.0.0 e (digest_of p (choice ys h.0.0)) h.2 in
      at_new ys h.0 (ap (λ (z : ℕ). DraftNewView z ys) (sym r.view)) h.1 (sym r.slot) (ap (λ (z : ℕ). digest_of p (choice ys z)) r.slot ∙ sym r.digest)
  makes-proposal (DraftNewView u ys) v s e (inr h) = let k = other-kind 1 5 v u _ _ h in absurd (omega (arith, k))

-- ---- what was signed was sent

module _ (p : Params) (good : IsGoodParams pbft p) (w : World Message) (reached : IsReached pbft p w) where
  pub record IsDraftedBy (i : ℕ) (t : List ℕ) : Type 0 where
    pub item : Item Message
    pub before : List (Item Message)
    pub front : Front (item ∷ before) (w i)
    pub taken : In item (w i)
    pub made : item.made ≡ makes p i before item.input item.leaf
    pub draft : Draft
    pub leaf : ℕ
    pub stands : In draft (drafts p i before item.input)
    pub states : States p i (sign p i leaf draft) t

  pub signed-drafted : (i : ℕ) (t : List ℕ) → is_correct p.setup i ≡ true → IsSigned pbft p w i t → IsDraftedBy i t
  signed-drafted i t correct h =
      let s = stated p good w reached i t correct h in
      let m = made-at pbft p i s.item (w i) ((legal-reached pbft p w reached).made i) s.taken in
      let sends = subst (λ (z : Made Message). In {A = To × Message} (s.to, s.msg) z.sends) m.made s.sent in
      let d = signed-draft p i s.item.leaf (drafts p i m.before s.item.input) s.to s.msg sends in
      record {
        item = s.item;
        before = m.before;
        front = m.front;
        taken = s.taken;
        made = m.made;
        draft = d.draft;
        leaf = d.leaf;
        stands = d.stands;
        states = subst (λ (z : Message). States p i z t) d.is s.states;
      }

  -- among all messages of the replica
  pub among : (i : ℕ) (t : List ℕ) (d : IsDraftedBy i t) (e : Draft) → SameDraft d.draft e → In e (drafted p i (w i))
  among i t d e same = drafted-in p i (w i) d.before d.item e d.front (subst (λ (z : Draft). In z (drafts p i d.before d.item.input)) same d.stands)

  pub by-rule : (i : ℕ) (t : List ℕ) (d : IsDraftedBy i t) (e : Draft) → SameDraft d.draft e →
      Rule p i d.before d.item.input e
  by-rule i t d e same = rule-of p i d.before d.item.input e (subst (λ (z : Draft). In z (drafts p i d.before d.item.input)) same d.stands)
