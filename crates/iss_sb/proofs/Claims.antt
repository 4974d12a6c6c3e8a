-- Claims in a message that were in earlier messages. A node's own claim in a certificate that it passes on could be its
-- own cause in a legal world. This lemma shows once that it never is.
use Rattle.std.proofs.Common.{◌≡◌, ◌⊎◌, ℕ, Bool, true, false, List, sym, subst, ap, ◌∙◌, inl, inr}
use Rattle.iss_base.specs.Lists.{In}
use Rattle.iss_request.specs.declared.ids.NodeId.{NodeId}
use Rattle.iss_sb.specs.declared.effects.Claim.{Claim}
use Rattle.iss_sb.specs.declared.effects.Input.{Input}
use Rattle.iss_sb.specs.declared.effects.Input.TheVariants.{Receive}
use Rattle.iss_sb.specs.declared.effects.Params.{Params}
use Rattle.iss_sb.specs.declared.effects.To.{To}
use Rattle.iss_sb.specs.Evidence.{Item, Module, World, Move, IsCredible, IsReached, IsSigned, MayArrive, MayCome, Verifies, is_correct}
use Rattle.iss_sb.specs.Legal.{IsLegal}
use Rattle.iss_sb.proofs.Legal.{reached-keeps}
use Rattle.iss_sb.proofs.Worlds.{In-added, In-later, added, later-cases}

module _ {M : Type 0} (m : Module M) (p : Params) where
  -- the message of a sender claims that a node signed the statement
  pub record Says (from : ℕ) (msg : M) (by : ℕ) (statement : List ℕ) : Type 0 where
    pub claim : Claim
    pub stands : In claim (m.claims p from msg)
    pub named : claim.by.0 ≡ by
    pub is : claim.statement ≡ statement

  -- a claim that a node passes on: it is in the message that it takes now, or in one that it took or sent before
  pub data IsOld (me : ℕ) (xs : List (Item M)) (input : Input M) (by : ℕ) (statement : List ℕ) : Type 0 where
    now : (from : NodeId) (msg : M) → input ≡ Receive from msg → Says from.0 msg by statement → IsOld me xs input by statement
    before : (x : Item M) → In x xs → (from : NodeId) (msg : M) → x.input ≡ Receive from msg → Says from.0 msg by statement → IsOld me xs input by statement
    own : (x : Item M) → In x xs → (to : To) (msg : M) → In {A = To × M} (to, msg) x.made.sends → Says me msg by statement → IsOld me xs input by statement

  module _ (States : ℕ → M → List ℕ → Type 0) where
    -- a node sent a message that makes the statement
    pub record IsStated (w : World M) (i : ℕ) (statement : List ℕ) : Type 0 where
      pub item : Item M
      pub taken : In item (w i)
      pub to : To
      pub msg : M
      pub sent : In {A = To × M} (to, msg) item.made.sends
      pub states : States i msg statement

    -- each own claim in what a correct node sends is a statement that the message makes, or an old claim
    abbrev pub PassesOn : Type 0
    PassesOn = (w : World M) → IsLegal m p w → (me : ℕ) (input : Input M) (leaf : ℕ) → is_correct p.setup me ≡ true → MayCome m p w me input →
        (to : To) (msg : M) (statement : List ℕ) → In {A = To × M} (to, msg) (m.makes p me (w me) input leaf).sends → Says me msg me statement →
        States me msg statement ⊎ IsOld me (w me) input me statement

    abbrev AreStated : World M → Type 0
    AreStated w = (i : ℕ) (statement : List ℕ) → is_correct p.setup i ≡ true → IsSigned m p w i statement → IsStated w i statement

    -- if a received message claims that a correct node signed, it signed
    said-signed : (w : World M) → m.stopping ≡ false → (i : ℕ) (from : NodeId) (msg : M) (by : ℕ) (statement : List ℕ) → MayCome m p w i (Receive from msg) → Says from.0 msg by statement → is_correct p.setup by ≡ true → IsSigned m p w by statement
    said-signed w byzantine i from msg by statement may s correct =
        let c : IsCredible m p (Verifies p) (IsSigned m p w) from.0 msg = subst (λ (b : Bool). MayArrive b m p w i from.0 msg) byzantine may in
        let signed = c.signed s.claim s.stands (ap (λ (k : ℕ). is_correct p.setup k) s.named ∙ correct) in
        subst (λ (k : ℕ). IsSigned m p w k statement) s.named (subst (λ (t : List ℕ). IsSigned m p w s.claim.by.0 t) s.is signed)

    module _ (byzantine : m.stopping ≡ false) (passes : PassesOn) (w later : World M) (legal : IsLegal m p w) (stated : AreStated w) (move : Move m p w later) where
      keep : (i : ℕ) (statement : List ℕ) → IsStated w i statement → IsStated later i statement
      keep i statement h = record { item = h.item; taken = In-later m p w later move i h.item h.taken; to = h.to; msg = h.msg; sent = h.sent; states = h.states }

      old-signed : (statement : List ℕ) → IsOld move.node (w move.node) move.input move.node statement → IsSigned m p w move.node statement
      old-signed statement (now from msg q s) = said-signed w byzantine move.node from msg move.node statement (subst (λ (y : Input M). MayCome m p w move.node y) q move.may) s move.correct
      old-signed statement (before x k from msg q s) = said-signed w byzantine move.node from msg move.node statement (subst (λ (y : Input M). MayCome m p w move.node y) q (legal.came move.node x k)) s move.correct
      old-signed statement (own x k to msg sent s) = record { item = x; taken = k; to = to; msg = msg; sent = sent; claim = s.claim; made = s.stands; by = s.named; is = s.is }

      fresh : (to : To) (msg : M) (statement : List ℕ) → In {A = To × M} (to, msg) (added m p w later move).made.sends → Says move.node msg move.node statement → IsStated later move.node statement
      fresh to msg statement sent s = elim (passes w legal move.node move.input move.leaf move.correct move.may to msg statement sent s) [
        | inl states ↦ record { item = added m p w later move; taken = In-added m p w later move; to = to; msg = msg; sent = sent; states = states }
        | inr old ↦ keep move.node statement (stated move.node statement move.correct (old-signed statement old))
      ]

      stated-later : AreStated later
      stated-later i statement correct h = elim (later-cases m p w later move i h.item h.taken) [
        | inl k ↦ keep i statement (stated i statement correct (record { item = h.item; taken = k; to = h.to; msg = h.msg; sent = h.sent; claim = h.claim; made = h.made; by = h.by; is = h.is }))
        | inr k ↦
            let sent = subst (λ (z : Item M). In {A = To × M} (h.to, h.msg) z.made.sends) k.1 h.sent in
            let said : Says i h.msg i statement = record { claim = h.claim; stands = h.made; named = h.by; is = h.is } in
            subst (λ (z : ℕ). IsStated later z statement) (sym k.0) (fresh h.to h.msg statement sent (subst (λ (z : ℕ). Says z h.msg z statement) k.0 said))
      ]

    -- what a correct node signed, it sent in a message that makes the statement
    pub signed-stated : m.stopping ≡ false → PassesOn → (w : World M) → IsReached m p w → (i : ℕ) (statement : List ℕ) → is_correct p.setup i ≡ true → IsSigned m p w i statement → IsStated w i statement
    signed-stated byzantine passes = reached-keeps m p AreStated (λ i statement correct h. absurd h.taken) (λ w later legal stated move. stated-later byzantine passes w later legal stated move)
