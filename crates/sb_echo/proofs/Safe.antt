-- Legal histories are a Sequenced Broadcast: a quorum of echoes decides, two quorums share a correct node, and this
-- accepted one batch for a slot.
use Rattle.std.proofs.Common.{◌≡◌, ◌≤◌, ℕ, Bool, true, List, Some, refl, sym, ap, ◌∙◌, subst, inl, inr, arith}
use Rattle.std.proofs.lemmas.Bool.{leb-true}
use Rattle.iss_base.specs.Lists.{In}
use Rattle.iss_base.specs.Quorum.{count_below}
use Rattle.iss_request.specs.declared.ids.NodeId.{NodeId}
use Rattle.iss_request.specs.declared.ids.Slot.{Slot}
use Rattle.iss_request.specs.declared.requests.Batch.{Batch}
use Rattle.iss_request.specs.declared.requests.Value.{Value}
use Rattle.iss_request.specs.declared.requests.Value.TheVariants.{Batch as Value_batch}
use Rattle.iss_sb.specs.declared.effects.Input.{Input}
use Rattle.iss_sb.specs.declared.effects.Input.TheVariants.{Cast, Receive}
use Rattle.iss_sb.specs.declared.effects.Params.{Params}
use Rattle.iss_sb.specs.Calls.{IsGoodParams}
use Rattle.iss_sb.specs.Evidence.{Item, World, IsCredible, IsReadBatch, IsSigned, IsString, MayCome, Separate, Verifies, accepts, delivered, is_correct}
use Rattle.iss_sb.specs.Laws.{AcceptsOnce, IsBroadcast, IsSafe, SharedAcceptor}
use Rattle.iss_sb.specs.Legal.{IsLegal}
use Rattle.iss_sb.proofs.Delivered.{delivered-decided}
use Rattle.iss_sb.proofs.Legal.{once-made, safe-legal}
use Rattle.iss_sb.proofs.Quorums.{Meets, few-faulty, meets}
use Rattle.sb_echo.specs.declared.word.Word.{Word}
use Rattle.sb_echo.specs.declared.word.Word.TheVariants.{Say, Echo as Echo_word}
use Rattle.iss_sb.proofs.Statements.{statement-same}
use Rattle.iss_sb.specs.Statements.{claim}
use Rattle.sb_echo.specs.Echo.{digest_of, echo, has_echo, statement, string_of, tag}
use Rattle.sb_echo.proofs.Bytes.{one-batch}
use Rattle.sb_echo.proofs.Facts.{IsTold, accepted-cause, decided-is, decided-stays, has_echo-is, once, sent-for, taken-accepted}
use Rattle.sb_echo.proofs.Spelling.{say-read}

-- node k accepted a batch of this digest at the slot
record Took (p : Params) (w : World Word) (k s : ℕ) (d : List ℕ) : Type 0 where
  pub batch : Batch
  pub stands : In {A = Slot × Batch} (record { 0 = s }, batch) (accepts (w k))
  pub is : digest_of p batch ≡ d

-- what a delivered value follows from
record Rests (p : Params) (w : World Word) (i s : ℕ) (v : Value) : Type 0 where
  pub batch : Batch
  pub value : v ≡ Value_batch batch
  pub stands : In {A = Slot × Batch} (record { 0 = s }, batch) (accepts (w i))
  pub enough : p.setup.quorum ≤ count_below (λ k. has_echo s (digest_of p batch) k (w i)) p.setup.n

module _ (p : Params) (w : World Word) (legal : IsLegal echo p w) where
  -- a correct node that signed a slot and a digest accepted a batch of this digest there
  signed-took : (k kind s : ℕ) (d : List ℕ) → IsSigned echo p w k (statement p kind s d) → Took p w k s d
  signed-took k kind s d h =
      let r = sent-for p k (w k) h.item h.to h.msg (legal.made k) h.taken h.sent in
      let same = statement-same 7 p tag r.kind kind r.accepted.0.0 s (digest_of p r.accepted.1) d (sym (r.states h.claim h.made) ∙ h.is) in
      subst (λ (t : ℕ). Took p w k t d) same.number (record { batch = r.accepted.1; stands = r.stands; is = same.behind })

  -- what a node received
  came-signed : (i : ℕ) (x : Item Word) (from : NodeId) (msg : Word) → In x (w i) → x.input ≡ Receive from msg →
      IsCredible echo p (Verifies p) (IsSigned echo p w) from.0 msg
  came-signed i x from msg h q = subst (λ (y : Input Word). MayCome echo p w i y) q (legal.came i x h)

  came-cast : (i : ℕ) (x : Item Word) (a : Slot × Batch) → In x (w i) → x.input ≡ Cast a.0 a.1 → IsReadBatch p a.1
  came-cast i x a h q = let c : MayCome echo p w i (Cast a.0 a.1) = subst (λ (y : Input Word). MayCome echo p w i y) q (legal.came i x h) in c.1

  echo-took : (i s : ℕ) (d : List ℕ) (k : ℕ) → has_echo s d k (w i) ≡ true → is_correct p.setup k ≡ true →
      Took p w k s d
  echo-took i s d k h correct =
      let r = has_echo-is s d k (w i) h in
      let e = r.2 in
      let c = came-signed i r.0 e.from (Echo_word e.slot d e.sig) r.1 e.input in
      let by : e.from.0 ≡ k = e.by in
      let at_slot : e.slot.0 ≡ s = e.at_slot in
      let signed : IsSigned echo p w e.from.0 (statement p 2 e.slot.0 d) =
      c.signed (claim e.from.0 (statement p 2 e.slot.0 d) e.sig) (inl refl) (ap (λ (z : ℕ). is_correct p.setup z) by ∙ correct) in
      subst (λ (z : ℕ). Took p w z s d) by (subst (λ (z : ℕ). Took p w e.from.0 z d) at_slot (signed-took e.from.0 2 e.slot.0 d signed))

  told-took : (i : ℕ) (x : Item Word) (a : Slot × Batch) → In x (w i) → IsTold p x.input a →
      is_correct p.setup p.leader.0 ≡ true → Took p w p.leader.0 a.0.0 (digest_of p a.1)
  told-took i x a h t correct =
      let c = came-signed i x p.leader (Say a.0 a.1 t.sig) h t.input in
      signed-took p.leader.0 1 a.0.0 (digest_of p a.1) (c.signed (claim p.leader.0 (statement p 1 a.0.0 (digest_of p a.1)) t.sig) (inl refl) correct)

  -- an accepted batch has an encoding: it was cast so, or decoded
  accepted-read : (i : ℕ) (a : Slot × Batch) → In a (accepts (w i)) → IsReadBatch p a.1
  accepted-read i a h =
      let r = accepted-cause p i (w i) a (legal.made i) h in
      elim r.cause [
        | inl own ↦ came-cast i r.item a r.stands own.input
        | inr told ↦ say-read p.setup.version a.0 a.1 told.sig (came-signed i r.item p.leader (Say a.0 a.1 told.sig) r.stands told.input).read
      ]

  a-string : (i : ℕ) (a : Slot × Batch) → In a (accepts (w i)) → IsString w (string_of p a.1)
  a-string i a h =
      let r = accepted-cause p i (w i) a (legal.made i) h in
      inr (record { node = i; item = r.item; taken = r.stands; hashed = r.hashed })

  one : (i : ℕ) (s : Slot) (b c : Batch) → In {A = Slot × Batch} (s, b) (accepts (w i)) →
      In {A = Slot × Batch} (s, c) (accepts (w i)) → b ≡ c
  one i s b c h k = once p i (w i) s b c (legal.made i) h k

  module _ (sep : Separate (IsString w)) where
    -- accepted batches of one slot with one digest are equal
    same-batch : (i j : ℕ) (s : Slot) (b c : Batch) → In {A = Slot × Batch} (s, b) (accepts (w i)) →
        In {A = Slot × Batch} (s, c) (accepts (w j)) → digest_of p b ≡ digest_of p c → b ≡ c
    same-batch i j s b c h k e = one-batch p b c (accepted-read i (s, b) h) (sep (string_of p b) (string_of p c) (a-string i (s, b) h) (a-string j (s, c) k) e)

    -- if a node accepted a batch with the digest of a batch that another accepted, they are equal
    took-is : (k i s : ℕ) (b : Batch) → Took p w k s (digest_of p b) →
        In {A = Slot × Batch} (record { 0 = s }, b) (accepts (w i)) →
        In {A = Slot × Batch} (record { 0 = s }, b) (accepts (w k))
    took-is k i s b t h =
        let same = same-batch k i (record { 0 = s }) t.batch b t.stands h t.is in
        subst (λ (z : Batch). In {A = Slot × Batch} (record { 0 = s }, z) (accepts (w k))) same t.stands

    rests : (i s : ℕ) (v : Value) → delivered echo p i (w i) s ≡ Some v → Rests p w i s v
    rests i s v h =
        let d = decided-is p i (w i) s v (sym (delivered-decided echo p i (λ s. refl) (decided-stays p i) (w i) s) ∙ h) in
        record { batch = d.batch; value = d.value; stands = taken-accepted (w i) s d.batch d.taken; enough = leb-true _ _ d.echoed }

    module _ (good : IsGoodParams echo p) where
      both-echoed : (t u : ℕ → Bool) → p.setup.quorum ≤ count_below t p.setup.n →
          p.setup.quorum ≤ count_below u p.setup.n → Meets p t u
      both-echoed t u tq uq = let nodes = good.nodes in let majority = good.majority in meets p p.setup.f t u (few-faulty echo p good refl) (omega arith) tq uq

      agree : (i j s : ℕ) (x y : Value) → Rests p w i s x → Rests p w j s y → x ≡ y
      agree i j s x y a b =
          let m = both-echoed (λ k. has_echo s (digest_of p a.batch) k (w i)) (λ k. has_echo s (digest_of p b.batch) k (w j)) a.enough b.enough in
          let t = echo-took i s (digest_of p a.batch) m.node m.first m.correct in
          let u = echo-took j s (digest_of p b.batch) m.node m.second m.correct in
          let both = one m.node (record { 0 = s }) t.batch u.batch t.stands u.stands in
          let same = same-batch i j (record { 0 = s }) a.batch b.batch a.stands b.stands (sym t.is ∙ ap (digest_of p) both ∙ u.is) in
          a.value ∙ ap (λ (z : Batch). Value_batch z) same ∙ sym b.value

      share : (i j : ℕ) (s t : Slot) (b c : Batch) → In {A = Slot × Batch} (s, b) (accepts (w i)) →
          In {A = Slot × Batch} (t, c) (accepts (w j)) →
          p.setup.quorum ≤ count_below (λ k. has_echo s.0 (digest_of p b) k (w i)) p.setup.n → p.setup.quorum ≤ count_below (λ k. has_echo t.0 (digest_of p c) k (w j)) p.setup.n → SharedAcceptor p w s b t c
      share i j s t b c h k hq kq =
          let m = both-echoed (λ k. has_echo s.0 (digest_of p b) k (w i)) (λ k. has_echo t.0 (digest_of p c) k (w j)) hq kq in
          record {
            node = m.node;
            correct = m.correct;
            first = took-is m.node i s.0 b (echo-took i s.0 (digest_of p b) m.node m.first m.correct) h;
            second = took-is m.node j t.0 c (echo-took j t.0 (digest_of p c) m.node m.second m.correct) k;
          }

      -- a correct leader accepted what its segment delivers
      owned : (i : ℕ) (s : Slot) (b : Batch) → is_correct p.setup p.leader.0 ≡ true →
          In {A = Slot × Batch} (s, b) (accepts (w i)) → In {A = Slot × Batch} (s, b) (accepts (w p.leader.0))
      owned i s b correct h =
          let r = accepted-cause p i (w i) (s, b) (legal.made i) h in
          elim r.cause [
            | inl own ↦ subst (λ (z : ℕ). In {A = Slot × Batch} (s, b) (accepts (w z))) own.leads h
            | inr told ↦ took-is p.leader.0 i s.0 b (told-took i r.item (s, b) r.stands told correct) h
          ]

      holds-is : (b c : Batch) → Value_batch b ≡ Value_batch c → b ≡ c
      holds-is b c e = cc

      -- a delivered batch
      record Lies (i : ℕ) (s : Slot) (b : Batch) : Type 0 where
        pub stands : In {A = Slot × Batch} (s, b) (accepts (w i))
        pub enough : p.setup.quorum ≤ count_below (λ k. has_echo s.0 (digest_of p b) k (w i)) p.setup.n

      lies : (i : ℕ) (s : Slot) (b : Batch) → delivered echo p i (w i) s.0 ≡ Some (Value_batch b) → Lies i s b
      lies i s b d =
          let r = rests i s.0 (Value_batch b) d in
          subst (λ (z : Batch). Lies i s z) (sym (holds-is b r.batch r.value)) (record { stands = r.stands; enough = r.enough })

      is-broadcast : IsBroadcast echo p w
      is-broadcast = record {
        agreement = λ i j s x y _ _ d e. agree i j s x y (rests i s x d) (rests j s y e);
        shared = λ i j s t b c _ _ d e. let a = lies i s b d in let u = lies j t c e in share i j s t b c a.stands u.stands a.enough u.enough;
        integrity = λ i s b correct _ d. owned i s b correct (lies i s b d).stands;
      }

pub echo-safe : IsSafe echo
echo-safe = safe-legal echo (λ p w good legal sep. is-broadcast p w legal sep good)

pub echo-accepts-once : AcceptsOnce echo
echo-accepts-once = once-made echo (λ p me xs good made s b c. once p me xs s b c made)
