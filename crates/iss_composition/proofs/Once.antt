-- No request occurs twice in the log of a correct node, and each batch in it was accepted.
use Rattle.std.proofs.Common.{◌≡◌, inl, inr, ℕ, suc, ◌≤◌, ◌<◌, true, List, [], ◌∷◌, ◌++◌, length, Some, None, sym, ◌∙◌, subst, arith, append_assoc}
use Rattle.std.proofs.lemmas.Bool.Decides.{leb_tells}
use Rattle.iss_base.specs.Lists.{Extends, In, oldest}
use Rattle.iss_base.proofs.Lists.{different-append, extends-cons, extends-length, extends-refl, in_append, in_left, oldest-holds}
use Rattle.iss_request.specs.Log.{Once, ids, log_ids}
use Rattle.iss_request.specs.declared.ids.ReqId.{ReqId}
use Rattle.iss_request.specs.declared.ids.Slot.{Slot}
use Rattle.iss_request.specs.declared.requests.Batch.{Batch}
use Rattle.iss_request.specs.declared.requests.Value.{Value}
use Rattle.iss_request.specs.declared.requests.Value.TheVariants.{Nil as Value_nil, Batch as Value_batch}
use Rattle.iss_request.specs.declared.setups.Setup.{Setup}
use Rattle.iss_sb.specs.Evidence.{Module, Separate, accepts, delivered, is_correct}
use Rattle.iss_sb.specs.Laws.{IsSafe, SharedAcceptor}
use Rattle.iss_composition.specs.Cluster.{Backed, Cluster, IsTrueLog, Scheme, world_of}
use Rattle.iss_rules.specs.Judge.{judge, marks}
use Rattle.iss_rules.proofs.Judged.{Judged, Accepted, accepted, entry-judged, one-slot, owner-of, unordered-of}
use Rattle.iss_rules.specs.SoundRules.{IsSoundRules}
use Rattle.iss_composition.specs.Ordered.{Among}
use Rattle.iss_rules.specs.Past.{before, before_at, epoch_at, leader_at, params_at, start_of}
use Rattle.iss_rules.specs.Rules.{Rules}
use Rattle.iss_composition.proofs.Agree.{before-true, in-world, placed, right, world-at}
use Rattle.iss_rules.proofs.Epochs.{before-same, epoch-below, epoch-low, epoch-mono}
use Rattle.iss_composition.proofs.Good.{Good}
use Rattle.iss_rules.proofs.Ids.{log_ids-extends}

-- an identity that a log holds before an epoch
pub in-before : (n : ℕ) (a b : List Value) (z : ReqId) → Extends a b → length a ≤ n → In z (log_ids a) → In z (log_ids (oldest n b))
in-before n a b z x h i =
    let y : Extends a (oldest n b) = rw x.1 (oldest-holds n x.0 a h) in
    rw y.1 (log_ids-extends z y.0 a i)

module _ {Msg : Type 0} (s : Setup) (S : Scheme) (R : Rules) (M : Module Msg) (safe : IsSafe M) (sound : IsSoundRules s M R) (w : Cluster Msg)
    (sep : Separate (Among w.strings)) (g : Good s R M w S) where
  abbrev at : List Value → Slot
  at older = record { 0 = length older }

  -- a value of a true log
  pub record Stands (older : List Value) (v : Value) : Type 0 where
    pub log : IsTrueLog s R M w.pasts older
    pub is : Backed s R M w.pasts older v

  -- a node accepted the batches of two slots
  pub record Taken (older : List Value) (m n : Slot) (b c : Batch) : Type 0 where
    pub node : ℕ
    pub correct : is_correct s node ≡ true
    pub begun : epoch_at R older ≤ (w.pasts node).epoch
    pub start : before R M node (w.pasts node) (epoch_at R older) ≡ before_at R older
    pub judged : Judged R (before_at R older) (epoch_at R older) (leader_at R older) (accepts ((w.pasts node).evidence (epoch_at R older) (leader_at R older)))
    pub first : In {A = Slot × Batch} (m, b) (accepts ((w.pasts node).evidence (epoch_at R older) (leader_at R older)))
    pub second : In {A = Slot × Batch} (n, c) (accepts ((w.pasts node).evidence (epoch_at R older) (leader_at R older)))

  -- a node that is correct for an instance is correct for the cluster
  left_over : (older : List Value) (i : ℕ) → is_correct (params_at R older).setup i ≡ true → is_correct s i ≡ true
  left_over older i ok = subst (λ (t : Setup). is_correct t i ≡ true) (sound.setup (before_at R older) (epoch_at R older) (leader_at R older)) ok

  pub taken : (older : List Value) (b : Batch) → Stands older (Value_batch b) → (j : ℕ) (n : Slot) (c : Batch) → is_correct s j ≡ true →
      delivered M (params_at R older) j ((w.pasts j).evidence (epoch_at R older) (leader_at R older)) n.0 ≡ Some (Value_batch c) → Taken older (at older) n b c
  taken older b st j n c okj h =
      let e = epoch_at R older in
      let l = leader_at R older in
      let i = st.is.node in
      let db = in-world s S R M safe sound w sep g older i st.is.correct (length older) (Value_batch b) st.is.is in
      let dc = in-world s S R M safe sound w sep g older j okj n.0 (Value_batch c) h in
      let sh : SharedAcceptor (params_at R older) (world_of s w.pasts e l) (at older) b n c =
      (placed s S R M safe sound w sep g older (Value_batch b) st.is).shared i j (at older) n b c (right s S R M safe sound w sep g older i st.is.correct)
      (right s S R M safe sound w sep g older j okj) db dc in
      let ok : is_correct s sh.node ≡ true = left_over older sh.node sh.correct in
      let first : In {A = Slot × Batch} (at older, b) (accepts ((w.pasts sh.node).evidence e l)) = rw (world-at s w e l sh.node ok) at sh.first in
      let second : In {A = Slot × Batch} (n, c) (accepts ((w.pasts sh.node).evidence e l)) = rw (world-at s w e l sh.node ok) at sh.second in
      let ek : e ≤ (w.pasts sh.node).epoch =
      elim (leb_tells e (w.pasts sh.node).epoch) [ inl q ↦ q.1 | inr q ↦ absurd (rw (g.unborn sh.node e l ok q.1) at first) ] in
      let start : before R M sh.node (w.pasts sh.node) e ≡ before_at R older =
      before-true s S R M safe sound w sep g sh.node ok e ek older st.log (epoch-low R older) in
      record { node = sh.node; correct = ok; begun = ek; start = start; judged = rw start at (g.judged sh.node e l ok ek); first = first; second = second }

  -- a correct node accepted the batch of the log, given the log before its epoch
  pub record Valid (older : List Value) (b : Batch) : Type 0 where
    pub node : ℕ
    pub correct : is_correct s node ≡ true
    pub start : before R M node (w.pasts node) (epoch_at R older) ≡ before_at R older
    pub newer : List (Slot × Batch)
    pub earlier : List (Slot × Batch)
    pub held : accepts ((w.pasts node).evidence (epoch_at R older) (leader_at R older)) ≡ newer ++ ((at older, b) ∷ earlier)
    pub judged : judge R (before_at R older) (epoch_at R older) (leader_at R older) (marks earlier) b ≡ None
    pub is : Accepted R (before_at R older) (epoch_at R older) (leader_at R older) (marks earlier) b

  pub valid : (older : List Value) (b : Batch) → Stands older (Value_batch b) → Valid older b
  valid older b st =
      let t : Taken older (at older) (at older) b b = taken older b st st.is.node (at older) b st.is.correct st.is.is in
      let a = entry-judged R (before_at R older) (epoch_at R older) (leader_at R older) _ t.judged (at older, b) t.first in
      record {
        node = t.node;
        correct = t.correct;
        start = t.start;
        newer = a.0;
        earlier = a.1;
        held = a.2;
        judged = a.3;
        is =
            accepted R (before_at R older) (epoch_at R older) (leader_at R older) (marks a.1) b a.3;
      }

  owned : (older : List Value) (b : Batch) → Valid older b → (z : ReqId) → In z (ids b) → R.owner (before_at R older) (epoch_at R older) z ≡ leader_at R older
  owned older b v = owner-of R (before_at R older) (epoch_at R older) (leader_at R older) (marks v.earlier) b v.is

  -- where the log holds an identity
  pub record Found (z : ReqId) (log : List Value) : Type 0 where
    pub older : List Value
    pub batch : Batch
    pub stands : Stands older (Value_batch batch)
    pub within : In z (ids batch)
    pub part : Extends (Value_batch batch ∷ older) log

  pub find : (z : ReqId) (log : List Value) → IsTrueLog s R M w.pasts log → In z (log_ids log) → Found z log
  find z [] h k = absurd k
  find z (Value_nil ∷ older) h k =
      let f : Found z older = find z older h.0 k in
      record { older = f.older; batch = f.batch; stands = f.stands; within = f.within; part = extends-cons _ _ Value_nil f.part }
  find z (Value_batch b ∷ older) h k = elim (in_append z (ids b) (log_ids older) k) [
    | inl a ↦ record { older = older; batch = b; stands = record { log = h.0; is = h.1 }; within = a; part = extends-refl _ }
    | inr a ↦
        let f : Found z older = find z older h.0 a in
        record { older = f.older; batch = f.batch; stands = f.stands; within = f.within; part = extends-cons _ _ (Value_batch b) f.part }
  ]

  -- the value above `low`, in the same epoch, has another batch
  same-epoch : (older low : List Value) (b c : Batch) (z : ReqId) → Stands older (Value_batch b) → Stands low (Value_batch c) → length low < length older →
      Extends low older → epoch_at R low ≡ epoch_at R older → In z (ids b) → In z (ids c) → ⊥
  same-epoch older low b c z st sl lt x ee zb zc =
      let e = epoch_at R older in
      let bf : before_at R low ≡ before_at R older = before-same R sound.some_slots low older x ee in
      let vb : Valid older b = valid older b st in
      let vc : Valid low c = valid low c sl in
      let ob : R.owner (before_at R older) e z ≡ leader_at R older = owned older b vb z zb in
      let oc : R.owner (before_at R low) (epoch_at R low) z ≡ leader_at R low = owned low c vc z zc in
      let oc1 : R.owner (before_at R older) e z ≡ leader_at R low =
      subst (λ (n : ℕ). R.owner (before_at R older) n z ≡ leader_at R low) ee
      (subst (λ (k : List Value). R.owner k (epoch_at R low) z ≡ leader_at R low) bf oc) in
      let ll : leader_at R low ≡ leader_at R older = sym oc1 ∙ ob in
      let j = sl.is.node in
      let P1 : List Value → ℕ → ℕ → Type 0 = λ k n l. delivered M (R.params k n l) j ((w.pasts j).evidence n l) (length low) ≡ Some (Value_batch c) in
      let d0 : P1 (before_at R low) (epoch_at R low) (leader_at R low) = sl.is.is in
      let d1 : P1 (before_at R older) e (leader_at R older) =
      subst (λ (l : ℕ). P1 (before_at R older) e l) ll
      (subst (λ (n : ℕ). P1 (before_at R older) n (leader_at R low)) ee (subst (λ (k : List Value). P1 k (epoch_at R low) (leader_at R low)) bf d0)) in
      let t : Taken older (at older) (at low) b c = taken older b st j (at low) c sl.is.correct d1 in
      one-slot R (before_at R older) e (leader_at R older) _ t.judged (at older, b) (at low, c) t.first t.second (λ q. absurd (omega (arith, q, lt))) z zb zc

  apart : (older : List Value) (b : Batch) → Stands older (Value_batch b) → (z : ReqId) → In z (ids b) → In z (log_ids older) → ⊥
  apart older b st z zb zo =
      let f : Found z older = find z older st.log zo in
      let x : Extends f.older older = (f.part.0 ++ (Value_batch f.batch ∷ []), f.part.1 ∙ sym (append_assoc f.part.0 (Value_batch f.batch ∷ []) f.older)) in
      let len : suc (length f.older) ≤ length older = extends-length (Value_batch f.batch ∷ f.older) older f.part in
      let vb : Valid older b = valid older b st in
      elim (leb_tells (epoch_at R older) (epoch_at R f.older)) [
        | inl t ↦
            let mono : epoch_at R f.older ≤ epoch_at R older = epoch-mono R sound.some_slots f.older older x in
            same-epoch older f.older b f.batch z st f.stands len x (omega (arith, mono, t.1)) zb f.within
        | inr t ↦
            let below : length f.older < start_of R older (epoch_at R older) = epoch-below R sound.some_slots f.older older x t.1 in
            unordered-of R (before_at R older) (epoch_at R older) (leader_at R older) (marks vb.earlier) b vb.is z zb
            (in-before (start_of R older (epoch_at R older)) (Value_batch f.batch ∷ f.older) older z f.part below
            (in_left z (ids f.batch) (log_ids f.older) f.within))
      ]

  pub once : (log : List Value) → IsTrueLog s R M w.pasts log → Once log
  once [] h = tt
  once (Value_nil ∷ older) h = once older h.0
  once (Value_batch b ∷ older) h =
      let st : Stands older (Value_batch b) = record { log = h.0; is = h.1 } in
      different-append (ids b) (log_ids older) (valid older b st).is.different (once older h.0) (apart older b st)
