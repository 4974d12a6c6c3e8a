-- What stays true of a cluster as its nodes continue.
use Rattle.std.proofs.Common.{◌≡◌, ℕ, ◌≤◌, ◌<◌, Bool, true, false, cond, List, [], length, Some, refl, ◌∙◌, le_trans, lt_of_lt_of_le}
use mathlib.Core.Path.{fun_ext}
use Rattle.iss_base.specs.Lists.{In}
use Rattle.iss_base.proofs.Lists.{chain-map, extends-length, in_right}
use Rattle.iss_request.specs.declared.requests.Value.{Value}
use Rattle.iss_request.specs.declared.setups.Setup.{Setup}
use Rattle.iss_sb.specs.Evidence.{IsSent, Item, Module, is_correct}
use Rattle.iss_rules.specs.Books.{Signed}
use Rattle.iss_composition.specs.Cluster.{Backed, Cluster, IsTrueLog, Scheme, world_of}
use Rattle.iss_rules.specs.Past.{adopted_at, before, epoch_at, leader_at, log_of, params_at, start_of}
use Rattle.iss_rules.specs.Rules.{Rules}
use Rattle.iss_rules.proofs.Epochs.{start-extends, start-mono}
use Rattle.iss_composition.proofs.Good.{Good, IsClaimed, IsTrue, Voted}
use Rattle.iss_rules.proofs.Logs.{Later, Settled, before-later, delivered-later, evidence-later, log-later}

-- worlds with the same histories are the same
pub world-same : {Msg : Type 0} (s : Setup) (v w : Cluster Msg) (e l : ℕ) →
    ((j : ℕ) → is_correct s j ≡ true → (w.pasts j).evidence e l ≡ (v.pasts j).evidence e l) → world_of s w.pasts e l ≡ world_of s v.pasts e l
world-same s v w e l h = fun_ext (λ j. go j (is_correct s j) refl)
  where
    go : (j : ℕ) (b : Bool) → is_correct s j ≡ b → cond b ((w.pasts j).evidence e l) [] ≡ cond b ((v.pasts j).evidence e l) []
    go j true ok = h j ok
    go j false ok = refl

pub settled-of : {Msg : Type 0} (s : Setup) (S : Scheme) (R : Rules) (M : Module Msg) (w : Cluster Msg) → Good s R M w S → (i : ℕ) → is_correct s i ≡ true →
    Settled R (w.pasts i)
settled-of s S R M w g i ok = record { all = λ e k v h. (g.adopted i e k v ok h).0 }

module _ {Msg : Type 0} (s : Setup) (S : Scheme) (R : Rules) (M : Module Msg) (v w : Cluster Msg) (g : Good s R M v S)
    (later : (j : ℕ) → is_correct s j ≡ true → Later R (v.pasts j) (w.pasts j)) (strings : (x : List ℕ) → In x v.strings → In x w.strings) where
  pub reached-far : (j d : ℕ) → is_correct s j ≡ true → d ≤ (v.pasts j).epoch → start_of R (log_of R M j (v.pasts j)) d ≤ length (log_of R M j (v.pasts j))
  reached-far j d ok le = le_trans (start-mono R (log_of R M j (v.pasts j)) d (v.pasts j).epoch le) (g.reached j ok)

  -- the start of an epoch that a node has reached stays
  pub starts : (j d : ℕ) → is_correct s j ≡ true → d ≤ (v.pasts j).epoch → start_of R (log_of R M j (w.pasts j)) d ≡ start_of R (log_of R M j (v.pasts j)) d
  starts j d ok le = start-extends R (log_of R M j (v.pasts j)) (log_of R M j (w.pasts j)) d (log-later R M j (v.pasts j) (w.pasts j) (later j ok))
      (reached-far j d ok le)

  pub befores : (j d : ℕ) → is_correct s j ≡ true → d ≤ (v.pasts j).epoch → before R M j (w.pasts j) d ≡ before R M j (v.pasts j) d
  befores j d ok le = before-later R M j (v.pasts j) (w.pasts j) d (later j ok) (reached-far j d ok le)

  pub length-later : (j n : ℕ) → is_correct s j ≡ true → n ≤ length (log_of R M j (v.pasts j)) → n ≤ length (log_of R M j (w.pasts j))
  length-later j n ok h =
      le_trans h (extends-length (log_of R M j (v.pasts j)) (log_of R M j (w.pasts j)) (log-later R M j (v.pasts j) (w.pasts j) (later j ok)))

  -- an epoch that a node has reached stays reached
  pub reached-later : (j d : ℕ) → is_correct s j ≡ true → d ≤ (v.pasts j).epoch → start_of R (log_of R M j (w.pasts j)) d ≤ length (log_of R M j (w.pasts j))
  reached-later j d ok le = rw (starts j d ok le) (length-later j (start_of R (log_of R M j (v.pasts j)) d) ok (reached-far j d ok le))

  pub backed-later : (older : List Value) (x : Value) → Backed s R M v.pasts older x → Backed s R M w.pasts older x
  backed-later older x b = record {
    node = b.node;
    correct = b.correct;
    begun = le_trans b.begun (later b.node b.correct).epoch;
    start = befores b.node (epoch_at R older) b.correct b.begun ∙ b.start;
    is = delivered-later R M (params_at R older) b.node (v.pasts b.node) (w.pasts b.node) (later b.node b.correct) (epoch_at R older) (leader_at R older)
        (length older) x b.is;
  }

  pub true-later : (xs : List Value) → IsTrueLog s R M v.pasts xs → IsTrueLog s R M w.pasts xs
  true-later = chain-map (Backed s R M v.pasts) (Backed s R M w.pasts) backed-later

  pub is_true-later : (e k : ℕ) (x : Value) → IsTrue s R M v e k x → IsTrue s R M w e k x
  is_true-later e k x h = record { older = h.older; epoch = h.epoch; place = h.place; log = true-later h.older h.log; is = backed-later h.older x h.is }

  pub voted-later : (e : ℕ) (d : List ℕ) (q : ℕ) → Voted s R M v S e d q → Voted s R M w S e d q
  voted-later e d q h =
      record {
        log = h.log;
        whole = h.whole;
        is = true-later h.log h.is;
        chained = h.chained;
        number = h.number;
        hashed =
            λ x i. strings x (h.hashed x i);
        spelled = h.spelled;
      }

  pub adopted-later : (j e k : ℕ) (x : Value) → is_correct s j ≡ true → adopted_at (v.pasts j).adopted e k ≡ Some x →
      (e < (w.pasts j).epoch) × IsTrue s R M w e k x
  adopted-later j e k x ok h = let a = g.adopted j e k x ok h in (lt_of_lt_of_le a.0 (later j ok).epoch, is_true-later e k x a.1)

  -- the worlds of instances grow
  pub world-later : (e l j : ℕ) (item : Item Msg) → In item (world_of s v.pasts e l j) → In item (world_of s w.pasts e l j)
  world-later e l j item = go (is_correct s j) refl
    where
      go : (b : Bool) → is_correct s j ≡ b → In item (cond b ((v.pasts j).evidence e l) []) → In item (cond b ((w.pasts j).evidence e l) [])
      go true ok h = let x = evidence-later R (v.pasts j) (w.pasts j) (later j ok) e l in rw x.1 (in_right item x.0 ((v.pasts j).evidence e l) h)
      go false ok h = h

  pub sent-later : (e l from to : ℕ) (msg : Msg) → IsSent (world_of s v.pasts e l) from to msg → IsSent (world_of s w.pasts e l) from to msg
  sent-later e l from to msg h = record { item = h.item; taken = world-later e l from h.item h.taken; to = h.to; reaches = h.reaches; sent = h.sent }

  pub claimed-later : (x : Signed) (e l : ℕ) → IsClaimed s R M v x e l → IsClaimed s R M w x e l
  claimed-later x e l h = record {
    node = h.node;
    correct = h.correct;
    begun = le_trans h.begun (later h.node h.correct).epoch;
    signed = let q : before R M h.node (w.pasts h.node) e ≡ before R M h.node (v.pasts h.node) e = befores h.node e h.correct h.begun in
        record {
          item = h.signed.item;
          taken = world-later e l x.by h.signed.item h.signed.taken;
          to = h.signed.to;
          msg = h.signed.msg;
          sent =
              h.signed.sent;
          claim = h.signed.claim;
          made = rw q h.signed.made;
          by = h.signed.by;
          is = h.signed.is;
        };
  }
