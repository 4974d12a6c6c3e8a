-- What the invariant implies at one moment: true logs are prefixes of one log, and each node's log is a true log.
use Rattle.std.proofs.Common.{◌≡◌, inl, inr, ℕ, ◌+◌, ◌-◌, ◌≤◌, true, List, [], ◌∷◌, length, Some, refl, sym, ap, subst, ◌∙◌, arith, le_trans}
use Rattle.std.proofs.lemmas.Bool.Decides.{leb_tells}
use Rattle.iss_base.specs.Lists.{Extends}
use Rattle.iss_base.proofs.Lists.{chains-meet, first-cases, same_length}
use Rattle.iss_keys.specs.Directories.{DirectoryView, VerifiesBy, directory_of}
use Rattle.iss_request.specs.declared.requests.Value.{Value}
use Rattle.iss_request.specs.declared.setups.Setup.{Setup}
use Rattle.iss_sb.specs.declared.effects.Claim.{Claim}
use Rattle.iss_sb.specs.Calls.{IsGoodParams}
use Rattle.iss_sb.specs.Evidence.{IsReached, IsString, Module, Separate, Verifies, delivered, is_correct}
use Rattle.iss_sb.specs.Laws.{IsBroadcast, IsSafe}
use Rattle.iss_composition.specs.Cluster.{Backed, Cluster, IsTrueLog, IsVerified, Scheme, world_of}
use Rattle.iss_rules.specs.SoundRules.{IsSoundRules}
use Rattle.iss_composition.specs.Ordered.{Among}
use Rattle.iss_rules.specs.Past.{Past, adopted_at, before, before_at, cut_at, epoch_at, leader_at, log_of, params_at, start_of}
use Rattle.iss_rules.proofs.Logs.{IsLog, Later, later-refl, log-chain, log-kept, logs-meet}
use Rattle.iss_rules.specs.Rules.{Rules}
use Rattle.iss_rules.proofs.Epochs.{cut-extends, epoch-low, length-cut, start-extends, start-mono}
use Rattle.iss_composition.proofs.Good.{Good, IsTrue}
use Rattle.iss_composition.proofs.Kept.{settled-of}

pub separate-part : (Big Small : List ℕ → Type 0) → ((x : List ℕ) → Small x → Big x) → Separate Big → Separate Small
separate-part Big Small sub sep a b ia ib = sep a b (sub a ia) (sub b ib)

-- at a correct node the world is the node's history
pub world-at : {Msg : Type 0} (s : Setup) (w : Cluster Msg) (e l i : ℕ) → is_correct s i ≡ true → world_of s w.pasts e l i ≡ (w.pasts i).evidence e l
world-at s w e l i ok = rw ok refl

pub strings-are : {Msg : Type 0} (s : Setup) (S : Scheme) (R : Rules) (M : Module Msg) (w : Cluster Msg) → Good s R M w S → (e l : ℕ) (x : List ℕ) →
    IsString (world_of s w.pasts e l) x → Among w.strings x
strings-are s S R M w g e l x (inl q) = rw q g.root
strings-are s S R M w g e l x (inr h) = g.strings e l x h

-- the parameters of an instance are of the set-up
pub correct-there : {Msg : Type 0} (s : Setup) (M : Module Msg) (R : Rules) → IsSoundRules s M R → (log : List Value) (e l i : ℕ) → is_correct s i ≡ true →
    is_correct (R.params log e l).setup i ≡ true
correct-there s M R sound log e l i ok = subst (λ (t : Setup). is_correct t i ≡ true) (sym (sound.setup log e l)) ok

-- a signature that is valid by the rules is valid under them
pub verifies-there : {Msg : Type 0} (s : Setup) (M : Module Msg) (R : Rules) → IsSoundRules s M R → (log : List Value) (e l : ℕ) → R.leads log e l ≡ true →
    (c : Claim) → IsVerified R c → Verifies (R.params log e l) c
verifies-there s M R sound log e l leads c v =
    let keys = (sound.good log e l leads).directory ∙ ap (λ (t : Setup). directory_of t.n t.clients t.keys) (sound.setup log e l) in
    subst (λ (d : DirectoryView). VerifiesBy d.nodes c.by.0 c.statement c.sig) (sym keys) (sound.signers c.by.0 c.statement c.sig v)

module _ {Msg : Type 0} (s : Setup) (S : Scheme) (R : Rules) (M : Module Msg) (safe : IsSafe M) (sound : IsSoundRules s M R) (w : Cluster Msg)
    (sep : Separate (Among w.strings)) (g : Good s R M w S) where
  -- the instance of a slot is a broadcast
  pub placed : (older : List Value) (v : Value) → Backed s R M w.pasts older v →
      IsBroadcast M (params_at R older) (world_of s w.pasts (epoch_at R older) (leader_at R older))
  placed older v b =
      let e = epoch_at R older in
      let l = leader_at R older in
      let lead : R.leads (before_at R older) e l ≡ true = sound.leads older in
      let reached : IsReached M (params_at R older) (world_of s w.pasts e l) = rw b.start at (g.inv b.node e l b.correct b.begun (rw b.start lead)) in
      let apart : Separate (IsString (world_of s w.pasts e l)) =
      separate-part (Among w.strings) (IsString (world_of s w.pasts e l)) (strings-are s S R M w g e l) sep in
      let good : IsGoodParams M (params_at R older) = sound.good (before_at R older) e l lead in
      safe (params_at R older) (world_of s w.pasts e l) good reached apart

  pub in-world : (older : List Value) (i : ℕ) → is_correct s i ≡ true → (n : ℕ) (v : Value) →
      delivered M (params_at R older) i ((w.pasts i).evidence (epoch_at R older) (leader_at R older)) n ≡ Some v →
      delivered M (params_at R older) i (world_of s w.pasts (epoch_at R older) (leader_at R older) i) n ≡ Some v
  in-world older i ok n v h = rw (world-at s w (epoch_at R older) (leader_at R older) i ok) h

  pub right : (older : List Value) (i : ℕ) → is_correct s i ≡ true → is_correct (params_at R older).setup i ≡ true
  right older i ok = correct-there s M R sound (before_at R older) (epoch_at R older) (leader_at R older) i ok

  pub backed-meet : (older : List Value) (v u : Value) → Backed s R M w.pasts older v → Backed s R M w.pasts older u → v ≡ u
  backed-meet older v u a b =
      (placed older v a).agreement a.node b.node (length older) v u (right older a.node a.correct) (right older b.node b.correct)
      (in-world older a.node a.correct (length older) v a.is) (in-world older b.node b.correct (length older) u b.is)

  pub true-meet : (a b : List Value) → IsTrueLog s R M w.pasts a → IsTrueLog s R M w.pasts b → length a ≤ length b → Extends a b
  true-meet a b = chains-meet (Backed s R M w.pasts) (Backed s R M w.pasts) (λ older v u _ _. backed-meet older v u) a b

  pub true-same : (a b : List Value) → IsTrueLog s R M w.pasts a → IsTrueLog s R M w.pasts b → length a ≡ length b → a ≡ b
  true-same a b = same_length (Backed s R M w.pasts) (Backed s R M w.pasts) (λ older v u _ _. backed-meet older v u) a b

  -- true logs agree before an epoch
  pub true-cut : (a b : List Value) → IsTrueLog s R M w.pasts a → IsTrueLog s R M w.pasts b → (e : ℕ) → start_of R a e ≤ length a →
      start_of R b e ≤ length b → cut_at R a e ≡ cut_at R b e
  true-cut a b la lb e na nb =
      elim (leb_tells (length a) (length b)) [
        | inl t ↦ sym (cut-extends R a b e (true-meet a b la lb t.1) na)
        | inr t ↦ cut-extends R b a e (true-meet b a lb la (omega (arith, t.1))) nb
      ]

  -- true logs of the same length in the same epoch are equal
  pub true-place : (a b : List Value) → IsTrueLog s R M w.pasts a → IsTrueLog s R M w.pasts b → (e k : ℕ) → start_of R a e ≤ length a →
      start_of R b e ≤ length b → length a ≡ start_of R a e + k → length b ≡ start_of R b e + k → a ≡ b
  true-place a b la lb e k na nb pa pb =
      let same : start_of R a e ≡ start_of R b e = elim (leb_tells (length a) (length b)) [
        | inl t ↦ sym (start-extends R a b e (true-meet a b la lb t.1) na)
        | inr t ↦ start-extends R b a e (true-meet b a lb la (omega (arith, t.1))) nb
      ] in
      true-same a b la lb (omega (arith, same, pa, pb))

  -- the starts of epochs that a node has reached
  pub far-start : (i : ℕ) → is_correct s i ≡ true → (e : ℕ) → e ≤ (w.pasts i).epoch →
      start_of R (log_of R M i (w.pasts i)) e ≤ length (log_of R M i (w.pasts i))
  far-start i ok e le = le_trans (start-mono R (log_of R M i (w.pasts i)) e (w.pasts i).epoch le) (g.reached i ok)

  -- an epoch that has begun starts with what any log of the node holds before it, now or later
  pub before-is : (i : ℕ) → is_correct s i ≡ true → (d : Past Msg) → Later R (w.pasts i) d → (xs : List Value) → IsLog R M i d xs → (e : ℕ) →
      e ≤ (w.pasts i).epoch → start_of R xs e ≤ length xs → before R M i (w.pasts i) e ≡ cut_at R xs e
  before-is i ok d lt xs h e le len =
      let c = w.pasts i in
      let log = log_of R M i c in
      let logd : IsLog R M i d log = log-kept R M i c d lt log (log-chain R M i c) in
      elim (leb_tells (length xs) (length log)) [
        | inl t ↦ cut-extends R xs log e (logs-meet R M i d xs log h logd t.1) len
        | inr t ↦ sym (cut-extends R log xs e (logs-meet R M i d log xs logd h (omega (arith, t.1))) (far-start i ok e le))
      ]

  -- an epoch in which a node delivered a value has begun
  pub begun : (i : ℕ) → is_correct s i ≡ true → (older : List Value) (v : Value) →
      delivered M (params_at R older) i ((w.pasts i).evidence (epoch_at R older) (leader_at R older)) (length older) ≡ Some v →
      epoch_at R older ≤ (w.pasts i).epoch
  begun i ok older v h =
      elim (leb_tells (epoch_at R older) (w.pasts i).epoch) [
        | inl t ↦ t.1
        | inr t ↦
            let none : (w.pasts i).evidence (epoch_at R older) (leader_at R older) ≡ [] = g.unborn i (epoch_at R older) (leader_at R older) ok t.1 in
            let k : delivered M (params_at R older) i [] (length older) ≡ Some v = rw none at h in
            absurd (cc)
      ]

  -- a node's log is true, also with more true pieces
  pub log-true : (i : ℕ) → is_correct s i ≡ true → (d : Past Msg) → Later R (w.pasts i) d → ((e l : ℕ) → d.evidence e l ≡ (w.pasts i).evidence e l) →
      ((e k : ℕ) (x : Value) → adopted_at d.adopted e k ≡ Some x → IsTrue s R M w e k x) → (xs : List Value) → IsLog R M i d xs → IsTrueLog s R M w.pasts xs
  log-true i ok d lt same ad [] h = tt
  log-true i ok d lt same ad (v ∷ older) h =
      let ih : IsTrueLog s R M w.pasts older = log-true i ok d lt same ad older h.0 in (
        ih,
        elim (first-cases (delivered M (params_at R older) i (d.evidence (epoch_at R older) (leader_at R older)) (length older))
            (adopted_at d.adopted (epoch_at R older) (length older - length (before_at R older))) v h.1) [
              | inl a ↦
                  let a2 : delivered M (params_at R older) i ((w.pasts i).evidence (epoch_at R older) (leader_at R older)) (length older) ≡ Some v =
                  rw (same (epoch_at R older) (leader_at R older)) at a in
                  let b : epoch_at R older ≤ (w.pasts i).epoch = begun i ok older v a2 in
                  record { node = i; correct = ok; begun = b; start = before-is i ok d lt older h.0 (epoch_at R older) b (epoch-low R older); is = a2 }
              | inr a ↦
                  let e = epoch_at R older in
                  let k = length older - length (before_at R older) in
                  let t : IsTrue s R M w e k v = ad e k v a.1 in
                  let low : start_of R older e ≤ length older = epoch-low R older in
                  let here : length older ≡ start_of R older e + k = omega (arith, length-cut R older e low, low) in
                  let low2 : start_of R t.older e ≤ length t.older = omega (arith, t.place) in
                  rw (true-place t.older older t.log ih e k low2 low t.place here) at t.is
            ],
      )

  pub own-true : (i : ℕ) → is_correct s i ≡ true → IsTrueLog s R M w.pasts (log_of R M i (w.pasts i))
  own-true i ok = log-true i ok (w.pasts i) (later-refl R (w.pasts i) (settled-of s S R M w g i ok)) (λ e l. refl) (λ e k x h. (g.adopted i e k x ok h).1)
      (log_of R M i (w.pasts i)) (log-chain R M i (w.pasts i))

  -- the log before an epoch that has begun is that of every true log
  pub before-true : (i : ℕ) → is_correct s i ≡ true → (e : ℕ) → e ≤ (w.pasts i).epoch → (xs : List Value) → IsTrueLog s R M w.pasts xs →
      start_of R xs e ≤ length xs → before R M i (w.pasts i) e ≡ cut_at R xs e
  before-true i ok e le xs h len = true-cut (log_of R M i (w.pasts i)) xs (own-true i ok) h e (far-start i ok e le) len

  pub befores-agree : (i j : ℕ) → is_correct s i ≡ true → is_correct s j ≡ true → (e : ℕ) → e ≤ (w.pasts i).epoch → e ≤ (w.pasts j).epoch →
      before R M i (w.pasts i) e ≡ before R M j (w.pasts j) e
  befores-agree i j oki okj e lei lej = before-true i oki e lei (log_of R M j (w.pasts j)) (own-true j okj) (far-start j okj e lej)
