-- Cores and nodes: a correct core is a node. In the crash-stop model each core is a node, and is correct.
use Rattle.std.proofs.Common.{◌≡◌, inl, inr, ℕ, zero, suc, ◌-◌, ◌<◌, Bool, true, false, cond, not, List, [], ◌∷◌, length, refl, sym, ap, ◌∙◌, subst, arith, nat_lt}
use Rattle.std.specs.List.{filter}
use Rattle.iss_base.specs.Lists.{In, below, nth}
use Rattle.iss_base.proofs.Lists.{both, in_append, is-eq}
use Rattle.iss_request.specs.Setup.{IsFewFaulty}
use Rattle.iss_request.specs.declared.ids.NodeId.{NodeId}
use Rattle.iss_request.specs.declared.setups.Kind.{Kind}
use Rattle.iss_request.specs.declared.setups.Kind.TheVariants.{Stopping}
use Rattle.iss_request.specs.declared.setups.Setup.{Setup}
use Rattle.iss_sb.specs.declared.effects.To.{To}
use Rattle.iss_sb.specs.declared.effects.To.TheVariants.{All as To_all, One as To_one}
use Rattle.iss_sb.specs.Calls.{IsGoodParams, kind_of}
use Rattle.iss_sb.specs.Evidence.{Module, Reaches, has_node, is_correct}
use Rattle.iss_rules.specs.SoundRules.{IsSoundRules}
use Rattle.iss_rules.specs.Past.{before_at, epoch_at, leader_at, params_at}
use Rattle.iss_rules.specs.Rules.{Rules}
use Rattle.iss_model.specs.Run.{addressees, cores_of, node_of, number_at}
use Rattle.iss_rules.proofs.Nodes.{below-n, correct-below}

-- core c is node c, below n
pub node-is : (s : Setup) (c : ℕ) → c < s.n → node_of s c ≡ c
node-is s c lt = ap (λ (b : Bool). cond b c (number_at (nth s.faulty (c - s.n)))) (below-n c s.n lt)

pub correct-is : (s : Setup) (c : ℕ) → is_correct s c ≡ true → node_of s c ≡ c
correct-is s c h = node-is s c (correct-below s c h)

in-filter : (p : ℕ → Bool) (xs : List ℕ) (x : ℕ) → In x (filter p xs) → In x xs × (p x ≡ true)
in-filter p [] x h = absurd h
in-filter p (y ∷ ys) x h = go (p y) refl h (in-filter p ys x)
  where
    go : (b : Bool) → p y ≡ b → In x (cond b (y ∷ filter p ys) (filter p ys)) → (In x (filter p ys) → In x ys × (p x ≡ true)) → In x (y ∷ ys) × (p x ≡ true)
    go true q (inl e) ih = (inl e, ap p e ∙ q)
    go true q (inr k) ih = let r = ih k in (inr r.0, r.1)
    go false q k ih = let r = ih k in (inr r.0, r.1)

in-below : (n j : ℕ) → In j (below n) → j < n
in-below zero j h = absurd h
in-below (suc n) j h = elim (in_append j (below n) (n ∷ []) h) [
  | inl a ↦ omega (arith, in-below n j a)
  | inr a ↦ elim a [ inl e ↦ omega (arith, e) | inr b ↦ absurd b ]
]

-- a recipient of a packet is a core
pub addressee-core : (s : Setup) (to : To) (j : ℕ) → In j (addressees s to) → j < cores_of s
addressee-core s To_all j h = in-below (cores_of s) j h
addressee-core s (To_one k) j h = in-below (cores_of s) j (in-filter _ (below (cores_of s)) j h).0

-- where no node is faulty
module _ (s : Setup) (none : s.faulty ≡ []) where
  pub core-low : (c : ℕ) → c < cores_of s → c < s.n
  core-low c lt = omega (arith, lt, ap (λ (xs : List NodeId). length xs) none)

  pub core-correct : (c : ℕ) → c < s.n → is_correct s c ≡ true
  core-correct c lt = both (nat_lt c s.n) (not (has_node c s.faulty)) (below-n c s.n lt) (ap (λ (ks : List NodeId). not (has_node c ks)) none)

  pub addressee-reached : (to : To) (j : ℕ) → In j (addressees s to) → Reaches to j
  addressee-reached To_all j h = tt
  addressee-reached (To_one k) j h =
      let r = in-filter _ (below (cores_of s)) j h in
      sym (is-eq (node_of s j) k.0 r.1) ∙ node-is s j (core-low j (in-below (cores_of s) j r.0))

module _ {Msg : Type 0} (s : Setup) (R : Rules) (M : Module Msg) (sound : IsSoundRules s M R) where
  -- in the crash-stop model no node is faulty
  pub faultless : M.stopping ≡ true → s.faulty ≡ []
  faultless stops =
      let good : IsGoodParams M (params_at R []) = sound.good (before_at R []) (epoch_at R []) (leader_at R []) (sound.leads []) in
      let kind : (params_at R []).setup.kind ≡ Stopping = good.kind ∙ ap kind_of stops in
      let none : (params_at R []).setup.faulty ≡ [] =
      subst (λ (k : Kind). IsFewFaulty k (params_at R []).setup.f (params_at R []).setup.faulty) kind good.setup.few_faulty in
      subst (λ (t : Setup). t.faulty ≡ []) (sound.setup (before_at R []) (epoch_at R []) (leader_at R [])) none

  pub leader-below : (log : List _) (e l : ℕ) → R.leads log e l ≡ true → l < s.n
  leader-below log e l h =
      let lt : (R.params log e l).leader.0 < (R.params log e l).setup.n = (sound.good log e l h).leader in
      let lt2 : l < (R.params log e l).setup.n = subst (λ (k : ℕ). k < (R.params log e l).setup.n) (sound.leader log e l) lt in
      subst (λ (t : Setup). l < t.n) (sound.setup log e l) lt2
