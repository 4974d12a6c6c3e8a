-- A claim is of one instance, and no claim of an instance is a vote.
use Rattle.std.proofs.Common.{◌≡◌, ℕ, List, ◌∷◌, ◌++◌, length, sym, ◌∙◌, arith}
use Rattle.iss_base.specs.Lists.{In}
use Rattle.iss_sb.specs.declared.effects.Claim.{Claim}
use Rattle.iss_sb.specs.declared.effects.Params.{Params}
use Rattle.iss_sb.specs.Evidence.{Module}
use Rattle.iss_sb.specs.Laws.{IsLawful}
use Rattle.iss_sb.specs.Calls.{IsGoodParams}
use Rattle.iss_sb.specs.Statements.{eight_bytes, head_of}
use Rattle.iss_sb.proofs.Statements.{head-same, wide-last}
use Rattle.iss_layout.proofs.FairLemmas.{few_nodes}
use Rattle.iss_request.specs.declared.setups.Setup.{Setup}
use Rattle.iss_composition.specs.Cluster.{vote_statement}
use Rattle.iss_composition.specs.Instances.{IsInstance, IsSameVote}

module _ {Msg : Type 0} (M : Module Msg) (law : IsLawful M) where
  -- a statement that begins with a head is of the instance that the head names
  pub claim-head : (p : Params) (from : ℕ) (msg : Msg) (c : Claim) → In c (M.claims p from msg) → (cluster : List ℕ) (e l tag : ℕ) (rest : List ℕ) →
      length cluster ≡ length p.setup.tag → c.statement ≡ head_of cluster e l tag ++ rest → IsInstance p M.tag cluster e l tag
  claim-head p from msg c held cluster e l tag rest long is =
      let n = law.names p from msg c held in
      let r = head-same cluster p.setup.tag e l tag p.epoch.0 p.leader.0 M.tag rest n.0 long (sym is ∙ n.1) in
      record { cluster = r.one_cluster; epoch = r.epoch; leader = r.leader; module_tag = r.module_tag }

  -- equal statements are of one instance
  pub claims-same : (p q : Params) (i j : ℕ) (a b : Msg) (c d : Claim) → In c (M.claims p i a) → In d (M.claims q j b) →
      length p.setup.tag ≡ length q.setup.tag → c.statement ≡ d.statement → IsInstance q M.tag p.setup.tag p.epoch.0 p.leader.0 M.tag
  claims-same p q i j a b c d held_c held_d long same =
      let n = law.names p i a c held_c in
      claim-head q j b d held_d p.setup.tag p.epoch.0 p.leader.0 M.tag n.0 long (sym same ∙ n.1)

  -- and none is a vote
  pub claim-vote : (s : Setup) (p : Params) (from : ℕ) (msg : Msg) (c : Claim) → IsGoodParams M p → In c (M.claims p from msg) → length s.tag ≡ length p.setup.tag →
      (e number : ℕ) (chain : List ℕ) → c.statement ≡ vote_statement s e chain number → ⊥
  claim-vote s p from msg c good held long e number chain is =
      let r = claim-head p from msg c held s.tag e 255 0 (0 ∷ (chain ++ eight_bytes number)) long is in
      let few = few_nodes p.setup good.setup in
      let here = r.leader in
      let low = good.leader in
      omega (arith, few.1, here, low)

-- equal votes certify the same log
pub votes-same : (s t : Setup) → length s.tag ≡ length t.tag → (e d : ℕ) (a b : List ℕ) (q r : ℕ) → vote_statement s e a q ≡ vote_statement t d b r →
    IsSameVote s.tag t.tag e d a b q r
votes-same s t long e d a b q r h =
    let k = head-same s.tag t.tag e 255 0 d 255 0 (0 ∷ (a ++ eight_bytes q)) (0 ∷ (b ++ eight_bytes r)) long h in
    let rest : ◌≡◌ {A = List ℕ} (0 ∷ (a ++ eight_bytes q)) (0 ∷ (b ++ eight_bytes r)) = k.behind in
    let tails : a ++ eight_bytes q ≡ b ++ eight_bytes r = cc in
    let w = wide-last 7 a b q r tails in
    record { cluster = k.one_cluster; epoch = k.epoch; chain = w.0; number = w.1 }
