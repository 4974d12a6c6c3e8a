-- No statement has two meanings: it is of one instance, or it is one vote.
use Rattle.std.proofs.Common.{◌≡◌, ◌≢◌, ℕ, true, List, ◌∷◌, ◌++◌, refl, sym, ◌∙◌, arith}
use Rattle.iss_request.specs.declared.requests.Value.{Value}
use Rattle.iss_request.specs.declared.setups.Setup.{Setup}
use Rattle.iss_layout.proofs.FairLemmas.{few_nodes}
use Rattle.iss_sb.specs.Calls.{IsGoodParams}
use Rattle.iss_sb.specs.Evidence.{Module}
use Rattle.iss_sb.specs.Statements.{eight_bytes}
use Rattle.iss_sb.proofs.Statements.{head-same}
use Rattle.iss_composition.specs.Cluster.{vote_statement}
use Rattle.iss_composition.proofs.Heads.{Names}
use Rattle.iss_rules.specs.SoundRules.{IsSoundRules}
use Rattle.iss_rules.specs.Rules.{Rules}
use Rattle.iss_composition.proofs.Instances.{votes-same}

-- a statement is of one instance
pub heads : {Msg : Type 0} (s : Setup) (M : Module Msg) (x : List ℕ) (e l d k : ℕ) → Names s M e l x → Names s M d k x → (e ≡ d) × (l ≡ k)
heads s M x e l d k a b =
    let r = head-same s.tag s.tag e l M.tag d k M.tag a.0 b.0 refl (sym a.1 ∙ b.1) in
    (r.epoch, r.leader)

-- a statement of an instance is no vote
pub apart : {Msg : Type 0} (s : Setup) (M : Module Msg) (x : List ℕ) (e l d : ℕ) (a : List ℕ) (q : ℕ) → l ≢ 255 → Names s M e l x →
    x ≡ vote_statement s d a q → ⊥
apart s M x e l d a q far named is =
    let r = head-same s.tag s.tag e l M.tag d 255 0 named.0 (0 ∷ (a ++ eight_bytes q)) refl (sym named.1 ∙ is) in
    far r.leader

-- equal votes are of one epoch, chain and number
pub votes : (s : Setup) (e d : ℕ) (a b : List ℕ) (q r : ℕ) → vote_statement s e a q ≡ vote_statement s d b r → (e ≡ d) × (a ≡ b) × (q ≡ r)
votes s e d a b q r h = let k = votes-same s s refl e d a b q r h in (k.epoch, k.chain, k.number)

-- a leader of an epoch is a node, and there are few nodes
pub leader-far : {Msg : Type 0} (s : Setup) (M : Module Msg) (R : Rules) → IsSoundRules s M R → (log : List Value) (e l : ℕ) → R.leads log e l ≡ true → l ≢ 255
leader-far s M R sound log e l leads q =
    let good : IsGoodParams M (R.params log e l) = sound.good log e l leads in
    let few = few_nodes (R.params log e l).setup good.setup in
    omega (arith, q, sound.leader log e l, good.leader, few.1)
