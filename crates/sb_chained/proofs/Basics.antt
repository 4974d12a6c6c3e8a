-- Small facts: what stands behind a test, the cases of a state, statements told apart.
use Rattle.std.proofs.Common.{◌≡◌, ◌≤◌, ℕ, ◌%◌, true, List, ◌∷◌, ◌++◌, refl, subst, arith}
use Rattle.std.specs.Prelude.{nat_le}
use Rattle.std.proofs.lemmas.Bool.{leb-true}
use Rattle.iss_base.proofs.Lists.{and-true}
use Rattle.iss_sb.specs.declared.effects.Params.{Params}
use Rattle.iss_sb.specs.Statements.{four_bytes, statement_head}
use Rattle.iss_sb.proofs.Statements.{head-same, wide-same}
use Rattle.iss_sb.specs.declared.content.Content.{Content}
use Rattle.hs_tree.specs.declared.certificates.Certificate.{Certificate}
use Rattle.hs_tree.specs.declared.messages.Body.{Body}
use Rattle.hs_tree.specs.declared.messages.Body.TheVariants.{NewView, Prepare, PreCommit, Commit, Decide, Vote}
use Rattle.hs_tree.specs.Certificates.{is_quorum, view_of}
use Rattle.hs_tree.specs.Statements.{stated, vote_statement}
use Rattle.hs_tree.specs.Tree.{chained as form}
use Rattle.sb_chained.specs.Rules.{is_good, node_digest}
use Rattle.hs_views.specs.Views.{turn_of}
use Rattle.hs_views.proofs.Tests.{quorum-view}

-- ---- Valid certificates

pub record IsGood (p : Params) (view : ℕ) (c : Certificate) : Type 0 where
  pub turn : 1 ≤ turn_of view
  pub some : 1 ≤ view
  pub view_is : view_of c ≡ view
  pub quorum : is_quorum p.setup.quorum 1 view c ≡ true

some-view : (v : ℕ) → 1 ≤ v % 65536 → 1 ≤ v
some-view v l = omega arith

pub good-is : (p : Params) (view : ℕ) (c : Certificate) → is_good p view c ≡ true → IsGood p view c
good-is p view c h =
    let a = and-true (nat_le 1 (turn_of view)) (is_quorum p.setup.quorum 1 view c) h in
    let t = leb-true 1 (turn_of view) a.0 in
    record { turn = t; some = some-view view t; view_is = quorum-view p.setup.quorum 1 view c a.1; quorum = a.1 }

-- ---- Statements of different messages differ

pub behind : (p : Params) (k l : ℕ) (xs ys : List ℕ) → statement_head p 5 ++ k ∷ xs ≡ statement_head p 5 ++ l ∷ ys → k ∷ xs ≡ l ∷ ys
behind p k l xs ys h = (head-same p.setup.tag p.setup.tag p.epoch.0 p.leader.0 5 p.epoch.0 p.leader.0 5 (k ∷ xs) (l ∷ ys) refl h).behind

pub record SameVote (phase view : ℕ) (d : List ℕ) (q v : ℕ) (e : List ℕ) : Type 0 where
  pub phase_is : phase ≡ q
  pub view_is : view ≡ v
  pub digest_is : d ≡ e

pub vote-same : (p : Params) (phase view : ℕ) (d : List ℕ) (q v : ℕ) (e : List ℕ) → vote_statement form p phase view d ≡ vote_statement form p q v e → SameVote phase view d q v e
vote-same p phase view d q v e h =
    let a = behind p 6 6 (phase ∷ four_bytes view ++ d) (q ∷ four_bytes v ++ e) h in
    let phases : phase ≡ q = cc in
    let rest : four_bytes view ++ d ≡ four_bytes v ++ e = cc in
    let b = wide-same 3 view v d e rest in
    record { phase_is = phases; view_is = b.0; digest_is = b.1 }

-- a body whose statement is a vote's is that vote
pub own-vote : (p : Params) (body : Body) (phase view : ℕ) (d : List ℕ) → stated form p body ≡ vote_statement form p phase view d → body ≡ Vote phase view d
own-vote p (NewView round high) phase view d h = let k = behind p 1 6 _ _ h in absurd cc
own-vote p (Prepare v what just) phase view d h = let k = behind p 2 6 _ _ h in absurd cc
own-vote p (PreCommit v shown) phase view d h = let k = behind p 3 6 _ _ h in absurd cc
own-vote p (Commit v shown) phase view d h = let k = behind p 4 6 _ _ h in absurd cc
own-vote p (Decide v shown) phase view d h = let k = behind p 5 6 _ _ h in absurd cc
own-vote p (Vote q v e) phase view d h =
    let s = vote-same p q v e phase view d h in
    let x = s.phase_is in
    let y = s.view_is in
    let z = s.digest_is in
    cc

-- a body whose statement is a proposal's is a proposal of that view and node
pub record IsProposal (p : Params) (body : Body) (view : ℕ) (d : List ℕ) : Type 0 where
  pub what : Content
  pub just : Certificate
  pub is : body ≡ Prepare view what just
  pub digest_is : node_digest p view what just ≡ d

pub own-proposal : (p : Params) (body : Body) (view : ℕ) (d : List ℕ) → stated form p body ≡ statement_head p 5 ++ (2 ∷ (four_bytes view ++ d)) → IsProposal p body view d
own-proposal p (NewView round high) view d h = let k = behind p 1 2 _ _ h in absurd cc
own-proposal p (PreCommit v shown) view d h = let k = behind p 3 2 _ _ h in absurd cc
own-proposal p (Commit v shown) view d h = let k = behind p 4 2 _ _ h in absurd cc
own-proposal p (Decide v shown) view d h = let k = behind p 5 2 _ _ h in absurd cc
own-proposal p (Vote q v e) view d h = let k = behind p 6 2 _ _ h in absurd cc
own-proposal p (Prepare v what just) view d h =
    let k = behind p 2 2 (four_bytes v ++ node_digest p v what just) (four_bytes view ++ d) h in
    let rest : four_bytes v ++ node_digest p v what just ≡ four_bytes view ++ d = cc in
    let b = wide-same 3 v view (node_digest p v what just) d rest in
    subst (λ (z : ℕ). IsProposal p (Prepare v what just) z d) b.0 (record { what = what; just = just; is = refl; digest_is = b.1 })
