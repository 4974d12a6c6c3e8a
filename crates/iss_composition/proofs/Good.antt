-- The invariant of every run of a cluster.
use Rattle.std.proofs.Common.{◌≡◌, ◌≢◌, ℕ, suc, ◌+◌, ◌≤◌, ◌<◌, true, List, [], length, Some}
use Rattle.iss_base.specs.Lists.{In}
use Rattle.iss_request.specs.Log.{requests}
use Rattle.iss_request.specs.declared.requests.Value.{Value}
use Rattle.iss_request.specs.declared.setups.Setup.{Setup}
use Rattle.iss_sb.specs.Evidence.{IsHashed, IsReached, IsSent, IsSigned, Module, accepts, is_correct}
use Rattle.iss_rules.specs.Books.{Signed}
use Rattle.iss_composition.specs.Cluster.{AllSpelled, Backed, Cluster, IsHashedLog, IsTrueLog, Message, Scheme, chain, vote_statement, world_of}
use Rattle.iss_composition.proofs.Heads.{Names}
use Rattle.iss_rules.proofs.Judged.{Judged}
use Rattle.iss_rules.specs.Past.{adopted_at, before, epoch_at, log_of, start_of}
use Rattle.iss_rules.specs.Rules.{Rules}

module _ {Msg : Type 0} (s : Setup) (R : Rules) (M : Module Msg) (w : Cluster Msg) where
  -- a value at an index of an epoch, in a true log
  pub record IsTrue (e k : ℕ) (v : Value) : Type 0 where
    pub older : List Value
    pub epoch : epoch_at R older ≡ e
    pub place : length older ≡ start_of R older e + k
    pub log : IsTrueLog s R M w.pasts older
    pub is : Backed s R M w.pasts older v

  -- a claim of an instance, under the parameters of a node that is in its epoch or later
  pub record IsClaimed (x : Signed) (e l : ℕ) : Type 0 where
    pub node : ℕ
    pub correct : is_correct s node ≡ true
    pub begun : e ≤ (w.pasts node).epoch
    pub signed : IsSigned M (R.params (before R M node (w.pasts node) e) e l) (world_of s w.pasts e l) x.by x.statement

  module _ (S : Scheme) where
    -- the log that a vote certifies
    pub record Voted (e : ℕ) (d : List ℕ) (q : ℕ) : Type 0 where
      pub log : List Value
      pub whole : start_of R log (suc e) ≡ length log
      pub is : IsTrueLog s R M w.pasts log
      pub chained : d ≡ chain S log
      pub number : q ≡ requests log
      pub hashed : IsHashedLog S w.strings log
      pub spelled : AllSpelled S log

    pub record Good : Type 0 where
      pub reached : (i : ℕ) → is_correct s i ≡ true → start_of R (log_of R M i (w.pasts i)) (w.pasts i).epoch ≤ length (log_of R M i (w.pasts i))
      pub inv : (i e l : ℕ) → is_correct s i ≡ true → e ≤ (w.pasts i).epoch → R.leads (before R M i (w.pasts i) e) e l ≡ true →
          IsReached M (R.params (before R M i (w.pasts i) e) e l) (world_of s w.pasts e l)
      pub unborn : (i e l : ℕ) → is_correct s i ≡ true → (w.pasts i).epoch < e → (w.pasts i).evidence e l ≡ []
      pub judged : (i e l : ℕ) → is_correct s i ≡ true → e ≤ (w.pasts i).epoch → Judged R (before R M i (w.pasts i) e) e l (accepts ((w.pasts i).evidence e l))
      pub sent : M.stopping ≡ true → (k : Message Msg) → In k w.messages → IsSent (world_of s w.pasts k.epoch k.leader) k.from k.to k.msg
      pub signed : (x : Signed) (e l : ℕ) → l ≢ 255 → In x w.book → Names s M e l x.statement → IsClaimed x e l
      pub strings : (e l : ℕ) (x : List ℕ) → IsHashed (world_of s w.pasts e l) x → In x w.strings
      pub adopted : (i e k : ℕ) (v : Value) → is_correct s i ≡ true → adopted_at (w.pasts i).adopted e k ≡ Some v → (e < (w.pasts i).epoch) × IsTrue e k v
      pub voted : (x : Signed) (e : ℕ) (d : List ℕ) (q : ℕ) → In x w.book → is_correct s x.by ≡ true → x.statement ≡ vote_statement s e d q → Voted e d q
      pub hashed : (i : ℕ) → is_correct s i ≡ true → IsHashedLog S w.strings (log_of R M i (w.pasts i))
      pub spelled : (i : ℕ) → is_correct s i ≡ true → AllSpelled S (log_of R M i (w.pasts i))
      pub root : In {A = List ℕ} [] w.strings
