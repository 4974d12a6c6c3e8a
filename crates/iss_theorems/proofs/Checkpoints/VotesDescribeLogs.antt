-- A vote in the book describes its node's log at the end of an epoch, and each epoch that a node ended itself is voted
-- for.
use Rattle.std.proofs.Common.{◌≡◌, ◌⊎◌, inl, inr, ℕ, suc, ◌<◌, ◌≤◌, List, length, sym, subst, arith, le_trans}
use Rattle.iss_base.specs.Lists.{In}
use Rattle.iss_base.proofs.Lists.{in_right}
use Rattle.iss_request.specs.declared.requests.Value.{Value}
use Rattle.iss_request.specs.declared.setups.Setup.{Setup}
use Rattle.iss_sb.specs.Evidence.{Module}
use Rattle.iss_theorems.specs.Certified.{IsLogAt}
use Rattle.iss_rules.specs.Books.{Signed}
use Rattle.iss_composition.specs.Cluster.{vote_statement}
use Rattle.iss_theorems.specs.Ends.{AreVoted, WasAdopted}
use Rattle.iss_rules.specs.Past.{Past, before, log_of, start_of}
use Rattle.iss_rules.specs.Rules.{Rules}
use Rattle.iss_rules.proofs.Epochs.{start-mono}
use Rattle.iss_rules.proofs.Logs.{Later, before-later}

-- each vote of node i in the book describes its log
abbrev pub AreStanding : {Msg : Type 0} → Setup → Rules → Module Msg → ℕ → Past Msg → List Signed → Type 0
AreStanding s R M i c book =
    (e : ℕ) (a : List ℕ) (q : ℕ) → In (record { by = i; statement = vote_statement s e a q }) book → IsLogAt R M i e c a q

module _ {Msg : Type 0} (R : Rules) (M : Module Msg) (i : ℕ) (c d : Past Msg) (later : Later R c d)
    (reached : start_of R (log_of R M i c) c.epoch ≤ length (log_of R M i c)) where
  -- the log at the end of an epoch stays
  stays : (e : ℕ) → e < c.epoch → before R M i d (suc e) ≡ before R M i c (suc e)
  stays e lt = before-later R M i c d (suc e) later (le_trans (start-mono R (log_of R M i c) (suc e) c.epoch (omega (arith, lt))) reached)

  pub log-at-later : (e : ℕ) (a : List ℕ) (q : ℕ) → IsLogAt R M i e c a q → IsLogAt R M i e d a q
  log-at-later e a q h =
      let same = stays e h.over in
      let far = h.over in
      let more = later.epoch in
      record {
        over = omega (arith, far, more);
        whole = subst (λ (log : List Value). start_of R log (suc e) ≡ length log) (sym same) h.whole;
        chain = subst (λ (log : List Value). a ≡ (R.end log).chain) (sym same) h.chain;
        number = subst (λ (log : List Value). q ≡ (R.end log).requests) (sym same) h.number;
      }

  pub voted-later : (old new : List Signed) → ((x : Signed) → In x old → In x new) → AreVoted R M i c old → (e : ℕ) → e < c.epoch →
      WasAdopted d e ⊎ In (record { by = i; statement = R.voted e (R.end (before R M i d (suc e))).chain (R.end (before R M i d (suc e))).requests }) new
  voted-later old new sub are e lt = elim (are e lt) [
    | inl a ↦ inl (a.0, subst (λ (ps : List _). In a.0 ps) (sym later.adopted.1) (in_right a.0 later.adopted.0 c.adopted a.1), a.2)
    | inr b ↦ inr (subst (λ (log : List Value). In (record { by = i; statement = R.voted e (R.end log).chain (R.end log).requests }) new) (sym (stays e lt))
        (sub _ b))
  ]
