-- How nodes vote under a set-up, and what its rules imply for votes.
use Rattle.std.proofs.Common.{◌≡◌, ℕ, true, List, reverse, refl, sym, ap, ap₂, ◌∙◌}
use Rattle.iss_base.specs.Lists.{push_all}
use Rattle.iss_log.specs.Chains.{chain_of, end_of, strings_from}
use Rattle.iss_log.specs.declared.chains.End.{End}
use Rattle.iss_request.specs.Formats.{HasSpelling}
use Rattle.iss_request.specs.Log.{requests}
use Rattle.iss_request.specs.declared.requests.Request.{Request}
use Rattle.iss_request.specs.declared.requests.Value.{Value}
use Rattle.iss_request.specs.declared.setups.Setup.{Setup}
use Rattle.iss_sb.specs.Evidence.{Module}
use Rattle.iss_transfer.specs.declared.pieces.Piece.{Piece as Sent_piece}
use Rattle.iss_transfer.proofs.AdoptionLemmas.{same-end}
use Rattle.iss_transfer.specs.Adoption.{said_in}
use Rattle.iss_composition.specs.Checkpoints.{scheme_of}
use Rattle.iss_composition.specs.Cluster.{chain, vote_statement}
use Rattle.iss_rules.specs.Concrete.{rules_of}
use Rattle.iss_model.specs.Node.{leads_to}
use Rattle.iss_rules.specs.Rules.{Rules}
use Rattle.iss_rules.specs.Setups.{IsSetupOf}
use Rattle.iss_rules.proofs.Layouts.{signed-spelled}
use Rattle.iss_log.proofs.LogLemmas.{requests-turned}
use Rattle.iss_theorems.proofs.Refinement.StepsHashChains.{chain-is}

-- the rules chain logs and vote for them as the set-up has it, and a signed request has an encoding
pub record IsVoting (s : Setup) (R : Rules) : Type 0 where
  pub ends : (log : List Value) → R.end log ≡ end_of s.version (reverse log)
  pub hashes : (log values : List Value) → R.hashes log values ≡ strings_from s.version (chain_of s.version (reverse log)) values
  pub quorum : R.quorum ≡ s.quorum
  pub voted : (e : ℕ) (a : List ℕ) (q : ℕ) → R.voted e a q ≡ vote_statement s e a q
  pub spelled : (q : Request) → R.signed q ≡ true → HasSpelling q

pub rules-voting : {Msg : Type 0} (M : Module Msg) (s : Setup) → IsSetupOf M s → IsVoting s (rules_of s)
rules-voting M s h = record {
  ends = λ log. refl;
  hashes = λ log values. refl;
  quorum = refl;
  voted = λ e a q. refl;
  spelled = signed-spelled s h.good.keys_height;
}

module _ (s : Setup) (R : Rules) (voting : IsVoting s R) where
  -- the end that identifies a log has its chain digest
  pub end-chain : (log : List Value) → (R.end log).chain ≡ chain (scheme_of s) log
  end-chain log = ap (λ (e : End). e.chain) (voting.ends log) ∙ sym (chain-is s log)

  pub end-requests : (log : List Value) → (R.end log).requests ≡ requests log
  end-requests log = ap (λ (e : End). e.requests) (voting.ends log) ∙ requests-turned log

  -- so a vote for it is one for its chain
  pub voted-is : (e : ℕ) (log : List Value) → R.voted e (R.end log).chain (R.end log).requests ≡ vote_statement s e (chain (scheme_of s) log) (requests log)
  voted-is e log =
      voting.voted e (R.end log).chain (R.end log).requests ∙
      ap₂ (λ (a : List ℕ) (q : ℕ). vote_statement s e a q) (end-chain log) (end-requests log)

  -- the values of a piece lead to the chain that its certificate states
  pub leads-chained : (before : List Value) (p : Sent_piece) → leads_to R before p ≡ true → p.cert.chain ≡ chain (scheme_of s) (push_all p.values before)
  leads-chained before p h =
      let same : R.end (push_all p.values before) ≡ said_in p.cert = same-end (R.end (push_all p.values before)) (said_in p.cert) h in
      sym (ap (λ (z : End). z.chain) same) ∙ end-chain (push_all p.values before)
