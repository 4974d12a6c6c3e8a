-- Counting a vote refines the model's step.
use Rattle.std.proofs.Common.{◌≡◌, ℕ, suc, Bool, true, false, cond, not, List, [], ◌∷◌, ◌++◌, nat_lt, refl, sym, ap, ◌∙◌, subst, Ok, Err}
use Rattle.iss_ballots.specs.Ballots.{AreKept, BallotsState, is_held, is_true, stable_by}
use Rattle.iss_checkpoint.specs.Votes.{Voters, voters_of}
use Rattle.iss_checkpoint.specs.declared.votes.Cert.{Cert}
use Rattle.iss_checkpoint.specs.declared.votes.Vote.{Vote}
use Rattle.iss_keys.specs.Directories.{DirectoryView}
use Rattle.iss_rules.proofs.Checked.{vote-same}
use Rattle.iss_rules.specs.Concrete.{keys_of, rules_of}
use Rattle.iss_rules.specs.Votes.{all_verify, claim_of_vote}
use Rattle.iss_model.specs.Node.{Core, Dropped, Taken, counted, is_counted, takes_vote, unchanged}
use Rattle.iss_rules.specs.Past.{Past}
use Rattle.iss_rules.specs.Rules.{Rules}
use Rattle.iss_rules.specs.declared.events.Why.TheVariants.{BadClaim, Known, OtherEpoch}
use Rattle.iss_node.proofs.Steps.EntriesCompose.{nothing-entered}
use Rattle.iss_node.proofs.Steps.OutcomesCompose.{nothing, nothing-made, nothing-sent}
use Rattle.iss_node.specs.Internal.Shape.{IsNodeState}
use Rattle.iss_node.specs.State.{RefinesPast, StateRefinesCore, StateView}
use Rattle.iss_node.specs.Steps.{IsHeldStep}
use Rattle.iss_node.specs.declared.answers.Outcome.{Outcome}
use Rattle.iss_request.specs.declared.setups.Setup.{Setup}
use Rattle.iss_sb.specs.Evidence.{Item, Module}
use Rattle.iss_sb.specs.declared.effects.Params.{Params}

-- The claim of a vote is valid if and only if its signature is.
pub true-verified : (s : Setup) (w : Voters) (v : Vote) → w ≡ voters_of s (keys_of s) → all_verify (rules_of s) (claim_of_vote (rules_of s) v ∷ []) ≡ is_true w v
true-verified s w v is = sym (vote-same s v) ∙ ap (λ (z : Voters). is_true z v) (sym is)

-- The model's step for a vote, by the results of the node's checks.
pub vote-step : {Msg : Type 0} (R : Rules) (c : Core Msg) (v : Vote) (a b k : Bool) → nat_lt (suc c.past.epoch) v.epoch.0 ≡ a → all_verify R (claim_of_vote R v ∷ []) ≡ b → is_counted c v ≡ k →
    takes_vote R c v ≡ cond a (Dropped OtherEpoch) (cond (not b) (Dropped BadClaim) (cond k (Dropped Known) (Taken (unchanged (counted R c v)))))
vote-step R c v a b k ha hb hk = rw (ha, hb, hk) refl

module _ {M Msg : Type 0} (m : Module Msg) (refines : M → Params → ℕ → List (Item Msg) → Type 0) (v : StateView M Msg) where
  -- If only the ballots change, the state still refines its history.
  pub ballots-tied : (ballots : BallotsState) (past : Past Msg) → RefinesPast m refines v past → RefinesPast m refines (record v { ballots = ballots }) past
  ballots-tied ballots past tied = record {
    epoch = tied.epoch;
    log = tied.log;
    chained = tied.chained;
    rests = tied.rests;
    standing = tied.standing;
    start = tied.start;
    begun = tied.begun;
    cells = tied.cells;
    outside = tied.outside;
    hole = tied.hole;
    leading = tied.leading;
    instances = tied.instances;
    accepted = tied.accepted;
    logged = tied.logged;
    flown = tied.flown;
    sound = tied.sound;
    keys = tied.keys;
  }

  pub ballots-held : (w : StateView M Msg) (ballots : BallotsState) (c : Core Msg) (votes : List Vote) (certs : List Cert) → w ≡ record v { ballots = ballots } → StateRefinesCore m refines v c → AreKept ballots votes certs →
      StateRefinesCore m refines w (record c { votes = votes; certs = certs })
  ballots-held w ballots c votes certs is h k =
      subst (λ (z : StateView M Msg). StateRefinesCore m refines z (record c { votes = votes; certs = certs })) (sym is)
      (record { state = record { core = h.state.core; tied = ballots-tied ballots c.past h.state.tied }; kept = k })

  -- A vote on an epoch too far ahead.
  pub vote-far : (vote : Vote) (c : Core Msg) → StateRefinesCore m refines v c → nat_lt (suc v.epoch) vote.epoch.0 ≡ true → IsHeldStep m refines (Unit {0}) c (takes_vote (rules_of v.setup) c vote) v (Err OtherEpoch)
  vote-far vote c h far =
      let epoch : v.epoch ≡ c.past.epoch = h.state.tied.epoch in
      let away : nat_lt (suc c.past.epoch) vote.epoch.0 ≡ true = ap (λ (e : ℕ). nat_lt (suc e) vote.epoch.0) (sym epoch) ∙ far in
      record { step_is = rw away refl; refined = h }

  module _ (shape : IsNodeState m v) (vote : Vote) (near : nat_lt (suc v.epoch) vote.epoch.0 ≡ false) (w : StateView M Msg) (ballots : BallotsState) (is : w ≡ record v { ballots = ballots })
      (same : ballots.voters ≡ v.ballots.voters) (c : Core Msg) (h : StateRefinesCore m refines v c) where
    voters-are : ballots.voters ≡ voters_of v.setup (keys_of v.setup)
    voters-are = same ∙ shape.voters ∙ ap (λ (d : DirectoryView). voters_of v.setup d) shape.directory

    close : nat_lt (suc c.past.epoch) vote.epoch.0 ≡ false
    close = let epoch : v.epoch ≡ c.past.epoch = h.state.tied.epoch in ap (λ (e : ℕ). nat_lt (suc e) vote.epoch.0) (sym epoch) ∙ near

    verified : (b : Bool) → is_true ballots.voters vote ≡ b → all_verify (rules_of v.setup) (claim_of_vote (rules_of v.setup) vote ∷ []) ≡ b
    verified b q = true-verified v.setup ballots.voters vote voters-are ∙ q

    pub vote-bad : (is_true ballots.voters vote ≡ false) × AreKept ballots c.votes c.certs → IsHeldStep m refines (Unit {0}) c (takes_vote (rules_of v.setup) c vote) w (Err BadClaim)
    vote-bad k = record {
      step_is = vote-step (rules_of v.setup) c vote false false _ close (verified false k.0) refl;
      refined = ballots-held w ballots c c.votes c.certs is h k.1;
    }

    pub vote-known : (is_true ballots.voters vote ≡ true) × (is_held c.votes c.certs vote ≡ true) × AreKept ballots c.votes c.certs → IsHeldStep m refines (Unit {0}) c (takes_vote (rules_of v.setup) c vote) w (Err Known)
    vote-known k = record {
      step_is = vote-step (rules_of v.setup) c vote false true true close (verified true k.0) k.1;
      refined = ballots-held w ballots c c.votes c.certs is h k.2;
    }

    pub vote-counted : (asked : Type 0) (o : Outcome) → o ≡ nothing →
        (is_true ballots.voters vote ≡ true) × (is_held c.votes c.certs vote ≡ false) × AreKept ballots (vote ∷ c.votes) (stable_by ballots.voters (vote ∷ c.votes) vote ++ c.certs) →
        IsHeldStep m refines asked c (takes_vote (rules_of v.setup) c vote) w (Ok o)
    vote-counted asked o none k =
        let kept : AreKept ballots (vote ∷ c.votes) (stable_by (voters_of v.setup (keys_of v.setup)) (vote ∷ c.votes) vote ++ c.certs) =
        subst (λ (z : Voters). AreKept ballots (vote ∷ c.votes) (stable_by z (vote ∷ c.votes) vote ++ c.certs)) voters-are k.2 in
        record {
          turn = unchanged (counted (rules_of v.setup) c vote);
          step_is = vote-step (rules_of v.setup) c vote false true false close (verified true k.0) k.1;
          turned = record {
            refined = ballots-held w ballots c (vote ∷ c.votes) _ is h kept;
            made = nothing-made (counted (rules_of v.setup) c vote) o none;
            entered = nothing-entered o none;
            addressed = λ a. nothing-sent w.setup.n o none;
          };
        }
