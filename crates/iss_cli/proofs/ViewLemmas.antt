-- A schedule that was read names a module that is there.
use Rattle.std.proofs.Common.{◌≡◌, ◌∙◌, ℕ, refl, ap}
use Rattle.iss_request.specs.declared.setups.Kind.TheVariants.{Byzantine, Stopping}
use Rattle.iss_request.specs.declared.setups.Setup.{Setup}
use Rattle.iss_rules.specs.Setups.{IsSetupOf}
use Rattle.iss_schedule.specs.Headers.{row_of}
use Rattle.iss_schedule.specs.Schedules.{IsKnown}
use Rattle.sb_chained.specs.Chained.{chained}
use Rattle.sb_hotstuff.specs.HotStuff.{hotstuff}
use Rattle.sb_pbft.specs.Pbft.{pbft}
use Rattle.sb_raft.specs.Raft.{raft}
use Rattle.sb_relay.specs.Relay.{relay}

pub setup_of_relay : (s : Setup) → IsKnown s → s.module ≡ 1 → IsSetupOf relay s
setup_of_relay s h is =
    record {
      good = h.good;
      kind = h.kind ∙ ap (λ (k : ℕ). (row_of k).kind) is;
      nodes = h.good.nodes ∙ rw is refl;
      majority = h.good.majority ∙ rw is refl;
    }

pub setup_of_raft : (s : Setup) → IsKnown s → s.module ≡ 2 → IsSetupOf raft s
setup_of_raft s h is =
    let stops : s.kind ≡ Stopping = h.kind ∙ ap (λ (k : ℕ). (row_of k).kind) is in
    record {
      good = h.good;
      kind = stops;
      nodes = h.good.nodes ∙ rw (is, stops) refl;
      majority = h.good.majority ∙ rw (is, stops) refl;
    }

pub setup_of_pbft : (s : Setup) → IsKnown s → s.module ≡ 3 → IsSetupOf pbft s
setup_of_pbft s h is =
    let lies : s.kind ≡ Byzantine = h.kind ∙ ap (λ (k : ℕ). (row_of k).kind) is in
    record {
      good = h.good;
      kind = lies;
      nodes = h.good.nodes ∙ rw (is, lies) refl;
      majority = h.good.majority ∙ rw (is, lies) refl;
    }

pub setup_of_hotstuff : (s : Setup) → IsKnown s → s.module ≡ 4 → IsSetupOf hotstuff s
setup_of_hotstuff s h is =
    let lies : s.kind ≡ Byzantine = h.kind ∙ ap (λ (k : ℕ). (row_of k).kind) is in
    record {
      good = h.good;
      kind = lies;
      nodes = h.good.nodes ∙ rw (is, lies) refl;
      majority = h.good.majority ∙ rw (is, lies) refl;
    }

pub setup_of_chained : (s : Setup) → IsKnown s → s.module ≡ 5 → IsSetupOf chained s
setup_of_chained s h is =
    let lies : s.kind ≡ Byzantine = h.kind ∙ ap (λ (k : ℕ). (row_of k).kind) is in
    record {
      good = h.good;
      kind = lies;
      nodes = h.good.nodes ∙ rw (is, lies) refl;
      majority = h.good.majority ∙ rw (is, lies) refl;
    }
