-- A configuration of PBFT gives a set-up of that module, and one of the relay a set-up of the relay.
use Rattle.std.proofs.Common.{◌≡◌, ◌∙◌, ℕ, ◌<◌, ◌+◌, ◌*◌, ap, arith, refl}
use Rattle.iss_config.specs.Configs.{IsInRange, setup_of}
use Rattle.iss_config.specs.declared.configs.Config.{Config}
use Rattle.iss_request.specs.declared.setups.Kind.TheVariants.{Byzantine, Stopping}
use Rattle.iss_request.specs.declared.setups.Setup.{Setup}
use Rattle.iss_rules.specs.Setups.{IsSetupOf}
use Rattle.iss_schedule.specs.Headers.{row_of}
use Rattle.sb_pbft.specs.Pbft.{pbft}
use Rattle.sb_relay.specs.Relay.{relay}

pub is-pbft : (c : Config) → IsInRange c → c.module ≡ 3 → IsSetupOf pbft (setup_of c)
is-pbft c range is =
    let known = range.setup in
    let lies : (setup_of c).kind ≡ Byzantine = known.kind ∙ ap (λ (k : ℕ). (row_of k).kind) is in
    record {
      good = known.good;
      kind = lies;
      nodes = known.good.nodes ∙ rw (is) refl;
      majority = known.good.majority ∙ rw (is) refl;
    }

pub has-nodes : (s : Setup) → IsSetupOf pbft s → 0 < s.n
has-nodes s h = let n : s.n ≡ 3 * s.f + 1 = h.nodes in omega (arith, n)

pub is-relay : (c : Config) → IsInRange c → c.module ≡ 1 → IsSetupOf relay (setup_of c)
is-relay c range is =
    let known = range.setup in
    let stops : (setup_of c).kind ≡ Stopping = known.kind ∙ ap (λ (k : ℕ). (row_of k).kind) is in
    record {
      good = known.good;
      kind = stops;
      nodes = known.good.nodes ∙ rw (is) refl;
      majority = known.good.majority ∙ rw (is) refl;
    }
