-- When a set-up is one of a module: it is good, and its kind, node count and quorum are the module's.
use Rattle.std.specs.Prelude.{◌≡◌}
use Rattle.iss_request.specs.Setup.{IsGoodSetup}
use Rattle.iss_request.specs.declared.setups.Setup.{Setup}
use Rattle.iss_sb.specs.Calls.{kind_of}
use Rattle.iss_sb.specs.Evidence.{Module}

-- a good set-up with the module's fault model, number of nodes, and quorum
pub record IsSetupOf {Msg : Type 0} (M : Module Msg) (s : Setup) : Type 0 where
  pub good : IsGoodSetup s
  pub kind : s.kind ≡ kind_of M.stopping
  pub nodes : s.n ≡ M.nodes s.f
  pub majority : s.quorum ≡ M.quorum s.f
