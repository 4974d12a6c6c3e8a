-- What holds of every core of every run whose requests have encodings.
use Rattle.std.specs.Prelude.{ℕ}
use Rattle.iss_base.specs.Lists.{In}
use Rattle.iss_request.specs.Formats.{HasSpelling}
use Rattle.iss_request.specs.declared.requests.Request.{Request}
use Rattle.iss_sb.specs.Evidence.{Module}
use Rattle.iss_rules.specs.Rules.{Rules}
use Rattle.iss_model.specs.Node.{Core}
use Rattle.iss_model.specs.Sound.{IsSoundCore, held}

-- and all requests that it holds have encodings
pub record IsReadyCore {Msg : Type 0} (R : Rules) (M : Module Msg) (me : ℕ) (c : Core Msg) : Type 0 where
  pub sound : IsSoundCore R M me c
  pub spelled : (q : Request) → In q (held c) → HasSpelling q
