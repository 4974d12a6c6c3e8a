-- The frame of a run: set-up, formats, rules and module, which stay the same throughout it. What one node does in a
-- frame has the suffix `_in`.
use Rattle.std.specs.Prelude.{ℕ, List}
use Rattle.iss_request.specs.declared.setups.Setup.{Setup}
use Rattle.iss_sb.specs.declared.effects.Claim.{Claim}
use Rattle.iss_sb.specs.Evidence.{Module}
use Rattle.iss_rules.specs.declared.events.NodeEvent.{NodeEvent}
use Rattle.iss_rules.specs.Concrete.{rules_of}
use Rattle.iss_rules.specs.Formats.{formats_of}
use Rattle.iss_rules.specs.Parcels.{Formats}
use Rattle.iss_rules.specs.Rules.{Rules}
use Rattle.iss_model.specs.Node.{Core, Stepped, Turn, ends, finish_step, step}
use Rattle.iss_model.specs.Run.{claims_at}
use Rattle.iss_model.specs.Views.{claims_of_bytes}

-- a set-up, the packet formats, the rules of the log, and the ordering module
pub record Frame (Msg : Type 0) : Type 1 where
  pub setup : Setup
  pub formats : Formats Msg
  pub rules : Rules
  pub spec : Module Msg

-- the frame of a set-up and a module
abbrev pub frame_of : {Msg : Type 0} → Setup → Module Msg → Frame Msg
frame_of s M = record { setup = s; formats = formats_of s M; rules = rules_of s; spec = M }

abbrev pub step_in : {Msg : Type 0} → Frame Msg → ℕ → Core Msg → NodeEvent → Stepped Msg
step_in W me c event = step W.formats W.rules W.spec me c event

abbrev pub finish_step_in : {Msg : Type 0} → Frame Msg → ℕ → Stepped Msg → Stepped Msg
finish_step_in W me stepped = finish_step W.formats W.rules W.spec me stepped

abbrev pub ends_in : {Msg : Type 0} → Frame Msg → ℕ → Core Msg → Turn Msg
ends_in W me c = ends W.formats W.rules W.spec me c

abbrev pub claims_of_bytes_in : {Msg : Type 0} → Frame Msg → ℕ → Core Msg → List ℕ → List Claim
claims_of_bytes_in W me c bytes = claims_of_bytes W.formats W.rules W.spec me c bytes

abbrev pub claims_at_in : {Msg : Type 0} → Frame Msg → ℕ → Core Msg → NodeEvent → List Claim
claims_at_in W me c event = claims_at W.formats W.rules W.spec me c event
