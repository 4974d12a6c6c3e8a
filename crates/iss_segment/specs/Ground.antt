-- What an epoch depends on: its division and its windows, by the log before it.
use Rattle.std.specs.Prelude.{◌≡◌, ℕ, List}
use Rattle.iss_layout.specs.Layout.{Plan}
use Rattle.iss_rules.specs.Concrete.{plan_at}
use Rattle.iss_request.specs.Log.{log_ids}
use Rattle.iss_request.specs.declared.requests.Value.{Value}
use Rattle.iss_request.specs.declared.setups.Setup.{Setup}
use Rattle.iss_window.specs.Kept.{Kept, RefinesNoted}
use Rattle.iss_window.specs.Window.{Noted}

-- The windows at the start of an epoch: they note all requests of earlier epochs, and have moved past them.
abbrev pub noted_before : List Value → Noted
noted_before before = record { all = log_ids before; closed = log_ids before }

pub record RestsOn (s : Setup) (before : List Value) (e : ℕ) (plan : Plan) (windows : Kept) : Type 0 where
  pub divided : plan ≡ plan_at s before e
  pub width : windows.width ≡ s.window
  pub noted : RefinesNoted windows (noted_before before)
