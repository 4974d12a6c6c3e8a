use Rattle.iss_sb.proofs.Cases.{added}
use Rattle.sb_echo.proofs.Hearing.{same_heard}
use Rattle.sb_echo.proofs.echoes.Echoes.hear.Goals as goal

pub returns : goal.returns
returns c s d k =
    added _ _ _ _ (same_heard (record { slot = c.args.slot.0; from = c.args.from.0; digest = c.args.digest }) (record { slot = s; from = k; digest = d })) (c.in_ok-insert.ensures.updates.0 (record { slot = s; from = k; digest = d }))
