use Rattle.sb_echo.proofs.Steps.{casts-means}
use Rattle.sb_echo.proofs.echo.EchoSequenced.casts.Goals as goal

pub returns : goal.returns
returns c me xs batch st = casts-means c.args.self.now c.args.p.now me xs st c.args.slot batch _ c.may_cast.ensures
