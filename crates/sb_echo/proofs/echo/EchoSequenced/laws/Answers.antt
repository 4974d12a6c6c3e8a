use Rattle.sb_echo.proofs.Lawful.{echo-decides-readable, echo-lawful}
use Rattle.sb_echo.proofs.Once.{echo-once}
use Rattle.sb_echo.proofs.Safe.{echo-accepts-once, echo-safe}
use Rattle.sb_echo.proofs.Spelling.{word-grammar}
use Rattle.sb_echo.proofs.echo.EchoSequenced.laws.Goals as goal

pub returns-clause-grammar : goal.returns-clause-grammar
returns-clause-grammar c = word-grammar

pub returns-clause-lawful : goal.returns-clause-lawful
returns-clause-lawful c = echo-lawful

pub returns-clause-safe : goal.returns-clause-safe
returns-clause-safe c = echo-safe

pub returns-clause-accepts_once : goal.returns-clause-accepts_once
returns-clause-accepts_once c = echo-accepts-once

pub returns-clause-signs_once : goal.returns-clause-signs_once
returns-clause-signs_once c = echo-once

pub returns-clause-decides_readable : goal.returns-clause-decides_readable
returns-clause-decides_readable c = echo-decides-readable
