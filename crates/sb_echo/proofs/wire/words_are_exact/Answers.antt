use Rattle.sb_echo.proofs.Spelling.{word-related}
use Rattle.sb_echo.proofs.wire.words_are_exact.Goals as goal

pub returns : goal.returns
returns c = word-related
