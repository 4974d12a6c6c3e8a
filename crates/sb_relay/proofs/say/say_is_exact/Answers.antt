use Rattle.sb_relay.proofs.Spelling.{say-related}
use Rattle.sb_relay.proofs.say.say_is_exact.Goals as goal

pub returns : goal.returns
returns c version said bytes = say-related version said bytes
