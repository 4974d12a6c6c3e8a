use Rattle.std.proofs.Common.{sym}
use Rattle.iss_schedule.proofs.Encoding.SplitsAreUnique.{words_done}
use Rattle.iss_schedule.proofs.words.Words.is_done.Goals as goal

pub returns : goal.returns
returns c = words_done c.self.inside.more c.self.inside.rest.now c.args.self.now (sym c.self.view_is)
