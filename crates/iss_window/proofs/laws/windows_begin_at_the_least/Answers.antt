use Rattle.iss_window.proofs.LowLemmas.{low-least}
use Rattle.iss_window.proofs.laws.windows_begin_at_the_least.Goals as goal

pub returns : goal.returns
returns c = λ ids client. low-least ids client
