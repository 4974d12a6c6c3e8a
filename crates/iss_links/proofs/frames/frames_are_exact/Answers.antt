use Rattle.iss_links.proofs.FrameLemmas.{frames-exact}
use Rattle.iss_links.proofs.frames.frames_are_exact.Goals as goal

pub returns : goal.returns
returns c = frames-exact
