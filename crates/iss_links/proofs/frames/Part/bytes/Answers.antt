use Rattle.std.proofs.Common.{arith}
use Rattle.iss_links.proofs.FrameLemmas.{part-bytes}
use Rattle.iss_links.proofs.frames.Part.bytes.Goals as goal

pub returns : goal.returns
returns c = part-bytes c.args.self.now.packet.now.bytes.now _ _ 1024 _ (omega arith) (omega (arith, c.args.self.now.within)) c.min-end.ensures
