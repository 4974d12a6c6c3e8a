use Rattle.std.proofs.Common.{arith, ap, leb}
use Rattle.iss_packet.proofs.PacketLemmas.{spelling_test}
use Rattle.iss_packet.proofs.packets.Packet.has_spelling.Goals as goal

pub returns : goal.returns
returns c = spelling_test c.args.self.now _ (omega arith) (ap (λ n. leb n 200000000) c.len.ensures)
