use Rattle.std.proofs.Common.{sym, refl, ap}
use Rattle.iss_ballots.proofs.PacketLemmas.{all-whole}
use Rattle.iss_rules.specs.Formats.{parcel_in}
use Rattle.iss_packet.specs.Packets.{parse_packet}
use Rattle.iss_node.proofs.parcels.unwrap.Goals as goal

pub returns-in-Err-NotPacket-clause-seen : goal.returns-in-Err-NotPacket-clause-seen
returns-in-Err-NotPacket-clause-seen g c = sym (ap (λ o. parcel_in g.M.Sequenced.spec c.args.setup.now.version o) (all-whole (parse_packet c.args.setup.now.version c.args.setup.now.n) c.args.bytes.now (rw c.in-Err-NotPacket.field-0-is at c.in-Err-NotPacket.ensures.bad refl)))
