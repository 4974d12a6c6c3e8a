use Rattle.iss_request.proofs.FormatLemmas.{both_written}
use Rattle.iss_packet.proofs.PacketLemmas.{packet_spelled, packet_unspelled, spellable_length}
use Rattle.iss_packet.proofs.packets.Packet.write.Goals as goal

pub put_body-requires : goal.put_body-requires
put_body-requires c = spellable_length c.args.self.now c.if-has_spelling.ensures

pub returns-in_ok-put_route : goal.returns-in_ok-put_route
returns-in_ok-put_route c =
    rw (packet_spelled c.args.out.now.version c.args.self.now c.if-has_spelling.ensures)
    (both_written _ _ _ _ _ _ c.in_ok-put_route.ensures c.put_body.ensures)

pub returns-else-has_spelling : goal.returns-else-has_spelling
returns-else-has_spelling c =
    rw (packet_unspelled c.args.out.now.version c.args.self.now c.if-has_spelling.ensures) c.put_u8.ensures.ok
