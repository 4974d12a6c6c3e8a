use Rattle.std.proofs.Common.{ap, ◌∙◌}
use Rattle.iss_request.specs.Formats.{version_byte}
use Rattle.iss_packet.proofs.PacketLemmas.{five_written}
use Rattle.iss_packet.proofs.packets.Packet.put_route.Goals as goal

pub returns : goal.returns
returns c =
    five_written _ _ _ _ _ _ _ _ _ _ _
    (rw (c.version_byte-first.ensures ∙ ap version_byte c.version.ensures) at c.in_ok-put_u8.ensures.ok)
    (rw c.byte_of.ensures at c.in_ok-put_u8-2.ensures.ok) c.in_ok-put_u8-3.ensures.ok c.in_ok-put_u64.ensures.ok
    c.in_ok-put_u8-4.ensures.ok
