-- Which error of a packet follows from which error of a field.
use Rattle.iss_request.specs.declared.errors.DecodeError.{DecodeError}
use Rattle.iss_request.specs.declared.errors.DecodeError.TheVariants as fields
use Rattle.iss_packet.specs.declared.packets.PacketError.{PacketError}
use Rattle.iss_packet.specs.declared.packets.PacketError.TheVariants.{NotPacket, NoMemory}

abbrev pub as_packet_error : DecodeError → PacketError
as_packet_error (fields.BadField at) = NotPacket
as_packet_error fields.NoMemory = NoMemory
