use Rattle.iss_packet.proofs.packets.packets_are_exact.Goals as goal
use Rattle.iss_packet.proofs.OneSpelling.{packet_grammar, packet_table}

pub returns-clause-grammar : goal.returns-clause-grammar
returns-clause-grammar c = packet_grammar

pub returns-clause-packet_table : goal.returns-clause-packet_table
returns-clause-packet_table c = packet_table
