use Rattle.std.proofs.Common.{sym}
use Rattle.iss_request.proofs.Readings.{read_passed, unread_failed, unread_tested, unread_whole, left_over, read_whole}
use Rattle.iss_packet.specs.Packets.{is_routed, parse_parts, parse_packet}
use Rattle.iss_packet.proofs.packets.Packet.decode.Goals as goal
use Rattle.iss_packet.proofs.PacketLemmas

pub returns-in_err-packet-clause-bad : goal.returns-in_err-packet-clause-bad
unfolding parse_packet
returns-in_err-packet-clause-bad c =
    PacketLemmas.exit c.from_residual.result _ _ c.from_residual.ensures.1 (λ at e. (
      at,
      unread_whole (λ version. parse_packet version c.args.n) c.args.version c.args.bytes.now c.over_bytes-f.result at
          c.over_bytes-f.ensures (unread_tested _ _ (c.in_err-packet.ensures.bad at e)),
    ))

pub returns-then-not-has_route-clause-bad : goal.returns-then-not-has_route-clause-bad
unfolding parse_packet
returns-then-not-has_route-clause-bad c e = (
  _,
  unread_whole (λ version. parse_packet version c.args.n) c.args.version c.args.bytes.now c.over_bytes-f.result _
      c.over_bytes-f.ensures (unread_failed (is_routed c.args.n) (parse_parts _) c.in_ok-packet.ensures.ok
      (sym c.if-not-has_route.ensures)),
)

pub returns-then-not-is_done-clause-bad : goal.returns-then-not-is_done-clause-bad
unfolding parse_packet
returns-then-not-is_done-clause-bad c e = (
  _,
  left_over (λ version. parse_packet version c.args.n) c.args.version c.args.bytes.now c.over_bytes-f.result _ _
      c.over_bytes-f.ensures (read_passed (is_routed c.args.n) (parse_parts _) c.in_ok-packet.ensures.ok
      (sym c.if-not-has_route.ensures)) c.if-not-is_done.ensures,
)

pub returns-clause-ok : goal.returns-clause-ok
unfolding parse_packet
returns-clause-ok c =
    read_whole (λ version. parse_packet version c.args.n) c.args.version c.args.bytes.now c.over_bytes-f.result _ _
    c.over_bytes-f.ensures (read_passed (is_routed c.args.n) (parse_parts _) c.in_ok-packet.ensures.ok
    (sym c.if-not-has_route.ensures)) c.if-not-is_done.ensures
