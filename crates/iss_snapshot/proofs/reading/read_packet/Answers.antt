use Rattle.iss_request.specs.Parsing.{block}
use Rattle.iss_request.proofs.Parts.{read_as_is}
use Rattle.iss_request.proofs.ParserLemmas.{block_parts}
use Rattle.iss_request.proofs.Readings.{exit, read_then, unread_first, unread_then}
use Rattle.iss_snapshot.specs.Snapshots.{parse_packet_entry}
use Rattle.iss_snapshot.proofs.reading.read_packet.Goals as goal

pub returns-in_err-size-clause-bad : goal.returns-in_err-size-clause-bad
unfolding parse_packet_entry
returns-in_err-size-clause-bad c =
    exit c.from_residual.result _ _ c.from_residual.ensures.1 (λ at e.
    (unread_first _ _ (c.in_err-size.ensures.bad at e)))

pub returns-in_err-_lent-clause-bad : goal.returns-in_err-_lent-clause-bad
unfolding parse_packet_entry
returns-in_err-_lent-clause-bad c =
    exit c.from_residual-in_err-_lent.result _ _ c.from_residual-in_err-_lent.ensures.1 (λ at e.
    (unread_then _ _ c.in_ok-size.ensures.ok (c.in_err-_lent.ensures.bad at e)))

pub returns-clause-ok : goal.returns-clause-ok
unfolding parse_packet_entry
returns-clause-ok c =
    read_then _ _ c.in_ok-size.ensures.ok
    (read_as_is (block _) (λ bytes rest x found. (block_parts _ bytes rest x found).parts) _ c.at-first.result c.in_ok-_lent.ensures.ok
    c.in_ok-packet.ensures c.at-first.ensures)
