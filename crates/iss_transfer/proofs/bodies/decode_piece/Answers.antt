use Rattle.iss_request.proofs.Readings.{exit, unread_whole, unread_end, read_whole}
use Rattle.iss_transfer.specs.Bodies.{parse_piece}
use Rattle.iss_transfer.proofs.bodies.decode_piece.Goals as goal

pub returns-in_err-piece-clause-bad : goal.returns-in_err-piece-clause-bad
returns-in_err-piece-clause-bad c =
    exit c.from_residual.result _ _ c.from_residual.ensures.1 (λ at e.
    unread_whole (λ v. parse_piece v c.args.epoch.0) c.args.version c.args.bytes.now c.over-f.result at c.over-f.ensures (c.in_err-piece.ensures.bad at e))

pub returns-then-not-is_done-clause-bad : goal.returns-then-not-is_done-clause-bad
returns-then-not-is_done-clause-bad c at e =
    unread_end (λ v. parse_piece v c.args.epoch.0) c.args.version c.args.bytes.now c.over-f.result _ _ _ at c.over-f.ensures c.in_ok-piece.ensures.ok c.if-not-is_done.ensures c.bad_field.ensures e

pub returns-clause-ok : goal.returns-clause-ok
returns-clause-ok c = read_whole (λ v. parse_piece v c.args.epoch.0) c.args.version c.args.bytes.now c.over-f.result _ _ c.over-f.ensures c.in_ok-piece.ensures.ok c.if-not-is_done.ensures
