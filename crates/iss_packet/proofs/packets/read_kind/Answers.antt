use Rattle.std.proofs.Common.{arith, refl}
use Rattle.iss_request.proofs.Readings.{exit, named, unread_first, unread_failed, unread_tested}
use Rattle.iss_packet.specs.Packets.{parse_kind}
use Rattle.iss_packet.specs.declared.packets.PacketKind.TheVariants.{Message, Vote as Kind_vote, Ask, Piece as Kind_piece, Request as Kind_request}
use Rattle.iss_packet.proofs.PacketLemmas.{kind_read, other_kind}
use Rattle.iss_packet.proofs.packets.read_kind.Goals as goal

pub returns-in_err-kind-clause-bad : goal.returns-in_err-kind-clause-bad
unfolding parse_kind
returns-in_err-kind-clause-bad c =
    exit c.from_residual.result _ _ c.from_residual.ensures.1
    (λ at e. unread_first _ _ (unread_tested _ _ (c.in_err-kind.ensures.bad at e)))

pub returns-in-1-clause-ok : goal.returns-in-1-clause-ok
returns-in-1-clause-ok c = kind_read 1 _ _ _ Message c.in-1.is c.in_ok-kind.ensures.ok refl refl

pub returns-in-2-clause-ok : goal.returns-in-2-clause-ok
returns-in-2-clause-ok c = kind_read 2 _ _ _ Kind_vote c.in-2.is c.in_ok-kind.ensures.ok refl refl

pub returns-in-3-clause-ok : goal.returns-in-3-clause-ok
returns-in-3-clause-ok c = kind_read 3 _ _ _ Ask c.in-3.is c.in_ok-kind.ensures.ok refl refl

pub returns-in-4-clause-ok : goal.returns-in-4-clause-ok
returns-in-4-clause-ok c = kind_read 4 _ _ _ Kind_piece c.in-4.is c.in_ok-kind.ensures.ok refl refl

pub returns-in-5-clause-ok : goal.returns-in-5-clause-ok
returns-in-5-clause-ok c = kind_read 5 _ _ _ Kind_request c.in-5.is c.in_ok-kind.ensures.ok refl refl

pub returns-in_default-clause-bad : goal.returns-in_default-clause-bad
unfolding parse_kind
returns-in_default-clause-bad c at e =
    named parse_kind c.args.f.now _ _ at
    (unread_first _ _ (unread_failed _ _ c.in_ok-kind.ensures.ok
    (other_kind c.in_ok-kind.kind (omega arith) (omega arith) (omega arith) (omega arith) (omega arith))))
    c.bad_field-no_kind.ensures e
