use Rattle.iss_node.proofs.Wire.SendersExist.{carried-from, from-any, from-node, from-of, sender-below}
use Rattle.iss_packet.specs.declared.packets.PacketKind.TheVariants.{Ask, Piece as Kind_piece, Vote as Kind_vote}
use Rattle.iss_node.proofs.parcels.open.Goals as goal

pub returns-in-Message-clause-from : goal.returns-in-Message-clause-from
returns-in-Message-clause-from g c = from-node c.args.n c.args.packet c.open_message.result c.in-Message.is c.requires c.open_message.ensures.from

pub returns-in-Request-clause-from : goal.returns-in-Request-clause-from
returns-in-Request-clause-from g c = from-any c.args.n c.open_request.result c.open_request.ensures.asked

pub returns-in_ok-vote-in-Vote-clause-from : goal.returns-in_ok-vote-in-Vote-clause-from
returns-in_ok-vote-in-Vote-clause-from g c =
    carried-from c.args.n c.args.packet c.body_of_vote.result c.with_body.result c.with_body.ensures (sender-below c.args.n c.args.packet Kind_vote c.in-Vote.is c.requires (λ first. from-of _ _ first))

pub returns-in-Ask-clause-from : goal.returns-in-Ask-clause-from
returns-in-Ask-clause-from g c =
    carried-from c.args.n c.args.packet c.body_of_ask.result c.with_body-in-Ask.result c.with_body-in-Ask.ensures (sender-below c.args.n c.args.packet Ask c.in-Ask.is c.requires (λ first. from-of _ _ first))

pub returns-in_ok-piece-in-Piece-clause-from : goal.returns-in_ok-piece-in-Piece-clause-from
returns-in_ok-piece-in-Piece-clause-from g c =
    carried-from c.args.n c.args.packet c.body_of_piece.result c.with_body-in-Piece.result c.with_body-in-Piece.ensures (sender-below c.args.n c.args.packet Kind_piece c.in-Piece.is c.requires (λ first. from-of _ _ first))
