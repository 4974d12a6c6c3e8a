use Rattle.std.proofs.Common.{ap, refl, sym, ◌∙◌}
use Rattle.iss_checkpoint.specs.Bodies.{parse_vote}
use Rattle.iss_rules.specs.Formats.{whole}
use Rattle.iss_ballots.proofs.PacketLemmas.{all-whole}
use Rattle.iss_ballots.proofs.packets.vote_of.Goals as goal

pub returns-in-Err-BadField : goal.returns-in-Err-BadField
returns-in-Err-BadField c =
    let bad = rw c.in-Err-BadField.field-0-is at c.in-Err-BadField.ensures.bad c.in-Err-BadField.field-0-0 refl in
    sym (ap (λ bytes. whole (parse_vote c.args.packet.now.from c.args.packet.now.epoch.0 bytes)) (sym c.as_slice.ensures) ∙ all-whole (parse_vote c.args.packet.now.from c.args.packet.now.epoch.0) c.as_slice.result.now (c.in-Err-BadField.field-0-0, bad))
