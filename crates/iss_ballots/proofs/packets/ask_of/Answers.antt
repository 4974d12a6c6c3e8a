use Rattle.std.proofs.Common.{ap, refl, sym, ◌∙◌}
use Rattle.iss_transfer.specs.Bodies.{parse_ask}
use Rattle.iss_rules.specs.Formats.{whole}
use Rattle.iss_ballots.proofs.PacketLemmas.{all-whole}
use Rattle.iss_ballots.proofs.packets.ask_of.Goals as goal

pub returns-in-Err-BadField : goal.returns-in-Err-BadField
returns-in-Err-BadField c =
    let bad = rw c.in-Err-BadField.field-0-is at c.in-Err-BadField.ensures.bad c.in-Err-BadField.field-0-0 refl in
    sym (ap (λ bytes. whole (parse_ask c.args.packet.now.epoch.0 bytes)) (sym c.as_slice.ensures) ∙ all-whole (parse_ask c.args.packet.now.epoch.0) c.as_slice.result.now (c.in-Err-BadField.field-0-0, bad))
