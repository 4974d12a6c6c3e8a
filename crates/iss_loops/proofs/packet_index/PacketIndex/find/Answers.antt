use Rattle.std.proofs.Common.{◌∙◌, ap, ℕ, List}
use Rattle.iss_loops.specs.Internal.PacketIndex.{first_match, listed}
use Rattle.iss_loops.proofs.IndexLemmas.{first-is}
use Rattle.iss_loops.proofs.packet_index.PacketIndex.find.Goals as goal

pub returns : goal.returns
returns c = λ h.
    c.first_match.ensures
    ∙ ap (λ (ks : List ℕ). first_match c.args.packets.now c.args.core c.args.bytes.now ks) (c.numbers.ensures ∙ ap (λ (key : ℕ). listed c.args.self.now key) c.key_of.ensures ∙ h _)
    ∙ first-is c.args.packets.now c.args.core c.args.bytes.now
