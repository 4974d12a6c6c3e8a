use Rattle.std.proofs.Common.{◌∙◌, ap, ℕ}
use Rattle.std.proofs.lemmas.Result.{on_ok_weaker}
use Rattle.iss_loops.specs.Internal.PacketIndex.{key_from}
use Rattle.std.proofs.Common.{List}
use Rattle.iss_loops.proofs.IndexLemmas.{added}
use Rattle.iss_loops.proofs.packet_index.PacketIndex.add.Goals as goal

pub returns : goal.returns
returns c =
    on_ok_weaker c.put_list.result (λ put packets h number. added c.args.self.now c.take_list-numbers.new.self c.put_list.new.self packets c.args.packet.now c.args.number c.key_of-key.result
    c.take_list-numbers.result.items c.push.new.self.items h number (c.key_of-key.ensures ∙ ap (λ (bytes : List ℕ). key_from c.args.packet.now.to bytes) c.as_slice.ensures)
    c.take_list-numbers.ensures.list c.take_list-numbers.ensures.left put c.in_ok-push.ensures.items) c.put_list.ensures
