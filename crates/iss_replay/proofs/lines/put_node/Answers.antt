use Rattle.std.proofs.Common.{ap, length}
use Rattle.iss_replay.proofs.TextLemmas.{block-is}
use Rattle.iss_replay.proofs.lines.put_node.Goals as goal

pub returns : goal.returns
returns c = block-is _ _ _ c.args.node.0 c.args.epoch.0 _ _ c.args.log.now.entries (ap length c.entries.ensures) c.requests.ensures c.in_ok-put_node_line.ensures c.put_slots.result c.put_slots.ensures
