use Rattle.std.proofs.Common.{ap, length}
use Rattle.iss_replay.proofs.TextLemmas.{first-line-is}
use Rattle.iss_replay.proofs.summaries.put_first_line.Goals as goal

pub returns : goal.returns
returns c = first-line-is _ _ c.args.node.0 c.args.epoch.0 _ _ c.args.log.now.entries (ap length c.entries.ensures) c.requests.ensures c.put_node_line.result c.put_node_line.ensures
