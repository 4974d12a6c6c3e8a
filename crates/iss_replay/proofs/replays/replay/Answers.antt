use Rattle.iss_model.proofs.Ranges.{at-cores}
use Rattle.iss_replay.proofs.replays.replay.Goals as goal

pub returns-clause-whole : goal.returns-clause-whole
returns-clause-whole g c =
    let s = c.args.schedule.now.setup in
    let events = c.args.schedule.now.events in
    c.restarts_change_nothing.ensures s c.requires.good events (at-cores s events c.requires.range)
