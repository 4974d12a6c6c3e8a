use Rattle.sb_relay.proofs.Safe.{relay-accepts-once, relay-decides-readable, relay-lawful, relay-once, relay-safe}
use Rattle.sb_relay.proofs.Spelling.{say-grammar}
use Rattle.sb_relay.proofs.relay.RelaySequenced.laws.Goals as goal

pub returns-clause-grammar : goal.returns-clause-grammar
returns-clause-grammar c = say-grammar

pub returns-clause-lawful : goal.returns-clause-lawful
returns-clause-lawful c = relay-lawful

pub returns-clause-safe : goal.returns-clause-safe
returns-clause-safe c = relay-safe

pub returns-clause-accepts_once : goal.returns-clause-accepts_once
returns-clause-accepts_once c = relay-accepts-once

pub returns-clause-signs_once : goal.returns-clause-signs_once
returns-clause-signs_once c = relay-once

pub returns-clause-decides_readable : goal.returns-clause-decides_readable
returns-clause-decides_readable c = relay-decides-readable
