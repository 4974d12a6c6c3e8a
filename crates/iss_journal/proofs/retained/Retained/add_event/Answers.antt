use Rattle.std.proofs.Common.{arith, ◌+◌, ◌++◌, length}
use Rattle.iss_journal.specs.SharedViews.{shared_in}
use Rattle.iss_journal.proofs.RetainedLemmas.{count-event, end-after, ends-event, kept-after, past, shown-after, snapshots-event, with-event}
use Rattle.iss_journal.proofs.retained.Retained.add_event.Goals as goal

pub invariant_of-self : goal.invariant_of-self
invariant_of-self c =
    let now = c.args.self.now in
    let es = shared_in now.entries in
    let new = shared_in c.add.new.self in
    let entry = c.args.head.now ++ c.args.body in
    let is = with-event es new entry now.kept c.requires.event c.add.ensures.entries in
    let next = past now.end c.len.result c.args.head.now c.args.body c.len.ensures in
    record {
      kept = kept-after es new entry is;
      count = count-event es new entry is (length now.gates.items) c.requires.event now.count;
      ends = ends-event es new entry is now.start now.end _ c.requires.event now.ends next;
    }

pub returns : goal.returns
returns c =
    let now = c.args.self.now in
    let es = shared_in now.entries in
    let new = shared_in c.add.new.self in
    let entry = c.args.head.now ++ c.args.body in
    let is = with-event es new entry now.kept c.requires.event c.add.ensures.entries in
    let next = past now.end c.len.result c.args.head.now c.args.body c.len.ensures in
    record {
      entries = is;
      event = λ also. c.add.ensures.entries;
      retains = λ all r. record {
        shown = shown-after es new entry is all r.shown;
        snapshots = snapshots-event all entry now.gates.items c.requires.event r.snapshots;
        ends = end-after all entry now.end _ r.ends next;
      };
      grown = record {
        entries = c.add.ensures.longer;
        gates = omega arith;
        gates_room = omega arith;
        last = next;
      };
    }
