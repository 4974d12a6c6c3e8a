use Rattle.iss_journal.proofs.Resting.{gating, gate_synced}
use Rattle.std.proofs.Common.{rules, true, false}
use Rattle.iss_journal.proofs.settle.make_empty.Goals as goal

pub returns-in_err-write_at-clause-settles : goal.returns-in_err-write_at-clause-settles
returns-in_err-write_at-clause-settles g c =
    record {
      any_moment =
          gating c.args.bytes.now c.requires.brief false (g.D.Disk.state c.args.disk.now).history
          (g.D.Disk.state c.cut.new.self).history
          (g.D.Disk.state c.write_at.new.self).history c.requires.read c.in_ok-cut.ensures.file
          c.in_err-write_at.ensures.file;
      others = search rules;
      cause = search rules;
      works = search rules;
    }

pub returns-in_err-sync-clause-settles : goal.returns-in_err-sync-clause-settles
returns-in_err-sync-clause-settles g c =
    record {
      any_moment =
          gate_synced c.args.bytes.now c.requires.brief false (g.D.Disk.state c.args.disk.now).history
          (g.D.Disk.state c.cut.new.self).history (g.D.Disk.state c.write_at.new.self).history
          (g.D.Disk.state c.sync.new.self).history c.requires.read c.in_ok-cut.ensures.file
          c.in_ok-write_at.ensures.file
          c.in_err-sync.ensures.file;
      others = search rules;
      cause = search rules;
      works = search rules;
    }

pub returns-clause-settles : goal.returns-clause-settles
returns-clause-settles g c =
    record {
      any_moment =
          gate_synced c.args.bytes.now c.requires.brief true (g.D.Disk.state c.args.disk.now).history
          (g.D.Disk.state c.cut.new.self).history (g.D.Disk.state c.write_at.new.self).history
          (g.D.Disk.state c.sync.new.self).history c.requires.read c.in_ok-cut.ensures.file
          c.in_ok-write_at.ensures.file
          c.in_ok-sync.ensures.file;
      others = search rules;
      cause = search rules;
      works = search rules;
    }
