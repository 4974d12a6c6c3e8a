use Rattle.std.proofs.Common.{rules, arith, ap, length, ◌++◌}
use Rattle.iss_disk.specs.Calls.{IfTold}
use Rattle.iss_journal.specs.Frames.{version_1}
use Rattle.iss_journal.specs.EntryViews.{entries_in}
use Rattle.iss_journal.specs.Promises.{Shows}
use Rattle.iss_journal.specs.RetainedViews.{shown_in}
use Rattle.iss_journal.proofs.Over.{finish_over, over1, over2, over3, over4}
use Rattle.iss_journal.proofs.Steps.{is_body, length-body}
use Rattle.iss_journal.proofs.keep.keep_entry.Goals as goal

pub returns-in_err-write_at : goal.returns-in_err-write_at
returns-in_err-write_at g c =
    let kept = c.args.kept.now in
    let entry = c.args.head.now ++ c.args.body.now in
    let staged = is_body (entries_in kept.entries.own) entry kept.entries.own.bytes.items c.staged-staged.result.now
    c.requires.staged c.staged-staged.ensures in
    let so = over1 kept entry c.requires.short c.end-gate.result c.staged-staged.result.now c.end-gate.ensures staged
    (g.D.Disk.state c.args.disk.now).history (g.D.Disk.state c.write_at.new.self).history c.requires.rests
    c.in_err-write_at.ensures.file in
    let kept_bytes : IfTold (g.D.Disk.state c.write_at.new.self).history
    (λ file. Shows version_1 (shown_in kept) file.kept) = so.stays in
    record {
      any_moment = so.moment;
      rests = search rules;
      stays = search rules;
      room = search rules;
      others = search rules;
      cause = search rules;
      device = search rules;
    }

pub returns-in_err-sync : goal.returns-in_err-sync
returns-in_err-sync g c =
    let kept = c.args.kept.now in
    let entry = c.args.head.now ++ c.args.body.now in
    let staged = is_body (entries_in kept.entries.own) entry kept.entries.own.bytes.items c.staged-staged.result.now
    c.requires.staged c.staged-staged.ensures in
    let so = over2 kept entry c.requires.short c.end-gate.result c.staged-staged.result.now c.end-gate.ensures staged
    (g.D.Disk.state c.args.disk.now).history (g.D.Disk.state c.write_at.new.self).history
    (g.D.Disk.state c.sync.new.self).history
    c.requires.rests c.in_ok-write_at.ensures.file c.in_err-sync.ensures.file in
    let kept_bytes : IfTold (g.D.Disk.state c.sync.new.self).history
    (λ file. Shows version_1 (shown_in kept) file.kept) = so.stays in
    record {
      any_moment = so.moment;
      rests = search rules;
      stays = search rules;
      room = search rules;
      others = search rules;
      cause = search rules;
      device = search rules;
    }

pub returns-in_err-write_at-2 : goal.returns-in_err-write_at-2
returns-in_err-write_at-2 g c =
    let kept = c.args.kept.now in
    let entry = c.args.head.now ++ c.args.body.now in
    let staged = is_body (entries_in kept.entries.own) entry kept.entries.own.bytes.items c.staged-staged.result.now
    c.requires.staged c.staged-staged.ensures in
    let so = over3 kept entry c.requires.short c.end-gate.result c.staged-staged.result.now c.end-gate.ensures staged
    (g.D.Disk.state c.args.disk.now).history (g.D.Disk.state c.write_at.new.self).history
    (g.D.Disk.state c.sync.new.self).history
    (g.D.Disk.state c.write_at-2.new.self).history c.requires.rests c.in_ok-write_at.ensures.file
    c.in_ok-sync.ensures.file
    c.in_err-write_at-2.ensures.file in
    let kept_bytes : IfTold (g.D.Disk.state c.write_at-2.new.self).history
    (λ file. Shows version_1 (shown_in kept) file.kept) = so.stays in
    record {
      any_moment = so.moment;
      rests = search rules;
      stays = search rules;
      room = search rules;
      others = search rules;
      cause = search rules;
      device = search rules;
    }

pub returns-in_err-sync-2 : goal.returns-in_err-sync-2
returns-in_err-sync-2 g c =
    let kept = c.args.kept.now in
    let entry = c.args.head.now ++ c.args.body.now in
    let staged = is_body (entries_in kept.entries.own) entry kept.entries.own.bytes.items c.staged-staged.result.now
    c.requires.staged c.staged-staged.ensures in
    let so = over4 kept entry c.requires.short c.end-gate.result c.staged-staged.result.now c.end-gate.ensures staged
    (g.D.Disk.state c.args.disk.now).history (g.D.Disk.state c.write_at.new.self).history
    (g.D.Disk.state c.sync.new.self).history
    (g.D.Disk.state c.write_at-2.new.self).history (g.D.Disk.state c.sync-2.new.self).history c.requires.rests
    c.in_ok-write_at.ensures.file c.in_ok-sync.ensures.file c.in_ok-write_at-2.ensures.file
    c.in_err-sync-2.ensures.file in
    let kept_bytes : IfTold (g.D.Disk.state c.sync-2.new.self).history
    (λ file. Shows version_1 (shown_in kept) file.kept) = so.stays in
    record {
      any_moment = so.moment;
      rests = search rules;
      stays = search rules;
      room = search rules;
      others = search rules;
      cause = search rules;
      device = search rules;
    }

pub returns : goal.returns
returns g c =
    let kept = c.args.kept.now in
    let entry = c.args.head.now ++ c.args.body.now in
    let staged = is_body (entries_in kept.entries.own) entry kept.entries.own.bytes.items c.staged-staged.result.now
    c.requires.staged c.staged-staged.ensures in
    let so = finish_over kept entry c.requires.short c.end-gate.result c.staged-staged.result.now c.end-gate.ensures
    staged
    (g.D.Disk.state c.args.disk.now).history (g.D.Disk.state c.write_at.new.self).history
    (g.D.Disk.state c.sync.new.self).history
    (g.D.Disk.state c.write_at-2.new.self).history (g.D.Disk.state c.sync-2.new.self).history c.requires.rests
    c.in_ok-write_at.ensures.file c.in_ok-sync.ensures.file c.in_ok-write_at-2.ensures.file
    c.in_ok-sync-2.ensures.file in
    record {
      any_moment = so.moment;
      rests = so.rests;
      stays = search rules;
      room = record {
        calls_left = omega (
          arith,
          c.in_ok-write_at.ensures.room.calls_left,
          c.in_ok-sync.ensures.room.calls_left,
          c.in_ok-write_at-2.ensures.room.calls_left,
          c.in_ok-sync-2.ensures.room.calls_left,
        );
        bytes_left = omega (
          arith,
          ap length staged,
          length-body entry,
          c.in_ok-write_at.ensures.room.bytes_left,
          c.in_ok-sync.ensures.room.bytes_left,
          c.in_ok-write_at-2.ensures.room.bytes_left,
          c.in_ok-sync-2.ensures.room.bytes_left,
        );
      };
      others = search rules;
      cause = search rules;
      device = search rules;
    }
