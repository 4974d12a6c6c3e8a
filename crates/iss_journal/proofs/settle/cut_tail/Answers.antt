use Rattle.std.proofs.Common.{rules, ◌≡◌, ◌+◌, ◌≤◌, ℕ, true, false, length, ap, subst}
use Rattle.iss_disk.specs.File.{shortened}
use Rattle.iss_disk.specs.Calls.{Moves}
use Rattle.iss_journal.specs.Frames.{frames}
use Rattle.iss_journal.specs.EntryViews.{entries_in}
use Rattle.iss_journal.proofs.Resting.{cutting, cut_synced, cut_done, cut_file, nothing_done, rests_already, left_whole}
use Rattle.iss_journal.proofs.settle.cut_tail.Goals as goal

pub returns-in_err-cut-clause-settles : goal.returns-in_err-cut-clause-settles
returns-in_err-cut-clause-settles g c =
    let place : c.last.result + 1 ≡ length (frames (entries_in c.args.entries.now)) + 1 =
    ap (λ (n : ℕ). n + 1) c.last.ensures.offset in
    let moved : Moves (shortened (length (frames (entries_in c.args.entries.now)) + 1)) false
    (g.D.Disk.state c.args.disk.now).history (g.D.Disk.state c.cut.new.self).history =
    subst (λ (n : ℕ). Moves (shortened n) false (g.D.Disk.state c.args.disk.now).history
    (g.D.Disk.state c.cut.new.self).history) place c.in_err-cut.ensures.file in
    record {
      any_moment =
          cutting (entries_in c.args.entries.now) c.args.entries.now.bytes.items c.requires.ends false
          (g.D.Disk.state c.args.disk.now).history (g.D.Disk.state c.cut.new.self).history c.requires.read moved;
      others = search rules;
      cause = search rules;
      works = search rules;
    }

pub returns-in_err-sync-clause-settles : goal.returns-in_err-sync-clause-settles
returns-in_err-sync-clause-settles g c =
    let place : c.last.result + 1 ≡ length (frames (entries_in c.args.entries.now)) + 1 =
    ap (λ (n : ℕ). n + 1) c.last.ensures.offset in
    let moved : Moves (shortened (length (frames (entries_in c.args.entries.now)) + 1)) true
    (g.D.Disk.state c.args.disk.now).history (g.D.Disk.state c.cut.new.self).history =
    subst (λ (n : ℕ). Moves (shortened n) true (g.D.Disk.state c.args.disk.now).history
    (g.D.Disk.state c.cut.new.self).history)
    place c.in_ok-cut.ensures.file in
    record {
      any_moment =
          cut_synced (entries_in c.args.entries.now) c.args.entries.now.bytes.items c.requires.ends false
          (g.D.Disk.state c.args.disk.now).history (g.D.Disk.state c.cut.new.self).history
          (g.D.Disk.state c.sync.new.self).history c.requires.read moved c.in_err-sync.ensures.file;
      others = search rules;
      cause = search rules;
      works = search rules;
    }

pub returns-in_ok-sync-clause-settles : goal.returns-in_ok-sync-clause-settles
returns-in_ok-sync-clause-settles g c =
    let place : c.last.result + 1 ≡ length (frames (entries_in c.args.entries.now)) + 1 =
    ap (λ (n : ℕ). n + 1) c.last.ensures.offset in
    let moved : Moves (shortened (length (frames (entries_in c.args.entries.now)) + 1)) true
    (g.D.Disk.state c.args.disk.now).history (g.D.Disk.state c.cut.new.self).history =
    subst (λ (n : ℕ). Moves (shortened n) true (g.D.Disk.state c.args.disk.now).history
    (g.D.Disk.state c.cut.new.self).history)
    place c.in_ok-cut.ensures.file in
    record {
      any_moment =
          cut_synced (entries_in c.args.entries.now) c.args.entries.now.bytes.items c.requires.ends true
          (g.D.Disk.state c.args.disk.now).history (g.D.Disk.state c.cut.new.self).history
          (g.D.Disk.state c.sync.new.self).history c.requires.read moved c.in_ok-sync.ensures.file;
      others = search rules;
      cause = search rules;
      works = search rules;
    }

pub returns-else-has_tail-clause-settles : goal.returns-else-has_tail-clause-settles
returns-else-has_tail-clause-settles g c =
    record {
      any_moment =
          nothing_done (entries_in c.args.entries.now) c.args.entries.now.bytes.items c.requires.ends
          (g.D.Disk.state c.args.disk.now).history c.requires.read;
      others = search rules;
      cause = search rules;
      works = search rules;
    }

pub returns-in_ok-sync-clause-done : goal.returns-in_ok-sync-clause-done
returns-in_ok-sync-clause-done g c =
    let place : c.last.result + 1 ≡ length (frames (entries_in c.args.entries.now)) + 1 =
    ap (λ (n : ℕ). n + 1) c.last.ensures.offset in
    let moved : Moves (shortened (length (frames (entries_in c.args.entries.now)) + 1)) true
    (g.D.Disk.state c.args.disk.now).history (g.D.Disk.state c.cut.new.self).history =
    subst (λ (n : ℕ). Moves (shortened n) true (g.D.Disk.state c.args.disk.now).history
    (g.D.Disk.state c.cut.new.self).history)
    place c.in_ok-cut.ensures.file in
    record {
      rests =
          cut_done (entries_in c.args.entries.now) c.args.entries.now.bytes.items c.requires.ends
          (g.D.Disk.state c.args.disk.now).history (g.D.Disk.state c.cut.new.self).history
          (g.D.Disk.state c.sync.new.self).history c.requires.read moved c.in_ok-sync.ensures.file;
      file =
          cut_file (entries_in c.args.entries.now) c.args.entries.now.bytes.items c.requires.ends
          (g.D.Disk.state c.args.disk.now).history (g.D.Disk.state c.cut.new.self).history
          (g.D.Disk.state c.sync.new.self).history c.requires.read moved c.in_ok-sync.ensures.file;
    }

pub returns-else-has_tail-clause-done : goal.returns-else-has_tail-clause-done
returns-else-has_tail-clause-done g c =
    let brief : length c.args.entries.now.bytes.items ≤ length (frames (entries_in c.args.entries.now)) + 1 =
    search rules in
    record {
      rests =
          rests_already (entries_in c.args.entries.now) c.args.entries.now.bytes.items c.requires.ends
          (g.D.Disk.state c.args.disk.now).history c.requires.read brief;
      file =
          left_whole (entries_in c.args.entries.now) c.args.entries.now.bytes.items c.requires.ends
          (g.D.Disk.state c.args.disk.now).history c.requires.read brief;
    }
