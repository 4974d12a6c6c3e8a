use Rattle.std.proofs.Common.{rules, ◌≡◌, ◌+◌, ◌<◌, ◌≤◌, ℕ, List, [], length, take, subst}
use Rattle.iss_disk.specs.File.{settled}
use Rattle.iss_disk.specs.Calls.{IfTold}
use Rattle.iss_journal.specs.Frames.{frames, ClosesAfter, holds}
use Rattle.iss_journal.specs.EntryViews.{entries_in}
use Rattle.iss_journal.proofs.Reading.{reads_same, reads_like, brief_reads, whole_reads, brief_rests, whole_rests}
use Rattle.iss_journal.proofs.load.load.Goals as goal

pub returns-in_err-bytes-clause-only : goal.returns-in_err-bytes-clause-only
returns-in_err-bytes-clause-only g c =
    record {
      any_moment =
          reads_same (g.D.Disk.state c.args.disk.now).history
          (g.D.Disk.state c.read_file.new.disk).history c.requires.on_disk c.read_file.ensures.only.history;
      others = search rules;
      cause = search rules;
      works = search rules;
    }

pub returns-in_err-entries-clause-only : goal.returns-in_err-entries-clause-only
returns-in_err-entries-clause-only g c =
    record {
      any_moment =
          reads_same (g.D.Disk.state c.args.disk.now).history
          (g.D.Disk.state c.read_file.new.disk).history c.requires.on_disk c.read_file.ensures.only.history;
      others = search rules;
      cause = search rules;
      works = search rules;
    }

pub returns-in-Damaged-clause-only : goal.returns-in-Damaged-clause-only
returns-in-Damaged-clause-only g c =
    record {
      any_moment =
          reads_same (g.D.Disk.state c.args.disk.now).history
          (g.D.Disk.state c.read_file.new.disk).history c.requires.on_disk c.read_file.ensures.only.history;
      others = search rules;
      cause = search rules;
      works = search rules;
    }

pub returns-in_err-make_empty-clause-only : goal.returns-in_err-make_empty-clause-only
returns-in_err-make_empty-clause-only g c =
    let content : IfTold (g.D.Disk.state c.args.disk.now).history (λ file. c.in_ok-bytes.bytes.items ≡ file.content) =
    search rules in
    let brief : length c.in_ok-bytes.bytes.items ≤ 1 = search rules in
    record {
      any_moment =
          reads_like (g.D.Disk.state c.args.disk.now).history (g.D.Disk.state c.read_file.new.disk).history
          (g.D.Disk.state c.make_empty.new.disk).history (holds []) c.read_file.ensures.only.history
          (brief_reads (g.D.Disk.state c.args.disk.now).history c.in_ok-bytes.bytes.items content brief)
          c.make_empty.ensures.settles.any_moment;
      others = search rules;
      cause = search rules;
      works = search rules;
    }

pub returns-then-len-le1-clause-only : goal.returns-then-len-le1-clause-only
returns-then-len-le1-clause-only g c =
    let content : IfTold (g.D.Disk.state c.args.disk.now).history (λ file. c.in_ok-bytes.bytes.items ≡ file.content) =
    search rules in
    let brief : length c.in_ok-bytes.bytes.items ≤ 1 = search rules in
    record {
      any_moment =
          reads_like (g.D.Disk.state c.args.disk.now).history (g.D.Disk.state c.read_file.new.disk).history
          (g.D.Disk.state c.make_empty.new.disk).history (holds []) c.read_file.ensures.only.history
          (brief_reads (g.D.Disk.state c.args.disk.now).history c.in_ok-bytes.bytes.items content brief)
          c.make_empty.ensures.settles.any_moment;
      others = search rules;
      cause = search rules;
      works = search rules;
    }

pub returns-in_err-cut_tail-in-Whole-clause-only : goal.returns-in_err-cut_tail-in-Whole-clause-only
returns-in_err-cut_tail-in-Whole-clause-only g c =
    let content : IfTold (g.D.Disk.state c.args.disk.now).history (λ file. c.in_ok-bytes.bytes.items ≡ file.content) =
    search rules in
    let long : 1 < length c.in_ok-bytes.bytes.items = search rules in
    let ends : ClosesAfter (entries_in c.in-Whole.entries) c.in_ok-bytes.bytes.items = search rules in
    record {
      any_moment =
          reads_like (g.D.Disk.state c.args.disk.now).history (g.D.Disk.state c.read_file.new.disk).history
          (g.D.Disk.state c.cut_tail.new.disk).history (holds (entries_in c.in-Whole.entries))
          c.read_file.ensures.only.history
          (whole_reads (g.D.Disk.state c.args.disk.now).history c.in_ok-bytes.bytes.items
          (entries_in c.in-Whole.entries) content long ends) c.cut_tail.ensures.settles.any_moment;
      others = search rules;
      cause = search rules;
      works = search rules;
    }

pub returns-in_ok-cut_tail-in-Whole-clause-only : goal.returns-in_ok-cut_tail-in-Whole-clause-only
returns-in_ok-cut_tail-in-Whole-clause-only g c =
    let content : IfTold (g.D.Disk.state c.args.disk.now).history (λ file. c.in_ok-bytes.bytes.items ≡ file.content) =
    search rules in
    let long : 1 < length c.in_ok-bytes.bytes.items = search rules in
    let ends : ClosesAfter (entries_in c.in-Whole.entries) c.in_ok-bytes.bytes.items = search rules in
    record {
      any_moment =
          reads_like (g.D.Disk.state c.args.disk.now).history (g.D.Disk.state c.read_file.new.disk).history
          (g.D.Disk.state c.cut_tail.new.disk).history (holds (entries_in c.in-Whole.entries))
          c.read_file.ensures.only.history
          (whole_reads (g.D.Disk.state c.args.disk.now).history c.in_ok-bytes.bytes.items
          (entries_in c.in-Whole.entries) content long ends) c.cut_tail.ensures.settles.any_moment;
      others = search rules;
      cause = search rules;
      works = search rules;
    }

pub returns-then-len-le1-clause-loaded : goal.returns-then-len-le1-clause-loaded
returns-then-len-le1-clause-loaded g c =
    let content : IfTold (g.D.Disk.state c.args.disk.now).history (λ file. c.in_ok-bytes.bytes.items ≡ file.content) =
    search rules in
    let brief : length c.in_ok-bytes.bytes.items ≤ 1 = search rules in
    record {
      read = search rules;
      rests = search rules;
      file =
          brief_rests (g.D.Disk.state c.args.disk.now).history
          (g.D.Disk.state c.make_empty.new.disk).history c.in_ok-bytes.bytes.items content brief
          c.in_ok-make_empty.ensures.done.file;
    }

pub returns-in_ok-cut_tail-in-Whole-clause-loaded : goal.returns-in_ok-cut_tail-in-Whole-clause-loaded
returns-in_ok-cut_tail-in-Whole-clause-loaded g c =
    let bytes = c.in_ok-bytes.bytes.items in
    let new = (g.D.Disk.state c.cut_tail.new.disk).history in
    let end = length (frames (entries_in c.in-Whole.entries)) + 1 in
    let content : IfTold (g.D.Disk.state c.args.disk.now).history (λ file. bytes ≡ file.content) = search rules in
    let long : 1 < length bytes = search rules in
    let same : c.in-Whole.entries.bytes.items ≡ bytes = search rules in
    let ends : ClosesAfter (entries_in c.in-Whole.entries) bytes = search rules in
    record {
      read = search rules;
      rests = search rules;
      file =
          whole_rests (g.D.Disk.state c.args.disk.now).history new bytes (entries_in c.in-Whole.entries) content ends
          long
          (subst (λ (b : List ℕ). IfTold new (λ file. file ≡ settled (take end b))) same
          c.in_ok-cut_tail-in-Whole.ensures.done.file);
    }
