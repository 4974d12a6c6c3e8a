use Rattle.std.proofs.Common.{rules, ◌≡◌, ◌∙◌, false, true≢false, refl, sym}
use Rattle.iss_keep.specs.Entries.{spell_event}
use Rattle.iss_keep.specs.Internal.Keeping.{entry_made, released}
use Rattle.iss_keep.proofs.KeptLemmas.{right-entry, take-answers, take-kept, take-shows, take-stores}
use Rattle.iss_keep.proofs.StepLemmas.{never-stale}
use Rattle.iss_keep.proofs.kept.Kept.take.Goals as goal

pub invariant_of-self : goal.invariant_of-self
invariant_of-self g c =
    let fresh : c.self.inside.stale ≡ false = search rules in
    let made = c.journal_and_apply-kept.new.made in
    let done = c.journal_and_apply-kept.ensures in
    take-kept g.M.Sequenced.spec g.M.Sequenced.refines g.D.Disk.state c.self.inside.directory c.self.inside.journal _ c.self.invariant
    c.args.event c.journal_and_apply-kept.new.node done.same.0 done.same.1 fresh c.journal_and_apply-kept.new.journal
    (entry_made made (spell_event c.args.event)) c.makes_stale-self-inside.result (released made c.journal_and_apply-kept.result)
    c.makes_stale-self-inside.ensures done.stepped done.written.added done.written.file done.attached

pub returns-clause-answer : goal.returns-clause-answer
returns-clause-answer g c =
    let fresh : c.self.inside.stale ≡ false = search rules in
    let made = c.journal_and_apply-kept.new.made in
    let done = c.journal_and_apply-kept.ensures in
    rw c.release.ensures (rw (← c.self.view_is) (take-answers g.M.Sequenced.spec g.M.Sequenced.refines g.D.Disk.state c.self.inside.directory c.self.inside.journal _ c.self.invariant
    c.args.event c.journal_and_apply-kept.new.node done.same.0 done.same.1 fresh c.journal_and_apply-kept.new.journal
    (entry_made made (spell_event c.args.event)) c.makes_stale-self-inside.result (released made c.journal_and_apply-kept.result)
    c.makes_stale-self-inside.ensures done.stepped))

pub returns-clause-stored : goal.returns-clause-stored
returns-clause-stored g c =
    let fresh : c.self.inside.stale ≡ false = search rules in
    let made = c.journal_and_apply-kept.new.made in
    let done = c.journal_and_apply-kept.ensures in
    rw (← c.self.view_is) (take-stores g.M.Sequenced.spec g.M.Sequenced.refines g.D.Disk.state c.self.inside.directory c.self.inside.journal _ c.self.invariant
    c.args.event c.journal_and_apply-kept.new.node done.same.0 done.same.1 fresh c.journal_and_apply-kept.new.journal
    (entry_made made (spell_event c.args.event)) c.makes_stale-self-inside.result (released made c.journal_and_apply-kept.result)
    c.makes_stale-self-inside.ensures done.stepped done.written.added)

pub returns-clause-refused : goal.returns-clause-refused
returns-clause-refused g c =
    let fresh : c.self.inside.stale ≡ false = search rules in
    let done = c.journal_and_apply-kept.ensures in
    rw c.release.ensures (rw (← c.self.view_is) (
      (λ q. absurd (never-stale g.M.Sequenced.spec g.M.Sequenced.refines c.args.event _ _ _ _ done.stepped q)),
      (λ t. absurd (true≢false (sym t ∙ fresh))),
    ))

pub returns-clause-written : goal.returns-clause-written
returns-clause-written g c =
    let made = c.journal_and_apply-kept.new.made in
    let done = c.journal_and_apply-kept.ensures in
    rw c.release.ensures (rw (← c.self.view_is) (record {
      entry = entry_made made (spell_event c.args.event);
      written = done.written;
      right = λ on st for. right-entry g.M.Sequenced.spec g.M.Sequenced.refines g.D.Disk.state c.self.inside.directory c.self.inside.journal _ c.self.invariant
          c.args.event c.journal_and_apply-kept.new.node done.same.0 done.same.1 st for
          (entry_made made (spell_event c.args.event)) (released made c.journal_and_apply-kept.result) done.stepped on;
    }))

pub returns-clause-node : goal.returns-clause-node
returns-clause-node g c =
    let fresh : c.self.inside.stale ≡ false = search rules in
    let made = c.journal_and_apply-kept.new.made in
    let done = c.journal_and_apply-kept.ensures in
    rw (← c.self.view_is) (record {
      same = record { setup = refl; me = refl };
      shown = take-shows g.M.Sequenced.spec g.M.Sequenced.refines g.D.Disk.state c.self.inside.directory c.self.inside.journal _ c.self.invariant
          c.args.event c.journal_and_apply-kept.new.node done.same.0 done.same.1 fresh c.journal_and_apply-kept.new.journal
          (entry_made made (spell_event c.args.event)) c.makes_stale-self-inside.result (released made c.journal_and_apply-kept.result)
          c.makes_stale-self-inside.ensures done.stepped;
    })
