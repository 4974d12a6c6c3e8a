use Rattle.std.proofs.Common.{rules, ◌≡◌, ◌∙◌, true}
use Rattle.iss_journal.specs.Frames.{version_1}
use Rattle.iss_journal.specs.Sound.{IsAttached}
use Rattle.iss_keep.proofs.WriteLemmas.{loses-none, opened, read-stays, recovers-soundly, unopened}
use Rattle.iss_keep.proofs.reopening.open.Goals as goal

pub recover-requires-clause-stay : goal.recover-requires-clause-stay
recover-requires-clause-stay g c =
    let now = c.attach.new.self in
    let attached : IsAttached version_1 now.entries now.gates (g.D.Disk.state c.args.journal.now.disk).history (g.D.Disk.state now.disk).history = search rules in
    read-stays now.entries now.gates (g.D.Disk.state c.args.journal.now.disk).history attached.read

pub returns-in-Ok-clause-opened : goal.returns-in-Ok-clause-opened
returns-in-Ok-clause-opened g c =
    let now = c.attach.new.self in
    let attached : IsAttached version_1 now.entries now.gates (g.D.Disk.state c.args.journal.now.disk).history (g.D.Disk.state now.disk).history = search rules in
    let on : now.attached ≡ true = search rules in
    opened g.D.Disk.state c.args.setup.now g.M.Sequenced.spec g.M.Sequenced.refines c.args.me c.args.journal.now now attached on c.recover.result c.recover.ensures

pub returns-in-Ok-clause-loses : goal.returns-in-Ok-clause-loses
returns-in-Ok-clause-loses g c =
    loses-none _ _ _ _ (recovers-soundly c.args.setup.now g.M.Sequenced.spec c.args.me.0 c.attach.new.self _ c.recover.result c.recover.ensures) c.attach.ensures.loses

pub returns-in-Err-clause-opened : goal.returns-in-Err-clause-opened
returns-in-Err-clause-opened g c =
    unopened g.D.Disk.state c.args.setup.now g.M.Sequenced.spec g.M.Sequenced.refines c.args.me c.args.journal.now c.attach.new.self c.in-Err.error
    (λ at is. c.attach.ensures.damaged at (c.in-Err.is ∙ is))
