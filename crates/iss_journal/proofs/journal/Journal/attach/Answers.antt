use Rattle.std.proofs.Common.{rules, ◌≡◌, ◌∷◌, ◌∙◌, sym, List, Ok, Result, IsErrOf}
use Rattle.iss_disk.specs.File.{File, Image}
use Rattle.iss_journal.specs.declared.errors.AttachError.{AttachError}
use Rattle.iss_journal.specs.declared.errors.AttachError.TheVariants.{Damaged, Failed}
use Rattle.iss_journal.proofs.Attaching.{only_room, sync_failed, then_attached, then_damaged, then_loaded}
use Rattle.iss_journal.proofs.journal.Journal.attach.Goals as goal

no_error : let r : Result (Unit {0}) AttachError = Ok (tt {0}) in IsErrOf r Failed → ⊥
no_error is = cc

pub returns-in_err-reserve-clause-loses : goal.returns-in_err-reserve-clause-loses
returns-in_err-reserve-clause-loses g c =
    let d0 = c.self.inside.disk in
    let d1 = c.reserve.new.self in
    let never : IsErrOf c.from_residual.result Failed → ⊥ = search rules in
    rw (← c.self.view_is) (only_room (g.D.Disk.state d0) (g.D.Disk.state d1) (g.met.D.Disk.here d0)
    (g.met.D.Disk.here d1) c.reserve.ensures.only _ never)

pub returns-in_err-sync-clause-loses : goal.returns-in_err-sync-clause-loses
returns-in_err-sync-clause-loses g c =
    let d0 = c.self.inside.disk in
    let d1 = c.reserve.new.self in
    let read : (file : File) (past : List File) → (g.D.Disk.state d1).history ≡ file ∷ past → Image file file.content =
    λ file past is. g.met.D.Disk.read_is_image d1 (g.D.Disk.state d1).current.name file past
    (sym (g.met.D.Disk.here d1) ∙ is) in
    rw (← c.self.view_is) (sync_failed (g.D.Disk.state d0) (g.D.Disk.state d1) (g.met.D.Disk.here d0)
    (g.met.D.Disk.here d1) c.reserve.ensures.only (g.D.Disk.state c.sync.new.self) read _ _
    c.in_err-sync.ensures)

pub returns-in_err-all-clause-damaged : goal.returns-in_err-all-clause-damaged
returns-in_err-all-clause-damaged g c = λ at is.
    let d0 = c.self.inside.disk in
    let d1 = c.reserve.new.self in
    let damage : IsErrOf c.load.result (Damaged at) = search rules in
    rw (← c.self.view_is) (then_damaged (g.D.Disk.state d0) (g.D.Disk.state d1) (g.met.D.Disk.here d0)
    (g.met.D.Disk.here d1) c.reserve.ensures.only _ (g.D.Disk.state c.sync.new.self)
    (g.D.Disk.state c.load.new.disk) at c.in_ok-sync.ensures (c.load.ensures.damaged at damage))

pub returns-in_err-all-clause-loses : goal.returns-in_err-all-clause-loses
returns-in_err-all-clause-loses g c =
    let d0 = c.self.inside.disk in
    let d1 = c.reserve.new.self in
    let read : (file : File) (past : List File) → (g.D.Disk.state d1).history ≡ file ∷ past → Image file file.content =
    λ file past is. g.met.D.Disk.read_is_image d1 (g.D.Disk.state d1).current.name file past
    (sym (g.met.D.Disk.here d1) ∙ is) in
    let so : IsErrOf c.from_residual-in_err-all.result Failed → IsErrOf c.load.result Failed = search rules in
    rw (← c.self.view_is) (then_loaded (g.D.Disk.state d0) (g.D.Disk.state d1) (g.met.D.Disk.here d0)
    (g.met.D.Disk.here d1) c.reserve.ensures.only (g.D.Disk.state c.sync.new.self) read _
    (g.D.Disk.state c.load.new.disk) _ _ so c.in_ok-sync.ensures c.load.ensures.only)

pub returns-in_err-kept-clause-loses : goal.returns-in_err-kept-clause-loses
returns-in_err-kept-clause-loses g c =
    let d0 = c.self.inside.disk in
    let d1 = c.reserve.new.self in
    let read : (file : File) (past : List File) → (g.D.Disk.state d1).history ≡ file ∷ past → Image file file.content =
    λ file past is. g.met.D.Disk.read_is_image d1 (g.D.Disk.state d1).current.name file past
    (sym (g.met.D.Disk.here d1) ∙ is) in
    let so : IsErrOf c.from_residual-in_err-kept.result Failed → IsErrOf c.load.result Failed = search rules in
    rw (← c.self.view_is) (then_loaded (g.D.Disk.state d0) (g.D.Disk.state d1) (g.met.D.Disk.here d0)
    (g.met.D.Disk.here d1) c.reserve.ensures.only (g.D.Disk.state c.sync.new.self) read _
    (g.D.Disk.state c.load.new.disk) _ _ so c.in_ok-sync.ensures c.load.ensures.only)

pub returns-clause-ok : goal.returns-clause-ok
returns-clause-ok g c =
    let d0 = c.self.inside.disk in
    let d1 = c.reserve.new.self in
    rw (← c.self.view_is) (then_attached (g.D.Disk.state d0) (g.D.Disk.state d1) (g.met.D.Disk.here d0)
    (g.met.D.Disk.here d1) c.reserve.ensures.only _ (g.D.Disk.state c.sync.new.self)
    (g.D.Disk.state c.load.new.disk) c.in_ok-all.all c.in_ok-kept.kept c.in_ok-sync.ensures c.in_ok-all.ensures.loaded
    c.in_ok-kept.ensures)

pub returns-clause-loses : goal.returns-clause-loses
returns-clause-loses g c =
    let d0 = c.self.inside.disk in
    let d1 = c.reserve.new.self in
    let read : (file : File) (past : List File) → (g.D.Disk.state d1).history ≡ file ∷ past → Image file file.content =
    λ file past is. g.met.D.Disk.read_is_image d1 (g.D.Disk.state d1).current.name file past
    (sym (g.met.D.Disk.here d1) ∙ is) in
    rw (← c.self.view_is) (then_loaded (g.D.Disk.state d0) (g.D.Disk.state d1) (g.met.D.Disk.here d0)
    (g.met.D.Disk.here d1) c.reserve.ensures.only (g.D.Disk.state c.sync.new.self) read _
    (g.D.Disk.state c.load.new.disk) _ _ (λ is. absurd (no_error is)) c.in_ok-sync.ensures c.load.ensures.only)
