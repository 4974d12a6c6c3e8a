use Rattle.std.proofs.Common.{subst, sym}
use Rattle.iss_keep.proofs.KeptLemmas.{reopened-kept, reopened-stored}
use Rattle.iss_keep.proofs.WriteLemmas.{loses-none, no-error, refused}
use Rattle.iss_keep.specs.Internal.Replays.{IsOpened}
use Rattle.iss_node.specs.State.{NodeView}
use Rattle.iss_keep.proofs.kept.Kept.reopen.Goals as goal

pub invariant_of-self : goal.invariant_of-self
invariant_of-self g c =
    let h = subst (λ (v : NodeView g.row.M.Denot g.row.M-Msg.Denot). IsOpened g.D.Disk.state c.self.inside.setup g.M.Sequenced.spec g.M.Sequenced.refines c.self.inside.me
    c.self.inside.journal c.open.new.journal v) (sym c.put.ensures) c.in-Ok.ensures.opened in
    reopened-kept g.M.Sequenced.spec g.M.Sequenced.refines g.D.Disk.state c.self.inside.directory c.open.new.journal c.self.inside.setup c.self.inside.me
    c.put.new.place h.stay h.back.core h.back.same c.self.invariant.member h.is_attached h.attached.durable

pub open-requires : goal.open-requires
open-requires g c = record { member = c.self.invariant.member }

pub returns-in-Ok-clause-reopened : goal.returns-in-Ok-clause-reopened
returns-in-Ok-clause-reopened g c =
    let h = subst (λ (v : NodeView g.row.M.Denot g.row.M-Msg.Denot). IsOpened g.D.Disk.state c.self.inside.setup g.M.Sequenced.spec g.M.Sequenced.refines c.self.inside.me
    c.self.inside.journal c.open.new.journal v) (sym c.put.ensures) c.in-Ok.ensures.opened in
    rw (← c.self.view_is) (record {
      core = (
        h.back.core.0,
        h.back.core.2,
        reopened-stored g.M.Sequenced.spec g.M.Sequenced.refines g.D.Disk.state c.self.inside.directory c.open.new.journal c.self.inside.setup c.self.inside.me
            c.put.new.place h.stay h.back.core h.back.same,
      );
      attached = h.attached;
    })

pub returns-in-Ok-clause-loses : goal.returns-in-Ok-clause-loses
returns-in-Ok-clause-loses g c = rw (← c.self.view_is) (loses-none _ _ _ _ (no-error _ _) c.in-Ok.ensures.loses)

pub returns-in-Err-clause-refused : goal.returns-in-Err-clause-refused
returns-in-Err-clause-refused g c = λ at is.
    rw (← c.self.view_is) (refused g.D.Disk.state c.self.inside.setup g.M.Sequenced.spec g.M.Sequenced.refines c.self.inside.me c.self.inside.journal c.open.new.journal
    c.in-Err.error c.in-Err.ensures.opened at is)
