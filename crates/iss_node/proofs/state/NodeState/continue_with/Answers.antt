use Rattle.std.proofs.Common.{◌∙◌, ℕ, List, ap, subst, sym}
use Rattle.iss_checkpoint.specs.declared.votes.Cert.{Cert}
use Rattle.iss_node.proofs.Snapshots.SnapshotContinues.{not-continued, read-result, resumed-on, resumed-refused}
use Rattle.iss_node.specs.Internal.Rebuilding.{HasBegun, IsReadAs, continues, kept_early}
use Rattle.iss_node.specs.Rebuilding.{HasRead}
use Rattle.iss_node.specs.Saved.{HasSaved}
use Rattle.iss_node.specs.State.{StateView}
use Rattle.iss_node.specs.Steps.{IsSameNode}
use Rattle.iss_model.specs.Frames.{frame_of}
use Rattle.iss_rebuilt.specs.Reading.{Rebuilt, early_each, reads_snapshot}
use Rattle.iss_rebuilt.specs.Stored.{Saved}
use Rattle.iss_node.proofs.state.NodeState.continue_with.Goals as goal

pub returns-then-not-continues-clause-read : goal.returns-then-not-continues-clause-read
returns-then-not-continues-clause-read g c = λ r h.
    not-continued g.M.Sequenced.spec g.M.Sequenced.refines (frame_of c.args.self.now.setup g.M.Sequenced.spec) c.args.self.now.me.0 r c.args.snapshot c.args.self.now
    (sym (c.if-not-continues.ensures ∙ ap (λ (x : Saved). continues (frame_of c.args.self.now.setup g.M.Sequenced.spec) x c.args.snapshot) h.saved))

pub returns-then-not-full-clause-read : goal.returns-then-not-full-clause-read
returns-then-not-full-clause-read g c = λ r h.
    let m = g.M.Sequenced.spec in
    let v = c.args.self.now in
    let s = c.args.snapshot in
    let old = c.note.new.self in
    let b = c.begin_anew.new.self in
    let noted : HasSaved v.saved s.to.0 s.certs old =
    subst (λ (certs : List Cert). HasSaved v.saved s.to.0 certs old) c.as_slice.ensures
    (subst (λ (z : StateView g.row.M.Denot g.row.M-Msg.Denot). HasSaved z.saved s.to.0 c.as_slice.result.now old) c.self.view_is c.in_ok-note.ensures) in
    let begun = subst (λ (z : StateView g.row.M.Denot g.row.M-Msg.Denot). HasBegun s.leaf s.certs (record z { saved = old }) b) c.self.view_is c.in_ok-begin_anew.ensures.begun in
    let same = subst (λ (z : StateView g.row.M.Denot g.row.M-Msg.Denot). IsSameNode (record z { saved = old }) b) c.self.view_is c.begin_anew.ensures.same in
    resumed-refused m g.M.Sequenced.refines v b c.adopt_epochs.new.self c.refill.new.self s c.requires old noted begun same c.in_ok-adopt_epochs.ensures.adopted c.adopt_epochs.ensures.later c.in_ok-full.full c.in_ok-full.ensures.taken c.refill.ensures.same c.if-not-continues.ensures r h c.if-not-full.true

pub returns-clause-read : goal.returns-clause-read
returns-clause-read g c =
    let m = g.M.Sequenced.spec in
    let v = c.args.self.now in
    let s = c.args.snapshot in
    let old = c.note.new.self in
    let b = c.begin_anew.new.self in
    let noted : HasSaved v.saved s.to.0 s.certs old =
    subst (λ (certs : List Cert). HasSaved v.saved s.to.0 certs old) c.as_slice.ensures
    (subst (λ (z : StateView g.row.M.Denot g.row.M-Msg.Denot). HasSaved z.saved s.to.0 c.as_slice.result.now old) c.self.view_is c.in_ok-note.ensures) in
    let begun = subst (λ (z : StateView g.row.M.Denot g.row.M-Msg.Denot). HasBegun s.leaf s.certs (record z { saved = old }) b) c.self.view_is c.in_ok-begin_anew.ensures.begun in
    let same = subst (λ (z : StateView g.row.M.Denot g.row.M-Msg.Denot). IsSameNode (record z { saved = old }) b) c.self.view_is c.begin_anew.ensures.same in
    let w = c.refill.new.self in
    read-result (λ a. a.items) c.messages_in.result (kept_early (early_each (frame_of w.setup m) w.epoch c.as_slice-2.result.now)) w.setup.n
    (λ early. (r : Rebuilt g.row.M-Msg.Denot) → HasRead m g.M.Sequenced.refines v r → IsReadAs m g.M.Sequenced.refines (reads_snapshot (frame_of v.setup m) v.me.0 r s) w early)
    c.messages_in.ensures.read c.messages_in.ensures.from
    (λ early kept from r h.
    resumed-on m g.M.Sequenced.refines v b c.adopt_epochs.new.self c.refill.new.self s c.requires old noted begun same c.in_ok-adopt_epochs.ensures.adopted c.adopt_epochs.ensures.later c.in_ok-full.full c.in_ok-full.ensures.taken c.refill.ensures.same c.if-not-continues.ensures r h c.if-not-full.false early
    (kept ∙ ap (λ (xs : List (List ℕ)). kept_early (early_each (frame_of w.setup m) w.epoch xs)) c.as_slice-2.ensures) from)
