use Rattle.std.proofs.Common.{arith, ◌≡◌, ◌∙◌, ◌<◌, ◌≤◌, [], ℕ, length, Option, Some, None, Result, Ok, Err, ap, get_or, subst, sym}
use Rattle.std.specs.Prelude.{IsErrAnd}
use Rattle.iss_model.specs.Frames.{frame_of}
use Rattle.iss_node.proofs.Snapshots.NodeIsWoken.{all-next, all-read, first-bad}
use Rattle.iss_node.specs.Rebuilding.{IsFirstBad, IsOf, IsReadOn}
use Rattle.iss_node.specs.declared.rebuilding.RebuildError.{RebuildError}
use Rattle.iss_node.specs.declared.rebuilding.RebuildError.TheVariants.{BadEntry}
use Rattle.iss_rebuilt.specs.Reading.{Rebuilt, reads_entry, woken_of}
use Rattle.iss_request.specs.declared.ids.NodeId.{NodeId}
use Rattle.iss_request.specs.declared.setups.Setup.{Setup}
use Rattle.iss_node.proofs.node.Node.rebuild.Goals as goal

-- the exit of `?`, which returns the error
exit : {T U : Type 0} (r : Result T RebuildError) (d : RebuildError) (P : ℕ → Type 0) → IsErrAnd r (λ y. y ≡ d) →
    ((at : ℕ) → ◌≡◌ {A = Result U RebuildError} (Err d) (Err (BadEntry at)) → P at) → (at : ℕ) → r ≡ Err (BadEntry at) → P at
exit (Ok x) d P h bad at e = absurd h
exit (Err y) d P h bad at e =
    let same : y ≡ BadEntry at = cc in
    bad at (ap Err (sym h ∙ same))

pub returns-in_err-rebuilding-clause-bad : goal.returns-in_err-rebuilding-clause-bad
returns-in_err-rebuilding-clause-bad g c =
    let m = g.M.Sequenced.spec in
    let s = c.args.setup.now in
    let entries = c.args.entries.now in
    let i = c.loop-index.index in
    let v = c.loop-index.rebuilding.state in
    let h = c.loop-index.invariant in
    let lt : i < length entries = omega (arith, c.loop-index-test.true) in
    exit c.from_residual.result c.in_err-rebuilding.field-0.0 (λ k. IsFirstBad (frame_of s m) c.args.me.0 entries k) c.from_residual.ensures.1 (λ k is.
    let bad = c.in_err-rebuilding.ensures.bad k is in
    let none = subst (λ (x : Setup). reads_entry (frame_of x m) v.me.0 (Some h.read.0) (get_or entries i []) ≡ None) h.setup (bad.1 h.read.0 h.read.1.1) in
    let here = subst (λ (x : NodeId). reads_entry (frame_of s m) x.0 (Some h.read.0) (get_or entries i []) ≡ None) h.me none in
    subst (λ (k : ℕ). IsFirstBad (frame_of s m) c.args.me.0 entries k) (sym bad.0) (first-bad m g.M.Sequenced.refines (frame_of s m) c.args.me.0 entries i lt h.read.0 h.read.1.0 here))

pub loop-index-preserved : goal.loop-index-preserved
loop-index-preserved g c =
    let m = g.M.Sequenced.spec in
    let s = c.args.setup.now in
    let entries = c.args.entries.now in
    let i = c.loop-index.index in
    let v = c.loop-index.rebuilding.state in
    let w = c.in_ok-rebuilding.rebuilding in
    let h = c.loop-index.invariant in
    let lt : i < length entries = omega (arith, c.loop-index-test.true) in
    let read = subst (λ (x : Setup). IsReadOn m g.M.Sequenced.refines (reads_entry (frame_of x m) v.me.0 (Some h.read.0) (get_or entries i [])) (Some w)) h.setup (c.in_ok-rebuilding.ensures.next h.read.0 h.read.1.1) in
    let here = subst (λ (x : NodeId). IsReadOn m g.M.Sequenced.refines (reads_entry (frame_of s m) x.0 (Some h.read.0) (get_or entries i [])) (Some w)) h.me read in
    record {
      read = all-next m g.M.Sequenced.refines (frame_of s m) c.args.me.0 entries i lt h.read.0 h.read.1.0 w here;
      setup = c.in_ok-rebuilding.ensures.same.0 ∙ h.setup;
      me = c.in_ok-rebuilding.ensures.same.1 ∙ h.me;
    }

pub returns-in-Ok-finish-clause-rebuilt : goal.returns-in-Ok-finish-clause-rebuilt
returns-in-Ok-finish-clause-rebuilt g c =
    let m = g.M.Sequenced.spec in
    let s = c.args.setup.now in
    let entries = c.args.entries.now in
    let v = c.loop-index.rebuilding.state in
    let node = c.in-Ok-finish.node in
    let h = c.loop-index.invariant in
    let le : length entries ≤ c.loop-index.index = omega (arith, c.loop-index-test.false) in
    let woken = subst (λ (x : Setup). IsOf m g.M.Sequenced.refines (woken_of (frame_of x m) v.me.0 (Some h.read.0)) node) h.setup (c.in-Ok-finish.ensures.woken h.read.0 h.read.1.1) in
    let here = subst (λ (x : NodeId). IsOf m g.M.Sequenced.refines (woken_of (frame_of s m) x.0 (Some h.read.0)) node) h.me woken in
    subst (λ (o : Option (Rebuilt g.row.M-Msg.Denot)). IsOf m g.M.Sequenced.refines (woken_of (frame_of s m) c.args.me.0 o) node) (sym (all-read (frame_of s m) c.args.me.0 entries c.loop-index.index le h.read.0 h.read.1.0)) here
