use Rattle.std.proofs.Common.{◌≡◌, ◌∙◌, [], ℕ, List, None, Some, Result, Err, subst}
use Rattle.std.proofs.lemmas.List.{get_or_default}
use Rattle.iss_model.specs.Frames.{frame_of}
use Rattle.iss_node.proofs.Snapshots.NodeIsWoken.{refused-none}
use Rattle.iss_node.specs.Rebuilding.{IsReadOn}
use Rattle.iss_node.specs.declared.rebuilding.RebuildError.{RebuildError}
use Rattle.iss_node.specs.declared.rebuilding.RebuildError.TheVariants.{BadEntry}
use Rattle.iss_rebuilt.specs.Reading.{reads_entry}
use Rattle.iss_node.proofs.rebuilding.read_at.Goals as goal

same-index : {A : Type 0} (i k : ℕ) → ◌≡◌ {A = Result A RebuildError} (Err (BadEntry i)) (Err (BadEntry k)) → k ≡ i
same-index i k h = cc

pub returns-in-Ok-Some-clause-next : goal.returns-in-Ok-Some-clause-next
returns-in-Ok-Some-clause-next g c = λ r h.
    let m = g.M.Sequenced.spec in
    let v = c.args.rebuilding in
    let read = rw c.in-Ok-Some.field-0-is at c.in-Ok-Some.ensures.read in
    let bytes = c.as_slice.ensures ∙ (c.index-entries-index.is ∙ get_or_default c.args.entries.now c.args.index c.index-entries-index.result [] c.requires) in
    subst (λ (b : List ℕ). IsReadOn m g.M.Sequenced.refines (reads_entry (frame_of v.state.setup m) v.state.me.0 (Some r) b) (Some c.in-Ok-Some.next)) bytes (read r h)

pub returns-in-Ok-None-clause-bad : goal.returns-in-Ok-None-clause-bad
returns-in-Ok-None-clause-bad g c = λ at is. (
  same-index c.args.index at is,
  λ r h.
      let m = g.M.Sequenced.spec in
      let v = c.args.rebuilding in
      let read = rw c.in-Ok-None.field-0-is at c.in-Ok-None.ensures.read in
      let bytes = c.as_slice.ensures ∙ (c.index-entries-index.is ∙ get_or_default c.args.entries.now c.args.index c.index-entries-index.result [] c.requires) in
      subst (λ (b : List ℕ). reads_entry (frame_of v.state.setup m) v.state.me.0 (Some r) b ≡ None) bytes
      (refused-none m g.M.Sequenced.refines (reads_entry (frame_of v.state.setup m) v.state.me.0 (Some r) c.as_slice.result.now) (read r h)),
)
