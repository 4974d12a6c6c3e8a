use Rattle.std.proofs.Common.{◌∙◌, ◌<◌, length, sym, subst, take, arith}
use Rattle.iss_node.proofs.EpochEnd.EpochEndRefines.{notes-next}
use Rattle.iss_node.specs.Internal.Epochs.{notes}
use Rattle.iss_window.specs.Kept.{RefinesNoted}
use Rattle.iss_window.specs.Window.{Noted}
use Rattle.iss_node.proofs.epochs.note_all.Goals as goal

pub loop-id-preserved : goal.loop-id-preserved
loop-id-preserved c =
    let i = c.loop-id.id-index in
    let xs = c.args.ids.now in
    let lt : i < length xs = omega (arith, c.loop-id-test.true) in
    record {
      noted = λ n h. subst (λ (k : Noted). RefinesNoted c.note.new.self k) (sym (notes-next n xs i (record { client = 0; number = 0 }) lt)) (c.in_ok-note.ensures.ok (notes n (take i xs)) (c.loop-id.invariant.noted n h));
      width = c.in_ok-note.ensures.width ∙ c.loop-id.invariant.width;
    }
