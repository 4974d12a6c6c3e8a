use Rattle.std.proofs.Common.{◌≡◌, take}
use Rattle.iss_node.specs.Internal.Epochs.{notes}
use Rattle.iss_window.specs.Kept.{RefinesNoted}
use Rattle.iss_window.specs.Window.{Noted}
use Rattle.iss_node.proofs.epochs.note_all.Given as goal

abbrev pub invariant-loop-id : goal.invariant-loop-id
invariant-loop-id l = record {
  noted : (n : Noted) → RefinesNoted l.fn.windows n → RefinesNoted l.windows (notes n (take l.id-index l.ids));
  width : l.windows.width ≡ l.fn.windows.width;
}
