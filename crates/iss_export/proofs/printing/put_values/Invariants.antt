use Rattle.std.proofs.Common.{◌≡◌, ◌++◌, ℕ, List, reverse, take}
use Rattle.iss_export.specs.Certified.{HasPrinted, place_behind}
use Rattle.iss_replay.specs.Text.{slot_lines}
use Rattle.iss_request.specs.declared.requests.Value.{Value}
use Rattle.iss_export.proofs.printing.put_values.Given as goal

abbrev pub invariant-loop-value : goal.invariant-loop-value
invariant-loop-value l = (log : List Value) (text : List ℕ) → l.fn.start ≡ place_behind log → l.initial.out.items ≡ text ++ slot_lines (reverse log) →
    HasPrinted (log ++ take l.value-index l.values) text l.out.items l.place
