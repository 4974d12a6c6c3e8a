use Rattle.std.proofs.Common.{arith, ap, ◌∙◌}
use Rattle.iss_request.specs.Formats.{is_signature}
use Rattle.iss_request.proofs.FormatLemmas.{request_test}
use Rattle.iss_request.proofs.values.is_spellable.Goals as goal

pub returns-then-len : goal.returns-then-len
returns-then-len c = request_test c.args.request.now _ (omega arith) (omega arith) (c.has_shape.ensures
    ∙ ap is_signature c.as_slice.ensures)
