use Rattle.std.proofs.Common.{refl, ap, ◌∙◌}
use Rattle.iss_request.specs.Formats.{version_byte}
use Rattle.iss_request.proofs.FormatLemmas.{holds_written}
use Rattle.iss_request.proofs.values.write_batch_value.Goals as goal

pub returns : goal.returns
returns c = holds_written _ _ _ _ _ _ _ refl (c.version_byte-first.ensures
    ∙ ap version_byte c.version.ensures) c.in_ok-put_u8.ensures.ok c.write_batch.ensures
