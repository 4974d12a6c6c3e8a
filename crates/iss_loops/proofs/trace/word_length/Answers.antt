use Rattle.std.proofs.Common.{◌∙◌, ℕ, ap, sym, true≢false}
use Rattle.std.specs.Prelude.{◌==◌}
use Rattle.iss_loops.proofs.TraceLemmas.{word-length}
use Rattle.iss_loops.proofs.trace.word_length.Goals as goal

pub returns-clause-same : goal.returns-clause-same
returns-clause-same c =
    sym (word-length c.args.bytes.now (λ none. true≢false (sym (ap (λ (k : ℕ). k == 0) none) ∙ sym c.is_empty.ensures ∙ c.if-is_empty.false)))
